-- Results of requests and starts, the mode, and what may start.
use Rattle.std.proofs.Common.{◌≡◌, ◌≢◌, ℕ, zero, suc, ◌+◌, ◌<◌, Bool, true, false, cond, List, [], ◌∷◌, length, slice_index_or, Option, Some, None, refl, sym, ◌∙◌, ap, subst, arith, ◌⊎◌, inl, inr}
use Rattle.std.specs.List.{list_all}
use Rattle.std.specs.Prelude.{Contains, filter, is_some, if◌then◌else◌}
use Rattle.mcal_base.specs.facts.Options.{some_is}
use Rattle.mcal_base.specs.facts.Numbers.{same_or_other}
use Rattle.mcal_base.specs.declared.answer.Answer.{Answer}
use Rattle.mcal_base.specs.declared.answer.Head.TheVariants.{Name}
use Rattle.mcal_base.specs.declared.answer_name.AnswerName.{AnswerName}
use Rattle.mcal_base.specs.declared.answer_name.AnswerName.TheVariants.{EOk, ENotOk, SpiJobOk, SpiJobQueued, SpiJobPending}
use Rattle.mcal_base.specs.declared.error_name.ErrorName.{ErrorName}
use Rattle.mcal_base.specs.declared.moves.Unit as units
use Rattle.run_model.specs.Machine.{Acts, Serves, Starts, Outcome, named}
use Rattle.run_model.specs.World.{World}
use Rattle.spi_machine.proofs.Numbers.{item-same, item-other}
use Rattle.spi_machine.proofs.Runs.{serve_by, one_more}
use Rattle.spi_machine.proofs.Sending.{plain-start}
use Rattle.spi_machine.specs.Checks.{error_by}
use Rattle.spi_machine.specs.Machine.{spi_machine, acts_by, unless_busy, finds_held, served_by, served, unit_of, run_of, ready, started, start_by, next_by, next_at, number_of}
use Rattle.spi_machine.specs.Numbered.{with_item}
use Rattle.spi_machine.specs.Pending.{Pending, is_for, best, next_on, all_get, job_result, next_job}
use Rattle.spi_machine.specs.Runs.{Occurrence, after_all}
use Rattle.spi_machine.specs.State.{SpiState, Polling, mode_of, is_busy, is_off, run_at}
use Rattle.spi_machine.specs.Table.{jobs_of, is_sync_unit}
use Rattle.spi_machine.specs.Transfers.{Run, goes_on, begun, received_with}
use Rattle.spi_machine.specs.declared.call.AsyncMode.{AsyncMode}
use Rattle.spi_machine.specs.declared.call.Call.{Call}
use Rattle.spi_machine.specs.declared.call.Call.TheVariants.{Init, Sequence, SetAsyncMode}
use Rattle.spi_machine.specs.declared.call.SequenceCall.TheVariants.{AsyncTransmit}
use Rattle.spi_machine.specs.declared.table.SpiTable.{SpiTable}
use Rattle.machine_laws.specs.serial.Buffers.{leaves_mode}
use Rattle.machine_laws.proofs.Keeping.{mode_all}

-- ---- results

keeps_result : (x : AnswerName) (js : List ℕ) (rs : List AnswerName) (j : ℕ) → job_result rs j ≡ x → job_result (all_get x js rs) j ≡ x
keeps_result x [] rs j e = e
keeps_result x (k ∷ js) rs j e = keeps_result x js (with_item SpiJobOk rs k x) j (by_job (same_or_other j k)) where
  by_job : (j ≡ k) ⊎ (j ≢ k) → job_result (with_item SpiJobOk rs k x) j ≡ x
  by_job (inl at) = ap (λ i. job_result (with_item SpiJobOk rs k x) i) at ∙ item-same SpiJobOk rs k x
  by_job (inr ne) = item-other SpiJobOk rs k j x ne ∙ e

gets_result : (x : AnswerName) (js : List ℕ) (rs : List AnswerName) (i j : ℕ) → i < length js → slice_index_or js i j ≡ j → job_result (all_get x js rs) j ≡ x
gets_result x [] rs i j lt at = absurd (omega (arith, lt))
gets_result x (k ∷ js) rs zero j lt at =
    keeps_result x js (with_item SpiJobOk rs k x) j (ap (λ i. job_result (with_item SpiJobOk rs k x) i) (sym at) ∙ item-same SpiJobOk rs k x)
gets_result x (k ∷ js) rs (suc i) j lt at = gets_result x js (with_item SpiJobOk rs k x) i j (omega (arith, lt)) at

queued_by : (d : SpiTable) (s : SpiState) (q j : ℕ) (e : Option ErrorName) → (acts_by d s (Sequence q AsyncTransmit) e).told.error ≡ None → Contains (jobs_of d q) j → job_result (acts_by d s (Sequence q AsyncTransmit) e).state.job_results j ≡ SpiJobQueued
queued_by d s q j (Some e) told has = absurd (cc told)
queued_by d s q j None told has = gets_result SpiJobQueued (jobs_of d q) s.job_results has.0 j has.1 has.2

pub queued : (d : SpiTable) (w : World) (s : SpiState) (q j : ℕ) (times : ℕ → ℕ) (out : Outcome SpiState) → (spi_machine d).happens w s (Acts (Sequence q AsyncTransmit) times) ≡ Some out → out.told.error ≡ None
    → Contains (jobs_of d q) j → job_result out.state.job_results j ≡ SpiJobQueued
queued d w s q j times out made told has =
    subst (λ (x : Outcome SpiState). x.told.error ≡ None → job_result x.state.job_results j ≡ SpiJobQueued) (some_is _ out made)
    (λ quiet. queued_by d s q j (error_by d (Sequence q AsyncTransmit) (is_off s.mode) (finds_held d s (Sequence q AsyncTransmit))) quiet has) told

pending_by : (d : SpiTable) (w : World) (s : SpiState) (k : Option ℕ) (received u : ℕ) (p : Pending) (out : Outcome SpiState) → start_by d w s k received (next_at d s k) ≡ Some out → k ≡ Some u → next_at d s (Some u) ≡ Some p
    → job_result out.state.job_results (next_job d p) ≡ SpiJobPending
pending_by d w s k received u p out made on is =
    let made_so : start_by d w s (Some u) received (Some p) ≡ Some out = ap (λ o. start_by d w s (Some u) received o) (sym is) ∙ (ap (λ i. start_by d w s i received (next_at d s i)) (sym on) ∙ made) in
    ap (λ (x : Outcome SpiState). job_result x.state.job_results (next_job d p)) (sym (some_is (started d w s u received p) out made_so))
    ∙ item-same SpiJobOk s.job_results (next_job d p) SpiJobPending

pub started_job : (d : SpiTable) (w : World) (s : SpiState) (unit : units.Unit) (made_by : Option Call) (received : ℕ) (out : Outcome SpiState) (u : ℕ) (p : Pending)
    → (spi_machine d).happens w s (Starts unit made_by received) ≡ Some out → number_of unit ≡ Some u → is_sync_unit d u ≡ false → next_at d s (Some u) ≡ Some p → job_result out.state.job_results (next_job d p) ≡ SpiJobPending
started_job d w s unit made_by received out u p made on plain is = pending_by d w s (number_of unit) received u p out (plain-start d w s (number_of unit) made_by received out u made on plain) on is

-- ---- the mode

not_refused : (a : Answer) → a ≡ named ENotOk → a ≡ named EOk → ⊥
not_refused a e f = let heads : Name ENotOk ≡ Name EOk = ap (λ (x : Answer). x.head) (sym e ∙ f) in absurd (cc heads)

set_by : (b : Bool) (s : SpiState) (m : AsyncMode) → (unless_busy b s (record s { mode = mode_of m })).told.answer ≡ named EOk → (unless_busy b s (record s { mode = mode_of m })).state.mode ≡ mode_of m
set_by true s m e = absurd (not_refused _ refl e)
set_by false s m e = refl

mode_by : (d : SpiTable) (s : SpiState) (m : AsyncMode) (e : Option ErrorName) → (acts_by d s (SetAsyncMode m) e).told.error ≡ None → (acts_by d s (SetAsyncMode m) e).told.answer ≡ named EOk → (acts_by d s (SetAsyncMode m) e).state.mode ≡ mode_of m
mode_by d s m (Some e) told answer = absurd (cc told)
mode_by d s m None told answer = set_by (is_busy s) s m answer

pub mode_since : (d : SpiTable) (w : World) (s : SpiState) (m : AsyncMode) (times : ℕ → ℕ) (out : Outcome SpiState) (xs : List Occurrence) → (spi_machine d).happens w s (Acts (SetAsyncMode m) times) ≡ Some out
    → out.told.error ≡ None → out.told.answer ≡ named EOk → list_all (λ (x : Occurrence). leaves_mode x.what) xs ≡ true → (after_all d out.state xs).mode ≡ mode_of m
mode_since d w s m times out xs made told answer left =
    mode_all d out.state xs left
    ∙ subst (λ (x : Outcome SpiState). x.told.error ≡ None → x.told.answer ≡ named EOk → x.state.mode ≡ mode_of m) (some_is _ out made)
    (λ quiet ok. mode_by d s m (error_by d (SetAsyncMode m) (is_off s.mode) false) quiet ok) told answer

first_by : (d : SpiTable) (s : SpiState) (e : Option ErrorName) → (acts_by d s Init e).told.error ≡ None → (acts_by d s Init e).state.mode ≡ Polling
first_by d s (Some e) told = absurd (cc told)
first_by d s None told = refl

pub mode_since_init : (d : SpiTable) (w : World) (s : SpiState) (times : ℕ → ℕ) (out : Outcome SpiState) (xs : List Occurrence) → (spi_machine d).happens w s (Acts Init times) ≡ Some out
    → out.told.error ≡ None → list_all (λ (x : Occurrence). leaves_mode x.what) xs ≡ true → (after_all d out.state xs).mode ≡ Polling
mode_since_init d w s times out xs made told left =
    mode_all d out.state xs left
    ∙ subst (λ (x : Outcome SpiState). x.told.error ≡ None → x.state.mode ≡ Polling) (some_is _ out made) (λ quiet. first_by d s (error_by d Init (is_off s.mode) false) quiet) told

-- ---- what may start

some_best : (d : SpiTable) (u : ℕ) (ps : List Pending) (i : ℕ) (p : Pending) → i < length ps → slice_index_or ps i p ≡ p → is_for d u p ≡ true → is_some (next_on d u ps) ≡ true
some_best d u [] i p lt at on = absurd (omega (arith, lt))
some_best d u (x ∷ ps) i p lt at on = by (is_for d u x) refl i lt at (λ k few there. some_best d u ps k p few there on) where
  by : (b : Bool) → is_for d u x ≡ b → (i : ℕ) → i < length (x ∷ ps) → slice_index_or (x ∷ ps) i p ≡ p → ((k : ℕ) → k < length ps → slice_index_or ps k p ≡ p → is_some (next_on d u ps) ≡ true)
      → is_some (best d (cond b (x ∷ filter (is_for d u) ps) (filter (is_for d u) ps))) ≡ true
  by true e i lt at more = refl
  by false e zero lt at more = absurd (cc (sym e ∙ (ap (λ (y : Pending). is_for d u y) at ∙ on)))
  by false e (suc i) lt at more = more i (omega (arith, lt)) at

pub can_start : (d : SpiTable) (w : World) (s : SpiState) (unit : units.Unit) (u : ℕ) (p : Pending) → is_off s.mode ≡ false → number_of unit ≡ Some u → run_at s u ≡ None → Contains s.pending p → is_for d u p ≡ true
    → (spi_machine d).startable w s unit ≡ true
can_start d w s unit u p on is free has for =
    ap (λ k. is_some (next_at d s k)) is
    ∙ (ap (λ b. is_some (if b then None else next_by d s u (run_at s u))) on
    ∙ (ap (λ o. is_some (next_by d s u o)) free
    ∙ some_best d u s.pending has.0 p has.1 has.2 for))

-- ---- the next word

next_word : (d : SpiTable) (w : World) (s : SpiState) (u received : ℕ) (r : Run) (b : Bool) → b ≡ true → run_at (served_by d w s u received r b).state u ≡ Some (begun w.now received r.sequence r.words (received_with r))
next_word d w s u received r false e = absurd (cc e)
next_word d w s u received r true e = item-same None _ u _

pub goes_to_next_word : (d : SpiTable) (w : World) (s : SpiState) (line received : ℕ) (out : Outcome SpiState) (u : ℕ) (r : Run) → (spi_machine d).happens w s (Serves line received) ≡ Some out → unit_of line ≡ Some u
    → run_at s u ≡ Some r → goes_on r ≡ true → run_at out.state u ≡ Some (begun w.now received r.sequence r.words (received_with r))
goes_to_next_word d w s line received out u r made on runs goes =
    ap (λ (x : Outcome SpiState). run_at x.state u) (sym (serve_by (ready w s line) (served d w s (unit_of line) received (run_of s (unit_of line))) out made))
    ∙ (ap (λ k. run_at (served d w s k received (run_of s k)).state u) on
    ∙ (ap (λ o. run_at (served d w s (Some u) received o).state u) runs ∙ next_word d w s u received r (goes_on r) goes))

pub one_word_more : (d : SpiTable) (w : World) (s : SpiState) (line received : ℕ) (out : Outcome SpiState) (u : ℕ) (r after : Run) → (spi_machine d).happens w s (Serves line received) ≡ Some out → unit_of line ≡ Some u
    → run_at s u ≡ Some r → goes_on r ≡ true → run_at out.state u ≡ Some after → length after.received ≡ length r.received + 1
one_word_more d w s line received out u r after made on runs goes is =
    let same = some_is _ after (sym (goes_to_next_word d w s line received out u r made on runs goes) ∙ is) in
    ap (λ (x : Run). length x.received) (sym same) ∙ one_more (length r.received) r.received r.transfer.incoming refl
