-- What becomes of a pending sequence, happening by happening.
use Rattle.std.proofs.Common.{◌≡◌, ◌≢◌, ℕ, ◌+◌, ◌==◌, Bool, true, false, not, ◌||◌, List, [], ◌∷◌, Option, Some, None, refl, sym, ◌∙◌, ap, subst, ◌⊎◌, inl, inr}
use Rattle.std.specs.Prelude.{find, is_some}
use Rattle.mcal_base.specs.facts.Options.{some_is}
use Rattle.mcal_base.specs.facts.Numbers.{eq_is, same_or_other}
use Rattle.mcal_base.specs.declared.answer_name.AnswerName.{AnswerName}
use Rattle.mcal_base.specs.declared.answer_name.AnswerName.TheVariants.{SpiJobOk, SpiSeqOk, SpiSeqPending, SpiSeqFailed, SpiSeqCanceled}
use Rattle.mcal_base.specs.declared.directive.Order.{Order}
use Rattle.mcal_base.specs.declared.directive.Order.TheVariants.{Fill, SpiFault}
use Rattle.mcal_base.specs.declared.error_name.ErrorName.{ErrorName}
use Rattle.mcal_base.specs.declared.moves.Unit as units
use Rattle.mcal_base.specs.declared.service.Service.TheVariants as services
use Rattle.mcal_base.specs.det_errors.Rows.{first_error}
use Rattle.run_model.specs.Machine.{Happening, Acts, Serves, Starts, Aborts, Moves, Restarts, Outcome, tells_nothing, outcome}
use Rattle.run_model.specs.World.{World}
use Rattle.spi_machine.proofs.Numbers.{item-same, item-other}
use Rattle.spi_machine.proofs.Runs.{stored-seen, after_last-seen, serve_by}
use Rattle.spi_machine.proofs.Sending.{EndsSending, act-either, start-either, plain-start, carried-right}
use Rattle.spi_machine.proofs.SequenceChanges.{found}
use Rattle.spi_machine.specs.Checks.{error_by}
use Rattle.spi_machine.specs.Machine.{spi_machine, acts, acts_by, sent, sent_on, carries_job, sequence_begun, as_requested, sequence_result_by, work, unless_busy, cancelled, cancelled_by, finds_held, accepted, ended, after_last, sequence_after, job_over, result_by, pending_of, served_by, served, unit_of, run_of, ready, started, start_by, next_at, number_of, moved}
use Rattle.spi_machine.specs.Pending.{Pending, is_of, is_pending, changed, without, starts, goes_to_next, cancels, is_held, shares_job, next_job, end_by, has_further, sequence_result}
use Rattle.spi_machine.specs.Promised.{drops}
use Rattle.spi_machine.specs.State.{SpiState, Carrying, Off, mode_of, is_busy, is_off, is_running, run_at, with_run}
use Rattle.spi_machine.specs.Numbered.{with_item}
use Rattle.spi_machine.specs.Table.{sequence_of, is_sync_unit}
use Rattle.spi_machine.specs.Wiring.{unit_of_sequence, is_sync_sequence}
use Rattle.spi_machine.specs.Transfers.{Run, goes_on, word_of}
use Rattle.spi_machine.specs.declared.call.Call.{Call}
use Rattle.spi_machine.specs.declared.call.Call.TheVariants.{Init, DeInit, SetAsyncMode, MainFunctionHandling, Channel, Sequence, Get}
use Rattle.spi_machine.specs.declared.call.ChannelCall.TheVariants.{WriteIb, ReadIb, SetupEb}
use Rattle.spi_machine.specs.declared.call.SequenceCall.TheVariants.{AsyncTransmit, Cancel, SyncTransmit}
use Rattle.spi_machine.specs.declared.table.SpiTable.{SpiTable}
use Rattle.machine_laws.specs.serial.Ends.{Sequel, IsLeft, Starting, GoingOn, BeingCancelled, EndsAtOnce, EndsCancelled, EndsFailed, EndsOk, EndsWith}
use Rattle.machine_laws.proofs.Entries.{find-changed_own, find-changed_other, find-without_own, find-without_other, find-joined}

-- ---- a request meets no pending sequence

not_held_by : (a b c : Bool) → ((a || b) || c) ≡ false → (a ≡ false) × (c ≡ false)
not_held_by true b c h = absurd (cc h)
not_held_by false true c h = absurd (cc h)
not_held_by false false c h = (refl, h)

not_held : (d : SpiTable) (k : ℕ) (ps : List Pending) → is_held d k ps ≡ false → is_pending k ps ≡ false
not_held d k [] h = refl
not_held d k (p ∷ ps) h =
    let parts = not_held_by (p.sequence == k) (shares_job d k p.sequence) (is_held d k ps) h in
    rw parts.0 (not_held d k ps parts.1)

no_error : (a b e c : Bool) → first_error services.SpiAsyncTransmit (a ∷ (b || e) ∷ c ∷ false ∷ false ∷ false ∷ []) ≡ None → c ≡ false
no_error true b e c h = absurd (cc h)
no_error false true e c h = absurd (cc h)
no_error false false true c h = absurd (cc h)
no_error false false false true h = absurd (cc h)
no_error false false false false h = refl

-- ---- what comes of it

-- what is found of a sequence in a state, and its result there
abbrev pub Comes : SpiTable → SpiState → ℕ → Pending → Happening Call → SpiState → Type 0
Comes d s q p h after = Sequel d s q p h (find (is_of q) after.pending) (sequence_result after.sequence_results q)

comes : (d : SpiTable) (s : SpiState) (q : ℕ) (p : Pending) (h : Happening Call) (after : SpiState) (o : Option Pending) (r : AnswerName)
    → find (is_of q) after.pending ≡ o → sequence_result after.sequence_results q ≡ r → Sequel d s q p h o r → Comes d s q p h after
comes d s q p h after o r e f x =
    subst (λ i. Sequel d s q p h i (sequence_result after.sequence_results q)) (sym e) (subst (λ i. Sequel d s q p h o i) (sym f) x)

module _ (d : SpiTable) (s : SpiState) (q : ℕ) (p : Pending) (there : find (is_of q) s.pending ≡ Some p) where
  -- it is as it was
  left : (h : Happening Call) (after : SpiState) → find (is_of q) after.pending ≡ find (is_of q) s.pending → sequence_result after.sequence_results q ≡ sequence_result s.sequence_results q
      → Comes d s q p h after
  left h after e f = comes d s q p h after (Some p) (sequence_result s.sequence_results q) (e ∙ there) f IsLeft

  -- ---- its running job ends

  module _ (line received : ℕ) (r : Run) (own : EndsWith s q line r) (t : SpiState) (same : t.pending ≡ s.pending) (results : t.sequence_results ≡ s.sequence_results) where
    serve : Happening Call
    serve = Serves line received

    found_here : find (is_of q) t.pending ≡ Some p
    found_here = ap (λ ps. find (is_of q) ps) same ∙ there

    its_number : p.sequence ≡ q
    its_number = (found q p s.pending there).0

    gone : find (is_of q) (without p.sequence t.pending) ≡ None
    gone = ap (λ k. find (is_of q) (without k t.pending)) its_number ∙ find-without_own q t.pending

    result_is : (x : AnswerName) → sequence_result (ended d t p (p.next + 1) x).sequence_results q ≡ x
    result_is x = ap (λ k. sequence_result (ended d t p (p.next + 1) x).sequence_results k) (sym its_number) ∙ item-same SpiSeqOk t.sequence_results p.sequence x

    pub job_ends : (cancelled failed further : Bool) → p.cancelled ≡ cancelled → r.transfer.failed ≡ failed → has_further d p ≡ further
        → Comes d s q p (Serves line received) (sequence_after d t p (end_by cancelled failed further)).state
    job_ends true failed further a b c =
        comes d s q p (Serves line received) (ended d t p (p.next + 1) SpiSeqCanceled) None SpiSeqCanceled gone (result_is SpiSeqCanceled) (EndsCancelled line received r own a)
    job_ends false true further a b c =
        comes d s q p (Serves line received) (ended d t p (p.next + 1) SpiSeqFailed) None SpiSeqFailed gone (result_is SpiSeqFailed) (EndsFailed line received r own a b)
    job_ends false false false a b c =
        comes d s q p (Serves line received) (ended d t p (p.next + 1) SpiSeqOk) None SpiSeqOk gone (result_is SpiSeqOk) (EndsOk line received r own a b c)
    job_ends false false true a b c =
        comes d s q p (Serves line received) (record t { pending = changed p.sequence goes_to_next t.pending }) (Some (goes_to_next p)) (sequence_result s.sequence_results q)
        (ap (λ k. find (is_of q) (changed k goes_to_next t.pending)) its_number ∙ find-changed_own q goes_to_next (λ x. refl) t.pending p found_here)
        (ap (λ rs. sequence_result rs q) results) (GoingOn line received r own a b c)

  -- ---- another one's job ends

  other_over : (h : Happening Call) (t : SpiState) (x : Pending) (e : Option AnswerName) → q ≢ x.sequence → t.pending ≡ s.pending → t.sequence_results ≡ s.sequence_results
      → Comes d s q p h (sequence_after d t x e).state
  other_over h t x None ne same results =
      left h (record t { pending = changed x.sequence goes_to_next t.pending })
      (find-changed_other q x.sequence goes_to_next (λ y. refl) ne t.pending ∙ ap (λ ps. find (is_of q) ps) same) (ap (λ rs. sequence_result rs q) results)
  other_over h t x (Some result) ne same results =
      left h (ended d t x (x.next + 1) result)
      (find-without_other q x.sequence ne t.pending ∙ ap (λ ps. find (is_of q) ps) same)
      (item-other SpiSeqOk t.sequence_results x.sequence q result ne ∙ ap (λ rs. sequence_result rs q) results)

  over : (line received u : ℕ) (r : Run) (t : SpiState) (o : Option Pending) → unit_of line ≡ Some u → run_at s u ≡ Some r → goes_on r ≡ false → find (is_of r.sequence) s.pending ≡ o
      → t.pending ≡ s.pending → t.sequence_results ≡ s.sequence_results → Comes d s q p (Serves line received) (job_over d t u r.transfer.failed o).state
  over line received u r t None on runs last e same results = left (Serves line received) (job_over d t u r.transfer.failed None).state (ap (λ ps. find (is_of q) ps) same) (ap (λ rs. sequence_result rs q) results)
  over line received u r t (Some x) on runs last e same results = by_number (same_or_other r.sequence q) where
    is : x.sequence ≡ r.sequence
    is = (found r.sequence x s.pending e).0

    by_number : (r.sequence ≡ q) ⊎ (r.sequence ≢ q) → Comes d s q p (Serves line received) (job_over d t u r.transfer.failed (Some x)).state
    by_number (inl at) =
        let it : x ≡ p = some_is x p (sym e ∙ (ap (λ k. find (is_of k) s.pending) at ∙ there)) in
        subst (λ (y : Pending). Comes d s q p (Serves line received) (job_over d t u r.transfer.failed (Some y)).state) (sym it)
        (job_ends line received r (record { unit = u; on = on; runs = runs; its = at; over = last }) _ same results p.cancelled r.transfer.failed (has_further d p) refl refl refl)
    by_number (inr ne) = other_over (Serves line received) _ x (end_by x.cancelled r.transfer.failed (has_further d x)) (λ at. ne (sym is ∙ sym at)) same results

  served_by_comes : (w : World) (line received u : ℕ) (r : Run) (b : Bool) → unit_of line ≡ Some u → run_at s u ≡ Some r → goes_on r ≡ b → Comes d s q p (Serves line received) (served_by d w s u received r b).state
  served_by_comes w line received u r true on runs goes =
      left (Serves line received) (served_by d w s u received r true).state (ap (λ ps. find (is_of q) ps) (stored-seen (λ s. s.pending) (λ s c x. refl) s (word_of r) (word_of r).goes r.transfer.incoming))
      (ap (λ rs. sequence_result rs q) (stored-seen (λ s. s.sequence_results) (λ s c x. refl) s (word_of r) (word_of r).goes r.transfer.incoming))
  served_by_comes w line received u r false on runs goes =
      over line received u r (after_last s r r.transfer.failed) (pending_of s r) on runs goes refl
      (after_last-seen (λ s. s.pending) (λ s c x. refl) s r r.transfer.failed) (after_last-seen (λ s. s.sequence_results) (λ s c x. refl) s r r.transfer.failed)

  served_comes : (w : World) (line received : ℕ) (k : Option ℕ) (o : Option Run) → unit_of line ≡ k → run_of s k ≡ o → Comes d s q p (Serves line received) (served d w s k received o).state
  served_comes w line received None o on runs = left (Serves line received) s refl refl
  served_comes w line received (Some u) None on runs = left (Serves line received) s refl refl
  served_comes w line received (Some u) (Some r) on runs = served_by_comes w line received u r (goes_on r) on runs refl

  -- ---- calls

  cancel_comes : (k : ℕ) (times : ℕ → ℕ) (x : Pending) (b : Bool) → find (is_of k) s.pending ≡ Some x → is_running s x.sequence ≡ b → Comes d s q p (Acts (Sequence k Cancel) times) (cancelled_by d s x b).state
  cancel_comes k times x b e runs = by_number (same_or_other k q) where
    is : x.sequence ≡ k
    is = (found k x s.pending e).0

    own : (c : Bool) → is_running s q ≡ c → Comes d s q p (Acts (Sequence q Cancel) times) (cancelled_by d s p c).state
    own true on =
        comes d s q p (Acts (Sequence q Cancel) times) (record s { pending = changed p.sequence cancels s.pending }) (Some (cancels p)) (sequence_result s.sequence_results q)
        (ap (λ i. find (is_of q) (changed i cancels s.pending)) (found q p s.pending there).0 ∙ find-changed_own q cancels (λ y. refl) s.pending p there)
        refl (BeingCancelled times on)
    own false off =
        comes d s q p (Acts (Sequence q Cancel) times) (ended d s p p.next SpiSeqCanceled) None SpiSeqCanceled
        (ap (λ i. find (is_of q) (without i s.pending)) (found q p s.pending there).0 ∙ find-without_own q s.pending)
        (ap (λ i. sequence_result (ended d s p p.next SpiSeqCanceled).sequence_results i) (sym (found q p s.pending there).0) ∙ item-same SpiSeqOk s.sequence_results p.sequence SpiSeqCanceled)
        (EndsAtOnce times off)

    other : (c : Bool) → q ≢ x.sequence → Comes d s q p (Acts (Sequence k Cancel) times) (cancelled_by d s x c).state
    other true ne = left (Acts (Sequence k Cancel) times) (cancelled_by d s x true).state (find-changed_other q x.sequence cancels (λ y. refl) ne s.pending) refl
    other false ne = left (Acts (Sequence k Cancel) times) (cancelled_by d s x false).state (find-without_other q x.sequence ne s.pending) (item-other SpiSeqOk s.sequence_results x.sequence q SpiSeqCanceled ne)

    by_number : (k ≡ q) ⊎ (k ≢ q) → Comes d s q p (Acts (Sequence k Cancel) times) (cancelled_by d s x b).state
    by_number (inr ne) = other b (λ at. ne (sym is ∙ sym at))
    by_number (inl at) =
        let it : x ≡ p = some_is x p (sym e ∙ (ap (λ i. find (is_of i) s.pending) at ∙ there)) in
        subst (λ i. Comes d s q p (Acts (Sequence i Cancel) times) (cancelled_by d s x b).state) (sym at)
        (subst (λ (y : Pending). Comes d s q p (Acts (Sequence q Cancel) times) (cancelled_by d s y b).state) (sym it)
        (own b (ap (λ i. is_running s i) (sym at ∙ sym is) ∙ runs)))

  cancelled_comes : (k : ℕ) (times : ℕ → ℕ) (o : Option Pending) → find (is_of k) s.pending ≡ o → Comes d s q p (Acts (Sequence k Cancel) times) (cancelled d s o).state
  cancelled_comes k times None e = left (Acts (Sequence k Cancel) times) s refl refl
  cancelled_comes k times (Some x) e = cancel_comes k times x (is_running s x.sequence) e refl

  unless_comes : (h : Happening Call) (after : SpiState) (b : Bool) → after.pending ≡ s.pending → after.sequence_results ≡ s.sequence_results → Comes d s q p h (unless_busy b s after).state
  unless_comes h after true e f = left h s refl refl
  unless_comes h after false e f = left h after (ap (λ ps. find (is_of q) ps) e) (ap (λ rs. sequence_result rs q) f)

  -- a sequence is accepted only while it isn't pending
  accept_comes : (k : ℕ) (times : ℕ → ℕ) → q ≢ k → Comes d s q p (Acts (Sequence k AsyncTransmit) times) (accepted d s k)
  accept_comes k times ne =
      left (Acts (Sequence k AsyncTransmit) times) (accepted d s k) (find-joined q s.pending _ p there ∙ sym there) (item-other SpiSeqOk s.sequence_results k q SpiSeqPending ne)

  acts_comes : (call : Call) (times : ℕ → ℕ) (e : Option ErrorName) → error_by d call (is_off s.mode) (finds_held d s call) ≡ e → drops (Acts call times) ≡ false → Comes d s q p (Acts call times) (acts_by d s call e).state
  acts_comes call times (Some e) is kept = left (Acts call times) s refl refl
  acts_comes Init times None is kept = absurd (cc kept)
  acts_comes DeInit times None is kept = unless_comes (Acts DeInit times) (record s { mode = Off }) (is_busy s) refl refl
  acts_comes (SetAsyncMode m) times None is kept = unless_comes (Acts (SetAsyncMode m) times) (record s { mode = mode_of m }) (is_busy s) refl refl
  acts_comes MainFunctionHandling times None is kept = left (Acts MainFunctionHandling times) s refl refl
  acts_comes (Channel c (WriteIb x)) times None is kept = left (Acts (Channel c (WriteIb x)) times) (work d s (Channel c (WriteIb x))).state refl refl
  acts_comes (Channel c ReadIb) times None is kept = left (Acts (Channel c ReadIb) times) s refl refl
  acts_comes (Channel c (SetupEb a b n)) times None is kept = left (Acts (Channel c (SetupEb a b n)) times) (work d s (Channel c (SetupEb a b n))).state refl refl
  acts_comes (Sequence k AsyncTransmit) times None is kept =
      let held = no_error (is_off s.mode) (not (is_some (sequence_of d k))) (is_sync_sequence d k) (is_held d k s.pending) is in
      accept_comes k times (λ at. let pending : is_pending k s.pending ≡ true = ap (λ i. is_pending i s.pending) (sym at) ∙ (found q p s.pending there).1 in absurd (cc (sym (not_held d k s.pending held) ∙ pending)))
  acts_comes (Sequence k SyncTransmit) times None is kept = left (Acts (Sequence k SyncTransmit) times) s refl refl
  acts_comes (Sequence k Cancel) times None is kept = cancelled_comes k times (find (is_of k) s.pending) refl
  acts_comes (Get query) times None is kept = left (Acts (Get query) times) s refl refl

  -- ---- starts

  start_comes : (w : World) (unit : units.Unit) (made_by : Option Call) (received u : ℕ) (next : Pending) → number_of unit ≡ Some u → next_at d s (Some u) ≡ Some next
      → Comes d s q p (Starts unit made_by received) (started d w s u received next).state
  start_comes w unit made_by received u next on is = by_number (same_or_other q next.sequence) where
    by_number : (q ≡ next.sequence) ⊎ (q ≢ next.sequence) → Comes d s q p (Starts unit made_by received) (started d w s u received next).state
    by_number (inl at) =
        comes d s q p (Starts unit made_by received) (started d w s u received next).state (Some (starts p)) (sequence_result s.sequence_results q)
        (ap (λ i. find (is_of q) (changed i starts s.pending)) (sym at) ∙ find-changed_own q starts (λ y. refl) s.pending p there)
        refl (Starting unit made_by received u next on is (sym at))
    by_number (inr ne) = left (Starts unit made_by received) (started d w s u received next).state (find-changed_other q next.sequence starts (λ y. refl) ne s.pending) refl

  start_by_comes : (w : World) (unit : units.Unit) (made_by : Option Call) (received : ℕ) (k : Option ℕ) (o : Option Pending) (out : Outcome SpiState) → number_of unit ≡ k → next_at d s k ≡ o → start_by d w s k received o ≡ Some out
      → Comes d s q p (Starts unit made_by received) out.state
  start_by_comes w unit made_by received None o out on is e = absurd (cc e)
  start_by_comes w unit made_by received (Some u) None out on is e = absurd (cc e)
  start_by_comes w unit made_by received (Some u) (Some next) out on is e =
      subst (λ (x : Outcome SpiState). Comes d s q p (Starts unit made_by received) x.state) (some_is (started d w s u received next) out e) (start_comes w unit made_by received u next on is)

  moved_comes : (w : World) (order : Order) → Comes d s q p (Moves order) (moved d w s order)
  moved_comes w (Fill c ws) = left (Moves (Fill c ws)) (moved d w s (Fill c ws)) refl refl
  moved_comes w (SpiFault u) = left (Moves (SpiFault u)) (moved d w s (SpiFault u)) refl refl
  moved_comes w order = left (Moves order) s refl refl

  -- ---- a happening

  -- what Spi_SyncTransmit does leaves what is pending
  sent_on_pending : (w : World) (u received : ℕ) (x : Carrying) (b : Bool) → (sent_on d w s u received x b).state.pending ≡ s.pending
  sent_on_pending w u received x true = stored-seen (λ s. s.pending) (λ s c x. refl) s (word_of x.run) (word_of x.run).goes x.run.transfer.incoming
  sent_on_pending w u received x false = after_last-seen (λ s. s.pending) (λ s c x. refl) s x.run false

  -- with some result
  abbrev pub Goes : Happening Call → SpiState → Type 0
  Goes h after = (r : AnswerName) × Sequel d s q p h (find (is_of q) after.pending) r

  goes : (h : Happening Call) (after : SpiState) → Comes d s q p h after → Goes h after
  goes h after x = (sequence_result after.sequence_results q, x)

  stays : (h : Happening Call) (after : SpiState) → after.pending ≡ s.pending → Goes h after
  stays h after e = (sequence_result s.sequence_results q, subst (λ i. Sequel d s q p h i (sequence_result s.sequence_results q)) (sym (ap (λ ps. find (is_of q) ps) e ∙ there)) IsLeft)

  serving_comes : (w : World) (line received : ℕ) (out : Outcome SpiState) → (spi_machine d).happens w s (Serves line received) ≡ Some out → Comes d s q p (Serves line received) out.state
  serving_comes w line received out e =
      subst (λ (x : Outcome SpiState). Comes d s q p (Serves line received) x.state) (serve_by (ready w s line) (served d w s (unit_of line) received (run_of s (unit_of line))) out e)
      (served_comes w line received (unit_of line) (run_of s (unit_of line)) refl refl)

  moving_comes : (w : World) (order : Order) (out : Outcome SpiState) → (spi_machine d).happens w s (Moves order) ≡ Some out → Comes d s q p (Moves order) out.state
  moving_comes w order out e = subst (λ (x : Outcome SpiState). Comes d s q p (Moves order) x.state) (some_is _ out e) (moved_comes w order)

  pub happens_sequel : (w : World) (h : Happening Call) (out : Outcome SpiState) → (spi_machine d).happens w s h ≡ Some out → drops h ≡ false → Goes h out.state
  happens_sequel w (Acts call times) out e kept =
      act-either (λ (x : Outcome SpiState). Goes (Acts call times) x.state) d w s call out e
      (goes (Acts call times) (acts d s call).state (acts_comes call times (error_by d call (is_off s.mode) (finds_held d s call)) refl kept))
      (λ k x c f. stays (Acts call times) s refl)
      (λ k x c ends. stays (Acts call times) (sent d s (unit_of_sequence d k) x x.run.transfer.failed).state (after_last-seen (λ s. s.pending) (λ s c x. refl) s x.run x.run.transfer.failed))
  happens_sequel w (Serves line received) out e kept = goes (Serves line received) out.state (serving_comes w line received out e)
  happens_sequel w (Starts unit made_by received) out e kept =
      start-either (λ (x : Outcome SpiState). Goes (Starts unit made_by received) x.state) d w s (number_of unit) made_by received out e
      (λ n f. goes (Starts unit made_by received) out.state (start_by_comes w unit made_by received (number_of unit) (next_at d s (number_of unit)) out refl refl f))
      (λ u k on new. stays (Starts unit made_by received) (carries_job d w (sequence_begun d s k) u received (as_requested d s k)).state refl)
      (λ u k x on more. stays (Starts unit made_by received) (sent_on d w s u received x (goes_on x.run)).state (sent_on_pending w u received x (goes_on x.run)))
  happens_sequel w (Aborts unit) out e kept = absurd (cc e)
  happens_sequel w (Moves order) out e kept = goes (Moves order) out.state (moving_comes w order out e)
  happens_sequel w (Restarts reason) out e kept = absurd (cc kept)

  -- with its own result, where it isn't sent by Spi_SyncTransmit
  module _ (plain : is_sync_sequence d q ≡ false) where
    not_sent_so : (k : ℕ) → is_sync_sequence d k ≡ true → q ≢ k
    not_sent_so k sync same = absurd (cc (sym (ap (λ i. is_sync_sequence d i) same ∙ sync) ∙ plain))

    sent_comes : (w : World) (call : Call) (times : ℕ → ℕ) (k : ℕ) (x : Carrying) → EndsSending d w s k x → Comes d s q p (Acts call times) (sent d s (unit_of_sequence d k) x x.run.transfer.failed).state
    sent_comes w call times k x ends =
        let failed = x.run.transfer.failed in
        left (Acts call times) (sent d s (unit_of_sequence d k) x failed).state (ap (λ ps. find (is_of q) ps) (after_last-seen (λ s. s.pending) (λ s c x. refl) s x.run failed))
        (item-other SpiSeqOk s.sequence_results x.entry.sequence q (sequence_result_by failed)
        (not_sent_so x.entry.sequence (ap (λ i. is_sync_sequence d i) (eq_is x.entry.sequence k ends.own) ∙ (carried-right d s k x ends.carried).1)))

    sent_on_results : (w : World) (u received : ℕ) (x : Carrying) (b : Bool) → (sent_on d w s u received x b).state.sequence_results ≡ s.sequence_results
    sent_on_results w u received x true = stored-seen (λ s. s.sequence_results) (λ s c x. refl) s (word_of x.run) (word_of x.run).goes x.run.transfer.incoming
    sent_on_results w u received x false = after_last-seen (λ s. s.sequence_results) (λ s c x. refl) s x.run false

    pub happens_comes : (w : World) (h : Happening Call) (out : Outcome SpiState) → (spi_machine d).happens w s h ≡ Some out → drops h ≡ false → Comes d s q p h out.state
    happens_comes w (Acts call times) out e kept =
        act-either (λ (x : Outcome SpiState). Comes d s q p (Acts call times) x.state) d w s call out e
        (acts_comes call times (error_by d call (is_off s.mode) (finds_held d s call)) refl kept)
        (λ k x c f. left (Acts call times) s refl refl) (λ k x c ends. sent_comes w call times k x ends)
    happens_comes w (Serves line received) out e kept = serving_comes w line received out e
    happens_comes w (Starts unit made_by received) out e kept =
        start-either (λ (x : Outcome SpiState). Comes d s q p (Starts unit made_by received) x.state) d w s (number_of unit) made_by received out e
        (λ n f. start_by_comes w unit made_by received (number_of unit) (next_at d s (number_of unit)) out refl refl f)
        (λ u k on new. left (Starts unit made_by received) (carries_job d w (sequence_begun d s k) u received (as_requested d s k)).state refl
        (item-other SpiSeqOk s.sequence_results k q SpiSeqPending (not_sent_so k on.sync)))
        (λ u k x on more. left (Starts unit made_by received) (sent_on d w s u received x (goes_on x.run)).state
        (ap (λ ps. find (is_of q) ps) (sent_on_pending w u received x (goes_on x.run))) (ap (λ rs. sequence_result rs q) (sent_on_results w u received x (goes_on x.run))))
    happens_comes w (Aborts unit) out e kept = absurd (cc e)
    happens_comes w (Moves order) out e kept = moving_comes w order out e
    happens_comes w (Restarts reason) out e kept = absurd (cc kept)

-- ---- what has to become of it

over_as : (d : SpiTable) (t : SpiState) (p : Pending) (q : ℕ) (c f g : Bool) → p.sequence ≡ q → find (is_of q) t.pending ≡ Some p → c || f || not g ≡ true → find (is_of q) (sequence_after d t p (end_by c f g)).state.pending ≡ None
over_as d t p q true f g is there e = ap (λ k. find (is_of q) (without k t.pending)) is ∙ find-without_own q t.pending
over_as d t p q false true g is there e = ap (λ k. find (is_of q) (without k t.pending)) is ∙ find-without_own q t.pending
over_as d t p q false false true is there e = absurd (cc e)
over_as d t p q false false false is there e = ap (λ k. find (is_of q) (without k t.pending)) is ∙ find-without_own q t.pending

on_as : (d : SpiTable) (t : SpiState) (p : Pending) (q : ℕ) (c f g : Bool) → p.sequence ≡ q → find (is_of q) t.pending ≡ Some p → c || f || not g ≡ false → find (is_of q) (sequence_after d t p (end_by c f g)).state.pending ≡ Some (goes_to_next p)
on_as d t p q true f g is there e = absurd (cc e)
on_as d t p q false true g is there e = absurd (cc e)
on_as d t p q false false false is there e = absurd (cc e)
on_as d t p q false false true is there e = ap (λ k. find (is_of q) (changed k goes_to_next t.pending)) is ∙ find-changed_own q goes_to_next (λ y. refl) t.pending p there

-- the serving that ends its job makes of the state what that end makes
module _ (d : SpiTable) (w : World) (s : SpiState) (line received : ℕ) (out : Outcome SpiState) (q : ℕ) (p : Pending) (r : Run)
    (made : (spi_machine d).happens w s (Serves line received) ≡ Some out) (there : find (is_of q) s.pending ≡ Some p) (own : EndsWith s q line r) where
  abbrev as_served : SpiState
  as_served = after_last s r r.transfer.failed

  abbrev as_free : SpiState
  as_free = record (with_run as_served own.unit None) { job_results = with_item SpiJobOk as_served.job_results (next_job d p) (result_by r.transfer.failed) }

  found_of : pending_of s r ≡ Some p
  found_of = ap (λ k. find (is_of k) s.pending) own.its ∙ there

  runs_there : run_of s (unit_of line) ≡ Some r
  runs_there = ap (λ k. run_of s k) own.on ∙ own.runs

  pub is_over : out.state ≡ (job_over d as_served own.unit r.transfer.failed (Some p)).state
  is_over =
      ap (λ (x : Outcome SpiState). x.state) (sym (serve_by (ready w s line) (served d w s (unit_of line) received (run_of s (unit_of line))) out made))
      ∙ (ap (λ k. (served d w s k received (run_of s k)).state) own.on
      ∙ (ap (λ o. (served d w s (Some own.unit) received o).state) own.runs
      ∙ (ap (λ b. (served_by d w s own.unit received r b).state) own.over
      ∙ ap (λ o. (job_over d as_served own.unit r.transfer.failed o).state) found_of)))

  pending_same : as_served.pending ≡ s.pending
  pending_same = after_last-seen (λ s. s.pending) (λ s c x. refl) s r r.transfer.failed

  found_served : find (is_of q) as_served.pending ≡ Some p
  found_served = ap (λ ps. find (is_of q) ps) pending_same ∙ there

  number : p.sequence ≡ q
  number = (found q p s.pending there).0

  pub has_to_end : p.cancelled || r.transfer.failed || not (has_further d p) ≡ true → find (is_of q) out.state.pending ≡ None
  has_to_end e =
      ap (λ (x : SpiState). find (is_of q) x.pending) is_over
      ∙ over_as d as_free p q p.cancelled r.transfer.failed (has_further d p) number found_served e

  pub has_to_go_on : p.cancelled || r.transfer.failed || not (has_further d p) ≡ false → find (is_of q) out.state.pending ≡ Some (goes_to_next p)
  has_to_go_on e =
      ap (λ (x : SpiState). find (is_of q) x.pending) is_over
      ∙ on_as d as_free p q p.cancelled r.transfer.failed (has_further d p) number found_served e

-- ---- a cancel while its job runs

cancel_quiet : (d : SpiTable) (s : SpiState) (q : ℕ) (times : ℕ → ℕ) (p : Pending) (e : Option ErrorName) → (acts_by d s (Sequence q Cancel) e).told.error ≡ None → find (is_of q) s.pending ≡ Some p → is_running s q ≡ true
    → (find (is_of q) (acts_by d s (Sequence q Cancel) e).state.pending ≡ Some (cancels p)) × ((acts_by d s (Sequence q Cancel) e).told.notices ≡ [])
cancel_quiet d s q times p (Some e) told there on = absurd (cc told)
cancel_quiet d s q times p None told there on =
    let number = (found q p s.pending there).0 in
    let is : cancelled d s (find (is_of q) s.pending) ≡ outcome (record s { pending = changed p.sequence cancels s.pending }) tells_nothing =
    ap (λ o. cancelled d s o) there ∙ ap (λ b. cancelled_by d s p b) (ap (λ k. is_running s k) number ∙ on) in (
      ap (λ (x : Outcome SpiState). find (is_of q) x.state.pending) is
          ∙ (ap (λ k. find (is_of q) (changed k cancels s.pending)) number ∙ find-changed_own q cancels (λ y. refl) s.pending p there),
      ap (λ (x : Outcome SpiState). x.told.notices) is,
    )

pub cancel_waits : (d : SpiTable) (w : World) (s : SpiState) (q : ℕ) (times : ℕ → ℕ) (out : Outcome SpiState) (p : Pending) → (spi_machine d).happens w s (Acts (Sequence q Cancel) times) ≡ Some out → out.told.error ≡ None
    → find (is_of q) s.pending ≡ Some p → is_running s q ≡ true → (find (is_of q) out.state.pending ≡ Some (cancels p)) × (out.told.notices ≡ [])
cancel_waits d w s q times out p made told there on =
    subst (λ (x : Outcome SpiState). x.told.error ≡ None → (find (is_of q) x.state.pending ≡ Some (cancels p)) × (x.told.notices ≡ [])) (some_is _ out made)
    (λ quiet. cancel_quiet d s q times p (error_by d (Sequence q Cancel) (is_off s.mode) (finds_held d s (Sequence q Cancel))) quiet there on) told

-- ---- a start

started_by : (d : SpiTable) (w : World) (s : SpiState) (k : Option ℕ) (received u : ℕ) (next p : Pending) (out : Outcome SpiState) → start_by d w s k received (next_at d s k) ≡ Some out → k ≡ Some u → next_at d s (Some u) ≡ Some next
    → find (is_of next.sequence) s.pending ≡ Some p → find (is_of next.sequence) out.state.pending ≡ Some (starts p)
started_by d w s k received u next p out made on is there =
    let made_so : start_by d w s (Some u) received (Some next) ≡ Some out = ap (λ o. start_by d w s (Some u) received o) (sym is) ∙ (ap (λ i. start_by d w s i received (next_at d s i)) (sym on) ∙ made) in
    ap (λ (x : Outcome SpiState). find (is_of next.sequence) x.state.pending) (sym (some_is (started d w s u received next) out made_so))
    ∙ find-changed_own next.sequence starts (λ y. refl) s.pending p there

pub has_started : (d : SpiTable) (w : World) (s : SpiState) (unit : units.Unit) (made_by : Option Call) (received : ℕ) (out : Outcome SpiState) (u : ℕ) (next p : Pending)
    → (spi_machine d).happens w s (Starts unit made_by received) ≡ Some out → number_of unit ≡ Some u → is_sync_unit d u ≡ false → next_at d s (Some u) ≡ Some next
    → find (is_of next.sequence) s.pending ≡ Some p → find (is_of next.sequence) out.state.pending ≡ Some (starts p)
has_started d w s unit made_by received out u next p made on plain is there =
    started_by d w s (number_of unit) received u next p out (plain-start d w s (number_of unit) made_by received out u made on plain) on is there
