-- What each event does to the pending sequences and to the results.
use Rattle.std.proofs.Common.{◌≡◌, ℕ, zero, suc, ◌+◌, ◌==◌, Bool, true, false, cond, ◌&&◌, ◌||◌, not, List, [], ◌∷◌, ◌++◌, Option, Some, None, refl, sym, ◌∙◌, ap, subst, arith}
use Rattle.std.specs.Prelude.{is_some, Contains, count_by, find, map}
use Rattle.std.proofs.lemmas.Bool.Decides.{nat_tests}
use Rattle.std.proofs.lemmas.List.Sums.{sum_by-append}
use Rattle.mcal_base.specs.facts.Truths.{and_false, and_true}
use Rattle.mcal_base.specs.facts.Options.{some_is}
use Rattle.mcal_base.specs.facts.Numbers.{eq_is}
use Rattle.mcal_base.specs.det_errors.Rows.{first_error}
use Rattle.mcal_base.specs.declared.answer_name.AnswerName.{AnswerName}
use Rattle.mcal_base.specs.declared.answer_name.AnswerName.TheVariants.{SpiSeqOk, SpiSeqPending, SpiSeqFailed, SpiSeqCanceled}
use Rattle.mcal_base.specs.declared.directive.Order.{Order}
use Rattle.mcal_base.specs.declared.directive.Order.TheVariants.{Fill, SpiFault}
use Rattle.mcal_base.specs.declared.error_name.ErrorName.{ErrorName}
use Rattle.mcal_base.specs.declared.moves.Unit as units
use Rattle.mcal_base.specs.declared.service.Service.TheVariants as services
use Rattle.run_model.specs.World.{World}
use Rattle.run_model.specs.Machine.{Happening, Acts, Serves, Starts, Aborts, Moves, Restarts, Outcome, outcome, tells_nothing}
use Rattle.spi_machine.specs.Checks.{error_by}
use Rattle.spi_machine.specs.Promised.{names_end}
use Rattle.spi_machine.specs.Machine.{spi_machine, acts_by, sent, sent_on, sent_by, sequence_result_by, is_sync_number, unless_busy, cancelled, cancelled_by, finds_held, after_last, sequence_after, job_over, served_by, served, unit_of, run_of, ready, started, start_by, next_at, number_of, moved}
use Rattle.spi_machine.specs.Numbered.{with_item}
use Rattle.spi_machine.specs.Pending as lists
use Rattle.spi_machine.specs.Pending.{Pending, is_of as is_entry, changed, without, starts, goes_to_next, cancels, is_held, shares_job, end_by, has_further, next_job, requested, job_result}
use Rattle.spi_machine.specs.State.{SpiState, Carrying, first_state, is_busy, is_off, is_running, job_notice, sequence_notice}
use Rattle.spi_machine.specs.Table.{sequence_of, notifies_sequence, job_of, jobs_of, notifies_job}
use Rattle.spi_machine.specs.Transfers.{Run, goes_on, word_of}
use Rattle.spi_machine.specs.declared.call.Call.{Call}
use Rattle.spi_machine.specs.declared.call.Call.TheVariants.{Init, DeInit, SetAsyncMode, MainFunctionHandling, Channel, Sequence, Get}
use Rattle.spi_machine.specs.declared.call.ChannelCall.TheVariants.{WriteIb, ReadIb, SetupEb}
use Rattle.spi_machine.specs.declared.call.SequenceCall.TheVariants.{AsyncTransmit, Cancel, SyncTransmit}
use Rattle.spi_machine.specs.declared.table.SpiTable.{SpiTable}
use Rattle.spi_machine.specs.Wiring.{unit_of_sequence, is_sync_sequence}
use Rattle.spi_machine.proofs.Runs.{stored-seen, after_last-seen, serve_by}
use Rattle.spi_machine.proofs.Sending.{EndsSending, act-either, start-either, carried-right}
use Rattle.spi_machine.proofs.SequenceChanges.{found}
use Rattle.board_promises.specs.whole_runs.Runs.{is_of}
use Rattle.board_promises.specs.whole_runs.SequenceRuns.{SequenceEvent, seen_between, is_accepted, accepts, initialises, is_reset, starts_job, ends_job, sequence_seen}

-- an event as it is seen where it is allowed
abbrev pub seen : SpiTable → Happening Call → SpiState → Outcome SpiState → SequenceEvent
seen d h s out = seen_between d s out.state h out.told (is_some out.begins)

-- so many notices of the end of a sequence
abbrev pub ends_told : ℕ → SequenceEvent → ℕ
ends_told q e = count_by (names_end q) e.told.notices

-- the results of an end
abbrev pub end_results : List AnswerName
end_results = SpiSeqOk ∷ SpiSeqFailed ∷ SpiSeqCanceled ∷ []

-- no request is accepted, no job starts, and none ends
pub record IsSilentMove (e : SequenceEvent) (ps : List Pending) : Type 0 where
  pub accepts : (q : ℕ) → accepts q e ≡ false
  pub starts : (q : ℕ) → starts_job q e ≡ false
  pub ends : (p : Pending) → Contains ps p → ends_job p.sequence e ≡ false

-- What an event does to the pending sequences and to the results.
pub data Goes (d : SpiTable) (e : SequenceEvent) (s t : SpiState) : Type 0 where
  Leaves : IsSilentMove e s.pending → is_reset e ≡ false → t.pending ≡ s.pending → t.sequence_results ≡ s.sequence_results → t.requests ≡ s.requests → ((q : ℕ) → ends_told q e ≡ 0) → Goes d e s t
  Accepts : (k : ℕ) (had : List AnswerName) → is_sync_sequence d k ≡ false → ((q : ℕ) → accepts q e ≡ (k == q)) → is_reset e ≡ false → lists.is_pending k s.pending ≡ false → t.pending ≡ s.pending ++ requested k (s.requests + 1) had ∷ []
      → t.sequence_results ≡ with_item SpiSeqOk s.sequence_results k SpiSeqPending → t.requests ≡ s.requests + 1 → ((q : ℕ) → ends_told q e ≡ 0) → Goes d e s t
  Starting : (k : ℕ) → ((q : ℕ) → accepts q e ≡ false) → is_reset e ≡ false → ((q : ℕ) → starts_job q e ≡ (k == q)) → ((q : ℕ) → ends_job q e ≡ false) → t.pending ≡ changed k starts s.pending
      → t.sequence_results ≡ s.sequence_results → t.requests ≡ s.requests → ((q : ℕ) → ends_told q e ≡ 0) → Goes d e s t
  Advances : (k : ℕ) → ((q : ℕ) → accepts q e ≡ false) → is_reset e ≡ false → ((q : ℕ) → starts_job q e ≡ false) → ((q : ℕ) → ends_job q e ≡ (k == q)) → t.pending ≡ changed k goes_to_next s.pending
      → t.sequence_results ≡ s.sequence_results → t.requests ≡ s.requests → ((q : ℕ) → ends_told q e ≡ 0) → Goes d e s t
  Marks : (k : ℕ) → IsSilentMove e s.pending → is_reset e ≡ false → t.pending ≡ changed k cancels s.pending → t.sequence_results ≡ s.sequence_results → t.requests ≡ s.requests → ((q : ℕ) → ends_told q e ≡ 0) → Goes d e s t
  Ending : (k : ℕ) (x : AnswerName) → ((q : ℕ) → accepts q e ≡ false) → is_reset e ≡ false → ((q : ℕ) → starts_job q e ≡ false) → ((q : ℕ) → (k == q) ≡ false → ends_job q e ≡ false) → lists.is_pending k s.pending ≡ true
      → Contains end_results x → t.pending ≡ without k s.pending → t.sequence_results ≡ with_item SpiSeqOk s.sequence_results k x → t.requests ≡ s.requests
      → ((q : ℕ) → ends_told q e ≡ cond (notifies_sequence (sequence_of d k) && (k == q)) 1 0) → Goes d e s t
  Initialising : initialises e ≡ true → ((q : ℕ) → accepts q e ≡ false) → is_reset e ≡ false → is_off s.mode ≡ true → t.pending ≡ [] → t.sequence_results ≡ [] → ((q : ℕ) → ends_told q e ≡ 0) → Goes d e s t
  -- Spi_SyncTransmit begins one of its sequences, or ends it
  Sends : (k : ℕ) (x : AnswerName) → is_sync_sequence d k ≡ true → IsSilentMove e s.pending → is_reset e ≡ false → t.pending ≡ s.pending → t.sequence_results ≡ with_item SpiSeqOk s.sequence_results k x → t.requests ≡ s.requests
      → ((q : ℕ) → ends_told q e ≡ 0) → Goes d e s t
  Resetting : is_reset e ≡ true → ((q : ℕ) → accepts q e ≡ false) → t.pending ≡ [] → t.sequence_results ≡ [] → ((q : ℕ) → ends_told q e ≡ 0) → Goes d e s t

-- ---- notices

told_job : (d : SpiTable) (q j : ℕ) (b : Bool) → notifies_job (job_of d j) ≡ b → count_by (names_end q) (job_notice d j) ≡ 0
told_job d q j true e = rw e refl
told_job d q j false e = rw e refl

told_sequence : (d : SpiTable) (q k : ℕ) (b : Bool) → notifies_sequence (sequence_of d k) ≡ b → count_by (names_end q) (sequence_notice d k) ≡ cond (b && (k == q)) 1 0
told_sequence d q k true e = rw e (by_test (k == q))
  where
    by_test : (b : Bool) → 0 + cond b 1 0 ≡ cond b 1 0
    by_test true = refl
    by_test false = refl
told_sequence d q k false e = rw e refl

second_alone : (a b c : ℕ) → a ≡ 0 → b ≡ c → a + b ≡ c
second_alone a b c e f = omega (arith, e, f)

told_both : (d : SpiTable) (q j k : ℕ) → count_by (names_end q) (job_notice d j ++ sequence_notice d k) ≡ cond (notifies_sequence (sequence_of d k) && (k == q)) 1 0
told_both d q j k =
    sum_by-append (λ n. cond (names_end q n) 1 0) (job_notice d j) (sequence_notice d k)
    ∙ second_alone _ _ _ (told_job d q j (notifies_job (job_of d j)) refl) (told_sequence d q k (notifies_sequence (sequence_of d k)) refl)

-- ---- acts

not_accepted : (q : ℕ) (call : Call) (times : ℕ → ℕ) (x : ErrorName) → is_accepted q (Acts call times) (Some x) ≡ false
not_accepted q (Sequence k AsyncTransmit) times x = refl
not_accepted q (Sequence k Cancel) times x = refl
not_accepted q (Sequence k SyncTransmit) times x = refl
not_accepted q Init times x = refl
not_accepted q DeInit times x = refl
not_accepted q (SetAsyncMode m) times x = refl
not_accepted q MainFunctionHandling times x = refl
not_accepted q (Channel c call) times x = refl
not_accepted q (Get query) times x = refl

-- a call that leaves the sequences
abbrev ActGoes : SpiTable → SpiState → Call → (ℕ → ℕ) → Outcome SpiState → Type 0
ActGoes d s call times out = Goes d (seen d (Acts call times) s out) s out.state

refused : (d : SpiTable) (s : SpiState) (call : Call) (times : ℕ → ℕ) (x : ErrorName) → ActGoes d s call times (acts_by d s call (Some x))
refused d s call times x = Leaves (record { accepts = λ q. not_accepted q call times x; starts = λ q. refl; ends = λ p at. refl }) refl refl refl refl (λ q. refl)

unless_goes : (d : SpiTable) (s after : SpiState) (call : Call) (times : ℕ → ℕ) (b : Bool) → ((q : ℕ) → is_accepted q (Acts call times) None ≡ false) → after.pending ≡ s.pending → after.sequence_results ≡ s.sequence_results
    → after.requests ≡ s.requests → ActGoes d s call times (unless_busy b s after)
unless_goes d s after call times true none e f g = Leaves (record { accepts = none; starts = λ q. refl; ends = λ p at. refl }) refl refl refl refl (λ q. refl)
unless_goes d s after call times false none e f g = Leaves (record { accepts = none; starts = λ q. refl; ends = λ p at. refl }) refl e f g (λ q. refl)

no_error : (a b b' c : Bool) → first_error services.SpiAsyncTransmit (a ∷ (b || b') ∷ c ∷ false ∷ false ∷ false ∷ []) ≡ None → (b' ≡ false) × (c ≡ false)
no_error true b b' c h = absurd (cc h)
no_error false true b' c h = absurd (cc h)
no_error false false true c h = absurd (cc h)
no_error false false false true h = absurd (cc h)
no_error false false false false h = (refl, refl)

not_held_by : (a b c : Bool) → ((a || b) || c) ≡ false → (a ≡ false) × (c ≡ false)
not_held_by true b c h = absurd (cc h)
not_held_by false true c h = absurd (cc h)
not_held_by false false c h = (refl, h)

not_held : (d : SpiTable) (k : ℕ) (ps : List Pending) → is_held d k ps ≡ false → lists.is_pending k ps ≡ false
not_held d k [] h = refl
not_held d k (p ∷ ps) h =
    let parts = not_held_by (p.sequence == k) (shares_job d k p.sequence) (is_held d k ps) h in
    rw parts.0 (not_held d k ps parts.1)

off_init : (off : Bool) → first_error services.SpiInit (not off ∷ false ∷ false ∷ false ∷ false ∷ false ∷ []) ≡ None → off ≡ true
off_init true h = refl
off_init false h = absurd (cc h)

last_result : Contains end_results SpiSeqCanceled
last_result = (2, omega arith, refl)

cancel_by : (d : SpiTable) (s : SpiState) (k : ℕ) (times : ℕ → ℕ) (p : Pending) (b : Bool) → lists.is_pending p.sequence s.pending ≡ true → ActGoes d s (Sequence k Cancel) times (cancelled_by d s p b)
cancel_by d s k times p true there = Marks p.sequence (record { accepts = λ q. refl; starts = λ q. refl; ends = λ x at. refl }) refl refl refl refl (λ q. refl)
cancel_by d s k times p false there =
    Ending p.sequence SpiSeqCanceled (λ q. refl) refl (λ q. refl) (λ q ne. refl) there last_result refl refl refl (λ q. told_sequence d q p.sequence (notifies_sequence (sequence_of d p.sequence)) refl)

pending_found : (k : ℕ) (p : Pending) (ps : List Pending) → find (is_entry k) ps ≡ Some p → lists.is_pending p.sequence ps ≡ true
pending_found k p ps at = let has = found k p ps at in subst (λ n. lists.is_pending n ps ≡ true) (sym has.0) has.1

cancel_goes : (d : SpiTable) (s : SpiState) (k : ℕ) (times : ℕ → ℕ) (o : Option Pending) → find (is_entry k) s.pending ≡ o → ActGoes d s (Sequence k Cancel) times (cancelled d s o)
cancel_goes d s k times None at = Leaves (record { accepts = λ q. refl; starts = λ q. refl; ends = λ p at. refl }) refl refl refl refl (λ q. refl)
cancel_goes d s k times (Some p) at = cancel_by d s k times p (is_running s p.sequence) (pending_found k p s.pending at)

act_by : (d : SpiTable) (s : SpiState) (call : Call) (times : ℕ → ℕ) (o : Option ErrorName) → error_by d call (is_off s.mode) (finds_held d s call) ≡ o → ActGoes d s call times (acts_by d s call o)
act_by d s call times (Some x) at = refused d s call times x
act_by d s Init times None at = Initialising refl (λ q. refl) refl (off_init (is_off s.mode) at) refl refl (λ q. refl)
act_by d s DeInit times None at = unless_goes d s _ DeInit times (is_busy s) (λ q. refl) refl refl refl
act_by d s (SetAsyncMode m) times None at = unless_goes d s _ (SetAsyncMode m) times (is_busy s) (λ q. refl) refl refl refl
act_by d s MainFunctionHandling times None at = Leaves (record { accepts = λ q. refl; starts = λ q. refl; ends = λ p at. refl }) refl refl refl refl (λ q. refl)
act_by d s (Channel c (WriteIb p)) times None at = Leaves (record { accepts = λ q. refl; starts = λ q. refl; ends = λ p at. refl }) refl refl refl refl (λ q. refl)
act_by d s (Channel c ReadIb) times None at = Leaves (record { accepts = λ q. refl; starts = λ q. refl; ends = λ p at. refl }) refl refl refl refl (λ q. refl)
act_by d s (Channel c (SetupEb a b n)) times None at = Leaves (record { accepts = λ q. refl; starts = λ q. refl; ends = λ p at. refl }) refl refl refl refl (λ q. refl)
act_by d s (Sequence k AsyncTransmit) times None at =
    let clear = no_error (is_off s.mode) (not (is_some (sequence_of d k))) (is_sync_sequence d k) (is_held d k s.pending) at in
    Accepts k (map (job_result s.job_results) (jobs_of d k)) clear.0 (λ q. refl) refl (not_held d k s.pending clear.1) refl refl refl (λ q. refl)
act_by d s (Sequence k SyncTransmit) times None at = Leaves (record { accepts = λ q. refl; starts = λ q. refl; ends = λ p at. refl }) refl refl refl refl (λ q. refl)
act_by d s (Sequence k Cancel) times None at = cancel_goes d s k times (find (is_entry k) s.pending) refl
act_by d s (Get query) times None at = Leaves (record { accepts = λ q. refl; starts = λ q. refl; ends = λ p at. refl }) refl refl refl refl (λ q. refl)

-- ---- servings

abbrev ServeGoes : SpiTable → SpiState → (line received : ℕ) → Outcome SpiState → Type 0
ServeGoes d s l received out = Goes d (seen d (Serves l received) s out) s out.state

-- an entry isn't of a sequence that isn't found
not_found : (k : ℕ) (ps : List Pending) (p : Pending) → find (is_entry k) ps ≡ None → Contains ps p → (k == p.sequence) ≡ false
not_found k [] p none (n, within, is) = absurd (omega (arith, within))
not_found k (x ∷ ps) p none (zero, within, is) = first_by (x.sequence == k) refl none
  where
    first_by : (b : Bool) → (x.sequence == k) ≡ b → cond b (Some x) (find (is_entry k) ps) ≡ None → (k == p.sequence) ≡ false
    first_by true e f = absurd (cc f)
    first_by false e f = let same : x.sequence ≡ p.sequence = ap (λ (y : Pending). y.sequence) is in grind (arith, nat_tests, e, same)
not_found k (x ∷ ps) p none (suc n, within, is) = not_found k ps p (none_by (x.sequence == k) none) (n, omega (arith, within), is)
  where
    none_by : (b : Bool) → cond b (Some x) (find (is_entry k) ps) ≡ None → find (is_entry k) ps ≡ None
    none_by true f = absurd (cc f)
    none_by false f = f

-- the result that a sequence ends with is one of the three
end_is : (c f g : Bool) (x : AnswerName) → end_by c f g ≡ Some x → Contains end_results x
end_is true f g x e = subst (λ y. Contains end_results y) (some_is SpiSeqCanceled x e) (2, omega arith, refl)
end_is false true g x e = subst (λ y. Contains end_results y) (some_is SpiSeqFailed x e) (1, omega arith, refl)
end_is false false true x e = absurd (cc e)
end_is false false false x e = subst (λ y. Contains end_results y) (some_is SpiSeqOk x e) (0, omega arith, refl)

-- a job's end, by what comes of its sequence
after_goes : (d : SpiTable) (s t : SpiState) (l received : ℕ) (r : Run) (p : Pending) (x : Option AnswerName) → run_of s (unit_of l) ≡ Some r → p.sequence ≡ r.sequence → lists.is_pending p.sequence s.pending ≡ true
    → t.pending ≡ s.pending → t.sequence_results ≡ s.sequence_results → t.requests ≡ s.requests → ((y : AnswerName) → x ≡ Some y → Contains end_results y) → ServeGoes d s l received (sequence_after d t p x)
after_goes d s t l received r p None at own there e f g ends =
    Advances p.sequence (λ q. refl) refl (λ q. refl) (λ q. rw (at, own) (and_true (r.sequence == q))) (ap (λ ps. changed p.sequence goes_to_next ps) e) f g (λ q. told_job d q (next_job d p) (notifies_job (job_of d (next_job d p))) refl)
after_goes d s t l received r p (Some y) at own there e f g ends =
    Ending p.sequence y (λ q. refl) refl (λ q. refl) (λ q ne. rw at (and_true (r.sequence == q) ∙ ap (λ k. k == q) (sym own) ∙ ne)) there (ends y refl) (ap (λ ps. without p.sequence ps) e) (ap (λ rs. with_item SpiSeqOk rs p.sequence y) f) g
    (λ q. told_both d q (next_job d p) p.sequence)

over_goes : (d : SpiTable) (s t : SpiState) (l received u : ℕ) (failed : Bool) (r : Run) (o : Option Pending) → run_of s (unit_of l) ≡ Some r → find (is_entry r.sequence) s.pending ≡ o
    → t.pending ≡ s.pending → t.sequence_results ≡ s.sequence_results → t.requests ≡ s.requests → ServeGoes d s l received (job_over d t u failed o)
over_goes d s t l received u failed r None at none e f g =
    Leaves (record { accepts = λ q. refl; starts = λ q. refl; ends = λ p has. rw at (and_true (r.sequence == p.sequence) ∙ not_found r.sequence s.pending p none has) }) refl e f g (λ q. refl)
over_goes d s t l received u failed r (Some p) at there e f g =
    after_goes d s _ l received r p (end_by p.cancelled failed (has_further d p)) at (found r.sequence p s.pending there).0 (pending_found r.sequence p s.pending there) e f g (λ y. end_is p.cancelled failed (has_further d p) y)

served_by_goes : (d : SpiTable) (w : World) (s : SpiState) (l u received : ℕ) (r : Run) (b : Bool) → run_of s (unit_of l) ≡ Some r → ServeGoes d s l received (served_by d w s u received r b)
served_by_goes d w s l u received r true at =
    Leaves (record { accepts = λ q. refl; starts = λ q. refl; ends = λ p has. and_false (is_of p.sequence (sequence_seen d s (Serves l received))) }) refl
    (stored-seen (λ s. s.pending) (λ s c x. refl) s (word_of r) (word_of r).goes r.transfer.incoming)
    (stored-seen (λ s. s.sequence_results) (λ s c x. refl) s (word_of r) (word_of r).goes r.transfer.incoming)
    (stored-seen (λ s. s.requests) (λ s c x. refl) s (word_of r) (word_of r).goes r.transfer.incoming) (λ q. refl)
served_by_goes d w s l u received r false at =
    over_goes d s (after_last s r r.transfer.failed) l received u r.transfer.failed r (find (is_entry r.sequence) s.pending) at refl
    (after_last-seen (λ s. s.pending) (λ s c x. refl) s r r.transfer.failed)
    (after_last-seen (λ s. s.sequence_results) (λ s c x. refl) s r r.transfer.failed)
    (after_last-seen (λ s. s.requests) (λ s c x. refl) s r r.transfer.failed)

idle_goes : (d : SpiTable) (s : SpiState) (l received : ℕ) → run_of s (unit_of l) ≡ None → ServeGoes d s l received (outcome s tells_nothing)
idle_goes d s l received at = Leaves (record { accepts = λ q. refl; starts = λ q. refl; ends = λ p has. rw at refl }) refl refl refl refl (λ q. refl)

served_goes : (d : SpiTable) (w : World) (s : SpiState) (l received : ℕ) (k : Option ℕ) (o : Option Run) → unit_of l ≡ k → run_of s k ≡ o → ServeGoes d s l received (served d w s k received o)
served_goes d w s l received None o unit at = idle_goes d s l received (ap (λ k. run_of s k) unit)
served_goes d w s l received (Some u) None unit at = idle_goes d s l received (ap (λ k. run_of s k) unit ∙ at)
served_goes d w s l received (Some u) (Some r) unit at = served_by_goes d w s l u received r (goes_on r) (ap (λ k. run_of s k) unit ∙ at)

-- ---- all else

start_goes : (d : SpiTable) (w : World) (s : SpiState) (unit : units.Unit) (made_by : Option Call) (k : Option ℕ) (received : ℕ) (o : Option Pending) (out : Outcome SpiState) → is_sync_number d (number_of unit) ≡ false
    → next_at d s (number_of unit) ≡ o → start_by d w s k received o ≡ Some out → Goes d (seen d (Starts unit made_by received) s out) s out.state
start_goes d w s unit made_by None received o out plain at e = absurd (cc e)
start_goes d w s unit made_by (Some u) received None out plain at e = absurd (cc e)
start_goes d w s unit made_by (Some u) received (Some p) out plain at e =
    subst (λ (x : Outcome SpiState). Goes d (seen d (Starts unit made_by received) s x) s x.state) (some_is (started d w s u received p) out e)
    (Starting p.sequence (λ q. refl) refl (λ q. rw (plain, at) refl) (λ q. refl) refl refl refl (λ q. refl))

-- ---- what Spi_SyncTransmit does

-- its act is no accepted request
unasked : (q k : ℕ) (call : Call) (times : ℕ → ℕ) → sent_by (Some call) ≡ Some k → is_accepted q (Acts call times) None ≡ false
unasked q k Init times c = absurd (cc c)
unasked q k DeInit times c = absurd (cc c)
unasked q k (SetAsyncMode m) times c = absurd (cc c)
unasked q k MainFunctionHandling times c = absurd (cc c)
unasked q k (Channel n call) times c = absurd (cc c)
unasked q k (Sequence n AsyncTransmit) times c = absurd (cc c)
unasked q k (Sequence n Cancel) times c = absurd (cc c)
unasked q k (Sequence n SyncTransmit) times c = refl
unasked q k (Get query) times c = absurd (cc c)

sent_goes : (d : SpiTable) (w : World) (s : SpiState) (k : ℕ) (call : Call) (times : ℕ → ℕ) (x : Carrying) → sent_by (Some call) ≡ Some k → EndsSending d w s k x
    → ActGoes d s call times (sent d s (unit_of_sequence d k) x x.run.transfer.failed)
sent_goes d w s k call times x c ends =
    let failed = x.run.transfer.failed in
    Sends x.entry.sequence (sequence_result_by failed) (ap (λ q. is_sync_sequence d q) (eq_is x.entry.sequence k ends.own) ∙ (carried-right d s k x ends.carried).1)
    (record { accepts = λ q. unasked q k call times c; starts = λ q. refl; ends = λ p at. refl }) refl
    (after_last-seen (λ s. s.pending) (λ s c x. refl) s x.run failed) refl (after_last-seen (λ s. s.requests) (λ s c x. refl) s x.run failed) (λ q. refl)

sending_goes : (d : SpiTable) (w : World) (s : SpiState) (unit : units.Unit) (made_by : Option Call) (received u : ℕ) (x : Carrying) (b : Bool) → is_sync_number d (number_of unit) ≡ true
    → Goes d (seen d (Starts unit made_by received) s (sent_on d w s u received x b)) s (sent_on d w s u received x b).state
sending_goes d w s unit made_by received u x true sync =
    Leaves (record { accepts = λ q. refl; starts = λ q. rw sync refl; ends = λ p has. refl }) refl
    (stored-seen (λ s. s.pending) (λ s c x. refl) s (word_of x.run) (word_of x.run).goes x.run.transfer.incoming)
    (stored-seen (λ s. s.sequence_results) (λ s c x. refl) s (word_of x.run) (word_of x.run).goes x.run.transfer.incoming)
    (stored-seen (λ s. s.requests) (λ s c x. refl) s (word_of x.run) (word_of x.run).goes x.run.transfer.incoming) (λ q. refl)
sending_goes d w s unit made_by received u x false sync =
    Leaves (record { accepts = λ q. refl; starts = λ q. rw sync refl; ends = λ p has. refl }) refl
    (after_last-seen (λ s. s.pending) (λ s c x. refl) s x.run false)
    (after_last-seen (λ s. s.sequence_results) (λ s c x. refl) s x.run false)
    (after_last-seen (λ s. s.requests) (λ s c x. refl) s x.run false) (λ q. refl)

calm_move : (d : SpiTable) (w : World) (s : SpiState) (order : Order) → (moved d w s order).pending ≡ s.pending → (moved d w s order).sequence_results ≡ s.sequence_results → (moved d w s order).requests ≡ s.requests
    → Goes d (seen d (Moves order) s (outcome (moved d w s order) tells_nothing)) s (moved d w s order)
calm_move d w s order e f g = Leaves (record { accepts = λ q. refl; starts = λ q. refl; ends = λ p at. refl }) refl e f g (λ q. refl)

move_goes : (d : SpiTable) (w : World) (s : SpiState) (order : Order) → Goes d (seen d (Moves order) s (outcome (moved d w s order) tells_nothing)) s (moved d w s order)
move_goes d w s (Fill c ws) = calm_move d w s (Fill c ws) refl refl refl
move_goes d w s (SpiFault u) = calm_move d w s (SpiFault u) refl refl refl
move_goes d w s order = calm_move d w s order refl refl refl

pub happens_goes : (d : SpiTable) (w : World) (s : SpiState) (h : Happening Call) (out : Outcome SpiState) → (spi_machine d).happens w s h ≡ Some out → Goes d (seen d h s out) s out.state
happens_goes d w s (Acts call times) out e =
    act-either (λ (x : Outcome SpiState). Goes d (seen d (Acts call times) s x) s x.state) d w s call out e
    (act_by d s call times (error_by d call (is_off s.mode) (finds_held d s call)) refl)
    (λ k x c f. Leaves (record { accepts = λ q. not_accepted q call times x; starts = λ q. refl; ends = λ p at. refl }) refl refl refl refl (λ q. refl))
    (λ k x c ends. sent_goes d w s k call times x c ends)
happens_goes d w s (Serves l received) out e =
    subst (λ (x : Outcome SpiState). Goes d (seen d (Serves l received) s x) s x.state) (serve_by (ready w s l) (served d w s (unit_of l) received (run_of s (unit_of l))) out e)
    (served_goes d w s l received (unit_of l) (run_of s (unit_of l)) refl refl)
happens_goes d w s (Starts unit made_by received) out e =
    start-either (λ (x : Outcome SpiState). Goes d (seen d (Starts unit made_by received) s x) s x.state) d w s (number_of unit) made_by received out e
    (λ plain f. start_goes d w s unit made_by (number_of unit) received (next_at d s (number_of unit)) out plain refl f)
    (λ u k on new. Sends k SpiSeqPending on.sync (record { accepts = λ q. refl; starts = λ q. rw on.unit refl; ends = λ p has. refl }) refl refl refl refl (λ q. refl))
    (λ u k x on more. sending_goes d w s unit made_by received u x (goes_on x.run) on.unit)
happens_goes d w s (Aborts u) out e = absurd (cc e)
happens_goes d w s (Moves order) out e =
    subst (λ (x : Outcome SpiState). Goes d (seen d (Moves order) s x) s x.state) (some_is (outcome (moved d w s order) tells_nothing) out e) (move_goes d w s order)
happens_goes d w s (Restarts reason) out e =
    subst (λ (x : Outcome SpiState). Goes d (seen d (Restarts reason) s x) s x.state) (some_is (outcome first_state tells_nothing) out e) (Resetting refl (λ q. refl) refl refl (λ q. refl))
