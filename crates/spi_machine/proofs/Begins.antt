-- Where a word begins, which one it is, and what the wire shows of it.
use Rattle.std.proofs.Common.{◌≡◌, ℕ, Bool, true, false, ◌==◌, ◌≢◌, List, [], ◌∷◌, Option, Some, None, is_some, slice_index_or, refl, sym, ◌∙◌, ap, arith, ◌⊎◌, inl, inr, ◌+◌, ◌++◌, length}
use Rattle.std.specs.Prelude.{find, if◌then◌else◌}
use Rattle.std.proofs.lemmas.Bool.Decides.{nat_tests}
use Rattle.std.proofs.lemmas.List.{append-nil}
use Rattle.mcal_base.specs.facts.Options.{some_is}
use Rattle.mcal_base.specs.facts.Numbers.{same_or_other}
use Rattle.mcal_base.specs.declared.answer_name.AnswerName.{AnswerName}
use Rattle.mcal_base.specs.declared.directive.Order.{Order}
use Rattle.mcal_base.specs.declared.directive.Order.TheVariants.{Fill, SpiFault}
use Rattle.mcal_base.specs.declared.error_name.ErrorName.{ErrorName}
use Rattle.mcal_base.specs.declared.moves.Unit as units
use Rattle.run_model.specs.Machine.{Happening, Acts, Serves, Starts, Aborts, Moves, Restarts, Outcome, outcome, tells_nothing, tells_error}
use Rattle.run_model.specs.World.{World}
use Rattle.spi_machine.proofs.Numbers.{item-same, item-other}
use Rattle.spi_machine.proofs.Runs.{serve_by, one_more, stored-seen, after_last-seen}
use Rattle.spi_machine.proofs.Sending.{act-either, start-either, plain-start}
use Rattle.spi_machine.specs.Checks.{answer_refused, error_by}
use Rattle.spi_machine.specs.Promised.{is_beginning, does_go_on, is_reset, received_at, shown_on}
use Rattle.spi_machine.specs.Machine.{spi_machine, acts_by, work, unless_busy, cancelled, cancelled_by, finds_held, stored, after_last, sequence_after, job_over, job_started, job_words, served_by, served, unit_of, run_of, ready, started, start_by, next_at, number_of, moved, begins_on, as_begun, pending_of, sent, sent_on, carries_on, job_begun, job_done, sequence_begun, as_requested}
use Rattle.spi_machine.specs.Numbered.{with_item}
use Rattle.spi_machine.specs.Pending.{Pending, is_of, end_by, has_further, next_job, goes_to_next}
use Rattle.spi_machine.specs.Table.{is_sync_unit}
use Rattle.spi_machine.specs.Wiring.{unit_of_sequence}
use Rattle.spi_machine.specs.State.{SpiState, Carrying, run_at, wire_at, is_busy, is_off, is_running}
use Rattle.spi_machine.specs.Transfers.{no_word, Run, goes_on, begun, on_wire, received_with, word_of}
use Rattle.spi_machine.specs.declared.call.Call.{Call}
use Rattle.spi_machine.specs.declared.call.Call.TheVariants.{Init, DeInit, SetAsyncMode, MainFunctionHandling, Channel, Sequence, Get}
use Rattle.spi_machine.specs.declared.call.ChannelCall.TheVariants.{WriteIb, ReadIb, SetupEb}
use Rattle.spi_machine.specs.declared.call.SequenceCall.TheVariants.{AsyncTransmit, Cancel, SyncTransmit}
use Rattle.spi_machine.specs.declared.table.SpiTable.{SpiTable}

-- ---- what begins no word leaves the wires

-- no word begins, and the wires are as before
abbrev IsStill : SpiState → Outcome SpiState → Type 0
IsStill s out = (out.begins ≡ None) × (out.state.wires ≡ s.wires)

still-unless : (b : Bool) (s after : SpiState) → after.wires ≡ s.wires → IsStill s (unless_busy b s after)
still-unless true s after e = (refl, refl)
still-unless false s after e = (refl, e)

still-cancelled_by : (d : SpiTable) (s : SpiState) (p : Pending) (b : Bool) → IsStill s (cancelled_by d s p b)
still-cancelled_by d s p true = (refl, refl)
still-cancelled_by d s p false = (refl, refl)

still-cancelled : (d : SpiTable) (s : SpiState) (o : Option Pending) → IsStill s (cancelled d s o)
still-cancelled d s None = (refl, refl)
still-cancelled d s (Some p) = still-cancelled_by d s p (is_running s p.sequence)

still-work : (d : SpiTable) (s : SpiState) (call : Call) → IsStill s (work d s call)
still-work d s Init = (refl, refl)
still-work d s DeInit = still-unless (is_busy s) s _ refl
still-work d s (SetAsyncMode m) = still-unless (is_busy s) s _ refl
still-work d s MainFunctionHandling = (refl, refl)
still-work d s (Channel k (WriteIb p)) = (refl, refl)
still-work d s (Channel k ReadIb) = (refl, refl)
still-work d s (Channel k (SetupEb p q n)) = (refl, refl)
still-work d s (Sequence q AsyncTransmit) = (refl, refl)
still-work d s (Sequence q Cancel) = still-cancelled d s (find (is_of q) s.pending)
still-work d s (Sequence q SyncTransmit) = (refl, refl)
still-work d s (Get query) = (refl, refl)

still-acts : (d : SpiTable) (s : SpiState) (call : Call) (e : Option ErrorName) → IsStill s (acts_by d s call e)
still-acts d s call None = still-work d s call
still-acts d s call (Some e) = (refl, refl)

still-sequence : (d : SpiTable) (s t : SpiState) (p : Pending) (e : Option AnswerName) → t.wires ≡ s.wires → IsStill s (sequence_after d t p e)
still-sequence d s t p None e = (refl, e)
still-sequence d s t p (Some result) e = (refl, e)

still-over : (d : SpiTable) (s t : SpiState) (u : ℕ) (failed : Bool) (o : Option Pending) → t.wires ≡ s.wires → IsStill s (job_over d t u failed o)
still-over d s t u failed None e = (refl, e)
still-over d s t u failed (Some p) e = still-sequence d s _ p (end_by p.cancelled failed (has_further d p)) e

still-last : (d : SpiTable) (s : SpiState) (u : ℕ) (r : Run) → IsStill s (job_over d (after_last s r r.transfer.failed) u r.transfer.failed (pending_of s r))
still-last d s u r = still-over d s (after_last s r r.transfer.failed) u r.transfer.failed (pending_of s r) (after_last-seen (λ s. s.wires) (λ s c x. refl) s r r.transfer.failed)

-- the end of a sequence that a call sends
still-sent : (d : SpiTable) (s : SpiState) (u : ℕ) (x : Carrying) (failed : Bool) → IsStill s (sent d s u x failed)
still-sent d s u x failed = (refl, after_last-seen (λ s. s.wires) (λ s c x. refl) s x.run failed)

still-moved : (d : SpiTable) (w : World) (s : SpiState) (order : Order) → (moved d w s order).wires ≡ s.wires
still-moved d w s (Fill c ws) = refl
still-moved d w s (SpiFault u) = refl
still-moved d w s _ = refl

-- ---- where a word begins

none-begins : {A : Type 0} (o : Option A) → o ≡ None → is_some o ≡ false
none-begins None e = refl
none-begins (Some x) e = absurd (cc e)

served_by-begins : (d : SpiTable) (w : World) (s : SpiState) (u received : ℕ) (r : Run) (b : Bool) → is_some (served_by d w s u received r b).begins ≡ b
served_by-begins d w s u received r true = refl
served_by-begins d w s u received r false = none-begins _ (still-last d s u r).0

served-begins : (d : SpiTable) (w : World) (s : SpiState) (k : Option ℕ) (received : ℕ) → is_some (served d w s k received (run_of s k)).begins ≡ does_go_on (run_of s k)
served-begins d w s None received = refl
served-begins d w s (Some u) received = by (run_at s u)
  where
    by : (o : Option Run) → is_some (served d w s (Some u) received o).begins ≡ does_go_on o
    by None = refl
    by (Some r) = served_by-begins d w s u received r (goes_on r)

start_by-begins : (d : SpiTable) (w : World) (s : SpiState) (k : Option ℕ) (received : ℕ) (o : Option Pending) (out : Outcome SpiState)
    → start_by d w s k received o ≡ Some out → is_some out.begins ≡ true
start_by-begins d w s None received o out h = absurd (cc h)
start_by-begins d w s (Some u) received None out h = absurd (cc h)
start_by-begins d w s (Some u) received (Some p) out h = rw (← some_is (started d w s u received p) out h) refl

sent_on-begins : (d : SpiTable) (w : World) (s : SpiState) (u received : ℕ) (x : Carrying) (b : Bool) → is_some (sent_on d w s u received x b).begins ≡ true
sent_on-begins d w s u received x true = refl
sent_on-begins d w s u received x false = refl

-- at a start and at a serving that goes on, and nowhere else
pub happens-begins : (d : SpiTable) (w : World) (s : SpiState) (h : Happening Call) (out : Outcome SpiState) → (spi_machine d).happens w s h ≡ Some out → is_some out.begins ≡ is_beginning s h
happens-begins d w s (Acts call times) out h =
    act-either (λ t. is_some t.begins ≡ false) d w s call out h (none-begins _ (still-acts d s call (error_by d call (is_off s.mode) (finds_held d s call))).0)
    (λ q e c f. refl) (λ q x c may. refl)
happens-begins d w s (Serves l received) out h =
    rw (← serve_by (ready w s l) (served d w s (unit_of l) received (run_of s (unit_of l))) out h) (served-begins d w s (unit_of l) received)
happens-begins d w s (Starts u made_by received) out h =
    start-either (λ t. is_some t.begins ≡ true) d w s (number_of u) made_by received out h
    (λ n e. start_by-begins d w s (number_of u) received (next_at d s (number_of u)) out e) (λ v q on new. refl) (λ v q x on more. sent_on-begins d w s v received x (goes_on x.run))
happens-begins d w s (Aborts u) out h = absurd (cc h)
happens-begins d w s (Moves order) out h = rw (← some_is _ out h) refl
happens-begins d w s (Restarts reason) out h = rw (← some_is _ out h) refl

-- ---- which word begins

start_by-word : (d : SpiTable) (w : World) (s : SpiState) (u received : ℕ) (p : Pending) (o : Option Pending) (out : Outcome SpiState)
    → o ≡ Some p → start_by d w s (Some u) received o ≡ Some out → out.begins ≡ Some (as_begun d u (Some p) (slice_index_or (job_words d s (next_job d p)) 0 no_word))
start_by-word d w s u received p None out e h = absurd (cc e)
start_by-word d w s u received p (Some q) out e h = rw (← some_is (started d w s u received q) out h, some_is q p e) refl

start_at-word : (d : SpiTable) (w : World) (s : SpiState) (k : Option ℕ) (received : ℕ) (out : Outcome SpiState) (u : ℕ) (p : Pending)
    → start_by d w s k received (next_at d s k) ≡ Some out → k ≡ Some u → next_at d s (Some u) ≡ Some p
    → out.begins ≡ Some (as_begun d u (Some p) (slice_index_or (job_words d s (next_job d p)) 0 no_word))
start_at-word d w s None received out u p h e f = absurd (cc e)
start_at-word d w s (Some v) received out u p h e f =
    let g : v ≡ u = some_is v u e in
    let h' : start_by d w s (Some u) received (next_at d s (Some u)) ≡ Some out = rw (← g) h in
    start_by-word d w s u received p (next_at d s (Some u)) out f h'

pub start-word : (d : SpiTable) (w : World) (s : SpiState) (unit : units.Unit) (made_by : Option Call) (received : ℕ) (out : Outcome SpiState) (u : ℕ) (p : Pending)
    → (spi_machine d).happens w s (Starts unit made_by received) ≡ Some out → number_of unit ≡ Some u → is_sync_unit d u ≡ false → next_at d s (Some u) ≡ Some p
    → out.begins ≡ Some (as_begun d u (Some p) (slice_index_or (job_words d s (next_job d p)) 0 no_word))
start-word d w s unit made_by received out u p h e n f = start_at-word d w s (number_of unit) received out u p (plain-start d w s (number_of unit) made_by received out u h e n) e f

served_by-word : (d : SpiTable) (w : World) (s : SpiState) (u received : ℕ) (r : Run) (b : Bool) → b ≡ true
    → (served_by d w s u received r b).begins ≡ Some (as_begun d u (pending_of s r) (slice_index_or r.words (length r.received + 1) no_word))
served_by-word d w s u received r false e = absurd (cc e)
served_by-word d w s u received r true e = ap (λ n. Some (as_begun d u (pending_of s r) (slice_index_or r.words n no_word))) (one_more (length r.received) r.received r.transfer.incoming refl)

served-word : (d : SpiTable) (w : World) (s : SpiState) (k : Option ℕ) (received : ℕ) (o : Option Run) (u : ℕ) (r : Run) → k ≡ Some u → o ≡ Some r → goes_on r ≡ true
    → (served d w s k received o).begins ≡ Some (as_begun d u (pending_of s r) (slice_index_or r.words (length r.received + 1) no_word))
served-word d w s None received o u r a b e = absurd (cc a)
served-word d w s (Some v) received None u r a b e = absurd (cc b)
served-word d w s (Some v) received (Some x) u r a b e = rw (some_is v u a, some_is x r b) (served_by-word d w s u received r (goes_on r) e)

pub serve-word : (d : SpiTable) (w : World) (s : SpiState) (l received : ℕ) (out : Outcome SpiState) (u : ℕ) (r : Run)
    → (spi_machine d).happens w s (Serves l received) ≡ Some out → unit_of l ≡ Some u → run_at s u ≡ Some r → goes_on r ≡ true
    → out.begins ≡ Some (as_begun d u (pending_of s r) (slice_index_or r.words (length r.received + 1) no_word))
serve-word d w s l received out u r h a b e =
    let there : run_of s (unit_of l) ≡ Some r = rw a b in
    rw (← serve_by (ready w s l) (served d w s (unit_of l) received (run_of s (unit_of l))) out h)
    (served-word d w s (unit_of l) received (run_of s (unit_of l)) u r a there e)

-- ---- what the wire shows

-- each wire shows what it did, and what begins there
abbrev Grows : SpiState → (received : ℕ) → Outcome SpiState → Type 0
Grows s received out = (u : ℕ) → wire_at out.state u ≡ wire_at s u ++ shown_on u received out.begins

grows-still : (s : SpiState) (received : ℕ) (out : Outcome SpiState) → IsStill s out → Grows s received out
grows-still s received out still u =
    ap (λ xs. slice_index_or xs u []) still.1 ∙ sym (append-nil (wire_at s u)) ∙ ap (λ b. wire_at s u ++ shown_on u received b) (sym still.0)

-- the item of a unit gets one more
more-at : (xs : List (List (ℕ × ℕ))) (u v : ℕ) (x : ℕ × ℕ) → (v ≡ u) ⊎ (v ≢ u)
    → slice_index_or (with_item [] xs u (slice_index_or xs u [] ++ x ∷ [])) v [] ≡ slice_index_or xs v [] ++ (if u == v then x ∷ [] else [])
more-at xs u v x (inl at) =
    let same : (u == u) ≡ true = grind (arith, nat_tests) in
    rw (at, same) (item-same [] xs u (slice_index_or xs u [] ++ x ∷ []))
more-at xs u v x (inr ne) =
    let other : (u == v) ≡ false = differ in
    rw other (item-other [] xs u v (slice_index_or xs u [] ++ x ∷ []) ne ∙ sym (append-nil (slice_index_or xs v [])))
  where
    differ : (u == v) ≡ false
    differ = grind (ne, arith, nat_tests)

grows-with : (d : SpiTable) (s t : SpiState) (u received : ℕ) (p : Option Pending) (r : Run) → t.wires ≡ s.wires → Grows s received (begins_on d t u received p r)
grows-with d s t u received p r e v =
    more-at t.wires u v (on_wire received (word_of r)) (same_or_other v u) ∙ ap (λ xs. slice_index_or xs v [] ++ shown_on v received (Some (as_begun d u p (word_of r)))) e

grows-served_by : (d : SpiTable) (w : World) (s : SpiState) (u received : ℕ) (r : Run) (b : Bool) → Grows s received (served_by d w s u received r b)
grows-served_by d w s u received r true =
    grows-with d s (stored s (word_of r) (word_of r).goes r.transfer.incoming) u received (pending_of s r) (begun w.now received r.sequence r.words (received_with r))
    (stored-seen (λ s. s.wires) (λ s c x. refl) s (word_of r) (word_of r).goes r.transfer.incoming)
grows-served_by d w s u received r false = grows-still s received (job_over d (after_last s r r.transfer.failed) u r.transfer.failed (pending_of s r)) (still-last d s u r)

grows-served : (d : SpiTable) (w : World) (s : SpiState) (k : Option ℕ) (received : ℕ) (o : Option Run) → Grows s received (served d w s k received o)
grows-served d w s None received o = grows-still s received (outcome s tells_nothing) (refl, refl)
grows-served d w s (Some u) received None = grows-still s received (outcome s tells_nothing) (refl, refl)
grows-served d w s (Some u) received (Some r) = grows-served_by d w s u received r (goes_on r)

grows-start : (d : SpiTable) (w : World) (s : SpiState) (k : Option ℕ) (received : ℕ) (o : Option Pending) (out : Outcome SpiState) → start_by d w s k received o ≡ Some out → Grows s received out
grows-start d w s None received o out h = absurd (cc h)
grows-start d w s (Some u) received None out h = absurd (cc h)
grows-start d w s (Some u) received (Some p) out h =
    rw (← some_is (started d w s u received p) out h)
    (grows-with d s (job_started d s p) u received (Some p) (begun w.now received p.sequence (job_words d s (next_job d p)) []) refl)

grows-carries : (d : SpiTable) (s t : SpiState) (u received : ℕ) (p : Pending) (r : Run) → t.wires ≡ s.wires → Grows s received (carries_on d t u received p r)
grows-carries d s t u received p r e v =
    more-at t.wires u v (on_wire received (word_of r)) (same_or_other v u) ∙ ap (λ xs. slice_index_or xs v [] ++ shown_on v received (Some (as_begun d u (Some p) (word_of r)))) e

grows-sent_on : (d : SpiTable) (w : World) (s : SpiState) (u received : ℕ) (x : Carrying) (b : Bool) → Grows s received (sent_on d w s u received x b)
grows-sent_on d w s u received x true =
    grows-carries d s (stored s (word_of x.run) (word_of x.run).goes x.run.transfer.incoming) u received x.entry (begun w.now received x.entry.sequence x.run.words (received_with x.run))
    (stored-seen (λ s. s.wires) (λ s c x. refl) s (word_of x.run) (word_of x.run).goes x.run.transfer.incoming)
grows-sent_on d w s u received x false =
    grows-carries d s (job_begun d (job_done d s x false) (goes_to_next x.entry)) u received (goes_to_next x.entry)
    (begun w.now received (goes_to_next x.entry).sequence (job_words d (job_done d s x false) (next_job d (goes_to_next x.entry))) [])
    (after_last-seen (λ s. s.wires) (λ s c x. refl) s x.run false)

-- whatever happens but a reset
grows : (d : SpiTable) (w : World) (s : SpiState) (h : Happening Call) (out : Outcome SpiState) → (spi_machine d).happens w s h ≡ Some out → is_reset h ≡ false → Grows s (received_at h) out
grows d w s (Acts call times) out h i =
    let error : Option ErrorName = error_by d call (is_off s.mode) (finds_held d s call) in
    act-either (Grows s 0) d w s call out h (grows-still s 0 (acts_by d s call error) (still-acts d s call error)) (λ q e c f. grows-still s 0 (outcome s (tells_error (answer_refused (Sequence q SyncTransmit)) e)) (refl, refl))
    (λ q x c may. grows-still s 0 (sent d s (unit_of_sequence d q) x x.run.transfer.failed) (still-sent d s (unit_of_sequence d q) x x.run.transfer.failed))
grows d w s (Serves l received) out h i =
    rw (← serve_by (ready w s l) (served d w s (unit_of l) received (run_of s (unit_of l))) out h) (grows-served d w s (unit_of l) received (run_of s (unit_of l)))
grows d w s (Starts u made_by received) out h i =
    start-either (Grows s received) d w s (number_of u) made_by received out h
    (λ n e. grows-start d w s (number_of u) received (next_at d s (number_of u)) out e)
    (λ v q on new. grows-carries d s (job_begun d (sequence_begun d s q) (as_requested d s q)) v received (as_requested d s q)
    (begun w.now received (as_requested d s q).sequence (job_words d (sequence_begun d s q) (next_job d (as_requested d s q))) []) refl)
    (λ v q x on more. grows-sent_on d w s v received x (goes_on x.run))
grows d w s (Aborts u) out h i = absurd (cc h)
grows d w s (Moves order) out h i = rw (← some_is _ out h) (grows-still s 0 (outcome (moved d w s order) tells_nothing) (refl, still-moved d w s order))
grows d w s (Restarts reason) out h i = absurd (cc i)

pub happens-wire : (d : SpiTable) (w : World) (s : SpiState) (h : Happening Call) (out : Outcome SpiState) (u : ℕ)
    → (spi_machine d).happens w s h ≡ Some out → is_reset h ≡ false → wire_at out.state u ≡ wire_at s u ++ shown_on u (received_at h) out.begins
happens-wire d w s h out u e i = grows d w s h out e i u
