-- What each happening leaves of the running jobs.
use Rattle.std.proofs.Common.{◌≡◌, ℕ, Bool, true, false, ◌≢◌, List, [], ◌∷◌, Option, Some, None, slice_index_or, refl, sym, ◌∙◌, ap, ◌⊎◌, inl, inr, ◌+◌, ◌++◌, length, length-append}
use Rattle.std.specs.Prelude.{find, if◌then◌else◌}
use Rattle.mcal_base.specs.facts.Options.{some_is}
use Rattle.mcal_base.specs.facts.Numbers.{same_or_other}
use Rattle.mcal_base.specs.declared.answer_name.AnswerName.{AnswerName}
use Rattle.mcal_base.specs.declared.directive.Order.{Order}
use Rattle.mcal_base.specs.declared.directive.Order.TheVariants.{Fill, SpiFault}
use Rattle.mcal_base.specs.declared.error_name.ErrorName.{ErrorName}
use Rattle.mcal_base.specs.declared.moves.Unit as units
use Rattle.run_model.specs.Machine.{Happening, Acts, Serves, Starts, Aborts, Moves, Restarts, Outcome, tells_nothing, outcome}
use Rattle.run_model.specs.World.{World}
use Rattle.spi_machine.proofs.Numbers.{item-same, item-other}
use Rattle.spi_machine.proofs.Sending.{act-either, start-either, plain-start}
use Rattle.spi_machine.specs.Channels.{ChannelState}
use Rattle.spi_machine.specs.Checks.{error_by}
use Rattle.spi_machine.specs.Machine.{spi_machine, acts_by, work, unless_busy, cancelled, cancelled_by, finds_held, stored, kept, all_kept, after_last, sequence_after, job_over, served_by, served, unit_of, run_of, ready, started, start_by, next_by, next_at, number_of, job_words, faulted_run, moved, sent_on}
use Rattle.spi_machine.specs.Table.{is_sync_unit}
use Rattle.spi_machine.specs.State.{SpiState, Carrying, wire_at, is_busy, is_off, is_running, with_channel, run_at}
use Rattle.spi_machine.specs.Numbered.{with_item}
use Rattle.spi_machine.specs.Pending.{Pending, is_of, end_by, has_further, next_job, next_on}
use Rattle.spi_machine.specs.Transfers.{no_word, on_wire, Goes, ToDestination, ToChannel, Nowhere, JobWord, Run, goes_on, begun, received_with, word_of}
use Rattle.spi_machine.specs.declared.call.Call.{Call}
use Rattle.spi_machine.specs.declared.call.Call.TheVariants.{Init, DeInit, SetAsyncMode, MainFunctionHandling, Channel, Sequence, Get}
use Rattle.spi_machine.specs.declared.call.ChannelCall.TheVariants.{WriteIb, ReadIb, SetupEb}
use Rattle.spi_machine.specs.declared.call.SequenceCall.TheVariants.{AsyncTransmit, Cancel, SyncTransmit}
use Rattle.spi_machine.specs.declared.table.SpiTable.{SpiTable}

-- ---- what doesn't look at channels

abbrev pub Blind : {A : Type 0} → (SpiState → A) → Type 0
Blind see = (s : SpiState) (c : ℕ) (x : ChannelState) → see (with_channel s c x) ≡ see s

pub stored-seen : {A : Type 0} (see : SpiState → A) → Blind see → (s : SpiState) (x : JobWord) (g : Goes) (v : ℕ) → see (stored s x g v) ≡ see s
stored-seen see blind s x ToDestination v = blind s x.channel _
stored-seen see blind s x ToChannel v = refl
stored-seen see blind s x Nowhere v = refl

kept-seen : {A : Type 0} (see : SpiState → A) → Blind see → (s : SpiState) (x : JobWord) (g : Goes) (v : ℕ) → see (kept s x g v) ≡ see s
kept-seen see blind s x ToDestination v = refl
kept-seen see blind s x ToChannel v = blind s x.channel _
kept-seen see blind s x Nowhere v = refl

all_kept-seen : {A : Type 0} (see : SpiState → A) → Blind see → (s : SpiState) (xs : List JobWord) (vs : List ℕ) → see (all_kept s xs vs) ≡ see s
all_kept-seen see blind s [] vs = refl
all_kept-seen see blind s (x ∷ xs) [] = refl
all_kept-seen see blind s (x ∷ xs) (v ∷ vs) = all_kept-seen see blind (kept s x x.goes v) xs vs ∙ kept-seen see blind s x x.goes v

pub after_last-seen : {A : Type 0} (see : SpiState → A) → Blind see → (s : SpiState) (r : Run) (failed : Bool) → see (after_last s r failed) ≡ see s
after_last-seen see blind s r true = refl
after_last-seen see blind s r false = all_kept-seen see blind (stored s (word_of r) (word_of r).goes r.transfer.incoming) r.words (received_with r) ∙ stored-seen see blind s (word_of r) (word_of r).goes r.transfer.incoming

-- ---- the units after a serving

sequence_after-units : (d : SpiTable) (s : SpiState) (p : Pending) (e : Option AnswerName) → (sequence_after d s p e).state.units ≡ s.units
sequence_after-units d s p None = refl
sequence_after-units d s p (Some e) = refl

job_over-units : (d : SpiTable) (s : SpiState) (u : ℕ) (failed : Bool) (o : Option Pending) → (job_over d s u failed o).state.units ≡ with_item None s.units u None
job_over-units d s u failed None = refl
job_over-units d s u failed (Some p) = sequence_after-units d _ p (end_by p.cancelled failed (has_further d p))

-- a run goes on with the same words, or a unit is free
abbrev Follows : Run → Option Run → Type 0
Follows r n = (q : Run) → n ≡ Some q → q.words ≡ r.words

-- the units are as they were but for one, which follows its run
abbrev GoOn : List (Option Run) → List (Option Run) → Type 0
GoOn us vs = (u : ℕ) (r q : Run) → slice_index_or us u None ≡ Some r → slice_index_or vs u None ≡ Some q → q.words ≡ r.words

same_run : (o : Option Run) (r q : Run) → o ≡ Some r → o ≡ Some q → q.words ≡ r.words
same_run o r q e f = let g : q ≡ r = cc (e, f) in ap (λ r. r.words) g

goes_same : (us vs : List (Option Run)) → vs ≡ us → GoOn us vs
goes_same us vs e u r q h g = same_run (slice_index_or us u None) r q h (rw e at g)

goes_by : (us : List (Option Run)) (k : ℕ) (n : Option Run) (u : ℕ) (r q : Run) → ((x : Run) → slice_index_or us k None ≡ Some x → Follows x n)
    → slice_index_or us u None ≡ Some r → slice_index_or (with_item None us k n) u None ≡ Some q → (u ≡ k) ⊎ (u ≢ k) → q.words ≡ r.words
goes_by us k n u r q f h g (inl at) = f r (rw at at h) q (sym (item-same None us k n) ∙ rw at at g)
goes_by us k n u r q f h g (inr ne) = same_run (slice_index_or us u None) r q h (sym (item-other None us k u n ne) ∙ g)

goes_at : (us vs : List (Option Run)) (k : ℕ) (n : Option Run) → vs ≡ with_item None us k n → ((x : Run) → slice_index_or us k None ≡ Some x → Follows x n) → GoOn us vs
goes_at us vs k n e f u r q h g = goes_by us k n u r q f h (rw e at g) (same_or_other u k)

follows-self : (x y : Run) (n : Option Run) → y.words ≡ x.words → n ≡ Some y → Follows x n
follows-self x y n e f q g = let h : q ≡ y = cc (f, g) in ap (λ r. r.words) h ∙ e

-- ---- each happening

served_by-goes : (d : SpiTable) (w : World) (s : SpiState) (u received : ℕ) (r : Run) (b : Bool) → run_at s u ≡ Some r → GoOn s.units (served_by d w s u received r b).state.units
served_by-goes d w s u received r true h =
    let next : Run = begun w.now received r.sequence r.words (received_with r) in
    goes_at s.units _ u (Some next) (ap (λ us. with_item None us u (Some next)) (stored-seen (λ s. s.units) (λ s c x. refl) s (word_of r) (word_of r).goes r.transfer.incoming))
    (λ x e. follows-self x next (Some next) (same_run (run_at s u) x r e h) refl)
served_by-goes d w s u received r false h =
    goes_at s.units _ u None
    (job_over-units d (after_last s r r.transfer.failed) u r.transfer.failed (find (is_of r.sequence) s.pending) ∙ ap (λ us. with_item None us u None) (after_last-seen (λ s. s.units) (λ s c x. refl) s r r.transfer.failed))
    (λ x e q f. absurd (cc f))

served-goes : (d : SpiTable) (w : World) (s : SpiState) (k : Option ℕ) (received : ℕ) (o : Option Run) → run_of s k ≡ o → GoOn s.units (served d w s k received o).state.units
served-goes d w s None received o h = goes_same s.units s.units refl
served-goes d w s (Some k) received None h = goes_same s.units s.units refl
served-goes d w s (Some k) received (Some r) h = served_by-goes d w s k received r (goes_on r) h

unless-units : (b : Bool) (s after : SpiState) → after.units ≡ s.units → (unless_busy b s after).state.units ≡ s.units
unless-units true s after e = refl
unless-units false s after e = e

cancelled_by-units : (d : SpiTable) (s : SpiState) (p : Pending) (b : Bool) → (cancelled_by d s p b).state.units ≡ s.units
cancelled_by-units d s p true = refl
cancelled_by-units d s p false = refl

cancelled-units : (d : SpiTable) (s : SpiState) (o : Option Pending) → (cancelled d s o).state.units ≡ s.units
cancelled-units d s None = refl
cancelled-units d s (Some p) = cancelled_by-units d s p (is_running s p.sequence)

work-goes : (d : SpiTable) (s : SpiState) (call : Call) → GoOn s.units (work d s call).state.units
work-goes d s Init = λ u r q h g. absurd (cc g)
work-goes d s DeInit = goes_same s.units _ (unless-units (is_busy s) s _ refl)
work-goes d s (SetAsyncMode m) = goes_same s.units _ (unless-units (is_busy s) s _ refl)
work-goes d s MainFunctionHandling = goes_same s.units _ refl
work-goes d s (Channel c (WriteIb p)) = goes_same s.units _ refl
work-goes d s (Channel c ReadIb) = goes_same s.units _ refl
work-goes d s (Channel c (SetupEb p q n)) = goes_same s.units _ refl
work-goes d s (Sequence q AsyncTransmit) = goes_same s.units _ refl
work-goes d s (Sequence q Cancel) = goes_same s.units _ (cancelled-units d s (find (is_of q) s.pending))
work-goes d s (Sequence q SyncTransmit) = goes_same s.units _ refl
work-goes d s (Get query) = goes_same s.units _ refl

acts_by-goes : (d : SpiTable) (s : SpiState) (call : Call) (e : Option ErrorName) → GoOn s.units (acts_by d s call e).state.units
acts_by-goes d s call None = work-goes d s call
acts_by-goes d s call (Some e) = goes_same s.units _ refl

faulted-follows : (now : ℕ) (o : Option Run) (x : Run) → o ≡ Some x → Follows x (faulted_run now o)
faulted-follows now None x h q e = absurd (cc h)
faulted-follows now (Some r) x h q e = let f : record r { transfer = _ } ≡ q = some_is _ q e in sym (ap (λ r. r.words) f) ∙ ap (λ r. r.words) (some_is r x h)

moved-goes : (d : SpiTable) (w : World) (s : SpiState) (order : Order) → GoOn s.units (moved d w s order).units
moved-goes d w s (SpiFault u) = goes_at s.units _ u (faulted_run w.now (run_at s u)) refl (faulted-follows w.now (run_at s u))
moved-goes d w s (Fill c ws) = goes_same s.units _ refl
moved-goes d w s _ = goes_same s.units _ refl

-- a unit that may start is free
free_by : (d : SpiTable) (s : SpiState) (u : ℕ) (p : Pending) (off : Bool) (o : Option Run) → (if off then None else next_by d s u o) ≡ Some p → o ≡ None
free_by d s u p true o h = absurd (cc h)
free_by d s u p false None h = refl
free_by d s u p false (Some r) h = absurd (cc h)

pub free-start : (d : SpiTable) (s : SpiState) (u : ℕ) (p : Pending) → next_at d s (Some u) ≡ Some p → run_at s u ≡ None
free-start d s u p h = free_by d s u p (is_off s.mode) (run_at s u) h

on_by : (d : SpiTable) (s : SpiState) (u : ℕ) (p : Pending) (off : Bool) (o : Option Run) → (if off then None else next_by d s u o) ≡ Some p → next_on d u s.pending ≡ Some p
on_by d s u p true o h = absurd (cc h)
on_by d s u p false None h = h
on_by d s u p false (Some r) h = absurd (cc h)

-- and starts the next job of the pending sequences
pub start-on : (d : SpiTable) (s : SpiState) (u : ℕ) (p : Pending) → next_at d s (Some u) ≡ Some p → next_on d u s.pending ≡ Some p
start-on d s u p h = on_by d s u p (is_off s.mode) (run_at s u) h

start_by-goes : (d : SpiTable) (w : World) (s : SpiState) (k : Option ℕ) (received : ℕ) (o : Option Pending) (out : Outcome SpiState)
    → next_at d s k ≡ o → start_by d w s k received o ≡ Some out → GoOn s.units out.state.units
start_by-goes d w s None received o out e h = absurd (cc h)
start_by-goes d w s (Some u) received None out e h = absurd (cc h)
start_by-goes d w s (Some u) received (Some p) out e h =
    rw (← some_is (started d w s u received p) out h)
    (goes_at s.units _ u _ refl (λ x f. let free : run_at s u ≡ None = free-start d s u p e in absurd (cc (f, free))))

pub serve_by : {A : Type 0} (b : Bool) (x out : A) → (if b then Some x else None) ≡ Some out → x ≡ out
serve_by true x out h = cc h
serve_by false x out h = absurd (cc h)

-- a word of a sequence that a call sends leaves the units' jobs
sent_on-units : (d : SpiTable) (w : World) (s : SpiState) (u received : ℕ) (x : Carrying) (b : Bool) → (sent_on d w s u received x b).state.units ≡ s.units
sent_on-units d w s u received x true = stored-seen (λ s. s.units) (λ s c x. refl) s (word_of x.run) (word_of x.run).goes x.run.transfer.incoming
sent_on-units d w s u received x false = after_last-seen (λ s. s.units) (λ s c x. refl) s x.run false

-- whatever happens, a unit that runs a job before and after it has the same words
pub happens-goes : (d : SpiTable) (w : World) (s : SpiState) (h : Happening Call) (out : Outcome SpiState) → (spi_machine d).happens w s h ≡ Some out → GoOn s.units out.state.units
happens-goes d w s (Acts call times) out h =
    act-either (λ t. GoOn s.units t.state.units) d w s call out h (acts_by-goes d s call (error_by d call (is_off s.mode) (finds_held d s call)))
    (λ q e c f. goes_same s.units _ refl) (λ q x c may. goes_same s.units _ (after_last-seen (λ s. s.units) (λ s c x. refl) s x.run x.run.transfer.failed))
happens-goes d w s (Serves l received) out h =
    rw (← serve_by (ready w s l) (served d w s (unit_of l) received (run_of s (unit_of l))) out h) (served-goes d w s (unit_of l) received (run_of s (unit_of l)) refl)
happens-goes d w s (Starts u made_by received) out h =
    start-either (λ t. GoOn s.units t.state.units) d w s (number_of u) made_by received out h
    (λ n e. start_by-goes d w s (number_of u) received (next_at d s (number_of u)) out refl e) (λ v q on new. goes_same s.units _ refl)
    (λ v q x on more. goes_same s.units _ (sent_on-units d w s v received x (goes_on x.run)))
happens-goes d w s (Aborts u) out h = absurd (cc h)
happens-goes d w s (Moves order) out h = rw (← some_is (outcome (moved d w s order) tells_nothing) out h) (moved-goes d w s order)
happens-goes d w s (Restarts reason) out h = rw (← some_is _ out h) (λ u r q f g. absurd (cc g))

-- ---- a start

start_by-begins : (d : SpiTable) (w : World) (s : SpiState) (u received : ℕ) (p : Pending) (o : Option Pending) (out : Outcome SpiState)
    → o ≡ Some p → start_by d w s (Some u) received o ≡ Some out → run_at out.state u ≡ Some (begun w.now received p.sequence (job_words d s (next_job d p)) [])
start_by-begins d w s u received p None out e h = absurd (cc e)
start_by-begins d w s u received p (Some q) out e h =
    rw (← some_is (started d w s u received q) out h, some_is q p e) (item-same None s.units u _)

start_at-begins : (d : SpiTable) (w : World) (s : SpiState) (k : Option ℕ) (received : ℕ) (out : Outcome SpiState) (u : ℕ) (p : Pending)
    → start_by d w s k received (next_at d s k) ≡ Some out → k ≡ Some u → next_at d s (Some u) ≡ Some p
    → run_at out.state u ≡ Some (begun w.now received p.sequence (job_words d s (next_job d p)) [])
start_at-begins d w s None received out u p h e f = absurd (cc e)
start_at-begins d w s (Some v) received out u p h e f =
    let g : v ≡ u = some_is v u e in
    let h' : start_by d w s (Some u) received (next_at d s (Some u)) ≡ Some out = rw (← g) h in
    start_by-begins d w s u received p (next_at d s (Some u)) out f h'

-- the job of the next sequence begins with its words as its channels stand
pub start-begins : (d : SpiTable) (w : World) (s : SpiState) (unit : units.Unit) (made_by : Option Call) (received : ℕ) (out : Outcome SpiState) (u : ℕ) (p : Pending)
    → (spi_machine d).happens w s (Starts unit made_by received) ≡ Some out → number_of unit ≡ Some u → is_sync_unit d u ≡ false → next_at d s (Some u) ≡ Some p
    → run_at out.state u ≡ Some (begun w.now received p.sequence (job_words d s (next_job d p)) [])
start-begins d w s unit made_by received out u p h e n f = start_at-begins d w s (number_of unit) received out u p (plain-start d w s (number_of unit) made_by received out u h e n) e f

-- ---- what the wire shows

pub one_more : (n : ℕ) (vs : List ℕ) (v : ℕ) → length vs ≡ n → length (vs ++ v ∷ []) ≡ n + 1
one_more n vs v e = length-append vs (v ∷ []) ∙ rw e refl

served_by-sends : (d : SpiTable) (w : World) (s : SpiState) (u received : ℕ) (r : Run) (b : Bool) → b ≡ true
    → wire_at (served_by d w s u received r b).state u ≡ wire_at s u ++ on_wire received (slice_index_or r.words (length r.received + 1) no_word) ∷ []
served_by-sends d w s u received r false e = absurd (cc e)
served_by-sends d w s u received r true e =
    let t : SpiState = stored s (word_of r) (word_of r).goes r.transfer.incoming in
    item-same [] t.wires u _
    ∙ rw (one_more (length r.received) r.received r.transfer.incoming refl)
    (ap (λ xs. slice_index_or xs u [] ++ on_wire received (slice_index_or r.words (length r.received + 1) no_word) ∷ []) (stored-seen (λ s. s.wires) (λ s c x. refl) s (word_of r) (word_of r).goes r.transfer.incoming))

served-sends : (d : SpiTable) (w : World) (s : SpiState) (k : Option ℕ) (received : ℕ) (o : Option Run) (u : ℕ) (r : Run) → k ≡ Some u → o ≡ Some r → goes_on r ≡ true
    → wire_at (served d w s k received o).state u ≡ wire_at s u ++ on_wire received (slice_index_or r.words (length r.received + 1) no_word) ∷ []
served-sends d w s None received o u r a b e = absurd (cc a)
served-sends d w s (Some v) received None u r a b e = absurd (cc b)
served-sends d w s (Some v) received (Some x) u r a b e = rw (some_is v u a, some_is x r b) (served_by-sends d w s u received r (goes_on r) e)

-- a serving that goes on sends the job's next word
pub serve-sends : (d : SpiTable) (w : World) (s : SpiState) (l received : ℕ) (out : Outcome SpiState) (u : ℕ) (r : Run)
    → (spi_machine d).happens w s (Serves l received) ≡ Some out → unit_of l ≡ Some u → run_at s u ≡ Some r → goes_on r ≡ true
    → wire_at out.state u ≡ wire_at s u ++ on_wire received (slice_index_or r.words (length r.received + 1) no_word) ∷ []
serve-sends d w s l received out u r h a b e =
    let there : run_of s (unit_of l) ≡ Some r = rw a b in
    rw (← serve_by (ready w s l) (served d w s (unit_of l) received (run_of s (unit_of l))) out h)
    (served-sends d w s (unit_of l) received (run_of s (unit_of l)) u r a there e)
