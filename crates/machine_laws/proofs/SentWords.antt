-- The word in transfer of a unit that Spi_SyncTransmit uses, from its beginning on.
use Rattle.std.proofs.Common.{◌≡◌, ◌≢◌, ℕ, ◌+◌, ◌==◌, nat_le, Bool, true, false, not, ◌&&◌, ◌||◌, List, [], ◌∷◌, slice_index_or, Option, Some, None, refl, sym, ◌∙◌, ap, ◌⊎◌, inl, inr}
use Rattle.std.specs.Prelude.{◌↔◌, find, if◌then◌else◌}
use Rattle.std.specs.List.{list_all}
use Rattle.std.proofs.lemmas.Bool.{and_parts}
use Rattle.mcal_base.specs.facts.Numbers.{eq_is, eq_other, eq_self, same_or_other}
use Rattle.mcal_base.specs.declared.answer_name.AnswerName.{AnswerName}
use Rattle.mcal_base.specs.declared.directive.Order.{Order}
use Rattle.mcal_base.specs.declared.directive.Order.TheVariants.{Fill, SpiFault}
use Rattle.mcal_base.specs.declared.error_name.ErrorName.{ErrorName}
use Rattle.mcal_base.specs.declared.moves.Unit as units
use Rattle.run_model.specs.Frame.{state_by}
use Rattle.run_model.specs.Machine.{Happening, Acts, Serves, Starts, Aborts, Moves, Restarts, Outcome}
use Rattle.run_model.specs.World.{World}
use Rattle.spi_machine.proofs.Numbers.{item-same, item-other}
use Rattle.spi_machine.proofs.Runs.{stored-seen, after_last-seen}
use Rattle.spi_machine.proofs.Sending.{start-either}
use Rattle.spi_machine.specs.Checks.{error_by}
use Rattle.spi_machine.specs.Machine.{spi_machine, acts, acts_by, unless_busy, cancelled, cancelled_by, finds_held, after_last, sequence_after, job_over, pending_of, served_by, served, unit_of, run_of, ready, start_by, next_at, number_of, faulted_run, faulted_carrying, moved, sent, sent_on, carries_job, sequence_begun, as_requested}
use Rattle.spi_machine.specs.Numbered.{with_item}
use Rattle.spi_machine.specs.Pending.{Pending, is_of, end_by, has_further}
use Rattle.spi_machine.specs.Promised.{is_init}
use Rattle.spi_machine.specs.Runs.{Occurrence, state_after, after_all}
use Rattle.spi_machine.specs.State.{SpiState, Carrying, Off, mode_of, is_busy, is_off, is_running, carried_at}
use Rattle.spi_machine.specs.Table.{is_sync_unit}
use Rattle.spi_machine.specs.Transfers.{Run, refused, goes_on, word_of}
use Rattle.spi_machine.specs.Wiring.{unit_of_sequence}
use Rattle.spi_machine.specs.declared.call.Call.{Call}
use Rattle.spi_machine.specs.declared.call.Call.TheVariants.{Init, DeInit, SetAsyncMode, MainFunctionHandling, Channel, Sequence, Get}
use Rattle.spi_machine.specs.declared.call.ChannelCall.TheVariants.{WriteIb, ReadIb, SetupEb}
use Rattle.spi_machine.specs.declared.call.SequenceCall.TheVariants.{AsyncTransmit, Cancel, SyncTransmit}
use Rattle.spi_machine.specs.declared.table.SpiTable.{SpiTable}
use Rattle.machine_laws.specs.serial.Faults.{MeetsFault, begins_on, is_unit, leaves_word, run_carried}
use Rattle.machine_laws.proofs.Sendings.{act_so, start_so}
use Rattle.machine_laws.proofs.Words.{word_seen, After, same_word, fault_own, hit_own, hits, not_that, plain_there, sent_on_at, fails, fails_exactly, seen_failed}

abbrev pub word_sent : SpiState → (unit : ℕ) → Option (ℕ × Bool)
word_sent s u = word_seen (run_carried (carried_at s u))

-- ---- a word begins

sent_on_begins : (d : SpiTable) (w : World) (s : SpiState) (v received : ℕ) (x : Carrying) (b : Bool) (u : ℕ) → v ≡ u → word_sent (sent_on d w s v received x b).state u ≡ Some (w.now, received == refused)
sent_on_begins d w s v received x true u at = ap (λ i. word_sent (sent_on d w s v received x true).state i) (sym at) ∙ ap (λ o. word_seen (run_carried o)) (item-same None _ v _)
sent_on_begins d w s v received x false u at = ap (λ i. word_sent (sent_on d w s v received x false).state i) (sym at) ∙ ap (λ o. word_seen (run_carried o)) (item-same None _ v _)

pub sent_begins : (d : SpiTable) (w : World) (s : SpiState) (unit : units.Unit) (made_by : Option Call) (received : ℕ) (out : Outcome SpiState) (u : ℕ)
    → (spi_machine d).happens w s (Starts unit made_by received) ≡ Some out → begins_on u out.begins ≡ true → is_sync_unit d u ≡ true → word_sent out.state u ≡ Some (w.now, received == refused)
sent_begins d w s unit made_by received out u made on sync =
    start-either (λ (x : Outcome SpiState). begins_on u x.begins ≡ true → word_sent x.state u ≡ Some (w.now, received == refused)) d w s (number_of unit) made_by received out made
    (λ n e on. absurd (cc (sym (plain_there d w s (number_of unit) received (next_at d s (number_of unit)) out u n e on) ∙ sync)))
    (λ v q sent new on.
    ap (λ i. word_sent (carries_job d w (sequence_begun d s q) v received (as_requested d s q)).state i) (sym (eq_is v u on)) ∙ ap (λ o. word_seen (run_carried o)) (item-same None s.carried v _))
    (λ v q x sent more on. sent_on_begins d w s v received x (goes_on x.run) u (sent_on_at d w s v received x (goes_on x.run) u on)) on

-- ---- what leaves it

unless_carried : (b : Bool) (s after : SpiState) → after.carried ≡ s.carried → (unless_busy b s after).state.carried ≡ s.carried
unless_carried true s after e = refl
unless_carried false s after e = e

cancelled_by_carried : (d : SpiTable) (s : SpiState) (p : Pending) (b : Bool) → (cancelled_by d s p b).state.carried ≡ s.carried
cancelled_by_carried d s p true = refl
cancelled_by_carried d s p false = refl

cancelled_carried : (d : SpiTable) (s : SpiState) (o : Option Pending) → (cancelled d s o).state.carried ≡ s.carried
cancelled_carried d s None = refl
cancelled_carried d s (Some p) = cancelled_by_carried d s p (is_running s p.sequence)

pub acts_carried : (d : SpiTable) (s : SpiState) (call : Call) (e : Option ErrorName) → not (is_init call) ≡ true → (acts_by d s call e).state.carried ≡ s.carried
acts_carried d s call (Some e) left = refl
acts_carried d s Init None left = absurd (cc left)
acts_carried d s DeInit None left = unless_carried (is_busy s) s (record s { mode = Off }) refl
acts_carried d s (SetAsyncMode m) None left = unless_carried (is_busy s) s (record s { mode = mode_of m }) refl
acts_carried d s MainFunctionHandling None left = refl
acts_carried d s (Channel c (WriteIb p)) None left = refl
acts_carried d s (Channel c ReadIb) None left = refl
acts_carried d s (Channel c (SetupEb p q n)) None left = refl
acts_carried d s (Sequence q AsyncTransmit) None left = refl
acts_carried d s (Sequence q SyncTransmit) None left = refl
acts_carried d s (Sequence q Cancel) None left = cancelled_carried d s (find (is_of q) s.pending)
acts_carried d s (Get query) None left = refl

sequence_carried : (d : SpiTable) (s : SpiState) (p : Pending) (e : Option AnswerName) → (sequence_after d s p e).state.carried ≡ s.carried
sequence_carried d s p None = refl
sequence_carried d s p (Some e) = refl

over_carried : (d : SpiTable) (s : SpiState) (u : ℕ) (failed : Bool) (o : Option Pending) → (job_over d s u failed o).state.carried ≡ s.carried
over_carried d s u failed None = refl
over_carried d s u failed (Some p) = sequence_carried d _ p (end_by p.cancelled failed (has_further d p))

served_by_carried : (d : SpiTable) (w : World) (s : SpiState) (v received : ℕ) (r : Run) (b : Bool) → (served_by d w s v received r b).state.carried ≡ s.carried
served_by_carried d w s v received r true = stored-seen (λ s. s.carried) (λ s c x. refl) s (word_of r) (word_of r).goes r.transfer.incoming
served_by_carried d w s v received r false =
    over_carried d (after_last s r r.transfer.failed) v r.transfer.failed (pending_of s r) ∙ after_last-seen (λ s. s.carried) (λ s c x. refl) s r r.transfer.failed

served_carried : (d : SpiTable) (w : World) (s : SpiState) (k : Option ℕ) (received : ℕ) (o : Option Run) → (served d w s k received o).state.carried ≡ s.carried
served_carried d w s None received o = refl
served_carried d w s (Some v) received None = refl
served_carried d w s (Some v) received (Some r) = served_by_carried d w s v received r (goes_on r)

pub serves_carried : (d : SpiTable) (w : World) (s : SpiState) (line received : ℕ) (b : Bool) → (state_by s (if b then Some (served d w s (unit_of line) received (run_of s (unit_of line))) else None)).carried ≡ s.carried
serves_carried d w s line received true = served_carried d w s (unit_of line) received (run_of s (unit_of line))
serves_carried d w s line received false = refl

pub starts_carried : (d : SpiTable) (w : World) (s : SpiState) (k : Option ℕ) (received : ℕ) (o : Option Pending) → (state_by s (start_by d w s k received o)).carried ≡ s.carried
starts_carried d w s None received o = refl
starts_carried d w s (Some v) received None = refl
starts_carried d w s (Some v) received (Some p) = refl

pub sent_on_other : (d : SpiTable) (w : World) (s : SpiState) (v received : ℕ) (x : Carrying) (b : Bool) (u : ℕ) → u ≢ v → carried_at (sent_on d w s v received x b).state u ≡ carried_at s u
sent_on_other d w s v received x true u ne =
    item-other None _ v u _ ne ∙ ap (λ xs. slice_index_or xs u None) (stored-seen (λ s. s.carried) (λ s c x. refl) s (word_of x.run) (word_of x.run).goes x.run.transfer.incoming)
sent_on_other d w s v received x false u ne = item-other None _ v u _ ne ∙ ap (λ xs. slice_index_or xs u None) (after_last-seen (λ s. s.carried) (λ s c x. refl) s x.run false)

-- the end of a sequence of another unit leaves it, and that of its own frees the unit
pub sent_frees : (d : SpiTable) (s : SpiState) (v : ℕ) (x : Carrying) (failed : Bool) (u : ℕ) → (carried_at (sent d s v x failed).state u ≡ carried_at s u) ⊎ (carried_at (sent d s v x failed).state u ≡ None)
sent_frees d s v x failed u = by_unit (same_or_other u v)
  where
    by_unit : (u ≡ v) ⊎ (u ≢ v) → (carried_at (sent d s v x failed).state u ≡ carried_at s u) ⊎ (carried_at (sent d s v x failed).state u ≡ None)
    by_unit (inl at) = inr (ap (λ i. carried_at (sent d s v x failed).state i) at ∙ item-same None _ v None)
    by_unit (inr ne) = inl (item-other None _ v u None ne ∙ ap (λ xs. slice_index_or xs u None) (after_last-seen (λ s. s.carried) (λ s c x. refl) s x.run failed))

-- ---- a fault

carried_fault : (now : ℕ) (o : Option Carrying) → run_carried (faulted_carrying now o) ≡ faulted_run now (run_carried o)
carried_fault now None = refl
carried_fault now (Some x) = refl

pub moved_sent : (d : SpiTable) (w : World) (s : SpiState) (u : ℕ) (order : Order) → word_sent (moved d w s order) u ≡ After u w (word_sent s u) (Moves order)
moved_sent d w s u (Fill c ws) = sym (same_word u w (word_sent s u) (Moves (Fill c ws)) (λ b. refl))
moved_sent d w s u (SpiFault k) = by_unit (same_or_other u k)
  where
    by_unit : (u ≡ k) ⊎ (u ≢ k) → word_sent (moved d w s (SpiFault k)) u ≡ After u w (word_sent s u) (Moves (SpiFault k))
    by_unit (inl at) =
        ap (λ i. word_seen (run_carried (slice_index_or (with_item None s.carried i (faulted_carrying w.now (carried_at s i))) u None))) (sym at)
        ∙ (ap (λ o. word_seen (run_carried o)) (item-same None s.carried u (faulted_carrying w.now (carried_at s u)))
        ∙ (ap word_seen (carried_fault w.now (carried_at s u))
        ∙ (fault_own u w.now (run_carried (carried_at s u))
        ∙ hit_own u k w (word_sent s u) (ap (λ i. i == u) (sym at) ∙ eq_self u))))
    by_unit (inr ne) =
        ap (λ o. word_seen (run_carried o)) (item-other None s.carried k u (faulted_carrying w.now (carried_at s k)) ne)
        ∙ sym (same_word u w (word_sent s u) (Moves (SpiFault k)) (λ b. ap (λ q. q && not (nat_le (b + 8) w.now)) (eq_other k u (λ at. ne (sym at)))))
moved_sent d w s u order = sym (same_word u w (word_sent s u) (Moves order) (λ b. refl))

-- ---- a happening

-- the word is as it was, but for a fault, or the unit is free
abbrev pub StaysSent : (unit : ℕ) → World → SpiState → Happening Call → SpiState → Type 0
StaysSent u w s h t = (word_sent t u ≡ After u w (word_sent s u) h) ⊎ (carried_at t u ≡ None)

pub same_sent : (u : ℕ) (w : World) (s t : SpiState) (h : Happening Call) → ((began : ℕ) → hits u began w.now h ≡ false) → carried_at t u ≡ carried_at s u → StaysSent u w s h t
same_sent u w s t h none e = inl (ap (λ o. word_seen (run_carried o)) e ∙ sym (same_word u w (word_sent s u) h none))

pub step_sent : (d : SpiTable) (w : World) (s : SpiState) (u : ℕ) (h : Happening Call) → leaves_word u h ≡ true → StaysSent u w s h (state_after d w s h)
step_sent d w s u (Acts call times) left =
    act_so (StaysSent u w s (Acts call times)) d w s call (same_sent u w s s (Acts call times) (λ b. refl) refl)
    (same_sent u w s (acts d s call).state (Acts call times) (λ b. refl) (ap (λ xs. slice_index_or xs u None) (acts_carried d s call (error_by d call (is_off s.mode) (finds_held d s call)) left)))
    (λ q x ends. by_unit (unit_of_sequence d q) x (sent_frees d s (unit_of_sequence d q) x x.run.transfer.failed u))
  where
    by_unit : (v : ℕ) (x : Carrying) → (carried_at (sent d s v x x.run.transfer.failed).state u ≡ carried_at s u) ⊎ (carried_at (sent d s v x x.run.transfer.failed).state u ≡ None)
        → StaysSent u w s (Acts call times) (sent d s v x x.run.transfer.failed).state
    by_unit v x (inl e) = same_sent u w s (sent d s v x x.run.transfer.failed).state (Acts call times) (λ b. refl) e
    by_unit v x (inr e) = inr e
step_sent d w s u (Serves line received) left =
    same_sent u w s (state_after d w s (Serves line received)) (Serves line received) (λ b. refl) (ap (λ xs. slice_index_or xs u None) (serves_carried d w s line received (ready w s line)))
step_sent d w s u (Starts unit made_by received) left =
    start_so (StaysSent u w s (Starts unit made_by received)) d w s (number_of unit) made_by received (same_sent u w s s (Starts unit made_by received) (λ b. refl) refl)
    (λ n. same_sent u w s (state_by s (start_by d w s (number_of unit) received (next_at d s (number_of unit)))) (Starts unit made_by received) (λ b. refl) (ap (λ xs. slice_index_or xs u None) (starts_carried d w s (number_of unit) received (next_at d s (number_of unit)))))
    (λ v q on. same_sent u w s (carries_job d w (sequence_begun d s q) v received (as_requested d s q)).state (Starts unit made_by received) (λ b. refl) (item-other None s.carried v u _ (other v on.number)))
    (λ v q x on more. same_sent u w s (sent_on d w s v received x (goes_on x.run)).state (Starts unit made_by received) (λ b. refl) (sent_on_other d w s v received x (goes_on x.run) u (other v on.number)))
  where
    other : (v : ℕ) → number_of unit ≡ Some v → u ≢ v
    other v e = not_that v u (ap (λ k. not (is_unit u k)) (sym e) ∙ left)
step_sent d w s u (Aborts unit) left = same_sent u w s s (Aborts unit) (λ b. refl) refl
step_sent d w s u (Moves order) left = inl (moved_sent d w s u order)
step_sent d w s u (Restarts reason) left = absurd (cc left)

-- ---- histories

no_word_sent : (o : Option Carrying) → word_seen (run_carried o) ≡ None → o ≡ None
no_word_sent None e = refl
no_word_sent (Some x) e = absurd (cc e)

-- a free unit stays free
stays_free : (d : SpiTable) (s : SpiState) (u : ℕ) (xs : List Occurrence) → list_all (λ (x : Occurrence). leaves_word u x.what) xs ≡ true → carried_at s u ≡ None → carried_at (after_all d s xs) u ≡ None
stays_free d s u [] left e = e
stays_free d s u (x ∷ xs) left e =
    let parts = and_parts (leaves_word u x.what) (list_all (λ (y : Occurrence). leaves_word u y.what) xs) left in
    stays_free d (state_after d x.world s x.what) u xs parts.1 (by (step_sent d x.world s u x.what parts.0))
  where
    by : StaysSent u x.world s x.what (state_after d x.world s x.what) → carried_at (state_after d x.world s x.what) u ≡ None
    by (inl same) = no_word_sent (carried_at (state_after d x.world s x.what) u) (same ∙ ap (λ o. After u x.world (word_seen (run_carried o)) x.what) e)
    by (inr free) = free

all_sent : (d : SpiTable) (s : SpiState) (u began : ℕ) (f : Bool) (r : Run) (xs : List Occurrence) → list_all (λ (x : Occurrence). leaves_word u x.what) xs ≡ true → word_sent s u ≡ Some (began, f)
    → run_carried (carried_at (after_all d s xs) u) ≡ Some r → r.transfer.failed ≡ fails u began f xs
all_sent d s u began f r [] left e is = seen_failed (run_carried (carried_at s u)) r began f e is
all_sent d s u began f r (x ∷ xs) left e is =
    let parts = and_parts (leaves_word u x.what) (list_all (λ (y : Occurrence). leaves_word u y.what) xs) left in
    by parts.1 (step_sent d x.world s u x.what parts.0)
    (λ same. all_sent d (state_after d x.world s x.what) u began (f || hits u began x.world.now x.what) r xs parts.1 (same ∙ ap (λ o. After u x.world o x.what) e) is)
  where
    after : SpiState
    after = state_after d x.world s x.what

    by : list_all (λ (y : Occurrence). leaves_word u y.what) xs ≡ true → StaysSent u x.world s x.what after → (word_sent after u ≡ After u x.world (word_sent s u) x.what → r.transfer.failed ≡ fails u began f (x ∷ xs))
        → r.transfer.failed ≡ fails u began f (x ∷ xs)
    by left (inl same) more = more same
    by left (inr free) more = let none : run_carried (carried_at (after_all d after xs) u) ≡ None = ap run_carried (stays_free d after u xs left free) in absurd (cc (sym none ∙ is))

pub sent_failed_exactly : (d : SpiTable) (w : World) (s : SpiState) (unit : units.Unit) (made_by : Option Call) (received : ℕ) (out : Outcome SpiState) (u : ℕ) (r : Run) (xs : List Occurrence)
    → (spi_machine d).happens w s (Starts unit made_by received) ≡ Some out → begins_on u out.begins ≡ true → is_sync_unit d u ≡ true → list_all (λ (x : Occurrence). leaves_word u x.what) xs ≡ true
    → run_carried (carried_at (after_all d out.state xs) u) ≡ Some r → (r.transfer.failed ≡ true) ↔ ((received ≡ refused) ⊎ MeetsFault u w.now xs)
sent_failed_exactly d w s unit made_by received out u r xs made on sync left is =
    fails_exactly u w.now received xs r.transfer.failed (all_sent d out.state u w.now (received == refused) r xs left (sent_begins d w s unit made_by received out u made on sync) is)
