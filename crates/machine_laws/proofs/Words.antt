-- A unit's word in transfer, from its beginning on.
use Rattle.std.proofs.Common.{◌≡◌, ◌≢◌, ℕ, zero, suc, ◌+◌, ◌<◌, ◌==◌, nat_le, Bool, true, false, not, ◌&&◌, ◌||◌, List, [], ◌∷◌, length, slice_index_or, Option, Some, None, refl, sym, ◌∙◌, ap, arith, ◌⊎◌, inl, inr}
use Rattle.std.specs.Prelude.{◌↔◌, find, is_some, if◌then◌else◌}
use Rattle.std.specs.List.{list_all}
use Rattle.std.proofs.lemmas.Bool.Decides.{nat_tests}
use Rattle.std.proofs.lemmas.Bool.{and_from, and_parts, or_right}
use Rattle.mcal_base.specs.facts.Truths.{or_false, or_true}
use Rattle.mcal_base.specs.facts.Options.{some_is}
use Rattle.mcal_base.specs.facts.Numbers.{eq_is, eq_other, eq_self, same_or_other}
use Rattle.mcal_base.specs.declared.answer_name.AnswerName.{AnswerName}
use Rattle.mcal_base.specs.declared.directive.Order.{Order}
use Rattle.mcal_base.specs.declared.directive.Order.TheVariants.{Fill, SpiFault}
use Rattle.mcal_base.specs.declared.error_name.ErrorName.{ErrorName}
use Rattle.run_model.specs.Frame.{state_by}
use Rattle.run_model.specs.Machine.{Happening, Acts, Serves, Starts, Aborts, Moves, Restarts, Begun, Outcome}
use Rattle.run_model.specs.World.{World}
use Rattle.spi_machine.proofs.Numbers.{item-same, item-other}
use Rattle.spi_machine.proofs.Runs.{stored-seen, after_last-seen, serve_by}
use Rattle.spi_machine.proofs.Begins.{happens-begins}
use Rattle.spi_machine.proofs.Sending.{start-either}
use Rattle.spi_machine.specs.Checks.{error_by}
use Rattle.spi_machine.specs.Machine.{spi_machine, acts_by, sent_on, is_sync_number, unless_busy, cancelled, cancelled_by, finds_held, stored, after_last, sequence_after, job_over, pending_of, served_by, served, unit_of, run_of, ready, started, start_by, next_at, number_of, faulted_run, moved}
use Rattle.spi_machine.specs.Numbered.{with_item}
use Rattle.spi_machine.specs.Pending.{Pending, is_of, end_by, has_further}
use Rattle.spi_machine.specs.Promised.{received_at, is_init, is_beginning}
use Rattle.spi_machine.specs.Runs.{Occurrence, state_after, after_all}
use Rattle.spi_machine.specs.State.{SpiState, Carrying, Off, mode_of, is_busy, is_off, is_running, run_at}
use Rattle.spi_machine.specs.Table.{is_sync_unit}
use Rattle.spi_machine.specs.Transfers.{Run, refused, is_done, goes_on, word_of}
use Rattle.spi_machine.specs.declared.call.Call.{Call}
use Rattle.spi_machine.specs.declared.call.Call.TheVariants.{Init, DeInit, SetAsyncMode, MainFunctionHandling, Channel, Sequence, Get}
use Rattle.spi_machine.specs.declared.call.ChannelCall.TheVariants.{WriteIb, ReadIb, SetupEb}
use Rattle.spi_machine.specs.declared.call.SequenceCall.TheVariants.{AsyncTransmit, Cancel, SyncTransmit}
use Rattle.spi_machine.specs.declared.table.SpiTable.{SpiTable}
use Rattle.machine_laws.specs.serial.Faults.{MeetsFault, begins_on, is_unit, leaves_word}
use Rattle.machine_laws.proofs.Sendings.{act_so, start_so}

-- ---- a word begins

-- when the word in transfer of a run began, and whether it has failed
abbrev pub word_seen : Option Run → Option (ℕ × Bool)
word_seen None = None
word_seen (Some r) = Some (r.transfer.began, r.transfer.failed)

started_begins : (d : SpiTable) (w : World) (s : SpiState) (k : Option ℕ) (received : ℕ) (o : Option Pending) (out : Outcome SpiState) (u : ℕ) → start_by d w s k received o ≡ Some out → begins_on u out.begins ≡ true
    → word_seen (run_at out.state u) ≡ Some (w.now, received == refused)
started_begins d w s None received o out u e on = absurd (cc e)
started_begins d w s (Some v) received None out u e on = absurd (cc e)
started_begins d w s (Some v) received (Some p) out u e on =
    let is : started d w s v received p ≡ out = some_is (started d w s v received p) out e in
    let at : v ≡ u = eq_is v u (ap (λ (x : Outcome SpiState). begins_on u x.begins) is ∙ on) in
    ap (λ (x : Outcome SpiState). word_seen (run_at x.state u)) (sym is)
    ∙ (ap (λ i. word_seen (run_at (started d w s v received p).state i)) (sym at) ∙ ap word_seen (item-same None s.units v _))

sequence_begins : (d : SpiTable) (t : SpiState) (p : Pending) (e : Option AnswerName) → (sequence_after d t p e).begins ≡ None
sequence_begins d t p None = refl
sequence_begins d t p (Some x) = refl

over_begins : (d : SpiTable) (t : SpiState) (v : ℕ) (failed : Bool) (o : Option Pending) → (job_over d t v failed o).begins ≡ None
over_begins d t v failed None = refl
over_begins d t v failed (Some p) = sequence_begins d _ p (end_by p.cancelled failed (has_further d p))

none_begins : (out : Outcome SpiState) (u : ℕ) → out.begins ≡ None → begins_on u out.begins ≡ true → ⊥
none_begins out u e on = let no : begins_on u out.begins ≡ false = ap (λ o. begins_on u o) e in absurd (cc (sym no ∙ on))

-- the word of a serving begins on its unit
served_by_on : (d : SpiTable) (w : World) (s : SpiState) (v received : ℕ) (r : Run) (b : Bool) (u : ℕ) → begins_on u (served_by d w s v received r b).begins ≡ true → (v ≡ u) × (b ≡ true)
served_by_on d w s v received r true u on = (eq_is v u on, refl)
served_by_on d w s v received r false u on =
    absurd (none_begins (job_over d (after_last s r r.transfer.failed) v r.transfer.failed (pending_of s r)) u (over_begins d (after_last s r r.transfer.failed) v r.transfer.failed (pending_of s r)) on)

pub served_begins_on : (d : SpiTable) (w : World) (s : SpiState) (k : Option ℕ) (received : ℕ) (o : Option Run) (u : ℕ) → begins_on u (served d w s k received o).begins ≡ true → (r : Run) × (k ≡ Some u) × (o ≡ Some r)
served_begins_on d w s None received o u on = absurd (cc on)
served_begins_on d w s (Some v) received None u on = absurd (cc on)
served_begins_on d w s (Some v) received (Some r) u on = (r, ap (λ i. Some i) (served_by_on d w s v received r (goes_on r) u on).0, refl)

served_by_begins : (d : SpiTable) (w : World) (s : SpiState) (v received : ℕ) (r : Run) (b : Bool) (u : ℕ) → begins_on u (served_by d w s v received r b).begins ≡ true
    → word_seen (run_at (served_by d w s v received r b).state u) ≡ Some (w.now, received == refused)
served_by_begins d w s v received r false u on = let no : false ≡ true = (served_by_on d w s v received r false u on).1 in absurd (cc no)
served_by_begins d w s v received r true u on =
    let at : v ≡ u = eq_is v u on in
    ap (λ i. word_seen (run_at (served_by d w s v received r true).state i)) (sym at) ∙ ap word_seen (item-same None _ v _)

served_begins : (d : SpiTable) (w : World) (s : SpiState) (k : Option ℕ) (received : ℕ) (o : Option Run) (u : ℕ) → begins_on u (served d w s k received o).begins ≡ true
    → word_seen (run_at (served d w s k received o).state u) ≡ Some (w.now, received == refused)
served_begins d w s None received o u on = absurd (cc on)
served_begins d w s (Some v) received None u on = absurd (cc on)
served_begins d w s (Some v) received (Some r) u on = served_by_begins d w s v received r (goes_on r) u on

some_begins : (u : ℕ) (o : Option Begun) → begins_on u o ≡ true → is_some o ≡ true
some_begins u None e = absurd (cc e)
some_begins u (Some b) e = refl

not_begun : (d : SpiTable) (w : World) (s : SpiState) (h : Happening Call) (out : Outcome SpiState) (u : ℕ) → (spi_machine d).happens w s h ≡ Some out → is_beginning s h ≡ false → begins_on u out.begins ≡ true → ⊥
not_begun d w s h out u made none on = absurd (cc (sym (some_begins u out.begins on) ∙ (happens-begins d w s h out made ∙ none)))

-- the unit of a start is the one on which its word begins
start_at : (d : SpiTable) (w : World) (s : SpiState) (k : Option ℕ) (received : ℕ) (o : Option Pending) (out : Outcome SpiState) (u : ℕ) → start_by d w s k received o ≡ Some out → begins_on u out.begins ≡ true → k ≡ Some u
start_at d w s None received o out u e on = absurd (cc e)
start_at d w s (Some v) received None out u e on = absurd (cc e)
start_at d w s (Some v) received (Some p) out u e on =
    ap (λ i. Some i) (eq_is v u (ap (λ (x : Outcome SpiState). begins_on u x.begins) (some_is (started d w s v received p) out e) ∙ on))

pub sent_on_at : (d : SpiTable) (w : World) (s : SpiState) (v received : ℕ) (x : Carrying) (b : Bool) (u : ℕ) → begins_on u (sent_on d w s v received x b).begins ≡ true → v ≡ u
sent_on_at d w s v received x true u on = eq_is v u on
sent_on_at d w s v received x false u on = eq_is v u on

-- a word of Spi_SyncTransmit begins on a unit that it uses
sync_there : (d : SpiTable) (k : Option ℕ) (v u : ℕ) → k ≡ Some v → is_sync_number d k ≡ true → v ≡ u → is_sync_unit d u ≡ false → ⊥
sync_there d k v u number sync at plain = let on : is_sync_unit d u ≡ true = ap (λ i. is_sync_unit d i) (sym at) ∙ (ap (λ j. is_sync_number d j) (sym number) ∙ sync) in absurd (cc (sym on ∙ plain))

pub plain_there : (d : SpiTable) (w : World) (s : SpiState) (k : Option ℕ) (received : ℕ) (o : Option Pending) (out : Outcome SpiState) (u : ℕ) → is_sync_number d k ≡ false → start_by d w s k received o ≡ Some out → begins_on u out.begins ≡ true
    → is_sync_unit d u ≡ false
plain_there d w s k received o out u plain e on = ap (λ j. is_sync_number d j) (sym (start_at d w s k received o out u e on)) ∙ plain

pub begins_seen : (d : SpiTable) (w : World) (s : SpiState) (h : Happening Call) (out : Outcome SpiState) (u : ℕ) → (spi_machine d).happens w s h ≡ Some out → begins_on u out.begins ≡ true → is_sync_unit d u ≡ false
    → word_seen (run_at out.state u) ≡ Some (w.now, received_at h == refused)
begins_seen d w s (Acts call times) out u made on plain = absurd (not_begun d w s (Acts call times) out u made refl on)
begins_seen d w s (Serves line received) out u made on plain =
    let is = serve_by (ready w s line) (served d w s (unit_of line) received (run_of s (unit_of line))) out made in
    ap (λ (x : Outcome SpiState). word_seen (run_at x.state u)) (sym is)
    ∙ served_begins d w s (unit_of line) received (run_of s (unit_of line)) u (ap (λ (x : Outcome SpiState). begins_on u x.begins) is ∙ on)
begins_seen d w s (Starts unit made_by received) out u made on plain =
    start-either (λ (x : Outcome SpiState). begins_on u x.begins ≡ true → word_seen (run_at x.state u) ≡ Some (w.now, received == refused)) d w s (number_of unit) made_by received out made
    (λ n e on. started_begins d w s (number_of unit) received (next_at d s (number_of unit)) out u e on)
    (λ v q sent new on. absurd (sync_there d (number_of unit) v u sent.number sent.unit (eq_is v u on) plain))
    (λ v q x sent more on. absurd (sync_there d (number_of unit) v u sent.number sent.unit (sent_on_at d w s v received x (goes_on x.run) u on) plain)) on
begins_seen d w s (Aborts unit) out u made on plain = absurd (cc made)
begins_seen d w s (Moves order) out u made on plain = absurd (not_begun d w s (Moves order) out u made refl on)
begins_seen d w s (Restarts reason) out u made on plain = absurd (not_begun d w s (Restarts reason) out u made refl on)

-- ---- what meets it

-- a fault of the unit before a word that began then is done
abbrev pub hits : (unit began now : ℕ) → Happening Call → Bool
hits u began now (Moves (SpiFault k)) = k == u && not (nat_le (began + 8) now)
hits u began now h = false

-- the word in transfer after a happening
abbrev pub After : (unit : ℕ) → World → Option (ℕ × Bool) → Happening Call → Option (ℕ × Bool)
After u w None h = None
After u w (Some x) h = Some (x.0, x.1 || hits u x.0 w.now h)

pub same_word : (u : ℕ) (w : World) (o : Option (ℕ × Bool)) (h : Happening Call) → ((began : ℕ) → hits u began w.now h ≡ false) → After u w o h ≡ o
same_word u w None h none = refl
same_word u w (Some x) h none = ap (λ b. Some (x.0, b)) (ap (λ b. x.1 || b) (none x.0) ∙ or_false x.1)

-- units are as before
unless_units : (b : Bool) (s after : SpiState) → after.units ≡ s.units → (unless_busy b s after).state.units ≡ s.units
unless_units true s after e = refl
unless_units false s after e = e

cancelled_by_units : (d : SpiTable) (s : SpiState) (p : Pending) (b : Bool) → (cancelled_by d s p b).state.units ≡ s.units
cancelled_by_units d s p true = refl
cancelled_by_units d s p false = refl

cancelled_units : (d : SpiTable) (s : SpiState) (o : Option Pending) → (cancelled d s o).state.units ≡ s.units
cancelled_units d s None = refl
cancelled_units d s (Some p) = cancelled_by_units d s p (is_running s p.sequence)

pub acts_units : (d : SpiTable) (s : SpiState) (call : Call) (e : Option ErrorName) → not (is_init call) ≡ true → (acts_by d s call e).state.units ≡ s.units
acts_units d s call (Some e) left = refl
acts_units d s Init None left = absurd (cc left)
acts_units d s DeInit None left = unless_units (is_busy s) s (record s { mode = Off }) refl
acts_units d s (SetAsyncMode m) None left = unless_units (is_busy s) s (record s { mode = mode_of m }) refl
acts_units d s MainFunctionHandling None left = refl
acts_units d s (Channel c (WriteIb p)) None left = refl
acts_units d s (Channel c ReadIb) None left = refl
acts_units d s (Channel c (SetupEb p q n)) None left = refl
acts_units d s (Sequence q AsyncTransmit) None left = refl
acts_units d s (Sequence q SyncTransmit) None left = refl
acts_units d s (Sequence q Cancel) None left = cancelled_units d s (find (is_of q) s.pending)
acts_units d s (Get query) None left = refl

pub sent_on_units : (d : SpiTable) (w : World) (s : SpiState) (u received : ℕ) (x : Carrying) (b : Bool) → (sent_on d w s u received x b).state.units ≡ s.units
sent_on_units d w s u received x true = stored-seen (λ s. s.units) (λ s c x. refl) s (word_of x.run) (word_of x.run).goes x.run.transfer.incoming
sent_on_units d w s u received x false = after_last-seen (λ s. s.units) (λ s c x. refl) s x.run false

-- another unit's run
pub not_that : (v u : ℕ) → not (v == u) ≡ true → u ≢ v
not_that v u e at = let no : not (v == u) ≡ false = ap (λ i. not (v == i)) at ∙ ap not (eq_self v) in absurd (cc (sym no ∙ e))

sequence_units : (d : SpiTable) (s : SpiState) (p : Pending) (e : Option AnswerName) → (sequence_after d s p e).state.units ≡ s.units
sequence_units d s p None = refl
sequence_units d s p (Some e) = refl

over_units : (d : SpiTable) (s : SpiState) (u : ℕ) (failed : Bool) (o : Option Pending) → (job_over d s u failed o).state.units ≡ with_item None s.units u None
over_units d s u failed None = refl
over_units d s u failed (Some p) = sequence_units d _ p (end_by p.cancelled failed (has_further d p))

served_by_other : (d : SpiTable) (w : World) (s : SpiState) (v received : ℕ) (r : Run) (b : Bool) (u : ℕ) → u ≢ v → run_at (served_by d w s v received r b).state u ≡ run_at s u
served_by_other d w s v received r true u ne =
    let t : SpiState = stored s (word_of r) (word_of r).goes r.transfer.incoming in
    item-other None t.units v u _ ne ∙ ap (λ us. slice_index_or us u None) (stored-seen (λ s. s.units) (λ s c x. refl) s (word_of r) (word_of r).goes r.transfer.incoming)
served_by_other d w s v received r false u ne =
    let t : SpiState = after_last s r r.transfer.failed in
    ap (λ us. slice_index_or us u None) (over_units d t v r.transfer.failed (pending_of s r))
    ∙ (item-other None t.units v u None ne ∙ ap (λ us. slice_index_or us u None) (after_last-seen (λ s. s.units) (λ s c x. refl) s r r.transfer.failed))

served_other : (d : SpiTable) (w : World) (s : SpiState) (k : Option ℕ) (received : ℕ) (o : Option Run) (u : ℕ) → not (is_unit u k) ≡ true → run_at (served d w s k received o).state u ≡ run_at s u
served_other d w s None received o u left = refl
served_other d w s (Some v) received None u left = refl
served_other d w s (Some v) received (Some r) u left = served_by_other d w s v received r (goes_on r) u (not_that v u left)

pub serves_other : (d : SpiTable) (w : World) (s : SpiState) (line received u : ℕ) (b : Bool) → not (is_unit u (unit_of line)) ≡ true → run_at (state_by s (if b then Some (served d w s (unit_of line) received (run_of s (unit_of line))) else None)) u ≡ run_at s u
serves_other d w s line received u true left = served_other d w s (unit_of line) received (run_of s (unit_of line)) u left
serves_other d w s line received u false left = refl

pub starts_other : (d : SpiTable) (w : World) (s : SpiState) (k : Option ℕ) (received : ℕ) (o : Option Pending) (u : ℕ) → not (is_unit u k) ≡ true → run_at (state_by s (start_by d w s k received o)) u ≡ run_at s u
starts_other d w s None received o u left = refl
starts_other d w s (Some v) received None u left = refl
starts_other d w s (Some v) received (Some p) u left = item-other None s.units v u _ (not_that v u left)

-- ---- a fault

-- a word that isn't done fails
abbrev pub After_fault : (now : ℕ) → Option (ℕ × Bool) → Option (ℕ × Bool)
After_fault now None = None
After_fault now (Some x) = Some (x.0, x.1 || not (nat_le (x.0 + 8) now))

abbrev pair : ℕ → Bool → Option (ℕ × Bool)
pair began failed = Some (began, failed)

abbrev fault_seen : (began : ℕ) (failed late : Bool) → Option (ℕ × Bool)
fault_seen began failed late = Some (began, failed || late)

pub fault_own : (u now : ℕ) (o : Option Run) → word_seen (faulted_run now o) ≡ After_fault now (word_seen o)
fault_own u now None = refl
fault_own u now (Some r) = by_done (is_done now r.transfer) where
  by_done : (b : Bool) → word_seen (Some (record r { transfer = if b then r.transfer else record r.transfer { failed = true } })) ≡ fault_seen r.transfer.began r.transfer.failed (not b)
  by_done true = ap (λ q. pair r.transfer.began q) (sym (or_false r.transfer.failed))
  by_done false = ap (λ q. pair r.transfer.began q) (sym (or_true r.transfer.failed))

pub hit_own : (u k : ℕ) (w : World) (o : Option (ℕ × Bool)) → (k == u) ≡ true → After_fault w.now o ≡ After u w o (Moves (SpiFault k))
hit_own u k w None e = refl
hit_own u k w (Some x) e = ap (λ q. pair x.0 (x.1 || (q && not (nat_le (x.0 + 8) w.now)))) (sym e)

moved_word : (d : SpiTable) (w : World) (s : SpiState) (u : ℕ) (order : Order) → word_seen (run_at (moved d w s order) u) ≡ After u w (word_seen (run_at s u)) (Moves order)
moved_word d w s u (Fill c ws) = sym (same_word u w (word_seen (run_at s u)) (Moves (Fill c ws)) (λ b. refl))
moved_word d w s u (SpiFault k) = by_unit (same_or_other u k) where
  by_unit : (u ≡ k) ⊎ (u ≢ k) → word_seen (run_at (moved d w s (SpiFault k)) u) ≡ After u w (word_seen (run_at s u)) (Moves (SpiFault k))
  by_unit (inl at) =
      ap (λ i. word_seen (slice_index_or (with_item None s.units i (faulted_run w.now (run_at s i))) u None)) (sym at)
      ∙ (ap word_seen (item-same None s.units u (faulted_run w.now (run_at s u)))
      ∙ (fault_own u w.now (run_at s u)
      ∙ hit_own u k w (word_seen (run_at s u)) (ap (λ i. i == u) (sym at) ∙ eq_self u)))
  by_unit (inr ne) =
      ap word_seen (item-other None s.units k u (faulted_run w.now (run_at s k)) ne)
      ∙ sym (same_word u w (word_seen (run_at s u)) (Moves (SpiFault k)) (λ b. ap (λ q. q && not (nat_le (b + 8) w.now)) (eq_other k u (λ at. ne (sym at)))))
moved_word d w s u order = sym (same_word u w (word_seen (run_at s u)) (Moves order) (λ b. refl))

-- ---- a happening

pub step_word : (d : SpiTable) (w : World) (s : SpiState) (u : ℕ) (h : Happening Call) → leaves_word u h ≡ true → word_seen (run_at (state_after d w s h) u) ≡ After u w (word_seen (run_at s u)) h
step_word d w s u (Acts call times) left =
    act_so (λ t. word_seen (run_at t u) ≡ word_seen (run_at s u)) d w s call refl
    (ap (λ us. word_seen (slice_index_or us u None)) (acts_units d s call (error_by d call (is_off s.mode) (finds_held d s call)) left))
    (λ q x ends. ap (λ us. word_seen (slice_index_or us u None)) (after_last-seen (λ s. s.units) (λ s c x. refl) s x.run x.run.transfer.failed))
    ∙ sym (same_word u w (word_seen (run_at s u)) (Acts call times) (λ b. refl))
step_word d w s u (Serves line received) left =
    ap word_seen (serves_other d w s line received u (ready w s line) left) ∙ sym (same_word u w (word_seen (run_at s u)) (Serves line received) (λ b. refl))
step_word d w s u (Starts unit made_by received) left =
    start_so (λ t. word_seen (run_at t u) ≡ word_seen (run_at s u)) d w s (number_of unit) made_by received refl
    (λ n. ap word_seen (starts_other d w s (number_of unit) received (next_at d s (number_of unit)) u left))
    (λ v q on. refl) (λ v q x on more. ap (λ us. word_seen (slice_index_or us u None)) (sent_on_units d w s v received x (goes_on x.run)))
    ∙ sym (same_word u w (word_seen (run_at s u)) (Starts unit made_by received) (λ b. refl))
step_word d w s u (Aborts unit) left = sym (same_word u w (word_seen (run_at s u)) (Aborts unit) (λ b. refl))
step_word d w s u (Moves order) left = moved_word d w s u order
step_word d w s u (Restarts reason) left = absurd (cc left)

-- ---- histories

abbrev pub fails : (unit began : ℕ) → Bool → List Occurrence → Bool
fails u began f [] = f
fails u began f (x ∷ xs) = fails u began (f || hits u began x.world.now x.what) xs

pub all_words : (d : SpiTable) (s : SpiState) (u began : ℕ) (f : Bool) (xs : List Occurrence) → list_all (λ (x : Occurrence). leaves_word u x.what) xs ≡ true → word_seen (run_at s u) ≡ Some (began, f)
    → word_seen (run_at (after_all d s xs) u) ≡ Some (began, fails u began f xs)
all_words d s u began f [] left e = e
all_words d s u began f (x ∷ xs) left e =
    let parts = and_parts (leaves_word u x.what) (list_all (λ (y : Occurrence). leaves_word u y.what) xs) left in
    all_words d (state_after d x.world s x.what) u began (f || hits u began x.world.now x.what) xs parts.1
    (step_word d x.world s u x.what parts.0 ∙ ap (λ o. After u x.world o x.what) e)

-- ---- a fault among them

late : (a b : ℕ) → not (nat_le a b) ≡ true → b < a
late a b e = grind (arith, nat_tests)

is_late : (a b : ℕ) → b < a → not (nat_le a b) ≡ true
is_late a b h = grind (arith, nat_tests)

hit_is : (u began now : ℕ) (h : Happening Call) → hits u began now h ≡ true → (h ≡ Moves (SpiFault u)) × (now < began + 8)
hit_is u began now (Moves (SpiFault k)) e =
    let parts = and_parts (k == u) (not (nat_le (began + 8) now)) e in
    (ap (λ i. Moves (SpiFault i)) (eq_is k u parts.0), late (began + 8) now parts.1)
hit_is u began now h e = absurd (cc e)

is_hit : (u began now : ℕ) (h : Happening Call) → h ≡ Moves (SpiFault u) → now < began + 8 → hits u began now h ≡ true
is_hit u began now h e soon = ap (λ x. hits u began now x) e ∙ and_from (u == u) (not (nat_le (began + 8) now)) (eq_self u) (is_late (began + 8) now soon)

either : (a b : Bool) → (a || b) ≡ true → (a ≡ true) ⊎ (b ≡ true)
either true b e = inl refl
either false b e = inr e

further : (u began : ℕ) (x : Occurrence) (xs : List Occurrence) → MeetsFault u began xs → MeetsFault u began (x ∷ xs)
further u began x xs m =
    let k = m.among.0 in
    record { fault = m.fault; among = (suc k, omega (arith, m.among.1), m.among.2); is = m.is; soon = m.soon }

pub fault_found : (u began : ℕ) (f : Bool) (xs : List Occurrence) → fails u began f xs ≡ true → (f ≡ true) ⊎ MeetsFault u began xs
fault_found u began f [] e = inl e
fault_found u began f (x ∷ xs) e = by (fault_found u began (f || hits u began x.world.now x.what) xs e) where
  here : (f ≡ true) ⊎ (hits u began x.world.now x.what ≡ true) → (f ≡ true) ⊎ MeetsFault u began (x ∷ xs)
  here (inl was) = inl was
  here (inr now) = let is = hit_is u began x.world.now x.what now in inr (record { fault = x; among = (0, omega arith, refl); is = is.0; soon = is.1 })

  by : ((f || hits u began x.world.now x.what) ≡ true) ⊎ MeetsFault u began xs → (f ≡ true) ⊎ MeetsFault u began (x ∷ xs)
  by (inl first) = here (either f (hits u began x.world.now x.what) first)
  by (inr later) = inr (further u began x xs later)

stays_failed : (u began : ℕ) (f : Bool) (xs : List Occurrence) → f ≡ true → fails u began f xs ≡ true
stays_failed u began f [] e = e
stays_failed u began f (x ∷ xs) e = stays_failed u began (f || hits u began x.world.now x.what) xs (ap (λ q. q || hits u began x.world.now x.what) e)

hit_at : (u began : ℕ) (f : Bool) (xs : List Occurrence) (k : ℕ) (y : Occurrence) → k < length xs → slice_index_or xs k y ≡ y → y.what ≡ Moves (SpiFault u) → y.world.now < began + 8 → fails u began f xs ≡ true
hit_at u began f [] k y lt at is soon = absurd (omega (arith, lt))
hit_at u began f (x ∷ xs) zero y lt at is soon =
    stays_failed u began (f || hits u began x.world.now x.what) xs
    (or_right f _ (ap (λ (z : Occurrence). hits u began z.world.now z.what) at ∙ is_hit u began y.world.now y.what is soon))
hit_at u began f (x ∷ xs) (suc k) y lt at is soon = hit_at u began (f || hits u began x.world.now x.what) xs k y (omega (arith, lt)) at is soon

pub fault_fails : (u began : ℕ) (f : Bool) (xs : List Occurrence) → (f ≡ true) ⊎ MeetsFault u began xs → fails u began f xs ≡ true
fault_fails u began f xs (inl e) = stays_failed u began f xs e
fault_fails u began f xs (inr m) = hit_at u began f xs m.among.0 m.fault m.among.1 m.among.2 m.is m.soon

-- ---- the word in transfer

pub seen_failed : (o : Option Run) (r : Run) (began : ℕ) (f : Bool) → word_seen o ≡ Some (began, f) → o ≡ Some r → r.transfer.failed ≡ f
seen_failed o r began f e is = let same : Some (r.transfer.began, r.transfer.failed) ≡ Some (began, f) = sym (ap word_seen is) ∙ e in ap (λ (p : ℕ × Bool). p.1) (some_is _ _ same)

pub fails_exactly : (u began received : ℕ) (xs : List Occurrence) (failed : Bool) → failed ≡ fails u began (received == refused) xs → (failed ≡ true) ↔ ((received ≡ refused) ⊎ MeetsFault u began xs)
fails_exactly u began received xs failed is = (λ e. forth (fault_found u began (received == refused) xs (sym is ∙ e)), λ e. is ∙ fault_fails u began (received == refused) xs (back e))
  where
    forth : ((received == refused) ≡ true) ⊎ MeetsFault u began xs → (received ≡ refused) ⊎ MeetsFault u began xs
    forth (inl e) = inl (eq_is received refused e)
    forth (inr m) = inr m

    back : (received ≡ refused) ⊎ MeetsFault u began xs → ((received == refused) ≡ true) ⊎ MeetsFault u began xs
    back (inl e) = inl (ap (λ n. n == refused) e ∙ eq_self refused)
    back (inr m) = inr m

pub failed_exactly : (d : SpiTable) (w : World) (s : SpiState) (h : Happening Call) (out : Outcome SpiState) (u : ℕ) (r : Run) (xs : List Occurrence)
    → (spi_machine d).happens w s h ≡ Some out → begins_on u out.begins ≡ true → is_sync_unit d u ≡ false → list_all (λ (x : Occurrence). leaves_word u x.what) xs ≡ true → run_at (after_all d out.state xs) u ≡ Some r
    → (r.transfer.failed ≡ true) ↔ ((received_at h ≡ refused) ⊎ MeetsFault u w.now xs)
failed_exactly d w s h out u r xs made on plain left runs =
    fails_exactly u w.now (received_at h) xs r.transfer.failed
    (seen_failed (run_at (after_all d out.state xs) u) r w.now (fails u w.now (received_at h == refused) xs) (all_words d out.state u w.now (received_at h == refused) xs left (begins_seen d w s h out u made on plain)) runs)
