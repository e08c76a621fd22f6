-- What a journal tells of the wire of a serial unit is the wire of the machine.
use Rattle.std.proofs.Common.{◌≡◌, ℕ, ◌-◌, ◌<◌, ◌≤◌, ◌≢◌, ◌⊎◌, inl, inr, Bool, true, false, ◌==◌, List, [], ◌∷◌, ◌++◌, ◌*◌, length, take, drop, get_or, zero, suc, IsSome, Option, Some, None, refl, sym, ◌∙◌, ap, subst, arith, append-nil}
use Rattle.std.specs.Prelude.{if◌then◌else◌}
use Rattle.std.proofs.lemmas.Bool.Decides.{nat_tests}
use Rattle.std.proofs.lemmas.List.{map-append, take_rest}
use Rattle.mcal_base.specs.facts.Numbers.{same_or_other}
use Rattle.chip_blocks.proofs.of_units.SerialLaws.{has_unit-after, unit_at-with_unit_same, unit_at-with_unit_other}
use Rattle.chip_blocks.specs.units.SerialAccesses.{Access, Writes, Words, Faults, Passes, HasUnit, after as after_access}
use Rattle.chip_blocks.specs.units.Serials as serials
use Rattle.chip_blocks.specs.units.Serials.{Serials, acknowledged, begun, faulted, unit_at, with_unit}
use Rattle.chip_blocks.specs.declared.units.serial.Serial.{Serial}
use Rattle.chip_model.specs.Chip.{Chip, after_read, after_write, chip_after, happened}
use Rattle.chip_model.proofs.HistoryLaws.{level_leaves}
use Rattle.mcal_base.specs.declared.config.whole.Config.{Config}
use Rattle.mcal_base.specs.declared.directive.Directive.{Directive}
use Rattle.mcal_base.specs.declared.directive.Order.{Order}
use Rattle.mcal_base.specs.declared.directive.Order.TheVariants as orders
use Rattle.mcal_base.specs.declared.moves.Move.{Move}
use Rattle.mcal_base.specs.declared.moves.Move.TheVariants.{Read, Write, Load, Store, Mask, Unmask, Note, Report}
use Rattle.mcal_base.specs.declared.register.Reg.{Reg}
use Rattle.mcal_base.specs.declared.register.Reg.TheVariants.{EnableSet, EnableClear, TimerLow, CaptureCountLow, CaptureTimeLow, ConverterAbort, SerialSelect, SerialWidth, SerialData, SerialAck, PinFlip}
use Rattle.run_model.specs.declared.item.Stepped.{Stepped}
use Rattle.run_model.specs.declared.kept.JournalLists.{JournalLists}
use Rattle.run_model.specs.declared.kept.Kept.{Kept}
use Rattle.run_model.specs.Entry.{Entry, Said, said_at}
use Rattle.run_model.specs.Packing.{what_of, entries_in}
use Rattle.run_model.specs.Entry as said
use Rattle.run_model.specs.Frame.{Open, outcome_at, state_by, begun_by}
use Rattle.run_model.specs.Legal.{IsBegun, SendsRight, LegalStep, IsLegalDeed, IsLegal}
use Rattle.run_model.specs.Machine.{Begun, Outcome, Moves, Restarts}
use Rattle.run_model.specs.Moment.{Setting, Moment, Transition, Begins, Enters, Steps, Happens, Resets, start_moment, after_step, after, after_all}
use Rattle.run_model.specs.Script.{beginnings_of, moved_by, deed_of, deeds_of}
use Rattle.run_model.specs.Script as scripts
use Rattle.script_runner.specs.Scripts.{chip_for}
use Rattle.spi_machine.specs.Promised.{shown_on}
use Rattle.spi_machine.specs.Transfers.{shown}
use Rattle.mcal_system.specs.Runs.{moment_after}
use Rattle.mcal_drivers.specs.Setting.{SystemState, SystemCall, system_setting, call_of}
use Rattle.mcal_drivers.specs.Shows.{wire_at}
use Rattle.mcal_system.specs.Wires.{Wire, untold, exchange, with_step, with_said, with_all, exchanges_of}
use Rattle.shown_rows.specs.Wires.{pairs}
use Rattle.shown_rows.specs.declared.shown.Exchange.{Exchange}
use Rattle.mcal_drivers.proofs.Growing.{step_grows}
use Rattle.mcal_drivers.proofs.Wordless.{system_wired}

-- ---- the width of a unit

abbrev width_of : Serials → (unit : ℕ) → ℕ
width_of b u = (unit_at b u).width

-- another change of a unit leaves the width
left : (b : Serials) (u k : ℕ) (s : Serial) → HasUnit b u → s.width ≡ width_of b k → (u ≡ k) ⊎ (u ≢ k) → width_of (with_unit b k s) u ≡ width_of b u
left b u k s h e (inl at) = rw (← at) (ap (λ (x : Serial). x.width) (unit_at-with_unit_same b u s h) ∙ rw (← at) at e)
left b u k s h e (inr ne) = ap (λ (x : Serial). x.width) (unit_at-with_unit_other b k u s ne)

acknowledged_width : (s : Serial) (now : ℕ) (q : Bool) → (if q then record s { received = serials.received s now; word = None } else s).width ≡ s.width
acknowledged_width s now true = refl
acknowledged_width s now false = refl

faulted_width : (s : Serial) (q : Bool) → (if q then record s { word = serials.failing s.word } else s).width ≡ s.width
faulted_width s true = refl
faulted_width s false = refl

-- what a write to a unit makes of a width
abbrev width_by : (unit : ℕ) → Access → ℕ → ℕ
width_by u (Writes (SerialWidth k) v) n = if k == u then v else n
width_by u _ n = n

set_width : (b : Serials) (u k v : ℕ) → HasUnit b u → (u ≡ k) ⊎ (u ≢ k) → width_of (with_unit b k (record (unit_at b k) { width = v })) u ≡ (if k == u then v else width_of b u)
set_width b u k v h (inl at) =
    let same : (k == u) ≡ true = grind (arith, nat_tests) in
    rw same (rw (← at) (ap (λ (x : Serial). x.width) (unit_at-with_unit_same b u (record (unit_at b u) { width = v }) h)))
set_width b u k v h (inr ne) =
    let other : (k == u) ≡ false = grind (ne, arith, nat_tests) in
    rw other (ap (λ (x : Serial). x.width) (unit_at-with_unit_other b k u (record (unit_at b k) { width = v }) ne))

width_after : (b : Serials) (u : ℕ) (x : Access) → HasUnit b u → width_of (after_access b x) u ≡ width_by u x (width_of b u)
width_after b u (Writes (SerialSelect k) v) h = left b u k (record (unit_at b k) { select = v }) h refl (same_or_other u k)
width_after b u (Writes (SerialWidth k) v) h = set_width b u k v h (same_or_other u k)
width_after b u (Writes (SerialAck k) v) h = left b u k (acknowledged b.time (unit_at b k)) h (acknowledged_width (unit_at b k) b.time (serials.is_done (unit_at b k) b.time)) (same_or_other u k)
width_after b u (Writes _ v) h = refl
width_after b u (Words k incoming) h = left b u k (begun incoming b.time (unit_at b k)) h refl (same_or_other u k)
width_after b u (Faults k) h = left b u k (faulted b.time (unit_at b k)) h (faulted_width (unit_at b k) (serials.is_busy (unit_at b k) b.time)) (same_or_other u k)
width_after b u (Passes n) h = refl

-- ---- the serial block in the chip

-- what a write is to the block
abbrev access_of : Reg → (value received : ℕ) → Access
access_of (SerialData k) v received = Words k received
access_of r v received = Writes r v

in_write : (c : Chip) (r : Reg) (v received : ℕ) → (after_write c r v received).serials ≡ after_access c.serials (access_of r v received)
in_write c EnableSet v received = refl
in_write c EnableClear v received = refl
in_write c (SerialData k) v received = refl
in_write c r v received = refl

in_read : (c : Chip) (r : Reg) → (after_read c r).serials ≡ c.serials
in_read c (TimerLow k) = refl
in_read c (CaptureCountLow k) = refl
in_read c (CaptureTimeLow k) = refl
in_read c (ConverterAbort k) = refl
in_read c (PinFlip p) = refl
in_read c _ = refl

-- the width that a step leaves
abbrev step_width : (unit : ℕ) → Move → ℕ → ℕ
step_width u (Write (SerialWidth k) v) n = if k == u then v else n
step_width u _ n = n

write_width : (u : ℕ) (r : Reg) (v received n : ℕ) → width_by u (access_of r v received) n ≡ step_width u (Write r v) n
write_width u (SerialWidth k) v received n = refl
write_width u (SerialData k) v received n = refl
write_width u _ v received n = refl

-- the block has the unit, which has this width
abbrev HasWidth : (unit width : ℕ) → Serials → Type 0
HasWidth u n b = HasUnit b u × (n ≡ width_of b u)

accessed : (b : Serials) (u n : ℕ) (x : Access) → HasWidth u n b → HasWidth u (width_by u x n) (after_access b x)
accessed b u n x h = (has_unit-after b u x h.0, ap (λ m. width_by u x m) h.1 ∙ sym (width_after b u x h.0))

moved : (c : Chip) (u n : ℕ) (made : Move) (received : ℕ) → HasWidth u n c.serials → HasWidth u (step_width u made n) (chip_after c made received).serials
moved c u n (Read r) received h = subst (λ b. HasWidth u n b) (sym (in_read c r)) h
moved c u n (Write r v) received h =
    subst (λ b. HasWidth u (step_width u (Write r v) n) b) (sym (in_write c r v received))
    (subst (λ m. HasWidth u m (after_access c.serials (access_of r v received))) (write_width u r v received n) (accessed c.serials u n (access_of r v received) h))
moved c u n (Load k) received h = h
moved c u n (Store k v) received h = h
moved c u n Mask received h = h
moved c u n Unmask received h = h
moved c u n (Note notice) received h = h
moved c u n (Report fault) received h = h

hardware : (c : Chip) (u n : ℕ) (order : Order) → HasWidth u n c.serials → HasWidth u n (happened c order).serials
hardware c u n (orders.Tick k) h = accessed c.serials u n (Passes (k * c.clock.rate)) h
hardware c u n (orders.Level p v) h = subst (λ b. HasWidth u n b) (sym (level_leaves (λ x. x.serials) c p v refl)) h
hardware c u n (orders.SpiFault k) h = accessed c.serials u n (Faults k) h
hardware c u n (orders.Analog i v) h = h
hardware c u n (orders.Trigger i) h = h
hardware c u n (orders.Miso k ws) h = h
hardware c u n (orders.Fill k ws) h = h
hardware c u n _ h = h

fresh_width : (time u : ℕ) → u < 2 → HasWidth u 0 (serials.fresh time)
fresh_width time u lt = (record { all = refl; within = lt }, by u)
  where
    by : (k : ℕ) → 0 ≡ width_of (serials.fresh time) k
    by zero = refl
    by (suc zero) = refl
    by (suc (suc k)) = refl

-- ---- what a step sends

-- what is told of a step with this width
abbrev sent_by : (unit width : ℕ) → Move → (received : ℕ) → List Exchange
sent_by u n (Write (SerialData k) v) received = if k == u then exchange n v received ∷ [] else []
sent_by u n _ received = []

begins_as : (u k v received : ℕ) (b : Begun) (unit : Serial) (q : Bool) → IsBegun b k v unit → (if q then (b.word, shown b.width received) ∷ [] else []) ≡ pairs (if q then exchange unit.width v received ∷ [] else [])
begins_as u k v received b unit true is = rw (sym is.word, sym is.width) refl
begins_as u k v received b unit false is = refl

words_of : (c : Chip) (u k v received : ℕ) (b : Begun) → IsBegun b k v (unit_at c.serials k) → (q : Bool) → (k == u) ≡ q
    → (if q then (b.word, shown b.width received) ∷ [] else []) ≡ pairs (if q then exchange (width_of c.serials u) v received ∷ [] else [])
words_of c u k v received b is true e =
    let at : k ≡ u = grind (arith, nat_tests) in
    begins_as u k v received b (unit_at c.serials k) true is ∙ ap (λ i. pairs (exchange (width_of c.serials i) v received ∷ [])) at
words_of c u k v received b is false e = refl

sends : (c : Chip) (u received : ℕ) (o : Option Begun) (made : Move) → SendsRight c o made → shown_on u received o ≡ pairs (sent_by u (width_of c.serials u) made received)
sends c u received None (Write (SerialData k) v) h = absurd h
sends c u received None made h = refl
sends c u received (Some b) (Write (SerialData k) v) h =
    ap (λ i. if i == u then (b.word, shown b.width received) ∷ [] else []) (sym h.on) ∙ words_of c u k v received b h (k == u) refl
sends c u received (Some b) made h = absurd h

-- what is told with a step
stepped : (u : ℕ) (made : Move) (received : ℕ) (t : Wire) → with_step u made received t ≡ record { width = step_width u made t.width; words = t.words ++ sent_by u t.width made received }
stepped u (Write (SerialWidth k) v) received t = by (k == u)
  where
    by : (q : Bool) → (if q then record t { width = v } else t) ≡ record { width = if q then v else t.width; words = t.words ++ [] }
    by true = ap (λ ws. record { width = v; words = ws }) (sym (append-nil t.words))
    by false = ap (λ ws. record { width = t.width; words = ws }) (sym (append-nil t.words))
stepped u (Write (SerialData k) v) received t = by (k == u)
  where
    by : (q : Bool) → (if q then record t { words = t.words ++ exchange t.width v received ∷ [] } else t) ≡ record { width = t.width; words = t.words ++ (if q then exchange t.width v received ∷ [] else []) }
    by true = refl
    by false = ap (λ ws. record { width = t.width; words = ws }) (sym (append-nil t.words))
stepped u made received t = ap (λ ws. record { width = t.width; words = ws }) (sym (append-nil t.words))

-- ---- the deeds of a journal

-- with one more deed, and with all
abbrev with_deed : (unit : ℕ) → Transition SystemCall → Wire → Wire
with_deed u (Begins c level) t = t
with_deed u (Enters l) t = t
with_deed u (Steps s) t = with_step u s.made s.received t
with_deed u (Happens order) t = t
with_deed u (Resets reason) t = untold

abbrev with_deeds : (unit : ℕ) → List (Transition SystemCall) → Wire → Wire
with_deeds u [] t = t
with_deeds u (d ∷ ds) t = with_deeds u ds (with_deed u d t)

deeds_append : (u : ℕ) (xs ys : List (Transition SystemCall)) (t : Wire) → with_deeds u (xs ++ ys) t ≡ with_deeds u ys (with_deeds u xs t)
deeds_append u [] ys t = refl
deeds_append u (x ∷ xs) ys t = deeds_append u xs ys (with_deed u x t)

began : (u : ℕ) (o : Option Order) (t : Wire) → with_deeds u (beginnings_of call_of o) t ≡ t
began u (Some (orders.Call level r)) t = refl
began u (Some (orders.Do level r)) t = refl
began u (Some (orders.Enter line)) t = refl
began u (Some (orders.Serve line)) t = refl
began u _ t = refl

moves : (u : ℕ) (o : Order) (t : Wire) → with_deeds u (moved_by o) t ≡ t
moves u (orders.Show s) t = refl
moves u o t = refl

deed_told : (u : ℕ) (o : Option Order) (s : Said) (t : Wire) → with_deeds u (deed_of call_of o s) t ≡ with_said u s t
deed_told u o (said.Happens x) t = moves u x t
deed_told u o said.Begins t = began u o t
deed_told u o (said.Stays c) t = refl
deed_told u o (said.Steps s) t = refl
deed_told u o (said.Resets r k) t = refl

deeds_told : (u : ℕ) (script : List Directive) (es : List Entry) (t : Wire) → with_deeds u (deeds_of call_of script es) t ≡ with_all u es t
deeds_told u script [] t = refl
deeds_told u script (e ∷ es) t =
    deeds_append u (deed_of call_of (scripts.order_at script e.line) e.said) (deeds_of call_of script es) t
    ∙ ap (λ x. with_deeds u (deeds_of call_of script es) x) (deed_told u (scripts.order_at script e.line) e.said t)
    ∙ deeds_told u script es (with_said u e.said t)

-- where the first item is told the others are left
pub first_told : (u : ℕ) (lists : JournalLists) (xs : List Kept) (none : Kept) (t told : Wire) → told ≡ with_said u (said_at lists.words.now (what_of lists.rests.now (get_or xs 0 none).what)) t → 1 ≤ length xs
    → with_all u (entries_in lists (take (length xs - 1) (drop 1 xs))) told ≡ with_all u (entries_in lists xs) t
first_told u lists [] none t told is le = absurd (omega (arith, le))
first_told u lists (x ∷ xs) none t told is le = ap (λ ys. with_all u (entries_in lists ys) told) (take_rest (x ∷ xs) 1) ∙ ap (λ z. with_all u (entries_in lists xs) z) is

-- ---- what is told is so in the moment

-- the chip has the width that is told, and the machine's wire the words
pub record Holds (u : ℕ) (t : Wire) (m : Moment SystemState SystemCall) : Type 0 where
  pub width : HasWidth u t.width m.chip.serials
  pub words : pairs t.words ≡ wire_at m.state u

module _ (c : Config) (u : ℕ) (lt : u < 2) where
  abbrev g : Setting SystemState SystemCall
  g = system_setting c

  after_steps : (t : Wire) (m : Moment SystemState SystemCall) (os : List (Open SystemCall)) (s : Stepped) → LegalStep g m os s → Holds u t m → Holds u (with_step u s.made s.received t) (after_step g m os s)
  after_steps t m [] s legal h = absurd legal
  after_steps t m (o ∷ os) s legal h =
      let out : Option (Outcome SystemState) = outcome_at g.machine m.world m.state o s.made s.received s.event in
      let more : shown_on u s.received (begun_by out) ≡ pairs (sent_by u t.width s.made s.received) =
      sends m.chip u s.received (begun_by out) s.made legal.sends ∙ ap (λ n. pairs (sent_by u n s.made s.received)) (sym h.width.1) in
      subst (λ x. Holds u x (after_step g m (o ∷ os) s)) (sym (stepped u s.made s.received t)) (record {
        width = moved m.chip u t.width s.made s.received h.width;
        words =
            map-append (λ (x : Exchange). (x.sent, x.received)) t.words (sent_by u t.width s.made s.received)
            ∙ ap (λ ws. ws ++ pairs (sent_by u t.width s.made s.received)) h.words ∙ ap (λ ws. wire_at m.state u ++ ws) (sym more)
            ∙ sym (step_grows g.machine (λ x. wire_at x u) u (system_wired c u) m.world m.state o s.made s.received s.event);
      })

  hardware_words : (m : Moment SystemState SystemCall) (order : Order) → wire_at (state_by m.state (g.machine.happens m.world m.state (Moves order))) u ≡ wire_at m.state u
  hardware_words m order = by (g.machine.happens m.world m.state (Moves order)) refl
    where
      by : (o : Option (Outcome SystemState)) → g.machine.happens m.world m.state (Moves order) ≡ o → wire_at (state_by m.state o) u ≡ wire_at m.state u
      by None e = refl
      by (Some out) e = (system_wired c u m.world m.state (Moves order) out e).1

  deed_holds : (t : Wire) (m : Moment SystemState SystemCall) (x : Transition SystemCall) → IsLegalDeed g m x → Holds u t m → Holds u (with_deed u x t) (after g m x)
  deed_holds t m (Begins call level) legal h = record { width = h.width; words = h.words }
  deed_holds t m (Enters l) legal h = record { width = h.width; words = h.words }
  deed_holds t m (Steps s) legal h = after_steps t m m.opens s legal h
  deed_holds t m (Happens order) legal h = record { width = hardware m.chip u t.width order h.width; words = h.words ∙ sym (hardware_words m order) }
  deed_holds t m (Resets reason) legal h = record { width = fresh_width m.chip.serials.time u lt; words = by (g.machine.happens m.world m.state (Restarts reason)) refl legal }
    where
      by : (o : Option (Outcome SystemState)) → g.machine.happens m.world m.state (Restarts reason) ≡ o → IsSome o → [] ≡ wire_at (state_by m.state o) u
      by None e some = absurd (cc some)
      by (Some out) e some = sym (system_wired c u m.world m.state (Restarts reason) out e)

  deeds_hold : (t : Wire) (m : Moment SystemState SystemCall) (xs : List (Transition SystemCall)) → IsLegal g m xs → Holds u t m → Holds u (with_deeds u xs t) (after_all g m xs)
  deeds_hold t m [] legal h = h
  deeds_hold t m (x ∷ xs) legal h = deeds_hold (with_deed u x t) (after g m x) xs legal.3 (deed_holds t m x legal.2 h)

  first_words : [] ≡ wire_at g.first u
  unfolding system_setting
  first_words = refl

  -- the words that a legal journal tells of are those of the wire
  pub words_told : (devices : ℕ) (script : List Directive) (es : List Entry) → IsLegal g (start_moment g (chip_for devices c script)) (deeds_of call_of script es) → pairs (exchanges_of u es) ≡ wire_at (moment_after devices c script es).state u
  words_told devices script es legal =
      let start = start_moment g (chip_for devices c script) in
      let all = deeds_hold untold start (deeds_of call_of script es) legal (record { width = fresh_width 0 u lt; words = first_words }) in
      ap (λ (t : Wire). pairs t.words) (sym (deeds_told u script es untold)) ∙ all.words
