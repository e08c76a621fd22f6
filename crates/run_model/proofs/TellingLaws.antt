-- What a journal alone tells of the devices is what its deeds make of them.
use Rattle.std.proofs.Common.{◌≡◌, ◌≢◌, ℕ, zero, suc, ◌+◌, ◌*◌, ◌-◌, ◌<◌, ◌⊎◌, inl, inr, Bool, true, false, ◌==◌, ◌&&◌, nat_lt, cond, List, [], ◌∷◌, ◌++◌, length, Option, Some, None, refl, sym, ◌∙◌, ap, subst, arith}
use Rattle.std.proofs.lemmas.Bool.Decides.{eqb_tells, nat_tests}
use Rattle.std.proofs.lemmas.List.Sums.{sum_by-append}
use Rattle.std.specs.Prelude.{if◌then◌else◌, slice_get}
use Rattle.mcal_base.specs.facts.Numbers.{same_or_other}
use Rattle.chip_blocks.proofs.of_units.SerialLaws.{has_unit-after, unit_at-with_unit_same, unit_at-with_unit_other}
use Rattle.chip_blocks.specs.units.SerialAccesses.{Access, Writes, Words, Faults, Passes, HasUnit, after as after_access}
use Rattle.chip_blocks.specs.units.Serials as serials
use Rattle.chip_blocks.specs.units.Serials.{Serials, acknowledged, begun, faulted, masked, unit_at, with_unit}
use Rattle.chip_blocks.specs.declared.units.serial.Serial.{Serial}
use Rattle.chip_model.specs.Chip.{Chip, after_read, after_write, chip_after, happened, names_device}
use Rattle.chip_model.proofs.DeviceLaws.{devices-move}
use Rattle.chip_model.proofs.HistoryLaws.{level_leaves}
use Rattle.mcal_base.specs.Reach.{CanApply}
use Rattle.mcal_base.specs.declared.directive.Directive.{Directive}
use Rattle.mcal_base.specs.declared.directive.Order.{Order}
use Rattle.mcal_base.specs.declared.directive.Order.TheVariants as orders
use Rattle.mcal_base.specs.declared.directive.Request.{Request}
use Rattle.mcal_base.specs.declared.moves.Move.{Move}
use Rattle.mcal_base.specs.declared.moves.Move.TheVariants.{Read, Write, Load, Store, Mask, Unmask, Note, Report}
use Rattle.mcal_base.specs.declared.register.Reg.{Reg}
use Rattle.mcal_base.specs.declared.register.Reg.TheVariants.{EnableSet, EnableClear, TimerLow, CaptureCountLow, CaptureTimeLow, ConverterAbort, SerialSelect, SerialWidth, SerialData, SerialAck, PinFlip}
use Rattle.serial_devices.specs.Lines.{Line, extended}
use Rattle.run_model.specs.declared.item.Stepped.{Stepped}
use Rattle.run_model.specs.Devices.{AreTold, HasRisen, drops_by, drops_in, is_under, sent_by, pairs_at, pairs_by, pairs_from, refusals_by, refusals_from}
use Rattle.run_model.specs.Entry as entry
use Rattle.run_model.specs.Exchanges.{Ports, AreToldBy, ports_fresh, ports_made, ports_after, is_under_port, sent_port, pairs_said, refusals_said, pairs_told, refusals_told, dropped_by, dropped_in}
use Rattle.run_model.specs.Frame.{Open}
use Rattle.run_model.specs.Legal.{LegalStep, IsLegalDeed, IsLegal}
use Rattle.run_model.specs.Moment.{Setting, Moment, Transition, Begins, Enters, Steps, Happens, Resets, after_step, after}
use Rattle.run_model.specs.Script.{order_at, deed_of, deeds_of}
use Rattle.run_model.specs.World.{with_at}

-- ---- the selects and widths of the serial block

-- what was written last to the ports of one unit stands in the block
pub record HasPort (b : Serials) (p : Ports) (u : ℕ) : Type 0 where
  pub there : HasUnit b u
  pub select : (unit_at b u).select ≡ p.select u
  pub width : (unit_at b u).width ≡ p.width u

-- what an access writes to the ports
abbrev ports_by : Access → Ports → Ports
ports_by (Writes (SerialSelect k) v) p = record p { select = with_at p.select k v }
ports_by (Writes (SerialWidth k) v) p = record p { width = with_at p.width k v }
ports_by x p = p

-- a number of a unit after another change, and after one that sets it
left : (see : Serial → ℕ) (b : Serials) (u k : ℕ) (s : Serial) → HasUnit b u → see s ≡ see (unit_at b k) → (u ≡ k) ⊎ (u ≢ k) → see (unit_at (with_unit b k s) u) ≡ see (unit_at b u)
left see b u k s h e (inl at) = rw (← at) (ap see (unit_at-with_unit_same b u s h) ∙ rw (← at) at e)
left see b u k s h e (inr ne) = ap see (unit_at-with_unit_other b k u s ne)

set : (see : Serial → ℕ) (b : Serials) (u k : ℕ) (s : Serial) → HasUnit b u → ((u == k) ≡ true) × (u ≡ k) ⊎ ((u == k) ≡ false) × (u ≢ k) → see (unit_at (with_unit b k s) u) ≡ cond (u == k) (see s) (see (unit_at b u))
set see b u k s h (inl at) = rw at.0 (rw (← at.1) (ap see (unit_at-with_unit_same b u s h)))
set see b u k s h (inr ne) = rw ne.0 (ap see (unit_at-with_unit_other b k u s ne.1))

acknowledged_same : (s : Serial) (now : ℕ) (q : Bool) → let t = (if q then record s { received = serials.received s now; word = None } else s) in (t.select ≡ s.select) × (t.width ≡ s.width)
acknowledged_same s now true = (refl, refl)
acknowledged_same s now false = (refl, refl)

faulted_same : (s : Serial) (q : Bool) → let t = (if q then record s { word = serials.failing s.word } else s) in (t.select ≡ s.select) × (t.width ≡ s.width)
faulted_same s true = (refl, refl)
faulted_same s false = (refl, refl)

-- a change of a unit that leaves its select and its width
left_both : (b : Serials) (p : Ports) (u k : ℕ) (s : Serial) → HasUnit (with_unit b k s) u → s.select ≡ (unit_at b k).select → s.width ≡ (unit_at b k).width → HasPort b p u → HasPort (with_unit b k s) p u
left_both b p u k s there e f h = record {
  there = there;
  select = left (λ x. x.select) b u k s h.there e (same_or_other u k) ∙ h.select;
  width = left (λ x. x.width) b u k s h.there f (same_or_other u k) ∙ h.width;
}

accessed : (b : Serials) (p : Ports) (u : ℕ) (x : Access) → HasPort b p u → HasPort (after_access b x) (ports_by x p) u
accessed b p u (Writes (SerialSelect k) v) h = record {
  there = has_unit-after b u (Writes (SerialSelect k) v) h.there;
  select = set (λ x. x.select) b u k (record (unit_at b k) { select = v }) h.there (eqb_tells u k) ∙ ap (λ n. cond (u == k) v n) h.select;
  width = left (λ x. x.width) b u k (record (unit_at b k) { select = v }) h.there refl (same_or_other u k) ∙ h.width;
}
accessed b p u (Writes (SerialWidth k) v) h = record {
  there = has_unit-after b u (Writes (SerialWidth k) v) h.there;
  select = left (λ x. x.select) b u k (record (unit_at b k) { width = v }) h.there refl (same_or_other u k) ∙ h.select;
  width = set (λ x. x.width) b u k (record (unit_at b k) { width = v }) h.there (eqb_tells u k) ∙ ap (λ n. cond (u == k) v n) h.width;
}
accessed b p u (Writes (SerialAck k) v) h =
    let same = acknowledged_same (unit_at b k) b.time (serials.is_done (unit_at b k) b.time) in
    left_both b p u k (acknowledged b.time (unit_at b k)) (has_unit-after b u (Writes (SerialAck k) v) h.there) same.0 same.1 h
accessed b p u (Writes r v) h = h
accessed b p u (Words k incoming) h = left_both b p u k (begun incoming b.time (unit_at b k)) (has_unit-after b u (Words k incoming) h.there) refl refl h
accessed b p u (Faults k) h =
    let same = faulted_same (unit_at b k) (serials.is_busy (unit_at b k) b.time) in
    left_both b p u k (faulted b.time (unit_at b k)) (has_unit-after b u (Faults k) h.there) same.0 same.1 h
accessed b p u (Passes n) h = record { there = has_unit-after b u (Passes n) h.there; select = h.select; width = h.width }

-- ---- the serial block in the chip

-- what a write is to the block
abbrev access_of : Reg → (value received : ℕ) → Access
access_of (SerialData k) v received = Words k received
access_of r v received = Writes r v

in_write : (c : Chip) (r : Reg) (v received : ℕ) → (after_write c r v received).serials ≡ after_access c.serials (access_of r v received)
in_write c EnableSet v received = refl
in_write c EnableClear v received = refl
in_write c (SerialData k) v received = refl
in_write c r v received = refl

in_read : (c : Chip) (r : Reg) → (after_read c r).serials ≡ c.serials
in_read c (TimerLow k) = refl
in_read c (CaptureCountLow k) = refl
in_read c (CaptureTimeLow k) = refl
in_read c (ConverterAbort k) = refl
in_read c (PinFlip p) = refl
in_read c _ = refl

write_ports : (r : Reg) (v received : ℕ) (p : Ports) → ports_by (access_of r v received) p ≡ ports_made (Write r v) p
write_ports (SerialSelect k) v received p = refl
write_ports (SerialWidth k) v received p = refl
write_ports (SerialData k) v received p = refl
write_ports r v received p = refl

moved : (c : Chip) (p : Ports) (u : ℕ) (made : Move) (received : ℕ) → HasPort c.serials p u → HasPort (chip_after c made received).serials (ports_made made p) u
moved c p u (Read r) received h = subst (λ b. HasPort b p u) (sym (in_read c r)) h
moved c p u (Write r v) received h =
    subst (λ b. HasPort b (ports_made (Write r v) p) u) (sym (in_write c r v received))
    (subst (λ q. HasPort (after_access c.serials (access_of r v received)) q u) (write_ports r v received p) (accessed c.serials p u (access_of r v received) h))
moved c p u (Load k) received h = h
moved c p u (Store k v) received h = h
moved c p u Mask received h = h
moved c p u Unmask received h = h
moved c p u (Note notice) received h = h
moved c p u (Report fault) received h = h

hardware : (c : Chip) (p : Ports) (u : ℕ) (order : Order) → HasPort c.serials p u → HasPort (happened c order).serials (ports_after (entry.Happens order) p) u
hardware c p u (orders.Tick k) h = accessed c.serials p u (Passes (k * c.clock.rate)) h
hardware c p u (orders.Level k v) h = subst (λ b. HasPort b p u) (sym (level_leaves (λ x. x.serials) c k v refl)) h
hardware c p u (orders.SpiFault k) h = accessed c.serials p u (Faults k) h
hardware c p u orders.Detach h = record { there = h.there; select = h.select; width = h.width }
hardware c p u _ h = h

fresh : (time devices u : ℕ) → u < 2 → HasPort (serials.fresh time) (ports_fresh devices) u
fresh time devices zero lt = record { there = record { all = refl; within = lt }; select = refl; width = refl }
fresh time devices (suc zero) lt = record { there = record { all = refl; within = lt }; select = refl; width = refl }
fresh time devices (suc (suc k)) lt = absurd (omega (arith, lt))

-- ---- the ports hold in a moment

-- the chip has the selects, the widths and the devices that are told
record Holds (c : Chip) (p : Ports) : Type 0 where
  pub units : (u : ℕ) → u < 2 → HasPort c.serials p u
  pub devices : c.devices ≡ p.devices

ports_devices : (made : Move) (p : Ports) → (ports_made made p).devices ≡ p.devices
ports_devices (Write r v) p = by r
  where
    by : (r : Reg) → (ports_made (Write r v) p).devices ≡ p.devices
    by (SerialSelect k) = refl
    by (SerialWidth k) = refl
    by r = refl
ports_devices made p = refl

-- what a deed is to a journal
abbrev said_of : {Call : Type 0} → Transition Call → entry.Said
said_of (Begins c level) = entry.Begins
said_of (Enters l) = entry.Begins
said_of (Steps s) = entry.Steps s
said_of (Happens order) = entry.Happens order
said_of (Resets reason) = entry.Resets reason 0

hardware_devices : (c : Chip) (p : Ports) (order : Order) → c.devices ≡ p.devices → (happened c order).devices ≡ (ports_after (entry.Happens order) p).devices
hardware_devices c p (orders.Level k v) e = level_leaves (λ x. x.devices) c k v refl ∙ e
hardware_devices c p orders.Detach e = ap (λ n. n - 1) e
hardware_devices c p _ e = e

-- the move of a step can be applied
abbrev CanMake : {Call : Type 0} → Transition Call → Type 0
CanMake (Begins c level) = Unit {0}
CanMake (Enters l) = Unit {0}
CanMake (Steps s) = CanApply s.made
CanMake (Happens order) = Unit {0}
CanMake (Resets reason) = Unit {0}

module _ {State Call : Type 0} (g : Setting State Call) where
  legal_step : (m : Moment State Call) (os : List (Open Call)) (s : Stepped) → LegalStep g m os s → CanApply s.made
  legal_step m [] s legal = absurd legal
  legal_step m (o ∷ os) s legal = legal.there

  legal_deed : (m : Moment State Call) (x : Transition Call) → IsLegalDeed g m x → CanMake x
  legal_deed m (Begins c level) legal = tt
  legal_deed m (Enters l) legal = tt
  legal_deed m (Steps s) legal = legal_step m m.opens s legal
  legal_deed m (Happens order) legal = tt
  legal_deed m (Resets reason) legal = tt

  after_steps : (m : Moment State Call) (os : List (Open Call)) (s : Stepped) (p : Ports) → LegalStep g m os s → Holds m.chip p → Holds (after_step g m os s).chip (ports_made s.made p)
  after_steps m [] s p legal h = absurd legal
  after_steps m (o ∷ os) s p legal h = record {
    units = λ u lt. moved m.chip p u s.made s.received (h.units u lt);
    devices = devices-move m.chip s.made s.received ∙ h.devices ∙ sym (ports_devices s.made p);
  }

  after_deed : (m : Moment State Call) (x : Transition Call) (p : Ports) → IsLegalDeed g m x → Holds m.chip p → Holds (after g m x).chip (ports_after (said_of x) p)
  after_deed m (Begins c level) p legal h = h
  after_deed m (Enters l) p legal h = h
  after_deed m (Steps s) p legal h = after_steps m m.opens s p legal h
  after_deed m (Happens order) p legal h = record { units = λ u lt. hardware m.chip p u order (h.units u lt); devices = hardware_devices m.chip p order h.devices }
  after_deed m (Resets reason) p legal h = record { units = λ u lt. fresh m.chip.serials.time p.devices u lt; devices = h.devices }

-- ---- the exchanges of a device

-- what a move tells of the device at a place
under : (place : ℕ) (c : Chip) (p : Ports) (made : Move) → CanApply made → Holds c p → (is_under c place made ≡ is_under_port place p made) × (sent_by c made ≡ sent_port p made)
under place c p (Write (SerialData u) v) can h =
    let port = h.units u can in
    let named : (names_device (p.select u) p.devices && p.select u == place + 1) ≡ (nat_lt place p.devices && p.select u == place + 1) = grind (arith, nat_tests) in
    (rw (port.select, h.devices) named, ap (λ n. masked n v) port.width)
under place c p made can h = (refl, refl)

-- and a deed
deed_pairs : {Call : Type 0} (place : ℕ) (c : Chip) (p : Ports) (x : Transition Call) → CanMake x → Holds c p → pairs_by c place x ≡ pairs_said place p (said_of x)
deed_pairs place c p (Begins call level) can h = refl
deed_pairs place c p (Enters l) can h = refl
deed_pairs place c p (Steps s) can h = let e = under place c p s.made can h in rw (e.0, e.1) refl
deed_pairs place c p (Happens order) can h = refl
deed_pairs place c p (Resets reason) can h = refl

deed_refusals : {Call : Type 0} (place : ℕ) (c : Chip) (p : Ports) (x : Transition Call) → CanMake x → Holds c p → refusals_by c place x ≡ refusals_said place p (said_of x)
deed_refusals place c p (Begins call level) can h = refl
deed_refusals place c p (Enters l) can h = refl
deed_refusals place c p (Steps s) can h = let e = under place c p s.made can h in rw e.0 refl
deed_refusals place c p (Happens order) can h = refl
deed_refusals place c p (Resets reason) can h = refl

-- ---- what deeds tell by the ports alone

abbrev pairs_deeds : {Call : Type 0} → (place : ℕ) → Ports → List (Transition Call) → List (ℕ × ℕ)
pairs_deeds place p [] = []
pairs_deeds place p (x ∷ xs) = pairs_said place p (said_of x) ++ pairs_deeds place (ports_after (said_of x) p) xs

abbrev refusals_deeds : {Call : Type 0} → (place : ℕ) → Ports → List (Transition Call) → ℕ
refusals_deeds place p [] = 0
refusals_deeds place p (x ∷ xs) = refusals_said place p (said_of x) + refusals_deeds place (ports_after (said_of x) p) xs

module _ {State Call : Type 0} (g : Setting State Call) (place : ℕ) where
  pairs_hold : (m : Moment State Call) (p : Ports) (xs : List (Transition Call)) → IsLegal g m xs → Holds m.chip p → pairs_from g m place xs ≡ pairs_deeds place p xs
  pairs_hold m p [] legal h = refl
  pairs_hold m p (x ∷ xs) legal h =
      let first = deed_pairs place m.chip p x (legal_deed g m x legal.2) h in
      let rest = pairs_hold (after g m x) (ports_after (said_of x) p) xs legal.3 (after_deed g m x p legal.2 h) in
      ap (λ ps. ps ++ pairs_from g (after g m x) place xs) first ∙ ap (λ ps. pairs_said place p (said_of x) ++ ps) rest

  refusals_hold : (m : Moment State Call) (p : Ports) (xs : List (Transition Call)) → IsLegal g m xs → Holds m.chip p → refusals_from g m place xs ≡ refusals_deeds place p xs
  refusals_hold m p [] legal h = refl
  refusals_hold m p (x ∷ xs) legal h =
      let first = deed_refusals place m.chip p x (legal_deed g m x legal.2) h in
      let rest = refusals_hold (after g m x) (ports_after (said_of x) p) xs legal.3 (after_deed g m x p legal.2 h) in
      ap (λ n. n + refusals_from g (after g m x) place xs) first ∙ ap (λ n. refusals_said place p (said_of x) + n) rest

-- ---- the deeds of a journal

module _ {Call : Type 0} (call_of : Request → Call) where
  item_pairs : (place : ℕ) (p : Ports) (order : Option Order) (said : entry.Said) (rest : List (Transition Call)) → pairs_deeds place p (deed_of call_of order said ++ rest) ≡ pairs_said place p said ++ pairs_deeds place (ports_after said p) rest
  item_pairs place p order (entry.Happens (orders.Show s)) rest = refl
  item_pairs place p order (entry.Happens o) rest = refl
  item_pairs place p (Some (orders.Call level r)) entry.Begins rest = refl
  item_pairs place p (Some (orders.Do level r)) entry.Begins rest = refl
  item_pairs place p (Some (orders.Enter line)) entry.Begins rest = refl
  item_pairs place p (Some (orders.Serve line)) entry.Begins rest = refl
  item_pairs place p order entry.Begins rest = refl
  item_pairs place p order (entry.Stays c) rest = refl
  item_pairs place p order (entry.Steps s) rest = refl
  item_pairs place p order (entry.Resets r k) rest = refl

  item_refusals : (place : ℕ) (p : Ports) (order : Option Order) (said : entry.Said) (rest : List (Transition Call)) → refusals_deeds place p (deed_of call_of order said ++ rest) ≡ refusals_said place p said + refusals_deeds place (ports_after said p) rest
  item_refusals place p order (entry.Happens (orders.Show s)) rest = omega arith
  item_refusals place p order (entry.Happens o) rest = refl
  item_refusals place p (Some (orders.Call level r)) entry.Begins rest = refl
  item_refusals place p (Some (orders.Do level r)) entry.Begins rest = refl
  item_refusals place p (Some (orders.Enter line)) entry.Begins rest = refl
  item_refusals place p (Some (orders.Serve line)) entry.Begins rest = refl
  item_refusals place p order entry.Begins rest = omega arith
  item_refusals place p order (entry.Stays c) rest = omega arith
  item_refusals place p order (entry.Steps s) rest = refl
  item_refusals place p order (entry.Resets r k) rest = refl

  item_drops : (order : Option Order) (said : entry.Said) → drops_in (deed_of call_of order said) ≡ dropped_by said
  item_drops order (entry.Happens (orders.Show s)) = refl
  item_drops order (entry.Happens orders.Detach) = refl
  item_drops order (entry.Happens o) = refl
  item_drops (Some (orders.Call level r)) entry.Begins = refl
  item_drops (Some (orders.Do level r)) entry.Begins = refl
  item_drops (Some (orders.Enter line)) entry.Begins = refl
  item_drops (Some (orders.Serve line)) entry.Begins = refl
  item_drops order entry.Begins = refl
  item_drops order (entry.Stays c) = refl
  item_drops order (entry.Steps s) = refl
  item_drops order (entry.Resets r k) = refl

  module _ (script : List Directive) where
    journal_pairs : (place : ℕ) (p : Ports) (es : List entry.Entry) → pairs_deeds place p (deeds_of call_of script es) ≡ pairs_told place p es
    journal_pairs place p [] = refl
    journal_pairs place p (e ∷ es) =
        item_pairs place p (order_at script e.line) e.said (deeds_of call_of script es) ∙ ap (λ ps. pairs_said place p e.said ++ ps) (journal_pairs place (ports_after e.said p) es)

    journal_refusals : (place : ℕ) (p : Ports) (es : List entry.Entry) → refusals_deeds place p (deeds_of call_of script es) ≡ refusals_told place p es
    journal_refusals place p [] = refl
    journal_refusals place p (e ∷ es) =
        item_refusals place p (order_at script e.line) e.said (deeds_of call_of script es) ∙ ap (λ n. refusals_said place p e.said + n) (journal_refusals place (ports_after e.said p) es)

    journal_drops : (es : List entry.Entry) → drops_in (deeds_of call_of script es) ≡ dropped_in es
    journal_drops [] = refl
    journal_drops (e ∷ es) =
        let deeds = sum_by-append drops_by (deed_of call_of (order_at script e.line) e.said) (deeds_of call_of script es) in
        let items = sum_by-append (λ (x : entry.Entry). dropped_by x.said) (e ∷ []) es in
        let first = item_drops (order_at script e.line) e.said in
        let rest = journal_drops es in
        omega (arith, deeds, items, first, rest)

-- The devices after a legal run whose first selects and widths are those of a reset: the journal alone tells of them.
pub told_along : {State Call : Type 0} (g : Setting State Call) (call_of : Request → Call) (script : List Directive) (m : Moment State Call) (es : List entry.Entry) (old new : List Line) (time : ℕ)
    → m.chip.serials ≡ serials.fresh time → length old ≡ m.chip.devices
    → IsLegal g m (deeds_of call_of script es) → AreTold g m (deeds_of call_of script es) old new → AreToldBy m.chip.devices es old new
told_along g call_of script m es old new time start there legal told =
    let p = ports_fresh m.chip.devices in
    let h : Holds m.chip p = record { units = λ u lt. subst (λ b. HasPort b p u) (sym start) (fresh time m.chip.devices u lt); devices = refl } in
    let deeds = deeds_of call_of script es in
    let drops = journal_drops call_of script es in
    let count = told.count in
    record {
      count = omega (arith, count, there, drops);
      pairs = λ place lt. told.pairs place lt ∙ ap (extended (pairs_at old place)) (pairs_hold g place m p deeds legal h ∙ journal_pairs call_of script place p es);
      faults = λ place. subst (λ n. HasRisen (slice_get old place) n (slice_get new place)) (refusals_hold g place m p deeds legal h ∙ journal_refusals call_of script place p es) (told.faults place);
    }
