-- The words that come in on a serial unit, over a history.
use Rattle.std.proofs.Common.{◌≡◌, ℕ, ◌<◌, ◌≢◌, Bool, true, false, List, [], ◌∷◌, ◌++◌, length, take, drop, cond, refl, sym, ◌∙◌, ap, arith, append_assoc, append-nil, get_or-set_same, get_or-set_other, length-set}
use Rattle.std.specs.Prelude.{◌==◌, ◌-◌, ◌&&◌, not, slice_index_or, slice_set}
use Rattle.std.proofs.lemmas.List.{take-append-drop}
use Rattle.std.proofs.lemmas.Bool.Decides.{nat_tests}
use Rattle.mcal_base.specs.facts.Numbers.{eq_is}
use Rattle.mcal_base.specs.declared.directive.Order.{Order}
use Rattle.mcal_base.specs.declared.directive.Order.TheVariants.{Tick, Level, Analog, Trigger, Miso, SpiFault, Detach, Fill}
use Rattle.mcal_base.specs.declared.moves.Move.{Move}
use Rattle.mcal_base.specs.declared.moves.Move.TheVariants.{Read, Write, Load, Store, Mask, Unmask, Note, Report}
use Rattle.mcal_base.specs.declared.register.Reg.{Reg}
use Rattle.mcal_base.specs.declared.register.Reg.TheVariants.{EnableSet, EnableClear, TimerLow, CaptureCountLow, CaptureTimeLow, ConverterAbort, SerialData, PinFlip}
use Rattle.chip_model.specs.Waiting.{Waiting}
use Rattle.chip_model.specs.Chip.{Chip, after_read, after_write, chip_after, happened, levelled, incoming_at, has_device}
use Rattle.chip_model.specs.Histories.{Happening, chip_step, chip_after_all, given_by, taken_by, given_to, taken_from}
use Rattle.chip_model.specs.Histories as histories
use Rattle.chip_model.proofs.DeviceLaws.{length-waiting}
use Rattle.chip_model.proofs.HistoryLaws.{level_leaves}

abbrev waits : Chip → ℕ → List ℕ
waits c u = (incoming_at c u).waiting

other_number : (a b : ℕ) → (a == b) ≡ false → b ≢ a
other_number a b h = λ e. grind (arith, nat_tests)

-- a happening that gives no word to the unit and takes none
still : (xs ys : List ℕ) → ys ≡ xs → xs ++ [] ≡ [] ++ ys
still xs ys e = append-nil xs ∙ sym e

abbrev none : Waiting
none = record { waiting = []; room = 0 }

begun_at : (c : Chip) (u k : ℕ) (w : Waiting) (b : Bool) → (k == u) ≡ b → u < length c.incoming → w.waiting ≡ drop 1 (waits c k)
    → waits c u ++ [] ≡ cond b (take 1 (waits c u)) [] ++ waits (record c { incoming = slice_set c.incoming k w }) u
begun_at c u k w true e lt made =
    let at : k ≡ u = eq_is k u e in
    let set_here : waits (record c { incoming = slice_set c.incoming k w }) u ≡ drop 1 (waits c u) =
    rw at (ap (λ (x : Waiting). x.waiting) (get_or-set_same c.incoming u w none lt) ∙ made ∙ ap (λ n. drop 1 (waits c n)) at) in
    append-nil (waits c u) ∙ sym (take-append-drop 1 (waits c u)) ∙ ap (λ xs. take 1 (waits c u) ++ xs) (sym set_here)
begun_at c u k w false e lt made =
    append-nil (waits c u) ∙ sym (ap (λ (x : Waiting). x.waiting) (get_or-set_other c.incoming k u w none (other_number k u e)))

-- a word begins on a unit, with a device or without one
begun_by : (c : Chip) (u k : ℕ) (device : Bool) (w : Waiting) → u < length c.incoming → w.waiting ≡ drop 1 (waits c k)
    → waits c u ++ [] ≡ cond (not device && k == u) (take 1 (waits c u)) [] ++ waits (record c { incoming = cond device c.incoming (slice_set c.incoming k w) }) u
begun_by c u k true w lt made = still (waits c u) _ refl
begun_by c u k false w lt made = begun_at c u k w (k == u) refl lt made

given_at : (c : Chip) (u k : ℕ) (ws : List ℕ) (w : Waiting) (b : Bool) → (k == u) ≡ b → u < length c.incoming → w.waiting ≡ waits c k ++ ws
    → waits c u ++ cond b ws [] ≡ [] ++ waits (record c { incoming = slice_set c.incoming k w }) u
given_at c u k ws w true e lt made =
    let at : k ≡ u = eq_is k u e in
    sym (rw at (ap (λ (x : Waiting). x.waiting) (get_or-set_same c.incoming u w none lt) ∙ made ∙ ap (λ n. waits c n ++ ws) at))
given_at c u k ws w false e lt made =
    append-nil (waits c u) ∙ sym (ap (λ (x : Waiting). x.waiting) (get_or-set_other c.incoming k u w none (other_number k u e)))

in_read : (c : Chip) (r : Reg) → (after_read c r).incoming ≡ c.incoming
in_read c (TimerLow k) = refl
in_read c (CaptureCountLow k) = refl
in_read c (CaptureTimeLow k) = refl
in_read c (ConverterAbort u) = refl
in_read c (PinFlip p) = refl
in_read c _ = refl

abbrev Balanced : ℕ → Chip → Happening → Type 0
Balanced u c x = waits c u ++ given_by u x ≡ taken_by u c x ++ waits (chip_step c x) u

in_write : (u : ℕ) (c : Chip) (r : Reg) (value received : ℕ) → u < length c.incoming → Balanced u c (histories.Made (Write r value) received)
in_write u c EnableSet value received lt = still (waits c u) _ refl
in_write u c EnableClear value received lt = still (waits c u) _ refl
in_write u c (SerialData k) value received lt = begun_by c u k (has_device c k) (record (incoming_at c k) { waiting = drop 1 (incoming_at c k).waiting }) lt refl
in_write u c _ value received lt = still (waits c u) _ refl

in_move : (u : ℕ) (c : Chip) (made : Move) (received : ℕ) → u < length c.incoming → Balanced u c (histories.Made made received)
in_move u c (Read r) received lt = still (waits c u) (waits (after_read c r) u) (ap (λ (i : List Waiting). (slice_index_or i u none).waiting) (in_read c r))
in_move u c (Write r value) received lt = in_write u c r value received lt
in_move u c (Load k) received lt = still (waits c u) _ refl
in_move u c (Store k value) received lt = still (waits c u) _ refl
in_move u c Mask received lt = still (waits c u) _ refl
in_move u c Unmask received lt = still (waits c u) _ refl
in_move u c (Note notice) received lt = still (waits c u) _ refl
in_move u c (Report fault) received lt = still (waits c u) _ refl

in_event : (u : ℕ) (c : Chip) (order : Order) → u < length c.incoming → Balanced u c (histories.Hardware order)
in_event u c (Tick n) lt = still (waits c u) _ refl
in_event u c (Level p v) lt = still (waits c u) (waits (levelled c p v) u) (level_leaves (λ d. waits d u) c p v refl)
in_event u c (Analog i v) lt = still (waits c u) _ refl
in_event u c (Trigger i) lt = still (waits c u) _ refl
in_event u c (Miso k ws) lt = given_at c u k ws (record (incoming_at c k) { waiting = (incoming_at c k).waiting ++ ws; room = (incoming_at c k).room - length ws }) (k == u) refl lt refl
in_event u c (SpiFault k) lt = still (waits c u) _ refl
in_event u c Detach lt = still (waits c u) _ refl
in_event u c (Fill channel ws) lt = still (waits c u) _ refl
in_event u c _ lt = still (waits c u) _ refl

in_step : (u : ℕ) (c : Chip) (x : Happening) → u < length c.incoming → Balanced u c x
in_step u c (histories.Made made received) lt = in_move u c made received lt
in_step u c (histories.Hardware order) lt = in_event u c order lt
in_step u c (histories.WasReset reason) lt = still (waits c u) _ refl

-- a happening leaves as many units
size_write : (c : Chip) (r : Reg) (value received : ℕ) → length (after_write c r value received).incoming ≡ length c.incoming
size_write c EnableSet value received = refl
size_write c EnableClear value received = refl
size_write c (SerialData u) value received = length-waiting c u
size_write c r value received = refl

size_move : (c : Chip) (made : Move) (received : ℕ) → length (chip_after c made received).incoming ≡ length c.incoming
size_move c (Read r) received = ap length (in_read c r)
size_move c (Write r value) received = size_write c r value received
size_move c (Load k) received = refl
size_move c (Store k value) received = refl
size_move c Mask received = refl
size_move c Unmask received = refl
size_move c (Note notice) received = refl
size_move c (Report fault) received = refl

size_event : (c : Chip) (order : Order) → length (happened c order).incoming ≡ length c.incoming
size_event c (Tick n) = refl
size_event c (Level p v) = level_leaves (λ d. length d.incoming) c p v refl
size_event c (Analog i v) = refl
size_event c (Trigger i) = refl
size_event c (Miso u ws) = length-set c.incoming u _
size_event c (SpiFault u) = refl
size_event c Detach = refl
size_event c (Fill channel ws) = refl
size_event c _ = refl

size_step : (c : Chip) (x : Happening) → length (chip_step c x).incoming ≡ length c.incoming
size_step c (histories.Made made received) = size_move c made received
size_step c (histories.Hardware order) = size_event c order
size_step c (histories.WasReset reason) = refl

-- what waited and was given is what came in and waits
pub in_order : (u : ℕ) (c : Chip) (xs : List Happening) → u < length c.incoming
    → waits c u ++ given_to u xs ≡ taken_from u c xs ++ waits (chip_after_all c xs) u
in_order u c [] lt = append-nil (waits c u)
in_order u c (x ∷ xs) lt =
    let d : Chip = chip_step c x in
    let rest = in_order u d xs (rw (size_step c x) lt) in
    sym (append_assoc (waits c u) (given_by u x) (given_to u xs))
    ∙ ap (λ ws. ws ++ given_to u xs) (in_step u c x lt)
    ∙ append_assoc (taken_by u c x) (waits d u) (given_to u xs)
    ∙ ap (λ ws. taken_by u c x ++ ws) rest
    ∙ sym (append_assoc (taken_by u c x) (taken_from u d xs) (waits (chip_after_all d xs) u))
