-- The room for the words that come in, at each move and each hardware event.
use Rattle.std.proofs.Common.{◌≡◌, ℕ, Bool, true, false, cond, zero, suc, ◌+◌, ◌-◌, ◌≤◌, List, [], ◌∷◌, refl, ap, arith}
use Rattle.std.specs.Prelude.{slice_index_or, slice_set, length, drop, ◌++◌}
use Rattle.chip_model.specs.Chip.{Chip, chip_after, after_read, after_write, happened, incoming_at, has_device}
use Rattle.chip_model.specs.Waiting.{Waiting}
use Rattle.chip_model.proofs.HistoryLaws.{level_leaves}
use Rattle.mcal_base.specs.declared.directive.Order.{Order}
use Rattle.mcal_base.specs.declared.directive.Order.TheVariants.{Tick, Level, Analog, Trigger, Miso, SpiFault, Fill}
use Rattle.mcal_base.specs.declared.moves.Move.{Move}
use Rattle.mcal_base.specs.declared.moves.Move.TheVariants.{Read, Write, Load, Store, Mask, Unmask, Note, Report}
use Rattle.mcal_base.specs.declared.register.Reg.{Reg}
use Rattle.mcal_base.specs.declared.register.Reg.TheVariants.{EnableSet, EnableClear, SerialData, TimerLow, CaptureCountLow, CaptureTimeLow, ConverterAbort, PinFlip}
use Rattle.script_runner.specs.Standing.{room_on, words_by}

abbrev none : Waiting
none = record { waiting = []; room = 0 }

abbrev room_in : List Waiting → ℕ → ℕ
room_in xs u = (slice_index_or xs u none).room

-- a unit's words are others, and the room is as it was
set_same : (xs : List Waiting) (k u : ℕ) (w : Waiting) → w.room ≡ room_in xs k → room_in (slice_set xs k w) u ≡ room_in xs u
set_same [] k u w h = refl
set_same (x ∷ xs) zero zero w h = h
set_same (x ∷ xs) zero (suc u) w h = refl
set_same (x ∷ xs) (suc k) zero w h = refl
set_same (x ∷ xs) (suc k) (suc u) w h = set_same xs k u w h

-- or it is less by so many at most
set_less : (xs : List Waiting) (k u n : ℕ) (w : Waiting) → room_in xs k ≤ w.room + n → room_in xs u ≤ room_in (slice_set xs k w) u + n
set_less [] k u n w h = omega arith
set_less (x ∷ xs) zero zero n w h = h
set_less (x ∷ xs) zero (suc u) n w h = omega arith
set_less (x ∷ xs) (suc k) zero n w h = omega arith
set_less (x ∷ xs) (suc k) (suc u) n w h = set_less xs k u n w h

read_same : (c : Chip) (r : Reg) → (after_read c r).incoming ≡ c.incoming
read_same c (TimerLow k) = refl
read_same c (CaptureCountLow k) = refl
read_same c (CaptureTimeLow k) = refl
read_same c (ConverterAbort u) = refl
read_same c (PinFlip p) = refl
read_same c _ = refl

-- a word that begins, with a device or without one
begun_same : (device : Bool) (xs : List Waiting) (k u : ℕ) (w : Waiting) → w.room ≡ (slice_index_or xs k none).room → (slice_index_or (cond device xs (slice_set xs k w)) u none).room ≡ (slice_index_or xs u none).room
begun_same true xs k u w e = refl
begun_same false xs k u w e = set_same xs k u w e

write_same : (c : Chip) (r : Reg) (value received u : ℕ) → room_on (after_write c r value received) u ≡ room_on c u
write_same c EnableSet value received u = refl
write_same c EnableClear value received u = refl
write_same c (SerialData k) value received u = begun_same (has_device c k) c.incoming k u (record (incoming_at c k) { waiting = drop 1 (incoming_at c k).waiting }) refl
write_same c _ value received u = refl

-- no move takes room
pub room_move : (c : Chip) (made : Move) (received u : ℕ) → room_on (chip_after c made received) u ≡ room_on c u
room_move c (Read r) received u = ap (λ xs. room_in xs u) (read_same c r)
room_move c (Write r value) received u = write_same c r value received u
room_move c (Load k) received u = refl
room_move c (Store k value) received u = refl
room_move c Mask received u = refl
room_move c Unmask received u = refl
room_move c (Note notice) received u = refl
room_move c (Report fault) received u = refl

as_before : (a b n : ℕ) → b ≡ a → a ≤ b + n
as_before a b n e = omega (arith, e)

-- a hardware event takes room for the words that it gives
pub room_event : (c : Chip) (order : Order) (u : ℕ) → room_on c u ≤ room_on (happened c order) u + words_by order
room_event c (Tick n) u = as_before _ _ 0 refl
room_event c (Level p v) u = as_before _ _ 0 (level_leaves (λ d. room_on d u) c p v refl)
room_event c (Analog i v) u = as_before _ _ 0 refl
room_event c (Trigger i) u = as_before _ _ 0 refl
room_event c (Miso k ws) u = set_less c.incoming k u (length ws) (record (incoming_at c k) { waiting = (incoming_at c k).waiting ++ ws; room = (incoming_at c k).room - length ws }) (omega arith)
room_event c (SpiFault k) u = as_before _ _ 0 refl
room_event c (Fill channel ws) u = as_before _ _ (length ws) refl
room_event c _ u = as_before _ _ 0 refl
