-- Histories of the converter block: what leaves its list registers, gates and flags alone, and pulses that find their gate on.
use Rattle.std.specs.Prelude.{◌≡◌, ◌≢◌, ℕ, ◌<◌, ◌^◌, true, false, List, ◌∷◌, ◌++◌}
use Rattle.mcal_base.specs.Bits.{has_bit}
use Rattle.mcal_base.specs.declared.register.Reg.TheVariants.{ConverterList, TriggerSet, TriggerClear, TriggerFlags}
use Rattle.chip_blocks.specs.converter.Accesses.{Access, Writes, Pulses, after_all}
use Rattle.chip_blocks.specs.converter.Converters.{Converters}

-- writes no list register of the unit at this place
abbrev pub LeavesList : (unit place : ℕ) → Access → Type 0
LeavesList u p (Writes (ConverterList k q) value) = (k ≡ u) → q ≢ p
LeavesList u p x = Unit {0}

-- clears no flag of the trigger input
abbrev pub LeavesPulse : (input : ℕ) → Access → Type 0
LeavesPulse k (Writes TriggerFlags bits) = (bits < 2 ^ 32) × (has_bit bits k ≡ false)
LeavesPulse k x = Unit {0}

-- switches the input's gate neither on nor off
abbrev pub LeavesGate : (input : ℕ) → Access → Type 0
LeavesGate k (Writes TriggerSet bits) = has_bit bits k ≡ false
LeavesGate k (Writes TriggerClear bits) = (bits < 2 ^ 32) × (has_bit bits k ≡ false)
LeavesGate k x = Unit {0}

-- A pulse came on the input in a history, and found the gate on.
pub record PulseIn (b : Converters) (k : ℕ) (history : List Access) : Type 0 where
  pub before : List Access
  pub rest : List Access
  pub is : history ≡ before ++ Pulses k ∷ rest
  pub gate : has_bit (after_all b before).gates k ≡ true
