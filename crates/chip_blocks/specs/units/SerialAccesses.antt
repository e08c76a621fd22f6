-- Histories of the serial block, and what in them leaves a unit's words alone.
use Rattle.std.specs.Prelude.{◌≡◌, ◌≢◌, ℕ, ◌<◌, List, [], ◌∷◌, length}
use Rattle.mcal_base.specs.declared.register.Reg.{Reg}
use Rattle.mcal_base.specs.declared.register.Reg.TheVariants.{SerialAck}
use Rattle.chip_blocks.specs.units.Serials.{Serials, after_write, after_word, after_fault, ticked}

-- A write, a word with what comes in, a fault on the wire, or the passing of so many ticks. A read changes
-- nothing.
pub data Access : Type 0 where
  Writes : Reg → ℕ → Access
  Words : (u incoming : ℕ) → Access
  Faults : ℕ → Access
  Passes : ℕ → Access

abbrev pub after : Serials → Access → Serials
after b (Writes r value) = after_write b r value
after b (Words u incoming) = after_word b u incoming
after b (Faults u) = after_fault b u
after b (Passes n) = ticked b n

-- the block after a history, the first access first
abbrev pub after_all : Serials → List Access → Serials
after_all b [] = b
after_all b (x ∷ xs) = after_all (after b x) xs

-- begins no word on the unit, and its wire has no fault
abbrev pub LeavesWord : ℕ → Access → Type 0
LeavesWord u (Words k incoming) = k ≢ u
LeavesWord u (Faults k) = k ≢ u
LeavesWord u _ = Unit {0}

-- begins no word on the unit, and acknowledges none
abbrev pub LeavesDone : ℕ → Access → Type 0
LeavesDone u (Words k incoming) = k ≢ u
LeavesDone u (Writes (SerialAck k) value) = k ≢ u
LeavesDone u _ = Unit {0}

-- the block has both units, and this is one of them
pub record HasUnit (b : Serials) (u : ℕ) : Type 0 where
  pub all : length b.units ≡ 2
  pub within : u < 2
