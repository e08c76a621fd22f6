-- Histories of the clock block, and what in them leaves the PLL and the rate alone.
use Rattle.std.specs.Prelude.{◌≡◌, ℕ, List, [], ◌∷◌}
use Rattle.mcal_base.specs.declared.register.Reg.{Reg}
use Rattle.mcal_base.specs.declared.register.Reg.TheVariants.{ClockPll, ClockRate}
use Rattle.chip_blocks.specs.units.Clock.{Clock, after_write, ticked}

-- A write, or the passing of so many ticks of the oscillator. A read changes nothing.
pub data Access : Type 0 where
  Writes : Reg → ℕ → Access
  Passes : ℕ → Access

abbrev pub after : Clock → Access → Clock
after c (Writes r value) = after_write c r value
after c (Passes n) = ticked c n

-- the block after a history, the first access first
abbrev pub after_all : Clock → List Access → Clock
after_all c [] = c
after_all c (x ∷ xs) = after_all (after c x) xs

-- writes no multiplier
abbrev pub LeavesPll : Access → Type 0
LeavesPll (Writes ClockPll value) = value ≡ 0
LeavesPll _ = Unit {0}

-- nor a rate
abbrev pub LeavesRate : Access → Type 0
LeavesRate (Writes ClockRate value) = ⊥
LeavesRate x = LeavesPll x
