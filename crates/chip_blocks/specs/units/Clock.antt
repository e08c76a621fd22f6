-- The clock block: the PLL, the rate of peripheral time, and why the chip was reset.
use Rattle.std.specs.Prelude.{ℕ, ◌+◌, ◌-◌, ◌<◌, Bool, false, ◌==◌, nat_le, if◌then◌else◌, Option, Some, None}
use Rattle.mcal_base.specs.Bits.{bit_of}
use Rattle.mcal_base.specs.declared.register.Reg.{Reg}
use Rattle.mcal_base.specs.declared.register.Reg.TheVariants.{ClockPll, ClockLock, ClockRate, ResetReason}
use Rattle.mcal_base.specs.declared.directive.Reason.{Reason}
use Rattle.mcal_base.specs.declared.directive.Reason.TheVariants.{PowerOn, Watchdog, Software}
use Rattle.chip_blocks.specs.declared.units.clock.Pll.{Pll}

-- The time of the oscillator, the PLL where a multiplier was written since the reset, the rate, and why the
-- chip was reset.
pub record Clock : Type 0 where
  pub osc : ℕ
  pub pll : Option Pll
  pub rate : ℕ
  pub reason : Reason

-- as after a reset for that reason at that time
abbrev pub fresh : ℕ → Reason → Clock
fresh osc reason = record { osc = osc; pll = None; rate = 1; reason = reason }

-- peripheral time runs, at the rate and at the multiplier
abbrev pub Multiplies : Option Pll → Type 0
Multiplies None = Unit {0}
Multiplies (Some p) = 0 < p.multiplier

abbrev pub Runs : (rate : ℕ) → Option Pll → Type 0
Runs rate pll = (0 < rate) × Multiplies pll

-- the number of a reason
abbrev pub number_of : Reason → ℕ
number_of PowerOn = 0
number_of Watchdog = 1
number_of Software = 2

-- a PLL is locked once 100 ticks of the oscillator have passed since it was started
abbrev pub is_locked_at : Option Pll → ℕ → Bool
is_locked_at None osc = false
is_locked_at (Some p) osc = nat_le 100 (osc - p.started)

abbrev pub is_locked : Clock → Bool
is_locked c = is_locked_at c.pll c.osc

-- what a read gives; a register without a stated read gives 0
abbrev pub read_of : Clock → Reg → ℕ
read_of c ClockLock = bit_of (is_locked c)
read_of c ResetReason = number_of c.reason
read_of c _ = 0

-- the multiplier as the rate, where there is one
abbrev pub multiplied : Option Pll → (rate : ℕ) → ℕ
multiplied None rate = rate
multiplied (Some p) rate = p.multiplier

-- the rate that a write to M.RATE leaves: 1 takes the multiplier, 0 takes 1, and other values are ignored
abbrev pub rate_after : Clock → ℕ → ℕ
rate_after c value =
    if value == 0 then 1 else (if value == 1 then multiplied c.pll c.rate else c.rate)

-- a multiplier written to M.PLL starts the PLL, and the rate is 1; a write of 0 is ignored
abbrev pub started : Clock → ℕ → Clock
started c value =
    if value == 0
    then c
    else record c { pll = Some (record { multiplier = value; started = c.osc }); rate = 1 }

-- what a write leaves; a register without a stated write ignores it
abbrev pub after_write : Clock → Reg → ℕ → Clock
after_write c ClockPll value = started c value
after_write c ClockRate value = record c { rate = rate_after c value }
after_write c _ value = c

-- what so many ticks of the oscillator leave
abbrev pub ticked : Clock → ℕ → Clock
ticked c n = record c { osc = c.osc + n }
