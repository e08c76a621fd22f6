-- What a pulse unit of the chip does where it does what the machine's output does.
use Rattle.std.specs.Prelude.{ℕ, ◌-◌, ◌<◌, ◌≤◌, Bool, ◌||◌}
use Rattle.chip_blocks.specs.declared.pulses.pulse.Output as chips
use Rattle.chip_blocks.specs.declared.pulses.pulse.Output.TheVariants as units
use Rattle.chip_blocks.specs.declared.pulses.regime.Regime as regimes
use Rattle.module_machines.specs.pwm.Output.{Regime, Output, Idle, Runs, GivesWay}
use Rattle.module_machines.specs.declared.pwm.call.PwmEdge.{PwmEdge}
use Rattle.module_machines.specs.declared.pwm.call.PwmEdge.TheVariants.{Rising, Falling, Both}

-- a regime with its polarity
abbrev pub regime_in : (high : Bool) → Regime → regimes.Regime
regime_in high r = record { start = r.start; wave = record { period = r.period; duty = r.duty; high = high } }

-- what the unit does where the machine's output does this; a regime that waits was committed in the period before its start
abbrev pub output_in : (high : Bool) → Output → chips.Output
output_in high (Idle level) = units.Idle level
output_in high (Runs r) = units.Runs (regime_in high r)
output_in high (GivesWay r n) = units.Turns (regime_in high r) (record { begun = n.start - r.period; wave = record { period = n.period; duty = n.duty; high = high } })

-- the regime began not after a time; one that gives way has a period, and does so at the end of one
abbrev pub IsBegun : Output → ℕ → Type 0
IsBegun (Idle level) time = Unit {0}
IsBegun (Runs r) time = r.start ≤ time
IsBegun (GivesWay r n) time = (r.start ≤ time) × (0 < r.period) × (r.period ≤ n.start)

-- what is so of one of the chosen changes
abbrev pub chosen : PwmEdge → (rising falling : Bool) → Bool
chosen Rising a b = a
chosen Falling a b = b
chosen Both a b = a || b
