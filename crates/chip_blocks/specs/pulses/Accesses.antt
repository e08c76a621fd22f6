-- Histories of the pulse block: what in them leaves a channel's output and flags alone, and where its output changes.
use Rattle.std.specs.Prelude.{◌≡◌, ◌≢◌, ◌⊎◌, ℕ, ◌+◌, ◌-◌, ◌*◌, ◌/◌, ◌<◌, ◌≤◌, Bool, true, false, Option, Some, None, List, [], ◌∷◌, length}
use Rattle.mcal_base.specs.Bits.{has_bit}
use Rattle.mcal_base.specs.declared.register.Reg.TheVariants.{PulseCommit, PulseIdle, PulseFlags}
use Rattle.chip_blocks.specs.timers.Accesses.{Access}
use Rattle.chip_blocks.specs.timers.Accesses as accesses
use Rattle.chip_blocks.specs.pulses.Regime.{regime_at, turns_to}
use Rattle.chip_blocks.specs.pulses.Pulses.{Pulses, pulse_at, level_at, output_level, after_write, ticked}
use Rattle.chip_blocks.specs.declared.pulses.regime.Regime.{Regime}
use Rattle.chip_blocks.specs.declared.pulses.pulse.Output.{Output}
use Rattle.chip_blocks.specs.declared.pulses.pulse.Output.TheVariants.{Idle, Runs, Turns}

abbrev pub after : Pulses → Access → Pulses
after b (accesses.Reads r) = b
after b (accesses.Writes r value) = after_write b r value
after b (accesses.Passes n) = ticked b n

-- the block after a history, the first access first
abbrev pub after_all : Pulses → List Access → Pulses
after_all b [] = b
after_all b (x ∷ xs) = after_all (after b x) xs

-- the block has all its channels, and this is one of them
pub record HasChannel (b : Pulses) (c : ℕ) : Type 0 where
  pub all : length b.pulses ≡ 8
  pub within : c < 8

-- commits and makes idle other channels only
abbrev pub LeavesOutput : ℕ → Access → Type 0
LeavesOutput c (accesses.Writes (PulseCommit k) value) = k ≢ c
LeavesOutput c (accesses.Writes (PulseIdle k) value) = k ≢ c
LeavesOutput c _ = Unit {0}

-- the regime that stands at a time, none where the output is idle
abbrev pub standing : Output → ℕ → Option Regime
standing (Idle level) now = None
standing (Runs r) now = Some r
standing (Turns r c) now = Some (regime_at r c now)

-- a channel runs by a regime, which began and has a period
pub record Running (b : Pulses) (c : ℕ) (r : Regime) : Type 0 where
  pub there : HasChannel b c
  pub stands : standing (pulse_at b c).output b.time ≡ Some r
  pub begun : r.start ≤ b.time
  pub period : 0 < r.wave.period

-- the end of the period that runs at a time
abbrev pub period_end : Regime → ℕ → ℕ
period_end r now = r.start + ((now - r.start) / r.wave.period + 1) * r.wave.period

-- ---- changes

-- the place in P.FLAGS of a channel's changes to a level
abbrev pub place_of : Bool → ℕ → ℕ
place_of true c = c
place_of false c = c + 8

-- clears no flag of the channel's changes to this level, whatever else it does
abbrev pub LeavesStanding : Bool → ℕ → Access → Type 0
LeavesStanding to c (accesses.Writes PulseFlags bits) = has_bit bits (place_of to c) ≡ false
LeavesStanding to c _ = Unit {0}

-- the output changes to this level between two units of time, after the first time and not after the second
pub record ChangesBetween (to : Bool) (o : Output) (first last : ℕ) : Type 0 where
  pub time : ℕ
  pub after : first < time
  pub within : time ≤ last
  pub turns : turns_to to (output_level o (time - 1)) (output_level o time) ≡ true

-- it changes to this level while time passes, or by a write
abbrev pub ChangesBy : Bool → ℕ → Pulses → Access → Type 0
ChangesBy to c b (accesses.Reads r) = ⊥
ChangesBy to c b (accesses.Writes r value) = turns_to to (level_at b c) (level_at (after_write b r value) c) ≡ true
ChangesBy to c b (accesses.Passes n) = ChangesBetween to (pulse_at b c).output b.time (b.time + n)

-- it does so in a history
abbrev pub ChangesIn : Bool → ℕ → Pulses → List Access → Type 0
ChangesIn to c b [] = ⊥
ChangesIn to c b (x ∷ xs) = ChangesBy to c b x ⊎ ChangesIn to c (after b x) xs
