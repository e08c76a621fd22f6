-- Histories of the converter block, and what in them leaves a unit's round and its results alone.
use Rattle.std.specs.Prelude.{◌≡◌, ◌≢◌, ℕ, ◌+◌, ◌*◌, ◌<◌, ◌≤◌, false, List, [], ◌∷◌, length}
use Rattle.mcal_base.specs.declared.register.Reg.{Reg}
use Rattle.mcal_base.specs.declared.register.Reg.TheVariants.{ConverterGo, ConverterAbort, ConverterAck}
use Rattle.chip_blocks.specs.converter.Rounds.{Round, is_idle}
use Rattle.chip_blocks.specs.converter.Converters.{Converters, unit_at, after_read, after_write, after_analog, after_pulse, ticked}

-- An access of the block, a new level of an analog input, a pulse on a trigger input, or the passing of so
-- many ticks.
pub data Access : Type 0 where
  Reads : Reg → Access
  Writes : Reg → ℕ → Access
  Sets : (input value : ℕ) → Access
  Pulses : ℕ → Access
  Passes : ℕ → Access

abbrev pub after : Converters → Access → Converters
after b (Reads r) = after_read b r
after b (Writes r value) = after_write b r value
after b (Sets input value) = after_analog b input value
after b (Pulses input) = after_pulse b input
after b (Passes n) = ticked b n

-- the block after a history, the first access first
abbrev pub after_all : Converters → List Access → Converters
after_all b [] = b
after_all b (x ∷ xs) = after_all (after b x) xs

-- acknowledges no round of the unit
abbrev pub LeavesFinished : ℕ → Access → Type 0
LeavesFinished u (Writes (ConverterAck k) value) = k ≢ u
LeavesFinished u _ = Unit {0}

-- and aborts none
abbrev pub LeavesRound : ℕ → Access → Type 0
LeavesRound u (Reads (ConverterAbort k)) = k ≢ u
LeavesRound u x = LeavesFinished u x

-- starts no round on the unit
abbrev pub LeavesResults : ℕ → Access → Type 0
LeavesResults u (Writes (ConverterGo k) value) = k ≢ u
LeavesResults u _ = Unit {0}

abbrev pub round_at : Converters → ℕ → Round
round_at b u = (unit_at b u).round

-- the time at which input i of a round, from 0, ends
abbrev pub ends_at : Round → ℕ → ℕ
ends_at r i = r.start + 4 * (i + 1)

-- the block has both units, of which this is one, and no level was set in the future
pub record HasUnit (b : Converters) (u : ℕ) : Type 0 where
  pub all : length b.units ≡ 2
  pub within : u < 2
  pub past : b.levels.since ≤ b.time

-- the unit has a round that is neither aborted nor acknowledged, and input i, from 0, is one of its inputs
pub record Converts (b : Converters) (u i : ℕ) : Type 0 where
  pub there : HasUnit b u
  pub on : is_idle (round_at b u) ≡ false
  pub listed : i < (round_at b u).count
  pub few : (round_at b u).count ≤ 32
