-- The converter block: what each access, each event and the passing of time leave, and what each read gives.
use Rattle.std.specs.Prelude.{ℕ, ◌+◌, ◌*◌, ◌^◌, ◌&&◌, not, nat_le, nat_lt, if◌then◌else◌, List, [], ◌∷◌, map, replicate, slice_index, slice_index_or, slice_set, bit_or}
use Rattle.std.specs.List.{range_with_len}
use Rattle.mcal_base.specs.Bits.{has_bit, without, bit_of}
use Rattle.mcal_base.specs.declared.register.Reg.{Reg}
use Rattle.mcal_base.specs.declared.register.Reg.TheVariants.{ConverterList, ConverterGo, ConverterState, ConverterResult, ConverterDone, ConverterAbort, ConverterAck, TriggerSet, TriggerClear, TriggerFlags}
use Rattle.chip_blocks.specs.converter.Rounds.{opened, no_round, ended, has_ended, is_idle, is_finished, is_running, state, input_of, over}
use Rattle.chip_blocks.specs.declared.converter.converter.Converter.{Converter}
use Rattle.chip_blocks.specs.declared.converter.converter.Levels.{Levels}

-- The units by number, the peripheral time, the levels of the analog inputs, and the gates and flags of the
-- trigger inputs as bits.
pub record Converters : Type 0 where
  pub time : ℕ
  pub units : List Converter
  pub levels : Levels
  pub gates : ℕ
  pub pulses : ℕ

-- ---- levels

-- the level of an input; one that isn't there has level 0
abbrev pub level_at : Levels → ℕ → ℕ
level_at l input = slice_index l.values input

-- a level is set
abbrev pub with_level : Levels → (input value now : ℕ) → Levels
with_level l input value now = record { values = slice_set l.values input value; since = now }

-- ---- one unit

-- a unit before its first round
unfoldable pub unused : Converter
unused = record { list = replicate 8 0; round = no_round; results = replicate 32 0 }

-- a list register is set
abbrev pub listed : (place value : ℕ) → Converter → Converter
listed place value a = record a { list = slice_set a.list place value }

-- what result i reads: the level of its input where this has ended since a level was set last; else what was
-- kept
abbrev pub result : Levels → (now : ℕ) → Converter → ℕ → ℕ
result l now a i =
    if has_ended a.round i now && not (has_ended a.round i l.since)
    then level_at l (input_of a.round i)
    else slice_index a.results i

-- the unit, with all that its results read kept
abbrev pub settled : Levels → (now : ℕ) → Converter → Converter
settled l now a = record a { results = map (λ i. result l now a i) (range_with_len 0 32) }

-- a round of so many inputs begins
abbrev pub begun : (count now : ℕ) → Converter → Converter
begun count now a = record a { round = opened now count a.list }

-- a write to A<u>.GO begins a round of 1 to 32 inputs where the unit is idle
abbrev pub gone : Levels → (count now : ℕ) → Converter → Converter
gone l count now a =
    if is_idle a.round && (nat_le 1 count && nat_le count 32) then begun count now (settled l now a) else a

-- a read of A<u>.ABORT stops a running round
abbrev pub aborted : ℕ → Converter → Converter
aborted now a = if is_running a.round now then record a { round = over now a.round } else a

-- a write to A<u>.ACK takes a finished round away
abbrev pub acknowledged : ℕ → Converter → Converter
acknowledged now a = if is_finished a.round now then record a { round = over now a.round } else a

-- ---- the block

-- as after a reset at that time, with these levels outside
abbrev pub fresh : ℕ → List ℕ → Converters
fresh time values = record { time = time; units = unused ∷ unused ∷ []; levels = record { values = values; since = time }; gates = 0; pulses = 0 }

-- the levels before the first event
unfoldable pub silent : List ℕ
silent = replicate 32 0

-- a unit; one that isn't there is unused
abbrev pub unit_at : Converters → ℕ → Converter
unit_at b u = slice_index_or b.units u unused

-- the block with this unit
abbrev pub with_unit : Converters → ℕ → Converter → Converters
with_unit b u a = record b { units = slice_set b.units u a }

-- the flags: of lines 24 and 25, a finished round; of lines 28 to 31, the pulses
abbrev pub flags_of : Converters → ℕ
flags_of b = bit_of (is_finished (unit_at b 0).round b.time) * 2 ^ 24 + bit_of (is_finished (unit_at b 1).round b.time) * 2 ^ 25 + b.pulses * 2 ^ 28

-- what a read gives; a register without a stated read gives 0
abbrev pub read_of : Converters → Reg → ℕ
read_of b (ConverterState u) = state (unit_at b u).round b.time
read_of b (ConverterResult u i) = result b.levels b.time (unit_at b u) i
read_of b (ConverterDone u) = ended (unit_at b u).round b.time
read_of b (ConverterAbort u) = bit_of (is_running (unit_at b u).round b.time)
read_of b TriggerFlags = b.pulses
read_of b _ = 0

-- what a read leaves
abbrev pub after_read : Converters → Reg → Converters
after_read b (ConverterAbort u) = with_unit b u (aborted b.time (unit_at b u))
after_read b _ = b

-- what a write leaves; a register without a stated write ignores it
abbrev pub after_write : Converters → Reg → ℕ → Converters
after_write b (ConverterList u place) value = with_unit b u (listed place value (unit_at b u))
after_write b (ConverterGo u) value = with_unit b u (gone b.levels value b.time (unit_at b u))
after_write b (ConverterAck u) value = with_unit b u (acknowledged b.time (unit_at b u))
after_write b TriggerSet value = record b { gates = bit_or b.gates value }
after_write b TriggerClear value = record b { gates = without b.gates value }
after_write b TriggerFlags value = record b { pulses = without b.pulses value }
after_write b _ value = b

-- what a new level of an analog input leaves: it counts for what ends from now on
abbrev pub after_analog : Converters → (input value : ℕ) → Converters
after_analog b input value =
    record b { units = map (settled b.levels b.time) b.units; levels = with_level b.levels input value b.time }

-- what a pulse on a trigger input leaves: its flag stands where it finds the gate on
abbrev pub after_pulse : Converters → ℕ → Converters
after_pulse b input =
    if nat_lt input 4 && has_bit b.gates input then record b { pulses = bit_or b.pulses (2 ^ input) } else b

-- what the passing of time leaves: every round is known by the time alone
abbrev pub ticked : Converters → ℕ → Converters
ticked b n = record b { time = b.time + n }
