-- The pulse block: what each access and the passing of time leave, and what each read gives.
use Rattle.std.specs.Prelude.{ℕ, ◌+◌, ◌*◌, ◌/◌, ◌^◌, Bool, true, false, not, ◌&&◌, ◌||◌, ◌==◌, nat_lt, if◌then◌else◌, List, [], ◌∷◌, slice_index_or, slice_set}
use Rattle.mcal_base.specs.Bits.{has_bit, bit_of, bits_of, at_bits}
use Rattle.mcal_base.specs.declared.register.Reg.{Reg}
use Rattle.mcal_base.specs.declared.register.Reg.TheVariants.{PulsePeriod, PulseDuty, PulsePolarity, PulseCommit, PulseIdle, PulseOut, PulseEdges, PulseFlags}
use Rattle.chip_blocks.specs.pulses.Regime.{regime_level, regime_changed, regime_at, changed_by_turn, period_begin, turns_to}
use Rattle.chip_blocks.specs.declared.pulses.regime.Wave.{Wave}
use Rattle.chip_blocks.specs.declared.pulses.regime.Regime.{Regime}
use Rattle.chip_blocks.specs.declared.pulses.pulse.Output.{Output}
use Rattle.chip_blocks.specs.declared.pulses.pulse.Output.TheVariants.{Idle, Runs, Turns}
use Rattle.chip_blocks.specs.declared.pulses.pulse.Mark.{Mark}
use Rattle.chip_blocks.specs.declared.pulses.pulse.Pulse.{Pulse}

-- The channels by number, the peripheral time and the bits of P.EDGES.
pub record Pulses : Type 0 where
  pub time : ℕ
  pub pulses : List Pulse
  pub edges : ℕ

-- ---- one channel

-- an output, as it stands at a time
abbrev pub output_level : Output → ℕ → Bool
output_level (Idle level) now = level
output_level (Runs r) now = regime_level r now
output_level (Turns r c) now = regime_level (regime_at r c now) now

-- it changed to a level after the first time and not after the second, between two units of time
abbrev pub changed_between : Bool → Output → (after now : ℕ) → Bool
changed_between to (Idle level) after now = false
changed_between to (Runs r) after now = regime_changed to r after now
changed_between to (Turns r c) after now = changed_by_turn to r c after now

-- a commit takes effect at the end of the period that runs, at once where there is none
abbrev pub commit_over : Regime → Wave → ℕ → Output
commit_over r w now =
    if r.wave.period == 0
    then Runs (record { start = now; wave = w })
    else Turns r (record { begun = period_begin r now; wave = w })

-- what a commit makes of an output: at once where it is idle, and in place of what was committed before and waits
abbrev pub committed : Wave → ℕ → Output → Output
committed w now (Idle level) = Runs (record { start = now; wave = w })
committed w now (Runs r) = commit_over r w now
committed w now (Turns r c) = commit_over (regime_at r c now) w now

abbrev pub level_of : Pulse → ℕ → Bool
level_of p now = output_level p.output now

abbrev pub mark_of : Bool → Pulse → Mark
mark_of true p = p.rising
mark_of false p = p.falling

-- the flag of changes to a level: one of earlier output stands, or a change came since the time that is watched
abbrev pub is_flagged : Bool → Pulse → ℕ → Bool
is_flagged to p now = (mark_of to p).kept || changed_between to p.output (mark_of to p).watched now

-- the flag stays, and is set where the output changes at once
abbrev pub marked : Bool → Output → ℕ → Pulse → Mark
marked to o now p = record { kept = is_flagged to p now || turns_to to (level_of p now) (output_level o now); watched = now }

-- the channel with another output from now on
abbrev pub put_out : Output → ℕ → Pulse → Pulse
put_out o now p = record p { output = o; rising = marked true o now p; falling = marked false o now p }

-- P<c>.COMMIT takes the period, the duty and the polarity
abbrev pub taken : ℕ → Pulse → Pulse
taken now p = put_out (committed p.wave now p.output) now p

-- a one in P.FLAGS clears the flag of one kind
abbrev pub flag_clear : Bool → ℕ → Pulse → Pulse
flag_clear true now p = record p { rising = record { kept = false; watched = now } }
flag_clear false now p = record p { falling = record { kept = false; watched = now } }

-- as after a reset: idle at low
abbrev pub silent : Pulse
silent = record {
  wave = record { period = 0; duty = 0; high = false };
  output = Idle false;
  rising = record { kept = false; watched = 0 };
  falling = record { kept = false; watched = 0 };
}

-- ---- the block

-- as after a reset at that time
abbrev pub pulses_fresh : ℕ → Pulses
pulses_fresh time = record { time = time; pulses = silent ∷ silent ∷ silent ∷ silent ∷ silent ∷ silent ∷ silent ∷ silent ∷ []; edges = 0 }

-- a channel; one that isn't there is silent
abbrev pub pulse_at : Pulses → ℕ → Pulse
pulse_at b c = slice_index_or b.pulses c silent

-- the block with this channel
abbrev pub with_pulse : Pulses → ℕ → Pulse → Pulses
with_pulse b c p = record b { pulses = slice_set b.pulses c p }

-- the output of a channel
abbrev pub level_at : Pulses → ℕ → Bool
level_at b c = level_of (pulse_at b c) b.time

-- the flags of changes to a level, a bit a channel
abbrev pub flags_to : Bool → Pulses → ℕ
flags_to to b = bits_of (λ c. is_flagged to (pulse_at b c) b.time) 8

-- P.FLAGS: the changes to high in bits 0 to 7, those to low in bits 8 to 15
abbrev pub flags_of : Pulses → ℕ
flags_of b = flags_to false b * 2 ^ 8 + flags_to true b

-- the flag of a channel's line: one of its bits stands and is chosen
abbrev pub is_due : Pulses → ℕ → Bool
is_due b c =
    (has_bit b.edges c && is_flagged true (pulse_at b c) b.time)
    || (has_bit b.edges (c + 8) && is_flagged false (pulse_at b c) b.time)

abbrev pub due_channels : Pulses → ℕ
due_channels b = bits_of (λ c. is_due b c) 8

-- the flags of lines 8 to 15, each at its line's bit
abbrev pub lines_of : Pulses → ℕ
lines_of b = due_channels b * 2 ^ 8

-- ones clear the flags of one kind, a bit a channel
abbrev pub cleared : Bool → Pulses → ℕ → Pulses
cleared to b bits = record b { pulses = at_bits (λ c. flag_clear to b.time) bits b.pulses }

-- what a read gives; a register without a stated read gives 0
abbrev pub read_of : Pulses → Reg → ℕ
read_of b (PulseOut c) = bit_of (level_at b c)
read_of b PulseFlags = flags_of b
read_of b _ = 0

-- what a write leaves; a register without a stated write ignores it, and so does P<c>.IDLE a value above 1
abbrev pub after_write : Pulses → Reg → ℕ → Pulses
after_write b (PulsePeriod c) value = with_pulse b c (let p = pulse_at b c in record p { wave = record (p.wave) { period = value } })
after_write b (PulseDuty c) value = with_pulse b c (let p = pulse_at b c in record p { wave = record (p.wave) { duty = value } })
after_write b (PulsePolarity c) value = with_pulse b c (let p = pulse_at b c in record p { wave = record (p.wave) { high = not (value == 0) } })
after_write b (PulseCommit c) value = with_pulse b c (taken b.time (pulse_at b c))
after_write b (PulseIdle c) value =
    if nat_lt 1 value then b else with_pulse b c (put_out (Idle (value == 1)) b.time (pulse_at b c))
after_write b PulseEdges value = record b { edges = value }
after_write b PulseFlags value = cleared false (cleared true b value) (value / 2 ^ 8)
after_write b _ value = b

-- what the passing of time leaves: every level and flag is known by the time alone
abbrev pub ticked : Pulses → ℕ → Pulses
ticked b n = record b { time = b.time + n }
