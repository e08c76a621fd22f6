-- What the signs of a trace set: which signal is to have which value, and from when on.
use Rattle.std.specs.Prelude.{ℕ, zero, suc, ◌*◌, min, nat_lt, Bool, true, false, Option, Some, None, List, [], ◌∷◌, ◌++◌, if◌then◌else◌}
use Rattle.irq_control.specs.declared.held.Held.{Held}
use Rattle.mcal_base.specs.declared.directive.Reason.{Reason}
use Rattle.mcal_base.specs.declared.moves.Move.{Move}
use Rattle.mcal_base.specs.declared.moves.Move.TheVariants as moves
use Rattle.mcal_base.specs.declared.register.Reg.TheVariants as regs
use Rattle.bench_report.specs.declared.frames.Purpose.{Purpose}
use Rattle.bench_report.specs.declared.frames.Purpose.TheVariants as purposes
use Rattle.trace_reader.specs.declared.told.Mark.{Mark}
use Rattle.trace_reader.specs.declared.told.Mark.TheVariants as marks
use Rattle.trace_reader.specs.declared.told.Step.{Step}
use Rattle.trace_forms.specs.kinds.Holds.{may_begin}
use Rattle.trace_forms.specs.kinds.Sums.{sum_up}
use Rattle.trace_forms.specs.declared.kinds.signs.Asked.{Asked}
use Rattle.trace_forms.specs.declared.kinds.signs.Asked.TheVariants as asks
use Rattle.trace_forms.specs.declared.kinds.signs.Frame.{Frame}
use Rattle.trace_forms.specs.declared.kinds.signs.Sign.{Sign}
use Rattle.trace_forms.specs.declared.kinds.signs.What.{What}
use Rattle.trace_forms.specs.declared.kinds.signs.What.TheVariants as whats
use Rattle.trace_waves.specs.declared.board.Change.{Change}
use Rattle.trace_waves.specs.declared.settings.Before.{Before}
use Rattle.trace_waves.specs.declared.settings.Clock.{Clock}
use Rattle.trace_waves.specs.declared.settings.Clock.TheVariants as clocks
use Rattle.trace_waves.specs.declared.signal.Context.{Context}
use Rattle.trace_waves.specs.declared.signal.Context.TheVariants as contexts
use Rattle.trace_waves.specs.declared.signal.Signal.{Signal}
use Rattle.trace_waves.specs.declared.signal.Signal.TheVariants as signals
use Rattle.trace_waves.specs.declared.value.Value.{Value}
use Rattle.trace_waves.specs.declared.value.Value.TheVariants as values

-- the time behind so many ticks and steps: the steps, or a thousand for each tick and one for each step
abbrev pub time : Clock → ℕ → ℕ → ℕ
time clocks.Steps ticks steps = steps
time clocks.Ticks ticks steps = sum_up (min (ticks * 1000) 18446744073709551615) steps

-- what was told before a sign, and behind it
abbrev pub nothing : Before
nothing = record { asked = asks.Nothing; ticks = 0 }

unfoldable pub behind : Before → What → Before
behind b (whats.Turn asked) = record b { asked = asked }
behind b (whats.Ticked ticks all) = record b { ticks = all }
behind b (whats.Waited ticks all) = record b { ticks = all }
behind b _ = b

abbrev pub behind_all : Before → List Sign → Before
behind_all b [] = b
behind_all b (s ∷ signs) = behind_all (behind b s.what) signs

-- ---- what a sign sets at a time

abbrev pub is : ℕ → Signal → Value → Change
is at signal value = record { at = at; signal = signal; value = value }

abbrev pub asked : ℕ → Asked → List Change
asked at (asks.Pin p level) = is at (signals.Pin p) (values.Bit level) ∷ []
asked at (asks.Analog input value) = is at (signals.Analog input) (values.Number value) ∷ []
asked at _ = []

abbrev pub turn : ℕ → ℕ → Asked → List Change
turn at line asks = is at signals.ScriptLine (values.Number line) ∷ asked at asks

abbrev pub context_of : Purpose → ℕ → Context
context_of (purposes.Call service) level = contexts.Level level
context_of (purposes.Handler line) level = contexts.Line line

-- the word of a call at its level
abbrev pub call : ℕ → Purpose → ℕ → Value → List Change
call at (purposes.Call service) level value = is at (signals.Call level) value ∷ []
call at (purposes.Handler line) level value = []

abbrev pub word_of : Purpose → Value
word_of (purposes.Call service) = values.Call service
word_of (purposes.Handler line) = values.Nothing

abbrev pub begins : ℕ → Frame → List Change
begins at frame =
    is at (signals.Runs (context_of frame.purpose frame.level)) (values.Bit true) ∷ is at (signals.Waits (context_of frame.purpose frame.level)) (values.Bit false) ∷
    call at frame.purpose frame.level (word_of frame.purpose)

abbrev pub gone : ℕ → Frame → List Change
gone at frame = is at (signals.Runs (context_of frame.purpose frame.level)) (values.Bit false) ∷ call at frame.purpose frame.level values.Nothing

abbrev pub waits : ℕ → Asked → Held → List Change
waits at (asks.Frame purpose level whole) cause = is at (signals.Waits (context_of purpose level)) (values.Bit (may_begin cause)) ∷ []
waits at _ cause = []

abbrev pub held : ℕ → Asked → Held → List Change
held at asks cause = is at signals.Held (values.Held cause) ∷ is at signals.Reset values.Nothing ∷ waits at asks cause

unfoldable pub mask : ℕ → Move → List Change
mask at moves.Mask = is at signals.Masked (values.Bit true) ∷ []
mask at moves.Unmask = is at signals.Masked (values.Bit false) ∷ []
mask at _ = []

abbrev pub acts : Option Mark → Bool
acts (Some marks.Act) = true
acts _ = false

abbrev pub serves : Option Mark → Bool
serves (Some (marks.Serve line)) = true
serves _ = false

abbrev pub event_of : Option Mark → Value
event_of (Some mark) = values.Event mark
event_of None = values.Nothing

unfoldable pub event : ℕ → Option Mark → List Change
event at mark = is at signals.Act (values.Bit (acts mark)) ∷ is at signals.Serve (values.Bit (serves mark)) ∷ is at signals.Event (event_of mark) ∷ []

-- what was told between two steps is told no more, where it wasn't told just before this one
abbrev pub stale : ℕ → Bool → List Change
stale at fresh = if fresh then [] else (is at signals.Held values.Nothing ∷ is at signals.Reset values.Nothing ∷ [])

unfoldable pub cleared : ℕ → Bool → List Change
cleared at fresh = is at signals.Notice values.Nothing ∷ is at signals.Error values.Nothing ∷ stale at fresh

-- what is written of a register, or read from it, that is of a pulse output
abbrev pub pulse_of : Move → ℕ → Option (Signal × Value)
pulse_of (moves.Write (regs.PulsePeriod output) period) value = Some (signals.Period output, values.Number period)
pulse_of (moves.Write (regs.PulseDuty output) duty) value = Some (signals.Duty output, values.Number duty)
pulse_of (moves.Write (regs.PulsePolarity output) polarity) value = Some (signals.Polarity output, values.Bit (nat_lt 0 polarity))
pulse_of (moves.Read (regs.PulseOut output)) value = Some (signals.Output output, values.Bit (nat_lt 0 value))
pulse_of _ value = None

unfoldable pub pulse : ℕ → Option (Signal × Value) → List Change
pulse at None = []
pulse at (Some told) = is at told.0 told.1 ∷ []

unfoldable pub stepped : ℕ → Step → Bool → List Change
stepped at step fresh = mask at step.made ++ (event at step.mark ++ (cleared at fresh ++ pulse at (pulse_of step.made step.value)))

-- no handler and no call waits
unfoldable pub idle_lines : ℕ → ℕ → List Change
idle_lines at zero = []
idle_lines at (suc n) = idle_lines at n ++ is at (signals.Waits (contexts.Line n)) (values.Bit false) ∷ []

unfoldable pub idle_levels : ℕ → ℕ → List Change
idle_levels at zero = []
idle_levels at (suc n) = idle_levels at n ++ is at (signals.Waits (contexts.Level n)) (values.Bit false) ∷ []

unfoldable pub reset : ℕ → Reason → List Change
reset at reason =
    is at signals.Reset (values.Reset reason) ∷ is at signals.Held values.Nothing ∷ is at signals.Masked (values.Bit false) ∷ (idle_levels at 8 ++ idle_lines at 32)

unfoldable pub shown : ℕ → Before → ℕ → What → List Change
shown at b line (whats.Turn asks) = turn at line asks
shown at b line (whats.Ticked ticks all) = is at signals.Ticks (values.Number all) ∷ []
shown at b line (whats.Waited ticks all) = is at signals.Ticks (values.Number all) ∷ []
shown at b line (whats.Begins frame) = begins at frame
shown at b line (whats.Stepped step fresh) = stepped at step fresh
shown at b line (whats.Held cause) = held at b.asked cause
shown at b line (whats.Noted notice) = is at signals.Notice (values.Notice notice) ∷ []
shown at b line (whats.Erred found) = is at signals.Error (values.Error found) ∷ []
shown at b line (whats.Gone frame ending) = gone at frame
shown at b line (whats.Window first) = []
shown at b line (whats.Reset reason dropped) = reset at reason
shown at b line whats.Shown = []
shown at b line whats.Done = []

-- ---- what all signs set

unfoldable pub set_by : Clock → Before → Sign → List Change
set_by clock b s = shown (time clock b.ticks s.step) b s.number s.what

abbrev pub settings : Clock → Before → List Sign → List Change
settings clock b [] = []
settings clock b (s ∷ signs) = set_by clock (behind b s.what) s ++ settings clock (behind b s.what) signs
