-- The signals of a run, with their names and their numbers.
use Rattle.std.specs.Prelude.{ℕ, ◌+◌, min, List, ◌++◌, codes, decimal}
use Rattle.trace_waves.specs.declared.signal.Context.{Context}
use Rattle.trace_waves.specs.declared.signal.Context.TheVariants as contexts
use Rattle.trace_waves.specs.declared.signal.Signal.{Signal}
use Rattle.trace_waves.specs.declared.signal.Signal.TheVariants as signals

abbrev pub context_name : Context → List ℕ
context_name (contexts.Level level) = codes "level" ++ decimal level
context_name (contexts.Line line) = codes "line" ++ decimal line

abbrev pub name : Signal → List ℕ
name signals.ScriptLine = codes "script_line"
name signals.Ticks = codes "ticks"
name signals.Masked = codes "masked"
name signals.Act = codes "act"
name signals.Serve = codes "serve"
name signals.Event = codes "event"
name signals.Notice = codes "notice"
name signals.Error = codes "error"
name signals.Held = codes "held"
name signals.Reset = codes "chip_reset"
name (signals.Call level) = codes "level" ++ (decimal level ++ codes "_call")
name (signals.Runs context) = context_name context
name (signals.Waits context) = context_name context ++ codes "_waits"
name (signals.Pin p) = codes "pin" ++ decimal p
name (signals.Polarity output) = codes "pulse" ++ (decimal output ++ codes "_polarity")
name (signals.Output output) = codes "pulse" ++ (decimal output ++ codes "_out")
name (signals.Analog input) = codes "analog" ++ decimal input
name (signals.Period output) = codes "pulse" ++ (decimal output ++ codes "_period")
name (signals.Duty output) = codes "pulse" ++ (decimal output ++ codes "_duty")

abbrev pub context_slot : ℕ → ℕ → Context → ℕ
context_slot level_slot line_slot (contexts.Level level) = level_slot + min level 7
context_slot level_slot line_slot (contexts.Line line) = line_slot + min line 31

-- its number, by which signals are told apart
abbrev pub slot : Signal → ℕ
slot signals.ScriptLine = 0
slot signals.Ticks = 1
slot signals.Masked = 2
slot signals.Act = 3
slot signals.Serve = 4
slot signals.Event = 5
slot signals.Notice = 6
slot signals.Error = 7
slot signals.Held = 8
slot signals.Reset = 9
slot (signals.Call level) = 10 + min level 7
slot (signals.Runs context) = context_slot 20 30 context
slot (signals.Waits context) = context_slot 70 80 context
slot (signals.Pin p) = 120 + min p 63
slot (signals.Polarity output) = 190 + min output 7
slot (signals.Output output) = 200 + min output 7
slot (signals.Analog input) = 210 + min input 31
slot (signals.Period output) = 250 + min output 7
slot (signals.Duty output) = 260 + min output 7
