-- How what the program keeps stands for the machine's state.
use Rattle.std.specs.Prelude.{◌<◌, List, [], Bool, map, if◌then◌else◌}
use Rattle.module_machines.specs.gpt.Machine as machine
use Rattle.module_machines.specs.declared.gpt.call.Call.{Call}
use Rattle.module_machines.specs.declared.gpt.call.Call.TheVariants.{Channel}
use Rattle.module_machines.specs.declared.gpt.call.ChannelCall.{ChannelCall}
use Rattle.module_machines.specs.declared.gpt.call.ChannelCall.TheVariants.{StartTimer}
use Rattle.module_machines.specs.declared.gpt.table.GptTable.{GptTable}
use Rattle.audit_timers.specs.declared.course.Course.{Course}
use Rattle.audit_timers.specs.declared.course.Course.TheVariants.{Never, Running, Stopped}
use Rattle.audit_timers.specs.declared.timers.Mode.{Mode}
use Rattle.audit_timers.specs.declared.timers.Mode.TheVariants.{Off, Normal, Sleep}
use Rattle.audit_timers.specs.declared.timing.Timing as code

-- The timers' machine under a configuration.
pub record Kept : Type 0 where
  pub driver : GptTable
  pub state : machine.GptState

-- what a channel is about
abbrev pub course_of : Course → machine.Course
course_of Never = machine.Never
course_of (Running s v) = machine.Running s v
course_of (Stopped e v) = machine.Stopped e v

-- a target isn't 0
abbrev pub HasTarget : Course → Type 0
HasTarget (Running s v) = 0 < v
HasTarget _ = Unit {0}

-- a call that starts a channel has a value for it
abbrev pub TakesTarget : ChannelCall → Type 0
TakesTarget (StartTimer v) = 0 < v
TakesTarget _ = Unit {0}

abbrev pub CallTakes : Call → Type 0
CallTakes (Channel c call) = TakesTarget call
CallTakes _ = Unit {0}

-- the mode, a channel, and the channels
abbrev pub mode_of : Mode → machine.Mode
mode_of Off = machine.Off
mode_of Normal = machine.Normal
mode_of Sleep = machine.Sleep

abbrev pub timing_of : code.Timing → machine.Timing
timing_of t = record { course = course_of t.course; dropped = t.dropped; switches = t.switches }

abbrev pub TimingFits : code.Timing → Type 0
TimingFits t = HasTarget t.course

-- all eight, once one was touched
abbrev pub channels_of : (touched : Bool) → List code.Timing → List machine.Timing
channels_of touched xs = if touched then map timing_of xs else []
