-- Small runs of the timers' machine, written out: the boards, what happens, and what is told.
use Rattle.std.specs.Prelude.{ℕ, true, false, List, [], ◌∷◌, Option, Some}
use Rattle.mcal_base.specs.declared.config.gpt.GptChannelMode.TheVariants.{Continuous, OneShot}
use Rattle.run_model.specs.declared.class.Tag.{Tag}
use Rattle.run_model.specs.Moment.{line_tag, call_tag}
use Rattle.run_model.specs.Machine.{Happening, Told}
use Rattle.worked_examples.specs.Told.{told, numbered, ticks, acting, serving}
use Rattle.module_machines.specs.gpt.Bounds.{gpt_setting}
use Rattle.module_machines.specs.gpt.Machine.{gpt_machine, first_state}
use Rattle.module_machines.specs.gpt.Table.{table_of}
use Rattle.module_machines.specs.declared.gpt.call.Call.{Call}
use Rattle.module_machines.specs.declared.gpt.call.Call.TheVariants.{Init, SetMode, Channel}
use Rattle.module_machines.specs.declared.gpt.call.ChannelCall.TheVariants.{GetTimeElapsed, GetTimeRemaining, StartTimer, StopTimer, Change}
use Rattle.module_machines.specs.declared.gpt.call.Change.TheVariants.{Notification, Wakeup, Check}
use Rattle.module_machines.specs.declared.gpt.call.GptMode.TheVariants as modes
use Rattle.module_machines.specs.declared.gpt.table.GptTable.{GptTable}

-- ---- boards

-- one one-shot channel
abbrev pub plain_board : GptTable
plain_board = table_of (record {
  dev_error_detect = true;
  classification = 1;
  channels = record { id = 0; mode = OneShot; tick_value_max = 4294967295; enable_wakeup = false; notification = false; prescaler = 1; level = 1 } ∷ [];
})

-- a one-shot channel of small values that notifies, and a continuous one that notifies and wakes
abbrev pub two_channels : GptTable
two_channels = table_of (record {
  dev_error_detect = true;
  classification = 1;
  channels =
      record { id = 0; mode = OneShot; tick_value_max = 100000; enable_wakeup = false; notification = true; prescaler = 1; level = 1 }
      ∷ record { id = 1; mode = Continuous; tick_value_max = 4294967295; enable_wakeup = true; notification = true; prescaler = 1; level = 2 }
      ∷ [];
})

-- the frame of the handler of channel 0's line, and of a call of level 0 that asks that channel
abbrev pub handler_tag : Tag
handler_tag = line_tag (gpt_setting two_channels) 0

abbrev pub asking_tag : Tag
asking_tag = call_tag (gpt_setting two_channels) (Channel 0 GetTimeElapsed) 0

-- ---- what is told and what happens

-- what is told at each happening, from power on
abbrev pub told_on : GptTable → List (Happening Call) → List (Option Told)
told_on d hs = told (gpt_machine d) first_state hs

-- a number is answered
abbrev pub answered : ℕ → Option Told
answered n = numbered (n ∷ [])

-- a timer is started with 100, and asked after 30 ticks
abbrev pub plain_run : List (Happening Call)
plain_run = acting Init ∷ acting (Channel 0 (StartTimer 100)) ∷ ticks 30 ∷ acting (Channel 0 GetTimeElapsed) ∷ []

-- a timer is started with values that are too small, too large and the largest, and while it runs
abbrev pub starts_run : List (Happening Call)
starts_run = acting Init ∷ acting (Channel 0 (StartTimer 0)) ∷ acting (Channel 0 (StartTimer 100001)) ∷ acting (Channel 0 (StartTimer 100000)) ∷ acting (Channel 0 (StartTimer 5)) ∷ []

-- a timer expires, is asked and is served twice
abbrev pub expiry_run : List (Happening Call)
expiry_run =
    acting Init ∷ acting (Channel 0 (Change (Notification true))) ∷ acting (Channel 0 (StartTimer 50)) ∷ ticks 50 ∷ acting (Channel 0 GetTimeElapsed) ∷ acting (Channel 0 GetTimeRemaining) ∷ serving 0
    ∷ serving 0 ∷ []

-- a timer is asked one tick before its low half is full, and a tick later
abbrev pub carry_run : List (Happening Call)
carry_run = acting Init ∷ acting (Channel 0 (StartTimer 100000)) ∷ ticks 65535 ∷ acting (Channel 0 GetTimeElapsed) ∷ ticks 1 ∷ acting (Channel 0 GetTimeElapsed) ∷ []

-- a timer is stopped one tick before its expiry, and then at an expiry
abbrev pub stops_run : List (Happening Call)
stops_run =
    acting Init ∷ acting (Channel 0 (Change (Notification true))) ∷ acting (Channel 0 (StartTimer 50)) ∷ ticks 49 ∷ acting (Channel 0 StopTimer) ∷ ticks 1 ∷ acting (Channel 0 GetTimeElapsed) ∷ serving 0
    ∷ acting (Channel 0 (StartTimer 50)) ∷ ticks 50 ∷ acting (Channel 0 StopTimer) ∷ acting (Channel 0 GetTimeElapsed) ∷ serving 0 ∷ []

-- two timers fall asleep, one of them wakes, and the other one was stopped
abbrev pub sleep_run : List (Happening Call)
sleep_run =
    acting Init ∷ acting (Channel 1 (Change (Wakeup true))) ∷ acting (Channel 0 (StartTimer 100)) ∷ acting (Channel 1 (StartTimer 40)) ∷ ticks 10 ∷ acting (SetMode (Some modes.Sleep)) ∷ ticks 30
    ∷ serving 1 ∷ acting (Channel 1 (Change Check)) ∷ acting (Channel 1 (Change Check)) ∷ acting (Channel 0 (StartTimer 5)) ∷ acting (SetMode (Some modes.Normal)) ∷ acting (Channel 0 GetTimeElapsed) ∷ []

-- a timer is started again in its notification
abbrev pub callback_run : List (Happening Call)
callback_run =
    acting Init ∷ acting (Channel 0 (Change (Notification true))) ∷ acting (Channel 0 (StartTimer 10)) ∷ acting (Channel 1 (StartTimer 5000)) ∷ ticks 10 ∷ serving 0 ∷ acting (Channel 0 (StartTimer 20))
    ∷ acting (Channel 1 GetTimeElapsed) ∷ []

-- a continuous timer passes its value twice before it is served, and is stopped
abbrev pub continuous_run : List (Happening Call)
continuous_run =
    acting Init ∷ acting (Channel 1 (Change (Notification true))) ∷ acting (Channel 1 (StartTimer 40)) ∷ ticks 100 ∷ acting (Channel 1 GetTimeElapsed) ∷ acting (Channel 1 GetTimeRemaining) ∷ serving 1
    ∷ serving 1 ∷ ticks 20 ∷ acting (Channel 1 StopTimer) ∷ serving 1 ∷ []
