-- Small runs of the machine of the pulse outputs, written out: the boards, and what happens.
use Rattle.std.specs.Prelude.{ℕ, ◌+◌, Bool, true, false, List, [], ◌∷◌, ◌++◌, Option, Some, None}
use Rattle.mcal_base.specs.declared.config.pwm.PwmChannelClass.{PwmChannelClass}
use Rattle.mcal_base.specs.declared.config.pwm.PwmChannelClass.TheVariants.{FixedPeriod, VariablePeriod}
use Rattle.mcal_base.specs.declared.config.pwm.PwmOutputState.TheVariants.{High, Low}
use Rattle.mcal_base.specs.declared.config.pwm.PwmChannel.{PwmChannel}
use Rattle.mcal_base.specs.declared.module_name.ModuleName.TheVariants as modules
use Rattle.run_model.specs.declared.class.Tag.{Tag}
use Rattle.run_model.specs.World.{world_start}
use Rattle.run_model.specs.Machine.{Happening, Acts, Restarts, Told}
use Rattle.mcal_base.specs.declared.directive.Reason.TheVariants.{PowerOn}
use Rattle.worked_examples.specs.Told.{told, left_from, ticks, acting, serving}
use Rattle.module_machines.specs.pwm.Classes.{class_of}
use Rattle.module_machines.specs.pwm.Machine.{pwm_machine, first_state, level_at}
use Rattle.module_machines.specs.pwm.Table.{table_of}
use Rattle.module_machines.specs.declared.pwm.call.Call.{Call}
use Rattle.module_machines.specs.declared.pwm.call.Call.TheVariants.{Init, DeInit, GetOutputState, Channel}
use Rattle.module_machines.specs.declared.pwm.call.ChannelCall.{ChannelCall}
use Rattle.module_machines.specs.declared.pwm.call.ChannelCall.TheVariants.{SetDutyCycle, SetPeriodAndDuty, SetOutputToIdle, EnableNotification, DisableNotification}
use Rattle.module_machines.specs.declared.pwm.call.PwmEdge.TheVariants.{Rising, Falling, Both}
use Rattle.module_machines.specs.declared.pwm.table.PwmTable.{PwmTable}

-- ---- boards

-- channel 0, of half duty, idle at low, with high polarity
abbrev pub first_channel : PwmChannelClass → (period : ℕ) → (notification : Bool) → PwmChannel
first_channel class period notification = record { id = 0; class = class; duty_cycle_default = 16384; idle_state = Low; polarity = High; notification = notification; period_ticks = period; pin = None; level = 1 }

-- it alone
abbrev pub board_of : PwmChannelClass → (period : ℕ) → (notification : Bool) → PwmTable
board_of class period notification = table_of (record { dev_error_detect = true; channels = first_channel class period notification ∷ [] })

-- a channel of a variable period of 10 without a notification, one with it, and one of a fixed period of 1000
abbrev pub plain_board : PwmTable
plain_board = board_of VariablePeriod 10 false

abbrev pub notifying_board : PwmTable
notifying_board = board_of VariablePeriod 10 true

abbrev pub fixed_board : PwmTable
fixed_board = board_of FixedPeriod 1000 false

-- the second of these, and channel 3 of a variable period of 4 and a quarter of duty, idle at high, with low polarity and a notification
abbrev pub two_channels : PwmTable
two_channels = table_of (record {
  dev_error_detect = true;
  channels =
      first_channel VariablePeriod 10 true
      ∷ record { id = 3; class = VariablePeriod; duty_cycle_default = 8192; idle_state = High; polarity = Low; notification = true; period_ticks = 4; pin = None; level = 1 } ∷ [];
})

abbrev pub told_on : PwmTable → List (Happening Call) → List (Option Told)
told_on d hs = told (pwm_machine d) first_state hs

-- the output of a channel after a run
abbrev pub level_after : PwmTable → List (Happening Call) → ℕ → Bool
level_after d hs c = left_from (pwm_machine d) (λ w s. level_at d w s c) (world_start 0) first_state hs

-- the frame of a call of level 0, and that of a handler of level 1
abbrev pub tag_of : Call → Tag
tag_of call = record { level = 0; owner = modules.Pwm; class = Some (class_of call) }

abbrev pub handler_tag : Tag
handler_tag = record { level = 1; owner = modules.Pwm; class = None }

-- ---- what happens

abbrev pub asks : ChannelCall → Happening Call
asks call = acting (Channel 0 call)

abbrev pub looks : Happening Call
looks = acting (GetOutputState 0)

-- duties of a period of 3, the whole duty, none, and no period
abbrev pub duties_run : List (Happening Call)
duties_run =
    acting Init ∷ asks SetOutputToIdle ∷ asks (SetPeriodAndDuty 3 0x7FFF) ∷ looks ∷ ticks 2 ∷ looks ∷ ticks 1 ∷ looks ∷ asks (SetDutyCycle 0x8000) ∷ ticks 5 ∷ looks ∷ asks (SetDutyCycle 0) ∷ ticks 1 ∷ looks
    ∷ asks (SetPeriodAndDuty 0 0x4000) ∷ ticks 100 ∷ looks ∷ []

-- a period ends before the call acts that sets the next one
abbrev pub period_end_run : List (Happening Call)
period_end_run = acting Init ∷ ticks 9 ∷ ticks 1 ∷ asks (SetPeriodAndDuty 4 0x4000) ∷ ticks 9 ∷ looks ∷ ticks 1 ∷ looks ∷ ticks 2 ∷ looks ∷ []

-- falling changes are notified
abbrev pub notified_run : List (Happening Call)
notified_run = acting Init ∷ asks (EnableNotification Falling) ∷ ticks 4 ∷ serving 8 ∷ ticks 1 ∷ serving 8 ∷ ticks 5 ∷ serving 8 ∷ []

-- a call changes the level: from high to idle, and up again by a new duty; a change before the enabling doesn't count
abbrev pub acts_change_run : List (Happening Call)
acts_change_run =
    acting Init ∷ ticks 1 ∷ asks SetOutputToIdle ∷ asks (EnableNotification Falling) ∷ serving 8 ∷ asks (SetDutyCycle 0x8000) ∷ serving 8 ∷ asks SetOutputToIdle ∷ serving 8 ∷ serving 8 ∷ []

-- the whole duty gives way to none at the end of a period
abbrev pub takes_over_run : List (Happening Call)
takes_over_run =
    acting Init ∷ asks SetOutputToIdle ∷ asks (SetDutyCycle 0x8000) ∷ asks (EnableNotification Both) ∷ ticks 3 ∷ asks (SetDutyCycle 0) ∷ ticks 6 ∷ looks ∷ serving 8 ∷ ticks 1 ∷ looks ∷ serving 8 ∷ serving 8 ∷ []

-- what waited is dropped by idle, but its period is that of the next duty
abbrev pub dropped_run : List (Happening Call)
dropped_run =
    acting Init ∷ asks (SetPeriodAndDuty 4 0x4000) ∷ asks SetOutputToIdle ∷ ticks 50 ∷ looks ∷ asks (SetDutyCycle 0x4000) ∷ looks ∷ ticks 2 ∷ looks ∷ ticks 2 ∷ looks ∷ []

-- the output was committed at 3, and the call acts at 5
abbrev pub committed_run : List (Happening Call)
committed_run = ticks 5 ∷ Acts Init (λ c. 3) ∷ ticks 2 ∷ looks ∷ ticks 1 ∷ looks ∷ ticks 5 ∷ looks ∷ []

-- calls that are refused
abbrev pub refusals_run : List (Happening Call)
refusals_run =
    looks ∷ acting DeInit ∷ acting Init ∷ acting Init ∷ asks (SetPeriodAndDuty 5 0) ∷ asks (EnableNotification Both) ∷ asks DisableNotification ∷ acting (GetOutputState 1) ∷ acting (Channel 8 (SetDutyCycle 0))
    ∷ Restarts PowerOn ∷ asks SetOutputToIdle ∷ []

-- a fixed period of 1000
abbrev pub fixed_run : List (Happening Call)
fixed_run = acting Init ∷ ticks 500 ∷ looks ∷ ticks 500 ∷ looks ∷ []

-- what is asked of channel 3, and its output
abbrev pub asks_third : ChannelCall → Happening Call
asks_third call = acting (Channel 3 call)

abbrev pub looks_third : Happening Call
looks_third = acting (GetOutputState 3)

-- two channels that were committed at 2 and at 5: their levels, the changes of one that are notified, and the end
abbrev pub two_channels_run : List (Happening Call)
two_channels_run =
    ticks 5 ∷ Acts Init (λ c. 2 + c) ∷ looks ∷ looks_third ∷ ticks 1 ∷ looks_third ∷ ticks 1 ∷ looks
    ∷ asks_third (EnableNotification Rising) ∷ asks (EnableNotification Falling) ∷ ticks 2 ∷ serving 11 ∷ serving 8 ∷ ticks 1 ∷ serving 11 ∷ serving 8
    ∷ asks_third SetOutputToIdle ∷ looks_third ∷ asks_third (SetDutyCycle 0x8000) ∷ looks_third ∷ serving 11 ∷ asks_third SetOutputToIdle ∷ serving 11
    ∷ asks_third DisableNotification ∷ asks_third (SetDutyCycle 0x8000) ∷ asks_third SetOutputToIdle ∷ serving 11 ∷ acting DeInit ∷ []

-- and a second beginning
abbrev pub begun_again_run : List (Happening Call)
begun_again_run = two_channels_run ++ (looks_third ∷ Acts Init (λ c. 10) ∷ looks ∷ [])

-- a duty that waits takes over, a duty comes after that, and then no period, behind which another one comes at once
abbrev pub taken_over_run : List (Happening Call)
taken_over_run =
    acting Init ∷ asks (SetPeriodAndDuty 4 0x8000) ∷ ticks 17 ∷ asks (SetDutyCycle 0) ∷ looks ∷ ticks 1 ∷ looks ∷ asks (SetPeriodAndDuty 0 0) ∷ ticks 4 ∷ asks (SetPeriodAndDuty 2 0x8000) ∷ looks ∷ []

-- a duty comes in place of one that waits with its period
abbrev pub in_place_run : List (Happening Call)
in_place_run = acting Init ∷ asks (SetPeriodAndDuty 4 0x8000) ∷ ticks 3 ∷ asks (SetDutyCycle 0x4000) ∷ ticks 8 ∷ looks ∷ ticks 1 ∷ looks ∷ ticks 2 ∷ looks ∷ []

-- a change before a call that sets the duty
abbrev pub kept_mark_run : List (Happening Call)
kept_mark_run = acting Init ∷ asks (EnableNotification Falling) ∷ ticks 5 ∷ asks (SetDutyCycle 0x2000) ∷ serving 8 ∷ []

-- calls that change the level both ways
abbrev pub both_ways_run : List (Happening Call)
both_ways_run =
    acting Init ∷ asks SetOutputToIdle ∷ asks (EnableNotification Both) ∷ asks (SetDutyCycle 0x8000) ∷ serving 8 ∷ asks SetOutputToIdle ∷ serving 8
    ∷ asks (EnableNotification Rising) ∷ asks (SetDutyCycle 0x8000) ∷ serving 8 ∷ []
