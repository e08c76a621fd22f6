-- Small runs of clock, pins and timers as one board, written out: the boards, what happens, and what is told and shown.
use Rattle.std.specs.Prelude.{ℕ, Bool, true, false, List, [], ◌∷◌, Option, Some, None}
use Rattle.mcal_base.specs.declared.config.gpt.GptChannelMode.TheVariants.{Continuous}
use Rattle.mcal_base.specs.declared.config.port.PortPinDirection.TheVariants.{In, Out}
use Rattle.mcal_base.specs.declared.config.port.PortPinMode.TheVariants.{Dio, Pwm}
use Rattle.mcal_base.specs.declared.directive.Order.{Order}
use Rattle.mcal_base.specs.declared.directive.Order.TheVariants.{Tick, Level}
use Rattle.run_model.specs.World.{World, world_start, world_after}
use Rattle.run_model.specs.Machine.{Happening, Moves, Told, Outcome}
use Rattle.run_model.specs.Frame.{state_by}
use Rattle.worked_examples.specs.Told.{outcome_told, acting, serving}
use Rattle.module_machines.specs.mcu.Shown.{shown_words}
use Rattle.module_machines.specs.mcu.Machine.{McuState, mcu_machine, first_state as mcu_first}
use Rattle.module_machines.specs.mcu.Table.{table_of as mcu_of}
use Rattle.module_machines.specs.declared.mcu.call.Call as mcu_calls
use Rattle.module_machines.specs.declared.mcu.call.Call.TheVariants.{InitRamSection, Clock, GetPllStatus}
use Rattle.module_machines.specs.declared.mcu.call.ClockCall.TheVariants.{InitClock, DistributePllClock}
use Rattle.module_machines.specs.declared.mcu.call.Call.TheVariants as mcu
use Rattle.module_machines.specs.declared.mcu.table.McuTable.{McuTable}
use Rattle.module_machines.specs.port.Shown.{shown_levels}
use Rattle.module_machines.specs.port.Machine.{PortState, port_machine, first_state as port_first}
use Rattle.module_machines.specs.port.Table.{table_of as port_of}
use Rattle.module_machines.specs.declared.port.call.Call as port_calls
use Rattle.module_machines.specs.declared.port.call.Call.TheVariants.{RefreshPortDirection, Pin}
use Rattle.module_machines.specs.declared.port.call.Call.TheVariants as port
use Rattle.module_machines.specs.declared.port.call.PinCall.TheVariants.{SetPinDirection}
use Rattle.module_machines.specs.declared.port.table.PortTable.{PortTable}
use Rattle.module_machines.specs.gpt.Machine.{GptState, gpt_machine, first_state as gpt_first}
use Rattle.module_machines.specs.gpt.Table.{table_of as gpt_of}
use Rattle.module_machines.specs.declared.gpt.call.Call as gpt_calls
use Rattle.module_machines.specs.declared.gpt.call.Call.TheVariants.{Channel}
use Rattle.module_machines.specs.declared.gpt.call.Call.TheVariants as gpt
use Rattle.module_machines.specs.declared.gpt.call.ChannelCall.TheVariants.{GetTimeElapsed, GetTimeRemaining, StartTimer, Change}
use Rattle.module_machines.specs.declared.gpt.call.Change.TheVariants.{Notification}
use Rattle.module_machines.specs.declared.gpt.table.GptTable.{GptTable}

-- ---- boards

-- A board of clock, pins and timers.
pub record Board : Type 0 where
  pub clock : McuTable
  pub pins : PortTable
  pub timers : GptTable

-- a setting of 4, a RAM section of two words, a pin that is out and high and may change its direction, one that is in, and a continuous timer
abbrev pub small_board : Board
small_board = record {
  clock = mcu_of (record {
    dev_error_detect = true;
    clock_settings = record { id = 0; multiplier = 4 } ∷ [];
    modes = [];
    ram_sections = record { base_address = 510; size = 2; default_value = 7 } ∷ [];
  });
  pins = port_of (record {
    dev_error_detect = true;
    pins =
        record { id = 0; direction = Out; direction_changeable = true; initial_mode = Dio; modes = Dio ∷ []; mode_changeable = false; level_high = true }
        ∷ record { id = 1; direction = In; direction_changeable = false; initial_mode = Dio; modes = Dio ∷ []; mode_changeable = false; level_high = false }
        ∷ [];
  });
  timers = gpt_of (record {
    dev_error_detect = true;
    classification = 1;
    channels = record { id = 0; mode = Continuous; tick_value_max = 4294967295; enable_wakeup = false; notification = false; prescaler = 1; level = 1 } ∷ [];
  });
}

-- a setting of 4, a pin for a pulse output, and a continuous timer that notifies
abbrev pub pulse_board : Board
pulse_board = record {
  clock = mcu_of (record {
    dev_error_detect = true;
    clock_settings = record { id = 0; multiplier = 4 } ∷ [];
    modes = record { mode = 0 } ∷ [];
    ram_sections = [];
  });
  pins = port_of (record {
    dev_error_detect = true;
    pins = record { id = 0; direction = Out; direction_changeable = false; initial_mode = Pwm; modes = Pwm ∷ []; mode_changeable = false; level_high = false } ∷ [];
  });
  timers = gpt_of (record {
    dev_error_detect = true;
    classification = 1;
    channels = record { id = 0; mode = Continuous; tick_value_max = 4294967295; enable_wakeup = false; notification = true; prescaler = 1; level = 2 } ∷ [];
  });
}

-- ---- runs

-- What happens on a board, or is shown of it.
pub data Step : Type 0 where
  -- a call acts, a timer's line is served, the hardware moves
  ClockActs : mcu_calls.Call → Step
  PinActs : port_calls.Call → Step
  TimerActs : gpt_calls.Call → Step
  TimerServes : (line : ℕ) → Step
  Hardware : Order → Step
  -- the words of the RAM sections are shown, or the levels of the pins with the outputs of the pulse channels that name them
  ShowsRam : Step
  ShowsPins : (pulses : ℕ → Option Bool) → Step

-- What is told or shown; none is told where a step isn't allowed.
pub data StepOutput : Type 0 where
  Tells : Option Told → StepOutput
  Words : List (ℕ × List ℕ) → StepOutput
  Levels : List (ℕ × Bool) → StepOutput

-- The outside, and the modules of a board.
pub record Standing : Type 0 where
  pub world : World
  pub clock : McuState
  pub pins : PortState
  pub timers : GptState

abbrev pub at_power_on : Standing
at_power_on = record { world = world_start 0; clock = mcu_first; pins = port_first; timers = gpt_first }

-- what comes of a happening of each module
abbrev pub of_clock : Board → Standing → Happening mcu_calls.Call → Option (Outcome McuState)
of_clock b x h = (mcu_machine b.clock).happens x.world x.clock h

abbrev pub of_pins : Board → Standing → Happening port_calls.Call → Option (Outcome PortState)
of_pins b x h = (port_machine b.pins).happens x.world x.pins h

abbrev pub of_timers : Board → Standing → Happening gpt_calls.Call → Option (Outcome GptState)
of_timers b x h = (gpt_machine b.timers).happens x.world x.timers h

-- the hardware moves: the modules are told, and then the time goes on at the rate of the clock
abbrev pub moved : Board → Standing → Order → Standing
moved b x order = record {
  world = world_after x.world ((mcu_machine b.clock).rate x.clock) order;
  clock = state_by x.clock (of_clock b x (Moves order));
  pins = state_by x.pins (of_pins b x (Moves order));
  timers = state_by x.timers (of_timers b x (Moves order));
}

abbrev pub after : Board → Standing → Step → Standing
after b x (ClockActs call) = record x { clock = state_by x.clock (of_clock b x (acting call)) }
after b x (PinActs call) = record x { pins = state_by x.pins (of_pins b x (acting call)) }
after b x (TimerActs call) = record x { timers = state_by x.timers (of_timers b x (acting call)) }
after b x (TimerServes line) = record x { timers = state_by x.timers (of_timers b x (serving line)) }
after b x (Hardware order) = moved b x order
after b x ShowsRam = x
after b x (ShowsPins pulses) = x

-- what is told or shown at a step
abbrev pub seen_at : Board → Standing → Step → StepOutput
seen_at b x (ClockActs call) = Tells (outcome_told (of_clock b x (acting call)))
seen_at b x (PinActs call) = Tells (outcome_told (of_pins b x (acting call)))
seen_at b x (TimerActs call) = Tells (outcome_told (of_timers b x (acting call)))
seen_at b x (TimerServes line) = Tells (outcome_told (of_timers b x (serving line)))
seen_at b x (Hardware order) = Tells (outcome_told (of_clock b x (Moves order)))
seen_at b x ShowsRam = Words (shown_words b.clock x.clock)
seen_at b x (ShowsPins pulses) = Levels (shown_levels b.pins x.world x.pins pulses)

-- what is seen at each step
abbrev pub seen_from : Board → Standing → List Step → List StepOutput
seen_from b x [] = []
seen_from b x (h ∷ hs) = seen_at b x h ∷ seen_from b (after b x h) hs

-- the same from power on
abbrev pub seen : Board → List Step → List StepOutput
seen b hs = seen_from b at_power_on hs

-- ---- what happens

-- so many ticks
abbrev pub ticks : ℕ → Step
ticks n = Hardware (Tick n)

-- no pulse channel names a pin; all outputs of pulse channels are at this level
abbrev pub unnamed : ℕ → Option Bool
unnamed p = None

abbrev pub all_are : Bool → ℕ → Option Bool
all_are level p = Some level

-- a section is filled, a timer counts at the rate of the clock, and pins change their directions
abbrev pub small_run : List Step
small_run =
    ClockActs mcu.Init ∷ ShowsRam ∷ ClockActs (InitRamSection 0) ∷ ShowsRam ∷ ClockActs (Clock (InitClock 0)) ∷ ticks 100 ∷ ClockActs (Clock DistributePllClock)
    ∷ TimerActs gpt.Init ∷ TimerActs (Channel 0 (StartTimer 1000)) ∷ ticks 125 ∷ TimerActs (Channel 0 GetTimeElapsed)
    ∷ PinActs port.Init ∷ ShowsPins unnamed ∷ PinActs (Pin 0 (SetPinDirection In)) ∷ PinActs RefreshPortDirection ∷ ShowsPins unnamed
    ∷ PinActs (Pin 1 (SetPinDirection Out)) ∷ Hardware (Level 1 true) ∷ ShowsPins unnamed ∷ []

-- a clock is distributed before its PLL is locked and after, a timer counts at its rate, and a pin has the level of a pulse output that is low and then high
abbrev pub pulse_run : List Step
pulse_run =
    ClockActs mcu.Init ∷ ClockActs (Clock (InitClock 0)) ∷ ticks 99 ∷ ClockActs GetPllStatus ∷ ClockActs (Clock DistributePllClock) ∷ ticks 1 ∷ ClockActs GetPllStatus ∷ ClockActs (Clock DistributePllClock)
    ∷ PinActs port.Init ∷ TimerActs gpt.Init ∷ TimerActs (Channel 0 (Change (Notification true))) ∷ TimerActs (Channel 0 (StartTimer 1000))
    ∷ ticks 125 ∷ ShowsPins (all_are false) ∷ TimerActs (Channel 0 GetTimeElapsed) ∷ ticks 125 ∷ TimerServes 0 ∷ ShowsPins (all_are true) ∷ TimerActs (Channel 0 GetTimeRemaining) ∷ []
