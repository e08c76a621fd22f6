-- Small runs of the pins' machine, written out: a board, what happens, and what is told and shown.
use Rattle.std.specs.Prelude.{ℕ, Bool, true, false, List, [], ◌∷◌, Option, Some, None}
use Rattle.mcal_base.specs.declared.config.port.PortPinDirection.TheVariants.{In, Out}
use Rattle.mcal_base.specs.declared.config.port.PortPinMode.TheVariants.{Adc, Dio, Pwm, Spi}
use Rattle.mcal_base.specs.declared.directive.Reason.TheVariants.{PowerOn}
use Rattle.mcal_base.specs.declared.module_name.ModuleName.TheVariants as modules
use Rattle.run_model.specs.declared.class.Tag.{Tag}
use Rattle.run_model.specs.Machine.{Happening, Restarts, Told}
use Rattle.worked_examples.specs.Told.{told, seen, pin, acting}
use Rattle.module_machines.specs.port.Classes.{class_of}
use Rattle.module_machines.specs.port.Machine.{port_machine, first_state, level_at}
use Rattle.module_machines.specs.port.Table.{table_of}
use Rattle.module_machines.specs.declared.port.call.Call.{Call}
use Rattle.module_machines.specs.declared.port.call.Call.TheVariants.{Init, RefreshPortDirection, Pin}
use Rattle.module_machines.specs.declared.port.call.PinCall.TheVariants.{SetPinDirection, SetPinMode}
use Rattle.module_machines.specs.declared.port.table.PortTable.{PortTable}

-- pin 3 is out and high and may change its direction, pin 40 may change its mode between two, and is a pulse output at first
abbrev pub pin_board : PortTable
pin_board = table_of (record {
  dev_error_detect = true;
  pins =
      record { id = 40; direction = Out; direction_changeable = false; initial_mode = Pwm; modes = Dio ∷ Pwm ∷ []; mode_changeable = true; level_high = true }
      ∷ record { id = 3; direction = Out; direction_changeable = true; initial_mode = Dio; modes = Dio ∷ Spi ∷ []; mode_changeable = false; level_high = true }
      ∷ [];
})

-- ---- what is told and shown

-- from power on
abbrev pub told_on : PortTable → List (Happening Call) → List (Option Told)
told_on d hs = told (port_machine d) first_state hs

-- the level of a pin after each happening, with the output of the pulse channel that names it
abbrev pub levels : PortTable → List (Happening Call) → ℕ → Option Bool → List Bool
levels d hs p pulse = seen (port_machine d) first_state (λ w s. level_at w s p pulse) hs

-- the frame of a call of level 0
abbrev pub tag_of : Call → Tag
tag_of call = record { level = 0; owner = modules.Port; class = Some (class_of call) }

-- ---- what happens

-- the level of a pin changes outside before the module is initialised, and its direction changes after
abbrev pub direction_run : List (Happening Call)
direction_run =
    pin 3 true ∷ pin 3 false ∷ acting Init ∷ acting (Pin 3 (SetPinDirection In)) ∷ acting RefreshPortDirection ∷ pin 3 true ∷ pin 3 false
    ∷ acting (Pin 3 (SetPinDirection Out)) ∷ acting (Pin 3 (SetPinDirection In)) ∷ acting Init ∷ Restarts PowerOn ∷ []

-- the mode of a pin that is out changes
abbrev pub mode_run : List (Happening Call)
mode_run = acting Init ∷ acting (Pin 40 (SetPinMode (Some Dio))) ∷ acting (Pin 40 (SetPinMode (Some Pwm))) ∷ []

-- each service in each of its errors, in their order
abbrev pub refused_run : List (Happening Call)
refused_run =
    acting RefreshPortDirection ∷ acting (Pin 9 (SetPinDirection In)) ∷ acting (Pin 9 (SetPinMode None)) ∷ acting Init
    ∷ acting (Pin 9 (SetPinDirection In)) ∷ acting (Pin 40 (SetPinDirection In)) ∷ acting (Pin 4294967295 (SetPinMode None))
    ∷ acting (Pin 3 (SetPinMode None)) ∷ acting (Pin 3 (SetPinMode (Some Adc))) ∷ acting (Pin 3 (SetPinMode (Some Spi))) ∷ []
