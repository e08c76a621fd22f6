-- Small runs of the machine of clock, RAM and resets, written out: a board, what happens, and what is told.
use Rattle.std.specs.Prelude.{ℕ, true, List, [], ◌∷◌, Option, Some}
use Rattle.mcal_base.specs.declared.directive.Reason.TheVariants.{Watchdog, Software}
use Rattle.mcal_base.specs.declared.module_name.ModuleName.TheVariants as modules
use Rattle.run_model.specs.declared.class.Tag.{Tag}
use Rattle.run_model.specs.Machine.{Happening, Restarts, Told}
use Rattle.worked_examples.specs.Told.{told, state_after, time_after, ticks, acting}
use Rattle.module_machines.specs.mcu.Classes.{class_of}
use Rattle.module_machines.specs.mcu.Shown.{section_words}
use Rattle.module_machines.specs.mcu.Machine.{mcu_machine, first_state}
use Rattle.module_machines.specs.mcu.Table.{table_of, section_of}
use Rattle.module_machines.specs.declared.mcu.call.Call.{Call}
use Rattle.module_machines.specs.declared.mcu.call.Call.TheVariants.{Init, InitRamSection, Clock, GetPllStatus, GetResetReason, PerformReset, SetMode}
use Rattle.module_machines.specs.declared.mcu.call.ClockCall.TheVariants.{InitClock, DistributePllClock}
use Rattle.module_machines.specs.declared.mcu.table.McuTable.{McuTable}

-- a setting of 4, mode 0, and two RAM sections of two words
abbrev pub clock_board : McuTable
clock_board = table_of (record {
  dev_error_detect = true;
  clock_settings = record { id = 0; multiplier = 4 } ∷ [];
  modes = record { mode = 0 } ∷ [];
  ram_sections = record { base_address = 510; size = 2; default_value = 7 } ∷ record { base_address = 508; size = 2; default_value = 9 } ∷ [];
})

-- ---- what is told

-- from power on
abbrev pub told_on : McuTable → List (Happening Call) → List (Option Told)
told_on d hs = told (mcu_machine d) first_state hs

-- the words of a RAM section after a run
abbrev pub words_after : McuTable → List (Happening Call) → ℕ → List ℕ
words_after d hs n = section_words (section_of d n) (state_after (mcu_machine d) first_state hs)

-- the peripheral time after a run
abbrev pub time_on : McuTable → List (Happening Call) → ℕ
time_on d hs = time_after (mcu_machine d) first_state hs

-- the frame of a call of level 0
abbrev pub tag_of : Call → Tag
tag_of call = record { level = 0; owner = modules.Mcu; class = Some (class_of call) }

-- ---- what happens

-- the clock is started, asked and distributed, too early and in time, and runs on
abbrev pub clock_run : List (Happening Call)
clock_run =
    acting Init ∷ acting (Clock (InitClock 0)) ∷ ticks 99 ∷ acting GetPllStatus ∷ acting (Clock DistributePllClock) ∷ ticks 1 ∷ acting GetPllStatus ∷ acting (Clock DistributePllClock) ∷ ticks 125 ∷ []

-- a second start of the PLL is asked and distributed at once
abbrev pub restart_run : List (Happening Call)
restart_run =
    acting Init ∷ acting (Clock (InitClock 0)) ∷ ticks 100 ∷ acting (Clock DistributePllClock) ∷ ticks 1 ∷ acting (Clock (InitClock 0)) ∷ acting GetPllStatus ∷ acting (Clock DistributePllClock) ∷ ticks 1 ∷ []

-- a section is filled, the clock distributed, and the module initialised a second time
abbrev pub second_init_run : List (Happening Call)
second_init_run = acting Init ∷ acting (InitRamSection 0) ∷ acting (Clock (InitClock 0)) ∷ ticks 100 ∷ acting (Clock DistributePllClock) ∷ acting Init ∷ acting GetPllStatus ∷ ticks 10 ∷ []

-- the watchdog resets, and the reason is asked before an initialisation and after
abbrev pub watchdog_run : List (Happening Call)
watchdog_run = acting Init ∷ acting GetResetReason ∷ acting (InitRamSection 0) ∷ Restarts Watchdog ∷ acting GetResetReason ∷ acting Init ∷ acting GetResetReason ∷ []

-- a call asks for a reset, which follows
abbrev pub software_run : List (Happening Call)
software_run = acting PerformReset ∷ acting Init ∷ acting PerformReset ∷ Restarts Software ∷ acting Init ∷ acting GetResetReason ∷ acting GetPllStatus ∷ []

-- each service with an object that isn't configured, and before the module is initialised
abbrev pub refused_run : List (Happening Call)
refused_run =
    acting (InitRamSection 0) ∷ acting (Clock DistributePllClock) ∷ acting GetPllStatus ∷ acting (SetMode 0) ∷ acting Init
    ∷ acting (InitRamSection 2) ∷ acting (Clock (InitClock 1)) ∷ acting (SetMode 1) ∷ acting (SetMode 0) ∷ acting (SetMode 4294967295) ∷ []
