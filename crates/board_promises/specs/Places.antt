-- Where the machines of converter and serial units stand in that of all modules.
use Rattle.std.specs.Prelude.{Option, Some, None}
use Rattle.mcal_base.specs.declared.config.whole.Config.{Config}
use Rattle.run_model.specs.Machine.{Happening, Acts, Serves, Starts, Aborts, Moves, Restarts}
use Rattle.run_model.specs.Moment.{Setting}
use Rattle.step_runner.specs.Union.{first_call}
use Rattle.step_runner.specs.declared.either.Either.{Either}
use Rattle.step_runner.specs.declared.either.Either.TheVariants.{Left, Right}
use Rattle.module_machines.specs.mcu.Machine.{McuState}
use Rattle.module_machines.specs.declared.mcu.call.Call as clocks
use Rattle.module_machines.specs.wdg.Machine.{WdgState}
use Rattle.module_machines.specs.declared.wdg.call.Call as watchdogs
use Rattle.module_machines.specs.port.Machine.{PortState}
use Rattle.module_machines.specs.declared.port.call.Call as pins
use Rattle.module_machines.specs.gpt.Machine.{GptState}
use Rattle.module_machines.specs.declared.gpt.call.Call as timers
use Rattle.module_machines.specs.pwm.Machine.{PwmState}
use Rattle.module_machines.specs.declared.pwm.call.Call as pulses
use Rattle.module_machines.specs.icu.Machine.{IcuState}
use Rattle.module_machines.specs.declared.icu.call.Call as captures
use Rattle.adc_machine.specs.Turns.{AdcState}
use Rattle.adc_machine.specs.declared.call.Call as converter
use Rattle.spi_machine.specs.State.{SpiState}
use Rattle.spi_machine.specs.declared.call.Call as serial
use Rattle.board_promises.specs.whole_runs.Members.{Embedding, first_place, own_through, second_place, within}
use Rattle.mcal_drivers.specs.Setting.{SystemState, HostCall, SystemCall, joined, clock_setting, watchdog_setting, pin_setting, timer_setting, pulse_setting, capture_setting, converter_setting, serial_setting}

-- clock and watchdog as one; those with pins and timers; pulses and captures; converter and serial units; and all but the first four
abbrev pub watched_modules : Config → Setting (McuState × WdgState) (Either clocks.Call watchdogs.Call)
watched_modules c = joined (clock_setting c) (watchdog_setting c)

abbrev pub first_modules : Config → Setting ((McuState × WdgState) × (PortState × GptState)) (Either (Either clocks.Call watchdogs.Call) (Either pins.Call timers.Call))
first_modules c = joined (watched_modules c) (joined (pin_setting c) (timer_setting c))

abbrev pub edge_modules : Config → Setting (PwmState × IcuState) (Either pulses.Call captures.Call)
edge_modules c = joined (pulse_setting c) (capture_setting c)

abbrev pub unit_modules : Config → Setting (AdcState × SpiState) (Either converter.Call serial.Call)
unit_modules c = joined (converter_setting c) (serial_setting c)

abbrev pub last_modules : Config → Setting ((PwmState × IcuState) × (AdcState × SpiState)) (Either (Either pulses.Call captures.Call) (Either converter.Call serial.Call))
last_modules c = joined (edge_modules c) (unit_modules c)

-- ---- their places

-- what a happening of a driver with its guest is to the driver
abbrev pub host_own : {C D : Type 0} → Happening (Either C D) → Option (Happening C)
host_own (Acts (Left c) times) = Some (Acts c times)
host_own (Acts (Right d) times) = None
host_own (Serves l r) = Some (Serves l r)
host_own (Starts u made_by r) = Some (Starts u (first_call made_by) r)
host_own (Aborts u) = Some (Aborts u)
host_own (Moves order) = Some (Moves order)
host_own (Restarts reason) = Some (Restarts reason)

-- the place of a part of the driver in both
abbrev pub host_place : {S C U E D : Type 0} → Embedding S C U E → Embedding S C U (Either E D)
host_place p = record { part = p.part; own = λ w u h. own_through p w u (host_own h) }

abbrev pub host_units_place : (c : Config) → Embedding (AdcState × SpiState) (Either converter.Call serial.Call) SystemState HostCall
host_units_place c = within (second_place (edge_modules c).used (edge_modules c).machine) (second_place (first_modules c).used (first_modules c).machine)

abbrev pub units_place : (c : Config) → Embedding (AdcState × SpiState) (Either converter.Call serial.Call) SystemState SystemCall
units_place c = host_place (host_units_place c)

abbrev pub converter_place : (c : Config) → Embedding AdcState converter.Call SystemState SystemCall
converter_place c = within (first_place (converter_setting c).used (converter_setting c).machine) (units_place c)

abbrev pub serial_place : (c : Config) → Embedding SpiState serial.Call SystemState SystemCall
serial_place c = within (second_place (converter_setting c).used (converter_setting c).machine) (units_place c)
