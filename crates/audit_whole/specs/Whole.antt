-- What a run of all modules is over, and of which module a frame is.
use Rattle.std.specs.Prelude.{ℕ, ◌≤◌, ◌==◌, Bool, false, ◌||◌, length}
use Rattle.adc_machine.specs.Bounds.{adc_setting}
use Rattle.adc_machine.specs.declared.call.Call as converter_calls
use Rattle.module_machines.specs.declared.dio.call.Call as port_calls
use Rattle.module_machines.specs.gpt.Bounds.{gpt_setting}
use Rattle.module_machines.specs.declared.gpt.call.Call as timer_calls
use Rattle.module_machines.specs.icu.Bounds.{icu_setting}
use Rattle.module_machines.specs.declared.icu.call.Call as capture_calls
use Rattle.mcal_base.specs.declared.module_name.ModuleName.{ModuleName}
use Rattle.mcal_base.specs.declared.module_name.ModuleName.TheVariants.{Mcu, Port, Gpt, Pwm, Icu, Adc, Spi, Wdg}
use Rattle.module_machines.specs.mcu.Bounds.{mcu_setting}
use Rattle.module_machines.specs.declared.mcu.call.Call as clock_calls
use Rattle.module_machines.specs.port.Bounds.{is_alone, port_setting}
use Rattle.module_machines.specs.declared.port.call.Call as pin_calls
use Rattle.module_machines.specs.pwm.Bounds.{pwm_setting}
use Rattle.module_machines.specs.declared.pwm.call.Call as pulse_calls
use Rattle.run_model.specs.Frame.{Origin, Called, Entered}
use Rattle.run_model.specs.Moment.{Setting}
use Rattle.spi_machine.specs.Bounds.{spi_setting}
use Rattle.spi_machine.specs.State.{SpiState}
use Rattle.spi_machine.specs.declared.call.Call as serial_calls
use Rattle.spi_machine.specs.declared.table.SpiTable.{SpiTable}
use Rattle.module_machines.specs.wdg.Bounds.{wdg_setting}
use Rattle.module_machines.specs.declared.wdg.call.Call as watchdog_calls
use Rattle.audit_base.specs.declared.either.Either.{Either}
use Rattle.audit_base.specs.declared.either.Either.TheVariants.{Left, Right}
use Rattle.audit_machines.specs.System.{SystemState, Tables}
use Rattle.audit_modules.specs.Agrees.{HasRoom}
use Rattle.audit_subject.specs.Product.{joined}

-- the calls of the modules that have a state, and all calls
abbrev pub HostCall : Type 0
HostCall = Either (Either (Either clock_calls.Call watchdog_calls.Call) (Either pin_calls.Call timer_calls.Call)) (Either (Either pulse_calls.Call capture_calls.Call) (Either converter_calls.Call serial_calls.Call))

abbrev pub AnyCall : Type 0
AnyCall = Either HostCall port_calls.Call

-- the run of the modules that have a state
abbrev pub host_setting : Tables SpiTable → Setting (SystemState SpiState) HostCall
host_setting t = joined (joined (joined (mcu_setting t.0.0.0) (wdg_setting t.0.0.1)) (joined (port_setting t.0.1.0) (gpt_setting t.0.1.1))) (joined (joined (pwm_setting t.1.0.0) (icu_setting t.1.0.1)) (joined (adc_setting t.1.1.0) (spi_setting t.1.1.1)))

-- the module of a call's frame
abbrev pub module_of : AnyCall → ModuleName
module_of (Left (Left (Left (Left c)))) = Mcu
module_of (Left (Left (Left (Right c)))) = Wdg
module_of (Left (Left (Right (Left c)))) = Port
module_of (Left (Left (Right (Right c)))) = Gpt
module_of (Left (Right (Left (Left c)))) = Pwm
module_of (Left (Right (Left (Right c)))) = Icu
module_of (Left (Right (Right (Left c)))) = Adc
module_of (Left (Right (Right (Right c)))) = Spi
module_of (Right c) = Port

-- the module of a frame
abbrev pub module_by : Tables SpiTable → Origin AnyCall → ModuleName
module_by t (Called c) = module_of c
module_by t (Entered l) = (host_setting t).owner_of l

-- the frame is of a call about all pins
abbrev pub keeps_pins_busy : Origin AnyCall → Bool
keeps_pins_busy (Called (Left (Left (Right (Left c))))) = is_alone (Called c)
keeps_pins_busy _ = false

-- the line of a serial unit
abbrev pub is_serial_line : ℕ → Bool
is_serial_line l = l == 26 || l == 27

-- What is kept of a configuration is within the chip's limits: there is room for the results of each group, and there are no
-- more serial channels than the chip has.
pub record InLimits (t : Tables SpiTable) : Type 0 where
  pub room : HasRoom t.1.1.0
  pub channels : length t.1.1.1.channels ≤ 16
