-- What a run of all modules as one is over, and which call a request asks for.
use Rattle.std.specs.Prelude.{◌≡◌, ℕ, Bool, ◌||◌, cond, List, Option, option_map}
use Rattle.chip_model.specs.Chip.{channel_from}
use Rattle.chip_model.specs.Wiring.{wiring_of}
use Rattle.mcal_base.specs.declared.config.whole.Config.{Config}
use Rattle.mcal_base.specs.declared.directive.Request.{Request}
use Rattle.mcal_base.specs.declared.service.Service.{Service}
use Rattle.run_model.specs.Moment.{Setting}
use Rattle.run_model.specs.World.{World}
use Rattle.step_runner.specs.Union.{union_setting}
use Rattle.step_runner.specs.declared.either.Either.{Either}
use Rattle.step_runner.specs.declared.either.Either.TheVariants.{Left, Right}
use Rattle.service_outline.specs.guests.Guest.{Guest, guest_setting}
use Rattle.module_machines.specs.mcu.Bounds.{mcu_setting}
use Rattle.module_machines.specs.mcu.Machine.{McuState}
use Rattle.module_machines.specs.mcu.Requests as clock_requests
use Rattle.module_machines.specs.mcu.Table as clock_table
use Rattle.module_machines.specs.declared.mcu.call.Call as clock_calls
use Rattle.module_machines.specs.wdg.Bounds.{wdg_setting}
use Rattle.module_machines.specs.wdg.Machine.{WdgState}
use Rattle.module_machines.specs.wdg.Requests as watchdog_requests
use Rattle.module_machines.specs.wdg.Table as watchdog_table
use Rattle.module_machines.specs.declared.wdg.call.Call as watchdog_calls
use Rattle.module_machines.specs.port.Bounds.{port_setting}
use Rattle.module_machines.specs.port.Machine.{PortState, Put, Inverted, with_change}
use Rattle.module_machines.specs.port.Machine as pins
use Rattle.module_machines.specs.port.Requests as pin_requests
use Rattle.module_machines.specs.port.Table as pin_table
use Rattle.module_machines.specs.declared.port.call.Call as pin_calls
use Rattle.dio_driver.specs.Guest.{dio}
use Rattle.module_machines.specs.dio.Machine.{HostPins}
use Rattle.module_machines.specs.dio.Requests as port_requests
use Rattle.module_machines.specs.dio.Table as port_table
use Rattle.module_machines.specs.declared.dio.call.Call as port_calls
use Rattle.module_machines.specs.declared.dio.table.DioTable.{DioTable}
use Rattle.dio_driver.specs.declared.frame.DioFrame.{DioFrame}
use Rattle.module_machines.specs.gpt.Bounds.{gpt_setting}
use Rattle.module_machines.specs.gpt.Machine.{GptState}
use Rattle.module_machines.specs.gpt.Requests as timer_requests
use Rattle.module_machines.specs.gpt.Table as timer_table
use Rattle.module_machines.specs.declared.gpt.call.Call as timer_calls
use Rattle.module_machines.specs.pwm.Bounds.{pwm_setting}
use Rattle.module_machines.specs.pwm.Machine.{PwmState}
use Rattle.module_machines.specs.pwm.Machine as pulses
use Rattle.module_machines.specs.pwm.Requests as pulse_requests
use Rattle.module_machines.specs.pwm.Table as pulse_table
use Rattle.module_machines.specs.declared.pwm.call.Call as pulse_calls
use Rattle.module_machines.specs.declared.pwm.table.PwmTable.{PwmTable}
use Rattle.module_machines.specs.icu.Bounds.{icu_setting}
use Rattle.module_machines.specs.icu.Machine.{IcuState}
use Rattle.module_machines.specs.icu.Requests as capture_requests
use Rattle.module_machines.specs.icu.Table as capture_table
use Rattle.module_machines.specs.declared.icu.call.Call as capture_calls
use Rattle.adc_driver.specs.Requests as converter_requests
use Rattle.adc_machine.specs.Bounds.{adc_setting}
use Rattle.adc_machine.specs.Requests.{has_service as has_converter}
use Rattle.adc_machine.specs.Table as converter_table
use Rattle.adc_machine.specs.Turns.{AdcState}
use Rattle.adc_machine.specs.declared.call.Call as converter_calls
use Rattle.spi_driver.specs.Requests as serial_requests
use Rattle.spi_machine.specs.Bounds.{spi_setting}
use Rattle.spi_machine.specs.Requests.{has_service as has_serial}
use Rattle.spi_machine.specs.State.{SpiState}
use Rattle.spi_machine.specs.Table as serial_table
use Rattle.spi_machine.specs.declared.call.Call as serial_calls

-- the modules' states and their calls, in the order of the configuration, with the watchdog's beside the clock's
abbrev pub SystemState : Type 0
SystemState = ((McuState × WdgState) × (PortState × GptState)) × ((PwmState × IcuState) × (AdcState × SpiState))

abbrev pub HostCall : Type 0
HostCall = Either (Either (Either clock_calls.Call watchdog_calls.Call) (Either pin_calls.Call timer_calls.Call)) (Either (Either pulse_calls.Call capture_calls.Call) (Either converter_calls.Call serial_calls.Call))

-- and with those of channels and ports, which have no state
abbrev pub SystemCall : Type 0
SystemCall = Either HostCall port_calls.Call

-- ---- the pins

-- the output of the pulse channel that is seen at a pin
abbrev pub seen_at : PwmTable → (outputs : List (Option ℕ)) → World → SystemState → (pin : ℕ) → Option Bool
seen_at d outputs w s p = option_map (λ k. pulses.level_at d w s.1.0.0 k) (channel_from 0 outputs p)

-- with these pins
abbrev pub with_pins : SystemState → PortState → SystemState
with_pins s x = ((s.0.0, (x, s.0.1.1)), s.1)

-- the pins of all modules: their levels, and what of their latches may be changed
abbrev pub host_pins : PwmTable → (outputs : List (Option ℕ)) → HostPins SystemState
host_pins d outputs = record {
  level = λ w s p. pins.level_at w s.0.1.0 p (seen_at d outputs w s p);
  put = λ q word s. with_pins s (with_change s.0.1.0 (Put q word));
  flip = λ p s. with_pins s (with_change s.0.1.0 (Inverted p));
}

-- the driver of channels and ports as their guest, on a chip whose pulse outputs are seen at these pins
abbrev pub ports_of : DioTable → PwmTable → (outputs : List (Option ℕ)) → Guest SystemState port_calls.Call DioFrame
ports_of d p outputs = dio d (host_pins p outputs) (λ wiring. wiring.outputs ≡ outputs)

-- ---- the setting

-- each module's under a configuration
abbrev pub clock_setting : Config → Setting McuState clock_calls.Call
clock_setting c = mcu_setting (clock_table.table_of c.mcu)

abbrev pub watchdog_setting : Config → Setting WdgState watchdog_calls.Call
watchdog_setting c = wdg_setting (watchdog_table.table_of c.wdg)

abbrev pub pin_setting : Config → Setting PortState pin_calls.Call
pin_setting c = port_setting (pin_table.table_of c.port)

abbrev pub timer_setting : Config → Setting GptState timer_calls.Call
timer_setting c = gpt_setting (timer_table.table_of c.gpt)

abbrev pub pulse_setting : Config → Setting PwmState pulse_calls.Call
pulse_setting c = pwm_setting (pulse_table.table_of c.pwm)

abbrev pub capture_setting : Config → Setting IcuState capture_calls.Call
capture_setting c = icu_setting (capture_table.table_of c.icu)

abbrev pub converter_setting : Config → Setting AdcState converter_calls.Call
converter_setting c = adc_setting (converter_table.table_of c.adc)

abbrev pub serial_setting : Config → Setting SpiState serial_calls.Call
serial_setting c = spi_setting (serial_table.table_of c.spi)

-- the product of two: a line is the first's where an object of the first uses it, and the first sets the rate
abbrev pub joined : {S T C D : Type 0} → Setting S C → Setting T D → Setting (S × T) (Either C D)
joined g h = union_setting g.used g h

abbrev pub port_guest : Config → Guest SystemState port_calls.Call DioFrame
port_guest c = ports_of (port_table.table_of c.port c.dio) (pulse_table.table_of c.pwm) (wiring_of c).outputs

-- all modules that have a state as one, and all modules
abbrev pub host_setting : Config → Setting SystemState HostCall
host_setting c = joined (joined (joined (clock_setting c) (watchdog_setting c)) (joined (pin_setting c) (timer_setting c))) (joined (joined (pulse_setting c) (capture_setting c)) (joined (converter_setting c) (serial_setting c)))

unfoldable pub system_setting : Config → Setting SystemState SystemCall
system_setting c = guest_setting (host_setting c) (port_guest c)

-- ---- requests

-- the service is one of a module that is there
unfoldable pub has_service : Service → Bool
has_service s = clock_requests.has_service s || (watchdog_requests.has_service s || (pin_requests.has_service s || (timer_requests.has_service s || (pulse_requests.has_service s || (capture_requests.has_service s || (has_converter s || (has_serial s || port_requests.has_service s)))))))

-- the call that a request asks for of a module that has a state
abbrev pub host_call : Request → HostCall
host_call r = cond (clock_requests.has_service r.service) (Left (Left (Left (clock_requests.asked_for r)))) (cond (watchdog_requests.has_service r.service) (Left (Left (Right (watchdog_requests.call_of r)))) (cond (pin_requests.has_service r.service) (Left (Right (Left (pin_requests.asked_for r)))) (cond (timer_requests.has_service r.service) (Left (Right (Right (timer_requests.call_of r)))) (cond (pulse_requests.has_service r.service) (Right (Left (Left (pulse_requests.asked_call r)))) (cond (capture_requests.has_service r.service) (Right (Left (Right (capture_requests.asked_for r)))) (cond (has_converter r.service) (Right (Right (Left (converter_requests.asked_call r)))) (Right (Right (Right (serial_requests.asked_call r))))))))))

-- the call that a request asks for, of the module that has its service
unfoldable pub call_of : Request → SystemCall
call_of r = cond (port_requests.has_service r.service) (Right (port_requests.call_of r)) (Left (host_call r))
