-- The call that a request asks for.
use Rattle.std.specs.Prelude.{cond, Bool, ◌||◌}
use Rattle.mcal_base.specs.declared.directive.Request.{Request}
use Rattle.mcal_base.specs.declared.service.Service.{Service}
use Rattle.std.specs.Prelude.{Option, Some, None}
use Rattle.module_machines.specs.mcu.Requests as clock_requests
use Rattle.module_machines.specs.declared.mcu.call.Call as clock_calls
use Rattle.module_machines.specs.wdg.Requests as watchdog_requests
use Rattle.module_machines.specs.declared.wdg.call.Call as watchdog_calls
use Rattle.module_machines.specs.port.Requests as pin_requests
use Rattle.module_machines.specs.declared.port.call.Call as pin_calls
use Rattle.module_machines.specs.dio.Requests as port_requests
use Rattle.module_machines.specs.declared.dio.call.Call as port_calls
use Rattle.module_machines.specs.gpt.Requests as timer_requests
use Rattle.module_machines.specs.declared.gpt.call.Call as timer_calls
use Rattle.module_machines.specs.pwm.Requests as pulse_requests
use Rattle.module_machines.specs.declared.pwm.call.Call as pulse_calls
use Rattle.module_machines.specs.icu.Requests as capture_requests
use Rattle.module_machines.specs.declared.icu.call.Call as capture_calls
use Rattle.adc_machine.specs.Requests as converter_requests
use Rattle.adc_machine.specs.declared.call.Call as converter_calls
use Rattle.adc_machine.specs.declared.call.Call.TheVariants as converter_variants
use Rattle.spi_machine.specs.Requests as serial_requests
use Rattle.spi_machine.specs.declared.call.Call as serial_calls
use Rattle.spi_machine.specs.declared.call.Call.TheVariants as serial_variants
use Rattle.audit_base.specs.declared.either.Either.{Either}
use Rattle.audit_base.specs.declared.either.Either.TheVariants.{Left, Right}

-- a call of one of the modules that have a state, in the order of the parts, and of any module
abbrev pub StateCall : Type 0
StateCall = Either (Either (Either clock_calls.Call watchdog_calls.Call) (Either pin_calls.Call timer_calls.Call)) (Either (Either pulse_calls.Call capture_calls.Call) (Either converter_calls.Call serial_calls.Call))

abbrev pub AnyCall : Type 0
AnyCall = Either StateCall port_calls.Call

-- a call that is asked for, and this one where none is, which no request of the module asks for
abbrev pub call_or : {X : Type 0} → X → Option X → X
call_or x None = x
call_or x (Some call) = call

abbrev pub state_call : Request → StateCall
state_call r = cond (clock_requests.has_service r.service) (Left (Left (Left (clock_requests.asked_for r)))) (cond (watchdog_requests.has_service r.service) (Left (Left (Right (watchdog_requests.call_of r)))) (cond (pin_requests.has_service r.service) (Left (Right (Left (pin_requests.asked_for r)))) (cond (timer_requests.has_service r.service) (Left (Right (Right (timer_requests.call_of r)))) (cond (pulse_requests.has_service r.service) (Right (Left (Left (pulse_requests.asked_call r)))) (cond (capture_requests.has_service r.service) (Right (Left (Right (capture_requests.asked_for r)))) (cond (converter_requests.has_service r.service) (Right (Right (Left (call_or converter_variants.Init (converter_requests.call_of r))))) (Right (Right (Right (call_or serial_variants.Init (serial_requests.call_of r)))))))))))

-- the call that a request asks for, of the module that has its service
abbrev pub call_of : Request → AnyCall
call_of r = cond (port_requests.has_service r.service) (Right (port_requests.call_of r)) (Left (state_call r))

-- the service is one of a module that is there
abbrev pub has_service : Service → Bool
has_service s = clock_requests.has_service s || (watchdog_requests.has_service s || (pin_requests.has_service s || (timer_requests.has_service s || (pulse_requests.has_service s || (capture_requests.has_service s || (converter_requests.has_service s || (serial_requests.has_service s || port_requests.has_service s)))))))
