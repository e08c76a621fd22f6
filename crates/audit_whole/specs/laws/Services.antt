-- The call that a request asks for is one of the service that it names.
use Rattle.std.proofs.Common.{◌≡◌, refl}
use Rattle.adc_machine.specs.Checks as converters
use Rattle.module_machines.specs.dio.Checks as ports
use Rattle.module_machines.specs.gpt.Checks as timers
use Rattle.module_machines.specs.icu.Checks as captures
use Rattle.mcal_base.specs.declared.directive.Request.{Request}
use Rattle.mcal_base.specs.declared.service.Service.{Service}
use Rattle.mcal_base.specs.declared.service.Service.TheVariants.{McuInit}
use Rattle.module_machines.specs.mcu.Checks as clock
use Rattle.module_machines.specs.port.Checks as pins
use Rattle.module_machines.specs.pwm.Checks as pulses
use Rattle.spi_machine.specs.Checks as serials
use Rattle.module_machines.specs.wdg.Checks as watchdog
use Rattle.audit_base.specs.Product.{either}
use Rattle.audit_machines.specs.Requests.{call_of}
use Rattle.audit_whole.specs.Whole.{AnyCall}

-- the service of a call of any module
abbrev pub service_of : AnyCall → Service
service_of = either (either (either (either clock.service_of watchdog.service_of) (either pins.service_of timers.service_of)) (either (either pulses.service_of captures.service_of) (either converters.service_of serials.service_of))) ports.service_of

as_named : (r : Request) (s : Service) → service_of (call_of (record r { service = s })) ≡ s
as_named r McuInit = refl
as_named r _ = refl

pub serves : (r : Request) → service_of (call_of r) ≡ r.service
serves r = as_named r r.service
