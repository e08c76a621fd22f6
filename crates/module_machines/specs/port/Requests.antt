-- The calls that the requests of a script ask for.
use Rattle.std.specs.Prelude.{ℕ, Bool, true, false, Option, Some, None, slice_get, unwrap_or}
use Rattle.mcal_base.specs.Names.{module_of}
use Rattle.mcal_base.specs.declared.module_name.ModuleName.{ModuleName}
use Rattle.mcal_base.specs.declared.module_name.ModuleName.TheVariants.{Port}
use Rattle.mcal_base.specs.declared.argument_name.ArgumentName.TheVariants.{PortPinOut, PortPinModeAdc, PortPinModeDio, PortPinModeIcu, PortPinModePwm, PortPinModeSpi}
use Rattle.mcal_base.specs.declared.config.port.PortPinDirection.{PortPinDirection}
use Rattle.mcal_base.specs.declared.config.port.PortPinDirection.TheVariants.{In, Out}
use Rattle.mcal_base.specs.declared.config.port.PortPinMode.{PortPinMode}
use Rattle.mcal_base.specs.declared.config.port.PortPinMode.TheVariants.{Adc, Dio, Icu, Pwm, Spi}
use Rattle.mcal_base.specs.declared.directive.Argument.{Argument}
use Rattle.mcal_base.specs.declared.directive.Argument.TheVariants.{Number, Name}
use Rattle.mcal_base.specs.declared.directive.Request.{Request}
use Rattle.mcal_base.specs.declared.service.Service.{Service}
use Rattle.mcal_base.specs.declared.service.Service.TheVariants as services
use Rattle.module_machines.specs.declared.port.call.Call.{Call}
use Rattle.module_machines.specs.declared.port.call.Call.TheVariants.{Init, RefreshPortDirection, Pin}
use Rattle.module_machines.specs.declared.port.call.PinCall.TheVariants.{SetPinDirection, SetPinMode}

-- a number that is asked with, 0 where there is none
abbrev pub number_of : Option Argument → ℕ
number_of (Some (Number n)) = n
number_of _ = 0

-- a direction that is asked for, in where it is none of the two
abbrev pub direction_of : Option Argument → PortPinDirection
direction_of (Some (Name PortPinOut)) = Out
direction_of _ = In

-- a mode that is asked for, none where it is none of the five
abbrev pub mode_of : Option Argument → Option PortPinMode
mode_of (Some (Name PortPinModeAdc)) = Some Adc
mode_of (Some (Name PortPinModeDio)) = Some Dio
mode_of (Some (Name PortPinModeIcu)) = Some Icu
mode_of (Some (Name PortPinModePwm)) = Some Pwm
mode_of (Some (Name PortPinModeSpi)) = Some Spi
mode_of _ = None

-- the call of a service with its arguments; a service of another module has none
abbrev pub call_by : Service → (first second : Option Argument) → Option Call
call_by services.PortInit a b = Some Init
call_by services.PortSetPinDirection a b = Some (Pin (number_of a) (SetPinDirection (direction_of b)))
call_by services.PortRefreshPortDirection a b = Some RefreshPortDirection
call_by services.PortSetPinMode a b = Some (Pin (number_of a) (SetPinMode (mode_of b)))
call_by _ a b = None

-- the call that a request asks for
abbrev pub call_of : Request → Option Call
call_of r = call_by r.service (slice_get r.arguments 0) (slice_get r.arguments 1)

-- the same, which no request of another module asks for
abbrev pub asked_for : Request → Call
asked_for r = unwrap_or (call_of r) Init

abbrev pub is_port : ModuleName → Bool
is_port Port = true
is_port _ = false

-- the services that requests may ask for
abbrev pub has_service : Service → Bool
has_service s = is_port (module_of s)
