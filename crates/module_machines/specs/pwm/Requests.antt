-- The calls that the requests of a script ask for.
use Rattle.std.specs.Prelude.{ℕ, Bool, true, false, Option, Some, None, slice_get}
use Rattle.mcal_base.specs.Names.{module_of}
use Rattle.mcal_base.specs.declared.module_name.ModuleName.{ModuleName}
use Rattle.mcal_base.specs.declared.module_name.ModuleName.TheVariants.{Pwm}
use Rattle.mcal_base.specs.declared.argument_name.ArgumentName.TheVariants.{PwmRisingEdge, PwmFallingEdge}
use Rattle.mcal_base.specs.declared.directive.Argument.{Argument}
use Rattle.mcal_base.specs.declared.directive.Argument.TheVariants.{Number, Name}
use Rattle.mcal_base.specs.declared.directive.Request.{Request}
use Rattle.mcal_base.specs.declared.service.Service.{Service}
use Rattle.mcal_base.specs.declared.service.Service.TheVariants as services
use Rattle.module_machines.specs.declared.pwm.call.Call.{Call}
use Rattle.module_machines.specs.declared.pwm.call.Call.TheVariants.{Init, DeInit, GetOutputState, Channel}
use Rattle.module_machines.specs.declared.pwm.call.ChannelCall.TheVariants.{SetDutyCycle, SetPeriodAndDuty, SetOutputToIdle, EnableNotification, DisableNotification}
use Rattle.module_machines.specs.declared.pwm.call.PwmEdge.{PwmEdge}
use Rattle.module_machines.specs.declared.pwm.call.PwmEdge.TheVariants.{Rising, Falling, Both}

-- a number that is asked with, 0 where there is none
abbrev pub number_of : Option Argument → ℕ
number_of (Some (Number n)) = n
number_of _ = 0

-- the changes that are asked for, both kinds where nothing else is named
abbrev pub edge_of : Option Argument → PwmEdge
edge_of (Some (Name PwmRisingEdge)) = Rising
edge_of (Some (Name PwmFallingEdge)) = Falling
edge_of _ = Both

-- the call of a service with its arguments, none where the service is one of another module
abbrev pub call_by : Service → (first second third : Option Argument) → Option Call
call_by services.PwmInit a b c = Some Init
call_by services.PwmDeInit a b c = Some DeInit
call_by services.PwmSetDutyCycle a b c = Some (Channel (number_of a) (SetDutyCycle (number_of b)))
call_by services.PwmSetPeriodAndDuty a b c = Some (Channel (number_of a) (SetPeriodAndDuty (number_of b) (number_of c)))
call_by services.PwmSetOutputToIdle a b c = Some (Channel (number_of a) SetOutputToIdle)
call_by services.PwmGetOutputState a b c = Some (GetOutputState (number_of a))
call_by services.PwmEnableNotification a b c = Some (Channel (number_of a) (EnableNotification (edge_of b)))
call_by services.PwmDisableNotification a b c = Some (Channel (number_of a) DisableNotification)
call_by _ a b c = None

abbrev pub call_of : Request → Option Call
call_of r = call_by r.service (slice_get r.arguments 0) (slice_get r.arguments 1) (slice_get r.arguments 2)

-- and Init where it asks for none: nobody makes such a request of this driver
abbrev pub call_or : Option Call → Call
call_or None = Init
call_or (Some call) = call

abbrev pub asked_call : Request → Call
asked_call r = call_or (call_of r)

abbrev pub is_pwm : ModuleName → Bool
is_pwm Pwm = true
is_pwm _ = false

-- the services that requests may ask for
abbrev pub has_service : Service → Bool
has_service s = is_pwm (module_of s)
