-- The calls that the requests of a script ask for.
use Rattle.std.specs.Prelude.{ℕ, ◌==◌, cond, Bool, true, false, Option, Some, None, slice_get}
use Rattle.mcal_base.specs.Names.{module_of}
use Rattle.mcal_base.specs.declared.module_name.ModuleName.{ModuleName}
use Rattle.mcal_base.specs.declared.module_name.ModuleName.TheVariants.{Adc}
use Rattle.mcal_base.specs.declared.directive.Argument.{Argument}
use Rattle.mcal_base.specs.declared.directive.Argument.TheVariants.{Number}
use Rattle.mcal_base.specs.declared.directive.Request.{Request}
use Rattle.mcal_base.specs.declared.service.Service.{Service}
use Rattle.mcal_base.specs.declared.service.Service.TheVariants as services
use Rattle.adc_machine.specs.declared.call.Call.{Call}
use Rattle.adc_machine.specs.declared.call.Call.TheVariants.{Init, DeInit, Group}
use Rattle.adc_machine.specs.declared.call.GroupCall.{GroupCall}
use Rattle.adc_machine.specs.declared.call.GroupCall.TheVariants.{SetupResultBuffer, StartGroupConversion, StopGroupConversion, ReadGroup, EnableHardwareTrigger, DisableHardwareTrigger, Notification, GetGroupStatus, GetStreamLastPointer}
use Rattle.adc_machine.specs.declared.call.ResultBuffer.{ResultBuffer}
use Rattle.adc_machine.specs.declared.call.ResultBuffer.TheVariants.{Zero, One}

-- a number that is asked with, 0 where there is none
abbrev pub number_of : Option Argument → ℕ
number_of (Some (Number n)) = n
number_of _ = 0

-- the buffer of a number; any other is none
abbrev pub buffer_by : ℕ → Option ResultBuffer
buffer_by n = cond (n == 0) (Some Zero) (cond (n == 1) (Some One) None)

-- the buffer that is asked for; `null` is none
abbrev pub buffer_of : Option Argument → Option ResultBuffer
buffer_of (Some (Number n)) = buffer_by n
buffer_of _ = None

-- what a service of the module asks of a group, with its second argument
abbrev pub group_call_of : Service → (second : Option Argument) → Option GroupCall
group_call_of services.AdcSetupResultBuffer b = Some (SetupResultBuffer (buffer_of b))
group_call_of services.AdcStartGroupConversion b = Some StartGroupConversion
group_call_of services.AdcStopGroupConversion b = Some StopGroupConversion
group_call_of services.AdcReadGroup b = Some ReadGroup
group_call_of services.AdcEnableHardwareTrigger b = Some EnableHardwareTrigger
group_call_of services.AdcDisableHardwareTrigger b = Some DisableHardwareTrigger
group_call_of services.AdcEnableGroupNotification b = Some (Notification true)
group_call_of services.AdcDisableGroupNotification b = Some (Notification false)
group_call_of services.AdcGetGroupStatus b = Some GetGroupStatus
group_call_of services.AdcGetStreamLastPointer b = Some GetStreamLastPointer
group_call_of _ b = None

abbrev pub on_group : ℕ → Option GroupCall → Option Call
on_group g None = None
on_group g (Some call) = Some (Group g call)

-- the call of a service with its arguments; a service of another module has none
abbrev pub call_by : Service → (first second : Option Argument) → Option Call
call_by services.AdcInit a b = Some Init
call_by services.AdcDeInit a b = Some DeInit
call_by service a b = on_group (number_of a) (group_call_of service b)

abbrev pub call_of : Request → Option Call
call_of r = call_by r.service (slice_get r.arguments 0) (slice_get r.arguments 1)

abbrev pub is_adc : ModuleName → Bool
is_adc Adc = true
is_adc _ = false

-- the services that requests may ask for
abbrev pub has_service : Service → Bool
has_service s = is_adc (module_of s)
