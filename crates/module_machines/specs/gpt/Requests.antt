-- The calls that the requests of a script ask for.
use Rattle.std.specs.Prelude.{ℕ, Bool, true, false, Option, Some, None, slice_get}
use Rattle.mcal_base.specs.Names.{module_of}
use Rattle.mcal_base.specs.declared.module_name.ModuleName.{ModuleName}
use Rattle.mcal_base.specs.declared.module_name.ModuleName.TheVariants.{Gpt}
use Rattle.mcal_base.specs.declared.argument_name.ArgumentName.TheVariants.{GptModeNormal, GptModeSleep}
use Rattle.mcal_base.specs.declared.directive.Argument.{Argument}
use Rattle.mcal_base.specs.declared.directive.Argument.TheVariants.{Number, Name}
use Rattle.mcal_base.specs.declared.directive.Request.{Request}
use Rattle.mcal_base.specs.declared.service.Service.{Service}
use Rattle.mcal_base.specs.declared.service.Service.TheVariants as services
use Rattle.module_machines.specs.declared.gpt.call.Call.{Call}
use Rattle.module_machines.specs.declared.gpt.call.Call.TheVariants.{Init, DeInit, SetMode, Channel}
use Rattle.module_machines.specs.declared.gpt.call.ChannelCall.{ChannelCall}
use Rattle.module_machines.specs.declared.gpt.call.ChannelCall.TheVariants.{GetTimeElapsed, GetTimeRemaining, StartTimer, StopTimer, Change}
use Rattle.module_machines.specs.declared.gpt.call.Change.TheVariants.{Notification, Wakeup, Check}
use Rattle.module_machines.specs.declared.gpt.call.GptMode.{GptMode}
use Rattle.module_machines.specs.declared.gpt.call.GptMode.TheVariants.{Normal, Sleep}

-- a number that is asked with, 0 where there is none
abbrev pub number_of : Option Argument → ℕ
number_of (Some (Number n)) = n
number_of _ = 0

-- a mode that is asked for, none where it is none of the two
abbrev pub mode_of : Option Argument → Option GptMode
mode_of (Some (Name GptModeNormal)) = Some Normal
mode_of (Some (Name GptModeSleep)) = Some Sleep
mode_of _ = None

abbrev pub on : Option Argument → ChannelCall → Call
on a call = Channel (number_of a) call

-- the call of a service of the module with its arguments; that of another module asks for none, and what stands here for it is never asked for
abbrev pub call_by : Service → (first second : Option Argument) → Call
call_by services.GptDeInit a b = DeInit
call_by services.GptSetMode a b = SetMode (mode_of a)
call_by services.GptGetTimeElapsed a b = on a GetTimeElapsed
call_by services.GptGetTimeRemaining a b = on a GetTimeRemaining
call_by services.GptStartTimer a b = on a (StartTimer (number_of b))
call_by services.GptStopTimer a b = on a StopTimer
call_by services.GptEnableNotification a b = on a (Change (Notification true))
call_by services.GptDisableNotification a b = on a (Change (Notification false))
call_by services.GptEnableWakeup a b = on a (Change (Wakeup true))
call_by services.GptDisableWakeup a b = on a (Change (Wakeup false))
call_by services.GptCheckWakeup a b = on a (Change Check)
call_by _ a b = Init

abbrev pub call_of : Request → Call
call_of r = call_by r.service (slice_get r.arguments 0) (slice_get r.arguments 1)

abbrev pub is_gpt : ModuleName → Bool
is_gpt Gpt = true
is_gpt _ = false

-- the services that requests may ask for
abbrev pub has_service : Service → Bool
has_service s = is_gpt (module_of s)
