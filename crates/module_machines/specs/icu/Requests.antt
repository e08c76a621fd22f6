-- The calls that the requests of a script ask for.
use Rattle.std.specs.Prelude.{ℕ, ◌<◌, ◌^◌, Bool, true, false, Option, Some, None, slice_get, unwrap_or}
use Rattle.mcal_base.specs.Names.{module_of}
use Rattle.mcal_base.specs.declared.module_name.ModuleName.{ModuleName}
use Rattle.mcal_base.specs.declared.module_name.ModuleName.TheVariants.{Icu}
use Rattle.mcal_base.specs.declared.argument_name.ArgumentName.TheVariants.{IcuRisingEdge, IcuFallingEdge, IcuBothEdges}
use Rattle.mcal_base.specs.declared.config.icu.IcuStartEdge.{IcuStartEdge}
use Rattle.mcal_base.specs.declared.config.icu.IcuStartEdge.TheVariants.{Rising, Falling, Both}
use Rattle.mcal_base.specs.declared.directive.Argument.{Argument}
use Rattle.mcal_base.specs.declared.directive.Argument.TheVariants.{Number, Name}
use Rattle.mcal_base.specs.declared.directive.Request.{Request}
use Rattle.mcal_base.specs.declared.service.Service.{Service}
use Rattle.mcal_base.specs.declared.service.Service.TheVariants as services
use Rattle.module_machines.specs.declared.icu.call.Call.{Call}
use Rattle.module_machines.specs.declared.icu.call.Call.TheVariants.{Init, DeInit, Channel}
use Rattle.module_machines.specs.declared.icu.call.ChannelCall.{ChannelCall}
use Rattle.module_machines.specs.declared.icu.call.ChannelCall.TheVariants.{SetActivationCondition, EnableNotification, DisableNotification, GetInputState, EnableEdgeDetection, DisableEdgeDetection, ResetEdgeCount, EnableEdgeCount, DisableEdgeCount, GetEdgeNumbers, StartTimestamp, StopTimestamp, GetTimestampIndex, StartSignalMeasurement, StopSignalMeasurement, GetTimeElapsed, GetDutyCycleValues}

-- a number that is asked with, 0 where there is none
abbrev pub number_of : Option Argument → ℕ
number_of (Some (Number n)) = n
number_of _ = 0

-- the edges that are asked for, none where none of the three names stands there
abbrev pub edge_of : Option Argument → Option IcuStartEdge
edge_of (Some (Name IcuRisingEdge)) = Some Rising
edge_of (Some (Name IcuFallingEdge)) = Some Falling
edge_of (Some (Name IcuBothEdges)) = Some Both
edge_of _ = None

-- what a service asks of its channel, none where the service is one of another module or of no channel
abbrev pub channel_call_by : Service → (second third : Option Argument) → Option ChannelCall
channel_call_by services.IcuSetActivationCondition b c = Some (SetActivationCondition (edge_of b))
channel_call_by services.IcuEnableNotification b c = Some EnableNotification
channel_call_by services.IcuDisableNotification b c = Some DisableNotification
channel_call_by services.IcuGetInputState b c = Some GetInputState
channel_call_by services.IcuEnableEdgeDetection b c = Some EnableEdgeDetection
channel_call_by services.IcuDisableEdgeDetection b c = Some DisableEdgeDetection
channel_call_by services.IcuResetEdgeCount b c = Some ResetEdgeCount
channel_call_by services.IcuEnableEdgeCount b c = Some EnableEdgeCount
channel_call_by services.IcuDisableEdgeCount b c = Some DisableEdgeCount
channel_call_by services.IcuGetEdgeNumbers b c = Some GetEdgeNumbers
channel_call_by services.IcuStartTimestamp b c = Some (StartTimestamp (number_of b) (number_of c))
channel_call_by services.IcuStopTimestamp b c = Some StopTimestamp
channel_call_by services.IcuGetTimestampIndex b c = Some GetTimestampIndex
channel_call_by services.IcuStartSignalMeasurement b c = Some StartSignalMeasurement
channel_call_by services.IcuStopSignalMeasurement b c = Some StopSignalMeasurement
channel_call_by services.IcuGetTimeElapsed b c = Some GetTimeElapsed
channel_call_by services.IcuGetDutyCycleValues b c = Some GetDutyCycleValues
channel_call_by _ b c = None

abbrev pub asks : Option Argument → Option ChannelCall → Option Call
asks a None = None
asks a (Some call) = Some (Channel (number_of a) call)

-- the call of a service with its arguments, none where the service is one of another module
abbrev pub call_by : Service → (first second third : Option Argument) → Option Call
call_by services.IcuInit a b c = Some Init
call_by services.IcuDeInit a b c = Some DeInit
call_by s a b c = asks a (channel_call_by s b c)

abbrev pub call_of : Request → Option Call
call_of r = call_by r.service (slice_get r.arguments 0) (slice_get r.arguments 1) (slice_get r.arguments 2)

-- the same, which no request of another module asks for
abbrev pub asked_for : Request → Call
asked_for r = unwrap_or (call_of r) Init

-- the numbers of a call fit a register
abbrev pub IsSmall : Call → Type 0
IsSmall (Channel c (StartTimestamp size interval)) = interval < 2 ^ 32
IsSmall _ = Unit {0}

abbrev pub is_icu : ModuleName → Bool
is_icu Icu = true
is_icu _ = false

-- the services that requests may ask for
abbrev pub has_service : Service → Bool
has_service s = is_icu (module_of s)
