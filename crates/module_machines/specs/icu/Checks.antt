-- The services, what their arguments have to be, and which error a call has.
use Rattle.std.specs.Prelude.{◌==◌, nat_lt, Bool, true, false, ◌&&◌, ◌||◌, not, List, [], ◌∷◌, Option, Some, None, is_some}
use Rattle.mcal_base.specs.det_errors.Reports.{Reporting}
use Rattle.mcal_base.specs.det_errors.Rows.{first_error}
use Rattle.mcal_base.specs.declared.answer.Answer.{Answer}
use Rattle.mcal_base.specs.declared.answer_name.AnswerName.TheVariants.{IcuActive, IcuIdle}
use Rattle.mcal_base.specs.declared.error_name.ErrorName.{ErrorName}
use Rattle.mcal_base.specs.declared.service.Service.{Service}
use Rattle.mcal_base.specs.declared.service.Service.TheVariants as services
use Rattle.run_model.specs.Machine.{no_answer, named, numbers}
use Rattle.module_machines.specs.declared.icu.call.Call as calls
use Rattle.module_machines.specs.declared.icu.call.Call.TheVariants.{Init, DeInit, Channel}
use Rattle.module_machines.specs.declared.icu.call.ChannelCall.{ChannelCall}
use Rattle.module_machines.specs.declared.icu.call.ChannelCall.TheVariants.{SetActivationCondition, EnableNotification, DisableNotification, GetInputState, EnableEdgeDetection, DisableEdgeDetection, ResetEdgeCount, EnableEdgeCount, DisableEdgeCount, GetEdgeNumbers, StartTimestamp, StopTimestamp, GetTimestampIndex, StartSignalMeasurement, StopSignalMeasurement, GetTimeElapsed, GetDutyCycleValues}
use Rattle.module_machines.specs.declared.icu.table.Channel as configured
use Rattle.module_machines.specs.declared.icu.table.IcuTable.{IcuTable}
use Rattle.module_machines.specs.icu.Table.{channel_of, is_detection, is_counter, is_timestamp, is_measurement, is_duty_cycle}

-- the service of a call
abbrev pub channel_service : ChannelCall → Service
channel_service (SetActivationCondition edge) = services.IcuSetActivationCondition
channel_service EnableNotification = services.IcuEnableNotification
channel_service DisableNotification = services.IcuDisableNotification
channel_service GetInputState = services.IcuGetInputState
channel_service EnableEdgeDetection = services.IcuEnableEdgeDetection
channel_service DisableEdgeDetection = services.IcuDisableEdgeDetection
channel_service ResetEdgeCount = services.IcuResetEdgeCount
channel_service EnableEdgeCount = services.IcuEnableEdgeCount
channel_service DisableEdgeCount = services.IcuDisableEdgeCount
channel_service GetEdgeNumbers = services.IcuGetEdgeNumbers
channel_service (StartTimestamp size interval) = services.IcuStartTimestamp
channel_service StopTimestamp = services.IcuStopTimestamp
channel_service GetTimestampIndex = services.IcuGetTimestampIndex
channel_service StartSignalMeasurement = services.IcuStartSignalMeasurement
channel_service StopSignalMeasurement = services.IcuStopSignalMeasurement
channel_service GetTimeElapsed = services.IcuGetTimeElapsed
channel_service GetDutyCycleValues = services.IcuGetDutyCycleValues

abbrev pub service_of : calls.Call → Service
service_of Init = services.IcuInit
service_of DeInit = services.IcuDeInit
service_of (Channel c call) = channel_service call

-- the channel has a notification: that of edge detection, or that of timestamps
abbrev pub has_notification : configured.Channel → Bool
has_notification k = (is_detection k.mode && k.signal_notification) || (is_timestamp k.mode && k.timestamp_notification)

-- a call may name a configured channel: the channel is for what is asked of it
abbrev pub suits : ChannelCall → configured.Channel → Bool
suits (SetActivationCondition edge) k = not (is_measurement k.mode)
suits EnableNotification k = has_notification k
suits DisableNotification k = has_notification k
suits GetInputState k = is_detection k.mode || is_measurement k.mode
suits EnableEdgeDetection k = is_detection k.mode
suits DisableEdgeDetection k = is_detection k.mode
suits ResetEdgeCount k = is_counter k.mode
suits EnableEdgeCount k = is_counter k.mode
suits DisableEdgeCount k = is_counter k.mode
suits GetEdgeNumbers k = is_counter k.mode
suits (StartTimestamp size interval) k = is_timestamp k.mode
suits StopTimestamp k = is_timestamp k.mode
suits GetTimestampIndex k = is_timestamp k.mode
suits StartSignalMeasurement k = is_measurement k.mode
suits StopSignalMeasurement k = is_measurement k.mode
suits GetTimeElapsed k = is_measurement k.mode && not (is_duty_cycle k.measured)
suits GetDutyCycleValues k = is_measurement k.mode && is_duty_cycle k.measured

abbrev pub allows : ChannelCall → Option configured.Channel → Bool
allows call None = false
allows call (Some k) = suits call k

-- the errors after those of a missing Init and of a channel that is unknown or for something else, in the order of the service; stamping is under way on the channel or not
abbrev pub channel_facts : ChannelCall → (stamping : Bool) → List Bool
channel_facts (SetActivationCondition edge) stamping = not (is_some edge) ∷ false ∷ false ∷ false ∷ []
channel_facts EnableNotification stamping = false ∷ false ∷ false ∷ false ∷ []
channel_facts DisableNotification stamping = false ∷ false ∷ false ∷ false ∷ []
channel_facts GetInputState stamping = false ∷ false ∷ false ∷ false ∷ []
channel_facts EnableEdgeDetection stamping = false ∷ false ∷ false ∷ false ∷ []
channel_facts DisableEdgeDetection stamping = false ∷ false ∷ false ∷ false ∷ []
channel_facts ResetEdgeCount stamping = false ∷ false ∷ false ∷ false ∷ []
channel_facts EnableEdgeCount stamping = false ∷ false ∷ false ∷ false ∷ []
channel_facts DisableEdgeCount stamping = false ∷ false ∷ false ∷ false ∷ []
channel_facts GetEdgeNumbers stamping = false ∷ false ∷ false ∷ false ∷ []
channel_facts (StartTimestamp size interval) stamping = (size == 0 || nat_lt 64 size) ∷ (interval == 0) ∷ false ∷ false ∷ []
channel_facts StopTimestamp stamping = not stamping ∷ false ∷ false ∷ false ∷ []
channel_facts GetTimestampIndex stamping = false ∷ false ∷ false ∷ false ∷ []
channel_facts StartSignalMeasurement stamping = false ∷ false ∷ false ∷ false ∷ []
channel_facts StopSignalMeasurement stamping = false ∷ false ∷ false ∷ false ∷ []
channel_facts GetTimeElapsed stamping = false ∷ false ∷ false ∷ false ∷ []
channel_facts GetDutyCycleValues stamping = false ∷ false ∷ false ∷ false ∷ []

-- whether the errors of a service hold, in their order, where the module is uninitialised or not, and stamping is under way on the channel or not
abbrev pub facts_by : IcuTable → calls.Call → (uninit stamping : Bool) → List Bool
facts_by d Init u b = not u ∷ false ∷ false ∷ false ∷ false ∷ false ∷ []
facts_by d DeInit u b = u ∷ false ∷ false ∷ false ∷ false ∷ false ∷ []
facts_by d (Channel c call) u b = u ∷ not (allows call (channel_of d c)) ∷ channel_facts call b

-- the first error of a call that holds
abbrev pub error_by : IcuTable → calls.Call → (uninit stamping : Bool) → Option ErrorName
error_by d call u b = first_error (service_of call) (facts_by d call u b)

-- the answer that is the state of an input
abbrev pub input_answer : (active : Bool) → Answer
input_answer true = named IcuActive
input_answer false = named IcuIdle

-- the answer of a call with an error
abbrev pub channel_refused : ChannelCall → Answer
channel_refused GetInputState = input_answer false
channel_refused GetEdgeNumbers = numbers (0 ∷ [])
channel_refused GetTimestampIndex = numbers (0 ∷ [])
channel_refused GetTimeElapsed = numbers (0 ∷ [])
channel_refused GetDutyCycleValues = numbers (0 ∷ 0 ∷ [])
channel_refused _ = no_answer

abbrev pub answer_refused : calls.Call → Answer
answer_refused (Channel c call) = channel_refused call
answer_refused _ = no_answer

-- how errors are reported
abbrev pub reporting : IcuTable → Reporting
reporting d = record { detect = d.detect; classification = d.classification }
