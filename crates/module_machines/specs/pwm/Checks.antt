-- The services, what their arguments have to be, and which error a call has.
use Rattle.std.specs.Prelude.{Bool, true, false, not, List, [], ◌∷◌, Option, Some, None, is_some}
use Rattle.mcal_base.specs.det_errors.Reports.{Reporting}
use Rattle.mcal_base.specs.det_errors.Rows.{first_error}
use Rattle.mcal_base.specs.declared.answer.Answer.{Answer}
use Rattle.mcal_base.specs.declared.answer_name.AnswerName.TheVariants.{PwmHigh, PwmLow}
use Rattle.mcal_base.specs.declared.error_name.ErrorName.{ErrorName}
use Rattle.mcal_base.specs.declared.service.Service.{Service}
use Rattle.mcal_base.specs.declared.service.Service.TheVariants as services
use Rattle.run_model.specs.Machine.{no_answer, named}
use Rattle.module_machines.specs.declared.pwm.call.Call as calls
use Rattle.module_machines.specs.declared.pwm.call.Call.TheVariants.{Init, DeInit, GetOutputState, Channel}
use Rattle.module_machines.specs.declared.pwm.call.ChannelCall.{ChannelCall}
use Rattle.module_machines.specs.declared.pwm.call.ChannelCall.TheVariants.{SetDutyCycle, SetPeriodAndDuty, SetOutputToIdle, EnableNotification, DisableNotification}
use Rattle.module_machines.specs.declared.pwm.table.Channel as configured
use Rattle.module_machines.specs.declared.pwm.table.PwmTable.{PwmTable}
use Rattle.module_machines.specs.pwm.Table.{channel_of}

-- the service of a call
abbrev pub channel_service : ChannelCall → Service
channel_service (SetDutyCycle duty) = services.PwmSetDutyCycle
channel_service (SetPeriodAndDuty period duty) = services.PwmSetPeriodAndDuty
channel_service SetOutputToIdle = services.PwmSetOutputToIdle
channel_service (EnableNotification edge) = services.PwmEnableNotification
channel_service DisableNotification = services.PwmDisableNotification

abbrev pub service_of : calls.Call → Service
service_of Init = services.PwmInit
service_of DeInit = services.PwmDeInit
service_of (GetOutputState c) = services.PwmGetOutputState
service_of (Channel c call) = channel_service call

abbrev pub has_notification : Option configured.Channel → Bool
has_notification None = false
has_notification (Some k) = k.notification

-- a call may name the channel: it is configured, with a notification where that is switched
abbrev pub allows : ChannelCall → Option configured.Channel → Bool
allows (EnableNotification edge) k = has_notification k
allows DisableNotification k = has_notification k
allows _ k = is_some k

abbrev pub has_variable_period : Option configured.Channel → Bool
has_variable_period None = false
has_variable_period (Some k) = k.variable_period

-- a call that sets the period may do so
abbrev pub may_set : ChannelCall → Option configured.Channel → Bool
may_set (SetPeriodAndDuty period duty) k = has_variable_period k
may_set _ k = true

-- whether the errors of a service hold, in their order, where the module is uninitialised or not
abbrev pub facts_by : PwmTable → calls.Call → (uninit : Bool) → List Bool
facts_by d Init u = not u ∷ false ∷ false ∷ false ∷ false ∷ false ∷ []
facts_by d DeInit u = u ∷ false ∷ false ∷ false ∷ false ∷ false ∷ []
facts_by d (GetOutputState c) u = u ∷ not (is_some (channel_of d c)) ∷ false ∷ false ∷ false ∷ false ∷ []
facts_by d (Channel c call) u = u ∷ not (allows call (channel_of d c)) ∷ not (may_set call (channel_of d c)) ∷ false ∷ false ∷ false ∷ []

-- the first error of a call that holds
abbrev pub error_by : PwmTable → calls.Call → (uninit : Bool) → Option ErrorName
error_by d call u = first_error (service_of call) (facts_by d call u)

-- the answer that is a level
abbrev pub level_answer : (high : Bool) → Answer
level_answer true = named PwmHigh
level_answer false = named PwmLow

-- the answer of a call with an error
abbrev pub answer_refused : calls.Call → Answer
answer_refused (GetOutputState c) = level_answer false
answer_refused _ = no_answer

-- how errors are reported: the module has no state errors
abbrev pub reporting : PwmTable → Reporting
reporting d = record { detect = d.detect; classification = 1 }
