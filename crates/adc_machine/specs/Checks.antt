-- The services, what their arguments have to be, and which error a call has.
use Rattle.std.specs.Prelude.{Bool, true, false, not, List, [], ◌∷◌, Option, Some, None, is_some}
use Rattle.mcal_base.specs.declared.answer.Answer.{Answer}
use Rattle.mcal_base.specs.declared.answer.Head.TheVariants.{ZeroNull}
use Rattle.mcal_base.specs.declared.answer_name.AnswerName.TheVariants.{ENotOk, AdcIdle}
use Rattle.mcal_base.specs.declared.error_name.ErrorName.{ErrorName}
use Rattle.mcal_base.specs.declared.service.Service.{Service}
use Rattle.mcal_base.specs.declared.service.Service.TheVariants as services
use Rattle.mcal_base.specs.det_errors.Rows.{first_error}
use Rattle.run_model.specs.Machine.{no_answer, named}
use Rattle.adc_machine.specs.declared.call.Call as calls
use Rattle.adc_machine.specs.declared.call.Call.TheVariants.{Init, DeInit, Group}
use Rattle.adc_machine.specs.declared.call.GroupCall.{GroupCall}
use Rattle.adc_machine.specs.declared.call.GroupCall.TheVariants.{SetupResultBuffer, StartGroupConversion, StopGroupConversion, ReadGroup, EnableHardwareTrigger, DisableHardwareTrigger, Notification, GetGroupStatus, GetStreamLastPointer}
use Rattle.adc_machine.specs.declared.table.AdcTable.{AdcTable}
use Rattle.adc_machine.specs.declared.table.Group as configured
use Rattle.adc_machine.specs.Table.{group_of}

-- the service of a call
abbrev pub group_service : GroupCall → Service
group_service (SetupResultBuffer b) = services.AdcSetupResultBuffer
group_service StartGroupConversion = services.AdcStartGroupConversion
group_service StopGroupConversion = services.AdcStopGroupConversion
group_service ReadGroup = services.AdcReadGroup
group_service EnableHardwareTrigger = services.AdcEnableHardwareTrigger
group_service DisableHardwareTrigger = services.AdcDisableHardwareTrigger
group_service (Notification true) = services.AdcEnableGroupNotification
group_service (Notification false) = services.AdcDisableGroupNotification
group_service GetGroupStatus = services.AdcGetGroupStatus
group_service GetStreamLastPointer = services.AdcGetStreamLastPointer

abbrev pub service_of : calls.Call → Service
service_of Init = services.AdcInit
service_of DeInit = services.AdcDeInit
service_of (Group g call) = group_service call

-- What the state says of a call: the module is uninitialised, its group has no chosen buffer, its group is idle, and something that has to be free is busy.
pub record Circumstances : Type 0 where
  pub uninitialised : Bool
  pub unbuffered : Bool
  pub idle : Bool
  pub busy : Bool

-- the group is triggered by hardware
abbrev pub is_triggered : Option configured.Group → Bool
is_triggered None = false
is_triggered (Some k) = is_some k.trigger

-- the group has a notification
abbrev pub has_notification : Option configured.Group → Bool
has_notification None = false
has_notification (Some k) = k.notification

-- the errors after those of a missing Init and of an unknown group, in the order of the service
abbrev pub group_facts : GroupCall → Option configured.Group → Circumstances → List Bool
group_facts (SetupResultBuffer b) k x = not (is_some b) ∷ x.busy ∷ false ∷ false ∷ []
group_facts StartGroupConversion k x = is_triggered k ∷ x.unbuffered ∷ x.busy ∷ false ∷ []
group_facts StopGroupConversion k x = is_triggered k ∷ x.idle ∷ false ∷ false ∷ []
group_facts ReadGroup k x = x.idle ∷ false ∷ false ∷ false ∷ []
group_facts EnableHardwareTrigger k x = not (is_triggered k) ∷ x.unbuffered ∷ x.busy ∷ false ∷ []
group_facts DisableHardwareTrigger k x = not (is_triggered k) ∷ x.idle ∷ false ∷ false ∷ []
group_facts (Notification on) k x = not (has_notification k) ∷ false ∷ false ∷ false ∷ []
group_facts GetGroupStatus k x = false ∷ false ∷ false ∷ false ∷ []
group_facts GetStreamLastPointer k x = x.idle ∷ false ∷ false ∷ false ∷ []

-- whether the errors of a service hold, in their order
abbrev pub facts_by : AdcTable → calls.Call → Circumstances → List Bool
facts_by d Init x = not x.uninitialised ∷ false ∷ false ∷ false ∷ false ∷ false ∷ []
facts_by d DeInit x = x.uninitialised ∷ x.busy ∷ false ∷ false ∷ false ∷ false ∷ []
facts_by d (Group g call) x = x.uninitialised ∷ not (is_some (group_of d g)) ∷ group_facts call (group_of d g) x

-- the first error of a call that holds
abbrev pub error_by : AdcTable → calls.Call → Circumstances → Option ErrorName
error_by d call x = first_error (service_of call) (facts_by d call x)

-- the answer without a pointer
abbrev pub zero_null : Answer
zero_null = record { head = ZeroNull; words = [] }

-- the answer of a call with an error
abbrev pub answer_refused : calls.Call → Answer
answer_refused (Group g (SetupResultBuffer b)) = named ENotOk
answer_refused (Group g ReadGroup) = named ENotOk
answer_refused (Group g GetGroupStatus) = named AdcIdle
answer_refused (Group g GetStreamLastPointer) = zero_null
answer_refused _ = no_answer
