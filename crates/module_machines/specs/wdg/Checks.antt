-- The services, which error a call has, and how it is reported.
use Rattle.std.specs.Prelude.{nat_lt, Bool, false, not, List, [], ◌∷◌, Option, is_some}
use Rattle.mcal_base.specs.declared.answer.Answer.{Answer}
use Rattle.mcal_base.specs.declared.answer_name.AnswerName.TheVariants.{ENotOk}
use Rattle.mcal_base.specs.declared.error_name.ErrorName.{ErrorName}
use Rattle.mcal_base.specs.declared.service.Service.{Service}
use Rattle.mcal_base.specs.declared.service.Service.TheVariants as services
use Rattle.mcal_base.specs.det_errors.Reports.{Reporting}
use Rattle.mcal_base.specs.det_errors.Rows.{first_error}
use Rattle.run_model.specs.Machine.{no_answer, named}
use Rattle.module_machines.specs.declared.wdg.call.Call.{Call}
use Rattle.module_machines.specs.declared.wdg.call.Call.TheVariants.{Init, SetMode, SetTriggerCondition}
use Rattle.module_machines.specs.declared.wdg.table.WdgTable.{WdgTable}

-- the service of a call
abbrev pub service_of : Call → Service
service_of Init = services.WdgInit
service_of (SetMode m) = services.WdgSetMode
service_of (SetTriggerCondition n) = services.WdgSetTriggerCondition

-- whether the errors of a service hold, in their order: the module is uninitialised, the mode is none, the timeout is above the largest
abbrev pub facts_by : WdgTable → Call → (uninit : Bool) → List Bool
facts_by d Init u = false ∷ false ∷ false ∷ false ∷ false ∷ false ∷ []
facts_by d (SetMode m) u = u ∷ not (is_some m) ∷ false ∷ false ∷ false ∷ false ∷ []
facts_by d (SetTriggerCondition n) u = u ∷ nat_lt d.max_ticks n ∷ false ∷ false ∷ false ∷ false ∷ []

-- the first error of a call that holds
abbrev pub error_by : WdgTable → Call → (uninit : Bool) → Option ErrorName
error_by d call u = first_error (service_of call) (facts_by d call u)

-- the answer of a call with an error
abbrev pub answer_refused : Call → Answer
answer_refused (SetMode m) = named ENotOk
answer_refused _ = no_answer

-- how errors are reported: the module has no runtime errors
abbrev pub reporting : WdgTable → Reporting
reporting d = record { detect = d.detect; classification = 1 }
