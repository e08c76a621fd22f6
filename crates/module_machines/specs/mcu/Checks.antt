-- The services, what their arguments have to be, which error a call has, and how it is reported.
use Rattle.std.specs.Prelude.{Bool, false, not, List, [], ◌∷◌, Option, is_some}
use Rattle.mcal_base.specs.declared.answer.Answer.{Answer}
use Rattle.mcal_base.specs.declared.answer_name.AnswerName.TheVariants.{ENotOk, McuPllStatusUndefined, McuResetUndefined}
use Rattle.mcal_base.specs.declared.error_name.ErrorName.{ErrorName}
use Rattle.mcal_base.specs.declared.service.Service.{Service}
use Rattle.mcal_base.specs.declared.service.Service.TheVariants as services
use Rattle.mcal_base.specs.det_errors.Reports.{Reporting}
use Rattle.mcal_base.specs.det_errors.Rows.{first_error}
use Rattle.run_model.specs.Machine.{no_answer, named}
use Rattle.module_machines.specs.declared.mcu.call.Call.{Call}
use Rattle.module_machines.specs.declared.mcu.call.Call.TheVariants.{Init, InitRamSection, Clock, GetPllStatus, GetResetReason, PerformReset, SetMode}
use Rattle.module_machines.specs.declared.mcu.call.ClockCall.TheVariants.{InitClock, DistributePllClock}
use Rattle.module_machines.specs.declared.mcu.table.McuTable.{McuTable}
use Rattle.module_machines.specs.mcu.Table.{multiplier_of, has_mode, section_of}

-- the service of a call
abbrev pub service_of : Call → Service
service_of Init = services.McuInit
service_of (InitRamSection n) = services.McuInitRamSection
service_of (Clock (InitClock n)) = services.McuInitClock
service_of (Clock DistributePllClock) = services.McuDistributePllClock
service_of GetPllStatus = services.McuGetPllStatus
service_of GetResetReason = services.McuGetResetReason
service_of PerformReset = services.McuPerformReset
service_of (SetMode m) = services.McuSetMode

-- whether the errors of a service hold, in their order: the module is uninitialised, the PLL isn't locked
abbrev pub facts_by : McuTable → Call → (uninit unlocked : Bool) → List Bool
facts_by d Init u k = false ∷ false ∷ false ∷ false ∷ false ∷ false ∷ []
facts_by d (InitRamSection n) u k = u ∷ not (is_some (section_of d n)) ∷ false ∷ false ∷ false ∷ false ∷ []
facts_by d (Clock (InitClock n)) u k = u ∷ not (is_some (multiplier_of d n)) ∷ false ∷ false ∷ false ∷ false ∷ []
facts_by d (Clock DistributePllClock) u k = u ∷ k ∷ false ∷ false ∷ false ∷ false ∷ []
facts_by d (SetMode m) u k = u ∷ not (has_mode d m) ∷ false ∷ false ∷ false ∷ false ∷ []
facts_by d _ u k = u ∷ false ∷ false ∷ false ∷ false ∷ false ∷ []

-- the first error of a call that holds
abbrev pub error_by : McuTable → Call → (uninit unlocked : Bool) → Option ErrorName
error_by d call u k = first_error (service_of call) (facts_by d call u k)

-- the answer of a call with an error
abbrev pub answer_refused : Call → Answer
answer_refused (InitRamSection n) = named ENotOk
answer_refused (Clock call) = named ENotOk
answer_refused GetPllStatus = named McuPllStatusUndefined
answer_refused GetResetReason = named McuResetUndefined
answer_refused _ = no_answer

-- how errors are reported: the module has no runtime errors
abbrev pub reporting : McuTable → Reporting
reporting d = record { detect = d.detect; classification = 1 }
