-- What is owed for an error is what the machine tells of it.
-- Used by wdg_driver: Lawful, gpt_driver: Lawful, gpt_driver: Base.
use Rattle.std.proofs.Common.{◌≡◌, [], Option, Some, None, refl}
use Rattle.mcal_base.specs.declared.answer.Answer.{Answer}
use Rattle.mcal_base.specs.declared.error_name.ErrorName.{ErrorName}
use Rattle.mcal_base.specs.declared.moves.DevError.{DevError}
use Rattle.mcal_base.specs.det_errors.Reports.{reported}
use Rattle.run_model.specs.Machine.{Machine, tells_error}
use Rattle.run_model.specs.Frame.{Called, report_as}
use Rattle.service_outline.specs.Done.{owed_report, owed_error}
use Rattle.service_outline.specs.Outline.{TellsAs, error_in, notices_in}

report_of_owed : (r : Option DevError) → r ≡ error_in (owed_report r)
report_of_owed None = refl
report_of_owed (Some e) = refl

no_notice : (r : Option DevError) → [] ≡ notices_in (owed_report r)
no_notice None = refl
no_notice (Some e) = refl

-- a call that finds an error tells it so
pub error_told : {State Call : Type 0} (mac : Machine State Call) (c : Call) (a : Answer) (e : ErrorName) → TellsAs mac (Called c) (tells_error a e) (record { answer = a; owed = owed_error (mac.reporting c) (mac.service_of c) e })
error_told mac c a e = let r = report_as (mac.service_of c) e (reported (mac.reporting c) e) in (refl, no_notice r, report_of_owed r)
