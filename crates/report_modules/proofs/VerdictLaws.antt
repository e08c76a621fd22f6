-- What an audit over all modules answers is what is promised of it.
use Rattle.std.proofs.Common.{◌≡◌, ℕ, List, refl, sym, subst}
use Rattle.std.specs.Prelude.{Bool, IfOk, Result, Ok, Err}
use Rattle.mcal_base.specs.declared.config.whole.Config.{Config}
use Rattle.mcal_base.specs.declared.directive.Directive.{Directive}
use Rattle.mcal_base.specs.declared.service.Service.{Service}
use Rattle.mcal_drivers.specs.Setting.{system_setting, call_of}
use Rattle.run_model.specs.Moment.{start_moment}
use Rattle.script_runner.specs.Scripts.{chip_for}
use Rattle.shown_rows.specs.Shows.{show_rows}
use Rattle.trace_reader.specs.Reading.{parts_of}
use Rattle.report_text.specs.reading.Blocks.{place_from}
use Rattle.report_text.proofs.Verdicts.{answers_once}
use Rattle.report_text.specs.declared.reading.verdict.Verdict.{Verdict}
use Rattle.report_text.specs.declared.reading.verdict.Verdict.TheVariants.{Passed}
use Rattle.report_audit.specs.Judged.{IsPassed}
pub use Rattle.report_audit.specs.Judged.{CanAudit}
pub use Rattle.report_audit.proofs.ReadLaws.{can_audit}
use Rattle.report_audit.proofs.VerdictLaws.{audited}
pub use Rattle.report_audit.proofs.VerdictLaws.{passed}
use Rattle.report_modules.specs.Judged.{IsAudited, IsVerdict, journal_of}

module _ {has_service : Service → Bool} (devices : ℕ) (config : Config) (script : List Directive) (text : List ℕ) (can : CanAudit has_service script) where
  -- what is passed is the report of a legal run
  pub passed_audited : (verdict : Verdict) → IsVerdict devices config script text verdict → IsPassed verdict → IsAudited devices config script text
  passed_audited verdict right is =
      let a = audited (system_setting config) call_of (show_rows config) (chip_for devices config script) script text can.lines can.fits verdict right is in
      record { is = a.is; only = a.only }

  -- such a report is passed
  pub passed_by : (verdict : Verdict) → IsVerdict devices config script text verdict → IsAudited devices config script text → (count : ℕ) × (verdict ≡ Passed count)
  passed_by verdict right a =
      (_, passed (system_setting config) call_of (show_rows config) (chip_for devices config script) script text can.lines can.fits verdict right (journal_of devices config script text) a.is)

  -- and there is one verdict
  pub one_verdict : (one other : Verdict) → IsVerdict devices config script text one → IsVerdict devices config script text other → one ≡ other
  one_verdict one other first second =
      answers_once (system_setting config) call_of (show_rows config) script (place_from (start_moment (system_setting config) (chip_for devices config script))) 1 (parts_of text) (record { begun = refl; fit = tt }) can.fits first second

  -- the same of what a call gives, which may be want of memory
  pub sound_ok : {E : Type 0} (r : Result Verdict E) → IfOk r (λ verdict. IsVerdict devices config script text verdict) → IfOk r (λ verdict. IsPassed verdict → IsAudited devices config script text)
  sound_ok (Ok verdict) right = passed_audited verdict right
  sound_ok (Err e) right = tt

  pub complete_ok : {E : Type 0} (r : Result Verdict E) → IfOk r (λ verdict. IsVerdict devices config script text verdict) → IsAudited devices config script text → IfOk r IsPassed
  complete_ok (Ok verdict) right a = subst IsPassed (sym (passed_by verdict right a).1) tt
  complete_ok (Err e) right a = tt
