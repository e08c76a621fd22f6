-- What an audit says over the checker's machines it says over the drivers'.
use mathlib.Core.Path.{subst}
use Rattle.std.proofs.Common.{◌≡◌, ℕ, List, ap, ◌∙◌}
use Rattle.std.specs.Prelude.{IfOk, Result, Ok, Err}
use Rattle.chip_model.specs.Chip.{Chip, hung, power_on}
use Rattle.mcal_base.specs.declared.config.whole.Config.{Config}
use Rattle.mcal_base.specs.declared.directive.Directive.{Directive}
use Rattle.script_runner.specs.Scripts.{chip_for, words_given}
use Rattle.shown_rows.specs.Shows.{show_rows}
use Rattle.audit_machines.specs.Requests.{call_of}
use Rattle.report_modules.specs.machines.Bench.{Bench}
use Rattle.report_modules.specs.machines.System.{all_setting}
use Rattle.report_modules.proofs.Systems.{benches_are_one}
use Rattle.report_text.specs.reading.Audits.{AuditsReport}
use Rattle.report_text.specs.declared.reading.verdict.Verdict.{Verdict}
use Rattle.report_modules.specs.Judged.{IsVerdict}

module _ (devices : ℕ) (config : Config) (script : List Directive) (text : List ℕ) where
  carried : (verdict : Verdict) (chip : Chip) → chip ≡ chip_for devices config script → AuditsReport (all_setting config) call_of (show_rows config) chip script text verdict → IsVerdict devices config script text verdict
  carried verdict chip is h =
      subst (λ (b : Bench _). AuditsReport b.setting b.call_of (show_rows config) (chip_for devices config script) script text verdict) (benches_are_one config)
      (subst (λ (c : Chip). AuditsReport (all_setting config) call_of (show_rows config) c script text verdict) is h)

  -- the bench is at power on, with so many devices
  same_chip : (count : ℕ) (bus : Chip) → count ≡ devices → bus ≡ power_on config (words_given script) → hung count bus ≡ chip_for devices config script
  same_chip count bus n e = ap (λ (k : ℕ). hung k bus) n ∙ ap (λ (b : Chip). hung devices b) e

  pub carried_ok : {E : Type 0} (r : Result Verdict E) (count : ℕ) (bus : Chip) → count ≡ devices → bus ≡ power_on config (words_given script) →
      IfOk r (λ verdict. AuditsReport (all_setting config) call_of (show_rows config) (hung count bus) script text verdict) → IfOk r (λ verdict. IsVerdict devices config script text verdict)
  carried_ok (Ok verdict) count bus n e h = carried verdict (hung count bus) (same_chip count bus n e) h
  carried_ok (Err x) count bus n e h = tt
