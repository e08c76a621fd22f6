-- What is promised of an audit over all modules.
use Rattle.std.specs.Prelude.{◌≡◌, ℕ, List}
use Rattle.mcal_base.specs.declared.config.whole.Config.{Config}
use Rattle.mcal_base.specs.declared.directive.Directive.{Directive}
use Rattle.mcal_drivers.specs.Setting.{system_setting, call_of}
use Rattle.run_model.specs.Entry.{Entry}
use Rattle.run_model.specs.Moment.{start_moment}
use Rattle.script_runner.specs.Scripts.{chip_for}
use Rattle.shown_rows.specs.Shows.{show_rows}
use Rattle.report_text.specs.reading.Audits.{AuditsReport, IsReportOf}
use Rattle.report_text.specs.reading.Reading.{read_report}
use Rattle.report_text.specs.declared.reading.verdict.Verdict.{Verdict}

-- the journal that a report tells
abbrev pub journal_of : (devices : ℕ) → Config → List Directive → (text : List ℕ) → List Entry
journal_of devices config script text = read_report (system_setting config) call_of (start_moment (system_setting config) (chip_for devices config script)) script text

-- a journal is one of a legal run of the script over all modules, and the text is its traced report
abbrev pub IsSystemReport : (devices : ℕ) → Config → List Directive → (text : List ℕ) → List Entry → Type 0
IsSystemReport devices config script text journal = IsReportOf (system_setting config) call_of (show_rows config) (chip_for devices config script) script text journal

-- The journal that the text tells is one of a legal run, of which the text is the traced report; and it is the only one.
pub record IsAudited (devices : ℕ) (config : Config) (script : List Directive) (text : List ℕ) : Type 0 where
  pub is : IsSystemReport devices config script text (journal_of devices config script text)
  pub only : (journal : List Entry) → IsSystemReport devices config script text journal → journal ≡ journal_of devices config script text

-- what an audit of a report answers
abbrev pub IsVerdict : (devices : ℕ) → Config → List Directive → (text : List ℕ) → Verdict → Type 0
IsVerdict devices config script text verdict = AuditsReport (system_setting config) call_of (show_rows config) (chip_for devices config script) script text verdict
