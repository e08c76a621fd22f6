-- What an audit answers of a whole report is what is promised of it.
use Rattle.std.proofs.Common.{◌≡◌, ℕ, ◌+◌, true, List, [], length, refl, sym, ◌∙◌, ap}
use Rattle.bench_report.specs.Numbers.{Each}
use Rattle.bench_report.specs.Report.{report_lines}
use Rattle.bench_report.specs.Showing.{Showing, shows_from}
use Rattle.chip_model.specs.Chip.{Chip}
use Rattle.mcal_base.specs.declared.directive.Directive.{Directive}
use Rattle.mcal_base.specs.declared.directive.Request.{Request}
use Rattle.run_model.specs.Entry.{Entry}
use Rattle.run_model.specs.Moment.{Setting, start_moment}
use Rattle.script_runner.specs.Scripts.{LinesRise}
use Rattle.trace_reader.specs.Reading.{parts_of}
use Rattle.report_text.specs.reading.Audits.{AuditsReport, IsReportOf}
use Rattle.report_text.specs.reading.Blocks.{place_from}
use Rattle.report_text.specs.reading.Fits.{DirectiveFits}
use Rattle.report_text.specs.reading.Reading.{read_report}
use Rattle.report_text.specs.declared.reading.verdict.Verdict.{Verdict}
use Rattle.report_text.specs.declared.reading.verdict.Verdict.TheVariants.{Passed, Fault}
use Rattle.report_text.proofs.Reports.{reads_reports}
use Rattle.report_text.proofs.Verdicts.{answers_once, passes_runs, runs_pass}
use Rattle.report_audit.specs.Judged.{IsAudited, IsPassed}

module _ {State Call : Type 0} (g : Setting State Call) (call_of : Request → Call) (showing : Showing State) (first : Chip) (script : List Directive) (text : List ℕ) (rise : LinesRise 0 script) (fits : Each DirectiveFits script) where
  only_one : (journal : List Entry) → IsReportOf g call_of showing first script text journal → journal ≡ read_report g call_of (start_moment g first) script text
  only_one journal is =
      sym (reads_reports g call_of first script journal (shows_from g call_of showing script (start_moment g first) journal) rise fits is.fits is.run)
      ∙ ap (λ (bs : List ℕ). read_report g call_of (start_moment g first) script bs) is.prints

  -- what is passed is the report of a run
  pub audited : (verdict : Verdict) → AuditsReport g call_of showing first script text verdict → IsPassed verdict → IsAudited g call_of showing first script text
  audited (Passed lines) audits h = record { is = passes_runs g call_of showing first script text lines rise fits audits; only = only_one }
  audited (Fault line) audits h = absurd h

  -- the report of a run is passed
  pub passed : (verdict : Verdict) → AuditsReport g call_of showing first script text verdict → (journal : List Entry) → IsReportOf g call_of showing first script text journal
      → verdict ≡ Passed (1 + length (report_lines true [] (shows_from g call_of showing script (start_moment g first) journal) script journal))
  passed verdict audits journal is =
      answers_once g call_of showing script (place_from (start_moment g first)) 1 (parts_of text) (record { begun = refl; fit = tt }) fits audits (runs_pass g call_of showing first script text journal rise fits is)
