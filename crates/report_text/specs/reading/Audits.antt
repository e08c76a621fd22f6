-- What an audit answers: how many lines the report has, where each block is one of a legal journal, or the line with which the first refused part begins.
use Rattle.std.specs.Prelude.{◌≡◌, ℕ, ◌+◌, List, [], ◌∷◌, true, length, take, bytes_eq, if◌then◌else◌}
use Rattle.std.specs.List.{join_with_byte}
use Rattle.bench_report.specs.Lines.{end_text}
use Rattle.bench_report.specs.Numbers.{Each, EntryFits}
use Rattle.bench_report.specs.Report.{report, report_lines}
use Rattle.bench_report.specs.Showing.{Showing, shows_from}
use Rattle.bench_report.specs.declared.tally.Tally.{Tally}
use Rattle.chip_model.specs.Chip.{Chip}
use Rattle.mcal_base.specs.declared.directive.Directive.{Directive}
use Rattle.mcal_base.specs.declared.directive.Request.{Request}
use Rattle.run_model.specs.Entry.{Entry}
use Rattle.run_model.specs.Legal.{IsServed}
use Rattle.run_model.specs.Moment.{Setting, start_moment}
use Rattle.script_runner.specs.Scripts.{IsRun, LinesRise}
use Rattle.report_text.specs.reading.Blocks.{AuditState, IsBlock, place_from, place_after, own_lines, behind, text_of}
use Rattle.report_text.specs.reading.Fits.{DirectiveFits}
use Rattle.report_text.specs.reading.Reading.{IsPlace, read_report}
use Rattle.trace_reader.specs.Reading.{parts_of}
use Rattle.report_text.specs.declared.reading.verdict.Verdict.{Verdict}
use Rattle.report_text.specs.declared.reading.verdict.Verdict.TheVariants.{Passed, Fault}

-- what is left is the last line alone, which counts the lines
abbrev pub IsEnd : Tally → (left : List (List ℕ)) → Type 0
IsEnd tally left = left ≡ parts_of (end_text tally)

-- where what is left is wrong that isn't the last line alone: behind the last line, or where it should begin
abbrev pub end_fault : Tally → (line : ℕ) → (left : List (List ℕ)) → ℕ
end_fault tally line left = if bytes_eq (take (length (end_text tally)) (join_with_byte 10 left)) (end_text tally) then line + 1 else line

-- What the audit of the directives that are left answers, from a place and a line on, whose number is from 1.
pub data Audits {State Call : Type 0} (g : Setting State Call) (call_of : Request → Call) (showing : Showing State) : AuditState State Call → List Directive → (line : ℕ) → (left : List (List ℕ)) → Verdict → Type 0 where
  -- all blocks were read, the last moment is served, and the last line comes alone
  Ends : {p : AuditState State Call} {line : ℕ} {left : List (List ℕ)} → IsServed g p.moment → IsEnd p.tally left → Audits g call_of showing p [] line left (Passed line)
  -- something else comes
  Unended : {p : AuditState State Call} {line : ℕ} {left : List (List ℕ)} → IsServed g p.moment → (IsEnd p.tally left → ⊥) → Audits g call_of showing p [] line left (Fault (end_fault p.tally line left))
  -- the moment isn't served: after a directive each is
  Unserved : {p : AuditState State Call} {line : ℕ} {left : List (List ℕ)} → (IsServed g p.moment → ⊥) → Audits g call_of showing p [] line left (Fault line)
  -- the block of the next directive is that of legal items, and so it goes on
  Next : {p : AuditState State Call} {d : Directive} {ds : List Directive} {line : ℕ} {left : List (List ℕ)} {v : Verdict}
      → (b : IsBlock g call_of showing p d (text_of (own_lines d.line left)))
      → Audits g call_of showing (place_after g call_of showing p d b.items) ds (line + length (own_lines d.line left)) (behind d.line left) v
      → Audits g call_of showing p (d ∷ ds) line left v
  -- it is that of none
  Refused : {p : AuditState State Call} {d : Directive} {ds : List Directive} {line : ℕ} {left : List (List ℕ)}
      → (IsBlock g call_of showing p d (text_of (own_lines d.line left)) → ⊥)
      → Audits g call_of showing p (d ∷ ds) line left (Fault line)

-- ---- the laws

-- what the audit of the traced report of a run of a script answers, from power on with this chip
abbrev pub AuditsReport : {State Call : Type 0} → Setting State Call → (Request → Call) → Showing State → Chip → List Directive → (text : List ℕ) → Verdict → Type 0
AuditsReport g call_of showing first script text verdict = Audits g call_of showing (place_from (start_moment g first)) script 1 (parts_of text) verdict

-- A journal, as a journal holds it, is a run of the script, and this is its traced report.
pub record IsReportOf {State Call : Type 0} (g : Setting State Call) (call_of : Request → Call) (showing : Showing State) (first : Chip) (script : List Directive) (text : List ℕ) (journal : List Entry) : Type 0 where
  pub fits : Each EntryFits journal
  pub run : IsRun g first call_of script journal
  pub prints : report true script journal (shows_from g call_of showing script (start_moment g first) journal) ≡ text

-- Two verdicts of what is left of a report are one.
abbrev pub AnswersOnce : {State Call : Type 0} → Setting State Call → (Request → Call) → Showing State → Type 0
AnswersOnce {State} {Call} g call_of showing =
    (p : AuditState State Call) (script : List Directive) (line : ℕ) (left : List (List ℕ)) (one other : Verdict) → IsPlace p → Each DirectiveFits script
    → Audits g call_of showing p script line left one → Audits g call_of showing p script line left other → one ≡ other

-- A report that is passed is that of a run, whose journal it tells.
abbrev pub PassesRuns : {State Call : Type 0} → Setting State Call → (Request → Call) → Showing State → Type 0
PassesRuns {State} {Call} g call_of showing =
    (first : Chip) (script : List Directive) (text : List ℕ) (lines : ℕ)
    → LinesRise 0 script → Each DirectiveFits script
    → AuditsReport g call_of showing first script text (Passed lines) → IsReportOf g call_of showing first script text (read_report g call_of (start_moment g first) script text)

-- The report of a run is passed, and has so many lines.
abbrev pub RunsPass : {State Call : Type 0} → Setting State Call → (Request → Call) → Showing State → Type 0
RunsPass {State} {Call} g call_of showing =
    (first : Chip) (script : List Directive) (text : List ℕ) (journal : List Entry)
    → LinesRise 0 script → Each DirectiveFits script → IsReportOf g call_of showing first script text journal
    → AuditsReport g call_of showing first script text (Passed (1 + length (report_lines true [] (shows_from g call_of showing script (start_moment g first) journal) script journal)))
