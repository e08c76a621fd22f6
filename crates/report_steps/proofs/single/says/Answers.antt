-- The line of a move is taken, and counted.
use Rattle.std.proofs.Common.{sym, ◌∙◌, ap, subst}
use Rattle.bench_report.specs.Lines.{Notes, Errs}
use Rattle.bench_report.specs.Report.{move_lines}
use Rattle.audit_base.proofs.Products.{if_ok}
use Rattle.report_steps.specs.Lines.{TakesLines}
use Rattle.report_steps.specs.StepParts.{counting}
use Rattle.report_steps.proofs.EndLaws.{as_lines, error_counted, note_counted}
use Rattle.report_steps.proofs.LinesLaws.{advances_line}
use Rattle.report_steps.proofs.single.says.Goals as goal

pub takes-requires : goal.takes-requires
takes-requires g c = record { numbers = c.notice_fits.ensures }

pub returns-in_ok-auditor-inside-in-Note-clause-says : goal.returns-in_ok-auditor-inside-in-Note-clause-says
returns-in_ok-auditor-inside-in-Note-clause-says g c =
    if_ok c.takes.result (λ right h. subst (λ m. TakesLines right (move_lines m) c.args.report.now c.takes.new.report) (sym c.in-Note.is) (as_lines right (Notes c.in-Note.notice) c.args.report.now c.takes.new.report h)) c.takes.ensures

pub returns-in_ok-auditor-inside-in-Note-clause-counted : goal.returns-in_ok-auditor-inside-in-Note-clause-counted
returns-in_ok-auditor-inside-in-Note-clause-counted g c =
    if_ok c.takes.result (λ right h. note_counted _ c.args.auditor.now c.auditor.view_is c.in-Note.notice _ c.in_ok-auditor-inside-in-Note.ensures ∙ ap (λ m. counting (move_lines m) c.args.auditor.now) (sym c.in-Note.is)) c.takes.ensures

pub returns-in_ok-auditor-inside-in-Note-clause-on : goal.returns-in_ok-auditor-inside-in-Note-clause-on
returns-in_ok-auditor-inside-in-Note-clause-on g c = if_ok c.takes.result (λ right h. advances_line right (Notes c.in-Note.notice) c.args.report.now c.takes.new.report h) c.takes.ensures

pub returns-in_ok-auditor-inside-in-Report-clause-says : goal.returns-in_ok-auditor-inside-in-Report-clause-says
returns-in_ok-auditor-inside-in-Report-clause-says g c =
    if_ok c.takes-in-Report.result (λ right h. subst (λ m. TakesLines right (move_lines m) c.args.report.now c.takes-in-Report.new.report) (sym c.in-Report.is) (as_lines right (Errs c.in-Report.error) c.args.report.now c.takes-in-Report.new.report h)) c.takes-in-Report.ensures

pub returns-in_ok-auditor-inside-in-Report-clause-counted : goal.returns-in_ok-auditor-inside-in-Report-clause-counted
returns-in_ok-auditor-inside-in-Report-clause-counted g c =
    if_ok c.takes-in-Report.result (λ right h. error_counted _ c.args.auditor.now c.auditor.view_is c.in-Report.error _ c.in_ok-auditor-inside-in-Report.ensures ∙ ap (λ m. counting (move_lines m) c.args.auditor.now) (sym c.in-Report.is)) c.takes-in-Report.ensures

pub returns-in_ok-auditor-inside-in-Report-clause-on : goal.returns-in_ok-auditor-inside-in-Report-clause-on
returns-in_ok-auditor-inside-in-Report-clause-on g c = if_ok c.takes-in-Report.result (λ right h. advances_line right (Errs c.in-Report.error) c.args.report.now c.takes-in-Report.new.report h) c.takes-in-Report.ensures
