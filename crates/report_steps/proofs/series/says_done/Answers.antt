-- ok comes where it is asked for.
use Rattle.std.proofs.Common.{sym, subst}
use Rattle.bench_report.specs.Lines.{Done}
use Rattle.audit_base.proofs.Products.{if_ok}
use Rattle.report_steps.specs.Going.{ok_where}
use Rattle.report_steps.specs.Lines.{TakesLines}
use Rattle.report_steps.proofs.EndLaws.{as_lines, no_lines}
use Rattle.report_steps.proofs.LinesLaws.{advances_line, advances_none}
use Rattle.report_steps.proofs.series.says_done.Goals as goal

pub returns-else-silent-clause-says : goal.returns-else-silent-clause-says
returns-else-silent-clause-says c = rw c.if-silent.false (no_lines c.args.report.now)

pub returns-else-silent-clause-on : goal.returns-else-silent-clause-on
returns-else-silent-clause-on c = advances_none c.args.report.now

pub returns-then-silent-clause-says : goal.returns-then-silent-clause-says
returns-then-silent-clause-says c =
    if_ok c.takes.result (λ right h. subst (λ b. TakesLines right (ok_where b) c.args.report.now c.takes.new.report) (sym c.if-silent.true) (as_lines right Done c.args.report.now c.takes.new.report h)) c.takes.ensures

pub returns-then-silent-clause-on : goal.returns-then-silent-clause-on
returns-then-silent-clause-on c = if_ok c.takes.result (λ right h. advances_line right Done c.args.report.now c.takes.new.report h) c.takes.ensures
