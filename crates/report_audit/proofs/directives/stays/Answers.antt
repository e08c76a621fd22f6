-- The line of a held directive is counted.
use Rattle.std.proofs.Common.{◌+◌, ◌∙◌, ap}
use Rattle.std.proofs.lemmas.Result.{IfOk-weaker}
use Rattle.bench_report.specs.Lines.{Holds}
use Rattle.report_audit.proofs.TakeLaws.{held_more, line_on, with_held}
use Rattle.report_audit.proofs.directives.stays.Goals as goal

pub returns-clause-stays : goal.returns-clause-stays
returns-clause-stays g c =
    IfOk-weaker c.takes.result _ _ (λ right h. record {
      takes = h;
      counted = ap (λ a. with_held c.in_ok-held.held a) c.auditor.view_is ∙ held_more c.args.auditor.now c.args.cause c.in_ok-held.held (c.in_ok-held.ensures ∙ ap (λ a. a.tally.held + 1) c.auditor.view_is);
    }) c.takes.ensures

pub returns-clause-on : goal.returns-clause-on
returns-clause-on g c = IfOk-weaker c.takes.result _ _ (λ right h. line_on right (Holds c.args.cause) c.args.report.now c.takes.new.report h) c.takes.ensures
