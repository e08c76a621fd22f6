use Rattle.std.proofs.Common.{◌∙◌, [], ap}
use Rattle.std.proofs.lemmas.Iterator.Consumers.{YieldsList-end}
use Rattle.std.proofs.lemmas.Iterator.Splits.{YieldsList-from_lines}
use Rattle.bench_sweep.specs.Reports as reports
use Rattle.bench_sweep.proofs.Printed.{told_once_more}
use Rattle.bench_sweep.proofs.outcomes.outcome_of.Goals as goal

pub loop-line-preserved : goal.loop-line-preserved
loop-line-preserved c = told_once_more c.args.lines.now (λ x. x.now) c.loop-line.yielded c.in-Some.line _ _ c.loop-line.invariant c.in_ok-read.ensures

pub returns : goal.returns
returns c =
    let t = YieldsList-end (YieldsList-from_lines c.args.report.now cc) c.loop-line.yielded _ c.loop-line.yielded_by _ _ c.in-None.is c.next.ensures.steps in
    c.loop-line.invariant ∙ ap (λ texts. reports.told_behind c.args.lines.now [] texts) t.0
