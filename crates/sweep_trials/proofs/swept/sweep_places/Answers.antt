use Rattle.std.proofs.Common.{arith}
use Rattle.sweep_trials.proofs.Stopping.{few_places}
use Rattle.sweep_trials.proofs.swept.sweep_places.Goals as goal

pub sweep_once-requires-clause-few : goal.sweep_once-requires-clause-few
sweep_once-requires-clause-few g c = omega (arith, few_places c.args.opened.now, c.requires.few)

pub returns-clause-swept : goal.returns-clause-swept
returns-clause-swept g c = rw (c.end_of-first.ensures.is, c.end_of-end.ensures.is, c.count-count.ensures.is, c.saturating_sub.ensures) at c.sweep_once.ensures.swept

pub returns-clause-stopped : goal.returns-clause-stopped
returns-clause-stopped g c = rw (c.end_of-first.ensures.is, c.end_of-end.ensures.is, c.count-count.ensures.is, c.saturating_sub.ensures) at c.sweep_once.ensures.stopped
