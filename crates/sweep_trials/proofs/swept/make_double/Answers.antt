use Rattle.std.proofs.Common.{arith}
use Rattle.sweep_trials.proofs.Stopping.{are_few, if_ok, passed, too_many}
use Rattle.sweep_trials.proofs.Trying.{none_differ}
use Rattle.sweep_trials.specs.Stops.{StopsTwice}
use Rattle.sweep_trials.proofs.swept.make_double.Goals as goal

pub sweep_twice-requires : goal.sweep_twice-requires
sweep_twice-requires g c = none_differ _ c.new.ensures

pub returns-clause-few : goal.returns-clause-few
returns-clause-few g c = if_ok c.sweep_twice.result (are_few (g.R.Runs.is_seen c.args.sweep.now.bench.runs.now) c.args.sweep.now.bench.following c.args.sweep.now.parts.swept.now c.args.opened.now c.in_ok-all.steps c.in_ok-all.ensures.steps (omega (arith, c.if-steps-gt-MOST_IN_ALL.false)))

pub returns-clause-stopped : goal.returns-clause-stopped
returns-clause-stopped g c = c.sweep_twice.ensures.stopped (are_few (g.R.Runs.is_seen c.args.sweep.now.bench.runs.now) c.args.sweep.now.bench.following c.args.sweep.now.parts.swept.now c.args.opened.now c.in_ok-all.steps c.in_ok-all.ensures.steps (omega (arith, c.if-steps-gt-MOST_IN_ALL.false)))

pub returns-then-steps-gt-MOST_IN_ALL-clause-stopped : goal.returns-then-steps-gt-MOST_IN_ALL-clause-stopped
returns-then-steps-gt-MOST_IN_ALL-clause-stopped g c = too_many (g.R.Runs.is_seen c.args.sweep.now.bench.runs.now) (g.R.Runs.at_limit c.args.sweep.now.bench.runs.now) c.args.sweep.now.bench.following c.args.sweep.now.parts.swept.now c.args.sweep.now.parts.second.now c.args.sweep.now.parts.behind.now c.args.opened.now _ c.in_ok-all.steps c.in_ok-all.ensures.steps (omega (arith, c.if-steps-gt-MOST_IN_ALL.true))

pub returns-in_err-all-clause-stopped : goal.returns-in_err-all-clause-stopped
returns-in_err-all-clause-stopped g c = passed (StopsTwice (g.R.Runs.is_seen c.args.sweep.now.bench.runs.now) (g.R.Runs.at_limit c.args.sweep.now.bench.runs.now) c.args.sweep.now.bench.following c.args.sweep.now.parts.swept.now c.args.sweep.now.parts.second.now c.args.sweep.now.parts.behind.now c.args.opened.now) (StopsTwice (g.R.Runs.is_seen c.args.sweep.now.bench.runs.now) (g.R.Runs.at_limit c.args.sweep.now.bench.runs.now) c.args.sweep.now.bench.following c.args.sweep.now.parts.swept.now c.args.sweep.now.parts.second.now c.args.sweep.now.parts.behind.now c.args.opened.now) c.from_residual.result c.in_err-all.field-0.0 c.from_residual.ensures.1 (λ h. h) c.in_err-all.ensures.stopped
