use Rattle.sweep_trials.proofs.Stopping.{memory_so, passed}
use Rattle.sweep_trials.specs.Stops.{StopsAt}
use Rattle.sweep_trials.proofs.trials.Trials.try_at.Goals as goal

pub returns-clause-tried : goal.returns-clause-tried
returns-clause-tried g c = λ p h. record { found = c.in_ok-found.found; seen = c.in_ok-found.ensures.seen p h; tells = c.in_ok-outcome.ensures.tells }

pub returns-in_err-found-clause-stopped : goal.returns-in_err-found-clause-stopped
returns-in_err-found-clause-stopped g c = passed (StopsAt (g.R.Runs.is_seen c.args.sweep.now.bench.runs.now) (g.R.Runs.at_limit c.args.sweep.now.bench.runs.now) c.args.sweep.now.bench.following c.args.placed.now c.args.sweep.now.parts.behind.now c.args.opened.now c.args.place) (StopsAt (g.R.Runs.is_seen c.args.sweep.now.bench.runs.now) (g.R.Runs.at_limit c.args.sweep.now.bench.runs.now) c.args.sweep.now.bench.following c.args.placed.now c.args.sweep.now.parts.behind.now c.args.opened.now c.args.place) c.from_residual.result c.in_err-found.field-0.0 c.from_residual.ensures.1 (λ h. h) c.in_err-found.ensures.stopped

pub returns-in_err-outcome-clause-stopped : goal.returns-in_err-outcome-clause-stopped
returns-in_err-outcome-clause-stopped g c = memory_so (StopsAt (g.R.Runs.is_seen c.args.sweep.now.bench.runs.now) (g.R.Runs.at_limit c.args.sweep.now.bench.runs.now) c.args.sweep.now.bench.following c.args.placed.now c.args.sweep.now.parts.behind.now c.args.opened.now c.args.place) c.from_residual-in_err-outcome.result c.in_err-outcome.field-0.0 c.from_residual-in_err-outcome.ensures.1 c.in_err-outcome.ensures.memory
