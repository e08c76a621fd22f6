use Rattle.std.specs.Prelude.{◌-◌, vec_len}
use Rattle.sweep_trials.proofs.Stopping.{passed}
use Rattle.sweep_trials.specs.Stops.{StopsAt, StopsTrying}
use Rattle.sweep_trials.specs.Stops.IsToTry.{First, Last}
use Rattle.sweep_trials.proofs.Trying.{at_on, kept_further}
use Rattle.sweep_trials.proofs.trials.Trials.try_ends.Goals as goal

pub returns-clause-before : goal.returns-clause-before
returns-clause-before g c =
    let sweep = c.args.sweep.now in
    at_on (g.R.Runs.is_seen sweep.bench.runs.now) sweep.bench.following sweep.parts.swept.now sweep.parts.behind.now c.args.opened.now _ _ 0 c.in_ok-before.before.outcome c.in_ok-behind.ensures.kept c.in_ok-before.ensures.tried

pub returns-clause-behind : goal.returns-clause-behind
returns-clause-behind g c = rw c.count-count.ensures.is at c.in_ok-behind.ensures.tried

pub returns-clause-kept : goal.returns-clause-kept
returns-clause-kept g c = kept_further _ _ _ c.in_ok-before.ensures.kept c.in_ok-behind.ensures.kept

pub returns-in_err-before-clause-stopped : goal.returns-in_err-before-clause-stopped
returns-in_err-before-clause-stopped g c = λ from until. passed (StopsAt (g.R.Runs.is_seen c.args.sweep.now.bench.runs.now) (g.R.Runs.at_limit c.args.sweep.now.bench.runs.now) c.args.sweep.now.bench.following c.args.sweep.now.parts.swept.now c.args.sweep.now.parts.behind.now c.args.opened.now 0) (StopsTrying (g.R.Runs.is_seen c.args.sweep.now.bench.runs.now) (g.R.Runs.at_limit c.args.sweep.now.bench.runs.now) c.args.sweep.now.bench.following c.args.sweep.now.parts.swept.now c.args.sweep.now.parts.behind.now c.args.opened.now from until) c.from_residual.result c.in_err-before.field-0.0 c.from_residual.ensures.1 (λ h. record { number = 0; try = First; stops = h }) c.in_err-before.ensures.stopped

pub returns-in_err-behind-clause-stopped : goal.returns-in_err-behind-clause-stopped
returns-in_err-behind-clause-stopped g c = λ from until. passed (StopsAt (g.R.Runs.is_seen c.args.sweep.now.bench.runs.now) (g.R.Runs.at_limit c.args.sweep.now.bench.runs.now) c.args.sweep.now.bench.following c.args.sweep.now.parts.swept.now c.args.sweep.now.parts.behind.now c.args.opened.now (vec_len c.args.opened.now.all - 1)) (StopsTrying (g.R.Runs.is_seen c.args.sweep.now.bench.runs.now) (g.R.Runs.at_limit c.args.sweep.now.bench.runs.now) c.args.sweep.now.bench.following c.args.sweep.now.parts.swept.now c.args.sweep.now.parts.behind.now c.args.opened.now from until) c.from_residual-in_err-behind.result c.in_err-behind.field-0.0 c.from_residual-in_err-behind.ensures.1 (λ h. record { number = vec_len c.args.opened.now.all - 1; try = Last; stops = h }) (rw c.count-count.ensures.is at c.in_err-behind.ensures.stopped)
