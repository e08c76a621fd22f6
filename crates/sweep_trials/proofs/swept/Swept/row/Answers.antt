use Rattle.std.proofs.Common.{refl}
use Rattle.sweep_trials.proofs.Stopping.{passed}
use Rattle.sweep_trials.specs.Stops.{StopsNaming}
use Rattle.sweep_trials.proofs.swept.Swept.row.Goals as goal

pub returns-clause-row : goal.returns-clause-row
returns-clause-row g c = record {
  first = c.in_ok-first.ensures.number;
  last = c.in_ok-last.ensures.number;
  first_name = c.in_ok-first.ensures.name;
  last_name = c.in_ok-last.ensures.name;
  wait = refl;
}

pub returns-in_err-first-clause-stopped : goal.returns-in_err-first-clause-stopped
returns-in_err-first-clause-stopped g c = passed (StopsNaming (g.R.Runs.is_seen c.args.sweep.now.bench.runs.now) (g.R.Runs.at_limit c.args.sweep.now.bench.runs.now) c.args.sweep.now.bench.following c.args.sweep.now.parts.swept.now c.args.opened.now c.args.self.now.moments.items) (StopsNaming (g.R.Runs.is_seen c.args.sweep.now.bench.runs.now) (g.R.Runs.at_limit c.args.sweep.now.bench.runs.now) c.args.sweep.now.bench.following c.args.sweep.now.parts.swept.now c.args.opened.now c.args.self.now.moments.items) c.from_residual.result c.in_err-first.field-0.0 c.from_residual.ensures.1 (λ h. h) c.in_err-first.ensures.stopped

pub returns-in_err-last-clause-stopped : goal.returns-in_err-last-clause-stopped
returns-in_err-last-clause-stopped g c = passed (StopsNaming (g.R.Runs.is_seen c.args.sweep.now.bench.runs.now) (g.R.Runs.at_limit c.args.sweep.now.bench.runs.now) c.args.sweep.now.bench.following c.args.sweep.now.parts.swept.now c.args.opened.now c.args.self.now.moments.items) (StopsNaming (g.R.Runs.is_seen c.args.sweep.now.bench.runs.now) (g.R.Runs.at_limit c.args.sweep.now.bench.runs.now) c.args.sweep.now.bench.following c.args.sweep.now.parts.swept.now c.args.opened.now c.args.self.now.moments.items) c.from_residual-in_err-last.result c.in_err-last.field-0.0 c.from_residual-in_err-last.ensures.1 (λ h. h) c.in_err-last.ensures.stopped
