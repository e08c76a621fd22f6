use Rattle.sweep_trials.proofs.Pairing.{pair_on}
use Rattle.std.specs.Prelude.{◌-◌, vec_len}
use Rattle.sweep_trials.proofs.Stopping.{passed}
use Rattle.sweep_trials.specs.Stops.{StopsAt, StopsInner, StopsTryingPairs}
use Rattle.sweep_trials.specs.Stops.IsToTry.{First, Last}
use Rattle.sweep_trials.specs.Stops.StopsTryingPairs.{At, Inner}
use Rattle.sweep_trials.proofs.Trying.{kept_further}
use Rattle.sweep_trials.proofs.trials.Trials.try_end_pairs.Goals as goal

pub returns-clause-before : goal.returns-clause-before
returns-clause-before g c =
    let sweep = c.args.sweep.now in
    pair_on (g.R.Runs.is_seen sweep.bench.runs.now) sweep.bench.following sweep.parts.swept.now sweep.parts.second.now sweep.parts.behind.now c.args.opened.now _ _ 0 (λ inner. 0) c.in_ok-before.before.outcome c.in_ok-behind.ensures.kept
    (record { inner = c.in_ok-first.first; opened = c.in_ok-first.ensures.opened; tried = c.in_ok-before.ensures.tried })

pub returns-clause-behind : goal.returns-clause-behind
returns-clause-behind g c = record {
  inner = c.in_ok-last.last;
  opened = rw c.count.ensures.is at c.in_ok-last.ensures.opened;
  tried = rw c.count-2.ensures.is at c.in_ok-behind.ensures.tried;
}

pub returns-clause-kept : goal.returns-clause-kept
returns-clause-kept g c = kept_further _ _ _ c.in_ok-before.ensures.kept c.in_ok-behind.ensures.kept

pub returns-in_err-first-clause-stopped : goal.returns-in_err-first-clause-stopped
returns-in_err-first-clause-stopped g c = passed (StopsInner (g.R.Runs.is_seen c.args.sweep.now.bench.runs.now) (g.R.Runs.at_limit c.args.sweep.now.bench.runs.now) c.args.sweep.now.bench.following c.args.sweep.now.parts.swept.now c.args.opened.now 0) (StopsTryingPairs (g.R.Runs.is_seen c.args.sweep.now.bench.runs.now) (g.R.Runs.at_limit c.args.sweep.now.bench.runs.now) c.args.sweep.now.bench.following c.args.sweep.now.parts.swept.now c.args.sweep.now.parts.second.now c.args.sweep.now.parts.behind.now c.args.opened.now) c.from_residual.result c.in_err-first.field-0.0 c.from_residual.ensures.1 (λ h. Inner 0 h) c.in_err-first.ensures.stopped

pub returns-in_err-before-clause-stopped : goal.returns-in_err-before-clause-stopped
returns-in_err-before-clause-stopped g c = passed (StopsAt (g.R.Runs.is_seen c.args.sweep.now.bench.runs.now) (g.R.Runs.at_limit c.args.sweep.now.bench.runs.now) c.args.sweep.now.bench.following c.args.sweep.now.parts.second.now c.args.sweep.now.parts.behind.now c.in_ok-first.first 0) (StopsTryingPairs (g.R.Runs.is_seen c.args.sweep.now.bench.runs.now) (g.R.Runs.at_limit c.args.sweep.now.bench.runs.now) c.args.sweep.now.bench.following c.args.sweep.now.parts.swept.now c.args.sweep.now.parts.second.now c.args.sweep.now.parts.behind.now c.args.opened.now) c.from_residual-in_err-before.result c.in_err-before.field-0.0 c.from_residual-in_err-before.ensures.1 (λ h. At 0 c.in_ok-first.first c.in_ok-first.ensures.opened (record { number = 0; try = First; stops = h })) c.in_err-before.ensures.stopped

pub returns-in_err-last-clause-stopped : goal.returns-in_err-last-clause-stopped
returns-in_err-last-clause-stopped g c = passed (StopsInner (g.R.Runs.is_seen c.args.sweep.now.bench.runs.now) (g.R.Runs.at_limit c.args.sweep.now.bench.runs.now) c.args.sweep.now.bench.following c.args.sweep.now.parts.swept.now c.args.opened.now (vec_len c.args.opened.now.all - 1)) (StopsTryingPairs (g.R.Runs.is_seen c.args.sweep.now.bench.runs.now) (g.R.Runs.at_limit c.args.sweep.now.bench.runs.now) c.args.sweep.now.bench.following c.args.sweep.now.parts.swept.now c.args.sweep.now.parts.second.now c.args.sweep.now.parts.behind.now c.args.opened.now) c.from_residual-in_err-last.result c.in_err-last.field-0.0 c.from_residual-in_err-last.ensures.1 (λ h. Inner (vec_len c.args.opened.now.all - 1) h) (rw c.count.ensures.is at c.in_err-last.ensures.stopped)

pub returns-in_err-behind-clause-stopped : goal.returns-in_err-behind-clause-stopped
returns-in_err-behind-clause-stopped g c =
    let last = c.in_ok-last.last in
    passed (StopsAt (g.R.Runs.is_seen c.args.sweep.now.bench.runs.now) (g.R.Runs.at_limit c.args.sweep.now.bench.runs.now) c.args.sweep.now.bench.following c.args.sweep.now.parts.second.now c.args.sweep.now.parts.behind.now last (vec_len last.all - 1)) (StopsTryingPairs (g.R.Runs.is_seen c.args.sweep.now.bench.runs.now) (g.R.Runs.at_limit c.args.sweep.now.bench.runs.now) c.args.sweep.now.bench.following c.args.sweep.now.parts.swept.now c.args.sweep.now.parts.second.now c.args.sweep.now.parts.behind.now c.args.opened.now) c.from_residual-in_err-behind.result c.in_err-behind.field-0.0 c.from_residual-in_err-behind.ensures.1 (λ h. At (vec_len c.args.opened.now.all - 1) last (rw c.count.ensures.is at c.in_ok-last.ensures.opened) (record { number = vec_len last.all - 1; try = Last; stops = h })) (rw c.count-2.ensures.is at c.in_err-behind.ensures.stopped)
