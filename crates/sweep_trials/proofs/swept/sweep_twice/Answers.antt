use Rattle.sweep_trials.proofs.Stopping.{passed}
use Rattle.sweep_trials.specs.Stops.{StopsTryingPairs, StopsTwice}
use Rattle.sweep_trials.specs.Stops.StopsTwice.{Trying}
use Rattle.sweep_trials.proofs.Pairing.{pair_on, swept_as}
use Rattle.sweep_trials.proofs.swept.sweep_twice.Goals as goal

pub returns-clause-swept : goal.returns-clause-swept
returns-clause-swept g c =
    let sweep = c.args.sweep.now in
    let part = c.in_ok-sweep_part in
    let ends = c.in_ok-ends in
    let pairs = rw (c.end_of-from.ensures.is, c.end_of-end.ensures.is, c.count-count.ensures.is, c.saturating_sub.ensures) at part.ensures.pairs in
    record {
      differ = part.ensures.kept.differ (ends.ensures.kept.differ c.requires);
      pairs = swept_as (g.R.Runs.is_seen sweep.bench.runs.now) sweep.bench.following sweep.parts.swept.now sweep.parts.second.now sweep.parts.behind.now c.args.opened.now _ _ _ c.stops_of-stops.result c.args.wish.first _ _ _ c.stops_of-stops.ensures pairs;
      before = pair_on (g.R.Runs.is_seen sweep.bench.runs.now) sweep.bench.following sweep.parts.swept.now sweep.parts.second.now sweep.parts.behind.now c.args.opened.now _ _ 0 (λ inner. 0) ends.ends.before part.ensures.kept ends.ensures.before;
      at_end = pair_on (g.R.Runs.is_seen sweep.bench.runs.now) sweep.bench.following sweep.parts.swept.now sweep.parts.second.now sweep.parts.behind.now c.args.opened.now _ _ _ _ ends.ends.behind part.ensures.kept ends.ensures.behind;
    }

pub returns-in_err-ends-clause-stopped : goal.returns-in_err-ends-clause-stopped
returns-in_err-ends-clause-stopped g c = λ few. passed (StopsTryingPairs (g.R.Runs.is_seen c.args.sweep.now.bench.runs.now) (g.R.Runs.at_limit c.args.sweep.now.bench.runs.now) c.args.sweep.now.bench.following c.args.sweep.now.parts.swept.now c.args.sweep.now.parts.second.now c.args.sweep.now.parts.behind.now c.args.opened.now) (StopsTwice (g.R.Runs.is_seen c.args.sweep.now.bench.runs.now) (g.R.Runs.at_limit c.args.sweep.now.bench.runs.now) c.args.sweep.now.bench.following c.args.sweep.now.parts.swept.now c.args.sweep.now.parts.second.now c.args.sweep.now.parts.behind.now c.args.opened.now) c.from_residual.result c.in_err-ends.field-0.0 c.from_residual.ensures.1 (λ h. Trying c.in_err-ends.field-0.0 few h) c.in_err-ends.ensures.stopped

pub returns-in_err-sweep_part-clause-stopped : goal.returns-in_err-sweep_part-clause-stopped
returns-in_err-sweep_part-clause-stopped g c = λ few. passed (StopsTwice (g.R.Runs.is_seen c.args.sweep.now.bench.runs.now) (g.R.Runs.at_limit c.args.sweep.now.bench.runs.now) c.args.sweep.now.bench.following c.args.sweep.now.parts.swept.now c.args.sweep.now.parts.second.now c.args.sweep.now.parts.behind.now c.args.opened.now) (StopsTwice (g.R.Runs.is_seen c.args.sweep.now.bench.runs.now) (g.R.Runs.at_limit c.args.sweep.now.bench.runs.now) c.args.sweep.now.bench.following c.args.sweep.now.parts.swept.now c.args.sweep.now.parts.second.now c.args.sweep.now.parts.behind.now c.args.opened.now) c.from_residual-in_err-sweep_part.result c.in_err-sweep_part.field-0.0 c.from_residual-in_err-sweep_part.ensures.1 (λ h. h) (c.in_err-sweep_part.ensures.stopped few)
