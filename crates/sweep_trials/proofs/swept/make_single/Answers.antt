use Rattle.std.proofs.Common.{◌-◌, arith}
use Rattle.std.specs.Prelude.{vec_len}
use Rattle.sweep_trials.proofs.Stopping.{if_ok, stopped_so}
use Rattle.sweep_trials.proofs.Trying.{none_differ}
use Rattle.sweep_trials.specs.Stops.{StopsOnce, StopsTrying}
use Rattle.sweep_trials.specs.Stops.StopsOnce.{InAll, Trying}
use Rattle.sweep_trials.specs.Trials.{part_end}
use Rattle.sweep_trials.proofs.swept.make_single.Goals as goal

pub sweep_places-requires-clause-differ : goal.sweep_places-requires-clause-differ
sweep_places-requires-clause-differ g c = none_differ _ c.new.ensures

pub sweep_places-requires-clause-few : goal.sweep_places-requires-clause-few
sweep_places-requires-clause-few g c = omega (arith, c.steps_of_all.ensures, c.if-steps_of_all-gt-MOST_IN_ALL.false)

pub returns-clause-few : goal.returns-clause-few
returns-clause-few g c = if_ok c.sweep_places.result (omega (arith, c.steps_of_all.ensures, c.if-steps_of_all-gt-MOST_IN_ALL.false))

pub returns-clause-stopped : goal.returns-clause-stopped
returns-clause-stopped g c =
    let w = c.args.wish in
    let o = c.args.opened.now in
    stopped_so (StopsTrying (g.R.Runs.is_seen c.args.sweep.now.bench.runs.now) (g.R.Runs.at_limit c.args.sweep.now.bench.runs.now) c.args.sweep.now.bench.following c.args.sweep.now.parts.swept.now c.args.sweep.now.parts.behind.now o (part_end (vec_len o.all) (w.part - 1) w.parts) (part_end (vec_len o.all) w.part w.parts)) (StopsOnce (g.R.Runs.is_seen c.args.sweep.now.bench.runs.now) (g.R.Runs.at_limit c.args.sweep.now.bench.runs.now) c.args.sweep.now.bench.following c.args.sweep.now.parts.swept.now c.args.sweep.now.parts.behind.now c.args.opened.now (part_end (vec_len c.args.opened.now.all) (c.args.wish.part - 1) c.args.wish.parts) (part_end (vec_len c.args.opened.now.all) c.args.wish.part c.args.wish.parts)) c.sweep_places.result (λ stop h. Trying stop (omega (arith, c.steps_of_all.ensures, c.if-steps_of_all-gt-MOST_IN_ALL.false)) h) c.sweep_places.ensures.stopped

pub returns-then-steps_of_all-gt-MOST_IN_ALL-clause-stopped : goal.returns-then-steps_of_all-gt-MOST_IN_ALL-clause-stopped
returns-then-steps_of_all-gt-MOST_IN_ALL-clause-stopped g c = InAll (omega (arith, c.steps_of_all.ensures, c.if-steps_of_all-gt-MOST_IN_ALL.true))
