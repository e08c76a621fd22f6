use Rattle.std.proofs.Common.{List, subst}
use Rattle.mcal_base.specs.declared.directive.Directive.{Directive}
use Rattle.bench_sweep.specs.Placed.{put_in}
use Rattle.bench_sweep.specs.Places.{places}
use Rattle.sweep_trials.proofs.Putting.{seen_at}
use Rattle.sweep_trials.proofs.Stopping.{no_memory, place_there, stopped_so}
use Rattle.sweep_trials.specs.Stops.{StopsAt, StopsRun}
use Rattle.sweep_trials.proofs.opened.Opened.with.Goals as goal

pub returns-clause-seen : goal.returns-clause-seen
returns-clause-seen g c =
    let s = c.args.self.now in
    seen_at (g.R.Runs.is_seen c.args.bench.now.runs.now) c.args.bench.now.following c.in_ok-start.start.items c.run_followed.result (places s.block.items s.steps.items) c.args.place (λ p. put_in s.before.items c.args.placed.now s.block.items c.args.behind.now s.steps.items p) c.in_ok-start.ensures c.run_followed.ensures.seen

pub returns-clause-stopped : goal.returns-clause-stopped
returns-clause-stopped g c =
    let p = place_there c.args.self.now c.args.place c.requires in
    stopped_so (StopsRun (g.R.Runs.is_seen c.args.bench.now.runs.now) (g.R.Runs.at_limit c.args.bench.now.runs.now) c.args.bench.now.following c.in_ok-start.start.items) (StopsAt (g.R.Runs.is_seen c.args.bench.now.runs.now) (g.R.Runs.at_limit c.args.bench.now.runs.now) c.args.bench.now.following c.args.placed.now c.args.behind.now c.args.self.now c.args.place) c.run_followed.result
    (λ stop h. record { place = p.0; is = p.1; stops = subst (λ (ds : List Directive). StopsRun (g.R.Runs.is_seen c.args.bench.now.runs.now) (g.R.Runs.at_limit c.args.bench.now.runs.now) c.args.bench.now.following ds stop) (c.in_ok-start.ensures p.0 p.1) h }) c.run_followed.ensures.stopped

pub returns-in_err-start-clause-stopped : goal.returns-in_err-start-clause-stopped
returns-in_err-start-clause-stopped g c = no_memory (StopsAt (g.R.Runs.is_seen c.args.bench.now.runs.now) (g.R.Runs.at_limit c.args.bench.now.runs.now) c.args.bench.now.following c.args.placed.now c.args.behind.now c.args.self.now c.args.place) c.from_residual.result c.from_residual.ensures.1
