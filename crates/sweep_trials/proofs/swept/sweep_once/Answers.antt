use Rattle.std.proofs.Common.{◌≡◌, ◌-◌, ◌∙◌, take}
use Rattle.std.specs.Prelude.{vec_len}
use Rattle.bench_sweep.specs.Groups as spec
use Rattle.sweep_trials.proofs.Stopping.{no_memory, passed}
use Rattle.sweep_trials.specs.Stops.{StopsTrying}
use Rattle.sweep_trials.proofs.Trying.{at_on, told_length}
use Rattle.sweep_trials.proofs.swept.sweep_once.Goals as goal

pub returns-clause-swept : goal.returns-clause-swept
returns-clause-swept g c =
    let sweep = c.args.sweep.now in
    let tried = c.in_ok-tried in
    let settled = c.in_ok-settled.settled in
    let told : settled.items ≡ take (c.args.end - c.args.first) (spec.settled tried.tried.items) = rw (c.saturating_sub-most.ensures, c.deref.ensures.value) at c.in_ok-settled.ensures in
    record {
      differ = tried.ensures.kept.differ (c.in_ok-ends.ensures.kept.differ c.requires.differ);
      tried = tried.tried.items;
      each = tried.ensures.each;
      settled = told;
      moments = rw (c.saturating_sub-most.ensures, c.len.ensures) at c.in_ok-moments.ensures;
      all = λ e. settled.ok.0 ∙ told_length settled.items (c.args.end - c.args.first) (vec_len tried.tried) tried.tried.items told tried.tried.ok.0 (tried.ensures.whole (c.stops_of-stops.ensures e));
      before = at_on (g.R.Runs.is_seen sweep.bench.runs.now) sweep.bench.following sweep.parts.swept.now sweep.parts.behind.now c.args.opened.now _ _ 0 _ tried.ensures.kept c.in_ok-ends.ensures.before;
      at_end = at_on (g.R.Runs.is_seen sweep.bench.runs.now) sweep.bench.following sweep.parts.swept.now sweep.parts.behind.now c.args.opened.now _ _ _ _ tried.ensures.kept c.in_ok-ends.ensures.behind;
    }

pub returns-in_err-ends-clause-stopped : goal.returns-in_err-ends-clause-stopped
returns-in_err-ends-clause-stopped g c = passed (StopsTrying (g.R.Runs.is_seen c.args.sweep.now.bench.runs.now) (g.R.Runs.at_limit c.args.sweep.now.bench.runs.now) c.args.sweep.now.bench.following c.args.sweep.now.parts.swept.now c.args.sweep.now.parts.behind.now c.args.opened.now c.args.first c.args.end) (StopsTrying (g.R.Runs.is_seen c.args.sweep.now.bench.runs.now) (g.R.Runs.at_limit c.args.sweep.now.bench.runs.now) c.args.sweep.now.bench.following c.args.sweep.now.parts.swept.now c.args.sweep.now.parts.behind.now c.args.opened.now c.args.first c.args.end) c.from_residual.result c.in_err-ends.field-0.0 c.from_residual.ensures.1 (λ h. h) (c.in_err-ends.ensures.stopped c.args.first c.args.end)

pub returns-in_err-tried-clause-stopped : goal.returns-in_err-tried-clause-stopped
returns-in_err-tried-clause-stopped g c = passed (StopsTrying (g.R.Runs.is_seen c.args.sweep.now.bench.runs.now) (g.R.Runs.at_limit c.args.sweep.now.bench.runs.now) c.args.sweep.now.bench.following c.args.sweep.now.parts.swept.now c.args.sweep.now.parts.behind.now c.args.opened.now c.args.first c.args.end) (StopsTrying (g.R.Runs.is_seen c.args.sweep.now.bench.runs.now) (g.R.Runs.at_limit c.args.sweep.now.bench.runs.now) c.args.sweep.now.bench.following c.args.sweep.now.parts.swept.now c.args.sweep.now.parts.behind.now c.args.opened.now c.args.first c.args.end) c.from_residual-in_err-tried.result c.in_err-tried.field-0.0 c.from_residual-in_err-tried.ensures.1 (λ h. h) c.in_err-tried.ensures.stopped

pub returns-in_err-settled-clause-stopped : goal.returns-in_err-settled-clause-stopped
returns-in_err-settled-clause-stopped g c = no_memory (StopsTrying (g.R.Runs.is_seen c.args.sweep.now.bench.runs.now) (g.R.Runs.at_limit c.args.sweep.now.bench.runs.now) c.args.sweep.now.bench.following c.args.sweep.now.parts.swept.now c.args.sweep.now.parts.behind.now c.args.opened.now c.args.first c.args.end) c.from_residual-in_err-settled.result c.from_residual-in_err-settled.ensures.1

pub returns-in_err-moments-clause-stopped : goal.returns-in_err-moments-clause-stopped
returns-in_err-moments-clause-stopped g c = no_memory (StopsTrying (g.R.Runs.is_seen c.args.sweep.now.bench.runs.now) (g.R.Runs.at_limit c.args.sweep.now.bench.runs.now) c.args.sweep.now.bench.following c.args.sweep.now.parts.swept.now c.args.sweep.now.parts.behind.now c.args.opened.now c.args.first c.args.end) c.from_residual-in_err-moments.result c.from_residual-in_err-moments.ensures.1
