use Rattle.std.proofs.Common.{◌≡◌, ℕ, arith, subst}
use Rattle.std.specs.Prelude.{vec_len}
use Rattle.sweep_trials.proofs.Stopping.{no_steps, passed, steps_more}
use Rattle.sweep_trials.specs.Stops.{HaveSteps, StopsInner, StopsTwice}
use Rattle.sweep_trials.specs.Stops.StopsTwice.{Inner}
use Rattle.sweep_trials.proofs.swept.lengths_of_pairs.Goals as goal

pub loop-first-init : goal.loop-first-init
loop-first-init g c = no_steps (g.R.Runs.is_seen c.args.sweep.now.bench.runs.now) c.args.sweep.now.bench.following c.args.sweep.now.parts.swept.now c.args.opened.now

pub loop-first-preserved : goal.loop-first-preserved
loop-first-preserved g c = let l = c.loop-first in steps_more (g.R.Runs.is_seen c.args.sweep.now.bench.runs.now) c.args.sweep.now.bench.following c.args.sweep.now.parts.swept.now c.args.opened.now c.in_ok-inner.inner l.first l.steps c.with_steps-steps.result l.invariant c.in_ok-inner.ensures.opened c.with_steps-steps.ensures

pub returns-clause-steps : goal.returns-clause-steps
returns-clause-steps g c =
    let l = c.loop-first in
    let all : l.first ≡ vec_len c.args.opened.now.all = omega (arith, c.loop-first-test.false, c.loop-first.auto.first-end, c.count-first-end.ensures.is) in
    subst (λ (n : ℕ). HaveSteps (g.R.Runs.is_seen c.args.sweep.now.bench.runs.now) c.args.sweep.now.bench.following c.args.sweep.now.parts.swept.now c.args.opened.now n l.steps) all l.invariant

pub returns-in_err-inner-clause-stopped : goal.returns-in_err-inner-clause-stopped
returns-in_err-inner-clause-stopped g c = passed (StopsInner (g.R.Runs.is_seen c.args.sweep.now.bench.runs.now) (g.R.Runs.at_limit c.args.sweep.now.bench.runs.now) c.args.sweep.now.bench.following c.args.sweep.now.parts.swept.now c.args.opened.now c.loop-first.first) (StopsTwice (g.R.Runs.is_seen c.args.sweep.now.bench.runs.now) (g.R.Runs.at_limit c.args.sweep.now.bench.runs.now) c.args.sweep.now.bench.following c.args.sweep.now.parts.swept.now c.args.sweep.now.parts.second.now c.args.sweep.now.parts.behind.now c.args.opened.now) c.from_residual.result c.in_err-inner.field-0.0 c.from_residual.ensures.1 (λ h. Inner c.loop-first.first c.in_err-inner.field-0.0 h) c.in_err-inner.ensures.stopped
