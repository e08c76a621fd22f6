use Rattle.std.proofs.Common.{◌≡◌, ℕ, List, ap, arith, length, subst}
use Rattle.std.proofs.lemmas.Grind.{common_steps}
use Rattle.mcal_base.specs.declared.directive.Directive.{Directive}
use Rattle.sweep_trials.proofs.Grown.{grows_more}
use Rattle.sweep_trials.proofs.Stopping.{no_memory, passed}
use Rattle.sweep_trials.proofs.Walking.{unfollowed_named, unfollowed_same}
use Rattle.sweep_trials.specs.Grown.{AreGrown}
use Rattle.sweep_trials.specs.Grown.AreGrown.{Same}
use Rattle.sweep_trials.specs.Stops.StopsRun.{Limit, Long, Notices}
use Rattle.sweep_trials.specs.Stops.{StopsRun}
use Rattle.sweep_trials.proofs.followed.run_followed.Goals as goal

pub loop-put-init : goal.loop-put-init
loop-put-init g c = Same

pub put_call-requires-clause-same : goal.put_call-requires-clause-same
put_call-requires-clause-same g c =
    let found = c.in-Some.found in
    let u = rw (c.in-Some.is, c.deref-in-loop-put-2.ensures.value, c.deref-in-loop-put-3.ensures.value) at c.in_ok-found.ensures in
    omega (arith, found.steps.ok.0, unfollowed_same c.args.bench.now.following c.loop-put.directives.items c.in_ok-seen.seen.steps.items found.directive found.made found.reaction found.steps.items u, ap (λ (ds : List Directive). length ds) c.deref-in-loop-put-4.ensures.value)

pub put_call-requires-clause-reaction : goal.put_call-requires-clause-reaction
put_call-requires-clause-reaction g c =
    let found = c.in-Some.found in
    let u = rw (c.in-Some.is, c.deref-in-loop-put-2.ensures.value, c.deref-in-loop-put-3.ensures.value) at c.in_ok-found.ensures in
    unfollowed_named c.args.bench.now.following c.loop-put.directives.items c.in_ok-seen.seen.steps.items found.directive found.made found.reaction found.steps.items u

pub loop-put-preserved : goal.loop-put-preserved
loop-put-preserved g c =
    let found = c.in-Some.found in
    let u = rw (c.in-Some.is, c.deref-in-loop-put-2.ensures.value, c.deref-in-loop-put-3.ensures.value) at c.in_ok-found.ensures in
    grows_more (g.R.Runs.is_seen c.args.bench.now.runs.now) c.args.bench.now.following c.args.start.items c.loop-put.directives.items c.in_ok-next.next.items c.in_ok-seen.seen c.loop-put.put found.directive found.made found.reaction found.steps.items (rw (c.deref-in-loop-put.ensures.value, c.in_ok-flat.ensures.script, c.deref.ensures.value) at c.in_ok-seen.ensures.seen) u (rw c.deref-in-loop-put-4.ensures.value at c.in_ok-next.ensures) c.loop-put.invariant

pub returns-in_default-clause-seen : goal.returns-in_default-clause-seen
returns-in_default-clause-seen g c = record {
  put = c.loop-put.put;
  few = omega (arith, c.loop-put-test.true);
  grown = c.loop-put.invariant;
  script = grind (arith, common_steps);
  lines = grind (arith, common_steps);
  run = rw c.deref-in-loop-put.ensures.value at c.in_ok-seen.ensures.seen;
  followed = rw (c.in_default.is, c.deref-in-loop-put-2.ensures.value, c.deref-in-loop-put-3.ensures.value) at c.in_ok-found.ensures;
}

pub returns-in_default-clause-named : goal.returns-in_default-clause-named
returns-in_default-clause-named g c = c.in_ok-seen.ensures.named

-- ---- why it stops

pub returns-then-len-gt-MOST_DIRECTIVES-clause-stopped : goal.returns-then-len-gt-MOST_DIRECTIVES-clause-stopped
returns-then-len-gt-MOST_DIRECTIVES-clause-stopped g c = Long c.loop-put.put c.loop-put.directives.items c.loop-put.invariant (omega (arith, c.loop-put-test.true)) (omega (arith, c.if-len-gt-MOST_DIRECTIVES.true, c.len.ensures, c.loop-put.directives.ok.0))

pub returns-in_err-flat-clause-stopped : goal.returns-in_err-flat-clause-stopped
returns-in_err-flat-clause-stopped g c = no_memory (StopsRun (g.R.Runs.is_seen c.args.bench.now.runs.now) (g.R.Runs.at_limit c.args.bench.now.runs.now) c.args.bench.now.following c.args.start.items) c.from_residual.result c.from_residual.ensures.1

pub returns-in_err-seen-clause-stopped : goal.returns-in_err-seen-clause-stopped
returns-in_err-seen-clause-stopped g c =
    passed (g.R.Runs.at_limit c.args.bench.now.runs.now c.in_ok-flat.flat.script.items) (StopsRun (g.R.Runs.is_seen c.args.bench.now.runs.now) (g.R.Runs.at_limit c.args.bench.now.runs.now) c.args.bench.now.following c.args.start.items) c.from_residual-in_err-seen.result c.in_err-seen.field-0.0 c.from_residual-in_err-seen.ensures.1
    (λ h. Limit c.loop-put.put c.loop-put.directives.items c.in_err-seen.field-0.0 c.loop-put.invariant (omega (arith, c.loop-put-test.true)) (omega (arith, c.if-len-gt-MOST_DIRECTIVES.false, c.len.ensures, c.loop-put.directives.ok.0)) (rw (c.in_ok-flat.ensures.script, c.deref.ensures.value) at h))
    (rw c.deref-in-loop-put.ensures.value at c.in_err-seen.ensures.stopped)

pub returns-in_err-found-clause-stopped : goal.returns-in_err-found-clause-stopped
returns-in_err-found-clause-stopped g c = no_memory (StopsRun (g.R.Runs.is_seen c.args.bench.now.runs.now) (g.R.Runs.at_limit c.args.bench.now.runs.now) c.args.bench.now.following c.args.start.items) c.from_residual-in_err-found.result c.from_residual-in_err-found.ensures.1

pub returns-in_err-next-clause-stopped : goal.returns-in_err-next-clause-stopped
returns-in_err-next-clause-stopped g c = no_memory (StopsRun (g.R.Runs.is_seen c.args.bench.now.runs.now) (g.R.Runs.at_limit c.args.bench.now.runs.now) c.args.bench.now.following c.args.start.items) c.from_residual-in_err-next.result c.from_residual-in_err-next.ensures.1

pub returns-clause-stopped : goal.returns-clause-stopped
returns-clause-stopped g c =
    let all : c.loop-put.put ≡ 1001 = omega (arith, c.loop-put-test.false, c.loop-put.auto.put-end) in
    Notices c.loop-put.directives.items (subst (λ (n : ℕ). AreGrown (g.R.Runs.is_seen c.args.bench.now.runs.now) c.args.bench.now.following c.args.start.items n c.loop-put.directives.items) all c.loop-put.invariant)
