use Rattle.std.proofs.Common.{◌≡◌, arith, subst, ℕ}
use Rattle.std.specs.Prelude.{vec_len}
use Rattle.sweep_trials.proofs.Numbering.{pair_first, pair_on, pair_seen}
use Rattle.sweep_trials.proofs.Stopping.{passed, stopped_so}
use Rattle.sweep_trials.specs.Shown.{IsPairAt}
use Rattle.sweep_trials.specs.Stops.{StopsAt, StopsInner, StopsPair}
use Rattle.sweep_trials.specs.Stops.StopsPair.{At, Inner, NoPlace}
use Rattle.sweep_trials.proofs.sweeping.Sweep.run_of_pair.Goals as goal

pub loop-first-init : goal.loop-first-init
loop-first-init g c = pair_first (g.R.Runs.is_seen c.args.self.now.bench.runs.now) c.args.self.now.bench.following c.args.self.now.parts.swept.now c.args.opened.now c.args.number

pub loop-first-preserved : goal.loop-first-preserved
loop-first-preserved g c = let l = c.loop-first in pair_on (g.R.Runs.is_seen c.args.self.now.bench.runs.now) c.args.self.now.bench.following c.args.self.now.parts.swept.now c.args.opened.now c.args.number l.first l.left c.count-count.result c.in_ok-inner.inner l.invariant c.in_ok-inner.ensures.opened c.count-count.ensures.is (omega (arith, c.if-left-count.false))

pub returns-then-left-count-clause-seen : goal.returns-then-left-count-clause-seen
returns-then-left-count-clause-seen g c =
    let s = c.args.self.now in
    let l = c.loop-first in
    pair_seen (g.R.Runs.is_seen c.args.self.now.bench.runs.now) c.args.self.now.bench.following s.parts.swept.now s.parts.second.now s.parts.behind.now c.args.opened.now c.in_ok-inner.inner c.args.number l.first l.left c.with.result (omega (arith, c.loop-first-test.true, c.count-first-end.ensures.is)) l.invariant c.in_ok-inner.ensures.opened (omega (arith, c.if-left-count.true, c.count-count.ensures.is)) c.with.ensures.seen

pub returns-then-left-count-clause-stopped : goal.returns-then-left-count-clause-stopped
returns-then-left-count-clause-stopped g c =
    let s = c.args.self.now in
    let l = c.loop-first in
    stopped_so (StopsAt (g.R.Runs.is_seen c.args.self.now.bench.runs.now) (g.R.Runs.at_limit c.args.self.now.bench.runs.now) c.args.self.now.bench.following s.parts.second.now s.parts.behind.now c.in_ok-inner.inner l.left) (StopsPair (g.R.Runs.is_seen c.args.self.now.bench.runs.now) (g.R.Runs.at_limit c.args.self.now.bench.runs.now) c.args.self.now.bench.following c.args.self.now.parts.swept.now c.args.self.now.parts.second.now c.args.self.now.parts.behind.now c.args.opened.now c.args.number) c.with.result (λ stop h. At l.first l.left c.in_ok-inner.inner stop l.invariant c.in_ok-inner.ensures.opened h) c.with.ensures.stopped

pub returns-in_err-inner-clause-stopped : goal.returns-in_err-inner-clause-stopped
returns-in_err-inner-clause-stopped g c =
    let s = c.args.self.now in
    let l = c.loop-first in
    passed (StopsInner (g.R.Runs.is_seen c.args.self.now.bench.runs.now) (g.R.Runs.at_limit c.args.self.now.bench.runs.now) c.args.self.now.bench.following s.parts.swept.now c.args.opened.now l.first) (StopsPair (g.R.Runs.is_seen c.args.self.now.bench.runs.now) (g.R.Runs.at_limit c.args.self.now.bench.runs.now) c.args.self.now.bench.following c.args.self.now.parts.swept.now c.args.self.now.parts.second.now c.args.self.now.parts.behind.now c.args.opened.now c.args.number) c.from_residual.result c.in_err-inner.field-0.0 c.from_residual.ensures.1 (λ h. Inner l.first l.left c.in_err-inner.field-0.0 l.invariant h) c.in_err-inner.ensures.stopped

pub returns-clause-stopped : goal.returns-clause-stopped
returns-clause-stopped g c =
    let s = c.args.self.now in
    let l = c.loop-first in
    let all : l.first ≡ vec_len c.args.opened.now.all = omega (arith, c.loop-first-test.false, c.loop-first.auto.first-end, c.count-first-end.ensures.is) in
    NoPlace l.left (subst (λ (n : ℕ). IsPairAt (g.R.Runs.is_seen c.args.self.now.bench.runs.now) c.args.self.now.bench.following s.parts.swept.now c.args.opened.now c.args.number n l.left) all l.invariant)
