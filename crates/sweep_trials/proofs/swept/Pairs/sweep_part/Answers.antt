use Rattle.std.proofs.Common.{arith, rules}
use Rattle.std.specs.Prelude.{is_some, vec_len}
use Rattle.sweep_trials.proofs.Pairing.{all_so_far, few_waiting, none_by, none_so_far, one_more, too_many_pairs}
use Rattle.sweep_trials.proofs.Stopping.{memory_so, passed}
use Rattle.sweep_trials.specs.Stops.{StopsInner, StopsTrying, StopsTwice}
use Rattle.sweep_trials.specs.Stops.StopsTryingPairs.{At}
use Rattle.sweep_trials.specs.Stops.StopsTwice.{Inner, Trying}
use Rattle.sweep_trials.proofs.Trying.{kept_further, kept_same}
use Rattle.sweep_trials.proofs.swept.Pairs.sweep_part.Goals as goal

pub loop-first-init : goal.loop-first-init
loop-first-init g c = let sweep = c.args.sweep.now in record {
  so_far = none_so_far (g.R.Runs.is_seen sweep.bench.runs.now) sweep.bench.following sweep.parts.swept.now sweep.parts.second.now sweep.parts.behind.now c.args.opened.now _ c.args.part.0 (is_some c.args.stops) _ _ _ c.requires.moments c.requires.settled c.requires.skipped;
  few = omega arith;
  skipped = omega (arith, c.requires.skipped);
  kept = kept_same _;
}

pub loop-first-preserved : goal.loop-first-preserved
loop-first-preserved g c =
    let sweep = c.args.sweep.now in
    let l = c.loop-first in
    let tried = c.in_ok-tried in
    record {
      so_far = one_more (g.R.Runs.is_seen sweep.bench.runs.now) sweep.bench.following sweep.parts.swept.now sweep.parts.second.now sweep.parts.behind.now c.args.opened.now _ _ c.args.part.0 (is_some c.args.stops) _ _ _ _ _ _ l.number l.first c.count-count.result c.in_ok-inner.inner tried.tried.items l.invariant.so_far tried.ensures.kept c.in_ok-inner.ensures.opened tried.ensures.each tried.ensures.ahead (λ b s. omega (arith, tried.ensures.few, tried.ensures.whole b (none_by _ s), tried.tried.ok.0)) c.count-count.ensures.is (rw c.deref.ensures.value at c.in_ok-keep_all.ensures.moments) (rw c.deref.ensures.value at c.in_ok-keep_all.ensures.settled) (rw c.deref.ensures.value at c.in_ok-keep_all.ensures.skipped);
      few = search rules;
      skipped = omega (arith, l.invariant.skipped, rw c.deref.ensures.value at c.in_ok-keep_all.ensures.skipped, few_waiting tried.tried.items, tried.ensures.few, tried.tried.ok.0, c.count-count.ensures.is);
      kept = kept_further _ _ _ l.invariant.kept tried.ensures.kept;
    }

pub returns-then-are_passed_by-clause-pairs : goal.returns-then-are_passed_by-clause-pairs
returns-then-are_passed_by-clause-pairs g c =
    let sweep = c.args.sweep.now in
    let l = c.loop-first in
    let tried = c.in_ok-tried in
    let more = one_more (g.R.Runs.is_seen sweep.bench.runs.now) sweep.bench.following sweep.parts.swept.now sweep.parts.second.now sweep.parts.behind.now c.args.opened.now _ _ c.args.part.0 (is_some c.args.stops) _ _ _ _ _ _ l.number l.first c.count-count.result c.in_ok-inner.inner tried.tried.items l.invariant.so_far tried.ensures.kept c.in_ok-inner.ensures.opened tried.ensures.each tried.ensures.ahead (λ b s. omega (arith, tried.ensures.few, tried.ensures.whole b (none_by _ s), tried.tried.ok.0)) c.count-count.ensures.is (rw c.deref.ensures.value at c.in_ok-keep_all.ensures.moments) (rw c.deref.ensures.value at c.in_ok-keep_all.ensures.settled) (rw c.deref.ensures.value at c.in_ok-keep_all.ensures.skipped) in
    all_so_far (g.R.Runs.is_seen sweep.bench.runs.now) sweep.bench.following sweep.parts.swept.now sweep.parts.second.now sweep.parts.behind.now c.args.opened.now _ c.args.part.0 c.args.part.1 (is_some c.args.stops) _ _ _ _ _ more (λ s. let never = c.are_passed_by.ensures (none_by _ s) in absurd (cc))

pub returns-then-are_passed_by-clause-kept : goal.returns-then-are_passed_by-clause-kept
returns-then-are_passed_by-clause-kept g c = kept_further _ _ _ c.loop-first.invariant.kept c.in_ok-tried.ensures.kept

pub returns-clause-pairs : goal.returns-clause-pairs
returns-clause-pairs g c =
    let sweep = c.args.sweep.now in
    all_so_far (g.R.Runs.is_seen sweep.bench.runs.now) sweep.bench.following sweep.parts.swept.now sweep.parts.second.now sweep.parts.behind.now c.args.opened.now _ c.args.part.0 c.args.part.1 (is_some c.args.stops) _ _ _ _ _ c.loop-first.invariant.so_far (λ s. omega (arith, c.loop-first-test.false, c.loop-first.auto.first-end))

-- ---- why it stops

pub returns-in_err-inner-clause-stopped : goal.returns-in_err-inner-clause-stopped
returns-in_err-inner-clause-stopped g c = λ few. passed (StopsInner (g.R.Runs.is_seen c.args.sweep.now.bench.runs.now) (g.R.Runs.at_limit c.args.sweep.now.bench.runs.now) c.args.sweep.now.bench.following c.args.sweep.now.parts.swept.now c.args.opened.now c.loop-first.first) (StopsTwice (g.R.Runs.is_seen c.args.sweep.now.bench.runs.now) (g.R.Runs.at_limit c.args.sweep.now.bench.runs.now) c.args.sweep.now.bench.following c.args.sweep.now.parts.swept.now c.args.sweep.now.parts.second.now c.args.sweep.now.parts.behind.now c.args.opened.now) c.from_residual.result c.in_err-inner.field-0.0 c.from_residual.ensures.1 (λ h. Inner c.loop-first.first c.in_err-inner.field-0.0 h) c.in_err-inner.ensures.stopped

pub returns-then-count-number-clause-stopped : goal.returns-then-count-number-clause-stopped
returns-then-count-number-clause-stopped g c = λ few.
    let sweep = c.args.sweep.now in
    let l = c.loop-first in
    too_many_pairs (g.R.Runs.is_seen c.args.sweep.now.bench.runs.now) (g.R.Runs.at_limit c.args.sweep.now.bench.runs.now) c.args.sweep.now.bench.following sweep.parts.swept.now sweep.parts.second.now sweep.parts.behind.now c.args.opened.now _ c.args.part.0 (is_some c.args.stops) _ _ _ l.number l.first c.count-count.result c.in_ok-inner.inner l.invariant.so_far c.in_ok-inner.ensures.opened c.count-count.ensures.is l.invariant.few (omega (arith, c.if-count-number.true, l.invariant.few))

pub returns-in_err-tried-clause-stopped : goal.returns-in_err-tried-clause-stopped
returns-in_err-tried-clause-stopped g c = λ few.
    let sweep = c.args.sweep.now in
    let inner = c.in_ok-inner.inner in
    passed (StopsTrying (g.R.Runs.is_seen c.args.sweep.now.bench.runs.now) (g.R.Runs.at_limit c.args.sweep.now.bench.runs.now) c.args.sweep.now.bench.following sweep.parts.second.now sweep.parts.behind.now inner 0 (vec_len inner.all)) (StopsTwice (g.R.Runs.is_seen c.args.sweep.now.bench.runs.now) (g.R.Runs.at_limit c.args.sweep.now.bench.runs.now) c.args.sweep.now.bench.following c.args.sweep.now.parts.swept.now c.args.sweep.now.parts.second.now c.args.sweep.now.parts.behind.now c.args.opened.now) c.from_residual-in_err-tried.result c.in_err-tried.field-0.0 c.from_residual-in_err-tried.ensures.1 (λ h. Trying c.in_err-tried.field-0.0 few (At c.loop-first.first inner c.in_ok-inner.ensures.opened h)) c.in_err-tried.ensures.stopped

pub returns-in_err-keep_all-clause-stopped : goal.returns-in_err-keep_all-clause-stopped
returns-in_err-keep_all-clause-stopped g c = λ few. memory_so (StopsTwice (g.R.Runs.is_seen c.args.sweep.now.bench.runs.now) (g.R.Runs.at_limit c.args.sweep.now.bench.runs.now) c.args.sweep.now.bench.following c.args.sweep.now.parts.swept.now c.args.sweep.now.parts.second.now c.args.sweep.now.parts.behind.now c.args.opened.now) c.from_residual-in_err-keep_all.result c.in_err-keep_all.field-0.0 c.from_residual-in_err-keep_all.ensures.1 c.in_err-keep_all.ensures.memory
