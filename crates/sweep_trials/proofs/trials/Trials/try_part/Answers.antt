use Rattle.std.proofs.Common.{ap, arith, sym, ◌∙◌}
use Rattle.std.specs.Prelude.{vec_len}
use Rattle.sweep_trials.proofs.Stopping.{next_stops, passed, waits_last}
use Rattle.sweep_trials.specs.Stops.{StopsAt, StopsTrying, ends_waiting}
use Rattle.sweep_trials.proofs.Trying.{kept_further}
use Rattle.sweep_trials.proofs.trials.Trials.try_part.Goals as goal

pub loop-place-preserved : goal.loop-place-preserved
loop-place-preserved g c = let i = c.loop-place.invariant in record {
  each = c.in_ok-found.ensures.each _ i.place i.each;
  waits = sym (ap ends_waiting c.in_ok-found.ensures.pushed ∙ waits_last c.loop-place.all.items c.in_ok-found.found);
  place = omega (arith, i.place, c.in_ok-found.ensures.more);
  kept = kept_further _ _ _ i.kept c.in_ok-found.ensures.kept;
}

pub returns-then-are_passed-clause-each : goal.returns-then-are_passed-clause-each
returns-then-are_passed-clause-each g c = c.in_ok-found.ensures.each _ c.loop-place.invariant.place c.loop-place.invariant.each

pub returns-then-are_passed-clause-kept : goal.returns-then-are_passed-clause-kept
returns-then-are_passed-clause-kept g c = kept_further _ _ _ c.loop-place.invariant.kept c.in_ok-found.ensures.kept

pub returns-clause-few : goal.returns-clause-few
returns-clause-few g c = omega (arith, c.loop-place.invariant.place, c.loop-place.auto.place-end, c.count-place-end.ensures.is, c.requires.first)

pub returns-then-not-is_wanted-clause-whole : goal.returns-then-not-is_wanted-clause-whole
returns-then-not-is_wanted-clause-whole g c = λ none. omega (arith, c.loop-place.invariant.place, c.is_wanted.ensures.no c.if-not-is_wanted.true)

pub returns-in_err-found-clause-stopped : goal.returns-in_err-found-clause-stopped
returns-in_err-found-clause-stopped g c =
    let a = c.args in
    let l = c.loop-place in
    let i = l.invariant in
    passed (StopsAt (g.R.Runs.is_seen c.args.sweep.now.bench.runs.now) (g.R.Runs.at_limit c.args.sweep.now.bench.runs.now) c.args.sweep.now.bench.following a.placed.now a.sweep.now.parts.behind.now a.opened.now l.place) (StopsTrying (g.R.Runs.is_seen c.args.sweep.now.bench.runs.now) (g.R.Runs.at_limit c.args.sweep.now.bench.runs.now) c.args.sweep.now.bench.following c.args.placed.now c.args.sweep.now.parts.behind.now c.args.opened.now c.args.first c.args.end) c.from_residual.result c.in_err-found.field-0.0 c.from_residual.ensures.1
    (λ h. next_stops (g.R.Runs.is_seen c.args.sweep.now.bench.runs.now) (g.R.Runs.at_limit c.args.sweep.now.bench.runs.now) c.args.sweep.now.bench.following a.placed.now a.sweep.now.parts.behind.now a.opened.now l.self.outcomes.items a.first a.end l.place (vec_len l.all) l.all.items l.waits c.in_err-found.field-0.0 i.each l.all.ok.0 i.place i.waits (sym c.is_wanted.ensures.is ∙ c.if-not-is_wanted.false) h)
    c.in_err-found.ensures.stopped
