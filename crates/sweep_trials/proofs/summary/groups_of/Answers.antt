use Rattle.std.proofs.Common.{◌≡◌, ◌∙◌, List, ℕ, map, take, ap, sym, arith}
use Rattle.std.specs.List.{All}
use Rattle.std.proofs.lemmas.List.{take_all}
use Rattle.bench_sweep.specs.Groups as spec
use Rattle.sweep_trials.specs.Rows.{AreRowsOf, IsRowOf}
use Rattle.sweep_trials.specs.Standings.{standing_of}
use Rattle.sweep_trials.specs.declared.summary.Group.{Group}
use Rattle.sweep_trials.proofs.Stopping.{no_memory, passed}
use Rattle.sweep_trials.specs.Stops.{StopsNaming}
use Rattle.sweep_trials.proofs.Summing.{all_places, each_more, outcomes_more, places_more}
use Rattle.sweep_trials.proofs.summary.groups_of.Goals as goal

pub loop-number-preserved : goal.loop-number-preserved
loop-number-preserved g c = let l = c.loop-number in record {
  outcomes = outcomes_more l.groups.items c.push.new.self.items c.in_ok-group.field-0 c.deref-number-items.result.now l.number-index c.loop-number-test.true c.in_ok-group.ensures.outcome c.in_ok-push.ensures.items l.invariant.outcomes;
  places = places_more l.groups.items c.push.new.self.items c.in_ok-group.field-0 c.deref-number-items.result.now l.number-index (λ n. spec.count_with n c.args.swept.now.settled.items) c.loop-number-test.true c.in_ok-group.ensures.places c.in_ok-push.ensures.items l.invariant.places;
  standings = each_more (λ (n : ℕ) (x : Group). x.standing ≡ standing_of c.args.swept.now n) l.groups.items c.push.new.self.items c.in_ok-group.field-0 _ c.in_ok-group.ensures.outcome c.in_ok-push.ensures.items c.in_ok-group.ensures.standing l.invariant.standings;
  rows = each_more (λ (n : ℕ) (x : Group). All (IsRowOf (g.R.Runs.is_seen c.args.sweep.now.bench.runs.now) c.args.sweep.now.bench.following c.args.sweep.now.parts.swept.now c.args.opened.now c.args.swept.now n) x.rows.items) l.groups.items c.push.new.self.items c.in_ok-group.field-0 _ c.in_ok-group.ensures.outcome c.in_ok-push.ensures.items c.in_ok-group.ensures.rows l.invariant.rows;
  ranges = each_more (λ (n : ℕ) (x : Group). AreRowsOf (g.R.Runs.is_seen c.args.sweep.now.bench.runs.now) c.args.sweep.now.bench.following c.args.sweep.now.parts.swept.now c.args.opened.now c.args.swept.now n c.args.most x.rows.items x.more) l.groups.items c.push.new.self.items c.in_ok-group.field-0 _ c.in_ok-group.ensures.outcome c.in_ok-push.ensures.items c.in_ok-group.ensures.ranges l.invariant.ranges;
}

pub returns : goal.returns
returns g c =
    let l = c.loop-number in
    let settled = c.args.swept.now.settled in
    let items = c.deref-number-items.result.now in
    let all : take l.number-index items ≡ spec.numbers_in settled.items = take_all l.number-index items (omega (arith, c.loop-number-test.false)) ∙ c.deref-number-items.ensures.value ∙ (rw c.deref.ensures.value at c.in_ok-numbers.ensures) in
    let places : map (λ x. x.places) l.groups.items ≡ map (λ n. spec.count_with n settled.items) (spec.numbers_in settled.items) = l.invariant.places ∙ ap (λ (ns : List ℕ). map (λ n. spec.count_with n settled.items) ns) all in
    record {
      outcomes = l.invariant.outcomes ∙ all;
      standings = l.invariant.standings;
      places = places;
      rows = l.invariant.rows;
      ranges = l.invariant.ranges;
      all = all_places l.groups.items settled.items places ∙ sym settled.ok.0;
      stopped = tt;
    }

pub returns-in_err-numbers-clause-stopped : goal.returns-in_err-numbers-clause-stopped
returns-in_err-numbers-clause-stopped g c = no_memory (StopsNaming (g.R.Runs.is_seen c.args.sweep.now.bench.runs.now) (g.R.Runs.at_limit c.args.sweep.now.bench.runs.now) c.args.sweep.now.bench.following c.args.sweep.now.parts.swept.now c.args.opened.now c.args.swept.now.moments.items) c.from_residual.result c.from_residual.ensures.1

pub returns-in_err-group-clause-stopped : goal.returns-in_err-group-clause-stopped
returns-in_err-group-clause-stopped g c = passed (StopsNaming (g.R.Runs.is_seen c.args.sweep.now.bench.runs.now) (g.R.Runs.at_limit c.args.sweep.now.bench.runs.now) c.args.sweep.now.bench.following c.args.sweep.now.parts.swept.now c.args.opened.now c.args.swept.now.moments.items) (StopsNaming (g.R.Runs.is_seen c.args.sweep.now.bench.runs.now) (g.R.Runs.at_limit c.args.sweep.now.bench.runs.now) c.args.sweep.now.bench.following c.args.sweep.now.parts.swept.now c.args.opened.now c.args.swept.now.moments.items) c.from_residual-in_err-group.result c.in_err-group.field-0.0 c.from_residual-in_err-group.ensures.1 (λ h. h) c.in_err-group.ensures.stopped

pub returns-in_err-push-clause-stopped : goal.returns-in_err-push-clause-stopped
returns-in_err-push-clause-stopped g c = no_memory (StopsNaming (g.R.Runs.is_seen c.args.sweep.now.bench.runs.now) (g.R.Runs.at_limit c.args.sweep.now.bench.runs.now) c.args.sweep.now.bench.following c.args.sweep.now.parts.swept.now c.args.opened.now c.args.swept.now.moments.items) c.from_residual-in_err-push.result c.from_residual-in_err-push.ensures.1
