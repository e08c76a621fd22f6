use Rattle.std.proofs.Common.{◌≡◌, map, take}
use Rattle.std.specs.List.{All}
use Rattle.bench_sweep.specs.Groups as spec
use Rattle.sweep_trials.specs.Rows.{AreRowsOf, IsRowOf}
use Rattle.sweep_trials.specs.Standings.{standing_of}
use Rattle.sweep_trials.proofs.summary.groups_of.Given as goal

abbrev pub invariant-loop-number : goal.invariant-loop-number
invariant-loop-number g l = record {
  outcomes : map (λ x. x.outcome) l.groups.items ≡ take l.number-index l.number-items;
  places : map (λ x. x.places) l.groups.items ≡ map (λ n. spec.count_with n l.swept.settled.items) (take l.number-index l.number-items);
  standings : All (λ x. x.standing ≡ standing_of l.swept x.outcome) l.groups.items;
  rows : All (λ x. All (IsRowOf (g.R.Runs.is_seen l.sweep.bench.runs.now) l.sweep.bench.following l.sweep.parts.swept.now l.opened l.swept x.outcome) x.rows.items) l.groups.items;
  ranges : All (λ x. AreRowsOf (g.R.Runs.is_seen l.sweep.bench.runs.now) l.sweep.bench.following l.sweep.parts.swept.now l.opened l.swept x.outcome l.most x.rows.items x.more) l.groups.items;
}
