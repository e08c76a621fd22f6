use Rattle.std.proofs.Common.{◌≡◌, length}
use Rattle.std.specs.List.{All}
use Rattle.sweep_trials.specs.Rows.{IsRowAt, IsRowOf}
use Rattle.sweep_trials.proofs.Showing.{AreShown}
use Rattle.sweep_trials.proofs.swept.Swept.group.Given as goal

abbrev pub invariant-loop-place : goal.invariant-loop-place
invariant-loop-place g l = record {
  rows : All (IsRowOf (g.R.Runs.is_seen l.sweep.bench.runs.now) l.sweep.bench.following l.sweep.parts.swept.now l.opened l.self l.outcome) l.rows.items;
  shown : AreShown (IsRowAt (g.R.Runs.is_seen l.sweep.bench.runs.now) l.sweep.bench.following l.sweep.parts.swept.now l.opened l.self) l.ranges.items l.rows.items;
  count : length l.rows.items ≡ l.place;
}
