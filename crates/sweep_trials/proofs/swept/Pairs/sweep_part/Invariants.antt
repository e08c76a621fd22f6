use Rattle.std.proofs.Common.{◌≤◌}
use Rattle.std.specs.Prelude.{is_some}
use Rattle.sweep_trials.proofs.Pairing.{PairsSoFar}
use Rattle.sweep_trials.specs.Trials.{AreKept}
use Rattle.sweep_trials.proofs.swept.Pairs.sweep_part.Given as goal

abbrev pub invariant-loop-first : goal.invariant-loop-first
invariant-loop-first g l = record {
  so_far : PairsSoFar (g.R.Runs.is_seen l.sweep.bench.runs.now) l.sweep.bench.following l.sweep.parts.swept.now l.sweep.parts.second.now l.sweep.parts.behind.now l.opened l.trials.outcomes.items l.from (is_some l.stops) l.self.moments.items l.self.settled.items l.self.skipped l.number l.first;
  few : l.number ≤ 100000000;
  skipped : l.self.skipped ≤ l.number;
  kept : AreKept l.fn.trials.outcomes.items l.trials.outcomes.items;
}
