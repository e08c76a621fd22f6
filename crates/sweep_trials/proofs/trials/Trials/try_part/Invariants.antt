use Rattle.std.proofs.Common.{◌≡◌, ◌+◌, vec_len}
use Rattle.sweep_trials.specs.Stops.{ends_waiting}
use Rattle.sweep_trials.specs.Trials.{AreKept, AreTried}
use Rattle.sweep_trials.proofs.trials.Trials.try_part.Given as goal

abbrev pub invariant-loop-place : goal.invariant-loop-place
invariant-loop-place g l = record {
  each : AreTried (g.R.Runs.is_seen l.sweep.bench.runs.now) l.sweep.bench.following l.placed l.sweep.parts.behind.now l.opened l.self.outcomes.items l.first l.all.items;
  waits : l.waits ≡ ends_waiting l.all.items;
  place : l.first + vec_len l.all ≡ l.place;
  kept : AreKept l.fn.self.outcomes.items l.self.outcomes.items;
}
