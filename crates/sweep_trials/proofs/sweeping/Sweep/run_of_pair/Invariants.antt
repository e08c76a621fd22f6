use Rattle.sweep_trials.specs.Shown.{IsPairAt}
use Rattle.sweep_trials.proofs.sweeping.Sweep.run_of_pair.Given as goal

abbrev pub invariant-loop-first : goal.invariant-loop-first
invariant-loop-first g l = IsPairAt (g.R.Runs.is_seen l.self.bench.runs.now) l.self.bench.following l.self.parts.swept.now l.opened l.number l.first l.left
