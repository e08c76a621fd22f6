use Rattle.sweep_trials.specs.Stops.{HaveSteps}
use Rattle.sweep_trials.proofs.swept.lengths_of_pairs.Given as goal

abbrev pub invariant-loop-first : goal.invariant-loop-first
invariant-loop-first g l = HaveSteps (g.R.Runs.is_seen l.sweep.bench.runs.now) l.sweep.bench.following l.sweep.parts.swept.now l.opened l.first l.steps
