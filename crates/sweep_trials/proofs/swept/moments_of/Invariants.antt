use Rattle.std.proofs.Common.{◌≡◌}
use Rattle.sweep_trials.specs.Trials.{once_from}
use Rattle.sweep_trials.proofs.swept.moments_of.Given as goal

abbrev pub invariant-loop-place : goal.invariant-loop-place
invariant-loop-place l = l.all.items ≡ once_from l.first l.place
