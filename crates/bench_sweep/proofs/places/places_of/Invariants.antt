use Rattle.std.proofs.Common.{◌≡◌, ◌++◌}
use Rattle.bench_sweep.specs.Places as spec
use Rattle.bench_sweep.proofs.places.places_of.Given as goal

abbrev pub invariant-loop-made : goal.invariant-loop-made
invariant-loop-made l = l.all.items ≡ l.initial.all.items ++ spec.behind_steps l.directive l.made
