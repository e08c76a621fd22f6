use Rattle.std.proofs.Common.{◌≡◌, ◌++◌, drop}
use Rattle.bench_sweep.specs.Places as spec
use Rattle.bench_sweep.proofs.places.places_in.Given as goal

abbrev pub invariant-loop-number : goal.invariant-loop-number
invariant-loop-number l = spec.places l.block l.steps ≡ l.all.items ++ spec.places_from l.number (drop l.number l.block) (drop l.number l.steps)
