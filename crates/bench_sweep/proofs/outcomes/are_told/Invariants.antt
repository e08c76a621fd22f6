use Rattle.std.proofs.Common.{◌≡◌, drop}
use Rattle.bench_sweep.specs.Outcomes as spec
use Rattle.bench_sweep.proofs.outcomes.are_told.Given as goal

abbrev pub invariant-loop-place : goal.invariant-loop-place
invariant-loop-place l = spec.are_told l.told l.others ≡ spec.are_told (drop l.place l.told) (drop l.place l.others)
