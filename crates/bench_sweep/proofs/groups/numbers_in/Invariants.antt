use Rattle.std.proofs.Common.{◌≡◌, drop}
use Rattle.bench_sweep.specs.Groups as spec
use Rattle.bench_sweep.proofs.groups.numbers_in.Given as goal

abbrev pub invariant-loop-found : goal.invariant-loop-found
invariant-loop-found l = spec.numbers_in l.settled ≡ spec.with_numbers l.numbers.items (drop l.found-index l.settled)
