use Rattle.std.proofs.Common.{◌≡◌, length}
use Rattle.bench_sweep.specs.Lines as spec
use Rattle.bench_sweep.proofs.lines.from_first_word.Given as goal

abbrev pub invariant-loop-rest : goal.invariant-loop-rest
invariant-loop-rest l = spec.from_first_word l.text ≡ spec.from_first_word l.rest

abbrev pub decreases-loop-rest : goal.decreases-loop-rest
decreases-loop-rest l = length l.rest
