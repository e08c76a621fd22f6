use Rattle.std.proofs.Common.{◌≡◌, length}
use Rattle.std.specs.Prelude.{reverse}
use Rattle.bench_sweep.specs.Lines as spec
use Rattle.bench_sweep.proofs.lines.up_to_last_word.Given as goal

abbrev pub invariant-loop-front : goal.invariant-loop-front
invariant-loop-front l = spec.from_first_word (reverse l.text) ≡ spec.from_first_word (reverse l.front)

abbrev pub decreases-loop-front : goal.decreases-loop-front
decreases-loop-front l = length l.front
