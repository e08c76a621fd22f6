use Rattle.std.proofs.Common.{◌≡◌, drop, length, map}
use Rattle.bench_script.specs.Orders as spec
use Rattle.bench_script.specs.Steps.{prepended}
use Rattle.bench_script.proofs.orders.numbers.Given as goal

abbrev pub invariant-loop-word : goal.invariant-loop-word
invariant-loop-word l = record {
  count : length l.numbers ≡ l.word-index;
  read : spec.numbers l.most (map (λ w. w.now) l.words) ≡ prepended l.numbers (spec.numbers l.most (map (λ w. w.now) (drop l.word-index l.words)));
}
