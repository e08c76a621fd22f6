use Rattle.std.proofs.Common.{◌≡◌, drop, length, map}
use Rattle.bench_script.specs.Arguments as spec
use Rattle.bench_script.specs.Steps.{prepended}
use Rattle.bench_script.proofs.arguments.arguments.Given as goal

abbrev pub invariant-loop-place : goal.invariant-loop-place
invariant-loop-place l = record {
  count : length l.arguments ≡ l.place;
  read : spec.arguments l.kinds (map (λ w. w.now) l.words) ≡ prepended l.arguments (spec.arguments (drop l.place l.kinds) (map (λ w. w.now) (drop l.place l.words)));
}
