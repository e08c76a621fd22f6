use Rattle.std.proofs.Common.{◌≡◌, map}
use Rattle.std.specs.List.{range_with_len}
use Rattle.bench_generator.specs.Generated.{directive_of}
use Rattle.bench_generator.proofs.writing.directives.Given as goal

abbrev pub invariant-loop-before : goal.invariant-loop-before
invariant-loop-before l = l.script.items ≡ map (directive_of l.seed) (range_with_len 1 l.before)
