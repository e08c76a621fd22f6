use Rattle.std.proofs.Common.{◌≡◌, ◌++◌, drop, map}
use Rattle.std.specs.Prelude.{option_map}
use Rattle.trace_reader.specs.Guess.{each}
use Rattle.trace_reader.specs.Guess.{value}
use Rattle.trace_reader.proofs.lists.values.Given as goal

abbrev pub invariant-loop-word : goal.invariant-loop-word
invariant-loop-word l = each value (map (λ w. w.now) l.words) ≡ option_map (λ ns. l.read.items ++ ns) (each value (map (λ w. w.now) (drop l.word-index l.words)))
