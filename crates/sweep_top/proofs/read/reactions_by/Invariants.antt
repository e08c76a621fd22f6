use Rattle.std.proofs.Common.{◌≡◌, [], drop, map}
use Rattle.bench_sweep.specs.Reactions.{found_on}
use Rattle.sweep_top.specs.Reads as spec
use Rattle.sweep_top.proofs.read.reactions_by.Given as goal

abbrev pub invariant-loop-found : goal.invariant-loop-found
invariant-loop-found l = spec.reactions_behind [] (map (λ r. found_on r) l.lines) ≡ spec.reactions_behind l.reactions.items (map (λ r. found_on r) (drop l.found-index l.lines))
