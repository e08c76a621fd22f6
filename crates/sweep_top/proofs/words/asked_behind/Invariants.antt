use Rattle.std.proofs.Common.{◌≡◌, length, map}
use Rattle.std.specs.Prelude.{string_bytes}
use Rattle.sweep_top.specs.Wishes as spec
use Rattle.sweep_top.proofs.words.asked_behind.Given as goal

abbrev pub invariant-loop-rest : goal.invariant-loop-rest
invariant-loop-rest l = spec.asked_behind spec.asked_nothing (map string_bytes l.words) ≡ spec.asked_behind l.asked (map string_bytes l.rest)

abbrev pub decreases-loop-rest : goal.decreases-loop-rest
decreases-loop-rest l = length l.rest
