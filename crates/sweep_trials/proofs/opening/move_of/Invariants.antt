use Rattle.std.proofs.Common.{◌≡◌, length, map}
use Rattle.std.specs.Prelude.{string_bytes}
use Rattle.sweep_trials.specs.Names as spec
use Rattle.sweep_trials.proofs.opening.move_of.Given as goal

abbrev pub invariant-loop-steps : goal.invariant-loop-steps
invariant-loop-steps l = spec.move_of l.number l.step l.fn.steps (map string_bytes l.fn.moves) ≡ spec.move_of l.number l.left l.steps (map string_bytes l.moves)

abbrev pub decreases-loop-steps : goal.decreases-loop-steps
decreases-loop-steps l = length l.steps
