use Rattle.std.proofs.Common.{◌≡◌, length}
use Rattle.trace_drawing.specs.signs.Moments as spec
use Rattle.trace_drawing.proofs.signs.moments.moments_of.Given as goal

abbrev pub invariant-loop-later : goal.invariant-loop-later
invariant-loop-later l = spec.moments_of l.script l.lines ≡ spec.moments_from l.moments.items l.later l.rest

abbrev pub decreases-loop-later : goal.decreases-loop-later
decreases-loop-later l = length l.later
