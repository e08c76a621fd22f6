use Rattle.std.proofs.Common.{◌≡◌, ◌+◌, length}
use Rattle.trace_drawing.specs.signs.Drawing as spec
use Rattle.trace_drawing.proofs.signs.signs.drawing_of.Given as goal

abbrev pub invariant-loop-rest : goal.invariant-loop-rest
invariant-loop-rest l = record {
  same : spec.drawn 0 spec.blank l.moments ≡ spec.drawn l.place l.drawing l.rest;
  places : l.place + length l.rest ≡ length l.moments;
}

abbrev pub decreases-loop-rest : goal.decreases-loop-rest
decreases-loop-rest l = length l.rest
