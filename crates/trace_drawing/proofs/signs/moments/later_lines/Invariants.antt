use Rattle.std.proofs.Common.{◌≡◌, ◌++◌, length}
use Rattle.trace_drawing.specs.signs.Moments as spec
use Rattle.trace_drawing.proofs.signs.moments.later_lines.Given as goal

abbrev pub invariant-loop-rest : goal.invariant-loop-rest
invariant-loop-rest l = record {
  own : l.moments.items ++ spec.own_lines l.number l.rest ≡ l.initial.moments.items ++ spec.own_lines l.number l.lines;
  behind : spec.lines_behind l.number l.rest ≡ spec.lines_behind l.number l.lines;
}

abbrev pub decreases-loop-rest : goal.decreases-loop-rest
decreases-loop-rest l = length l.rest
