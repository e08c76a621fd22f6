use Rattle.std.proofs.Common.{◌≡◌, length}
use Rattle.trace_drawing.specs.signs.Drawing as spec
use Rattle.trace_drawing.proofs.signs.signs.Drawing.end_all.Given as goal

abbrev pub invariant-loop-ending : goal.invariant-loop-ending
invariant-loop-ending l = spec.all_ended l.initial.self l.number l.ending ≡ spec.all_ended l.self l.number l.ending

abbrev pub decreases-loop-ending : goal.decreases-loop-ending
decreases-loop-ending l = length l.self.frames
