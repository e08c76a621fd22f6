use Rattle.std.proofs.Common.{◌≡◌, length}
use Rattle.trace_reader.specs.Reading as spec
use Rattle.trace_reader.proofs.read.read_trace.Given as goal

abbrev pub invariant-loop-line : goal.invariant-loop-line
invariant-loop-line l = spec.read_trace l.text ≡ spec.read_parts l.lines.items (spec.parts_of l.rest)

abbrev pub decreases-loop-line : goal.decreases-loop-line
decreases-loop-line l = length l.rest
