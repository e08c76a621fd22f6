use Rattle.std.proofs.Common.{◌≡◌, ◌++◌, length, string_bytes}
use Rattle.trace_waves.specs.File as spec
use Rattle.trace_waves.proofs.file.put_changes.Given as goal

abbrev pub invariant-loop-rest : goal.invariant-loop-rest
invariant-loop-rest l = string_bytes l.initial.text ++ spec.changes 0 l.changes l.end ≡ string_bytes l.text ++ spec.changes l.last l.rest l.end

abbrev pub decreases-loop-rest : goal.decreases-loop-rest
decreases-loop-rest l = length l.rest
