use Rattle.std.proofs.Common.{◌≡◌, drop, map}
use Rattle.std.specs.List.{find}
use Rattle.trace_reader.specs.Registers.{is_spelled, row_of}
use Rattle.trace_reader.proofs.registers.found.Given as goal

abbrev pub invariant-loop-row : goal.invariant-loop-row
invariant-loop-row l = find (is_spelled l.letter l.name) (map row_of l.rows) ≡ find (is_spelled l.letter l.name) (map row_of (drop l.row-index l.rows))
