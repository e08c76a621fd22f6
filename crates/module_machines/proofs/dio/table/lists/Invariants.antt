use Rattle.std.proofs.Common.{◌≡◌, drop}
use Rattle.module_machines.specs.dio.Table as spec
use Rattle.module_machines.proofs.dio.table.lists.Given as goal

abbrev pub invariant-loop-pin : goal.invariant-loop-pin
invariant-loop-pin l = spec.lists l.pins l.number ≡ spec.lists (drop l.pin-index l.pins) l.number
