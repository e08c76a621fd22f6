use Rattle.std.proofs.Common.{◌≡◌, drop}
use Rattle.module_machines.specs.port.Table as spec
use Rattle.module_machines.proofs.port.table.find.Given as goal

abbrev pub invariant-loop-pin : goal.invariant-loop-pin
invariant-loop-pin l = spec.pin_in l.pins l.number ≡ spec.pin_in (drop l.pin-index l.pins) l.number
