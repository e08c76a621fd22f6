use Rattle.std.proofs.Common.{◌≡◌, drop}
use Rattle.module_machines.specs.port.Table as spec
use Rattle.module_machines.proofs.port.table.lists.Given as goal

abbrev pub invariant-loop-listed : goal.invariant-loop-listed
invariant-loop-listed l = spec.lists l.modes l.mode ≡ spec.lists (drop l.listed-index l.modes) l.mode
