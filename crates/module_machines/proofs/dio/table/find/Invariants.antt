use Rattle.std.proofs.Common.{◌≡◌, drop}
use Rattle.module_machines.specs.dio.Table as spec
use Rattle.module_machines.proofs.dio.table.find.Given as goal

abbrev pub invariant-loop-group : goal.invariant-loop-group
invariant-loop-group l = spec.group_in l.groups l.number ≡ spec.group_in (drop l.group-index l.groups) l.number
