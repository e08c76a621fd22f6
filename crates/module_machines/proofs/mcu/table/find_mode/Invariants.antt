use Rattle.std.proofs.Common.{◌≡◌, drop}
use Rattle.module_machines.specs.mcu.Table as spec
use Rattle.module_machines.proofs.mcu.table.find_mode.Given as goal

abbrev pub invariant-loop-mode : goal.invariant-loop-mode
invariant-loop-mode l = spec.has_mode_in l.modes l.number ≡ spec.has_mode_in (drop l.mode-index l.modes) l.number
