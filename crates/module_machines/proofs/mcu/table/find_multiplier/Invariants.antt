use Rattle.std.proofs.Common.{◌≡◌, drop}
use Rattle.module_machines.specs.mcu.Table as spec
use Rattle.module_machines.proofs.mcu.table.find_multiplier.Given as goal

abbrev pub invariant-loop-setting : goal.invariant-loop-setting
invariant-loop-setting l = spec.multiplier_in l.settings l.number ≡ spec.multiplier_in (drop l.setting-index l.settings) l.number
