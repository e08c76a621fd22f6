use Rattle.std.proofs.Common.{◌≡◌, drop}
use Rattle.adc_machine.specs.Table as spec
use Rattle.adc_machine.proofs.options.level_in.Given as goal

abbrev pub invariant-loop-unit : goal.invariant-loop-unit
invariant-loop-unit l = spec.level_in l.units l.number ≡ spec.level_in (drop l.unit-index l.units) l.number
