use Rattle.std.proofs.Common.{◌≡◌, drop}
use Rattle.adc_machine.specs.Table as spec
use Rattle.adc_machine.proofs.options.found_in.Given as goal

abbrev pub invariant-loop-group : goal.invariant-loop-group
invariant-loop-group l = spec.found_in l.groups l.number ≡ spec.found_in (drop l.group-index l.groups) l.number
