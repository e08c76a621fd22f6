use Rattle.std.proofs.Common.{◌≡◌, drop}
use Rattle.adc_machine.specs.Bounds as bounds
use Rattle.adc_machine.proofs.table.first_on_input.Given as goal

abbrev pub invariant-loop-group : goal.invariant-loop-group
invariant-loop-group l = bounds.first_on_input l.groups l.input ≡ bounds.first_on_input (drop l.group-index l.groups) l.input
