use Rattle.std.proofs.Common.{◌≡◌, ◌≤◌, drop, max}
use Rattle.adc_machine.specs.Bounds as bounds
use Rattle.audit_converters.proofs.sizes.largest.Given as goal

abbrev pub invariant-loop-group : goal.invariant-loop-group
invariant-loop-group l = (bounds.most_inputs_in l.groups l.unit ≡ max l.most (bounds.most_inputs_in (drop l.group-index l.groups) l.unit)) × (l.most ≤ 32)
