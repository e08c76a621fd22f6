use Rattle.std.proofs.Common.{◌≡◌, ◌≤◌, ◌*◌, length, take}
use Rattle.std.specs.Prelude.{sum_by, Option}
use Rattle.adc_machine.specs.Groups.{inputs_of}
use Rattle.adc_machine.specs.declared.table.Group.{Group}
use Rattle.audit_converters.proofs.may.input_count.Given as goal

abbrev pub invariant-loop-group : goal.invariant-loop-group
invariant-loop-group l = (l.count ≡ sum_by (λ (k : Option Group). length (inputs_of k)) (take l.group-index l.groups)) × (l.count ≤ 32 * l.group-index)
