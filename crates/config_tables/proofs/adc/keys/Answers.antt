use Rattle.std.proofs.Common.{refl}
use Rattle.std.proofs.lemmas.Option.{same_Some}
use Rattle.config_tables.proofs.FirstFaults.{next, last, answered, only_ok, before, there, sound}
use Rattle.config_tables.specs.Adc as spec
use Rattle.config_tables.proofs.adc.keys.Goals as goal

pub returns-clause-gives : goal.returns-clause-gives
unfolding spec.key_checks spec.value_of
returns-clause-gives c = answered _ _ _ _ _ _ c.finish.ensures c.none-faults.ensures (next _ _ _ _ _ _ _ c.truth_or.ensures c.keep-dev_error_detect.ensures.fault (next _ _ _ _ _ _ _ c.whole_or.ensures.gives c.keep-classification.ensures.fault (next _ _ _ _ _ _ _ c.name_or.ensures c.keep-priority_implementation.ensures.fault (next _ _ _ _ _ _ _ c.truth_or-2.ensures c.keep-enable_queuing.ensures.fault (next _ _ _ _ _ _ _ c.elements.ensures.gives c.keep-units.ensures.fault (last _ _ _ _ _ c.elements-2.ensures.gives c.keep-groups.ensures.fault)))))) (λ n5.
    let n4 = before _ _ _ c.keep-groups.ensures.fault n5 in
    let n3 = before _ _ _ c.keep-units.ensures.fault n4 in
    let n2 = before _ _ _ c.keep-enable_queuing.ensures.fault n3 in
    let n1 = before _ _ _ c.keep-priority_implementation.ensures.fault n2 in
    let n0 = before _ _ _ c.keep-classification.ensures.fault n1 in
    rw (same_Some _ _ (there _ _ _ _ _ _ c.truth_or.ensures c.keep-dev_error_detect.ensures.fault c.keep-dev_error_detect.ensures.value n0), same_Some _ _ (there _ _ _ _ _ _ c.whole_or.ensures.gives c.keep-classification.ensures.fault c.keep-classification.ensures.value n1), same_Some _ _ (there _ _ _ _ _ _ c.name_or.ensures c.keep-priority_implementation.ensures.fault c.keep-priority_implementation.ensures.value n2), same_Some _ _ (there _ _ _ _ _ _ c.truth_or-2.ensures c.keep-enable_queuing.ensures.fault c.keep-enable_queuing.ensures.value n3), there _ _ _ _ _ _ c.elements.ensures.gives c.keep-units.ensures.fault c.keep-units.ensures.value n4, there _ _ _ _ _ _ c.elements-2.ensures.gives c.keep-groups.ensures.fault c.keep-groups.ensures.value n5) refl)

pub returns-clause-tables : goal.returns-clause-tables
returns-clause-tables c = only_ok _ _ _ _ c.finish.ensures (λ n5.
    let n4 = before _ _ _ c.keep-groups.ensures.fault n5 in
    let n3 = before _ _ _ c.keep-units.ensures.fault n4 in
    let n2 = before _ _ _ c.keep-enable_queuing.ensures.fault n3 in
    let n1 = before _ _ _ c.keep-priority_implementation.ensures.fault n2 in
    record { classification = sound _ _ _ _ _ c.whole_or.ensures.range c.keep-classification.ensures.fault c.keep-classification.ensures.value n1; units = sound _ _ _ _ _ c.elements.ensures.table c.keep-units.ensures.fault c.keep-units.ensures.value n4; groups = sound _ _ _ _ _ c.elements-2.ensures.table c.keep-groups.ensures.fault c.keep-groups.ensures.value n5 })
