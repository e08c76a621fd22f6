use Rattle.std.proofs.Common.{refl}
use Rattle.std.proofs.lemmas.Option.{same_Some}
use Rattle.config_tables.proofs.FirstFaults.{next, last, answered, only_ok, before, there, sound}
use Rattle.config_tables.specs.Icu as spec
use Rattle.config_tables.proofs.icu.keys.Goals as goal

pub returns-clause-gives : goal.returns-clause-gives
unfolding spec.checks spec.value_of
returns-clause-gives c = answered _ _ _ _ _ _ c.finish.ensures c.none-faults.ensures (next _ _ _ _ _ _ _ c.truth_or.ensures c.keep-dev_error_detect.ensures.fault (next _ _ _ _ _ _ _ c.whole_or.ensures.gives c.keep-classification.ensures.fault (last _ _ _ _ _ c.elements.ensures.gives c.keep-channels.ensures.fault))) (λ n2.
    let n1 = before _ _ _ c.keep-channels.ensures.fault n2 in
    let n0 = before _ _ _ c.keep-classification.ensures.fault n1 in
    rw (same_Some _ _ (there _ _ _ _ _ _ c.truth_or.ensures c.keep-dev_error_detect.ensures.fault c.keep-dev_error_detect.ensures.value n0), same_Some _ _ (there _ _ _ _ _ _ c.whole_or.ensures.gives c.keep-classification.ensures.fault c.keep-classification.ensures.value n1), there _ _ _ _ _ _ c.elements.ensures.gives c.keep-channels.ensures.fault c.keep-channels.ensures.value n2) refl)

pub returns-clause-tables : goal.returns-clause-tables
returns-clause-tables c = only_ok _ _ _ _ c.finish.ensures (λ n2.
    let n1 = before _ _ _ c.keep-channels.ensures.fault n2 in
    record { classification = sound _ _ _ _ _ c.whole_or.ensures.range c.keep-classification.ensures.fault c.keep-classification.ensures.value n1; channels = sound _ _ _ _ _ c.elements.ensures.table c.keep-channels.ensures.fault c.keep-channels.ensures.value n2 })
