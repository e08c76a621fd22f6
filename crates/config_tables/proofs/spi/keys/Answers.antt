use Rattle.std.proofs.Common.{refl}
use Rattle.std.proofs.lemmas.Option.{same_Some}
use Rattle.config_tables.proofs.FirstFaults.{next, last, answered, only_ok, before, there, sound}
use Rattle.config_tables.specs.Spi as spec
use Rattle.config_tables.proofs.spi.keys.Goals as goal

pub returns-clause-gives : goal.returns-clause-gives
unfolding spec.key_checks spec.value_of
returns-clause-gives c = answered _ _ _ _ _ _ c.finish.ensures c.none-faults.ensures (next _ _ _ _ _ _ _ c.truth_or.ensures c.keep-dev_error_detect.ensures.fault (next _ _ _ _ _ _ _ c.whole_or.ensures.gives c.keep-classification.ensures.fault (next _ _ _ _ _ _ _ c.numbers_or.ensures.gives c.keep-levels.ensures.fault (next _ _ _ _ _ _ _ c.numbers_or-2.ensures.gives c.keep-sync_units.ensures.fault (next _ _ _ _ _ _ _ c.elements.ensures.gives c.keep-channels.ensures.fault (next _ _ _ _ _ _ _ c.elements-2.ensures.gives c.keep-jobs.ensures.fault (last _ _ _ _ _ c.elements-3.ensures.gives c.keep-sequences.ensures.fault))))))) (λ n6.
    let n5 = before _ _ _ c.keep-sequences.ensures.fault n6 in
    let n4 = before _ _ _ c.keep-jobs.ensures.fault n5 in
    let n3 = before _ _ _ c.keep-channels.ensures.fault n4 in
    let n2 = before _ _ _ c.keep-sync_units.ensures.fault n3 in
    let n1 = before _ _ _ c.keep-levels.ensures.fault n2 in
    let n0 = before _ _ _ c.keep-classification.ensures.fault n1 in
    rw (same_Some _ _ (there _ _ _ _ _ _ c.truth_or.ensures c.keep-dev_error_detect.ensures.fault c.keep-dev_error_detect.ensures.value n0), same_Some _ _ (there _ _ _ _ _ _ c.whole_or.ensures.gives c.keep-classification.ensures.fault c.keep-classification.ensures.value n1), (rw c.both_at_one.ensures.value at (there _ _ _ _ _ _ c.numbers_or.ensures.gives c.keep-levels.ensures.fault c.keep-levels.ensures.value n2)), (rw c.new.ensures at (there _ _ _ _ _ _ c.numbers_or-2.ensures.gives c.keep-sync_units.ensures.fault c.keep-sync_units.ensures.value n3)), there _ _ _ _ _ _ c.elements.ensures.gives c.keep-channels.ensures.fault c.keep-channels.ensures.value n4, there _ _ _ _ _ _ c.elements-2.ensures.gives c.keep-jobs.ensures.fault c.keep-jobs.ensures.value n5, there _ _ _ _ _ _ c.elements-3.ensures.gives c.keep-sequences.ensures.fault c.keep-sequences.ensures.value n6) refl)

pub returns-clause-tables : goal.returns-clause-tables
returns-clause-tables c = only_ok _ _ _ _ c.finish.ensures (λ n6.
    let n5 = before _ _ _ c.keep-sequences.ensures.fault n6 in
    let n4 = before _ _ _ c.keep-jobs.ensures.fault n5 in
    let n3 = before _ _ _ c.keep-channels.ensures.fault n4 in
    let n2 = before _ _ _ c.keep-sync_units.ensures.fault n3 in
    let n1 = before _ _ _ c.keep-levels.ensures.fault n2 in
    record { classification = sound _ _ _ _ _ c.whole_or.ensures.range c.keep-classification.ensures.fault c.keep-classification.ensures.value n1; levels = sound _ _ _ _ _ c.numbers_or.ensures.list c.keep-levels.ensures.fault c.keep-levels.ensures.value n2; sync_units = sound _ _ _ _ _ c.numbers_or-2.ensures.list c.keep-sync_units.ensures.fault c.keep-sync_units.ensures.value n3; channels = sound _ _ _ _ _ c.elements.ensures.table c.keep-channels.ensures.fault c.keep-channels.ensures.value n4; jobs = sound _ _ _ _ _ c.elements-2.ensures.table c.keep-jobs.ensures.fault c.keep-jobs.ensures.value n5; sequences = sound _ _ _ _ _ c.elements-3.ensures.table c.keep-sequences.ensures.fault c.keep-sequences.ensures.value n6 })
