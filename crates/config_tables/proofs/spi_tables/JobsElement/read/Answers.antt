use Rattle.std.proofs.Common.{refl}
use Rattle.std.proofs.lemmas.Option.{same_Some}
use Rattle.config_tables.proofs.FirstFaults.{next, last, answered, only_ok, before, there, sound}
use Rattle.config_tables.specs.Spi as spec
use Rattle.config_tables.proofs.spi_tables.JobsElement.read.Goals as goal

pub returns-clause-gives : goal.returns-clause-gives
unfolding spec.job_checks spec.job_of
returns-clause-gives c = answered _ _ _ _ _ _ c.finish.ensures c.none-faults.ensures (next _ _ _ _ _ _ _ c.needed_whole.ensures.gives c.keep-id.ensures.fault (next _ _ _ _ _ _ _ c.needed_whole-2.ensures.gives c.keep-priority.ensures.fault (next _ _ _ _ _ _ _ c.text.ensures c.keep-end_notification.ensures.fault (next _ _ _ _ _ _ _ c.needed_numbers.ensures.gives c.keep-channel_list.ensures.fault (next _ _ _ _ _ _ _ c.needed_whole-3.ensures.gives c.keep-unit.ensures.fault (last _ _ _ _ _ c.whole.ensures.gives c.keep-select.ensures.fault)))))) (λ n5.
    let n4 = before _ _ _ c.keep-select.ensures.fault n5 in
    let n3 = before _ _ _ c.keep-unit.ensures.fault n4 in
    let n2 = before _ _ _ c.keep-channel_list.ensures.fault n3 in
    let n1 = before _ _ _ c.keep-end_notification.ensures.fault n2 in
    let n0 = before _ _ _ c.keep-priority.ensures.fault n1 in
    rw (there _ _ _ _ _ _ c.needed_whole.ensures.gives c.keep-id.ensures.fault c.keep-id.ensures.value n0, there _ _ _ _ _ _ c.needed_whole-2.ensures.gives c.keep-priority.ensures.fault c.keep-priority.ensures.value n1, same_Some _ _ (there _ _ _ _ _ _ c.text.ensures c.keep-end_notification.ensures.fault c.keep-end_notification.ensures.value n2), there _ _ _ _ _ _ c.needed_numbers.ensures.gives c.keep-channel_list.ensures.fault c.keep-channel_list.ensures.value n3, there _ _ _ _ _ _ c.needed_whole-3.ensures.gives c.keep-unit.ensures.fault c.keep-unit.ensures.value n4, same_Some _ _ (there _ _ _ _ _ _ c.whole.ensures.gives c.keep-select.ensures.fault c.keep-select.ensures.value n5)) refl)

pub returns-clause-id : goal.returns-clause-id
returns-clause-id c = only_ok _ _ _ _ c.finish.ensures (λ n5.
    let n4 = before _ _ _ c.keep-select.ensures.fault n5 in
    let n3 = before _ _ _ c.keep-unit.ensures.fault n4 in
    let n2 = before _ _ _ c.keep-channel_list.ensures.fault n3 in
    let n1 = before _ _ _ c.keep-end_notification.ensures.fault n2 in
    let n0 = before _ _ _ c.keep-priority.ensures.fault n1 in
    there _ _ _ _ _ _ c.needed_whole.ensures.gives c.keep-id.ensures.fault c.keep-id.ensures.value n0)

pub returns-clause-valid : goal.returns-clause-valid
returns-clause-valid c = only_ok _ _ _ _ c.finish.ensures (λ n5.
    let n4 = before _ _ _ c.keep-select.ensures.fault n5 in
    let n3 = before _ _ _ c.keep-unit.ensures.fault n4 in
    let n2 = before _ _ _ c.keep-channel_list.ensures.fault n3 in
    let n1 = before _ _ _ c.keep-end_notification.ensures.fault n2 in
    let n0 = before _ _ _ c.keep-priority.ensures.fault n1 in
    record { id = sound _ _ _ _ _ c.needed_whole.ensures.range c.keep-id.ensures.fault c.keep-id.ensures.value n0; priority = sound _ _ _ _ _ c.needed_whole-2.ensures.range c.keep-priority.ensures.fault c.keep-priority.ensures.value n1; channel_list = sound _ _ _ _ _ c.needed_numbers.ensures.list c.keep-channel_list.ensures.fault c.keep-channel_list.ensures.value n3; unit = sound _ _ _ _ _ c.needed_whole-3.ensures.range c.keep-unit.ensures.fault c.keep-unit.ensures.value n4; select = sound _ _ _ _ _ c.whole.ensures.range c.keep-select.ensures.fault c.keep-select.ensures.value n5 })
