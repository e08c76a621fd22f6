use Rattle.std.proofs.Common.{refl}
use Rattle.std.proofs.lemmas.Option.{same_Some}
use Rattle.config_tables.proofs.FirstFaults.{next, last, answered, only_ok, before, there, sound}
use Rattle.config_tables.specs.Gpt as spec
use Rattle.config_tables.proofs.gpt.ChannelsElement.read.Goals as goal

pub returns-clause-gives : goal.returns-clause-gives
unfolding spec.channel_checks spec.channel_of
returns-clause-gives c = answered _ _ _ _ _ _ c.finish.ensures c.none-faults.ensures (next _ _ _ _ _ _ _ c.needed_whole.ensures.gives c.keep-id.ensures.fault (next _ _ _ _ _ _ _ c.needed_name.ensures c.keep-mode.ensures.fault (next _ _ _ _ _ _ _ c.whole_or.ensures.gives c.keep-tick_value_max.ensures.fault (next _ _ _ _ _ _ _ c.truth_or.ensures c.keep-enable_wakeup.ensures.fault (next _ _ _ _ _ _ _ c.text.ensures c.keep-notification.ensures.fault (next _ _ _ _ _ _ _ c.whole_or-2.ensures.gives c.keep-prescaler.ensures.fault (last _ _ _ _ _ c.whole_or-3.ensures.gives c.keep-level.ensures.fault))))))) (λ n6.
    let n5 = before _ _ _ c.keep-level.ensures.fault n6 in
    let n4 = before _ _ _ c.keep-prescaler.ensures.fault n5 in
    let n3 = before _ _ _ c.keep-notification.ensures.fault n4 in
    let n2 = before _ _ _ c.keep-enable_wakeup.ensures.fault n3 in
    let n1 = before _ _ _ c.keep-tick_value_max.ensures.fault n2 in
    let n0 = before _ _ _ c.keep-mode.ensures.fault n1 in
    rw (there _ _ _ _ _ _ c.needed_whole.ensures.gives c.keep-id.ensures.fault c.keep-id.ensures.value n0, there _ _ _ _ _ _ c.needed_name.ensures c.keep-mode.ensures.fault c.keep-mode.ensures.value n1, same_Some _ _ (there _ _ _ _ _ _ c.whole_or.ensures.gives c.keep-tick_value_max.ensures.fault c.keep-tick_value_max.ensures.value n2), same_Some _ _ (there _ _ _ _ _ _ c.truth_or.ensures c.keep-enable_wakeup.ensures.fault c.keep-enable_wakeup.ensures.value n3), same_Some _ _ (there _ _ _ _ _ _ c.text.ensures c.keep-notification.ensures.fault c.keep-notification.ensures.value n4), same_Some _ _ (there _ _ _ _ _ _ c.whole_or-2.ensures.gives c.keep-prescaler.ensures.fault c.keep-prescaler.ensures.value n5), same_Some _ _ (there _ _ _ _ _ _ c.whole_or-3.ensures.gives c.keep-level.ensures.fault c.keep-level.ensures.value n6)) refl)

pub returns-clause-id : goal.returns-clause-id
returns-clause-id c = only_ok _ _ _ _ c.finish.ensures (λ n6.
    let n5 = before _ _ _ c.keep-level.ensures.fault n6 in
    let n4 = before _ _ _ c.keep-prescaler.ensures.fault n5 in
    let n3 = before _ _ _ c.keep-notification.ensures.fault n4 in
    let n2 = before _ _ _ c.keep-enable_wakeup.ensures.fault n3 in
    let n1 = before _ _ _ c.keep-tick_value_max.ensures.fault n2 in
    let n0 = before _ _ _ c.keep-mode.ensures.fault n1 in
    there _ _ _ _ _ _ c.needed_whole.ensures.gives c.keep-id.ensures.fault c.keep-id.ensures.value n0)

pub returns-clause-valid : goal.returns-clause-valid
returns-clause-valid c = only_ok _ _ _ _ c.finish.ensures (λ n6.
    let n5 = before _ _ _ c.keep-level.ensures.fault n6 in
    let n4 = before _ _ _ c.keep-prescaler.ensures.fault n5 in
    let n3 = before _ _ _ c.keep-notification.ensures.fault n4 in
    let n2 = before _ _ _ c.keep-enable_wakeup.ensures.fault n3 in
    let n1 = before _ _ _ c.keep-tick_value_max.ensures.fault n2 in
    let n0 = before _ _ _ c.keep-mode.ensures.fault n1 in
    record { id = sound _ _ _ _ _ c.needed_whole.ensures.range c.keep-id.ensures.fault c.keep-id.ensures.value n0; tick_value_max = sound _ _ _ _ _ c.whole_or.ensures.range c.keep-tick_value_max.ensures.fault c.keep-tick_value_max.ensures.value n2; prescaler = sound _ _ _ _ _ c.whole_or-2.ensures.range c.keep-prescaler.ensures.fault c.keep-prescaler.ensures.value n5; level = sound _ _ _ _ _ c.whole_or-3.ensures.range c.keep-level.ensures.fault c.keep-level.ensures.value n6 })
