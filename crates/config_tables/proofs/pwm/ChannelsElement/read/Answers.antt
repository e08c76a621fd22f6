use Rattle.std.proofs.Common.{refl}
use Rattle.std.proofs.lemmas.Option.{same_Some}
use Rattle.config_tables.proofs.FirstFaults.{next, last, answered, only_ok, before, there, sound}
use Rattle.config_tables.specs.Pwm as spec
use Rattle.config_tables.proofs.pwm.ChannelsElement.read.Goals as goal

pub returns-clause-gives : goal.returns-clause-gives
unfolding spec.channel_checks spec.channel_of
returns-clause-gives c = answered _ _ _ _ _ _ c.finish.ensures c.none-faults.ensures (next _ _ _ _ _ _ _ c.needed_whole.ensures.gives c.keep-id.ensures.fault (next _ _ _ _ _ _ _ c.needed_name.ensures c.keep-class.ensures.fault (next _ _ _ _ _ _ _ c.needed_whole-2.ensures.gives c.keep-duty_cycle_default.ensures.fault (next _ _ _ _ _ _ _ c.needed_name-2.ensures c.keep-idle_state.ensures.fault (next _ _ _ _ _ _ _ c.needed_name-3.ensures c.keep-polarity.ensures.fault (next _ _ _ _ _ _ _ c.text.ensures c.keep-notification.ensures.fault (next _ _ _ _ _ _ _ c.needed_whole-3.ensures.gives c.keep-period_ticks.ensures.fault (next _ _ _ _ _ _ _ c.whole.ensures.gives c.keep-pin.ensures.fault (last _ _ _ _ _ c.whole_or.ensures.gives c.keep-level.ensures.fault))))))))) (λ n8.
    let n7 = before _ _ _ c.keep-level.ensures.fault n8 in
    let n6 = before _ _ _ c.keep-pin.ensures.fault n7 in
    let n5 = before _ _ _ c.keep-period_ticks.ensures.fault n6 in
    let n4 = before _ _ _ c.keep-notification.ensures.fault n5 in
    let n3 = before _ _ _ c.keep-polarity.ensures.fault n4 in
    let n2 = before _ _ _ c.keep-idle_state.ensures.fault n3 in
    let n1 = before _ _ _ c.keep-duty_cycle_default.ensures.fault n2 in
    let n0 = before _ _ _ c.keep-class.ensures.fault n1 in
    rw (there _ _ _ _ _ _ c.needed_whole.ensures.gives c.keep-id.ensures.fault c.keep-id.ensures.value n0, there _ _ _ _ _ _ c.needed_name.ensures c.keep-class.ensures.fault c.keep-class.ensures.value n1, there _ _ _ _ _ _ c.needed_whole-2.ensures.gives c.keep-duty_cycle_default.ensures.fault c.keep-duty_cycle_default.ensures.value n2, there _ _ _ _ _ _ c.needed_name-2.ensures c.keep-idle_state.ensures.fault c.keep-idle_state.ensures.value n3, there _ _ _ _ _ _ c.needed_name-3.ensures c.keep-polarity.ensures.fault c.keep-polarity.ensures.value n4, same_Some _ _ (there _ _ _ _ _ _ c.text.ensures c.keep-notification.ensures.fault c.keep-notification.ensures.value n5), there _ _ _ _ _ _ c.needed_whole-3.ensures.gives c.keep-period_ticks.ensures.fault c.keep-period_ticks.ensures.value n6, same_Some _ _ (there _ _ _ _ _ _ c.whole.ensures.gives c.keep-pin.ensures.fault c.keep-pin.ensures.value n7), same_Some _ _ (there _ _ _ _ _ _ c.whole_or.ensures.gives c.keep-level.ensures.fault c.keep-level.ensures.value n8)) refl)

pub returns-clause-id : goal.returns-clause-id
returns-clause-id c = only_ok _ _ _ _ c.finish.ensures (λ n8.
    let n7 = before _ _ _ c.keep-level.ensures.fault n8 in
    let n6 = before _ _ _ c.keep-pin.ensures.fault n7 in
    let n5 = before _ _ _ c.keep-period_ticks.ensures.fault n6 in
    let n4 = before _ _ _ c.keep-notification.ensures.fault n5 in
    let n3 = before _ _ _ c.keep-polarity.ensures.fault n4 in
    let n2 = before _ _ _ c.keep-idle_state.ensures.fault n3 in
    let n1 = before _ _ _ c.keep-duty_cycle_default.ensures.fault n2 in
    let n0 = before _ _ _ c.keep-class.ensures.fault n1 in
    there _ _ _ _ _ _ c.needed_whole.ensures.gives c.keep-id.ensures.fault c.keep-id.ensures.value n0)

pub returns-clause-valid : goal.returns-clause-valid
returns-clause-valid c = only_ok _ _ _ _ c.finish.ensures (λ n8.
    let n7 = before _ _ _ c.keep-level.ensures.fault n8 in
    let n6 = before _ _ _ c.keep-pin.ensures.fault n7 in
    let n5 = before _ _ _ c.keep-period_ticks.ensures.fault n6 in
    let n4 = before _ _ _ c.keep-notification.ensures.fault n5 in
    let n3 = before _ _ _ c.keep-polarity.ensures.fault n4 in
    let n2 = before _ _ _ c.keep-idle_state.ensures.fault n3 in
    let n1 = before _ _ _ c.keep-duty_cycle_default.ensures.fault n2 in
    let n0 = before _ _ _ c.keep-class.ensures.fault n1 in
    record { id = sound _ _ _ _ _ c.needed_whole.ensures.range c.keep-id.ensures.fault c.keep-id.ensures.value n0; duty_cycle_default = sound _ _ _ _ _ c.needed_whole-2.ensures.range c.keep-duty_cycle_default.ensures.fault c.keep-duty_cycle_default.ensures.value n2; period_ticks = sound _ _ _ _ _ c.needed_whole-3.ensures.range c.keep-period_ticks.ensures.fault c.keep-period_ticks.ensures.value n6; pin = sound _ _ _ _ _ c.whole.ensures.range c.keep-pin.ensures.fault c.keep-pin.ensures.value n7; level = sound _ _ _ _ _ c.whole_or.ensures.range c.keep-level.ensures.fault c.keep-level.ensures.value n8 })
