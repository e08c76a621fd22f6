use Rattle.std.proofs.Common.{ap, refl, sym, ◌∙◌, Some}
use Rattle.std.proofs.lemmas.Option.{same_Some}
use Rattle.config_tables.proofs.FirstFaults.{next, last, answered, only_ok, before, needed_same, next_if, there, sound}
use Rattle.config_tables.specs.Icu as spec
use Rattle.config_tables.proofs.icu.ChannelsElement.read.Goals as goal

pub returns-clause-gives : goal.returns-clause-gives
unfolding spec.channel_checks spec.channel_of
returns-clause-gives c = answered _ _ _ _ _ _ c.finish.ensures c.none-faults.ensures (next _ _ _ _ _ _ _ c.needed_whole.ensures.gives c.keep-id.ensures.fault (next _ _ _ _ _ _ _ c.needed_name.ensures c.keep-default_start_edge.ensures.fault (next _ _ _ _ _ _ _ c.needed_name-2.ensures c.keep-measurement_mode.ensures.fault (next_if _ _ _ _ _ _ _ (λ n2. needed_same _ _ _ _ _ _ _ _ (ap spec.measures (there _ _ _ _ _ _ c.needed_name-2.ensures c.keep-measurement_mode.ensures.fault c.keep-measurement_mode.ensures.value n2) ∙ sym c.measures.ensures) c.name_if.ensures.gives) c.keep-signal_measurement_property.ensures.fault (next_if _ _ _ _ _ _ _ (λ n3. let n2 = before _ _ _ c.keep-signal_measurement_property.ensures.fault n3 in needed_same _ _ _ _ _ _ _ _ (ap spec.stamps (there _ _ _ _ _ _ c.needed_name-2.ensures c.keep-measurement_mode.ensures.fault c.keep-measurement_mode.ensures.value n2) ∙ sym c.stamps.ensures) c.name_if-2.ensures.gives) c.keep-timestamp_measurement_property.ensures.fault (next _ _ _ _ _ _ _ c.text.ensures c.keep-signal_notification.ensures.fault (next _ _ _ _ _ _ _ c.text-timestamp_notification.ensures c.keep-timestamp_notification.ensures.fault (next _ _ _ _ _ _ _ c.needed_whole-2.ensures.gives c.keep-pin.ensures.fault (last _ _ _ _ _ c.whole_or.ensures.gives c.keep-level.ensures.fault))))))))) (λ n8.
    let n7 = before _ _ _ c.keep-level.ensures.fault n8 in
    let n6 = before _ _ _ c.keep-pin.ensures.fault n7 in
    let n5 = before _ _ _ c.keep-timestamp_notification.ensures.fault n6 in
    let n4 = before _ _ _ c.keep-signal_notification.ensures.fault n5 in
    let n3 = before _ _ _ c.keep-timestamp_measurement_property.ensures.fault n4 in
    let n2 = before _ _ _ c.keep-signal_measurement_property.ensures.fault n3 in
    let n1 = before _ _ _ c.keep-measurement_mode.ensures.fault n2 in
    let n0 = before _ _ _ c.keep-default_start_edge.ensures.fault n1 in
    rw (there _ _ _ _ _ _ c.needed_whole.ensures.gives c.keep-id.ensures.fault c.keep-id.ensures.value n0, there _ _ _ _ _ _ c.needed_name.ensures c.keep-default_start_edge.ensures.fault c.keep-default_start_edge.ensures.value n1, there _ _ _ _ _ _ c.needed_name-2.ensures c.keep-measurement_mode.ensures.fault c.keep-measurement_mode.ensures.value n2, same_Some _ _ (there _ _ _ _ _ _ c.name_if.ensures.gives c.keep-signal_measurement_property.ensures.fault c.keep-signal_measurement_property.ensures.value n3), same_Some _ _ (there _ _ _ _ _ _ c.name_if-2.ensures.gives c.keep-timestamp_measurement_property.ensures.fault c.keep-timestamp_measurement_property.ensures.value n4), same_Some _ _ (there _ _ _ _ _ _ c.text.ensures c.keep-signal_notification.ensures.fault c.keep-signal_notification.ensures.value n5), same_Some _ _ (there _ _ _ _ _ _ c.text-timestamp_notification.ensures c.keep-timestamp_notification.ensures.fault c.keep-timestamp_notification.ensures.value n6), there _ _ _ _ _ _ c.needed_whole-2.ensures.gives c.keep-pin.ensures.fault c.keep-pin.ensures.value n7, same_Some _ _ (there _ _ _ _ _ _ c.whole_or.ensures.gives c.keep-level.ensures.fault c.keep-level.ensures.value n8)) refl)

pub returns-clause-id : goal.returns-clause-id
returns-clause-id c = only_ok _ _ _ _ c.finish.ensures (λ n8.
    let n7 = before _ _ _ c.keep-level.ensures.fault n8 in
    let n6 = before _ _ _ c.keep-pin.ensures.fault n7 in
    let n5 = before _ _ _ c.keep-timestamp_notification.ensures.fault n6 in
    let n4 = before _ _ _ c.keep-signal_notification.ensures.fault n5 in
    let n3 = before _ _ _ c.keep-timestamp_measurement_property.ensures.fault n4 in
    let n2 = before _ _ _ c.keep-signal_measurement_property.ensures.fault n3 in
    let n1 = before _ _ _ c.keep-measurement_mode.ensures.fault n2 in
    let n0 = before _ _ _ c.keep-default_start_edge.ensures.fault n1 in
    there _ _ _ _ _ _ c.needed_whole.ensures.gives c.keep-id.ensures.fault c.keep-id.ensures.value n0)

pub returns-clause-valid : goal.returns-clause-valid
returns-clause-valid c = only_ok _ _ _ _ c.finish.ensures (λ n8.
    let n7 = before _ _ _ c.keep-level.ensures.fault n8 in
    let n6 = before _ _ _ c.keep-pin.ensures.fault n7 in
    let n5 = before _ _ _ c.keep-timestamp_notification.ensures.fault n6 in
    let n4 = before _ _ _ c.keep-signal_notification.ensures.fault n5 in
    let n3 = before _ _ _ c.keep-timestamp_measurement_property.ensures.fault n4 in
    let n2 = before _ _ _ c.keep-signal_measurement_property.ensures.fault n3 in
    let n1 = before _ _ _ c.keep-measurement_mode.ensures.fault n2 in
    let n0 = before _ _ _ c.keep-default_start_edge.ensures.fault n1 in
    record { id = sound _ _ _ _ _ c.needed_whole.ensures.range c.keep-id.ensures.fault c.keep-id.ensures.value n0; measured = λ e. sound _ _ _ _ _ c.name_if.ensures.needed c.keep-signal_measurement_property.ensures.fault c.keep-signal_measurement_property.ensures.value n3 (c.measures.ensures ∙ ap (λ m. spec.measures (Some m)) e); stamped = λ e. sound _ _ _ _ _ c.name_if-2.ensures.needed c.keep-timestamp_measurement_property.ensures.fault c.keep-timestamp_measurement_property.ensures.value n4 (c.stamps.ensures ∙ ap (λ m. spec.stamps (Some m)) e); pin = sound _ _ _ _ _ c.needed_whole-2.ensures.range c.keep-pin.ensures.fault c.keep-pin.ensures.value n7; level = sound _ _ _ _ _ c.whole_or.ensures.range c.keep-level.ensures.fault c.keep-level.ensures.value n8 })
