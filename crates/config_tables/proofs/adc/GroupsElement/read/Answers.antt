use Rattle.std.proofs.Common.{ap, refl, sym, ◌∙◌, Some}
use Rattle.std.proofs.lemmas.Option.{same_Some}
use Rattle.config_tables.proofs.FirstFaults.{next, last, answered, only_ok, before, needed_same, next_if, there, sound}
use Rattle.config_tables.specs.Adc as spec
use Rattle.config_tables.proofs.adc.GroupsElement.read.Goals as goal

pub returns-clause-gives : goal.returns-clause-gives
unfolding spec.group_checks spec.group_of
returns-clause-gives c = answered _ _ _ _ _ _ c.finish.ensures c.none-faults.ensures (next _ _ _ _ _ _ _ c.needed_whole.ensures.gives c.keep-id.ensures.fault (next _ _ _ _ _ _ _ c.needed_whole-2.ensures.gives c.keep-unit.ensures.fault (next _ _ _ _ _ _ _ c.needed_numbers-definition.ensures.gives c.keep-definition.ensures.fault (next _ _ _ _ _ _ _ c.needed_name.ensures c.keep-access_mode.ensures.fault (next _ _ _ _ _ _ _ c.needed_name-2.ensures c.keep-conversion_mode.ensures.fault (next _ _ _ _ _ _ _ c.whole_or.ensures.gives c.keep-priority.ensures.fault (next _ _ _ _ _ _ _ c.name_or-replacement.ensures c.keep-replacement.ensures.fault (next _ _ _ _ _ _ _ c.needed_name-3.ensures c.keep-trigger_source.ensures.fault (next _ _ _ _ _ _ _ c.name_or-streaming_buffer_mode.ensures c.keep-streaming_buffer_mode.ensures.fault (next _ _ _ _ _ _ _ c.whole_or-streaming_num_samples.ensures.gives c.keep-streaming_num_samples.ensures.fault (next _ _ _ _ _ _ _ c.text.ensures c.keep-notification.ensures.fault (next_if _ _ _ _ _ _ _ (λ n10. let n9 = before _ _ _ c.keep-notification.ensures.fault n10 in let n8 = before _ _ _ c.keep-streaming_num_samples.ensures.fault n9 in let n7 = before _ _ _ c.keep-streaming_buffer_mode.ensures.fault n8 in needed_same _ _ _ _ _ _ _ _ (ap spec.is_hardware (there _ _ _ _ _ _ c.needed_name-3.ensures c.keep-trigger_source.ensures.fault c.keep-trigger_source.ensures.value n7) ∙ sym c.is_hardware-hardware.ensures) c.whole_if.ensures.gives) c.keep-trigger_input.ensures.fault (last _ _ _ _ _ c.whole_or-2.ensures.gives c.keep-level.ensures.fault))))))))))))) (λ n12.
    let n11 = before _ _ _ c.keep-level.ensures.fault n12 in
    let n10 = before _ _ _ c.keep-trigger_input.ensures.fault n11 in
    let n9 = before _ _ _ c.keep-notification.ensures.fault n10 in
    let n8 = before _ _ _ c.keep-streaming_num_samples.ensures.fault n9 in
    let n7 = before _ _ _ c.keep-streaming_buffer_mode.ensures.fault n8 in
    let n6 = before _ _ _ c.keep-trigger_source.ensures.fault n7 in
    let n5 = before _ _ _ c.keep-replacement.ensures.fault n6 in
    let n4 = before _ _ _ c.keep-priority.ensures.fault n5 in
    let n3 = before _ _ _ c.keep-conversion_mode.ensures.fault n4 in
    let n2 = before _ _ _ c.keep-access_mode.ensures.fault n3 in
    let n1 = before _ _ _ c.keep-definition.ensures.fault n2 in
    let n0 = before _ _ _ c.keep-unit.ensures.fault n1 in
    rw (there _ _ _ _ _ _ c.needed_whole.ensures.gives c.keep-id.ensures.fault c.keep-id.ensures.value n0, there _ _ _ _ _ _ c.needed_whole-2.ensures.gives c.keep-unit.ensures.fault c.keep-unit.ensures.value n1, there _ _ _ _ _ _ c.needed_numbers-definition.ensures.gives c.keep-definition.ensures.fault c.keep-definition.ensures.value n2, there _ _ _ _ _ _ c.needed_name.ensures c.keep-access_mode.ensures.fault c.keep-access_mode.ensures.value n3, there _ _ _ _ _ _ c.needed_name-2.ensures c.keep-conversion_mode.ensures.fault c.keep-conversion_mode.ensures.value n4, same_Some _ _ (there _ _ _ _ _ _ c.whole_or.ensures.gives c.keep-priority.ensures.fault c.keep-priority.ensures.value n5), same_Some _ _ (there _ _ _ _ _ _ c.name_or-replacement.ensures c.keep-replacement.ensures.fault c.keep-replacement.ensures.value n6), there _ _ _ _ _ _ c.needed_name-3.ensures c.keep-trigger_source.ensures.fault c.keep-trigger_source.ensures.value n7, same_Some _ _ (there _ _ _ _ _ _ c.name_or-streaming_buffer_mode.ensures c.keep-streaming_buffer_mode.ensures.fault c.keep-streaming_buffer_mode.ensures.value n8), same_Some _ _ (there _ _ _ _ _ _ c.whole_or-streaming_num_samples.ensures.gives c.keep-streaming_num_samples.ensures.fault c.keep-streaming_num_samples.ensures.value n9), same_Some _ _ (there _ _ _ _ _ _ c.text.ensures c.keep-notification.ensures.fault c.keep-notification.ensures.value n10), same_Some _ _ (there _ _ _ _ _ _ c.whole_if.ensures.gives c.keep-trigger_input.ensures.fault c.keep-trigger_input.ensures.value n11), same_Some _ _ (there _ _ _ _ _ _ c.whole_or-2.ensures.gives c.keep-level.ensures.fault c.keep-level.ensures.value n12)) refl)

pub returns-clause-id : goal.returns-clause-id
returns-clause-id c = only_ok _ _ _ _ c.finish.ensures (λ n12.
    let n11 = before _ _ _ c.keep-level.ensures.fault n12 in
    let n10 = before _ _ _ c.keep-trigger_input.ensures.fault n11 in
    let n9 = before _ _ _ c.keep-notification.ensures.fault n10 in
    let n8 = before _ _ _ c.keep-streaming_num_samples.ensures.fault n9 in
    let n7 = before _ _ _ c.keep-streaming_buffer_mode.ensures.fault n8 in
    let n6 = before _ _ _ c.keep-trigger_source.ensures.fault n7 in
    let n5 = before _ _ _ c.keep-replacement.ensures.fault n6 in
    let n4 = before _ _ _ c.keep-priority.ensures.fault n5 in
    let n3 = before _ _ _ c.keep-conversion_mode.ensures.fault n4 in
    let n2 = before _ _ _ c.keep-access_mode.ensures.fault n3 in
    let n1 = before _ _ _ c.keep-definition.ensures.fault n2 in
    let n0 = before _ _ _ c.keep-unit.ensures.fault n1 in
    there _ _ _ _ _ _ c.needed_whole.ensures.gives c.keep-id.ensures.fault c.keep-id.ensures.value n0)

pub returns-clause-valid : goal.returns-clause-valid
returns-clause-valid c = only_ok _ _ _ _ c.finish.ensures (λ n12.
    let n11 = before _ _ _ c.keep-level.ensures.fault n12 in
    let n10 = before _ _ _ c.keep-trigger_input.ensures.fault n11 in
    let n9 = before _ _ _ c.keep-notification.ensures.fault n10 in
    let n8 = before _ _ _ c.keep-streaming_num_samples.ensures.fault n9 in
    let n7 = before _ _ _ c.keep-streaming_buffer_mode.ensures.fault n8 in
    let n6 = before _ _ _ c.keep-trigger_source.ensures.fault n7 in
    let n5 = before _ _ _ c.keep-replacement.ensures.fault n6 in
    let n4 = before _ _ _ c.keep-priority.ensures.fault n5 in
    let n3 = before _ _ _ c.keep-conversion_mode.ensures.fault n4 in
    let n2 = before _ _ _ c.keep-access_mode.ensures.fault n3 in
    let n1 = before _ _ _ c.keep-definition.ensures.fault n2 in
    let n0 = before _ _ _ c.keep-unit.ensures.fault n1 in
    record { id = sound _ _ _ _ _ c.needed_whole.ensures.range c.keep-id.ensures.fault c.keep-id.ensures.value n0; unit = sound _ _ _ _ _ c.needed_whole-2.ensures.range c.keep-unit.ensures.fault c.keep-unit.ensures.value n1; definition = sound _ _ _ _ _ c.needed_numbers-definition.ensures.list c.keep-definition.ensures.fault c.keep-definition.ensures.value n2; priority = sound _ _ _ _ _ c.whole_or.ensures.range c.keep-priority.ensures.fault c.keep-priority.ensures.value n5; streaming_num_samples = sound _ _ _ _ _ c.whole_or-streaming_num_samples.ensures.range c.keep-streaming_num_samples.ensures.fault c.keep-streaming_num_samples.ensures.value n9; triggered = λ e. sound _ _ _ _ _ c.whole_if.ensures.needed c.keep-trigger_input.ensures.fault c.keep-trigger_input.ensures.value n11 (c.is_hardware-hardware.ensures ∙ ap (λ s. spec.is_hardware (Some s)) e); trigger_input = sound _ _ _ _ _ c.whole_if.ensures.range c.keep-trigger_input.ensures.fault c.keep-trigger_input.ensures.value n11; level = sound _ _ _ _ _ c.whole_or-2.ensures.range c.keep-level.ensures.fault c.keep-level.ensures.value n12 })
