use Rattle.std.proofs.Common.{refl}
use Rattle.std.proofs.lemmas.Option.{same_Some}
use Rattle.config_tables.proofs.FirstFaults.{next, last, answered, only_ok, before, there, sound}
use Rattle.config_tables.specs.Mcu as spec
use Rattle.config_tables.proofs.mcu.keys.Goals as goal

pub returns-clause-gives : goal.returns-clause-gives
unfolding spec.key_checks spec.value_of
returns-clause-gives c = answered _ _ _ _ _ _ c.finish.ensures c.none-faults.ensures (next _ _ _ _ _ _ _ c.truth_or.ensures c.keep-dev_error_detect.ensures.fault (next _ _ _ _ _ _ _ c.elements.ensures.gives c.keep-clock_settings.ensures.fault (next _ _ _ _ _ _ _ c.elements-2.ensures.gives c.keep-modes.ensures.fault (last _ _ _ _ _ c.elements-3.ensures.gives c.keep-ram_sections.ensures.fault)))) (λ n3.
    let n2 = before _ _ _ c.keep-ram_sections.ensures.fault n3 in
    let n1 = before _ _ _ c.keep-modes.ensures.fault n2 in
    let n0 = before _ _ _ c.keep-clock_settings.ensures.fault n1 in
    rw (same_Some _ _ (there _ _ _ _ _ _ c.truth_or.ensures c.keep-dev_error_detect.ensures.fault c.keep-dev_error_detect.ensures.value n0), there _ _ _ _ _ _ c.elements.ensures.gives c.keep-clock_settings.ensures.fault c.keep-clock_settings.ensures.value n1, there _ _ _ _ _ _ c.elements-2.ensures.gives c.keep-modes.ensures.fault c.keep-modes.ensures.value n2, there _ _ _ _ _ _ c.elements-3.ensures.gives c.keep-ram_sections.ensures.fault c.keep-ram_sections.ensures.value n3) refl)

pub returns-clause-tables : goal.returns-clause-tables
returns-clause-tables c = only_ok _ _ _ _ c.finish.ensures (λ n3.
    let n2 = before _ _ _ c.keep-ram_sections.ensures.fault n3 in
    let n1 = before _ _ _ c.keep-modes.ensures.fault n2 in
    record { clock_settings = sound _ _ _ _ _ c.elements.ensures.table c.keep-clock_settings.ensures.fault c.keep-clock_settings.ensures.value n1; modes = sound _ _ _ _ _ c.elements-2.ensures.table c.keep-modes.ensures.fault c.keep-modes.ensures.value n2; ram_sections = sound _ _ _ _ _ c.elements-3.ensures.table c.keep-ram_sections.ensures.fault c.keep-ram_sections.ensures.value n3 })
