use Rattle.std.proofs.Common.{refl}
use Rattle.config_tables.proofs.FirstFaults.{next, last, answered, only_ok, before, there, sound}
use Rattle.config_tables.specs.Mcu as spec
use Rattle.config_tables.proofs.mcu.RamSectionsElement.read.Goals as goal

pub returns-clause-gives : goal.returns-clause-gives
unfolding spec.ram_section_checks spec.ram_section_of
returns-clause-gives c = answered _ _ _ _ _ _ c.finish.ensures c.none-faults.ensures (next _ _ _ _ _ _ _ c.needed_whole.ensures.gives c.keep-base_address.ensures.fault (next _ _ _ _ _ _ _ c.needed_whole-2.ensures.gives c.keep-size.ensures.fault (last _ _ _ _ _ c.needed_whole-3.ensures.gives c.keep-default_value.ensures.fault))) (λ n2.
    let n1 = before _ _ _ c.keep-default_value.ensures.fault n2 in
    let n0 = before _ _ _ c.keep-size.ensures.fault n1 in
    rw (there _ _ _ _ _ _ c.needed_whole.ensures.gives c.keep-base_address.ensures.fault c.keep-base_address.ensures.value n0, there _ _ _ _ _ _ c.needed_whole-2.ensures.gives c.keep-size.ensures.fault c.keep-size.ensures.value n1, there _ _ _ _ _ _ c.needed_whole-3.ensures.gives c.keep-default_value.ensures.fault c.keep-default_value.ensures.value n2) refl)

pub returns-clause-valid : goal.returns-clause-valid
returns-clause-valid c = only_ok _ _ _ _ c.finish.ensures (λ n2.
    let n1 = before _ _ _ c.keep-default_value.ensures.fault n2 in
    let n0 = before _ _ _ c.keep-size.ensures.fault n1 in
    record { base_address = sound _ _ _ _ _ c.needed_whole.ensures.range c.keep-base_address.ensures.fault c.keep-base_address.ensures.value n0; size = sound _ _ _ _ _ c.needed_whole-2.ensures.range c.keep-size.ensures.fault c.keep-size.ensures.value n1; default_value = sound _ _ _ _ _ c.needed_whole-3.ensures.range c.keep-default_value.ensures.fault c.keep-default_value.ensures.value n2 })
