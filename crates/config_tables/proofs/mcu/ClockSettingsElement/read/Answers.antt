use Rattle.std.proofs.Common.{refl}
use Rattle.config_tables.proofs.FirstFaults.{next, last, answered, only_ok, before, there, sound}
use Rattle.config_tables.specs.Mcu as spec
use Rattle.config_tables.proofs.mcu.ClockSettingsElement.read.Goals as goal

pub returns-clause-gives : goal.returns-clause-gives
unfolding spec.clock_setting_checks spec.clock_setting_of
returns-clause-gives c = answered _ _ _ _ _ _ c.finish.ensures c.none-faults.ensures (next _ _ _ _ _ _ _ c.needed_whole.ensures.gives c.keep-id.ensures.fault (last _ _ _ _ _ c.needed_whole-2.ensures.gives c.keep-multiplier.ensures.fault)) (λ n1.
    let n0 = before _ _ _ c.keep-multiplier.ensures.fault n1 in
    rw (there _ _ _ _ _ _ c.needed_whole.ensures.gives c.keep-id.ensures.fault c.keep-id.ensures.value n0, there _ _ _ _ _ _ c.needed_whole-2.ensures.gives c.keep-multiplier.ensures.fault c.keep-multiplier.ensures.value n1) refl)

pub returns-clause-id : goal.returns-clause-id
returns-clause-id c = only_ok _ _ _ _ c.finish.ensures (λ n1.
    let n0 = before _ _ _ c.keep-multiplier.ensures.fault n1 in
    there _ _ _ _ _ _ c.needed_whole.ensures.gives c.keep-id.ensures.fault c.keep-id.ensures.value n0)

pub returns-clause-valid : goal.returns-clause-valid
returns-clause-valid c = only_ok _ _ _ _ c.finish.ensures (λ n1.
    let n0 = before _ _ _ c.keep-multiplier.ensures.fault n1 in
    record { id = sound _ _ _ _ _ c.needed_whole.ensures.range c.keep-id.ensures.fault c.keep-id.ensures.value n0; multiplier = sound _ _ _ _ _ c.needed_whole-2.ensures.range c.keep-multiplier.ensures.fault c.keep-multiplier.ensures.value n1 })
