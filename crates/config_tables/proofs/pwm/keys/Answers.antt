use Rattle.std.proofs.Common.{refl}
use Rattle.std.proofs.lemmas.Option.{same_Some}
use Rattle.config_tables.proofs.FirstFaults.{next, last, answered, only_ok, before, there, sound}
use Rattle.config_tables.specs.Pwm as spec
use Rattle.config_tables.proofs.pwm.keys.Goals as goal

pub returns-clause-gives : goal.returns-clause-gives
unfolding spec.key_checks spec.value_of
returns-clause-gives c = answered _ _ _ _ _ _ c.finish.ensures c.none-faults.ensures (next _ _ _ _ _ _ _ c.truth_or.ensures c.keep-dev_error_detect.ensures.fault (last _ _ _ _ _ c.elements.ensures.gives c.keep-channels.ensures.fault)) (λ n1.
    let n0 = before _ _ _ c.keep-channels.ensures.fault n1 in
    rw (same_Some _ _ (there _ _ _ _ _ _ c.truth_or.ensures c.keep-dev_error_detect.ensures.fault c.keep-dev_error_detect.ensures.value n0), there _ _ _ _ _ _ c.elements.ensures.gives c.keep-channels.ensures.fault c.keep-channels.ensures.value n1) refl)

pub returns-clause-tables : goal.returns-clause-tables
returns-clause-tables c = only_ok _ _ _ _ c.finish.ensures (λ n1.
    record { channels = sound _ _ _ _ _ c.elements.ensures.table c.keep-channels.ensures.fault c.keep-channels.ensures.value n1 })
