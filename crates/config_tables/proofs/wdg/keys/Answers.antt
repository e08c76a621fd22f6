use Rattle.std.proofs.Common.{refl}
use Rattle.std.proofs.lemmas.Option.{same_Some}
use Rattle.config_tables.proofs.FirstFaults.{next, last, answered, only_ok, before, there, sound}
use Rattle.config_tables.specs.Wdg as spec
use Rattle.config_tables.proofs.wdg.keys.Goals as goal

pub returns-clause-gives : goal.returns-clause-gives
unfolding spec.key_checks spec.value_of
returns-clause-gives c = answered _ _ _ _ _ _ c.finish.ensures c.none-faults.ensures (next _ _ _ _ _ _ _ c.truth_or.ensures c.keep-dev_error_detect.ensures.fault (next _ _ _ _ _ _ _ c.name_or.ensures c.keep-default_mode.ensures.fault (next _ _ _ _ _ _ _ c.truth_or-2.ensures c.keep-disable_allowed.ensures.fault (next _ _ _ _ _ _ _ c.whole_or.ensures.gives c.keep-initial_ticks.ensures.fault (last _ _ _ _ _ c.whole_or-2.ensures.gives c.keep-max_ticks.ensures.fault))))) (λ n4.
    let n3 = before _ _ _ c.keep-max_ticks.ensures.fault n4 in
    let n2 = before _ _ _ c.keep-initial_ticks.ensures.fault n3 in
    let n1 = before _ _ _ c.keep-disable_allowed.ensures.fault n2 in
    let n0 = before _ _ _ c.keep-default_mode.ensures.fault n1 in
    rw (same_Some _ _ (there _ _ _ _ _ _ c.truth_or.ensures c.keep-dev_error_detect.ensures.fault c.keep-dev_error_detect.ensures.value n0), same_Some _ _ (there _ _ _ _ _ _ c.name_or.ensures c.keep-default_mode.ensures.fault c.keep-default_mode.ensures.value n1), same_Some _ _ (there _ _ _ _ _ _ c.truth_or-2.ensures c.keep-disable_allowed.ensures.fault c.keep-disable_allowed.ensures.value n2), same_Some _ _ (there _ _ _ _ _ _ c.whole_or.ensures.gives c.keep-initial_ticks.ensures.fault c.keep-initial_ticks.ensures.value n3), same_Some _ _ (there _ _ _ _ _ _ c.whole_or-2.ensures.gives c.keep-max_ticks.ensures.fault c.keep-max_ticks.ensures.value n4)) refl)

pub returns-clause-tables : goal.returns-clause-tables
returns-clause-tables c = only_ok _ _ _ _ c.finish.ensures (λ n4.
    let n3 = before _ _ _ c.keep-max_ticks.ensures.fault n4 in
    record { initial_ticks = sound _ _ _ _ _ c.whole_or.ensures.range c.keep-initial_ticks.ensures.fault c.keep-initial_ticks.ensures.value n3; max_ticks = sound _ _ _ _ _ c.whole_or-2.ensures.range c.keep-max_ticks.ensures.fault c.keep-max_ticks.ensures.value n4 })
