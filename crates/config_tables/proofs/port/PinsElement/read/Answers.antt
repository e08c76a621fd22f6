use Rattle.std.proofs.Common.{refl}
use Rattle.std.proofs.lemmas.Option.{same_Some}
use Rattle.config_tables.proofs.FirstFaults.{next, last, answered, only_ok, before, there, sound}
use Rattle.config_tables.specs.Port as spec
use Rattle.config_tables.proofs.port.PinsElement.read.Goals as goal

pub returns-clause-gives : goal.returns-clause-gives
unfolding spec.pin_checks spec.pin_of
returns-clause-gives c = answered _ _ _ _ _ _ c.finish.ensures c.none-faults.ensures (next _ _ _ _ _ _ _ c.needed_whole.ensures.gives c.keep-id.ensures.fault (next _ _ _ _ _ _ _ c.needed_name.ensures c.keep-direction.ensures.fault (next _ _ _ _ _ _ _ c.truth_or-direction_changeable.ensures c.keep-direction_changeable.ensures.fault (next _ _ _ _ _ _ _ c.name_or-initial_mode.ensures c.keep-initial_mode.ensures.fault (next _ _ _ _ _ _ _ c.names_or.ensures.gives c.keep-modes.ensures.fault (next _ _ _ _ _ _ _ c.truth_or-mode_changeable.ensures c.keep-mode_changeable.ensures.fault (last _ _ _ _ _ c.name_or.ensures c.keep-level.ensures.fault))))))) (λ n6.
    let n5 = before _ _ _ c.keep-level.ensures.fault n6 in
    let n4 = before _ _ _ c.keep-mode_changeable.ensures.fault n5 in
    let n3 = before _ _ _ c.keep-modes.ensures.fault n4 in
    let n2 = before _ _ _ c.keep-initial_mode.ensures.fault n3 in
    let n1 = before _ _ _ c.keep-direction_changeable.ensures.fault n2 in
    let n0 = before _ _ _ c.keep-direction.ensures.fault n1 in
    rw (there _ _ _ _ _ _ c.needed_whole.ensures.gives c.keep-id.ensures.fault c.keep-id.ensures.value n0, there _ _ _ _ _ _ c.needed_name.ensures c.keep-direction.ensures.fault c.keep-direction.ensures.value n1, same_Some _ _ (there _ _ _ _ _ _ c.truth_or-direction_changeable.ensures c.keep-direction_changeable.ensures.fault c.keep-direction_changeable.ensures.value n2), same_Some _ _ (there _ _ _ _ _ _ c.name_or-initial_mode.ensures c.keep-initial_mode.ensures.fault c.keep-initial_mode.ensures.value n3), (rw c.alone.ensures at (there _ _ _ _ _ _ c.names_or.ensures.gives c.keep-modes.ensures.fault c.keep-modes.ensures.value n4)), same_Some _ _ (there _ _ _ _ _ _ c.truth_or-mode_changeable.ensures c.keep-mode_changeable.ensures.fault c.keep-mode_changeable.ensures.value n5), same_Some _ _ (there _ _ _ _ _ _ c.name_or.ensures c.keep-level.ensures.fault c.keep-level.ensures.value n6), ← c.is_high.ensures) refl)

pub returns-clause-id : goal.returns-clause-id
returns-clause-id c = only_ok _ _ _ _ c.finish.ensures (λ n6.
    let n5 = before _ _ _ c.keep-level.ensures.fault n6 in
    let n4 = before _ _ _ c.keep-mode_changeable.ensures.fault n5 in
    let n3 = before _ _ _ c.keep-modes.ensures.fault n4 in
    let n2 = before _ _ _ c.keep-initial_mode.ensures.fault n3 in
    let n1 = before _ _ _ c.keep-direction_changeable.ensures.fault n2 in
    let n0 = before _ _ _ c.keep-direction.ensures.fault n1 in
    there _ _ _ _ _ _ c.needed_whole.ensures.gives c.keep-id.ensures.fault c.keep-id.ensures.value n0)

pub returns-clause-valid : goal.returns-clause-valid
returns-clause-valid c = only_ok _ _ _ _ c.finish.ensures (λ n6.
    let n5 = before _ _ _ c.keep-level.ensures.fault n6 in
    let n4 = before _ _ _ c.keep-mode_changeable.ensures.fault n5 in
    let n3 = before _ _ _ c.keep-modes.ensures.fault n4 in
    let n2 = before _ _ _ c.keep-initial_mode.ensures.fault n3 in
    let n1 = before _ _ _ c.keep-direction_changeable.ensures.fault n2 in
    let n0 = before _ _ _ c.keep-direction.ensures.fault n1 in
    record { id = sound _ _ _ _ _ c.needed_whole.ensures.range c.keep-id.ensures.fault c.keep-id.ensures.value n0; some_mode = (sound _ _ _ _ _ c.names_or.ensures.count c.keep-modes.ensures.fault c.keep-modes.ensures.value n4).0; few_modes = (sound _ _ _ _ _ c.names_or.ensures.count c.keep-modes.ensures.fault c.keep-modes.ensures.value n4).1 })
