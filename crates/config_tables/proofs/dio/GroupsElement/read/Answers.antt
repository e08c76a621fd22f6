use Rattle.std.proofs.Common.{refl}
use Rattle.config_tables.proofs.FirstFaults.{next, last, answered, only_ok, before, there, sound}
use Rattle.config_tables.specs.Dio as spec
use Rattle.config_tables.proofs.dio.GroupsElement.read.Goals as goal

pub returns-clause-gives : goal.returns-clause-gives
unfolding spec.group_checks spec.group_of
returns-clause-gives c = answered _ _ _ _ _ _ c.finish.ensures c.none-faults.ensures (next _ _ _ _ _ _ _ c.needed_whole.ensures.gives c.keep-id.ensures.fault (next _ _ _ _ _ _ _ c.needed_whole-2.ensures.gives c.keep-port.ensures.fault (next _ _ _ _ _ _ _ c.needed_whole-3.ensures.gives c.keep-offset.ensures.fault (last _ _ _ _ _ c.needed_whole-4.ensures.gives c.keep-mask.ensures.fault)))) (λ n3.
    let n2 = before _ _ _ c.keep-mask.ensures.fault n3 in
    let n1 = before _ _ _ c.keep-offset.ensures.fault n2 in
    let n0 = before _ _ _ c.keep-port.ensures.fault n1 in
    rw (there _ _ _ _ _ _ c.needed_whole.ensures.gives c.keep-id.ensures.fault c.keep-id.ensures.value n0, there _ _ _ _ _ _ c.needed_whole-2.ensures.gives c.keep-port.ensures.fault c.keep-port.ensures.value n1, there _ _ _ _ _ _ c.needed_whole-3.ensures.gives c.keep-offset.ensures.fault c.keep-offset.ensures.value n2, there _ _ _ _ _ _ c.needed_whole-4.ensures.gives c.keep-mask.ensures.fault c.keep-mask.ensures.value n3) refl)

pub returns-clause-id : goal.returns-clause-id
returns-clause-id c = only_ok _ _ _ _ c.finish.ensures (λ n3.
    let n2 = before _ _ _ c.keep-mask.ensures.fault n3 in
    let n1 = before _ _ _ c.keep-offset.ensures.fault n2 in
    let n0 = before _ _ _ c.keep-port.ensures.fault n1 in
    there _ _ _ _ _ _ c.needed_whole.ensures.gives c.keep-id.ensures.fault c.keep-id.ensures.value n0)

pub returns-clause-valid : goal.returns-clause-valid
returns-clause-valid c = only_ok _ _ _ _ c.finish.ensures (λ n3.
    let n2 = before _ _ _ c.keep-mask.ensures.fault n3 in
    let n1 = before _ _ _ c.keep-offset.ensures.fault n2 in
    let n0 = before _ _ _ c.keep-port.ensures.fault n1 in
    record { id = sound _ _ _ _ _ c.needed_whole.ensures.range c.keep-id.ensures.fault c.keep-id.ensures.value n0; port = sound _ _ _ _ _ c.needed_whole-2.ensures.range c.keep-port.ensures.fault c.keep-port.ensures.value n1; offset = sound _ _ _ _ _ c.needed_whole-3.ensures.range c.keep-offset.ensures.fault c.keep-offset.ensures.value n2; mask = sound _ _ _ _ _ c.needed_whole-4.ensures.range c.keep-mask.ensures.fault c.keep-mask.ensures.value n3 })
