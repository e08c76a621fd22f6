use Rattle.std.proofs.Common.{refl}
use Rattle.std.proofs.lemmas.Option.{same_Some}
use Rattle.config_tables.proofs.FirstFaults.{next, last, answered, only_ok, before, there, sound}
use Rattle.config_tables.specs.Spi as spec
use Rattle.config_tables.proofs.spi_tables.SequencesElement.read.Goals as goal

pub returns-clause-gives : goal.returns-clause-gives
unfolding spec.sequence_checks spec.sequence_of
returns-clause-gives c = answered _ _ _ _ _ _ c.finish.ensures c.none-faults.ensures (next _ _ _ _ _ _ _ c.needed_whole.ensures.gives c.keep-id.ensures.fault (next _ _ _ _ _ _ _ c.needed_truth.ensures c.keep-interruptible.ensures.fault (next _ _ _ _ _ _ _ c.needed_numbers.ensures.gives c.keep-job_assignment.ensures.fault (last _ _ _ _ _ c.text.ensures c.keep-end_notification.ensures.fault)))) (λ n3.
    let n2 = before _ _ _ c.keep-end_notification.ensures.fault n3 in
    let n1 = before _ _ _ c.keep-job_assignment.ensures.fault n2 in
    let n0 = before _ _ _ c.keep-interruptible.ensures.fault n1 in
    rw (there _ _ _ _ _ _ c.needed_whole.ensures.gives c.keep-id.ensures.fault c.keep-id.ensures.value n0, there _ _ _ _ _ _ c.needed_truth.ensures c.keep-interruptible.ensures.fault c.keep-interruptible.ensures.value n1, there _ _ _ _ _ _ c.needed_numbers.ensures.gives c.keep-job_assignment.ensures.fault c.keep-job_assignment.ensures.value n2, same_Some _ _ (there _ _ _ _ _ _ c.text.ensures c.keep-end_notification.ensures.fault c.keep-end_notification.ensures.value n3)) refl)

pub returns-clause-id : goal.returns-clause-id
returns-clause-id c = only_ok _ _ _ _ c.finish.ensures (λ n3.
    let n2 = before _ _ _ c.keep-end_notification.ensures.fault n3 in
    let n1 = before _ _ _ c.keep-job_assignment.ensures.fault n2 in
    let n0 = before _ _ _ c.keep-interruptible.ensures.fault n1 in
    there _ _ _ _ _ _ c.needed_whole.ensures.gives c.keep-id.ensures.fault c.keep-id.ensures.value n0)

pub returns-clause-valid : goal.returns-clause-valid
returns-clause-valid c = only_ok _ _ _ _ c.finish.ensures (λ n3.
    let n2 = before _ _ _ c.keep-end_notification.ensures.fault n3 in
    let n1 = before _ _ _ c.keep-job_assignment.ensures.fault n2 in
    let n0 = before _ _ _ c.keep-interruptible.ensures.fault n1 in
    record { id = sound _ _ _ _ _ c.needed_whole.ensures.range c.keep-id.ensures.fault c.keep-id.ensures.value n0; job_assignment = sound _ _ _ _ _ c.needed_numbers.ensures.list c.keep-job_assignment.ensures.fault c.keep-job_assignment.ensures.value n2 })
