use Rattle.module_machines.proofs.of_port.GuestLaws.{put_out, put_in, put_elsewhere, inverted_out, inverted_in, inverted_elsewhere}
use Rattle.module_machines.proofs.port.laws.latches_that_a_guest_changes.Goals as goal

pub returns-clause-put : goal.returns-clause-put
returns-clause-put c = put_out

pub returns-clause-put_inward : goal.returns-clause-put_inward
returns-clause-put_inward c = put_in

pub returns-clause-put_elsewhere : goal.returns-clause-put_elsewhere
returns-clause-put_elsewhere c = put_elsewhere

pub returns-clause-inverted : goal.returns-clause-inverted
returns-clause-inverted c = inverted_out

pub returns-clause-inverted_inward : goal.returns-clause-inverted_inward
returns-clause-inverted_inward c = inverted_in

pub returns-clause-inverted_elsewhere : goal.returns-clause-inverted_elsewhere
returns-clause-inverted_elsewhere c = inverted_elsewhere
