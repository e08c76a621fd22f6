use Rattle.module_machines.proofs.of_icu.RoomLaws.{happens_room}
use Rattle.module_machines.proofs.icu.laws.four_edges_wait.Goals as goal

pub returns-clause-stays : goal.returns-clause-stays
returns-clause-stays c = happens_room
