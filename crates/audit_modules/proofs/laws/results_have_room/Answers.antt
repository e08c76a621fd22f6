-- Results of configured groups have room.
use Rattle.audit_modules.proofs.Rooms.{room}
use Rattle.audit_modules.proofs.laws.results_have_room.Goals as goal

pub returns : goal.returns
returns c = room
