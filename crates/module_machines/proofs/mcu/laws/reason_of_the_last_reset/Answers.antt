use Rattle.module_machines.proofs.of_mcu.StateLaws.{reason-answered}
use Rattle.module_machines.proofs.mcu.laws.reason_of_the_last_reset.Goals as goal

pub returns : goal.returns
returns _ = reason-answered
