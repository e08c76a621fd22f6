use Rattle.module_machines.proofs.of_mcu.StateLaws.{ram-apart}
use Rattle.module_machines.proofs.mcu.laws.sections_are_apart.Goals as goal

pub returns : goal.returns
returns _ = ram-apart
