use Rattle.module_machines.proofs.of_mcu.StateLaws.{ram-left}
use Rattle.module_machines.proofs.mcu.laws.ram_changes_by_sections.Goals as goal

pub returns : goal.returns
returns _ = ram-left
