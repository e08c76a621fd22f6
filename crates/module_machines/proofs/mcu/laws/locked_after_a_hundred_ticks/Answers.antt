use Rattle.module_machines.proofs.of_mcu.RunLaws.{unlocked_before, locked_from}
use Rattle.module_machines.proofs.mcu.laws.locked_after_a_hundred_ticks.Goals as goal

pub returns-clause-before : goal.returns-clause-before
returns-clause-before _ = unlocked_before

pub returns-clause-from : goal.returns-clause-from
returns-clause-from _ = locked_from
