use Rattle.module_machines.proofs.of_mcu.RunLaws.{rate_from}
use Rattle.module_machines.proofs.mcu.laws.rate_of_the_setting.Goals as goal

pub returns-clause-distributed : goal.returns-clause-distributed
returns-clause-distributed _ = rate_from
