use Rattle.module_machines.proofs.of_mcu.StateLaws.{rate-limited}
use Rattle.module_machines.proofs.mcu.laws.rate_within_its_limits.Goals as goal

pub returns : goal.returns
returns _ = rate-limited
