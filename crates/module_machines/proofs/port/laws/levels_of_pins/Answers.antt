use Rattle.module_machines.specs.port.Machine.{pin_at}
use Rattle.module_machines.proofs.of_port.ModeLaws.{latched}
use Rattle.module_machines.proofs.port.laws.levels_of_pins.Goals as goal

pub returns-clause-latched : goal.returns-clause-latched
returns-clause-latched _ w s p output out other = latched (pin_at s p) (w.levels p) output out other
