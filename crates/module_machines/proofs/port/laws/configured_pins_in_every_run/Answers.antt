use Rattle.module_machines.proofs.of_port.RunLaws.{stands}
use Rattle.module_machines.proofs.port.laws.configured_pins_in_every_run.Goals as goal

pub returns-clause-direction : goal.returns-clause-direction
returns-clause-direction _ = λ d xs p k fits on there. (stands d xs p k fits on there).direction

pub returns-clause-mode : goal.returns-clause-mode
returns-clause-mode _ = λ d xs p k fits on there. (stands d xs p k fits on there).mode

pub returns-clause-among : goal.returns-clause-among
returns-clause-among _ = λ d xs p k fits on there. (stands d xs p k fits on there).among
