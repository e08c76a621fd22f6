-- The law is proved over the definitions.
use Rattle.spi_machine.proofs.Idle.{idle-run}
use Rattle.spi_machine.proofs.laws.idle_while_uninitialised.Goals as goal

pub returns : goal.returns
returns _ = idle-run
