-- The law is proved over the definitions.
use Rattle.spi_machine.proofs.Idle.{act-busy}
use Rattle.spi_machine.proofs.laws.changes_while_busy.Goals as goal

pub returns : goal.returns
returns _ = act-busy
