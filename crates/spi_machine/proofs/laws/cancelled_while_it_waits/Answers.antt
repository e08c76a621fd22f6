-- The law is proved over the definitions.
use Rattle.spi_machine.proofs.WordLaws.{cancel-ends}
use Rattle.spi_machine.proofs.laws.cancelled_while_it_waits.Goals as goal

pub returns : goal.returns
returns _ = cancel-ends
