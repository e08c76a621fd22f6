-- The law is proved over the definitions.
use Rattle.spi_machine.proofs.Ends.{serve-ends}
use Rattle.spi_machine.proofs.laws.end_of_a_job.Goals as goal

pub returns : goal.returns
returns _ = serve-ends
