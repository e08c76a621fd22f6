-- The law is proved over the definitions.
use Rattle.spi_machine.proofs.Stored.{serve-receives, serve-leaves}
use Rattle.spi_machine.proofs.laws.received_by_place.Goals as goal

pub returns : goal.returns
returns _ = record { received = serve-receives; others = serve-leaves }
