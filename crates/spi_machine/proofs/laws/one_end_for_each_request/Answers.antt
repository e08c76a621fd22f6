-- The law is proved over the definitions.
use Rattle.spi_machine.proofs.Idle.{renewed}
use Rattle.spi_machine.proofs.SequenceChanges.{happens-turn}
use Rattle.spi_machine.proofs.laws.one_end_for_each_request.Goals as goal

pub returns : goal.returns
returns _ = record { turns = happens-turn; initialised = renewed }
