-- The law is proved over the definitions.
use Rattle.spi_machine.proofs.WordLaws.{serve-fails}
use Rattle.spi_machine.proofs.laws.failed_word.Goals as goal

pub returns : goal.returns
returns _ = serve-fails
