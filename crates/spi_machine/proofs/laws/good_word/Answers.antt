-- The law is proved over the definitions.
use Rattle.spi_machine.proofs.Stored.{serve-stores}
use Rattle.spi_machine.proofs.laws.good_word.Goals as goal

pub returns : goal.returns
returns _ = serve-stores
