-- The law is proved over the definitions.
use Rattle.spi_machine.proofs.Begins.{happens-begins, start-word, serve-word, happens-wire}
use Rattle.spi_machine.proofs.laws.words_that_begin.Goals as goal

pub returns : goal.returns
returns _ = record { exactly = happens-begins; start = start-word; serving = serve-word; wire = happens-wire }
