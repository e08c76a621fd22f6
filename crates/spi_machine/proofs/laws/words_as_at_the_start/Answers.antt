-- The law is proved over the definitions.
use Rattle.spi_machine.proofs.Runs.{start-begins, happens-goes, serve-sends}
use Rattle.spi_machine.proofs.laws.words_as_at_the_start.Goals as goal

pub returns : goal.returns
returns _ = record { start = start-begins; since = λ d w s h out u r after e. happens-goes d w s h out e u r after; sent = serve-sends }
