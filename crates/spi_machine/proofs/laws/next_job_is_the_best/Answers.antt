-- The law is proved over the definitions.
use Rattle.spi_machine.proofs.Best.{next_is}
use Rattle.spi_machine.proofs.Runs.{free-start, start-on}
use Rattle.spi_machine.proofs.laws.next_job_is_the_best.Goals as goal

pub returns : goal.returns
returns _ = record { free = free-start; best = λ d s u p fit h. next_is d u s.pending p fit (start-on d s u p h) }
