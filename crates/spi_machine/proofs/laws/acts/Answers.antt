-- The law is proved over the definitions.
use Rattle.spi_machine.proofs.Acts.{act-allowed, act-leaves}
use Rattle.spi_machine.proofs.laws.acts.Goals as goal

pub returns : goal.returns
returns _ = record { allowed = act-allowed; error = act-leaves }
