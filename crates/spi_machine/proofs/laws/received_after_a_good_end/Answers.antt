-- The law is proved over the definitions.
use Rattle.spi_machine.proofs.WordLaws.{happens-keeps}
use Rattle.spi_machine.proofs.laws.received_after_a_good_end.Goals as goal

pub returns : goal.returns
returns _ = λ d w s h out c e i. happens-keeps d w s h out e i c
