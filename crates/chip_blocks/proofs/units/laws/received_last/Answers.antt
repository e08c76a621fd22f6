-- The laws are proved over the definitions.
use Rattle.chip_blocks.proofs.of_units.SerialLaws.{received-word, received-refused, received-not_yet, received-faulted}
use Rattle.chip_blocks.proofs.units.laws.received_last.Goals as goal

pub returns : goal.returns
returns _ = record { whole = received-word; refused = received-refused; not_yet = received-not_yet; fault = received-faulted }
