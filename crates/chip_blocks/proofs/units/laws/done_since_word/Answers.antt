-- The law is proved over the definitions.
use Rattle.chip_blocks.proofs.of_units.SerialLaws.{done-since_word}
use Rattle.chip_blocks.proofs.units.laws.done_since_word.Goals as goal

pub returns : goal.returns
returns _ = done-since_word
