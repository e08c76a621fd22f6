-- The law is proved over the definitions.
use Rattle.chip_blocks.proofs.of_converter.StateLaws.{finished-left}
use Rattle.chip_blocks.proofs.converter.laws.finished_until_acknowledged.Goals as goal

pub returns : goal.returns
returns _ = finished-left
