-- The law is proved over the definitions.
use Rattle.chip_blocks.proofs.of_converter.StateLaws.{result-until_ended}
use Rattle.chip_blocks.proofs.converter.laws.result_until_ended.Goals as goal

pub returns : goal.returns
returns _ = result-until_ended
