-- The law is proved over the definitions.
use Rattle.chip_blocks.proofs.of_converter.HistoryLaws.{result-when_ended}
use Rattle.chip_blocks.proofs.converter.laws.result_when_ended.Goals as goal

pub returns : goal.returns
returns _ = result-when_ended
