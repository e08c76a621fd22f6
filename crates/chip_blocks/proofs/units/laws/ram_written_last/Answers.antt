-- The law is proved over the definitions.
use Rattle.chip_blocks.proofs.of_units.HistoryLaws.{word-written}
use Rattle.chip_blocks.proofs.units.laws.ram_written_last.Goals as goal

pub returns : goal.returns
returns _ = word-written
