-- The law is proved over the definitions.
use Rattle.chip_blocks.proofs.of_converter.StateLaws.{go-busy, abort-not_running}
use Rattle.chip_blocks.proofs.converter.laws.what_does_nothing.Goals as goal

pub returns : goal.returns
returns _ = record { start = go-busy; abort = abort-not_running }
