-- The laws are proved over the definitions.
use Rattle.chip_blocks.proofs.of_units.HistoryLaws.{latch-set, latch-clear, latch-put, latch-flip}
use Rattle.chip_blocks.proofs.units.laws.latch_written_last.Goals as goal

pub returns : goal.returns
returns _ = record { set = latch-set; clear = latch-clear; put = latch-put; flip = latch-flip }
