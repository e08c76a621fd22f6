-- The law is proved over the definitions.
use Rattle.chip_blocks.proofs.of_captures.QueueLaws.{gap-after_loss}
use Rattle.chip_blocks.proofs.captures.laws.gap_after_loss.Goals as goal

pub returns : goal.returns
returns _ = gap-after_loss
