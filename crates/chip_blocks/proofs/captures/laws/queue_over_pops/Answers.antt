-- The law is proved over the definitions.
use Rattle.chip_blocks.proofs.of_captures.QueueLaws.{queue-over_pops}
use Rattle.chip_blocks.proofs.captures.laws.queue_over_pops.Goals as goal

pub returns : goal.returns
returns _ = queue-over_pops
