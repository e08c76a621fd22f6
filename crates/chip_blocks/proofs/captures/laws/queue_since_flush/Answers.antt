-- The laws are proved over the definitions.
use Rattle.chip_blocks.proofs.of_captures.CaptureLaws.{queue-since_flush, lost-since_flush}
use Rattle.chip_blocks.proofs.captures.laws.queue_since_flush.Goals as goal

pub returns : goal.returns
returns _ = record { queue = queue-since_flush; lost = lost-since_flush }
