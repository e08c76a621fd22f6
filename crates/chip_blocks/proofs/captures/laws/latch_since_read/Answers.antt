-- The laws are proved over the definitions.
use Rattle.chip_blocks.proofs.of_captures.CaptureLaws.{latch-count, latch-time}
use Rattle.chip_blocks.proofs.captures.laws.latch_since_read.Goals as goal

pub returns : goal.returns
returns _ = record { count = latch-count; time = latch-time }
