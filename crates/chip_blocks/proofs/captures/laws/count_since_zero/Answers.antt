-- The law is proved over the definitions.
use Rattle.chip_blocks.proofs.of_captures.CaptureLaws.{count-since_zero}
use Rattle.chip_blocks.proofs.captures.laws.count_since_zero.Goals as goal

pub returns : goal.returns
returns _ = count-since_zero
