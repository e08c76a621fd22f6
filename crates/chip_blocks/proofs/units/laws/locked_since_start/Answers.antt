-- The law is proved over the definitions.
use Rattle.chip_blocks.proofs.of_units.ClockLaws.{locked-since_start}
use Rattle.chip_blocks.proofs.units.laws.locked_since_start.Goals as goal

pub returns : goal.returns
returns _ = locked-since_start
