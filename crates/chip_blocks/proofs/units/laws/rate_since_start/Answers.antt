-- The laws are proved over the definitions.
use Rattle.chip_blocks.proofs.of_units.ClockLaws.{rate-at_start, rate-taken, rate-without_multiplier}
use Rattle.chip_blocks.proofs.units.laws.rate_since_start.Goals as goal

pub returns : goal.returns
returns _ = record { start = rate-at_start; taken = rate-taken; without = rate-without_multiplier }
