-- The laws are proved over the definitions.
use Rattle.chip_blocks.proofs.of_pulses.PulseLaws.{level-high, level-low}
use Rattle.chip_blocks.proofs.pulses.laws.output_since_idle.Goals as goal

pub returns : goal.returns
returns _ = record { high = level-high; low = level-low }
