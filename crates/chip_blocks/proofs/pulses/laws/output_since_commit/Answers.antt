-- The laws are proved over the definitions.
use Rattle.chip_blocks.proofs.of_pulses.PulseLaws.{level-idle, level-no_period, level-running}
use Rattle.chip_blocks.proofs.pulses.laws.output_since_commit.Goals as goal

pub returns : goal.returns
returns _ = record { idle = level-idle; no_period = level-no_period; running = level-running }
