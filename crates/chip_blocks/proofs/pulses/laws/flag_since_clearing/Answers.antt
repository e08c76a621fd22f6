-- The law is proved over the definitions.
use Rattle.chip_blocks.proofs.of_pulses.FlagHistory.{flag-since_clearing}
use Rattle.chip_blocks.proofs.pulses.laws.flag_since_clearing.Goals as goal

pub returns : goal.returns
returns _ = flag-since_clearing
