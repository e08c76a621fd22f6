-- The law is proved over the definitions.
use Rattle.chip_blocks.proofs.of_timers.FlagLaws.{counter-since_zero}
use Rattle.chip_blocks.proofs.timers.laws.counter_since_zero.Goals as goal

pub returns : goal.returns
returns _ = counter-since_zero
