-- The law is proved over the definitions.
use Rattle.chip_blocks.proofs.of_timers.HistoryLaws.{counter-since_start}
use Rattle.chip_blocks.proofs.timers.laws.counter_since_start.Goals as goal

pub returns : goal.returns
returns _ = counter-since_start
