-- The laws are proved over the definitions.
use Rattle.chip_blocks.proofs.of_timers.HistoryLaws.{counter-zeroed, running-zeroed}
use Rattle.chip_blocks.proofs.timers.laws.zero_runs_on.Goals as goal

pub returns : goal.returns
returns _ = record { counter = counter-zeroed; running = running-zeroed }
