-- The laws are proved over the definitions.
use Rattle.chip_blocks.proofs.of_timers.HistoryLaws.{running-gate_clear, counter-gate_clear, counter-rests}
use Rattle.chip_blocks.proofs.timers.laws.counter_at_rest.Goals as goal

pub returns : goal.returns
returns _ = record { stopped = running-gate_clear; value = counter-gate_clear; rests = counter-rests }
