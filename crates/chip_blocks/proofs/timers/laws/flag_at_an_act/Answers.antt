-- The laws are proved over the definitions.
use Rattle.chip_blocks.proofs.of_timers.HistoryLaws.{flagged-gate_set, flagged-gate_clear, flagged-zeroed, flagged-flag_clear}
use Rattle.chip_blocks.proofs.timers.laws.flag_at_an_act.Goals as goal

pub returns : goal.returns
returns _ = record { start = flagged-gate_set; stop = flagged-gate_clear; zero = flagged-zeroed; clear = flagged-flag_clear }
