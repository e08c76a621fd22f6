-- The laws are proved over the definitions.
use Rattle.chip_blocks.proofs.of_timers.HistoryLaws.{flagged-since_clearing}
use Rattle.chip_blocks.proofs.of_timers.FlagLaws.{flagged-since_any}
use Rattle.chip_blocks.proofs.timers.laws.flag_since_clearing.Goals as goal

pub returns : goal.returns
returns _ = record { any = flagged-since_any; counting = flagged-since_clearing }
