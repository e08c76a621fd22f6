-- Proved over the definitions.
use Rattle.chip_model.proofs.HistoryLaws.{osc-move, now-move, rate-left, rate-event}
use Rattle.chip_model.proofs.laws.clock_since_move.Goals as goal

pub returns : goal.returns
returns _ = record { osc = osc-move; now = now-move; rate = rate-left; event = rate-event }
