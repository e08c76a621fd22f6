-- Proved over the definitions.
use Rattle.chip_model.proofs.HistoryLaws.{level-since_event}
use Rattle.chip_model.proofs.laws.level_since_event.Goals as goal

pub returns : goal.returns
returns _ = level-since_event
