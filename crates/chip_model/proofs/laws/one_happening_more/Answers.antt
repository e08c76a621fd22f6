-- Proved over the definitions.
use Rattle.chip_model.proofs.HistoryLaws.{chip_of-append}
use Rattle.chip_model.proofs.laws.one_happening_more.Goals as goal

pub returns : goal.returns
returns _ = chip_of-append
