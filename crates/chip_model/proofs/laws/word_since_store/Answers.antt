-- Proved over the definitions.
use Rattle.chip_model.proofs.HistoryLaws.{word-stored, word-reset}
use Rattle.chip_model.proofs.laws.word_since_store.Goals as goal

pub returns : goal.returns
returns _ = record { stored = word-stored; reset = word-reset }
