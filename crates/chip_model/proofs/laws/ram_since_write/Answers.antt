-- Proved over the definitions.
use Rattle.chip_model.proofs.HistoryLaws.{ram-written, ram-reset}
use Rattle.chip_model.proofs.laws.ram_since_write.Goals as goal

pub returns : goal.returns
returns _ = record { written = ram-written; reset = ram-reset }
