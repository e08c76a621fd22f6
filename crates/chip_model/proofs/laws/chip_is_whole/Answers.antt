-- Proved over the definitions.
use Rattle.chip_model.proofs.WholeLaws.{all-chip_of, time-chip_of}
use Rattle.chip_model.proofs.laws.chip_is_whole.Goals as goal

pub returns : goal.returns
returns _ = record { all = all-chip_of; time = time-chip_of }
