-- Proved over the definitions.
use Rattle.chip_model.proofs.HistoryLaws.{mask-left_all}
use Rattle.chip_model.proofs.laws.mask_since_move.Goals as goal

pub returns : goal.returns
returns _ = record {
  closed = λ c received xs left. mask-left_all _ xs left;
  opened = λ c received xs left. mask-left_all _ xs left;
  reset = λ c reason xs left. mask-left_all _ xs left;
}
