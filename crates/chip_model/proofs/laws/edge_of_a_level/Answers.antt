-- Proved over the definitions.
use Rattle.chip_model.proofs.HistoryLaws.{edge-changes, edge-stands}
use Rattle.chip_model.proofs.laws.edge_of_a_level.Goals as goal

pub returns : goal.returns
returns _ = record { changes = edge-changes; stands = edge-stands }
