use Rattle.desk_top.proofs.Checked.{taken, well_formed}
use Rattle.desk_top.proofs.laws.agrees_with_check.Goals as goal

pub returns-clause-taken : goal.returns-clause-taken
returns-clause-taken c = taken

pub returns-clause-well_formed : goal.returns-clause-well_formed
returns-clause-well_formed c = well_formed
