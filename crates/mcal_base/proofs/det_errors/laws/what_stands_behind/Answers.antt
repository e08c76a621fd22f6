use Rattle.mcal_base.specs.det_errors.Rows.{errors_of}
use Rattle.mcal_base.proofs.RowLaws.{behind_first, split_at, last_at}
use Rattle.mcal_base.proofs.det_errors.laws.what_stands_behind.Goals as goal

pub returns-clause-behind : goal.returns-clause-behind
returns-clause-behind c s = behind_first (errors_of s)

pub returns-clause-split : goal.returns-clause-split
returns-clause-split c s = split_at (errors_of s)

pub returns-clause-last : goal.returns-clause-last
returns-clause-last c s = last_at (errors_of s)
