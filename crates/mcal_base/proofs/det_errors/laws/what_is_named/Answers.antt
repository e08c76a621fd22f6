use Rattle.mcal_base.specs.det_errors.Rows.{errors_of}
use Rattle.mcal_base.proofs.RowLaws.{none_holds, named_first, first_named}
use Rattle.mcal_base.proofs.det_errors.laws.what_is_named.Goals as goal

pub returns-clause-none : goal.returns-clause-none
returns-clause-none c s = none_holds (errors_of s)

pub returns-clause-named : goal.returns-clause-named
returns-clause-named c s = named_first (errors_of s)

pub returns-clause-first : goal.returns-clause-first
returns-clause-first c s = first_named (errors_of s)
