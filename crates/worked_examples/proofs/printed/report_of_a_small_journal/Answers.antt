use Rattle.std.proofs.Common.{refl}
use Rattle.std.specs.Fmt.{digits}
use Rattle.worked_examples.proofs.printed.report_of_a_small_journal.Goals as goal

-- src/printed.rt:9:1
pub returns-clause-plain : goal.returns-clause-plain
unfolding digits
returns-clause-plain c = refl

-- src/printed.rt:9:1
pub returns-clause-traced : goal.returns-clause-traced
unfolding digits
returns-clause-traced c = refl
