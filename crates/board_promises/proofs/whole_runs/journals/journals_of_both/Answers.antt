-- The law is proved over the definitions.
use Rattle.board_promises.proofs.Promises.{both_keep}
use Rattle.board_promises.proofs.whole_runs.journals.journals_of_both.Goals as goal

pub returns : goal.returns
returns c = both_keep
