-- The laws are proved over the definitions.
use Rattle.board_promises.proofs.EndsOnce.{all_end, end_once}
use Rattle.board_promises.proofs.whole_runs.ends.sequences_end_once.Goals as goal

pub returns-clause-results : goal.returns-clause-results
returns-clause-results c = all_end

pub returns-clause-ends : goal.returns-clause-ends
returns-clause-ends c = end_once
