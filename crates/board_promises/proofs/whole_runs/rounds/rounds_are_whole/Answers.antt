-- The law is proved over the definitions.
use Rattle.board_promises.proofs.WholeRounds.{whole_rounds}
use Rattle.board_promises.proofs.whole_runs.rounds.rounds_are_whole.Goals as goal

pub returns : goal.returns
returns c = whole_rounds
