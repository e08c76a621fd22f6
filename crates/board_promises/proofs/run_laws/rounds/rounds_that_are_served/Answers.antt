use Rattle.board_promises.proofs.RoundStories.{all_served_right}
use Rattle.board_promises.proofs.run_laws.rounds.rounds_that_are_served.Goals as goal

pub returns : goal.returns
returns _ = all_served_right
