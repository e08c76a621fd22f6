use Rattle.board_promises.proofs.EndResults.{all_ended_as}
use Rattle.board_promises.proofs.run_laws.results.ends_by_their_events.Goals as goal

pub returns : goal.returns
returns _ = all_ended_as
