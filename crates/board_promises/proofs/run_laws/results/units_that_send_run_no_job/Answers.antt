use Rattle.board_promises.proofs.WordStories.{never_runs}
use Rattle.board_promises.proofs.run_laws.results.units_that_send_run_no_job.Goals as goal

pub returns : goal.returns
returns _ = λ d past unit allowed sync. never_runs d unit past sync
