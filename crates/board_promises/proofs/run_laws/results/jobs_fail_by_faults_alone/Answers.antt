use Rattle.board_promises.proofs.Clean.{none_fails}
use Rattle.board_promises.proofs.run_laws.results.jobs_fail_by_faults_alone.Goals as goal

pub returns : goal.returns
returns _ = none_fails
