use Rattle.machine_laws.proofs.StartLaws.{queued, started_job}
use Rattle.machine_laws.proofs.serial.progress.results_of_jobs_that_wait.Goals as goal

pub returns-clause-queued : goal.returns-clause-queued
returns-clause-queued _ d w s q job times out = queued d w s q job times out

pub returns-clause-pending : goal.returns-clause-pending
returns-clause-pending _ d w s unit made_by received out u p = started_job d w s unit made_by received out u p
