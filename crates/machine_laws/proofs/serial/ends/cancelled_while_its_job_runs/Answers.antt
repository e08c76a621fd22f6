use Rattle.machine_laws.proofs.Sequels.{cancel_waits}
use Rattle.machine_laws.proofs.serial.ends.cancelled_while_its_job_runs.Goals as goal

pub returns-clause-waits : goal.returns-clause-waits
returns-clause-waits _ d w s q times out p made told there on = (cancel_waits d w s q times out p made told there on).0

pub returns-clause-quiet : goal.returns-clause-quiet
returns-clause-quiet _ d w s q times out p made told there on = (cancel_waits d w s q times out p made told there on).1
