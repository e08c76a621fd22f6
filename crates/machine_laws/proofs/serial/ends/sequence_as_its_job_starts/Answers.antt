use Rattle.machine_laws.proofs.Sequels.{has_started}
use Rattle.machine_laws.proofs.serial.ends.sequence_as_its_job_starts.Goals as goal

pub returns : goal.returns
returns _ d w s unit made_by received out u next p = has_started d w s unit made_by received out u next p
