use Rattle.machine_laws.proofs.Sequels.{has_to_end, has_to_go_on}
use Rattle.machine_laws.proofs.serial.ends.sequence_as_its_job_ends.Goals as goal

pub returns-clause-ends : goal.returns-clause-ends
returns-clause-ends _ d w s line received out q p r made there own e = has_to_end d w s line received out q p r made there own e

pub returns-clause-goes_on : goal.returns-clause-goes_on
returns-clause-goes_on _ d w s line received out q p r made there own e = has_to_go_on d w s line received out q p r made there own e
