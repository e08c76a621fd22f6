use Rattle.machine_laws.proofs.StartLaws.{can_start, one_word_more}
use Rattle.machine_laws.proofs.serial.progress.what_waits_goes_on.Goals as goal

pub returns-clause-startable : goal.returns-clause-startable
returns-clause-startable _ = can_start

pub returns-clause-received : goal.returns-clause-received
returns-clause-received _ d w s line received out u r after = one_word_more d w s line received out u r after
