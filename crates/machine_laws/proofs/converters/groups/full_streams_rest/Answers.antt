use Rattle.machine_laws.proofs.GroupLaws.{full_trigger, full_waiting, full_mark}
use Rattle.machine_laws.proofs.converters.groups.full_streams_rest.Goals as goal

pub returns-clause-trigger : goal.returns-clause-trigger
returns-clause-trigger _ d w s line received r out made unit is lt linear many = full_trigger d w s line received r out made unit is linear many lt

pub returns-clause-waiting : goal.returns-clause-waiting
returns-clause-waiting _ d w s line received r out made unit is lt linear many = full_waiting d w s line received r out made unit is linear many lt

pub returns-clause-mark : goal.returns-clause-mark
returns-clause-mark _ d w s line received input r out made unit is linear many at = full_mark d w s line received r out made unit is linear many input at
