use Rattle.adc_machine.specs.Machine.{acts}
use Rattle.adc_machine.specs.declared.call.Call.TheVariants.{Init, Group}
use Rattle.adc_machine.specs.declared.call.GroupCall.TheVariants.{StopGroupConversion, DisableHardwareTrigger}
use Rattle.machine_laws.proofs.GroupLaws.{switched_notices, off_notices, stopped_off, disabled_off, initial_off, others_quiet}
use Rattle.machine_laws.proofs.converters.groups.notices_of_rounds.Goals as goal

pub returns-clause-switched : goal.returns-clause-switched
returns-clause-switched _ d w s g line received on r out run told lt left unit is own made = switched_notices d w s g line received r out run lt left on told unit is own made

pub returns-clause-stopped : goal.returns-clause-stopped
returns-clause-stopped _ d w s g line received r out run told lt left unit is own made =
    off_notices d w s g line received r out run lt left (acts d s (Group g StopGroupConversion)).state (stopped_off d s g lt told) unit is own made

pub returns-clause-disabled : goal.returns-clause-disabled
returns-clause-disabled _ d w s g line received r out run told lt left unit is own made =
    off_notices d w s g line received r out run lt left (acts d s (Group g DisableHardwareTrigger)).state (disabled_off d s g lt told) unit is own made

pub returns-clause-initial : goal.returns-clause-initial
returns-clause-initial _ d w s g line received r out run told lt left unit is own made =
    off_notices d w s g line received r out run lt left (acts d s Init).state (initial_off d s g lt told) unit is own made

pub returns-clause-others : goal.returns-clause-others
returns-clause-others _ = others_quiet
