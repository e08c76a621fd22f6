use Rattle.machine_laws.proofs.GroupLaws.{pulse_marks}
use Rattle.machine_laws.proofs.converters.groups.marks_of_pulses.Goals as goal

pub returns-clause-marks : goal.returns-clause-marks
returns-clause-marks _ = pulse_marks
