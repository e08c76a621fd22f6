use Rattle.machine_laws.proofs.PulseLaws.{flag_by_pulses}
use Rattle.machine_laws.proofs.converters.triggers.flags_by_pulses.Goals as goal

pub returns : goal.returns
returns _ = flag_by_pulses
