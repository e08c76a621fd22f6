use Rattle.machine_laws.proofs.FlagTimes.{flag_since_clearing, flag_since_start}
use Rattle.machine_laws.proofs.timers.chip.flag_by_times.Goals as goal

pub returns : goal.returns
returns _ = record { cleared = flag_since_clearing; started = flag_since_start }
