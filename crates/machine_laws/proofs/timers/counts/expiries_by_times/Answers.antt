use Rattle.machine_laws.proofs.ExpiryTimes.{by_times}
use Rattle.machine_laws.proofs.timers.counts.expiries_by_times.Goals as goal

pub returns : goal.returns
returns _ = by_times
