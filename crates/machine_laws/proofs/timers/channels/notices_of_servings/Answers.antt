use Rattle.machine_laws.proofs.ChannelSwitches.{normal_notices}
use Rattle.machine_laws.proofs.timers.channels.notices_of_servings.Goals as goal

pub returns-clause-normal : goal.returns-clause-normal
returns-clause-normal _ d w later s c received on out history = normal_notices d w later s c on out history
