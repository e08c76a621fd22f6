use Rattle.machine_laws.proofs.ChannelSwitches.{told_once, told_next}
use Rattle.machine_laws.proofs.timers.channels.wakeups_are_told_once.Goals as goal

pub returns-clause-once : goal.returns-clause-once
returns-clause-once _ = told_once

pub returns-clause-next : goal.returns-clause-next
returns-clause-next _ d w later s c received k out history = told_next d w later s c k out history
