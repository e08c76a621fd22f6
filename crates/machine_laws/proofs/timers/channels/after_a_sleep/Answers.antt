use Rattle.machine_laws.proofs.ChannelRests.{sleep_mark, sleep_value}
use Rattle.machine_laws.proofs.timers.channels.after_a_sleep.Goals as goal

pub returns-clause-mark : goal.returns-clause-mark
returns-clause-mark _ = sleep_mark

pub returns-clause-value : goal.returns-clause-value
returns-clause-value _ = sleep_value
