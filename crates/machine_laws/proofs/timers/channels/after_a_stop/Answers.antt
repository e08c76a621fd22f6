use Rattle.machine_laws.proofs.ChannelRests.{stop_value, stop_rest, stop_mark}
use Rattle.machine_laws.proofs.timers.channels.after_a_stop.Goals as goal

pub returns-clause-value : goal.returns-clause-value
returns-clause-value _ = stop_value

pub returns-clause-mark : goal.returns-clause-mark
returns-clause-mark _ = stop_mark

pub returns-clause-rest : goal.returns-clause-rest
returns-clause-rest _ = stop_rest
