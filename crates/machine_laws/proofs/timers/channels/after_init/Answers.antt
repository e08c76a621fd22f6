use Rattle.machine_laws.proofs.ChannelRests.{init_mark, init_elapsed, init_remaining}
use Rattle.machine_laws.proofs.timers.channels.after_init.Goals as goal

pub returns-clause-mark : goal.returns-clause-mark
returns-clause-mark _ d w later s c history told lt left = init_mark d w s told later c history lt left

pub returns-clause-elapsed : goal.returns-clause-elapsed
returns-clause-elapsed _ d w later s c k history told there left = init_elapsed d w s told later c k history there left

pub returns-clause-remaining : goal.returns-clause-remaining
returns-clause-remaining _ d w later s c k history told there left = init_remaining d w s told later c k history there left
