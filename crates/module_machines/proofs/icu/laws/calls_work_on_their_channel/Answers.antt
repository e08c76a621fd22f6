use Rattle.module_machines.proofs.of_icu.CallLaws.{own_work, other_channel}
use Rattle.module_machines.proofs.icu.laws.calls_work_on_their_channel.Goals as goal

pub returns-clause-own : goal.returns-clause-own
returns-clause-own c = own_work

pub returns-clause-others : goal.returns-clause-others
returns-clause-others c = other_channel
