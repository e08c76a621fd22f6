use Rattle.adc_machine.proofs.Others.{other_group, other_round}
use Rattle.adc_machine.proofs.laws.calls_leave_other_groups.Goals as goal

pub returns-clause-groups : goal.returns-clause-groups
returns-clause-groups c = other_group

pub returns-clause-rounds : goal.returns-clause-rounds
returns-clause-rounds c = other_round
