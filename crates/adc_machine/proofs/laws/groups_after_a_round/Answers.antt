use Rattle.adc_machine.proofs.Served.{last_round, round_again, other_round, number_again}
use Rattle.adc_machine.proofs.laws.groups_after_a_round.Goals as goal

pub returns-clause-last : goal.returns-clause-last
returns-clause-last c = last_round

pub returns-clause-again : goal.returns-clause-again
returns-clause-again c = round_again

pub returns-clause-other : goal.returns-clause-other
returns-clause-other c = other_round

pub returns-clause-number : goal.returns-clause-number
returns-clause-number c = number_again
