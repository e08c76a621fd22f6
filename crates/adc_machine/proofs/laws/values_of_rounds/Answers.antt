use Rattle.adc_machine.proofs.Rounds.{whole_values, values_so_far}
use Rattle.adc_machine.proofs.laws.values_of_rounds.Goals as goal

pub returns-clause-whole : goal.returns-clause-whole
returns-clause-whole c = whole_values

pub returns-clause-ended : goal.returns-clause-ended
returns-clause-ended c = values_so_far
