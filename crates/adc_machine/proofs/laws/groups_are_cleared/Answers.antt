use Rattle.adc_machine.proofs.Cleared.{init_clears, init_begins, deinit_clears, deinit_ends}
use Rattle.adc_machine.proofs.laws.groups_are_cleared.Goals as goal

pub returns-clause-init : goal.returns-clause-init
returns-clause-init c = init_clears

pub returns-clause-begun : goal.returns-clause-begun
returns-clause-begun c = init_begins

pub returns-clause-deinit : goal.returns-clause-deinit
returns-clause-deinit c = deinit_clears

pub returns-clause-ended : goal.returns-clause-ended
returns-clause-ended c = deinit_ends
