use Rattle.module_machines.proofs.of_icu.CallLaws.{init_clears, deinit_clears}
use Rattle.module_machines.proofs.icu.laws.channels_are_cleared.Goals as goal

pub returns-clause-init : goal.returns-clause-init
returns-clause-init c = init_clears

pub returns-clause-deinit : goal.returns-clause-deinit
returns-clause-deinit c = deinit_clears
