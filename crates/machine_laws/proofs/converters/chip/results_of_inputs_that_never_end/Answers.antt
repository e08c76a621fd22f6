use Rattle.machine_laws.proofs.RoundLaws.{result_past, result_aborted}
use Rattle.machine_laws.proofs.converters.chip.results_of_inputs_that_never_end.Goals as goal

pub returns-clause-past : goal.returns-clause-past
returns-clause-past _ = result_past

pub returns-clause-aborted : goal.returns-clause-aborted
returns-clause-aborted _ = result_aborted
