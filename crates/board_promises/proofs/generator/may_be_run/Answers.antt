use Rattle.board_promises.proofs.Generated.{generated_is_script, generated_offered, generated_length}
use Rattle.board_promises.proofs.generator.may_be_run.Goals as goal

pub returns-clause-script : goal.returns-clause-script
returns-clause-script c = generated_is_script

pub returns-clause-offered : goal.returns-clause-offered
returns-clause-offered c = generated_offered

pub returns-clause-count : goal.returns-clause-count
returns-clause-count c = generated_length
