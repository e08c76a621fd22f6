use Rattle.adc_machine.proofs.Read.{read_leaves, pointer_leaves}
use Rattle.adc_machine.proofs.laws.reads_change_the_status.Goals as goal

pub returns-clause-read : goal.returns-clause-read
returns-clause-read c = read_leaves

pub returns-clause-pointer : goal.returns-clause-pointer
returns-clause-pointer c = pointer_leaves
