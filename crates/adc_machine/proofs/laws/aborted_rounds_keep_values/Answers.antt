use Rattle.adc_machine.proofs.Aborted.{abort_leaves}
use Rattle.adc_machine.proofs.laws.aborted_rounds_keep_values.Goals as goal

pub returns : goal.returns
returns c = abort_leaves
