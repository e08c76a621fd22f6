use Rattle.adc_machine.proofs.Rest.{module_rests}
use Rattle.adc_machine.proofs.laws.uninitialised_modules_rest.Goals as goal

pub returns : goal.returns
returns c = module_rests
