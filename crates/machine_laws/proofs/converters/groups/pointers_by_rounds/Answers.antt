use Rattle.adc_machine.specs.Machine.{acts}
use Rattle.adc_machine.specs.declared.call.Call.TheVariants.{Group}
use Rattle.adc_machine.specs.declared.call.GroupCall.TheVariants.{StartGroupConversion, EnableHardwareTrigger}
use Rattle.machine_laws.proofs.GroupLaws.{pointer_of, first_started, first_enabled}
use Rattle.machine_laws.proofs.converters.groups.pointers_by_rounds.Goals as goal

pub returns-clause-started : goal.returns-clause-started
returns-clause-started _ d s g run told lt left quiet ne = pointer_of d g (acts d s (Group g StartGroupConversion)).state run (first_started d s g told lt) lt left quiet ne

pub returns-clause-enabled : goal.returns-clause-enabled
returns-clause-enabled _ d s g run told lt left quiet ne = pointer_of d g (acts d s (Group g EnableHardwareTrigger)).state run (first_enabled d s g told lt) lt left quiet ne
