use Rattle.module_machines.proofs.of_pwm.DropLaws.{enabling_drops, disabling_drops, serving_drops}
use Rattle.module_machines.proofs.pwm.laws.marks_are_dropped.Goals as goal

pub returns-clause-enabling : goal.returns-clause-enabling
returns-clause-enabling c = enabling_drops

pub returns-clause-disabling : goal.returns-clause-disabling
returns-clause-disabling c = disabling_drops

pub returns-clause-serving : goal.returns-clause-serving
returns-clause-serving c = serving_drops
