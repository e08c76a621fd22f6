use Rattle.module_machines.proofs.of_pwm.ChangeLaws.{rises, does_rise, falls, does_fall, differs, does_differ}
use Rattle.module_machines.proofs.pwm.laws.kinds_of_changes.Goals as goal

pub returns-clause-rising : goal.returns-clause-rising
returns-clause-rising _ before after = (rises before after, does_rise before after)

pub returns-clause-falling : goal.returns-clause-falling
returns-clause-falling _ before after = (falls before after, does_fall before after)

pub returns-clause-both : goal.returns-clause-both
returns-clause-both _ before after = (differs before after, does_differ before after)
