use Rattle.module_machines.proofs.of_pwm.WaitLaws.{at_once, at_once_taken_over}
use Rattle.module_machines.proofs.pwm.laws.new_duty_at_once.Goals as goal

pub returns-clause-running : goal.returns-clause-running
returns-clause-running _ = at_once

pub returns-clause-taken_over : goal.returns-clause-taken_over
returns-clause-taken_over _ = at_once_taken_over
