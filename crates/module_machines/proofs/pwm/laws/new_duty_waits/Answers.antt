use Rattle.module_machines.proofs.of_pwm.WaitLaws.{starts_at_end, starts_at_its_end}
use Rattle.module_machines.proofs.pwm.laws.new_duty_waits.Goals as goal

pub returns-clause-running : goal.returns-clause-running
returns-clause-running _ = starts_at_end

pub returns-clause-taken_over : goal.returns-clause-taken_over
returns-clause-taken_over _ = starts_at_its_end
