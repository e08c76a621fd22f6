use Rattle.module_machines.proofs.of_pwm.StateLaws.{disabled_stays_off, deinit_stays_off}
use Rattle.module_machines.proofs.pwm.laws.no_mark_while_off.Goals as goal

pub returns-clause-disabled : goal.returns-clause-disabled
returns-clause-disabled _ = disabled_stays_off

pub returns-clause-deinitialised : goal.returns-clause-deinitialised
returns-clause-deinitialised _ = deinit_stays_off
