use Rattle.module_machines.proofs.of_pwm.StateLaws.{deinit_off, deinit_level}
use Rattle.module_machines.proofs.pwm.laws.deinit_leaves_idle_levels.Goals as goal

pub returns-clause-uninitialised : goal.returns-clause-uninitialised
returns-clause-uninitialised _ = deinit_off

pub returns-clause-level : goal.returns-clause-level
returns-clause-level _ = deinit_level
