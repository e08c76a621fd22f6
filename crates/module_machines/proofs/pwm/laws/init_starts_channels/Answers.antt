use Rattle.std.proofs.Common.{ap}
use Rattle.module_machines.specs.pwm.Machine.{Pulse}
use Rattle.module_machines.proofs.of_pwm.StateLaws.{init_on, init_starts, init_level}
use Rattle.module_machines.proofs.pwm.laws.init_starts_channels.Goals as goal

pub returns-clause-initialised : goal.returns-clause-initialised
returns-clause-initialised _ = init_on

pub returns-clause-level : goal.returns-clause-level
returns-clause-level _ = init_level

pub returns-clause-period : goal.returns-clause-period
returns-clause-period _ d w s c k committed off there = ap (λ (x : Pulse). x.period) (init_starts d w s c k committed off there)

pub returns-clause-off : goal.returns-clause-off
returns-clause-off _ d w s c k committed off there = ap (λ (x : Pulse). x.notified) (init_starts d w s c k committed off there)
