use Rattle.std.proofs.Common.{subst}
use Rattle.module_machines.specs.dio.Machine.{does_by}
use Rattle.audit_base.specs.Comes.{Gives}
use Rattle.audit_clock.specs.PinStands.{StandsFor}
use Rattle.audit_clock.specs.PortPins.{pins_seeing}
use Rattle.audit_clock.proofs.ports.Ports.act.Goals as goal

pub returns-in-Some-clause-is : goal.returns-in-Some-clause-is
returns-in-Some-clause-is c w s outputs around stands =
    subst (λ x. Gives (StandsFor c.work.new.pins) c.work.result (does_by (pins_seeing outputs) w s c.args.call x)) c.in-Some.ensures.is (c.work.ensures.is w s outputs around stands)
