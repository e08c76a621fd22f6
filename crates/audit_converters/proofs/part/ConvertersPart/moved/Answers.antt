use Rattle.std.proofs.Common.{subst, sym}
use Rattle.run_model.specs.Machine.{Moves, tells_nothing}
use Rattle.adc_machine.specs.Machine.{happens}
use Rattle.audit_base.specs.Comes.{Comes}
use Rattle.audit_converters.specs.Stands.{StandsFor}
use Rattle.audit_converters.proofs.part.ConvertersPart.moved.Goals as goal

pub returns-in-Trigger-clause-comes : goal.returns-in-Trigger-clause-comes
returns-in-Trigger-clause-comes c w s at stands =
    subst (λ order. Comes (StandsFor c.pulse.new.self) tells_nothing (happens c.args.self.now.table w s (Moves order))) (sym c.in-Trigger.is) (c.pulse.ensures.is w s stands)
