use Rattle.std.proofs.Common.{◌≡◌, refl, subst}
use Rattle.run_model.specs.Machine.{Restarts, tells_nothing}
use Rattle.spi_machine.specs.Machine.{happens}
use Rattle.audit_base.specs.Comes.{Comes}
use Rattle.audit_serial.specs.Stands.{state_of}
use Rattle.audit_serial.proofs.part.SerialsPart.reset.Goals as goal

pub returns-clause-comes : goal.returns-clause-comes
returns-clause-comes c w s stands =
    let x = state_of c.reset.new.self in
    subst (λ y. Comes (λ z. x ≡ z) tells_nothing (happens c.args.self.now.configured.table w y (Restarts c.args._reason))) stands
    (subst (Comes (λ z. x ≡ z) tells_nothing) (c.reset.ensures.is w c.args._reason) (record { told = refl; wordless = refl; kept = refl }))
