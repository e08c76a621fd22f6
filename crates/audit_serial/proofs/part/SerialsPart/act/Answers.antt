use Rattle.std.proofs.Common.{◌≡◌, ap, subst}
use Rattle.run_model.specs.Machine.{Acts}
use Rattle.spi_machine.specs.Machine.{happens}
use Rattle.audit_base.proofs.Leaves.{serve_follows}
use Rattle.audit_base.specs.Deeds.{Follows}
use Rattle.audit_serial.specs.Stands.{state_of}
use Rattle.audit_serial.proofs.part.SerialsPart.act.Goals as goal

pub returns-clause-follows : goal.returns-clause-follows
returns-clause-follows c w s committed at times stands =
    let x = state_of c.act.new.self in
    let k = c.args.self.now in
    subst (λ y. Follows (λ z. x ≡ z) y c.if_told.result (happens k.configured.table w y (Acts c.args.call.now committed))) stands
    (serve_follows x (state_of k) c.in_ok-told.told c.if_told.result _ c.if_told.ensures (c.in_ok-told.ensures.is w committed at.now) (λ e. ap state_of (c.in_ok-told.ensures.unchanged e)))
