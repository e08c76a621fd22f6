use Rattle.std.proofs.Common.{◌≡◌, ap, subst}
use Rattle.std.specs.Prelude.{IfOk}
use Rattle.run_model.specs.Machine.{Serves}
use Rattle.spi_machine.specs.Machine.{happens}
use Rattle.audit_base.proofs.Leaves.{done_follows}
use Rattle.audit_base.proofs.Products.{if_ok_both}
use Rattle.audit_base.specs.Deeds.{Follows}
use Rattle.audit_serial.specs.Stands.{state_of}
use Rattle.audit_serial.proofs.part.SerialsPart.serve.Goals as goal

pub returns-clause-follows : goal.returns-clause-follows
returns-clause-follows c w s at stands =
    let x = state_of c.serve.new.self in
    let k = c.args.self.now in
    subst (λ y. IfOk c.serve.result (λ d. Follows (λ z. x ≡ z) y d (happens k.configured.table w y (Serves c.args.line c.args.received)))) stands
    (if_ok_both c.serve.result (λ d e same. done_follows x (state_of k) d _ e (λ none. ap state_of (same none))) (c.serve.ensures.is w at.now) c.serve.ensures.unchanged)
