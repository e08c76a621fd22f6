use Rattle.std.proofs.Common.{◌≡◌, ap, subst, ◌∙◌}
use Rattle.run_model.specs.Machine.{Starts}
use Rattle.spi_machine.specs.Machine.{happens}
use Rattle.audit_base.proofs.Leaves.{word_follows}
use Rattle.audit_base.specs.Deeds.{Follows}
use Rattle.std.specs.Prelude.{option_copied}
use Rattle.audit_serial.specs.Stands.{state_of}
use Rattle.audit_serial.proofs.part.SerialsPart.start.Goals as goal

pub returns-clause-follows : goal.returns-clause-follows
returns-clause-follows c w s at stands =
    let x = state_of c.start.new.self in
    let k = c.args.self.now in
    subst (λ y. Follows (λ z. x ≡ z) y c.if_begun.result (happens k.configured.table w y (Starts c.args.unit (option_copied c.args.by) c.args.received))) stands
    (word_follows x (state_of k) c.in_ok-begun.begun c.if_begun.result _ c.if_begun.ensures (c.in_ok-begun.ensures.is w at.now ∙ ap (λ o. happens k.configured.table w (state_of k) (Starts c.args.unit o c.args.received)) c.copied.ensures) (λ e. ap state_of (c.in_ok-begun.ensures.unchanged e)))
