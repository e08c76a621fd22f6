use Rattle.std.proofs.Common.{ap, sym, ◌||◌, ◌∙◌}
use Rattle.spi_machine.specs.Bounds.{may}
use Rattle.audit_serial.proofs.Framed.{never_waits}
use Rattle.audit_serial.proofs.subject.SerialsSubject.line_may.Goals as goal

pub returns : goal.returns
returns c =
    let d = c.args.self.now.configured.table in
    c.may.ensures ∙ (ap (λ k. may k c.args.made.now) c.table.ensures ∙ sym (ap (λ b. b || may d c.args.made.now) (never_waits d c.args.made.now c.args._line)))
