-- The line is the first's where one of its objects uses it.
use Rattle.std.proofs.Common.{sym, ◌∙◌}
use Rattle.audit_subject.specs.Joining.{first_has, second_has}
use Rattle.audit_subject.proofs.both.BothSubject.line_steps.Goals as goal

pub returns-then-has_line : goal.returns-then-has_line
returns-then-has_line g c =
    let t = g.A.Part.table c.args.self.now.first in
    c.line_steps.ensures ∙ sym (first_has (g.A.Subject.setting t) (g.A.Part.member t) c.args.line _ _ (g.met.A.Subject.member_is t) (sym c.if-has_line.ensures))

pub returns-else-has_line : goal.returns-else-has_line
returns-else-has_line g c =
    let t = g.A.Part.table c.args.self.now.first in
    c.line_steps-else-has_line.ensures ∙ sym (second_has (g.A.Subject.setting t) (g.A.Part.member t) c.args.line _ _ (g.met.A.Subject.member_is t) (sym c.if-has_line.ensures))
