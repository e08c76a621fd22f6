-- The line is the first's where one of its objects uses it.
use Rattle.std.proofs.Common.{Bool, sym, ◌∙◌, ap}
use Rattle.mcal_base.specs.declared.moves.Move.{Move}
use Rattle.run_model.specs.Frame.{Entered}
use Rattle.audit_subject.specs.Joining.{first_has, second_has}
use Rattle.audit_subject.proofs.both.BothSubject.line_may.Goals as goal

pub returns-then-has_line : goal.returns-then-has_line
returns-then-has_line g c =
    let t = g.A.Part.table c.args.self.now.first in
    let own = g.A.Subject.setting t in
    let other = g.B.Subject.setting (g.B.Part.table c.args.self.now.second) in
    c.line_may.ensures ∙ sym (ap (λ (f : Move → Bool). f c.args.made.now) (first_has own (g.A.Part.member t) c.args.line (own.may (Entered c.args.line)) (other.may (Entered c.args.line)) (g.met.A.Subject.member_is t) (sym c.if-has_line.ensures)))

pub returns-else-has_line : goal.returns-else-has_line
returns-else-has_line g c =
    let t = g.A.Part.table c.args.self.now.first in
    let own = g.A.Subject.setting t in
    let other = g.B.Subject.setting (g.B.Part.table c.args.self.now.second) in
    c.line_may-else-has_line.ensures ∙ sym (ap (λ (f : Move → Bool). f c.args.made.now) (second_has own (g.A.Part.member t) c.args.line (own.may (Entered c.args.line)) (other.may (Entered c.args.line)) (g.met.A.Subject.member_is t) (sym c.if-has_line.ensures)))
