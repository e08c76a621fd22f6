use Rattle.std.proofs.Common.{ap, subst, sym, ◌∙◌, None}
use Rattle.audit_base.specs.Comes.{ComesIf}
use Rattle.audit_captures.specs.Stands.{CapturesKept, StandsFor}
use Rattle.audit_captures.proofs.ServeLaws.{serves-on, serves-off}
use Rattle.audit_captures.proofs.captures.Captures.serve_on.Goals as goal

pub returns-then-initialised-clause-is : goal.returns-then-initialised-clause-is
returns-then-initialised-clause-is c s known h =
    let on = sym h.initialised ∙ (sym (ap (λ (t : CapturesKept). t.initialised) c.self.view_is) ∙ c.if-initialised.true) in
    subst (λ o. ComesIf (StandsFor c.serve_edge.new.self) c.serve_edge.result o) (sym (serves-on c.args.channel s c.args.number on)) (c.serve_edge.ensures.is s known h)

pub returns-else-initialised-clause-is : goal.returns-else-initialised-clause-is
returns-else-initialised-clause-is c s known h =
    let off = sym h.initialised ∙ (sym (ap (λ (t : CapturesKept). t.initialised) c.self.view_is) ∙ c.if-initialised.false) in
    subst (λ o. ComesIf (StandsFor c.args.self.now) None o) (sym (serves-off c.args.channel s c.args.number off)) tt
