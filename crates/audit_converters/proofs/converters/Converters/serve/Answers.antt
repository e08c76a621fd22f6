use Rattle.audit_converters.proofs.Terms.{ComesIf, cond, None, served, Some, StandsFor, subst, sym, ◌∙◌}
use Rattle.audit_converters.proofs.converters.Converters.serve.Goals as goal

pub returns-then-ready-clause-is : goal.returns-then-ready-clause-is
returns-then-ready-clause-is c w s received at took h =
    let known = sym (c.ready.ensures w s at h) ∙ c.if-ready.true in
    subst (λ b. ComesIf (StandsFor c.serve_ready.new.self) c.serve_ready.result (cond b (Some (served c.args.self.now.table w s c.args.line)) None)) (sym known) (c.serve_ready.ensures.is w s at took h known)

pub returns-else-ready-clause-is : goal.returns-else-ready-clause-is
returns-else-ready-clause-is c w s received at took h =
    let known = sym (c.ready.ensures w s at h) ∙ c.if-ready.false in
    subst (λ b. ComesIf (StandsFor c.args.self.now) None (cond b (Some (served c.args.self.now.table w s c.args.line)) None)) (sym known) tt
