use Rattle.audit_converters.proofs.Terms.{ap, cond, is_some, Stands, subst, sym, true, with_mark, ◌∙◌}
use Rattle.audit_converters.proofs.groups.Groups.pulse.Goals as goal

pub returns-then-is_some-clause-is : goal.returns-then-is_some-clause-is
returns-then-is_some-clause-is c s h =
    subst (λ b. Stands c.set_mark.new.self (cond b (with_mark s c.args.input true) s)) (sym c.if-is_some.true ∙ (c.is_some.ensures ∙ ap is_some (c.listener.ensures s h))) (c.set_mark.ensures.is s h)

pub returns-else-is_some-clause-is : goal.returns-else-is_some-clause-is
returns-else-is_some-clause-is c s h =
    subst (λ b. Stands c.args.self.now (cond b (with_mark s c.args.input true) s)) (sym c.if-is_some.false ∙ (c.is_some.ensures ∙ ap is_some (c.listener.ensures s h))) h
