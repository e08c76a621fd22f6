use Rattle.audit_converters.proofs.Terms.{cond, requested, requested_unless_turn, Stands, subst, sym, ◌∙◌}
use Rattle.audit_converters.proofs.groups.Groups.request_unless_turn.Goals as goal

pub returns-then-not-has_turn-clause-is : goal.returns-then-not-has_turn-clause-is
returns-then-not-has_turn-clause-is c s h =
    subst (λ g. Stands c.request.new.self (requested_unless_turn s g)) (sym c.in-Some.is)
    (subst (λ b. Stands c.request.new.self (cond b s (requested s c.in-Some.group))) (sym c.if-not-has_turn.true ∙ c.has_turn.ensures s h) (c.request.ensures.is s h))
