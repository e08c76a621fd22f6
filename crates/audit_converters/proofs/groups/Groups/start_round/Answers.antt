use Rattle.audit_converters.proofs.Terms.{ap, begun, GroupKept, None, Stands, subst, with_round, with_waiting, ◌∙◌}
use Rattle.audit_converters.proofs.groups.Groups.start_round.Goals as goal

pub returns-clause-is : goal.returns-clause-is
returns-clause-is c w s at h =
    let g = c.args.group in
    subst (λ r. Stands c.set_round.new.self (with_round (with_waiting s g None) c.args.unit r)) (c.begun.ensures w at ∙ ap (λ (x : GroupKept). begun w g x.waiting) (c.at-found.ensures.is s h))
    (c.set_round.ensures.is (with_waiting s g None) (c.set_waiting.ensures.is s h))
