use Rattle.audit_converters.proofs.Terms.{ap, group_at, GroupKept, under_way_by, ◌∙◌}
use Rattle.audit_converters.proofs.groups.Groups.is_under_way.Goals as goal

pub returns : goal.returns
returns c s h =
    let x = group_at s c.args.group in
    c.is_under_way.ensures
    ∙ (ap (λ (y : GroupKept). under_way_by y.status c.has_turn-turn.result y.trigger) (c.at-found.ensures.is s h)
    ∙ ap (λ t. under_way_by x.status t x.trigger) (c.has_turn-turn.ensures s h))
