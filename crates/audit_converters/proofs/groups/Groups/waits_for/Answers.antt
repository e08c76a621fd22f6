use Rattle.audit_converters.proofs.Terms.{ap, group_of, GroupKept, is_on, is_some, ◌&&◌, ◌∙◌}
use Rattle.audit_converters.proofs.groups.Groups.waits_for.Goals as goal

pub returns : goal.returns
returns c s h =
    c.both.ensures
    ∙ (ap (λ b. b && c.waits-waits.result) c.is_on-on.ensures
    ∙ ap (λ b. is_on c.args.unit (group_of c.args.table.now c.args.group) && b) (c.waits-waits.ensures ∙ ap (λ (x : GroupKept). is_some x.waiting) (c.at.ensures.is s h)))
