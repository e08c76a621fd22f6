use Rattle.audit_converters.proofs.Terms.{ap, group_of, is_on, ◌&&◌, ◌∙◌}
use Rattle.audit_converters.proofs.groups.Groups.takes.Goals as goal

pub returns : goal.returns
returns c s h =
    c.both.ensures
    ∙ (ap (λ b. b && c.is_under_way-under_way.result) c.is_on-on.ensures
    ∙ ap (λ b. is_on c.args.unit (group_of c.args.table.now c.args.group) && b) (c.is_under_way-under_way.ensures s h))
