use Rattle.audit_converters.proofs.Terms.{ap, group_of, GroupKept, has_input, ◌&&◌, ◌∙◌}
use Rattle.audit_converters.proofs.groups.Groups.listens.Goals as goal

pub returns : goal.returns
returns c s h =
    c.both.ensures
    ∙ (ap (λ b. b && c.at-found.result.trigger) c.has_input-triggers.ensures
    ∙ ap (λ b. has_input c.args.input (group_of c.args.table.now c.args.group) && b) (ap (λ (x : GroupKept). x.trigger) (c.at-found.ensures.is s h)))
