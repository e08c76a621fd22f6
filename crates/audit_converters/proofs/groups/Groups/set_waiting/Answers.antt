use Rattle.audit_converters.proofs.Terms.{ap, group_at, GroupKept, option_map, request_as}
use Rattle.audit_converters.proofs.groups.Groups.set_waiting.Goals as goal

pub returns-clause-is : goal.returns-clause-is
returns-clause-is c s h =
    let waiting = option_map request_as c.args.waiting in
    c.set.ensures.is s (record (group_at s c.args.number) { waiting = waiting }) h (ap (λ (x : GroupKept). record x { waiting = waiting }) (c.at-group.ensures.is s h))
