use Rattle.audit_converters.proofs.Terms.{ap, group_at, GroupKept}
use Rattle.audit_converters.proofs.groups.Groups.choose.Goals as goal

pub returns-clause-is : goal.returns-clause-is
returns-clause-is c s h =
    let x = group_at s c.args.group in
    c.set.ensures.is s (record x { chosen = c.args.buffer }) h (ap (λ (y : GroupKept). record y { chosen = c.args.buffer }) (c.at-found.ensures.is s h))
