use Rattle.audit_converters.proofs.Terms.{ap, group_at, GroupKept}
use Rattle.audit_converters.proofs.groups.Groups.notify.Goals as goal

pub returns-clause-is : goal.returns-clause-is
returns-clause-is c s h =
    let x = group_at s c.args.group in
    c.set.ensures.is s (record x { notification = c.args.notification }) h (ap (λ (y : GroupKept). record y { notification = c.args.notification }) (c.at-found.ensures.is s h))
