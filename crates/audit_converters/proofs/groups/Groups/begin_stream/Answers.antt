use Rattle.audit_converters.proofs.Terms.{ap, Busy, group_at, GroupKept, []}
use Rattle.audit_converters.proofs.groups.Groups.begin_stream.Goals as goal

pub returns-clause-is : goal.returns-clause-is
returns-clause-is c s h =
    c.set.ensures.is s (record (group_at s c.args.group) { status = Busy; rounds = []; trigger = c.args.trigger }) h
    (ap (λ (y : GroupKept). record y { status = Busy; trigger = c.args.trigger; count = 0; newest = [] }) (c.at-found.ensures.is s h))
