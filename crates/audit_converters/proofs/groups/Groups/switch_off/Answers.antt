use Rattle.audit_converters.proofs.Terms.{ap, false, group_at, GroupKept, Stands, subst, with_group, without_mark}
use Rattle.audit_converters.proofs.groups.Groups.switch_off.Goals as goal

pub returns-clause-is : goal.returns-clause-is
returns-clause-is c s h =
    let g = c.args.group in
    let off = with_group s g (record (group_at s g) { trigger = false }) in
    subst (λ i. Stands c.drop_mark.new.self (without_mark off i)) c.trigger_of.ensures
    (c.drop_mark.ensures.is off (c.set.ensures.is s (record (group_at s g) { trigger = false }) h (ap (λ (x : GroupKept). record x { trigger = false }) (c.at-found.ensures.is s h))))
