use Rattle.audit_converters.proofs.Terms.{Kept, set_groups, skip_groups, Stands, subst, sym, with_group}
use Rattle.audit_converters.proofs.groups.Groups.set.Goals as goal

pub returns-then-number-lt16-clause-is : goal.returns-then-number-lt16-clause-is
returns-then-number-lt16-clause-is c s x h e =
    let v = subst (λ (k : Kept). Stands k s) (sym c.self.view_is) h in
    record { initialised = v.initialised; groups = set_groups c.self.inside.groups s c.args.number c.args.group x c.self.invariant.0 c.if-number-lt16.true v.groups e; units = v.units; marks = v.marks; requests = v.requests }

pub returns-else-number-lt16-clause-is : goal.returns-else-number-lt16-clause-is
returns-else-number-lt16-clause-is c s x h e =
    let v = subst (λ (k : Kept). Stands k s) (sym c.self.view_is) h in
    subst (λ (k : Kept). Stands k (with_group s c.args.number x)) c.self.view_is (record { initialised = v.initialised; groups = skip_groups c.self.inside.groups s c.args.number x c.self.invariant.0 c.if-number-lt16.false v.groups; units = v.units; marks = v.marks; requests = v.requests })
