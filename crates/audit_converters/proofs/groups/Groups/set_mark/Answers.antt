use Rattle.audit_converters.proofs.Terms.{Kept, set_marks, skip_marks, Stands, subst, sym, with_mark}
use Rattle.audit_converters.proofs.groups.Groups.set_mark.Goals as goal

pub returns-then-input-lt4-clause-is : goal.returns-then-input-lt4-clause-is
returns-then-input-lt4-clause-is c s h =
    let v = subst (λ (k : Kept). Stands k s) (sym c.self.view_is) h in
    record { initialised = v.initialised; groups = v.groups; units = v.units; marks = set_marks c.self.inside.marks s c.args.input c.args.mark c.self.invariant.2 c.if-input-lt4.true v.marks; requests = v.requests }

pub returns-else-input-lt4-clause-is : goal.returns-else-input-lt4-clause-is
returns-else-input-lt4-clause-is c s h =
    let v = subst (λ (k : Kept). Stands k s) (sym c.self.view_is) h in
    subst (λ (k : Kept). Stands k (with_mark s c.args.input c.args.mark)) c.self.view_is (record { initialised = v.initialised; groups = v.groups; units = v.units; marks = skip_marks c.self.inside.marks s c.args.input c.args.mark c.self.invariant.2 c.if-input-lt4.false v.marks; requests = v.requests })
