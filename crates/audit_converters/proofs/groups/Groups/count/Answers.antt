use Rattle.audit_converters.proofs.Terms.{arith, Kept, Stands, subst, sym, within_more}
use Rattle.audit_converters.proofs.groups.Groups.count.Goals as goal

pub invariant_of-self : goal.invariant_of-self
invariant_of-self c = let i = c.self.invariant in (i.0, i.1, i.2, omega (arith, i.3), within_more c.self.inside.events c.self.inside.groups i.4)

pub returns-clause-is : goal.returns-clause-is
returns-clause-is c s h =
    let v = subst (λ (k : Kept). Stands k s) (sym c.self.view_is) h in
    record { initialised = v.initialised; groups = v.groups; units = v.units; marks = v.marks; requests = v.requests }
