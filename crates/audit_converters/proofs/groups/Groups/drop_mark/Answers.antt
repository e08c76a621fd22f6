use Rattle.audit_converters.proofs.Terms.{Stands, subst, sym, without_mark}
use Rattle.audit_converters.proofs.groups.Groups.drop_mark.Goals as goal

pub returns-in-Some-clause-is : goal.returns-in-Some-clause-is
returns-in-Some-clause-is c s h = subst (λ i. Stands c.set_mark.new.self (without_mark s i)) (sym c.in-Some.is) (c.set_mark.ensures.is s h)
