use Rattle.audit_converters.proofs.Terms.{arith, no_marks, no_rounds, refl, untouched_groups, within_blank}
use Rattle.audit_converters.proofs.groups.Groups.reset.Goals as goal

pub invariant_of-self : goal.invariant_of-self
invariant_of-self c = (refl, refl, refl, omega arith, within_blank 16 c.self.inside.events)

pub returns-clause-is : goal.returns-clause-is
returns-clause-is c = record { initialised = refl; groups = untouched_groups; units = no_rounds; marks = no_marks; requests = refl }
