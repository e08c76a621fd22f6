use Rattle.audit_converters.proofs.Terms.{no_marks, no_rounds, refl, untouched_groups}
use Rattle.audit_converters.proofs.groups.Groups.new.Goals as goal

pub returns-clause-is : goal.returns-clause-is
returns-clause-is c = record { initialised = refl; groups = untouched_groups; units = no_rounds; marks = no_marks; requests = refl }
