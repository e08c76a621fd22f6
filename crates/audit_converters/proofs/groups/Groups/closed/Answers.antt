use Rattle.audit_converters.proofs.Terms.{ap, GroupKept, kept_of, untouched}
use Rattle.audit_converters.proofs.groups.Groups.closed.Goals as goal

pub returns-clause-is : goal.returns-clause-is
returns-clause-is c s h = ap (λ (x : GroupKept). record (kept_of untouched) { chosen = x.chosen }) (c.at-found.ensures.is s h)
