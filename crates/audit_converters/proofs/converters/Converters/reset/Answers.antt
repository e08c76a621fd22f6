use Rattle.audit_converters.proofs.Terms.{refl}
use Rattle.audit_converters.proofs.converters.Converters.reset.Goals as goal

pub returns-clause-is : goal.returns-clause-is
returns-clause-is c w s reason = record { told = refl; wordless = refl; kept = record { groups = c.reset.ensures.is; results = c.clear.ensures } }
