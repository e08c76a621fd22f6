use Rattle.std.proofs.Common.{refl}
use Rattle.audit_captures.proofs.part.CapturesPart.reset.Goals as goal

pub returns-clause-comes : goal.returns-clause-comes
returns-clause-comes c w s stands = record { told = refl; wordless = refl; kept = c.reset.ensures.is }
