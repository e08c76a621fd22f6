-- A read script can be audited.
use Rattle.report_audit.proofs.ReadLaws.{can_audit}
use Rattle.report_audit.proofs.laws.read_scripts_can_be_audited.Goals as goal

pub returns : goal.returns
returns c has_service text directives all few is = can_audit has_service all text directives few is
