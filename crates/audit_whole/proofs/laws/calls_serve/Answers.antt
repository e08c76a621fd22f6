use Rattle.audit_whole.specs.laws.Services.{serves}
use Rattle.audit_whole.proofs.laws.calls_serve.Goals as goal

pub returns : goal.returns
returns c t d outputs r = serves r
