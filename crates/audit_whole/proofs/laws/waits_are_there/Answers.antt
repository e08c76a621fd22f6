use Rattle.audit_whole.specs.laws.Waits.{any_waits}
use Rattle.audit_whole.proofs.laws.waits_are_there.Goals as goal

pub returns : goal.returns
returns c t d outputs o u e = any_waits t o u e
