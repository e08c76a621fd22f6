use Rattle.audit_modules.proofs.Below.{same_values}
use Rattle.audit_modules.proofs.outputs.has_output.Goals as goal

pub returns : goal.returns
returns c w e = same_values c.is_same.result c.pulse_level.result c.level.result _ _ c.pulse_level.ensures (c.level.ensures w e) c.is_same.ensures
