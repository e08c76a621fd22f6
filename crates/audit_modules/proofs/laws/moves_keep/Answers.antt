-- Moves keep what chip and machines agree in.
use Rattle.audit_modules.proofs.Keeping.{arrays_kept, outputs_kept, rests_kept}
use Rattle.audit_modules.proofs.laws.moves_keep.Goals as goal

pub returns : goal.returns
returns c = record { outputs = outputs_kept; arrays = arrays_kept; rests = rests_kept }
