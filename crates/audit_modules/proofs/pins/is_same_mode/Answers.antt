use Rattle.std.proofs.Common.{ap}
use Rattle.audit_frames.proofs.Deciding.{worded}
use Rattle.audit_modules.specs.Agrees.{mode_number}
use Rattle.audit_modules.proofs.Below.{same_words}
use Rattle.audit_modules.proofs.Joining.{named_once}
use Rattle.audit_modules.proofs.pins.is_same_mode.Goals as goal

pub returns : goal.returns
returns c = worded (named_once c.args.first c.args.second) (λ e. ap mode_number e) (same_words c.mode_number.result c.mode_number-2.result (mode_number c.args.first) (mode_number c.args.second) c.mode_number.ensures c.mode_number-2.ensures)
