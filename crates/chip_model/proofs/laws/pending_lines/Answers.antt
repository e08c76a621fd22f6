-- Proved over the definitions.
use Rattle.chip_model.proofs.PinLaws.{line-timer, line-pulse, line-capture, line-converter, line-serial, line-trigger}
use Rattle.chip_model.proofs.laws.pending_lines.Goals as goal

pub returns : goal.returns
returns _ = record { timer = line-timer; pulse = line-pulse; capture = line-capture; converter = line-converter; serial = line-serial; trigger = line-trigger }
