-- Proved over the definitions.
use Rattle.chip_model.proofs.DeviceLaws.{devices-left}
use Rattle.chip_model.proofs.laws.devices_left.Goals as goal

pub returns : goal.returns
returns _ = devices-left
