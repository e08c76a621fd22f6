-- Proved over the definitions.
use Rattle.chip_model.proofs.PinLaws.{pin-outside, pin-pulse, pin-unnamed, pin-other_mode}
use Rattle.chip_model.proofs.laws.level_of_a_pin.Goals as goal

pub returns : goal.returns
returns _ = record { outside = pin-outside; pulse = pin-pulse; unnamed = pin-unnamed; other_mode = pin-other_mode }
