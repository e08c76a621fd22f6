-- The laws are proved over the definitions.
use Rattle.chip_blocks.proofs.of_units.PortLaws.{put-in, flip-in}
use Rattle.chip_blocks.proofs.units.laws.latch_of_a_pin_that_is_in.Goals as goal

pub returns : goal.returns
returns _ = record { put = put-in; flip = flip-in }
