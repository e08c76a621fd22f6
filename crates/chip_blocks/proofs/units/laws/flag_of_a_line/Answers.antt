-- The laws are proved over the definitions.
use Rattle.chip_blocks.proofs.of_units.SerialLaws.{flag-first, flag-second}
use Rattle.chip_blocks.proofs.units.laws.flag_of_a_line.Goals as goal

pub returns : goal.returns
returns _ = record { first = flag-first; second = flag-second }
