-- The laws are proved over the definitions.
use Rattle.chip_blocks.proofs.of_converter.StateLaws.{flag-first, flag-second, flag-pulse}
use Rattle.chip_blocks.proofs.converter.laws.flag_of_a_line.Goals as goal

pub returns : goal.returns
returns _ = record { first = flag-first; second = flag-second; pulse = flag-pulse }
