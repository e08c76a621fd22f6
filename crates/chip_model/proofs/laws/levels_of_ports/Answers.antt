-- Proved over the definitions.
use Rattle.std.proofs.Common.{◌+◌, ◌*◌, refl}
use Rattle.mcal_base.proofs.BitLaws.{has_bit-bits_of}
use Rattle.chip_blocks.proofs.of_units.PortLaws.{flip-named, flip-other, flip-in}
use Rattle.chip_model.specs.Chip.{pin_of}
use Rattle.chip_model.proofs.laws.levels_of_ports.Goals as goal

pub returns : goal.returns
returns _ = record {
  port = λ c q k lt. has_bit-bits_of (λ i. pin_of c (8 * q + i)) 8 k lt;
  value = λ c p received. refl;
  flips = λ c p received. flip-named c.pins p;
  others = λ c p q received. flip-other c.pins p q;
  inside = λ c p received. flip-in c.pins p p;
}
