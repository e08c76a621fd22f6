use Rattle.std.proofs.Common.{◌∙◌, refl}
use Rattle.trace_reader.proofs.registers.converter.Goals as goal

pub returns : goal.returns
returns c = c.chosen.ensures ∙ rw (c.min-unit.ensures, c.min-place.ensures) refl
