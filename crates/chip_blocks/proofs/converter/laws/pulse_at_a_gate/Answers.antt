-- The laws are proved over the definitions.
use Rattle.chip_blocks.proofs.of_converter.StateLaws.{pulse-gated, pulse-ignored}
use Rattle.chip_blocks.proofs.converter.laws.pulse_at_a_gate.Goals as goal

pub returns : goal.returns
returns _ = record { on = pulse-gated; off = pulse-ignored }
