use Rattle.std.proofs.Common.{◌≡◌}
use Rattle.mcal_base.specs.Bits.{bits_of}
use Rattle.chip_blocks.specs.pulses.Pulses.{pulse_at, is_flagged}
use Rattle.chip_blocks.proofs.pulses.block.PulseBlock.flags_to.Given as goal

abbrev pub invariant-loop-channel : goal.invariant-loop-channel
invariant-loop-channel l = l.bits ≡ bits_of (λ c. is_flagged l.to (pulse_at l.self c) l.self.time) l.channel
