use Rattle.std.proofs.Common.{◌≡◌}
use Rattle.mcal_base.specs.Bits.{bits_of}
use Rattle.chip_blocks.specs.pulses.Pulses.{is_due}
use Rattle.chip_blocks.proofs.pulses.block.PulseBlock.due_channels.Given as goal

abbrev pub invariant-loop-channel : goal.invariant-loop-channel
invariant-loop-channel l = l.bits ≡ bits_of (λ c. is_due l.self c) l.channel
