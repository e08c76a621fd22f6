use Rattle.std.proofs.Common.{◌≡◌}
use Rattle.mcal_base.specs.Bits.{bits_of}
use Rattle.chip_blocks.specs.captures.Captures.{capture_at, is_waiting}
use Rattle.chip_blocks.proofs.captures.block.CaptureBlock.waiting_channels.Given as goal

abbrev pub invariant-loop-channel : goal.invariant-loop-channel
invariant-loop-channel l = l.bits ≡ bits_of (λ c. is_waiting (capture_at l.self c)) l.channel
