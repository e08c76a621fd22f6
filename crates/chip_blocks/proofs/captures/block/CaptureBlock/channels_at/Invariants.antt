use Rattle.std.proofs.Common.{◌≡◌}
use Rattle.mcal_base.specs.Bits.{bits_of}
use Rattle.chip_blocks.specs.captures.Captures.{is_pin, pin_of}
use Rattle.chip_blocks.proofs.captures.block.CaptureBlock.channels_at.Given as goal

abbrev pub invariant-loop-channel : goal.invariant-loop-channel
invariant-loop-channel l = l.bits ≡ bits_of (λ c. is_pin (pin_of l.self c) l.pin) l.channel
