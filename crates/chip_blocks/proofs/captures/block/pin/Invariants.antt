use Rattle.std.proofs.Common.{◌≡◌, drop}
use Rattle.chip_blocks.specs.captures.Captures as spec
use Rattle.chip_blocks.proofs.captures.block.pin.Given as goal

abbrev pub invariant-loop-channel : goal.invariant-loop-channel
invariant-loop-channel l = spec.pin_in l.channels l.number ≡ spec.pin_in (drop l.channel-index l.channels) l.number
