-- Eight bits, shifted by eight, fit.
use Rattle.std.proofs.Common.{◌<◌, arith}
use Rattle.mcal_base.proofs.BitLaws.{bits_of-lt}
use Rattle.chip_blocks.specs.pulses.Pulses.{due_channels, is_due}
use Rattle.chip_blocks.proofs.pulses.block.PulseBlock.flags.Goals as goal

pub returns : goal.returns
returns c =
    let b = c.args.self.now in
    let few : due_channels b < 256 = bits_of-lt (λ k. is_due b k) 8 in
    omega (arith, few, c.due_channels.ensures)
