-- Eight bits, shifted by sixteen, fit.
use Rattle.std.proofs.Common.{◌<◌, arith}
use Rattle.mcal_base.proofs.BitLaws.{bits_of-lt}
use Rattle.chip_blocks.specs.captures.Captures.{waiting_channels, is_waiting, capture_at}
use Rattle.chip_blocks.proofs.captures.block.CaptureBlock.flags.Goals as goal

pub returns : goal.returns
returns c =
    let b = c.args.self.now in
    let few : waiting_channels b < 256 = bits_of-lt (λ k. is_waiting (capture_at b k)) 8 in
    omega (arith, few, c.waiting_channels.ensures)
