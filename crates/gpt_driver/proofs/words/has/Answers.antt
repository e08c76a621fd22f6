-- A bit past the last one isn't set.
use Rattle.std.proofs.Common.{sym, ◌<◌, ◌^◌, arith}
use Rattle.mcal_base.proofs.BitLaws.{has_bit-above}
use Rattle.gpt_driver.proofs.words.has.Goals as goal

pub returns-else-channel-lt32 : goal.returns-else-channel-lt32
returns-else-channel-lt32 c =
    let fits : c.args.bits < 2 ^ 32 = omega arith in sym (has_bit-above c.args.bits 32 c.args.channel fits c.if-channel-lt32.false)
