-- A bit past the last one isn't set.
use Rattle.std.proofs.Common.{sym, ◌<◌, ◌^◌, arith}
use Rattle.mcal_base.proofs.BitLaws.{has_bit-above}
use Rattle.adc_groups.proofs.words.has.Goals as goal

pub returns-else-place-lt32 : goal.returns-else-place-lt32
returns-else-place-lt32 c =
    let fits : c.args.bits < 2 ^ 32 = omega arith in sym (has_bit-above c.args.bits 32 c.args.place fits c.if-place-lt32.false)
