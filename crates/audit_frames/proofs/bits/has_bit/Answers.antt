-- A bit past the last one isn't set.
use Rattle.std.proofs.Common.{sym, ◌<◌, ◌^◌, arith}
use Rattle.mcal_base.proofs.BitLaws.{has_bit-above}
use Rattle.audit_frames.proofs.bits.has_bit.Goals as goal

pub returns-else-number-lt64 : goal.returns-else-number-lt64
returns-else-number-lt64 c =
    let fits : c.args.mask < 2 ^ 64 = omega arith in sym (has_bit-above c.args.mask 64 c.args.number fits c.if-number-lt64.false)
