-- Eight bits and eight more don't overlap.
use Rattle.std.proofs.Common.{◌≡◌, ◌<◌, ◌%◌, ◌*◌, arith, true, false}
use Rattle.std.proofs.lemmas.Nat.{or_shifted}
use Rattle.mcal_base.proofs.BitLaws.{bits_of-lt}
use Rattle.chip_blocks.specs.pulses.Pulses.{flags_to, is_flagged, pulse_at}
use Rattle.chip_blocks.proofs.pulses.block.PulseBlock.edge_flags.Goals as goal

pub returns : goal.returns
returns c =
    let b = c.args.self.now in
    let low : flags_to true b < 256 = bits_of-lt (λ k. is_flagged true (pulse_at b k) b.time) 8 in
    let high : flags_to false b < 256 = bits_of-lt (λ k. is_flagged false (pulse_at b k) b.time) 8 in
    let fits : flags_to false b * 256 % 4294967296 ≡ flags_to false b * 256 = omega (arith, high) in
    rw (c.flags_to.ensures, c.flags_to-2.ensures, fits) (or_shifted (flags_to false b) 8 (flags_to true b) low)
