-- The four flags stay four.
use Rattle.std.proofs.Common.{ℕ, ◌*◌, ◌%◌, ◌^◌, ◌<◌, arith}
use Rattle.std.specs.Prelude.{bit_or}
use Rattle.std.proofs.lemmas.Nat.{or_lt}
use Rattle.std.proofs.Math.Pow.{pow-lt}
use Rattle.mcal_base.proofs.BitLaws.{one_shifted}
use Rattle.chip_blocks.proofs.converter.block.ConverterBlock.trigger.Goals as goal

four : (pulses input : ℕ) → pulses < 2 ^ 4 → input < 4 → bit_or pulses (1 * 2 ^ input % 2 ^ 32) < 2 ^ 4
four pulses input fits there =
    let within : input < 32 = omega arith in
    rw (one_shifted input within) (or_lt 4 pulses (2 ^ input) fits (pow-lt {i = input} {j = 4} there))

pub invariant_of-self : goal.invariant_of-self
invariant_of-self c = (c.self.invariant.0, four c.self.inside.pulses c.args.input c.self.invariant.1 c.if-input-lt-TRIGGERS.true)
