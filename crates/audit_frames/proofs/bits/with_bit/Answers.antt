-- One more bit, where the mask has such a one.
use Rattle.std.proofs.Common.{sym, ◌∙◌, ap, ◌^◌}
use Rattle.std.specs.Prelude.{bit_or, if◌then◌else◌}
use Rattle.std.proofs.lemmas.Nat.{one_shl}
use Rattle.mcal_base.specs.facts.Numbers.{lt_from, lt_since}
use Rattle.audit_frames.proofs.bits.with_bit.Goals as goal

pub returns-then-number-lt64 : goal.returns-then-number-lt64
returns-then-number-lt64 c =
    ap (λ n. bit_or c.args.mask n) (one_shl c.args.number 64 c.if-number-lt64.true)
    ∙ ap (λ b. if b then bit_or c.args.mask (2 ^ c.args.number) else c.args.mask) (sym (lt_from c.args.number 64 c.if-number-lt64.true))

pub returns-else-number-lt64 : goal.returns-else-number-lt64
returns-else-number-lt64 c = ap (λ b. if b then bit_or c.args.mask (2 ^ c.args.number) else c.args.mask) (sym (lt_since c.args.number 64 c.if-number-lt64.false))
