use Rattle.std.proofs.Common.{sym, ◌∙◌}
use Rattle.trace_reader.proofs.Fronts.{digit_alone, first_of, zero_alone}
use Rattle.trace_reader.proofs.front.number_behind.Goals as goal

pub returns-then-digit-eq48 : goal.returns-then-digit-eq48
returns-then-digit-eq48 c = zero_alone c.args.digit c.args.text.now c.if-digit-eq48.true

pub returns-then-is_ascii_digit : goal.returns-then-is_ascii_digit
returns-then-is_ascii_digit c =
    first_of (λ w. w.now) _ _ c.more_digits.result (digit_alone c.args.digit c.args.text.now (sym c.is_ascii_digit.ensures.value ∙ c.if-is_ascii_digit.true)) c.more_digits.ensures
