use Rattle.std.proofs.Common.{sym, ◌∙◌, arith}
use Rattle.std.specs.Char.{is_ascii_digit}
use Rattle.trace_reader.proofs.Cuts.{passes_here, passes_nowhere}
use Rattle.trace_reader.proofs.numbers.digit_place.Goals as goal

pub returns-then-is_ascii_digit-clause-place : goal.returns-then-is_ascii_digit-clause-place
returns-then-is_ascii_digit-clause-place c = passes_here is_ascii_digit c.args.word.now c.loop-place.place (omega arith) c.loop-place.invariant (sym c.is_ascii_digit.ensures.value ∙ c.if-is_ascii_digit.true)

pub returns-clause-place : goal.returns-clause-place
returns-clause-place c = passes_nowhere is_ascii_digit c.args.word.now (λ i l. c.loop-place.invariant i (omega arith))
