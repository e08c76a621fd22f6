use Rattle.std.proofs.Common.{ap, sym, ◌∙◌, arith}
use Rattle.std.specs.Prelude.{not}
use Rattle.trace_reader.specs.Numbers.{is_letter}
use Rattle.trace_reader.proofs.Cuts.{passes_here, passes_nowhere}
use Rattle.trace_reader.proofs.numbers.letter_place.Goals as goal

pub returns-then-not-is_ascii_digit-clause-place : goal.returns-then-not-is_ascii_digit-clause-place
returns-then-not-is_ascii_digit-clause-place c = passes_here is_letter c.args.word.now c.loop-place.place (omega arith) c.loop-place.invariant (ap not (sym c.is_ascii_digit.ensures.value ∙ c.if-not-is_ascii_digit.true))

pub returns-clause-place : goal.returns-clause-place
returns-clause-place c = passes_nowhere is_letter c.args.word.now (λ i l. c.loop-place.invariant i (omega arith))
