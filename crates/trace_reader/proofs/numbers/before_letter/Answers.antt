use Rattle.std.proofs.Common.{ap, take, ℕ}
use Rattle.trace_reader.specs.Numbers.{is_letter}
use Rattle.trace_reader.proofs.Cuts.{rest_from}
use Rattle.trace_reader.proofs.numbers.before_letter.Goals as goal

pub returns-clause-front : goal.returns-clause-front
returns-clause-front c = ap (λ (n : ℕ). take n c.args.word.now) c.letter_place-place.ensures.place

pub returns-clause-rest : goal.returns-clause-rest
returns-clause-rest c = rest_from is_letter c.args.word.now c.letter_place-place.result c.letter_place-place.ensures.place
