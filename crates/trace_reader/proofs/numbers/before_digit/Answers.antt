use Rattle.std.proofs.Common.{ap, take, ℕ}
use Rattle.std.specs.Char.{is_ascii_digit}
use Rattle.trace_reader.proofs.Cuts.{rest_from}
use Rattle.trace_reader.proofs.numbers.before_digit.Goals as goal

pub returns-clause-front : goal.returns-clause-front
returns-clause-front c = ap (λ (n : ℕ). take n c.args.word.now) c.digit_place-place.ensures.place

pub returns-clause-rest : goal.returns-clause-rest
returns-clause-rest c = rest_from is_ascii_digit c.args.word.now c.digit_place-place.result c.digit_place-place.ensures.place
