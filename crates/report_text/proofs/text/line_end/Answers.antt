-- The first line feed by the library's words: no byte before it is one.
use Rattle.std.proofs.Common.{◌≡◌, ℕ, ◌+◌, ◌==◌, List, [], ◌∷◌, Option, None, Some, arith, take, drop}
use Rattle.std.specs.Prelude.{MatchOption}
use Rattle.memchr.specs.Find.{IsFirstByte, is_byte}
use Rattle.mcal_base.specs.facts.Lists.{first_place, no_place}
use Rattle.trace_reader.specs.Reading.{parts_of}
use Rattle.trace_reader.proofs.Cuts.{cut_here, cut_nowhere}
use Rattle.report_text.proofs.text.line_end.Goals as goal

line_at : (text : List ℕ) (r : Option ℕ) → IsFirstByte (is_byte 10) text r → MatchOption r (parts_of text ≡ text ∷ []) (λ end. parts_of text ≡ take end text ∷ parts_of (drop (end + 1) text))
line_at text None none = cut_nowhere (λ b. b == 10) text (no_place (λ b. b == 10) text 0 (λ k lt. none k (omega arith) lt))
line_at text (Some k) (there, passes) = cut_here (λ b. b == 10) text k (first_place (λ b. b == 10) text k 0 there.high (λ j lt. there.before j (omega arith) lt) passes)

pub returns-clause-line : goal.returns-clause-line
returns-clause-line c = line_at c.args.text.now c.memchr.result c.memchr.ensures
