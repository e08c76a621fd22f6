-- The first place by the library's words: no byte before it is the one that is looked for.
use Rattle.std.proofs.Common.{◌≡◌, ℕ, ◌==◌, List, Option, None, Some, sym, arith}
use Rattle.std.specs.List.{position}
use Rattle.memchr.specs.Find.{IsFirstByte, is_byte}
use Rattle.mcal_base.specs.facts.Lists.{first_place, no_place}
use Rattle.bench_script.proofs.lines.place_of.Goals as goal

at_first : (byte : ℕ) (text : List ℕ) (r : Option ℕ) → IsFirstByte (is_byte byte) text r → r ≡ position (λ b. b == byte) text
at_first byte text None none = sym (no_place (λ b. b == byte) text 0 (λ k lt. none k (omega arith) lt))
at_first byte text (Some k) (there, passes) = sym (first_place (λ b. b == byte) text k 0 there.high (λ j lt. there.before j (omega arith) lt) passes)

pub returns-clause-place : goal.returns-clause-place
returns-clause-place c = at_first c.args.byte c.args.text.now c.memchr.result c.memchr.ensures
