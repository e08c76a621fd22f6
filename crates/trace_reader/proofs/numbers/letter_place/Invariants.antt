use Rattle.std.proofs.Common.{◌≡◌, ◌<◌, ℕ, false, get_or}
use Rattle.trace_reader.specs.Numbers.{is_letter}
use Rattle.trace_reader.proofs.numbers.letter_place.Given as goal

abbrev pub invariant-loop-place : goal.invariant-loop-place
invariant-loop-place l = (i : ℕ) → i < l.place → is_letter (get_or l.word i 0) ≡ false
