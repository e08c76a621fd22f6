use Rattle.std.proofs.Common.{◌≡◌, ◌<◌, ℕ, false, get_or}
use Rattle.std.specs.Char.{is_ascii_digit}
use Rattle.trace_reader.proofs.numbers.digit_place.Given as goal

abbrev pub invariant-loop-place : goal.invariant-loop-place
invariant-loop-place l = (i : ℕ) → i < l.place → is_ascii_digit (get_or l.word i 0) ≡ false
