-- Steps of the reader's loops.
use Rattle.std.proofs.Common.{◌≡◌, ℕ, ◌+◌, ◌-◌, ◌*◌, ◌<◌, List, length, drop, get_or, true, false, None, refl, add-one, drop-cons}
use Rattle.std.specs.Prelude.{min}
use Rattle.std.specs.Char.{is_ascii_digit}
use Rattle.trace_reader.specs.Numbers.{number_from}

-- one more digit
pub number_step : (n m i : ℕ) (word : List ℕ) → i < length word → is_ascii_digit (get_or word i 0) ≡ true → m ≡ min (n * 10 + (get_or word i 0 - 48)) 4294967296 → number_from n (drop i word) ≡ number_from m (drop (i + 1) word)
number_step n m i word within here e = rw (add-one, drop-cons word i 0 within, here, e) refl

-- a byte that is no digit
pub number_stop : (n i : ℕ) (word : List ℕ) → i < length word → is_ascii_digit (get_or word i 0) ≡ false → number_from n (drop i word) ≡ None
number_stop n i word within here = rw (drop-cons word i 0 within, here) refl
