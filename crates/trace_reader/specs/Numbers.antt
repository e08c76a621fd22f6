-- The numbers that words hold: what digits give, and where a word is cut between letters and digits.
use Rattle.std.specs.Prelude.{ℕ, ◌+◌, ◌-◌, ◌*◌, min, not, nat_lt, take, drop, List, [], ◌∷◌, Bool, Option, Some, None, if◌then◌else◌}
use Rattle.std.specs.Char.{is_ascii_digit}
use Rattle.std.specs.List.{position_or_len}

-- the number that digits give after a number, where it is below 2 to the 32
abbrev pub number_from : ℕ → List ℕ → Option ℕ
number_from n [] = if nat_lt n 4294967296 then Some n else None
number_from n (b ∷ bs) = if is_ascii_digit b then number_from (min (n * 10 + (b - 48)) 4294967296) bs else None

-- the number that digits are; 0 where there are none
abbrev pub number : List ℕ → Option ℕ
number word = number_from 0 word

-- a word up to its first byte that passes
abbrev pub front : (ℕ → Bool) → List ℕ → List ℕ
front p word = take (position_or_len p word) word

-- and the rest
abbrev pub rest : (ℕ → Bool) → List ℕ → List ℕ
rest p word = drop (position_or_len p word) word

-- is no digit
abbrev pub is_letter : ℕ → Bool
is_letter b = not (is_ascii_digit b)
