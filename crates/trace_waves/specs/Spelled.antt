-- How a word of value changes is written, which ends at a space.
use Rattle.std.specs.Prelude.{ℕ, ◌/◌, ◌%◌, ◌==◌, ◌&&◌, not, nat_le, Bool, List, [], ◌∷◌, ◌++◌, codes, decimal, flat_map, if◌then◌else◌}

abbrev pub is_word : ℕ → Bool
is_word b = (nat_le 33 b && nat_le b 126) && not (b == 92)

abbrev pub octal : ℕ → List ℕ
octal b = decimal (b / 64 % 8) ++ (decimal (b / 8 % 8) ++ decimal (b % 8))

abbrev pub spell : ℕ → List ℕ
spell b = if is_word b then b ∷ [] else codes "\\" ++ octal b

abbrev pub spelled : List ℕ → List ℕ
spelled text = flat_map spell text
