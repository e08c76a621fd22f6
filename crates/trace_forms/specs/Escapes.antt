-- How a text is written so that a reader of the form reads it as its characters.
use Rattle.std.specs.Prelude.{IsTrue, ℕ, ◌==◌, ◌&&◌, not, nat_le, Bool, List, [], ◌∷◌, ◌++◌, codes, decimal, flat_map, if◌then◌else◌}

-- stands for itself on a page, between quotes too
abbrev pub is_plain : ℕ → Bool
is_plain b = (nat_le 32 b && nat_le b 126) && (not (b == 38) && (not (b == 60) && (not (b == 62) && (not (b == 34) && not (b == 39)))))

abbrev pub escape : ℕ → List ℕ
escape b = if is_plain b then b ∷ [] else codes "&#" ++ (decimal b ++ codes ";")

abbrev pub escaped : List ℕ → List ℕ
escaped text = flat_map escape text

-- What a reader of pages reads: a plain character as itself, a reference as the character of its number.
pub data Reads : List ℕ → List ℕ → Type 0 where
  nothing : Reads [] []
  as_itself : (b : ℕ) (written text : List ℕ) → IsTrue (is_plain b) → Reads written text → Reads (b ∷ written) (b ∷ text)
  by_number : (b : ℕ) (written text : List ℕ) → Reads written text → Reads (codes "&#" ++ (decimal b ++ (codes ";" ++ written))) (b ∷ text)
