-- What the lines of a sweep's script ask for.
use Rattle.std.specs.Prelude.{ℕ, ◌-◌, ◌==◌, ◌||◌, nat_le, Bool, List, [], ◌∷◌, Option, Some, None, length, take, drop, reverse, if◌then◌else◌}
use Rattle.std.specs.List.{onto_first, position}
use Rattle.std.specs.Str.Lines.{strip_carriage_return}

-- a place, or the length where there is none
abbrev pub or_length : {X : Type 0} → List X → Option ℕ → ℕ
or_length xs (Some place) = place
or_length xs None = length xs

-- the length of the part of a text before the first such byte, or of all of it where none is there
abbrev pub length_before : ℕ → List ℕ → ℕ
length_before byte text = or_length text (position (λ b. b == byte) text)

-- the lines of a text, each without its line feed
abbrev pub lines_in : List ℕ → List (List ℕ)
lines_in [] = []
lines_in (b ∷ bs) = if b == 10 then [] ∷ lines_in bs else onto_first b (lines_in bs)

-- the line of a number, from 1: an empty one where there is none
abbrev pub line_at : ℕ → List (List ℕ) → List ℕ
line_at number [] = []
line_at number (line ∷ lines) = if nat_le number 1 then line else line_at (number - 1) lines

-- stands around what a line asks for
abbrev pub is_blank : ℕ → Bool
is_blank b = b == 32 || b == 9

-- from the first byte on that is no blank
abbrev pub from_first_word : List ℕ → List ℕ
from_first_word [] = []
from_first_word (b ∷ bs) = if is_blank b then from_first_word bs else b ∷ bs

-- up to the last byte that is no blank
abbrev pub up_to_last_word : List ℕ → List ℕ
up_to_last_word text = reverse (from_first_word (reverse text))

-- what stands before a comment
abbrev pub before_comment : List ℕ → List ℕ
before_comment line = take (length_before 35 line) line

-- what a line asks for: its text before a comment, without the blanks around it
abbrev pub asked : List ℕ → List ℕ
asked line = up_to_last_word (from_first_word (before_comment (strip_carriage_return line)))

-- the length of the first word of a text that begins with it
abbrev pub word_length : List ℕ → ℕ
word_length text = or_length text (position is_blank text)

-- the first word of a text that begins with it
abbrev pub first_word : List ℕ → List ℕ
first_word text = take (word_length text) text

-- what stands behind the first word, from the next one on
abbrev pub behind_word : List ℕ → List ℕ
behind_word text = from_first_word (drop (word_length text) text)

-- what the line of a number asks for
abbrev pub asked_at : ℕ → List ℕ → List ℕ
asked_at number text = asked (line_at number (lines_in text))
