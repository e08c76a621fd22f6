-- The first line of a text, byte by byte, as the reader of lines takes it.
use Rattle.std.specs.Prelude.{ℕ, ◌+◌, ◌==◌, ◌&&◌, not, nat_le, List, [], ◌∷◌, Bool, true, false, Option, Some, None, option_map, if◌then◌else◌}
use Rattle.bench_script.specs.Lines.{before_comment, is_text, words_of}

-- begins with such a byte
abbrev pub begins : (ℕ → Bool) → List ℕ → Bool
begins p [] = false
begins p (b ∷ bs) = p b

-- the first line of a text, without the line feed at its end and a carriage return before that
abbrev pub first_line : List ℕ → List ℕ
first_line [] = []
first_line (b ∷ bs) = if b == 10 then [] else if begins (λ c. c == 10) bs && b == 13 then [] else b ∷ first_line bs

-- what comes after the first line
abbrev pub after_line : List ℕ → List ℕ
after_line [] = []
after_line (b ∷ bs) = if b == 10 then bs else after_line bs

-- the words of a line before its comment, if each byte there is text
abbrev pub words_of_line : List ℕ → Option (List (List ℕ))
words_of_line line = if is_text (before_comment line) then Some (words_of (before_comment line)) else None

-- the words of the first line of a text
abbrev pub line_words : List ℕ → Option (List (List ℕ))
line_words text = words_of_line (first_line text)

-- stands in words
abbrev pub is_letter : ℕ → Bool
is_letter b = nat_le 33 b && (nat_le b 126 && not (b == 35))

-- a word, unless it is empty, before others
abbrev pub with_word : List ℕ → Option (List (List ℕ)) → Option (List (List ℕ))
with_word [] words = words
with_word (b ∷ bs) words = option_map (λ ws. (b ∷ bs) ∷ ws) words

-- a table of a test: each entry says what the test says of its place, which is so much for the first
abbrev pub is_table : (ℕ → Bool) → ℕ → List Bool → Bool
is_table p place [] = true
is_table p place (x ∷ xs) = (if x then p place else not (p place)) && is_table p (place + 1) xs
