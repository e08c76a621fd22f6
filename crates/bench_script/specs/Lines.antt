-- The parts of a bench file, the lines of a text, and the words of a line.
use Rattle.std.specs.Prelude.{ℕ, ◌==◌, ◌&&◌, ◌||◌, not, nat_le, List, [], ◌∷◌, ◌++◌, length, Bool, filter, Option, Some, None, option_map, codes, bytes_eq, if◌then◌else◌}
use Rattle.std.specs.List.{list_all, before_first, slice_split, join_with_byte}
use Rattle.std.specs.Str.Lines.{strip_carriage_return}

-- is a line of this text
abbrev pub is_line : (mark : List ℕ) → List ℕ → Bool
is_line mark line = bytes_eq line mark

-- What stands before the first line that is the mark, and what stands after it, of a text cut at its line feeds: the parts before that one, each with its line feed, and those after it.
-- Only a part before a line feed loses its carriage return.
abbrev pub split_parts : (mark : List ℕ) → List (List ℕ) → Option (List ℕ × List ℕ)
split_parts mark [] = None
split_parts mark (part ∷ []) = if is_line mark part then Some ([], []) else None
split_parts mark (part ∷ next ∷ parts) =
    if is_line mark (strip_carriage_return part) then Some ([], join_with_byte 10 (next ∷ parts))
    else option_map (λ p. (part ++ 10 ∷ p.0, p.1)) (split_parts mark (next ∷ parts))

-- the same of a text
abbrev pub split_at : (mark text : List ℕ) → Option (List ℕ × List ℕ)
split_at mark text = split_parts mark (slice_split (λ b. b == 10) text)

-- is the line that ends the configuration
abbrev pub is_separator : List ℕ → Bool
is_separator line = is_line (codes "---") line

-- the configuration and the script of a bench file, also of one that is cut at its line feeds
abbrev pub file_of_parts : List (List ℕ) → Option (List ℕ × List ℕ)
file_of_parts parts = split_parts (codes "---") parts

abbrev pub file : List ℕ → Option (List ℕ × List ℕ)
file text = split_at (codes "---") text

-- what stands before a comment
abbrev pub before_comment : List ℕ → List ℕ
before_comment line = before_first (λ b. b == 35) line

-- may stand before a comment
abbrev pub is_plain : ℕ → Bool
is_plain b = (nat_le 32 b && nat_le b 126) || b == 9

-- each byte may stand before a comment
abbrev pub is_text : List ℕ → Bool
is_text text = list_all is_plain text

-- stands between words
abbrev pub is_blank : ℕ → Bool
is_blank b = b == 32 || b == 9

-- the words of a text
abbrev pub words_of : List ℕ → List (List ℕ)
words_of text = filter (λ w. not (length w == 0)) (slice_split is_blank text)
