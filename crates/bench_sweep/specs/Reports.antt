-- What the report of a flat script tells of the lines of the file from which its directives came.
use Rattle.std.specs.Prelude.{ℕ, zero, suc, ◌+◌, ◌-◌, ◌*◌, ◌==◌, ◌&&◌, ◌++◌, nat_le, nat_lt, List, [], ◌∷◌, Option, Some, None, Bool, length, slice_get, bytes_eq, codes, if◌then◌else◌}
use Rattle.std.specs.List.{after_first, before_first, position_or_len}
use Rattle.std.specs.Str.Lines.{lines}

-- a decimal digit
abbrev pub is_digit : ℕ → Bool
is_digit b = nat_le 48 b && nat_le b 57

-- a number with the digits of a word behind it: none where the word has another byte, or more digits than any line has
abbrev pub number_on : ℕ → List ℕ → Option ℕ
number_on n [] = Some n
number_on n (b ∷ bs) = if is_digit b && nat_le n 1000000000 then number_on (n * 10 + (b - 48)) bs else None

-- the line of the file from which the directive of a number came, from 1
abbrev pub line_at : List ℕ → ℕ → Option ℕ
line_at lines zero = None
line_at lines (suc n) = slice_get lines n

abbrev pub line_of : List ℕ → Option ℕ → Option ℕ
line_of lines None = None
line_of lines (Some n) = line_at lines n

-- a text beside its line
abbrev pub beside : Option ℕ → List ℕ → Option (ℕ × List ℕ)
beside None text = None
beside (Some line) text = Some (line, text)

abbrev pub is_space : ℕ → Bool
is_space b = b == 32

-- The line of the file that a line of a report speaks of, and what it says: behind the number of the directive. The last line
-- of a report is of no directive.
abbrev pub told_at_line : List ℕ → List ℕ → Option (ℕ × List ℕ)
told_at_line lines text =
    if nat_lt (position_or_len is_space text) (length text)
    then beside (line_of lines (number_on 0 (before_first is_space text))) (after_first is_space text)
    else None

-- what lines of the file told, with one printed line more; the lines rise
abbrev pub with_told : ℕ → List ℕ → List (ℕ × List ℕ) → List (ℕ × List ℕ)
with_told line text [] = (line, text ++ 10 ∷ []) ∷ []
with_told line text (t ∷ ts) =
    if nat_le line t.0
    then (if t.0 == line then (line, t.1 ++ text ++ 10 ∷ []) ∷ ts else (line, text ++ 10 ∷ []) ∷ t ∷ ts)
    else t ∷ with_told line text ts

-- the same, unless the printed line says no more than that something was done
abbrev pub told_more : Option (ℕ × List ℕ) → List (ℕ × List ℕ) → List (ℕ × List ℕ)
told_more None told = told
told_more (Some t) told = if bytes_eq t.1 (codes "ok") then told else with_told t.0 t.1 told

-- what some lines of a report tell, behind what was told
abbrev pub told_behind : List ℕ → List (ℕ × List ℕ) → List (List ℕ) → List (ℕ × List ℕ)
told_behind lines told [] = told
told_behind lines told (text ∷ texts) = told_behind lines (told_more (told_at_line lines text) told) texts

-- what a report tells: the lines of the file that printed something, each with what it printed
abbrev pub telling_of : List ℕ → List ℕ → List (ℕ × List ℕ)
telling_of from report = told_behind from [] (lines report)
