-- The name of an input, as a title has it.
use Rattle.std.specs.Prelude.{ℕ, ◌&&◌, min, nat_le, Bool, List, [], ◌∷◌, ◌++◌, length, take, drop, replicate, codes, flat_map, if◌then◌else◌}
use Rattle.trace_lanes.specs.declared.input_name.InputName.{InputName}

-- how many bytes of a text are kept: all of 60, and 58 of more
abbrev pub kept : List ℕ → ℕ
kept text = if nat_le (length text) 60 then length text else 58

-- 60 dots, the first of which are replaced by those that are kept
abbrev pub name_of : List ℕ → InputName
name_of text = record { letters = take (kept text) text ++ drop (kept text) (replicate 60 46); count = min (length text) 60 }

-- one of the printed letters of ASCII
abbrev pub is_printed : ℕ → Bool
is_printed b = nat_le 32 b && nat_le b 126

-- a question mark stands for a byte that is not printed
abbrev pub letter : ℕ → List ℕ
letter b = if is_printed b then b ∷ [] else codes "?"

abbrev pub name_text : InputName → List ℕ
name_text name = flat_map letter (take (min name.count 60) name.letters)
