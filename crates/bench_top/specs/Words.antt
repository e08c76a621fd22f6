-- The forms of the words of a command line.
use Rattle.std.specs.Prelude.{ℕ, ◌&&◌, nat_le, List, [], ◌∷◌, Bool, false, Option, Some, None, option_map, codes, bytes_eq, if◌then◌else◌}
use Rattle.std.specs.List.{list_all}
use Rattle.std.specs.Char.{is_digit}
use Rattle.std.specs.Str.Parse.{digits_value}
use Rattle.bench_top.specs.declared.words.Form.{Form}
use Rattle.bench_top.specs.declared.words.Form.TheVariants.{File, Gen, Audit}
use Rattle.bench_top.specs.declared.words.Printing.TheVariants.{Plain, Traced, Tail}
use Rattle.bench_top.specs.declared.words.Task.TheVariants.{Check, Run}

-- the form of one word
abbrev pub one_word : List ℕ → Option Form
one_word word =
    if bytes_eq word (codes "check") then Some (File Check) else if bytes_eq word (codes "run") then Some (File (Run Plain))
    else if bytes_eq word (codes "audit") then Some Audit else None

-- the form of two words
abbrev pub two_words : List ℕ → List ℕ → Option Form
two_words word option = if bytes_eq word (codes "run") then (if bytes_eq option (codes "--trace") then Some (File (Run Traced)) else None) else None

-- is one decimal digit or more
abbrev pub is_decimal : List ℕ → Bool
is_decimal [] = false
is_decimal (b ∷ bs) = list_all (λ c. is_digit c 10) (b ∷ bs)

-- the number lies between these, they included
abbrev pub is_between : (least most : ℕ) → ℕ → Bool
is_between least most n = nat_le least n && nat_le n most

-- the number that a word writes, where it lies between these: decimal digits, with zeros in front or without
abbrev pub number_between : (least most : ℕ) → List ℕ → Option ℕ
number_between least most word = if is_decimal word && is_between least most (digits_value 10 word) then Some (digits_value 10 word) else None

-- a tail of so many lines
abbrev pub tail_of : List ℕ → Option Form
tail_of lines = option_map (λ n. File (Run (Tail n))) (number_between 1 10000 lines)

-- a bench generated from this seed, with so many directives
abbrev pub generated_of : Option ℕ → Option ℕ → Option Form
generated_of (Some seed) (Some count) = Some (Gen seed count)
generated_of seed count = None

-- the form of three words
abbrev pub three_words : List ℕ → List ℕ → List ℕ → Option Form
three_words word first second =
    if bytes_eq word (codes "run") then (if bytes_eq first (codes "--tail") then tail_of second else None)
    else if bytes_eq word (codes "gen") then generated_of (number_between 0 4294967295 first) (number_between 8 20000 second) else None

-- the form, where the words are of one
abbrev pub form_of : List (List ℕ) → Option Form
form_of (word ∷ []) = one_word word
form_of (word ∷ option ∷ []) = two_words word option
form_of (word ∷ first ∷ second ∷ []) = three_words word first second
form_of _ = None
