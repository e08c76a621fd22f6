-- What the words of a sweep's command line ask for.
use Rattle.std.specs.Prelude.{ℕ, ◌==◌, ◌||◌, nat_le, nat_lt, Bool, true, false, List, [], ◌∷◌, Option, Some, None, bytes_eq, codes, is_none, length, option_and_then, if◌then◌else◌}
use Rattle.std.specs.List.{after_first, before_first, position_or_len}
use Rattle.bench_top.specs.Words.{number_between}
use Rattle.sweep_top.specs.declared.words.Asked.{Asked}

-- all places are tried, and the outcomes are printed
abbrev pub asked_nothing : Asked
asked_nothing = record { first = false; all = false; json = false; part = 1; parts = 1; show = None }

-- a number from 1 on
abbrev pub number : List ℕ → Option ℕ
number word = number_between 1 1000000000 word

-- a part of so many
abbrev pub part_by : Asked → Option ℕ → Option ℕ → Option Asked
part_by asked (Some part) (Some parts) = if nat_le part parts then Some (record asked { part = part; parts = parts }) else None
part_by asked part parts = None

abbrev pub is_slash : ℕ → Bool
is_slash b = b == 47

-- a part of the places, as `I/N`
abbrev pub with_part : Asked → List ℕ → Option Asked
with_part asked word = if nat_lt (position_or_len is_slash word) (length word) then part_by asked (number (before_first is_slash word)) (number (after_first is_slash word)) else None

-- the place whose flat script is to be printed
abbrev pub with_place : Asked → Option ℕ → Option Asked
with_place asked None = None
with_place asked (Some place) = Some (record asked { show = Some place })

-- what a word asks for that stands alone
abbrev pub with_flag : Asked → List ℕ → Option Asked
with_flag asked word =
    if bytes_eq word (codes "--first") then Some (record asked { first = true })
    else if bytes_eq word (codes "--all") then Some (record asked { all = true })
    else if bytes_eq word (codes "--json") then Some (record asked { json = true })
    else None

-- what a word asks for with the one behind it
abbrev pub with_both : Asked → List ℕ → List ℕ → Option Asked
with_both asked word next =
    if bytes_eq word (codes "--part") then with_part asked next
    else if bytes_eq word (codes "--show") then with_place asked (number next)
    else None

-- asks for something with the word behind it
abbrev pub takes_word : List ℕ → Bool
takes_word word = bytes_eq word (codes "--part") || bytes_eq word (codes "--show")

-- what words ask for behind others
abbrev pub asked_behind : Asked → List (List ℕ) → Option Asked
asked_behind asked [] = Some asked
asked_behind asked (word ∷ []) = if takes_word word then None else with_flag asked word
asked_behind asked (word ∷ next ∷ words) =
    if takes_word word then option_and_then (λ a. asked_behind a words) (with_both asked word next)
    else option_and_then (λ a. asked_behind a (next ∷ words)) (with_flag asked word)

-- with the place whose flat script is printed nothing else is asked for
abbrev pub shown_alone : ℕ → Asked → Option Asked
shown_alone count asked = if is_none asked.show || count == 2 then Some asked else None

-- what the words ask for, where they are of a form
abbrev pub asked_by : List (List ℕ) → Option Asked
asked_by words = option_and_then (shown_alone (length words)) (asked_behind asked_nothing words)
