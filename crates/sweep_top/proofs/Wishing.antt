-- What words ask for, word by word.
use Rattle.std.proofs.Common.{◌≡◌, ◌≤◌, ◌-◌, ◌∙◌, ℕ, Bool, List, [], ◌∷◌, true, false, Option, Some, None, arith, drop, get_or, length, map, refl, sym, take, ap}
use Rattle.std.specs.Prelude.{String, option_and_then, string_bytes, if◌then◌else◌}
use Rattle.std.specs.declared.alloc.Global.{Global}
use Rattle.std.proofs.lemmas.List.{take_all}
use Rattle.sweep_top.specs.Wishes.{asked_behind, takes_word, with_both, with_flag}
use Rattle.sweep_top.specs.declared.words.Asked.{Asked}

as_it_is : (o : Option Asked) → o ≡ option_and_then (λ a. Some a) o
as_it_is None = refl
as_it_is (Some a) = refl

-- what one word asks for, and what two and those behind do, where the first one takes the one behind it, and else
abbrev by_one : Asked → List ℕ → Bool → Option Asked
by_one asked word takes = if takes then None else with_flag asked word

abbrev by_two : (asked : Asked) (word next : List ℕ) → List (List ℕ) → Bool → Option Asked
by_two asked word next words takes = if takes then option_and_then (λ a. asked_behind a words) (with_both asked word next) else option_and_then (λ a. asked_behind a (next ∷ words)) (with_flag asked word)

flag : (asked : Asked) (word : List ℕ) (words : List (List ℕ)) → takes_word word ≡ false → asked_behind asked (word ∷ words) ≡ option_and_then (λ a. asked_behind a words) (with_flag asked word)
flag asked word [] e = ap (by_one asked word) e ∙ as_it_is (with_flag asked word)
flag asked word (next ∷ words) e = ap (by_two asked word next words) e

-- a word that stands alone
pub flag_none : (asked : Asked) (word : List ℕ) (words : List (List ℕ)) → takes_word word ≡ false → with_flag asked word ≡ None → asked_behind asked (word ∷ words) ≡ None
flag_none asked word words e n = flag asked word words e ∙ ap (option_and_then (λ a. asked_behind a words)) n

pub flag_some : (asked more : Asked) (word : List ℕ) (words : List (List ℕ)) → takes_word word ≡ false → with_flag asked word ≡ Some more → asked_behind asked (word ∷ words) ≡ asked_behind more words
flag_some asked more word words e s = flag asked word words e ∙ ap (option_and_then (λ a. asked_behind a words)) s

both : (asked : Asked) (word next : List ℕ) (words : List (List ℕ)) → takes_word word ≡ true → asked_behind asked (word ∷ next ∷ words) ≡ option_and_then (λ a. asked_behind a words) (with_both asked word next)
both asked word next words e = ap (by_two asked word next words) e

-- a word that takes the one behind it
pub both_none : (asked : Asked) (word next : List ℕ) (words : List (List ℕ)) → takes_word word ≡ true → with_both asked word next ≡ None → asked_behind asked (word ∷ next ∷ words) ≡ None
both_none asked word next words e n = both asked word next words e ∙ ap (option_and_then (λ a. asked_behind a words)) n

pub both_some : (asked more : Asked) (word next : List ℕ) (words : List (List ℕ)) → takes_word word ≡ true → with_both asked word next ≡ Some more → asked_behind asked (word ∷ next ∷ words) ≡ asked_behind more words
both_some asked more word next words e s = both asked word next words e ∙ ap (option_and_then (λ a. asked_behind a words)) s

-- the first of some words is taken, and the others are left
pub both_first : (asked more : Asked) (word : List ℕ) (words : List (String Global)) (next : String Global) → 1 ≤ length words → next ≡ get_or words 0 next → takes_word word ≡ true → with_both asked word (string_bytes next) ≡ Some more
    → (asked_behind asked (word ∷ map string_bytes words) ≡ asked_behind more (map string_bytes (take (length words - 1) (drop 1 words)))) × (length (take (length words - 1) (drop 1 words)) ≤ length words)
both_first asked more word [] next some is takes e = absurd (omega (arith, some))
both_first asked more word (x ∷ words) next some is takes e =
    let rest : List (String Global) = take (length (x ∷ words) - 1) words in
    let all : rest ≡ words = take_all (length (x ∷ words) - 1) words (omega arith) in
    let same : with_both asked word (string_bytes x) ≡ Some more = ap (λ (w : String Global). with_both asked word (string_bytes w)) (sym is) ∙ e in
    (both_some asked more word (string_bytes x) (map string_bytes words) takes same ∙ ap (λ (ws : List (String Global)). asked_behind more (map string_bytes ws)) (sym all), omega (arith, ap length all))

-- and has none
pub both_lone : (asked : Asked) (word : List ℕ) → takes_word word ≡ true → asked_behind asked (word ∷ []) ≡ None
both_lone asked word e = ap (by_one asked word) e
