-- Outcomes: what the lines of the file printed in a run, and which of them are the same.
use Rattle.std.specs.Prelude.{◌≡◌, ◌≢◌, ℕ, ◌<◌, ◌==◌, ◌&&◌, ◌++◌, Bool, true, false, List, [], ◌∷◌, Option, Some, None, map, slice_get, bytes_eq, string_bytes}
use Rattle.std.specs.List.{position}
use Rattle.bench_sweep.specs.Lines.{or_length}
use Rattle.bench_sweep.specs.declared.outcomes.Outcome.{Outcome}
use Rattle.bench_sweep.specs.declared.outcomes.Told.{Told}

-- two say the same
abbrev pub is_told : Told → Told → Bool
is_told a b = a.line == b.line && bytes_eq (string_bytes a.text) (string_bytes b.text)

-- line by line they say the same
abbrev pub are_told : List Told → List Told → Bool
are_told [] [] = true
are_told (x ∷ xs) (y ∷ ys) = is_told x y && are_told xs ys
are_told xs ys = false

-- two outcomes are the same
abbrev pub is_same : Outcome → Outcome → Bool
is_same a b = are_told a.told.items b.told.items

-- where an outcome stands among others, or would stand behind them
abbrev pub number_of : Outcome → List Outcome → ℕ
number_of outcome all = or_length all (position (λ other. is_same other outcome) all)

-- outcomes with one that was found there, or with one more
abbrev pub with_found : Outcome → List Outcome → Option ℕ → List Outcome
with_found outcome all (Some place) = all
with_found outcome all None = all ++ outcome ∷ []

-- outcomes with one more, where that is new
abbrev pub with_outcome : Outcome → List Outcome → List Outcome
with_outcome outcome all = with_found outcome all (position (λ other. is_same other outcome) all)

-- what some lines of the file printed
abbrev pub told_in : List Told → List (ℕ × List ℕ)
told_in all = map (λ t. (t.line, string_bytes t.text)) all

-- what an outcome tells: the lines of the file that printed something, each with what it printed
abbrev pub telling : Outcome → List (ℕ × List ℕ)
telling outcome = told_in outcome.told.items

-- the outcome of a number tells this
abbrev pub Tells : List Outcome → ℕ → List (ℕ × List ℕ) → Type 0
Tells all number told = (outcome : Outcome) × (slice_get all number ≡ Some outcome) × (telling outcome ≡ told)

-- outcomes of different numbers tell different things
abbrev pub AreDifferent : List Outcome → Type 0
AreDifferent all = (i j : ℕ) (a b : Outcome) → i < j → slice_get all i ≡ Some a → slice_get all j ≡ Some b → telling a ≢ telling b
