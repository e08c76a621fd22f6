-- What two outcomes tell, line by line.
use Rattle.std.proofs.Common.{◌≡◌, ◌≢◌, ◌&&◌, ℕ, ◌+◌, ◌<◌, ◌≤◌, Bool, true, false, List, [], ◌∷◌, length, get_or, drop, suc, refl, sym, ap, ap₂, ◌∙◌}
use Rattle.std.proofs.lemmas.Bool.{and_left, and_right}
use Rattle.std.proofs.lemmas.List.{drop_all, drop_more}
use Rattle.bench_sweep.specs.declared.outcomes.Told.{Told}
use Rattle.bench_sweep.specs.Outcomes.{are_told, is_told}

-- where one tells more lines than the other
pub told_apart : (xs ys : List Told) → length xs ≢ length ys → are_told xs ys ≡ false
told_apart [] [] n = absurd (n refl)
told_apart [] (y ∷ ys) n = refl
told_apart (x ∷ xs) [] n = refl
told_apart (x ∷ xs) (y ∷ ys) n = and_right (is_told x y) (are_told xs ys) (told_apart xs ys (λ e. n (ap suc e)))

-- from a line on: the two that stand there, and those behind them
pub told_more : (xs ys : List Told) (i : ℕ) (x y : Told) → i < length xs → i < length ys → x ≡ get_or xs i x → y ≡ get_or ys i y → are_told (drop i xs) (drop i ys) ≡ (is_told x y && are_told (drop (i + 1) xs) (drop (i + 1) ys))
told_more xs ys i x y l m e f =
    let a : drop i xs ≡ x ∷ drop (i + 1) xs = drop_more xs i x l ∙ ap (λ (z : Told). z ∷ drop (i + 1) xs) (sym e) in
    let b : drop i ys ≡ y ∷ drop (i + 1) ys = drop_more ys i y m ∙ ap (λ (z : Told). z ∷ drop (i + 1) ys) (sym f) in
    ap₂ are_told a b

pub told_on : (xs ys : List Told) (i : ℕ) (x y : Told) → i < length xs → i < length ys → x ≡ get_or xs i x → y ≡ get_or ys i y → is_told x y ≡ true → are_told (drop i xs) (drop i ys) ≡ are_told (drop (i + 1) xs) (drop (i + 1) ys)
told_on xs ys i x y l m e f h = told_more xs ys i x y l m e f ∙ ap (λ (b : Bool). b && are_told (drop (i + 1) xs) (drop (i + 1) ys)) h

pub told_off : (xs ys : List Told) (i : ℕ) (x y : Told) → i < length xs → i < length ys → x ≡ get_or xs i x → y ≡ get_or ys i y → is_told x y ≡ false → are_told (drop i xs) (drop i ys) ≡ false
told_off xs ys i x y l m e f h = told_more xs ys i x y l m e f ∙ and_left (is_told x y) (are_told (drop (i + 1) xs) (drop (i + 1) ys)) h

pub told_all : (xs ys : List Told) (i : ℕ) → length xs ≤ i → length ys ≤ i → are_told (drop i xs) (drop i ys) ≡ true
told_all xs ys i l m = ap₂ are_told (drop_all i xs l) (drop_all i ys m)
