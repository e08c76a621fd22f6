-- A list of values by number, made one after another.
use Rattle.std.proofs.Common.{◌≡◌, ℕ, suc, ◌+◌, ◌-◌, ◌<◌, List, [], ◌∷◌, ◌++◌, length, replicate, slice_set, sym, ◌∙◌, ap, arith}
use Rattle.std.specs.Prelude.{map}
use Rattle.std.specs.List.{range_with_len}
use Rattle.std.proofs.Math.Seq.{set-append_seam}
use Rattle.std.proofs.lemmas.List.{append_assoc}
use Rattle.std.proofs.lemmas.List.FromFn.{length-map-range_with_len, map-range_with_len_more}

-- the place after those that are made takes its value
seam : {X : Type 0} (xs : List X) (x y : X) (ys : List X) (n : ℕ) → length xs ≡ n → slice_set (xs ++ x ∷ ys) n y ≡ xs ++ y ∷ ys
seam xs x y ys n e = ap (λ i. slice_set (xs ++ x ∷ ys) i y) (sym e) ∙ set-append_seam xs x ys y

more : {X : Type 0} (f : ℕ → X) (n : ℕ) (ys : List X) → map f (range_with_len 0 n) ++ f n ∷ ys ≡ map f (range_with_len 0 (n + 1)) ++ ys
more f n ys =
    let next : map f (range_with_len 0 (n + 1)) ≡ map f (range_with_len 0 n) ++ f n ∷ [] = map-range_with_len_more f 0 n n (omega arith) in
    sym (ap (λ zs. zs ++ ys) next ∙ append_assoc (map f (range_with_len 0 n)) (f n ∷ []) ys)

left : {X : Type 0} (x : X) (n m : ℕ) → n < m → replicate (m - n) x ≡ x ∷ replicate (m - (n + 1)) x
left x n m lt =
    let e : m - n ≡ suc (m - (n + 1)) = omega arith in
    ap (λ k. replicate k x) e

pub next-made : {X : Type 0} (f : ℕ → X) (x y : X) (n m : ℕ) (xs : List X) → xs ≡ map f (range_with_len 0 n) ++ replicate (m - n) x → n < m → y ≡ f n
    → slice_set xs n y ≡ map f (range_with_len 0 (n + 1)) ++ replicate (m - (n + 1)) x
next-made {X} f x y n m xs made lt is =
    let done : List X = map f (range_with_len 0 n) in
    let rest : List X = replicate (m - (n + 1)) x in
    let at : xs ≡ done ++ x ∷ rest = made ∙ ap (λ ys. done ++ ys) (left x n m lt) in
    ap (λ zs. slice_set zs n y) at ∙ seam done x y rest n (length-map-range_with_len f 0 n) ∙ ap (λ z. done ++ z ∷ rest) is ∙ more f n rest
