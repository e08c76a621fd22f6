-- A list that is cut at an element.
use Rattle.std.proofs.Common.{◌≡◌, ℕ, ◌+◌, List, ◌∷◌, ◌++◌, [], Some, take, drop, zero, suc, ap, sym, arith, add-one}
use Rattle.std.proofs.lemmas.Option.{get_or_from_slice_get, slice_get_within}
use Rattle.std.specs.List.{slice_get}

pub cut_behind : {X : Type 0} (xs : List X) (i : ℕ) (x : X) → slice_get xs i ≡ Some x → take i xs ++ x ∷ drop (suc i) xs ≡ xs
cut_behind [] i x e = absurd (omega (arith, slice_get_within [] i x e))
cut_behind (y ∷ ys) zero x e = ap (λ z. z ∷ ys) (sym (get_or_from_slice_get (y ∷ ys) 0 x y e))
cut_behind (y ∷ ys) (suc i) x e = ap (λ zs. y ∷ zs) (cut_behind ys i x e)

pub cut_at : {X : Type 0} (xs : List X) (i : ℕ) (x : X) → slice_get xs i ≡ Some x → take i xs ++ x ∷ drop (i + 1) xs ≡ xs
cut_at xs i x e = rw (add-one i) (cut_behind xs i x e)
