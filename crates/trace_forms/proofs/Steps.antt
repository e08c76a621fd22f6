-- One more part of a text.
use Rattle.std.proofs.Common.{◌≡◌, ℕ, ◌+◌, ◌<◌, List, ◌++◌, length, take, get_or, ◌∙◌, ap, sym}
use Rattle.std.specs.Prelude.{flat_map}
use Rattle.std.proofs.lemmas.List.{flat_map_more, take_more}

pub one_more : {A : Type 0} (f : A → List ℕ) (head text more : List ℕ) (xs : List A) (i : ℕ) (x : A) → i < length xs → text ≡ head ++ flat_map f (take i xs) → more ≡ text ++ f (get_or xs i x) → more ≡ head ++ flat_map f (take (i + 1) xs)
one_more f head text more xs i x within h e =
    e ∙ (ap (λ (t : List ℕ). t ++ f (get_or xs i x)) h
    ∙ (flat_map_more f head (take i xs) (get_or xs i x) ∙ sym (ap (λ ys. head ++ flat_map f ys) (take_more xs i x within))))
