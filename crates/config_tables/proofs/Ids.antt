-- A test of a list that was seen through a function.
use Rattle.std.proofs.Common.{◌≡◌, ℕ, List, [], ◌∷◌, Bool, map, refl, ap, ◌∙◌, length, ◌<◌, false, slice_index_or, inl, inr, sym}
use Rattle.std.specs.Prelude.{◌||◌}
use Rattle.std.proofs.lemmas.Bool.{cases_Bool, false≢true}
use Rattle.std.proofs.lemmas.List.Folds.{list_any_at}
use Rattle.std.specs.List.{list_any}

pub any_mapped : {A B : Type 0} (p : B → Bool) (f : A → B) (xs : List A) → list_any p (map f xs) ≡ list_any (λ x. p (f x)) xs
any_mapped p f [] = refl
any_mapped p f (x ∷ xs) = ap (λ b. p (f x) || b) (any_mapped p f xs)

-- no element passes a test that none of the list passes
pub any_none : {T : Type 0} (p : T → Bool) (xs : List T) → list_any p xs ≡ false → (k : ℕ) (d : T) → k < length xs → p (slice_index_or xs k d) ≡ false
any_none p xs h k d l = elim (cases_Bool (p (slice_index_or xs k d))) as (λ _. p (slice_index_or xs k d) ≡ false) [ inl t ↦ absurd (false≢true (sym h ∙ list_any_at p xs k d l t)) | inr f ↦ f ]
