-- Lists by number: an item that isn't there is as it was at first.
use Rattle.std.specs.Prelude.{ℕ, zero, suc, List, [], ◌∷◌, slice_index_or}

-- the list with this item at this place, and the others as they were
abbrev pub with_item : {A : Type 0} → (first : A) → List A → ℕ → A → List A
with_item first [] zero x = x ∷ []
with_item first [] (suc k) x = first ∷ with_item first [] k x
with_item first (y ∷ ys) zero x = x ∷ ys
with_item first (y ∷ ys) (suc k) x = y ∷ with_item first ys k x

-- the items of the first n places
abbrev pub first_items : {A : Type 0} → (first : A) → ℕ → List A → List A
first_items first zero xs = []
first_items first (suc n) [] = first ∷ first_items first n []
first_items first (suc n) (x ∷ xs) = x ∷ first_items first n xs

-- a word by its place, 0 where none was stored
abbrev pub word_at : List ℕ → ℕ → ℕ
word_at xs i = slice_index_or xs i 0
