-- Lists by number: how they grow, and how an item is stored in place.
use Rattle.std.proofs.Common.{◌≡◌, ℕ, zero, suc, ◌+◌, ◌<◌, ◌≤◌, List, [], ◌∷◌, ◌++◌, length, refl, sym, ap, ◌∙◌, arith, drop, slice_index_or, slice_set, take}
use Rattle.spi_machine.specs.Numbered.{with_item, first_items}
use Rattle.audit_serial.specs.Grown.{IsGrown}

pub one_more : (n : ℕ) → n + 1 ≡ suc n
one_more n = omega arith

-- an item that is there is stored in its place
pub item_set : {A : Type 0} (f : A) (xs : List A) (n : ℕ) (x : A) → n < length xs → slice_set xs n x ≡ with_item f xs n x
item_set f [] n x lt = absurd (omega (arith, lt))
item_set f (y ∷ ys) zero x lt = refl
item_set f (y ∷ ys) (suc n) x lt = ap (λ zs. y ∷ zs) (item_set f ys n x (omega (arith, lt)))

-- one more first item before a place changes nothing
pub item_padded : {A : Type 0} (f : A) (xs : List A) (n : ℕ) (x : A) → length xs ≤ n → with_item f (xs ++ f ∷ []) n x ≡ with_item f xs n x
item_padded f [] zero x le = refl
item_padded f [] (suc n) x le = refl
item_padded f (y ∷ ys) zero x le = absurd (omega (arith, le))
item_padded f (y ∷ ys) (suc n) x le = ap (λ zs. y ∷ zs) (item_padded f ys n x (omega (arith, le)))

pub read_padded : {A : Type 0} (f : A) (xs : List A) (n : ℕ) → slice_index_or (xs ++ f ∷ []) n f ≡ slice_index_or xs n f
read_padded f [] zero = refl
read_padded f [] (suc n) = refl
read_padded f (y ∷ ys) zero = refl
read_padded f (y ∷ ys) (suc n) = read_padded f ys n

pub first_padded : {A : Type 0} (f : A) (xs : List A) (n : ℕ) → first_items f n (xs ++ f ∷ []) ≡ first_items f n xs
first_padded f [] zero = refl
first_padded f [] (suc n) = refl
first_padded f (y ∷ ys) zero = refl
first_padded f (y ∷ ys) (suc n) = ap (λ zs. y ∷ zs) (first_padded f ys n)

-- stored twice at a place, the later one stays
pub item_twice : {A : Type 0} (f : A) (xs : List A) (n : ℕ) (x y : A) → with_item f (with_item f xs n x) n y ≡ with_item f xs n y
item_twice f [] zero x y = refl
item_twice f [] (suc n) x y = ap (λ zs. f ∷ zs) (item_twice f [] n x y)
item_twice f (z ∷ zs) zero x y = refl
item_twice f (z ∷ zs) (suc n) x y = ap (λ ws. z ∷ ws) (item_twice f zs n x y)

-- one more of the first items
first_last : {A : Type 0} (f : A) (xs : List A) (n : ℕ) → first_items f n xs ++ slice_index_or xs n f ∷ [] ≡ first_items f (suc n) xs
first_last f [] zero = refl
first_last f [] (suc n) = ap (λ zs. f ∷ zs) (first_last f [] n)
first_last f (y ∷ ys) zero = refl
first_last f (y ∷ ys) (suc n) = ap (λ zs. y ∷ zs) (first_last f ys n)

pub first_more : {A : Type 0} (f : A) (xs : List A) (n : ℕ) → first_items f n xs ++ slice_index_or xs n f ∷ [] ≡ first_items f (n + 1) xs
first_more f xs n = first_last f xs n ∙ ap (λ m. first_items f m xs) (sym (one_more n))

pub first_length : {A : Type 0} (f : A) (n : ℕ) (xs : List A) → length (first_items f n xs) ≡ n
first_length f zero xs = refl
first_length f (suc n) [] = ap suc (first_length f n [])
first_length f (suc n) (x ∷ xs) = ap suc (first_length f n xs)

pub take_first : {A : Type 0} (f : A) (n : ℕ) (xs : List A) → n ≤ length xs → take n xs ≡ first_items f n xs
take_first f zero xs le = refl
take_first f (suc n) [] le = absurd (omega (arith, le))
take_first f (suc n) (x ∷ xs) le = ap (λ zs. x ∷ zs) (take_first f n xs (omega (arith, le)))

-- ---- a list that grows up to a number

-- The list after differs in first items alone, of which each was stored before the place of the number.
pub record IsPadded {A : Type 0} (f : A) (before after : List A) (n : ℕ) : Type 0 where
  pub same : slice_index_or after n f ≡ slice_index_or before n f
  pub sets : (x : A) → with_item f after n x ≡ with_item f before n x
  pub firsts : (m : ℕ) → first_items f m after ≡ first_items f m before

pub padded_none : {A : Type 0} (f : A) (xs : List A) (n : ℕ) → IsPadded f xs xs n
padded_none f xs n = record { same = refl; sets = λ x. refl; firsts = λ m. refl }

pub padded_more : {A : Type 0} (f : A) (xs ys zs : List A) (n : ℕ) → zs ≡ ys ++ f ∷ [] → length ys ≤ n → IsPadded f xs ys n → IsPadded f xs zs n
padded_more f xs ys zs n e le p = record {
  same = ap (λ ws. slice_index_or ws n f) e ∙ (read_padded f ys n ∙ p.same);
  sets = λ x. ap (λ ws. with_item f ws n x) e ∙ (item_padded f ys n x le ∙ p.sets x);
  firsts = λ m. ap (first_items f m) e ∙ (first_padded f ys m ∙ p.firsts m);
}

pub grown_from : {A : Type 0} (f : A) (xs ys : List A) (n : ℕ) → n < length ys → IsPadded f xs ys n → IsGrown f xs ys n
grown_from f xs ys n lt p = record { there = lt; same = p.same; sets = λ x. item_set f ys n x lt ∙ p.sets x; firsts = p.firsts }

-- ---- items stored one after another

drop_none : {A : Type 0} (n : ℕ) → drop {A = A} n [] ≡ []
drop_none zero = refl
drop_none (suc n) = refl

-- over the first items of others, and behind them
over : {A : Type 0} (f : A) (n : ℕ) (xs ys : List A) (d : A) → n < length xs → with_item f (take n xs ++ drop n ys) n (slice_index_or xs n d) ≡ take (suc n) xs ++ drop (suc n) ys
over f n [] ys d lt = absurd (omega (arith, lt))
over f zero (x ∷ xs) [] d lt = refl
over f zero (x ∷ xs) (y ∷ ys) d lt = refl
over {A} f (suc n) (x ∷ xs) [] d lt =
    ap (λ zs. x ∷ zs)
    (ap (λ zs. with_item f (take n xs ++ zs) n (slice_index_or xs n d)) (sym (drop_none {A = A} n))
    ∙ over f n xs [] d (omega (arith, lt)))
over f (suc n) (x ∷ xs) (y ∷ ys) d lt = ap (λ zs. x ∷ zs) (over f n xs ys d (omega (arith, lt)))

pub over_next : {A : Type 0} (f : A) (n : ℕ) (xs ys : List A) (d : A) → n < length xs → with_item f (take n xs ++ drop n ys) n (slice_index_or xs n d) ≡ take (n + 1) xs ++ drop (n + 1) ys
over_next f n xs ys d lt = over f n xs ys d lt ∙ ap (λ m. take m xs ++ drop m ys) (sym (one_more n))
