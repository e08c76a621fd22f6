-- Lists that are changed item by item, from the first one on.
use Rattle.std.proofs.Common.{◌≡◌, ℕ, zero, suc, ◌+◌, ◌<◌, ◌≤◌, List, [], ◌∷◌, length, refl, sym, ap, ◌∙◌, arith, map, slice_index_or, slice_set}
use Rattle.std.proofs.lemmas.List.{get_or-map, length-map, map-set}
use Rattle.std.specs.List.{enumerate_from}
use Rattle.audit_serial.proofs.ByNumber.{one_more}

-- the first n items are changed, each by its place
abbrev pub changed_to : {A : Type 0} → (ℕ → A → A) → ℕ → List A → List A
changed_to f zero xs = xs
changed_to f (suc n) [] = []
changed_to f (suc n) (x ∷ xs) = f 0 x ∷ changed_to (λ k. f (suc k)) n xs

changed_last : {A : Type 0} (f : ℕ → A → A) (n : ℕ) (xs : List A) (d : A) → n < length xs → slice_set (changed_to f n xs) n (f n (slice_index_or xs n d)) ≡ changed_to f (suc n) xs
changed_last f n [] d lt = absurd (omega (arith, lt))
changed_last f zero (x ∷ xs) d lt = refl
changed_last f (suc n) (x ∷ xs) d lt = ap (λ ys. f 0 x ∷ ys) (changed_last (λ k. f (suc k)) n xs d (omega (arith, lt)))

pub changed_next : {A : Type 0} (f : ℕ → A → A) (n : ℕ) (xs : List A) (d : A) → n < length xs → slice_set (changed_to f n xs) n (f n (slice_index_or xs n d)) ≡ changed_to f (n + 1) xs
changed_next f n xs d lt = changed_last f n xs d lt ∙ ap (λ m. changed_to f m xs) (sym (one_more n))

-- the others stand as they did
pub changed_left : {A : Type 0} (f : ℕ → A → A) (n : ℕ) (xs : List A) (d : A) → slice_index_or (changed_to f n xs) n d ≡ slice_index_or xs n d
changed_left f zero xs d = refl
changed_left f (suc n) [] d = refl
changed_left f (suc n) (x ∷ xs) d = changed_left (λ k. f (suc k)) n xs d

pub changed_length : {A : Type 0} (f : ℕ → A → A) (n : ℕ) (xs : List A) → length (changed_to f n xs) ≡ length xs
changed_length f zero xs = refl
changed_length f (suc n) [] = refl
changed_length f (suc n) (x ∷ xs) = ap suc (changed_length (λ k. f (suc k)) n xs)

-- what is read of those that stand as they did, and what is stored there
size_left : {A B : Type 0} (g : B → A) (f : ℕ → A → A) (es : List B) (ys : List A) (k : ℕ) → k < length es → map g es ≡ changed_to f k ys → k < length ys
size_left g f es ys k lt e = omega (arith, lt, length-map es g, ap length e, changed_length f k ys)

pub item_left : {A B : Type 0} (g : B → A) (f : ℕ → A → A) (es : List B) (ys : List A) (k : ℕ) (r : B) → k < length es → r ≡ slice_index_or es k r → map g es ≡ changed_to f k ys → g r ≡ slice_index_or ys k (g r)
item_left g f es ys k r lt at e = ap g at ∙ (sym (get_or-map g es k r (g r) lt) ∙ (ap (λ zs. slice_index_or zs k (g r)) e ∙ changed_left f k ys (g r)))

pub item_changed : {A B : Type 0} (g : B → A) (f : ℕ → A → A) (es : List B) (ys : List A) (k : ℕ) (r x : B) → k < length es → r ≡ slice_index_or es k r → map g es ≡ changed_to f k ys → g x ≡ f k (g r)
    → map g (slice_set es k x) ≡ changed_to f (k + 1) ys
item_changed g f es ys k r x lt at e is =
    map-set g es k x
    ∙ (ap (slice_set (map g es) k) (is ∙ ap (f k) (item_left g f es ys k r lt at e))
    ∙ (ap (λ zs. slice_set zs k (f k (slice_index_or ys k (g r)))) e ∙ changed_next f k ys (g r) (size_left g f es ys k lt e)))

-- all of them
pub changed_all : {A : Type 0} (f : A → A) (n : ℕ) (xs : List A) → length xs ≤ n → changed_to (λ k. f) n xs ≡ map f xs
changed_all f zero [] le = refl
changed_all f (suc n) [] le = refl
changed_all f zero (x ∷ xs) le = absurd (omega (arith, le))
changed_all f (suc n) (x ∷ xs) le = ap (λ ys. f x ∷ ys) (changed_all f n xs (omega (arith, le)))

changed_same : {A : Type 0} (f g : ℕ → A → A) (n : ℕ) (xs : List A) → ((k : ℕ) (x : A) → f k x ≡ g k x) → changed_to f n xs ≡ changed_to g n xs
changed_same f g zero xs e = refl
changed_same f g (suc n) [] e = refl
changed_same f g (suc n) (x ∷ xs) e = ap (λ y. y ∷ changed_to (λ k. f (suc k)) n xs) (e 0 x) ∙ ap (λ ys. g 0 x ∷ ys) (changed_same (λ k. f (suc k)) (λ k. g (suc k)) n xs (λ k. e (suc k)))

pub changed_numbered : {A : Type 0} (f : ℕ → A → A) (k n : ℕ) (xs : List A) → length xs ≤ n → changed_to (λ i. f (k + i)) n xs ≡ map (λ p. f p.0 p.1) (enumerate_from k xs)
changed_numbered f k zero [] le = refl
changed_numbered f k (suc n) [] le = refl
changed_numbered f k zero (x ∷ xs) le = absurd (omega (arith, le))
changed_numbered {A} f k (suc n) (x ∷ xs) le =
    ap (λ i. f i x ∷ changed_to (λ j. f (k + suc j)) n xs) (none k)
    ∙ ap (λ ys. f k x ∷ ys) (changed_same (λ j. f (k + suc j)) (λ j. f (k + 1 + j)) n xs (λ j y. ap (λ i. f i y) (next k j)) ∙ changed_numbered f (k + 1) n xs (omega (arith, le)))
  where
    none : (k : ℕ) → k + 0 ≡ k
    none k = omega arith

    next : (k j : ℕ) → k + suc j ≡ k + 1 + j
    next k j = omega arith

pub changed_from : {A : Type 0} (f : ℕ → A → A) (n : ℕ) (xs : List A) → length xs ≤ n → changed_to f n xs ≡ map (λ p. f p.0 p.1) (enumerate_from 0 xs)
changed_from f n xs le = changed_same f (λ i. f (0 + i)) n xs (λ k x. ap (λ i. f i x) (none k)) ∙ changed_numbered f 0 n xs le
  where
    none : (k : ℕ) → k ≡ 0 + k
    none k = omega arith
