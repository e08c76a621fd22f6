-- What is known of orders as lists.
use Rattle.std.proofs.Common.{◌≡◌, ℕ, ◌<◌, ◌≤◌, Bool, true, false, ◌||◌, ◌==◌, List, [], ◌∷◌, ◌++◌, length, map, refl, sym, ◌∙◌, ap, arith, inl, inr, eqb}
use Rattle.std.specs.Prelude.{if◌then◌else◌}
use Rattle.std.specs.List.{IsDistinct, AllByRecursion, list_any}
use Rattle.std.proofs.lemmas.Bool.{false≢true, or_parts, or_from, or_cases, eqb-true, eqb-false, ne_eqb}
use Rattle.std.proofs.lemmas.List.{length-map, length-append}
use Rattle.std.proofs.lemmas.Map.Steps.{length-le_from_distinct_below}
use Rattle.word_shapes.specs.Order.{Entry, is_there, IsOnce, AllBelow, added, with_wait, waiting, without}

-- ---- an entry made to wait or not

number-with_wait : (n : ℕ) (w : Bool) (x : Entry) (b : Bool) → x.number == n ≡ b → (with_wait n w x).number ≡ x.number
number-with_wait n w x true e = rw e refl
number-with_wait n w x false e = rw e refl

pub number-waiting : (n : ℕ) (w : Bool) (x : Entry) → (with_wait n w x).number ≡ x.number
number-waiting n w x = number-with_wait n w x (x.number == n) refl

pub is_there-waiting : (k n : ℕ) (w : Bool) (xs : List Entry) → is_there k (waiting n w xs) ≡ is_there k xs
is_there-waiting k n w [] = refl
is_there-waiting k n w (x ∷ xs) = rw (number-waiting n w x, is_there-waiting k n w xs) refl

pub once-waiting : (n : ℕ) (w : Bool) (xs : List Entry) → IsOnce xs → IsOnce (waiting n w xs)
once-waiting n w [] h = tt
once-waiting n w (x ∷ xs) h = (ap (λ k. is_there k (waiting n w xs)) (number-waiting n w x) ∙ is_there-waiting x.number n w xs ∙ h.0, once-waiting n w xs h.1)

pub waiting-absent : (n : ℕ) (w : Bool) (xs : List Entry) → is_there n xs ≡ false → waiting n w xs ≡ xs
waiting-absent n w [] h = refl
waiting-absent n w (x ∷ xs) h =
    let p = or_parts (x.number == n) (is_there n xs) h in
    rw (p.0, waiting-absent n w xs p.1) refl

-- ---- an entry added

pub is_there-append : (k : ℕ) (xs ys : List Entry) → is_there k (xs ++ ys) ≡ (is_there k xs || is_there k ys)
is_there-append k [] ys = refl
is_there-append k (x ∷ xs) ys = ap (λ b. x.number == k || b) (is_there-append k xs ys) ∙ or_assoc (x.number == k) (is_there k xs) (is_there k ys)
  where
    or_assoc : (a b c : Bool) → (a || (b || c)) ≡ ((a || b) || c)
    or_assoc true b c = refl
    or_assoc false b c = refl

pub once-added : (n : ℕ) (xs : List Entry) → is_there n xs ≡ false → IsOnce xs → IsOnce (added n xs)
once-added n [] h once = (refl, tt)
once-added n (x ∷ xs) h once =
    let p = or_parts (x.number == n) (is_there n xs) h in
    let flipped : (n == x.number) ≡ false = ne_eqb n x.number (λ e. eqb-false x.number n p.0 (sym e)) in
    (is_there-append x.number xs (record { number = n; waits = true } ∷ []) ∙ rw (once.0, flipped) refl, once-added n xs p.1 once.1)

-- ---- an entry taken out

absent-pick : (k n : ℕ) (x : Entry) (xs ys : List Entry) (b : Bool) → is_there k (x ∷ xs) ≡ false → (is_there k ys ≡ false) → is_there k (if b then xs else x ∷ ys) ≡ false
absent-pick k n x xs ys true h t = (or_parts (x.number == k) (is_there k xs) h).1
absent-pick k n x xs ys false h t = or_from (x.number == k) (is_there k ys) (or_parts (x.number == k) (is_there k xs) h).0 t

pub absent-without : (k n : ℕ) (xs : List Entry) → is_there k xs ≡ false → is_there k (without n xs) ≡ false
absent-without k n [] h = refl
absent-without k n (x ∷ xs) h =
    absent-pick k n x xs (without n xs) (x.number == n) h (absent-without k n xs (or_parts (x.number == k) (is_there k xs) h).1)

once-pick : (x : Entry) (xs ys : List Entry) (b : Bool) → IsOnce (x ∷ xs) → is_there x.number ys ≡ false → IsOnce ys → IsOnce (if b then xs else x ∷ ys)
once-pick x xs ys true h a o = h.1
once-pick x xs ys false h a o = (a, o)

pub once-without : (n : ℕ) (xs : List Entry) → IsOnce xs → IsOnce (without n xs)
once-without n [] h = tt
once-without n (x ∷ xs) h = once-pick x xs (without n xs) (x.number == n) h (absent-without x.number n xs h.0) (once-without n xs h.1)

-- ---- how many there are

abbrev pub numbers : List Entry → List ℕ
numbers xs = map (λ x. x.number) xs

apart-each : (n : ℕ) (xs : List Entry) → is_there n xs ≡ false → AllByRecursion (λ y. eqb n y ≡ false) (numbers xs)
apart-each n [] h = tt
apart-each n (x ∷ xs) h =
    let p = or_parts (x.number == n) (is_there n xs) h in
    (ne_eqb n x.number (λ e. eqb-false x.number n p.0 (sym e)), apart-each n xs p.1)

distinct : (xs : List Entry) → IsOnce xs → IsDistinct eqb (numbers xs)
unfolding IsDistinct
distinct [] h = tt
distinct (x ∷ xs) h = (apart-each x.number xs h.0, distinct xs h.1)

below-any : (xs : List Entry) → AllBelow xs → (q : ℕ) → list_any (eqb q) (numbers xs) ≡ true → q < 16
below-any [] h q e = absurd (false≢true e)
below-any (x ∷ xs) h q e =
    elim (or_cases (eqb q x.number) (list_any (eqb q) (numbers xs)) e) [ inl here ↦ let lt = h.0 in omega (arith, eqb-true q x.number here) | inr later ↦ below-any xs h.1 q later ]

pub at_most : (xs : List Entry) → IsOnce xs → AllBelow xs → length xs ≤ 16
at_most xs once below = rw (sym (length-map xs (λ (x : Entry). x.number))) (length-le_from_distinct_below (numbers xs) 16 (distinct xs once) (below-any xs below))

below-append : (xs ys : List Entry) → AllBelow xs → AllBelow ys → AllBelow (xs ++ ys)
below-append [] ys h k = k
below-append (x ∷ xs) ys h k = (h.0, below-append xs ys h.1 k)

-- an entry that isn't there finds room
pub finds_room : (n : ℕ) (xs : List Entry) → n < 16 → is_there n xs ≡ false → IsOnce xs → AllBelow xs → length xs < 16
finds_room n xs lt absent once below =
    let last : Entry = record { number = n; waits = true } in
    let most = at_most (added n xs) (once-added n xs absent once) (below-append xs (last ∷ []) below (lt, tt)) in
    let e = length-append xs (last ∷ []) in
    omega arith
