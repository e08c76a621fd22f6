-- What is known of orders in words.
use Rattle.std.proofs.Common.{◌≡◌, ℕ, zero, suc, ◌+◌, ◌-◌, ◌*◌, ◌/◌, ◌%◌, ◌^◌, ◌<◌, ◌≤◌, ◌≢◌, Bool, true, false, ◌&&◌, ◌||◌, ◌==◌, List, [], ◌∷◌, ◌++◌, length, refl, sym, ◌∙◌, ap, arith, ◌⊎◌, inl, inr, lit<, zero-add}
use Rattle.std.specs.Prelude.{if◌then◌else◌, bit_or}
use Rattle.std.proofs.Math.Nat.{pow-succ', mul_assoc, mul_comm, mod-add-div, one-le-pow, pow-le-pow_right, mul-le-mul_right}
use Rattle.std.proofs.lemmas.Nat.{pow_below, mod_below, or_lt}
use Rattle.std.proofs.lemmas.Bool.{false≢true, cases_eq, eq-eqb, ne_eqb}
use Rattle.std.proofs.lemmas.List.{length-map}
use Rattle.mcal_base.specs.Bits.{has_bit, without as bits_without}
use Rattle.mcal_base.proofs.BitLaws.{has_bit-or, has_bit-pow_same, has_bit-pow_other, has_bit-without}
use Rattle.word_shapes.specs.Order.{Entry, is_there, AllBelow, with_wait, waiting, without}
use Rattle.word_shapes.specs.Packing.{places, order_of, marked, entries, count_in, marks_in, tally_of, appended, taken_out}

-- ---- places

pub length-places : (n x : ℕ) → length (places x n) ≡ n
length-places zero x = refl
length-places (suc n) x = ap suc (length-places n (x / 16))

digit : (x u : ℕ) → (x + 16 * u) % 16 ≡ x % 16
digit x u = omega arith

shifted : (x u : ℕ) → (x + 16 * u) / 16 ≡ x / 16 + u
shifted x u = omega arith

one_more : (k y : ℕ) → 16 ^ suc k * y ≡ 16 * (16 ^ k * y)
one_more k y = rw (pow-succ' 16 k, mul_assoc 16 (16 ^ k) y) refl

-- the first places don't see what stands above them
pub places-low : (n j x y : ℕ) → places (x + 16 ^ (n + j) * y) n ≡ places x n
places-low zero j x y = refl
places-low (suc n) j x y =
    let e : 16 ^ (suc n + j) * y ≡ 16 * (16 ^ (n + j) * y) = ap (λ k. 16 ^ k * y) (let k : suc n + j ≡ suc (n + j) = omega arith in k) ∙ one_more (n + j) y in
    rw (e, digit x (16 ^ (n + j) * y), shifted x (16 ^ (n + j) * y), places-low n j (x / 16) y) refl

-- the places of a number below, and then those of the one above it
pub places-split : (k n x y : ℕ) → x < 16 ^ k → places (x + 16 ^ k * y) (k + n) ≡ places x k ++ places y n
places-split zero n x y lt =
    let at : x + 16 ^ zero * y ≡ y = omega arith in
    rw (at, zero-add n) refl
places-split (suc k) n x y lt =
    let count : suc k + n ≡ suc (k + n) = omega arith in
    let lower : x / 16 < 16 ^ k = (let e = pow-succ' 16 k in omega arith) in
    rw (count, one_more k y, digit x (16 ^ k * y), shifted x (16 ^ k * y), places-split k n (x / 16) y lower) refl

-- so too at any power that is high enough
pub places-below : (n k x y : ℕ) → n ≤ k → places (x + 16 ^ k * y) n ≡ places x n
places-below n k x y le =
    let sum : n + (k - n) ≡ k = omega arith in
    ap (λ j. places (x + 16 ^ j * y) n) (sym sum) ∙ places-low n (k - n) x y

-- as many places as a word has
pub places-mod : (n x : ℕ) → n ≤ 8 → places (x % 2 ^ 32) n ≡ places x n
places-mod n x le =
    sym (places-below n 8 (x % 2 ^ 32) (x / 2 ^ 32) le) ∙ ap (λ y. places y n) (mod-add-div x (2 ^ 32))

pub places-few : (n low high : ℕ) → n ≤ 8 → places (order_of low high) n ≡ places low n
places-few n low high le = places-below n 8 (low % 2 ^ 32) high le ∙ places-mod n low le

pub places-many : (n low high : ℕ) → places (order_of low high) (8 + n) ≡ places (low % 2 ^ 32) 8 ++ places high n
places-many n low high = places-split 8 n (low % 2 ^ 32) high (omega arith)

-- ---- an entry in the place after so many

pub places-appended : (k x n : ℕ) → n < 16 → places (appended x k n) (k + 1) ≡ places x k ++ n ∷ []
places-appended k x n lt =
    let positive : 0 < 16 ^ k = one-le-pow k 16 (lit< tt) in
    let turned : n * 16 ^ k ≡ 16 ^ k * n = mul_comm n (16 ^ k) in
    let digit_of : n % 16 ≡ n = omega arith in
    let low : places (x % 16 ^ k) k ≡ places x k =
    sym (places-below k k (x % 16 ^ k) (x / 16 ^ k) (omega arith)) ∙ ap (λ y. places y k) (mod-add-div x (16 ^ k)) in
    ap (λ y. places (x % 16 ^ k + y) (k + 1)) turned
    ∙ places-split k 1 (x % 16 ^ k) n (mod_below x (16 ^ k) positive)
    ∙ ap (λ ys. ys ++ n % 16 ∷ []) low
    ∙ ap (λ d. places x k ++ d ∷ []) digit_of

-- ---- the third word

pub count-tally : (count marks : ℕ) → count < 32 → count_in (tally_of count marks) ≡ count
count-tally count marks lt = omega arith

pub marks-tally : (count marks : ℕ) → count < 32 → marks_in (tally_of count marks) ≡ marks
marks-tally count marks lt = omega arith

pub count-less : (tally : ℕ) → 0 < count_in tally → count_in (tally - 1) ≡ count_in tally - 1
count-less tally lt = omega arith

pub marks-less : (tally : ℕ) → 0 < count_in tally → marks_in (tally - 1) ≡ marks_in tally
marks-less tally lt = omega arith

pub count-small : (tally : ℕ) → count_in tally < 32
count-small tally = omega arith

-- ---- marks

pub length-entries : (marks n x : ℕ) → length (entries marks (places x n)) ≡ n
length-entries marks n x = length-map (places x n) (marked marks) ∙ length-places n x

pub below-entries : (marks n x : ℕ) → AllBelow (entries marks (places x n))
below-entries marks zero x = tt
below-entries marks (suc n) x = (omega arith, below-entries marks n (x / 16))

abbrev entry : ℕ → Bool → Entry
entry n w = record { number = n; waits = w }

set_one : (marks n k : ℕ) → (k ≡ n) ⊎ (k ≢ n) → marked (bit_or marks (2 ^ n)) k ≡ with_wait n true (marked marks k)
set_one marks n k (inl at) =
    rw (eq-eqb k n at, has_bit-or marks (2 ^ n) k, at, has_bit-pow_same n) (ap (λ w. entry n w) (or-true (has_bit marks n)))
  where
    or-true : (b : Bool) → (b || true) ≡ true
    or-true true = refl
    or-true false = refl
set_one marks n k (inr ne) =
    rw (ne_eqb k n ne, has_bit-or marks (2 ^ n) k, has_bit-pow_other n k ne) (ap (λ w. entry k w) (or-false (has_bit marks k)))
  where
    or-false : (b : Bool) → (b || false) ≡ b
    or-false true = refl
    or-false false = refl

pub entries-set : (marks n : ℕ) (ns : List ℕ) → entries (bit_or marks (2 ^ n)) ns ≡ waiting n true (entries marks ns)
entries-set marks n [] = refl
entries-set marks n (k ∷ ns) = rw (set_one marks n k (cases_eq k n), entries-set marks n ns) refl

clear_one : (marks n k : ℕ) → n < 16 → k < 16 → (k ≡ n) ⊎ (k ≢ n) → marked (bits_without marks (2 ^ n)) k ≡ with_wait n false (marked marks k)
clear_one marks n k lt klt (inl at) =
    rw (eq-eqb k n at, has_bit-without marks (2 ^ n) k (pow_below n 32 (omega arith)) (omega arith), at, has_bit-pow_same n) (ap (λ w. entry n w) (and-false (has_bit marks n)))
  where
    and-false : (b : Bool) → (b && false) ≡ false
    and-false true = refl
    and-false false = refl
clear_one marks n k lt klt (inr ne) =
    rw (ne_eqb k n ne, has_bit-without marks (2 ^ n) k (pow_below n 32 (omega arith)) (omega arith), has_bit-pow_other n k ne) (ap (λ w. entry k w) (and-true (has_bit marks k)))
  where
    and-true : (b : Bool) → (b && true) ≡ b
    and-true true = refl
    and-true false = refl

pub entries-clear : (marks n k x : ℕ) → n < 16 → entries (bits_without marks (2 ^ n)) (places x k) ≡ waiting n false (entries marks (places x k))
entries-clear marks n zero x lt = refl
entries-clear marks n (suc k) x lt = rw (clear_one marks n (x % 16) lt (omega arith) (cases_eq (x % 16) n), entries-clear marks n k (x / 16) lt) refl

-- ---- an entry taken out

kept : (k t x n marks : ℕ) → is_there n (entries marks (places (x / 16) k)) ≡ true
    → (is_there n (entries marks (places (x / 16) k)) ≡ true → entries marks (places t (k - 1)) ≡ without n (entries marks (places (x / 16) k)))
    → entries marks (places (16 * t + x % 16) k) ≡ marked marks (x % 16) ∷ without n (entries marks (places (x / 16) k))
kept zero t x n marks h more = absurd (false≢true h)
kept (suc j) t x n marks h more =
    let first : (16 * t + x % 16) % 16 ≡ x % 16 = omega arith in
    let rest : (16 * t + x % 16) / 16 ≡ t = omega arith in
    let e : suc j - 1 ≡ j = omega arith in
    rw (first, rest) (ap (λ es. marked marks (x % 16) ∷ es) (ap (λ i. entries marks (places t i)) (sym e) ∙ more h))

taken_by : (k t x n marks : ℕ) (b : Bool) → (b || is_there n (entries marks (places (x / 16) k))) ≡ true
    → (is_there n (entries marks (places (x / 16) k)) ≡ true → entries marks (places t (k - 1)) ≡ without n (entries marks (places (x / 16) k)))
    → entries marks (places (if b then x / 16 else 16 * t + x % 16) k) ≡ (if b then entries marks (places (x / 16) k) else marked marks (x % 16) ∷ without n (entries marks (places (x / 16) k)))
taken_by k t x n marks true h more = refl
taken_by k t x n marks false h more = kept k t x n marks h more

pub entries-taken : (k x n marks : ℕ) → is_there n (entries marks (places x k)) ≡ true → entries marks (places (taken_out x k n) (k - 1)) ≡ without n (entries marks (places x k))
entries-taken zero x n marks h = absurd (false≢true h)
entries-taken (suc k) x n marks h =
    let e : suc k - 1 ≡ k = omega arith in
    ap (λ i. entries marks (places (taken_out x (suc k) n) i)) e
    ∙ taken_by k (taken_out (x / 16) k n) x n marks (x % 16 == n) h (entries-taken k (x / 16) n marks)

-- an entry that is there is one of some
pub some_there : (k x n marks : ℕ) → is_there n (entries marks (places x k)) ≡ true → 0 < k
some_there zero x n marks h = absurd (false≢true h)
some_there (suc k) x n marks h = omega arith

-- ---- bounds

pub unit_bound : (k : ℕ) → k < 8 → 16 ^ k ≤ 2 ^ 28
unit_bound k lt = let le : k ≤ 7 = omega arith in pow-le-pow_right (lit< tt) le

pub unit_positive : (k : ℕ) → 0 < 16 ^ k
unit_positive k = one-le-pow k 16 (lit< tt)

pub appended_bound : (word k n : ℕ) → k < 8 → n < 16 → appended word k n < 2 ^ 32
appended_bound word k n lt small =
    let low = mod_below word (16 ^ k) (unit_positive k) in
    let unit = unit_bound k lt in
    let product : n * 16 ^ k ≤ 15 * 16 ^ k = (let le : n ≤ 15 = omega arith in mul-le-mul_right (16 ^ k) le) in
    omega arith

pub marks_bound : (marks n : ℕ) → marks < 2 ^ 27 → n < 16 → bit_or marks (2 ^ n) < 2 ^ 27
marks_bound marks n lt small = or_lt 27 marks (2 ^ n) lt (pow_below n 27 (omega arith))

pub product_bound : (word k n : ℕ) → k < 8 → n < 16 → n * 16 ^ k < 2 ^ 32
product_bound word k n lt small = let all = appended_bound word k n lt small in omega arith
