-- How many below a number pass a test, and the one of a rank among them.
-- Used by proofs/driver/PortDriver/ranked/Answers, proofs/driver/PortDriver/configured/Answers, Init and 2 more.
use Rattle.std.proofs.Common.{◌≡◌, ◌≢◌, ◌+◌, ◌<◌, ◌≤◌, ◌==◌, ◌&&◌, [], ◌∷◌, ◌∙◌, if◌then◌else◌}
use Rattle.port_driver.specs.Terms
use Terms.{add-one, ap, arith, bit_of, Bool, configured, counted, false, is_configured, is_some, List, nat_lt, nat_tests, None, Option, Pin, pin_count, PortTable, refl, slice_index_or, subst, suc, sum_by, sum_by-cons, sym, true, with_rank, zero, ℕ}

pub counted-zero : (test : ℕ → Bool) → counted test 0 ≡ 0
unfolding counted
counted-zero test = refl

counted-suc : (test : ℕ → Bool) (n : ℕ) → counted test (suc n) ≡ bit_of (test n) + counted test n
unfolding counted
counted-suc test n = refl

pub counted-next : (test : ℕ → Bool) (n : ℕ) → counted test (n + 1) ≡ bit_of (test n) + counted test n
counted-next test n = rw add-one (counted-suc test n)

pub bit_small : (b : Bool) → bit_of b ≤ 1
bit_small true = omega arith
bit_small false = omega arith

pub counted_small : (k : Option Pin) → bit_of (is_some k) ≤ 1
counted_small k = bit_small (is_some k)

bit_on : (b : Bool) → b ≡ true → bit_of b ≡ 1
bit_on true e = refl
bit_on false e = absurd (cc)

pub counted-le : (test : ℕ → Bool) (n : ℕ) → counted test n ≤ n
counted-le test zero = let none = counted-zero test in omega (arith, none)
counted-le test (suc n) = let next = counted-suc test n in let small = bit_small (test n) in let rest = counted-le test n in omega (arith, next, small, rest)

-- one that passes has a lower rank than what is above it
pub counted-lt : (test : ℕ → Bool) (p n : ℕ) → p < n → test p ≡ true → counted test p < counted test n
counted-lt test p zero lt on = absurd (omega (arith, lt))
counted-lt test p (suc n) lt on = by (λ below. counted-lt test p n below on) (p == n) refl
  where
    next : counted test (suc n) ≡ bit_of (test n) + counted test n
    next = counted-suc test n

    by : (p < n → counted test p < counted test n) → (q : Bool) → (p == n) ≡ q → counted test p < counted test (suc n)
    by more true e =
        let at : p ≡ n = grind (arith, nat_tests) in
        let one : bit_of (test n) ≡ 1 = ap (λ k. bit_of (test k)) (sym at) ∙ bit_on (test p) on in
        let same : counted test p ≡ counted test n = ap (λ k. counted test k) at in
        omega (arith, next, one, same)
    by more false e =
        let ne : p ≢ n = grind (arith, nat_tests) in
        let below : p < n = omega (arith, lt, ne) in
        let less = more below in
        omega (arith, next, less)

-- ---- the one of a rank

pub with_rank-zero : (test : ℕ → Bool) (rank : ℕ) → with_rank test rank 0 ≡ 0
unfolding with_rank
with_rank-zero test rank = refl

with_rank-suc : (test : ℕ → Bool) (rank n : ℕ) → with_rank test rank (suc n) ≡ (if test n && counted test n == rank then n else with_rank test rank n)
unfolding with_rank
with_rank-suc test rank n = refl

pub with_rank-next : (test : ℕ → Bool) (rank n : ℕ) → with_rank test rank (n + 1) ≡ (if test n && counted test n == rank then n else with_rank test rank n)
with_rank-next test rank n = rw add-one (with_rank-suc test rank n)

-- it passes, has this rank and is below the bound
pub record IsRanked (test : ℕ → Bool) (r n p : ℕ) : Type 0 where
  pub on : test p ≡ true
  pub rank : counted test p ≡ r
  pub below : p < n

fewer : (b : Bool) (c d rank : ℕ) → d ≡ bit_of b + c → rank < d → b && c == rank ≡ false → rank < c
fewer true c d rank is lt e = let ne : c ≢ rank = grind (arith, nat_tests) in omega (arith, is, lt, ne)
fewer false c d rank is lt e = omega (arith, is, lt)

both_of : (b : Bool) (c rank : ℕ) → b && c == rank ≡ true → (b ≡ true) × (c ≡ rank)
both_of true c rank e = (refl, grind (arith, nat_tests))
both_of false c rank e = absurd (cc)

pub with_rank-found : (test : ℕ → Bool) (rank n : ℕ) → rank < counted test n → IsRanked test rank n (with_rank test rank n)
with_rank-found test rank zero lt = absurd (let none = counted-zero test in omega (arith, lt, none))
with_rank-found test rank (suc n) lt = subst (λ p. IsRanked test rank (suc n) p) (sym (with_rank-suc test rank n)) (by (λ less. with_rank-found test rank n less) (test n && counted test n == rank) refl)
  where
    by : (rank < counted test n → IsRanked test rank n (with_rank test rank n)) → (q : Bool) → (test n && counted test n == rank) ≡ q → IsRanked test rank (suc n) (if q then n else with_rank test rank n)
    by more true e = let is = both_of (test n) (counted test n) rank e in record { on = is.0; rank = is.1; below = omega arith }
    by more false e =
        let rest = more (fewer (test n) (counted test n) (counted test (suc n)) rank (counted-suc test n) lt e) in
        let less = rest.below in
        record { on = rest.on; rank = rest.rank; below = omega (arith, less) }

-- there is no other one
pub same_rank : (test : ℕ → Bool) (p q : ℕ) → test p ≡ true → test q ≡ true → counted test p ≡ counted test q → p ≡ q
same_rank test p q a b e = by (nat_lt p q) refl (nat_lt q p) refl
  where
    by : (x : Bool) → nat_lt p q ≡ x → (y : Bool) → nat_lt q p ≡ y → p ≡ q
    by true i y j = absurd (let less = counted-lt test p q (grind (arith, nat_tests)) a in omega (arith, less, e))
    by false i true j = absurd (let less = counted-lt test q p (grind (arith, nat_tests)) b in omega (arith, less, e))
    by false i false j = grind (arith, nat_tests)

-- ---- how many pins are configured

counted-front : (test : ℕ → Bool) (n : ℕ) → counted test (suc n) ≡ bit_of (test 0) + counted (λ p. test (suc p)) n
counted-front test zero = counted-suc test 0 ∙ ap (λ n. bit_of (test 0) + n) (counted-zero test ∙ sym (counted-zero (λ p. test (suc p))))
counted-front test (suc n) =
    let next = counted-suc test (suc n) in
    let rest = counted-front test n in
    let last = counted-suc (λ p. test (suc p)) n in
    omega (arith, next, rest, last)

counted-none : (test : ℕ → Bool) → ((p : ℕ) → test p ≡ false) → (n : ℕ) → counted test n ≡ 0
counted-none test none zero = counted-zero test
counted-none test none (suc n) =
    let next = counted-suc test n in
    let off : bit_of (test n) ≡ 0 = ap bit_of (none n) in
    let rest = counted-none test none n in
    omega (arith, next, off, rest)

counted-more : (f g : ℕ → Bool) → ((p : ℕ) → bit_of (f p) ≤ bit_of (g p)) → (n : ℕ) → counted f n ≤ counted g n
counted-more f g more zero = let a = counted-zero f in let b = counted-zero g in omega (arith, a, b)
counted-more f g more (suc n) =
    let a = counted-suc f n in
    let b = counted-suc g n in
    let here = more n in
    let rest = counted-more f g more n in
    omega (arith, a, b, here, rest)

abbrev is_listed : List (Option Pin) → ℕ → Bool
is_listed ks p = is_some (slice_index_or ks p None)

counted-listed : (ks : List (Option Pin)) (n : ℕ) → counted (is_listed ks) n ≤ sum_by (λ (k : Option Pin). bit_of (is_some k)) ks
counted-listed [] n = let none = counted-none (is_listed []) (λ p. refl) n in omega (arith, none)
counted-listed (k ∷ ks) zero = let none = counted-zero (is_listed (k ∷ ks)) in omega (arith, none)
counted-listed (k ∷ ks) (suc n) =
    let front = counted-front (is_listed (k ∷ ks)) n in
    let rest = counted-listed ks n in
    let sum = sum_by-cons (λ (k : Option Pin). bit_of (is_some k)) k ks in
    omega (arith, front, rest, sum)

-- those are no more than the bound counts
pub configured_few : (d : PortTable) → configured d ≤ pin_count d
configured_few d =
    let more = counted-more (is_configured d) (is_listed d.pins) (λ p. by (nat_lt p 64) (slice_index_or d.pins p None)) 64 in
    let listed = counted-listed d.pins 64 in
    omega (arith, more, listed)
  where
    by : (q : Bool) (k : Option Pin) → bit_of (is_some (if q then k else None)) ≤ bit_of (is_some k)
    by true k = omega arith
    by false k = omega arith
