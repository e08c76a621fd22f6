-- The numbers of the outcomes that there are: each stands once, and the numbers of their places sum up.
use Rattle.std.proofs.Common.{◌≡◌, ℕ, ◌+◌, ◌<◌, ◌≤◌, ◌==◌, List, [], ◌∷◌, ◌++◌, ◌||◌, Bool, true, false, cond, length, refl, ap, subst, ◌∙◌, arith, if◌then◌else◌}
use Rattle.std.specs.Prelude.{count_by, sum_by}
use Rattle.std.specs.List.{list_any}
use Rattle.std.proofs.lemmas.Bool.{eq-eqb, eqb-true}
use Rattle.std.proofs.lemmas.List.Sums.{sum_by-cons, sum_by_push}
use Rattle.bench_sweep.specs.declared.groups.Settled.{Settled}
use Rattle.bench_sweep.specs.Groups.{count_with, numbers_in, with_number, with_numbers}

abbrev one : Bool → ℕ
one b = cond b 1 0

-- how often a number stands among others
abbrev pub times : ℕ → List ℕ → ℕ
times k ns = count_by (λ m. m == k) ns

-- no number stands twice
abbrev pub AreOnce : List ℕ → Type 0
AreOnce ns = (k : ℕ) → times k ns ≤ 1

times_cons : (k n : ℕ) (ns : List ℕ) → times k (n ∷ ns) ≡ cond (n == k) 1 0 + times k ns
times_cons k n ns = sum_by-cons (λ m. cond (m == k) 1 0) n ns

times_push : (k n : ℕ) (ns : List ℕ) → times k (ns ++ n ∷ []) ≡ times k ns + cond (n == k) 1 0
times_push k n ns = sum_by_push (λ m. cond (m == k) 1 0) ns n

add_none : (b c : Bool) (t : ℕ) → (b || c) ≡ false → (c ≡ false → t ≡ 0) → cond b 1 0 + t ≡ 0
add_none true c t a h = absurd (cc)
add_none false c t a h = omega (arith, h a)

add_some : (b c : Bool) (t : ℕ) → (b || c) ≡ true → (c ≡ true → 0 < t) → 0 < cond b 1 0 + t
add_some true c t a h = omega arith
add_some false c t a h = omega (arith, h a)

absent : (n : ℕ) (ns : List ℕ) → list_any (λ m. m == n) ns ≡ false → times n ns ≡ 0
absent n [] a = refl
absent n (m ∷ ms) a = times_cons n m ms ∙ add_none (m == n) (list_any (λ m. m == n) ms) (times n ms) a (absent n ms)

present : (n : ℕ) (ns : List ℕ) → list_any (λ m. m == n) ns ≡ true → 0 < times n ns
present n [] a = absurd (cc)
present n (m ∷ ms) a = rw (times_cons n m ms) (add_some (m == n) (list_any (λ m. m == n) ms) (times n ms) a (present n ms))

-- another number stands there as often as before
other_by : (k n : ℕ) (ns : List ℕ) (b : Bool) → (n == k) ≡ false → times k (if b then ns else ns ++ n ∷ []) ≡ times k ns
other_by k n ns true e = refl
other_by k n ns false e =
    let c : one (n == k) ≡ 0 = ap one e in
    omega (arith, times_push k n ns, c)

other : (k n : ℕ) (ns : List ℕ) → (n == k) ≡ false → times k (with_number n ns) ≡ times k ns
other k n ns e = other_by k n ns (list_any (λ m. m == n) ns) e

-- the number itself stands there once
self_by : (n : ℕ) (ns : List ℕ) (b : Bool) → list_any (λ m. m == n) ns ≡ b → times n ns ≤ 1 → times n (if b then ns else ns ++ n ∷ []) ≡ 1
self_by n ns true a l = omega (arith, present n ns a)
self_by n ns false a l =
    let c : one (n == n) ≡ 1 = ap one (eq-eqb n n refl) in
    omega (arith, times_push n n ns, absent n ns a, c)

self : (n : ℕ) (ns : List ℕ) → times n ns ≤ 1 → times n (with_number n ns) ≡ 1
self n ns l = self_by n ns (list_any (λ m. m == n) ns) refl l

once_by : (k n : ℕ) (ns : List ℕ) (c : Bool) → (n == k) ≡ c → times k ns ≡ 1 → times k (with_number n ns) ≡ 1
once_by k n ns true e o = subst (λ m. times m ns ≡ 1 → times m (with_number n ns) ≡ 1) (eqb-true n k e) (λ p. self n ns (omega (arith, p))) o
once_by k n ns false e o = other k n ns e ∙ o

most_by : (k n : ℕ) (ns : List ℕ) (c : Bool) → (n == k) ≡ c → times k ns ≤ 1 → times k (with_number n ns) ≤ 1
most_by k n ns true e l = subst (λ m. times m ns ≤ 1 → times m (with_number n ns) ≤ 1) (eqb-true n k e) (λ p. omega (arith, self n ns p)) l
most_by k n ns false e l = omega (arith, other k n ns e)

-- what stands there once does so behind more
once_kept : (k : ℕ) (ns : List ℕ) (ss : List Settled) → times k ns ≡ 1 → times k (with_numbers ns ss) ≡ 1
once_kept k ns [] o = o
once_kept k ns (s ∷ ss) o = once_kept k (with_number s.outcome ns) ss (once_by k s.outcome ns (s.outcome == k) refl o)

most_kept : (n : ℕ) (ns : List ℕ) → AreOnce ns → AreOnce (with_number n ns)
most_kept n ns a = λ k. most_by k n ns (n == k) refl (a k)

are_once : (ns : List ℕ) (ss : List Settled) → AreOnce ns → AreOnce (with_numbers ns ss)
are_once ns [] a = a
are_once ns (s ∷ ss) a = are_once (with_number s.outcome ns) ss (most_kept s.outcome ns a)

-- no outcome stands twice
pub numbers_once : (settled : List Settled) → AreOnce (numbers_in settled)
numbers_once settled = are_once [] settled (λ k. omega arith)

-- the outcome of each place stands among numbers, once
abbrev HaveOnce : List ℕ → List Settled → Type 0
HaveOnce ns [] = Unit {0}
HaveOnce ns (s ∷ ss) = (times s.outcome ns ≡ 1) × HaveOnce ns ss

have_once : (ns : List ℕ) (ss : List Settled) → AreOnce ns → HaveOnce (with_numbers ns ss) ss
have_once ns [] a = tt
have_once ns (s ∷ ss) a = (once_kept s.outcome (with_number s.outcome ns) ss (self s.outcome ns (a s.outcome)), have_once (with_number s.outcome ns) ss (most_kept s.outcome ns a))

-- how many places have one of these outcomes
abbrev all_with : List ℕ → List Settled → ℕ
all_with ns ss = sum_by (λ n. count_with n ss) ns

all_none : (ns : List ℕ) → all_with ns [] ≡ 0
all_none [] = refl
all_none (n ∷ ns) = sum_by-cons (λ m. count_with m []) n ns ∙ omega (arith, all_none ns)

all_more : (ns : List ℕ) (s : Settled) (ss : List Settled) → all_with ns (s ∷ ss) ≡ times s.outcome ns + all_with ns ss
all_more [] s ss = refl
all_more (n ∷ ns) s ss =
    let a : all_with (n ∷ ns) (s ∷ ss) ≡ count_with n (s ∷ ss) + all_with ns (s ∷ ss) = sum_by-cons (λ m. count_with m (s ∷ ss)) n ns in
    let b : all_with (n ∷ ns) ss ≡ count_with n ss + all_with ns ss = sum_by-cons (λ m. count_with m ss) n ns in
    let c : count_with n (s ∷ ss) ≡ cond (n == s.outcome) 1 0 + count_with n ss = sum_by-cons (λ (x : Settled). cond (n == x.outcome) 1 0) s ss in
    omega (arith, a, b, c, times_cons s.outcome n ns, all_more ns s ss)

all_of : (ns : List ℕ) (ss : List Settled) → HaveOnce ns ss → all_with ns ss ≡ length ss
all_of ns [] h = all_none ns
all_of ns (s ∷ ss) h = omega (arith, all_more ns s ss, h.0, all_of ns ss h.1)

-- the numbers of the places of all outcomes sum up to that of all places
pub counts_sum_up : (settled : List Settled) → sum_by (λ n. count_with n settled) (numbers_in settled) ≡ length settled
counts_sum_up settled = all_of (numbers_in settled) settled (have_once [] settled (λ k. omega arith))
