-- The numbers of expiries differ exactly where an expiry time lies between.
use Rattle.std.proofs.Common.{◌≡◌, ℕ, zero, suc, ◌+◌, ◌-◌, ◌*◌, ◌/◌, ◌<◌, ◌≤◌, min, Bool, true, false, nat_lt, refl, arith, ◌⊎◌, inl, inr}
use Rattle.std.specs.Prelude.{◌↔◌}
use Rattle.std.proofs.Math.Nat.{div-mul-le_self, div-zero, mul-le-mul_right}
use Rattle.mcal_base.specs.facts.Numbers.{lt_from, lt_is}
use Rattle.mcal_base.specs.Expiry.{expiries}
use Rattle.mcal_base.proofs.ExpiryLaws.{expiries-reached}
use Rattle.machine_laws.specs.timers.Expiries.{ExpiresBetween}

-- where one came its time has come
came : (n k j : ℕ) → j ≤ n / k → j * k ≤ n
came n k j h = omega (arith, mul-le-mul_right k h, div-mul-le_self n k)

some_period : (n k : ℕ) → 0 < n / k → 0 < k
some_period n zero h = absurd (none n h)
  where
    none : (n : ℕ) → 0 < n / 0 → ⊥
    none n h = let e : n / 0 ≡ 0 = div-zero n in omega (arith, e, h)
some_period n (suc k) h = omega arith

at_least : (j k : ℕ) → 0 < j → k ≤ j * k
at_least zero k h = absurd (omega (arith, h))
at_least (suc j) k h = omega arith

-- ---- continuous

-- a time at which this many have come lies after any at which fewer have
after_fewer : (s v p first j : ℕ) → 0 < v * p → 0 < j → expiries false s v p first < j → first < s + j * (v * p)
after_fewer s v p first j period later h = by_order (cases first (s + j * (v * p)))
  where
    cases : (a b : ℕ) → (a < b) ⊎ (b ≤ a)
    cases a b = grind arith

    by_order : (first < s + j * (v * p)) ⊎ (s + j * (v * p) ≤ first) → first < s + j * (v * p)
    by_order (inl lt) = lt
    by_order (inr ge) = absurd (omega (arith, expiries-reached s v p first j period later ge, h))

before_more : (s v p first j : ℕ) → 0 < v * p → 0 < j → first < s + j * (v * p) → expiries false s v p first < j
before_more s v p first j period later h = by_order (cases j (expiries false s v p first))
  where
    cases : (a b : ℕ) → (b < a) ⊎ (a ≤ b)
    cases a b = grind arith

    by_order : (expiries false s v p first < j) ⊎ (j ≤ expiries false s v p first) → expiries false s v p first < j
    by_order (inl lt) = lt
    by_order (inr ge) = absurd (omega (arith, came (first - s) (v * p) j ge, at_least j (v * p) later, h, period))

-- the time of the j-th, where fewer had come and so many have
found : (one_shot : Bool) (s v p first last j : ℕ) → 0 < j → (one_shot ≡ true → j ≡ 1) → expiries false s v p first < j → j ≤ expiries false s v p last
    → ExpiresBetween one_shot s v p first last
found one_shot s v p first last j later once few many =
    let period : 0 < v * p = some_period (last - s) (v * p) (omega (arith, later, many)) in
    record {
      time = s + j * (v * p);
      expires = record { counts = period; spans = j; later = later; once = once; comes = refl };
      later = after_fewer s v p first j period later few;
      within = omega (arith, came (last - s) (v * p) j many, at_least j (v * p) later, period);
    }

many_came : (one_shot : Bool) (s v p first last : ℕ) (e : ExpiresBetween one_shot s v p first last)
    → (expiries false s v p first < e.expires.spans) × (e.expires.spans ≤ expiries false s v p last)
many_came one_shot s v p first last e =
    let x = e.expires in (
      before_more s v p first x.spans x.counts x.later (omega (arith, e.later, x.comes)),
      expiries-reached s v p last x.spans x.counts x.later (omega (arith, e.within, x.comes)),
    )

-- ---- both kinds

one_of : (a b : ℕ) → min a 1 < min b 1 → (a < 1) × (1 ≤ b)
one_of a b h = (omega arith, omega arith)

is_one : (a b : ℕ) → a < 1 → 1 ≤ b → min a 1 < min b 1
is_one a b h k = omega arith

times_of : (one_shot : Bool) (s v p first last : ℕ) → expiries one_shot s v p first < expiries one_shot s v p last → ExpiresBetween one_shot s v p first last
times_of true s v p first last h =
    let one = one_of (expiries false s v p first) (expiries false s v p last) h in
    found true s v p first last 1 (omega arith) (λ e. refl) one.0 one.1
times_of false s v p first last h =
    found false s v p first last (expiries false s v p last) (omega (arith, h)) (λ e. absurd (cc e)) h (omega arith)

numbers_of : (one_shot : Bool) (s v p first last : ℕ) → ExpiresBetween one_shot s v p first last → expiries one_shot s v p first < expiries one_shot s v p last
numbers_of true s v p first last e =
    let many = many_came true s v p first last e in
    let once : e.expires.spans ≡ 1 = e.expires.once refl in
    is_one (expiries false s v p first) (expiries false s v p last) (omega (arith, many.0, once)) (omega (arith, many.1, once))
numbers_of false s v p first last e = let many = many_came false s v p first last e in omega (arith, many.0, many.1)

pub by_times : (one_shot : Bool) (s v p first last : ℕ)
    → (nat_lt (expiries one_shot s v p first) (expiries one_shot s v p last) ≡ true) ↔ ExpiresBetween one_shot s v p first last
by_times one_shot s v p first last =
    (λ e. times_of one_shot s v p first last (lt_is _ _ e), λ e. lt_from _ _ (numbers_of one_shot s v p first last e))
