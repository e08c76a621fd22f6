-- Counters by times.
use Rattle.std.proofs.Common.{◌≡◌, ◌≢◌, ℕ, zero, suc, ◌+◌, ◌-◌, ◌*◌, ◌/◌, ◌%◌, ◌<◌, ◌≤◌, min, true, false, nat_lt, refl, sym, ◌∙◌, ap, arith, ◌⊎◌, inl, inr}
use Rattle.std.specs.Prelude.{◌↔◌}
use Rattle.std.proofs.lemmas.Bool.Decides.{nat_tests}
use Rattle.std.proofs.lemmas.Nat.{div_below, le-div, div-mul-add, mod-mul-add, div-add-mod', mod_below}
use Rattle.std.proofs.Math.Nat.{div-mul-le_self, mul_assoc, add-mul, suc-mul, mul-le-mul_right, mul-pos}
use Rattle.mcal_base.specs.Expiry.{counts_since, count_of, runs_on}
use Rattle.mcal_base.proofs.ExpiryLaws.{runs_on-time}
use Rattle.machine_laws.specs.timers.Expiries.{ExpiresAt, IsReachedAt}

-- ---- counts

since_start : (s n : ℕ) → s + n - s ≡ n
since_start s n = omega arith

pub counted : (s p counts place : ℕ) → place < p → counts_since s p (s + (counts * p + place)) ≡ counts
counted s p counts place h = rw (since_start s (counts * p + place)) (div-mul-add counts p place h)

below_target : (q v : ℕ) → q < v → min q v ≡ q
below_target q v h = omega arith

pub one_shot_counts : (s v p counts place : ℕ) → place < p → counts < v → count_of true s v p (s + (counts * p + place)) ≡ counts
one_shot_counts s v p counts place h below = rw (counted s p counts place h) (below_target counts v below)

at_target : (q v : ℕ) → v ≤ q → min q v ≡ v
at_target q v h = omega arith

pub full_counts : (s v p now : ℕ) → 0 < p → s + v * p ≤ now → count_of true s v p now ≡ v
full_counts s v p now some h =
    let inside : v * p ≤ now - s = omega arith in at_target (counts_since s p now) v (le-div v (now - s) p some inside)

-- whole rounds, and counts of the next one
in_counts : (s v p rounds counts place : ℕ) → s + (rounds * (v * p) + (counts * p + place)) ≡ s + ((rounds * v + counts) * p + place)
in_counts s v p rounds counts place = omega (arith, mul_assoc rounds v p, add-mul (rounds * v) counts p)

pub continuous_counts : (s v p rounds counts place : ℕ) → place < p → counts < v
    → count_of false s v p (s + (rounds * (v * p) + (counts * p + place))) ≡ counts
continuous_counts s v p rounds counts place h below =
    ap (λ t. counts_since s p t % v) (in_counts s v p rounds counts place)
    ∙ ap (λ q. q % v) (counted s p (rounds * v + counts) place h)
    ∙ mod-mul-add rounds v counts below

-- ---- a one-shot counter is at its target for the first time

counts_after : (s v p time : ℕ) → v ≤ counts_since s p time → v * p ≤ time - s
counts_after s v p time h = omega (arith, mul-le-mul_right p h, div-mul-le_self (time - s) p)

below_before : (s v p time : ℕ) → 0 < p → 0 < v * p → time < s + v * p → count_of true s v p time < v
below_before s v p time some counts h =
    let inside : time - s < v * p = omega arith in
    let few : counts_since s p time < v = div_below (time - s) p v some inside in omega arith

pub reached : (s v p time : ℕ) → 0 < p → ExpiresAt true s v p time → IsReachedAt (count_of true s v p) v time
reached s v p time some e =
    let once : e.spans ≡ 1 = e.once refl in
    let at : e.spans * (v * p) ≡ 1 * (v * p) = ap (λ n. n * (v * p)) once in
    let is : time ≡ s + v * p = omega (arith, e.comes, at) in
    record {
      there = full_counts s v p time some (omega arith);
      below = λ earlier h. below_before s v p earlier some e.counts (omega arith);
    }

first_time : (s v p time : ℕ) → 0 < p → IsReachedAt (count_of true s v p) v time → s + v * p ≤ time → (time < s + v * p + 1)
first_time s v p time some r h = by_order (cases time (s + v * p))
  where
    cases : (a b : ℕ) → (a < b + 1) ⊎ (b < a)
    cases a b = grind arith

    by_order : (time < s + v * p + 1) ⊎ (s + v * p < time) → time < s + v * p + 1
    by_order (inl early) = early
    by_order (inr late) =
        let full : count_of true s v p (s + v * p) ≡ v = full_counts s v p (s + v * p) some (omega arith) in
        let less : count_of true s v p (s + v * p) < v = r.below (s + v * p) late in absurd (omega (arith, full, less))

all_counted : (q v : ℕ) → min q v ≡ v → v ≤ q
all_counted q v e = omega arith

pub expires_where_reached : (s v p time : ℕ) → 0 < v → 0 < p → IsReachedAt (count_of true s v p) v time → ExpiresAt true s v p time
expires_where_reached s v p time target some r =
    let period : 0 < v * p = mul-pos target some in
    let inside : v * p ≤ time - s = counts_after s v p time (all_counted (counts_since s p time) v r.there) in
    let early : time < s + v * p + 1 = first_time s v p time some r (omega arith) in
    record { counts = period; spans = 1; later = omega arith; once = λ e. refl; comes = omega arith }

-- ---- a continuous counter goes to 0

pub factor_left : (v p : ℕ) → 0 < v * p → 0 < v
factor_left zero p h = absurd (omega (arith, h))
factor_left (suc v) p h = omega arith

pub factor_right : (v p : ℕ) → 0 < v * p → 0 < p
factor_right v zero h = absurd (omega (arith, h))
factor_right v (suc p) h = omega arith

goes_to_zero : (s v p spans : ℕ) → 0 < v → 0 < p → count_of false s v p (s + spans * (v * p)) ≡ 0
goes_to_zero s v p spans target some =
    let is : s + spans * (v * p) ≡ s + (spans * (v * p) + (0 * p + 0)) = omega arith in
    ap (λ t. count_of false s v p t) is ∙ continuous_counts s v p spans 0 0 some target

last_unit : (s v p spans : ℕ) → s + suc spans * (suc v * suc p) - 1 ≡ s + (spans * (suc v * suc p) + (v * suc p + p))
last_unit s v p spans = omega (arith, suc-mul spans (suc v * suc p), suc-mul v (suc p))

comes_from_last : (s v p spans : ℕ) → 0 < spans → 0 < v → 0 < p → count_of false s v p (s + spans * (v * p) - 1) ≡ v - 1
comes_from_last s zero p spans later target some = absurd (omega (arith, target))
comes_from_last s v zero spans later target some = absurd (omega (arith, some))
comes_from_last s v p zero later target some = absurd (omega (arith, later))
comes_from_last s (suc v) (suc p) (suc spans) later target some =
    let less : suc v - 1 ≡ v = omega arith in
    ap (λ t. count_of false s (suc v) (suc p) t) (last_unit s v p spans)
    ∙ (continuous_counts s (suc v) (suc p) spans v p (omega arith) (omega arith) ∙ sym less)

pub turns_over : (s v p time : ℕ) → ExpiresAt false s v p time → (count_of false s v p time ≡ 0) × (count_of false s v p (time - 1) ≡ v - 1)
turns_over s v p time e =
    let target : 0 < v = factor_left v p e.counts in
    let some : 0 < p = factor_right v p e.counts in (
      ap (λ t. count_of false s v p t) e.comes ∙ goes_to_zero s v p e.spans target some,
      ap (λ t. count_of false s v p (t - 1)) e.comes ∙ comes_from_last s v p e.spans e.later target some,
    )

-- ---- and only there

same_count : (n p q r : ℕ) → n ≡ q * p + suc r → suc r < p → (n - 1) / p ≡ q
same_count n p q r e h =
    let is : n - 1 ≡ q * p + r = omega arith in
    let below : r < p = omega arith in ap (λ x. x / p) is ∙ div-mul-add q p r below

-- where the number of counts has changed within a unit of time, that unit ends a count
ends_count : (n p r : ℕ) → n ≡ n / p * p + r → r < p → n / p ≢ (n - 1) / p → r ≡ 0
ends_count n p zero e h ne = refl
ends_count n p (suc r) e h ne = absurd (ne (sym (same_count n p (n / p) r e h)))

some_rounds : (q v rounds : ℕ) → q ≡ rounds * v → 0 < q → 0 < rounds
some_rounds q v zero e h = absurd (omega (arith, e, h))
some_rounds q v (suc rounds) e h = omega arith

whole : (q v : ℕ) → q % v ≡ 0 → q ≡ q / v * v
whole q v e = omega (arith, div-add-mod' q v, e)

pub expires_where_zero : (s v p time : ℕ) → 0 < v → 0 < p → count_of false s v p time ≡ 0 → count_of false s v p (time - 1) ≢ 0 → ExpiresAt false s v p time
expires_where_zero s v p time target some at before =
    let n = time - s in
    let less : time - 1 - s ≡ n - 1 = omega arith in
    let apart : n / p ≢ (n - 1) / p = λ e. before (ap (λ x. x / p % v) less ∙ (ap (λ q. q % v) (sym e) ∙ at)) in
    let split : n ≡ n / p * p + n % p = omega (arith, div-add-mod' n p) in
    let ends : n % p ≡ 0 = ends_count n p (n % p) split (mod_below n p some) apart in
    let rounds = n / p / v in
    let counts : n / p ≡ rounds * v = whole (n / p) v at in
    let is : n ≡ rounds * (v * p) = omega (arith, split, ends, ap (λ q. q * p) counts, mul_assoc rounds v p) in
    let later : 0 < n = some_time n p apart in
    record {
      counts = mul-pos target some;
      spans = rounds;
      later = rounds_of n rounds (v * p) is later;
      once = λ e. absurd (cc e);
      comes = omega (arith, is, later);
    }
  where
    none : (n p : ℕ) → n ≡ 0 → n / p ≡ (n - 1) / p
    none n p e = let is : n - 1 ≡ n = omega arith in ap (λ x. x / p) (sym is)

    some_time : (n p : ℕ) → n / p ≢ (n - 1) / p → 0 < n
    some_time zero p ne = absurd (ne (none zero p refl))
    some_time (suc n) p ne = omega arith

    rounds_of : (n rounds period : ℕ) → n ≡ rounds * period → 0 < n → 0 < rounds
    rounds_of n rounds period e h = some_rounds n period rounds e h

-- ---- a one-shot timer runs until it expires

pub runs_until : (s v p now : ℕ) → 0 < v → 0 < p → (runs_on true s v p now ≡ true) ↔ (now < s + v * p)
runs_until s v p now target some = (forth, back)
  where
    less : (a b : ℕ) → nat_lt a b ≡ true → a < b
    less a b e = grind (arith, nat_tests)

    is_less : (a b : ℕ) → a < b → nat_lt a b ≡ true
    is_less a b h = grind (arith, nat_tests)

    forth : runs_on true s v p now ≡ true → now < s + v * p
    forth e = let h : now - s < v * p = less (now - s) (v * p) (sym (runs_on-time s v p now some) ∙ e) in omega (arith, h)

    back : now < s + v * p → runs_on true s v p now ≡ true
    back h =
        let period : 0 < v * p = mul-pos target some in
        let inside : now - s < v * p = omega arith in runs_on-time s v p now some ∙ is_less (now - s) (v * p) inside
