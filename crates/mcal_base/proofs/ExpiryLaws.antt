-- What is known of counters by times.
use Rattle.std.proofs.Common.{◌≡◌, ℕ, zero, suc, ◌+◌, ◌-◌, ◌*◌, ◌/◌, ◌<◌, ◌≤◌, min, Bool, true, false, nat_lt, refl, sym, ◌∙◌, arith, ◌⊎◌, inl, inr}
use Rattle.std.specs.Prelude.{if◌then◌else◌}
use Rattle.std.proofs.lemmas.Bool.Decides.{nat_tests}
use Rattle.std.proofs.lemmas.Nat.{div_below, le-div}
use Rattle.std.proofs.Math.Nat.{zero-div, div-mul-le_self, mul-le-mul_right, div-zero}
use Rattle.mcal_base.specs.facts.Numbers.{lt_from, lt_since}
use Rattle.mcal_base.specs.Expiry.{counts_since, count_of, expiries, runs_on}

no_time : (s : ℕ) → s - s ≡ 0
no_time s = omega arith

zero_test : (n : ℕ) → 0 < n → nat_lt 0 n ≡ true
zero_test n h = grind (arith, nat_tests)

-- ---- at the start

pub counts_since-start : (s p : ℕ) → counts_since s p s ≡ 0
counts_since-start s p = rw (no_time s) (zero-div p)

pub count_of-start : (one_shot : Bool) (s v p : ℕ) → 0 < v → count_of one_shot s v p s ≡ 0
count_of-start true s v p h = rw (counts_since-start s p) (omega arith)
count_of-start false s v p h = rw (counts_since-start s p) (omega arith)

pub runs_on-start : (one_shot : Bool) (s v p : ℕ) → 0 < v → runs_on one_shot s v p s ≡ true
runs_on-start true s v p h = rw (counts_since-start s p) (zero_test v h)
runs_on-start false s v p h = refl

pub expiries-start : (one_shot : Bool) (s v p : ℕ) → expiries one_shot s v p s ≡ 0
expiries-start true s v p = rw (no_time s, zero-div (v * p)) refl
expiries-start false s v p = rw (no_time s, zero-div (v * p)) refl

-- ---- expiries stand at the start plus multiples of target and prescaler

le_of_le-div : (m n k : ℕ) → m ≤ n / k → m * k ≤ n
le_of_le-div m n k h = omega (arith, mul-le-mul_right k h, div-mul-le_self n k)

-- a continuous timer: at least j expiries came exactly where the j-th expiry time has come
pub expiries-reached : (s v p now j : ℕ) → 0 < v * p → 0 < j → s + j * (v * p) ≤ now → j ≤ expiries false s v p now
expiries-reached s v p now j some at h = let inside : j * (v * p) ≤ now - s = omega arith in le-div j (now - s) (v * p) some inside

pub expiries-came : (s v p now j : ℕ) → 0 < v * p → 0 < j → s ≤ now → j ≤ expiries false s v p now → s + j * (v * p) ≤ now
expiries-came s v p now j some at started h =
    let inside : j * (v * p) ≤ now - s = le_of_le-div j (now - s) (v * p) h in omega arith

div-le-div : (a b k : ℕ) → a ≤ b → a / k ≤ b / k
div-le-div a b zero h = rw (div-zero a, div-zero b) (omega arith)
div-le-div a b (suc k) h =
    let inside : a / suc k * suc k ≤ b = omega (arith, div-mul-le_self a (suc k)) in le-div (a / suc k) b (suc k) (omega arith) inside

-- no expiry is taken back
at_most_one : (a b : ℕ) → a ≤ b → min a 1 ≤ min b 1
at_most_one a b h = omega arith

pub expiries-later : (one_shot : Bool) (s v p a b : ℕ) → a ≤ b → expiries one_shot s v p a ≤ expiries one_shot s v p b
expiries-later true s v p a b h =
    let spans : a - s ≤ b - s = omega arith in at_most_one _ _ (div-le-div (a - s) (b - s) (v * p) spans)
expiries-later false s v p a b h = let spans : a - s ≤ b - s = omega arith in div-le-div (a - s) (b - s) (v * p) spans

-- ---- a one-shot timer

below_or_not : (a b : ℕ) → (a < b) ⊎ (b ≤ a)
below_or_not a b = grind arith

runs_by_span : (span v p : ℕ) → 0 < p → (span < v * p) ⊎ (v * p ≤ span) → nat_lt (span / p) v ≡ nat_lt span (v * p)
runs_by_span span v p some (inl h) = lt_from (span / p) v (div_below span p v some h) ∙ sym (lt_from span (v * p) h)
runs_by_span span v p some (inr h) = lt_since (span / p) v (le-div v span p some h) ∙ sym (lt_since span (v * p) h)

-- it runs until its target's worth of time has passed
pub runs_on-time : (s v p now : ℕ) → 0 < p → runs_on true s v p now ≡ nat_lt (now - s) (v * p)
runs_on-time s v p now some = runs_by_span (now - s) v p some (below_or_not (now - s) (v * p))

-- it expires where it stops
expires_by_span : (span period : ℕ) → 0 < period → (span < period) ⊎ (period ≤ span) → min (span / period) 1 ≡ (if nat_lt span period then 0 else 1)
expires_by_span span period some (inl h) =
    let none : span / period < 1 = div_below span period 1 some (omega arith) in rw (lt_from span period h) (omega arith)
expires_by_span span period some (inr h) =
    let one : 1 ≤ span / period = le-div 1 span period some (omega arith) in rw (lt_since span period h) (omega arith)

pub expiries-one_shot : (s v p now : ℕ) → 0 < p → 0 < v * p → expiries true s v p now ≡ (if runs_on true s v p now then 0 else 1)
expiries-one_shot s v p now some period =
    rw (runs_on-time s v p now some) (expires_by_span (now - s) (v * p) period (below_or_not (now - s) (v * p)))

-- where it has stopped the counter is the target
target_stays : (q v : ℕ) → nat_lt q v ≡ false → min q v ≡ v
target_stays q v h = grind (arith, nat_tests)

pub count_of-stopped : (s v p now : ℕ) → runs_on true s v p now ≡ false → count_of true s v p now ≡ v
count_of-stopped s v p now h = target_stays (counts_since s p now) v h

counts_below : (q v : ℕ) → nat_lt q v ≡ true → min q v ≡ q
counts_below q v h = grind (arith, nat_tests)

pub count_of-running : (s v p now : ℕ) → runs_on true s v p now ≡ true → count_of true s v p now ≡ counts_since s p now
count_of-running s v p now h = counts_below (counts_since s p now) v h

-- ---- both kinds

pub count_of-within : (one_shot : Bool) (s v p now : ℕ) → 0 < v → count_of one_shot s v p now ≤ v
count_of-within true s v p now h = omega arith
count_of-within false s v p now h = omega arith

stays_out : (a b v : ℕ) → a ≤ b → nat_lt a v ≡ false → nat_lt b v ≡ false
stays_out a b v h e = grind (arith, nat_tests)

-- what has stopped stays so
pub runs_on-later : (one_shot : Bool) (s v p a b : ℕ) → a ≤ b → runs_on one_shot s v p a ≡ false → runs_on one_shot s v p b ≡ false
runs_on-later true s v p a b h e =
    let spans : a - s ≤ b - s = omega arith in stays_out (counts_since s p a) (counts_since s p b) v (div-le-div (a - s) (b - s) p spans) e
runs_on-later false s v p a b h e = absurd (cc e)
