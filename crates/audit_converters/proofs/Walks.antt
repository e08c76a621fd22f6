-- All groups, walked through one after another.
use Rattle.std.proofs.Common.{◌≡◌, ℕ, suc, ◌+◌, ◌-◌, ◌<◌, ◌≤◌, Bool, true, false, ◌||◌, cond, List, [], ◌∷◌, ◌∙◌, ap, arith, Some, None}
use Rattle.std.specs.List.{range_with_len, list_any}
use Rattle.adc_machine.specs.Triggers.{listens, listener_among}
use Rattle.adc_machine.specs.Turns.{AdcState}
use Rattle.adc_machine.specs.declared.table.AdcTable.{AdcTable}

-- the groups from a number on
abbrev pub from_group : ℕ → List ℕ
from_group k = range_with_len k (16 - k)

pub split_from : (k : ℕ) → k < 16 → from_group k ≡ k ∷ from_group (k + 1)
split_from k lt = ap (λ n. range_with_len k n) (left k lt)
  where
    left : (k : ℕ) → k < 16 → 16 - k ≡ suc (16 - (k + 1))
    left k lt = omega arith

pub none_from : (k : ℕ) → 16 ≤ k → from_group k ≡ []
none_from k le = ap (λ n. range_with_len k n) (left k le)
  where
    left : (k : ℕ) → 16 ≤ k → 16 - k ≡ 0
    left k le = omega arith

-- whether any group passes a test
pub any_here : (f : ℕ → Bool) (k : ℕ) → k < 16 → f k ≡ true → list_any f (from_group k) ≡ true
any_here f k lt e = ap (λ xs. list_any f xs) (split_from k lt) ∙ ap (λ b. b || list_any f (from_group (k + 1))) e

pub any_next : (f : ℕ → Bool) (k : ℕ) → k < 16 → f k ≡ false → list_any f (from_group k) ≡ list_any f (from_group (k + 1))
any_next f k lt e = ap (λ xs. list_any f xs) (split_from k lt) ∙ ap (λ b. b || list_any f (from_group (k + 1))) e

pub any_none : (f : ℕ → Bool) (k : ℕ) → 16 ≤ k → list_any f (from_group k) ≡ false
any_none f k le = ap (λ xs. list_any f xs) (none_from k le)

-- the first group that listens
pub listener_here : (d : AdcTable) (s : AdcState) (i k : ℕ) → k < 16 → listens d s i k ≡ true → listener_among d s i (from_group k) ≡ Some k
listener_here d s i k lt e = ap (λ xs. listener_among d s i xs) (split_from k lt) ∙ ap (λ b. cond b (Some k) (listener_among d s i (from_group (k + 1)))) e

pub listener_next : (d : AdcTable) (s : AdcState) (i k : ℕ) → k < 16 → listens d s i k ≡ false → listener_among d s i (from_group k) ≡ listener_among d s i (from_group (k + 1))
listener_next d s i k lt e = ap (λ xs. listener_among d s i xs) (split_from k lt) ∙ ap (λ b. cond b (Some k) (listener_among d s i (from_group (k + 1)))) e

pub listener_none : (d : AdcTable) (s : AdcState) (i k : ℕ) → 16 ≤ k → listener_among d s i (from_group k) ≡ None
listener_none d s i k le = ap (λ xs. listener_among d s i xs) (none_from k le)

-- from the last one back
pub split_back : (k : ℕ) → k < 16 → from_group (16 - (k + 1)) ≡ (15 - k) ∷ from_group (16 - k)
split_back k lt = ap from_group (one k lt) ∙ (split_from (15 - k) (omega arith) ∙ ap (λ n. (15 - k) ∷ from_group n) (next k lt))
  where
    one : (k : ℕ) → k < 16 → 16 - (k + 1) ≡ 15 - k
    one k lt = omega arith

    next : (k : ℕ) → k < 16 → 15 - k + 1 ≡ 16 - k
    next k lt = omega arith

pub none_left : (k : ℕ) → 16 ≤ k → from_group (16 - k) ≡ from_group 0
none_left k le = ap from_group (none k le)
  where
    none : (k : ℕ) → 16 ≤ k → 16 - k ≡ 0
    none k le = omega arith
