-- Lemmas on numbers and tests that the serving of a round rests on, without the words and the state, so that no search reads those.
-- Used by services.ServeActRight.
use Rattle.std.proofs.Common.{◌≡◌, ◌≢◌, ◌+◌, ◌-◌, ◌*◌, ◌<◌, ◌≤◌, ◌&&◌, ◌||◌, ◌==◌}
use Rattle.adc_laws.specs.serving.Terms
use Terms.{AdcTable, arith, Bank, bank_word, Bool, false, group_word, nat_le, nat_lt, nat_tests, refl, rounds_of}
use Terms.{STATE, trio_of, true, ℕ}

pub three_off : (a b c : Bool) → b ≡ false → c ≡ false → a || b || c ≡ a
three_off false true c e f = absurd (cc)
three_off false false true e f = absurd (cc)
three_off _ _ _ e f = refl

pub some_left : (m n : ℕ) → m < n → 0 < n
some_left m n less = omega (arith, less)

pub whole_count : (v k i l : ℕ) → v ≡ k + l → l ≡ i - k → k < i → v ≡ i
whole_count v k i l count left less = omega (arith, count, left, less)

pub three_four : (n : ℕ) → n < 3 → n < 4
three_four n less = omega (arith, less)

pub below_seven : (j : ℕ) → nat_lt j 7 ≡ true → j ≢ 7
below_seven j e i = grind (arith, nat_tests)

pub zero_claims : (n k : ℕ) → n ≡ 0 → n ≡ 2 + k → ⊥
zero_claims n k e i = omega (arith, e, i)

pub one_claims : (n k : ℕ) → n ≡ 1 → n ≡ 2 + k → ⊥
one_claims n k e i = omega (arith, e, i)

pub past_order : (k at : ℕ) → at + 2 < k → k == at || (k == at + 1 || k == at + 2) ≡ false
past_order k at lt = grind (arith, nat_tests)

pub control_past : (s u : ℕ) → 64 ≤ s → u < 2 → STATE + 10 + 8 * u + 2 < STATE + s + 7
control_past s u low few = omega (arith, low, few)

pub control_word : (d : AdcTable) (g : ℕ) → group_word d g 7 ≡ (trio_of (rounds_of d g)).control
control_word d g = omega arith

pub in_banks : (control first len k : ℕ) → (k == control) ≡ false → k == control || (nat_le first k && nat_lt k (first + len)) ≡ true → first ≤ k
in_banks control first len k off e = grind (arith, nat_tests)

pub past_eight : (s i j : ℕ) → STATE + s + 32 ≤ j → i < 8 → j ≡ STATE + s + i → ⊥
past_eight s i j from less e = omega (arith, from, less, e)

pub past_unit : (s u i j : ℕ) → STATE + s + 32 ≤ j → 64 ≤ s → u < 2 → i < 5 → j ≡ STATE + 8 + 8 * u + i → ⊥
past_unit s u i j from low few less e = omega (arith, from, low, few, less, e)

pub bank_from : (d : AdcTable) (g : ℕ) (b : Bank) (j : ℕ) → STATE + (rounds_of d g).start + 32 ≤ bank_word (rounds_of d g) b j
bank_from d g b j = omega arith
