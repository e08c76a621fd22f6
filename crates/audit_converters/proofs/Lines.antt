-- All lines, walked through one after another.
use Rattle.std.proofs.Common.{◌≡◌, ◌≢◌, ℕ, suc, ◌+◌, ◌-◌, ◌^◌, ◌<◌, ◌≤◌, ◌==◌, nat_lt, Bool, true, false, not, ◌&&◌, ◌||◌, List, [], ◌∷◌, ◌∙◌, ap, refl, arith}
use Rattle.std.specs.List.{range_with_len, list_all}
use Rattle.adc_machine.specs.Machine.{is_unit_line, is_trigger_line}
use Rattle.adc_machine.specs.Words.{is_for_lines}
use Rattle.mcal_base.specs.Bits.{has_bit}
use Rattle.mcal_base.specs.facts.Numbers.{eq_other, lt_from}

-- the lines from a number on
abbrev pub from_line : ℕ → List ℕ
from_line k = range_with_len k (32 - k)

split_from : (k : ℕ) → k < 32 → from_line k ≡ k ∷ from_line (k + 1)
split_from k lt = ap (λ n. range_with_len k n) (left k lt)
  where
    left : (k : ℕ) → k < 32 → 32 - k ≡ suc (32 - (k + 1))
    left k lt = omega arith

none_from : (k : ℕ) → 32 ≤ k → from_line k ≡ []
none_from k le = ap (λ n. range_with_len k n) (left k le)
  where
    left : (k : ℕ) → 32 ≤ k → 32 - k ≡ 0
    left k le = omega arith

-- whether all lines pass a test
pub all_off : (f : ℕ → Bool) (k : ℕ) → k < 32 → f k ≡ false → list_all f (from_line k) ≡ false
all_off f k lt e = ap (λ xs. list_all f xs) (split_from k lt) ∙ ap (λ b. b && list_all f (from_line (k + 1))) e

pub all_next : (f : ℕ → Bool) (k : ℕ) → k < 32 → f k ≡ true → list_all f (from_line k) ≡ list_all f (from_line (k + 1))
all_next f k lt e = ap (λ xs. list_all f xs) (split_from k lt) ∙ ap (λ b. b && list_all f (from_line (k + 1))) e

pub all_none : (f : ℕ → Bool) (k : ℕ) → 32 ≤ k → list_all f (from_line k) ≡ true
all_none f k le = ap (λ xs. list_all f xs) (none_from k le)

-- the line is one of the module, or its bit of a value is clear
abbrev pub own_or_clear : (value line : ℕ) → Bool
own_or_clear v l = not (has_bit v l) || is_unit_line l || is_trigger_line l

both_on : (a b c : Bool) → a ≡ false → b ≡ true → (not a && b && c) ≡ c
both_on true b c e f = absurd (cc)
both_on false true c e f = refl
both_on false false c e f = absurd (cc)

-- a value of 32 bits that isn't 0 is for lines of the module where each of its lines is
pub for_lines : (v : ℕ) → v ≢ 0 → v < 2 ^ 32 → is_for_lines v ≡ list_all (own_or_clear v) (from_line 0)
for_lines v ne fits = both_on (v == 0) (nat_lt v (2 ^ 32)) (list_all (own_or_clear v) (from_line 0)) (eq_other v 0 ne) (lt_from v (2 ^ 32) fits)
