-- Masks made of lists of truth values.
use Rattle.std.proofs.Common.{◌≡◌, ℕ, zero, suc, ◌+◌, ◌*◌, ◌^◌, ◌<◌, ◌≤◌, Bool, true, false, ◌==◌, cond, List, [], ◌∷◌, length, map, get_or, refl, sym, ◌∙◌, ap, arith, pow_mono}
use Rattle.std.specs.Prelude.{nat_lt}
use Rattle.std.specs.Simd.Lanes.{mask_l}
use Rattle.std.proofs.Math.Nat.{two-pow-succ}
use Rattle.std.proofs.lemmas.Bool.Decides.{nat_tests}
use Rattle.std.proofs.lemmas.Simd.{bit_mask_l, mask_l-lt}
use Rattle.mcal_base.specs.Bits.{has_bit}
use Rattle.mcal_base.specs.facts.Numbers.{lt_from, lt_zero}

is_one : (b : Bool) → (cond b 1 0 == 1) ≡ b
is_one true = refl
is_one false = refl

-- what each bit is
pub bit_is : (bs : List Bool) (i : ℕ) → has_bit (mask_l bs) i ≡ get_or bs i false
bit_is bs i = ap (λ n. n == 1) (bit_mask_l bs i) ∙ is_one (get_or bs i false)

next : (i n : ℕ) → nat_lt i n ≡ nat_lt (suc i) (suc n)
next i n = grind (arith, nat_tests)

-- a test that holds of each marks as many as there are
pub all_set : {K : Type 0} (f : K → Bool) (ks : List K) (i : ℕ) → ((k : K) → f k ≡ true) → get_or (map f ks) i false ≡ nat_lt i (length ks)
all_set f [] i h = sym (lt_zero i)
all_set f (k ∷ ks) zero h = h k ∙ sym (lt_from zero (suc (length ks)) (omega arith))
all_set f (k ∷ ks) (suc i) h = all_set f ks i h ∙ next i (length ks)

-- one more bit has room
pub room : (bs : List Bool) (n m : ℕ) → length bs ≤ n → n < m → 2 * mask_l bs + 1 < 2 ^ m
room bs n m few lt = omega (arith, mask_l-lt bs, pow_mono {i = length bs} {j = n} few, two-pow-succ n, pow_mono {i = suc n} {j = m} (omega arith))
