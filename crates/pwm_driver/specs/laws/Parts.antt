-- Numbers, channels and bits: what the proofs of all parts use.
-- From service_outline: StepKinds.
-- Used by Notify, Flags, DeInit, Init, InitRight and 3 more.
use Rattle.std.proofs.Common.{◌≡◌, ◌≢◌, ℕ, ◌+◌, ◌<◌, ◌^◌, true, false, ◌||◌, nat_lt, refl, ◌∙◌, ap, arith}
use Rattle.std.specs.Prelude.{if◌then◌else◌}
use Rattle.std.proofs.lemmas.Bool.Decides.{nat_tests}
use Rattle.std.proofs.lemmas.Bool.{or_from}
use Rattle.mcal_base.specs.Bits.{has_bit}
use Rattle.mcal_base.proofs.BitLaws.{has_bit-or, has_bit-pow_same, has_bit-pow_other}
use Rattle.service_outline.specs.laws.StepKinds.{or_true}
use Rattle.pwm_driver.specs.Words.{bit, both}
use Rattle.module_machines.specs.declared.pwm.table.PwmTable.{PwmTable}

-- ---- the channels of a driver

-- the driver is this one
pub data Own (d : PwmTable) : PwmTable → Type 0 where
  Is_own : Own d d

pub below_test : (c : ℕ) → c < 8 → nat_lt c 8 ≡ true
below_test c lt = grind (arith, nat_tests)

-- ---- bits

bit_is : (k : ℕ) → k < 16 → bit k ≡ 2 ^ k
bit_is k lt = ap (λ q. if q then 2 ^ k else 0) (few k lt)
  where
    few : (k : ℕ) → k < 16 → nat_lt k 32 ≡ true
    few k lt = grind (arith, nat_tests)

pub has_one : (k : ℕ) → k < 16 → has_bit (bit k) k ≡ true
has_one k lt = ap (λ x. has_bit x k) (bit_is k lt) ∙ has_bit-pow_same k

pub has_other : (k i : ℕ) → k < 16 → i ≢ k → has_bit (bit k) i ≡ false
has_other k i lt ne = ap (λ x. has_bit x i) (bit_is k lt) ∙ has_bit-pow_other k i ne

pub both_rising : (c : ℕ) → c < 8 → has_bit (both c) c ≡ true
both_rising c lt = has_bit-or (bit c) (bit (c + 8)) c ∙ ap (λ q. q || has_bit (bit (c + 8)) c) (has_one c (omega (arith, lt)))

pub both_falling : (c : ℕ) → c < 8 → has_bit (both c) (c + 8) ≡ true
both_falling c lt = has_bit-or (bit c) (bit (c + 8)) (c + 8) ∙ (ap (λ q. has_bit (bit c) (c + 8) || q) (has_one (c + 8) (omega (arith, lt))) ∙ or_true (has_bit (bit c) (c + 8)) refl)

pub both_other : (c k : ℕ) → c < 8 → k ≢ c → k ≢ c + 8 → has_bit (both c) k ≡ false
both_other c k lt ne nf = has_bit-or (bit c) (bit (c + 8)) k ∙ or_from (has_bit (bit c) k) (has_bit (bit (c + 8)) k) (has_other c k (omega (arith, lt)) ne) (has_other (c + 8) k (omega (arith, lt)) nf)

-- the two bits of a channel are none of another one's
pub past_it : (c k : ℕ) → k < 8 → k ≢ c + 8
past_it c k lt e = absurd (omega (arith, lt, e))

pub not_it : (c k : ℕ) → k ≢ c → k + 8 ≢ c + 8
not_it c k ne e = ne (omega (arith, e))

pub not_low : (c k : ℕ) → c < 8 → k + 8 ≢ c
not_low c k lt e = absurd (omega (arith, lt, e))
