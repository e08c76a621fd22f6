-- The numbers of a stream in words are the machine's after one more round: how many its buffer holds, the next place, and the phase.
-- From adc_groups: services.Decisions, adc_groups: words.Cases.
-- Used by services.ServeRight.
use Rattle.std.proofs.Common.{◌≡◌, ◌≢◌, ◌+◌, ◌%◌, ◌<◌, ◌≤◌, ◌&&◌, ◌||◌, ◌==◌, ◌∙◌, if◌then◌else◌}
use Rattle.adc_laws.specs.serving.Terms
use Terms.{ap, arith, Bool, false, following, Group, Idle, is_full, is_linear_stream, is_streamed, lt_is}
use Terms.{lt_isnt, min, mod-eq_of_lt, mod-lt, mod_self, nat_le, nat_lt, nat_tests, one_more, Option, Phase, phase_in}
use Terms.{phase_number, phase_of, phase_on, refl, samples_of, Status, status_after, StreamCompleted, subst, suc}
use Terms.{suc-mod, sym, true, whether_as, ℕ}
use Rattle.mcal_base.specs.facts.Numbers.{eq_from}

pub count_after : (n m : ℕ) → one_more (min n m) m ≡ min (n + 1) m
count_after n m = whether_as (nat_lt (min n m) m) (λ q. (if q then min n m + 1 else m) ≡ min (n + 1) m)
    (λ e. let lt = lt_is (min n m) m e in omega (arith, lt))
    (λ e. let le = lt_isnt (min n m) m e in omega (arith, le))

one_past : (n m : ℕ) → (n + 1) % m ≡ suc (n % m) % m
one_past n m = let is : n + 1 ≡ suc n = omega arith in ap (λ k. k % m) is ∙ suc-mod n m

module _ (n m : ℕ) (some : 0 < m) (few : m ≤ 64) where
  less : n % m < m
  less = mod-lt n some

  small : nat_lt (n % m) 255 ≡ true
  small = let lt = less in let l : n % m < 255 = omega (arith, lt, few) in grind (arith, nat_tests)

  pub place_after : following (n % m) m ≡ (n + 1) % m
  place_after = subst (λ q. (if q && nat_lt (n % m + 1) m then n % m + 1 else 0) ≡ (n + 1) % m) (sym small) (by (nat_lt (n % m + 1) m) refl)
    where
      by : (q : Bool) → nat_lt (n % m + 1) m ≡ q → (if q then n % m + 1 else 0) ≡ (n + 1) % m
      by true e = let lt = lt_is (n % m + 1) m e in let is : suc (n % m) ≡ n % m + 1 = omega arith in sym (one_past n m ∙ (mod-eq_of_lt (omega (arith, lt)) ∙ is))
      by false e = let le = lt_isnt (n % m + 1) m e in let lt = less in let is : suc (n % m) ≡ m = omega (arith, le, lt) in sym (one_past n m ∙ (ap (λ k. k % m) is ∙ mod_self m))

  -- the next place is the first one after the last
  pub last_after : (following (n % m) m == 0) ≡ (n % m + 1 == m)
  last_after = ap (λ q. (if q && nat_lt (n % m + 1) m then n % m + 1 else 0) == 0) small ∙ by (nat_lt (n % m + 1) m) refl
    where
      off : (k j : ℕ) → k < j → (k == j) ≡ false
      off k j lt = grind (arith, nat_tests)

      more : (k : ℕ) → (k + 1 == 0) ≡ false
      more k = grind (arith, nat_tests)

      by : (q : Bool) → nat_lt (n % m + 1) m ≡ q → ((if q then n % m + 1 else 0) == 0) ≡ (n % m + 1 == m)
      by true e = more (n % m) ∙ sym (off (n % m + 1) m (lt_is (n % m + 1) m e))
      by false e = sym (eq_from (n % m + 1) m (let le = lt_isnt (n % m + 1) m e in let lt = less in omega (arith, le, lt)))

-- a stream is full by the rounds that its buffer holds
pub full_after : (k : Option Group) (n : ℕ) → is_full k (one_more (min n (samples_of k)) (samples_of k)) ≡ is_full k (n + 1)
full_after k n = ap (λ c. is_linear_stream k && nat_le (samples_of k) c) (count_after n (samples_of k)) ∙ ap (λ q. is_linear_stream k && q) (same (samples_of k))
  where
    same : (m : ℕ) → nat_le m (min (n + 1) m) ≡ nat_le m (n + 1)
    same m = whether_as (nat_le m (n + 1)) (λ q. nat_le m (min (n + 1) m) ≡ q)
        (λ e. let le = was m (n + 1) e in yes m (min (n + 1) m) (omega (arith, le)))
        (λ e. let lt = past m (n + 1) e in no m (min (n + 1) m) (omega (arith, lt)))
      where
        yes : (a b : ℕ) → a ≤ b → nat_le a b ≡ true
        yes a b le = grind (arith, nat_tests)

        no : (a b : ℕ) → b < a → nat_le a b ≡ false
        no a b lt = grind (arith, nat_tests)

        was : (a b : ℕ) → nat_le a b ≡ true → a ≤ b
        was a b e = grind (arith, nat_tests)

        past : (a b : ℕ) → nat_le a b ≡ false → b < a
        past a b e = grind (arith, nat_tests)

-- the phase after a round that is the last one of the stream or not, of a group that goes on or not
pub phase_served : (x : Status) (goes last goes_on : Bool) → x ≢ Idle
    → phase_number (if last || is_streamed (phase_in (phase_of x goes)) then phase_on goes_on else Phase.Completed) ≡ phase_of (status_after last x) goes_on
phase_served Idle goes last goes_on ne = absurd (ne refl)
phase_served StreamCompleted true false true ne = refl
phase_served StreamCompleted true false false ne = refl
phase_served StreamCompleted false false true ne = refl
phase_served StreamCompleted false false false ne = refl
phase_served _ goes true true ne = refl
phase_served _ goes true false ne = refl
phase_served _ goes false on ne = refl
