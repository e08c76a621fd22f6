-- How the count of faults moves with a call.
use Rattle.std.proofs.Common.{◌≡◌, ◌≢◌, ℕ, zero, suc, ◌+◌, ◌≤◌, ◌<◌, min, List, true, false, ◌⊎◌, inl, inr, ap, ◌∙◌, arith, add-zero, cond, eqb}
use Rattle.std.proofs.lemmas.Bool.Decides.{nat_tests}
use Rattle.std.proofs.Math.Nat.{eq-or-lt_of_le}
use Rattle.std.specs.List.{list_any}
use Rattle.mcal_base.specs.Causes.{Rises}
use Rattle.mcal_base.specs.Faults.{failing_calls, faults_of, last}

-- no more calls fail than are made
pub failing_le : (failing : List ℕ) (n : ℕ) → failing_calls failing n ≤ n
failing_le failing zero = omega arith
failing_le failing (suc n) = elim (list_any (λ k. eqb k (suc n)) failing) as (λ b. failing_calls failing n + cond b 1 0 ≤ suc n) [ true ↦ omega (arith, failing_le failing n) | false ↦ omega (arith, failing_le failing n) ]

-- one more call whose number is in the list, and one whose number is not
pub failing_hit : (failing : List ℕ) (n : ℕ) → list_any (λ k. eqb k (suc n)) failing ≡ true → failing_calls failing (suc n) ≡ failing_calls failing n + 1
failing_hit failing n h = ap (λ b. failing_calls failing n + cond b 1 0) h

pub failing_miss : (failing : List ℕ) (n : ℕ) → list_any (λ k. eqb k (suc n)) failing ≡ false → failing_calls failing (suc n) ≡ failing_calls failing n
failing_miss failing n h = ap (λ b. failing_calls failing n + cond b 1 0) h ∙ add-zero (failing_calls failing n)

pub failing_more : (failing : List ℕ) (n : ℕ) → failing_calls failing (suc n) ≤ failing_calls failing n + 1
failing_more failing n = elim (list_any (λ k. eqb k (suc n)) failing) as (λ b. failing_calls failing n + cond b 1 0 ≤ failing_calls failing n + 1) [ true ↦ omega arith | false ↦ omega arith ]

-- a call's number is one more than the last one's, or stands at the last value
pub next_call : (n m : ℕ) → n ≤ last → m ≡ min (n + 1) last → ((n ≡ last) × (m ≡ last)) ⊎ (m ≡ suc n)
next_call n m h e = elim (eq-or-lt_of_le {n = n} {m = last} h) as (λ _. ((n ≡ last) × (m ≡ last)) ⊎ (m ≡ suc n)) [ inl eq ↦ inl (eq, omega arith) | inr lt ↦ inr (omega arith) ]

-- no more faults than calls, after one more call
pub failing_within : (failing : List ℕ) (full n m : ℕ) → n ≤ last → m ≡ min (n + 1) last → failing_calls failing n + full ≤ n → failing_calls failing m + full ≤ m
failing_within failing full n m h e w = elim (next_call n m h e) as (λ _. failing_calls failing m + full ≤ m) [ inl p ↦ rw p.1 (rw p.0 at w) | inr p ↦ rw p (omega (arith, failing_more failing n)) ]

pub full_within : (failing : List ℕ) (full n m : ℕ) → n ≤ last → m ≡ min (n + 1) last → m ≢ last → list_any (λ k. eqb k m) failing ≡ false → failing_calls failing n + full ≤ n → failing_calls failing m + (full + 1) ≤ m
full_within failing full n m h e ne miss w = elim (next_call n m h e) as (λ _. failing_calls failing m + (full + 1) ≤ m) [ inl p ↦ absurd (ne p.1) | inr p ↦ rw p (omega (arith, failing_miss failing n (rw p at miss))) ]

-- the count as the objects show it
pub rises_at : (a b n m : ℕ) → n ≤ last → m ≡ min (n + 1) last → a ≤ n → (m ≢ last → a + 1 ≤ b) → Rises (cond (eqb n last) last a) (cond (eqb m last) last b)
rises_at a b n m h e w more = record { later = grind (arith, nat_tests); rose = grind (arith, nat_tests) }

-- a call with the last number
pub last_rises : (failing : List ℕ) (n m full : ℕ) → n ≤ last → m ≡ min (n + 1) last → m ≡ last → failing_calls failing n + full ≤ n → Rises (faults_of failing n full) (faults_of failing m full)
last_rises failing n m full h e is w = rises_at (failing_calls failing n + full) (failing_calls failing m + full) n m h e w (λ ne. absurd (ne is))

-- a call whose number is in the list
pub hit_rises : (failing : List ℕ) (n m full : ℕ) → n ≤ last → m ≡ min (n + 1) last → m ≢ last → list_any (λ k. eqb k m) failing ≡ true → failing_calls failing n + full ≤ n → Rises (faults_of failing n full) (faults_of failing m full)
hit_rises failing n m full h e ne hit w = rises_at (failing_calls failing n + full) (failing_calls failing m + full) n m h e w (λ _. elim (next_call n m h e) as (λ _. failing_calls failing n + full + 1 ≤ failing_calls failing m + full) [ inl p ↦ absurd (ne p.1) | inr p ↦ rw p (omega (arith, failing_hit failing n (rw p at hit))) ])

-- a call that goes on
pub goes_on : (failing : List ℕ) (n m : ℕ) → n ≤ last → m ≡ min (n + 1) last → m ≢ last → list_any (λ k. eqb k m) failing ≡ false → (m ≡ n + 1) × (m < last) × (failing_calls failing m ≡ failing_calls failing n)
goes_on failing n m h e ne miss = elim (next_call n m h e) as (λ _. (m ≡ n + 1) × (m < last) × (failing_calls failing m ≡ failing_calls failing n)) [ inl p ↦ absurd (ne p.1) | inr p ↦ (omega arith, omega arith, rw p (failing_miss failing n (rw p at miss))) ]
