-- The request that comes next.
use Rattle.std.proofs.Common.{◌≡◌, ℕ, zero, suc, ◌<◌, ◌≤◌, Bool, true, false, cond, ◌&&◌, ◌||◌, ◌==◌, nat_lt, List, [], ◌∷◌, Option, Some, None, refl, subst, arith}
use Rattle.std.specs.Prelude.{slice_get, if◌then◌else◌, is_some, slice_index_or}
use Rattle.std.proofs.lemmas.Bool.Decides.{nat_tests}
use Rattle.mcal_base.specs.facts.Truths.{and_first}
use Rattle.adc_machine.specs.Laws.{IsNext, IsBefore}
use Rattle.adc_machine.specs.Table.{group_of, all_groups}
use Rattle.adc_machine.specs.Turns.{AdcState, group_at, is_on, waits_for, rank_of, number_in, comes_before, first_of, next_among, next_group}
use Rattle.adc_machine.specs.declared.table.AdcTable.{AdcTable}

-- what a comparison of two groups tells
before_by : (rg rh ng nh : ℕ) → (nat_lt rh rg || (rg == rh && nat_lt ng nh)) ≡ true → (rh ≤ rg) × (rh ≡ rg → ng ≤ nh)
before_by rg rh ng nh e = (grind (arith, nat_tests), λ same. grind (arith, nat_tests))

behind_by : (rg rh ng nh : ℕ) → (nat_lt rh rg || (rg == rh && nat_lt ng nh)) ≡ false → (rg ≤ rh) × (rg ≡ rh → nh ≤ ng)
behind_by rg rh ng nh e = (grind (arith, nat_tests), λ same. grind (arith, nat_tests))

chain : (d : AdcTable) (s : AdcState) (a b c : ℕ) → IsBefore d s a b → IsBefore d s b c → IsBefore d s a c
chain d s a b c x y = (omega (arith, x.0, y.0), λ same. omega (arith, x.0, y.0, x.1 (omega (arith, x.0, y.0, same)), y.1 (omega (arith, x.0, y.0, same))))

-- of these groups this one waits and comes before all others that do
record Best (d : AdcTable) (s : AdcState) (u : ℕ) (gs : List ℕ) (g : ℕ) : Type 0 where
  waits : waits_for d s u g ≡ true
  first : (i h : ℕ) → slice_get gs i ≡ Some h → waits_for d s u h ≡ true → IsBefore d s g h

-- what is known of the one that was found, or of none
abbrev BestOf : AdcTable → AdcState → (u : ℕ) → List ℕ → Option ℕ → Type 0
BestOf d s u gs None = (i h : ℕ) → slice_get gs i ≡ Some h → waits_for d s u h ≡ false
BestOf d s u gs (Some g) = Best d s u gs g

-- a group that waits and one that doesn't are two
not_both : (b : Bool) → b ≡ true → b ≡ false → ⊥
not_both b is_so isnt = cc

-- it is the first of the list or one of the others
split : (P : ℕ → Type 0) (x : ℕ) (xs : List ℕ) → P x → ((i h : ℕ) → slice_get xs i ≡ Some h → P h) → (i h : ℕ) → slice_get (x ∷ xs) i ≡ Some h → P h
split P x xs at more zero h e = let same : x ≡ h = cc in subst P same at
split P x xs at more (suc i) h e = more i h e

chosen : (d : AdcTable) (s : AdcState) (u x g : ℕ) (xs : List ℕ) (b : Bool) → waits_for d s u x ≡ true → Best d s u xs g → comes_before d s g x ≡ b → Best d s u (x ∷ xs) (cond b g x)
chosen d s u x g xs true waits best e = record {
  waits = best.waits;
  first = split (λ h. waits_for d s u h ≡ true → IsBefore d s g h) x xs (λ _. before_by (rank_of d g) (rank_of d x) (number_in (group_at s g).waiting) (number_in (group_at s x).waiting) e) best.first;
}
chosen d s u x g xs false waits best e = record {
  waits = waits;
  first = split (λ h. waits_for d s u h ≡ true → IsBefore d s x h) x xs (λ _. (omega arith, λ _. omega arith))
      (λ i h at waiting. chain d s x g h (behind_by (rank_of d g) (rank_of d x) (number_in (group_at s g).waiting) (number_in (group_at s x).waiting) e) (best.first i h at waiting));
}

step : (d : AdcTable) (s : AdcState) (u x : ℕ) (xs : List ℕ) (b : Bool) (o : Option ℕ) → waits_for d s u x ≡ b → BestOf d s u xs o → BestOf d s u (x ∷ xs) (cond b (Some (first_of d s x o)) o)
step d s u x xs false None e best = split (λ h. waits_for d s u h ≡ false) x xs e best
step d s u x xs false (Some g) e best = record {
  waits = best.waits;
  first = split (λ h. waits_for d s u h ≡ true → IsBefore d s g h) x xs (λ is_so. absurd (not_both (waits_for d s u x) is_so e)) best.first;
}
step d s u x xs true None e best = record {
  waits = e;
  first = split (λ h. waits_for d s u h ≡ true → IsBefore d s x h) x xs (λ _. (omega arith, λ _. omega arith)) (λ i h at is_so. absurd (not_both (waits_for d s u h) is_so (best i h at)));
}
step d s u x xs true (Some g) e best = chosen d s u x g xs (comes_before d s g x) e best refl

best_of : (d : AdcTable) (s : AdcState) (u : ℕ) (gs : List ℕ) → BestOf d s u gs (next_among d s u gs)
best_of d s u [] = λ i h e. absurd (cc e)
best_of d s u (x ∷ xs) = step d s u x xs (waits_for d s u x) (next_among d s u xs) refl (best_of d s u xs)

-- a group that waits has a number below 16, and stands in the list of all
configured : (d : AdcTable) (u g : ℕ) (b : Bool) → nat_lt g 16 ≡ b → is_on u (if b then slice_index_or d.groups g None else None) ≡ true → g < 16
configured d u g true lt on = grind (arith, nat_tests)
configured d u g false lt on = absurd (cc on)

waits_below : (d : AdcTable) (s : AdcState) (u g : ℕ) → waits_for d s u g ≡ true → g < 16
waits_below d s u g e = configured d u g (nat_lt g 16) refl (and_first (is_on u (group_of d g)) (is_some (group_at s g).waiting) e)

pub listed : (g : ℕ) → g < 16 → slice_get all_groups g ≡ Some g
listed zero lt = refl
listed (suc zero) lt = refl
listed (suc (suc zero)) lt = refl
listed (suc (suc (suc zero))) lt = refl
listed (suc (suc (suc (suc zero)))) lt = refl
listed (suc (suc (suc (suc (suc zero))))) lt = refl
listed (suc (suc (suc (suc (suc (suc zero)))))) lt = refl
listed (suc (suc (suc (suc (suc (suc (suc zero))))))) lt = refl
listed (suc (suc (suc (suc (suc (suc (suc (suc zero)))))))) lt = refl
listed (suc (suc (suc (suc (suc (suc (suc (suc (suc zero))))))))) lt = refl
listed (suc (suc (suc (suc (suc (suc (suc (suc (suc (suc zero)))))))))) lt = refl
listed (suc (suc (suc (suc (suc (suc (suc (suc (suc (suc (suc zero))))))))))) lt = refl
listed (suc (suc (suc (suc (suc (suc (suc (suc (suc (suc (suc (suc zero)))))))))))) lt = refl
listed (suc (suc (suc (suc (suc (suc (suc (suc (suc (suc (suc (suc (suc zero))))))))))))) lt = refl
listed (suc (suc (suc (suc (suc (suc (suc (suc (suc (suc (suc (suc (suc (suc zero)))))))))))))) lt = refl
listed (suc (suc (suc (suc (suc (suc (suc (suc (suc (suc (suc (suc (suc (suc (suc zero))))))))))))))) lt = refl
listed (suc (suc (suc (suc (suc (suc (suc (suc (suc (suc (suc (suc (suc (suc (suc (suc g)))))))))))))))) lt = absurd (omega (arith, lt))

pub next_is : (d : AdcTable) (s : AdcState) (u g : ℕ) → next_group d s u ≡ Some g → IsNext d s u g
next_is d s u g e =
    let best : Best d s u all_groups g = subst (λ o. BestOf d s u all_groups o) e (best_of d s u all_groups) in
    record { waits = best.waits; first = λ h waits. best.first h h (listed h (waits_below d s u h waits)) waits }

none_waits : (b : Bool) → (b ≡ true → b ≡ false) → b ≡ false
none_waits true h = h refl
none_waits false h = refl

pub none_is : (d : AdcTable) (s : AdcState) (u g : ℕ) → next_group d s u ≡ None → waits_for d s u g ≡ false
none_is d s u g e =
    let best : (i h : ℕ) → slice_get all_groups i ≡ Some h → waits_for d s u h ≡ false = subst (λ o. BestOf d s u all_groups o) e (best_of d s u all_groups) in
    none_waits (waits_for d s u g) (λ waits. best g g (listed g (waits_below d s u g waits)))
