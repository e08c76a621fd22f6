-- What the inputs took last before a time.
use Rattle.std.proofs.Common.{◌≡◌, ◌≢◌, ◌⊎◌, inl, inr, ℕ, zero, suc, ◌+◌, ◌-◌, ◌<◌, ◌≤◌, nat_lt, cond, ◌==◌, ◌&&◌, List, [], ◌∷◌, ◌++◌, length, refl, ◌∙◌, sym, ap, subst, arith, take, get_or, Some, Vec, Global}
use Rattle.std.specs.Prelude.{slice_get, slice_set}
use Rattle.std.proofs.lemmas.List.{take_more}
use Rattle.mcal_base.specs.facts.Numbers.{same_or_other, eq_self, eq_turned}
use Rattle.run_model.specs.World.{Sample, sample_at}
use Rattle.audit_base.specs.Inputs.{level_from, level_before, level_of}
use Rattle.audit_base.specs.declared.samples.Taken.{Taken}

level_more : (v : ℕ) (xs : List Taken) (x : Taken) (t : ℕ) → level_from v (xs ++ x ∷ []) t ≡ cond (nat_lt x.since t) x.value (level_from v xs t)
level_more v [] x t = refl
level_more v (y ∷ ys) x t = level_more (cond (nat_lt y.since t) y.value v) ys x t

-- the last one of so many is told, or one before it
pub level_at : (xs : List Taken) (n t : ℕ) (d : Taken) → 0 < n → n ≤ length xs → level_before (take n xs) t ≡ cond (nat_lt (get_or xs (n - 1) d).since t) (get_or xs (n - 1) d).value (level_before (take (n - 1) xs) t)
level_at xs n t d some le =
    let last : n ≡ n - 1 + 1 = omega (arith, some) in
    ap (λ k. level_before (take k xs) t) last
    ∙ (ap (λ ys. level_before ys t) (take_more xs (n - 1) d (omega (arith, some, le))) ∙ level_more 0 (take (n - 1) xs) (get_or xs (n - 1) d) t)

get_set : {X : Type 0} (xs : List X) (i : ℕ) (x : X) → i < length xs → slice_get (slice_set xs i x) i ≡ Some x
get_set (y ∷ ys) zero x lt = refl
get_set (y ∷ ys) (suc i) x lt = get_set ys i x (omega (arith, lt))
get_set [] i x lt = absurd (omega (arith, lt))

get_other : {X : Type 0} (xs : List X) (i j : ℕ) (x : X) → j ≢ i → slice_get (slice_set xs i x) j ≡ slice_get xs j
get_other [] i j x ne = refl
get_other (y ∷ ys) zero zero x ne = absurd (ne refl)
get_other (y ∷ ys) zero (suc j) x ne = refl
get_other (y ∷ ys) (suc i) zero x ne = refl
get_other (y ∷ ys) (suc i) (suc j) x ne = get_other ys i j x (λ e. ne (ap suc e))

-- with one more value that an input took
pub levels_more : (items : List (Vec Taken Global)) (taken : List Sample) (i since value : ℕ) (before took : Vec Taken Global) → i < length items → slice_get items i ≡ Some before → took.items ≡ before.items ++ record { since = since; value = value } ∷ []
    → ((j t : ℕ) → level_of (slice_get items j) t ≡ sample_at taken j t)
    → (j t : ℕ) → level_of (slice_get (slice_set items i took) j) t ≡ sample_at (record { input = i; since = since; value = value } ∷ taken) j t
levels_more items taken i since value before took there is more holds j t = by (same_or_other j i)
  where
    here : level_of (slice_get (slice_set items i took) i) t ≡ cond (i == i && nat_lt since t) value (sample_at taken i t)
    here =
        ap (λ o. level_of o t) (get_set items i took there)
        ∙ (ap (λ xs. level_before xs t) more
        ∙ (level_more 0 before.items (record { since = since; value = value }) t
        ∙ (ap (λ n. cond (nat_lt since t) value n) (sym (ap (λ o. level_of o t) is) ∙ holds i t)
        ∙ sym (ap (λ b. cond (b && nat_lt since t) value (sample_at taken i t)) (eq_self i)))))

    by : (j ≡ i) ⊎ (j ≢ i) → level_of (slice_get (slice_set items i took) j) t ≡ cond (i == j && nat_lt since t) value (sample_at taken j t)
    by (inl e) = subst (λ n. level_of (slice_get (slice_set items i took) n) t ≡ cond (i == n && nat_lt since t) value (sample_at taken n t)) (sym e) here
    by (inr ne) =
        ap (λ o. level_of o t) (get_other items i j took ne)
        ∙ (holds j t ∙ sym (ap (λ b. cond (b && nat_lt since t) value (sample_at taken j t)) (eq_turned j i ne)))

-- one more input that took nothing
pub none_more : (items : List (Vec Taken Global)) (new : Vec Taken Global) → new.items ≡ [] → ((i t : ℕ) → level_of (slice_get items i) t ≡ 0) → (i t : ℕ) → level_of (slice_get (items ++ new ∷ []) i) t ≡ 0
none_more [] new e none zero t = ap (λ xs. level_before xs t) e
none_more [] new e none (suc i) t = refl
none_more (x ∷ xs) new e none zero t = none 0 t
none_more (x ∷ xs) new e none (suc i) t = none_more xs new e (λ j. none (suc j)) i t
