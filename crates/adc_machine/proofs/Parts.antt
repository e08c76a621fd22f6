-- The parts of a state that was changed.
use Rattle.std.proofs.Common.{◌≡◌, ◌≢◌, ℕ, zero, suc, ◌<◌, Bool, true, false, cond, ◌==◌, [], ◌∷◌, Option, None, refl, ◌∙◌, ap, arith}
use Rattle.std.specs.Prelude.{slice_index_or}
use Rattle.mcal_base.specs.facts.Numbers.{eq_other, eq_self}
use Rattle.adc_machine.specs.Groups.{GroupState, Round, untouched}
use Rattle.adc_machine.specs.Table.{by_group}
use Rattle.adc_machine.specs.Turns.{AdcState, group_at, round_at, with_group, with_round}

-- a fact about each group of a list, and about one that isn't there
pub each_of : (P : GroupState → Type 0) (f : ℕ → GroupState) → P untouched → ((h : ℕ) → P (f h)) → (h : ℕ) → P (slice_index_or (by_group f) h untouched)
each_of P f none at zero = at 0
each_of P f none at (suc zero) = at 1
each_of P f none at (suc (suc zero)) = at 2
each_of P f none at (suc (suc (suc zero))) = at 3
each_of P f none at (suc (suc (suc (suc zero)))) = at 4
each_of P f none at (suc (suc (suc (suc (suc zero))))) = at 5
each_of P f none at (suc (suc (suc (suc (suc (suc zero)))))) = at 6
each_of P f none at (suc (suc (suc (suc (suc (suc (suc zero))))))) = at 7
each_of P f none at (suc (suc (suc (suc (suc (suc (suc (suc zero)))))))) = at 8
each_of P f none at (suc (suc (suc (suc (suc (suc (suc (suc (suc zero))))))))) = at 9
each_of P f none at (suc (suc (suc (suc (suc (suc (suc (suc (suc (suc zero)))))))))) = at 10
each_of P f none at (suc (suc (suc (suc (suc (suc (suc (suc (suc (suc (suc zero))))))))))) = at 11
each_of P f none at (suc (suc (suc (suc (suc (suc (suc (suc (suc (suc (suc (suc zero)))))))))))) = at 12
each_of P f none at (suc (suc (suc (suc (suc (suc (suc (suc (suc (suc (suc (suc (suc zero))))))))))))) = at 13
each_of P f none at (suc (suc (suc (suc (suc (suc (suc (suc (suc (suc (suc (suc (suc (suc zero)))))))))))))) = at 14
each_of P f none at (suc (suc (suc (suc (suc (suc (suc (suc (suc (suc (suc (suc (suc (suc (suc zero))))))))))))))) = at 15
each_of P f none at (suc (suc (suc (suc (suc (suc (suc (suc (suc (suc (suc (suc (suc (suc (suc (suc h)))))))))))))))) = none

-- a group of the list
pub of_group : (f : ℕ → GroupState) (h : ℕ) → h < 16 → slice_index_or (by_group f) h untouched ≡ f h
of_group f zero lt = refl
of_group f (suc zero) lt = refl
of_group f (suc (suc zero)) lt = refl
of_group f (suc (suc (suc zero))) lt = refl
of_group f (suc (suc (suc (suc zero)))) lt = refl
of_group f (suc (suc (suc (suc (suc zero))))) lt = refl
of_group f (suc (suc (suc (suc (suc (suc zero)))))) lt = refl
of_group f (suc (suc (suc (suc (suc (suc (suc zero))))))) lt = refl
of_group f (suc (suc (suc (suc (suc (suc (suc (suc zero)))))))) lt = refl
of_group f (suc (suc (suc (suc (suc (suc (suc (suc (suc zero))))))))) lt = refl
of_group f (suc (suc (suc (suc (suc (suc (suc (suc (suc (suc zero)))))))))) lt = refl
of_group f (suc (suc (suc (suc (suc (suc (suc (suc (suc (suc (suc zero))))))))))) lt = refl
of_group f (suc (suc (suc (suc (suc (suc (suc (suc (suc (suc (suc (suc zero)))))))))))) lt = refl
of_group f (suc (suc (suc (suc (suc (suc (suc (suc (suc (suc (suc (suc (suc zero))))))))))))) lt = refl
of_group f (suc (suc (suc (suc (suc (suc (suc (suc (suc (suc (suc (suc (suc (suc zero)))))))))))))) lt = refl
of_group f (suc (suc (suc (suc (suc (suc (suc (suc (suc (suc (suc (suc (suc (suc (suc zero))))))))))))))) lt = refl
of_group f (suc (suc (suc (suc (suc (suc (suc (suc (suc (suc (suc (suc (suc (suc (suc (suc h)))))))))))))))) lt = absurd (omega (arith, lt))

-- one of two
pub either : {A : Type 0} (P : A → Type 0) (b : Bool) (x y : A) → P x → P y → P (cond b x y)
either P true x y p q = p
either P false x y p q = q

-- a fact about each group of a state with this one
pub each_with : (P : GroupState → Type 0) (s : AdcState) (g : ℕ) (x : GroupState) → P untouched → ((h : ℕ) → P (group_at s h)) → P x → (h : ℕ) → P (group_at (with_group s g x) h)
each_with P s g x none at new = each_of P (λ h. cond (h == g) x (group_at s h)) none (λ h. either P (h == g) x (group_at s h) new (at h))

-- the group that was changed
pub group_same : (s : AdcState) (g : ℕ) (x : GroupState) → g < 16 → group_at (with_group s g x) g ≡ x
group_same s g x lt = of_group (λ h. cond (h == g) x (group_at s h)) g lt ∙ ap (λ b. cond b x (group_at s g)) (eq_self g)

-- a group that wasn't changed
pub group_other : (s : AdcState) (g : ℕ) (x : GroupState) (h : ℕ) → h < 16 → h ≢ g → group_at (with_group s g x) h ≡ group_at s h
group_other s g x h lt ne = of_group (λ i. cond (i == g) x (group_at s i)) h lt ∙ ap (λ b. cond b x (group_at s h)) (eq_other h g ne)

-- a fact about each of two rounds, and about a free unit
pub each_round : (P : Option Round → Type 0) (a b : Option Round) → P None → P a → P b → (u : ℕ) → P (slice_index_or (a ∷ b ∷ []) u None)
each_round P a b none p q zero = p
each_round P a b none p q (suc zero) = q
each_round P a b none p q (suc (suc u)) = none

-- the unit that was changed
pub round_same : (s : AdcState) (u : ℕ) (r : Option Round) → u < 2 → round_at (with_round s u r) u ≡ r
round_same s zero r lt = refl
round_same s (suc zero) r lt = refl
round_same s (suc (suc u)) r lt = absurd (omega (arith, lt))
