-- A change of a level within so many units of time, against the time at which it comes.
-- Used by pwm_driver: Flags, proofs/of_pwm/StayLaws, proofs/pwm/laws/changes_by_times/Answers, Relation.
use Rattle.std.proofs.Common.{◌≡◌, ◌+◌, ◌-◌, ◌<◌, ◌||◌, ◌⊎◌, ◌∙◌, ap, arith, Bool, false, inl, inr, refl, suc, sym, true, zero, ℕ}
use Rattle.mcal_base.specs.facts.Truths.{or_true}
use Rattle.module_machines.specs.declared.pwm.call.PwmEdge.{PwmEdge}
use Rattle.module_machines.specs.pwm.Output.{turns, turns_between, turns_within}
use Rattle.module_machines.specs.pwm.Runs.{TurnsBetween}

module _ (edge : PwmEdge) (level : ℕ → Bool) (after : ℕ) where
  widened : (n : ℕ) → TurnsBetween edge level after (after + n) → TurnsBetween edge level after (after + suc n)
  widened n t = record { time = t.time; later = t.later; within = omega (arith, t.within); turned = t.turned }

  found_at : (n : ℕ) (q : Bool) → turns edge (level (after + n)) (level (after + suc n)) ≡ q → (q || turns_within edge level after n) ≡ true → (turns_within edge level after n ≡ true → TurnsBetween edge level after (after + n)) → TurnsBetween edge level after (after + suc n)
  found_at n true at e more =
      let back : after + suc n - 1 ≡ after + n = omega arith in
      record { time = after + suc n; later = omega arith; within = omega arith; turned = ap (λ t. turns edge (level t) (level (after + suc n))) back ∙ at }
  found_at n false at e more = widened n (more e)

  -- where one is found, there is a time
  found : (n : ℕ) → turns_within edge level after n ≡ true → TurnsBetween edge level after (after + n)
  found zero e = absurd (cc e)
  found (suc n) e = found_at n (turns edge (level (after + n)) (level (after + suc n))) refl e (found n)

  last_or_before : (j n : ℕ) → j < suc n → (j ≡ n) ⊎ (j < n)
  last_or_before j n lt = grind arith

  found_or : (n j : ℕ) → (j ≡ n) ⊎ (j < n) → turns edge (level (after + j)) (level (after + suc j)) ≡ true → (j < n → turns_within edge level after n ≡ true) → turns_within edge level after (suc n) ≡ true
  found_or n j (inl same) e more = ap (λ q. q || turns_within edge level after n) (ap (λ k. turns edge (level (after + k)) (level (after + suc k))) (sym same) ∙ e)
  found_or n j (inr less) e more = ap (λ q. turns edge (level (after + n)) (level (after + suc n)) || q) (more less) ∙ or_true (turns edge (level (after + n)) (level (after + suc n)))

  -- and where there is a time, one is found
  is_found : (n j : ℕ) → j < n → turns edge (level (after + j)) (level (after + suc j)) ≡ true → turns_within edge level after n ≡ true
  is_found zero j lt e = absurd (omega (arith, lt))
  is_found (suc n) j lt e = found_or n j (last_or_before j n lt) e (λ less. is_found n j less e)

  pub times_of : (now : ℕ) → turns_between edge level after now ≡ true → TurnsBetween edge level after now
  times_of now e =
      let t : TurnsBetween edge level after (after + (now - after)) = found (now - after) e in
      record { time = t.time; later = t.later; within = omega (arith, t.later, t.within); turned = t.turned }

  pub of_times : (now : ℕ) → TurnsBetween edge level after now → turns_between edge level after now ≡ true
  of_times now t =
      let j : ℕ = t.time - 1 - after in
      let before : after + (t.time - 1 - after) ≡ t.time - 1 = omega (arith, t.later) in
      let at : after + suc (t.time - 1 - after) ≡ t.time = omega (arith, t.later) in
      is_found (now - after) (t.time - 1 - after) (omega (arith, t.later, t.within)) (ap (λ k. turns edge (level k) (level (after + suc (t.time - 1 - after)))) before ∙ (ap (λ k. turns edge (level (t.time - 1)) (level k)) at ∙ t.turned))
