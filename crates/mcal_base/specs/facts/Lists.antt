-- The first place of a list that passes a test.
use Rattle.std.proofs.Common.{◌≡◌, ◌≢◌, ℕ, ◌<◌, Bool, true, false, List, length, None, Some, get_or, refl, ap, arith, ◌∙◌}
use Rattle.std.specs.Prelude.{cond, nat_lt}
use Rattle.std.specs.List.{position, position_or_len}
use Rattle.std.proofs.lemmas.List.Sums.{position_or_len_is}
use Rattle.mcal_base.specs.facts.Numbers.{lt_from, lt_itself}

fails_at : (b : Bool) → b ≢ true → b ≡ false
fails_at true isnt = absurd (isnt refl)
fails_at false isnt = refl

module _ {X : Type 0} (p : X → Bool) where
  -- none passes
  pub no_place : (xs : List X) (d : X) → ((k : ℕ) → k < length xs → p (get_or xs k d) ≢ true) → position p xs ≡ None
  no_place xs d fails =
      let at : position_or_len p xs ≡ length xs = position_or_len_is p xs (length xs) d (omega arith) (λ k lt. fails_at (p (get_or xs k d)) (fails k lt)) (λ lt. absurd (omega (arith, lt))) in
      ap (λ n. cond (nat_lt n (length xs)) (Some n) None) at ∙ ap (λ b. cond b (Some (length xs)) None) (lt_itself (length xs))

  -- one passes, and none before it
  pub first_place : (xs : List X) (i : ℕ) (d : X) → i < length xs → ((k : ℕ) → k < i → p (get_or xs k d) ≢ true) → p (get_or xs i d) ≡ true → position p xs ≡ Some i
  first_place xs i d lt fails passes =
      let at : position_or_len p xs ≡ i = position_or_len_is p xs i d (omega (arith, lt)) (λ k below. fails_at (p (get_or xs k d)) (fails k below)) (λ h. passes) in
      ap (λ n. cond (nat_lt n (length xs)) (Some n) None) at ∙ ap (λ b. cond b (Some i) None) (lt_from i (length xs) lt)
