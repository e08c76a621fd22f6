-- Channels by number, walked through one after another.
use Rattle.std.proofs.Common.{◌≡◌, ℕ, ◌+◌, ◌<◌, ◌≤◌, Bool, true, false, ◌||◌, List, length, drop, Option, None, ◌∙◌, ap}
use Rattle.std.specs.Prelude.{slice_index_or}
use Rattle.std.specs.List.{enumerate_from, list_any}
use Rattle.std.proofs.lemmas.List.{at_drop_all, at_drop_more}

module _ {A : Type 0} (f : ℕ × Option A → Bool) (xs : List (Option A)) where
  at : (k : ℕ) → k < length xs → list_any f (enumerate_from k (drop k xs)) ≡ (f (k, slice_index_or xs k None) || list_any f (enumerate_from (k + 1) (drop (k + 1) xs)))
  at k lt = at_drop_more (λ ys. list_any f (enumerate_from k ys)) xs k None lt

  -- whether any passes a test
  pub any_here : (k : ℕ) → k < length xs → f (k, slice_index_or xs k None) ≡ true → list_any f (enumerate_from k (drop k xs)) ≡ true
  any_here k lt e = at k lt ∙ ap (λ b. b || list_any f (enumerate_from (k + 1) (drop (k + 1) xs))) e

  pub any_next : (k : ℕ) → k < length xs → f (k, slice_index_or xs k None) ≡ false → list_any f (enumerate_from k (drop k xs)) ≡ list_any f (enumerate_from (k + 1) (drop (k + 1) xs))
  any_next k lt e = at k lt ∙ ap (λ b. b || list_any f (enumerate_from (k + 1) (drop (k + 1) xs))) e

  pub any_none : (k : ℕ) → length xs ≤ k → list_any f (enumerate_from k (drop k xs)) ≡ false
  any_none k le = at_drop_all (λ ys. list_any f (enumerate_from k ys)) xs k le
