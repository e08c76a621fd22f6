-- The first pulse channel that names a pin, from a channel on.
use Rattle.std.proofs.Common.{◌≡◌, ◌∙◌, ℕ, zero, suc, ◌+◌, ◌<◌, ◌==◌, Bool, true, false, List, [], ◌∷◌, length, drop, Option, Some, None, ap, arith, refl, replicate, slice_index_or, sym}
use Rattle.std.specs.Prelude.{if◌then◌else◌, option_map}
use Rattle.chip_model.specs.Chip.{channel_from}

-- what is behind a place begins with what stands there
one_more : {T : Type 0} (xs : List T) (k : ℕ) (x d : T) → k < length xs → slice_index_or xs k d ≡ x → drop k xs ≡ x ∷ drop (suc k) xs
one_more [] k x d lt e = absurd (omega (arith, lt))
one_more (y ∷ ys) zero x d lt e = ap (λ z. z ∷ ys) e
one_more (y ∷ ys) (suc k) x d lt e = one_more ys k x d (omega (arith, lt)) e

-- behind all of them nothing is left, and in a list of nothing nothing stands
none_left : {T : Type 0} (xs : List T) (n : ℕ) → length xs ≡ n → drop n xs ≡ []
none_left [] zero e = refl
none_left [] (suc n) e = refl
none_left (x ∷ xs) zero e = absurd (omega (arith, e))
none_left (x ∷ xs) (suc n) e = none_left xs n (omega (arith, e))

nothing_at : {T : Type 0} (m p : ℕ) (x : T) → slice_index_or (replicate m x) p x ≡ x
nothing_at zero p x = refl
nothing_at (suc m) zero x = refl
nothing_at (suc m) (suc p) x = nothing_at m p x

-- nothing is seen before any channel
pub seen_none : (f : ℕ → Bool) (xs : List (Option ℕ)) (m n p : ℕ) (x : Option Bool) → x ≡ None → length xs ≡ n → slice_index_or (replicate m x) p x ≡ option_map f (channel_from n (drop n xs) p)
seen_none f xs m n p x none size = nothing_at m p x ∙ (none ∙ sym (ap (λ ys. option_map f (channel_from n ys p)) (none_left xs n size)))

module _ (f : ℕ → Bool) (xs : List (Option ℕ)) (k n p : ℕ) (d : Option ℕ) (before : Option Bool) (lt : k < length xs) (next : n ≡ suc k) (h : before ≡ option_map f (channel_from n (drop n xs) p)) where
  abbrev from : ℕ → List (Option ℕ) → Option Bool
  from j ys = option_map f (channel_from j ys p)

  behind : before ≡ from (k + 1) (drop (suc k) xs)
  behind =
      let one : suc k ≡ k + 1 = omega arith in
      h ∙ (ap (λ m. from m (drop m xs)) next ∙ ap (λ m. from m (drop (suc k) xs)) one)

  -- what is seen at a pin after one more channel, with its output, and after one that names no pin
  pub seen_more : (pin : ℕ) (level : Bool) (after : Option Bool) → slice_index_or xs k d ≡ Some pin → level ≡ f k → after ≡ (if pin == p then Some level else before) → after ≡ from k (drop k xs)
  seen_more pin level after at own e = e ∙ (by (pin == p) ∙ sym (ap (from k) (one_more xs k (Some pin) d lt at)))
    where
      by : (q : Bool) → (if q then Some level else before) ≡ option_map f (if q then Some k else channel_from (k + 1) (drop (suc k) xs) p)
      by true = ap Some own
      by false = behind

  pub seen_same : slice_index_or xs k d ≡ None → before ≡ from k (drop k xs)
  seen_same at = behind ∙ sym (ap (from k) (one_more xs k None d lt at))
