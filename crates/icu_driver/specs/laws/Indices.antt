-- The index of stamps and the stamps left until a notice: what one stamp more makes of them, and that the handler counts so.
-- From KeepSteps.
-- Used by KeepRight.
use Rattle.std.proofs.Common.{◌≡◌, ◌≢◌, ◌+◌, ◌-◌, ◌%◌, ◌<◌, ◌≤◌, ◌^◌, ◌&&◌, ◌==◌, ◌∙◌, if◌then◌else◌}
use Rattle.icu_driver.specs.Terms
use Terms.{ap, arith, Bool, Channel, eq_is, eq_isnt, false, index_by, is_full, is_linear, is_notified, IsStart, Kept}
use Terms.{left_by, mod-eq_of_lt, mod-lt, mod_self, nat_tests, not, refl, Some, Start, suc, suc-mod, sym, true, ℕ}
use Rattle.icu_driver.specs.laws.KeepSteps.{fills, next_index, left_now}

-- ---- one stamp more

-- a number modulo another one goes up by one, or begins anew
mod_next : (n s : ℕ) → 0 < s → (n + 1) % s ≡ (if n % s + 1 == s then 0 else n % s + 1)
mod_next n s low = ap (λ z. z % s) (next n) ∙ (suc-mod n s ∙ (ap (λ z. z % s) (sym (next (n % s))) ∙ by (n % s + 1 == s) refl))
  where
    next : (n : ℕ) → n + 1 ≡ suc n
    next n = omega arith

    by : (q : Bool) → (n % s + 1 == s) ≡ q → (n % s + 1) % s ≡ (if q then 0 else n % s + 1)
    by true e = ap (λ z. z % s) (eq_is (n % s + 1) s e) ∙ mod_self s
    by false e = let lt : n % s < s = mod-lt n low in let ne = eq_isnt (n % s + 1) s e in let few : n % s + 1 < s = least (n % s + 1) s (up (n % s) s lt) ne in mod-eq_of_lt few
      where
        up : (a s : ℕ) → a < s → a + 1 ≤ s
        up a s lt = omega (arith, lt)

        least : (a s : ℕ) → a ≤ s → a ≢ s → a < s
        least a s le ne = grind arith

-- what the handler has read of a start, with so many stamps
pub record HasRead (k : Channel) (r : Kept) (a : Start) (n : ℕ) : Type 0 where
  pub linear : r.linear ≡ is_linear k.buffer
  pub size : r.size ≡ a.size
  pub index : r.index ≡ index_by k (Some a) n
  pub left : r.left ≡ left_by (Some a) n
  pub below : r.index < a.size
  pub start : IsStart (Some a)

module _ (k : Channel) (r : Kept) (a : Start) (n : ℕ) (h : HasRead k r a n) where
  small : (r.index + 1) % 2 ^ 32 ≡ r.index + 1
  small = let below = h.below in let most = h.start.1 in mod-eq_of_lt (omega (arith, below, most))

  -- the buffer becomes full
  pub fills_is : fills r ≡ is_full k (Some a) (n + 1)
  fills_is = ap (λ z. z && (r.index + 1) % 2 ^ 32 == r.size) h.linear ∙ by (is_linear k.buffer) refl
    where
      by : (q : Bool) → is_linear k.buffer ≡ q → q && (r.index + 1) % 2 ^ 32 == r.size ≡ q && n + 1 == a.size
      by false e = refl
      by true e = ap (λ z. z == r.size) small ∙ (ap (λ z. r.index + 1 == z) h.size ∙ ap (λ z. z + 1 == a.size) (h.index ∙ ap (λ z. if z then n else n % a.size) e))

  -- the index after it
  pub next_is : next_index r ≡ index_by k (Some a) (n + 1)
  next_is = ap (λ z. if not z && (r.index + 1) % 2 ^ 32 == r.size then 0 else (r.index + 1) % 2 ^ 32) h.linear ∙ (ap (λ z. if not (is_linear k.buffer) && z == r.size then 0 else z) small ∙ (ap (λ z. if not (is_linear k.buffer) && r.index + 1 == z then 0 else r.index + 1) h.size ∙ by (is_linear k.buffer) refl))
    where
      by : (q : Bool) → is_linear k.buffer ≡ q → (if not q && r.index + 1 == a.size then 0 else r.index + 1) ≡ (if q then n + 1 else (n + 1) % a.size)
      by true e = ap (λ z. z + 1) (h.index ∙ ap (λ z. if z then n else n % a.size) e)
      by false e = ap (λ z. if z + 1 == a.size then 0 else z + 1) (h.index ∙ ap (λ z. if z then n else n % a.size) e) ∙ sym (mod_next n a.size h.start.0)

  last_is : (r.left == 1) ≡ (n % a.interval + 1 == a.interval)
  last_is = ap (λ z. z == 1) h.left ∙ by (n % a.interval) (mod-lt n h.start.2)
    where
      by : (m : ℕ) → m < a.interval → (a.interval - m == 1) ≡ (m + 1 == a.interval)
      by m lt = grind (arith, nat_tests)

  -- how many stamps are left after it
  pub left_is : (r.left ≡ 1 → r.interval ≡ a.interval) → left_now r ≡ left_by (Some a) (n + 1)
  left_is last = by (r.left == 1) refl
    where
      lt : n % a.interval < a.interval
      lt = mod-lt n h.start.2

      whole : (i : ℕ) → i ≡ i - 0
      whole i = omega arith

      fewer : (m i : ℕ) → m < i → i < 2 ^ 32 → (i - m + 2 ^ 32 - 1) % 2 ^ 32 ≡ i - (m + 1)
      fewer m i less few = let a : i < 4294967296 = few in omega (arith, less)

      by : (q : Bool) → (r.left == 1) ≡ q → (if q then r.interval else (r.left + 2 ^ 32 - 1) % 2 ^ 32) ≡ a.interval - (n + 1) % a.interval
      by true e = last (eq_is r.left 1 e) ∙ (whole a.interval ∙ sym (ap (λ z. a.interval - z) (mod_next n a.interval h.start.2 ∙ ap (λ z. if z then 0 else n % a.interval + 1) (sym last_is ∙ e))))
      by false e = ap (λ z. (z + 2 ^ 32 - 1) % 2 ^ 32) h.left ∙ (fewer (n % a.interval) a.interval lt h.start.3 ∙ sym (ap (λ z. a.interval - z) (mod_next n a.interval h.start.2 ∙ ap (λ z. if z then 0 else n % a.interval + 1) (sym last_is ∙ e))))

  -- the notice comes with it
  pub notified_is : (r.left == 1) ≡ is_notified (Some a) (n + 1)
  notified_is = last_is ∙ sym (ap (λ z. z == 0) (mod_next n a.interval h.start.2) ∙ by (n % a.interval + 1 == a.interval))
    where
      by : (q : Bool) → ((if q then 0 else n % a.interval + 1) == 0) ≡ q
      by true = refl
      by false = some (n % a.interval)
        where
          some : (m : ℕ) → (m + 1 == 0) ≡ false
          some m = grind (arith, nat_tests)

  -- there is a place for one more, where it doesn't become full
  pub place_next : fills r ≡ false → index_by k (Some a) (n + 1) < a.size
  place_next e = by (is_linear k.buffer) refl
    where
      by : (q : Bool) → is_linear k.buffer ≡ q → (if q then n + 1 else (n + 1) % a.size) < a.size
      by false i = mod-lt (n + 1) h.start.0
      by true i =
          let at : r.index ≡ n = h.index ∙ ap (λ z. if z then n else n % a.size) i in
          let less = h.below in
          let ne = eq_isnt (n + 1) a.size (sym (ap (λ z. z && n + 1 == a.size) i) ∙ (sym fills_is ∙ e)) in
          least (n + 1) a.size (omega (arith, at, less)) ne
        where
          least : (a s : ℕ) → a ≤ s → a ≢ s → a < s
          least a s le ne = grind arith
