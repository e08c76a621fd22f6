-- A table of a test has at each place what the test says of it.
use Rattle.std.proofs.Common.{◌≡◌, ℕ, zero, suc, ◌+◌, ◌<◌, List, [], ◌∷◌, Bool, true, false, not, cond, length, refl, sym, arith, get_or, ap, ◌∙◌}
use Rattle.std.specs.Prelude.{◌&&◌}
use Rattle.mcal_base.specs.facts.Truths.{and_first, and_second}
use Rattle.bench_script.specs.Scanned.{is_table}

same : (a b : Bool) → cond a b (not b) ≡ true → a ≡ b
same true true e = refl
same true false e = sym e
same false true e = e
same false false e = refl

entry : (p : ℕ → Bool) (place : ℕ) (xs : List Bool) (k : ℕ) → is_table p place xs ≡ true → k < length xs → get_or xs k false ≡ p (place + k)
entry p place [] k t w = absurd (omega (arith, w))
entry p place (x ∷ xs) zero t w = let e : place + 0 ≡ place = omega arith in rw e (same x (p place) (and_first _ _ t))
entry p place (x ∷ xs) (suc k) t w = let e : place + 1 + k ≡ place + suc k = omega arith in entry p (place + 1) xs k (and_second _ _ t) (omega (arith, w)) ∙ ap p e

pub table_is : (p : ℕ → Bool) (xs : List Bool) (k : ℕ) → is_table p 0 xs ≡ true → k < length xs → get_or xs k false ≡ p k
table_is p xs k t w = let e : 0 + k ≡ k = omega arith in entry p 0 xs k t w ∙ ap p e
