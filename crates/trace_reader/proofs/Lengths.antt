-- What is read of words that are too few or too many.
use Rattle.std.proofs.Common.{◌≡◌, ℕ, ◌<◌, ◌≤◌, List, [], ◌∷◌, length, map, Option, None, sym, arith}
use Rattle.bench_report.specs.Lines.{Line}

pub one_none : {W : Type 0} (words : List W) (now : W → List ℕ) (f : List (List ℕ) → Option Line) → ((a : List ℕ) → f (a ∷ []) ≡ None) → 1 ≤ length words → length words < 2 → None ≡ f (map now words)
one_none [] now f e h k = absurd (omega arith)
one_none (a ∷ []) now f e h k = sym (e (now a))
one_none (a ∷ b ∷ words) now f e h k = absurd (omega arith)

pub some_none : {W : Type 0} (words : List W) (now : W → List ℕ) (f : List (List ℕ) → Option Line) → ((a : List ℕ) (more : List (List ℕ)) → f (a ∷ more) ≡ None) → 1 ≤ length words → None ≡ f (map now words)
some_none [] now f e h = absurd (omega arith)
some_none (a ∷ words) now f e h = sym (e (now a) (map now words))
