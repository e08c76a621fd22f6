-- A routine that is a part of another one.
use Rattle.std.specs.Prelude.{◌≡◌, ℕ, zero, suc, Bool, true, List, Option, Some, None}
use Rattle.mcal_base.specs.declared.answer.Answer.{Answer}
use Rattle.word_shapes.specs.Playing.{Play, goes}

-- so many moves, and so many more
abbrev pub and_more : ℕ → ℕ → ℕ
and_more zero k = k
and_more (suc n) k = suc (and_more n k)

-- what a step of the part makes of the whole, by whether the part ended with it
abbrev pub CarriesTo : {R B : Type 0} → Play R → Play B → (R → B) → (List ℕ → B) → R → ℕ → Option Answer → Type 0
CarriesTo p q into next r v None = (q.left (into r) v ≡ into (p.left r v)) × (q.gave (into r) v ≡ goes)
CarriesTo p q into next r v (Some a) = (q.left (into r) v ≡ next a.words) × (q.gave (into r) v ≡ goes)

-- the whole makes the moves of its part, and goes on so with what the part gave
pub record Carries {R B : Type 0} (p : Play R) (q : Play B) (into : R → B) (next : List ℕ → B) : Type 0 where
  pub moves : (r : R) → q.move_of (into r) ≡ p.move_of r
  pub steps : (r : R) (v : ℕ) → CarriesTo p q into next r v (p.gave r v).ended

-- one set of words is within another
abbrev pub IsWithin : (ℕ → Bool) → (ℕ → Bool) → Type 0
IsWithin own all = (k : ℕ) → own k ≡ true → all k ≡ true
