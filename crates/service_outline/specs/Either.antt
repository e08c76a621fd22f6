-- Bodies of either of two kinds.
use Rattle.std.specs.Prelude.{ℕ}
use Rattle.mcal_base.specs.declared.moves.Move.{Move}
use Rattle.service_outline.specs.declared.done.BodyTaken.{BodyTaken}
use Rattle.service_outline.specs.declared.body.Or.{Or}
use Rattle.service_outline.specs.declared.body.Or.TheVariants.{First, Second}

abbrev pub either_of : {A B R : Type 0} → (A → R) → (B → R) → Or A B → R
either_of f g (First k) = f k
either_of f g (Second k) = g k

abbrev pub either_work : {A B : Type 0} → (A → Move) → (B → Move) → Or A B → Move
either_work f g (First k) = f k
either_work f g (Second k) = g k

abbrev pub either_takes : {A B : Type 0} → (A → ℕ → A × BodyTaken) → (B → ℕ → B × BodyTaken) → Or A B → ℕ → Or A B × BodyTaken
either_takes f g (First k) x = (First (f k x).0, (f k x).1)
either_takes f g (Second k) x = (Second (g k x).0, (g k x).1)
