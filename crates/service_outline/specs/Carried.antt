-- The numbers that a reply carries, and the list of them.
use Rattle.std.specs.Prelude.{ℕ, List, [], ◌∷◌}
use Rattle.service_outline.specs.declared.done.Carried.{Carried}
use Rattle.service_outline.specs.declared.done.Carried.TheVariants.{Nothing, One, Two}

abbrev pub listed : Carried → List ℕ
listed Nothing = []
listed (One n) = n ∷ []
listed (Two m n) = m ∷ n ∷ []

-- as many of a list as a reply can have
abbrev pub first_two : List ℕ → Carried
first_two [] = Nothing
first_two (n ∷ []) = One n
first_two (m ∷ n ∷ _) = Two m n
