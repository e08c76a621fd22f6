-- The levels that the two units have where they are not given, and the units of which none is synchronous.
use Rattle.std.proofs.Common.{◌≤◌, ℕ, [], ◌∷◌, arith}
use Rattle.std.proofs.lemmas.List.Elements.{All-nil, All-cons}
use Rattle.config_facts.specs.Ids.{InRange, IsList}

pub in_range : (low high n : ℕ) → low ≤ n → n ≤ high → InRange low high n
in_range low high n a b = record { least = a; most = b }

pub ones : IsList 2 2 1 7 (1 ∷ 1 ∷ [])
ones = record { enough = omega arith; few = omega arith; each = All-cons (InRange 1 7) 1 (1 ∷ []) (in_range 1 7 1 (omega arith) (omega arith)) (All-cons (InRange 1 7) 1 [] (in_range 1 7 1 (omega arith) (omega arith)) (All-nil (InRange 1 7))) }

pub no_units : IsList 0 2 0 1 []
no_units = record { enough = omega arith; few = omega arith; each = All-nil (InRange 0 1) }
