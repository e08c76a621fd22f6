-- The moments of a block, and their order.
use Rattle.std.specs.Prelude.{◌≡◌, ◌⊎◌, ℕ, ◌+◌, ◌<◌, List, [], ◌∷◌, Some, slice_get}
use Rattle.bench_sweep.specs.declared.places.BlockPlace.{BlockPlace}
use Rattle.bench_sweep.specs.declared.places.Spot.{Spot}
use Rattle.bench_sweep.specs.declared.places.Spot.TheVariants.{Before, Begun, Step, Behind}

-- a place is one of these
abbrev pub IsAmong : List BlockPlace → BlockPlace → Type 0
IsAmong all place = (i : ℕ) × (slice_get all i ≡ Some place)

-- how late a spot is by its directive
abbrev pub lateness : Spot → ℕ
lateness Before = 0
lateness Begun = 1
lateness (Step made) = made + 1
lateness Behind = 1

-- one place comes before another
abbrev pub IsBefore : BlockPlace → BlockPlace → Type 0
IsBefore p q = (p.directive < q.directive) ⊎ ((p.directive ≡ q.directive) × (lateness p.spot < lateness q.spot))

abbrev pub Each : (BlockPlace → Type 0) → List BlockPlace → Type 0
Each P [] = Unit {0}
Each P (p ∷ ps) = P p × Each P ps

-- each place comes before all behind it
abbrev pub AreInOrder : List BlockPlace → Type 0
AreInOrder [] = Unit {0}
AreInOrder (p ∷ ps) = Each (IsBefore p) ps × AreInOrder ps
