-- The places in a block.
use Rattle.std.specs.Prelude.{ℕ, zero, suc, ◌+◌, ◌<◌, List, [], ◌∷◌, ◌++◌, Bool, true, false, if◌then◌else◌}
use Rattle.mcal_base.specs.declared.directive.Directive.{Directive}
use Rattle.mcal_base.specs.declared.directive.Order.{Order}
use Rattle.mcal_base.specs.declared.directive.Order.TheVariants.{Do, Serve}
use Rattle.bench_sweep.specs.declared.places.BlockPlace.{BlockPlace}
use Rattle.bench_sweep.specs.declared.places.Spot.{Spot}
use Rattle.bench_sweep.specs.declared.places.Spot.TheVariants.{Before, Begun, Step, Behind}

-- begins a frame and steps it
abbrev pub begins_frame : Order → Bool
begins_frame (Do level request) = true
begins_frame (Serve line) = true
begins_frame _ = false

-- by a directive of the block
abbrev pub at : ℕ → Spot → BlockPlace
at directive spot = record { directive = directive; spot = spot }

-- behind each of the first so many steps of a directive
abbrev pub behind_steps : ℕ → ℕ → List BlockPlace
behind_steps directive zero = []
behind_steps directive (suc made) = behind_steps directive made ++ at directive (Step (made + 1)) ∷ []

-- behind the beginning of a frame, where an order begins one
abbrev pub when_begun : ℕ → Order → List BlockPlace
when_begun directive order = if begins_frame order then at directive Begun ∷ [] else []

-- the places by a directive that makes so many steps: behind it, where it makes none
abbrev pub places_by : ℕ → Order → ℕ → List BlockPlace
places_by directive order zero = at directive Behind ∷ []
places_by directive order (suc made) = when_begun directive order ++ behind_steps directive (suc made)

-- the places by directives, the first of which has the number, and which make so many steps each
abbrev pub places_from : ℕ → List Directive → List ℕ → List BlockPlace
places_from directive [] steps = []
places_from directive (d ∷ ds) [] = []
places_from directive (d ∷ ds) (n ∷ ns) = places_by directive d.order n ++ places_from (directive + 1) ds ns

-- all places in a block whose directives make so many steps each: before it, and those by its directives
abbrev pub places : List Directive → List ℕ → List BlockPlace
places block steps = at 0 Before ∷ places_from 0 block steps

-- a place by one of so many directives
abbrev pub IsBy : ℕ → BlockPlace → Type 0
IsBy count place = place.directive < count
