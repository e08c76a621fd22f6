-- The places by a directive that makes steps.
use Rattle.std.proofs.Common.{◌≡◌, ℕ, ◌+◌, ◌<◌, ◌≤◌, List, [], ◌∷◌, ◌++◌, Bool, true, false, length, zero, suc, refl, arith, append_assoc, if◌then◌else◌}
use Rattle.std.proofs.lemmas.List.Elements.{All-append, All-cons, All-nil, All-push}
use Rattle.std.specs.List.{All}
use Rattle.mcal_base.specs.declared.directive.Directive.{Directive}
use Rattle.mcal_base.specs.declared.directive.Order.{Order}
use Rattle.bench_sweep.specs.declared.places.BlockPlace.{BlockPlace}
use Rattle.bench_sweep.specs.Places.{IsBy, at, begins_frame, behind_steps, places, places_by, places_from, when_begun}
use Rattle.bench_sweep.specs.declared.places.Spot.TheVariants.{Before, Begun, Step, Behind}

pub places_by_some : (directive : ℕ) (order : Order) (steps : ℕ) → 0 < steps → places_by directive order steps ≡ when_begun directive order ++ behind_steps directive steps
places_by_some directive order zero l = absurd (omega (arith, l))
places_by_some directive order (suc made) l = refl

-- the places of a directive that makes steps, behind others
pub placed_all : (old begun all : List BlockPlace) (directive : ℕ) (order : Order) (steps made : ℕ) → 0 < steps → made ≡ steps → begun ≡ old ++ when_begun directive order → all ≡ begun ++ behind_steps directive made → all ≡ old ++ places_by directive order steps
placed_all old begun all directive order steps made l e b a = rw (a, b, e, places_by_some directive order steps l) (append_assoc old (when_begun directive order) (behind_steps directive steps))

pub behind_steps_by : (count directive : ℕ) → directive < count → (made : ℕ) → All (IsBy count) (behind_steps directive made)
behind_steps_by count directive l zero = All-nil (IsBy count)
behind_steps_by count directive l (suc made) = All-push (IsBy count) (behind_steps directive made) (at directive (Step (made + 1))) (behind_steps_by count directive l made) l

begun_by : (count directive : ℕ) → directive < count → (b : Bool) → All (IsBy count) (if b then at directive Begun ∷ [] else [])
begun_by count directive l true = All-cons (IsBy count) (at directive Begun) [] l (All-nil (IsBy count))
begun_by count directive l false = All-nil (IsBy count)

pub places_by_by : (count directive : ℕ) → directive < count → (order : Order) (steps : ℕ) → All (IsBy count) (places_by directive order steps)
places_by_by count directive l order zero = All-cons (IsBy count) (at directive Behind) [] l (All-nil (IsBy count))
places_by_by count directive l order (suc made) = All-append (IsBy count) (when_begun directive order) (behind_steps directive (suc made)) (begun_by count directive l (begins_frame order)) (behind_steps_by count directive l (suc made))

pub places_from_by : (count directive : ℕ) (ds : List Directive) (ns : List ℕ) → directive + length ds ≤ count → All (IsBy count) (places_from directive ds ns)
places_from_by count directive [] ns l = All-nil (IsBy count)
places_from_by count directive (d ∷ ds) [] l = All-nil (IsBy count)
places_from_by count directive (d ∷ ds) (n ∷ ns) l = All-append (IsBy count) (places_by directive d.order n) (places_from (directive + 1) ds ns) (places_by_by count directive (omega (arith, l)) d.order n) (places_from_by count (directive + 1) ds ns (omega (arith, l)))

-- each place in a block is by one of its directives
pub places_are_by : (block : List Directive) (steps : List ℕ) → 0 < length block → All (IsBy (length block)) (places block steps)
places_are_by block steps l = All-cons (IsBy (length block)) (at 0 Before) (places_from 0 block steps) l (places_from_by (length block) 0 block steps (omega arith))
