-- The names of places, and of pairs of them.
use Rattle.std.specs.Prelude.{◌≡◌, ℕ, ◌+◌, ◌-◌, ◌==◌, ◌++◌, List, [], ◌∷◌, Option, Some, None, codes, map, slice_get, string_bytes, unwrap_or, vec_len, if◌then◌else◌}
use Rattle.mcal_base.specs.declared.directive.Directive.{Directive}
use Rattle.bench_sweep.specs.Places.{places}
use Rattle.bench_sweep.specs.Spoken.{spot_text}
use Rattle.bench_sweep.specs.declared.places.BlockPlace.{BlockPlace}
use Rattle.bench_sweep.specs.declared.places.Spot.{Spot}
use Rattle.bench_sweep.specs.declared.places.Spot.TheVariants.{Step}
use Rattle.sweep_trials.specs.Shown.{IsInnerAt}
use Rattle.sweep_trials.specs.declared.opened.Opened.{Opened}
use Rattle.sweep_trials.specs.declared.reactions.Following.{Following}
use Rattle.sweep_trials.specs.declared.seen.RunSeen.{RunSeen}
use Rattle.sweep_trials.specs.declared.seen.StepSeen.{StepSeen}
use Rattle.sweep_trials.specs.declared.sweeping.Moment.{Moment}

-- the move of a step of the directive of a number, by which of its steps that is, from 1; the moves of all steps stand beside them
abbrev pub move_of : (number step : ℕ) → List StepSeen → List (List ℕ) → List ℕ
move_of number step [] moves = []
move_of number step (s ∷ ss) [] = []
move_of number step (s ∷ ss) (m ∷ ms) = if s.line == number then (if step == 1 then m else move_of number (step - 1) ss ms) else move_of number step ss ms

-- the last move before a spot by a directive of the block
abbrev pub last_move : Opened → ℕ → Spot → List ℕ
last_move o directive (Step made) = move_of (vec_len o.before + directive + 1) made o.seen.items (map string_bytes o.moves.items)
last_move o directive spot = []

abbrev pub line_of : Option Directive → ℕ
line_of None = 0
line_of (Some d) = d.line

-- the name of a place in an opened block
abbrev pub name_at : Opened → BlockPlace → List ℕ
name_at o p = spot_text (line_of (slice_get o.block.items p.directive)) p.spot (unwrap_or (slice_get o.steps.items p.directive) 0) (last_move o p.directive p.spot)

-- the name of the place of a number
abbrev pub IsPlaceName : Opened → ℕ → List ℕ → Type 0
IsPlaceName o number name = (p : BlockPlace) → slice_get (places o.block.items o.steps.items) number ≡ Some p → name ≡ name_at o p

-- The name of a pair: that of its first place, and that of its second one, of the block that begins there.
pub record IsPairName (of_run : List Directive → RunSeen → Type 0) (following : Following) (placed : List Directive) (o : Opened) (first second : ℕ) (name : List ℕ) : Type 0 where
  pub inner : Opened
  pub opened : IsInnerAt of_run following o placed first inner
  pub front : List ℕ
  pub back : List ℕ
  pub first_is : IsPlaceName o first front
  pub second_is : IsPlaceName inner second back
  pub is : name ≡ front ++ (codes "; " ++ back)

-- the name of what is placed once, or twice
abbrev pub IsNameBy : (of_run : List Directive → RunSeen → Type 0) (following : Following) (placed : List Directive) → Opened → ℕ → Option ℕ → List ℕ → Type 0
IsNameBy of_run following placed o first None name = IsPlaceName o first name
IsNameBy of_run following placed o first (Some second) name = IsPairName of_run following placed o first second name

-- the name of the moment that is told of at a place
abbrev pub IsNamed : (of_run : List Directive → RunSeen → Type 0) (following : Following) (placed : List Directive) → Opened → List Moment → ℕ → List ℕ → Type 0
IsNamed of_run following placed o moments place name = (m : Moment) → slice_get moments place ≡ Some m → IsNameBy of_run following placed o m.first m.second name
