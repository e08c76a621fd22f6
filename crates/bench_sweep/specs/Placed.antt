-- The flat script in which something is placed at a place of a block.
use Rattle.std.specs.Prelude.{ℕ, ◌+◌, List, [], ◌++◌, Option, Some, None, take, drop, slice_get}
use Rattle.mcal_base.specs.declared.directive.Directive.{Directive}
use Rattle.bench_sweep.specs.Cuts.{up_by, on_by}
use Rattle.bench_sweep.specs.Flat.{numbered_from}
use Rattle.bench_sweep.specs.declared.places.BlockPlace.{BlockPlace}
use Rattle.bench_sweep.specs.declared.places.Spot.{Spot}

-- a directive up to a spot by it, where there is one
abbrev pub up_there : Spot → Option Directive → List Directive
up_there spot None = []
up_there spot (Some d) = up_by spot d

-- a directive of so many steps from a spot by it on, where there is one
abbrev pub on_there : Spot → Option Directive → Option ℕ → List Directive
on_there spot (Some d) (Some steps) = on_by steps spot d
on_there spot _ _ = []

-- a block up to a place
abbrev pub block_up : List Directive → BlockPlace → List Directive
block_up block place = take place.directive block ++ up_there place.spot (slice_get block place.directive)

-- a block whose directives make so many steps each, from a place on
abbrev pub block_on : List Directive → List ℕ → BlockPlace → List Directive
block_on block steps place = on_there place.spot (slice_get block place.directive) (slice_get steps place.directive) ++ drop (place.directive + 1) block

-- The directives in which something is placed: what runs before the block, the block up to the place, what is placed, the
-- block from there on, and what runs behind it.
abbrev pub put_in : (before swept block behind : List Directive) → List ℕ → BlockPlace → List Directive
put_in before swept block behind steps place = before ++ block_up block place ++ swept ++ block_on block steps place ++ behind

-- the flat script of them
abbrev pub placed : (before swept block behind : List Directive) → List ℕ → BlockPlace → List Directive
placed before swept block behind steps place = numbered_from 1 (put_in before swept block behind steps place)
