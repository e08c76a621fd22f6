-- A block that is cut at a place.
use Rattle.std.specs.Prelude.{ℕ, ◌-◌, nat_lt, List, [], ◌∷◌, ◌++◌, Option, Some, None, option_to_list, map, if◌then◌else◌}
use Rattle.mcal_base.specs.declared.directive.Directive.{Directive}
use Rattle.mcal_base.specs.declared.directive.Order.{Order}
use Rattle.mcal_base.specs.declared.directive.Order.TheVariants.{Call, Do, Enter, Serve, Run, Finish}
use Rattle.bench_sweep.specs.declared.places.Spot.{Spot}
use Rattle.bench_sweep.specs.declared.places.Spot.TheVariants.{Before, Begun, Step, Behind}

-- what begins the frame of an order, where it begins one and steps it
abbrev pub beginning_of : Order → Option Order
beginning_of (Do level request) = Some (Call level request)
beginning_of (Serve line) = Some (Enter line)
beginning_of _ = None

-- what makes the rest of an order's steps behind so many of them
abbrev pub rest_of : Order → ℕ → Order
rest_of (Do level request) made = Finish
rest_of (Serve line) made = Finish
rest_of (Run steps) made = Run (steps - made)
rest_of order made = order

-- orders, on the line of a directive
abbrev pub on_line : ℕ → List Order → List Directive
on_line line orders = map (λ order. record { line = line; order = order }) orders

-- an order up to the place behind so many of its steps
abbrev pub orders_up : Order → ℕ → List Order
orders_up order made = option_to_list (beginning_of order) ++ (if nat_lt 0 made then Run made ∷ [] else [])

-- an order from there on, where it makes so many steps
abbrev pub orders_on : Order → ℕ → ℕ → List Order
orders_on order made steps = if nat_lt made steps then rest_of order made ∷ [] else []

-- a directive up to a spot by it
abbrev pub up_by : Spot → Directive → List Directive
up_by Before d = []
up_by Begun d = on_line d.line (orders_up d.order 0)
up_by (Step made) d = on_line d.line (orders_up d.order made)
up_by Behind d = d ∷ []

-- a directive of so many steps from a spot by it on
abbrev pub on_by : ℕ → Spot → Directive → List Directive
on_by steps Before d = d ∷ []
on_by steps Begun d = on_line d.line (orders_on d.order 0 steps)
on_by steps (Step made) d = on_line d.line (orders_on d.order made steps)
on_by steps Behind d = []
