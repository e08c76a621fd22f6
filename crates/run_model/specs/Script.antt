-- What the items of a journal are to a run, by the script that they follow.
use Rattle.std.specs.Prelude.{ℕ, ◌==◌, cond, List, [], ◌∷◌, ◌++◌, Option, Some, None}
use Rattle.mcal_base.specs.declared.directive.Directive.{Directive}
use Rattle.mcal_base.specs.declared.directive.Order.{Order}
use Rattle.mcal_base.specs.declared.directive.Order.TheVariants as orders
use Rattle.mcal_base.specs.declared.directive.Request.{Request}
use Rattle.run_model.specs.Entry as entry
use Rattle.run_model.specs.Moment.{Transition, Begins, Enters, Steps, Happens, Resets}

-- the order at a line of the script
abbrev pub order_at : List Directive → ℕ → Option Order
order_at [] line = None
order_at (d ∷ ds) line = cond (d.line == line) (Some d.order) (order_at ds line)

-- what begins by an order: a call, or the handler of a line
abbrev pub beginnings_of : {Call : Type 0} → (Request → Call) → Option Order → List (Transition Call)
beginnings_of call_of (Some (orders.Call level r)) = Begins (call_of r) level ∷ []
beginnings_of call_of (Some (orders.Do level r)) = Begins (call_of r) level ∷ []
beginnings_of call_of (Some (orders.Enter line)) = Enters line ∷ []
beginnings_of call_of (Some (orders.Serve line)) = Enters line ∷ []
beginnings_of call_of _ = []

-- what moves the hardware; to show moves nothing
abbrev pub moved_by : {Call : Type 0} → Order → List (Transition Call)
moved_by (orders.Show s) = []
moved_by order = Happens order ∷ []

-- the deed of an item, where it is one
abbrev pub deed_of : {Call : Type 0} → (Request → Call) → Option Order → entry.Said → List (Transition Call)
deed_of call_of order (entry.Happens o) = moved_by o
deed_of call_of order entry.Begins = beginnings_of call_of order
deed_of call_of order (entry.Stays c) = []
deed_of call_of order (entry.Steps s) = Steps s ∷ []
deed_of call_of order (entry.Resets r k) = Resets r ∷ []

-- the deeds of a journal: what began at an item is said by the script at the item's line
abbrev pub deeds_of : {Call : Type 0} → (Request → Call) → List Directive → List entry.Entry → List (Transition Call)
deeds_of call_of script [] = []
deeds_of call_of script (e ∷ es) = deed_of call_of (order_at script e.line) e.said ++ deeds_of call_of script es
