-- The rows that the shows of a journal print: those that the machine's state gives at the item.
use Rattle.std.specs.Prelude.{List, [], ◌∷◌, ◌++◌}
use Rattle.mcal_base.specs.declared.directive.Directive.{Directive}
use Rattle.mcal_base.specs.declared.directive.Order.{Order}
use Rattle.mcal_base.specs.declared.directive.Order.TheVariants as orders
use Rattle.mcal_base.specs.declared.directive.Request.{Request}
use Rattle.mcal_base.specs.declared.directive.Shown.{Shown}
use Rattle.run_model.specs.Entry.{Entry, Said, Happens, Begins, Stays, Steps, Resets}
use Rattle.run_model.specs.Moment.{Setting, Moment, after_all}
use Rattle.run_model.specs.Script.{order_at, deed_of}
use Rattle.run_model.specs.World.{World}
use Rattle.bench_report.specs.Rows.{Row}

-- what a machine's state shows
abbrev pub Showing : Type 0 → Type 0
Showing State = World → State → Shown → List Row

-- the rows of what happened, where it is a show, in the moment before it
abbrev pub order_rows : {State Call : Type 0} → Showing State → Moment State Call → Order → List (List Row)
order_rows showing m (orders.Show what) = showing m.world m.state what ∷ []
order_rows showing m _ = []

abbrev pub item_rows : {State Call : Type 0} → Showing State → Moment State Call → Said → List (List Row)
item_rows showing m (Happens order) = order_rows showing m order
item_rows showing m Begins = []
item_rows showing m (Stays cause) = []
item_rows showing m (Steps step) = []
item_rows showing m (Resets reason dropped) = []

-- the rows of each show of a journal, from a moment on
abbrev pub shows_from : {State Call : Type 0} → Setting State Call → (Request → Call) → Showing State → List Directive → Moment State Call → List Entry → List (List Row)
shows_from g call_of showing script m [] = []
shows_from g call_of showing script m (e ∷ es) =
    item_rows showing m e.said ++ shows_from g call_of showing script (after_all g m (deed_of call_of (order_at script e.line) e.said)) es
