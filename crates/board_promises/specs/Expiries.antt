-- The watchdog's time in a journal: where it is over its reset comes next, and a reset of its own comes nowhere else.
use Rattle.std.specs.Prelude.{◌≡◌, ℕ, zero, Bool, true, false, List, [], ◌∷◌, Option, Some}
use Rattle.mcal_base.specs.declared.directive.Directive.{Directive}
use Rattle.mcal_base.specs.declared.directive.Order.{Order}
use Rattle.mcal_base.specs.declared.directive.Order.TheVariants as orders
use Rattle.mcal_base.specs.declared.directive.Reason.TheVariants.{Watchdog}
use Rattle.mcal_base.specs.declared.directive.Request.{Request}
use Rattle.run_model.specs.Entry.{Entry, Said, Resets as Reset}
use Rattle.run_model.specs.Moment.{Setting, Moment, Transition, Resets, after, after_all}
use Rattle.run_model.specs.Script.{order_at, deed_of}

-- by the ticks that are left of its time: where none is, the deed is its reset
abbrev pub IsOver : {Call : Type 0} → (left : Option ℕ) → Transition Call → Type 0
IsOver (Some zero) d = d ≡ Resets Watchdog
IsOver left d = Unit {0}

-- each deed is so
abbrev pub EndsInTime : {State Call : Type 0} → Setting State Call → Moment State Call → List (Transition Call) → Type 0
EndsInTime g m [] = Unit {0}
EndsInTime g m (d ∷ ds) = IsOver (g.machine.expires m.world m.state) d × EndsInTime g (after g m d) ds

-- the directive is `reset watchdog`
abbrev pub asks_reset : Option Order → Bool
asks_reset (Some (orders.Reset Watchdog)) = true
asks_reset _ = false

-- a reset by the watchdog that no directive asks for comes where no tick is left
abbrev pub ComesOver : Said → (asked : Bool) → (left : Option ℕ) → Type 0
ComesOver (Reset Watchdog dropped) false left = left ≡ Some 0
ComesOver said asked left = Unit {0}

-- each item is so
abbrev pub ResetsInTime : {State Call : Type 0} → Setting State Call → (Request → Call) → List Directive → Moment State Call → List Entry → Type 0
ResetsInTime g call_of script m [] = Unit {0}
ResetsInTime g call_of script m (e ∷ es) =
    ComesOver e.said (asks_reset (order_at script e.line)) (g.machine.expires m.world m.state)
    × ResetsInTime g call_of script (after_all g m (deed_of call_of (order_at script e.line) e.said)) es
