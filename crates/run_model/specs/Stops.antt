-- When a journal follows a script up to a stop: the items of the first directives are whole, and those of the next one end where the top frame would make one more step.
use Rattle.std.specs.Prelude.{◌≡◌, ◌⊎◌, ℕ, zero, ◌+◌, ◌<◌, Bool, true, false, ◌||◌, List, [], ◌∷◌, length, count_by, Option, None, is_some}
use Rattle.chip_model.specs.Chip.{wait_on, is_masked}
use Rattle.irq_control.specs.declared.held.Held.{Held}
use Rattle.mcal_base.specs.declared.directive.Directive.{Directive}
use Rattle.mcal_base.specs.declared.directive.Order.{Order}
use Rattle.mcal_base.specs.declared.directive.Order.TheVariants as orders
use Rattle.mcal_base.specs.declared.directive.Request.{Request}
use Rattle.run_model.specs.declared.stop_condition.StopCondition.{StopCondition}
use Rattle.run_model.specs.declared.stop_condition.StopCondition.TheVariants.{Count, Until, Whole}
use Rattle.run_model.specs.Entry as entry
use Rattle.run_model.specs.Follows.{call_held, line_held, is_awaiting, MayWait, ends_within, is_reached, FirstThen}
use Rattle.run_model.specs.Frame.{resets_chip, Open}
use Rattle.run_model.specs.Moment.{Setting, Moment, Transition, Begins, Enters, Steps, Happens, after}

-- the step that waited for the word of this unit comes next, or is the one that is asked for
abbrev pub MayComeAwaited : (u : ℕ) → List entry.Entry → Type 0
MayComeAwaited u [] = Unit {0}
MayComeAwaited u (e ∷ es) = is_awaiting u e.said ≡ true

-- the top frame waits so many ticks for the word in transfer on a unit, with the mask open, within the watchdog's time
pub record WaitsBefore {State Call : Type 0} (g : Setting State Call) (m : Moment State Call) (n : ℕ) (items : List entry.Entry) : Type 0 where
  pub unit : ℕ
  pub busy : 0 < n
  pub ticks : n ≡ wait_on m.chip unit
  pub unmasked : is_masked m.chip ≡ false
  pub may : MayWait g m.opens unit
  pub in_time : ends_within n (g.machine.expires m.world m.state) ≡ false
  pub step : MayComeAwaited unit items

-- the item is a step after which the directive goes on: it neither resets the chip, nor ends the frame, nor is the last that is asked for; or a wait before one
abbrev pub IsStepBefore : {State Call : Type 0} → Setting State Call → (line : ℕ) → StopCondition → (made : ℕ) → Moment State Call → entry.Entry → (items : List entry.Entry) → entry.Said → ((made : ℕ) → Transition Call → Type 0) → Type 0
IsStepBefore g line reach made m e items (entry.Steps s) More = (e.line ≡ line) × (e.depth ≡ length m.opens) × (resets_chip s.made || (is_some s.ended || is_reached reach (made + 1) s) ≡ false) × More (made + 1) (Steps s)
IsStepBefore g line reach made m e items (entry.Happens (orders.Tick n)) More = (e.line ≡ line) × (e.depth ≡ length m.opens) × WaitsBefore g m n items × More made (Happens (orders.Tick n))
IsStepBefore g line reach made m e items (entry.Happens o) More = ⊥
IsStepBefore g line reach made m e items entry.Begins More = ⊥
IsStepBefore g line reach made m e items (entry.Stays c) More = ⊥
IsStepBefore g line reach made m e items (entry.Resets r k) More = ⊥

-- the items are steps of the top frame, and the directive asks for one more; so many were made before
abbrev pub GoesToStop : {State Call : Type 0} → Setting State Call → (line : ℕ) → StopCondition → (made : ℕ) → Moment State Call → List entry.Entry → Type 0
GoesToStop g line reach made m [] = Unit {0}
GoesToStop g line reach made m (e ∷ es) = IsStepBefore g line reach made m e es e.said (λ n deed. GoesToStop g line reach n (after g m deed) es)

-- the items of `run`, `upto` and `finish` up to the stop; without a frame they ask for no step, and neither does `run 0`
abbrev pub StopsWithin : {State Call : Type 0} → Setting State Call → (line : ℕ) → StopCondition → Moment State Call → List (Open Call) → List entry.Entry → Type 0
StopsWithin g line reach m [] items = ⊥
StopsWithin g line (Count zero) m (o ∷ os) items = ⊥
StopsWithin g line reach m (o ∷ os) items = GoesToStop g line reach 0 m items

-- the items of `do` and `serve` up to the stop: the frame began
pub record BeginsToStop {State Call : Type 0} (g : Setting State Call) (line : ℕ) (m : Moment State Call) (deed : Transition Call) (held : Option Held) (items : List entry.Entry) : Type 0 where
  pub free : held ≡ None
  pub steps : List entry.Entry
  pub is : items ≡ (record { line = line; depth = length m.opens; said = entry.Begins }) ∷ steps
  pub goes : GoesToStop g line Whole 0 (after g m deed) steps

-- the items of a directive up to the stop; the directives that make no steps don't come to one
abbrev pub GivesToStop : {State Call : Type 0} → Setting State Call → (Request → Call) → Moment State Call → (line : ℕ) → Order → List entry.Entry → Type 0
GivesToStop g call_of m line (orders.Do level r) items = BeginsToStop g line m (Begins (call_of r) level) (call_held g m (call_of r) level) items
GivesToStop g call_of m line (orders.Serve l) items = BeginsToStop g line m (Enters l) (line_held g m l) items
GivesToStop g call_of m line (orders.Run n) items = StopsWithin g line (Count n) m m.opens items
GivesToStop g call_of m line (orders.Upto stop) items = StopsWithin g line (Until stop) m m.opens items
GivesToStop g call_of m line orders.Finish items = StopsWithin g line Whole m m.opens items
GivesToStop g call_of m line _ items = ⊥

-- the items are those of the directives, in their order, up to the stop
abbrev pub FollowsToStop : {State Call : Type 0} → Setting State Call → (Request → Call) → Moment State Call → List Directive → List entry.Entry → Type 0
FollowsToStop g call_of m [] items = ⊥
FollowsToStop g call_of m (d ∷ ds) items = GivesToStop g call_of m d.line d.order items ⊎ FirstThen g call_of m d items (λ m1 later. FollowsToStop g call_of m1 ds later)

-- the steps of a journal
abbrev pub is_step : entry.Said → Bool
is_step (entry.Steps s) = true
is_step (entry.Happens o) = false
is_step entry.Begins = false
is_step (entry.Stays c) = false
is_step (entry.Resets r k) = false

abbrev pub steps_in : List entry.Entry → ℕ
steps_in items = count_by (λ e. is_step e.said) items
