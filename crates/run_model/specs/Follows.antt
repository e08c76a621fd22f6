-- When a journal follows a script: directive by directive its items are those that the bench language gives.
use Rattle.std.specs.Prelude.{◌≡◌, ℕ, zero, suc, ◌+◌, ◌-◌, ◌<◌, nat_lt, nat_le, Bool, true, false, ◌||◌, ◌==◌, List, [], ◌∷◌, ◌++◌, length, Option, Some, None, is_some, MatchBool}
use Rattle.chip_model.specs.Chip.{wait_on, is_pending, is_masked}
use Rattle.irq_control.specs.declared.held.Held.{Held}
use Rattle.irq_control.specs.declared.held.Held.TheVariants.{Empty, Frames}
use Rattle.mcal_base.specs.declared.directive.Directive.{Directive}
use Rattle.mcal_base.specs.declared.directive.Order.{Order}
use Rattle.mcal_base.specs.declared.directive.Order.TheVariants as orders
use Rattle.mcal_base.specs.declared.directive.Reason.TheVariants.{Watchdog, Software}
use Rattle.mcal_base.specs.declared.directive.Request.{Request}
use Rattle.mcal_base.specs.declared.directive.Stop.{Stop}
use Rattle.mcal_base.specs.declared.directive.Stop.TheVariants as stops
use Rattle.mcal_base.specs.declared.moves.Move.{Move}
use Rattle.mcal_base.specs.declared.moves.Move.TheVariants.{Read, Mask, Unmask, Note}
use Rattle.mcal_base.specs.declared.register.Reg.TheVariants.{SerialWait}
use Rattle.run_model.specs.declared.item.Stepped.{Stepped}
use Rattle.run_model.specs.declared.stop_condition.StopCondition.{StopCondition}
use Rattle.run_model.specs.declared.stop_condition.StopCondition.TheVariants.{Count, Until, Whole}
use Rattle.run_model.specs.Causes.{call_cause, line_cause, tags_of, top_noted}
use Rattle.run_model.specs.Entry as entry
use Rattle.run_model.specs.Frame.{Open, is_act, resets_chip}
use Rattle.run_model.specs.Legal.{hardware_held}
use Rattle.run_model.specs.Moment.{Setting, Moment, Transition, Begins, Enters, Steps, Happens, after, after_all}
use Rattle.run_model.specs.Script.{deed_of}

-- the items are this one alone, with the directive's line and the number of frames before it
abbrev pub IsOne : {State Call : Type 0} → Moment State Call → (line : ℕ) → entry.Said → List entry.Entry → Type 0
IsOne m line said items = items ≡ (record { line = line; depth = length m.opens; said = said }) ∷ []

-- ---- ticks

-- the ticks that are left after a reset, if any
abbrev pub ticks_left : (line rest : ℕ) → List entry.Entry
ticks_left line zero = []
ticks_left line (suc n) = (record { line = line; depth = 0; said = entry.Happens (orders.Tick (suc n)) }) ∷ []

-- the items of ticks in which the watchdog's time ends: the ticks up to there, its reset, and the ticks that are left
abbrev pub ticks_through : (line depth left rest : ℕ) → List entry.Entry
ticks_through line depth left rest =
    (record { line = line; depth = depth; said = entry.Happens (orders.Tick left) })
    ∷ (record { line = line; depth = depth; said = entry.Resets Watchdog depth })
    ∷ ticks_left line rest

-- the items of ticks, by how many there are until the watchdog's time ends
abbrev pub Ticks : {State Call : Type 0} → Moment State Call → (line n : ℕ) → (left : Option ℕ) → List entry.Entry → Type 0
Ticks m line n None items = IsOne m line (entry.Happens (orders.Tick n)) items
Ticks m line n (Some left) items = MatchBool (nat_lt n left) (IsOne m line (entry.Happens (orders.Tick n)) items) (items ≡ ticks_through line (length m.opens) left (n - left))

-- ---- waiting for a word

-- the move reads the wait register of this unit
abbrev pub awaits : (u : ℕ) → Move → Bool
awaits u (Read (SerialWait k)) = k == u
awaits u made = false

abbrev pub is_awaiting : (u : ℕ) → entry.Said → Bool
is_awaiting u (entry.Steps s) = awaits u s.made
is_awaiting u (entry.Happens o) = false
is_awaiting u entry.Begins = false
is_awaiting u (entry.Stays c) = false
is_awaiting u (entry.Resets r k) = false

-- the next item is the step that waited for the word of this unit
abbrev pub ComesAwaited : (u : ℕ) → List entry.Entry → Type 0
ComesAwaited u [] = ⊥
ComesAwaited u (e ∷ es) = is_awaiting u e.said ≡ true

-- the top frame may read the wait register of this unit
abbrev pub MayWait : {State Call : Type 0} → Setting State Call → List (Open Call) → (u : ℕ) → Type 0
MayWait g [] u = ⊥
MayWait g (o ∷ os) u = g.may o.origin (Read (SerialWait u)) ≡ true

-- the watchdog's time ends within so many ticks
abbrev pub ends_within : ℕ → (left : Option ℕ) → Bool
ends_within n None = false
ends_within n (Some left) = nat_le left n

-- The top frame waits so many ticks for the word in transfer on a unit, with the mask open, and then its step comes, and more;
-- or the watchdog's time ends in them, and its reset comes in place of the step.
pub record Waits {State Call : Type 0} (g : Setting State Call) (line : ℕ) (m : Moment State Call) (n : ℕ) (items : List entry.Entry) (More : Type 0) : Type 0 where
  pub unit : ℕ
  pub busy : 0 < wait_on m.chip unit
  pub unmasked : is_masked m.chip ≡ false
  pub may : MayWait g m.opens unit
  pub goes : MatchBool (ends_within (wait_on m.chip unit) (g.machine.expires m.world m.state))
      ((g.machine.expires m.world m.state ≡ Some n) × IsOne m line (entry.Resets Watchdog (length m.opens)) items)
      ((n ≡ wait_on m.chip unit) × ComesAwaited unit items × More)

-- ---- steps of the top frame

-- the step is one at which `upto` stops
abbrev pub is_mask : Move → Bool
is_mask Mask = true
is_mask _ = false

abbrev pub is_unmask : Move → Bool
is_unmask Unmask = true
is_unmask _ = false

abbrev pub is_notice : Move → Bool
is_notice (Note n) = true
is_notice _ = false

abbrev pub stops_at : Stop → Stepped → Bool
stops_at stops.Act s = is_act s.event
stops_at stops.Mask s = is_mask s.made
stops_at stops.Unmask s = is_unmask s.made
stops_at stops.Note s = is_notice s.made

-- the directive stops after this step, having made so many
abbrev pub is_reached : StopCondition → ℕ → Stepped → Bool
is_reached (Count n) made s = made == n
is_reached (Until stop) made s = stops_at stop s
is_reached Whole made s = false

-- what comes after a step: the reset that it makes, or nothing where the frame ended or the directive stops, or more steps
abbrev pub ThenComes : {State Call : Type 0} → Setting State Call → (line : ℕ) → StopCondition → (made : ℕ) → Moment State Call → Stepped → (items : List entry.Entry) → (More : Type 0) → Type 0
ThenComes g line reach made m s items More =
    MatchBool (resets_chip s.made)
    (IsOne (after g m (Steps s)) line (entry.Resets Software (length (after g m (Steps s)).opens)) items)
    (MatchBool (is_some s.ended || is_reached reach (made + 1) s) (items ≡ []) More)

-- the item is a step, with which so many were made, and more comes after its deed; or a wait before one
abbrev pub IsStep : {State Call : Type 0} → Setting State Call → (line : ℕ) → StopCondition → (made : ℕ) → Moment State Call → entry.Entry → (items : List entry.Entry) → entry.Said → ((made : ℕ) → Transition Call → Type 0) → Type 0
IsStep g line reach made m e items (entry.Steps s) More = (e.line ≡ line) × (e.depth ≡ length m.opens) × ThenComes g line reach made m s items (More (made + 1) (Steps s))
IsStep g line reach made m e items (entry.Happens (orders.Tick n)) More = (e.line ≡ line) × (e.depth ≡ length m.opens) × Waits g line m n items (More made (Happens (orders.Tick n)))
IsStep g line reach made m e items (entry.Happens o) More = ⊥
IsStep g line reach made m e items entry.Begins More = ⊥
IsStep g line reach made m e items (entry.Stays c) More = ⊥
IsStep g line reach made m e items (entry.Resets r k) More = ⊥

-- the items are steps of the top frame, each after its wait, as far as the directive reaches, or to the frame's end, or to a reset; so many were made before
abbrev pub GoesOn : {State Call : Type 0} → Setting State Call → (line : ℕ) → StopCondition → (made : ℕ) → Moment State Call → List entry.Entry → Type 0
GoesOn g line reach made m [] = ⊥
GoesOn g line reach made m (e ∷ es) = IsStep g line reach made m e es e.said (λ n deed. GoesOn g line reach n (after g m deed) es)

-- the items of `run`, `upto` and `finish`: held without a frame, and `run 0` makes no step
abbrev pub Goes : {State Call : Type 0} → Setting State Call → (line : ℕ) → StopCondition → Moment State Call → List (Open Call) → List entry.Entry → Type 0
Goes g line reach m [] items = IsOne m line (entry.Stays Empty) items
Goes g line (Count zero) m (o ∷ os) items = items ≡ []
Goes g line (Count (suc n)) m (o ∷ os) items = GoesOn g line (Count (suc n)) 0 m items
Goes g line (Until stop) m (o ∷ os) items = GoesOn g line (Until stop) 0 m items
Goes g line Whole m (o ∷ os) items = GoesOn g line Whole 0 m items

-- ---- beginnings

-- the first cause that keeps a call, or the handler of a line, off
abbrev pub call_held : {State Call : Type 0} → Setting State Call → Moment State Call → Call → (level : ℕ) → Option Held
call_held g m c level = call_cause (is_masked m.chip) (tags_of m.opens) (top_noted m.opens) (g.class_of c) level

abbrev pub line_held : {State Call : Type 0} → Setting State Call → Moment State Call → (line : ℕ) → Option Held
line_held g m l = line_cause (is_masked m.chip) (tags_of m.opens) (g.level_of l) (is_pending m.chip l)

-- a held beginning gives its cause, and another one `Begun`
abbrev pub BeginsOnly : {State Call : Type 0} → Moment State Call → (line : ℕ) → Option Held → List entry.Entry → Type 0
BeginsOnly m line (Some c) items = IsOne m line (entry.Stays c) items
BeginsOnly m line None items = IsOne m line entry.Begins items

-- the same, and then the frame's steps to its end
pub record BeginsAndGoes {State Call : Type 0} (g : Setting State Call) (line : ℕ) (m : Moment State Call) (deed : Transition Call) (items : List entry.Entry) : Type 0 where
  pub steps : List entry.Entry
  pub is : items ≡ (record { line = line; depth = length m.opens; said = entry.Begins }) ∷ steps
  pub goes : GoesOn g line Whole 0 (after g m deed) steps

abbrev pub BeginsWhole : {State Call : Type 0} → Setting State Call → Moment State Call → (line : ℕ) → Transition Call → Option Held → List entry.Entry → Type 0
BeginsWhole g m line deed (Some c) items = IsOne m line (entry.Stays c) items
BeginsWhole g m line deed None items = BeginsAndGoes g line m deed items

-- ---- a directive, and a script

-- to show needs that no frame is there
abbrev pub Shows : {State Call : Type 0} → Moment State Call → (line : ℕ) → Order → List (Open Call) → List entry.Entry → Type 0
Shows m line order [] items = IsOne m line (entry.Happens order) items
Shows m line order (o ∷ os) items = IsOne m line (entry.Stays Frames) items

-- a held hardware event gives its cause, and another one `Happened`
abbrev pub HappensOnly : {State Call : Type 0} → Moment State Call → (line : ℕ) → Order → Option Held → List entry.Entry → Type 0
HappensOnly m line order (Some c) items = IsOne m line (entry.Stays c) items
HappensOnly m line order None items = IsOne m line (entry.Happens order) items

-- the items that a directive gives
abbrev pub Gives : {State Call : Type 0} → Setting State Call → (Request → Call) → Moment State Call → (line : ℕ) → Order → List entry.Entry → Type 0
Gives g call_of m line (orders.Call level r) items = BeginsOnly m line (call_held g m (call_of r) level) items
Gives g call_of m line (orders.Do level r) items = BeginsWhole g m line (Begins (call_of r) level) (call_held g m (call_of r) level) items
Gives g call_of m line (orders.Enter l) items = BeginsOnly m line (line_held g m l) items
Gives g call_of m line (orders.Serve l) items = BeginsWhole g m line (Enters l) (line_held g m l) items
Gives g call_of m line (orders.Run n) items = Goes g line (Count n) m m.opens items
Gives g call_of m line (orders.Upto stop) items = Goes g line (Until stop) m m.opens items
Gives g call_of m line orders.Finish items = Goes g line Whole m m.opens items
Gives g call_of m line (orders.Tick n) items = Ticks m line n (g.machine.expires m.world m.state) items
Gives g call_of m line (orders.Level p v) items = IsOne m line (entry.Happens (orders.Level p v)) items
Gives g call_of m line (orders.Analog i v) items = IsOne m line (entry.Happens (orders.Analog i v)) items
Gives g call_of m line (orders.Trigger i) items = IsOne m line (entry.Happens (orders.Trigger i)) items
Gives g call_of m line (orders.Miso u ws) items = IsOne m line (entry.Happens (orders.Miso u ws)) items
Gives g call_of m line (orders.SpiFault u) items = IsOne m line (entry.Happens (orders.SpiFault u)) items
Gives g call_of m line orders.Detach items = HappensOnly m line orders.Detach (hardware_held g m orders.Detach) items
Gives g call_of m line (orders.Fill c ws) items = HappensOnly m line (orders.Fill c ws) (hardware_held g m (orders.Fill c ws)) items
-- a script asks for no software reset
Gives g call_of m line (orders.Reset Software) items = ⊥
Gives g call_of m line (orders.Reset reason) items = IsOne m line (entry.Resets reason (length m.opens)) items
Gives g call_of m line (orders.Show s) items = Shows m line (orders.Show s) m.opens items

-- the deeds of a directive's items
abbrev pub deeds_in : {Call : Type 0} → (Request → Call) → Order → List entry.Entry → List (Transition Call)
deeds_in call_of order [] = []
deeds_in call_of order (e ∷ es) = deed_of call_of (Some order) e.said ++ deeds_in call_of order es

-- a directive's items, and then those of the others
pub record FirstThen {State Call : Type 0} (g : Setting State Call) (call_of : Request → Call) (m : Moment State Call) (d : Directive) (items : List entry.Entry) (Later : Moment State Call → List entry.Entry → Type 0) : Type 0 where
  pub first : List entry.Entry
  pub later : List entry.Entry
  pub is : items ≡ first ++ later
  pub gives : Gives g call_of m d.line d.order first
  pub rest : Later (after_all g m (deeds_in call_of d.order first)) later

-- the items are those of the directives, in their order
abbrev pub Follows : {State Call : Type 0} → Setting State Call → (Request → Call) → Moment State Call → List Directive → List entry.Entry → Type 0
Follows g call_of m [] items = items ≡ []
Follows g call_of m (d ∷ ds) items = FirstThen g call_of m d items (λ m1 later. Follows g call_of m1 ds later)
