-- The deeds for which a chip and a stack stand: all that was done since power on.
use Rattle.std.specs.Prelude.{◌≡◌, ℕ, ◌+◌, ◌<◌, ◌≤◌, Bool, true, false, List, [], ◌∷◌, Option, Some, None, Result, Ok, Err}
use Rattle.chip_model.specs.Chip.{Chip, incoming_at, expiry_of, reset_chip, is_masked}
use Rattle.mcal_base.specs.Bits.{has_bit}
use Rattle.mcal_base.specs.declared.directive.Reason.TheVariants.{PowerOn}
use Rattle.run_model.specs.declared.class.Tag.{Tag}
use Rattle.run_model.specs.Causes.{none_above, tags_of}
use Rattle.irq_control.specs.declared.held.Held.{Held}
use Rattle.run_model.specs.declared.item.Stepped.{Stepped}
use Rattle.run_model.specs.World.{world_start}
use Rattle.run_model.specs.declared.class.Class.{Class}
use Rattle.run_model.specs.Frame.{Origin, Called, Entered, Open}
use Rattle.run_model.specs.Moment.{Setting, Moment, Transition, Steps, start_moment, after_all}
use Rattle.run_model.specs.Legal.{IsLegal}
use Rattle.run_model.specs.Outside.{StandsIn}
use Rattle.step_runner.specs.Driver.{Driver, NotOver}
use Rattle.step_runner.specs.Kept.{total_fuel}
use Rattle.step_runner.specs.declared.stack.Under.{Under}

-- the frames of a stack with what they have done
abbrev pub paired : {Call Frame : Type 0} → List (Under Frame) → List (Open Call) → List (Frame × Open Call)
paired [] os = []
paired (u ∷ us) [] = []
paired (u ∷ us) (o ∷ os) = (u.frame, o) ∷ paired us os

-- the class of a call; a handler has none
abbrev pub class_by : {State Call : Type 0} → Setting State Call → Origin Call → Option Class
class_by g (Called c) = Some (g.class_of c)
class_by g (Entered l) = None

-- A frame of a stack is this one of a run, and within its bounds.
pub record IsFrameOf {State Call Frame : Type 0} (d : Driver State Call Frame) (u : Under Frame) (o : Open Call) : Type 0 where
  pub tag : u.tag ≡ o.tag
  pub noted : u.noted ≡ o.noted
  pub class : u.tag.class ≡ class_by d.setting o.origin
  -- the steps that it made, and those that it has left
  pub steps : o.steps + d.fuel u.frame ≤ d.setting.steps_of o.origin
  -- the moves of its window, and those that this has left
  pub window : o.window ≤ d.setting.window_of o.origin
  pub room : o.inside ≡ true → o.window + d.room u.frame ≤ d.setting.window_of o.origin

-- the frames of a stack are those of a run
abbrev pub AreFramesOf : {State Call Frame : Type 0} → Driver State Call Frame → List (Under Frame) → List (Open Call) → Type 0
AreFramesOf d [] [] = Unit {0}
AreFramesOf d [] (o ∷ os) = ⊥
AreFramesOf d (u ∷ us) [] = ⊥
AreFramesOf d (u ∷ us) (o ∷ os) = IsFrameOf d u o × AreFramesOf d us os

-- none of these frames holds the mask
abbrev pub NoneInside : {Call : Type 0} → List (Open Call) → Type 0
NoneInside [] = Unit {0}
NoneInside (o ∷ os) = (o.inside ≡ false) × NoneInside os

-- the mask is closed exactly where the top frame holds it, and no other does
abbrev pub IsGuarded : {Call : Type 0} → Bool → List (Open Call) → Type 0
IsGuarded masked [] = masked ≡ false
IsGuarded masked (o ∷ os) = (masked ≡ o.inside) × NoneInside os

-- no frame is of a lower level than one below it
abbrev pub LevelsRise : List Tag → Type 0
LevelsRise [] = Unit {0}
LevelsRise (t ∷ ts) = (none_above ts t.level ≡ true) × LevelsRise ts

-- A chip and the frames of a stack, the newest first, are those of a moment.
pub record Matches {State Call Frame : Type 0} (d : Driver State Call Frame) (chip : Chip) (us : List (Under Frame)) (m : Moment State Call) : Type 0 where
  pub chip_is : chip ≡ m.chip
  pub frames : AreFramesOf d us m.opens
  pub relates : d.relates m.chip m.world (paired us m.opens) m.state
  pub guarded : IsGuarded (is_masked m.chip) m.opens
  pub counted : d.count m.state ≤ m.steps
  pub levels : LevelsRise (tags_of m.opens)
  pub rate : m.chip.clock.rate ≡ d.setting.machine.rate m.state
  -- it stands in the world, and its serial devices are the world's
  pub outside : StandsIn m.chip m.world
  pub hung : m.chip.devices ≡ m.world.devices
  -- no line is enabled that isn't one of the driver's
  pub enabled : (line : ℕ) → d.lines line ≡ false → has_bit m.chip.control.enabled line ≡ false
  -- no watchdog's time runs where the driver has none
  pub unloaded : d.watches ≡ false → expiry_of m.chip ≡ None

-- A chip as at power on: no time went by outside, no word waits to come in, and it is as that reset leaves it.
pub record IsFirst (chip : Chip) : Type 0 where
  pub outside : StandsIn chip (world_start chip.devices)
  pub waits : (u : ℕ) → (incoming_at chip u).waiting ≡ []
  pub is_reset : reset_chip chip PowerOn ≡ chip

-- A chip and the frames of a stack stand for a list of deeds, from power on with this chip: those are a legal run, and lead to them, and the watchdog's time isn't over.
pub record Stands {State Call Frame : Type 0} (d : Driver State Call Frame) (first : Chip) (chip : Chip) (us : List (Under Frame)) (h : List (Transition Call)) : Type 0 where
  pub legal : IsLegal d.setting (start_moment d.setting first) h
  pub matches : Matches d chip us (after_all d.setting (start_moment d.setting first) h)
  pub alive : NotOver (expiry_of chip)

-- the deed, unless it was held
abbrev pub done : {A Call : Type 0} → Result A Held → Transition Call → List (Transition Call)
done (Ok a) deed = deed ∷ []
done (Err cause) deed = []

-- the step, if there was one
abbrev pub step_done : {Call : Type 0} → Result Stepped Held → List (Transition Call)
step_done (Ok s) = Steps s ∷ []
step_done (Err cause) = []

-- after a step the frames have fewer steps left
abbrev pub FuelFalls : {Frame : Type 0} → (Frame → ℕ) → List (Under Frame) → List (Under Frame) → Result Stepped Held → Type 0
FuelFalls fuel us later (Ok s) = total_fuel fuel later < total_fuel fuel us
FuelFalls fuel us later (Err cause) = Unit {0}
