-- What a stack keeps of each frame, and what a beginning and a step leave of it.
use Rattle.std.specs.Prelude.{◌≡◌, ℕ, ◌+◌, ◌<◌, Bool, false, ◌||◌, cond, List, [], ◌∷◌, length, Option, Some, None, Result, Ok, Err}
use Rattle.chip_model.specs.Chip.{Chip, hung, value_of, stall_of, chip_after}
use Rattle.chip_model.specs.Devices.{ComesIn, CallsRight}
use Rattle.irq_control.specs.declared.held.Held.{Held}
use Rattle.irq_control.specs.declared.held.Held.TheVariants.{Empty, Busy, Unknown}
use Rattle.mcal_base.specs.declared.moves.Move.{Move}
use Rattle.mcal_base.specs.declared.routine.Taken.{Taken}
use Rattle.run_model.specs.declared.class.Tag.{Tag}
use Rattle.run_model.specs.declared.item.Stepped.{Stepped}
use Rattle.serial_devices.specs.Lines.{Line}
use Rattle.std.specs.List.{list_any}
use Rattle.run_model.specs.Causes.{reads_source}
use Rattle.run_model.specs.Frame.{is_note, top_after}
use Rattle.mcal_base.specs.Reach.{CanApply}
use Rattle.step_runner.specs.Driver.{stepped}
use Rattle.step_runner.specs.declared.stack.Under.{Under}

-- The frames of a stack, the newest first, and the number of steps that it made.
pub record Kept (Frame : Type 0) : Type 0 where
  pub frames : List (Under Frame)
  pub steps : ℕ

-- a new stack
abbrev pub kept_empty : {Frame : Type 0} → Kept Frame
kept_empty = record { frames = []; steps = 0 }

-- the tags of the frames
abbrev pub tags_under : {Frame : Type 0} → List (Under Frame) → List Tag
tags_under [] = []
tags_under (u ∷ us) = u.tag ∷ tags_under us

-- the top frame's last move is a notice
abbrev pub top_is_noted : {Frame : Type 0} → List (Under Frame) → Bool
top_is_noted [] = false
top_is_noted (u ∷ us) = u.noted

-- a frame of a call reads the source array of a channel
abbrev pub is_read : {Frame : Type 0} → (channel : ℕ) → List (Under Frame) → Bool
is_read c us = list_any (λ u. reads_source c u.tag.class) us

-- whether one of two drivers uses an array, of those that have it
abbrev pub used_by : Option Bool → Option Bool → Option Bool
used_by None second = second
used_by (Some first) None = Some first
used_by (Some first) (Some second) = Some (first || second)

-- why a fill is held, by whether the machine uses the array, if there is one, whether the mask is closed, and whether a call reads the array
abbrev pub fill_by : Option Bool → (masked read : Bool) → Option Held
fill_by None masked read = Some Unknown
fill_by (Some used) masked read = cond ((masked || used) || read) (Some Busy) None

-- the cause by which a beginning was held
abbrev pub cause_of : {A : Type 0} → Result A Held → Option Held
cause_of (Ok a) = None
cause_of (Err cause) = Some cause

-- a frame that begins
abbrev pub beginning : {Frame : Type 0} → Frame → Tag → Under Frame
beginning frame tag = record { frame = frame; tag = tag; noted = false }

-- a frame is put on, unless it was held
abbrev pub put_by : {Frame A : Type 0} → Result A Held → Under Frame → Kept Frame → Kept Frame
put_by (Ok a) u k = record { frames = u ∷ k.frames; steps = k.steps }
put_by (Err cause) u k = k

-- a handler is put on, if there is one
abbrev pub handled : {Frame : Type 0} → Option Frame → Tag → Kept Frame → Kept Frame
handled None tag k = k
handled (Some f) tag k = record { frames = beginning f tag ∷ k.frames; steps = k.steps }

-- a handler is put on, unless it was held
abbrev pub enter_by : {Frame A : Type 0} → Result A Held → Option Frame → Tag → Kept Frame → Kept Frame
enter_by r None tag k = k
enter_by r (Some f) tag k = put_by r (beginning f tag) k

-- the top frame is taken off, and a step counted
abbrev pub TakesTop : {Frame : Type 0} → List (Under Frame) → ℕ → Kept Frame → Option (Under Frame) → Type 0
TakesTop [] steps k1 r = (k1 ≡ record { frames = []; steps = steps }) × (r ≡ None)
TakesTop (u ∷ us) steps k1 r = (k1 ≡ record { frames = us; steps = steps + 1 }) × (r ≡ Some u) × (length us < 8)

-- the top frame after its move
abbrev pub moved : {Frame : Type 0} → Under Frame → Frame → Move → Under Frame
moved u frame made = record { frame = frame; tag = u.tag; noted = is_note made }

-- The top frame makes its move and takes the value, and leaves the stack where it ended; a word comes in that may come.
pub record StepsTop {Frame : Type 0} (move_of : Frame → Move) (left : Frame → ℕ → Frame) (gave : Frame → ℕ → Taken) (u : Under Frame) (us : List (Under Frame)) (steps : ℕ) (chip : Chip) (k1 : Kept Frame) (chip1 : Chip) (r : Result Stepped Held) : Type 0 where
  pub received : ℕ
  pub comes : ComesIn chip (move_of u.frame) received
  pub frames : k1.frames ≡ top_after (moved u (left u.frame (value_of chip (move_of u.frame))) (move_of u.frame)) (gave u.frame (value_of chip (move_of u.frame))).ended us
  pub steps_are : k1.steps ≡ steps + 1
  pub chip_is : chip1 ≡ chip_after chip (move_of u.frame) received
  pub result_is : r ≡ Ok (stepped (move_of u.frame) (value_of chip (move_of u.frame)) received (gave u.frame (value_of chip (move_of u.frame))))

-- With no frame nothing happens.
pub record StepsNothing {Frame : Type 0} (steps : ℕ) (chip : Chip) (k1 : Kept Frame) (chip1 : Chip) (r : Result Stepped Held) : Type 0 where
  pub frames : k1.frames ≡ []
  pub steps_are : k1.steps ≡ steps
  pub chip_is : chip1 ≡ chip
  pub result_is : r ≡ Err Empty

-- what a step does
abbrev pub TakesStep : {Frame : Type 0} → (Frame → Move) → (Frame → ℕ → Frame) → (Frame → ℕ → Taken) → List (Under Frame) → ℕ → Chip → Kept Frame → Chip → Result Stepped Held → Type 0
TakesStep move_of left gave [] steps chip k1 chip1 r = StepsNothing steps chip k1 chip1 r
TakesStep move_of left gave (u ∷ us) steps chip k1 chip1 r = StepsTop move_of left gave u us steps chip k1 chip1 r

-- the chip whose move a step makes: as many devices hang on it as there are, and with no frame nothing happens to it
abbrev pub hung_for : {Frame : Type 0} → List (Under Frame) → (devices : ℕ) → Chip → Chip
hung_for [] devices chip = chip
hung_for (u ∷ us) devices chip = hung devices chip

-- what becomes of the devices by a step
abbrev pub StepCalls : Chip → Result Stepped Held → (old new : List Line) → Type 0
StepCalls chip (Ok s) old new = CallsRight chip s.made s.received old new
StepCalls chip (Err cause) old new = new ≡ old

-- the step that was written to a place, unless it was held
abbrev pub written_by : {A : Type 0} → Result A Held → Stepped → Result Stepped Held
written_by (Ok a) s = Ok s
written_by (Err cause) s = Err cause

-- the register or the word of the top frame's move is there
abbrev pub CanStep : {Frame : Type 0} → (Frame → Move) → List (Under Frame) → Type 0
CanStep move_of [] = Unit {0}
CanStep move_of (u ∷ us) = CanApply (move_of u.frame)

-- the top frame's move waits for no word
abbrev pub IsStill : {Frame : Type 0} → (Frame → Move) → List (Under Frame) → Chip → Type 0
IsStill move_of [] chip = Unit {0}
IsStill move_of (u ∷ us) chip = stall_of chip (move_of u.frame) ≡ 0

-- the top frame's next move, where there is a frame
abbrev pub upcoming_of : {Frame : Type 0} → (Frame → Move) → List (Under Frame) → Option Move
upcoming_of move_of [] = None
upcoming_of move_of (u ∷ us) = Some (move_of u.frame)

-- the move is the top frame's next one, where there is a frame
abbrev pub IsLooked : {Frame : Type 0} → (Frame → Move) → List (Under Frame) → Move → Type 0
IsLooked move_of [] made = Unit {0}
IsLooked move_of (u ∷ us) made = made ≡ move_of u.frame

-- the steps that the frames have left at most
abbrev pub total_fuel : {Frame : Type 0} → (Frame → ℕ) → List (Under Frame) → ℕ
total_fuel fuel [] = 0
total_fuel fuel (u ∷ us) = fuel u.frame + total_fuel fuel us
