-- A driver on the chip, as those see it who drive it deed by deed.
use Rattle.std.specs.Prelude.{◌≡◌, ℕ, zero, suc, ◌+◌, ◌*◌, ◌-◌, ◌^◌, ◌<◌, ◌≤◌, nat_lt, Bool, true, false, List, [], ◌∷◌, ◌++◌, Option, Some, None, Result, Ok, Err}
use Rattle.chip_model.specs.Chip.{Chip, now_of, stall_of}
use Rattle.mcal_base.specs.declared.directive.Order.{Order}
use Rattle.irq_control.specs.declared.held.Held.{Held}
use Rattle.mcal_base.specs.declared.directive.Order.TheVariants.{Analog, Fill, Level, Miso, SpiFault, Tick, Trigger}
use Rattle.mcal_base.specs.declared.directive.Reason.TheVariants.{Watchdog}
use Rattle.mcal_base.specs.declared.moves.Move.{Move}
use Rattle.run_model.specs.Moment.{Transition, Happens, Resets, start_moment, after_all}
use Rattle.script_runner.specs.Standing.{room_on}
use Rattle.step_runner.specs.Driver.{Driver}
use Rattle.step_runner.specs.Kept.{Kept}
use Rattle.step_runner.specs.Stands.{Stands}
use Rattle.step_runner.specs.declared.stack.Under.{Under}
use Rattle.live_board.specs.declared.outside.Refusal.{Refusal}
use Rattle.live_board.specs.declared.outside.Refusal.TheVariants as refusals

-- The driver, the chip, the frames under way with the number of steps; the ticks that may still go by, the words that may still be given to come in, and how many devices hang on the serial units.
pub record LiveRun (M Frame : Type 0) : Type 0 where
  pub driver : M
  pub chip : Chip
  pub kept : Kept Frame
  pub left : ℕ
  pub room : ℕ
  pub devices : ℕ

-- Of whatever legal run it stood at the end, it now stands at the end of that run with these deeds more, which is a legal run too.
abbrev pub GoesOn : {M State Call Frame : Type 0} → Driver State Call Frame → (before after : LiveRun M Frame) → List (Transition Call) → Type 0
GoesOn {Call = Call} d before after deeds = (first : Chip) (h : List (Transition Call)) → Stands d first before.chip before.kept.frames h → Stands d first after.chip after.kept.frames (h ++ deeds)

-- The same of a step: the run so far has fewer steps than are counted.
abbrev pub StepsOn : {M State Call Frame : Type 0} → Driver State Call Frame → (before after : LiveRun M Frame) → List (Transition Call) → Type 0
StepsOn {Call = Call} d before after deeds = (first : Chip) (h : List (Transition Call)) → (after_all d.setting (start_moment d.setting first) h).steps < 4294967295 → Stands d first before.chip before.kept.frames h → Stands d first after.chip after.kept.frames (h ++ deeds)

-- the ticks that are left behind a reset
abbrev pub rest_of : {Call : Type 0} → ℕ → List (Transition Call)
rest_of zero = []
rest_of (suc n) = Happens (Tick (suc n)) ∷ []

-- so many ticks go by, through the end of the watchdog's time where it ends in them
abbrev pub ticks_by : {Call : Type 0} → (ticks : ℕ) → (left : Option ℕ) → List (Transition Call)
ticks_by ticks None = Happens (Tick ticks) ∷ []
ticks_by ticks (Some left) = Happens (Tick left) ∷ Resets Watchdog ∷ rest_of (ticks - left)

-- the ticks that the next step waits for
abbrev pub wait_of : {Frame : Type 0} → (Frame → Move) → List (Under Frame) → Chip → ℕ
wait_of move_of [] chip = 0
wait_of move_of (u ∷ us) chip = stall_of chip (move_of u.frame)

-- what goes by in a wait: the watchdog's time may end in it, and then no frame is left that waits
abbrev pub wait_by : {Call : Type 0} → (ticks : ℕ) → (left : Option ℕ) → List (Transition Call)
wait_by zero left = []
wait_by (suc n) None = Happens (Tick (suc n)) ∷ []
wait_by (suc n) (Some left) = Happens (Tick left) ∷ Resets Watchdog ∷ []

-- how many frames a reset of the watchdog drops, where its time ends in ticks, or in a wait
abbrev pub dropped_by : (left : Option ℕ) → (frames : ℕ) → Option ℕ
dropped_by None frames = None
dropped_by (Some left) frames = Some frames

abbrev pub dropped_in : (ticks : ℕ) → (left : Option ℕ) → (frames : ℕ) → Option ℕ
dropped_in zero left frames = None
dropped_in (suc n) left frames = dropped_by left frames

-- no step was made, and as many devices hang there
abbrev pub IsBeside : {M Frame : Type 0} → (before after : LiveRun M Frame) → Type 0
IsBeside before after = (after.kept.steps ≡ before.kept.steps) × (after.devices ≡ before.devices)

-- words are given to come in on one of the serial units
abbrev pub is_gift : Order → Bool
is_gift (Miso u ws) = nat_lt u 2
is_gift order = false

-- something outside is set, or comes at once
abbrev pub is_setting : Order → Bool
is_setting (Level p v) = true
is_setting (Analog i v) = true
is_setting (Trigger i) = true
is_setting (SpiFault u) = true
is_setting order = false

-- it moves the hardware, in no time and with the devices as they are
abbrev pub is_outside : Order → Bool
is_outside (Fill c ws) = true
is_outside (Miso u ws) = nat_lt u 2
is_outside order = is_setting order

-- the cause that held something
abbrev pub held_by : {A : Type 0} → Result A Refusal → Option Held
held_by (Ok a) = None
held_by (Err (refusals.Held cause)) = Some cause
held_by (Err refusals.Spent) = None

-- The chip's times stay within their registers for the ticks that are left, and it has room for the words that may still come.
pub record IsCounted (chip : Chip) (left room : ℕ) : Type 0 where
  pub osc : chip.clock.osc + left < 2 ^ 64
  pub now : now_of chip + 16 * left < 2 ^ 64
  pub words : (u : ℕ) → u < 2 → room ≤ room_on chip u

-- What is so of a driver on the chip at all times: there is a legal run at whose end it stands, with no more steps than were counted.
pub record IsLive {State Call Frame : Type 0} (d : Driver State Call Frame) (chip : Chip) (kept : Kept Frame) (left room devices : ℕ) : Type 0 where
  pub fits : d.fits
  pub first : Chip
  pub deeds : List (Transition Call)
  pub stands : Stands d first chip kept.frames deeds
  pub steps : (after_all d.setting (start_moment d.setting first) deeds).steps ≤ kept.steps
  pub counted : IsCounted chip left room
  pub hung : chip.devices ≡ devices
