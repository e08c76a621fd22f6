-- What the parts of a run are to its journal, while a directive is obeyed.
use Rattle.std.specs.Prelude.{◌≡◌, ℕ, zero, suc, ◌+◌, ◌-◌, ◌*◌, ◌^◌, ◌<◌, ◌≤◌, Bool, true, false, nat_le, nat_lt, cond, List, [], ◌∷◌, ◌++◌, length, Option, Some, None}
use Rattle.chip_model.specs.Chip.{Chip, now_of, incoming_at, chip_after, happened, is_masked, reset_chip, wait_on}
use Rattle.mcal_base.specs.declared.directive.Directive.{Directive}
use Rattle.mcal_base.specs.declared.directive.Order.{Order}
use Rattle.mcal_base.specs.declared.directive.Order.TheVariants as orders
use Rattle.mcal_base.specs.declared.directive.Reason.TheVariants.{Watchdog, Software}
use Rattle.mcal_base.specs.declared.directive.Request.{Request}
use Rattle.mcal_base.specs.declared.moves.Move.{Move}
use Rattle.irq_control.specs.declared.held.Held.{Held}
use Rattle.run_model.specs.declared.item.Stepped.{Stepped}
use Rattle.run_model.specs.declared.stop_condition.StopCondition.{StopCondition}
use Rattle.run_model.specs.declared.stop_condition.StopCondition.TheVariants.{Count, Until, Whole}
use Rattle.run_model.specs.Entry.{Entry, Begins, Stays, Steps, Happens, Resets, Written, written, words_of_answer}
use Rattle.run_model.specs.Follows.{GoesOn, Gives, MayWait, deeds_in, ends_within}
use Rattle.run_model.proofs.Following.{Readies}
use Rattle.run_model.specs.Stops.{GivesToStop, steps_in}
use Rattle.run_model.specs.Devices.{AllCalls}
use Rattle.run_model.specs.Moment as moment
use Rattle.run_model.specs.Moment.{Setting, Moment, Transition, start_moment, after_all}
use Rattle.run_model.specs.Frame as frame
use Rattle.run_model.specs.Script.{deeds_of, beginnings_of}
use Rattle.serial_devices.specs.Lines.{Line}
use Rattle.step_runner.specs.Driver.{Driver}
use Rattle.step_runner.specs.Kept.{Kept, IsStill, total_fuel, upcoming_of}
use Rattle.step_runner.specs.Stands.{Stands}
use Rattle.step_runner.specs.declared.stack.Under.{Under}
use Rattle.script_runner.specs.Busy.{busies}

-- the moment after the items of a journal, from power on with this chip
abbrev pub moment_of : {State Call Frame : Type 0} → Driver State Call Frame → (first : Chip) → (Request → Call) → List Directive → List Entry → Moment State Call
moment_of d first call_of script entries = after_all d.setting (start_moment d.setting first) (deeds_of call_of script entries)

-- the chip and the frames stand for the items of a journal
abbrev pub IsStanding : {State Call Frame : Type 0} → Driver State Call Frame → (first : Chip) → (Request → Call) → List Directive → Chip → List (Under Frame) → List Entry → Type 0
IsStanding d first call_of script chip us entries = Stands d first chip us (deeds_of call_of script entries)

-- The journal has room for the steps that may still be taken, each with its wait, for so many other items, and for the words of an
-- answer. A wait ends a word in transfer, and each of those comes from a step that waited for none; so two steps have three items.
pub record HasRoom (most taken : ℕ) (others : ℕ) (chip : Chip) (w : Written) : Type 0 where
  pub steps : taken ≤ most
  pub items : 2 * length w.entries + 3 * (most - taken) + busies chip + 2 * others ≤ 2 * w.room
  pub words : length w.words + 64 ≤ w.words_room
  -- as many steps were taken as the journal has
  pub counted : steps_in w.entries ≡ taken

-- the times stay within their registers through a directive: a wait is 8 ticks at most, and there is one before each step at most
pub record HasTime (most taken : ℕ) (chip : Chip) : Type 0 where
  pub osc : chip.clock.osc + 8 * (most - taken) + 1000008 < 2 ^ 64
  pub now : now_of chip + 128 * (most - taken) + 16000128 < 2 ^ 64

-- as many steps were counted as items that are steps were added
abbrev pub IsCounted : (taken : ℕ) → Written → (taken1 : ℕ) → Written → Type 0
IsCounted taken before taken1 after = steps_in after.entries + taken ≡ steps_in before.entries + taken1

-- Items were added, and the room is as it was: at most so many beside the steps and their waits, and the words of one answer.
pub record IsFilled (most taken : ℕ) (chip : Chip) (before : Written) (others : ℕ) (taken1 : ℕ) (chip1 : Chip) (after : Written) : Type 0 where
  pub steps : taken1 ≤ most
  pub counted : IsCounted taken before taken1 after
  pub room : after.room ≡ before.room
  pub words_room : after.words_room ≡ before.words_room
  pub items : 2 * length after.entries + 3 * (most - taken1) + busies chip1 ≤ 2 * length before.entries + 3 * (most - taken) + busies chip + 2 * others
  pub words : length after.words ≤ length before.words + 64

-- the steps that were taken, and those that the frames have left at most
abbrev pub work_of : {State Call Frame : Type 0} → Driver State Call Frame → Kept Frame → ℕ
work_of d k = k.steps + total_fuel d.fuel k.frames

-- the words that an order brings: to come in on a serial unit, or to fill an array
abbrev pub words_by : Order → ℕ
words_by (orders.Miso u ws) = length ws
words_by (orders.Fill c ws) = length ws
words_by _ = 0

-- for how many more words that come in a serial unit has room
abbrev pub room_on : Chip → (u : ℕ) → ℕ
room_on chip u = (incoming_at chip u).room

-- there is room for the words that an order gives
abbrev pub GivenFits : Order → Chip → Type 0
GivenFits order chip = (u : ℕ) → u < 2 → words_by order ≤ room_on chip u

-- so many waits went by at most, and no word was given to come in
pub record NearTime (waits : ℕ) (before after : Chip) : Type 0 where
  pub osc : after.clock.osc ≤ before.clock.osc + 8 * waits
  pub now : now_of after ≤ now_of before + 128 * waits
  pub room : (u : ℕ) → room_on after u ≡ room_on before u

-- Items were added to a journal, for which the chip and the frames stand.
pub record Adds {State Call Frame : Type 0} (d : Driver State Call Frame) (first : Chip) (call_of : Request → Call) (script : List Directive) (order : Order) (before after : Written) (chip1 : Chip) (us1 : List (Under Frame)) (Right : Moment State Call → List Entry → Type 0) : Type 0 where
  pub items : List Entry
  pub is : after.entries ≡ before.entries ++ items
  pub right : Right (moment_of d first call_of script before.entries) items
  pub leads : after_all d.setting (moment_of d first call_of script before.entries) (deeds_in call_of order items) ≡ moment_of d first call_of script after.entries
  pub stands : IsStanding d first call_of script chip1 us1 after.entries

-- What items that were added to a journal made of the devices.
pub record Called {State Call Frame : Type 0} (d : Driver State Call Frame) (first : Chip) (call_of : Request → Call) (script : List Directive) (before after : List Entry) (old new : List Line) : Type 0 where
  pub items : List Entry
  pub is : after ≡ before ++ items
  pub calls : AllCalls d.setting (moment_of d first call_of script before) (deeds_of call_of script items) old new

-- the time that is left for the watchdog, where it ends within so many ticks
abbrev pub left_within : ℕ → (left : Option ℕ) → Option ℕ
left_within n None = None
left_within n (Some left) = cond (nat_le left n) (Some left) None

-- Ticks went by in which the watchdog's time didn't end: one item.
pub record Ticked {State Call Frame : Type 0} (d : Driver State Call Frame) (first : Chip) (call_of : Request → Call) (script : List Directive) (line n : ℕ) (chip : Chip) (us : List (Under Frame)) (before : Written) (chip1 : Chip) (after : Written) : Type 0 where
  pub written : after ≡ written before line (length us) (Happens (orders.Tick n)) []
  pub chip_is : chip1 ≡ happened chip (orders.Tick n)
  pub leads : moment_of d first call_of script after.entries ≡ moment.after d.setting (moment_of d first call_of script before.entries) (moment.Happens (orders.Tick n))
  pub stands : IsStanding d first call_of script chip1 us after.entries

-- The watchdog's time ended with so many ticks: they, and its reset, which dropped every frame.
pub record RanDown {State Call Frame : Type 0} (d : Driver State Call Frame) (first : Chip) (call_of : Request → Call) (script : List Directive) (line n : ℕ) (chip : Chip) (k : Kept Frame) (before : Written) (chip1 : Chip) (k1 : Kept Frame) (after : Written) : Type 0 where
  pub is : after.entries ≡ before.entries ++ (record { line = line; depth = length k.frames; said = Happens (orders.Tick n) }) ∷ (record { line = line; depth = length k.frames; said = Resets Watchdog (length k.frames) }) ∷ []
  pub words : after.words ≡ before.words
  pub room : after.room ≡ before.room
  pub words_room : after.words_room ≡ before.words_room
  pub chip_is : chip1 ≡ reset_chip (happened chip (orders.Tick n)) Watchdog
  pub frames : k1 ≡ record k { frames = [] }
  pub leads : moment_of d first call_of script after.entries ≡ after_all d.setting (moment_of d first call_of script before.entries) (moment.Happens (orders.Tick n) ∷ moment.Resets Watchdog ∷ [])
  pub stands : IsStanding d first call_of script chip1 k1.frames after.entries

-- The top frame waited for a word, where its next step reads of one in transfer; now that step may be made.
pub record Waited {State Call Frame : Type 0} (d : Driver State Call Frame) (first : Chip) (call_of : Request → Call) (script : List Directive) (move_of : Frame → Move) (line : ℕ) (chip : Chip) (us : List (Under Frame)) (before : Written) (chip1 : Chip) (after : Written) : Type 0 where
  pub waits : List Entry
  pub is : after.entries ≡ before.entries ++ waits
  pub ready : (s : Stepped) → upcoming_of move_of us ≡ Some s.made → Readies d.setting line (moment_of d first call_of script before.entries) s waits (moment_of d first call_of script after.entries)
  pub still : IsStill move_of us chip1
  pub stands : IsStanding d first call_of script chip1 us after.entries
  pub room : after.room ≡ before.room
  pub words_room : after.words_room ≡ before.words_room
  pub words : after.words ≡ before.words
  pub counted : steps_in after.entries ≡ steps_in before.entries
  pub devices : chip1.devices ≡ chip.devices
  pub few : 2 * length after.entries ≤ 2 * length before.entries + 1 + busies chip
  -- with the step there is one item, or there are two and one word in transfer fewer
  pub items : (made : Move) (received : ℕ) → upcoming_of move_of us ≡ Some made → 2 * length after.entries + busies (chip_after chip1 made received) ≤ 2 * length before.entries + busies chip + 1
  pub time : NearTime 1 chip chip1

-- In the wait of the top frame for a word the watchdog's time ended: two items, and the step isn't made.
pub record RanOut {State Call Frame : Type 0} (d : Driver State Call Frame) (first : Chip) (call_of : Request → Call) (script : List Directive) (line : ℕ) (chip : Chip) (k : Kept Frame) (before : Written) (chip1 : Chip) (k1 : Kept Frame) (after : Written) : Type 0 where
  pub unit : ℕ
  pub left : ℕ
  pub busy : 0 < wait_on (moment_of d first call_of script before.entries).chip unit
  pub unmasked : is_masked (moment_of d first call_of script before.entries).chip ≡ false
  pub may : MayWait d.setting (moment_of d first call_of script before.entries).opens unit
  pub expires : let m = moment_of d first call_of script before.entries in d.setting.machine.expires m.world m.state ≡ Some left
  pub late : ends_within (wait_on (moment_of d first call_of script before.entries).chip unit) (Some left) ≡ true
  pub down : RanDown d first call_of script line left chip k before chip1 k1 after
  pub time : NearTime 1 chip chip1

-- What a step adds: its item, after its wait.
pub record TookStep {State Call Frame : Type 0} (d : Driver State Call Frame) (first : Chip) (call_of : Request → Call) (script : List Directive) (most : ℕ) (line : ℕ) (chip : Chip) (k : Kept Frame) (before : Written) (s : Stepped) (chip1 : Chip) (k1 : Kept Frame) (after : Written) : Type 0 where
  pub waits : List Entry
  -- the moment in which the step is made
  pub at : Moment State Call
  pub is : after.entries ≡ before.entries ++ (waits ++ (record { line = line; depth = length at.opens; said = Steps s }) ∷ [])
  pub ready : Readies d.setting line (moment_of d first call_of script before.entries) s waits at
  pub leads : moment_of d first call_of script after.entries ≡ moment.after d.setting at (moment.Steps s)
  pub stands : IsStanding d first call_of script chip1 k1.frames after.entries
  pub steps : k1.steps ≡ k.steps + 1
  pub few : k.steps < most
  pub goes : s.ended ≡ None → 0 < length k1.frames
  pub words : after.words ≡ before.words ++ words_of_answer s.ended
  pub short : length (words_of_answer s.ended) ≤ 64
  pub room : after.room ≡ before.room
  pub words_room : after.words_room ≡ before.words_room
  pub counted : steps_in after.entries ≡ steps_in before.entries + 1
  pub items : 2 * length after.entries + busies chip1 ≤ 2 * length before.entries + busies chip + 3
  pub time : NearTime 1 chip chip1
  pub spent : work_of d k1 ≤ work_of d k

-- What the steps of a directive add.
pub record WentFar {State Call Frame : Type 0} (d : Driver State Call Frame) (first : Chip) (call_of : Request → Call) (script : List Directive) (most : ℕ) (line : ℕ) (reach : StopCondition) (chip : Chip) (k : Kept Frame) (before : Written) (chip1 : Chip) (k1 : Kept Frame) (after : Written) : Type 0 where
  pub adds : (order : Order) → Adds d first call_of script order before after chip1 k1.frames (λ m items. GoesOn d.setting line reach 0 m items)
  pub filled : IsFilled most k.steps chip before 2 k1.steps chip1 after
  pub more : k.steps ≤ k1.steps
  pub time : NearTime (k1.steps - k.steps + 1) chip chip1
  pub spent : work_of d k1 ≤ work_of d k

-- the most steps of a frame that begins by a deed
abbrev pub bound_of : {State Call : Type 0} → Setting State Call → Transition Call → ℕ
bound_of g (moment.Begins c level) = g.steps_of (frame.Called c)
bound_of g (moment.Enters l) = g.steps_of (frame.Entered l)
bound_of g (moment.Steps s) = 0
bound_of g (moment.Happens o) = 0
bound_of g (moment.Resets r) = 0

abbrev pub bounds_of : {State Call : Type 0} → Setting State Call → List (Transition Call) → ℕ
bounds_of g [] = 0
bounds_of g (h ∷ hs) = bound_of g h + bounds_of g hs

-- A call, or the handler of a line, began: one item, and the frame is there.
pub record Began {State Call Frame : Type 0} (d : Driver State Call Frame) (first : Chip) (call_of : Request → Call) (script : List Directive) (line : ℕ) (deed : Transition Call) (held : Option Held) (chip : Chip) (k : Kept Frame) (before : Written) (k1 : Kept Frame) (after : Written) : Type 0 where
  pub written : after ≡ written before line (length k.frames) Begins []
  pub free : held ≡ None
  pub leads : moment_of d first call_of script after.entries ≡ moment.after d.setting (moment_of d first call_of script before.entries) deed
  pub stands : IsStanding d first call_of script chip k1.frames after.entries
  pub steps : k1.steps ≡ k.steps
  pub counted : steps_in after.entries ≡ steps_in before.entries
  pub frame : 0 < length k1.frames
  pub spent : work_of d k1 ≤ work_of d k + bound_of d.setting deed

-- It was held: one item, with its cause, and nothing else.
pub record StayedOff {State Call Frame : Type 0} (d : Driver State Call Frame) (first : Chip) (call_of : Request → Call) (script : List Directive) (line : ℕ) (held : Option Held) (chip : Chip) (k : Kept Frame) (before : Written) (k1 : Kept Frame) (after : Written) : Type 0 where
  pub cause : Held
  pub written : after ≡ written before line (length k.frames) (Stays cause) []
  pub because : held ≡ Some cause
  pub spent : work_of d k1 ≤ work_of d k
  pub stands : IsStanding d first call_of script chip k1.frames after.entries
  pub steps : k1.steps ≡ k.steps

-- What a directive adds, which are the items that are right for it.
pub record ObeyedBy {State Call Frame : Type 0} (d : Driver State Call Frame) (first : Chip) (call_of : Request → Call) (script : List Directive) (most : ℕ) (order : Order) (chip : Chip) (k : Kept Frame) (before : Written) (chip1 : Chip) (k1 : Kept Frame) (after : Written) (Right : Moment State Call → List Entry → Type 0) : Type 0 where
  pub adds : Adds d first call_of script order before after chip1 k1.frames Right
  pub filled : IsFilled most k.steps chip before 3 k1.steps chip1 after
  pub more : k.steps ≤ k1.steps
  pub osc : chip1.clock.osc ≤ chip.clock.osc + 8 * (k1.steps - k.steps) + 1000008
  pub now : now_of chip1 ≤ now_of chip + 128 * (k1.steps - k.steps) + 16000128
  pub given : (u : ℕ) → room_on chip u ≤ room_on chip1 u + words_by order
  pub spent : work_of d k1 ≤ work_of d k + bounds_of d.setting (beginnings_of call_of (Some order))

abbrev pub Obeyed : {State Call Frame : Type 0} → Driver State Call Frame → (first : Chip) → (Request → Call) → List Directive → (most line : ℕ) → Order → Chip → Kept Frame → Written → Chip → Kept Frame → Written → Type 0
Obeyed d first call_of script most line order chip k before chip1 k1 after = ObeyedBy d first call_of script most order chip k before chip1 k1 after (λ m items. Gives d.setting call_of m line order items)

-- to run no steps at all
abbrev pub makes_no_step : StopCondition → Bool
makes_no_step (Count zero) = true
makes_no_step (Count (suc n)) = false
makes_no_step (Until stop) = false
makes_no_step Whole = false

-- a directive that is obeyed
abbrev pub is_built : Order → Bool
is_built (orders.Tick n) = nat_le n 1000000
is_built (orders.Miso u ws) = nat_lt u 2
-- a script asks for no software reset
is_built (orders.Reset Software) = false
is_built _ = true

-- the channel whose source array an order fills, where it fills one
abbrev pub filled_by : Order → Option ℕ
filled_by (orders.Fill c ws) = Some c
filled_by order = None

-- a directive that moves the hardware unless something holds it: a fill of an array, or the drop of a device
abbrev pub may_be_held : Order → Bool
may_be_held (orders.Fill c ws) = true
may_be_held orders.Detach = true
may_be_held order = false

-- a directive that moves the hardware, and takes no time
abbrev pub is_hardware : Order → Bool
is_hardware (orders.Level p v) = true
is_hardware (orders.Analog i v) = true
is_hardware (orders.Trigger i) = true
is_hardware (orders.Miso u ws) = true
is_hardware (orders.SpiFault u) = true
is_hardware orders.Detach = true
is_hardware (orders.Fill c ws) = true
is_hardware _ = false

-- As many steps were taken as may be, and the directive wants one more: the items up to there are right, the run so far is legal, and the steps that were taken, with those that the frames had left and so many more, pass the most.
pub record IsStuck {State Call Frame : Type 0} (d : Driver State Call Frame) (first : Chip) (call_of : Request → Call) (script : List Directive) (most more : ℕ) (k : Kept Frame) (before : Written) (chip1 : Chip) (k1 : Kept Frame) (after : Written) (Right : Moment State Call → List Entry → Type 0) : Type 0 where
  pub items : List Entry
  pub is : after.entries ≡ before.entries ++ items
  pub right : Right (moment_of d first call_of script before.entries) items
  pub stands : IsStanding d first call_of script chip1 k1.frames after.entries
  pub steps : k1.steps ≡ most
  pub counted : IsCounted k.steps before k1.steps after
  pub room : after.room ≡ before.room
  pub wants : most < work_of d k + more

abbrev pub Stuck : {State Call Frame : Type 0} → Driver State Call Frame → (first : Chip) → (Request → Call) → List Directive → (most line : ℕ) → Order → Kept Frame → Written → Chip → Kept Frame → Written → Type 0
Stuck d first call_of script most line order k before chip1 k1 after = IsStuck d first call_of script most (bounds_of d.setting (beginnings_of call_of (Some order))) k before chip1 k1 after (λ m items. GivesToStop d.setting call_of m line order items)
