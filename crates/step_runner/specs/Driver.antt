-- What a driver is to the runner, and the laws that it owes.
use Rattle.std.specs.Prelude.{◌≡◌, ℕ, ◌+◌, ◌<◌, ◌≤◌, Bool, true, false, ◌&&◌, ◌||◌, List, [], ◌∷◌, Option, Some, None, is_some}
use Rattle.chip_model.specs.Chip.{Chip, value_of, stall_of, chip_after, expiry_of, happened, reset_chip, is_masked, is_pending}
use Rattle.mcal_base.specs.Bits.{has_bit}
use Rattle.mcal_base.specs.Reach.{CanApply}
use Rattle.mcal_base.specs.declared.answer.Answer.{Answer}
use Rattle.mcal_base.specs.declared.directive.Order.{Order}
use Rattle.mcal_base.specs.declared.directive.Order.TheVariants as orders
use Rattle.mcal_base.specs.declared.directive.Reason.{Reason}
use Rattle.mcal_base.specs.declared.directive.Reason.TheVariants.{PowerOn}
use Rattle.mcal_base.specs.declared.moves.Move.{Move}
use Rattle.mcal_base.specs.declared.moves.Move.TheVariants.{Read, Write, Load, Store, Mask, Unmask, Note, Report}
use Rattle.mcal_base.specs.declared.moves.Unit as units
use Rattle.mcal_base.specs.declared.register.Reg.TheVariants.{EnableSet, WatchdogLoad}
use Rattle.mcal_base.specs.declared.routine.Taken.{Taken}
use Rattle.run_model.specs.declared.class.Tag.{Tag}
use Rattle.run_model.specs.declared.item.Stepped.{Stepped}
use Rattle.run_model.specs.World.{World, world_after}
use Rattle.run_model.specs.Machine.{Happening, Acts, Moves, Restarts, Outcome, ErrorLeaves}
use Rattle.run_model.specs.Frame.{Origin, Called, Entered, Open, opened, is_act, state_after, open_after, report_by, outcome_at, begun_by, top_after, is_shared, is_wait, resets_chip, asks_reset}
use Rattle.run_model.specs.Causes.{may_reenter, none_above, all_below}
use Rattle.run_model.specs.Moment.{Setting, is_busy, Moment, call_tag, line_tag}
use Rattle.run_model.specs.Outside.{StandsIn}
use Rattle.run_model.specs.Legal.{ReceivedRight, SendsRight, EventRight, WindowRight, is_beside_act, HalvesRight, halves_of, ErrorsRight, MoveRight, ShowsRight, EndRight, StartsRight, WritesRight}

-- A driver: its machine with the bounds of its frames, its frames, and how the chip and the open frames stand for the machine's state.
pub record Driver (State Call Frame : Type 0) : Type 1 where
  -- what the driver's value has to be, and what its calls have to be
  pub fits : Type 0
  pub can_call : Call → Type 0
  pub setting : Setting State Call
  pub frame_of : Call → Frame
  pub handler_of : ℕ → Option Frame
  -- what the configuration has wired to the chip, as far as the driver rests on it
  pub wired : Chip → Type 0
  -- the chip and the open frames, the newest first, stand for a state
  pub relates : Chip → World → List (Frame × Open Call) → State → Type 0
  -- the steps that a frame has left at most, and the moves of the window that it is in, or begins next
  pub fuel : Frame → ℕ
  pub room : Frame → ℕ
  -- the lines of its units, whether an object uses them or not
  pub lines : ℕ → Bool
  -- whether it has the watchdog
  pub watches : Bool
  -- how many numbers it has given out, at most one a step
  pub count : State → ℕ
  -- whether a move names anything of a frame's module, so that another module's would disturb it
  pub owns : Origin Call → Move → Bool

-- fewer steps than the engine counts
abbrev pub most_steps : ℕ
most_steps = 4294967295

-- the watchdog's time, where it runs, isn't over
abbrev pub NotOver : (left : Option ℕ) → Type 0
NotOver None = Unit {0}
NotOver (Some left) = 0 < left

-- ticks end before the watchdog's time does
abbrev pub EndsBefore : Order → (left : Option ℕ) → Type 0
EndsBefore (orders.Tick n) None = Unit {0}
EndsBefore (orders.Tick n) (Some left) = n < left
EndsBefore _ left = Unit {0}

-- no frame of these holds the mask closed
abbrev pub AllOutside : {Frame Call : Type 0} → List (Frame × Open Call) → Type 0
AllOutside [] = Unit {0}
AllOutside (p ∷ ps) = (p.1.inside ≡ false) × AllOutside ps

abbrev pub tags_in : {Frame Call : Type 0} → List (Frame × Open Call) → List Tag
tags_in [] = []
tags_in (p ∷ ps) = p.1.tag ∷ tags_in ps

abbrev pub origins_in : {Frame Call : Type 0} → List (Frame × Open Call) → List (Origin Call)
origins_in [] = []
origins_in (p ∷ ps) = p.1.origin ∷ origins_in ps

-- ticks don't pass the end of the watchdog's time, where it runs
abbrev pub TicksFit : ℕ → Option ℕ → Type 0
TicksFit n None = Unit {0}
TicksFit n (Some left) = n ≤ left

-- a fill comes with the mask open, to one of the 16 arrays, and one that is there isn't busy; ticks come while the machine allows them
abbrev pub IsFree : {State Call : Type 0} → Setting State Call → (masked : Bool) → World → State → List (Origin Call) → Order → Type 0
IsFree g masked w s origins (orders.Fill c ws) = (masked || (g.fills c && is_busy g w s origins c) ≡ false) × (c < 16)
IsFree g masked w s origins (orders.Tick n) = TicksFit n (g.machine.expires w s)
IsFree g masked w s origins _ = Unit {0}

-- a step, by its move and what was taken of it
abbrev pub stepped : Move → (value received : ℕ) → Taken → Stepped
stepped made value received taken = record { made = made; value = value; received = received; event = taken.event; ended = taken.ended }

-- a step may come so: its move waits for no word, and the word that comes in with it is right
abbrev pub ComesRight : Chip → World → Move → (received : ℕ) → Type 0
ComesRight chip w made received = (stall_of chip made ≡ 0) × ReceivedRight chip w made received

-- a frame that goes on has fewer steps left, and one that ends had one
abbrev pub FuelRight : ℕ → ℕ → Option Answer → Type 0
FuelRight before later None = later < before
FuelRight before later (Some a) = 1 ≤ before

-- a window that is closed has room for its moves, each move in it takes one, and its opening is one
abbrev pub RoomRight : (bound : ℕ) → (inside : Bool) → (before later : ℕ) → Move → Type 0
RoomRight bound inside before later Mask = 1 + later ≤ bound
RoomRight bound inside before later Unmask = 1 ≤ before
RoomRight bound inside before later (Read r) = inside ≡ true → later < before
RoomRight bound inside before later (Write r v) = inside ≡ true → later < before
RoomRight bound inside before later (Load k) = inside ≡ true → later < before
RoomRight bound inside before later (Store k v) = inside ≡ true → later < before
RoomRight bound inside before later (Note n) = inside ≡ true → later < before
RoomRight bound inside before later (Report e) = inside ≡ true → later < before

-- what a driver owes of a step of the top frame: it is right by each point that the frame answers for, and the relation stands after it
pub record KeepsStep {State Call Frame : Type 0} (d : Driver State Call Frame) (m : Moment State Call) (f : Frame) (o : Open Call) (later : Frame) (s : Stepped) (Kept : State → Open Call → Type 0) : Type 0 where
  pub event : EventRight d.setting m o s s.event
  pub sends : SendsRight m.chip (begun_by (outcome_at d.setting.machine m.world m.state o s.made s.received s.event)) s.made
  pub halves : let o1 = open_after d.setting.machine m.world m.state o s.made s.received s.event in HalvesRight (halves_of d.setting o.origin) o1.reads o1.acted_at
  pub together : WindowRight (is_beside_act d.setting.machine o.origin) o.inside o.since (o.acts_since || is_act s.event) s.made
  pub errors : let o1 = open_after d.setting.machine m.world m.state o s.made s.received s.event in ErrorsRight o1.wrote o1.acted_at
  pub move : MoveRight o.inside o.owed (report_by d.setting.machine o.origin o.report s.event (outcome_at d.setting.machine m.world m.state o s.made s.received s.event)) s.made
  pub shows : ShowsRight d.setting m.chip m.state o.origin o.owed s.made
  pub ends : EndRight (open_after d.setting.machine m.world m.state o s.made s.received s.event) s.ended
  pub starts : StartsRight d.setting.machine m.world (state_after d.setting.machine m.world m.state o s.made s.received s.event) (open_after d.setting.machine m.world m.state o s.made s.received s.event) s.ended
  pub writes : WritesRight d.setting (open_after d.setting.machine m.world m.state o s.made s.received s.event) s.ended
  pub own : is_shared s.made || d.setting.may o.origin s.made ≡ true
  pub reset : resets_chip s.made ≡ asks_reset d.setting.machine o.origin s.event (outcome_at d.setting.machine m.world m.state o s.made s.received s.event)
  pub stays : resets_chip s.made ≡ true → s.ended ≡ None
  pub fuel : FuelRight (d.fuel f) (d.fuel later) s.ended
  pub room : RoomRight (d.setting.window_of o.origin) o.inside (d.room f) (d.room later) s.made
  pub kept : Kept (state_after d.setting.machine m.world m.state o s.made s.received s.event) (open_after d.setting.machine m.world m.state o s.made s.received s.event)

-- The laws of a driver whose frames make these moves, and become and give this by what those give.
pub record IsLawful {State Call Frame : Type 0} (d : Driver State Call Frame) (move_of : Frame → Move) (left : Frame → ℕ → Frame) (gave : Frame → ℕ → Taken) : Type 0 where
  -- the relation stands after power on, whatever is outside
  pub starts : (chip : Chip) (w : World) → d.wired chip → StandsIn chip w → d.relates (reset_chip chip PowerOn) w [] d.setting.first
  -- a call that begins with the mask open, above no frame of a higher level, where reentry allows it, keeps it
  pub begins : (chip : Chip) (w : World) (ps : List (Frame × Open Call)) (s : State) (c : Call) (level : ℕ) → d.can_call c → is_masked chip ≡ false → AllOutside ps → may_reenter (d.setting.class_of c) (tags_in ps) ≡ true → none_above (tags_in ps) level ≡ true → d.relates chip w ps s → d.relates chip w ((d.frame_of c, opened (Called c) (call_tag d.setting c level)) ∷ ps) s
  -- a handler of a pending line that begins with the mask open, above frames of lower levels, keeps it
  pub enters : (chip : Chip) (w : World) (ps : List (Frame × Open Call)) (s : State) (line : ℕ) (f : Frame) → d.handler_of line ≡ Some f → is_masked chip ≡ false → is_pending chip line ≡ true → AllOutside ps → all_below (tags_in ps) (d.setting.level_of line) ≡ true → d.relates chip w ps s → d.relates chip w ((f, opened (Entered line) (line_tag d.setting line)) ∷ ps) s
  -- a step of the top frame that waits for no word is right, whatever word may come in at it, while the numbers fit a word, and keeps it
  pub steps : (chip : Chip) (w : World) (f : Frame) (o : Open Call) (ps : List (Frame × Open Call)) (s : State) (received : ℕ) → ComesRight chip w (move_of f) received → d.count s < most_steps → is_masked chip ≡ o.inside → AllOutside ps → d.relates chip w ((f, o) ∷ ps) s → let made = move_of f in let value = value_of chip made in let taken = gave f value in KeepsStep d (record { chip = chip; world = w; state = s; opens = []; steps = 0 }) f o (left f value) (stepped made value received taken) (λ s1 o1. d.relates (chip_after chip made received) w (top_after (left f value, o1) taken.ended ps) s1)
  -- the register or the word of its move is there
  pub there : (chip : Chip) (w : World) (f : Frame) (o : Open Call) (ps : List (Frame × Open Call)) (s : State) → d.relates chip w ((f, o) ∷ ps) s → CanApply (move_of f)
  -- and it is one that the frame may make
  pub own : (chip : Chip) (w : World) (f : Frame) (o : Open Call) (ps : List (Frame × Open Call)) (s : State) → d.relates chip w ((f, o) ∷ ps) s → is_shared (move_of f) || d.setting.may o.origin (move_of f) ≡ true
  -- a frame waits for a word with the mask open
  pub opens : (chip : Chip) (w : World) (f : Frame) (o : Open Call) (ps : List (Frame × Open Call)) (s : State) → d.relates chip w ((f, o) ∷ ps) s → is_wait (move_of f) ≡ true → o.inside ≡ false
  -- a frame has steps left, and while it is in a window moves of that
  pub lasts : (f : Frame) → 0 < d.fuel f
  pub roomy : (chip : Chip) (w : World) (f : Frame) (o : Open Call) (ps : List (Frame × Open Call)) (s : State) → d.relates chip w ((f, o) ∷ ps) s → o.inside ≡ true → 0 < d.room f
  -- the hardware may move where it is free to, and keeps it, at whatever rate; with the mask open no frame holds it closed
  pub moves : (chip : Chip) (w : World) (ps : List (Frame × Open Call)) (s : State) (order : Order) → IsFree d.setting (is_masked chip) w s (origins_in ps) order → (is_masked chip ≡ false → AllOutside ps) → d.relates chip w ps s → (out : Outcome State) × (d.setting.machine.happens w s (Moves order) ≡ Some out) × d.relates (happened chip order) (world_after w chip.clock.rate order) ps out.state
  -- a reset may always come, and leaves the state of a start
  pub resets : (chip : Chip) (w : World) (ps : List (Frame × Open Call)) (s : State) (reason : Reason) → d.relates chip w ps s → (out : Outcome State) × (d.setting.machine.happens w s (Restarts reason) ≡ Some out) × d.relates (reset_chip chip reason) w [] out.state
  -- a move that names nothing of the module's keeps it, while none of the module's frames holds the mask closed
  pub undisturbed : (chip : Chip) (w : World) (ps : List (Frame × Open Call)) (s : State) (made : Move) (received : ℕ) → ((origin : Origin Call) → d.owns origin made ≡ false) → AllOutside ps → d.relates chip w ps s → d.relates (chip_after chip made received) w ps s
  -- what a frame may do names what is its module's own
  pub may_owns : (origin : Origin Call) (made : Move) → d.setting.may origin made ≡ true → d.owns origin made ≡ true
  -- what is a module's own is a register or a word
  pub owns_plain : (origin : Origin Call) (made : Move) → d.owns origin made ≡ true → is_shared made ≡ false
  -- what a handler owns some call owns
  pub owns_called : (line : ℕ) (made : Move) → d.owns (Entered line) made ≡ true → (c : Call) × (d.owns (Called c) made ≡ true)
  -- no frame enables a line that isn't one of the modules' lines
  pub enables : (origin : Origin Call) (bits line : ℕ) → d.setting.may origin (Write EnableSet bits) ≡ true → d.lines line ≡ false → has_bit bits line ≡ false
  -- a line that an object uses is one of the modules' lines
  pub used_lines : (line : ℕ) → d.setting.used line ≡ true → d.lines line ≡ true
  -- where no frame holds the mask closed, a line that no object uses isn't due
  pub due_used : (chip : Chip) (w : World) (ps : List (Frame × Open Call)) (s : State) (line : ℕ) → AllOutside ps → d.relates chip w ps s → d.setting.machine.due w s line ≡ true → d.setting.used line ≡ true
  -- with the mask open each line that is due is pending
  pub due : (chip : Chip) (w : World) (ps : List (Frame × Open Call)) (s : State) (line : ℕ) → is_masked chip ≡ false → AllOutside ps → d.relates chip w ps s → d.setting.machine.due w s line ≡ true → is_pending chip line ≡ true
  -- and no line of its own is that no object uses
  pub unused : (chip : Chip) (w : World) (ps : List (Frame × Open Call)) (s : State) (line : ℕ) → is_masked chip ≡ false → AllOutside ps → d.relates chip w ps s → d.lines line ≡ true → d.setting.used line ≡ false → is_pending chip line ≡ false
  -- with no frame each line of its own, used or not, is pending exactly where it is due
  pub rests : (chip : Chip) (w : World) (s : State) (line : ℕ) → d.lines line ≡ true → d.relates chip w [] s → is_pending chip line ≡ d.setting.machine.due w s line
  -- wherever the mask is open, the outputs are the machine's that are so at every time
  pub unmasked : (chip : Chip) (w : World) (ps : List (Frame × Open Call)) (s : State) → is_masked chip ≡ false → AllOutside ps → d.relates chip w ps s → d.setting.unmasked chip w s (origins_in ps)
  -- with no frame the rest is the machine's too
  pub rest : (chip : Chip) (w : World) (s : State) → d.relates chip w [] s → d.setting.rest chip w s
  -- with no frame no unit waits for a start
  pub waits : (chip : Chip) (w : World) (s : State) (u : units.Unit) → d.relates chip w [] s → d.setting.machine.startable w s u ≡ false
  -- an act that finds an error leaves the state as it was, and gives no notice
  pub error_leaves : (w : World) (s : State) (c : Call) (times : ℕ → ℕ) (out : Outcome State) → d.setting.machine.happens w s (Acts c times) ≡ Some out → ErrorLeaves s out
  -- none are given out at first, at most one by what happens, and none by the hardware and by a reset
  pub count_first : d.count d.setting.first ≡ 0
  pub count_happens : (w : World) (s : State) (h : Happening Call) (out : Outcome State) → d.setting.machine.happens w s h ≡ Some out → d.count out.state ≤ d.count s + 1
  pub count_moves : (w : World) (s : State) (order : Order) (out : Outcome State) → d.setting.machine.happens w s (Moves order) ≡ Some out → d.count out.state ≤ d.count s
  pub count_resets : (w : World) (s : State) (reason : Reason) (out : Outcome State) → d.setting.machine.happens w s (Restarts reason) ≡ Some out → d.count out.state ≤ d.count s
  -- the rate of the chip is the machine's after power on, and wherever it was
  pub rate_starts : d.setting.machine.rate d.setting.first ≡ 1
  pub rate : (chip : Chip) (w : World) (f : Frame) (o : Open Call) (ps : List (Frame × Open Call)) (s : State) (received : ℕ) → ComesRight chip w (move_of f) received → d.count s < most_steps → is_masked chip ≡ o.inside → AllOutside ps → d.relates chip w ((f, o) ∷ ps) s → chip.clock.rate ≡ d.setting.machine.rate s → (chip_after chip (move_of f) received).clock.rate ≡ d.setting.machine.rate (state_after d.setting.machine w s o (move_of f) received (gave f (value_of chip (move_of f))).event)
  pub rate_moves : (w : World) (s : State) (order : Order) (out : Outcome State) → d.setting.machine.happens w s (Moves order) ≡ Some out → d.setting.machine.rate out.state ≡ d.setting.machine.rate s
  pub rate_resets : (chip : Chip) (w : World) (s : State) (reason : Reason) (out : Outcome State) → d.setting.machine.happens w s (Restarts reason) ≡ Some out → (reset_chip chip reason).clock.rate ≡ d.setting.machine.rate out.state
  -- no frame loads the watchdog but of a driver that has it; the time that runs then is the chip's, and else none does
  pub loads : (origin : Origin Call) (value : ℕ) → d.setting.may origin (Write WatchdogLoad value) ≡ true → d.watches ≡ true
  pub expiry : (chip : Chip) (w : World) (ps : List (Frame × Open Call)) (s : State) → d.watches ≡ true → chip.clock.osc ≡ w.osc → d.relates chip w ps s → d.setting.machine.expires w s ≡ expiry_of chip
  pub unwatched : (w : World) (s : State) → d.watches ≡ false → d.setting.machine.expires w s ≡ None
  -- a handler is there exactly where a configured object uses the line
  pub handled : (line : ℕ) → is_some (d.handler_of line) ≡ d.setting.used line
  -- a frame begins with no more steps than its bound
  pub call_fuel : (c : Call) → d.can_call c → d.fuel (d.frame_of c) ≤ d.setting.steps_of (Called c)
  pub line_fuel : (line : ℕ) (f : Frame) → d.handler_of line ≡ Some f → d.fuel f ≤ d.setting.steps_of (Entered line)
