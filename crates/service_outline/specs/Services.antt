-- What a driver of services is whose frames may go on with the mask open, and what it owes. A frame that waits holds
-- what it needs; the words and registers agree with the state and with what the frames under way hold.
use Rattle.std.specs.Prelude.{◌≡◌, ℕ, ◌+◌, ◌<◌, ◌≤◌, nat_lt, Bool, true, false, ◌||◌, ◌⊎◌, List, [], ◌∷◌, map, Option, Some, None, is_some}
use Rattle.std.specs.List.{list_any}
use Rattle.chip_model.specs.Chip.{Chip, value_of, chip_after, expiry_of, happened, reset_chip, is_masked, is_pending}
use Rattle.mcal_base.specs.Bits.{has_bit}
use Rattle.mcal_base.specs.Reach.{CanApply}
use Rattle.mcal_base.specs.declared.answer.Answer.{Answer}
use Rattle.mcal_base.specs.declared.directive.Order.{Order}
use Rattle.mcal_base.specs.declared.directive.Reason.{Reason}
use Rattle.mcal_base.specs.declared.directive.Reason.TheVariants.{PowerOn}
use Rattle.mcal_base.specs.declared.moves.Event.{Event}
use Rattle.mcal_base.specs.declared.moves.Event.TheVariants.{Act}
use Rattle.mcal_base.specs.declared.moves.Move.{Move}
use Rattle.mcal_base.specs.declared.moves.Move.TheVariants.{Read, Write, Load, Store, Mask, Unmask, Note, Report}
use Rattle.mcal_base.specs.declared.moves.Unit as units
use Rattle.mcal_base.specs.declared.notice.Notice.{Notice}
use Rattle.mcal_base.specs.declared.register.Reg.TheVariants.{EnableSet, WatchdogLoad}
use Rattle.run_model.specs.declared.class.Class.{Class}
use Rattle.run_model.specs.declared.class.Tag.{Tag}
use Rattle.run_model.specs.Causes.{blocks}
use Rattle.run_model.specs.World.{World, world_after}
use Rattle.run_model.specs.Machine.{Happening, Acts, Moves, Restarts, Told, Begun, Outcome, Machine, ErrorLeaves, tells_nothing, outcome, outcome_with}
use Rattle.run_model.specs.Frame.{Origin, Called, Entered, Owing, Open, owing, brought_by, happening_of, happening_at, outcome_of, state_by, polled_by, served_by, missed_after, writes_after, is_shared, resets_chip, begins_word, asks_reset}
use Rattle.run_model.specs.Moment.{Setting, call_tag, line_tag}
use Rattle.run_model.specs.Legal.{MayEnd, LeavesNone, StandsAt, SendsRight, AllMade, MadeUnless, HasMade}
use Rattle.run_model.specs.Outside.{StandsIn}
use Rattle.step_runner.specs.Driver.{Driver, IsFree, most_steps, ComesRight}
use Rattle.service_outline.specs.declared.done.Done.{Done}
use Rattle.service_outline.specs.declared.done.BodyTaken.{BodyTaken}
use Rattle.service_outline.specs.declared.done.Epilogue.{Epilogue}
use Rattle.service_outline.specs.declared.done.Epilogue.TheVariants.{Nothing, Error, One, Two}
use Rattle.service_outline.specs.declared.body.Looked.{Looked}
use Rattle.service_outline.specs.declared.body.Looked.TheVariants.{Refused, Goes}
use Rattle.service_outline.specs.declared.short.Short.{Short}
use Rattle.service_outline.specs.declared.short.Short.TheVariants.{Calling, Loading, Entering, Inside, Opening, Telling, Returning}
use Rattle.service_outline.specs.Short.{ended_by}
use Rattle.service_outline.specs.Acts.{Cleans, ActsRight, IsFresh, Behaves, LeavesRight}
use Rattle.service_outline.specs.Fuel.{short_fuel, short_room, Shortens}
use Rattle.service_outline.specs.Outline.{Refinement, TellsAs, owes_nothing, notices_in, error_in}
use Rattle.service_outline.specs.FrameHistory.{FrameHistory, fresh_history, having, AreMissed, past_wrote, past_after, MayDo, MayAnswer}
use Rattle.service_outline.specs.WindowHistory.{WindowHistory, IsSeen, MayOpen, Starts, SeesTo}

-- ---- what is held

-- what a frame under way holds while others run above it, with the frame's origin and the answer of its act
pub record ReservedBy (Call Reservation : Type 0) : Type 0 where
  pub by : Origin Call
  pub what : Reservation
  pub acted : Option Answer

-- what a frame of this origin holds that acted so, above what is held below it
abbrev pub with_holds : {Call Reservation : Type 0} → Origin Call → Option Answer → List Reservation → List (ReservedBy Call Reservation) → List (ReservedBy Call Reservation)
with_holds origin acted [] below = below
with_holds origin acted (h ∷ hs) below = record { by = origin; what = h; acted = acted } ∷ with_holds origin acted hs below

-- whose these are
abbrev pub owners : {Call Reservation : Type 0} → List (ReservedBy Call Reservation) → List (Origin Call)
owners held = map (λ h. h.by) held

-- the tag of a frame of this origin, at whatever level
abbrev pub mark_of : {State Call : Type 0} → Setting State Call → Origin Call → Tag
mark_of g (Called c) = call_tag g c 0
mark_of g (Entered l) = line_tag g l

-- none of those that hold these keeps a call of this class off
abbrev pub AllLet : {State Call Reservation : Type 0} → Setting State Call → Class → List (ReservedBy Call Reservation) → Type 0
AllLet g c [] = Unit {0}
AllLet g c (h ∷ hs) = (blocks c (mark_of g h.by) ≡ false) × AllLet g c hs

-- the handlers among those that hold these are of lower levels
abbrev pub IsLower : {State Call : Type 0} → Setting State Call → (level : ℕ) → Origin Call → Type 0
IsLower g level (Called c) = Unit {0}
IsLower g level (Entered l) = nat_lt (g.level_of l) level ≡ true

abbrev pub AllLower : {State Call Reservation : Type 0} → Setting State Call → (level : ℕ) → List (ReservedBy Call Reservation) → Type 0
AllLower g level [] = Unit {0}
AllLower g level (h ∷ hs) = IsLower g level h.by × AllLower g level hs

-- a frame of this origin may run above these: a handler above no other one of its line
abbrev pub Beside : {State Call Reservation : Type 0} → Setting State Call → Origin Call → List (ReservedBy Call Reservation) → Type 0
Beside g (Called c) hs = AllLet g (g.class_of c) hs
Beside g (Entered l) hs = AllLower g (g.level_of l) hs

-- ---- what a driver gives

-- what all bodies of a driver stand on: the machine with its bounds, and how words and registers agree with its state
pub record SharedRefinement (State Call : Type 0) : Type 1 where
  pub setting : Setting State Call
  -- what the configuration has wired to the chip, as far as the driver rests on it
  pub wired : Chip → Type 0
  -- the lines of its units, and whether a move names anything of a frame's module
  pub lines : ℕ → Bool
  pub owns : Origin Call → Move → Bool
  -- whether it has the watchdog
  pub watches : Bool
  -- how many numbers a state has given out, at most one a step
  pub count : State → ℕ
  -- what the hardware makes of a state
  pub later : World → State → Order → State
  -- what the top frame may have under work, and nothing
  pub Lag : Type 0
  pub settled : Lag
  -- what a frame may hold while others run above it
  pub Reservation : Type 0
  -- the words and registers agree with the state and with what is held, but for what is under work
  pub represents : List (ReservedBy Call Reservation) → Lag → Chip → World → State → Type 0
  -- what the places of bodies may rest on, of the chip
  pub Footprint : Type 0
  pub foot : Chip → Footprint

-- what short bodies stand on above these
abbrev pub over : {State Call : Type 0} (g : SharedRefinement State Call) → List (ReservedBy Call g.Reservation) → Refinement State Call
over g below = record { setting = g.setting; wired = g.wired; lines = g.lines; owns = g.owns; watches = g.watches; count = g.count; later = g.later; Lag = g.Lag; settled = g.settled; represents = g.represents below; Footprint = g.Footprint; foot = g.foot }

-- the move names nothing of the driver's
abbrev pub Elsewhere : {State Call : Type 0} → SharedRefinement State Call → Move → Type 0
Elsewhere {State} {Call} g made = (origin : Origin Call) → g.owns origin made ≡ false

-- the hardware is free to move so, by the frames under way; what is so of none of them is so of none that holds anything
pub record MayCome {State Call Reservation : Type 0} (g : Setting State Call) (held : List (ReservedBy Call Reservation)) (chip : Chip) (w : World) (s : State) (order : Order) : Type 0 where
  pub frames : List (Origin Call)
  pub free : IsFree g (is_masked chip) w s frames order
  pub among : (p : Origin Call → Bool) → list_any p frames ≡ false → list_any p (owners held) ≡ false

-- how the chip's rate stays the machine's: what a frame may do leaves the one, and what happens the other; or, for the
-- driver of the clock, they agree
pub data Rates {State Call : Type 0} (g : SharedRefinement State Call) : Type 0 where
  Steady : ((chip : Chip) (origin : Origin Call) (made : Move) (received : ℕ) → g.setting.may origin made ≡ true → (chip_after chip made received).clock.rate ≡ chip.clock.rate) → ((w : World) (s : State) (h : Happening Call) (out : Outcome State) → g.setting.machine.happens w s h ≡ Some out → g.setting.machine.rate out.state ≡ g.setting.machine.rate s) → Rates g
  Agreed : ((held : List (ReservedBy Call g.Reservation)) (gap : g.Lag) (chip : Chip) (w : World) (s : State) → g.represents held gap chip w s → chip.clock.rate ≡ g.setting.machine.rate s) → Rates g

-- what a driver owes of its basis, once
pub record IsBasis {State Call : Type 0} (g : SharedRefinement State Call) : Type 0 where
  pub starts : (chip : Chip) (w : World) → g.wired chip → StandsIn chip w → g.represents [] g.settled (reset_chip chip PowerOn) w g.setting.first
  pub moves : (held : List (ReservedBy Call g.Reservation)) (chip : Chip) (w : World) (s : State) (order : Order) → MayCome g.setting held chip w s order → g.setting.machine.happens w s (Moves order) ≡ Some (outcome (g.later w s order) tells_nothing)
  pub resets : (held : List (ReservedBy Call g.Reservation)) (gap : g.Lag) (chip : Chip) (w : World) (s : State) (reason : Reason) → g.represents held gap chip w s → (out : Outcome State) × (g.setting.machine.happens w s (Restarts reason) ≡ Some out) × g.represents [] g.settled (reset_chip chip reason) w out.state
  -- with the mask open nothing is under work
  pub agrees_later : (held : List (ReservedBy Call g.Reservation)) (gap : g.Lag) (chip : Chip) (w : World) (s : State) (order : Order) → MayCome g.setting held chip w s order → (is_masked chip ≡ false → gap ≡ g.settled) → g.represents held gap chip w s → g.represents held gap (happened chip order) (world_after w chip.clock.rate order) (g.later w s order)
  -- another module's frame moves while nothing is under work
  pub agrees_apart : (held : List (ReservedBy Call g.Reservation)) (chip : Chip) (w : World) (s : State) (made : Move) (received : ℕ) → Elsewhere g made → g.represents held g.settled chip w s → g.represents held g.settled (chip_after chip made received) w s
  -- what a frame may do names what is the driver's own, and that is a register or a word, which is there
  pub may_owns : (origin : Origin Call) (made : Move) → g.setting.may origin made ≡ true → g.owns origin made ≡ true
  pub owns_plain : (origin : Origin Call) (made : Move) → g.owns origin made ≡ true → is_shared made ≡ false
  pub may_there : (origin : Origin Call) (made : Move) → g.setting.may origin made ≡ true → CanApply made
  -- no frame enables a line that isn't one of the driver's
  pub enables : (origin : Origin Call) (bits line : ℕ) → g.setting.may origin (Write EnableSet bits) ≡ true → g.lines line ≡ false → has_bit bits line ≡ false
  -- no frame loads the watchdog but of a driver that has it; the time that runs then is the chip's, and else none does
  pub loads : (origin : Origin Call) (value : ℕ) → g.setting.may origin (Write WatchdogLoad value) ≡ true → g.watches ≡ true
  pub watched : (held : List (ReservedBy Call g.Reservation)) (gap : g.Lag) (chip : Chip) (w : World) (s : State) → g.watches ≡ true → chip.clock.osc ≡ w.osc → g.represents held gap chip w s → g.setting.machine.expires w s ≡ expiry_of chip
  pub unwatched : (w : World) (s : State) → g.watches ≡ false → g.setting.machine.expires w s ≡ None
  -- what a handler owns some call owns
  pub owns_called : (line : ℕ) (made : Move) → g.owns (Entered line) made ≡ true → (c : Call) × (g.owns (Called c) made ≡ true)
  -- a line that an object uses is one of the modules' lines, and one that no object uses is not due
  pub used_lines : (line : ℕ) → g.setting.used line ≡ true → g.lines line ≡ true
  pub due_used : (held : List (ReservedBy Call g.Reservation)) (chip : Chip) (w : World) (s : State) (line : ℕ) → g.represents held g.settled chip w s → g.setting.machine.due w s line ≡ true → g.setting.used line ≡ true
  -- each line, used or not, is pending where it is due, whatever is held, and at rest nowhere else; and at rest no unit waits for a start
  pub pends : (held : List (ReservedBy Call g.Reservation)) (chip : Chip) (w : World) (s : State) (line : ℕ) → g.lines line ≡ true → g.represents held g.settled chip w s → g.setting.machine.due w s line ≡ true → is_pending chip line ≡ true
  pub rests : (chip : Chip) (w : World) (s : State) (line : ℕ) → g.lines line ≡ true → g.represents [] g.settled chip w s → is_pending chip line ≡ g.setting.machine.due w s line
  -- and with nothing under work no line is that no object uses
  pub unused : (held : List (ReservedBy Call g.Reservation)) (chip : Chip) (w : World) (s : State) (line : ℕ) → g.lines line ≡ true → g.represents held g.settled chip w s → g.setting.used line ≡ false → is_pending chip line ≡ false
  -- and the outputs that are so at every time are the machine's; what is so of no frame under way is so of none that holds anything
  pub unmasked : (held : List (ReservedBy Call g.Reservation)) (chip : Chip) (w : World) (s : State) (origins : List (Origin Call)) → ((p : Origin Call → Bool) → list_any p origins ≡ false → list_any p (owners held) ≡ false) → g.represents held g.settled chip w s → g.setting.unmasked chip w s origins
  -- and at rest the rest is the machine's too
  pub rest : (chip : Chip) (w : World) (s : State) → g.represents [] g.settled chip w s → g.setting.rest chip w s
  pub waits : (chip : Chip) (w : World) (s : State) (u : units.Unit) → g.represents [] g.settled chip w s → g.setting.machine.startable w s u ≡ false
  -- an act that finds an error leaves the state as it was, and gives no notice
  pub error_leaves : (w : World) (s : State) (c : Call) (times : ℕ → ℕ) (out : Outcome State) → g.setting.machine.happens w s (Acts c times) ≡ Some out → ErrorLeaves s out
  -- none are given out at first, at most one by what happens, and none by the hardware and by a reset
  pub count_first : g.count g.setting.first ≡ 0
  pub count_happens : (w : World) (s : State) (h : Happening Call) (out : Outcome State) → g.setting.machine.happens w s h ≡ Some out → g.count out.state ≤ g.count s + 1
  pub count_moves : (w : World) (s : State) (order : Order) (out : Outcome State) → g.setting.machine.happens w s (Moves order) ≡ Some out → g.count out.state ≤ g.count s
  pub count_resets : (w : World) (s : State) (reason : Reason) (out : Outcome State) → g.setting.machine.happens w s (Restarts reason) ≡ Some out → g.count out.state ≤ g.count s
  pub rated : Rates g
  pub rate_starts : g.setting.machine.rate g.setting.first ≡ 1
  pub rate_moves : (w : World) (s : State) (order : Order) (out : Outcome State) → g.setting.machine.happens w s (Moves order) ≡ Some out → g.setting.machine.rate out.state ≡ g.setting.machine.rate s
  pub rate_resets : (chip : Chip) (w : World) (s : State) (reason : Reason) (out : Outcome State) → g.setting.machine.happens w s (Restarts reason) ≡ Some out → (reset_chip chip reason).clock.rate ≡ g.setting.machine.rate out.state

-- how a frame stands at a place of a body. In a window: what is under work, what it holds, and what holds there. With
-- the mask open: what it holds, and what is known of the frame itself, since it rests on what it holds alone. Where it looks
-- whether a line is ready, in a window, it may count the line as missed
pub data PointAssertion {State Call : Type 0} (g : SharedRefinement State Call) : Type 1 where
  Within : g.Lag → List g.Reservation → (List (ReservedBy Call g.Reservation) → g.Footprint → World → State → Origin Call → FrameHistory → Type 0) → PointAssertion g
  Outside : List g.Reservation → (List (ReservedBy Call g.Reservation) → Origin Call → FrameHistory → Type 0) → PointAssertion g
  Looking : g.Lag → List g.Reservation → (List (ReservedBy Call g.Reservation) → g.Footprint → World → State → Origin Call → FrameHistory → Type 0) → PointAssertion g

abbrev pub is_closed : {State Call : Type 0} {g : SharedRefinement State Call} → PointAssertion g → Bool
is_closed (Within gap hs place) = true
is_closed (Outside hs place) = false
is_closed (Looking gap hs place) = true

abbrev pub holds_at : {State Call : Type 0} {g : SharedRefinement State Call} → PointAssertion g → List g.Reservation
holds_at (Within gap hs place) = hs
holds_at (Outside hs place) = hs
holds_at (Looking gap hs place) = hs

abbrev pub gap_at : {State Call : Type 0} {g : SharedRefinement State Call} → PointAssertion g → g.Lag
gap_at (Within gap hs place) = gap
gap_at {g = g} (Outside hs place) = g.settled
gap_at (Looking gap hs place) = gap

abbrev pub place_at : {State Call : Type 0} {g : SharedRefinement State Call} → PointAssertion g → List (ReservedBy Call g.Reservation) → g.Footprint → World → State → Origin Call → FrameHistory → Type 0
place_at (Within gap hs place) below f w s origin past = place below f w s origin past
place_at (Outside hs place) below f w s origin past = place below origin past
place_at (Looking gap hs place) below f w s origin past = place below f w s origin past

-- bodies that may open and close the mask themselves: their places, and how a frame stands at each
pub record LongBodies {State Call : Type 0} (g : SharedRefinement State Call) (Body : Type 0) : Type 1 where
  pub work_of : Body → Move
  pub takes : Body → ℕ → Body × BodyTaken
  -- the steps that it has left, at most
  pub fuel : Body → ℕ
  -- the moves of the window that it is in, at most, but for its first and last one
  pub room : Body → ℕ
  -- it has read no register and written nothing on the way there
  pub clean : Body → Bool
  -- how the frame stands before a step
  pub assertion : Body → PointAssertion g

-- the words and registers agree, and what has to hold at the place holds, above what is held below
abbrev pub AssertedAt : {State Call Body : Type 0} (g : SharedRefinement State Call) → LongBodies g Body → List (ReservedBy Call g.Reservation) → Chip → World → State → Body → Origin Call → FrameHistory → Type 0
AssertedAt g b below chip w s k origin past = g.represents (with_holds origin past.acted (holds_at (b.assertion k)) below) (gap_at (b.assertion k)) chip w s × place_at (b.assertion k) below (g.foot chip) w s origin past

-- a driver of services
pub record Services (State Call Asked Body : Type 0) : Type 1 where
  pub basis : SharedRefinement State Call
  pub bodies : LongBodies basis Body
  -- what a frame has surely done since it last closed or opened the mask, at a place of a body
  pub seen : Body → WindowHistory
  -- which writes a frame of a call has surely made since it began, at a place of a body
  pub written : Body → Call → List Move → Type 0
  -- what the driver's value, and a call, have to be
  pub fits : Type 0
  pub can : Call → Type 0
  -- its state word, and what that decides for a call, as the frame has it
  pub word : ℕ
  pub asked : Call → Asked
  pub looked : Asked → ℕ → Looked Body
  -- the steps of a call's body, and the moves of its first window, at most
  pub most : Asked → ℕ
  pub wide : Asked → ℕ
  -- the body of the handler of a line
  pub body_of : ℕ → Option Body

-- ---- what holds of frames

-- a call's frame has made the writes that its place tells
abbrev pub HasWritten : {State Call Asked Body : Type 0} → Services State Call Asked Body → Body → Origin Call → List Move → Type 0
HasWritten d k (Called c) writes = d.written k c writes
HasWritten d k (Entered l) writes = Unit {0}

-- a call before its body
pub record IsCalling {State Call Asked Body : Type 0} (d : Services State Call Asked Body) (a : Asked) (o : Open Call) (closed : Bool) : Type 0 where
  pub call : Call
  pub asks : a ≡ d.asked call
  pub form : o ≡ having o (Called call) fresh_history closed
  pub fresh : IsFresh o
  pub can : d.can call

-- a body that may be entered wherever the words and registers agree, above whatever is held by frames that it may run above
pub record CanBegin {State Call Asked Body : Type 0} (d : Services State Call Asked Body) (k : Body) (origin : Origin Call) : Type 0 where
  pub at : (below : List (ReservedBy Call d.basis.Reservation)) (chip : Chip) (w : World) (s : State) → Beside d.basis.setting origin below → d.basis.represents below d.basis.settled chip w s → AssertedAt d.basis d.bodies below chip w s k origin fresh_history
  pub closed : is_closed (d.bodies.assertion k) ≡ true
  pub unseen : Starts (d.seen k)
  pub room : 2 + d.bodies.room k ≤ d.basis.setting.window_of origin

pub record IsEntering {State Call Asked Body : Type 0} (d : Services State Call Asked Body) (k : Body) (o : Open Call) : Type 0 where
  pub form : o ≡ having o o.origin fresh_history false
  pub fresh : IsFresh o
  pub written : HasWritten d k o.origin o.writes
  pub can : CanBegin d k o.origin

-- a frame in its body
pub record IsInside {State Call Asked Body : Type 0} (d : Services State Call Asked Body) (below : List (ReservedBy Call d.basis.Reservation)) (chip : Chip) (w : World) (s : State) (k : Body) (o : Open Call) : Type 0 where
  pub past : FrameHistory
  pub form : o ≡ having o o.origin past (is_closed (d.bodies.assertion k))
  pub behaves : Behaves d.basis.setting (d.bodies.clean k) o
  pub window : IsSeen (d.seen k) o.since o.acts_since
  pub written : HasWritten d k o.origin o.writes
  pub missed : AreMissed past.missed o.missed
  pub at : AssertedAt d.basis d.bodies below chip w s k o.origin past

-- a frame in its body, with the mask open. It rests on what it holds alone
pub record IsOutside {State Call Asked Body : Type 0} (d : Services State Call Asked Body) (below : List (ReservedBy Call d.basis.Reservation)) (k : Body) (o : Open Call) : Type 0 where
  pub past : FrameHistory
  pub form : o ≡ having o o.origin past (is_closed (d.bodies.assertion k))
  pub behaves : Behaves d.basis.setting (d.bodies.clean k) o
  pub window : IsSeen (d.seen k) o.since o.acts_since
  pub written : HasWritten d k o.origin o.writes
  pub missed : AreMissed past.missed o.missed
  pub opened : is_closed (d.bodies.assertion k) ≡ false
  pub place : (f : d.basis.Footprint) (w : World) (s : State) → place_at (d.bodies.assertion k) below f w s o.origin past

-- a frame of this origin shows what its notices have to, wherever the words and registers agree
abbrev pub Shown : {State Call : Type 0} → SharedRefinement State Call → Origin Call → Notice → Type 0
Shown {State} {Call} g origin n = (held : List (ReservedBy Call g.Reservation)) (chip : Chip) (w : World) (s : State) → g.represents held g.settled chip w s → g.setting.shows origin n chip s

abbrev pub AreShown : {State Call : Type 0} → SharedRefinement State Call → Origin Call → List Notice → Type 0
AreShown g origin [] = Unit {0}
AreShown g origin (n ∷ ns) = Shown g origin n × AreShown g origin ns

-- a frame with this past and these misses may end so, once it has told what it owes; what a serving owes is shown
pub record MayStop {State Call : Type 0} (g : SharedRefinement State Call) (origin : Origin Call) (p : FrameHistory) (missed : ℕ → Bool) (n : Done) : Type 0 where
  pub may : MayAnswer origin p missed n.answer
  pub served : Bool
  pub owed : p.owed ≡ owing served (notices_in n.owed)
  pub shown : served ≡ true → AreShown g origin (notices_in n.owed)
  pub report : p.report ≡ error_in n.owed

-- a frame leaves no unit waiting now, and none at any time where it has something to tell yet
abbrev pub Leaves : {State Call : Type 0} → Machine State Call → World → State → Origin Call → (polled served : List ℕ) → Epilogue → Type 0
Leaves mac w s origin polled served Nothing = LeavesNone mac w s origin polled served
Leaves {State} mac w s origin polled served (Error e) = (w1 : World) (s1 : State) → LeavesNone mac w1 s1 origin polled served
Leaves {State} mac w s origin polled served (One k) = (w1 : World) (s1 : State) → LeavesNone mac w1 s1 origin polled served
Leaves {State} mac w s origin polled served (Two k j) = (w1 : World) (s1 : State) → LeavesNone mac w1 s1 origin polled served

-- a frame whose work is done, and which owes the rest
pub record IsDone {State Call : Type 0} (g : SharedRefinement State Call) (o : Open Call) (n : Done) (closed : Bool) : Type 0 where
  pub may : MayEnd o.origin o n.answer
  pub served : Bool
  pub owed : o.owed ≡ owing served (notices_in n.owed)
  pub shown : served ≡ true → AreShown g o.origin (notices_in n.owed)
  pub report : o.report ≡ error_in n.owed
  pub leaves : LeavesRight g.setting o.origin o.reads o.wrote o.acted_at
  pub writes : HasMade g.setting o.origin o.writes o.acted_at
  pub idle : closed ≡ false → (w : World) (s : State) → LeavesNone g.setting.machine w s o.origin o.polled o.served
  pub inside : o.inside ≡ closed
  pub window : closed ≡ true → MayOpen o.since o.acts_since

-- what a frame holds, above what is held below it, and what all frames under way hold
abbrev pub holds_by : {State Call Asked Body : Type 0} (d : Services State Call Asked Body) → Short Asked Body → Open Call → List (ReservedBy Call d.basis.Reservation) → List (ReservedBy Call d.basis.Reservation)
holds_by d (Calling a) o below = below
holds_by d (Loading a) o below = below
holds_by d (Entering k) o below = below
holds_by d (Inside k) o below = with_holds o.origin o.acted (holds_at (d.bodies.assertion k)) below
holds_by d (Opening n) o below = below
holds_by d (Telling n) o below = below
holds_by d (Returning a) o below = below

abbrev pub holds_in : {State Call Asked Body : Type 0} (d : Services State Call Asked Body) → List (Short Asked Body × Open Call) → List (ReservedBy Call d.basis.Reservation)
holds_in d [] = []
holds_in d (p ∷ ps) = holds_by d p.0 p.1 (holds_in d ps)

-- a frame outside its window. It rests on what it holds alone
abbrev pub Waits : {State Call Asked Body : Type 0} (d : Services State Call Asked Body) → List (ReservedBy Call d.basis.Reservation) → Short Asked Body → Open Call → Type 0
Waits d below (Calling a) o = IsCalling d a o false
Waits d below (Loading a) o = ⊥
Waits d below (Entering k) o = IsEntering d k o
Waits d below (Inside k) o = IsOutside d below k o
Waits d below (Opening n) o = ⊥
Waits d below (Telling n) o = IsDone d.basis o n false
Waits d below (Returning a) o = IsDone d.basis o (owes_nothing a) false

-- a handler's tag has the level of its line
abbrev pub IsLeveled : {State Call : Type 0} → Setting State Call → Origin Call → Tag → Type 0
IsLeveled g (Called c) tag = Unit {0}
IsLeveled g (Entered l) tag = tag.level ≡ g.level_of l

-- a frame's tag keeps off what its origin does, and it may run above what is held
pub record IsOver {State Call Asked Body : Type 0} (d : Services State Call Asked Body) (origin : Origin Call) (tag : Tag) (below : List (ReservedBy Call d.basis.Reservation)) : Type 0 where
  pub tagged : (new : Class) → blocks new tag ≡ blocks new (mark_of d.basis.setting origin)
  pub leveled : IsLeveled d.basis.setting origin tag
  pub beside : Beside d.basis.setting origin below

abbrev pub AllWait : {State Call Asked Body : Type 0} → Services State Call Asked Body → List (Short Asked Body × Open Call) → Type 0
AllWait d [] = Unit {0}
AllWait d (p ∷ ps) = Waits d (holds_in d ps) p.0 p.1 × IsOver d p.1.origin p.1.tag (holds_in d ps) × AllWait d ps

-- the top frame, which may be in its window
abbrev pub IsTop : {State Call Asked Body : Type 0} (d : Services State Call Asked Body) → List (ReservedBy Call d.basis.Reservation) → Chip → World → State → Short Asked Body → Open Call → Type 0
IsTop d below chip w s (Calling a) o = d.basis.represents below d.basis.settled chip w s × IsCalling d a o false
IsTop d below chip w s (Loading a) o = d.basis.represents below d.basis.settled chip w s × IsCalling d a o true
IsTop d below chip w s (Entering k) o = d.basis.represents below d.basis.settled chip w s × IsEntering d k o
IsTop d below chip w s (Inside k) o = IsInside d below chip w s k o
IsTop d below chip w s (Opening n) o = d.basis.represents below d.basis.settled chip w s × IsDone d.basis o n true × Leaves d.basis.setting.machine w s o.origin o.polled o.served n.owed
IsTop d below chip w s (Telling n) o = d.basis.represents below d.basis.settled chip w s × IsDone d.basis o n false
IsTop d below chip w s (Returning a) o = d.basis.represents below d.basis.settled chip w s × IsDone d.basis o (owes_nothing a) false

abbrev pub Relates : {State Call Asked Body : Type 0} → Services State Call Asked Body → Chip → World → List (Short Asked Body × Open Call) → State → Type 0
Relates d chip w [] s = d.basis.represents [] d.basis.settled chip w s
Relates d chip w (p ∷ ps) s = IsTop d (holds_in d ps) chip w s p.0 p.1 × IsOver d p.1.origin p.1.tag (holds_in d ps) × AllWait d ps

abbrev pub entering : {Asked Body : Type 0} → Option Body → Option (Short Asked Body)
entering None = None
entering (Some k) = Some (Entering k)

-- what such a driver is to the runner
abbrev pub services_driver : {State Call Asked Body : Type 0} → Services State Call Asked Body → Driver State Call (Short Asked Body)
services_driver d = record {
  fits = d.fits;
  can_call = d.can;
  setting = d.basis.setting;
  frame_of = λ c. Calling (d.asked c);
  handler_of = λ l. entering (d.body_of l);
  wired = d.basis.wired;
  relates = Relates d;
  fuel = short_fuel d.most d.bodies.fuel;
  room = short_room d.wide d.bodies.room;
  lines = d.basis.lines;
  watches = d.basis.watches;
  owns = d.basis.owns;
  count = d.basis.count;
}

-- ---- what it owes

-- a refused call tells what the machine tells, which leaves its state
pub record Declines {State Call Asked Body : Type 0} (d : Services State Call Asked Body) (w : World) (s : State) (c : Call) (n : Done) : Type 0 where
  pub told : Told
  pub is : (times : ℕ → ℕ) → d.basis.setting.machine.happens w s (Acts c times) ≡ Some (outcome s told)
  pub tells : TellsAs d.basis.setting.machine (Called c) told n
  pub reset : asks_reset d.basis.setting.machine (Called c) (Some Act) (Some (outcome s told)) ≡ false
  pub polls : d.basis.setting.machine.polls w s c ≡ []

-- a call goes on with a body
pub record Proceeds {State Call Asked Body : Type 0} (d : Services State Call Asked Body) (below : List (ReservedBy Call d.basis.Reservation)) (chip : Chip) (w : World) (s : State) (c : Call) (k : Body) : Type 0 where
  pub at : AssertedAt d.basis d.bodies below chip w s k (Called c) fresh_history
  pub closed : is_closed (d.bodies.assertion k) ≡ true
  pub fuel : d.bodies.fuel k ≤ d.most (d.asked c)
  pub room : d.bodies.room k ≤ d.wide (d.asked c)

-- what a load of the state word has to decide
abbrev pub Decides : {State Call Asked Body : Type 0} (d : Services State Call Asked Body) → List (ReservedBy Call d.basis.Reservation) → Chip → World → State → Call → Looked Body → Type 0
Decides d below chip w s c (Refused n) = Declines d w s c n
Decides d below chip w s c (Goes k) = Proceeds d below chip w s c k

-- what stands after a body's step: its next place, or the agreement and what it may end with
abbrev pub Continues : {State Call Body : Type 0} (g : SharedRefinement State Call) → LongBodies g Body → List (ReservedBy Call g.Reservation) → Chip → World → State → Origin Call → FrameHistory → (ℕ → Bool) → Body → Option Done → Type 0
Continues g b below chip w s origin past missed k None = AssertedAt g b below chip w s k origin past
Continues g b below chip w s origin past missed k (Some n) = g.represents below g.settled chip w s × MayStop g origin past missed n

-- an event that the frame may have there: what the machine gives, and what stands after it
pub record Occurs {State Call : Type 0} (g : Setting State Call) (chip : Chip) (w : World) (s : State) (origin : Origin Call) (made : Move) (clean : Bool) (value received : ℕ) (past : FrameHistory) (e : Event) (left : Option Done) (Then : State → FrameHistory → Type 0) : Type 0 where
  pub may : MayDo g.machine w s past e origin
  pub stands : StandsAt e made value
  pub state : State
  pub told : Told
  pub begins : Option Begun
  pub is : outcome_of g.machine w s (happening_of origin (brought_by w past.committed made received) e) ≡ Some (outcome_with state told begins)
  pub sends : SendsRight chip begins made
  pub acts : ActsRight g origin e clean made told left
  pub reset : resets_chip made ≡ asks_reset g.machine origin (Some e) (Some (outcome_with state told begins))
  pub next : Then state (past_after g.machine w s origin e told (past_wrote w made past))

-- a step that names a register or a word; it was made at the first chip, and left the second
abbrev pub Works : {State Call Body : Type 0} (g : SharedRefinement State Call) → LongBodies g Body → List (ReservedBy Call g.Reservation) → Chip → Chip → World → State → Origin Call → Move → (clean : Bool) → (value received : ℕ) → FrameHistory → (ℕ → Bool) → Body → Option Event → Option Done → Type 0
Works g b below before chip w s origin made clean x y past missed k None left = Continues g b below chip w s origin (past_wrote w made past) missed k left
Works g b below before chip w s origin made clean x y past missed k (Some e) left = Occurs g.setting before w s origin made clean x y past e left (λ s1 past1. Continues g b below chip w s1 origin past1 missed k left)

-- a notice that is the next one that is owed, and shown where a serving owes it; the frame owes the others
pub record Notes {State Call Body : Type 0} (g : SharedRefinement State Call) (b : LongBodies g Body) (below : List (ReservedBy Call g.Reservation)) (chip : Chip) (w : World) (s : State) (origin : Origin Call) (n : Notice) (k : Body) (past : FrameHistory) : Type 0 where
  pub served : Bool
  pub others : List Owing
  pub is : past.owed ≡ record { notice = n; served = served } ∷ others
  pub shown : served ≡ true → g.setting.shows origin n chip s
  pub next : AssertedAt g b below chip w s k origin (record past { owed = others })

-- a body's step, by its move
abbrev pub Makes : {State Call Body : Type 0} (g : SharedRefinement State Call) → LongBodies g Body → List (ReservedBy Call g.Reservation) → Chip → Chip → World → State → Origin Call → Move → (clean : Bool) → (value received : ℕ) → FrameHistory → (ℕ → Bool) → Body → Option Event → Option Done → Type 0
Makes g b below before chip w s origin Mask clean x y past missed k e left = AssertedAt g b below chip w s k origin past
Makes g b below before chip w s origin Unmask clean x y past missed k e left = AssertedAt g b below chip w s k origin past
Makes g b below before chip w s origin (Note n) clean x y past missed k e left = Notes g b below chip w s origin n k past
Makes g b below before chip w s origin (Report r) clean x y past missed k e left = ⊥
Makes g b below before chip w s origin (Read r) clean x y past missed k e left = Works g b below before chip w s origin (Read r) clean x y past missed k e left
Makes g b below before chip w s origin (Write r v) clean x y past missed k e left = Works g b below before chip w s origin (Write r v) clean x y past missed k e left
Makes g b below before chip w s origin (Load n) clean x y past missed k e left = Works g b below before chip w s origin (Load n) clean x y past missed k e left
Makes g b below before chip w s origin (Store n v) clean x y past missed k e left = Works g b below before chip w s origin (Store n v) clean x y past missed k e left

-- a body's step, by what it makes of the body
abbrev pub MakesTo : {State Call Body : Type 0} (g : SharedRefinement State Call) → LongBodies g Body → List (ReservedBy Call g.Reservation) → Chip → Chip → World → State → Origin Call → Move → (clean : Bool) → (value received : ℕ) → FrameHistory → (ℕ → Bool) → Body × BodyTaken → Type 0
MakesTo g b below before chip w s origin made clean x y past missed p = Makes g b below before chip w s origin made clean x y past missed p.0 p.1.event p.1.done

-- where it looks, a frame may add to its past a line that isn't ready
abbrev pub Adding : {State Call : Type 0} {g : SharedRefinement State Call} → PointAssertion g → (ready : ℕ → Bool) → FrameHistory → (FrameHistory → Type 0) → Type 0
Adding (Within gap hs place) ready past Then = Then past
Adding (Outside hs place) ready past Then = Then past
Adding (Looking gap hs place) ready past Then = Then past ⊎ ((l : ℕ) × (ready l ≡ false) × Then (record past { missed = l ∷ past.missed }))

-- a body's step at a place
abbrev pub Right : {State Call Body : Type 0} (g : SharedRefinement State Call) → LongBodies g Body → List (ReservedBy Call g.Reservation) → Chip → World → State → Body → Origin Call → (received : ℕ) → FrameHistory → (ℕ → Bool) → Type 0
Right g b below chip w s k origin received past missed =
    Adding (b.assertion k) (g.setting.machine.ready w s) past (λ t. MakesTo g b below chip (chip_after chip (b.work_of k) received) w s origin (b.work_of k) (b.clean k) (value_of chip (b.work_of k)) received t (missed_after g.setting.machine w s missed) (b.takes k (value_of chip (b.work_of k))))

-- a move of a register or a word: in a window it leaves fewer moves, and a body ends in a window; outside no event stands
abbrev pub KeepsMask : (was is : Bool) → (room later : ℕ) → Option Event → Option Done → Type 0
KeepsMask true is room later e None = (is ≡ true) × (later < room)
KeepsMask true is room later e (Some n) = 1 ≤ room
KeepsMask false is room later None None = is ≡ false
KeepsMask false is room later None (Some n) = ⊥
KeepsMask false is room later (Some e) left = ⊥

-- how a step turns the mask, and the room of a window
abbrev pub TurnsMask : (bound : ℕ) → (was is : Bool) → (room later : ℕ) → Move → Option Event → Option Done → Type 0
TurnsMask bound was is room later Mask e left = (was ≡ false) × (is ≡ true) × (2 + later ≤ bound) × (e ≡ None) × (left ≡ None)
TurnsMask bound was is room later Unmask e left = (was ≡ true) × (is ≡ false) × (e ≡ None) × (left ≡ None)
TurnsMask bound was is room later (Note n) e left = (was ≡ false) × (is ≡ false) × (e ≡ None) × (left ≡ None)
TurnsMask bound was is room later (Report r) e left = ⊥
TurnsMask bound was is room later (Read r) e left = KeepsMask was is room later e left
TurnsMask bound was is room later (Write r v) e left = KeepsMask was is room later e left
TurnsMask bound was is room later (Load n) e left = KeepsMask was is room later e left
TurnsMask bound was is room later (Store n v) e left = KeepsMask was is room later e left

abbrev pub TurnsTo : {State Call Body : Type 0} {g : SharedRefinement State Call} → LongBodies g Body → ℕ → Body → Body × BodyTaken → Type 0
TurnsTo b bound k p = TurnsMask bound (is_closed (b.assertion k)) (is_closed (b.assertion p.0)) (b.room k) (b.room p.0) (b.work_of k) p.1.event p.1.done

-- a body's step, where this is the answer with which it ends its frame itself: it ends so at the opening of the mask alone, holds
-- nothing then, and owes nothing
abbrev pub RightOr : {State Call Body : Type 0} (g : SharedRefinement State Call) → LongBodies g Body → List (ReservedBy Call g.Reservation) → Chip → World → State → Body → Origin Call → (received : ℕ) → FrameHistory → (ℕ → Bool) → Option Answer → Type 0
RightOr g b below chip w s k origin received past missed None = Right g b below chip w s k origin received past missed
RightOr g b below chip w s k origin received past missed (Some a) = (b.work_of k ≡ Unmask) × g.represents below g.settled (chip_after chip Unmask received) w s × MayStop g origin past (missed_after g.setting.machine w s missed) (owes_nothing a)

-- what such a step ends its frame with, if it does
abbrev pub ended_at : {State Call Body : Type 0} {g : SharedRefinement State Call} → LongBodies g Body → (Body → Option Answer) → Body → ℕ → Option Answer
ended_at b ends_with k x = ended_by (ends_with (b.takes k x).0) (b.takes k x).1.done

-- what bodies owe, some of which may end their frame themselves, with these answers
pub record AreEnding {State Call Body : Type 0} (g : SharedRefinement State Call) (b : LongBodies g Body) (ends_with : Body → Option Answer) : Type 0 where
  -- a body's move is one that its frame may make
  pub own : (below : List (ReservedBy Call g.Reservation)) (chip : Chip) (w : World) (s : State) (k : Body) (origin : Origin Call) (past : FrameHistory) → AssertedAt g b below chip w s k origin past → is_shared (b.work_of k) || g.setting.may origin (b.work_of k) ≡ true
  pub turns : (below : List (ReservedBy Call g.Reservation)) (chip : Chip) (w : World) (s : State) (k : Body) (origin : Origin Call) (past : FrameHistory) → AssertedAt g b below chip w s k origin past → TurnsTo b (g.setting.window_of origin) k (b.takes k (value_of chip (b.work_of k)))
  pub steps : (below : List (ReservedBy Call g.Reservation)) (chip : Chip) (w : World) (s : State) (k : Body) (origin : Origin Call) (received : ℕ) (past : FrameHistory) (missed : ℕ → Bool) → ComesRight chip w (b.work_of k) received → g.count s < most_steps → AssertedAt g b below chip w s k origin past → RightOr g b below chip w s k origin received past missed (ended_at b ends_with k (value_of chip (b.work_of k)))
  pub later : (below : List (ReservedBy Call g.Reservation)) (chip : Chip) (w : World) (s : State) (order : Order) (k : Body) (origin : Origin Call) (past : FrameHistory) → MayCome g.setting (with_holds origin past.acted (holds_at (b.assertion k)) below) chip w s order → (is_masked chip ≡ false → is_closed (b.assertion k) ≡ false) → AssertedAt g b below chip w s k origin past → place_at (b.assertion k) below (g.foot (happened chip order)) (world_after w chip.clock.rate order) (g.later w s order) origin past
  -- a move at which no event stands resets nothing, and begins no serial word
  pub calm : (below : List (ReservedBy Call g.Reservation)) (chip : Chip) (w : World) (s : State) (k : Body) (origin : Origin Call) (past : FrameHistory) → AssertedAt g b below chip w s k origin past → (b.takes k (value_of chip (b.work_of k))).1.event ≡ None → (resets_chip (b.work_of k) ≡ false) × (begins_word (b.work_of k) ≡ false)
  pub shortens : (k : Body) (x : ℕ) → Shortens b.fuel k (b.takes k x)
  pub cleans : (k : Body) (x : ℕ) → Cleans b.clean (b.work_of k) k (b.takes k x)

-- where none does
abbrev pub AreLong : {State Call Body : Type 0} (g : SharedRefinement State Call) → LongBodies g Body → Type 0
AreLong g b = AreEnding g b (λ k. None)

-- a body goes on with these writes, or is done and has made those that its call owes
abbrev pub WritesOn : {State Call Asked Body : Type 0} → Services State Call Asked Body → Call → (writes : List Move) → Body → Option Done → Type 0
WritesOn d c writes k None = d.written k c writes
WritesOn d c writes k (Some n) = AllMade (d.basis.setting.must c) writes

-- what a driver owes of the writes that its calls owe
pub record MakesWrites {State Call Asked Body : Type 0} (d : Services State Call Asked Body) (ends_with : Body → Option Answer) : Type 0 where
  -- a call that goes on with its body has made none yet
  pub begins : (c : Call) (x : ℕ) (k : Body) → d.can c → d.looked (d.asked c) x ≡ Goes k → d.written k c []
  -- one that is refused owes none, or finds an error
  pub refuses : (below : List (ReservedBy Call d.basis.Reservation)) (chip : Chip) (w : World) (s : State) (c : Call) (n : Done) (told : Told) → d.can c → d.basis.represents below d.basis.settled chip w s → d.looked (d.asked c) (value_of chip (Load d.word)) ≡ Refused n → ((times : ℕ → ℕ) → d.basis.setting.machine.happens w s (Acts c times) ≡ Some (outcome s told)) → MadeUnless told.error (d.basis.setting.must c) []
  -- a step of a body adds its write
  pub steps : (below : List (ReservedBy Call d.basis.Reservation)) (chip : Chip) (w : World) (s : State) (k : Body) (c : Call) (past : FrameHistory) (writes : List Move) → AssertedAt d.basis d.bodies below chip w s k (Called c) past → d.written k c writes → let p = d.bodies.takes k (value_of chip (d.bodies.work_of k)) in WritesOn d c (writes_after writes (d.bodies.work_of k)) p.0 p.1.done
  -- and one that ends its frame itself has made all
  pub stops : (below : List (ReservedBy Call d.basis.Reservation)) (chip : Chip) (w : World) (s : State) (k : Body) (c : Call) (past : FrameHistory) (writes : List Move) (a : Answer) → AssertedAt d.basis d.bodies below chip w s k (Called c) past → d.written k c writes → ended_at d.bodies ends_with k (value_of chip (d.bodies.work_of k)) ≡ Some a → AllMade (d.basis.setting.must c) writes

-- what a driver owes of the units whose lines its frames serve
pub record MakesStarts {State Call Asked Body : Type 0} (d : Services State Call Asked Body) (ends_with : Body → Option Answer) : Type 0 where
  -- the hardware lets no unit wait
  pub later : (w : World) (s : State) (order : Order) (rate line : ℕ) → d.basis.setting.machine.line_waits w s line ≡ false → d.basis.setting.machine.line_waits (world_after w rate order) (d.basis.later w s order) line ≡ false
  -- a body that is done leaves none waiting, with its last event
  pub done : (below : List (ReservedBy Call d.basis.Reservation)) (chip : Chip) (w : World) (s : State) (k : Body) (origin : Origin Call) (received : ℕ) (past : FrameHistory) (n : Done) → AssertedAt d.basis d.bodies below chip w s k origin past → let p = d.bodies.takes k (value_of chip (d.bodies.work_of k)) in p.1.done ≡ Some n → let mac = d.basis.setting.machine in Leaves mac w (state_by s (outcome_of mac w s (happening_at origin (brought_by w past.committed (d.bodies.work_of k) received) p.1.event))) origin (polled_by mac w s origin past.polled p.1.event) (served_by past.served p.1.event) n.owed
  -- and so does one that ends its frame itself
  pub stops : (below : List (ReservedBy Call d.basis.Reservation)) (chip : Chip) (w : World) (s : State) (k : Body) (origin : Origin Call) (past : FrameHistory) (a : Answer) → AssertedAt d.basis d.bodies below chip w s k origin past → ended_at d.bodies ends_with k (value_of chip (d.bodies.work_of k)) ≡ Some a → LeavesNone d.basis.setting.machine w s origin past.polled past.served

-- what a driver owes, some of whose bodies may end their frame themselves, with these answers
pub record AreEndingServices {State Call Asked Body : Type 0} (d : Services State Call Asked Body) (ends_with : Body → Option Answer) : Type 0 where
  pub basis : IsBasis d.basis
  pub bodies : AreEnding d.basis d.bodies ends_with
  -- what a body's step owes of its window, in which a body that begins has done nothing
  pub windows : (below : List (ReservedBy Call d.basis.Reservation)) (chip : Chip) (w : World) (s : State) (k : Body) (origin : Origin Call) (past : FrameHistory) → AssertedAt d.basis d.bodies below chip w s k origin past → SeesTo d.seen (is_closed (d.bodies.assertion k)) (d.bodies.work_of k) k (d.bodies.takes k (value_of chip (d.bodies.work_of k)))
  pub unseen : (below : List (ReservedBy Call d.basis.Reservation)) (chip : Chip) (w : World) (s : State) (k : Body) (c : Call) → AssertedAt d.basis d.bodies below chip w s k (Called c) fresh_history → Starts (d.seen k)
  -- the load of the state word, in the window, above what is held by those that let the call begin
  pub looks : (below : List (ReservedBy Call d.basis.Reservation)) (chip : Chip) (w : World) (s : State) (c : Call) → d.can c → Beside d.basis.setting (Called c) below → d.basis.represents below d.basis.settled chip w s → Decides d below chip w s c (d.looked (d.asked c) (value_of chip (Load d.word)))
  -- what its calls write
  pub writes : MakesWrites d ends_with
  -- and what its frames leave waiting
  pub starts : MakesStarts d ends_with
  -- the state word is its own, and there
  pub own_word : (origin : Origin Call) → d.basis.setting.may origin (Load d.word) ≡ true
  pub word_there : CanApply (Load d.word)
  -- each configured line has a handler, and no other, which may be entered
  pub handled : (line : ℕ) → is_some (d.body_of line) ≡ d.basis.setting.used line
  pub enters : (line : ℕ) (k : Body) → d.body_of line ≡ Some k → CanBegin d k (Entered line)
  -- the bounds of steps and windows
  pub call_steps : (c : Call) → d.can c → 7 + d.most (d.asked c) ≤ d.basis.setting.steps_of (Called c)
  pub call_window : (c : Call) → d.can c → 3 + d.wide (d.asked c) ≤ d.basis.setting.window_of (Called c)
  pub line_steps : (line : ℕ) (k : Body) → d.body_of line ≡ Some k → 6 + d.bodies.fuel k ≤ d.basis.setting.steps_of (Entered line)

-- where none does
abbrev pub AreServices : {State Call Asked Body : Type 0} → Services State Call Asked Body → Type 0
AreServices d = AreEndingServices d (λ k. None)
