-- What a driver of short services is, what its frames have to do with its machine, and what it owes.
use Rattle.std.specs.Prelude.{◌≡◌, ℕ, ◌+◌, ◌≤◌, Bool, true, false, List, [], ◌∷◌, Option, Some, None, is_some}
use Rattle.chip_model.specs.Chip.{Chip, value_of, chip_after, expiry_of, happened, reset_chip, is_masked, is_pending}
use Rattle.mcal_base.specs.Bits.{has_bit}
use Rattle.mcal_base.specs.Reach.{CanApply}
use Rattle.mcal_base.specs.declared.answer.Answer.{Answer}
use Rattle.mcal_base.specs.declared.directive.Order.{Order}
use Rattle.mcal_base.specs.declared.directive.Reason.{Reason}
use Rattle.mcal_base.specs.declared.directive.Reason.TheVariants.{PowerOn}
use Rattle.mcal_base.specs.declared.moves.DevError.{DevError}
use Rattle.mcal_base.specs.declared.moves.Event.{Event}
use Rattle.mcal_base.specs.declared.moves.Event.TheVariants.{Act, Serve, Abort, Start}
use Rattle.mcal_base.specs.declared.moves.Move.{Move}
use Rattle.mcal_base.specs.declared.moves.Move.TheVariants.{Write, Load}
use Rattle.mcal_base.specs.declared.moves.Unit as units
use Rattle.mcal_base.specs.declared.notice.Notice.{Notice}
use Rattle.mcal_base.specs.declared.register.Reg.TheVariants.{EnableSet, WatchdogLoad}
use Rattle.run_model.specs.World.{World, world_after}
use Rattle.run_model.specs.Machine.{Happening, Acts, Moves, Restarts, Told, Outcome, ErrorLeaves, Machine, no_answer, tells_nothing, outcome}
use Rattle.run_model.specs.Frame.{Origin, Called, Entered, Owing, Open, Brought, owing, happening_of, outcome_of, report_of, missed_after, is_shared, resets_chip, begins_word, is_reset_service}
use Rattle.run_model.specs.Moment.{Setting}
use Rattle.run_model.specs.Outside.{StandsIn}
use Rattle.step_runner.specs.Driver.{IsFree}
use Rattle.service_outline.specs.declared.done.Epilogue.{Epilogue}
use Rattle.service_outline.specs.declared.done.Epilogue.TheVariants.{Nothing, Error, One, Two}
use Rattle.service_outline.specs.declared.done.Done.{Done}
use Rattle.service_outline.specs.declared.done.BodyTaken.{BodyTaken}
use Rattle.service_outline.specs.declared.body.Looked.{Looked}
use Rattle.service_outline.specs.declared.body.Looked.TheVariants.{Refused, Goes}
use Rattle.service_outline.specs.Acts.{Cleans, ActsRight}
use Rattle.service_outline.specs.Fuel.{Shortens}
use Rattle.service_outline.specs.WindowHistory.{WindowHistory, Starts, SeesTo}

-- ---- what is told

abbrev pub error_in : Epilogue → Option DevError
error_in Nothing = None
error_in (Error e) = Some e
error_in (One k) = None
error_in (Two k j) = None

abbrev pub notices_in : Epilogue → List Notice
notices_in Nothing = []
notices_in (Error e) = []
notices_in (One k) = k ∷ []
notices_in (Two k j) = k ∷ j ∷ []

-- what a finished body ends with is what the machine told
abbrev pub TellsAs : {State Call : Type 0} → Machine State Call → Origin Call → Told → Done → Type 0
TellsAs mac (Called c) t n = (t.answer ≡ n.answer) × (t.notices ≡ notices_in n.owed) × (report_of mac c t.error ≡ error_in n.owed)
TellsAs mac (Entered l) t n = (n.answer ≡ no_answer) × (t.notices ≡ notices_in n.owed) × (error_in n.owed ≡ None)

-- ---- a frame in its window, by what it was told

abbrev pub acted_in : {Call : Type 0} → Option Told → Origin Call → Option Answer
acted_in None origin = None
acted_in (Some t) (Called c) = Some t.answer
acted_in (Some t) (Entered l) = None

abbrev pub served_in : {Call : Type 0} → Option Told → Origin Call → List ℕ
served_in None origin = []
served_in (Some t) (Called c) = []
served_in (Some t) (Entered l) = l ∷ []

abbrev pub owed_in : {Call : Type 0} → Option Told → Origin Call → List Owing
owed_in None origin = []
owed_in (Some t) (Called c) = owing false t.notices
owed_in (Some t) (Entered l) = owing true t.notices

abbrev pub report_in : {State Call : Type 0} → Machine State Call → Option Told → Origin Call → Option DevError
report_in mac None origin = None
report_in mac (Some t) (Called c) = report_of mac c t.error
report_in mac (Some t) (Entered l) = None

-- a frame with the level, polled lines, misses, commits, reads, writes, window and counts of another, and these
abbrev pub form : {Call : Type 0} → Open Call → Origin Call → Option Answer → List ℕ → List Owing → Option DevError → Bool → Open Call
form r origin acted served owed report inside = record { origin = origin; tag = r.tag; acted = acted; acted_at = r.acted_at; polled = r.polled; served = served; missed = r.missed; committed = r.committed; reads = r.reads; wrote = r.wrote; writes = r.writes; owed = owed; report = report; inside = inside; since = r.since; acts_since = r.acts_since; steps = r.steps; window = r.window; noted = r.noted }

-- ---- what a driver gives

-- what all bodies of a driver stand on: the machine with its bounds, and how words and registers agree with its state
pub record Refinement (State Call : Type 0) : Type 1 where
  pub setting : Setting State Call
  -- what the configuration has wired to the chip, as far as the driver rests on it
  pub wired : Chip → Type 0
  -- the lines of its units, and whether a move names anything of a frame's module
  pub lines : ℕ → Bool
  pub owns : Origin Call → Move → Bool
  -- whether it has the watchdog
  pub watches : Bool
  -- how many numbers a state has given out, at most one a step
  pub count : State → ℕ
  -- what the hardware makes of a state
  pub later : World → State → Order → State
  -- what the top frame may have under work, and nothing
  pub Lag : Type 0
  pub settled : Lag
  -- the words and registers agree with the state, but for what is under work
  pub represents : Lag → Chip → World → State → Type 0
  -- what the places of bodies may rest on, of the chip
  pub Footprint : Type 0
  pub foot : Chip → Footprint

-- the move names nothing of the driver's
abbrev pub Apart : {State Call : Type 0} → Refinement State Call → Move → Type 0
Apart {State} {Call} g made = (origin : Origin Call) → g.owns origin made ≡ false

-- the hardware is free to move so, whatever frames are under way
pub record Comes {State Call : Type 0} (g : Setting State Call) (chip : Chip) (w : World) (s : State) (order : Order) : Type 0 where
  pub frames : List (Origin Call)
  pub free : IsFree g (is_masked chip) w s frames order

-- what a driver owes of its ground, once
pub record IsGround {State Call : Type 0} (g : Refinement State Call) : Type 0 where
  pub starts : (chip : Chip) (w : World) → g.wired chip → StandsIn chip w → g.represents g.settled (reset_chip chip PowerOn) w g.setting.first
  pub moves : (w : World) (s : State) (order : Order) → g.setting.machine.happens w s (Moves order) ≡ Some (outcome (g.later w s order) tells_nothing)
  pub resets : (gap : g.Lag) (chip : Chip) (w : World) (s : State) (reason : Reason) → g.represents gap chip w s → (out : Outcome State) × (g.setting.machine.happens w s (Restarts reason) ≡ Some out) × g.represents g.settled (reset_chip chip reason) w out.state
  pub agrees_later : (gap : g.Lag) (chip : Chip) (w : World) (s : State) (order : Order) → Comes g.setting chip w s order → g.represents gap chip w s → g.represents gap (happened chip order) (world_after w chip.clock.rate order) (g.later w s order)
  pub agrees_apart : (gap : g.Lag) (chip : Chip) (w : World) (s : State) (made : Move) (received : ℕ) → Apart g made → g.represents gap chip w s → g.represents gap (chip_after chip made received) w s
  -- what a frame may do names what is the driver's own, and that is a register or a word, which is there
  pub may_owns : (origin : Origin Call) (made : Move) → g.setting.may origin made ≡ true → g.owns origin made ≡ true
  pub owns_plain : (origin : Origin Call) (made : Move) → g.owns origin made ≡ true → is_shared made ≡ false
  pub may_there : (origin : Origin Call) (made : Move) → g.setting.may origin made ≡ true → CanApply made
  -- no frame enables a line that isn't one of the driver's
  pub enables : (origin : Origin Call) (bits line : ℕ) → g.setting.may origin (Write EnableSet bits) ≡ true → g.lines line ≡ false → has_bit bits line ≡ false
  -- no frame loads the watchdog but of a driver that has it; the time that runs then is the chip's, and else none does
  pub loads : (origin : Origin Call) (value : ℕ) → g.setting.may origin (Write WatchdogLoad value) ≡ true → g.watches ≡ true
  pub watched : (gap : g.Lag) (chip : Chip) (w : World) (s : State) → g.watches ≡ true → chip.clock.osc ≡ w.osc → g.represents gap chip w s → g.setting.machine.expires w s ≡ expiry_of chip
  pub unwatched : (w : World) (s : State) → g.watches ≡ false → g.setting.machine.expires w s ≡ None
  -- no call asks for a reset or polls a line, and no frame may make a reset
  pub asks_none : (c : Call) → is_reset_service (g.setting.machine.service_of c) ≡ false
  pub polls_none : (w : World) (s : State) (c : Call) → g.setting.machine.polls w s c ≡ []
  pub resets_none : (origin : Origin Call) (made : Move) → g.setting.may origin made ≡ true → resets_chip made ≡ false
  -- no frame begins a serial word
  pub words_none : (origin : Origin Call) (made : Move) → g.setting.may origin made ≡ true → begins_word made ≡ false
  -- what a handler owns some call owns
  pub owns_called : (line : ℕ) (made : Move) → g.owns (Entered line) made ≡ true → (c : Call) × (g.owns (Called c) made ≡ true)
  -- a line that an object uses is one of the modules' lines, and one that no object uses is not due
  pub used_lines : (line : ℕ) → g.setting.used line ≡ true → g.lines line ≡ true
  pub due_used : (chip : Chip) (w : World) (s : State) (line : ℕ) → g.represents g.settled chip w s → g.setting.machine.due w s line ≡ true → g.setting.used line ≡ true
  -- each line, used or not, is pending exactly where it is due, and no unit waits for a start
  pub pends : (chip : Chip) (w : World) (s : State) (line : ℕ) → g.lines line ≡ true → g.represents g.settled chip w s → is_pending chip line ≡ g.setting.machine.due w s line
  -- the rest is the machine's too, and so are the outputs that are so at every time, and what a notice shows
  pub rest : (chip : Chip) (w : World) (s : State) → g.represents g.settled chip w s → g.setting.rest chip w s
  pub unmasked : (chip : Chip) (w : World) (s : State) (origins : List (Origin Call)) → g.represents g.settled chip w s → g.setting.unmasked chip w s origins
  pub shows : (chip : Chip) (w : World) (s : State) (origin : Origin Call) (n : Notice) → g.represents g.settled chip w s → g.setting.shows origin n chip s
  pub waits : (chip : Chip) (w : World) (s : State) (u : units.Unit) → g.represents g.settled chip w s → g.setting.machine.startable w s u ≡ false
  -- an act that finds an error leaves the state as it was, and gives no notice
  pub error_leaves : (w : World) (s : State) (c : Call) (times : ℕ → ℕ) (out : Outcome State) → g.setting.machine.happens w s (Acts c times) ≡ Some out → ErrorLeaves s out
  -- none are given out at first, at most one by what happens, and none by the hardware and by a reset
  pub count_first : g.count g.setting.first ≡ 0
  pub count_happens : (w : World) (s : State) (h : Happening Call) (out : Outcome State) → g.setting.machine.happens w s h ≡ Some out → g.count out.state ≤ g.count s + 1
  pub count_moves : (w : World) (s : State) (order : Order) (out : Outcome State) → g.setting.machine.happens w s (Moves order) ≡ Some out → g.count out.state ≤ g.count s
  pub count_resets : (w : World) (s : State) (reason : Reason) (out : Outcome State) → g.setting.machine.happens w s (Restarts reason) ≡ Some out → g.count out.state ≤ g.count s
  pub rate_starts : g.setting.machine.rate g.setting.first ≡ 1
  -- what a frame may do leaves the chip's rate, and what happens leaves the machine's
  pub may_steady : (chip : Chip) (origin : Origin Call) (made : Move) (received : ℕ) → g.setting.may origin made ≡ true → (chip_after chip made received).clock.rate ≡ chip.clock.rate
  pub rate_happens : (w : World) (s : State) (h : Happening Call) (out : Outcome State) → g.setting.machine.happens w s h ≡ Some out → g.setting.machine.rate out.state ≡ g.setting.machine.rate s
  pub rate_resets : (chip : Chip) (w : World) (s : State) (reason : Reason) (out : Outcome State) → g.setting.machine.happens w s (Restarts reason) ≡ Some out → (reset_chip chip reason).clock.rate ≡ g.setting.machine.rate out.state

-- bodies: their places, and what holds at each
pub record Bodies {State Call : Type 0} (g : Refinement State Call) (Body : Type 0) : Type 1 where
  pub work_of : Body → Move
  pub takes : Body → ℕ → Body × BodyTaken
  -- the steps that it has left, at most
  pub fuel : Body → ℕ
  -- what is under work before a step
  pub gap_of : Body → g.Lag
  -- it has read no register and written nothing on the way there
  pub clean : Body → Bool
  -- what holds before a step, of a frame of this origin that was told this
  pub place : g.Footprint → World → State → Body → Origin Call → Option Told → Type 0

abbrev pub At : {State Call Body : Type 0} (g : Refinement State Call) → Bodies g Body → Chip → World → State → Body → Origin Call → Option Told → Type 0
At g b chip w s k origin told = g.represents (b.gap_of k) chip w s × b.place (g.foot chip) w s k origin told

-- a driver of short services
pub record Outlined (State Call Asked Body : Type 0) : Type 1 where
  pub basis : Refinement State Call
  pub bodies : Bodies basis Body
  -- what a frame has surely done in its window, at a place of a body
  pub seen : Body → WindowHistory
  -- what the driver's value, and a call, have to be
  pub fits : Type 0
  pub can : Call → Type 0
  -- its state word, and what that decides for a call, as the frame has it
  pub word : ℕ
  pub asked : Call → Asked
  pub looked : Asked → ℕ → Looked Body
  -- the steps of a call's body, at most
  pub most : Asked → ℕ
  -- the body of the handler of a line
  pub body_of : ℕ → Option Body

-- ---- what it owes

-- a body that may be entered wherever the words and registers agree
pub record CanEnter {State Call Asked Body : Type 0} (d : Outlined State Call Asked Body) (k : Body) (origin : Origin Call) : Type 0 where
  pub at : (chip : Chip) (w : World) (s : State) → d.basis.represents d.basis.settled chip w s → At d.basis d.bodies chip w s k origin None
  pub unseen : Starts (d.seen k)
  pub room : 2 + d.bodies.fuel k ≤ d.basis.setting.window_of origin

abbrev pub owes_nothing : Answer → Done
owes_nothing a = record { answer = a; owed = Nothing }

-- a refused call tells what the machine tells, which leaves its state
pub record Refuses {State Call Asked Body : Type 0} (d : Outlined State Call Asked Body) (w : World) (s : State) (c : Call) (n : Done) : Type 0 where
  pub told : Told
  pub is : (times : ℕ → ℕ) → d.basis.setting.machine.happens w s (Acts c times) ≡ Some (outcome s told)
  pub tells : TellsAs d.basis.setting.machine (Called c) told n

-- what a load of the state word has to decide
abbrev pub LooksRight : {State Call Asked Body : Type 0} → Outlined State Call Asked Body → Chip → World → State → Call → Looked Body → Type 0
LooksRight d chip w s c (Refused n) = Refuses d w s c n
LooksRight d chip w s c (Goes k) = At d.basis d.bodies chip w s k (Called c) None × (d.bodies.fuel k ≤ d.most (d.asked c))

-- what stands after a body's step: its next place, or the agreement and what it may end with
abbrev pub GoesOn : {State Call Body : Type 0} (g : Refinement State Call) → Bodies g Body → Chip → World → State → Origin Call → Option Told → (ℕ → Bool) → Body → Option Done → Type 0
GoesOn g b chip w s origin told missed k None = At g b chip w s k origin told
GoesOn g b chip w s origin (Some t) missed k (Some n) = g.represents g.settled chip w s × TellsAs g.setting.machine origin t n
GoesOn g b chip w s (Called c) None missed k (Some n) = ⊥
GoesOn g b chip w s (Entered l) None missed k (Some n) = g.represents g.settled chip w s × (missed l ≡ true) × (n ≡ owes_nothing no_answer)

-- a call acts, and a handler serves its line
abbrev pub IsOwn : {Call : Type 0} → Origin Call → Event → Type 0
IsOwn (Called c) Act = Unit {0}
IsOwn (Called c) (Serve k) = ⊥
IsOwn (Called c) (Abort u) = ⊥
IsOwn (Called c) (Start u) = ⊥
IsOwn (Entered l) Act = ⊥
IsOwn (Entered l) (Serve k) = k ≡ l
IsOwn (Entered l) (Abort u) = ⊥
IsOwn (Entered l) (Start u) = ⊥

-- an event: what the machine gives, whatever the step brings; it begins no serial word
pub record Happens {State Call : Type 0} (g : Setting State Call) (w : World) (s : State) (origin : Origin Call) (made : Move) (clean : Bool) (e : Event) (left : Option Done) (Then : State → Told → Type 0) : Type 0 where
  pub own : IsOwn origin e
  pub state : State
  pub told : Told
  pub is : (brought : Brought) → outcome_of g.machine w s (happening_of origin brought e) ≡ Some (outcome state told)
  pub acts : ActsRight g origin e clean made told left
  pub next : Then state told

-- a body's step
abbrev pub StepsRight : {State Call Body : Type 0} (g : Refinement State Call) → Bodies g Body → Chip → World → State → Origin Call → Move → (clean : Bool) → Option Told → (ℕ → Bool) → Body → Option Event → Option Done → Type 0
StepsRight g b chip w s origin made clean told missed k None left = GoesOn g b chip w s origin told missed k left
StepsRight g b chip w s origin made clean None missed k (Some e) left = Happens g.setting w s origin made clean e left (λ s1 t. GoesOn g b chip w s1 origin (Some t) missed k left)
StepsRight g b chip w s origin made clean (Some t) missed k (Some e) left = ⊥

-- a body's step, by what it makes of the body
abbrev pub StepsTo : {State Call Body : Type 0} (g : Refinement State Call) → Bodies g Body → Chip → World → State → Origin Call → Move → (clean : Bool) → Option Told → (ℕ → Bool) → Body × BodyTaken → Type 0
StepsTo g b chip w s origin made clean told missed p = StepsRight g b chip w s origin made clean told missed p.0 p.1.event p.1.done

-- a body's step at a place, where no word comes in
abbrev pub RightAt : {State Call Body : Type 0} (g : Refinement State Call) → Bodies g Body → Chip → World → State → Body → Origin Call → Option Told → (ℕ → Bool) → Type 0
RightAt g b chip w s k origin told missed = StepsTo g b (chip_after chip (b.work_of k) 0) w s origin (b.work_of k) (b.clean k) told (missed_after g.setting.machine w s missed) (b.takes k (value_of chip (b.work_of k)))

-- what bodies owe
pub record AreRight {State Call Body : Type 0} (g : Refinement State Call) (b : Bodies g Body) : Type 0 where
  -- a body's move is one that its frame may make
  pub own : (chip : Chip) (w : World) (s : State) (k : Body) (origin : Origin Call) (told : Option Told) → At g b chip w s k origin told → g.setting.may origin (b.work_of k) ≡ true
  pub steps : (chip : Chip) (w : World) (s : State) (k : Body) (origin : Origin Call) (told : Option Told) (missed : ℕ → Bool) → At g b chip w s k origin told → RightAt g b chip w s k origin told missed
  pub later : (chip : Chip) (w : World) (s : State) (order : Order) (k : Body) (origin : Origin Call) (told : Option Told) → Comes g.setting chip w s order → At g b chip w s k origin told → b.place (g.foot (happened chip order)) (world_after w chip.clock.rate order) (g.later w s order) k origin told
  pub shortens : (k : Body) (x : ℕ) → Shortens b.fuel k (b.takes k x)
  pub cleans : (k : Body) (x : ℕ) → Cleans b.clean (b.work_of k) k (b.takes k x)

-- what a driver owes
pub record IsOutlined {State Call Asked Body : Type 0} (d : Outlined State Call Asked Body) : Type 0 where
  pub basis : IsGround d.basis
  pub bodies : AreRight d.basis d.bodies
  -- what a body's step owes of its window, in which a body that begins has done nothing
  pub windows : (chip : Chip) (w : World) (s : State) (k : Body) (origin : Origin Call) (told : Option Told) → At d.basis d.bodies chip w s k origin told → SeesTo d.seen true (d.bodies.work_of k) k (d.bodies.takes k (value_of chip (d.bodies.work_of k)))
  pub unseen : (chip : Chip) (w : World) (s : State) (k : Body) (c : Call) → At d.basis d.bodies chip w s k (Called c) None → Starts (d.seen k)
  -- the load of the state word, in the window
  pub looks : (chip : Chip) (w : World) (s : State) (c : Call) → d.can c → d.basis.represents d.basis.settled chip w s → LooksRight d chip w s c (d.looked (d.asked c) (value_of chip (Load d.word)))
  -- the state word is its own, and there
  pub own_word : (origin : Origin Call) → d.basis.setting.may origin (Load d.word) ≡ true
  pub word_there : CanApply (Load d.word)
  -- each configured line has a handler, and no other, which may be entered
  pub handled : (line : ℕ) → is_some (d.body_of line) ≡ d.basis.setting.used line
  pub enters : (line : ℕ) (k : Body) → d.body_of line ≡ Some k → CanEnter d k (Entered line)
  -- the bounds of steps and windows
  pub call_steps : (c : Call) → d.can c → 7 + d.most (d.asked c) ≤ d.basis.setting.steps_of (Called c)
  pub call_window : (c : Call) → d.can c → 3 + d.most (d.asked c) ≤ d.basis.setting.window_of (Called c)
  pub line_steps : (line : ℕ) (k : Body) → d.body_of line ≡ Some k → 6 + d.bodies.fuel k ≤ d.basis.setting.steps_of (Entered line)
  -- no call owes a write
  pub must_none : (c : Call) → d.basis.setting.must c ≡ []
  -- no line is a unit's
  pub units_none : (w : World) (s : State) (line : ℕ) → d.basis.setting.machine.line_waits w s line ≡ false

-- ---- what places rest on

-- a body of this call before its act, of this line before its serving, and after what it was told
pub data Before {Call : Type 0} (c : Call) : Origin Call → Option Told → Type 0 where
  Is_before : Before c (Called c) None

pub data Serving {Call : Type 0} (l : ℕ) : Origin Call → Option Told → Type 0 where
  Is_serving : Serving l (Entered l) None

pub data After {Call : Type 0} (c : Call) (t : Told) : Origin Call → Option Told → Type 0 where
  Is_after : After c t (Called c) (Some t)

pub data Served {Call : Type 0} (l : ℕ) (t : Told) : Origin Call → Option Told → Type 0 where
  Is_served : Served l t (Entered l) (Some t)
