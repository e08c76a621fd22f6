-- When a run is legal: what each of its deeds has to be, in the moment before it.
use Rattle.std.specs.Prelude.{◌≡◌, ℕ, ◌<◌, ◌≤◌, min, Bool, true, false, ◌&&◌, ◌||◌, ◌==◌, cond, not, List, [], ◌∷◌, Option, Some, None, IsSome, MatchBool}
use Rattle.std.specs.List.{Contains, list_any, list_all}
use Rattle.chip_blocks.specs.units.Serials.{unit_at, outgoing}
use Rattle.chip_blocks.specs.declared.units.serial.Serial.{Serial}
use Rattle.chip_model.specs.Chip.{Chip, value_of, stall_of, names_device, next_word, expiry_of, is_pending, is_masked}
use Rattle.mcal_base.specs.Reach.{CanApply}
use Rattle.irq_control.specs.declared.held.Held.{Held}
use Rattle.irq_control.specs.declared.held.Held.TheVariants.{Unknown}
use Rattle.mcal_base.specs.declared.answer.Answer.{Answer}
use Rattle.mcal_base.specs.declared.error_name.ErrorName.{ErrorName}
use Rattle.mcal_base.specs.declared.moves.DevError.{DevError}
use Rattle.mcal_base.specs.declared.moves.Move.{Move}
use Rattle.mcal_base.specs.declared.moves.Move.TheVariants.{Read, Write, Load, Store, Mask, Unmask, Note, Report}
use Rattle.mcal_base.specs.declared.moves.Event.{Event}
use Rattle.mcal_base.specs.declared.moves.Event.TheVariants.{Act, Serve, Abort, Start}
use Rattle.mcal_base.specs.declared.moves.Unit as units
use Rattle.mcal_base.specs.declared.moves.Unit.TheVariants.{Adc0, Adc1, Spi0, Spi1}
use Rattle.mcal_base.specs.declared.notice.Notice.{Notice}
use Rattle.mcal_base.specs.declared.register.Reg.{Reg}
use Rattle.mcal_base.specs.declared.register.Reg.TheVariants.{TimerLow, TimerHigh, PulseCommit, PulseIdle, CaptureCountLow, CaptureCountHigh, CaptureTimeLow, CaptureTimeHigh, ConverterGo, ConverterAbort, SerialData}
use Rattle.mcal_base.specs.declared.service.Service.{Service}
use Rattle.mcal_base.specs.declared.service.Service.TheVariants.{PwmInit, PwmDeInit}
use Rattle.run_model.specs.declared.item.Stepped.{Stepped}
use Rattle.mcal_base.specs.declared.directive.Order.{Order}
use Rattle.mcal_base.specs.declared.directive.Order.TheVariants as orders
use Rattle.mcal_base.specs.declared.directive.Reason.TheVariants.{Watchdog}
use Rattle.run_model.specs.World.{World}
use Rattle.run_model.specs.Machine.{Starts, Moves, Restarts, Begun, Machine, no_answer, select_of}
use Rattle.run_model.specs.Frame.{Origin, Called, Entered, Owing, ActedAt, Open, outcome_at, begun_by, report_by, is_act, state_after, open_after, is_shared, is_wait, resets_chip, asks_reset}
use Rattle.run_model.specs.Causes.{call_cause, line_cause, fill_cause, tags_of, origins_of, top_noted}
use Rattle.run_model.specs.Moment.{Halves, Setting, is_busy, Moment, Transition, Begins, Enters, Steps, Happens, Resets, after}

-- ---- the events of a step

-- the line is one of these
abbrev pub has_line : List ℕ → ℕ → Bool
has_line ls k = list_any (λ l. l == k) ls

-- the lines of a list from this one on
abbrev pub lines_from : ℕ → List ℕ → List ℕ
lines_from k [] = []
lines_from k (l ∷ ls) = cond (l == k) (l ∷ ls) (lines_from k ls)

-- the line is one that is polled, and neither it nor one that comes after it was served
abbrev pub IsNext : (polls served : List ℕ) → ℕ → Type 0
IsNext polls served k = (has_line polls k ≡ true) × (list_any (has_line served) (lines_from k polls) ≡ false)

-- a frame that has acted starts a unit for no call: the machine allows the start without one
abbrev pub StartsUncalled : {State Call : Type 0} → Machine State Call → World → State → units.Unit → (acted : Option Answer) → Type 0
StartsUncalled mac w s u None = Unit {0}
StartsUncalled mac w s u (Some answer) = (received : ℕ) → IsSome (mac.happens w s (Starts u None received))

-- a frame acts once; a handler doesn't act, and serves its own line, once; a call serves lines that it polls, in their order, each
-- once and with no notice owed, so that it gives those of one before it serves the next; what a call starts for itself it starts
-- before it acts
abbrev pub IsOwnEvent : {State Call : Type 0} → Machine State Call → World → State → Open Call → Event → Origin Call → Type 0
IsOwnEvent mac w s o Act (Called c) = o.acted ≡ None
IsOwnEvent mac w s o Act (Entered l) = ⊥
IsOwnEvent mac w s o (Serve k) (Called c) = IsNext (mac.polls w s c) o.served k × (o.owed ≡ []) × (o.inside ≡ true)
IsOwnEvent mac w s o (Serve k) (Entered l) = (k ≡ l) × (o.served ≡ []) × (o.inside ≡ true)
IsOwnEvent mac w s o (Abort u) origin = o.owed ≡ []
IsOwnEvent mac w s o (Start u) origin = (o.owed ≡ []) × StartsUncalled mac w s u o.acted

-- the number of a unit among those of its kind
abbrev pub unit_number : units.Unit → ℕ
unit_number Adc0 = 0
unit_number Adc1 = 1
unit_number Spi0 = 0
unit_number Spi1 = 1

abbrev pub is_converter : units.Unit → Bool
is_converter Adc0 = true
is_converter Adc1 = true
is_converter Spi0 = false
is_converter Spi1 = false

-- a unit is started at the write of its own register that does it, and aborted at the read that did it
abbrev pub StandsAt : Event → Move → (value : ℕ) → Type 0
StandsAt Act made value = Unit {0}
StandsAt (Serve k) made value = Unit {0}
StandsAt (Start u) (Write (ConverterGo k) v) value = (is_converter u ≡ true) × (k ≡ unit_number u)
StandsAt (Start u) (Write (SerialData k) v) value = (is_converter u ≡ false) × (k ≡ unit_number u)
StandsAt (Start u) _ value = ⊥
StandsAt (Abort u) (Read (ConverterAbort k)) value = (is_converter u ≡ true) × (k ≡ unit_number u) × (value ≡ 1)
StandsAt (Abort u) _ value = ⊥

-- the machine allows the event here
abbrev pub EventRight : {State Call : Type 0} → Setting State Call → Moment State Call → Open Call → Stepped → Option Event → Type 0
EventRight g m o s None = Unit {0}
EventRight g m o s (Some e) = IsOwnEvent g.machine m.world m.state o e o.origin × StandsAt e s.made s.value × IsSome (outcome_at g.machine m.world m.state o s.made s.received (Some e))

-- ---- where a frame acts, and what it does besides

-- a call that acted without an error and has read both halves of its counter acted at a read of the low half, with the mask closed
abbrev pub ActsLow : Halves → List Reg → ActedAt → Option ErrorName → Type 0
ActsLow h reads at (Some e) = Unit {0}
ActsLow h reads at None = Contains reads h.low → Contains reads h.high → (at.made ≡ Read h.low) × (at.inside ≡ true)

abbrev pub HalvesRight : Option Halves → List Reg → Option ActedAt → Type 0
HalvesRight None reads at = Unit {0}
HalvesRight (Some h) reads None = Unit {0}
HalvesRight (Some h) reads (Some at) = ActsLow h reads at at.error

abbrev pub halves_of : {State Call : Type 0} → Setting State Call → Origin Call → Option Halves
halves_of g (Called c) = g.halves c
halves_of g (Entered l) = None

-- a call whose act finds an error writes nothing, before it and after it
abbrev pub WritesNothing : (wrote : Bool) → Option ErrorName → Type 0
WritesNothing wrote None = Unit {0}
WritesNothing wrote (Some e) = wrote ≡ false

abbrev pub ErrorsRight : (wrote : Bool) → Option ActedAt → Type 0
ErrorsRight wrote None = Unit {0}
ErrorsRight wrote (Some at) = WritesNothing wrote at.error

-- ---- what belongs into one window

-- the register that has the low half, where a register has the high half of a counter or of an edge's time
abbrev pub low_half : Reg → Option Reg
low_half (TimerHigh c) = Some (TimerLow c)
low_half (CaptureCountHigh c) = Some (CaptureCountLow c)
low_half (CaptureTimeHigh c) = Some (CaptureTimeLow c)
low_half r = None

-- a high half is read with the mask closed, after its low half was read there
abbrev pub ComesAfter : (inside : Bool) → (since : List Move) → (low : Option Reg) → Type 0
ComesAfter inside since None = Unit {0}
ComesAfter inside since (Some low) = (inside ≡ true) × Contains since (Read low)

-- the move commits a pulse output, or idles it
abbrev pub commits : Move → Bool
commits (Write (PulseCommit c) v) = true
commits made = false

abbrev pub idles : Move → Bool
idles (Write (PulseIdle c) v) = true
idles made = false

-- the service commits outputs, or idles them, in the window in which it acts
abbrev pub commits_at_act : Service → Bool
commits_at_act PwmInit = true
commits_at_act service = false

abbrev pub idles_at_act : Service → Bool
idles_at_act PwmDeInit = true
idles_at_act service = false

-- what a call of the service does in the window in which it acts, and nowhere else
abbrev pub is_beside : Service → Move → Bool
is_beside service made = commits_at_act service && commits made || idles_at_act service && idles made

abbrev pub is_beside_act : {State Call : Type 0} → Machine State Call → Origin Call → Move → Bool
is_beside_act mac (Called c) made = is_beside (mac.service_of c) made
is_beside_act mac (Entered l) made = false

-- both halves are read in one window; and such a move is made in a window, which isn't opened before the call has acted there
abbrev pub WindowRight : (beside : Move → Bool) → (inside : Bool) → (since : List Move) → (acts : Bool) → Move → Type 0
WindowRight beside inside since acts (Read r) = ComesAfter inside since (low_half r)
WindowRight beside inside since acts (Write r v) = beside (Write r v) ≡ true → inside ≡ true
WindowRight beside inside since acts Unmask = list_any beside since ≡ true → acts ≡ true
WindowRight beside inside since acts Mask = Unit {0}
WindowRight beside inside since acts (Load k) = Unit {0}
WindowRight beside inside since acts (Store k v) = Unit {0}
WindowRight beside inside since acts (Note n) = Unit {0}
WindowRight beside inside since acts (Report e) = Unit {0}

-- ---- serial words

-- a serial unit selects a device that is there
abbrev pub has_device : Serial → World → Bool
has_device unit w = names_device unit.select w.devices

-- the word that comes in where one begins: whatever the selected device answers, 65,536 where it fails, and without a
-- device the unit's next waiting word; with any other move 0
abbrev pub ReceivedRight : Chip → World → Move → (received : ℕ) → Type 0
ReceivedRight chip w (Write (SerialData u) v) received = MatchBool (has_device (unit_at chip.serials u) w) (received ≤ 65536) (received ≡ next_word chip u)
ReceivedRight chip w made received = received ≡ 0

-- the word is the machine's, by unit and width, and the unit selects its device
pub record IsBegun (b : Begun) (u v : ℕ) (unit : Serial) : Type 0 where
  pub on : u ≡ b.unit
  pub word : outgoing unit v ≡ b.word
  pub width : min unit.width 16 ≡ b.width
  pub select : unit.select ≡ select_of b.device

-- a word is written to a serial unit exactly where the machine begins one
abbrev pub SendsRight : Chip → Option Begun → Move → Type 0
SendsRight chip None (Write (SerialData u) v) = ⊥
SendsRight chip None _ = Unit {0}
SendsRight chip (Some b) (Write (SerialData u) v) = IsBegun b u v (unit_at chip.serials u)
SendsRight chip (Some b) _ = ⊥

-- ---- the moves of a step

-- the notice is the next one that is owed
abbrev pub Owes : List Owing → Notice → Type 0
Owes [] n = ⊥
Owes (k ∷ ks) n = k.notice ≡ n

-- the mask is closed and opened in turn, a notice is one that is owed, with the mask open, and a report is the act's
abbrev pub MoveRight : (inside : Bool) → List Owing → Option DevError → Move → Type 0
MoveRight inside owed report Mask = inside ≡ false
MoveRight inside owed report Unmask = inside ≡ true
MoveRight inside owed report (Note n) = (inside ≡ false) × Owes owed n
MoveRight inside owed report (Report e) = report ≡ Some e
MoveRight inside owed report (Read r) = Unit {0}
MoveRight inside owed report (Write r v) = Unit {0}
MoveRight inside owed report (Load k) = Unit {0}
MoveRight inside owed report (Store k v) = Unit {0}

-- at a notice that is owed by a serving, the user arrays of its object are the machine's
abbrev pub ShowsFirst : {State : Type 0} → (Notice → Chip → State → Type 0) → Chip → State → List Owing → Type 0
ShowsFirst shows chip s [] = Unit {0}
ShowsFirst shows chip s (k ∷ ks) = k.served ≡ true → shows k.notice chip s

abbrev pub ShowsRight : {State Call : Type 0} → Setting State Call → Chip → State → Origin Call → List Owing → Move → Type 0
ShowsRight g chip s origin owed (Note n) = ShowsFirst (g.shows origin) chip s owed
ShowsRight g chip s origin owed Mask = Unit {0}
ShowsRight g chip s origin owed Unmask = Unit {0}
ShowsRight g chip s origin owed (Report e) = Unit {0}
ShowsRight g chip s origin owed (Read r) = Unit {0}
ShowsRight g chip s origin owed (Write r v) = Unit {0}
ShowsRight g chip s origin owed (Load k) = Unit {0}
ShowsRight g chip s origin owed (Store k v) = Unit {0}

-- ---- the end of a frame

-- it served the line, or that wasn't ready at a step of its own
abbrev pub has_met : {Call : Type 0} → Open Call → ℕ → Bool
has_met o l = has_line o.served l || o.missed l

-- a call ends with the answer of its act, and has met the lines that it polled there; a handler has met its line, and it answers nothing
abbrev pub MayEnd : {Call : Type 0} → Origin Call → Open Call → Answer → Type 0
MayEnd (Called c) o answer = (o.acted ≡ Some answer) × (list_all (has_met o) o.polled ≡ true)
MayEnd (Entered l) o answer = (has_met o l ≡ true) × (answer ≡ no_answer)

-- a frame that ends owes nothing and holds no mask, and it never ends at a notice: its last move is another one
abbrev pub EndRight : {Call : Type 0} → Open Call → Option Answer → Type 0
EndRight o None = Unit {0}
EndRight o (Some answer) = MayEnd o.origin o answer × (o.owed ≡ []) × (o.report ≡ None) × (o.inside ≡ false) × (o.noted ≡ false)

-- the line was served, and its unit may start or abort
abbrev pub is_left_waiting : {State Call : Type 0} → Machine State Call → World → State → (served : List ℕ) → ℕ → Bool
is_left_waiting mac w s served l = has_line served l && mac.line_waits w s l

-- a frame that ends leaves no unit waiting whose line it has served: a call of those that it polled, a handler its own
abbrev pub LeavesNone : {State Call : Type 0} → Machine State Call → World → State → Origin Call → (polled served : List ℕ) → Type 0
LeavesNone mac w s (Called c) polled served = list_all (λ l. not (is_left_waiting mac w s served l)) polled ≡ true
LeavesNone mac w s (Entered l) polled served = is_left_waiting mac w s served l ≡ false

abbrev pub StartsRight : {State Call : Type 0} → Machine State Call → World → State → Open Call → Option Answer → Type 0
StartsRight mac w s o None = Unit {0}
StartsRight mac w s o (Some answer) = LeavesNone mac w s o.origin o.polled o.served

-- of each of these kinds a write was made
abbrev pub AllMade : List (Move → Bool) → (writes : List Move) → Type 0
AllMade kinds writes = list_all (λ kind. list_any kind writes) kinds ≡ true

abbrev pub MadeUnless : Option ErrorName → List (Move → Bool) → (writes : List Move) → Type 0
MadeUnless None kinds writes = AllMade kinds writes
MadeUnless (Some e) kinds writes = Unit {0}

-- a call that has acted and found no error has made what it owes
abbrev pub HasMade : {State Call : Type 0} → Setting State Call → Origin Call → (writes : List Move) → Option ActedAt → Type 0
HasMade g (Called c) writes None = Unit {0}
HasMade g (Called c) writes (Some at) = MadeUnless at.error (g.must c) writes
HasMade g (Entered l) writes at = Unit {0}

abbrev pub WritesRight : {State Call : Type 0} → Setting State Call → Open Call → Option Answer → Type 0
WritesRight g o None = Unit {0}
WritesRight g o (Some answer) = HasMade g o.origin o.writes o.acted_at

-- ---- a step

-- what a step of the top frame has to be
pub record IsLegalStep {State Call : Type 0} (g : Setting State Call) (m : Moment State Call) (o : Open Call) (s : Stepped) : Type 0 where
  -- it waits for no word in transfer, and the value read is the chip's
  pub waits : stall_of m.chip s.made ≡ 0
  pub value : s.value ≡ value_of m.chip s.made
  -- a frame waits for a word with the mask open, so no wait lengthens a window
  pub waits_open : is_wait s.made ≡ true → o.inside ≡ false
  -- the word that comes in is the one of that moment
  pub received : ReceivedRight m.chip m.world s.made s.received
  -- the machine allows the event, and it is one that the frame may have
  pub event : EventRight g m o s s.event
  -- a serial word begins exactly where the machine begins it
  pub sends : SendsRight m.chip (begun_by (outcome_at g.machine m.world m.state o s.made s.received s.event)) s.made
  -- a counter that was read in halves was read at the act, with the mask closed
  pub halves : let o1 = open_after g.machine m.world m.state o s.made s.received s.event in HalvesRight (halves_of g o.origin) o1.reads o1.acted_at
  -- what belongs into one window stands there
  pub together : WindowRight (is_beside_act g.machine o.origin) o.inside o.since (o.acts_since || is_act s.event) s.made
  -- a call that finds an error writes no register and no word
  pub errors : let o1 = open_after g.machine m.world m.state o s.made s.received s.event in ErrorsRight o1.wrote o1.acted_at
  -- the mask, the notices and the report: a notice is owed before the step, a report also by it
  pub move : MoveRight o.inside o.owed (report_by g.machine o.origin o.report s.event (outcome_at g.machine m.world m.state o s.made s.received s.event)) s.made
  -- what a notice shows
  pub shows : ShowsRight g m.chip m.state o.origin o.owed s.made
  -- the chip is reset exactly where a call acts that asks for it and finds no error, and that call never returns
  pub reset : resets_chip s.made ≡ asks_reset g.machine o.origin s.event (outcome_at g.machine m.world m.state o s.made s.received s.event)
  pub stays : resets_chip s.made ≡ true → s.ended ≡ None
  -- the answer, where the frame ends
  pub ends : EndRight (open_after g.machine m.world m.state o s.made s.received s.event) s.ended
  -- a call that ends without an error has made each write that it owes
  pub writes : WritesRight g (open_after g.machine m.world m.state o s.made s.received s.event) s.ended
  -- a frame that ends has made the start that its serving left
  pub starts : StartsRight g.machine m.world (state_after g.machine m.world m.state o s.made s.received s.event) (open_after g.machine m.world m.state o s.made s.received s.event) s.ended
  -- the register or the word is there, and it is its module's
  pub there : CanApply s.made
  pub own : is_shared s.made || g.may o.origin s.made ≡ true
  -- no more steps, and no longer a window, than its bounds
  pub steps : (open_after g.machine m.world m.state o s.made s.received s.event).steps ≤ g.steps_of o.origin
  pub window : (open_after g.machine m.world m.state o s.made s.received s.event).window ≤ g.window_of o.origin

abbrev pub LegalStep : {State Call : Type 0} → Setting State Call → Moment State Call → List (Open Call) → Stepped → Type 0
LegalStep g m [] s = ⊥
LegalStep g m (o ∷ os) s = IsLegalStep g m o s

-- ---- a run

-- why a hardware event is held: a fill may be, and no device is dropped where there is none
abbrev pub order_held : {State Call : Type 0} → Setting State Call → (masked : Bool) → World → State → List (Origin Call) → Order → Option Held
order_held g masked w s origins (orders.Fill c ws) = fill_cause masked (g.fills c) (is_busy g w s origins c)
order_held g masked w s origins orders.Detach = cond (w.devices == 0) (Some Unknown) None
order_held g masked w s origins _ = None

abbrev pub hardware_held : {State Call : Type 0} → Setting State Call → Moment State Call → Order → Option Held
hardware_held g m order = order_held g (is_masked m.chip) m.world m.state (origins_of m.opens) order

-- while the watchdog's time runs no tick passes its end, and there nothing comes but its reset
abbrev pub InTime : {Call : Type 0} → (left : Option ℕ) → Transition Call → Type 0
InTime None d = Unit {0}
InTime (Some left) (Happens (orders.Tick n)) = (0 < left) × (n ≤ left)
InTime (Some left) (Resets Watchdog) = Unit {0}
InTime (Some left) _ = 0 < left

-- a deed is legal in the moment before it
abbrev pub IsLegalDeed : {State Call : Type 0} → Setting State Call → Moment State Call → Transition Call → Type 0
IsLegalDeed g m (Begins c level) = call_cause (is_masked m.chip) (tags_of m.opens) (top_noted m.opens) (g.class_of c) level ≡ None
IsLegalDeed g m (Enters l) = line_cause (is_masked m.chip) (tags_of m.opens) (g.level_of l) (is_pending m.chip l) ≡ None
IsLegalDeed g m (Steps s) = LegalStep g m m.opens s
IsLegalDeed g m (Happens order) = (hardware_held g m order ≡ None) × IsSome (g.machine.happens m.world m.state (Moves order))
IsLegalDeed g m (Resets reason) = IsSome (g.machine.happens m.world m.state (Restarts reason))

-- wherever the mask is open, each line that is due is pending
abbrev pub DueIsPending : {State Call : Type 0} → Setting State Call → Moment State Call → Type 0
DueIsPending g m = is_masked m.chip ≡ false → (l : ℕ) → g.machine.due m.world m.state l ≡ true → is_pending m.chip l ≡ true

-- and each line that no configured object uses is not
abbrev pub UnusedIsIdle : {State Call : Type 0} → Setting State Call → Moment State Call → Type 0
UnusedIsIdle g m = is_masked m.chip ≡ false → (l : ℕ) → g.used l ≡ false → is_pending m.chip l ≡ false

-- at rest no unit waits for a start, each line is pending exactly where it is due, and the rest is the machine's too
pub record IsQuiet {State Call : Type 0} (g : Setting State Call) (m : Moment State Call) : Type 0 where
  pub units : (u : units.Unit) → g.machine.startable m.world m.state u ≡ false
  pub lines : (l : ℕ) → is_pending m.chip l ≡ g.machine.due m.world m.state l
  pub rest : g.rest m.chip m.world m.state

abbrev pub QuietAtRest : {State Call : Type 0} → Setting State Call → Moment State Call → List (Open Call) → Type 0
QuietAtRest g m [] = IsQuiet g m
QuietAtRest g m (o ∷ os) = Unit {0}

-- wherever the mask is open, the outputs and user arrays are the machine's that are so at every time
abbrev pub OutputsRight : {State Call : Type 0} → Setting State Call → Moment State Call → Type 0
OutputsRight g m = is_masked m.chip ≡ false → g.unmasked m.chip m.world m.state (origins_of m.opens)

-- a frame under way has made fewer steps than its bound, and fewer moves than its window's while it is in one
pub record IsGoing {State Call : Type 0} (g : Setting State Call) (o : Open Call) : Type 0 where
  pub steps : o.steps < g.steps_of o.origin
  pub window : o.inside ≡ true → o.window < g.window_of o.origin

abbrev pub AreGoing : {State Call : Type 0} → Setting State Call → List (Open Call) → Type 0
AreGoing g [] = Unit {0}
AreGoing g (o ∷ os) = IsGoing g o × AreGoing g os

-- what holds of every moment of a legal run
pub record IsServed {State Call : Type 0} (g : Setting State Call) (m : Moment State Call) : Type 0 where
  pub due : DueIsPending g m
  pub unused : UnusedIsIdle g m
  pub outputs : OutputsRight g m
  pub quiet : QuietAtRest g m m.opens
  -- the chip's rate is the machine's, and so is the time that the watchdog has left, where it runs
  pub rate : m.chip.clock.rate ≡ g.machine.rate m.state
  pub expiry : expiry_of m.chip ≡ g.machine.expires m.world m.state
  -- and each frame under way can go on within its bounds
  pub going : AreGoing g m.opens

-- each deed is legal in the moment before it, and comes in time, and each moment is served
abbrev pub IsLegal : {State Call : Type 0} → Setting State Call → Moment State Call → List (Transition Call) → Type 0
IsLegal g m [] = IsServed g m
IsLegal g m (d ∷ ds) = IsServed g m × InTime (g.machine.expires m.world m.state) d × IsLegalDeed g m d × IsLegal g (after g m d) ds
