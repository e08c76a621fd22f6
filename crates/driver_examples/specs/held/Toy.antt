-- A toy module whose frames hold something while the mask is open: a section that is filled word by word, the promise of a
-- start, and the pin of a bank that is copied.
use Rattle.std.specs.Prelude.{◌≡◌, ◌≢◌, ℕ, ◌+◌, ◌*◌, ◌<◌, ◌==◌, nat_lt, Bool, true, false, ◌&&◌, ◌||◌, not, List, [], ◌∷◌, Option, Some, None, if◌then◌else◌, slice_index_or}
use Rattle.chip_model.specs.Chip.{Chip, word_of}
use Rattle.chip_model.specs.Histories.{HasAll}
use Rattle.mcal_base.specs.det_errors.Reports.{Reporting}
use Rattle.mcal_base.specs.declared.answer.Answer.{Answer}
use Rattle.mcal_base.specs.declared.error_name.ErrorName.TheVariants.{McuParamRamsection, AdcIdle}
use Rattle.mcal_base.specs.declared.module_name.ModuleName.TheVariants.{Mcu}
use Rattle.mcal_base.specs.declared.moves.Event.TheVariants.{Act, Serve, Start}
use Rattle.mcal_base.specs.declared.moves.Move.{Move}
use Rattle.mcal_base.specs.declared.moves.Move.TheVariants.{Read, Write, Load, Store, Mask, Unmask, Note}
use Rattle.mcal_base.specs.declared.moves.Unit as units
use Rattle.mcal_base.specs.declared.moves.Unit.TheVariants.{Adc0, Adc1, Spi0, Spi1}
use Rattle.mcal_base.specs.declared.notice.Notice.{Notice}
use Rattle.mcal_base.specs.declared.notice.NoticeKind.TheVariants.{AdcNotification}
use Rattle.mcal_base.specs.declared.register.Reg.{Reg}
use Rattle.mcal_base.specs.declared.register.Reg.TheVariants.{ConverterGo, ResetRequest}
use Rattle.mcal_base.specs.declared.service.Service.{Service}
use Rattle.mcal_base.specs.declared.service.Service.TheVariants.{McuInitRamSection, McuPerformReset, AdcReadGroup}
use Rattle.run_model.specs.declared.class.Class.{Class}
use Rattle.run_model.specs.declared.class.Kind.{Kind}
use Rattle.run_model.specs.declared.class.Kind.TheVariants.{Exclusive, Keyed, Guarded}
use Rattle.run_model.specs.declared.class.KeyKind.{KeyKind}
use Rattle.run_model.specs.declared.class.KeyKind.TheVariants.{Section, Group}
use Rattle.run_model.specs.World.{World}
use Rattle.run_model.specs.Machine.{Happening, Acts, Serves, Starts, Aborts, Moves, Restarts, Told, Outcome, Machine, no_answer, tells_nothing, outcome, numbers, tells_error}
use Rattle.run_model.specs.Frame.{Origin, Called}
use Rattle.run_model.specs.Moment.{Setting}
use Rattle.service_outline.specs.declared.body.Looked.{Looked}
use Rattle.service_outline.specs.declared.body.Looked.TheVariants.{Refused, Goes}
use Rattle.service_outline.specs.declared.body.Or.{Or}
use Rattle.service_outline.specs.declared.body.Or.TheVariants.{First, Second}
use Rattle.service_outline.specs.declared.done.BodyTaken.{BodyTaken}
use Rattle.service_outline.specs.declared.done.Epilogue.TheVariants.{Nothing}
use Rattle.service_outline.specs.declared.sweep.SweepStage.TheVariants.{Opens}
use Rattle.service_outline.specs.declared.sweep.Sweep.{Sweep}
use Rattle.service_outline.specs.Both.{both}
use Rattle.service_outline.specs.Done.{goes, acts, ends, owed_error}
use Rattle.service_outline.specs.DeferredWrites.{DeferredWrites, Under, deferring_writes, Windows, windows}
use Rattle.service_outline.specs.FrameHistory.{FrameHistory, fresh_history, IsThisFrame}
use Rattle.service_outline.specs.Services.{ReservedBy, SharedRefinement, PointAssertion, Within, Outside, LongBodies, Services}
use Rattle.service_outline.specs.WindowHistory.{Plain}
use Rattle.service_outline.specs.SweepServices.{Sweeping, sweep}
use Rattle.driver_examples.specs.declared.held.asking.Asking.{Asking}
use Rattle.driver_examples.specs.declared.held.asking.Asking.TheVariants.{Want, OpenOnce, Tell, ShutAgain, Look, Go, Unmark}
use Rattle.driver_examples.specs.declared.held.call.Call.{Call}
use Rattle.driver_examples.specs.declared.held.call.Call.TheVariants.{Fill, Ask, Put, Take, Poll, Reboot}
use Rattle.driver_examples.specs.declared.held.filling.Filled.{Filled}
use Rattle.driver_examples.specs.declared.held.filling.Filled.TheVariants as fills
use Rattle.driver_examples.specs.declared.held.filling.Job.{Job}
use Rattle.driver_examples.specs.declared.held.keeping.Putting.{Putting}
use Rattle.driver_examples.specs.declared.held.keeping.Putting.TheVariants as puts
use Rattle.driver_examples.specs.declared.held.keeping.Taking.{Taking}
use Rattle.driver_examples.specs.declared.held.keeping.Taking.TheVariants.{Newest, Pin, Open, Copy, Again, Shut, Release, Leave, Over}
use Rattle.driver_examples.specs.declared.held.polling.Polling.{Polling}
use Rattle.driver_examples.specs.declared.held.polling.Polling.TheVariants as polls
use Rattle.driver_examples.specs.declared.held.rebooting.Rebooting.{Rebooting}
use Rattle.driver_examples.specs.declared.held.rebooting.Rebooting.TheVariants.{Reset}

-- ---- the machine

pub record State : Type 0 where
  -- the value of each section
  pub sections : List ℕ
  -- the unit waits for its start
  pub waiting : Bool
  -- the value that was kept last
  pub kept : Option ℕ

abbrev pub first_state : State
first_state = record { sections = 0 ∷ 0 ∷ 0 ∷ 0 ∷ []; waiting = false; kept = None }

abbrev pub cells_of : State → ℕ → ℕ
cells_of s c = slice_index_or s.sections c 0

abbrev pub table : (ℕ → ℕ) → List ℕ
table f = f 0 ∷ f 1 ∷ f 2 ∷ f 3 ∷ []

abbrev pub put : (ℕ → ℕ) → ℕ → ℕ → ℕ → ℕ
put f n v c = if c == n then v else f c

abbrev pub filled : State → ℕ → ℕ → State
filled s n v = record s { sections = table (put (cells_of s) n v) }

abbrev pub notice : Notice
notice = record { kind = AdcNotification; id = 0 }

abbrev pub tells_notice : Told
tells_notice = record { answer = no_answer; error = None; notices = notice ∷ [] }

-- what filling a section and taking a value give
abbrev pub fills_by : State → ℕ → ℕ → Bool → Outcome State
fills_by s n v true = outcome (filled s n v) tells_nothing
fills_by s n v false = outcome s (tells_error no_answer McuParamRamsection)

-- the answer that is these numbers, and the one that is a value, twice
abbrev pub both_read : ℕ → ℕ → Answer
both_read x y = numbers (x ∷ y ∷ [])

abbrev pub twice : ℕ → Answer
twice v = both_read v v

abbrev pub tells_kept : Option ℕ → Told
tells_kept None = tells_error no_answer AdcIdle
tells_kept (Some v) = record { answer = twice v; error = None; notices = [] }

abbrev pub starts_by : State → Bool → Option (Outcome State)
starts_by s true = Some (outcome (record s { waiting = false }) tells_nothing)
starts_by s false = None

abbrev pub happens : World → State → Happening Call → Option (Outcome State)
happens w s (Acts (Fill n v) times) = Some (fills_by s n v (nat_lt n 4))
happens w s (Acts Ask times) = Some (outcome (record s { waiting = true }) tells_notice)
happens w s (Acts (Put v) times) = Some (outcome (record s { kept = Some v }) tells_nothing)
happens w s (Acts Take times) = Some (outcome s (tells_kept s.kept))
happens w s (Acts Poll times) = Some (outcome s tells_nothing)
happens w s (Acts Reboot times) = Some (outcome s tells_nothing)
happens w s (Serves l x) = if l == 0 then Some (outcome s tells_nothing) else None
happens w s (Starts Adc0 made_by x) = starts_by s s.waiting
happens w s (Starts Adc1 made_by x) = None
happens w s (Starts Spi0 made_by x) = None
happens w s (Starts Spi1 made_by x) = None
happens w s (Aborts u) = None
happens w s (Moves order) = Some (outcome s tells_nothing)
happens w s (Restarts reason) = Some (outcome first_state tells_nothing)

abbrev pub startable : World → State → units.Unit → Bool
startable w s Adc0 = s.waiting
startable w s Adc1 = false
startable w s Spi0 = false
startable w s Spi1 = false

abbrev pub service_of : Call → Service
service_of Reboot = McuPerformReset
service_of Take = AdcReadGroup
service_of _ = McuInitRamSection

abbrev pub polls_of : Call → List ℕ
polls_of Poll = 0 ∷ []
polls_of _ = []

abbrev pub reporting : Reporting
reporting = record { detect = true; classification = 2 }

abbrev pub machine : Machine State Call
machine = record {
  happens = happens;
  ready = λ w s l. true;
  due = λ w s l. false;
  startable = startable;
  line_waits = λ w s l. false;
  rate = λ s. 1;
  expires = λ w s. None;
  service_of = service_of;
  reporting = λ c. reporting;
  polls = λ w s c. polls_of c;
}

-- ---- the setting

abbrev pub keyed : KeyKind → ℕ → Class
keyed k n = record { kind = Keyed; «module» = Mcu; key = Some (record { kind = k; number = n }) }

-- a class without a key
abbrev pub whole : Kind → Class
whole k = record { kind = k; «module» = Mcu; key = None }

abbrev pub class_of : Call → Class
class_of (Fill n v) = keyed Section n
class_of Ask = whole Guarded
class_of (Put v) = whole Guarded
class_of Take = keyed Group 0
class_of Poll = whole Guarded
class_of Reboot = whole Exclusive

-- the words of the module, and its registers
abbrev pub is_own_word : ℕ → Bool
is_own_word k = not (nat_lt k 32768) && nat_lt k 32832

abbrev pub is_own_register : Reg → Bool
is_own_register (ConverterGo u) = u == 0
is_own_register ResetRequest = true
is_own_register _ = false

abbrev pub owns : Move → Bool
owns (Read r) = is_own_register r
owns (Write r v) = is_own_register r
owns (Load k) = is_own_word k
owns (Store k v) = is_own_word k
owns _ = false

abbrev pub setting : Setting State Call
setting = record {
  machine = machine;
  first = first_state;
  class_of = class_of;
  level_of = λ l. 1;
  owner_of = λ l. Mcu;
  used = λ l. false;
  steps_of = λ o. 64;
  window_of = λ o. 16;
  may = λ o made. owns made;
  halves = λ c. None;
  must = λ call. [];
  fills = λ c. false;
  in_use = λ w s c. false;
  rest = λ chip w s. Unit {0};
  unmasked = λ chip w s origins. Unit {0};
  shows = λ origin n chip s. Unit {0};
}

-- ---- what is held, and the agreement

pub data Reservation : Type 0 where
  -- the words below this place of the section have the value already
  Part : (section value upto : ℕ) → Reservation
  -- the start that is possible will be made
  Promise : Reservation
  -- this bank stays as it is, and has what the frame answered
  Pinned : (bank : ℕ) → Reservation

abbrev pub Reservations : Type 0
Reservations = List (ReservedBy Call Reservation)

-- the words: of a section, whether the unit waits, the state, the newest bank and the pinned one, each + 1, and a bank
abbrev pub cell : ℕ → ℕ → ℕ
cell c j = 32768 + 8 * c + j

abbrev pub MARK : ℕ
MARK = 32808

abbrev pub STATE : ℕ
STATE = 32809

abbrev pub NEWEST : ℕ
NEWEST = 32810

abbrev pub PIN : ℕ
PIN = 32811

abbrev pub bank : ℕ → ℕ
bank b = 32812 + b

abbrev pub flag : Bool → ℕ
flag true = 1
flag false = 0

-- what a word of a section holds, where it held this but for one frame, and with all that is held
abbrev pub want_by : Reservation → ℕ → ℕ → ℕ → ℕ
want_by (Part n v i) old c j = if c == n && nat_lt j i then v else old
want_by Promise old c j = old
want_by (Pinned b) old c j = old

abbrev pub want : Reservations → (ℕ → ℕ) → ℕ → ℕ → ℕ
want [] f c j = f c
want (h ∷ hs) f c j = want_by h.what (want hs f c j) c j

abbrev pub is_promise : Reservation → Bool
is_promise (Part n v i) = false
is_promise Promise = true
is_promise (Pinned b) = false

-- some frame has promised the start
abbrev pub promised : Reservations → Bool
promised [] = false
promised (h ∷ hs) = is_promise h.what || promised hs

-- what is held is the frame's; a pinned bank has what the frame answered
abbrev pub HeldRight : Chip → ReservedBy Call Reservation → Reservation → Type 0
HeldRight chip h (Part n v i) = h.by ≡ Called (Fill n v)
HeldRight chip h Promise = Unit {0}
HeldRight chip h (Pinned b) = (h.by ≡ Called Take) × (b < 2) × (word_of chip PIN ≡ 1 + b) × (h.acted ≡ Some (twice (word_of chip (bank b))))

abbrev pub AllRight : Chip → Reservations → Type 0
AllRight chip [] = Unit {0}
AllRight chip (h ∷ hs) = HeldRight chip h h.what × AllRight chip hs

-- what the top frame has under work: nothing, or the mark
pub data Work : Type 0 where
  Settled : Work
  Marking : Work

abbrev pub MarkAgrees : Work → Chip → Bool → Type 0
MarkAgrees Settled chip waiting = word_of chip MARK ≡ flag waiting
MarkAgrees Marking chip waiting = Unit {0}

-- the newest bank has the value that was kept last
abbrev pub IsKept : Chip → Option ℕ → Type 0
IsKept chip None = word_of chip NEWEST ≡ 0
IsKept chip (Some v) = (b : ℕ) × (b < 2) × (word_of chip NEWEST ≡ 1 + b) × (word_of chip (bank b) ≡ v)

abbrev pub KeptAgrees : Work → Chip → Option ℕ → Type 0
KeptAgrees Settled chip kept = IsKept chip kept
KeptAgrees Marking chip kept = IsKept chip kept

-- the words agree with the state and with what is held, but for what is under work
pub record Agrees (held : Reservations) (work : Work) (chip : Chip) (w : World) (s : State) : Type 0 where
  pub right : AllRight chip held
  pub all : HasAll chip
  pub cells : (c j : ℕ) → c < 4 → j < 8 → word_of chip (cell c j) ≡ want held (cells_of s) c j
  pub mark : MarkAgrees work chip s.waiting
  pub kept : KeptAgrees work chip s.kept
  pub starts : s.waiting ≡ true → promised held ≡ true

-- of the chip the places see which bank is the newest, and which is pinned
abbrev pub bare : SharedRefinement State Call
bare = record {
  setting = setting;
  wired = λ chip. Unit {0};
  lines = λ l. false;
  watches = false;
  owns = λ o made. owns made;
  count = λ s. 0;
  later = λ w s order. s;
  Lag = Work;
  settled = Settled;
  Reservation = Reservation;
  represents = Agrees;
  Footprint = ℕ × ℕ;
  foot = λ chip. (word_of chip NEWEST, word_of chip PIN);
}

-- the store that a frame owes its window: this bank becomes the newest
abbrev pub is_publishing : Move → Bool
is_publishing (Store k v) = k == NEWEST
is_publishing _ = false

abbrev pub publishing : DeferredWrites ℕ
publishing = record { own = is_publishing; fits = λ b chip. Unit {0}; move = λ b. Store NEWEST (1 + b); left = λ b x. None; more = λ b. 0 }

abbrev pub basis : SharedRefinement State Call
basis = deferring_writes bare publishing

-- ---- a section is filled: a sweep of eight words, and then the act

abbrev pub job_count : Job → ℕ
job_count r = 8

abbrev pub job_move : Job → ℕ → Move
job_move r i = Store (cell r.section i) r.value

abbrev pub job_after : Job → Filled
job_after r = fills.Act r

abbrev pub filled_work : Filled → Move
filled_work k = Load STATE

abbrev pub filled_takes : Filled → ℕ → Filled × BodyTaken
filled_takes k x = (k, ends (Some Act) no_answer Nothing)

-- nothing of the section is held
abbrev pub is_of : ℕ → Reservation → Bool
is_of c (Part n v i) = c == n
is_of c Promise = false
is_of c (Pinned b) = false

abbrev pub Free : ℕ → Reservations → Type 0
Free c [] = Unit {0}
Free c (h ∷ hs) = (is_of c h.what ≡ false) × Free c hs

abbrev pub IsFilling : Job → Reservations → Origin Call → FrameHistory → Type 0
IsFilling r below o p = IsThisFrame (Called (Fill r.section r.value)) fresh_history o p × (r.section < 4) × Free r.section below

abbrev pub part : Job → ℕ → List Reservation
part r i = Part r.section r.value i ∷ []

abbrev pub filling : Sweeping basis Job Filled
filling = record { count = job_count; move = job_move; after = job_after; hold = part; place = IsFilling }

abbrev pub filled_spot : Filled → PointAssertion basis
filled_spot (fills.Act r) = Within (Under Settled) (part r 8) (λ below f w s o p. IsFilling r below o p)

abbrev pub filled_bodies : LongBodies basis Filled
filled_bodies = record { work_of = filled_work; takes = filled_takes; fuel = λ k. 1; room = λ k. 1; clean = λ k. false; assertion = filled_spot }

abbrev pub fill_bodies : LongBodies basis (Sweep Job Filled)
fill_bodies = sweep filling filled_bodies

-- ---- a unit is asked: the act, its notice, and the start that is possible

abbrev pub ask_work : Asking → Move
ask_work Want = Store MARK 1
ask_work OpenOnce = Unmask
ask_work Tell = Note notice
ask_work ShutAgain = Mask
ask_work Look = Load MARK
ask_work Go = Write (ConverterGo 0) 1
ask_work Unmark = Store MARK 0

abbrev pub look_takes : Bool → Asking × BodyTaken
look_takes true = (Look, ends None no_answer Nothing)
look_takes false = (Go, goes)

-- the start of the unit
abbrev pub starts : BodyTaken
starts = record { event = Some (Start Adc0); done = None }

abbrev pub ask_takes : Asking → ℕ → Asking × BodyTaken
ask_takes Want x = (OpenOnce, acts)
ask_takes OpenOnce x = (Tell, goes)
ask_takes Tell x = (ShutAgain, goes)
ask_takes ShutAgain x = (Look, goes)
ask_takes Look x = look_takes (x == 0)
ask_takes Go x = (Unmark, starts)
ask_takes Unmark x = (Unmark, ends None no_answer Nothing)

abbrev pub ask_fuel : Asking → ℕ
ask_fuel Want = 7
ask_fuel OpenOnce = 6
ask_fuel Tell = 5
ask_fuel ShutAgain = 4
ask_fuel Look = 3
ask_fuel Go = 2
ask_fuel Unmark = 1

abbrev pub ask_room : Asking → ℕ
ask_room Want = 1
ask_room OpenOnce = 0
ask_room Tell = 0
ask_room ShutAgain = 0
ask_room Look = 3
ask_room Go = 2
ask_room Unmark = 1

-- the frame's past after its act, and after its notice
abbrev pub promised_notice : FrameHistory
promised_notice = record fresh_history { acted = Some no_answer; owed = record { notice = notice; served = false } ∷ [] }

abbrev pub told_all : FrameHistory
told_all = record fresh_history { acted = Some no_answer }

-- from its act to its start the frame has promised
abbrev pub promise : List Reservation
promise = Promise ∷ []

abbrev pub ask_spot : Asking → PointAssertion basis
ask_spot Want = Within (Under Settled) [] (λ below f w s o p. IsThisFrame (Called Ask) fresh_history o p)
ask_spot OpenOnce = Within (Under Settled) promise (λ below f w s o p. IsThisFrame (Called Ask) promised_notice o p)
ask_spot Tell = Outside promise (λ below o p. IsThisFrame (Called Ask) promised_notice o p)
ask_spot ShutAgain = Outside promise (λ below o p. IsThisFrame (Called Ask) told_all o p)
ask_spot Look = Within (Under Settled) promise (λ below f w s o p. IsThisFrame (Called Ask) told_all o p)
ask_spot Go = Within (Under Settled) promise (λ below f w s o p. IsThisFrame (Called Ask) told_all o p × (s.waiting ≡ true))
ask_spot Unmark = Within (Under Marking) [] (λ below f w s o p. IsThisFrame (Called Ask) told_all o p × (s.waiting ≡ false))

abbrev pub ask_bodies : LongBodies basis Asking
ask_bodies = record { work_of = ask_work; takes = ask_takes; fuel = ask_fuel; room = ask_room; clean = λ k. false; assertion = ask_spot }

-- ---- a value is kept, in the bank that isn't pinned

abbrev pub put_work : Putting → Move
put_work (puts.Look v) = Load PIN
put_work (puts.Keep b v) = Store (bank b) v
put_work (puts.Publish b) = Store NEWEST (1 + b)

abbrev pub put_takes : Putting → ℕ → Putting × BodyTaken
put_takes (puts.Look v) x = if x == 1 then (puts.Keep 1 v, goes) else (puts.Keep 0 v, goes)
put_takes (puts.Keep b v) x = (puts.Publish b, acts)
put_takes (puts.Publish b) x = (puts.Publish b, ends None no_answer Nothing)

abbrev pub put_fuel : Putting → ℕ
put_fuel (puts.Look v) = 3
put_fuel (puts.Keep b v) = 2
put_fuel (puts.Publish b) = 1

abbrev pub put_spot : Putting → PointAssertion basis
put_spot (puts.Look v) = Within (Under Settled) [] (λ below f w s o p. IsThisFrame (Called (Put v)) fresh_history o p)
put_spot (puts.Keep b v) = Within (Under Settled) [] (λ below f w s o p. IsThisFrame (Called (Put v)) fresh_history o p × (b < 2) × (f.1 ≢ 1 + b))
put_spot (puts.Publish b) = Outside [] (λ below o p. ⊥)

-- after its act the frame owes the store
abbrev pub put_owes : Putting → Option ℕ
put_owes (puts.Publish b) = Some b
put_owes _ = None

abbrev pub put_windows : Windows bare ℕ (Unit {0}) Putting publishing
put_windows = record {
  bodies = record { work_of = put_work; takes = put_takes; fuel = put_fuel; room = put_fuel; clean = λ k. false; assertion = put_spot };
  owes = put_owes;
  about = λ b. tt;
  hold = λ a. [];
  place = λ a below o p. (v : ℕ) × IsThisFrame (Called (Put v)) told_all o p;
  steps_after = λ a. 0;
  room_after = λ a. 0;
}

abbrev pub put_bodies : LongBodies basis Putting
put_bodies = windows put_windows

-- ---- the value is taken: its bank is pinned at the act, and read twice with the mask open. The frame ends with what was read

abbrev pub take_work : Taking → Move
take_work Newest = Load NEWEST
take_work (Pin b) = Store PIN (1 + b)
take_work (Open b) = Unmask
take_work (Copy b) = Load (bank b)
take_work (Again b x) = Load (bank b)
take_work (Shut b x y) = Mask
take_work (Release b x y) = Store PIN 0
take_work (Leave x y) = Unmask
take_work (Over x y) = Load STATE

-- the bank that a word names
abbrev pub named : ℕ → ℕ
named x = if x == 1 then 0 else 1

abbrev pub none_kept : BodyTaken
none_kept = ends (Some Act) no_answer (owed_error reporting AdcReadGroup AdcIdle)

abbrev pub take_takes : Taking → ℕ → Taking × BodyTaken
take_takes Newest x = if x == 0 then (Newest, none_kept) else (Pin (named x), goes)
take_takes (Pin b) x = (Open b, acts)
take_takes (Open b) x = (Copy b, goes)
take_takes (Copy b) x = (Again b x, goes)
take_takes (Again b y) x = (Shut b y x, goes)
take_takes (Shut b y z) x = (Release b y z, goes)
take_takes (Release b y z) x = (Leave y z, goes)
take_takes (Leave y z) x = (Over y z, goes)
take_takes (Over y z) x = (Over y z, ends None no_answer Nothing)

-- what it ends its frame with
abbrev pub take_ends : Taking → Option Answer
take_ends (Over x y) = Some (both_read x y)
take_ends _ = None

abbrev pub take_fuel : Taking → ℕ
take_fuel Newest = 9
take_fuel (Pin b) = 8
take_fuel (Open b) = 7
take_fuel (Copy b) = 6
take_fuel (Again b x) = 5
take_fuel (Shut b x y) = 4
take_fuel (Release b x y) = 3
take_fuel (Leave x y) = 2
take_fuel (Over x y) = 1

abbrev pub take_room : Taking → ℕ
take_room Newest = 2
take_room (Pin b) = 1
take_room (Open b) = 0
take_room (Copy b) = 0
take_room (Again b x) = 0
take_room (Shut b x y) = 0
take_room (Release b x y) = 1
take_room (Leave x y) = 0
take_room (Over x y) = 0

-- where it may find that nothing is kept it has only loaded a word
abbrev pub take_clean : Taking → Bool
take_clean Newest = true
take_clean _ = false

-- no frame below has pinned a bank
abbrev pub is_pin : Reservation → Bool
is_pin (Part n v i) = false
is_pin Promise = false
is_pin (Pinned b) = true

abbrev pub NonePinned : Reservations → Type 0
NonePinned [] = Unit {0}
NonePinned (h ∷ hs) = (is_pin h.what ≡ false) × NonePinned hs

abbrev pub answered : Answer → FrameHistory
answered a = record fresh_history { acted = Some a }

-- it has answered this
abbrev pub IsTaking : Answer → Reservations → Origin Call → FrameHistory → Type 0
IsTaking a below o p = IsThisFrame (Called Take) (answered a) o p × NonePinned below

abbrev pub pinned : ℕ → List Reservation
pinned b = Pinned b ∷ []

abbrev pub take_spot : Taking → PointAssertion basis
take_spot Newest = Within (Under Settled) [] (λ below f w s o p. IsThisFrame (Called Take) fresh_history o p × NonePinned below)
take_spot (Pin b) = Within (Under Settled) [] (λ below f w s o p. IsThisFrame (Called Take) fresh_history o p × NonePinned below × (b < 2) × (f.0 ≡ 1 + b))
take_spot (Open b) = Within (Under Settled) (pinned b) (λ below f w s o p. (v : ℕ) × IsTaking (twice v) below o p)
take_spot (Copy b) = Outside (pinned b) (λ below o p. (b < 2) × (v : ℕ) × IsTaking (twice v) below o p)
take_spot (Again b x) = Outside (pinned b) (λ below o p. (b < 2) × IsTaking (twice x) below o p)
take_spot (Shut b x y) = Outside (pinned b) (λ below o p. IsTaking (both_read x y) below o p)
take_spot (Release b x y) = Within (Under Settled) (pinned b) (λ below f w s o p. IsTaking (both_read x y) below o p)
take_spot (Leave x y) = Within (Under Settled) [] (λ below f w s o p. IsTaking (both_read x y) below o p)
take_spot (Over x y) = Outside [] (λ below o p. ⊥)

abbrev pub take_bodies : LongBodies basis Taking
take_bodies = record { work_of = take_work; takes = take_takes; fuel = take_fuel; room = take_room; clean = take_clean; assertion = take_spot }

-- ---- a line is polled

abbrev pub poll_work : Polling → Move
poll_work k = Load STATE

abbrev pub poll_takes : Polling → ℕ → Polling × BodyTaken
poll_takes polls.Act x = (polls.Serve, acts)
poll_takes polls.Serve x = (polls.Serve, ends (Some (Serve 0)) no_answer Nothing)

abbrev pub poll_fuel : Polling → ℕ
poll_fuel polls.Act = 2
poll_fuel polls.Serve = 1

-- its past after its act: it polls the line
abbrev pub polling : FrameHistory
polling = record fresh_history { acted = Some no_answer; polled = 0 ∷ [] }

abbrev pub poll_spot : Polling → PointAssertion basis
poll_spot polls.Act = Within (Under Settled) [] (λ below f w s o p. IsThisFrame (Called Poll) fresh_history o p)
poll_spot polls.Serve = Within (Under Settled) [] (λ below f w s o p. IsThisFrame (Called Poll) polling o p)

abbrev pub poll_bodies : LongBodies basis Polling
poll_bodies = record { work_of = poll_work; takes = poll_takes; fuel = poll_fuel; room = poll_fuel; clean = λ k. false; assertion = poll_spot }

-- ---- the chip is reset

abbrev pub reboot_takes : Rebooting → ℕ → Rebooting × BodyTaken
reboot_takes Reset x = (Reset, ends (Some Act) no_answer Nothing)

abbrev pub reboot_work : Rebooting → Move
reboot_work Reset = Write ResetRequest 1

abbrev pub reboot_spot : Rebooting → PointAssertion basis
reboot_spot Reset = Within (Under Settled) [] (λ below f w s o p. IsThisFrame (Called Reboot) fresh_history o p)

abbrev pub reboot_bodies : LongBodies basis Rebooting
reboot_bodies = record { work_of = reboot_work; takes = reboot_takes; fuel = λ k. 1; room = λ k. 1; clean = λ k. false; assertion = reboot_spot }

-- ---- the driver

abbrev pub Body : Type 0
Body = Or (Or (Sweep Job Filled) Asking) (Or (Or Putting Taking) (Or Polling Rebooting))

abbrev pub fill_looked : ℕ → ℕ → Bool → Looked Body
fill_looked n v true = Goes (First (First (record { objects = record { section = n; value = v }; place = Opens })))
fill_looked n v false = Refused (record { answer = no_answer; owed = owed_error reporting McuInitRamSection McuParamRamsection })

abbrev pub looked : Call → ℕ → Looked Body
looked (Fill n v) x = fill_looked n v (nat_lt n 4)
looked Ask x = Goes (First (Second Want))
looked (Put v) x = Goes (Second (First (First (puts.Look v))))
looked Take x = Goes (Second (First (Second Newest)))
looked Poll x = Goes (Second (Second (First polls.Act)))
looked Reboot x = Goes (Second (Second (Second Reset)))

-- what bodies end their frame with
abbrev pub ends_with : Body → Option Answer
ends_with (First k) = None
ends_with (Second (First (First k))) = None
ends_with (Second (First (Second k))) = take_ends k
ends_with (Second (Second k)) = None

abbrev pub toy : Services State Call Call Body
toy = record {
  basis = basis;
  bodies = both (both fill_bodies ask_bodies) (both (both put_bodies take_bodies) (both poll_bodies reboot_bodies));
  fits = Unit {0};
  can = λ c. Unit {0};
  seen = λ k. Plain;
  written = λ k c writes. Unit {0};
  word = STATE;
  asked = λ c. c;
  looked = looked;
  most = λ c. 12;
  wide = λ c. 3;
  body_of = λ l. None;
}
