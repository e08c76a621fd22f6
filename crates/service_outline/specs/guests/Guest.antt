-- A guest of a driver: its calls act on the host's state, and it has none of its own.
use Rattle.std.specs.Prelude.{◌≡◌, ℕ, ◌<◌, ◌≤◌, ◌==◌, Bool, true, false, ◌&&◌, ◌||◌, List, [], ◌∷◌, Option, Some, None, option_map}
use Rattle.std.specs.List.{list_any}
use Rattle.chip_model.specs.Chip.{Chip, value_of, chip_after, is_masked}
use Rattle.chip_model.specs.declared.wiring.Wiring.{Wiring}
use Rattle.mcal_base.specs.det_errors.Reports.{Reporting}
use Rattle.mcal_base.specs.Names.{module_number}
use Rattle.mcal_base.specs.Reach.{CanApply}
use Rattle.mcal_base.specs.declared.answer.Answer.{Answer}
use Rattle.mcal_base.specs.declared.module_name.ModuleName.{ModuleName}
use Rattle.mcal_base.specs.declared.moves.Move.{Move}
use Rattle.mcal_base.specs.declared.moves.Move.TheVariants.{Write}
use Rattle.mcal_base.specs.declared.notice.Notice.{Notice}
use Rattle.mcal_base.specs.declared.register.Reg.TheVariants.{EnableSet, WatchdogLoad}
use Rattle.mcal_base.specs.declared.routine.Taken.{Taken}
use Rattle.mcal_base.specs.declared.service.Service.{Service}
use Rattle.run_model.specs.declared.class.Tag.{Tag}
use Rattle.run_model.specs.Causes.{blocks, is_exclusive, may_reenter, guarded}
use Rattle.run_model.specs.Frame.{Origin, Called, Entered, Open, opened, is_shared}
use Rattle.run_model.specs.Machine.{Happening, Acts, Serves, Starts, Aborts, Moves, Restarts, Outcome, Machine, ErrorLeaves}
use Rattle.run_model.specs.Moment.{Setting, call_tag}
use Rattle.run_model.specs.Outside.{StandsIn}
use Rattle.run_model.specs.World.{World}
use Rattle.step_runner.specs.Driver.{Driver, AllOutside, tags_in, ComesRight, KeepsStep, stepped}
use Rattle.step_runner.specs.Union.{either, EitherFits, first_call, by_origin, first_origins, Splits}
use Rattle.step_runner.specs.declared.either.Either.{Either}
use Rattle.step_runner.specs.declared.either.Either.TheVariants.{Left, Right}

-- A guest on a host of these states.
pub record Guest (State Call Frame : Type 0) : Type 1 where
  -- what the guest's value has to be, and what its calls have to be
  pub fits : Type 0
  pub can_call : Call → Type 0
  -- the module in whose block it works: its calls are guarded calls of that
  pub block : ModuleName
  pub frame_of : Call → Frame
  -- the service of a call, and how errors are reported
  pub service_of : Call → Service
  pub reporting : Reporting
  -- what comes of a call's act, which is always allowed
  pub does : World → State → Call → Outcome State
  -- the moves that a frame may make, and what one makes of the host's state
  pub may : Move → Bool
  pub moves_of : Move → State → State
  -- the most steps of a frame, and the most moves of its windows
  pub steps : ℕ
  pub window : ℕ
  -- the steps that a frame has left at most
  pub fuel : Frame → ℕ
  -- how a frame stands, whatever runs above it
  pub stands : Frame → Open Call → Type 0
  -- how the chip is wired, as far as a frame's step rests on it, which stays
  pub wired : Wiring → Type 0
  -- the chip is the machine's, as far as a frame's step rests on it
  pub sees : Chip → World → State → Type 0

-- the chip stands in its world, wired as the guest asks
abbrev pub IsPlaced : {State Call Frame : Type 0} → Guest State Call Frame → Chip → World → Type 0
IsPlaced g chip w = StandsIn chip w × g.wired chip.wiring

-- ---- the guest alone

-- nothing happens to it but that its calls act
abbrev pub lone_happens : {State Call Frame : Type 0} → Guest State Call Frame → World → State → Happening Call → Option (Outcome State)
lone_happens g w s (Acts c times) = Some (g.does w s c)
lone_happens g w s _ = None

abbrev pub lone_machine : {State Call Frame : Type 0} → Guest State Call Frame → Machine State Call
lone_machine g = record {
  happens = lone_happens g;
  ready = λ w s l. false;
  due = λ w s l. false;
  line_waits = λ w s l. false;
  startable = λ w s u. false;
  rate = λ s. 1;
  expires = λ w s. None;
  service_of = g.service_of;
  reporting = λ c. g.reporting;
  polls = λ w s c. [];
}

abbrev pub lone_setting : {State Call Frame : Type 0} → Guest State Call Frame → State → Setting State Call
lone_setting g s = record {
  machine = lone_machine g;
  first = s;
  class_of = λ c. guarded g.block;
  level_of = λ l. 1;
  owner_of = λ l. g.block;
  used = λ l. false;
  steps_of = λ o. g.steps;
  window_of = λ o. g.window;
  may = λ o made. g.may made;
  halves = λ c. None;
  must = λ c. [];
  fills = λ c. false;
  in_use = λ w s c. false;
  rest = λ chip w s. Unit {0};
  unmasked = λ chip w s origins. Unit {0};
  shows = λ origin n chip s. Unit {0};
}

-- as a driver, on a host in this state: what a step of its frames is measured by
abbrev pub lone_driver : {State Call Frame : Type 0} → Guest State Call Frame → State → Driver State Call Frame
lone_driver g s = record {
  fits = g.fits;
  can_call = g.can_call;
  setting = lone_setting g s;
  frame_of = g.frame_of;
  handler_of = λ l. None;
  wired = λ chip. Unit {0};
  relates = λ chip w ps s. Unit {0};
  fuel = g.fuel;
  room = λ f. 0;
  lines = λ l. false;
  watches = false;
  count = λ s. 0;
  owns = λ o made. g.may made;
}

-- a frame that goes on stands
abbrev pub StandsOn : {State Call Frame : Type 0} → Guest State Call Frame → Frame → Open Call → (ended : Option Answer) → Type 0
StandsOn g f o None = g.stands f o
StandsOn g f o (Some a) = Unit {0}

-- What a guest owes whose frames make these moves, and become and give this by what those give.
pub record IsGuest {State Call Frame : Type 0} (g : Guest State Call Frame) (move_of : Frame → Move) (left : Frame → ℕ → Frame) (gave : Frame → ℕ → Taken) : Type 0 where
  -- the frame of a call that begins stands
  pub begins : (s : State) (c : Call) (level : ℕ) → g.can_call c → g.stands (g.frame_of c) (opened (Called c) (call_tag (lone_setting g s) c level))
  -- a step is right where the chip is the machine's, its state is what its move makes of it, and the frame stands after it
  pub steps : (chip : Chip) (w : World) (f : Frame) (o : Open Call) (s : State) (received : ℕ) → ComesRight chip w (move_of f) received → g.stands f o → g.sees chip w s → let made = move_of f in let value = value_of chip made in let taken = gave f value in KeepsStep (lone_driver g s) (record { chip = chip; world = w; state = s; opens = []; steps = 0 }) f o (left f value) (stepped made value received taken) (λ s1 o1. (s1 ≡ g.moves_of made s) × StandsOn g (left f value) o1 taken.ended)
  -- the register or the word of its move is there, and it is one that the guest may make
  pub there : (f : Frame) (o : Open Call) → g.stands f o → CanApply (move_of f)
  pub own : (f : Frame) (o : Open Call) → g.stands f o → is_shared (move_of f) || g.may (move_of f) ≡ true
  -- no frame holds the mask closed, and each has steps left
  pub unmasked : (f : Frame) (o : Open Call) → g.stands f o → o.inside ≡ false
  pub lasts : (f : Frame) → 0 < g.fuel f
  -- what the guest may do is no shared move, enables no line, loads no watchdog and leaves the chip's rate
  pub plain : (made : Move) → g.may made ≡ true → is_shared made ≡ false
  pub enables_none : (bits : ℕ) → g.may (Write EnableSet bits) ≡ false
  pub loads_none : (value : ℕ) → g.may (Write WatchdogLoad value) ≡ false
  pub steady : (chip : Chip) (made : Move) (received : ℕ) → g.may made ≡ true → (chip_after chip made received).clock.rate ≡ chip.clock.rate
  -- a shared move leaves the host's state, and what a call makes of it some move makes of it
  pub leaves : (made : Move) (s : State) → is_shared made ≡ true → g.moves_of made s ≡ s
  pub changes : (w : World) (s : State) (c : Call) → (made : Move) × ((g.does w s c).state ≡ g.moves_of made s)
  -- an act that finds an error leaves the state as it was, and gives no notice
  pub error_leaves : (w : World) (s : State) (c : Call) → ErrorLeaves s (g.does w s c)
  -- a frame begins with no more steps than its bound
  pub call_fuel : (c : Call) → g.can_call c → g.fuel (g.frame_of c) ≤ g.steps

-- ---- the host

-- a frame of this origin keeps a guest off: it is of an exclusive call of the module
abbrev pub keeps_off : {State Call : Type 0} → Setting State Call → ModuleName → Origin Call → Bool
keeps_off g block (Called c) = module_number block == module_number (g.class_of c).module && is_exclusive (g.class_of c).kind
keeps_off g block (Entered l) = false

-- A driver lets others make these moves in its block, of which each makes this of its state: with the mask open, while no
-- frame holds it closed and none keeps a guest off, such a move keeps the relation. It gives out no number and leaves the rate.
pub record LetsIn {State Call Frame : Type 0} (d : Driver State Call Frame) (block : ModuleName) (may : Move → Bool) (moves_of : Move → State → State) : Type 0 where
  pub keeps : (chip : Chip) (w : World) (ps : List (Frame × Open Call)) (s : State) (made : Move) (received : ℕ) → may made ≡ true → is_masked chip ≡ false → AllOutside ps → may_reenter (guarded block) (tags_in ps) ≡ true → d.relates chip w ps s → d.relates (chip_after chip made received) w ps (moves_of made s)
  pub count : (made : Move) (s : State) → d.count (moves_of made s) ≤ d.count s
  pub rate : (made : Move) (s : State) → d.setting.machine.rate (moves_of made s) ≡ d.setting.machine.rate s

-- A driver has a guest: it lets its moves in, and where the mask is open and no frame keeps the guest off, what it shows of
-- the chip is what the guest rests on.
pub record Hosts {State Call Frame GuestCall GuestFrame : Type 0} (d : Driver State Call Frame) (g : Guest State GuestCall GuestFrame) : Type 0 where
  pub lets : LetsIn d g.block g.may g.moves_of
  pub shows : (chip : Chip) (w : World) (s : State) (origins : List (Origin Call)) → list_any (keeps_off d.setting g.block) origins ≡ false → IsPlaced g chip w → d.setting.unmasked chip w s origins → g.sees chip w s

-- ---- both as one

-- all lines are the host's
abbrev pub every : ℕ → Bool
every l = true

-- the guest's calls act on the host's state, and all else is the host's
abbrev pub guest_happens : {State Call GuestCall GuestFrame : Type 0} → Machine State Call → Guest State GuestCall GuestFrame → World → State → Happening (Either Call GuestCall) → Option (Outcome State)
guest_happens m g w s (Acts (Left c) times) = m.happens w s (Acts c times)
guest_happens m g w s (Acts (Right c) times) = Some (g.does w s c)
guest_happens m g w s (Serves l r) = m.happens w s (Serves l r)
guest_happens m g w s (Starts u by r) = m.happens w s (Starts u (first_call by) r)
guest_happens m g w s (Aborts u) = m.happens w s (Aborts u)
guest_happens m g w s (Moves order) = m.happens w s (Moves order)
guest_happens m g w s (Restarts reason) = m.happens w s (Restarts reason)

abbrev pub guest_machine : {State Call GuestCall GuestFrame : Type 0} → Machine State Call → Guest State GuestCall GuestFrame → Machine State (Either Call GuestCall)
guest_machine m g = record {
  happens = guest_happens m g;
  ready = m.ready;
  due = m.due;
  line_waits = m.line_waits;
  startable = m.startable;
  rate = m.rate;
  expires = m.expires;
  service_of = either m.service_of g.service_of;
  reporting = either m.reporting (λ c. g.reporting);
  polls = λ w s c. either (m.polls w s) (λ x. []) c;
}

-- what a frame of the host shows
abbrev pub GuestShows : {State Call GuestCall : Type 0} → (Origin Call → Notice → Chip → State → Type 0) → Origin (Either Call GuestCall) → Notice → Chip → State → Type 0
GuestShows shows (Called (Left c)) n chip s = shows (Called c) n chip s
GuestShows shows (Called (Right c)) n chip s = Unit {0}
GuestShows shows (Entered l) n chip s = shows (Entered l) n chip s

abbrev pub guest_setting : {State Call GuestCall GuestFrame : Type 0} → Setting State Call → Guest State GuestCall GuestFrame → Setting State (Either Call GuestCall)
guest_setting h g = record {
  machine = guest_machine h.machine g;
  first = h.first;
  class_of = either h.class_of (λ c. guarded g.block);
  level_of = h.level_of;
  owner_of = h.owner_of;
  used = h.used;
  steps_of = by_origin every h.steps_of (λ o. g.steps);
  window_of = by_origin every h.window_of (λ o. g.window);
  may = by_origin every h.may (λ o made. g.may made);
  halves = either h.halves (λ c. None);
  must = either h.must (λ c. []);
  fills = h.fills;
  in_use = h.in_use;
  rest = h.rest;
  unmasked = λ chip w s origins. h.unmasked chip w s (first_origins every origins);
  shows = GuestShows h.shows;
}

-- a host's frame is tagged as its origin says
abbrev pub AreMarked : {State Call Frame : Type 0} → Setting State Call → ModuleName → List (Frame × Open Call) → Type 0
AreMarked g block [] = Unit {0}
AreMarked g block (p ∷ ps) = (blocks (guarded block) p.1.tag ≡ keeps_off g block p.1.origin) × AreMarked g block ps

-- the tag of a guest's frame
pub record IsGuestTag (block : ModuleName) (tag : Tag) : Type 0 where
  pub owner : tag.owner ≡ block
  pub class : tag.class ≡ Some (guarded block)

abbrev pub AllStand : {State Call Frame : Type 0} → Guest State Call Frame → List (Frame × Open Call) → Type 0
AllStand g [] = Unit {0}
AllStand g (p ∷ ps) = g.stands p.0 p.1 × IsGuestTag g.block p.1.tag × AllStand g ps

-- while a frame of the guest is there, no frame of the host keeps the guest off
abbrev pub NoneOff : {Call Frame GuestCall GuestFrame : Type 0} → ModuleName → (hosts : List (Frame × Open Call)) → (guests : List (GuestFrame × Open GuestCall)) → Type 0
NoneOff block hosts [] = Unit {0}
NoneOff block hosts (p ∷ ps) = may_reenter (guarded block) (tags_in hosts) ≡ true

-- chip and frames stand for the host's state
pub record GuestRelates {State Call Frame GuestCall GuestFrame : Type 0} (d : Driver State Call Frame) (g : Guest State GuestCall GuestFrame) (chip : Chip) (w : World) (ps : List (Either Frame GuestFrame × Open (Either Call GuestCall))) (s : State) : Type 0 where
  pub hosts : List (Frame × Open Call)
  pub guests : List (GuestFrame × Open GuestCall)
  pub splits : Splits every ps hosts guests
  pub host : d.relates chip w hosts s
  pub marked : AreMarked d.setting g.block hosts
  pub stand : AllStand g guests
  pub apart : NoneOff g.block hosts guests
  pub placed : IsPlaced g chip w

-- the host with its guest
abbrev pub guest_of : {State Call Frame GuestCall GuestFrame : Type 0} → Driver State Call Frame → Guest State GuestCall GuestFrame → Driver State (Either Call GuestCall) (Either Frame GuestFrame)
guest_of d g = record {
  fits = d.fits × g.fits × Hosts d g;
  can_call = EitherFits d.can_call g.can_call;
  setting = guest_setting d.setting g;
  frame_of = λ c. either (λ x. Left (d.frame_of x)) (λ y. Right (g.frame_of y)) c;
  handler_of = λ l. option_map Left (d.handler_of l);
  wired = λ chip. d.wired chip × g.wired chip.wiring;
  relates = GuestRelates d g;
  fuel = either d.fuel g.fuel;
  room = either d.room (λ f. 0);
  lines = d.lines;
  watches = d.watches;
  count = d.count;
  owns = by_origin every d.owns (λ o made. g.may made);
}
