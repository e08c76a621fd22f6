-- Moves that a frame still owes its window. After its event a window makes moves that are fixed, but for the values that it
-- loads; hardware may move between any two of them. Once all are made the words and registers agree with the state.
use Rattle.std.specs.Prelude.{◌≡◌, ℕ, zero, suc, ◌+◌, ◌<◌, ◌≤◌, Bool, true, false, ◌||◌, List, Option, Some, None}
use Rattle.chip_model.specs.Chip.{Chip, value_of, chip_after, expiry_of, happened, reset_chip, is_masked}
use Rattle.mcal_base.specs.declared.answer.Answer.{Answer}
use Rattle.mcal_base.specs.declared.directive.Order.{Order}
use Rattle.mcal_base.specs.declared.directive.Order.TheVariants.{Fill}
use Rattle.mcal_base.specs.declared.directive.Reason.{Reason}
use Rattle.mcal_base.specs.declared.moves.Move.{Move}
use Rattle.mcal_base.specs.declared.moves.Move.TheVariants.{Write, Load, Store}
use Rattle.mcal_base.specs.declared.register.Reg.TheVariants.{EnableSet, EnableClear}
use Rattle.run_model.specs.World.{World, world_after}
use Rattle.run_model.specs.Frame.{Origin, committed_after, is_shared, resets_chip, begins_word}
use Rattle.step_runner.specs.Driver.{most_steps, ComesRight}
use Rattle.service_outline.specs.Acts.{Cleans}
use Rattle.service_outline.specs.Done.{goes}
use Rattle.service_outline.specs.Fuel.{Shortens}
use Rattle.service_outline.specs.FrameHistory.{FrameHistory}
use Rattle.service_outline.specs.Services.{ReservedBy, SharedRefinement, PointAssertion, Within, is_closed, holds_at, place_at, with_holds, LongBodies, AssertedAt, TurnsTo, RightOr, Continues, MayCome, ended_at}
use Rattle.service_outline.specs.declared.done.BodyTaken.{BodyTaken}
use Rattle.service_outline.specs.declared.done.Done.{Done}

-- ---- what is owed

-- Moves that are owed: which may be, the next one, and what is owed after it and what it gave, which is nothing after the last;
-- and what the chip has to be before it, for the hardware to move there too.
pub record DeferredWrites (Owed : Type 0) : Type 1 where
  pub own : Move → Bool
  pub fits : Owed → Chip → Type 0
  pub move : Owed → Move
  pub left : Owed → ℕ → Option Owed
  -- the moves that may follow the next one, at most
  pub more : Owed → ℕ

abbrev pub Either : {Owed : Type 0} → Option Owed → (Owed → Type 0) → Type 0 → Type 0
Either None going over = over
Either (Some x) going over = going x

-- From this chip all owed moves are made within so many, each is one that may be owed, and this holds of the chip after the last.
abbrev pub CommitsTo : {Owed : Type 0} → DeferredWrites Owed → ℕ → Owed → Chip → (Chip → Type 0) → Type 0
CommitsTo p zero x chip Done = ⊥
CommitsTo p (suc n) x chip Done =
    (p.own (p.move x) ≡ true)
    × p.fits x chip
    × Either (p.left x (value_of chip (p.move x))) (λ y. CommitsTo p n y (chip_after chip (p.move x) 0) Done) (Done (chip_after chip (p.move x) 0))

-- ---- a basis with moves that are owed

-- what is under work, by itself, or as the moves that are owed
pub data Work (Lag Owed : Type 0) : Type 0 where
  Under : Lag → Work Lag Owed
  Owes : Owed → Work Lag Owed

-- while moves are owed, words and registers agree after them
abbrev pub agrees_after : {State Call Owed : Type 0} (g : SharedRefinement State Call) → DeferredWrites Owed → List (ReservedBy Call g.Reservation) → Work g.Lag Owed → Chip → World → State → Type 0
agrees_after g p held (Under gap) chip w s = g.represents held gap chip w s
agrees_after g p held (Owes x) chip w s = (n : ℕ) × CommitsTo p n x chip (λ c. g.represents held g.settled c w s)

abbrev pub deferring_writes : {State Call Owed : Type 0} → SharedRefinement State Call → DeferredWrites Owed → SharedRefinement State Call
deferring_writes {Owed = Owed} g p = record {
  setting = g.setting;
  wired = g.wired;
  lines = g.lines;
  owns = g.owns;
  watches = g.watches;
  count = g.count;
  later = g.later;
  Lag = Work g.Lag Owed;
  settled = Under g.settled;
  Reservation = g.Reservation;
  represents = agrees_after g p;
  Footprint = g.Footprint;
  foot = g.foot;
}

-- ---- what the moves have to be

abbrev pub is_fill : Order → Bool
is_fill (Fill c ws) = true
is_fill order = false

-- loads and stores of driver words, and writes that enable or disable lines
abbrev pub is_simple : Move → Bool
is_simple (Load k) = true
is_simple (Store k v) = true
is_simple (Write EnableSet v) = true
is_simple (Write EnableClear v) = true
is_simple _ = false

-- Two chips are alike where the agreement can't tell them apart once this is made. A driver whose moves and the hardware's
-- make the same chip in either order takes equality.
abbrev pub Likeness : Type 0 → Type 1
Likeness Owed = Option Owed → Chip → Chip → Type 0

abbrev pub same_chip : {Owed : Type 0} → Likeness Owed
same_chip x a b = a ≡ b

-- what a driver owes of the moves that it owes
pub record AreOwed {State Call Owed : Type 0} (g : SharedRefinement State Call) (p : DeferredWrites Owed) (alike : Likeness Owed) : Type 0 where
  -- they name registers and words, reset nothing, begin no serial word, make no commit, and leave the chip's rate
  pub plain : (made : Move) → p.own made ≡ true → is_shared made ≡ false
  pub calm : (made : Move) → p.own made ≡ true → (resets_chip made ≡ false) × (begins_word made ≡ false)
  pub times : (w : World) (times : ℕ → Option ℕ) (made : Move) → p.own made ≡ true → committed_after w times made ≡ times
  pub steady : (chip : Chip) (made : Move) → p.own made ≡ true → (chip_after chip made 0).clock.rate ≡ chip.clock.rate
  -- and the watchdog's time
  pub unwound : (chip : Chip) (made : Move) → p.own made ≡ true → expiry_of (chip_after chip made 0) ≡ expiry_of chip
  -- a reset leaves nothing of them
  pub resets : (chip : Chip) (made : Move) (reason : Reason) → p.own made ≡ true → reset_chip (chip_after chip made 0) reason ≡ reset_chip chip reason
  -- each leaves fewer
  pub shorter : (x y : Owed) (value : ℕ) → p.left x value ≡ Some y → p.more y < p.more x
  -- where the hardware moves before the next one, the chip is like the one where it moves after it. No array is filled meanwhile
  pub commutes : (x : Owed) (chip : Chip) (order : Order) → p.own (p.move x) ≡ true → p.fits x chip → is_fill order ≡ false
      → (p.left x (value_of (happened chip order) (p.move x)) ≡ p.left x (value_of chip (p.move x)))
      × alike (p.left x (value_of chip (p.move x))) (happened (chip_after chip (p.move x) 0) order) (chip_after (happened chip order) (p.move x) 0)
  pub stays : (x : Owed) (chip : Chip) (order : Order) → p.own (p.move x) ≡ true → p.fits x chip → is_fill order ≡ false → p.fits x (happened chip order)
  -- alike chips stay so
  pub goes : (x : Owed) (a b : Chip) → p.own (p.move x) ≡ true → p.fits x a → alike (Some x) a b
      → p.fits x b × (p.left x (value_of b (p.move x)) ≡ p.left x (value_of a (p.move x))) × alike (p.left x (value_of a (p.move x))) (chip_after a (p.move x) 0) (chip_after b (p.move x) 0)
  pub lasts : (held : List (ReservedBy Call g.Reservation)) (a b : Chip) (w : World) (s : State) → alike None a b → g.represents held g.settled a w s → g.represents held g.settled b w s

-- ---- bodies some of whose places owe moves

-- Bodies, their places that owe nothing, and what is owed at the others. What is about what is owed stays the same while the
-- moves are made: what the frame holds, what is so of the frame, and the steps, and the moves of the window, that follow.
pub record Windows {State Call : Type 0} (g : SharedRefinement State Call) (Owed About Body : Type 0) (p : DeferredWrites Owed) : Type 1 where
  pub bodies : LongBodies (deferring_writes g p) Body
  pub owes : Body → Option Owed
  pub about : Owed → About
  pub hold : About → List g.Reservation
  pub place : About → List (ReservedBy Call g.Reservation) → Origin Call → FrameHistory → Type 0
  pub steps_after : About → ℕ
  pub room_after : About → ℕ

abbrev pub or_owed : {Owed A : Type 0} → (Owed → A) → Option Owed → A → A
or_owed f None other = other
or_owed f (Some x) other = f x

abbrev pub spot_or : {State Call Owed About Body : Type 0} {g : SharedRefinement State Call} {p : DeferredWrites Owed} → Windows g Owed About Body p → Option Owed → PointAssertion (deferring_writes g p) → PointAssertion (deferring_writes g p)
spot_or v None other = other
spot_or v (Some x) other = Within (Owes x) (v.hold (v.about x)) (λ below f w s origin past. v.place (v.about x) below origin past)

-- all their places
abbrev pub windows : {State Call Owed About Body : Type 0} {g : SharedRefinement State Call} {p : DeferredWrites Owed} → Windows g Owed About Body p → LongBodies (deferring_writes g p) Body
windows {p = p} v = record {
  work_of = v.bodies.work_of;
  takes = v.bodies.takes;
  fuel = λ k. or_owed (λ x. 1 + (p.more x + v.steps_after (v.about x))) (v.owes k) (v.bodies.fuel k);
  room = λ k. or_owed (λ x. 1 + (p.more x + v.room_after (v.about x))) (v.owes k) (v.bodies.room k);
  clean = λ k. or_owed (λ x. false) (v.owes k) (v.bodies.clean k);
  assertion = λ k. spot_or v (v.owes k) (v.bodies.assertion k);
}

-- after a move that isn't the last one, the body owes the others
abbrev pub GoesOwing : {State Call Owed About Body : Type 0} {g : SharedRefinement State Call} {p : DeferredWrites Owed} → Windows g Owed About Body p → Owed → Owed → Body × BodyTaken → Type 0
GoesOwing v x y t = (v.owes t.0 ≡ Some y) × (t.1 ≡ goes) × (v.about y ≡ v.about x)

-- after the last one the body owes nothing, and is done or goes on in its window
abbrev pub GoesFree : {State Call Owed About Body : Type 0} {g : SharedRefinement State Call} {p : DeferredWrites Owed} → Windows g Owed About Body p → About → Body → Option Done → Type 0
GoesFree v a k None = (v.owes k ≡ None) × (is_closed (v.bodies.assertion k) ≡ true) × (v.bodies.clean k ≡ false) × (v.bodies.fuel k ≤ v.steps_after a) × (v.bodies.room k ≤ v.room_after a)
GoesFree v a k (Some n) = Unit {0}

-- what a driver owes of the places where it owes moves
pub record AreWindows {State Call Owed About Body : Type 0} {g : SharedRefinement State Call} {p : DeferredWrites Owed} (v : Windows g Owed About Body p) (ends_with : Body → Option Answer) : Type 0 where
  -- the body makes the moves that it owes
  pub makes : (k : Body) (x : Owed) → v.owes k ≡ Some x → v.bodies.work_of k ≡ p.move x
  pub on : (k : Body) (x y : Owed) (value : ℕ) → v.owes k ≡ Some x → p.left x value ≡ Some y → GoesOwing v x y (v.bodies.takes k value)
  pub over : (k : Body) (x : Owed) (value : ℕ) → v.owes k ≡ Some x → p.left x value ≡ None → ((v.bodies.takes k value).1.event ≡ None) × GoesFree v (v.about x) (v.bodies.takes k value).0 (v.bodies.takes k value).1.done
  -- and ends its frame with none of them by itself
  pub unended : (k : Body) (x : Owed) (value : ℕ) → v.owes k ≡ Some x → ends_with (v.bodies.takes k value).0 ≡ None
  -- its frame may make them
  pub may : (a : About) (below : List (ReservedBy Call g.Reservation)) (origin : Origin Call) (past : FrameHistory) (made : Move) → v.place a below origin past → p.own made ≡ true → g.setting.may origin made ≡ true
  -- after the last one it stands, or may end
  pub stands : (k : Body) (x : Owed) (value : ℕ) (below : List (ReservedBy Call g.Reservation)) (chip : Chip) (w : World) (s : State) (origin : Origin Call) (past : FrameHistory) (missed : ℕ → Bool) → v.owes k ≡ Some x → p.left x value ≡ None
      → v.place (v.about x) below origin past → g.represents (with_holds origin past.acted (v.hold (v.about x)) below) g.settled chip w s
      → Continues (deferring_writes g p) (windows v) below chip w s origin past missed (v.bodies.takes k value).0 (v.bodies.takes k value).1.done

-- what it owes of the others: what bodies owe, there alone
pub record AreFree {State Call Owed Body : Type 0} (g : SharedRefinement State Call) (b : LongBodies g Body) (owes : Body → Option Owed) (ends_with : Body → Option Answer) : Type 0 where
  pub own : (below : List (ReservedBy Call g.Reservation)) (chip : Chip) (w : World) (s : State) (k : Body) (origin : Origin Call) (past : FrameHistory) → owes k ≡ None → AssertedAt g b below chip w s k origin past → is_shared (b.work_of k) || g.setting.may origin (b.work_of k) ≡ true
  pub turns : (below : List (ReservedBy Call g.Reservation)) (chip : Chip) (w : World) (s : State) (k : Body) (origin : Origin Call) (past : FrameHistory) → owes k ≡ None → AssertedAt g b below chip w s k origin past → TurnsTo b (g.setting.window_of origin) k (b.takes k (value_of chip (b.work_of k)))
  pub steps : (below : List (ReservedBy Call g.Reservation)) (chip : Chip) (w : World) (s : State) (k : Body) (origin : Origin Call) (received : ℕ) (past : FrameHistory) (missed : ℕ → Bool) → owes k ≡ None → ComesRight chip w (b.work_of k) received → g.count s < most_steps → AssertedAt g b below chip w s k origin past
      → RightOr g b below chip w s k origin received past missed (ended_at b ends_with k (value_of chip (b.work_of k)))
  pub later : (below : List (ReservedBy Call g.Reservation)) (chip : Chip) (w : World) (s : State) (order : Order) (k : Body) (origin : Origin Call) (past : FrameHistory) → owes k ≡ None → MayCome g.setting (with_holds origin past.acted (holds_at (b.assertion k)) below) chip w s order
      → (is_masked chip ≡ false → is_closed (b.assertion k) ≡ false) → AssertedAt g b below chip w s k origin past → place_at (b.assertion k) below (g.foot (happened chip order)) (world_after w chip.clock.rate order) (g.later w s order) origin past
  pub calm : (below : List (ReservedBy Call g.Reservation)) (chip : Chip) (w : World) (s : State) (k : Body) (origin : Origin Call) (past : FrameHistory) → owes k ≡ None → AssertedAt g b below chip w s k origin past → (b.takes k (value_of chip (b.work_of k))).1.event ≡ None → (resets_chip (b.work_of k) ≡ false) × (begins_word (b.work_of k) ≡ false)
  pub shortens : (k : Body) (x : ℕ) → owes k ≡ None → Shortens b.fuel k (b.takes k x)
  pub cleans : (k : Body) (x : ℕ) → owes k ≡ None → Cleans b.clean (b.work_of k) k (b.takes k x)
