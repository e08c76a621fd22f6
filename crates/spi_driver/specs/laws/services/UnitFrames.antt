-- The frames that start or serve units: what they hold at their places, and what stands there.
-- From spi_sequences: services.UnitSteps, spi_sequences: services.Bodies.
-- Used by bookkeeping.PendingWritesRight, services.UnitSteps, bookkeeping.NoneWaits, services.UnitRight and 5 more.
use Rattle.std.proofs.Common.{◌≡◌, ◌+◌, ◌-◌, ◌<◌, ◌==◌, ◌&&◌, ◌||◌, [], ◌∷◌}
use Rattle.spi_driver.specs.Terms
use Terms.{After, agrees_after, Answer, AsyncTransmit, Bool, Call, Called, Cancels, Chip, Cleared, Debt, Ended}
use Terms.{Entered, EOk, error_by, false, first_served, FrameHistory, FrameRole, fresh_history, gap_at, Handler}
use Terms.{Handling, has_line, holds_at, is_held, is_off, is_pending, is_polling, is_sync_sequence, is_sync_unit}
use Terms.{List, LongBodies, Looking, Main, Memory, named, no_answer, None, Notice, Option, Origin, Outside, Owing}
use Terms.{owing, Pending, PendingWrites, place_at, PointAssertion, RequestPlace, Reservation, Reservations, Rest}
use Terms.{Sends, serve_ahead, serve_fuel, serve_place, serve_room, ServePlace, shares_job, Some, spi_bare, spi_basis}
use Terms.{spi_owing, SpiState, SpiTable, spot_or, start_left, start_place, StartPlace, suc, Transmit, true, Under}
use Terms.{unit_of_sequence, unit_owed, unit_takes, unit_work, UnitBody, UnitPlace, Units, Wholes, Windows, windows}
use Terms.{with_holds, Within, World, zero, ℕ}
use Rattle.spi_machine.specs.declared.call.Call.TheVariants as calls
use Rattle.spi_sequences.specs.declared.service.request.RequestPlace.TheVariants as request
use Rattle.spi_sequences.specs.declared.service.serve.ServePlace.TheVariants as serve
use Rattle.spi_sequences.specs.declared.service.start.StartPlace.TheVariants as start
use Rattle.spi_sequences.specs.declared.service.unit.After.TheVariants as after
use Rattle.spi_sequences.specs.declared.service.unit.UnitPlace.TheVariants as place

-- what places see of the chip
abbrev pub foot : SpiTable → Chip → Memory × (ℕ → ℕ) × (ℕ → ℕ)
foot d chip = (spi_bare d).foot chip

-- ---- what a frame was begun for, and what it has done

-- the frame of an errand
pub data IsFor (u : ℕ) : FrameRole → Origin Call → Type 0 where
  Transmits : (q : ℕ) → IsFor u (Transmit q) (Called (calls.Sequence q AsyncTransmit))
  Handles : IsFor u Handler (Entered (26 + u))
  Mains : IsFor u Main (Called calls.MainFunctionHandling)
  Rests : IsFor u Rest (Called calls.MainFunctionHandling)

-- it works on one of the two units, which starts jobs alone, under the configuration's table
pub record Frame (d : SpiTable) (x : SpiTable) (e : FrameRole) (u : ℕ) (o : Origin Call) : Type 0 where
  pub table : x ≡ d
  pub small : u < 2
  pub async : is_sync_unit d u ≡ false
  pub of : IsFor u e o

-- the answer of its act, and the lines that it polled there
abbrev pub acted_by : FrameRole → Option Answer
acted_by (Transmit q) = Some (named EOk)
acted_by Handler = None
acted_by Main = Some no_answer
acted_by Rest = Some no_answer

abbrev pub polled_by : FrameRole → List ℕ
polled_by Main = 26 ∷ 27 ∷ []
polled_by Rest = 26 ∷ 27 ∷ []
polled_by _ = []

-- a line was served or surely missed
abbrev pub is_met : FrameHistory → (line : ℕ) → Bool
is_met t l = has_line t.served l || has_line t.missed l

-- where the second unit has nothing to serve, its line is met
abbrev pub SecondMet : SpiTable → FrameHistory → Type 0
SecondMet d t = is_sync_unit d 1 ≡ true → is_met t 27 ≡ true

-- what it has served, before it is done with the unit and after that
abbrev pub Progress : SpiTable → FrameRole → (number : ℕ) → (done : Bool) → FrameHistory → Type 0
Progress d (Transmit q) u false t = ⊥
Progress d (Transmit q) u true t = Unit {0}
Progress d Handler u false t = t.served ≡ []
Progress d Handler u true t = t.served ≡ (26 + u) ∷ []
Progress d Main zero false t = (t.served ≡ []) × SecondMet d t
Progress d Main zero true t = (is_met t 26 ≡ true) × (has_line t.served 27 ≡ false) × SecondMet d t
Progress d Main (suc u) false t = (is_met t 26 ≡ true) × (t.served ≡ [])
Progress d Main (suc u) true t = (is_met t 26 ≡ true) × (is_met t 27 ≡ true) × (has_line t.served 26 ≡ false)
Progress d Rest zero done t = ⊥
Progress d Rest (suc u) false t = (is_met t 26 ≡ true) × (has_line t.served 27 ≡ false)
Progress d Rest (suc u) true t = (is_met t 26 ≡ true) × (is_met t 27 ≡ true)

-- the frame has acted, has come so far, and owes these notices
pub record HasDone (d : SpiTable) (e : FrameRole) (u : ℕ) (done : Bool) (left : List Owing) (t : FrameHistory) : Type 0 where
  pub acted : t.acted ≡ acted_by e
  pub polled : t.polled ≡ polled_by e
  pub report : t.report ≡ None
  pub owed : t.owed ≡ left
  pub progress : Progress d e u done t

-- a body with this table, errand and unit
abbrev pub at : SpiTable → FrameRole → ℕ → UnitPlace → UnitBody
at x e u p = record { table = x; errand = e; unit = u; place = p }

-- ---- what it holds

-- the main function, that it serves, and that it has cleared the first unit where it has served its line
abbrev pub holds_by : FrameRole → List Reservation
holds_by Main = Handling ∷ []
holds_by Rest = Cleared 0 ∷ Handling ∷ []
holds_by _ = []

-- and the start that it owes, or that it has cleared the unit
abbrev pub with_debt : FrameRole → (number : ℕ) → List Reservation
with_debt e u = Debt u ∷ holds_by e

abbrev pub with_cleared : FrameRole → (number : ℕ) → List Reservation
with_cleared e u = Cleared u ∷ holds_by e

-- ---- places

-- a list of one or two notices
abbrev pub and_other : Option Notice → List Notice
and_other None = []
and_other (Some n) = n ∷ []

abbrev pub told_list : Option Notice → Option Notice → List Notice
told_list None other = and_other other
told_list (Some n) other = n ∷ and_other other

abbrev pub all_told : Ended → List Notice
all_told x = told_list x.job x.sequence

-- the sequences below this one are not in the way of a request
abbrev pub NoneHeld : SpiTable → (sequence : ℕ) → List Pending → ℕ → Type 0
NoneHeld d q ps n = (k : ℕ) → k < n → is_pending k ps && (k == q || shares_job d q k) ≡ false

-- a request that finds no error but that of a pending sequence
pub record IsRequest (d : SpiTable) (s : SpiState) (q : ℕ) (u : ℕ) : Type 0 where
  pub small : q < 8
  pub async : is_sync_sequence d q ≡ false
  pub on : is_off s.mode ≡ false
  pub clear : error_by d (calls.Sequence q AsyncTransmit) (is_off s.mode) false ≡ None
  pub unit : u ≡ unit_of_sequence d q

abbrev pub RequestAt : SpiTable → FrameRole → (number : ℕ) → RequestPlace → SpiState → FrameHistory → Type 0
RequestAt d (Transmit q) u (request.Look k) s t = IsRequest d s q u × (t ≡ fresh_history) × (k < 8) × NoneHeld d q s.pending k
RequestAt d (Transmit q) u request.Accept s t = IsRequest d s q u × (t ≡ fresh_history) × (is_held d q s.pending ≡ false)
RequestAt d e u p s t = ⊥

-- it is one of a frame that transmits
pub by_transmit : (d : SpiTable) (u : ℕ) (p : RequestPlace) (s : SpiState) (t : FrameHistory) (P : FrameRole → Origin Call → Type 0) → ((q : ℕ) → RequestAt d (Transmit q) u p s t → P (Transmit q) (Called (calls.Sequence q AsyncTransmit)))
    → (e : FrameRole) (o : Origin Call) → IsFor u e o → RequestAt d e u p s t → P e o
by_transmit d u p s t P one (Transmit q) _ (Transmits _) asked = one q asked
by_transmit d u p s t P one Handler _ Handles asked = absurd asked
by_transmit d u p s t P one Main _ Mains asked = absurd asked
by_transmit d u p s t P one Rest _ Rests asked = absurd asked

-- after the mask is opened
abbrev pub opens_holds : FrameRole → (number : ℕ) → After → List Reservation
opens_holds e u after.Serve = holds_by e
opens_holds e u (after.Tell x) = with_debt e u
opens_holds e u after.Start = with_debt e u

abbrev pub OpensAt : SpiTable → FrameRole → (number : ℕ) → After → FrameHistory → Type 0
OpensAt d e u after.Serve t = HasDone d e u false [] t
OpensAt d e u (after.Tell x) t = HasDone d e u true (owing true (all_told x)) t
OpensAt d e u after.Start t = HasDone d e u true [] t

-- the place is that at which the window begins, which shuts the mask
abbrev pub is_shut : ServePlace → Bool
is_shut serve.Shut = true
is_shut _ = false

abbrev pub is_closing : StartPlace → Bool
is_closing start.Shut = true
is_closing _ = false

-- ---- bounds

-- the steps after a unit: of the main function's first one those of the second
abbrev pub unit_after : FrameRole → (number : ℕ) → ℕ
unit_after Main zero = 68
unit_after _ _ = 0

abbrev pub opens_fuel : FrameRole → (number : ℕ) → After → ℕ
opens_fuel e u after.Serve = 68 + unit_after e u
opens_fuel e u (after.Tell x) = 33 + unit_after e u
opens_fuel e u after.Start = 31 + unit_after e u

abbrev pub request_fuel : RequestPlace → ℕ
request_fuel (request.Look k) = 41 + (8 - k)
request_fuel request.Accept = 40
request_fuel _ = 0

abbrev pub request_room : RequestPlace → ℕ
request_room (request.Look k) = 10 + (8 - k)
request_room request.Accept = 9
request_room _ = 0

-- ---- what is owed

-- what comes after the moves that a frame owes: it opens the mask and starts, is done with the unit, or opens the mask and tells
pub data Ahead : Type 0 where
  ToStart : Ahead
  ToPass : Ahead
  ToTell : List Notice → Ahead

abbrev pub served_ahead : Option (List Notice) → Ahead
served_ahead None = ToPass
served_ahead (Some ns) = ToTell ns

abbrev pub ahead_of : SpiTable → UnitPlace → Ahead
ahead_of x (place.Request p) = ToStart
ahead_of x (place.Serve p) = served_ahead (serve_ahead x p)
ahead_of x _ = ToPass

pub record About : Type 0 where
  pub table : SpiTable
  pub errand : FrameRole
  pub unit : ℕ
  pub ahead : Ahead

abbrev pub about_unit : UnitBody → About
about_unit k = record { table = k.table; errand = k.errand; unit = k.unit; ahead = ahead_of k.table k.place }

abbrev pub about_owed : PendingWrites → Option About
about_owed (Units k) = Some (about_unit k)
about_owed (Cancels k) = None
about_owed (Wholes k) = None
about_owed (Sends k) = None

abbrev pub ahead_holds : FrameRole → (number : ℕ) → Ahead → List Reservation
ahead_holds e u ToStart = with_debt e u
ahead_holds e u ToPass = with_cleared e u
ahead_holds e u (ToTell ns) = with_debt e u

abbrev pub ahead_owing : Ahead → List Owing
ahead_owing ToStart = []
ahead_owing ToPass = []
ahead_owing (ToTell ns) = owing true ns

abbrev pub ahead_steps : FrameRole → (number : ℕ) → Ahead → ℕ
ahead_steps e u ToStart = 31 + unit_after e u
ahead_steps e u ToPass = unit_after e u
ahead_steps e u (ToTell ns) = 33 + unit_after e u

abbrev pub owed_holds : Option About → List Reservation
owed_holds None = []
owed_holds (Some x) = ahead_holds x.errand x.unit x.ahead

abbrev pub OwedAt : SpiTable → Option About → Origin Call → FrameHistory → Type 0
OwedAt d None o t = ⊥
OwedAt d (Some x) o t = Frame d x.table x.errand x.unit o × HasDone d x.errand x.unit true (ahead_owing x.ahead) t

abbrev pub owed_steps : Option About → ℕ
owed_steps None = 0
owed_steps (Some x) = ahead_steps x.errand x.unit x.ahead

-- ---- the bodies

-- it has read and written nothing while it looks for what is in the way of a request
abbrev pub unit_clean : UnitPlace → Bool
unit_clean (place.Request (request.Look k)) = true
unit_clean _ = false

abbrev pub unit_fuel_at : FrameRole → (number : ℕ) → UnitPlace → ℕ
unit_fuel_at e u (place.Request p) = request_fuel p + unit_after e u
unit_fuel_at e u place.Act = 69 + unit_after e u
unit_fuel_at e u (place.Opens x) = opens_fuel e u x
unit_fuel_at e u (place.Tell n None) = 31 + unit_after e u
unit_fuel_at e u (place.Tell n (Some m)) = 32 + unit_after e u
unit_fuel_at e u (place.Serve p) = serve_fuel p + (34 + unit_after e u)
unit_fuel_at e u (place.Start p) = start_left p + unit_after e u

abbrev pub unit_room_at : UnitPlace → ℕ
unit_room_at (place.Request p) = request_room p
unit_room_at place.Act = 1
unit_room_at (place.Serve p) = serve_room p
unit_room_at (place.Start p) = start_left p
unit_room_at _ = 0

-- ---- how it stands

abbrev pub serve_spot : (d x : SpiTable) → FrameRole → (number : ℕ) → ServePlace → PointAssertion (spi_basis d)
serve_spot d x e u serve.Shut = Outside (holds_by e) (λ below o t. Frame d x e u o × HasDone d e u false [] t)
serve_spot d x e u p = Looking (Under tt) (holds_by e) (λ below f w s o t. serve_place d u p f w s × Frame d x e u o × HasDone d e u false [] t)

abbrev pub start_spot : (d x : SpiTable) → FrameRole → (number : ℕ) → StartPlace → PointAssertion (spi_basis d)
start_spot d x e u start.Shut = Outside (with_debt e u) (λ below o t. Frame d x e u o × HasDone d e u true [] t)
start_spot d x e u p = Within (Under tt) (with_debt e u) (λ below f w s o t. start_place d u p f s × Frame d x e u o × HasDone d e u true [] t)

abbrev pub unit_spot_at : (d x : SpiTable) → FrameRole → (number : ℕ) → UnitPlace → PointAssertion (spi_basis d)
unit_spot_at d x e u (place.Request p) = Within (Under tt) [] (λ below f w s o t. Frame d x e u o × RequestAt d e u p s t)
unit_spot_at d x e u place.Act = Looking (Under tt) [] (λ below f w s o t. (x ≡ d) × IsFor u e o × (e ≡ Main) × (u ≡ first_served d) × (t ≡ fresh_history) × (is_polling s.mode ≡ true))
unit_spot_at d x e u (place.Opens y) = Within (Under tt) (opens_holds e u y) (λ below f w s o t. Frame d x e u o × OpensAt d e u y t)
unit_spot_at d x e u (place.Tell n m) = Outside (with_debt e u) (λ below o t. Frame d x e u o × HasDone d e u true (owing true (n ∷ and_other m)) t)
unit_spot_at d x e u (place.Serve p) = serve_spot d x e u p
unit_spot_at d x e u (place.Start p) = start_spot d x e u p

abbrev pub free_bodies : (d : SpiTable) → LongBodies (spi_basis d) UnitBody
free_bodies d = record {
  work_of = unit_work;
  takes = unit_takes;
  fuel = λ k. unit_fuel_at k.errand k.unit k.place;
  room = λ k. unit_room_at k.place;
  clean = λ k. unit_clean k.place;
  assertion = λ k. unit_spot_at d k.table k.errand k.unit k.place;
}

abbrev pub unit_windows : (d : SpiTable) → Windows (spi_bare d) PendingWrites (Option About) UnitBody (spi_owing d)
unit_windows d = record {
  bodies = free_bodies d;
  owes = unit_owed;
  about = about_owed;
  hold = owed_holds;
  place = λ x below o t. OwedAt d x o t;
  steps_after = owed_steps;
  room_after = λ x. 0;
}

abbrev pub unit_bodies : (d : SpiTable) → LongBodies (spi_basis d) UnitBody
unit_bodies d = windows (unit_windows d)

-- how a frame stands at a place, where this is owed
abbrev pub StandBy : (d : SpiTable) → Reservations → Chip → World → SpiState → UnitBody → Origin Call → FrameHistory → Option PendingWrites → Type 0
StandBy d below chip w s k o t q =
    let x = spot_or (unit_windows d) q (unit_spot_at d k.table k.errand k.unit k.place) in
    agrees_after (spi_bare d) (spi_owing d) (with_holds o t.acted (holds_at x) below) (gap_at x) chip w s × place_at x below (foot d chip) w s o t
