-- What is known in windows stays so while the hardware moves: it leaves the module's state but for marks, which it drops none of,
-- the module's words, and the list registers; and time goes on.
-- From adc_groups: hardware.HardwareCommutes, service_outline: Owing, service_outline: SimpleMoves.
-- Used by bookkeeping.NoneWaits, bookkeeping.Joined.
use Rattle.std.proofs.Common.{◌≡◌, ◌<◌, ◌≤◌, ◌==◌, [], ◌∷◌, ◌∙◌, if◌then◌else◌}
use Rattle.adc_driver.specs.Terms
use Terms.{Aborts, adc_bodies, adc_setting, adc_windows, AdcBody, AdcGround, AdcState, AdcTable, ap, arith}
use Terms.{AssertedAt, banks_spot, Begins_stream, block_after, Bool, Call, Chip, Chooses, Closes_module, cond}
use Terms.{Converter, Converters, EnableHardwareTrigger, Enables_trigger, ends_claim, Entry, Event, false, finish_of}
use Terms.{foot_of, Footprint, FrameHistory, GetGroupStatus, GetStreamLastPointer, Group, group_of, GroupCall}
use Terms.{happened, happened_block, HasLooked, holds_at, InWindow, is_closed, is_done, is_fill, is_finished}
use Terms.{is_masked, is_some, IsCalling, IsDealing, IsFree, IsOrder, IsOutranked, IsPinning, IsStart, IsStarting}
use Terms.{IsTaken, level_leaves, List, list_any, listener, Looking, Looks, Makes, map, mark_at, MayCome, MayPulse}
use Terms.{MaySeek, MayStart, moved, nat_le, nat_tests, Newest, None, not_filled, Notification, Notifies, number_of}
use Terms.{of_driver, Option, Order, Orders, Origin, owes_at, Phase, Pins, Place, place_at, PointAssertion, Points}
use Terms.{Prepares, Pulses, Quits, read_spot, ReadGroup, ReadsPlace, refl, Reservations, Round, round_at, Seeks}
use Terms.{Sets_up, SetupResultBuffer, slice_index, slice_index_or, Some, spot_at, spot_making, spot_or, spot_start}
use Terms.{Stage, StartGroupConversion, Stops, Stops_turn, StructureOp, subst, suc, Surveys, sym, true, Window}
use Terms.{with_holds, with_mark, Within, words_happened, World, world_after, WriteBatch, Zero, zero, ℕ}
use Rattle.service_outline.specs.Services.{Outside}
use Rattle.chip_blocks.specs.converter.Converters as chips

-- ---- what the hardware leaves

-- the state but for marks, none of which is dropped
pub record Marked (s t : AdcState) : Type 0 where
  pub marks : List Bool
  pub is : t ≡ record s { marks = marks }
  pub kept : (i : ℕ) → i < 4 → mark_at s i ≡ true → slice_index_or marks i false ≡ true

set_or : (q b : Bool) → b ≡ true → cond q true b ≡ true
set_or true b e = refl
set_or false b e = e

pulse_keeps : (s : AdcState) (i k : ℕ) → k < 4 → mark_at s k ≡ true → mark_at (with_mark s i true) k ≡ true
pulse_keeps s i zero lt e = set_or (0 == i) (mark_at s 0) e
pulse_keeps s i (suc zero) lt e = set_or (1 == i) (mark_at s 1) e
pulse_keeps s i (suc (suc zero)) lt e = set_or (2 == i) (mark_at s 2) e
pulse_keeps s i (suc (suc (suc zero))) lt e = set_or (3 == i) (mark_at s 3) e
pulse_keeps s i (suc (suc (suc (suc k)))) lt e = absurd (omega (arith, lt))

pulse_marks : (s : AdcState) (i : ℕ) (q : Bool) → Marked s (cond q (with_mark s i true) s)
pulse_marks s i true = record { marks = (with_mark s i true).marks; is = refl; kept = pulse_keeps s i }
pulse_marks s i false = record { marks = s.marks; is = refl; kept = λ k lt e. e }

pub marks_later : (d : AdcTable) (s : AdcState) (order : Order) → Marked s (moved d s order)
marks_later d s (Order.Trigger i) = pulse_marks s i (is_some (listener d s i))
marks_later d s _ = record { marks = s.marks; is = refl; kept = λ k lt e. e }

pub time_later : (w : World) (rate : ℕ) (order : Order) → w.now ≤ (world_after w rate order).now
time_later w rate (Order.Tick n) = omega arith
time_later w rate _ = omega arith

abbrev lists_of : Converters → List (List ℕ)
lists_of b = map (λ (a : Converter). a.list) b.units

lists_settled : (f : Converter → Converter) → ((a : Converter) → (f a).list ≡ a.list) → (xs : List Converter) → map (λ (a : Converter). a.list) (map f xs) ≡ map (λ (a : Converter). a.list) xs
lists_settled f same [] = refl
lists_settled f same (x ∷ xs) = ap (λ l. l ∷ map (λ (a : Converter). a.list) (map f xs)) (same x) ∙ ap (λ ls. x.list ∷ ls) (lists_settled f same xs)

lists_pulsed : (b : Converters) (q : Bool) (n : ℕ) → lists_of (if q then record b { pulses = n } else b) ≡ lists_of b
lists_pulsed b true n = refl
lists_pulsed b false n = refl

lists_later : (b : Converters) (rate : ℕ) (order : Order) → lists_of (block_after order rate b) ≡ lists_of b
lists_later b rate (Order.Analog i v) = lists_settled (chips.settled b.levels b.time) (λ a. refl) b.units
lists_later b rate (Order.Trigger i) = lists_pulsed b _ _
lists_later b rate _ = refl

-- the words, the list registers and the enabled lines, unless an array is filled
enabled_later : (chip : Chip) (order : Order) → is_fill order ≡ false → (happened chip order).control.enabled ≡ chip.control.enabled
enabled_later chip (Order.Level p v) none = level_leaves (λ c. c.control.enabled) chip p v refl
enabled_later chip (Order.Fill c ws) none = absurd (cc)
enabled_later chip _ none = refl

pub foot_later : (chip : Chip) (order : Order) → is_fill order ≡ false → foot_of (happened chip order) ≡ foot_of chip
foot_later chip order none =
    ap (λ ls. record (foot_of (happened chip order)) { lists = ls }) (ap lists_of (happened_block chip order none) ∙ lists_later chip.converters chip.clock.rate order)
    ∙ ap (λ ws. record { lists = lists_of chip.converters; word = λ k. slice_index ws k; enabled = (happened chip order).control.enabled }) (words_happened chip order none)
    ∙ ap (λ n. record { lists = lists_of chip.converters; word = λ k. slice_index chip.words k; enabled = n }) (enabled_later chip order none)

-- ---- what is known, by the state and the time

pub later_number : (m n k : ℕ) → n ≤ k → nat_le m n ≡ true → nat_le m k ≡ true
later_number m n k le e = grind (arith, nat_tests)

module _ (d : AdcTable) (w x : World) (le : w.now ≤ x.now) (s : AdcState) (ms : List Bool) (kept : (i : ℕ) → i < 4 → mark_at s i ≡ true → slice_index_or ms i false ≡ true) where
  abbrev t : AdcState
  t = record s { marks = ms }

  finished_on : (k : Option Group) (r : Round) → is_finished w k r ≡ true → is_finished x k r ≡ true
  finished_on k r e = later_number (finish_of k r) w.now x.now le e

  done_later : (r : Option Round) → is_done d w r ≡ true → is_done d x r ≡ true
  done_later None e = absurd (cc)
  done_later (Some r) e = finished_on (group_of d r.group) r e

  calling_later : (g : ℕ) (call : GroupCall) (o : Origin Call) (p : FrameHistory) → IsCalling d s g call o p → IsCalling d t g call o p
  calling_later g call o p h = (h.0, record { on = h.1.on; there = h.1.there; right = h.1.right })

  outranked_later : (u g : ℕ) → IsOutranked d s u g → IsOutranked d t u g
  outranked_later u g h = record { round = h.round; is = h.is; group = h.group }

  taken_later : (u g : ℕ) → IsTaken d w s u g → IsTaken d x t u g
  taken_later u g h = record { round = h.round; is = h.is; group = h.group; finished = finished_on (group_of d g) h.round h.finished }

  window_later : (win : Window) (below : Reservations) (o : Origin Call) (p : FrameHistory) → InWindow d win below w s o p → InWindow d win below x t o p
  window_later (Window.Setup g b) below o p h = calling_later g (SetupResultBuffer (Some b)) o p h
  window_later (Window.Status g) below o p h = calling_later g GetGroupStatus o p h
  window_later (Window.Point g) below o p h = calling_later g GetStreamLastPointer o p h
  window_later (Window.Read g) below o p h = (calling_later g ReadGroup o p h.0, h.1)
  window_later (Window.Start g) below o p h = calling_later g StartGroupConversion o p h
  window_later (Window.Enable g) below o p h = calling_later g EnableHardwareTrigger o p h
  window_later (Window.Stop u g) below o p h = (h.0, (h.1.0, h.1.1, calling_later g h.1.0 o p h.1.2))
  window_later (Window.Suspend u g) below o p (done, few, on, free, is, first) = (done, few, on, free, outranked_later u g is, first)
  window_later (Window.Convert u g false) below o p h = h
  window_later (Window.Convert u g true) below o p h = h
  window_later (Window.Take u) below o p (is, few, alone, done) = (is, few, alone, done_later (round_at s u) done)
  window_later (Window.Claim y) below o p (is, few, alone, taken) = (is, few, alone, taken_later y.unit y.group taken)
  window_later (Window.Trigger i g) below o p (is, few, has, marked) = (is, few, has, kept i few marked)
  window_later _ below o p h = h

  pub looked_later : (win : Window) → HasLooked d win s → HasLooked d win t
  looked_later Window.Close h = h
  looked_later _ h = h

  seek_later : (win : Window) (below : Reservations) (o : Origin Call) (p : FrameHistory) → MaySeek d win below w s o p → MaySeek d win below x t o p
  seek_later (Window.Suspend u g) below o p (done, few, on, free, is) = (done, few, on, free, outranked_later u g is)
  seek_later _ below o p h = h

  pinning_later : (g : ℕ) (y : Phase) → IsPinning d s g y → IsPinning d t g y
  pinning_later g y h = record { status = h.status; is = h.is; some = h.some; phase = h.phase }

  order_later : (u : ℕ) (xs : List Entry) → IsOrder d s u xs → IsOrder d t u xs
  order_later u xs h = record { there = h.there; waits = h.waits; sorted = h.sorted }

  start_later : (g : ℕ) → MayStart d s g → MayStart d t g
  start_later g h = record { chosen = h.chosen; quiet = h.quiet; free = h.free }

  pulse_later : (i g : ℕ) → MayPulse d s i g → MayPulse d t i g
  pulse_later i g h = record { on = h.on; few = h.few; there = h.there; marked = kept i h.few h.marked; listens = h.listens }

  dealing_later : (below : Reservations) (f : Footprint) (o : Origin Call) (p : FrameHistory) (m : WriteBatch) → IsDealing d below f w s o p m → IsDealing d below f x t o p m
  dealing_later below f o p _ (Sets_up g b is idle) = Sets_up g b (calling_later g (SetupResultBuffer (Some b)) o p is) idle
  dealing_later below f o p _ (Notifies g on is) = Notifies g on (calling_later g (Notification on) o p is)
  dealing_later below f o p _ (Points g z is at busy idle) = Points g z (calling_later g GetStreamLastPointer o p is) at busy idle
  dealing_later below f o p _ (Begins_stream g is may) = Begins_stream g (calling_later g StartGroupConversion o p is) (start_later g may)
  dealing_later below f o p _ (Enables_trigger g is may) = Enables_trigger g (calling_later g EnableHardwareTrigger o p is) (start_later g may)
  dealing_later below f o p _ (Stops g call stop is idle none) = Stops g call stop (calling_later g call o p is) idle none
  dealing_later below f o p _ (Stops_turn g call run lost stop is idle turn round claim) = Stops_turn g call run lost stop (calling_later g call o p is) idle turn round claim
  dealing_later below f o p _ (Closes_module is on calm none) = Closes_module is on calm none
  dealing_later below f o p _ (Pulses i g turned is may turn) = Pulses i g turned is (pulse_later i g may) turn

  begins_later : (below : Reservations) (o : Origin Call) (p : FrameHistory) (u g e left : ℕ) (claimed : Bool) → IsStart d below w s o p u g e left claimed → IsStart d below x t o p u g e left claimed
  begins_later below o p u g e left claimed h = record { window = window_later (Window.Convert u g claimed) below o p h.window; kept = h.kept; all = h.all }

  starting_later : (below : Reservations) (f : Footprint) (o : Origin Call) (p : FrameHistory) (u : ℕ) (m : WriteBatch) → IsStarting d below f w s o p u m → IsStarting d below f x t o p u m
  starting_later below f o p u _ (Orders g e left claimed n r xs is order first ends made) = Orders g e left claimed n r xs (begins_later below o p u g e left claimed is) (order_later u xs order) first ends made
  starting_later below f o p u _ (Prepares g e left claimed made xs is few order holds done) = Prepares g e left claimed made xs (begins_later below o p u g e left claimed is) few (order_later u xs order) holds done

  -- ---- what is known at places

  -- what is known there, of any words and list registers
  abbrev pub StaysKnown : PointAssertion (AdcGround d) → Type 0
  StaysKnown z = (below : Reservations) (f : Footprint) (o : Origin Call) (p : FrameHistory) → place_at z below f w s o p → place_at z below f x t o p

  read_stays : (n : Newest) (z : Stage) → StaysKnown (read_spot d n z)
  read_stays n Stage.Reads below f o p h = h
  read_stays n _ below f o p h = h

  banks_stays : (m : WriteBatch) (q : Option StructureOp) → StaysKnown (banks_spot d m q)
  banks_stays m None below f o p h = dealing_later below f o p m h
  banks_stays m (Some (StructureOp.Put q)) below f o p h = h
  banks_stays m (Some (StructureOp.Take q)) below f o p (g, y, is, alone, pins, e) = (g, y, calling_later g ReadGroup o p is, alone, pinning_later g y pins, e)
  banks_stays m (Some q) below f o p (g, y, is, alone, pins, e) = (g, y, calling_later g ReadGroup o p is, alone, pinning_later g y pins, e)

  start_stays : (m : WriteBatch) (q : Option ℕ) (c : Bool) → StaysKnown (spot_start d m q c)
  start_stays m (Some u) c below f o p h = starting_later below f o p u m h
  start_stays m None c below f o p h = h

  making_stays : (m : WriteBatch) (e : Option Event) → StaysKnown (spot_making d m e)
  making_stays m (Some (Event.Start u)) = start_stays m (number_of u) (list_any ends_claim m.deeds)
  making_stays m e = banks_stays m m.banks

  pub stays_at : (k : Place) → StaysKnown (spot_at d k)
  stays_at (Looks win seen) below f o p (is, seen_so) = (window_later win below o p is, seen_so)
  stays_at (Surveys win g) below f o p (is, looked, surveyed) = (window_later win below o p is, looked_later win looked, surveyed)
  stays_at (Seeks win r) below f o p (is, seeking) = (seek_later win below o p is, seeking)
  stays_at (Chooses u g r) below f o p (is, at) = (window_later (Window.Claim (record { unit = u; group = g; bank = Zero })) below o p is, at)
  stays_at (Pins g y) below f o p (is, alone, pins) = (calling_later g ReadGroup o p is, alone, pinning_later g y pins)
  stays_at (ReadsPlace n) below f o p h = read_stays n n.stage below f o p h
  stays_at (Aborts r) below f o p (is, kept) = (window_later (Window.Suspend r.unit r.group) below o p is, kept)
  stays_at (Makes m) below f o p h = making_stays m m.event below f o p h
  stays_at (Quits u) below f o p (is, none) = (seek_later (Window.Leave u) below o p is, none)
  stays_at _ below f o p h = h

  driver_stays : (P : Type 0) (z : PointAssertion (AdcGround d)) → StaysKnown z → StaysKnown (of_driver P z)
  driver_stays P (Within gap hs place) stays below f o p h = (h.0, stays below f o p h.1)
  driver_stays _ _ stays below f o p h = (h.0, stays below f o p h.1)

  pub stays_in : (P : Type 0) (k : Place) → StaysKnown (of_driver P (spot_at d k))
  stays_in P k = driver_stays P (spot_at d k) (stays_at k)

-- ---- the hardware moves

module _ (d : AdcTable) (chip : Chip) (w : World) (s : AdcState) (order : Order) where
  abbrev after : World
  after = world_after w chip.clock.rate order

  abbrev le : w.now ≤ after.now
  le = time_later w chip.clock.rate order

  -- with the mask closed no array is filled
  spot_later : (m : Marked s (moved d s order)) (z : PointAssertion (AdcGround d)) → StaysKnown d w after le s m.marks m.kept z → (is_closed z ≡ true → is_fill order ≡ false) → (below : Reservations) (o : Origin Call) (p : FrameHistory) → place_at z below (foot_of chip) w s o p → place_at z below (foot_of (happened chip order)) after (record s { marks = m.marks }) o p
  spot_later m (Within gap hs place) stays shut below o p h = subst (λ f. place below f after (record s { marks = m.marks }) o p) (sym (foot_later chip order (shut refl))) (stays below (foot_of chip) o p h)
  spot_later m (Outside hs place) stays shut below o p h = h
  spot_later m (Looking gap hs place) stays shut below o p h = subst (λ f. place below f after (record s { marks = m.marks }) o p) (sym (foot_later chip order (shut refl))) (stays below (foot_of chip) o p h)

  known_later : (P : Type 0) (k : Place) → (is_closed (of_driver P (spot_at d k)) ≡ true → is_fill order ≡ false) → (below : Reservations) (o : Origin Call) (p : FrameHistory) → place_at (of_driver P (spot_at d k)) below (foot_of chip) w s o p → place_at (of_driver P (spot_at d k)) below (foot_of (happened chip order)) after (moved d s order) o p
  known_later P k shut below o p h =
      let m = marks_later d s order in
      subst (λ t. place_at (of_driver P (spot_at d k)) below (foot_of (happened chip order)) after t o p) (sym m.is) (spot_later m (of_driver P (spot_at d k)) (stays_in d w after le s m.marks m.kept P k) shut below o p h)

  unfilled : (held : Reservations) → MayCome (adc_setting d) held chip w s order → (q : Bool) → is_masked chip ≡ q → (c : Bool) → (is_masked chip ≡ false → c ≡ false) → c ≡ true → is_fill order ≡ false
  unfilled held come true e c shut closed = not_filled (adc_setting d) w s come.frames order (subst (λ q. IsFree (adc_setting d) q w s come.frames order) e come.free)
  unfilled held come false e c shut closed = absurd (let f = sym (shut e) ∙ closed in cc)

-- what is known at a place that owes nothing stays so
pub known_stays : (d : AdcTable) (f r : AdcBody → ℕ) (below : Reservations) (chip : Chip) (w : World) (s : AdcState) (order : Order) (k : AdcBody) (o : Origin Call) (p : FrameHistory) → owes_at k.table k.place ≡ None → MayCome (adc_setting d) (with_holds o p.acted (holds_at ((adc_bodies d f r).assertion k)) below) chip w s order
    → (is_masked chip ≡ false → is_closed ((adc_bodies d f r).assertion k) ≡ false) → AssertedAt (AdcGround d) (adc_bodies d f r) below chip w s k o p → place_at ((adc_bodies d f r).assertion k) below (foot_of (happened chip order)) (world_after w chip.clock.rate order) (moved d s order) o p
known_stays d f r below chip w s order k o p e come shut h =
    let same : (adc_bodies d f r).assertion k ≡ of_driver (k.table ≡ d) (spot_at d k.place) = ap (λ q. spot_or (adc_windows d f r) q (of_driver (k.table ≡ d) (spot_at d k.place))) e in
    subst (λ z. place_at z below (foot_of (happened chip order)) (world_after w chip.clock.rate order) (moved d s order) o p) (sym same)
    (known_later d chip w s order (k.table ≡ d) k.place
    (λ closed. unfilled d chip w s order (with_holds o p.acted (holds_at ((adc_bodies d f r).assertion k)) below) come (is_masked chip) refl (is_closed ((adc_bodies d f r).assertion k)) shut (ap (λ z. is_closed z) same ∙ closed))
    below o p (subst (λ z. place_at z below (foot_of chip) w s o p) same h.1))
