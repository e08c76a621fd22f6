-- The services of timestamps: their steps, what holds at each, and that they are right.
-- From Calls, One, Rows, Steady, Channels and 7 more.
-- Used by KeepRight, SampleRight, DeInit, service/stamp/rt, Lawful and 1 more.
use Rattle.std.proofs.Common.{◌≡◌, ◌-◌, ◌%◌, ◌<◌, ◌≤◌, ◌^◌, ◌&&◌, ◌||◌, ◌==◌, [], ◌∷◌, ◌∙◌, if◌then◌else◌}
use Rattle.icu_driver.specs.Terms
use Terms.{acted, acting, acts_by, After, AllByRecursion, answers, ap, AreRight, arith, Ask, asked, bare, Before}
use Terms.{below_test, Bodies, Bool, Call, Called, Capture, capture_at, CaptureAgrees, CaptureFlush, CaptureGateClear}
use Terms.{CaptureGateSet, Captures, channel_of, Chip, chip_after, chip_capture, Cleans, Done, Empty, emptying}
use Terms.{Epilogue, eq_other, eq_self, error_by, error_told, false, flushed, GetTimestampIndex, HasPlace, icu_ground, icu_machine, IcuTable, IcuNotStarted, IcuRepresents, IcuState, index, index_by, interval_by, Is_after, Is_before, is_counter, Is_fresh, is_linear, is_measurement, Is_on, is_some, Is_stopped, is_timestamp, IsStart, KeepsClean, Lag, left_by, length, length-at_bits, List, Load, mark_in, missed_after, ModeWords, nat_tests, None, none, not, off_on, On, opening, Option, Origin, outcome, owed_error, refl, reporting, settled, size_word, slice_index_or, Some, StampBody, Stamped, Stamping, stamps_edges, StampWords, stands-move, Start, Started, started, StartTimestamp, StepsTo, still, StopTimestamp, Store, subst, switched, sym, tells_error, TellsAs, Timestamp, Told, true, with_capture, word_of, World, Write, ℕ}
use Rattle.module_machines.specs.declared.icu.call.Call.TheVariants.{Channel}
use Rattle.icu_driver.specs.declared.service.stamp.StampBody.TheVariants.{Open, Size, Interval, Index, Left, Look}
use Rattle.icu_driver.specs.declared.service.stamp.StampBody.TheVariants.{Close, Drop, Off}
use Rattle.icu_driver.specs.laws.{Base.{Move, Act, no_answer, BodyTaken, goes, acts_on, ends, number, Nothing}}
use Rattle.icu_driver.specs.laws.{Base.{Shortens, shortens_if, word, bit, SWITCHES, MARKS, SIZES, INTERVALS, PLACES}}
use Rattle.icu_driver.specs.laws.{Base.{VALUES}, Calls.{MayCall, acts_is, stamps, to_mode, from_mode, is_there}}
use Rattle.icu_driver.specs.laws.{Calls.{counting, turns_by, switched_course, off_place, off_turns, opening_at}}
use Rattle.icu_driver.specs.laws.{Calls.{bare_at, calm_on, may_row}, Channels.{emptied_agrees, closed_agrees}}
use Rattle.icu_driver.specs.laws.{Channels.{dropped_agrees, block_as}, Gate.{opened}, One.{IsAt, IsRow, ChannelAgrees}}
use Rattle.module_machines.specs.icu.laws.{Channels.{with_same}}
use Rattle.icu_driver.specs.laws.{One.{channel_agrees, one_agrees, settled_at, same_state, with_state}}
use Rattle.icu_driver.specs.laws.{One.{left_same, left_channel, left_gate, channel_new, gate_new, word_new}}
use Rattle.icu_driver.specs.laws.{Rows.{has_row, rows_of, rows_behind, behind_row, rows_at, row_others, row_stored}}
use Rattle.icu_driver.specs.laws.{Rows.{still_not}, Steady.{without_edges, calm_at, AllGood, fronted, fronted_right}}
use Rattle.chip_blocks.specs.declared.captures.capture.Act.TheVariants as turns
use Rattle.mcal_base.specs.declared.service.Service.TheVariants as services
use Rattle.module_machines.specs.declared.icu.table.Channel as configured

abbrev pub stamp_work : StampBody → Move
stamp_work (Open r) = Write CaptureGateSet (bit r.channel)
stamp_work (Empty r) = Write (CaptureFlush r.channel) 0
stamp_work (On r) = Store (word MARKS r.channel) 1
stamp_work (Size r) = Store (word SIZES r.channel) r.size
stamp_work (Interval r) = Store (word INTERVALS r.channel) r.interval
stamp_work (Index r) = Store (word PLACES r.channel) 0
stamp_work (Left r) = Store (word VALUES r.channel) r.interval
stamp_work (Look c owed) = Load (word MARKS c)
stamp_work (Close c) = Write CaptureGateClear (bit c)
stamp_work (Drop c) = Write (CaptureFlush c) 0
stamp_work (Off c) = Store (word MARKS c) 2
stamp_work (Started c) = Load (word MARKS c)
stamp_work (Ask c q) = Load (word PLACES c)

abbrev pub stamp_takes : StampBody → ℕ → StampBody × BodyTaken
stamp_takes (Open r) x = (Empty r, goes)
stamp_takes (Empty r) x = (On r, acts_on)
stamp_takes (On r) x = (Size r, goes)
stamp_takes (Size r) x = (Interval r, goes)
stamp_takes (Interval r) x = (Index r, goes)
stamp_takes (Index r) x = (Left r, goes)
stamp_takes (Left r) x = (Left r, ends None no_answer Nothing)
stamp_takes (Look c owed) x = if x == 1 then (Close c, goes) else (Look c owed, ends (Some Act) no_answer owed)
stamp_takes (Close c) x = (Drop c, acts_on)
stamp_takes (Drop c) x = (Off c, goes)
stamp_takes (Off c) x = (Off c, ends None no_answer Nothing)
stamp_takes (Started c) x = (Ask c (not (x == 0)), goes)
stamp_takes (Ask c q) x = (Ask c q, ends (Some Act) (number (if q then x else 0)) Nothing)

abbrev pub stamp_left : StampBody → ℕ
stamp_left (Open r) = 7
stamp_left (Empty r) = 6
stamp_left (On r) = 5
stamp_left (Size r) = 4
stamp_left (Interval r) = 3
stamp_left (Index r) = 2
stamp_left (Left r) = 1
stamp_left (Look c owed) = 4
stamp_left (Close c) = 3
stamp_left (Drop c) = 2
stamp_left (Off c) = 1
stamp_left (Started c) = 2
stamp_left (Ask c q) = 1

pub stamp_shortens : (k : StampBody) (x : ℕ) → Shortens stamp_left k (stamp_takes k x)
stamp_shortens (Look c owed) x = shortens_if stamp_left (Look c owed) (x == 1) _ _ (omega arith) (omega arith)
stamp_shortens (Open r) x = omega arith
stamp_shortens (Empty r) x = omega arith
stamp_shortens (On r) x = omega arith
stamp_shortens (Size r) x = omega arith
stamp_shortens (Interval r) x = omega arith
stamp_shortens (Index r) x = omega arith
stamp_shortens (Left r) x = omega arith
stamp_shortens (Close c) x = omega arith
stamp_shortens (Drop c) x = omega arith
stamp_shortens (Off c) x = omega arith
stamp_shortens (Started c) x = omega arith
stamp_shortens (Ask c q) x = omega arith

-- ---- what holds at each; words are behind from the act on

-- a channel was switched off: what waits is still to be dropped, and its mark is behind
abbrev pub stopping : ℕ → Lag
stopping c = record (emptying c) { words = rows_behind (MARKS ∷ []) c }

abbrev pub stamp_gap : StampBody → Lag
stamp_gap (Open r) = settled
stamp_gap (Empty r) = opening r.channel
stamp_gap (On r) = rows_of (MARKS ∷ SIZES ∷ INTERVALS ∷ PLACES ∷ VALUES ∷ []) r.channel
stamp_gap (Size r) = rows_of (SIZES ∷ INTERVALS ∷ PLACES ∷ VALUES ∷ []) r.channel
stamp_gap (Interval r) = rows_of (INTERVALS ∷ PLACES ∷ VALUES ∷ []) r.channel
stamp_gap (Index r) = rows_of (PLACES ∷ VALUES ∷ []) r.channel
stamp_gap (Left r) = rows_of (VALUES ∷ []) r.channel
stamp_gap (Look c owed) = settled
stamp_gap (Close c) = settled
stamp_gap (Drop c) = stopping c
stamp_gap (Off c) = rows_of (MARKS ∷ []) c
stamp_gap (Started c) = settled
stamp_gap (Ask c q) = settled

abbrev pub start_call : Stamping → Call
start_call r = Channel r.channel (StartTimestamp r.size r.interval)

abbrev pub start_of : Stamping → Start
start_of r = record { size = r.size; interval = r.interval }

-- the start has places and an interval
abbrev pub Sized : Stamping → Type 0
Sized r = (0 < r.size) × (r.size ≤ 64) × (0 < r.interval) × (r.interval < 2 ^ 32)

-- stamps that were started, and none of which came yet
abbrev pub Begun : IcuTable → IcuState → Stamping → Type 0
Begun d s r = (k : configured.Channel) × (channel_of d r.channel ≡ Some k) × (k.mode ≡ Timestamp) × (r.channel < 8) × (s.initialised ≡ true) × ((capture_at s r.channel).on ≡ true) × ((capture_at s r.channel).start ≡ Some (start_of r)) × ((capture_at s r.channel).served ≡ [])

-- a call that stops stamps, which are under way or not
pub record MayStop (d : IcuTable) (c : ℕ) : Type 0 where
  pub lt : c < 8
  pub channel : configured.Channel
  pub known : channel_of d c ≡ Some channel
  pub mode : channel.mode ≡ Timestamp
  pub checks : (on : Bool) → error_by d (Channel c StopTimestamp) false on ≡ (if on then None else Some IcuNotStarted)

-- stamps that were stopped
abbrev pub Stopped : IcuTable → IcuState → ℕ → Type 0
Stopped d s c = (k : configured.Channel) × (channel_of d c ≡ Some k) × (k.mode ≡ Timestamp) × (c < 8) × (s.initialised ≡ true) × ((capture_at s c).on ≡ false) × (is_some (capture_at s c).start ≡ true)

abbrev pub stamp_holds : IcuTable → Captures × List ℕ → IcuState → StampBody → Origin Call → Option Told → Type 0
stamp_holds d f s (Open r) o t = Before (start_call r) o t × MayCall d r.channel (StartTimestamp r.size r.interval) × (s.initialised ≡ true) × Sized r
stamp_holds d f s (Empty r) o t = Before (start_call r) o t × MayCall d r.channel (StartTimestamp r.size r.interval) × (s.initialised ≡ true) × Sized r × ((chip_capture f.0 r.channel).gate ≡ true)
stamp_holds d f s (On r) o t = After (start_call r) (answers no_answer) o t × Begun d s r
stamp_holds d f s (Size r) o t = After (start_call r) (answers no_answer) o t × Begun d s r
stamp_holds d f s (Interval r) o t = After (start_call r) (answers no_answer) o t × Begun d s r
stamp_holds d f s (Index r) o t = After (start_call r) (answers no_answer) o t × Begun d s r
stamp_holds d f s (Left r) o t = After (start_call r) (answers no_answer) o t × Begun d s r
stamp_holds d f s (Look c owed) o t = Before (Channel c StopTimestamp) o t × MayStop d c × (s.initialised ≡ true) × (owed ≡ owed_error (reporting d) services.IcuStopTimestamp IcuNotStarted)
stamp_holds d f s (Close c) o t = Before (Channel c StopTimestamp) o t × MayStop d c × (s.initialised ≡ true) × ((capture_at s c).on ≡ true)
stamp_holds d f s (Drop c) o t = After (Channel c StopTimestamp) (answers no_answer) o t × Stopped d s c
stamp_holds d f s (Off c) o t = After (Channel c StopTimestamp) (answers no_answer) o t × Stopped d s c
stamp_holds d f s (Started c) o t = Before (Channel c GetTimestampIndex) o t × MayCall d c GetTimestampIndex × (s.initialised ≡ true)
stamp_holds d f s (Ask c q) o t = Before (Channel c GetTimestampIndex) o t × MayCall d c GetTimestampIndex × (s.initialised ≡ true) × (q ≡ not (slice_index_or f.1 c 0 == 0))

-- a stop has touched nothing before it looks
abbrev pub stamp_clean : StampBody → Bool
stamp_clean (Look c owed) = true
stamp_clean _ = false

abbrev pub stamp_bodies : (d : IcuTable) → Bodies (icu_ground d) StampBody
stamp_bodies d = fronted d stamp_work stamp_takes stamp_left stamp_gap stamp_clean (stamp_holds d) (λ k. None) (λ f k e. Unit {0})

cleans_by : (made : Move) (k : StampBody) (p : StampBody × BodyTaken) → stamp_clean p.0 ≡ false → Cleans stamp_clean made k p
cleans_by made k p u = by_left p.1.done
  where
    by_left : (left : Option Done) → KeepsClean (stamp_clean k) made (stamp_clean p.0) left
    by_left None = λ e. off_on (sym u ∙ e)
    by_left (Some n) = tt

cleans_if : (made : Move) (k : StampBody) (q : Bool) (a b : StampBody × BodyTaken) → Cleans stamp_clean made k a → Cleans stamp_clean made k b → Cleans stamp_clean made k (if q then a else b)
cleans_if made k true a b h i = h
cleans_if made k false a b h i = i

stamp_cleans : (k : StampBody) (x : ℕ) → Cleans stamp_clean (stamp_work k) k (stamp_takes k x)
stamp_cleans (Look c owed) x = cleans_if (Load (word MARKS c)) (Look c owed) (x == 1) (Close c, goes) (Look c owed, ends (Some Act) no_answer owed) (cleans_by (Load (word MARKS c)) (Look c owed) (Close c, goes) refl) tt
stamp_cleans (Open r) x = cleans_by (stamp_work (Open r)) (Open r) (stamp_takes (Open r) x) refl
stamp_cleans (Empty r) x = cleans_by (stamp_work (Empty r)) (Empty r) (stamp_takes (Empty r) x) refl
stamp_cleans (On r) x = cleans_by (stamp_work (On r)) (On r) (stamp_takes (On r) x) refl
stamp_cleans (Size r) x = cleans_by (stamp_work (Size r)) (Size r) (stamp_takes (Size r) x) refl
stamp_cleans (Interval r) x = cleans_by (stamp_work (Interval r)) (Interval r) (stamp_takes (Interval r) x) refl
stamp_cleans (Index r) x = cleans_by (stamp_work (Index r)) (Index r) (stamp_takes (Index r) x) refl
stamp_cleans (Left r) x = tt
stamp_cleans (Close c) x = cleans_by (stamp_work (Close c)) (Close c) (stamp_takes (Close c) x) refl
stamp_cleans (Drop c) x = cleans_by (stamp_work (Drop c)) (Drop c) (stamp_takes (Drop c) x) refl
stamp_cleans (Off c) x = tt
stamp_cleans (Started c) x = cleans_by (stamp_work (Started c)) (Started c) (stamp_takes (Started c) x) refl
stamp_cleans (Ask c q) x = tt

pub row_switches : IsRow SWITCHES
row_switches = (refl, omega arith, omega arith)

pub row_marks : IsRow MARKS
row_marks = (refl, omega arith, omega arith)

pub row_sizes : IsRow SIZES
row_sizes = (refl, omega arith, omega arith)

pub row_intervals : IsRow INTERVALS
row_intervals = (refl, omega arith, omega arith)

pub row_places : IsRow PLACES
row_places = (refl, omega arith, omega arith)

pub row_values : IsRow VALUES
row_values = (refl, omega arith, omega arith)

-- what a mark says of a channel
mark_one : (x : Capture) (v : ℕ) → Stamped x v → (v == 1) ≡ x.on
mark_one x _ (Is_on e) = sym e
mark_one x _ (Is_stopped e f) = sym e
mark_one x _ (Is_fresh e f) = sym e

mark_none : (x : Capture) (v : ℕ) → Stamped x v → (v == 0) ≡ true → x.served ≡ []
mark_none x _ (Is_on e) f = off_on f
mark_none x _ (Is_stopped e g) f = off_on f
mark_none x _ (Is_fresh e g) f = g

no_index : (k : configured.Channel) (x : Capture) → IsStart x.start → x.served ≡ [] → index k x ≡ 0
no_index k x start e = ap (λ es. index_by k x.start (length es)) e ∙ by x.start start
  where
    by : (a : Option Start) → IsStart a → index_by k a 0 ≡ 0
    by None i = refl
    by (Some a) i = by_linear (is_linear k.buffer)
      where
        by_linear : (q : Bool) → (if q then 0 else 0 % a.size) ≡ 0
        by_linear true = refl
        by_linear false = let low = i.0 in omega (arith, low)

-- the index that is told
index_told : (q : Bool) (m v i : ℕ) → q ≡ not (m == 0) → ((m ≡ 0 → ⊥) → v ≡ i) → ((m == 0) ≡ true → i ≡ 0) → (if q then v else 0) ≡ i
index_told true m v i e f g = f (λ z. off_on (sym (e ∙ ap (λ n. not (n == 0)) z)))
index_told false m v i e f g = sym (g (yes (m == 0) (sym e)))
  where
    yes : (q : Bool) → not q ≡ false → q ≡ true
    yes true e = refl
    yes false e = off_on (sym e)

-- ---- a word of a timestamp channel that is right again

pub data NewStamp (at : ℕ → ℕ) (c : ℕ) (k : configured.Channel) (x : Capture) : ℕ → Type 0 where
  New_mark : Stamped x (at (word MARKS c)) → NewStamp at c k x MARKS
  New_size : at (word SIZES c) ≡ size_word x.start → NewStamp at c k x SIZES
  New_interval : at (word INTERVALS c) ≡ interval_by x.start → NewStamp at c k x INTERVALS
  New_place : at (word PLACES c) ≡ index k x → NewStamp at c k x PLACES
  New_left : at (word VALUES c) ≡ left_by x.start (length x.served) → NewStamp at c k x VALUES

no_less : (rs : List ℕ) (first f c : ℕ) → (f == first) ≡ false → rows_behind (first ∷ rs) c (word f c) ≡ false → rows_behind rs c (word f c) ≡ false
no_less rs first f c e r = behind_row rs f c ∙ (sym (ap (λ q. q || has_row rs f) e) ∙ (sym (behind_row (first ∷ rs) f c) ∙ r))

pub stamp_closed : (at : ℕ → ℕ) (rs : List ℕ) (c : ℕ) (k : configured.Channel) (x : Capture) (first : ℕ) → NewStamp at c k x first → StampWords at (rows_behind (first ∷ rs) c) c k x → StampWords at (rows_behind rs c) c k x
stamp_closed at rs c k x _ (New_mark new) h = record { switch = λ f. h.switch (still_not rs MARKS SWITCHES c refl f); mark = λ f. new; size = λ f. h.size (still_not rs MARKS SIZES c refl f); interval = λ f g. h.interval (still_not rs MARKS INTERVALS c refl f) g; place = λ f ne. h.place (still_not rs MARKS PLACES c refl f) (λ b. off_on (sym b ∙ behind_row (MARKS ∷ rs) MARKS c)); left = λ f g. h.left (still_not rs MARKS VALUES c refl f) g }
stamp_closed at rs c k x _ (New_size new) h = record { switch = λ f. h.switch (still_not rs SIZES SWITCHES c refl f); mark = λ f. h.mark (still_not rs SIZES MARKS c refl f); size = λ f. new; interval = λ f g. h.interval (still_not rs SIZES INTERVALS c refl f) g; place = λ f ne. h.place (still_not rs SIZES PLACES c refl f) (λ b. ne (no_less rs SIZES MARKS c refl b)); left = λ f g. h.left (still_not rs SIZES VALUES c refl f) g }
stamp_closed at rs c k x _ (New_interval new) h = record { switch = λ f. h.switch (still_not rs INTERVALS SWITCHES c refl f); mark = λ f. h.mark (still_not rs INTERVALS MARKS c refl f); size = λ f. h.size (still_not rs INTERVALS SIZES c refl f); interval = λ f g. new; place = λ f ne. h.place (still_not rs INTERVALS PLACES c refl f) (λ b. ne (no_less rs INTERVALS MARKS c refl b)); left = λ f g. h.left (still_not rs INTERVALS VALUES c refl f) g }
stamp_closed at rs c k x _ (New_place new) h = record { switch = λ f. h.switch (still_not rs PLACES SWITCHES c refl f); mark = λ f. h.mark (still_not rs PLACES MARKS c refl f); size = λ f. h.size (still_not rs PLACES SIZES c refl f); interval = λ f g. h.interval (still_not rs PLACES INTERVALS c refl f) g; place = λ f ne. new; left = λ f g. h.left (still_not rs PLACES VALUES c refl f) g }
stamp_closed at rs c k x _ (New_left new) h = record { switch = λ f. h.switch (still_not rs VALUES SWITCHES c refl f); mark = λ f. h.mark (still_not rs VALUES MARKS c refl f); size = λ f. h.size (still_not rs VALUES SIZES c refl f); interval = λ f g. h.interval (still_not rs VALUES INTERVALS c refl f) g; place = λ f ne. h.place (still_not rs VALUES PLACES c refl f) (λ b. ne (no_less rs VALUES MARKS c refl b)); left = λ f g. new }

row_is : (rs : List ℕ) (f c : ℕ) {A : Type 0} → has_row rs f ≡ true → rows_behind rs c (word f c) ≡ false → A
row_is rs f c e r = off_on (sym r ∙ (behind_row rs f c ∙ e))

-- there is a place for the first stamp
first_full : (q : Bool) (size : ℕ) → 0 < size → q && 0 == size ≡ false
first_full true size low = grind (arith, nat_tests)
first_full false size low = refl

first_place : (q : Bool) (size : ℕ) → 0 < size → (if q then 0 else 0 % size) < size
first_place true size low = low
first_place false size low = omega (arith, low)

all_rows : AllByRecursion IsRow (MARKS ∷ SIZES ∷ INTERVALS ∷ PLACES ∷ VALUES ∷ [])
all_rows = (row_marks, (row_sizes, (row_intervals, (row_places, (row_values, tt)))))

stopping_at : (c : ℕ) → c < 8 → IsAt c (stopping c)
stopping_at c lt = let a = rows_at (MARKS ∷ []) c (row_marks, tt) lt in record { gates = λ k ne. refl; queues = λ k ne. eq_other k c ne; counts = λ k ne. refl; words = a.words; state = a.state; stamps = λ k i ne. refl; moded = refl; lines = refl }

module _ (d : IcuTable) where
  -- a word of a timestamp channel is stored
  stored : (first : ℕ) (row : IsRow first) (rs : List ℕ) (all : AllByRecursion IsRow rs) (v : ℕ) (chip : Chip) (w : World) (s : IcuState) (c : ℕ) (k : configured.Channel) → channel_of d c ≡ Some k → k.mode ≡ Timestamp → c < 8 → s.initialised ≡ true → NewStamp (λ j. word_of (chip_after chip (Store (word first c) v) 0) j) c k (capture_at s c) first → IcuRepresents d (rows_of (first ∷ rs) c) chip w s → IcuRepresents d (rows_of rs c) (chip_after chip (Store (word first c) v) 0) w s
  stored first row rs all v chip w s c k known mode lt on new h =
      let at1 = λ (j : ℕ). word_of (chip_after chip (Store (word first c) v) 0) j in
      let x = capture_at s c in
      let others = subst (λ m. ModeWords m at1 (rows_behind (first ∷ rs) c) c k x) mode (row_others d c lt k known first row rs all v chip w s on h) in
      row_stored d c lt k known first row rs all v chip w s on h (subst (λ m. ModeWords m at1 (rows_behind rs c) c k x) (sym mode) (stamp_closed at1 rs c k x first new others))

  -- what the state says that has begun
  begun_on : (s : IcuState) (r : Stamping) (b : Begun d (without_edges s) r) → ((capture_at s r.channel).on ≡ true) × ((capture_at s r.channel).start ≡ Some (start_of r)) × ((capture_at s r.channel).served ≡ [])
  begun_on s r (k, known, mode, lt, on, up, start, served) = (sym (ap (λ z. z.on) (calm_at s r.channel lt)) ∙ up, sym (ap (λ z. z.start) (calm_at s r.channel lt)) ∙ start, sym (ap (λ z. z.served) (calm_at s r.channel lt)) ∙ served)

  zero_stamps : (a : Option Start) (r : Stamping) (n : ℕ) → a ≡ Some (start_of r) → n ≡ 0 → 0 < r.interval → left_by a n ≡ r.interval
  zero_stamps a r n e f low = ap (λ z. left_by z n) e ∙ (ap (λ z. r.interval - z % r.interval) f ∙ rest r.interval low)
    where
      rest : (i : ℕ) → 0 < i → i - 0 % i ≡ i
      rest i low = omega (arith, low)

  -- it looks whether stamps are on
  look_by : (chip : Chip) (w : World) (s : IcuState) (m : ℕ → Bool) (c : ℕ) (owed : Epilogue) (i : MayStop d c) → s.initialised ≡ true → owed ≡ owed_error (reporting d) services.IcuStopTimestamp IcuNotStarted → IcuRepresents d settled chip w s → (q : Bool) → (capture_at s c).on ≡ q → StepsTo (icu_ground d) (stamp_bodies d) chip w s (Called (Channel c StopTimestamp)) (Load (word MARKS c)) true None m (if q then (Close c, goes) else (Look c owed, ends (Some Act) no_answer owed))
  look_by chip w s m c owed i on e h true up = (h, ((Is_before, i, on, calm_on s c i.lt ∙ up), tt))
  look_by chip w s m c owed i on e h false up = record {
    own = tt;
    state = s;
    told = tells_error no_answer IcuNotStarted;
    is = λ times. ap (λ u. Some (acts_by d s (Channel c StopTimestamp) (error_by d (Channel c StopTimestamp) (not u) (capture_at s c).on))) on ∙ ap (λ z. Some (acts_by d s (Channel c StopTimestamp) z)) (i.checks (capture_at s c).on ∙ ap (λ q. if q then None else Some IcuNotStarted) up);
    acts = (refl, refl);
    next = (h, subst (λ z. TellsAs (icu_machine d) (Called (Channel c StopTimestamp)) (tells_error no_answer IcuNotStarted) (record { answer = no_answer; owed = z })) (sym e) (error_told (icu_machine d) (Channel c StopTimestamp) no_answer IcuNotStarted));
  }

  steps : AllGood d (stamp_bodies d)
  steps chip w s (Open r) o t m (h, ((Is_before, i, on, z), u)) =
      let c = r.channel in
      let mode = stamps i.channel.mode i.suited in
      let counter = counting d c i.channel i.known ∙ ap (λ y. is_counter y) mode in
      let up = ap (λ y. y.gate) (bare_at (acted turns.Open chip.captures (bit c)) c (length-at_bits (λ _. acting turns.Open chip.captures.time) (bit c) chip.captures.captures ∙ h.size) i.lt ∙ ap (λ y. bare y) (gate_new turns.Open c chip.captures h.size i.lt)) in
      (refl, (opened d chip w s c i.lt on counter h, ((Is_before, i, on, z, up), tt)))
  steps chip w s (Empty r) o t m (h, ((Is_before, i, on, z, gate), u)) =
      let c = r.channel in
      let k = channel_of d c in
      let x = capture_at s c in
      let y = record (started x) { start = Some (start_of r) } in
      let s1 = with_capture s c y in
      let b = chip_capture chip.captures c in
      let m1 = s.initialised || false in
      let rs = MARKS ∷ SIZES ∷ INTERVALS ∷ PLACES ∷ VALUES ∷ [] in
      let chip1 = chip_after chip (Write (CaptureFlush c) 0) 0 in
      let a = channel_agrees d (opening c) chip w s c i.lt h in
      let mode = stamps i.channel.mode i.suited in
      let up = sym (ap (λ q. q.gate) (bare_at chip.captures c h.size i.lt)) ∙ gate in
      let free = subst (λ q. CaptureAgrees k q q false s.initialised m1 b x) (eq_self c) a.block in
      let words = to_mode d c i.channel i.known Timestamp mode (λ j. word_of chip j) none x a.words in (
        below_test c i.lt,
        record {
          own = tt;
          state = s1;
          told = answers no_answer;
          is = λ times. acts_is d w s c (StartTimestamp r.size r.interval) times.committed i on;
          acts = tt;
          next = (
            one_agrees d c i.lt (opening c) (rows_of rs c) (opening_at c) (rows_at rs c all_rows i.lt) chip chip1 w s s1 on h (left_channel c w chip (flushed b) (stands-move chip w (Write (CaptureFlush c) 0) 0 h.outside)) (with_state s c y) (subst (λ q. ChannelAgrees d (rows_of rs c) chip1 w s.initialised c q) (sym (with_same s c y i.lt)) (record {
              block = subst (λ q. CaptureAgrees k false false false s.initialised m1 q y) (sym (channel_new c chip.captures (flushed b) h.size i.lt)) (block_as k false false false s.initialised m1 (flushed b) (switched true x) y refl refl refl refl refl (emptied_agrees k false s.initialised m1 b x on (is_there d c i.channel i.known) up free));
              words = from_mode d c i.channel i.known Timestamp mode (λ j. word_of chip j) (rows_behind rs c) y (record {
                switch = λ f. words.switch refl;
                mark = λ f. row_is rs MARKS c refl f;
                size = λ f. row_is rs SIZES c refl f;
                interval = λ f g. row_is rs INTERVALS c refl f;
                place = λ f ne. row_is rs PLACES c refl f;
                left = λ f g. row_is rs VALUES c refl f;
              });
              course = let q = switched_course k true x a.course in record { room = q.room; times = q.times; counter = q.counter; off = q.off; start = z; count = q.count; unstarted = λ f. off_on (sym f ∙ (ap (λ q. stamps_edges q) i.known ∙ ap (λ q. is_timestamp q) mode)); uncounted = q.uncounted };
              place = subst (λ q. HasPlace q y) (sym i.known) (λ f g. (refl, first_full (is_linear i.channel.buffer) r.size z.0, first_place (is_linear i.channel.buffer) r.size z.0));
              turns = turns_by d c i.channel i.known w y (ap (λ q. is_measurement q) mode);
              stamps = λ some j few g. a.stamps some j few refl;
            })),
            ((Is_after, (i.channel, i.known, mode, i.lt, on, ap (λ q. q.on) (calm_at s1 c i.lt) ∙ ap (λ q. q.on) (with_same s c y i.lt), ap (λ q. q.start) (calm_at s1 c i.lt) ∙ ap (λ q. q.start) (with_same s c y i.lt), ap (λ q. q.served) (calm_at s1 c i.lt) ∙ ap (λ q. q.served) (with_same s c y i.lt))), tt),
          );
        },
      )
  steps chip w s (On r) o t m (h, ((Is_after, b), u)) =
      let e = begun_on s r b in
      (may_row d MARKS r.channel row_marks b.3, (stored MARKS row_marks (SIZES ∷ INTERVALS ∷ PLACES ∷ VALUES ∷ []) all_rows.1 1 chip w s r.channel b.0 b.1 b.2 b.3 b.4 (New_mark (subst (λ v. Stamped (capture_at s r.channel) v) (sym (word_new MARKS r.channel 1 chip row_marks b.3 h.outside.all.words)) (Is_on e.0))) h, ((Is_after, b), tt)))
  steps chip w s (Size r) o t m (h, ((Is_after, b), u)) =
      let e = begun_on s r b in
      (may_row d SIZES r.channel row_sizes b.3, (stored SIZES row_sizes (INTERVALS ∷ PLACES ∷ VALUES ∷ []) all_rows.1.1 r.size chip w s r.channel b.0 b.1 b.2 b.3 b.4 (New_size (word_new SIZES r.channel r.size chip row_sizes b.3 h.outside.all.words ∙ sym (ap (λ z. size_word z) e.1))) h, ((Is_after, b), tt)))
  steps chip w s (Interval r) o t m (h, ((Is_after, b), u)) =
      let e = begun_on s r b in
      (may_row d INTERVALS r.channel row_intervals b.3, (stored INTERVALS row_intervals (PLACES ∷ VALUES ∷ []) all_rows.1.1.1 r.interval chip w s r.channel b.0 b.1 b.2 b.3 b.4 (New_interval (word_new INTERVALS r.channel r.interval chip row_intervals b.3 h.outside.all.words ∙ sym (ap (λ z. interval_by z) e.1))) h, ((Is_after, b), tt)))
  steps chip w s (Index r) o t m (h, ((Is_after, b), u)) =
      let e = begun_on s r b in
      (may_row d PLACES r.channel row_places b.3, (stored PLACES row_places (VALUES ∷ []) all_rows.1.1.1.1 0 chip w s r.channel b.0 b.1 b.2 b.3 b.4 (New_place (word_new PLACES r.channel 0 chip row_places b.3 h.outside.all.words ∙ sym (no_index b.0 (capture_at s r.channel) (h.course r.channel b.3).0.start e.2))) h, ((Is_after, b), tt)))
  steps chip w s (Left r) o t m (h, ((Is_after, b), u)) =
      let e = begun_on s r b in
      let start : IsStart (Some (start_of r)) = subst IsStart e.1 (h.course r.channel b.3).0.start in
      (may_row d VALUES r.channel row_values b.3, (stored VALUES row_values [] tt r.interval chip w s r.channel b.0 b.1 b.2 b.3 b.4 (New_left (word_new VALUES r.channel r.interval chip row_values b.3 h.outside.all.words ∙ sym (zero_stamps (capture_at s r.channel).start r (length (capture_at s r.channel).served) e.1 (ap (λ z. length z) e.2) start.2))) h, (refl, refl, refl)))
  steps chip w s (Look c owed) o t m (h, ((Is_before, i, on, e), u)) =
      let x = capture_at s c in
      let words = to_mode d c i.channel i.known Timestamp i.mode (λ j. word_of chip j) none x (h.words c i.lt) in
      (may_row d MARKS c row_marks i.lt, subst (λ q. StepsTo (icu_ground d) (stamp_bodies d) chip w s (Called (Channel c StopTimestamp)) (Load (word MARKS c)) true None (missed_after (icu_machine d) w s m) (if q then (Close c, goes) else (Look c owed, ends (Some Act) no_answer owed))) (sym (mark_one x (word_of chip (word MARKS c)) (words.mark refl))) (look_by chip w s (missed_after (icu_machine d) w s m) c owed i on e h x.on refl))
  steps chip w s (Close c) o t m (h, ((Is_before, i, on, up), u)) =
      let k = channel_of d c in
      let x = capture_at s c in
      let y = switched false x in
      let s1 = with_capture s c y in
      let b = chip_capture chip.captures c in
      let m1 = s.initialised || false in
      let rs = MARKS ∷ [] in
      let a = channel_agrees d settled chip w s c i.lt h in
      let is_on = sym (calm_on s c i.lt) ∙ up in
      let words = to_mode d c i.channel i.known Timestamp i.mode (λ j. word_of chip j) none x a.words in
      let some = (subst (λ z. HasPlace z x) i.known a.place i.mode is_on).0 in
      let marked = λ (f : word_of chip (word MARKS c) ≡ 0). off_on (sym (ap (λ v. v == 1) f) ∙ (mark_one x (word_of chip (word MARKS c)) (words.mark refl) ∙ is_on)) in (
        refl,
        record {
          own = tt;
          state = s1;
          told = answers no_answer;
          is = λ times. ap (λ q. Some (acts_by d s (Channel c StopTimestamp) (error_by d (Channel c StopTimestamp) (not q) x.on))) on ∙ (ap (λ z. Some (acts_by d s (Channel c StopTimestamp) z)) (i.checks x.on ∙ ap (λ q. if q then None else Some IcuNotStarted) is_on) ∙ ap (λ z. Some (asked z s c StopTimestamp)) i.known);
          acts = tt;
          next = (
            one_agrees d c i.lt settled (stopping c) (settled_at c) (stopping_at c i.lt) chip (chip_after chip (Write CaptureGateClear (bit c)) 0) w s s1 on h (left_gate turns.Close c w chip i.lt h.size (stands-move chip w (Write CaptureGateClear (bit c)) 0 h.outside)) (with_state s c y) (subst (λ z. ChannelAgrees d (stopping c) (chip_after chip (Write CaptureGateClear (bit c)) 0) w s.initialised c z) (sym (with_same s c y i.lt)) (record {
              block = subst (λ z. CaptureAgrees k false (c == c) false s.initialised m1 z y) (sym (gate_new turns.Close c chip.captures h.size i.lt)) (subst (λ q. CaptureAgrees k false q false s.initialised m1 (record b { gate = false }) y) (sym (eq_self c)) (closed_agrees k false s.initialised m1 b x a.block));
              words = from_mode d c i.channel i.known Timestamp i.mode (λ j. word_of chip j) (rows_behind rs c) y (record {
                switch = λ f. words.switch refl;
                mark = λ f. row_is rs MARKS c refl f;
                size = λ f. words.size refl;
                interval = λ f g. off_on g;
                place = λ f ne. words.place refl (λ q. marked);
                left = λ f g. off_on g;
              });
              course = switched_course k false x a.course;
              place = off_place k y refl;
              turns = off_turns k w y refl;
              stamps = λ some j few g. a.stamps some j few refl;
            })),
            ((Is_after, (i.channel, i.known, i.mode, i.lt, on, calm_on s1 c i.lt ∙ ap (λ z. z.on) (with_same s c y i.lt), ap (λ z. is_some z.start) (calm_at s1 c i.lt ∙ ap (λ z. still z) (with_same s c y i.lt)) ∙ some)), tt),
          );
        },
      )
  steps chip w s (Drop c) o t m (h, ((Is_after, (k0, known, mode, lt, on, off, some)), u)) =
      let k = channel_of d c in
      let x = capture_at s c in
      let b = chip_capture chip.captures c in
      let m1 = s.initialised || false in
      let a = channel_agrees d (stopping c) chip w s c lt h in
      let empty = a.course.off (sym (calm_on s c lt) ∙ off) in
      let free = subst (λ q. CaptureAgrees k false q false s.initialised m1 b x) (eq_self c) a.block in (
        below_test c lt,
        (
          one_agrees d c lt (stopping c) (rows_of (MARKS ∷ []) c) (stopping_at c lt) (rows_at (MARKS ∷ []) c (row_marks, tt) lt) chip (chip_after chip (Write (CaptureFlush c) 0) 0) w s s on h (left_channel c w chip (flushed b) (stands-move chip w (Write (CaptureFlush c) 0) 0 h.outside)) (same_state c s) (record {
            block = subst (λ z. CaptureAgrees k false false false s.initialised m1 z x) (sym (channel_new c chip.captures (flushed b) h.size lt)) (dropped_agrees k false s.initialised m1 b x empty.0 empty.1 free);
            words = a.words;
            course = a.course;
            place = a.place;
            turns = a.turns;
            stamps = a.stamps;
          }),
          ((Is_after, (k0, known, mode, lt, on, off, some)), tt),
        ),
      )
  steps chip w s (Off c) o t m (h, ((Is_after, (k, known, mode, lt, on, off, some)), u)) =
      let is_off = sym (calm_on s c lt) ∙ off in
      let is_some_start = sym (ap (λ z. is_some z.start) (calm_at s c lt)) ∙ some in
      (may_row d MARKS c row_marks lt, (stored MARKS row_marks [] tt 2 chip w s c k known mode lt on (New_mark (subst (λ v. Stamped (capture_at s c) v) (sym (word_new MARKS c 2 chip row_marks lt h.outside.all.words)) (Is_stopped is_off is_some_start))) h, (refl, refl, refl)))
  steps chip w s (Started c) o t m (h, ((Is_before, i, on), u)) = (may_row d MARKS c row_marks i.lt, (h, ((Is_before, i, on, ap (λ v. not (v == 0)) (sym (mark_in chip c i.lt))), tt)))
  steps chip w s (Ask c q) o t m (h, ((Is_before, i, on, e), u)) =
      let x = capture_at s c in
      let v = word_of chip (word PLACES c) in
      let s1 = with_capture s c x in
      let a = channel_agrees d settled chip w s c i.lt h in
      let mode = stamps i.channel.mode i.suited in
      let words = to_mode d c i.channel i.known Timestamp mode (λ j. word_of chip j) none x a.words in
      let at = e ∙ ap (λ n. not (n == 0)) (mark_in chip c i.lt) in
      let told = index_told q (word_of chip (word MARKS c)) v (index i.channel x) at (λ ne. words.place refl (λ b. ne)) (λ z. no_index i.channel x a.course.start (mark_none x (word_of chip (word MARKS c)) (words.mark refl) z)) in (
        may_row d PLACES c row_places i.lt,
        record {
          own = tt;
          state = s1;
          told = answers (number (if q then v else 0));
          is = λ times. acts_is d w s c GetTimestampIndex times.committed i on ∙ ap (λ z. Some (outcome s1 (answers (number z)))) (sym told);
          acts = tt;
          next = (one_agrees d c i.lt settled settled (settled_at c) (settled_at c) chip chip w s s1 on h (left_same c w chip h.outside) (with_state s c x) (subst (λ z. ChannelAgrees d settled chip w s.initialised c z) (sym (with_same s c x i.lt)) a), (refl, refl, refl));
        },
      )

  pub stamp_right : AreRight (icu_ground d) (stamp_bodies d)
  stamp_right = fronted_right d stamp_work stamp_takes stamp_left stamp_gap stamp_clean (stamp_holds d) (λ k. None) (λ f k e. Unit {0}) stamp_shortens stamp_cleans steps
