-- The handler of a measurement: what holds at each of its places, and that it is right.
-- From Rows, One, SampleSteps, Serve, Stamp and 12 more.
-- Used by Lawful.
use Rattle.std.proofs.Common.{◌≡◌, ◌+◌, ◌/◌, ◌%◌, ◌<◌, ◌^◌, ◌&&◌, ◌||◌, ◌==◌, [], ◌∷◌, ◌++◌, ◌∙◌, if◌then◌else◌}
use Rattle.icu_driver.specs.Terms
use Terms.{Active, ActiveIs, AllByRecursion, Alternate, ap, append_assoc, AreRight, arith, begins_rising, below_test}
use Terms.{bit_of, Bodies, Bool, Call, Capture, capture_at, CaptureAgrees, CaptureInfo, CapturePop, Captures}
use Terms.{CaptureTimeLow, Channel, channel_of, Chip, chip_after, chip_capture, completes, DutyCycle, Edge, EndsAt, Entered, false, first_of, happens, HasTurns, High, HighTime, icu_ground, icu_machine, IcuTable, IcuRepresents, IcuSignalMeasurementProperty, IcuState, info_of, is_duty_cycle, is_measurement, is_same, Is_served, Is_serving, is_some, is_timestamp, Keep, kept, kinds_by, Lag, Last, length, length-append, List, Look, Low, LowTime, lt_itself, map, Mark, MeasureHistory, MeasureWords, missed_after, ModeWords, nat_lt, nat_tests, never_clean, newest, None, none, not, Nothing_seen, notices_of, off_on, oldest_time, opposed, Opposite, Opposite_seen, OppositeIs, Option, Origin, outcome, PeriodTime, Pop, popped, Read, refl, SampleBody, Sampled, seen_by, seen_from, seen_number, seen_with, Served, served_by, Serves, Serving, settled, SignalMeasurement, Some, stamp_in, stands-move, Start_seen, StartIs, starts_at, StepsTo, Stores, subst, sym, Told, measures_told, told_with, true, unbroken, Value, ValueIs, values, values_by, waiting_value, Waits, with_capture, word_of, World, Write, ℕ}
use Rattle.icu_driver.specs.declared.service.sample.SampleBody.TheVariants.{Start}
use Rattle.icu_driver.specs.laws.{Base.{tells_nothing, no_answer, goes, ends, Nothing, word, line, joined, SWITCHES}}
use Rattle.icu_driver.specs.laws.{Base.{MARKS, SIZES, INTERVALS, PLACES, VALUES, TIMES}, Calls.{to_mode, from_mode}}
use Rattle.icu_driver.specs.laws.{Calls.{place_by, may_row}, Change.{as_course}, Channels.{popped_agrees, block_as}}
use Rattle.icu_driver.specs.laws.{Count.{halves_join}, DetectSteps.{serves}, Handler.{is_whole}, Measure.{OfSome, IsOne}}
use Rattle.icu_driver.specs.laws.{Measure.{waits_single}, One.{IsRow, ChannelAgrees, channel_agrees, one_agrees}}
use Rattle.module_machines.specs.icu.laws.{Channels.{with_same}}
use Rattle.icu_driver.specs.laws.{One.{settled_at, same_state, with_state, left_same, left_latched}}
use Rattle.icu_driver.specs.laws.{One.{left_channel, channel_new, word_new}, Rows.{rows_of, rows_behind, behind_row}}
use Rattle.icu_driver.specs.laws.{Rows.{rows_at, row_others, row_stored, New_waits, New_mark, New_seen, New_start}}
use Rattle.icu_driver.specs.laws.{Rows.{New_opposite, New_value, New_time, NewWord, measure_closed}, SampleSteps.{starts}}
use Rattle.icu_driver.specs.laws.{SampleSteps.{is_complete, seen_now, row_of, since, looked, sample_work, sample_takes}}
use Rattle.icu_driver.specs.laws.{SampleSteps.{sample_left, sample_shortens}, Serve.{missed_here, info_empty, info_rising}}
use Rattle.icu_driver.specs.laws.{Serve.{info_gap, waiting_on, split, served_here, popped_course}, Stamp.{row_switches}}
use Rattle.icu_driver.specs.laws.{Stamp.{row_marks, row_sizes, row_intervals, row_places, row_values}}
use Rattle.icu_driver.specs.laws.{Steady.{without_edges, calm_at, oldest, AllGood, fronted, fronted_right}}
use Rattle.icu_driver.specs.laws.{Values.{values_append}}
use Rattle.icu_driver.specs.declared.service.sample.SampleBody.TheVariants as places

-- ---- what is under work: words of the channel

abbrev pub value_rows : Sampled → List ℕ
value_rows r = SWITCHES ∷ MARKS ∷ SIZES ∷ row_of r ∷ []

abbrev pub sample_gap : SampleBody → Lag
sample_gap (Value r) = rows_of (VALUES ∷ TIMES ∷ value_rows r) r.channel
sample_gap (Active r) = rows_of (TIMES ∷ value_rows r) r.channel
sample_gap (Waits r) = rows_of (value_rows r) r.channel
sample_gap (Mark r) = rows_of (MARKS ∷ SIZES ∷ row_of r ∷ []) r.channel
sample_gap (Keep r) = rows_of (SIZES ∷ row_of r ∷ []) r.channel
sample_gap (Last r) = rows_of (row_of r ∷ []) r.channel
sample_gap _ = settled

-- ---- what it knows

-- the channel measures
pub record Sampler (d : IcuTable) (r : Sampled) : Type 0 where
  pub k : Channel
  pub known : channel_of d r.channel ≡ Some k
  pub mode : k.mode ≡ SignalMeasurement
  pub lt : r.channel < 8
  pub property : IcuSignalMeasurementProperty
  pub measured : k.measured ≡ Some property
  pub first : r.first ≡ begins_rising property k
  pub whole : r.whole ≡ is_whole (Some property)
  pub duty : r.duty ≡ is_duty_cycle (Some property)

-- what was seen before the edge, which a gap makes nothing
abbrev pub seen_before : Sampled → MeasureHistory → MeasureHistory
seen_before r s = if r.gap then Nothing_seen else s

-- the time that it keeps last
abbrev pub LastIs : (starts : Bool) → ℕ → MeasureHistory → Type 0
LastIs true t s = StartIs t s
LastIs false t s = OppositeIs t s

-- what the serving has left: what is seen now, and the edge's time
pub record Seen_now (k : Channel) (r : Sampled) (x : Capture) : Type 0 where
  pub number : seen_now r ≡ seen_number (seen_by k x)
  pub last : LastIs (starts r) r.time (seen_by k x)

-- and a value that waits
pub record Valued (k : Channel) (r : Sampled) (x : Capture) : Type 0 where
  pub waits : is_some (waiting_value k x) ≡ true
  pub active : x.active ≡ true
  pub value : ValueIs (since r.start r.time) (waiting_value k x)
  pub time : ActiveIs (since r.start r.opposite) (waiting_value k x)

abbrev pub sample_holds : IcuTable → Captures × List ℕ → IcuState → SampleBody → Origin Call → Option Told → Type 0
sample_holds d f s (Look r) o t = Serving (line r.channel) o t × Sampler d r
sample_holds d f s (Low r) o t = Serving (line r.channel) o t × Sampler d r
sample_holds d f s (High r) o t = Serving (line r.channel) o t × Sampler d r
sample_holds d f s (places.Seen r) o t = Serving (line r.channel) o t × Sampler d r
sample_holds d f s (Start r) o t = Serving (line r.channel) o t × (a : Sampler d r) × (r.seen ≡ seen_number (seen_before r (seen_by a.k (capture_at s r.channel))))
sample_holds d f s (Opposite r) o t = Serving (line r.channel) o t × (a : Sampler d r) × (r.seen ≡ seen_number (seen_before r (seen_by a.k (capture_at s r.channel)))) × StartIs r.start (seen_before r (seen_by a.k (capture_at s r.channel)))
sample_holds d f s (Pop r) o t = Serving (line r.channel) o t × (a : Sampler d r) × (r.seen ≡ seen_number (seen_before r (seen_by a.k (capture_at s r.channel)))) × StartIs r.start (seen_before r (seen_by a.k (capture_at s r.channel))) × OppositeIs r.opposite (seen_before r (seen_by a.k (capture_at s r.channel)))
sample_holds d f s (Value r) o t = Served (line r.channel) tells_nothing o t × (a : Sampler d r) × (s.initialised ≡ true) × Seen_now a.k r (capture_at s r.channel) × Valued a.k r (capture_at s r.channel)
sample_holds d f s (Active r) o t = Served (line r.channel) tells_nothing o t × (a : Sampler d r) × (s.initialised ≡ true) × Seen_now a.k r (capture_at s r.channel) × Valued a.k r (capture_at s r.channel)
sample_holds d f s (Waits r) o t = Served (line r.channel) tells_nothing o t × (a : Sampler d r) × (s.initialised ≡ true) × Seen_now a.k r (capture_at s r.channel) × Valued a.k r (capture_at s r.channel)
sample_holds d f s (Mark r) o t = Served (line r.channel) tells_nothing o t × (a : Sampler d r) × (s.initialised ≡ true) × Seen_now a.k r (capture_at s r.channel) × Valued a.k r (capture_at s r.channel)
sample_holds d f s (Keep r) o t = Served (line r.channel) tells_nothing o t × (a : Sampler d r) × (s.initialised ≡ true) × Seen_now a.k r (capture_at s r.channel)
sample_holds d f s (Last r) o t = Served (line r.channel) tells_nothing o t × (a : Sampler d r) × (s.initialised ≡ true) × Seen_now a.k r (capture_at s r.channel)

-- from the look to the serving an edge waits, of which it has read more and more
abbrev pub sample_front : SampleBody → Option ℕ
sample_front (Low r) = Some r.channel
sample_front (High r) = Some r.channel
sample_front (places.Seen r) = Some r.channel
sample_front (Start r) = Some r.channel
sample_front (Opposite r) = Some r.channel
sample_front (Pop r) = Some r.channel
sample_front _ = None

-- its direction and its gap mark, and then its time
abbrev pub Looked : Sampled → Edge → Type 0
Looked r e = (r.rising ≡ e.rising) × (r.gap ≡ e.after_gap)

abbrev pub sample_knows : Captures × List ℕ → SampleBody → Edge → Type 0
sample_knows f (Low r) e = Looked r e
sample_knows f (High r) e = Looked r e × (r.time ≡ e.time % 65536) × (f.0.latch ≡ e.time / 65536)
sample_knows f (places.Seen r) e = Looked r e × (r.time ≡ e.time)
sample_knows f (Start r) e = Looked r e × (r.time ≡ e.time)
sample_knows f (Opposite r) e = Looked r e × (r.time ≡ e.time)
sample_knows f (Pop r) e = Looked r e × (r.time ≡ e.time)
sample_knows f _ e = Unit {0}

abbrev pub sample_bodies : (d : IcuTable) → Bodies (icu_ground d) SampleBody
sample_bodies d = fronted d sample_work sample_takes sample_left sample_gap (λ k. false) (sample_holds d) sample_front sample_knows

-- ---- what is seen with one more edge

starts_is : (r : Sampled) (first : Bool) (e : Edge) → r.first ≡ first → r.rising ≡ e.rising → starts r ≡ starts_at first e
starts_is r first e f g = ap (λ q. is_same r.rising q) f ∙ ap (λ q. is_same q first) g

seen_load : (q : Bool) (v : ℕ) (s : MeasureHistory) → v ≡ seen_number s → (if q then 0 else v) ≡ seen_number (if q then Nothing_seen else s)
seen_load true v s e = refl
seen_load false v s e = e

start_load : (q : Bool) (v : ℕ) (s : MeasureHistory) → StartIs v s → StartIs v (if q then Nothing_seen else s)
start_load true v s h = tt
start_load false v s h = h

opposite_load : (q : Bool) (v : ℕ) (s : MeasureHistory) → OppositeIs v s → OppositeIs v (if q then Nothing_seen else s)
opposite_load true v s h = tt
opposite_load false v s h = h

seen_more : (first : Bool) (s : MeasureHistory) (es : List Edge) (e : Edge) → seen_from first s (es ++ e ∷ []) ≡ seen_with first e (seen_from first s es)
seen_more first s [] e = refl
seen_more first s (x ∷ xs) e = seen_more first (seen_with first x s) xs e

-- what an edge makes of what was seen, by whether a measure starts at it
abbrev seen_next : (starts : Bool) → ℕ → MeasureHistory → MeasureHistory
seen_next q t u = if q then Start_seen t else opposed t u

opposed_word : (t : ℕ) (u : MeasureHistory) → (if seen_number u == 1 then 2 else 0) ≡ seen_number (opposed t u)
opposed_word t Nothing_seen = refl
opposed_word t (Start_seen a) = refl
opposed_word t (Opposite_seen a b) = refl

seen_word : (q : Bool) (v t : ℕ) (u : MeasureHistory) → v ≡ seen_number u → (if q then 1 else if v == 1 then 2 else 0) ≡ seen_number (seen_next q t u)
seen_word true v t u e = refl
seen_word false v t u e = ap (λ n. if n == 1 then 2 else 0) e ∙ opposed_word t u

last_word : (q : Bool) (t : ℕ) (u : MeasureHistory) → LastIs q t (seen_next q t u)
last_word true t u = refl
last_word false t Nothing_seen = tt
last_word false t (Start_seen a) = refl
last_word false t (Opposite_seen a b) = tt

start_kept : (v t : ℕ) (u : MeasureHistory) → StartIs v u → StartIs v (opposed t u)
start_kept v t Nothing_seen h = tt
start_kept v t (Start_seen a) h = h
start_kept v t (Opposite_seen a b) h = tt

-- ---- what it tells

abbrev complete_by : (whole starts : Bool) → ℕ → Bool
complete_by whole q v = if whole then q && v == 2 else not q && v == 1

-- a value, of these times
pub record IsTold (start opposite time : ℕ) (vs : List (List ℕ)) : Type 0 where
  pub value : List ℕ
  pub is : vs ≡ value ∷ []
  pub whole : ValueIs (since start time) (Some value)
  pub active : ActiveIs (since start opposite) (Some value)

abbrev ToldIs : Bool → (start opposite time : ℕ) → List (List ℕ) → Type 0
ToldIs true a b t vs = IsTold a b t vs
ToldIs false a b t vs = vs ≡ []

told_is : (p : IcuSignalMeasurementProperty) (q : Bool) (e : Edge) (u : MeasureHistory) (a b : ℕ) → StartIs a u → OppositeIs b u → ToldIs (complete_by (is_whole (Some p)) q (seen_number u)) a b e.time (measures_told p q e u)
told_is HighTime true e u a b h i = refl
told_is HighTime false e Nothing_seen a b h i = refl
told_is HighTime false e (Start_seen n) a b h i = record { value = since n e.time ∷ []; is = refl; whole = ap (λ z. since z e.time) h; active = tt }
told_is HighTime false e (Opposite_seen n m) a b h i = refl
told_is LowTime true e u a b h i = refl
told_is LowTime false e Nothing_seen a b h i = refl
told_is LowTime false e (Start_seen n) a b h i = record { value = since n e.time ∷ []; is = refl; whole = ap (λ z. since z e.time) h; active = tt }
told_is LowTime false e (Opposite_seen n m) a b h i = refl
told_is PeriodTime false e u a b h i = refl
told_is PeriodTime true e Nothing_seen a b h i = refl
told_is PeriodTime true e (Start_seen n) a b h i = refl
told_is PeriodTime true e (Opposite_seen n m) a b h i = record { value = since n e.time ∷ []; is = refl; whole = ap (λ z. since z e.time) h; active = tt }
told_is DutyCycle false e u a b h i = refl
told_is DutyCycle true e Nothing_seen a b h i = refl
told_is DutyCycle true e (Start_seen n) a b h i = refl
told_is DutyCycle true e (Opposite_seen n m) a b h i = record { value = since n m ∷ since n e.time ∷ []; is = refl; whole = ap (λ z. since z e.time) h; active = ap (λ z. since z b) h ∙ ap (λ z. since n z) i }

newest_more : {A : Type 0} (xs : List A) (v : A) → newest (xs ++ v ∷ []) ≡ Some v
newest_more [] v = refl
newest_more (x ∷ []) v = refl
newest_more (x ∷ y ∷ ys) v = newest_more (y ∷ ys) v

more_told : (vs : List (List ℕ)) (v : List ℕ) → nat_lt (length vs) (length (vs ++ v ∷ [])) ≡ true
more_told vs v = ap (λ n. nat_lt (length vs) n) (length-append vs (v ∷ [])) ∙ by (length vs)
  where
    by : (n : ℕ) → nat_lt n (n + 1) ≡ true
    by n = grind (arith, nat_tests)

none_told : (vs : List (List ℕ)) → vs ++ [] ≡ vs
none_told [] = refl
none_told (v ∷ vs) = ap (λ ws. v ∷ ws) (none_told vs)

alternate_front : (es fs : List Edge) → Alternate (es ++ fs) → Alternate es
alternate_front [] fs a = tt
alternate_front (x ∷ []) fs a = tt
alternate_front (x ∷ y ∷ ys) fs a = (a.0, alternate_front (y ∷ ys) fs a.1)

alternate_one : (es : List Edge) (e : Edge) (fs : List Edge) → Alternate (es ++ e ∷ fs) → Alternate (es ++ e ∷ [])
alternate_one es e fs a = alternate_front (es ++ e ∷ []) fs (subst Alternate (sym (append_assoc es (e ∷ []) fs)) a)

-- a single value has no active time
active_any : (v : ℕ) (o : Option (List ℕ)) → OfSome IsOne o → ActiveIs v o
active_any v None h = tt
active_any v (Some []) h = absurd h
active_any v (Some (n ∷ [])) h = tt
active_any v (Some (a ∷ n ∷ ms)) h = absurd h

-- ---- the rows of a measurement

row_times : IsRow TIMES
row_times = (refl, omega arith, omega arith)

abbrev row_by : Bool → ℕ
row_by q = if q then INTERVALS else PLACES

row_last : (q : Bool) → IsRow (row_by q)
row_last true = row_intervals
row_last false = row_places

abbrev seen_rows : Bool → List ℕ
seen_rows q = SIZES ∷ row_by q ∷ []

abbrev told_rows : Bool → List ℕ
told_rows q = VALUES ∷ TIMES ∷ SWITCHES ∷ MARKS ∷ SIZES ∷ row_by q ∷ []

all_seen : (q : Bool) → AllByRecursion IsRow (seen_rows q)
all_seen q = (row_sizes, (row_last q, tt))

all_valued : (q : Bool) → AllByRecursion IsRow (SWITCHES ∷ MARKS ∷ seen_rows q)
all_valued q = (row_switches, (row_marks, all_seen q))

all_told : (q : Bool) → AllByRecursion IsRow (told_rows q)
all_told q = (row_values, (row_times, all_valued q))

-- the words after the serving, of an edge that tells nothing and of one that tells a value
seen_words : (q : Bool) (at : ℕ → ℕ) (c : ℕ) (k : Channel) (x y : Capture) (t : ℕ) (u : MeasureHistory) → x.on ≡ true → y.active ≡ x.active → waiting_value k y ≡ waiting_value k x → seen_by k y ≡ seen_next q t u → StartIs (at (word INTERVALS c)) u → MeasureWords at none c k x → MeasureWords at (rows_behind (seen_rows q) c) c k y
seen_words true at c k x y t u up active same is start h = record { waits = λ f. h.waits refl ∙ ap (λ o. bit_of (is_some o)) (sym same); mark = λ f. h.mark refl ∙ ap (λ z. bit_of z) (sym active); seen = λ f g. off_on (sym f ∙ behind_row (seen_rows true) SIZES c); start = λ f g. off_on (sym f ∙ behind_row (seen_rows true) INTERVALS c); opposite = λ f g. subst (λ z. OppositeIs (at (word PLACES c)) z) (sym is) tt; value = λ f. subst (λ o. ValueIs (at (word VALUES c)) o) (sym same) (h.value refl); time = λ f. subst (λ o. ActiveIs (at (word TIMES c)) o) (sym same) (h.time refl) }
seen_words false at c k x y t u up active same is start h = record { waits = λ f. h.waits refl ∙ ap (λ o. bit_of (is_some o)) (sym same); mark = λ f. h.mark refl ∙ ap (λ z. bit_of z) (sym active); seen = λ f g. off_on (sym f ∙ behind_row (seen_rows false) SIZES c); start = λ f g. subst (λ z. StartIs (at (word INTERVALS c)) z) (sym is) (start_kept (at (word INTERVALS c)) t u start); opposite = λ f g. off_on (sym f ∙ behind_row (seen_rows false) PLACES c); value = λ f. subst (λ o. ValueIs (at (word VALUES c)) o) (sym same) (h.value refl); time = λ f. subst (λ o. ActiveIs (at (word TIMES c)) o) (sym same) (h.time refl) }

told_words : (q : Bool) (at : ℕ → ℕ) (c : ℕ) (k : Channel) (y : Capture) (t : ℕ) (u : MeasureHistory) → seen_by k y ≡ seen_next q t u → StartIs (at (word INTERVALS c)) u → MeasureWords at (rows_behind (told_rows q) c) c k y
told_words true at c k y t u is start = record { waits = λ f. off_on (sym f ∙ behind_row (told_rows true) SWITCHES c); mark = λ f. off_on (sym f ∙ behind_row (told_rows true) MARKS c); seen = λ f g. off_on (sym f ∙ behind_row (told_rows true) SIZES c); start = λ f g. off_on (sym f ∙ behind_row (told_rows true) INTERVALS c); opposite = λ f g. subst (λ z. OppositeIs (at (word PLACES c)) z) (sym is) tt; value = λ f. off_on (sym f ∙ behind_row (told_rows true) VALUES c); time = λ f. off_on (sym f ∙ behind_row (told_rows true) TIMES c) }
told_words false at c k y t u is start = record { waits = λ f. off_on (sym f ∙ behind_row (told_rows false) SWITCHES c); mark = λ f. off_on (sym f ∙ behind_row (told_rows false) MARKS c); seen = λ f g. off_on (sym f ∙ behind_row (told_rows false) SIZES c); start = λ f g. subst (λ z. StartIs (at (word INTERVALS c)) z) (sym is) (start_kept (at (word INTERVALS c)) t u start); opposite = λ f g. off_on (sym f ∙ behind_row (told_rows false) PLACES c); value = λ f. off_on (sym f ∙ behind_row (told_rows false) VALUES c); time = λ f. off_on (sym f ∙ behind_row (told_rows false) TIMES c) }

-- the channel with the edge, which completes a value or doesn't
abbrev sampled_by : Bool → Edge → List Edge → Capture → Capture
sampled_by q e es x =
    let y : Capture = record x { waiting = es; served = x.served ++ e ∷ [] } in
    if q then record y { active = true; handed_out = false } else y

new_last : (q : Bool) (at : ℕ → ℕ) (c : ℕ) (k : Channel) (x : Capture) (t : ℕ) → at (word (row_by q) c) ≡ t → LastIs q t (seen_by k x) → NewWord at c k x (row_by q)
new_last true at c k x t e h = New_start (subst (λ v. StartIs v (seen_by k x)) (sym e) h)
new_last false at c k x t e h = New_opposite (subst (λ v. OppositeIs v (seen_by k x)) (sym e) h)

-- ---- its steps

module _ (d : IcuTable) where
  words_of : (chip : Chip) (w : World) (s : IcuState) (gap : Lag) (r : Sampled) (a : Sampler d r) → IcuRepresents d gap chip w s → MeasureWords (λ j. word_of chip j) gap.words r.channel a.k (capture_at s r.channel)
  words_of chip w s gap r a h = to_mode d r.channel a.k a.known SignalMeasurement a.mode (λ j. word_of chip j) gap.words (capture_at s r.channel) (h.words r.channel a.lt)

  seen_calm : (s : IcuState) (r : Sampled) (a : Sampler d r) → seen_by a.k (capture_at (without_edges s) r.channel) ≡ seen_by a.k (capture_at s r.channel)
  seen_calm s r a = ap (λ z. seen_by a.k z) (calm_at s r.channel a.lt)

  now_here : (s : IcuState) (r : Sampled) (a : Sampler d r) → Seen_now a.k r (capture_at (without_edges s) r.channel) → Seen_now a.k r (capture_at s r.channel)
  now_here s r a b = record { number = b.number ∙ ap (λ z. seen_number z) (seen_calm s r a); last = subst (λ z. LastIs (starts r) r.time z) (seen_calm s r a) b.last }

  now_calm : (s : IcuState) (r : Sampled) (a : Sampler d r) → Seen_now a.k r (capture_at s r.channel) → Seen_now a.k r (capture_at (without_edges s) r.channel)
  now_calm s r a b = record { number = b.number ∙ ap (λ z. seen_number z) (sym (seen_calm s r a)); last = subst (λ z. LastIs (starts r) r.time z) (sym (seen_calm s r a)) b.last }

  waiting_calm : (s : IcuState) (r : Sampled) (a : Sampler d r) → waiting_value a.k (capture_at (without_edges s) r.channel) ≡ waiting_value a.k (capture_at s r.channel)
  waiting_calm s r a = ap (λ z. waiting_value a.k z) (calm_at s r.channel a.lt)

  value_here : (s : IcuState) (r : Sampled) (a : Sampler d r) → Valued a.k r (capture_at (without_edges s) r.channel) → Valued a.k r (capture_at s r.channel)
  value_here s r a b =
      let same = waiting_calm s r a in
      record { waits = sym (ap (λ o. is_some o) same) ∙ b.waits; active = sym (ap (λ z. z.active) (calm_at s r.channel a.lt)) ∙ b.active; value = subst (λ o. ValueIs (since r.start r.time) o) same b.value; time = subst (λ o. ActiveIs (since r.start r.opposite) o) same b.time }

  value_calm : (s : IcuState) (r : Sampled) (a : Sampler d r) → Valued a.k r (capture_at s r.channel) → Valued a.k r (capture_at (without_edges s) r.channel)
  value_calm s r a b =
      let same = sym (waiting_calm s r a) in
      record { waits = sym (ap (λ o. is_some o) same) ∙ b.waits; active = ap (λ z. z.active) (calm_at s r.channel a.lt) ∙ b.active; value = subst (λ o. ValueIs (since r.start r.time) o) same b.value; time = subst (λ o. ActiveIs (since r.start r.opposite) o) same b.time }

  -- ---- reading

  look_by : (chip : Chip) (w : World) (s : IcuState) (m : ℕ → Bool) (r : Sampled) (a : Sampler d r) → IcuRepresents d settled chip w s → (es : List Edge) → (capture_at s r.channel).waiting ≡ es → StepsTo (icu_ground d) (sample_bodies d) chip w s (Entered (line r.channel)) (Read (CaptureInfo r.channel)) false None (missed_after (icu_machine d) w s m) (if info_of (map kept es) / 4 == 0 then (Look r, ends None no_answer Nothing) else (Low (looked r (info_of (map kept es))), goes))
  look_by chip w s m r a h [] is = (h, missed_here d w s r.channel m is, refl)
  look_by chip w s m r a h (e ∷ es) is =
      let n = length (map kept (e ∷ es)) in
      subst (λ q. StepsTo (icu_ground d) (sample_bodies d) chip w s (Entered (line r.channel)) (Read (CaptureInfo r.channel)) false None (missed_after (icu_machine d) w s m) (if q then (Look r, ends None no_answer Nothing) else (Low (looked r (info_of (map kept (e ∷ es)))), goes))) (sym (info_empty (kept e) (map kept es)))
      (h, ((Is_serving, record { k = a.k; known = a.known; mode = a.mode; lt = a.lt; property = a.property; measured = a.measured; first = a.first; whole = a.whole; duty = a.duty }), record { lt = a.lt; edge = e; leads = ap (λ xs. oldest xs) is; is = (info_rising e.rising e.after_gap n, info_gap e.rising e.after_gap n) }))

  -- the time of the oldest edge
  oldest_is : (chip : Chip) (w : World) (s : IcuState) (c : ℕ) (e : Edge) → c < 8 → IcuRepresents d settled chip w s → oldest (capture_at s c).waiting ≡ Some e → (oldest_time (chip_capture chip.captures c).queue ≡ e.time) × (e.time < 2 ^ 32)
  oldest_is chip w s c e lt h leads =
      let p = split e (capture_at s c).waiting leads in
      (ap (λ q. oldest_time q) ((h.block c lt).queue refl ∙ ap (λ es. map kept es) p.is), (subst (λ xs. AllByRecursion (λ (e : Edge). e.time < 2 ^ 32) xs) p.is (h.course c lt).0.times).0)

  -- ---- the serving

  -- all that it read
  record AllRead (r : Sampled) (a : Sampler d r) (x : Capture) (e : Edge) : Type 0 where
    rising : r.rising ≡ e.rising
    gap : r.gap ≡ e.after_gap
    time : r.time ≡ e.time
    seen : r.seen ≡ seen_number (unbroken e (seen_by a.k x))
    start : StartIs r.start (unbroken e (seen_by a.k x))
    opposite : OppositeIs r.opposite (unbroken e (seen_by a.k x))

  read_all : (s : IcuState) (r : Sampled) (a : Sampler d r) (e : Edge) → r.rising ≡ e.rising → r.gap ≡ e.after_gap → r.time ≡ e.time → r.seen ≡ seen_number (seen_before r (seen_by a.k (capture_at (without_edges s) r.channel))) → StartIs r.start (seen_before r (seen_by a.k (capture_at (without_edges s) r.channel))) → OppositeIs r.opposite (seen_before r (seen_by a.k (capture_at (without_edges s) r.channel))) → AllRead r a (capture_at s r.channel) e
  read_all s r a e rising gap time seen start opposite =
      let is = ap (λ z. seen_before r z) (seen_calm s r a) ∙ ap (λ q. if q then Nothing_seen else seen_by a.k (capture_at s r.channel)) gap in
      record { rising = rising; gap = gap; time = time; seen = seen ∙ ap (λ z. seen_number z) is; start = subst (λ z. StartIs r.start z) is start; opposite = subst (λ z. OppositeIs r.opposite z) is opposite }

  abbrev first_at : (r : Sampled) → Sampler d r → Bool
  first_at r a = begins_rising a.property a.k

  first_here : (r : Sampled) (a : Sampler d r) → first_of a.k.measured a.k ≡ first_at r a
  first_here r a = ap (λ z. first_of z a.k) a.measured

  starts_here : (r : Sampled) (a : Sampler d r) (x : Capture) (e : Edge) → AllRead r a x e → starts r ≡ starts_at (first_at r a) e
  starts_here r a x e b = starts_is r (first_at r a) e a.first b.rising

  seen_after : (r : Sampled) (a : Sampler d r) (x : Capture) (e : Edge) (y : Capture) → AllRead r a x e → y.served ≡ x.served ++ e ∷ [] → seen_by a.k y ≡ seen_next (starts r) e.time (unbroken e (seen_by a.k x))
  seen_after r a x e y b is =
      let first = first_of a.k.measured a.k in
      ap (λ es. seen_from first Nothing_seen es) is
      ∙ (seen_more first Nothing_seen x.served e
      ∙ ap (λ q. seen_next q e.time (unbroken e (seen_by a.k x))) (ap (λ z. starts_at z e) (first_here r a) ∙ sym (starts_here r a x e b)))

  now_by : (r : Sampled) (a : Sampler d r) (x : Capture) (e : Edge) (y : Capture) → AllRead r a x e → y.served ≡ x.served ++ e ∷ [] → Seen_now a.k r y
  now_by r a x e y b is =
      let u = unbroken e (seen_by a.k x) in
      let after = sym (seen_after r a x e y b is) in
      record { number = seen_word (starts r) r.seen e.time u b.seen ∙ ap (λ z. seen_number z) after; last = subst (λ z. LastIs (starts r) r.time z) after (subst (λ n. LastIs (starts r) n (seen_next (starts r) e.time u)) (sym b.time) (last_word (starts r) e.time u)) }

  abbrev told_at : (r : Sampled) → Sampler d r → Capture → Edge → List (List ℕ)
  told_at r a x e = measures_told a.property (starts_at (first_at r a) e) e (unbroken e (seen_by a.k x))

  told_here : (r : Sampled) (a : Sampler d r) (x : Capture) (e : Edge) → AllRead r a x e → ToldIs (is_complete r) r.start r.opposite e.time (told_at r a x e)
  told_here r a x e b =
      let u = unbroken e (seen_by a.k x) in
      let q = starts_at (first_at r a) e in
      subst (λ z. ToldIs z r.start r.opposite e.time (told_at r a x e)) (ap (λ z. complete_by z q (seen_number u)) (sym a.whole) ∙ (ap (λ z. complete_by r.whole z (seen_number u)) (sym (starts_here r a x e b)) ∙ ap (λ z. complete_by r.whole (starts r) z) (sym b.seen))) (told_is a.property q e u r.start r.opposite b.start b.opposite)

  values_more : (r : Sampled) (a : Sampler d r) (x : Capture) (e : Edge) → Alternate (x.served ++ e ∷ []) → values a.k (x.served ++ e ∷ []) ≡ values a.k x.served ++ told_at r a x e
  values_more r a x e alt =
      let seen = λ (z : Bool). seen_from z Nothing_seen x.served in
      ap (λ z. values_by z a.k (x.served ++ e ∷ [])) a.measured
      ∙ (values_append a.property a.k x.served e alt
      ∙ (ap (λ z. values_by z a.k x.served ++ told_with a.property a.k e (seen (first_at r a))) (sym a.measured)
      ∙ ap (λ z. values a.k x.served ++ told_with a.property a.k e (seen z)) (sym (first_here r a))))

  completes_by : (r : Sampled) (a : Sampler d r) (x : Capture) (e : Edge) (q : Bool) → is_complete r ≡ q → AllRead r a x e → Alternate (x.served ++ e ∷ []) → completes a.k x.served e ≡ q
  completes_by r a x e true i b alt =
      let vs = values a.k x.served in
      let told = subst (λ z. ToldIs z r.start r.opposite e.time (told_at r a x e)) i (told_here r a x e b) in
      ap (λ ws. nat_lt (length vs) (length ws)) (values_more r a x e alt ∙ ap (λ ws. vs ++ ws) told.is) ∙ more_told vs told.value
  completes_by r a x e false i b alt =
      let vs = values a.k x.served in
      let told = subst (λ z. ToldIs z r.start r.opposite e.time (told_at r a x e)) i (told_here r a x e b) in
      ap (λ ws. nat_lt (length vs) (length ws)) (values_more r a x e alt ∙ (ap (λ ws. vs ++ ws) told ∙ none_told vs)) ∙ lt_itself (length vs)

  -- the machine serves
  serves_is : (w : World) (s : IcuState) (r : Sampled) (a : Sampler d r) (e : Edge) (es : List Edge) (received : ℕ) (q : Bool) → completes a.k (capture_at s r.channel).served e ≡ q → s.initialised ≡ true → (capture_at s r.channel).waiting ≡ e ∷ es → happens d w s (Serves (line r.channel) received) ≡ Some (outcome (with_capture s r.channel (sampled_by q e es (capture_at s r.channel))) tells_nothing)
  serves_is w s r a e es received q i on is =
      let x = capture_at s r.channel in
      let z = record x { waiting = es } in
      served_here d w s r.channel received a.k e es a.known on is
      ∙ (ap (λ m. Some (outcome (with_capture s r.channel (served_by m a.k e z)) (record { answer = no_answer; error = None; notices = notices_of r.channel (kinds_by m z) }))) a.mode
      ∙ ap (λ f. Some (outcome (with_capture s r.channel (sampled_by f e es x)) tells_nothing)) i)

  -- its edges turn, up to this one
  turned : (chip : Chip) (w : World) (s : IcuState) (r : Sampled) (a : Sampler d r) (e : Edge) (es : List Edge) → IcuRepresents d settled chip w s → (capture_at s r.channel).on ≡ true → (capture_at s r.channel).waiting ≡ e ∷ es → Alternate ((capture_at s r.channel).served ++ e ∷ [])
  turned chip w s r a e es h up is =
      let x = capture_at s r.channel in
      let turns = subst (λ q. HasTurns q w x) a.known (h.turns r.channel a.lt) (ap (λ q. is_measurement q) a.mode) up in
      alternate_one x.served e es (subst (λ q. Alternate (x.served ++ q)) is turns.0)

  -- the channel after it
  sampled : (chip : Chip) (w : World) (s : IcuState) (r : Sampled) (a : Sampler d r) (e : Edge) (es : List Edge) (rs : List ℕ) (y : Capture) → AllByRecursion IsRow rs → s.initialised ≡ true → (capture_at s r.channel).on ≡ true → (capture_at s r.channel).waiting ≡ e ∷ es → y.on ≡ (capture_at s r.channel).on → y.waiting ≡ es → y.lost ≡ (capture_at s r.channel).lost → y.count ≡ (capture_at s r.channel).count → y.start ≡ (capture_at s r.channel).start → y.activation ≡ (capture_at s r.channel).activation → y.stored ≡ (capture_at s r.channel).stored → y.served ≡ (capture_at s r.channel).served ++ e ∷ [] → MeasureWords (λ j. word_of chip j) (rows_behind rs r.channel) r.channel a.k y → IcuRepresents d settled chip w s → IcuRepresents d (rows_of rs r.channel) (chip_after chip (Write (CapturePop r.channel) 0) 0) w (with_capture s r.channel y)
  sampled chip w s r a e es rs y all on up is still_on still_waits still_lost still_count still_start still_chosen still_stored more words h =
      let c = r.channel in
      let k = channel_of d c in
      let x = capture_at s c in
      let z = record x { waiting = es } in
      let bc = chip_capture chip.captures c in
      let m1 = s.initialised || false in
      let g = channel_agrees d settled chip w s c a.lt h in
      let chip1 = chip_after chip (Write (CapturePop c) 0) 0 in
      let turns = subst (λ q. HasTurns q w x) a.known g.turns (ap (λ q. is_measurement q) a.mode) up in
      let edges = ap (λ q. x.served ++ q) is ∙ (sym (append_assoc x.served (e ∷ []) es) ∙ (ap (λ q. q ++ es) (sym more) ∙ ap (λ q. y.served ++ q) (sym still_waits))) in
      one_agrees d c a.lt settled (rows_of rs c) (settled_at c) (rows_at rs c all a.lt) chip chip1 w s (with_capture s c y) on h (left_channel c w chip (popped bc) (stands-move chip w (Write (CapturePop c) 0) 0 h.outside)) (with_state s c y) (subst (λ q. ChannelAgrees d (rows_of rs c) chip1 w s.initialised c q) (sym (with_same s c y a.lt)) (record {
        block = subst (λ q. CaptureAgrees k false false false s.initialised m1 q y) (sym (channel_new c chip.captures (popped bc) h.size a.lt)) (block_as k false false false s.initialised m1 (popped bc) z y still_on still_waits still_lost still_count still_chosen (popped_agrees k false s.initialised m1 bc x e es is g.block));
        words = from_mode d c a.k a.known SignalMeasurement a.mode (λ j. word_of chip1 j) (rows_behind rs c) y words;
        course = as_course k z y still_on still_waits still_lost still_count still_start (popped_course k x e es is g.course);
        place = place_by d c a.k a.known y (ap (λ q. is_timestamp q) a.mode);
        turns = subst (λ q. HasTurns q w y) (sym a.known) (λ m o. (subst Alternate edges turns.0, subst (λ l. EndsAt l (w.levels a.k.pin) (y.served ++ y.waiting)) (sym still_lost) (subst (λ q. EndsAt x.lost (w.levels a.k.pin) q) edges turns.1)));
        stamps = λ some j few i. g.stamps some j few refl ∙ sym (ap (λ q. stamp_in q j) still_stored);
      }))

  abbrev Pops : Chip → World → IcuState → (ℕ → Bool) → Sampled → SampleBody → Type 0
  Pops chip w s m r k = StepsTo (icu_ground d) (sample_bodies d) (chip_after chip (Write (CapturePop r.channel) 0) 0) w s (Entered (line r.channel)) (Write (CapturePop r.channel) 0) false None m (k, serves r.channel)

  pop_value : (chip : Chip) (w : World) (s : IcuState) (m : ℕ → Bool) (r : Sampled) (a : Sampler d r) (e : Edge) (es : List Edge) → IcuRepresents d settled chip w s → (capture_at s r.channel).on ≡ true → s.initialised ≡ true → (capture_at s r.channel).waiting ≡ e ∷ es → Alternate ((capture_at s r.channel).served ++ e ∷ []) → AllRead r a (capture_at s r.channel) e → is_complete r ≡ true → Pops chip w s m r (Value r)
  pop_value chip w s m r a e es h up on is alt b i =
      let c = r.channel in
      let x = capture_at s c in
      let y = sampled_by true e es x in
      let s1 = with_capture s c y in
      let vs = values a.k x.served in
      let told = subst (λ z. ToldIs z r.start r.opposite e.time (told_at r a x e)) i (told_here r a x e b) in
      let waiting = ap (λ ws. newest ws) (values_more r a x e alt ∙ ap (λ ws. vs ++ ws) told.is) ∙ newest_more vs told.value in
      let old = words_of chip w s settled r a h in
      let at = λ (j : ℕ). word_of chip j in
      let u = unbroken e (seen_by a.k x) in
      let words = told_words (starts r) at c a.k y e.time u (seen_after r a x e y b refl) (start_load e.after_gap (at (word INTERVALS c)) (seen_by a.k x) (old.start refl up)) in
      let valued : Valued a.k r y = record { waits = ap (λ o. is_some o) waiting; active = refl; value = subst (λ o. ValueIs (since r.start r.time) o) (sym waiting) (subst (λ t. ValueIs (since r.start t) (Some told.value)) (sym b.time) told.whole); time = subst (λ o. ActiveIs (since r.start r.opposite) o) (sym waiting) told.active } in
      record {
        own = refl;
        state = s1;
        told = tells_nothing;
        is = λ times. serves_is w s r a e es times.received true (completes_by r a x e true i b alt) on is;
        acts = tt;
        next = (
          sampled chip w s r a e es (told_rows (starts r)) y (all_told (starts r)) on up is refl refl refl refl refl refl refl refl words h,
          ((Is_served, a, on, now_calm s1 r a (subst (λ z. Seen_now a.k r z) (sym (with_same s c y a.lt)) (now_by r a x e y b refl)), value_calm s1 r a (subst (λ z. Valued a.k r z) (sym (with_same s c y a.lt)) valued)), tt),
        );
      }

  pop_keep : (chip : Chip) (w : World) (s : IcuState) (m : ℕ → Bool) (r : Sampled) (a : Sampler d r) (e : Edge) (es : List Edge) → IcuRepresents d settled chip w s → (capture_at s r.channel).on ≡ true → s.initialised ≡ true → (capture_at s r.channel).waiting ≡ e ∷ es → Alternate ((capture_at s r.channel).served ++ e ∷ []) → AllRead r a (capture_at s r.channel) e → is_complete r ≡ false → Pops chip w s m r (Keep r)
  pop_keep chip w s m r a e es h up on is alt b i =
      let c = r.channel in
      let x = capture_at s c in
      let y = sampled_by false e es x in
      let s1 = with_capture s c y in
      let vs = values a.k x.served in
      let told = subst (λ z. ToldIs z r.start r.opposite e.time (told_at r a x e)) i (told_here r a x e b) in
      let same = ap (λ ws. if x.handed_out then None else newest ws) (values_more r a x e alt ∙ (ap (λ ws. vs ++ ws) told ∙ none_told vs)) in
      let old = words_of chip w s settled r a h in
      let at = λ (j : ℕ). word_of chip j in
      let u = unbroken e (seen_by a.k x) in
      let words = seen_words (starts r) at c a.k x y e.time u up refl same (seen_after r a x e y b refl) (start_load e.after_gap (at (word INTERVALS c)) (seen_by a.k x) (old.start refl up)) old in
      record {
        own = refl;
        state = s1;
        told = tells_nothing;
        is = λ times. serves_is w s r a e es times.received false (completes_by r a x e false i b alt) on is;
        acts = tt;
        next = (
          sampled chip w s r a e es (seen_rows (starts r)) y (all_seen (starts r)) on up is refl refl refl refl refl refl refl refl words h,
          ((Is_served, a, on, now_calm s1 r a (subst (λ z. Seen_now a.k r z) (sym (with_same s c y a.lt)) (now_by r a x e y b refl))), tt),
        );
      }

  pop_by : (chip : Chip) (w : World) (s : IcuState) (m : ℕ → Bool) (r : Sampled) (a : Sampler d r) (e : Edge) → IcuRepresents d settled chip w s → oldest (capture_at s r.channel).waiting ≡ Some e → AllRead r a (capture_at s r.channel) e → (q : Bool) → is_complete r ≡ q → Pops chip w s m r (if q then Value r else Keep r)
  pop_by chip w s m r a e h leads b true i =
      let up = waiting_on d chip w s r.channel e a.lt h leads in
      let p = split e (capture_at s r.channel).waiting leads in
      pop_value chip w s m r a e p.rest h up.0 up.1 p.is (turned chip w s r a e p.rest h up.0 p.is) b i
  pop_by chip w s m r a e h leads b false i =
      let up = waiting_on d chip w s r.channel e a.lt h leads in
      let p = split e (capture_at s r.channel).waiting leads in
      pop_keep chip w s m r a e p.rest h up.0 up.1 p.is (turned chip w s r a e p.rest h up.0 p.is) b i

  -- ---- what is stored behind it

  abbrev Behind : Chip → World → IcuState → List ℕ → Sampled → Type 0
  Behind chip w s rs r = IcuRepresents d (rows_of rs r.channel) chip w s

  -- a word is stored that is right then
  stored : (first : ℕ) (row : IsRow first) (rs : List ℕ) → AllByRecursion IsRow rs → (v : ℕ) (chip : Chip) (w : World) (s : IcuState) (r : Sampled) (a : Sampler d r) → s.initialised ≡ true → (word_of (chip_after chip (Stores (word first r.channel) v) 0) (word first r.channel) ≡ v → NewWord (λ j. word_of (chip_after chip (Stores (word first r.channel) v) 0) j) r.channel a.k (capture_at s r.channel) first) → Behind chip w s (first ∷ rs) r → Behind (chip_after chip (Stores (word first r.channel) v) 0) w s rs r
  stored first row rs all v chip w s r a on new h =
      let c = r.channel in
      let x = capture_at s c in
      let at1 = λ (j : ℕ). word_of (chip_after chip (Stores (word first c) v) 0) j in
      let others = subst (λ m. ModeWords m at1 (rows_behind (first ∷ rs) c) c a.k x) a.mode (row_others d c a.lt a.k a.known first row rs all v chip w s on h) in
      row_stored d c a.lt a.k a.known first row rs all v chip w s on h (subst (λ m. ModeWords m at1 (rows_behind rs c) c a.k x) (sym a.mode) (measure_closed at1 rs c a.k x first (new (word_new first c v chip row a.lt h.outside.all.words)) others))

  -- a single value has no active time to be stored
  single : (rs : List ℕ) → AllByRecursion IsRow rs → (chip : Chip) (w : World) (s : IcuState) (r : Sampled) (a : Sampler d r) → s.initialised ≡ true → r.duty ≡ false → Behind chip w s (TIMES ∷ rs) r → Behind chip w s rs r
  single rs all chip w s r a on one h =
      let c = r.channel in
      let x = capture_at s c in
      let at = λ (j : ℕ). word_of chip j in
      let g = channel_agrees d (rows_of (TIMES ∷ rs) c) chip w s c a.lt h in
      let no_duty = ap (λ z. is_duty_cycle z) a.measured ∙ (sym a.duty ∙ one) in
      one_agrees d c a.lt (rows_of (TIMES ∷ rs) c) (rows_of rs c) (rows_at (TIMES ∷ rs) c (row_times, all) a.lt) (rows_at rs c all a.lt) chip chip w s s on h (left_same c w chip h.outside) (same_state c s) (record {
        block = g.block;
        words = from_mode d c a.k a.known SignalMeasurement a.mode at (rows_behind rs c) x (measure_closed at rs c a.k x TIMES (New_time (active_any (at (word TIMES c)) (waiting_value a.k x) (waits_single a.k x no_duty))) (words_of chip w s (rows_of (TIMES ∷ rs) c) r a h));
        course = g.course;
        place = g.place;
        turns = g.turns;
        stamps = λ some j few i. g.stamps some j few refl;
      })

  value_by : (chip : Chip) (w : World) (s : IcuState) (m : ℕ → Bool) (r : Sampled) (a : Sampler d r) → s.initialised ≡ true → Seen_now a.k r (capture_at (without_edges s) r.channel) → Valued a.k r (capture_at (without_edges s) r.channel) → Behind chip w s (TIMES ∷ value_rows r) r → (q : Bool) → r.duty ≡ q → StepsTo (icu_ground d) (sample_bodies d) chip w s (Entered (line r.channel)) (Stores (word VALUES r.channel) (since r.start r.time)) false (Some tells_nothing) m (if q then (Active r, goes) else (Waits r, goes))
  value_by chip w s m r a on b v h true i = (h, ((Is_served, a, on, b, v), tt))
  value_by chip w s m r a on b v h false i = (single (value_rows r) (all_valued (starts r)) chip w s r a on i h, ((Is_served, a, on, b, v), tt))

  steps : AllGood d (sample_bodies d)
  steps chip w s (Look r) o t m (h, ((Is_serving, a), u)) = (below_test r.channel a.lt, subst (λ es. StepsTo (icu_ground d) (sample_bodies d) chip w s (Entered (line r.channel)) (Read (CaptureInfo r.channel)) false None (missed_after (icu_machine d) w s m) (if info_of es / 4 == 0 then (Look r, ends None no_answer Nothing) else (Low (looked r (info_of es)), goes))) (sym ((h.block r.channel a.lt).queue refl)) (look_by chip w s m r a h (capture_at s r.channel).waiting refl))
  steps chip w s (Low r) o t m (h, ((Is_serving, a), u)) =
      let c = r.channel in
      let n = oldest_time (chip_capture chip.captures c).queue in
      let p = oldest_is chip w s c u.edge a.lt h u.leads in
      let g = channel_agrees d settled chip w s c a.lt h in
      let on = (waiting_on d chip w s c u.edge a.lt h u.leads).1 in
      (below_test c a.lt, (one_agrees d c a.lt settled settled (settled_at c) (settled_at c) chip (chip_after chip (Read (CaptureTimeLow c)) 0) w s s on h (left_latched c w chip (n / 65536) (stands-move chip w (Read (CaptureTimeLow c)) 0 h.outside)) (same_state c s) (record { block = g.block; words = g.words; course = g.course; place = g.place; turns = g.turns; stamps = g.stamps }), ((Is_serving, record { k = a.k; known = a.known; mode = a.mode; lt = a.lt; property = a.property; measured = a.measured; first = a.first; whole = a.whole; duty = a.duty }), record { lt = a.lt; edge = u.edge; leads = u.leads; is = (u.is, ap (λ z. z % 65536) p.0, ap (λ z. z / 65536) p.0) })))
  steps chip w s (High r) o t m (h, ((Is_serving, a), u)) =
      let p = oldest_is chip w s r.channel u.edge a.lt h u.leads in
      let time = ap (λ z. joined z chip.captures.latch) u.is.1 ∙ (ap (λ z. joined (u.edge.time % 65536) z) u.is.2 ∙ halves_join u.edge.time p.1) in
      (below_test r.channel a.lt, (h, ((Is_serving, record { k = a.k; known = a.known; mode = a.mode; lt = a.lt; property = a.property; measured = a.measured; first = a.first; whole = a.whole; duty = a.duty }), record { lt = a.lt; edge = u.edge; leads = u.leads; is = (u.is.0, time) })))
  steps chip w s (places.Seen r) o t m (h, ((Is_serving, a), u)) =
      let words = words_of chip w s settled r a h in
      let up = (waiting_on d chip w s r.channel u.edge a.lt h u.leads).0 in
      let s0 = seen_by a.k (capture_at (without_edges s) r.channel) in
      (may_row d SIZES r.channel row_sizes a.lt, (h, ((Is_serving, record { k = a.k; known = a.known; mode = a.mode; lt = a.lt; property = a.property; measured = a.measured; first = a.first; whole = a.whole; duty = a.duty }, seen_load r.gap (word_of chip (word SIZES r.channel)) s0 (words.seen refl up ∙ ap (λ z. seen_number z) (sym (seen_calm s r a)))), record { lt = a.lt; edge = u.edge; leads = u.leads; is = u.is })))
  steps chip w s (Start r) o t m (h, ((Is_serving, a, seen), u)) =
      let words = words_of chip w s settled r a h in
      let up = (waiting_on d chip w s r.channel u.edge a.lt h u.leads).0 in
      let s0 = seen_by a.k (capture_at (without_edges s) r.channel) in
      let v = word_of chip (word INTERVALS r.channel) in
      (may_row d INTERVALS r.channel row_intervals a.lt, (h, ((Is_serving, record { k = a.k; known = a.known; mode = a.mode; lt = a.lt; property = a.property; measured = a.measured; first = a.first; whole = a.whole; duty = a.duty }, seen, start_load r.gap v s0 (subst (λ z. StartIs v z) (sym (seen_calm s r a)) (words.start refl up))), record { lt = a.lt; edge = u.edge; leads = u.leads; is = u.is })))
  steps chip w s (Opposite r) o t m (h, ((Is_serving, a, seen, start), u)) =
      let words = words_of chip w s settled r a h in
      let up = (waiting_on d chip w s r.channel u.edge a.lt h u.leads).0 in
      let s0 = seen_by a.k (capture_at (without_edges s) r.channel) in
      let v = word_of chip (word PLACES r.channel) in
      (may_row d PLACES r.channel row_places a.lt, (h, ((Is_serving, record { k = a.k; known = a.known; mode = a.mode; lt = a.lt; property = a.property; measured = a.measured; first = a.first; whole = a.whole; duty = a.duty }, seen, start, opposite_load r.gap v s0 (subst (λ z. OppositeIs v z) (sym (seen_calm s r a)) (words.opposite refl up))), record { lt = a.lt; edge = u.edge; leads = u.leads; is = u.is })))
  steps chip w s (Pop r) o t m (h, ((Is_serving, a, seen, start, opposite), u)) = (below_test r.channel a.lt, pop_by chip w s (missed_after (icu_machine d) w s m) r a u.edge h u.leads (read_all s r a u.edge u.is.0.0 u.is.0.1 u.is.1 seen start opposite) (is_complete r) refl)
  steps chip w s (Value r) o t m (h, ((Is_served, a, on, b, v), u)) =
      let q = value_here s r a v in
      (may_row d VALUES r.channel row_values a.lt, value_by (chip_after chip (Stores (word VALUES r.channel) (since r.start r.time)) 0) w s (missed_after (icu_machine d) w s m) r a on b v (stored VALUES row_values (TIMES ∷ value_rows r) (row_times, all_valued (starts r)) (since r.start r.time) chip w s r a on (λ e. New_value (subst (λ z. ValueIs z (waiting_value a.k (capture_at s r.channel))) (sym e) q.value)) h) r.duty refl)
  steps chip w s (Active r) o t m (h, ((Is_served, a, on, b, v), u)) =
      let q = value_here s r a v in
      (may_row d TIMES r.channel row_times a.lt, (stored TIMES row_times (value_rows r) (all_valued (starts r)) (since r.start r.opposite) chip w s r a on (λ e. New_time (subst (λ z. ActiveIs z (waiting_value a.k (capture_at s r.channel))) (sym e) q.time)) h, ((Is_served, a, on, b, v), tt)))
  steps chip w s (Waits r) o t m (h, ((Is_served, a, on, b, v), u)) =
      let q = value_here s r a v in
      (may_row d SWITCHES r.channel row_switches a.lt, (stored SWITCHES row_switches (MARKS ∷ seen_rows (starts r)) (row_marks, all_seen (starts r)) 1 chip w s r a on (λ e. New_waits (e ∙ sym (ap (λ z. bit_of z) q.waits))) h, ((Is_served, a, on, b, v), tt)))
  steps chip w s (Mark r) o t m (h, ((Is_served, a, on, b, v), u)) =
      let q = value_here s r a v in
      (may_row d MARKS r.channel row_marks a.lt, (stored MARKS row_marks (seen_rows (starts r)) (all_seen (starts r)) 1 chip w s r a on (λ e. New_mark (e ∙ sym (ap (λ z. bit_of z) q.active))) h, ((Is_served, a, on, b), tt)))
  steps chip w s (Keep r) o t m (h, ((Is_served, a, on, b), u)) =
      let q = now_here s r a b in
      (may_row d SIZES r.channel row_sizes a.lt, (stored SIZES row_sizes (row_of r ∷ []) (row_last (starts r), tt) (seen_now r) chip w s r a on (λ e. New_seen (e ∙ q.number)) h, ((Is_served, a, on, b), tt)))
  steps chip w s (Last r) o t m (h, ((Is_served, a, on, b), u)) =
      let q = now_here s r a b in
      (may_row d (row_of r) r.channel (row_last (starts r)) a.lt, (stored (row_of r) (row_last (starts r)) [] tt r.time chip w s r a on (λ e. new_last (starts r) (λ j. word_of (chip_after chip (Stores (word (row_of r) r.channel) r.time) 0) j) r.channel a.k (capture_at s r.channel) r.time e q.last) h, (refl, refl, refl)))

  pub sample_right : AreRight (icu_ground d) (sample_bodies d)
  sample_right = fronted_right d sample_work sample_takes sample_left sample_gap (λ k. false) (sample_holds d) sample_front sample_knows sample_shortens (λ k x. never_clean (sample_work k) k (sample_takes k x)) steps
