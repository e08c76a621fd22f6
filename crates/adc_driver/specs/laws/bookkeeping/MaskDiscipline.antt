-- The places at which a frame is in a window, and that a step there that doesn't open the mask leaves it in that window.
-- From adc_groups: services.Decisions, adc_groups: services.BodySteps, adc_groups: services.WriteBatchSteps and 9 more.
-- Used by bookkeeping.Joined, services.AllSteps.
use Rattle.std.proofs.Common.{◌≡◌, ◌+◌, ◌<◌, ◌≤◌, ◌&&◌, ◌==◌, [], ◌∷◌, ◌∙◌, if◌then◌else◌}
use Rattle.adc_driver.specs.Terms
use Terms.{aborted, Aborts, AdcBody, AdcGround, AdcState, AdcTable, after_making, Answer, ap, arith, AssertedAt}
use Terms.{banks_spot, begin, body_takes, body_work, BodyTaken, Bool, Call, Chip, choose_takes, Chooses, clean_in}
use Terms.{Continuation, copy_move, Decided, decided, deed_move, deed_or_open, Done, either_shape, entered, Event}
use Terms.{false, FitsAdc, Flag, flagged, follows, foot_of, Footprint, FrameHistory, Front, front_gave, front_left}
use Terms.{given, group_in, group_of, has_read, is_closed, is_first, is_on, is_ready, is_shared, is_simple, is_some}
use Terms.{is_under_way, IsDealing, IsStarting, KeepsMask, len_start, length, List, Load, look_move, look_takes}
use Terms.{looked, looking, Looks, Makes, making_by, making_event, making_left, making_move, making_over}
use Terms.{making_takes, MayClose, Move, move_by, nat_le, nat_lt, nat_tests, Newest, next_of, None, not, number_of}
use Terms.{of_driver, off_where, Opens, Option, Orders, Origin, Out, Outside, owes_at, owes_making, PendingWrites}
use Terms.{Phase, phase_in, Pins, Place, place_at, place_move, place_takes, plain_turns, point_by, PointAssertion}
use Terms.{Prepares, pulse_by, Pulses, Put, put_gave, put_left, put_move, Quits, rank_of, read_by, read_more}
use Terms.{read_spot, Reads, refl, Reservations, round_seen, RoundSeen, Search, search_move, seek_takes, Seeks}
use Terms.{seen_more, serve, shape_move, shape_simple, ShortensTo, slice_get, Some, sought, spot_at, spot_making}
use Terms.{spot_or, spot_start, Stage, stage_by, stage_read, start_deeds, step, stop, stop_seen, Stops, StopSeen}
use Terms.{Store, StructureOp, subst, suc, survey, survey_by, surveyed, Surveys, Suspended, sym, Take, take_by}
use Terms.{take_gave, take_left, take_move, Taken, takes_one, trigger_bit, trigger_input, true, TurnsTo, unit_in}
use Terms.{value_of, whether_as, Window, WindowWrite, Within, Word, word_at, word_seen, words_of, World, Write}
use Terms.{WriteBatch, yields_by, zero, ℕ}
use Rattle.adc_driver.specs.laws.{bookkeeping.Decreases.{is_inner, is_inner_stage, narrows}, bookkeeping.Rank.{V}}
use Rattle.adc_driver.specs.laws.{bookkeeping.Rank.{bodies, largest, few_inputs}, words.EitherOne.{either}}
use Rattle.word_shapes.specs.declared.streams.copying.Copied as streams
use Rattle.word_shapes.specs.declared.streams.copying.Copied.TheVariants as copied

-- ---- which places are in a window

abbrev pub is_shut_stage : Stage → Bool
is_shut_stage (Stage.Releases t) = true
is_shut_stage Stage.Leaves = true
is_shut_stage _ = false

abbrev pub is_shut : Place → Bool
is_shut (Reads n) = is_shut_stage n.stage
is_shut (Out o) = false
is_shut k = true

-- a making is in its window, whether it owes its moves or not
making_shut : (d : AdcTable) (P : Type 0) (m : WriteBatch) (q : Option PendingWrites) → is_closed (spot_or (V d) q (of_driver P (spot_making d m m.event))) ≡ true
making_shut d P m (Some x) = refl
making_shut d P m None = event_shut m.event
  where
    starts : (u : Option ℕ) (c : Bool) → is_closed (of_driver P (spot_start d m u c)) ≡ true
    starts None c = refl
    starts (Some u) c = refl

    event_shut : (e : Option Event) → is_closed (of_driver P (spot_making d m e)) ≡ true
    event_shut (Some (Event.Start u)) = starts (number_of u) _
    event_shut _ =
        elim m.banks as (λ b. is_closed (of_driver P (banks_spot d m b)) ≡ true)
        [ Some (StructureOp.Put q) ↦ refl | _ ↦ refl ]

pub shut_at : (d : AdcTable) (k : AdcBody) → is_closed ((bodies d).assertion k) ≡ is_shut k.place
shut_at d k = by k.place
  where
    stage : (n : Newest) (z : Stage) → is_closed ((bodies d).assertion (record { table = k.table; place = Reads (record n { stage = z }) })) ≡ is_shut_stage z
    stage n Stage.Reads = refl
    stage n _ = refl

    by : (p : Place) → is_closed ((bodies d).assertion (record { table = k.table; place = p })) ≡ is_shut p
    by (Makes m) = making_shut d (k.table ≡ d) m (owes_making k.table m)
    by (Reads n) = stage n n.stage
    by _ = refl

-- ---- what a window goes on with is in the window

abbrev pub IsShutBy : Place → Option Done → Type 0
IsShutBy k None = is_shut k ≡ true
IsShutBy k (Some n) = Unit {0}

abbrev pub StaysShut : Place × BodyTaken → Type 0
StaysShut z = IsShutBy z.0 z.1.done

abbrev GoesShut : Decided → Type 0
GoesShut (Decided.Ends t) = Unit {0}
GoesShut (Decided.Goes k) = is_shut k ≡ true

follows_shut : (k : Place) (x : Decided) → is_shut k ≡ true → GoesShut x → StaysShut (follows k x)
follows_shut k (Decided.Ends t) h g = elim t.done as (λ q. IsShutBy k q) [ None ↦ h | Some n ↦ tt ]
follows_shut k (Decided.Goes p) h g = g

begin_shut : (d : AdcTable) (w : Window) → is_shut (begin d w) ≡ true
begin_shut d (Window.Start g) = refl
begin_shut d _ = refl

survey_shut : (d : AdcTable) (w : Window) (q : Option ℕ) → is_shut (survey_by d w q) ≡ true
survey_shut d w None = begin_shut d w
survey_shut d w (Some g) = refl

pub entered_shut : (w : Window) → is_shut (entered w) ≡ true
entered_shut w = either (λ k. is_shut k ≡ true) (clean_in w) (Quits 0) (looking w) refl refl

looked_shut : (d : AdcTable) (w : Window) (c p : ℕ) → GoesShut (looked d w c p)
looked_shut d w c p = either GoesShut (c == 0) _ _ tt (either GoesShut (is_under_way (phase_in p)) _ _ tt (either (λ k. is_shut k ≡ true) (takes_one d) (survey d w 0) (begin d w) (survey_shut d w (next_of d (unit_in d w) 0)) (begin_shut d w)))

point_shut : (d : AdcTable) (g c p : ℕ) (x : Phase) → GoesShut (point_by d g c p x)
point_shut d g c p Phase.Idle = tt
point_shut d g c p Phase.Busy = tt
point_shut d g c p _ = refl

read_shut : (d : AdcTable) (g : ℕ) (x : Phase) → GoesShut (read_by d g x)
read_shut d g Phase.Idle = tt
read_shut d g Phase.Busy = tt
read_shut d g _ = refl

yields_shut : (d : AdcTable) (u c : ℕ) (g : Option ℕ) → is_shut (yields_by d u c g) ≡ true
yields_shut d u c None = refl
yields_shut d u c (Some g) = either (λ k. is_shut k ≡ true) (c == 0) _ _ refl refl

take_shut : (d : AdcTable) (u : ℕ) (g : Option ℕ) → GoesShut (take_by d u g)
take_shut d u None = tt
take_shut d u (Some g) = either GoesShut (is_on u (group_of d g)) _ _ refl tt

serve_shut : (d : AdcTable) (t : Taken) (x : RoundSeen) → GoesShut (serve d t x)
serve_shut d t x = either GoesShut (x.running == 0) _ _ refl refl

stop_shut : (d : AdcTable) (u g : ℕ) (x : StopSeen) → GoesShut (stop d u g x)
stop_shut d u g x = either GoesShut (x.phase == 0) _ _ tt refl

decided_shut : (d : AdcTable) (w : Window) (seen : List ℕ) → GoesShut (decided d w seen)
decided_shut d Window.Close seen = tt
decided_shut d (Window.Setup g b) seen = either GoesShut (word_seen seen 0 == 0) _ _ refl tt
decided_shut d (Window.Status g) seen = tt
decided_shut d (Window.Point g) seen = point_shut d g (word_seen seen 1) (word_seen seen 2) (phase_in (word_seen seen 0))
decided_shut d (Window.Read g) seen = read_shut d g (phase_in (word_seen seen 0))
decided_shut d (Window.Start g) seen = looked_shut d (Window.Start g) (word_seen seen 0) (word_seen seen 1)
decided_shut d (Window.Enable g) seen = looked_shut d (Window.Enable g) (word_seen seen 0) (word_seen seen 1)
decided_shut d (Window.Stop u g) seen = stop_shut d u g (stop_seen seen)
decided_shut d (Window.Yield u) seen = yields_shut d u (word_seen seen 1) (group_in (word_seen seen 0))
decided_shut d (Window.Begin u) seen = either GoesShut (word_seen seen 0 == 0 && word_seen seen 1 == 0) _ _ refl tt
decided_shut d (Window.Leave u) seen = tt
decided_shut d (Window.Take u) seen = take_shut d u (group_in (word_seen seen 0))
decided_shut d (Window.Serve t) seen = serve_shut d t (round_seen seen)
decided_shut d _ seen = refl

sought_shut : (d : AdcTable) (w : Window) (x : ℕ) → GoesShut (sought d w x)
sought_shut d (Window.Suspend u g) x = either (λ k. is_shut k ≡ true) (nat_lt x 16 && nat_lt (rank_of d g) (rank_of d x)) _ _ refl refl
sought_shut d (Window.Begin u) x = either GoesShut (nat_lt x 16) _ _ refl tt
sought_shut d (Window.Leave u) x = either GoesShut (nat_lt x 16) _ _ refl refl
sought_shut d _ x = tt

-- ---- steps in a window

look_shut : (d : AdcTable) (w : Window) (seen : List ℕ) (q : Option Word) → StaysShut (look_takes d w seen q)
look_shut d w seen (Some x) = refl
look_shut d w seen None = follows_shut (Looks w seen) (decided d w seen) refl (decided_shut d w seen)

seek_shut : (d : AdcTable) (w : Window) (r : Front) (q : Option Answer) → StaysShut (seek_takes d w r q)
seek_shut d w r None = refl
seek_shut d w r (Some a) = follows_shut (Seeks w r) (sought d w (given a)) refl (sought_shut d w (given a))

choose_shut : (u g : ℕ) (r : Put) (q : Option Answer) → StaysShut (choose_takes u g r q)
choose_shut u g r None = refl
choose_shut u g r (Some a) = refl

aborted_shut : (d : AdcTable) (r : Suspended) (x : ℕ) → is_shut (aborted d r x).1 ≡ true
aborted_shut d r x = either (λ (z : Option Event × Place). is_shut z.1 ≡ true) (x == 1) _ _ refl refl

making_stays : (e : Option Event) (m : WriteBatch) → StaysShut (making_takes e m)
making_stays e m =
    elim (making_over m) as (λ q. StaysShut (if q then after_making e m m.after else (Makes m, step e)))
    [ true ↦ (elim m.after as (λ t. StaysShut (after_making e m t)) [ Continuation.Ends n ↦ tt | Continuation.Goes o ↦ refl ]) | false ↦ refl ]

stage_stays : (t : Take) (q : Option Answer) → is_shut_stage (stage_by t q) ≡ true
stage_stays t None = refl
stage_stays t (Some a) = refl

-- a place of a window that doesn't open the mask
pub inner_shut : (k : Place) → is_inner k ≡ true → is_shut k ≡ true
inner_shut (Reads n) h = by n.stage h
  where
    by : (z : Stage) → is_inner_stage z ≡ true → is_shut_stage z ≡ true
    by (Stage.Releases t) h = refl
    by _ h = absurd (cc)
inner_shut (Opens o) h = absurd (cc)
inner_shut (Out o) h = absurd (cc)
inner_shut _ h = refl

pub takes_shut : (d : AdcTable) (k : Place) (x : ℕ) → is_inner k ≡ true → StaysShut (place_takes d k x)
takes_shut d (Flag w) x h = follows_shut (Flag w) (flagged w x) refl (either GoesShut (is_ready w x) _ _ (entered_shut w) tt)
takes_shut d (Looks w seen) x h = look_shut d w (seen_more seen x) (word_at w (length (seen_more seen x)))
takes_shut d (Surveys w g) x h = follows_shut (Surveys w g) (surveyed d w g x) refl (either GoesShut (is_under_way (phase_in x)) _ _ tt (survey_shut d w (next_of d (unit_in d w) (g + 1))))
takes_shut d (Seeks w r) x h = seek_shut d w (front_left r x) (front_gave r x).ended
takes_shut d (Chooses u g r) x h = choose_shut u g (put_left r x) (put_gave r x).ended
takes_shut d (Pins g p) x h = refl
takes_shut d (Reads n) x h = by n.stage h
  where
    by : (z : Stage) → is_inner_stage z ≡ true → StaysShut (place_takes d (Reads (record n { stage = z })) x)
    by (Stage.Releases t) h = stage_stays (take_left t x) (take_gave t x).ended
    by _ h = absurd (cc)
takes_shut d (Aborts r) x h = aborted_shut d r x
takes_shut d (Makes m) x h = making_stays (making_event m) (making_left m x)
takes_shut d (Quits u) x h = tt
takes_shut d _ x h = absurd (cc)

-- ---- A making that has its event before it has moves left, so that each step of it names a register or a word.

-- ---- the moves of a making that isn't over

simple_plain : (made : Move) → is_simple made ≡ true → is_shared made ≡ false
simple_plain (Load k) e = refl
simple_plain (Store k v) e = refl
simple_plain (Write r v) e = refl
simple_plain _ e = absurd (cc)

pub shape_plain : (s : StructureOp) → is_shared (shape_move s) ≡ false
shape_plain s = simple_plain (shape_move s) (shape_simple s)

deed_plain : (d : AdcTable) (x : WindowWrite) → is_shared (deed_move d x) ≡ false
deed_plain d (WindowWrite.Set w v) = refl
deed_plain d _ = refl

some_plain : (d : AdcTable) (q : Option WindowWrite) → is_some q ≡ true → is_shared (deed_or_open d q) ≡ false
some_plain d None e = absurd (cc)
some_plain d (Some x) e = deed_plain d x

some_deed : (ds : List WindowWrite) (n : ℕ) → nat_le (length ds) n ≡ false → is_some (slice_get ds n) ≡ true
some_deed [] n e = absurd (let le : nat_le 0 n ≡ true = grind (arith, nat_tests) in let no : true ≡ false = sym le ∙ e in cc)
some_deed (x ∷ xs) zero e = refl
some_deed (x ∷ xs) (suc n) e = some_deed xs n (grind (arith, nat_tests))

pub making_plain : (d : AdcTable) (m : WriteBatch) → making_over m ≡ false → is_shared (making_move d m) ≡ false
making_plain d m e = whether_as (is_first m) (λ q. is_shared (making_by d m (if q then None else either_shape m.order m.banks)) ≡ false)
    (λ h. let k = first h in some_plain d (slice_get m.deeds m.made) (ap (λ n. is_some (slice_get m.deeds n)) k.0 ∙ k.1))
    (λ h. later m.order m.banks e)
  where
    first : is_first m ≡ true → (m.made ≡ 0) × (is_some (slice_get m.deeds 0) ≡ true)
    first e = (grind (arith, nat_tests), grind (arith, nat_tests))

    later : (o b : Option StructureOp) → not (is_some o) && (not (is_some b) && nat_le (length m.deeds) m.made) ≡ false → is_shared (making_by d m (either_shape o b)) ≡ false
    later (Some s) b e = shape_plain s
    later None (Some s) e = shape_plain s
    later None None e = some_plain d (slice_get m.deeds m.made) (some_deed m.deeds m.made e)

-- ---- makings before their event

-- there are deeds
some_left : (x : WindowWrite) (xs : List WindowWrite) → nat_le (length (x ∷ xs)) 0 ≡ false
some_left x xs = let lt : 0 < length (x ∷ xs) = omega arith in grind (arith, nat_tests)

dealing_goes : (d : AdcTable) (below : Reservations) (f : Footprint) (w : World) (s : AdcState) (o : Origin Call) (p : FrameHistory) (m : WriteBatch) → IsDealing d below f w s o p m → making_over m ≡ false
dealing_goes d below f w s o p _ (Stops g call is calls idle turn) = some_left (WindowWrite.Set (Word.Phase g) 0) (WindowWrite.Set (Word.Notified g) 0 ∷ off_where (is_some (trigger_input (group_of d g))) (trigger_bit d g))
dealing_goes d below f w s o p _ (Pulses i g turned serves may turn) =
    elim turned as (λ q. making_over (pulse_by d i g q) ≡ false)
    [ true ↦ refl | false ↦ refl ]
dealing_goes d below f w s o p _ _ = refl

starting_goes : (d : AdcTable) (below : Reservations) (f : Footprint) (w : World) (s : AdcState) (o : Origin Call) (p : FrameHistory) (u : ℕ) (m : WriteBatch) → IsStarting d below f w s o p u m → making_over m ≡ false
starting_goes d below f w s o p u _ (Orders g e left claimed n r xs start order first ends has) = refl
starting_goes d below f w s o p u _ (Prepares g e left claimed made xs start few order holds has) = let long = len_start d u g e left claimed in by (length (start_deeds d u g e left claimed)) (omega (arith, long, few))
  where
    by : (n : ℕ) → made < n → nat_le n made ≡ false
    by n lt = grind (arith, nat_tests)

-- the place of a body that is the driver's
pub driver_place : {d : AdcTable} (P : Type 0) (x : PointAssertion (AdcGround d)) (below : Reservations) (f : Footprint) (w : World) (s : AdcState) (o : Origin Call) (p : FrameHistory) → place_at (of_driver P x) below f w s o p → P × place_at x below f w s o p
driver_place P (Within gap hs place) below f w s o p h = h
driver_place _ _ below f w s o p h = h

module _ (d : AdcTable) (m : WriteBatch) (below : Reservations) (f : Footprint) (w : World) (s : AdcState) (o : Origin Call) (p : FrameHistory) where
  banks_goes : (q : Option StructureOp) → place_at (banks_spot d m q) below f w s o p → making_over m ≡ false
  banks_goes None h = dealing_goes d below f w s o p m h
  banks_goes (Some (StructureOp.Put q)) (t, r, serves, few, alone, there, round, is) = ap making_over is
  banks_goes (Some q) at = ap making_over at.5

  start_goes : (u : Option ℕ) (c : Bool) → place_at (spot_start d m u c) below f w s o p → making_over m ≡ false
  start_goes (Some u) c h = starting_goes d below f w s o p u m h
  start_goes None c h = absurd h

  -- where it stands it has moves left
  pub event_goes : (e : Option Event) → place_at (spot_making d m e) below f w s o p → making_over m ≡ false
  event_goes (Some (Event.Start x)) h = start_goes (number_of x) _ h
  event_goes _ h = banks_goes m.banks h

-- ---- How the steps of the driver's bodies turn the mask, and the moves that their windows have left.

-- ---- moves of registers and words

search_plain : (s : Search) → is_shared (search_move s) ≡ false
search_plain (Search.Tally at) = refl
search_plain _ = refl

take_plain : (t : Take) → is_shared (take_move t) ≡ false
take_plain (Take.Pin c) = refl
take_plain _ = refl

copy_plain : (c : streams.Copied) (j : ℕ) (q : Option ℕ) → is_shared (move_by c j q) ≡ false
copy_plain c j (Some x) = refl
copy_plain (copied.Round r u e b) j None = either (λ z. is_shared z ≡ false) (nat_lt j e) _ _ refl refl
copy_plain _ j _ = refl

-- a window that looks at a word loads it
word_plain : (d : AdcTable) (xs : List Word) (n : ℕ) → n < length xs → is_shared (look_move d (slice_get xs n)) ≡ false
word_plain d [] n lt = absurd (omega (arith, lt))
word_plain d (x ∷ xs) zero lt = refl
word_plain d (x ∷ xs) (suc n) lt = word_plain d xs n (omega (arith, lt))

-- a step that stays in its window leaves fewer moves there
stays : (was is : Bool) (room later : ℕ) (e : Option Event) (left : Option Done) (q : Place) → was ≡ true → is ≡ is_shut q → IsShutBy q left → ShortensTo room later left → KeepsMask was is room later e left
stays true is room later e None q i j shut less = (j ∙ shut, less)
stays true is room later e (Some x) q i j shut less = less
stays false is room later e left q i j shut less = absurd (cc)

module _ (d : AdcTable) (fits : FitsAdc d) where
  few : largest d ≤ 32
  few = few_inputs d fits

  abbrev At : Place → AdcBody
  At p = record { table = d; place = p }

  abbrev TurnsAt : Place → ℕ → Type 0
  TurnsAt p x = TurnsTo (bodies d) 32 (At p) (body_takes (At p) x)

  inner_turns : (p : Place) (x : ℕ) → is_inner p ≡ true → is_shared (place_move d p) ≡ false → TurnsAt p x
  inner_turns p x inner plain =
      let z = place_takes d p x in
      plain_turns 32 (is_closed ((bodies d).assertion (At p))) (is_closed ((bodies d).assertion (At z.0))) ((bodies d).room (At p)) ((bodies d).room (At z.0)) (place_move d p) z.1.event z.1.done plain
      (stays (is_closed ((bodies d).assertion (At p))) (is_closed ((bodies d).assertion (At z.0))) ((bodies d).room (At p)) ((bodies d).room (At z.0)) z.1.event z.1.done z.0 (shut_at d (At p) ∙ inner_shut p inner) (shut_at d (At z.0)) (takes_shut d p x inner) (narrows d (At p) x inner))

  -- ---- with the mask open

  opens_turns : (o : Outside) (x : ℕ) → TurnsAt (Opens o) x
  opens_turns (Outside.Reads g b) x = (refl, refl, refl, refl)
  opens_turns _ x = (refl, refl, refl, refl)

  closes_turns : (w : Window) (below : Reservations) (o : Origin Call) (p : FrameHistory) (x : ℕ) → MayClose d w below o p → TurnsAt (Out (Outside.Closes w)) x
  closes_turns (Window.Yield u) below o p x h = (refl, refl, omega arith, refl, refl)
  closes_turns (Window.Begin u) below o p x h = (refl, refl, omega (arith, few), refl, refl)
  closes_turns (Window.Keep r) below o p x h = (refl, refl, omega arith, refl, refl)
  closes_turns (Window.Serve t) below o p x h = (refl, refl, omega (arith, few), refl, refl)
  closes_turns _ below o p x h = absurd h

  module _ (below : Reservations) (f : Footprint) (w : World) (s : AdcState) (o : Origin Call) (past : FrameHistory) where
    out_turns : (q : Outside) (x : ℕ) → place_at (spot_at d (Out q)) below f w s o past → TurnsAt (Out q) x
    out_turns (Outside.Copies c a) x h = plain_turns 32 false false 0 0 (copy_move c) None None (copy_plain c.what c.done c.value) refl
    out_turns (Outside.Notes g u) x h = (refl, refl, refl, refl)
    out_turns (Outside.Closes w) x h = closes_turns w below o past x h
    out_turns _ x h = refl

    reads_turns : (n : Newest) (z : Stage) (x : ℕ) → place_at (read_spot d n z) below f w s o past → TurnsAt (Reads (record n { stage = z })) x
    reads_turns n Stage.Reads x h =
        elim (has_read (read_more n.reading x)) as (λ q. is_closed ((bodies d).assertion (At (Reads (record n { reading = read_more n.reading x; stage = stage_read q })))) ≡ false)
        [ true ↦ refl | false ↦ refl ]
    reads_turns n Stage.Shuts x h = (refl, refl, omega arith, refl, refl)
    reads_turns n (Stage.Releases t) x h = inner_turns (Reads (record n { stage = Stage.Releases t })) x refl (take_plain t)
    reads_turns n Stage.Leaves x h = (refl, refl, refl, refl)
    reads_turns n Stage.Over x h = absurd h

    place_turns : (p : Place) (x : ℕ) → place_at (spot_at d p) below f w s o past → TurnsAt p x
    place_turns (Looks v seen) x h = inner_turns (Looks v seen) x refl (word_plain d (words_of v) (length seen) h.1.1)
    place_turns (Seeks v r) x h = inner_turns (Seeks v r) x refl (search_plain r.search)
    place_turns (Chooses u g r) x h = inner_turns (Chooses u g r) x refl (ap (λ z. is_shared (put_move z)) h.1)
    place_turns (Reads n) x h = reads_turns n n.stage x h
    place_turns (Makes m) x h = inner_turns (Makes m) x refl (making_plain d m (event_goes d m below f w s o past m.event h))
    place_turns (Opens q) x h = opens_turns q x
    place_turns (Out q) x h = out_turns q x h
    place_turns q x h = inner_turns q x refl refl

  -- ---- every body

  -- where it owes nothing it stands as its place tells
  pub own_spot : (k : AdcBody) (q : Option PendingWrites) (below : Reservations) (f : Footprint) (w : World) (s : AdcState) (o : Origin Call) (past : FrameHistory) → q ≡ None → place_at (spot_or (V d) q (of_driver (k.table ≡ d) (spot_at d k.place))) below f w s o past → (k.table ≡ d) × place_at (spot_at d k.place) below f w s o past
  own_spot k None below f w s o past none h = driver_place (k.table ≡ d) (spot_at d k.place) below f w s o past h
  own_spot k (Some x) below f w s o past none h = absurd (cc)

  pub turns_right : (below : Reservations) (chip : Chip) (w : World) (s : AdcState) (k : AdcBody) (o : Origin Call) (past : FrameHistory) → owes_at k.table k.place ≡ None → AssertedAt (AdcGround d) (bodies d) below chip w s k o past → TurnsTo (bodies d) 32 k (body_takes k (value_of chip (body_work k)))
  turns_right below chip w s k o past none h =
      let here = own_spot k (owes_at k.table k.place) below (foot_of chip) w s o past none h.1 in
      subst (λ t. TurnsTo (bodies d) 32 (record { table = t; place = k.place }) (body_takes (record { table = t; place = k.place }) (value_of chip (place_move t k.place)))) (sym here.0)
      (place_turns below (foot_of chip) w s o past k.place (value_of chip (place_move d k.place)) here.1)
