-- A frame that makes its moves leaves no unit waiting whose line it has served: what starts on a unit is what waits first.
-- From adc_groups: services.Decisions, bookkeeping.NoneWaits, adc_groups: services.BodySteps and 15 more.
-- Used by bookkeeping.Joined.
use Rattle.std.proofs.Common.{◌≡◌, ◌+◌, ◌-◌, ◌<◌, ◌≤◌, ◌&&◌, ◌==◌, [], ◌∙◌, if◌then◌else◌}
use Rattle.adc_driver.specs.Terms
use Terms.{aborted, aborted_by, Aborts, acted, adc_machine, AdcBody, AdcGround, AdcState, AdcTable, after_making}
use Terms.{Answer, any_ends, AnyBody, ap, arith, asks_for, AssertedAt, banks_left, banks_spot, begins_next}
use Terms.{Begins_stream, BodyTaken, Bool, Brought, brought_by, Call, Called, Chip, choose_takes, Chooses, clean_in}
use Terms.{Closes_module, Continuation, conversion, Decided, deed_takes, Done, done, drop, EnableHardwareTrigger}
use Terms.{Enables_trigger, ended_at, ends, ends_claim, Entered, entered, EOk, Event, false, First, Flag, follows}
use Terms.{foot_of, Footprint, FrameHistory, fresh_history, gap_at, GetStreamLastPointer, goes, group_at, group_of}
use Terms.{happening_at, Has_acted, Has_served, has_served, HasLooked, holds_at, InFlag, init_takes, InitBody}
use Terms.{InWindow, is_first, is_ready, Is_this_frame, IsDealing, IsFirst, IsReading, IsServing, IsSound, IsStarting}
use Terms.{IsThisFrame, last_takes, Leaves_acted, LeavesNone, len_start, length, line_waits, List, list_any}
use Terms.{LongBodies, Looking, looking, Looks, Makes, MakesStarts, making_event, making_left, making_move}
use Terms.{making_over, MayLeave, MayTurn, moves_ahead, named_of, named_with, nat_lt, nat_tests, Newest, Next}
use Terms.{no_answer, no_unit, None, none_aborts, none_starts, Nothing, nothing_more, Notification, Notifies}
use Terms.{number_of, of_driver, one_made, opened, Opens, Option, order_left, order_takes, Orders, Origin, Out}
use Terms.{outcome, outcome_of, OutPlace, outside_left, outside_move, over, owes_at, PendingWrites, Pins, Place}
use Terms.{place_at, place_ends, place_move, place_out, place_takes, place_then, PointAssertion, Points, Prepares}
use Terms.{pulse_by, Pulses, Put, put_gave, put_left, put_move, Quits, read_spot, ReadGroup, Reads, refl, Request}
use Terms.{Reservations, round_words, Second, Seeks, Sets_up, Setup, setup_after, setup_count, SetupResultBuffer}
use Terms.{shape_after, Some, some_ahead, spot_at, spot_making, spot_or, spot_start, Stage, start_deeds, startable_on}
use Terms.{started, StartGroupConversion, starting, starts_on, state_by, step, Stops, Stops_turn, stores, StructureOp}
use Terms.{subst, Surveys, Suspended, suspends, sweep_spot, SweepStage, sym, takes_at, tells_nothing, true}
use Terms.{unit_named, value_of, whether, Window, with_holds, Within, World, WriteBatch, ℕ}
use Rattle.adc_driver.specs.laws.{services.AllSteps.{few_units}, bookkeeping.NoneWaits.{LeavesSo, being_so}}
use Rattle.adc_driver.specs.laws.bookkeeping.NoneWaits.{called_so, calm_so, going_so, line_calm, serving_so, LeavesBy}
use Rattle.adc_driver.specs.laws.bookkeeping.NoneWaits.{called_by, waits_later, finds_so, looks_so}
use Rattle.adc_driver.specs.laws.{words.EitherOne.{either}, services.InitRight.{init_bodies, init_spot, last_bodies}}
use Rattle.adc_driver.specs.laws.{services.InitRight.{setting_up}, bookkeeping.Lawful.{adc, any_bodies}}
use Rattle.adc_driver.specs.laws.bookkeeping.Rank.{V, bodies, body_fuel, body_room}
use Rattle.adc_driver.specs.laws.bookkeeping.PendingWritesRight.{owed_about, past_by}
use Rattle.service_outline.specs.Services.{Outside}
use Rattle.service_outline.specs.declared.sweep.SweepStage as sweeping
use Rattle.adc_groups.specs.declared.outside.Outside.TheVariants as outsides

-- how a frame stands at a place
abbrev pub Stands : (d : AdcTable) → Reservations → Chip → World → AdcState → Origin Call → FrameHistory → PointAssertion (AdcGround d) → Type 0
Stands d below chip w s o p x = (AdcGround d).represents (with_holds o p.acted (holds_at x) below) (gap_at x) chip w s × place_at x below (foot_of chip) w s o p

-- ---- what comes after a making

-- a step leaves what comes after
after_left : (m : WriteBatch) (v : ℕ) → (making_left m v).after ≡ m.after
after_left m v =
    elim (is_first m) as (λ q. (let n : WriteBatch = if q then one_made m else order_left m m.order v in n.after) ≡ m.after)
    [ true ↦ made (nat_lt m.made (length m.deeds)) | false ↦ order m.order ]
  where
    made : (q : Bool) → (let n : WriteBatch = if q then record m { made = m.made + 1 } else m in n.after) ≡ m.after
    made true = refl
    made false = refl

    order : (q : Option StructureOp) → (order_left m q v).after ≡ m.after
    order None =
        elim m.banks as (λ q. (banks_left m q v).after ≡ m.after)
        [ None ↦ made (nat_lt m.made (length m.deeds)) | Some z ↦ refl ]
    order (Some z) = refl

module _ (d : AdcTable) (w : World) (s : AdcState) (b : Brought) (o : Origin Call) (p : FrameHistory) where
  abbrev SoOf : Place × BodyTaken → Type 0
  SoOf z = LeavesSo d w s o p b z

  -- it goes on, or is done
  making_so : (m : WriteBatch) (v : ℕ) → ((k : WriteBatch) (n : Done) → m.after ≡ Continuation.Ends n → SoOf (Makes k, record { event = making_event m; done = Some n })) → SoOf (place_takes d (Makes m) v)
  making_so m v ends = by (making_over (making_left m v)) (making_left m v).after (sym (after_left m v))
    where
      by : (q : Bool) (t : Continuation) → m.after ≡ t → SoOf (if q then after_making (making_event m) (making_left m v) t else (Makes (making_left m v), step (making_event m)))
      by false t e = going_so d w s o p b (Makes (making_left m v)) (making_event m) refl
      by true (Continuation.Goes x) e = going_so d w s o p b (Opens x) (making_event m) refl
      by true (Continuation.Ends n) e = ends (making_left m v) n e

  -- of a call
  called_making : (c : Call) (q : FrameHistory) → q.polled ≡ [] → IsThisFrame (Called c) q o p → (m : WriteBatch) (v : ℕ) → SoOf (place_takes d (Makes m) v)
  called_making c q none is m v = being_so d w s b c q o p none is (place_takes d (Makes m) v)

  -- while moves are owed
  pub owing_so : (m : WriteBatch) (v : ℕ) (below : Reservations) (t : Continuation) → m.after ≡ t → place_then d t below o p → SoOf (place_takes d (Makes m) v)
  owing_so m v below (Continuation.Goes x) e at = making_so m v (λ k n f. absurd (let no : Continuation.Goes x ≡ Continuation.Ends n = sym e ∙ f in cc))
  owing_so m v below (Continuation.Ends n) e at = by at
    where
      by : MayLeave o p n → SoOf (place_takes d (Makes m) v)
      by (Leaves_acted c is none) = called_making c (record fresh_history { acted = Some n.answer }) refl is m v

-- ---- a pulse is served

module _ (d : AdcTable) (w : World) (s : AdcState) (b : Brought) where
  pulse_so : (i g v : ℕ) (turned : Bool) → LeavesSo d w s (Entered (28 + i)) fresh_history b (place_takes d (Makes (pulse_by d i g turned)) v)
  pulse_so i g v true = making_so d w s b (Entered (28 + i)) fresh_history (pulse_by d i g true) v (λ k n e. (
      let x : AdcState = state_by s (outcome_of (adc_machine d) w s (happening_at (Entered (28 + i)) b (Some (Event.Serve (28 + i))))) in
      let same : done no_answer ≡ n = cc in
      subst (λ n. LeavesSo d w s (Entered (28 + i)) fresh_history b (Makes k, record { event = Some (Event.Serve (28 + i)); done = Some n })) same
      (calm_so d w s (28 + i) b fresh_history (Makes k) (Some (Event.Serve (28 + i))) no_answer refl (ap (λ q. q && startable_on d w x (Some (28 + i - 24))) (no_unit i)))
      ))
  pulse_so i g v false = making_so d w s b (Entered (28 + i)) fresh_history (pulse_by d i g false) v (λ k n e. absurd (cc))

  pulsing_so : (i g v : ℕ) (turned : Bool) (o : Origin Call) (p : FrameHistory) → IsServing (28 + i) o p → LeavesSo d w s o p b (place_takes d (Makes (pulse_by d i g turned)) v)
  pulsing_so i g v turned _ _ Is_this_frame = pulse_so i g v turned

  dealing_so : (below : Reservations) (f : Footprint) (o : Origin Call) (p : FrameHistory) (m : WriteBatch) (v : ℕ) → IsDealing d below f w s o p m → LeavesSo d w s o p b (place_takes d (Makes m) v)
  dealing_so below f o p m v (Sets_up g c is idle) = called_making d w s b o p (Call.Group g (SetupResultBuffer (Some c))) fresh_history refl is.0 m v
  dealing_so below f o p m v (Notifies g on is) = called_making d w s b o p (Call.Group g (Notification on)) fresh_history refl is.0 m v
  dealing_so below f o p m v (Points g status is at busy idle) = called_making d w s b o p (Call.Group g GetStreamLastPointer) fresh_history refl is.0 m v
  dealing_so below f o p m v (Begins_stream g is may) = called_making d w s b o p (Call.Group g StartGroupConversion) fresh_history refl is.0 m v
  dealing_so below f o p m v (Enables_trigger g is may) = called_making d w s b o p (Call.Group g EnableHardwareTrigger) fresh_history refl is.0 m v
  dealing_so below f o p m v (Stops g call stop is idle none) = called_making d w s b o p (Call.Group g call) fresh_history refl is.0 m v
  dealing_so below f o p m v (Stops_turn g call run lost stop is idle turn runs claim) = called_making d w s b o p (Call.Group g call) fresh_history refl is.0 m v
  dealing_so below f o p m v (Closes_module is on calm none) = called_making d w s b o p Call.DeInit fresh_history refl is m v
  dealing_so below f o p m v (Pulses i g turned is may turn) = pulsing_so i g v turned o p is

  -- ---- a unit starts

  -- with the move at which it does the frame is done
  start_so : (l u g : ℕ) (k : Place) (none : place_ends k ≡ None) → u < 2 → IsSound d w s → (below : Reservations) → MayTurn u l below → IsFirst d s u g → LeavesSo d w s (Entered l) (has_served l) b (k, ends (Some (Event.Start (unit_named u))) no_answer Nothing)
  start_so l u g k none few sound below own first =
      calm_so d w s l b (has_served l) k (Some (Event.Start (unit_named u))) no_answer none (subst (λ q. line_waits d w (state_by s q) l ≡ false) (sym goes) (line_calm d w (started w s u g) u l below own (λ mine free. (
        none_starts d w s u g few sound first.0 first.1 request.0 request.1 first.3,
        none_aborts d w s u g few sound first.0 first.1 request.0 request.1 first.3,
      ))))
    where
      request : (q : Request) × ((group_at s g).waiting ≡ Some q)
      request = asks_for s g first.2

      goes : starts_on d w s (number_of (unit_named u)) ≡ Some (outcome (started w s u g) tells_nothing)
      goes = ap (λ n. starts_on d w s n) (named_of u few) ∙ ap (λ n. starting w s u n) first.3

  module _ (below : Reservations) (f : Footprint) (u : ℕ) (few : u < 2) (sound : IsSound d w s) (v : ℕ) where
    abbrev at : (g e left : ℕ) (c : Bool) → Option StructureOp → ℕ → WriteBatch
    at g e left c q j = record (conversion d u g e left c) { order = q; made = j }

    abbrev StepsSo : Origin Call → FrameHistory → AdcBody × BodyTaken → Type 0
    StepsSo o p z = LeavesSo d w s o p b (z.0.place, z.1)

    -- before that move it goes on
    ordering_so : (g e left : ℕ) (c : Bool) (r : Next) (o : Origin Call) (p : FrameHistory) → LeavesSo d w s o p b (place_takes d (Makes (at g e left c (Some (StructureOp.Next r)) 0)) v)
    ordering_so g e left c r o p =
        subst (StepsSo o p) (sym (order_takes d (Event.Start (unit_named u)) (start_deeds d u g e left c) (moves_ahead left c) nothing_more (some_ahead left c) (StructureOp.Next r) 0 v (some_ahead left c) (let len = len_start d u g e left c in omega (arith, len))))
        (going_so d w s o p b (Makes (at g e left c (shape_after (StructureOp.Next r) v) 0)) None refl)

    preparing_so : (g e left : ℕ) (c : Bool) (j : ℕ) (o : Origin Call) (p : FrameHistory) → j < moves_ahead left c → LeavesSo d w s o p b (place_takes d (Makes (at g e left c None j)) v)
    preparing_so g e left c j o p lt =
        subst (StepsSo o p) (sym (deed_takes d (Event.Start (unit_named u)) (start_deeds d u g e left c) (moves_ahead left c) nothing_more (some_ahead left c) j v lt (let len = len_start d u g e left c in omega (arith, len, lt))))
        (going_so d w s o p b (Makes (at g e left c None (j + 1))) None refl)

    last_so : (g e left : ℕ) (c : Bool) (o : Origin Call) (p : FrameHistory) → InWindow d (Window.Convert u g c) below w s o p → LeavesSo d w s o p b (place_takes d (Makes (at g e left c None (moves_ahead left c))) v)
    last_so g e left c o p is =
        subst (StepsSo o p) (sym (last_takes d (Event.Start (unit_named u)) (start_deeds d u g e left c) (moves_ahead left c) nothing_more (some_ahead left c) v (len_start d u g e left c))) (by c o p is (at g e left c None (moves_ahead left c + 1)))
      where
        by : (c : Bool) (o : Origin Call) (p : FrameHistory) → InWindow d (Window.Convert u g c) below w s o p → (k : WriteBatch) → LeavesSo d w s o p b (Makes k, ends (Some (Event.Start (unit_named u))) no_answer Nothing)
        by true o p is k = serving_so d w s b (24 + u) o p is.0 (Makes k, ends (Some (Event.Start (unit_named u))) no_answer Nothing) refl
        by false _ _ (Has_acted a Is_this_frame, few, on, none, first) k = called_so d w s a acted b refl (Makes k, ends (Some (Event.Start (unit_named u))) no_answer Nothing)
        by false _ _ (Has_served l own Is_this_frame, few, on, none, first) k = start_so l u g (Makes k) refl few sound below own first

    starting_so : (o : Origin Call) (p : FrameHistory) (m : WriteBatch) → IsStarting d below f w s o p u m → LeavesSo d w s o p b (place_takes d (Makes m) v)
    starting_so o p _ (Orders g e left c n r xs start is_order first found made) = ordering_so g e left c r o p
    starting_so o p _ (Prepares g e left c j xs start le is_order holds made) = whether (nat_lt j (moves_ahead left c))
        (λ i. preparing_so g e left c j o p (grind (arith, nat_tests)))
        (λ i. subst (λ n. LeavesSo d w s o p b (place_takes d (Makes (at g e left c None n)) v)) (let ge : moves_ahead left c ≤ j = grind (arith, nat_tests) in let same : moves_ahead left c ≡ j = omega (arith, ge, le) in same) (last_so g e left c o p start.window))

  -- ---- each making

  module _ (below : Reservations) (chip : Chip) (o : Origin Call) (p : FrameHistory) (m : WriteBatch) (v : ℕ) where
    banks_so : (q : Option StructureOp) → place_at (banks_spot d m q) below (foot_of chip) w s o p → LeavesSo d w s o p b (place_takes d (Makes m) v)
    banks_so None at = dealing_so below (foot_of chip) o p m v at
    banks_so (Some (StructureOp.Put q)) (t, r, is, few, alone, there, round, same) = making_so d w s b o p m v (λ k n e. absurd (let no : Continuation.Goes (stores d t (round_words d (foot_of chip) t)) ≡ Continuation.Ends n = sym (ap (λ (z : WriteBatch). z.after) same) ∙ e in cc))
    banks_so (Some q) at = called_making d w s b o p (Call.Group at.0 ReadGroup) fresh_history refl at.2.0 m v

    begin_so : (u : Option ℕ) (c : Bool) → Stands d below chip w s o p (spot_start d m u c) → LeavesSo d w s o p b (place_takes d (Makes m) v)
    begin_so None c at = absurd at.1
    begin_so (Some u) c at = starting_so below (foot_of chip) u (few_units d below (foot_of chip) w s o p u m at.1) at.0.1.sound v o p m at.1

    pub makes_so : (e : Option Event) → Stands d below chip w s o p (spot_making d m e) → LeavesSo d w s o p b (place_takes d (Makes m) v)
    makes_so (Some (Event.Start x)) at = begin_so (number_of x) (list_any ends_claim m.deeds) at
    makes_so _ at = banks_so m.banks at.1

-- ---- Wherever a frame of the driver ends, it leaves no unit waiting whose line it has served.

module _ (d : AdcTable) (below : Reservations) (chip : Chip) (w : World) (s : AdcState) (b : Brought) (o : Origin Call) (p : FrameHistory) where
  abbrev So : Place × BodyTaken → Type 0
  So z = LeavesSo d w s o p b z

  to : (k : Place) → place_ends k ≡ None → So (k, goes)
  to k none = going_so d w s o p b k None none

  -- ---- looks

  flag_so : (l : ℕ) → IsServing l o p → (win : Window) (q : Bool) → So (follows (Flag win) (if q then Decided.Goes (entered win) else over))
  flag_so l is win q = either (λ x. So (follows (Flag win) x)) q _ _ (serving_so d w s b l o p is (entered win, goes) refl) (serving_so d w s b l o p is (Flag win, ends None no_answer Nothing) refl)

  flags_so : (win : Window) (v : ℕ) → InFlag d win below o p → So (place_takes d (Flag win) v)
  flags_so (Window.Take u) v is = flag_so (24 + u) is.0 (Window.Take u) (is_ready (Window.Take u) v)
  flags_so (Window.Trigger i g) v is = flag_so (28 + i) is.0 (Window.Trigger i g) (is_ready (Window.Trigger i g) v)
  flags_so _ v is = absurd is

  surveys_so : (win : Window) (z : Place × BodyTaken) → InWindow d win below w s o p → HasLooked d win s → So z
  surveys_so Window.Close z is looked = being_so d w s b Call.DeInit fresh_history o p refl is.0 z
  surveys_so (Window.Start g) z is looked = being_so d w s b (Call.Group g StartGroupConversion) fresh_history o p refl is.0 z
  surveys_so (Window.Enable g) z is looked = being_so d w s b (Call.Group g EnableHardwareTrigger) fresh_history o p refl is.0 z
  surveys_so _ z is looked = absurd looked

  chooses_so : (u g : ℕ) (r : Put) (q : Option Answer) → So (choose_takes u g r q)
  chooses_so u g r None = to (Chooses u g r) refl
  chooses_so u g r (Some a) = to (choose_takes u g r (Some a)).0 refl

  -- ---- reads, with an answer that no reply has room for

  reading_so : (g : ℕ) (whole : List ℕ) (z : Place × BodyTaken) → IsReading d g whole o p → So z
  reading_so g whole z is = being_so d w s b (Call.Group g ReadGroup) (record fresh_history { acted = Some (named_with EOk whole) }) o p refl is z

  reads_so : (n : Newest) (stage : Stage) (z : Place × BodyTaken) → place_at (read_spot d n stage) below (foot_of chip) w s o p → So z
  reads_so n Stage.Reads z (rounds, less, only, (whole, is)) = reading_so n.group whole z is
  reads_so n Stage.Shuts z (rounds, only, is) = reading_so n.group n.reading.values z is
  reads_so n (Stage.Releases t) z (rounds, only, is, releases) = reading_so n.group n.reading.values z is
  reads_so n Stage.Leaves z is = reading_so n.group n.reading.values z is
  reads_so n Stage.Over z none = absurd none

  -- ---- the mask opens, and is open

  opens_so : (x : OutPlace) → place_out d x below o p → So (opened d x, goes)
  opens_so (outsides.Reads g c) (only, (whole, is)) = reading_so g whole (opened d (outsides.Reads g c), goes) is
  opens_so x at = to (opened d x) refl

  outside_so : (x : OutPlace) (v : ℕ) → place_out d x below o p → So (outside_left d x v, goes)
  outside_so (outsides.Reads g c) v (only, (whole, is)) = reading_so g whole (outside_left d (outsides.Reads g c) v, goes) is
  outside_so (outsides.Closes win) v at = either (λ k. So (k, goes)) (clean_in win) _ _ (to (Quits 0) refl) (to (looking win) refl)
  outside_so x v at = to (outside_left d x v) refl

  aborts_so : (r : Suspended) (v : ℕ) → So ((aborted d r v).1, step (aborted d r v).0)
  aborts_so r v =
      let yes : Option Event × Place = (Some (Event.Abort (unit_named r.unit)), Makes (aborted_by r (suspends (group_of d r.group)))) in
      either (λ (x : Option Event × Place). So (x.1, step x.0)) (v == 1) _ _ (going_so d w s o p b yes.1 yes.0 refl) (to (begins_next r.unit) refl)

  -- ---- each place

  place_so : (k : Place) → Stands d below chip w s o p (spot_at d k) → So (place_takes d k (value_of chip (place_move d k)))
  place_so (Flag win) at = flags_so win (value_of chip (place_move d (Flag win))) at.1
  place_so (Looks win seen) at = looks_so d below chip w s b o p win seen at.1.0 at.1.1 at.0
  place_so (Surveys win g) at = surveys_so win (place_takes d (Surveys win g) (value_of chip (place_move d (Surveys win g)))) at.1.0 at.1.1
  place_so (Seeks win r) at = finds_so d below chip w s b o p win r at.1.0 at.1.1 at.0
  place_so (Chooses u g r) at = chooses_so u g (put_left r (value_of chip (put_move r))) (put_gave r (value_of chip (put_move r))).ended
  place_so (Pins g x) at = to (place_takes d (Pins g x) (value_of chip (place_move d (Pins g x)))).0 refl
  place_so (Reads n) at = reads_so n n.stage (place_takes d (Reads n) (value_of chip (place_move d (Reads n)))) at.1
  place_so (Aborts r) at = aborts_so r (value_of chip (place_move d (Aborts r)))
  place_so (Makes m) at = makes_so d w s b below chip o p m (value_of chip (making_move d m)) m.event at
  place_so (Quits u) at = serving_so d w s b (24 + u) o p at.1.0.0 (Quits u, ends None no_answer Nothing) refl
  place_so (Opens x) at = opens_so x at.1
  place_so (Out x) at = outside_so x (value_of chip (outside_move x)) at.1

  -- ---- each body

  -- one that is the driver's
  of_it : (P : Type 0) (x : PointAssertion (AdcGround d)) → Stands d below chip w s o p (of_driver P x) → P × Stands d below chip w s o p x
  of_it P (Within gap hs place) (h, (is, at)) = (is, (h, at))
  of_it P (Outside hs place) (h, (is, at)) = (is, (h, at))
  of_it P (Looking gap hs place) (h, (is, at)) = (is, (h, at))

  abbrev Steps : AdcTable → Place → Type 0
  Steps t k = So (place_takes t k (value_of chip (place_move t k)))

  owed_so : (t : AdcTable) (k : Place) (x : PendingWrites) → owes_at t k ≡ Some x → (x.table ≡ d) × place_then d x.after below o p → Steps t k
  owed_so t (Makes m) x owed at =
      let about = owed_about t m.order m.banks (drop m.made m.deeds) m.after x (past_by t m x owed).1 in
      subst (λ z. Steps z (Makes m)) (sym at.0 ∙ about.0) (owing_so d w s b o p m (value_of chip (making_move d m)) below x.after (sym about.1) at.1)
  owed_so t _ x owed at = absurd (cc)

  body_so : (k : AdcBody) → AssertedAt (AdcGround d) (bodies d) below chip w s k o p → Steps k.table k.place
  body_so k stand = by (owes_at k.table k.place) refl stand
    where
      by : (q : Option PendingWrites) → owes_at k.table k.place ≡ q → Stands d below chip w s o p (spot_or (V d) q (of_driver (k.table ≡ d) (spot_at d k.place))) → Steps k.table k.place
      by None owed at = let mine = of_it (k.table ≡ d) (spot_at d k.place) at in subst (λ t. Steps t k.place) (sym mine.0) (place_so k.place mine.1)
      by (Some x) owed at = owed_so k.table k.place x owed at.1

  -- ---- Adc_Init

  init_so : (k : InitBody) (v : ℕ) → place_at (init_spot d k) below (foot_of chip) w s o p → LeavesBy d w s o p b (init_takes k v).1
  init_so InitBody.Enable v at = λ n e. absurd (cc)
  init_so InitBody.Store v at = by o p at.0.0
    where
      by : (o : Origin Call) (p : FrameHistory) → IsThisFrame (Called Call.Init) fresh_history o p → LeavesBy d w s o p b (init_takes InitBody.Store v).1
      by _ _ Is_this_frame = called_by d w s Call.Init fresh_history b refl (init_takes InitBody.Store v).1

  sweep_so : (a : Setup) (k : sweeping.SweepStage InitBody) (v : ℕ) → place_at (sweep_spot (setting_up d) (last_bodies d) a k) below (foot_of chip) w s o p → LeavesBy d w s o p b (takes_at setup_count setup_after init_takes a k v).1
  sweep_so a (SweepStage.Follows k) v at = init_so k v at
  sweep_so a _ v at = λ n e. absurd (cc)

  abbrev all : LongBodies (AdcGround d) AnyBody
  all = any_bodies d body_fuel body_room (init_bodies d)

  any_so : (k : AnyBody) → AssertedAt (AdcGround d) all below chip w s k o p → let x = value_of chip (all.work_of k) in ((a : Answer) → ended_at all any_ends k x ≡ Some a → LeavesNone (adc_machine d) w s o p.polled p.served) × LeavesBy d w s o p b (all.takes k x).1
  any_so (First k) stand = (λ a e. absurd (cc), sweep_so k.objects k.place (value_of chip (all.work_of (First k))) stand.1)
  any_so (Second k) stand = body_so k stand

pub starts_right : (d : AdcTable) → MakesStarts (adc d body_fuel body_room (init_bodies d)) any_ends
starts_right d = record {
  later = waits_later d;
  done = λ below chip w s k o y p n stand e. (any_so d below chip w s (brought_by w p.committed ((any_bodies d body_fuel body_room (init_bodies d)).work_of k) y) o p k stand).1 n e;
  stops = λ below chip w s k o p a stand e. (any_so d below chip w s (brought_by w p.committed ((any_bodies d body_fuel body_room (init_bodies d)).work_of k) 0) o p k stand).0 a e;
}
