-- Each step of the driver's bodies is right, at each place that owes no move: where a frame looks, with the mask closed, where it makes
-- its moves or opens the mask, and where the mask is open.
-- From adc_groups: services.CallSteps, adc_groups: services.SeekRight, adc_laws: serving.services.ClaimRight and 14 more.
-- Used by bookkeeping.Joined, bookkeeping.NoneWaitsPlaces.
use Rattle.std.proofs.Common.{◌≡◌, ◌<◌}
use Rattle.adc_driver.specs.Terms
use Terms.{abort_right, Aborts, adc_bodies, adc_windows, AdcBody, AdcGround, AdcState, AdcTable, Agrees, arith}
use Terms.{AssertedAt, banks_spot, begin_looks, begin_seeks, Begins, Begins_enable, Begins_start, body_ends}
use Terms.{body_work, Bool, Call, Chip, Chooses, chooses_step, claim_looks, closes_step, closing_surveys}
use Terms.{convert_looks, Copied, deals_right, enable_looks, EnableHardwareTrigger, ended_at, ends_claim, Event}
use Terms.{false, FitsAdc, Flag, foot_of, Footprint, FrameHistory, Front, gap_at, GroupCall, HasLooked, HasSeen}
use Terms.{HasSurveyed, hold_in, holds_at, InFlag, InWindow, Is_this_frame, IsCalling, IsSeeking, IsStarting}
use Terms.{keep_looks, Keeps, leave_seeks, List, list_any, Looks, Makes, MaySeek, most_steps, None, notes_step}
use Terms.{number_of, of_driver, Opens, opens_step, Option, Orders, Origin, Out, Outside, owes_at, pin_makes, Pins}
use Terms.{pins_from, Place, place_at, point_looks, PointAssertion, Prepares, quit_right, Quits, read_looks}
use Terms.{read_step, Reads, reads_begin, ReceivedRight, Reservations, RightOr, Seeks, serve_looks, serve_makes}
use Terms.{Serves, serves_step, setup_looks, Some, spot_at, spot_making, spot_or, spot_start, start_looks}
use Terms.{StartGroupConversion, starting_right, status_looks, stop_looks, StructureOp, subst, survey_step, Surveys}
use Terms.{suspend_looks, suspend_seeks, sym, take_flag, take_looks, Tells, tells_step_any, trigger_flag}
use Terms.{trigger_looks, true, value_of, Window, with_holds, World, WriteBatch, yield_looks, ℕ}
use Rattle.adc_driver.specs.laws.{bookkeeping.MaskDiscipline.{driver_place}, services.KeepCopySteps.{counts_step}}
use Rattle.adc_driver.specs.laws.services.KeepCopySteps.{keeps_step}
use Rattle.word_shapes.specs.declared.streams.copying.Copied as streams

-- a window to start a group is of one of the two units, claimed or not
pub convert_unit : (d : AdcTable) (below : Reservations) (w : World) (s : AdcState) (o : Origin Call) (p : FrameHistory) (u g : ℕ) (c : Bool) → InWindow d (Window.Convert u g c) below w s o p → u < 2
convert_unit d below w s o p u g true is = is.1
convert_unit d below w s o p u g false is = is.1

pub few_units : (d : AdcTable) (below : Reservations) (f : Footprint) (w : World) (s : AdcState) (o : Origin Call) (p : FrameHistory) (u : ℕ) (k : WriteBatch) → IsStarting d below f w s o p u k → u < 2
few_units d below f w s o p u _ (Orders g e left c n x xs start order first ends made) = convert_unit d below w s o p u g c start.window
few_units d below f w s o p u _ (Prepares g e left c j xs start le order holds made) = convert_unit d below w s o p u g c start.window

module _ (d : AdcTable) (fits : FitsAdc d) (f r : AdcBody → ℕ) (below : Reservations) (chip : Chip) (w : World) (s : AdcState) (m : ℕ → Bool) (y : ℕ) where
  -- a body of the driver, and that its step is right
  abbrev body : Place → AdcBody
  body k = record { table = d; place = k }

  abbrev IsRight : Origin Call → FrameHistory → AdcBody → Type 0
  IsRight o p k = RightOr (AdcGround d) (adc_bodies d f r) below chip w s k o y p m (ended_at (adc_bodies d f r) body_ends k (value_of chip (body_work k)))

  -- ---- a request surveys whether a group is under way

  -- that of Adc_DeInit
  closing : (o : Origin Call) (p : FrameHistory) (j : ℕ) → InWindow d Window.Close below w s o p → HasSurveyed d Window.Close s j → Agrees d below chip w s → IsRight o p (body (Surveys Window.Close j))
  closing _ _ j (Is_this_frame, on, alone) seen h = closing_surveys d fits f r below chip w s m y j on alone seen h

  -- that of a start, of either kind
  starting : (o : Origin Call) (p : FrameHistory) (call : GroupCall) (win : Window) (g j : ℕ) → Begins g call win → IsCalling d s g call o p → HasLooked d win s → HasSurveyed d win s j → Agrees d below chip w s → IsRight o p (body (Surveys win j))
  starting _ _ call win g j begins (Is_this_frame, may) looked seen h = survey_step d fits f r below chip w s m y call win g j begins may looked seen h

  module _ (o : Origin Call) (p : FrameHistory) where
    -- a frame stands there, and its step is right
    abbrev Stands : Place → Type 0
    Stands k = AssertedAt (AdcGround d) (adc_bodies d f r) below chip w s (body k) o p

    abbrev Steps : Place → Type 0
    Steps k = IsRight o p (body k)

    surveys : (win : Window) (j : ℕ) → InWindow d win below w s o p → HasLooked d win s → HasSurveyed d win s j → Agrees d below chip w s → Steps (Surveys win j)
    surveys Window.Close j is looked seen h = closing o p j is seen h
    surveys (Window.Start g) j is looked seen h = starting o p StartGroupConversion (Window.Start g) g j Begins_start is looked seen h
    surveys (Window.Enable g) j is looked seen h = starting o p EnableHardwareTrigger (Window.Enable g) g j Begins_enable is looked seen h
    surveys _ j is looked seen h = absurd looked

    -- ---- a frame looks, with the mask closed

    -- a handler reads whether its line is ready
    flags : (win : Window) → InFlag d win below o p → Agrees d below chip w s → Steps (Flag win)
    flags (Window.Take u) is h = take_flag d fits f r below chip w s m y u o p is h
    flags (Window.Trigger i g) is h = trigger_flag d fits f r below chip w s m y i g o p is h
    flags _ is h = absurd is

    -- a window looks at its words
    looks : (win : Window) (seen : List ℕ) → InWindow d win below w s o p → HasSeen d (foot_of chip) win seen → Stands (Looks win seen) → Steps (Looks win seen)
    looks (Window.Setup g b) seen is has stand = setup_looks d fits f r below chip w s m y g b o p seen is stand
    looks (Window.Status g) seen is has stand = status_looks d fits f r below chip w s m y g o p seen is stand
    looks (Window.Point g) seen is has stand = point_looks d fits f r below chip w s m y g o p seen is stand
    looks (Window.Read g) seen is has stand = read_looks d fits f r below chip w s m y g o p seen is stand
    looks (Window.Start g) seen is has stand = start_looks d fits f r below chip w s m y g o p seen is stand
    looks (Window.Enable g) seen is has stand = enable_looks d fits f r below chip w s m y g o p seen is stand
    looks (Window.Stop u g) seen is has stand = stop_looks d fits f r below chip w s m y u g o p seen is stand
    looks (Window.Yield u) seen is has stand = yield_looks d fits f r below chip w s m y o p u seen is stand
    looks (Window.Suspend u g) seen is has stand = suspend_looks d fits f r below chip w s m y u g o p seen is stand
    looks (Window.Keep q) seen is has stand = keep_looks d fits f r below chip w s m y q.unit q.group q.kept o p seen is stand
    looks (Window.Begin u) seen is has stand = begin_looks d fits f r below chip w s m y o p u seen is stand
    looks (Window.Convert u g c) seen is has stand = convert_looks d fits f r below w s o p u (convert_unit d below w s o p u g c is) chip m y g c seen is stand
    looks (Window.Take u) seen is has stand = take_looks d fits f r below chip w s m y u o p seen is stand
    looks (Window.Claim t) seen is has stand = claim_looks d fits f r below chip w s m y t o p seen is has.2 stand
    looks (Window.Serve t) seen is has stand = serve_looks d fits f r below chip w s m y t o p seen is stand
    looks (Window.Trigger i g) seen is has stand = trigger_looks d fits f r below chip w s m y i g o p seen is stand
    looks _ seen is has stand = absurd (let less = has.1 in omega (arith, less))

    -- and it seeks which request waits first on a unit
    seeks : (win : Window) (q : Front) → MaySeek d win below w s o p → IsSeeking d (foot_of chip) win q → Agrees d (with_holds o p.acted (hold_in win) below) chip w s → Steps (Seeks win q)
    seeks (Window.Suspend u g) q is seek h = suspend_seeks d fits f r below chip w s m y o p u g q is seek h
    seeks (Window.Begin u) q is seek h = begin_seeks d fits f r below chip w s m y o p u q is seek h
    seeks (Window.Leave u) q is seek h = leave_seeks d fits f r below chip w s m y u q o p is seek h
    seeks _ q is seek h = absurd is

    -- ---- a window makes its moves, while it owes none of them

    abbrev Holds : PointAssertion (AdcGround d) → Type 0
    Holds x = (AdcGround d).represents (with_holds o p.acted (holds_at x) below) (gap_at x) chip w s × place_at x below (foot_of chip) w s o p

    abbrev Here : PointAssertion (AdcGround d) → Type 0
    Here x = Holds (of_driver (d ≡ d) x)

    -- it deals with what a call asks for, serves a round, or pins a bank
    banks_right : (k : WriteBatch) (b : Option StructureOp) → Here (banks_spot d k b) → Steps (Makes k)
    banks_right k None (h, (same, at)) = deals_right d fits f r below chip w s h m y k o p at
    banks_right k (Some (StructureOp.Put q)) (h, (same, at)) = serve_makes d fits f r below chip w s m y k o p at h
    banks_right k (Some q) h = pin_makes d fits f r below chip w s h.0 m y k o p h.1.1

    -- or it starts a round, on one of the two units
    start_makes : (k : WriteBatch) (q : Option ℕ) → Here (spot_start d k q (list_any ends_claim k.deeds)) → Steps (Makes k)
    start_makes k None (h, (same, none)) = absurd none
    start_makes k (Some u) (h, (same, at)) = starting_right d fits f r below w s o p u (few_units d below (foot_of chip) w s o p u k at) chip m y k at h

    making_right : (k : WriteBatch) (e : Option Event) → Here (spot_making d k e) → Steps (Makes k)
    making_right k (Some (Event.Start x)) h = start_makes k (number_of x) h
    making_right k _ h = banks_right k k.banks h

    -- ---- the mask is open

    copies_right : (c : streams.Copied) (i : ℕ) (v : Option ℕ) (a : Copied) → Stands (Out (Outside.Copies (record { what = c; done = i; value = v }) a)) → Steps (Out (Outside.Copies (record { what = c; done = i; value = v }) a))
    copies_right c i v (Serves t) stand = serves_step d fits f r below chip w s m y c i v t o p stand
    copies_right c i v (Tells u g on) stand = tells_step_any d fits f r below chip w s m y c i v u g on o p stand
    copies_right c i v (Keeps q) stand = keeps_step d fits f r below chip w s m y c i v q o p stand

    outside_right : (x : Outside) → Stands (Out x) → Steps (Out x)
    outside_right (Outside.Copies c a) stand = copies_right c.what c.done c.value a stand
    outside_right (Outside.Counts q) stand = counts_step d fits f r below chip w s m y q o p stand
    outside_right (Outside.Reads g b) stand = reads_begin d fits f r below chip w s m y g b o p stand
    outside_right (Outside.Notes g u) (h, (same, at)) = notes_step d fits f r below chip w s m y u g o p at h
    outside_right (Outside.Closes win) (h, (same, at)) = closes_step d fits f r below chip w s m y o p win at h

    -- ---- all places

    step_at : (k : Place) → owes_at d k ≡ None → Stands k → Steps k
    step_at (Flag win) free stand = flags win stand.1.1 stand.0
    step_at (Looks win seen) free stand = looks win seen stand.1.1.0 stand.1.1.1 stand
    step_at (Surveys win g) free stand = surveys win g stand.1.1.0 stand.1.1.1 stand.1.1.2 stand.0
    step_at (Seeks win q) free stand = seeks win q stand.1.1.0 stand.1.1.1 stand.0
    step_at (Chooses u g q) free stand = chooses_step d fits f r below chip w s m y u g q o p stand.1.1.0 stand.1.1.1 stand.0
    step_at (Pins g x) free stand = pins_from d fits f r below chip w s stand.0 m y g x o p stand.1.1.0 stand.1.1.1 stand.1.1.2
    step_at (Makes k) free stand = making_right k k.event (subst (λ q. Holds (spot_or (adc_windows d f r) q (of_driver (d ≡ d) (spot_making d k k.event)))) free stand)
    step_at (Aborts q) free (h, (same, (at, kept))) = abort_right d fits f r below chip w s m y q o p at kept h
    step_at (Quits u) free (h, (same, (at, none))) = quit_right d fits f r below chip w s m y u o p at none h
    step_at (Opens x) free (h, (same, at)) = opens_step d fits f r below chip w s m y o p x at h
    step_at (Out x) free stand = outside_right x stand
    step_at (Reads n) free stand = read_step d fits f r below chip w s m y n.group n.reading.bank n.reading.rounds n.reading.values n.stage o p stand

    -- a body stands only where it is the driver's
    table_is : (k : AdcBody) → owes_at k.table k.place ≡ None → AssertedAt (AdcGround d) (adc_bodies d f r) below chip w s k o p → k.table ≡ d
    table_is k free stand = (driver_place (k.table ≡ d) (spot_at d k.place) below (foot_of chip) w s o p (subst (λ q. place_at (spot_or (adc_windows d f r) q (of_driver (k.table ≡ d) (spot_at d k.place))) below (foot_of chip) w s o p) free stand.1)).0

    step_by : (k : AdcBody) → owes_at k.table k.place ≡ None → AssertedAt (AdcGround d) (adc_bodies d f r) below chip w s k o p → IsRight o p k
    step_by k free stand =
        subst (λ x. owes_at x k.place ≡ None → AssertedAt (AdcGround d) (adc_bodies d f r) below chip w s (record { table = x; place = k.place }) o p → IsRight o p (record { table = x; place = k.place }))
        (sym (table_is k free stand)) (step_at k.place) free stand

pub steps_right : (d : AdcTable) (fits : FitsAdc d) (f r : AdcBody → ℕ) (below : Reservations) (chip : Chip) (w : World) (s : AdcState) (k : AdcBody) (o : Origin Call) (y : ℕ) (p : FrameHistory) (m : ℕ → Bool) → owes_at k.table k.place ≡ None → ReceivedRight chip w (body_work k) y → (AdcGround d).count s < most_steps → AssertedAt (AdcGround d) (adc_bodies d f r) below chip w s k o p
    → RightOr (AdcGround d) (adc_bodies d f r) below chip w s k o y p m (ended_at (adc_bodies d f r) body_ends k (value_of chip (body_work k)))
steps_right d fits f r below chip w s k o y p m free received few stand = step_by d fits f r below chip w s m y o p k free stand
