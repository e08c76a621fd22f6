-- The capture driver, as the outline and the runner see it, and that it owes nothing.
-- From Look, Handler, RefinementRight, service_outline: Seen, Calls and 15 more.
-- Used by frames/rt, mcal_drivers: proofs/Hosting, mcal_drivers: Laws, caller/rt, Keeps and 3 more.
use Rattle.std.proofs.Common.{◌≡◌, ◌+◌, ◌-◌, ◌<◌, ◌≤◌, ◌&&◌, ◌||◌, ◌∙◌, if◌then◌else◌}
use Rattle.icu_driver.specs.Terms
use Terms.{acts_by, allows, answer_refused, ap, AreRight, arith, Asked, At, begins_rising, Bodies, Bool, Call, Called}
use Terms.{CanEnter, Channel, channel_of, channel_of_line, ChannelCall, Chip, DisableEdgeCount, DisableEdgeDetection}
use Terms.{DisableNotification, driver_of, DutyCycle, EdgeCounter, either, either_right, EnableEdgeCount}
use Terms.{EnableEdgeDetection, EnableNotification, Entered, error_by, error_told, ErrorName, false, First, first_of}
use Terms.{FitsIcu, GetDutyCycleValues, GetEdgeNumbers, GetInputState, GetTimeElapsed, GetTimestampIndex, ground_right, HighTime, icu_ground, icu_machine, IcuTable, IcuMeasurementMode, IcuRepresents, IcuSignalMeasurementProperty, IcuState, Is_before, is_counter, is_detection, is_duty_cycle, is_measurement, is_on, Is_serving, is_some, is_stamp, IsOutlined, IsSmall, List, Looked, LooksRight, LowTime, nat_lt, nat_tests, never_after, never_serving, None, not, Open, Option, Outlined, own_word, PeriodTime, refl, ResetEdgeCount, Second, SetActivationCondition, settled, Short, SignalEdgeDetect, SignalMeasurement, Some, Starts, StartSignalMeasurement, StartTimestamp, STATE, steps_of, StopSignalMeasurement, StopTimestamp, subst, suits, sym, tells_error, Timestamp, true, within, word_of, World, ℕ}
use Rattle.icu_driver.specs.laws.{Bodies.{IcuBody}, Calls.{MayCall, stamps}, Change.{change_bodies, change_right}}
use Rattle.icu_driver.specs.laws.{Count.{count_bodies, count_right}, DeInit.{deinit_bodies, deinit_right}}
use Rattle.icu_driver.specs.laws.{DetectRight.{detect_bodies, detect_right}, Duty.{duty_bodies, duty_right}}
use Rattle.icu_driver.specs.laws.{Gate.{gate_bodies, gate_right}, Handler.{is_whole, handler_by, handler_of, body_by}}
use Rattle.icu_driver.specs.laws.{Init.{init_bodies, init_right}, KeepRight.{keep_bodies, keep_right}, Look.{icu_looked}}
use Rattle.icu_driver.specs.laws.{Look.{looked_by, begins, begun_on, begun_with, Passed, off_of, on_of, deinit_on}}
use Rattle.icu_driver.specs.laws.{Look.{allowed, sizes_of, edges_of, is_stop, unhindered, stop_unhindered, early}}
use Rattle.icu_driver.specs.laws.{Look.{asked_word}, Measure.{measure_bodies, measure_right}, SampleRight.{sample_bodies}}
use Rattle.icu_driver.specs.laws.{SampleRight.{sample_right}, Stamp.{stamp_bodies, stamp_right}, Windows.{icu_seen}}
use Rattle.icu_driver.specs.laws.{Windows.{icu_sees}}
use Rattle.module_machines.specs.declared.icu.call.Call.TheVariants as calls
use Rattle.icu_driver.specs.declared.service.count.CountBody.TheVariants as counts
use Rattle.icu_driver.specs.declared.service.keep.KeepBody.TheVariants as keeps
use Rattle.icu_driver.specs.declared.service.sample.SampleBody.TheVariants as samples

abbrev pub icu_bodies : (d : IcuTable) → Bodies (icu_ground d) IcuBody
icu_bodies d = either (either (either (init_bodies d) (deinit_bodies d)) (either (detect_bodies d) (either (keep_bodies d) (sample_bodies d)))) (either (either (change_bodies d) (either (count_bodies d) (gate_bodies d))) (either (stamp_bodies d) (either (measure_bodies d) (duty_bodies d))))

-- the driver; a call's body has at most 27 steps
abbrev pub icu : IcuTable → Outlined IcuState Call Asked IcuBody
icu d = record {
  basis = icu_ground d;
  bodies = icu_bodies d;
  seen = icu_seen;
  fits = FitsIcu d;
  can = IsSmall;
  word = STATE;
  asked = λ call. record { call = call; driver = d };
  looked = icu_looked;
  most = λ q. 27;
  body_of = λ line. body_by (channel_of_line d line);
}

bodies_right : (d : IcuTable) → AreRight (icu_ground d) (icu_bodies d)
bodies_right d =
    let g = icu_ground d in
    either_right g _ _
    (either_right g _ _ (either_right g _ _ (init_right d) (deinit_right d)) (either_right g _ _ (detect_right d) (either_right g _ _ (keep_right d) (sample_right d))))
    (either_right g _ _ (either_right g _ _ (change_right d) (either_right g _ _ (count_right d) (gate_right d))) (either_right g _ _ (stamp_right d) (either_right g _ _ (measure_right d) (duty_right d))))

-- a body that begins has read nothing
unseen : (d : IcuTable) (chip : Chip) (w : World) (s : IcuState) (k : IcuBody) (call : Call) → At (icu_ground d) (icu_bodies d) chip w s k (Called call) None → Starts (icu_seen k)
unseen d chip w s (First (Second (Second (First (keeps.High r))))) call h = never_serving call (Called call) None refl h.1.0.0
unseen d chip w s (First (Second (Second (Second (samples.High r))))) call h = never_serving call (Called call) None refl h.1.0.0
unseen d chip w s (Second (First (Second (First (counts.High c low))))) call h = never_after (Called call) None refl h.1.0.0
unseen d chip w s _ call h = tt

-- ---- what the load of the state word decides

not_none : (k : Option Channel) → k ≡ None → is_some k ≡ true → ⊥
not_none k e i = let f : is_some k ≡ false = ap (λ x. is_some x) e in cc

some_allowed : (call : ChannelCall) (k : Option Channel) → allows call k ≡ true → is_some k ≡ true
some_allowed call None e = absurd (cc)
some_allowed call (Some k) e = refl

module _ (d : IcuTable) (fits : FitsIcu d) (chip : Chip) (w : World) (s : IcuState) (h : IcuRepresents d settled chip w s) where
  abbrev Looks : Call → Looked IcuBody → Type 0
  Looks call l = LooksRight (icu d) chip w s call l

  module _ (c : ℕ) (k : Channel) (e : channel_of d c ≡ Some k) where
    here : c < 8
    here = within d c (ap (λ x. is_some x) e)

    fit : (call : ChannelCall) → Passed d s (calls.Channel c call) → suits call k ≡ true
    fit call pass = sym (ap (λ x. allows call x) e) ∙ allowed d s c call pass

    on : (call : ChannelCall) → Passed d s (calls.Channel c call) → s.initialised ≡ true
    on call pass = on_of d s c call pass

    clear : (call : ChannelCall) → Passed d s (calls.Channel c call) → error_by d (calls.Channel c call) false true ≡ None
    clear call pass = sym (ap (λ q. error_by d (calls.Channel c call) (not q) true) (on call pass)) ∙ pass

    may : (call : ChannelCall) → is_stop call ≡ false → Passed d s (calls.Channel c call) → MayCall d c call
    may call n pass = record { lt = here; channel = k; known = e; suited = fit call pass; pass = λ q. unhindered d c call false q true n ∙ clear call pass }

    -- at the number of the channel
    at_number : (call : ChannelCall) → IsSmall (calls.Channel c call) → Passed d s (calls.Channel c call) → Looks (calls.Channel c call) (begun_with d (record k { number = c }) call)
    unfolding may
    at_number (SetActivationCondition None) can pass = absurd (edges_of d s c pass)
    at_number (SetActivationCondition (Some edge)) can pass = ((h, ((Is_before, may (SetActivationCondition (Some edge)) refl pass, on (SetActivationCondition (Some edge)) pass, refl), tt)), omega arith)
    at_number EnableNotification can pass = ((h, ((Is_before, may EnableNotification refl pass, on EnableNotification pass), tt)), omega arith)
    at_number DisableNotification can pass = ((h, ((Is_before, may DisableNotification refl pass, on DisableNotification pass), tt)), omega arith)
    at_number GetInputState can pass = ((h, ((Is_before, may GetInputState refl pass, on GetInputState pass), tt)), omega arith)
    at_number EnableEdgeDetection can pass = ((h, ((Is_before, may EnableEdgeDetection refl pass, on EnableEdgeDetection pass), tt)), omega arith)
    at_number DisableEdgeDetection can pass = ((h, ((DisableEdgeDetection, Is_before, may DisableEdgeDetection refl pass, on DisableEdgeDetection pass, refl), tt)), omega arith)
    at_number ResetEdgeCount can pass = ((h, ((Is_before, may ResetEdgeCount refl pass, on ResetEdgeCount pass), tt)), omega arith)
    at_number EnableEdgeCount can pass = ((h, ((Is_before, may EnableEdgeCount refl pass, on EnableEdgeCount pass), tt)), omega arith)
    at_number DisableEdgeCount can pass = ((h, ((Is_before, may DisableEdgeCount refl pass, on DisableEdgeCount pass), tt)), omega arith)
    at_number GetEdgeNumbers can pass = ((h, ((Is_before, may GetEdgeNumbers refl pass, on GetEdgeNumbers pass), tt)), omega arith)
    at_number (StartTimestamp size interval) can pass =
        let sizes = sizes_of d s c size interval pass in
        ((h, ((Is_before, may (StartTimestamp size interval) refl pass, on (StartTimestamp size interval) pass, (sizes.0, sizes.1, sizes.2, can)), tt)), omega arith)
    at_number StopTimestamp can pass = ((h, ((Is_before, record { lt = here; channel = k; known = e; mode = stamps k.mode (fit StopTimestamp pass); checks = stop_unhindered d c false (clear StopTimestamp pass) }, on StopTimestamp pass, refl), tt)), omega arith)
    at_number GetTimestampIndex can pass = ((h, ((Is_before, may GetTimestampIndex refl pass, on GetTimestampIndex pass), tt)), omega arith)
    at_number StartSignalMeasurement can pass = ((h, ((Is_before, may StartSignalMeasurement refl pass, on StartSignalMeasurement pass), tt)), omega arith)
    at_number StopSignalMeasurement can pass = ((h, ((StopSignalMeasurement, Is_before, may StopSignalMeasurement refl pass, on StopSignalMeasurement pass, refl), tt)), omega arith)
    at_number GetTimeElapsed can pass = ((h, ((Is_before, may GetTimeElapsed refl pass, on GetTimeElapsed pass), tt)), omega arith)
    at_number GetDutyCycleValues can pass = ((h, ((Is_before, may GetDutyCycleValues refl pass, on GetDutyCycleValues pass), tt)), omega arith)

  on_channel : (c : ℕ) (call : ChannelCall) (k : Option Channel) → channel_of d c ≡ k → IsSmall (calls.Channel c call) → Passed d s (calls.Channel c call) → Looks (calls.Channel c call) (begun_on d call k)
  on_channel c call None e can pass = absurd (not_none (channel_of d c) e (some_allowed call (channel_of d c) (allowed d s c call pass)))
  on_channel c call (Some k) e can pass = subst (λ n. Looks (calls.Channel c call) (begun_with d (record k { number = n }) call)) (sym (fits.number c k e)) (at_number c k e call can pass)

  goes_on : (call : Call) → IsSmall call → Passed d s call → Looks call (begins d call)
  goes_on calls.Init can pass = ((h, ((Is_before, off_of d s pass, refl, omega arith, λ j lt. absurd (omega (arith, lt))), tt)), omega arith)
  goes_on calls.DeInit can pass = ((h, ((Is_before, refl, deinit_on d s pass), tt)), omega arith)
  goes_on (calls.Channel c call) can pass = on_channel c call (channel_of d c) refl can pass

  look_by : (call : Call) → IsSmall call → (e : Option ErrorName) → error_by d call (not s.initialised) true ≡ e → Looks call (looked_by (record { call = call; driver = d }) e)
  look_by call can None e = goes_on call can e
  look_by call can (Some x) e = record { told = tells_error (answer_refused call) x; is = λ times. ap (λ y. Some (acts_by d s call y)) (early d call (not s.initialised) (is_on s call) x e); tells = error_told (icu_machine d) call (answer_refused call) x }

  pub looks : (call : Call) → IsSmall call → Looks call (icu_looked (record { call = call; driver = d }) (word_of chip STATE))
  looks call can = subst (λ x. Looks call (icu_looked (record { call = call; driver = d }) x)) (sym (h.state refl)) (subst (λ l. Looks call l) (sym (asked_word d call s.initialised)) (look_by call can (error_by d call (not s.initialised) true) refl))

-- ---- the handlers

handled_by : (k : Option Channel) → is_some (body_by k) ≡ is_some k
handled_by None = refl
handled_by (Some k) = refl

first_is : (p : IcuSignalMeasurementProperty) (k : Channel) (c : ℕ) → begins_rising p (record k { number = c }) ≡ begins_rising p k
first_is HighTime k c = refl
first_is LowTime k c = refl
first_is PeriodTime k c = refl
first_is DutyCycle k c = refl

-- the body is that of the handler of a configured channel, whose line this is
pub record Handles (d : IcuTable) (line : ℕ) (k : IcuBody) : Type 0 where
  pub number : ℕ
  pub at : line ≡ 16 + number
  pub channel : Channel
  pub known : channel_of d number ≡ Some channel
  pub is : handler_of (record channel { number = number }) ≡ k

module _ (d : IcuTable) (fits : FitsIcu d) where
  entered_by : (line : ℕ) (k : IcuBody) (q : Option Channel) → channel_of_line d line ≡ q → body_by q ≡ Some k → Handles d line k
  entered_by line k None e is = absurd (cc)
  entered_by line k (Some x) e is = by (nat_lt line 16) refl e
    where
      back : (line : ℕ) → nat_lt line 16 ≡ false → line ≡ 16 + (line - 16)
      back line i = grind (arith, nat_tests)

      given : (c : ℕ) → channel_of d c ≡ Some x → handler_of (record x { number = c }) ≡ k
      given c known = ap (λ n. handler_of (record x { number = n })) (sym (fits.number c x known)) ∙ cc

      by : (q : Bool) → nat_lt line 16 ≡ q → (if q then None else channel_of d (line - 16)) ≡ Some x → Handles d line k
      by true i f = absurd (cc)
      by false i f = record { number = line - 16; at = back line i; channel = x; known = f; is = given (line - 16) f }

  -- the handler of a channel, by what it is for
  enter_by : (c : ℕ) (k : Channel) → channel_of d c ≡ Some k → (m : IcuMeasurementMode) → k.mode ≡ m → CanEnter (icu d) (handler_by m (record k { number = c })) (Entered (16 + c))
  enter_by c k e SignalEdgeDetect mode = record { at = λ chip w s h. (h, ((Is_serving, k, e, ap (λ z. is_detection z || is_counter z) mode, within d c (ap (λ x. is_some x) e)), tt)); unseen = tt; room = omega arith }
  enter_by c k e EdgeCounter mode = record { at = λ chip w s h. (h, ((Is_serving, k, e, ap (λ z. is_detection z || is_counter z) mode, within d c (ap (λ x. is_some x) e)), tt)); unseen = tt; room = omega arith }
  enter_by c k e Timestamp mode = record { at = λ chip w s h. (h, ((Is_serving, record { k = k; known = e; mode = mode; lt = within d c (ap (λ x. is_some x) e); linear = refl }), tt)); unseen = tt; room = omega arith }
  enter_by c k e SignalMeasurement mode = by_property k.measured refl (fits.property c k e (ap (λ z. is_measurement z) mode))
    where
      by_property : (p : Option IcuSignalMeasurementProperty) → k.measured ≡ p → is_some k.measured ≡ true → CanEnter (icu d) (handler_by SignalMeasurement (record k { number = c })) (Entered (16 + c))
      by_property None i some = absurd (let f = sym some ∙ ap (λ x. is_some x) i in cc)
      by_property (Some p) i some = record { at = λ chip w s h. (h, ((Is_serving, record { k = k; known = e; mode = mode; lt = within d c (ap (λ x. is_some x) e); property = p; measured = i; first = ap (λ z. first_of z (record k { number = c })) i ∙ first_is p k c; whole = ap (λ z. is_whole z) i; duty = ap (λ z. is_duty_cycle z) i }), tt)); unseen = tt; room = omega arith }

  enters : (line : ℕ) (k : IcuBody) → Handles d line k → CanEnter (icu d) k (Entered line)
  enters line k a = subst (λ b. CanEnter (icu d) b (Entered line)) a.is (subst (λ l. CanEnter (icu d) (handler_of (record a.channel { number = a.number })) (Entered l)) (sym a.at) (enter_by a.number a.channel a.known a.channel.mode refl))

  steps_by : (m : IcuMeasurementMode) (k : Channel) → 6 + (icu d).bodies.fuel (handler_by m k) ≤ 64
  steps_by SignalEdgeDetect k = omega arith
  steps_by EdgeCounter k = omega arith
  steps_by Timestamp k = omega arith
  steps_by SignalMeasurement k = omega arith

  line_steps : (line : ℕ) (k : IcuBody) → Handles d line k → 6 + (icu d).bodies.fuel k ≤ 64
  line_steps line k a = subst (λ b. 6 + (icu d).bodies.fuel b ≤ 64) a.is (steps_by a.channel.mode (record a.channel { number = a.number }))

  -- ---- the laws

  call_steps : (call : Call) → 7 + 27 ≤ steps_of d (Called call)
  call_steps calls.Init = omega arith
  call_steps calls.DeInit = omega arith
  call_steps _ = omega arith

  pub lawful : IsOutlined (icu d)
  lawful = record {
    basis = ground_right d fits;
    bodies = bodies_right d;
    windows = λ chip w s k o t h. icu_sees k _;
    unseen = unseen d;
    looks = λ chip w s call can h. looks d fits chip w s h call can;
    own_word = λ o. ap (λ q. (q || is_stamp d STATE) && nat_lt STATE 147456) (own_word d STATE (omega arith) (omega arith));
    word_there = omega arith;
    handled = λ line. handled_by (channel_of_line d line);
    enters = λ line k is. enters line k (entered_by line k (channel_of_line d line) refl is);
    call_steps = λ call can. call_steps call;
    call_window = λ call can. omega arith;
    must_none = λ call. refl;
    units_none = λ w s line. refl;
    line_steps = λ line k is. line_steps line k (entered_by line k (channel_of_line d line) refl is);
  }

-- it leaves the peripheral rate alone, and has no watchdog
pub slow_captures : (d : IcuTable) (chip : Chip) (w : World) (ps : List (Short Asked IcuBody × Open Call)) (s : IcuState) → FitsIcu d → (driver_of (icu d)).relates chip w ps s → (driver_of (icu d)).setting.machine.rate s ≤ 16
slow_captures d chip w ps s fits h = omega arith
