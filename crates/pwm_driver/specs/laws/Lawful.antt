-- The pulse driver, as the outline and the runner see it, and that it is lawful.
-- From Look, Made, Windows, DeInit, Init and 16 more.
-- Used by frames/rt, Keeps, mcal_drivers: Laws, caller/rt, mcal_system: proofs/Resting and 4 more.
use Rattle.std.proofs.Common.{◌≡◌, ◌+◌, ◌-◌, ◌<◌, ◌≤◌, ◌==◌, [], ◌∷◌, ◌∙◌, if◌then◌else◌}
use Rattle.pwm_driver.specs.Terms
use Terms.{Act, Acts, acts_by, AllLet, AllRight, answer_refused, ap, AreLong, AreServices, arith, Asked, asks_no}
use Terms.{AssertedAt, At, begun_after, Beside, blocks, BodyTaken, Bool, both_right, Call, Called, CanBegin, Channel}
use Terms.{channel_of, channel_of_line, ChannelCall, Chip, class_of, Closes, commits_at, Decides, DeInitBody}
use Terms.{DisableNotification, Done, EnableNotification, EnableSet, ends, Entered, error_by, error_told, ErrorName}
use Terms.{false, First, FitsPwm, Follows, FrameHistory, fresh_history, Goes, goes, idles_at, InitBody, Is_before}
use Terms.{is_closed, Is_own, Is_serving, is_some, Is_this_frame, IsLawful, Kinds, known_within, LINES, List}
use Terms.{LongBodies, Looked, MadeUnless, MakesWrites, mark_of, Move, must_by, nat_lt, nat_tests, no_answer, no_units}
use Terms.{None, none_on, none_unless, not, Nothing, Open, Opens, Option, Origin, Outcome, outcome, SweepStage, plain_sees, pwm_basis, pwm_machine, pwm_setting, PwmTable, PwmRepresents, PwmState, refl, Refused, Reservations, Second, SeesTo, Services, services_driver, services_lawful, SetDutyCycle, SetOutputToIdle, SetPeriodAndDuty, settled, Setup, Short, short_gave, short_left, short_move, Some, Starts, STATE, steps_of, subst, Sweep, sym, tells_error, Told, true, value_of, word_of, World, Write, writes_after, WritesOn, ℕ}
use Rattle.service_outline.specs.Both.{both}
use Rattle.pwm_driver.specs.laws.{Base.{asks_none}, Bodies.{PwmBody, serve_body}, DeInit.{rest, deinit_work}}
use Rattle.pwm_driver.specs.laws.{DeInit.{deinit_takes, deinit_holds, deinit_bodies, deinit_right}}
use Rattle.pwm_driver.specs.laws.{RefinementRight.{basis_right}, Init.{Alone, Is_alone, Is_setup, setup_move, commit}}
use Rattle.pwm_driver.specs.laws.{Init.{begin_bodies}, Made.{HaveBelow, none_below, below_on, commit_more, rest_more}}
use Rattle.pwm_driver.specs.laws.{Made.{to_last, all_made, init_written, deinit_written, next_unwritten}}
use Rattle.pwm_driver.specs.laws.{InitRight.{init_right, begins_setup}, Look.{pwm_looked, looked_by, begins}}
use Rattle.pwm_driver.specs.laws.{Look.{begun_with, begun_on, begun_asking, Passed, MayAct, off_of, on_of, asked_there}}
use Rattle.pwm_driver.specs.laws.{Look.{channel_there, asked_word}, Notify.{notify_work, notify_takes, notify_bodies}}
use Rattle.pwm_driver.specs.laws.{Notify.{notify_right}, Output.{output_bodies, output_right}, Rest.{rest_bodies}}
use Rattle.pwm_driver.specs.laws.{Rest.{rest_right}, Serve.{serve_work, serve_takes, serve_bodies, serve_right}}
use Rattle.pwm_driver.specs.laws.{Windows.{pwm_seen, setup_sees, setup_unseen, deinit_sees, output_sees, rest_sees}}
use Rattle.pwm_driver.specs.laws.{Windows.{notify_plain, serve_plain}}
use Rattle.module_machines.specs.declared.pwm.call.Call.TheVariants as calls
use Rattle.pwm_driver.specs.declared.service.deinit.DeInitBody.TheVariants as deinits
use Rattle.pwm_driver.specs.declared.service.output.OutputBody.TheVariants as outputs
use Rattle.pwm_driver.specs.declared.service.init.InitBody.TheVariants as inits

abbrev pub pwm_bodies : (d : PwmTable) → LongBodies (pwm_basis d) PwmBody
pwm_bodies d = both (both (begin_bodies d) (deinit_bodies d)) (both (both (output_bodies d) (both (rest_bodies d) (notify_bodies d))) (serve_bodies d))

-- the most steps of a call's body: Pwm_Init writes 32 defaults
abbrev pub most_by : Call → ℕ
most_by calls.Init = 45
most_by calls.DeInit = 12
most_by _ = 6

-- the handler of a configured channel's line
abbrev pub body_by : Option Channel → Option PwmBody
body_by None = None
body_by (Some k) = Some (serve_body (Kinds k.number))

-- Pwm_Init and Pwm_DeInit have made the writes that lie before their place, and another call owes none
abbrev pub pwm_written : PwmTable → PwmBody → Call → List Move → Type 0
pwm_written d (First (First k)) c writes = (c ≡ calls.Init) × init_written d k.place writes
pwm_written d (First (Second k)) c writes = (c ≡ calls.DeInit) × deinit_written d k writes
pwm_written d (Second k) c writes = must_by d c ≡ []

-- the driver; any call may be made
abbrev pub pwm : PwmTable → Services PwmState Call Asked PwmBody
pwm d = record {
  basis = pwm_basis d;
  bodies = pwm_bodies d;
  seen = pwm_seen;
  written = pwm_written d;
  fits = FitsPwm d;
  can = λ call. Unit {0};
  word = STATE;
  asked = λ call. record { call = call; driver = d };
  looked = pwm_looked;
  most = λ q. most_by q.call;
  wide = λ q. 12;
  body_of = λ line. body_by (channel_of_line d line);
}

bodies_right : (d : PwmTable) → AreLong (pwm_basis d) (pwm_bodies d)
bodies_right d =
    let g = pwm_basis d in
    let whole = both_right g (begin_bodies d) (deinit_bodies d) (init_right d) (deinit_right d) in
    let plain = both_right g (rest_bodies d) (notify_bodies d) (rest_right d) (notify_right d) in
    let of_channel = both_right g (output_bodies d) (both (rest_bodies d) (notify_bodies d)) (output_right d) plain in
    let others = both_right g (both (output_bodies d) (both (rest_bodies d) (notify_bodies d))) (serve_bodies d) of_channel (serve_right d) in
    both_right g (both (begin_bodies d) (deinit_bodies d)) (both (both (output_bodies d) (both (rest_bodies d) (notify_bodies d))) (serve_bodies d)) whole others

-- ---- windows

sees : (d : PwmTable) (k : PwmBody) (x : ℕ) → SeesTo pwm_seen (is_closed ((pwm_bodies d).assertion k)) ((pwm_bodies d).work_of k) k ((pwm_bodies d).takes k x)
sees d (First (First k)) x = setup_sees d k x
sees d (First (Second k)) x = deinit_sees k x
sees d (Second (First (First k))) x = output_sees k x
sees d (Second (First (Second (First k)))) x = rest_sees k x
sees d (Second (First (Second (Second k)))) x = let p = notify_takes k x in plain_sees true (notify_work k) p.1.event p.1.done (notify_plain k)
sees d (Second (Second k)) x = let p = serve_takes k x in plain_sees true (serve_work k) p.1.event p.1.done (serve_plain k)

-- a call that begins hasn't acted
unseen : (d : PwmTable) (below : Reservations) (chip : Chip) (w : World) (s : PwmState) (k : PwmBody) (call : Call) → AssertedAt (pwm_basis d) (pwm_bodies d) below chip w s k (Called call) fresh_history → Starts (pwm_seen k)
unseen d below chip w s (First (First k)) call h = setup_unseen k.place
unseen d below chip w s (First (Second (deinits.Store e))) call h = tt
unseen d below chip w s (First (Second (deinits.Disable e))) call h = begun_after (pwm_machine d) (Called call) h.1.told _ h.1.is h.1.at.0
unseen d below chip w s (First (Second (deinits.Choose e))) call h = begun_after (pwm_machine d) (Called call) h.1.told _ h.1.is h.1.at.0
unseen d below chip w s (First (Second (deinits.Keep e))) call h = begun_after (pwm_machine d) (Called call) h.1.told _ h.1.is h.1.at.0
unseen d below chip w s (First (Second (deinits.Rest e c))) call h = begun_after (pwm_machine d) (Called call) h.1.told _ h.1.is h.1.at.0
unseen d below chip w s (Second (First (First (outputs.Keep r)))) call h = begun_after (pwm_machine d) (Called call) h.1.told _ h.1.is h.1.at.0
unseen d below chip w s _ call h = tt

-- ---- what the load of the state word decides

goes_to : {Body : Type 0} {x y : Body} → Goes x ≡ Goes y → x ≡ y
goes_to e = cc

abbrev error_in_out : Option (Outcome PwmState) → Option ErrorName
error_in_out None = None
error_in_out (Some out) = out.told.error

-- beside a Pwm_Init no Pwm_Init begins
blocked : (d : PwmTable) (o : Origin Call) → o ≡ Called calls.Init → blocks (class_of calls.Init) (mark_of (pwm_setting d) o) ≡ true
blocked d o e = ap (λ (x : Origin Call). blocks (class_of calls.Init) (mark_of (pwm_setting d) x)) e

alone : (d : PwmTable) (on : Bool) (below : Reservations) → AllRight on below → AllLet (pwm_setting d) (class_of calls.Init) below → Alone below
alone d on [] right lets = Is_alone
alone d on (h ∷ hs) right lets = absurd (let f = sym (blocked d h.by right.0) ∙ lets.0 in cc)

not_none : (k : Option Channel) → k ≡ None → is_some k ≡ true → ⊥
not_none k e i = let f : is_some k ≡ false = ap (λ x. is_some x) e in cc

module _ (d : PwmTable) (fits : FitsPwm d) (below : Reservations) (chip : Chip) (w : World) (s : PwmState) (h : PwmRepresents d below settled chip w s) where
  abbrev Looks : Call → Looked PwmBody → Type 0
  Looks call l = Decides (pwm d) below chip w s call l

  asks : (c : ℕ) (k : Option Channel) → channel_of d c ≡ k → Passed d s (calls.GetOutputState c) → Looks (calls.GetOutputState c) (begun_asking k)
  asks c None e pass = absurd (not_none (channel_of d c) e (asked_there d s c pass))
  asks c (Some k) e pass = subst (λ n. Looks (calls.GetOutputState c) (begun_asking (Some (record k { number = n })))) (sym (fits.number c k e)) (record { at = (h, record { told = None; is = refl; at = (Is_before, pass, known_within d c k e) }); closed = refl; fuel = omega arith; room = omega arith })

  module _ (c : ℕ) (k : Channel) (e : channel_of d c ≡ Some k) where
    may : (call : ChannelCall) → Passed d s (calls.Channel c call) → MayAct d s c (calls.Channel c call) k
    may call pass = record { pass = pass; on = on_of d s (calls.Channel c call) (λ i. absurd (cc)) pass; lt = known_within d c k e; known = e }

    -- at the number of the channel
    at_number : (call : ChannelCall) → Passed d s (calls.Channel c call) → Looks (calls.Channel c call) (begun_on call (Some (record k { number = c })))
    at_number (SetDutyCycle duty) pass = record { at = (h, record { told = None; is = refl; at = (Is_before, k, may (SetDutyCycle duty) pass, refl, refl) }); closed = refl; fuel = omega arith; room = omega arith }
    at_number (SetPeriodAndDuty period duty) pass = record { at = (h, record { told = None; is = refl; at = record { call = Is_before; channel = k; may = may (SetPeriodAndDuty period duty) pass; high = refl; last = tt } }); closed = refl; fuel = omega arith; room = omega arith }
    at_number SetOutputToIdle pass = record { at = (h, record { told = None; is = refl; at = (Is_before, k, may SetOutputToIdle pass, refl) }); closed = refl; fuel = omega arith; room = omega arith }
    at_number (EnableNotification edge) pass = record { at = (h, record { told = None; is = refl; at = (Is_before, k, may (EnableNotification edge) pass) }); closed = refl; fuel = omega arith; room = omega arith }
    at_number DisableNotification pass = record { at = (h, record { told = None; is = refl; at = (Is_before, k, may DisableNotification pass) }); closed = refl; fuel = omega arith; room = omega arith }

  on_channel : (c : ℕ) (call : ChannelCall) (k : Option Channel) → channel_of d c ≡ k → Passed d s (calls.Channel c call) → Looks (calls.Channel c call) (begun_on call k)
  on_channel c call None e pass = absurd (not_none (channel_of d c) e (channel_there d s c call pass))
  on_channel c call (Some k) e pass = subst (λ n. Looks (calls.Channel c call) (begun_on call (Some (record k { number = n })))) (sym (fits.number c k e)) (at_number c k e call pass)

  goes_on : (call : Call) → Beside (pwm_setting d) (Called call) below → Passed d s call → Looks call (begins d call)
  goes_on calls.Init lets pass = by_alone below h (alone d s.initialised below h.right lets)
    where
      by_alone : (below : Reservations) → PwmRepresents d below settled chip w s → Alone below → Decides (pwm d) below chip w s calls.Init (begins d calls.Init)
      by_alone below a Is_alone = record { at = (begins_setup d chip w s (off_of d s pass) a, (Is_this_frame, Is_alone, Is_setup)); closed = refl; fuel = omega arith; room = omega arith }
  goes_on calls.DeInit lets pass = record { at = (h, record { told = None; is = refl; at = (Is_before, Is_own, pass, on_of d s calls.DeInit (λ i. absurd (cc)) pass) }); closed = refl; fuel = omega arith; room = omega arith }
  goes_on (calls.GetOutputState c) lets pass = asks c (channel_of d c) refl pass
  goes_on (calls.Channel c call) lets pass = on_channel c call (channel_of d c) refl pass

  look_by : (call : Call) → Beside (pwm_setting d) (Called call) below → (e : Option ErrorName) → error_by d call (not s.initialised) ≡ e → Looks call (looked_by (record { call = call; driver = d }) e)
  look_by call lets None e = goes_on call lets e
  look_by call lets (Some x) e = record {
    told = tells_error (answer_refused call) x;
    is = λ times. ap (λ y. Some (acts_by d w s call times y)) e;
    tells = error_told (pwm_machine d) call (answer_refused call) x;
    reset = asks_no (pwm_machine d) call (Some Act) (Some (outcome s (tells_error (answer_refused call) x))) (asks_none call);
    polls = refl;
  }

  looks : (call : Call) → Beside (pwm_setting d) (Called call) below → Looks call (pwm_looked (record { call = call; driver = d }) (word_of chip STATE))
  looks call lets = subst (λ v. Looks call (pwm_looked (record { call = call; driver = d }) v)) (sym (h.words.state refl)) (subst (λ l. Looks call l) (sym (asked_word d call s.initialised)) (look_by call lets (error_by d call (not s.initialised)) refl))

-- ---- the handlers

handled_by : (k : Option Channel) → is_some (body_by k) ≡ is_some k
handled_by None = refl
handled_by (Some k) = refl

-- the body is that of the handler of a configured channel, whose line this is
pub record Handles (d : PwmTable) (line : ℕ) (k : PwmBody) : Type 0 where
  pub number : ℕ
  pub at : line ≡ number + 8
  pub channel : Channel
  pub known : channel_of d number ≡ Some channel
  pub is : serve_body (Kinds number) ≡ k

module _ (d : PwmTable) (fits : FitsPwm d) where
  entered_by : (line : ℕ) (k : PwmBody) (q : Option Channel) → channel_of_line d line ≡ q → body_by q ≡ Some k → Handles d line k
  entered_by line k None e is = absurd (cc)
  entered_by line k (Some x) e is = by (nat_lt line 8) refl e
    where
      back : (line : ℕ) → nat_lt line 8 ≡ false → line ≡ line - 8 + 8
      back line i = grind (arith, nat_tests)

      given : (c : ℕ) → channel_of d c ≡ Some x → serve_body (Kinds c) ≡ k
      given c known = ap (λ n. serve_body (Kinds n)) (sym (fits.number c x known)) ∙ cc

      by : (q : Bool) → nat_lt line 8 ≡ q → (if q then None else channel_of d (line - 8)) ≡ Some x → Handles d line k
      by true i f = absurd (cc)
      by false i f = record { number = line - 8; at = back line i; channel = x; known = f; is = given (line - 8) f }

  enters : (line : ℕ) (k : PwmBody) → Handles d line k → CanBegin (pwm d) k (Entered line)
  enters line k a = subst (λ b. CanBegin (pwm d) b (Entered line)) a.is (subst (λ l. CanBegin (pwm d) (serve_body (Kinds a.number)) (Entered l)) (sym a.at) (record { at = λ below chip w s beside h. (h, record { told = None; is = refl; at = (Is_serving, known_within d a.number a.channel a.known, a.channel, a.known) }); closed = refl; unseen = tt; room = omega arith }))

  line_steps : (line : ℕ) (k : PwmBody) → Handles d line k → 6 + (pwm d).bodies.fuel k ≤ 64
  line_steps line k a = subst (λ b. 6 + (pwm d).bodies.fuel b ≤ 64) a.is (omega arith)

  -- ---- the laws

  call_steps : (call : Call) → 7 + most_by call ≤ steps_of d (Called call)
  call_steps calls.Init = omega arith
  call_steps calls.DeInit = omega arith
  call_steps _ = omega arith

  -- ---- what its calls write

  begun_written : (c : Call) (e : Option ErrorName) (k : PwmBody) → looked_by (record { call = c; driver = d }) e ≡ Goes k → pwm_written d k c []
  begun_written calls.Init None k e = subst (λ b. pwm_written d b calls.Init []) (goes_to e) (refl, tt)
  begun_written calls.DeInit None k e = subst (λ b. pwm_written d b calls.DeInit []) (goes_to e) (refl, tt)
  begun_written (calls.GetOutputState c) None k e = by (channel_of d c) e
    where
      by : (o : Option Channel) → begun_asking o ≡ Goes k → pwm_written d k (calls.GetOutputState c) []
      by None f = absurd (cc)
      by (Some x) f = subst (λ b. pwm_written d b (calls.GetOutputState c) []) (goes_to f) refl
  begun_written (calls.Channel c call) None k e = by (channel_of d c) e
    where
      with_body : (x : Channel) (call : ChannelCall) → pwm_written d (begun_with x call) (calls.Channel c call) []
      with_body x (SetDutyCycle duty) = refl
      with_body x (SetPeriodAndDuty period duty) = refl
      with_body x SetOutputToIdle = refl
      with_body x (EnableNotification edge) = refl
      with_body x DisableNotification = refl

      by : (o : Option Channel) → begun_on call o ≡ Goes k → pwm_written d k (calls.Channel c call) []
      by None f = absurd (cc)
      by (Some x) f = subst (λ b. pwm_written d b (calls.Channel c call) []) (goes_to f) (with_body x call)
  begun_written c (Some x) k e = absurd (cc)

  -- a call about all channels that is refused found an error
  refused_error : (w : World) (s : PwmState) (c : Call) (l : PwmBody) (n : Done) (told : Told) (e : Option ErrorName) → error_by d c (not s.initialised) ≡ e → begins d c ≡ Goes l → looked_by (record { call = c; driver = d }) e ≡ Refused n → ((times : ℕ → ℕ) → (pwm_machine d).happens w s (Acts c times) ≡ Some (outcome s told)) → MadeUnless told.error (must_by d c) []
  refused_error w s c l n told None f goes e is = let k : Goes l ≡ Refused n = sym goes ∙ e in absurd (cc)
  refused_error w s c l n told (Some x) f goes e is =
      let out : Some (acts_by d w s c (λ k. 0) (Some x)) ≡ Some (outcome s told) = ap (λ y. Some (acts_by d w s c (λ k. 0) y)) (sym f) ∙ is (λ k. 0) in
      let error : Some x ≡ told.error = ap (λ o. error_in_out o) out in
      subst (λ y. MadeUnless y (must_by d c) []) error tt

  refused_written : (below : Reservations) (chip : Chip) (w : World) (s : PwmState) (c : Call) (n : Done) (told : Told) → PwmRepresents d below settled chip w s → pwm_looked (record { call = c; driver = d }) (word_of chip STATE) ≡ Refused n → ((times : ℕ → ℕ) → (pwm_machine d).happens w s (Acts c times) ≡ Some (outcome s told)) → MadeUnless told.error (must_by d c) []
  refused_written below chip w s calls.Init n told h e is = refused_error w s calls.Init _ n told (error_by d calls.Init (not s.initialised)) refl refl (sym (asked_word d calls.Init s.initialised) ∙ (sym (ap (λ v. pwm_looked (record { call = calls.Init; driver = d }) v) (h.words.state refl)) ∙ e)) is
  refused_written below chip w s calls.DeInit n told h e is = refused_error w s calls.DeInit _ n told (error_by d calls.DeInit (not s.initialised)) refl refl (sym (asked_word d calls.DeInit s.initialised) ∙ (sym (ap (λ v. pwm_looked (record { call = calls.DeInit; driver = d }) v) (h.words.state refl)) ∙ e)) is
  refused_written below chip w s (calls.GetOutputState c) n told h e is = none_unless told.error [] [] refl
  refused_written below chip w s (calls.Channel c call) n told h e is = none_unless told.error [] [] refl

  -- the commits
  commit_goes : (a : Setup) (c : ℕ) (writes : List Move) → c < 8 → HaveBelow d commits_at (c + 1) writes → (q : Bool) → nat_lt c 7 ≡ q → let x : InitBody × BodyTaken = if q then (inits.Commit d (c + 1), goes) else (inits.Enable, goes) in WritesOn (pwm d) calls.Init writes (First (First (record { objects = a; place = Follows x.0 }))) x.1.done
  commit_goes a c writes lt h true e = (refl, h)
  commit_goes a c writes lt h false e = (refl, to_last d commits_at c writes lt e h)

  init_steps : (below : Reservations) (chip : Chip) (w : World) (s : PwmState) (a : Setup) (p : SweepStage InitBody) (past : FrameHistory) (writes : List Move) → AssertedAt (pwm_basis d) (begin_bodies d) below chip w s (record { objects = a; place = p }) (Called calls.Init) past → init_written d p writes → let x = (begin_bodies d).takes (record { objects = a; place = p }) (value_of chip ((begin_bodies d).work_of (record { objects = a; place = p }))) in WritesOn (pwm d) calls.Init (writes_after writes ((begin_bodies d).work_of (record { objects = a; place = p }))) (First (First x.0)) x.1.done
  init_steps below chip w s a Opens past writes h has = (refl, next_unwritten d 32 0 writes)
  init_steps below chip w s a (At i) past writes h has = (refl, next_unwritten d 32 (i + 1) (writes_after writes (setup_move a i)))
  init_steps below chip w s a Closes past writes h has = (refl, none_below d commits_at writes)
  init_steps below chip w s a (Follows (inits.Commit e c)) past writes (represents, (begun, Is_own, lt)) has = commit_goes a c (writes_after writes (commit d c)) lt (commit_more d c writes has) (nat_lt c 7) refl
  init_steps below chip w s a (Follows inits.Enable) past writes h has = (refl, below_on d commits_at 8 writes (Write EnableSet LINES) has)
  init_steps below chip w s a (Follows inits.Store) past writes h has = all_made d commits_at writes has

  -- the idle levels
  rest_goes : (c : ℕ) (writes : List Move) → c < 8 → HaveBelow d idles_at (c + 1) writes → (q : Bool) → nat_lt c 7 ≡ q → let x : DeInitBody × BodyTaken = if q then (deinits.Rest d (c + 1), goes) else (deinits.Rest d c, ends None no_answer Nothing) in WritesOn (pwm d) calls.DeInit writes (First (Second x.0)) x.1.done
  rest_goes c writes lt h true e = (refl, h)
  rest_goes c writes lt h false e = all_made d idles_at writes (to_last d idles_at c writes lt e h)

  deinit_at : (chip : Chip) (w : World) (s : PwmState) (k : DeInitBody) (told : Option Told) (writes : List Move) (x : ℕ) → deinit_holds d chip.pulses w.now s k (Called calls.DeInit) told → deinit_written d k writes → let p = deinit_takes k x in WritesOn (pwm d) calls.DeInit (writes_after writes (deinit_work k)) (First (Second p.0)) p.1.done
  deinit_at chip w s (deinits.Store e) told writes x at has = (refl, tt)
  deinit_at chip w s (deinits.Disable e) told writes x at has = (refl, tt)
  deinit_at chip w s (deinits.Choose e) told writes x at has = (refl, tt)
  deinit_at chip w s (deinits.Keep e) told writes x at has = (refl, none_below d idles_at writes)
  deinit_at chip w s (deinits.Rest e c) told writes x (after, Is_own, ended, lt) has = rest_goes c (writes_after writes (rest d c)) lt (rest_more d c writes has) (nat_lt c 7) refl

  steps_init : (below : Reservations) (chip : Chip) (w : World) (s : PwmState) (k : Sweep Setup InitBody) (c : Call) (past : FrameHistory) (writes : List Move) → c ≡ calls.Init → AssertedAt (pwm_basis d) (begin_bodies d) below chip w s k (Called c) past → init_written d k.place writes → let p = (begin_bodies d).takes k (value_of chip ((begin_bodies d).work_of k)) in WritesOn (pwm d) c (writes_after writes ((begin_bodies d).work_of k)) (First (First p.0)) p.1.done
  steps_init below chip w s k c past writes is h has =
      let p = (begin_bodies d).takes k (value_of chip ((begin_bodies d).work_of k)) in
      subst (λ x. WritesOn (pwm d) x (writes_after writes ((begin_bodies d).work_of k)) (First (First p.0)) p.1.done) (sym is) (init_steps below chip w s k.objects k.place past writes (subst (λ x. AssertedAt (pwm_basis d) (begin_bodies d) below chip w s k (Called x) past) is h) has)

  steps_deinit : (below : Reservations) (chip : Chip) (w : World) (s : PwmState) (k : DeInitBody) (c : Call) (past : FrameHistory) (writes : List Move) → c ≡ calls.DeInit → AssertedAt (pwm_basis d) (deinit_bodies d) below chip w s k (Called c) past → deinit_written d k writes → let p = deinit_takes k (value_of chip (deinit_work k)) in WritesOn (pwm d) c (writes_after writes (deinit_work k)) (First (Second p.0)) p.1.done
  steps_deinit below chip w s k c past writes is h has =
      let p = deinit_takes k (value_of chip (deinit_work k)) in
      let h1 = subst (λ x. AssertedAt (pwm_basis d) (deinit_bodies d) below chip w s k (Called x) past) is h in
      subst (λ x. WritesOn (pwm d) x (writes_after writes (deinit_work k)) (First (Second p.0)) p.1.done) (sym is) (deinit_at chip w s k h1.1.told writes (value_of chip (deinit_work k)) h1.1.at has)

  steps_at : (below : Reservations) (chip : Chip) (w : World) (s : PwmState) (k : PwmBody) (c : Call) (past : FrameHistory) (writes : List Move) → AssertedAt (pwm_basis d) (pwm_bodies d) below chip w s k (Called c) past → pwm_written d k c writes → let p = (pwm_bodies d).takes k (value_of chip ((pwm_bodies d).work_of k)) in WritesOn (pwm d) c (writes_after writes ((pwm_bodies d).work_of k)) p.0 p.1.done
  steps_at below chip w s (First (First k)) c past writes h has = steps_init below chip w s k c past writes has.0 h has.1
  steps_at below chip w s (First (Second k)) c past writes h has = steps_deinit below chip w s k c past writes has.0 h has.1
  steps_at below chip w s (Second k) c past writes h has =
      let b = both (both (output_bodies d) (both (rest_bodies d) (notify_bodies d))) (serve_bodies d) in
      let p = b.takes k (value_of chip (b.work_of k)) in
      none_on (pwm d) c (writes_after writes (b.work_of k)) (Second p.0) p.1.done has has

  pwm_writes : MakesWrites (pwm d) (λ k. None)
  pwm_writes = record {
    begins = λ c x k can looks. begun_written c (error_by d c (x == 0)) k looks;
    refuses = λ below chip w s c n told can represents looks is. refused_written below chip w s c n told represents looks is;
    steps = steps_at;
    stops = λ below chip w s k c past writes a at has ends. let none : None ≡ Some a = ends in absurd (cc);
  }

  pub pwm_right : AreServices (pwm d)
  pwm_right = record {
    basis = basis_right d;
    bodies = bodies_right d;
    windows = λ below chip w s k o past h. sees d k _;
    unseen = unseen d;
    writes = pwm_writes;
    starts = no_units (pwm d) (λ w s line. refl);
    looks = λ below chip w s call can beside h. looks d fits below chip w s h call beside;
    own_word = λ o. refl;
    word_there = omega arith;
    handled = λ line. handled_by (channel_of_line d line);
    enters = λ line k e. enters line k (entered_by line k (channel_of_line d line) refl e);
    call_steps = λ call can. call_steps call;
    call_window = λ call can. omega arith;
    line_steps = λ line k e. line_steps line k (entered_by line k (channel_of_line d line) refl e);
  }

  -- whatever runs above them, the frames of the driver are right at each step
  pub lawful : IsLawful (services_driver (pwm d)) (short_move STATE (pwm d).bodies.work_of) (short_left (pwm d).looked (pwm d).bodies.takes) (short_gave (pwm d).looked (pwm d).bodies.takes)
  lawful = services_lawful (pwm d) pwm_right

-- it leaves the peripheral rate alone, and has no watchdog
pub slow_pulses : (d : PwmTable) (chip : Chip) (w : World) (ps : List (Short Asked PwmBody × Open Call)) (s : PwmState) → FitsPwm d → (services_driver (pwm d)).relates chip w ps s → (services_driver (pwm d)).setting.machine.rate s ≤ 16
slow_pulses d chip w ps s fits h = omega arith
