-- The timer driver, as the outline and the runner see it, and that it owes nothing.
-- From Look, Count, Mode, Base, DeInit and 11 more.
-- Used by frames/rt, Keeps, mcal_drivers: proofs/Hosting, mcal_drivers: Laws, caller/rt and 4 more.
use Rattle.std.proofs.Common.{List, ◌≡◌, ℕ, ◌+◌, ◌<◌, ◌≤◌, ◌^◌, Bool, true, false, ◌&&◌, ◌==◌, not, nat_lt, Option, Some, None, refl, sym, ◌∙◌, ap, subst, arith}
use Rattle.std.specs.Prelude.{is_some, if◌then◌else◌}
use Rattle.run_model.specs.Frame.{Open}
use Rattle.service_outline.specs.declared.short.Short.{Short}
use Rattle.service_outline.specs.Both.{either}
use Rattle.service_outline.specs.Outline.{Outlined, IsOutlined, LooksRight, CanEnter}
use Rattle.service_outline.specs.WindowHistory.{is_windowed}
use Rattle.service_outline.specs.laws.Seen.{plain_sees}
use Rattle.service_outline.specs.laws.Either.{either_right}
use Rattle.gpt_driver.specs.laws.Base.{nat_tests, Chip, word_of, bits_of-zero, ErrorName, World, tells_nothing, Called, Entered, tells_error, error_told, Bodies, At, AreRight, Is_before, Is_serving, error_by, allows, answer_refused, has_value, settled, TheState, GptRepresents, gpt_ground, GptState, is_off, is_asleep, prescaler_of, is_busy, acts_by, gpt_machine, switches, channel_of, one_shot_of, FitsGpt, Call, Init, DeInit, SetMode, OfChannel, ChannelCall, GetTimeElapsed, GetTimeRemaining, StartTimer, StopTimer, Changes, Channel, GptTable, STATE, Asked, Check, ToNormal, ToSleep, Plain, WindowHistory, SeesTo, Starts, driver_of, Looked, Goes, First, Second, Passed, MayRun}
use Rattle.module_machines.specs.gpt.Bounds.{gpt_steps}
use Rattle.gpt_driver.specs.declared.service.serve.ServeBody.TheVariants.{Look}
use Rattle.gpt_driver.specs.laws.Bodies.{GptBody}
use Rattle.gpt_driver.specs.laws.Count.{count_bodies, count_right, count_seen, count_sees, count_unseen}
use Rattle.gpt_driver.specs.laws.DeInit.{deinit_bodies, deinit_right}
use Rattle.module_machines.specs.gpt.laws.Channels.{within}
use Rattle.gpt_driver.specs.laws.RefinementRight.{ground_right}
use Rattle.gpt_driver.specs.laws.Init.{init_bodies, init_right}
use Rattle.gpt_driver.specs.laws.Look.{ElapsedLow, DeInitLook, Enable, Wake, StartLook, OneShot, Continuous, SwitchLoad, gpt_looked, looked_by, begins, begun_on, off_of, on_of, mode_of, allowed, value_of, deinit_busy, start_busy, change_unhindered, early, asked_word}
use Rattle.gpt_driver.specs.laws.Mode.{mode_bodies, mode_right, sleeps}
use Rattle.gpt_driver.specs.laws.Serve.{serve_bodies, serve_right}
use Rattle.gpt_driver.specs.laws.Start.{start_bodies, start_right}
use Rattle.gpt_driver.specs.laws.Stop.{stop_bodies, stop_right}
use Rattle.gpt_driver.specs.laws.Switch.{switch_bodies, switch_right}

abbrev pub gpt_bodies : (d : GptTable) → Bodies (gpt_ground d) GptBody
gpt_bodies d = either (either (init_bodies d) (either (deinit_bodies d) (mode_bodies d))) (either (either (either (count_bodies d) (start_bodies d)) (either (stop_bodies d) (switch_bodies d))) (serve_bodies d))

-- no family but one reads a high half
abbrev pub gpt_seen : GptBody → WindowHistory
gpt_seen (Second (First (First (First k)))) = count_seen k
gpt_seen k = Plain

abbrev pub body_by : Option Channel → Option GptBody
body_by None = None
body_by (Some k) = Some (Second (Second (Look k.number)))

-- the driver; any call may be made, and its body has at most 21 steps
abbrev pub gpt : GptTable → Outlined GptState Call Asked GptBody
gpt d = record {
  basis = gpt_ground d;
  bodies = gpt_bodies d;
  seen = gpt_seen;
  fits = FitsGpt d;
  can = λ call. Unit {0};
  word = STATE;
  asked = λ call. record { call = call; driver = d };
  looked = gpt_looked;
  most = λ q. 21;
  body_of = λ line. body_by (channel_of d line);
}

plain : (d : GptTable) (k : GptBody) → gpt_seen k ≡ Plain → is_windowed ((gpt_bodies d).work_of k) ≡ false
plain d (First (First Enable)) e = cc
plain d (First (Second (First (DeInitLook busy)))) e = cc
plain d (First (Second (Second Wake))) e = cc
plain d (Second (First (First (First (ElapsedLow c))))) e = cc
plain d (Second (First (First (Second (StartLook r))))) e = cc
plain d (Second (First (Second (First (OneShot c))))) e = cc
plain d (Second (First (Second (Second (SwitchLoad c by))))) e = cc
plain d (Second (Second (Look c))) e = cc
plain d _ e = cc

sees : (d : GptTable) (k : GptBody) (x : ℕ) → SeesTo gpt_seen true ((gpt_bodies d).work_of k) k ((gpt_bodies d).takes k x)
sees d (Second (First (First (First k)))) x = count_sees k x
sees d k x = let p = (gpt_bodies d).takes k x in plain_sees true ((gpt_bodies d).work_of k) p.1.event p.1.done (plain d k refl)

bodies_right : (d : GptTable) → AreRight (gpt_ground d) (gpt_bodies d)
bodies_right d = let g = gpt_ground d in either_right g _ _ (either_right g _ _ (init_right d) (either_right g _ _ (deinit_right d) (mode_right d))) (either_right g _ _ (either_right g _ _ (either_right g _ _ (count_right d) (start_right d)) (either_right g _ _ (stop_right d) (switch_right d))) (serve_right d))

-- a body that begins has read nothing
unseen : (d : GptTable) (chip : Chip) (w : World) (s : GptState) (k : GptBody) (call : Call) → At (gpt_ground d) (gpt_bodies d) chip w s k (Called call) None → Starts (gpt_seen k)
unseen d chip w s (Second (First (First (First k)))) call h = count_unseen d ((gpt_ground d).foot chip) s k (Called call) h.1
unseen d chip w s _ call h = tt

-- ---- what the load of the state word decides

has_parts : (m v : ℕ) → not (v == 0) && not (nat_lt m v) ≡ true → (0 < v) × (v ≤ m)
has_parts m v e = (grind (arith, nat_tests), grind (arith, nat_tests))

module _ (d : GptTable) (fits : FitsGpt d) (chip : Chip) (w : World) (s : GptState) (h : GptRepresents d settled chip w s) where
  abbrev Looks : Call → Looked GptBody → Type 0
  Looks call l = LooksRight (gpt d) chip w s call l

  module _ (c : ℕ) (k : Channel) (e : channel_of d c ≡ Some k) where
    here : c < 8
    here = within d c (ap (λ x. is_some x) e)

    may : (call : ChannelCall) → is_off s.mode ≡ false → ((busy : Bool) → error_by d (OfChannel c call) (is_off s.mode) (is_asleep s.mode) busy ≡ None) → MayRun d s c call
    may call on pass = record { pass = pass; on = on; lt = here; channel = k; known = e }

    stop_by : Passed d s (OfChannel c StopTimer) → is_off s.mode ≡ false → (q : Bool) → one_shot_of (channel_of d c) ≡ q → Looks (OfChannel c StopTimer) (Goes (Second (First (Second (First (if q then OneShot c else Continuous c))))))
    stop_by pass on true i = ((h, (Is_before, may StopTimer on (λ b. pass), i)), omega arith)
    stop_by pass on false i = ((h, (Is_before, may StopTimer on (λ b. pass), i)), omega arith)

    -- at the number of the channel
    at_number : (call : ChannelCall) → Passed d s (OfChannel c call) → is_off s.mode ≡ false → Looks (OfChannel c call) (begun_on d call (Some (record k { number = c })))
    at_number GetTimeElapsed pass on = ((h, (Is_before, may GetTimeElapsed on (λ b. pass))), omega arith)
    at_number GetTimeRemaining pass on = ((h, (Is_before, may GetTimeRemaining on (λ b. pass))), omega arith)
    at_number (StartTimer v) pass on =
        let value = has_parts k.tick_value_max v (sym (ap (λ x. has_value v x) e) ∙ value_of d s c v pass) in
        let less : k.tick_value_max < 2 ^ 32 = fits.small c k e in
        let most : v ≤ k.tick_value_max = value.1 in
        ((h, ((Is_before, record { on = on; lt = here; checks = λ b. start_busy d c v (is_off s.mode) (is_asleep s.mode) b None pass; positive = value.0; small = omega arith; prescaler = ap (λ x. prescaler_of x) (sym e); divides = fits.prescaler c k e; bits = refl; busy = refl }), λ time le. tt)), omega arith)
    at_number StopTimer pass on = stop_by pass on k.one_shot (ap (λ x. one_shot_of x) e)
    at_number (Changes by) pass on = ((h, (Is_before, may (Changes by) on (λ b. change_unhindered d c by (is_off s.mode) (is_asleep s.mode) b ∙ pass))), omega arith)

    known : (call : ChannelCall) → Passed d s (OfChannel c call) → Looks (OfChannel c call) (begun_on d call (Some k))
    known call pass = subst (λ n. Looks (OfChannel c call) (begun_on d call (Some (record k { number = n })))) (sym (fits.number c k e)) (at_number call pass (on_of d s (OfChannel c call) (λ i. absurd (cc)) pass))

  -- a channel that isn't configured: its wakeup source has no mark
  unknown : (c : ℕ) (call : ChannelCall) → channel_of d c ≡ None → Passed d s (OfChannel c call) → Looks (OfChannel c call) (begun_on d call None)
  unknown c (Changes Check) e pass = record { told = tells_nothing; is = λ times. ap (λ z. Some (acts_by d w s (OfChannel c (Changes Check)) z)) pass ∙ ap (λ z. Some (switches z s c Check)) e; tells = (refl, refl, refl) }
  unknown c call e pass = absurd (let f = sym (allowed d s c call pass) ∙ ap (λ k. allows call k) e in cc)

  on_channel : (c : ℕ) (call : ChannelCall) (k : Option Channel) → channel_of d c ≡ k → Passed d s (OfChannel c call) → Looks (OfChannel c call) (begun_on d call k)
  on_channel c call None e pass = unknown c call e pass
  on_channel c call (Some k) e pass = known c k e call pass

  goes_on : (call : Call) → Passed d s call → Looks call (begins d call)
  goes_on Init pass = ((h, (Is_before, off_of d s pass)), omega arith)
  goes_on DeInit pass = ((h, ((Is_before, λ b. deinit_busy d (is_off s.mode) (is_asleep s.mode) b None pass, on_of d s DeInit (λ i. absurd (cc)) pass, refl), λ time le. tt)), omega arith)
  goes_on (SetMode None) pass = absurd (mode_of d s pass)
  goes_on (SetMode (Some ToNormal)) pass = ((h, ((Is_before, pass, on_of d s (SetMode (Some ToNormal)) (λ i. absurd (cc)) pass), λ time le. tt)), omega arith)
  goes_on (SetMode (Some ToSleep)) pass = ((h, ((Is_before, pass, on_of d s (SetMode (Some ToSleep)) (λ i. absurd (cc)) pass, omega arith, sym (bits_of-zero (sleeps s))), λ time le. tt)), omega arith)
  goes_on (OfChannel c call) pass = on_channel c call (channel_of d c) refl pass

  look_by : (call : Call) (e : Option ErrorName) → error_by d call (is_off s.mode) (is_asleep s.mode) false ≡ e → Looks call (looked_by (record { call = call; driver = d }) e)
  look_by call None e = goes_on call e
  look_by call (Some x) e = record { told = tells_error (answer_refused call) x; is = λ times. ap (λ y. Some (acts_by d w s call y)) (early d call (is_off s.mode) (is_asleep s.mode) (is_busy d w s call) x e); tells = error_told (gpt_machine d) call (answer_refused call) x }

  pub looks : (call : Call) → Looks call (gpt_looked (record { call = call; driver = d }) (word_of chip STATE))
  looks call = subst (λ x. Looks call (gpt_looked (record { call = call; driver = d }) x)) (sym (h.words TheState tt refl)) (subst (λ l. Looks call l) (sym (asked_word d call s.mode)) (look_by call (error_by d call (is_off s.mode) (is_asleep s.mode) false) refl))

-- ---- the laws

handled_by : (k : Option Channel) → is_some (body_by k) ≡ is_some k
handled_by None = refl
handled_by (Some k) = refl

module _ (d : GptTable) (fits : FitsGpt d) where
  -- the body of a line's handler is the look at that line's flag
  entered_by : (line : ℕ) (k : GptBody) (q : Option Channel) → channel_of d line ≡ q → body_by q ≡ Some k → (line < 8) × (Second (Second (Look line)) ≡ k)
  entered_by line k None e is = absurd (cc)
  entered_by line k (Some ch) e is = (within d line (ap (λ x. is_some x) e), ap (λ n. Second (Second (Look n))) (sym (fits.number line ch e)) ∙ cc)

  enter_by : (line : ℕ) (k : GptBody) → (line < 8) × (Second (Second (Look line)) ≡ k) → CanEnter (gpt d) k (Entered line)
  enter_by line k a = subst (λ x. CanEnter (gpt d) x (Entered line)) a.1 (record { at = λ chip w s h. (h, ((Is_serving, a.0), λ time le. tt)); unseen = tt; room = omega arith })

  steps_by : (line : ℕ) (k : GptBody) → (line < 8) × (Second (Second (Look line)) ≡ k) → 6 + (gpt d).bodies.fuel k ≤ 64
  steps_by line k a = subst (λ x. 6 + (gpt d).bodies.fuel x ≤ 64) a.1 (omega arith)

  call_steps_by : (call : Call) → 7 + 21 ≤ gpt_steps d (Called call)
  call_steps_by Init = omega arith
  call_steps_by DeInit = omega arith
  call_steps_by _ = omega arith

  pub lawful : IsOutlined (gpt d)
  lawful = record {
    basis = ground_right d;
    bodies = bodies_right d;
    windows = λ chip w s k o t h. sees d k _;
    unseen = unseen d;
    looks = λ chip w s call can h. looks d fits chip w s h call;
    own_word = λ o. refl;
    word_there = omega arith;
    handled = λ line. handled_by (channel_of d line);
    enters = λ line k is. enter_by line k (entered_by line k (channel_of d line) refl is);
    call_steps = λ call can. call_steps_by call;
    call_window = λ call can. omega arith;
    must_none = λ call. refl;
    units_none = λ w s line. refl;
    line_steps = λ line k is. steps_by line k (entered_by line k (channel_of d line) refl is);
  }

-- it leaves the peripheral rate alone, and has no watchdog
pub slow_timers : (d : GptTable) (chip : Chip) (w : World) (ps : List (Short Asked GptBody × Open Call)) (s : GptState) → FitsGpt d → (driver_of (gpt d)).relates chip w ps s → (driver_of (gpt d)).setting.machine.rate s ≤ 16
slow_timers d chip w ps s fits h = omega arith
