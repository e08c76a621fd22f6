-- The handler of a channel's line: its steps, what holds at each, and that they are right.
-- From Base, Flags, RefinementRight, service_outline: StepKinds.
-- Used by Lawful, service/serve/rt, Windows.
use Rattle.std.proofs.Common.{◌≡◌, ◌+◌, ◌-◌, ◌<◌, ◌≤◌, ◌&&◌, ◌∙◌, if◌then◌else◌}
use Rattle.pwm_driver.specs.Terms
use Terms.{ap, AreLong, arith, BodyTaken, Bool, both, Call, Channel, channel_number, channel_of, Chip, ends, Entered}
use Terms.{false, flags_of, forgotten, goes, has_bit, is_marked_by, Is_serving, is_some, KINDS, Lag, line-pulse, Load}
use Terms.{LongBodies, missed_after, Move, nat_lt, nat_tests, no_answer, None, none, not, notes, Nothing, One, Option, or_true, Origin, over, polarity_of, pulse_at, PulseFlags, Pulses, pwm_basis, pwm_machine, PwmTable, PwmNotification, PwmRepresents, PwmState, Read, ready, ready_by, refl, Reservations, Serve, ServeBody, served, Serving, settled, Shortens, Some, stands, StepsTo, subst, sym, Told, true, with_pulse, World, Write, ℕ}
use Rattle.pwm_driver.specs.laws.Base.{AllGood, steady_above, family, family_right}
use Rattle.pwm_driver.specs.laws.Flags.{stands_due, unflagged_agrees, flags_cleared, marked_later}
use Rattle.pwm_driver.specs.laws.RefinementRight.{due_here, due_line, quiet_none}
use Rattle.chip_blocks.specs.pulses.Pulses as pulses
use Rattle.pwm_driver.specs.declared.service.serve.ServeBody.TheVariants as places

abbrev pub serve_work : ServeBody → Move
serve_work (places.Kinds c) = Load KINDS
serve_work (places.Look c k) = Read PulseFlags
serve_work (places.Clear c) = Write PulseFlags (both c)

abbrev pub serve_takes : ServeBody → ℕ → ServeBody × BodyTaken
serve_takes (places.Kinds c) x = (places.Look c x, goes)
serve_takes (places.Look c k) x = if stands k x c then (places.Clear c, goes) else (places.Look c k, ends None no_answer Nothing)
serve_takes (places.Clear c) x = (places.Clear c, ends (Some (Serve (c + 8))) no_answer (One (record { kind = PwmNotification; id = c })))

abbrev pub serve_left : ServeBody → ℕ
serve_left (places.Kinds c) = 3
serve_left (places.Look c k) = 2
serve_left (places.Clear c) = 1

abbrev pub serve_gap : ServeBody → Lag
serve_gap k = settled

-- it is the handler of a configured channel
abbrev pub IsHandler : PwmTable → ℕ → Origin Call → Option Told → Type 0
IsHandler d c o t = Serving (c + 8) o t × (c < 8) × (k : Channel) × (channel_of d c ≡ Some k)

-- from the look to the serving the mark stands
abbrev pub serve_holds : PwmTable → Pulses → ℕ → PwmState → ServeBody → Origin Call → Option Told → Type 0
serve_holds d f now s (places.Kinds c) o t = IsHandler d c o t
serve_holds d f now s (places.Look c k) o t = IsHandler d c o t × (k ≡ f.edges)
serve_holds d f now s (places.Clear c) o t = IsHandler d c o t × (is_marked_by (pulse_at s c).notified (polarity_of (channel_of d c)) now (pulse_at s c) ≡ true)

abbrev pub serve_bodies : (d : PwmTable) → LongBodies (pwm_basis d) ServeBody
serve_bodies d = family d serve_work serve_takes serve_left serve_gap (serve_holds d)

number_back : (c : ℕ) → c + 8 - 8 ≡ c
number_back c = omega arith

not_low : (c : ℕ) → nat_lt (c + 8) 8 ≡ false
not_low c = grind (arith, nat_tests)

module _ (d : PwmTable) where
  -- a marked channel is one of an initialised module
  ready_on : (below : Reservations) (chip : Chip) (w : World) (s : PwmState) (c : ℕ) → c < 8 → PwmRepresents d below settled chip w s → is_marked_by (pulse_at s c).notified (polarity_of (channel_of d c)) w.now (pulse_at s c) ≡ true → s.initialised ≡ true
  ready_on below chip w s c lt h r = by s.initialised refl
    where
      by : (q : Bool) → s.initialised ≡ q → s.initialised ≡ true
      by true e = e
      by false e = absurd (let f = quiet_none d w s c (h.clean e c lt) in cc)

  ready_at : (w : World) (s : PwmState) (c : ℕ) (k : Channel) → channel_of d c ≡ Some k → s.initialised ≡ true → is_marked_by (pulse_at s c).notified (polarity_of (channel_of d c)) w.now (pulse_at s c) ≡ true → ready d w s (c + 8) ≡ true
  ready_at w s c k known on r =
      ap (λ q. ready_by (if q then None else channel_of d (c + 8 - 8)) w s (c + 8 - 8)) (not_low c)
      ∙ (ap (λ n. ready_by (channel_of d n) w s n) (number_back c)
      ∙ (ap (λ o. ready_by o w s c) known
      ∙ (ap (λ q. q && is_marked_by (pulse_at s c).notified k.polarity_high w.now (pulse_at s c)) on
      ∙ (sym (ap (λ o. is_marked_by (pulse_at s c).notified (polarity_of o) w.now (pulse_at s c)) known) ∙ r))))

  unready : (below : Reservations) (chip : Chip) (w : World) (s : PwmState) (c : ℕ) → c < 8 → PwmRepresents d below settled chip w s → pulses.is_due chip.pulses c ≡ false → ready d w s (c + 8) ≡ false
  unready below chip w s c lt h e =
      sym (due_line d below chip w s (c + 8) (omega arith) (omega (arith, lt)) h)
      ∙ (line-pulse chip (c + 8) (omega arith) (omega (arith, lt))
      ∙ (ap (λ n. pulses.is_due chip.pulses n && has_bit chip.control.enabled (c + 8)) (number_back c) ∙ ap (λ q. q && has_bit chip.control.enabled (c + 8)) e))

  look_by : (below : Reservations) (chip : Chip) (w : World) (s : PwmState) (m : ℕ → Bool) (c k : ℕ) (x : Channel) → c < 8 → channel_of d c ≡ Some x → PwmRepresents d below settled chip w s → (q : Bool) → pulses.is_due chip.pulses c ≡ q → StepsTo (over (pwm_basis d) below) (steady_above d serve_work serve_takes serve_left serve_gap (serve_holds d) below) chip w s (Entered (c + 8)) (Read PulseFlags) false None (missed_after (pwm_machine d) w s m) (if q then (places.Clear c, goes) else (places.Look c k, ends None no_answer Nothing))
  look_by below chip w s m c k x lt known h true e = (h, ((Is_serving, lt, x, known), sym (due_here d below chip w s c lt h) ∙ e))
  look_by below chip w s m c k x lt known h false e = (h, or_true (m (c + 8)) (ap not (unready below chip w s c lt h e)), refl)

  steps : AllGood d (steady_above d serve_work serve_takes serve_left serve_gap (serve_holds d))
  steps below chip w s (places.Kinds c) o t m (h, (Is_serving, lt, x, known)) = (refl, (h, ((Is_serving, lt, x, known), h.words.kinds refl)))
  steps below chip w s (places.Look c k) o t m (h, ((Is_serving, lt, x, known), is)) =
      let due = ap (λ e. stands e (flags_of chip.pulses) c) is ∙ stands_due chip.pulses c lt in
      (refl, subst (λ q. StepsTo (over (pwm_basis d) below) (steady_above d serve_work serve_takes serve_left serve_gap (serve_holds d) below) chip w s (Entered (c + 8)) (Read PulseFlags) false None (missed_after (pwm_machine d) w s m) (if q then (places.Clear c, goes) else (places.Look c k, ends None no_answer Nothing))) (sym due) (look_by below chip w s m c k x lt known h (pulses.is_due chip.pulses c) refl))
  steps below chip w s (places.Clear c) o t m (h, ((Is_serving, lt, k, known), r)) =
      let x = pulse_at s c in
      let on = ready_on below chip w s c lt h r in (
        refl,
        record {
          own = refl;
          state = with_pulse s c (forgotten w.now x);
          told = notes c;
          is = λ b. ap (λ q. if q then Some (served w s (channel_number (c + 8))) else None) (ready_at w s c k known on r) ∙ ap (λ n. Some (served w s n)) (number_back c);
          acts = tt;
          next = (flags_cleared d below chip w s c (forgotten w.now x) none none lt on (ap (λ z. is_some z) known) refl (λ i ne. refl) (h.kinds c lt refl) (unflagged_agrees (polarity_of (channel_of d c)) w.now chip.pulses.time (pulses.pulse_at chip.pulses c) x x.notified (h.outside.together.pulses ∙ h.outside.now) (h.units c lt refl)) h, (refl, refl, refl));
        },
      )

  later : (f : Pulses) (now now1 : ℕ) (s : PwmState) (k : ServeBody) (o : Origin Call) (t : Option Told) → now ≤ now1 → serve_holds d f now s k o t → serve_holds d f now1 s k o t
  later f now now1 s (places.Kinds c) o t le h = h
  later f now now1 s (places.Look c k) o t le h = h
  later f now now1 s (places.Clear c) o t le h = (h.0, marked_later (pulse_at s c).notified (polarity_of (channel_of d c)) (pulse_at s c) now now1 le h.1)

  look_shortens : (c k : ℕ) (q : Bool) → Shortens serve_left (places.Look c k) (if q then (places.Clear c, goes) else (places.Look c k, ends None no_answer Nothing))
  look_shortens c k true = omega arith
  look_shortens c k false = omega arith

  shortens : (k : ServeBody) (x : ℕ) → Shortens serve_left k (serve_takes k x)
  shortens (places.Kinds c) x = omega arith
  shortens (places.Look c k) x = look_shortens c k (stands k x c)
  shortens (places.Clear c) x = omega arith

  pub serve_right : AreLong (pwm_basis d) (serve_bodies d)
  serve_right = family_right d serve_work serve_takes serve_left serve_gap (serve_holds d) shortens later steps
