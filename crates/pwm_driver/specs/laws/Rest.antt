-- Pwm_SetOutputToIdle and Pwm_GetOutputState: their step, and that it is right.
-- From Base, Units, Look, Parts, module_machines: pwm.Channels and 1 more.
-- Used by service/rest/rt, Lawful, Windows.
use Rattle.std.proofs.Common.{◌≡◌, ◌<◌, ◌≤◌, ◌==◌, ◌∙◌}
use Rattle.pwm_driver.specs.Terms
use Terms.{Act, acts_by, answers, ap, AreLong, arith, Ask, Before, below_test, bit_of, BodyTaken, Bool, Call, Called}
use Terms.{Channel, channel_of, channel_work, Chip, chip_after, ends, false, Idle, Is_before, Lag, level, level_answer}
use Terms.{level_at, LongBodies, missed_after, Move, no_answer, None, none, Nothing, Option, Origin, outcome, over, polarity_of, pulse_at, PulseIdle, PulseOut, Pulses, put_out, pwm_basis, pwm_machine, PwmTable, PwmRepresents, PwmState, Read, refl, Reservations, Rest, RestBody, SetOutputToIdle, settled, Shortens, Some, some_is, stands-move, StandsIn, StepsTo, subst, sym, tells_nothing, Told, true, UnitAgrees, with_pulse, World, Write, ℕ}
use Rattle.pwm_driver.specs.laws.{Base.{AllGood, steady_above, family, family_right}, RefinementRight.{outputs_same}}
use Rattle.pwm_driver.specs.laws.{Look.{Passed, MayAct}, Units.{both_set, put_agrees, idle_written}}
use Rattle.chip_blocks.specs.pulses.Pulses as pulses
use Rattle.chip_blocks.specs.declared.pulses.pulse.Output.TheVariants as units
use Rattle.module_machines.specs.declared.pwm.call.Call.TheVariants as calls

abbrev pub rest_work : RestBody → Move
rest_work (Rest c high) = Write (PulseIdle c) (level high)
rest_work (Ask c) = Read (PulseOut c)

abbrev pub rest_takes : RestBody → ℕ → RestBody × BodyTaken
rest_takes (Rest c high) x = (Rest c high, ends (Some Act) no_answer Nothing)
rest_takes (Ask c) x = (Ask c, ends (Some Act) (level_answer (x == 1)) Nothing)

abbrev pub rest_left : RestBody → ℕ
rest_left k = 1

abbrev pub rest_gap : RestBody → Lag
rest_gap k = settled

abbrev pub rest_call : ℕ → Call
rest_call c = calls.Channel c SetOutputToIdle

abbrev pub rest_holds : PwmTable → Pulses → ℕ → PwmState → RestBody → Origin Call → Option Told → Type 0
rest_holds d f now s (Rest c high) o t = Before (rest_call c) o t × (k : Channel) × MayAct d s c (rest_call c) k × (high ≡ k.idle_high)
rest_holds d f now s (Ask c) o t = Before (calls.GetOutputState c) o t × Passed d s (calls.GetOutputState c) × (c < 8)

abbrev pub rest_bodies : (d : PwmTable) → LongBodies (pwm_basis d) RestBody
rest_bodies d = family d rest_work rest_takes rest_left rest_gap (rest_holds d)

-- ---- the write, and the read

level_read : (b : Bool) → (bit_of b == 1) ≡ b
level_read true = refl
level_read false = refl

module _ (d : PwmTable) where
  rested : (below : Reservations) (chip : Chip) (w : World) (s : PwmState) (c : ℕ) (k : Channel) → MayAct d s c (rest_call c) k → PwmRepresents d below settled chip w s → PwmRepresents d below settled (chip_after chip (Write (PulseIdle c) (level k.idle_high)) 0) w (with_pulse s c (put_out (Some k) w.now (Idle k.idle_high) (pulse_at s c)))
  rested below chip w s c k i h =
      let x = pulse_at s c in
      let p = pulses.pulse_at chip.pulses c in
      let e = idle_written chip c k.idle_high in
      let o = stands-move chip w (Write (PulseIdle c) (level k.idle_high)) 0 h.outside in
      let here = subst (λ z. UnitAgrees (polarity_of z) w.now p x) i.known (h.units c i.lt refl) in
      let put = put_agrees (Some k) w.now p x (Idle k.idle_high) here tt in
      let timed = subst (λ t. UnitAgrees k.polarity_high w.now (pulses.put_out (units.Idle k.idle_high) t p) (put_out (Some k) w.now (Idle k.idle_high) x)) (sym (h.outside.together.pulses ∙ h.outside.now)) put in
      subst (λ z. PwmRepresents d below settled z w (with_pulse s c (put_out (Some k) w.now (Idle k.idle_high) x))) (sym e) (both_set d below chip w s c i.lt i.on (some_is (channel_of d c) k i.known) (pulses.put_out (units.Idle k.idle_high) chip.pulses.time p) (put_out (Some k) w.now (Idle k.idle_high) x) none (λ g. refl) refl (subst (λ z. StandsIn z w) e o) (subst (λ z. UnitAgrees (polarity_of z) w.now (pulses.put_out (units.Idle k.idle_high) chip.pulses.time p) (put_out (Some k) w.now (Idle k.idle_high) x)) (sym i.known) timed) h)

  steps : AllGood d (steady_above d rest_work rest_takes rest_left rest_gap (rest_holds d))
  steps below chip w s (Rest c high) o t m (h, (Is_before, k, i, e)) = (
    below_test c i.lt,
    record {
      own = tt;
      state = with_pulse s c (put_out (Some k) w.now (Idle k.idle_high) (pulse_at s c));
      told = tells_nothing;
      is = λ b. ap (λ z. Some (acts_by d w s (rest_call c) b.committed z)) i.pass ∙ ap (λ z. Some (outcome (with_pulse s c (channel_work z w.now SetOutputToIdle (pulse_at s c))) tells_nothing)) i.known;
      acts = tt;
      next = (subst (λ q. PwmRepresents d below settled (chip_after chip (Write (PulseIdle c) (level q)) 0) w (with_pulse s c (put_out (Some k) w.now (Idle k.idle_high) (pulse_at s c)))) (sym e) (rested below chip w s c k i h), (refl, refl, refl));
    },
  )
  steps below chip w s (Ask c) o t m (h, (Is_before, pass, lt)) = (
    below_test c lt,
    subst (λ a. StepsTo (over (pwm_basis d) below) (steady_above d rest_work rest_takes rest_left rest_gap (rest_holds d) below) chip w s (Called (calls.GetOutputState c)) (Read (PulseOut c)) false None (missed_after (pwm_machine d) w s m) (Ask c, ends (Some Act) a Nothing)) (sym (ap level_answer (level_read (pulses.level_at chip.pulses c) ∙ outputs_same d below chip w s c lt h))) (record {
      own = tt;
      state = s;
      told = answers (level_answer (level_at d w s c));
      is = λ b. ap (λ z. Some (acts_by d w s (calls.GetOutputState c) b.committed z)) pass;
      acts = tt;
      next = (h, (refl, refl, refl));
    }),
  )

  later : (f : Pulses) (now now1 : ℕ) (s : PwmState) (k : RestBody) (o : Origin Call) (t : Option Told) → now ≤ now1 → rest_holds d f now s k o t → rest_holds d f now1 s k o t
  later f now now1 s (Rest c high) o t le h = h
  later f now now1 s (Ask c) o t le h = h

  shortens : (k : RestBody) (x : ℕ) → Shortens rest_left k (rest_takes k x)
  shortens (Rest c high) x = omega arith
  shortens (Ask c) x = omega arith

  pub rest_right : AreLong (pwm_basis d) (rest_bodies d)
  rest_right = family_right d rest_work rest_takes rest_left rest_gap (rest_holds d) shortens later steps
