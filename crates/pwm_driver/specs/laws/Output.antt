-- Pwm_SetDutyCycle and Pwm_SetPeriodAndDuty: their steps, what holds at each, and that they are right.
-- From Units, Base, module_machines: pwm.Channels, Parts, Look.
-- Used by service/output/rt, Lawful, Windows, InitWrites, InitRight.
use Rattle.std.proofs.Common.{◌≡◌, ◌<◌, ◌≤◌, ◌==◌, ◌∙◌, if◌then◌else◌}
use Rattle.pwm_driver.specs.Terms
use Terms.{absolute, Act, acts, acts_by, After, ap, AreLong, arith, Before, behind, below_test, BodyTaken, Bool}
use Terms.{by_eight, Call, Channel, channel_of, channel_same, channel_work, ChannelCall, Chip, chip_after, Duty, ends}
use Terms.{eq_self, false, goes, Is_after, Is_before, Keep, Lag, level, Loads, LongBodies, missed_after, Move}
use Terms.{no_answer, None, none, not, Nothing, only, Option, Origin, outcome, OutputBody, over, Period, period_word}
use Terms.{Polarity, polarity_of, Pulse, pulse_at, pulse_at-same, PulseCommit, PulseDuty, PulsePeriod, PulsePolarity, Pulses, put_out, pwm_basis, pwm_machine, pwm_may, PwmTable, PwmRepresents, PwmState, refl, Reservations, set_to, SetDutyCycle, SetPeriodAndDuty, settled, Shortens, Some, some_is, stands-move, StandsIn, StepsTo, Store, subst, sym, tells_nothing, Told, true, UnitAgrees, Want, Wave, with_new, with_pulse, World, Write, ℕ}
use Rattle.pwm_driver.specs.declared.service.output.OutputBody.TheVariants.{Load, Commit}
use Rattle.pwm_driver.specs.laws.{Base.{AllGood, steady_above, family, family_right, pulses_of}, Look.{MayAct}}
use Rattle.pwm_driver.specs.laws.{Units.{chip_with, unit_set, both_set, waved, perioded, commit_agrees, period_kept}}
use Rattle.chip_blocks.specs.pulses.Pulses as pulses
use Rattle.chip_blocks.specs.declared.pulses.pulse.Pulse as unit
use Rattle.module_machines.specs.declared.pwm.call.Call.TheVariants as calls

abbrev pub output_work : OutputBody → Move
output_work (Load r) = Loads (period_word r.channel)
output_work (Period r) = Write (PulsePeriod r.channel) r.period
output_work (Duty r) = Write (PulseDuty r.channel) (absolute r.period r.duty)
output_work (Polarity r) = Write (PulsePolarity r.channel) (level r.high)
output_work (Commit r) = Write (PulseCommit r.channel) 1
output_work (Keep r) = Store (period_word r.channel) r.period

abbrev pub output_takes : OutputBody → ℕ → OutputBody × BodyTaken
output_takes (Load r) x = (Period (record r { period = x }), goes)
output_takes (Period r) x = (Duty r, goes)
output_takes (Duty r) x = (Polarity r, goes)
output_takes (Polarity r) x = (Commit r, goes)
output_takes (Commit r) x = if r.keeps then (Keep r, acts) else (Commit r, ends (Some Act) no_answer Nothing)
output_takes (Keep r) x = (Keep r, ends None no_answer Nothing)

abbrev pub output_left : OutputBody → ℕ
output_left (Load r) = 6
output_left (Period r) = 5
output_left (Duty r) = 4
output_left (Polarity r) = 3
output_left (Commit r) = 2
output_left (Keep r) = 1

abbrev pub output_gap : OutputBody → Lag
output_gap (Keep r) = behind (period_word r.channel)
output_gap _ = settled

abbrev pub asked_by : Bool → (period duty : ℕ) → ChannelCall
asked_by true period duty = SetPeriodAndDuty period duty
asked_by false period duty = SetDutyCycle duty

-- the call asks for a new period, or the period is the one that was set last
abbrev pub IsLast : Bool → (period : ℕ) → Pulse → Type 0
IsLast true period x = Unit {0}
IsLast false period x = period ≡ x.period

-- a call that sets the output so, of a configured channel
pub record Wants (d : PwmTable) (s : PwmState) (r : Want) (o : Origin Call) (t : Option Told) : Type 0 where
  pub call : Before (calls.Channel r.channel (asked_by r.keeps r.period r.duty)) o t
  pub channel : Channel
  pub may : MayAct d s r.channel (calls.Channel r.channel (asked_by r.keeps r.period r.duty)) channel
  pub high : r.high ≡ channel.polarity_high
  pub last : IsLast r.keeps r.period (pulse_at s r.channel)

abbrev pub wave_at : Pulses → ℕ → Wave
wave_at f c = (pulses.pulse_at f c).wave

abbrev pub output_holds : PwmTable → Pulses → ℕ → PwmState → OutputBody → Origin Call → Option Told → Type 0
output_holds d f now s (Load r) o t = Before (calls.Channel r.channel (SetDutyCycle r.duty)) o t × (k : Channel) × MayAct d s r.channel (calls.Channel r.channel (SetDutyCycle r.duty)) k × (r.high ≡ k.polarity_high) × (r.keeps ≡ false)
output_holds d f now s (Period r) o t = Wants d s r o t
output_holds d f now s (Duty r) o t = Wants d s r o t × ((wave_at f r.channel).period ≡ r.period)
output_holds d f now s (Polarity r) o t = Wants d s r o t × ((wave_at f r.channel).period ≡ r.period) × ((wave_at f r.channel).duty ≡ absolute r.period r.duty)
output_holds d f now s (Commit r) o t = Wants d s r o t × (wave_at f r.channel ≡ record { period = r.period; duty = absolute r.period r.duty; high = r.high })
output_holds d f now s (Keep r) o t = After (calls.Channel r.channel (SetPeriodAndDuty r.period r.duty)) tells_nothing o t × (r.channel < 8) × (s.initialised ≡ true) × (r.period ≡ (pulse_at s r.channel).period)

abbrev pub output_bodies : (d : PwmTable) → LongBodies (pwm_basis d) OutputBody
output_bodies d = family d output_work output_takes output_left output_gap (output_holds d)

may_load : (c : ℕ) → c < 8 → pwm_may (Loads (period_word c)) ≡ true
may_load c lt = by_eight (λ i. pwm_may (Loads (period_word i)) ≡ true) refl refl refl refl refl refl refl refl c lt

may_store : (c v : ℕ) → c < 8 → pwm_may (Store (period_word c) v) ≡ true
may_store c v lt = by_eight (λ i. pwm_may (Store (period_word i) v) ≡ true) refl refl refl refl refl refl refl refl c lt

pub wave_is : (v : Wave) (period duty : ℕ) (high : Bool) → v.period ≡ period → v.duty ≡ duty → v.high ≡ high → v ≡ record { period = period; duty = duty; high = high }
wave_is v period duty high a b c = ap (λ x. record { period = x; duty = v.duty; high = v.high }) a ∙ (ap (λ x. record { period = period; duty = x; high = v.high }) b ∙ ap (λ x. record { period = period; duty = duty; high = x }) c)

pub level_set : (high : Bool) → not (level high == 0) ≡ high
level_set true = refl
level_set false = refl

loaded : (d : PwmTable) (s : PwmState) (r : Want) (o : Origin Call) (t : Option Told) (k : Channel) (x : ℕ) (q : Bool) → q ≡ false → r.keeps ≡ q → Before (calls.Channel r.channel (SetDutyCycle r.duty)) o t → MayAct d s r.channel (calls.Channel r.channel (SetDutyCycle r.duty)) k → r.high ≡ k.polarity_high → x ≡ (pulse_at s r.channel).period → Wants d s (record r { period = x }) o t
loaded d s r o t k x true g e b i h is = absurd (cc)
loaded d s r o t k x false g e b i h is = record {
  call = subst (λ z. Before (calls.Channel r.channel (asked_by z x r.duty)) o t) (sym e) b;
  channel = k;
  may = subst (λ z. MayAct d s r.channel (calls.Channel r.channel (asked_by z x r.duty)) k) (sym e) i;
  high = h;
  last = subst (λ z. IsLast z x (pulse_at s r.channel)) (sym e) is;
}

module _ (d : PwmTable) (below : Reservations) (chip : Chip) (w : World) (s : PwmState) (r : Want) (o : Origin Call) (t : Option Told) (i : Wants d s r o t) (h : PwmRepresents d below settled chip w s) where
  abbrev p : unit.Pulse
  p = pulses.pulse_at chip.pulses r.channel

  -- a waiting register is written
  wrote : (v : Wave) → StandsIn (chip_with chip r.channel (record p { wave = v })) w → PwmRepresents d below settled (chip_with chip r.channel (record p { wave = v })) w s
  wrote v outside = unit_set d below chip w s r.channel i.may.lt i.may.on (some_is _ i.channel i.may.known) (record p { wave = v }) outside (waved (polarity_of (channel_of d r.channel)) w.now p (pulse_at s r.channel) v (h.units r.channel i.may.lt refl)) h

  stands_there : (v : Wave) → wave_at (pulses_of (chip_with chip r.channel (record p { wave = v }))) r.channel ≡ v
  stands_there v = ap (λ x. x.wave) (pulse_at-same chip.pulses r.channel (record p { wave = v }) (record { all = h.size; within = i.may.lt }))

  -- they are committed
  committed_at : (after : ℕ → Bool) → (after (period_word r.channel) ≡ false → r.period ≡ (pulse_at s r.channel).period) → p.wave ≡ record { period = r.period; duty = absolute r.period r.duty; high = r.high } → PwmRepresents d below (record settled { words = after }) (chip_after chip (Write (PulseCommit r.channel) 1) 0) w (with_pulse s r.channel (set_to (Some i.channel) w.now r.period r.duty (pulse_at s r.channel)))
  committed_at after same is =
      let x = pulse_at s r.channel in
      let here = subst (λ z. UnitAgrees (polarity_of z) w.now p x) i.may.known (h.units r.channel i.may.lt refl) in
      let wave = is ∙ ap (λ q. record { period = r.period; duty = absolute r.period r.duty; high = q }) i.high in
      let made = commit_agrees i.channel w.now chip.pulses.time p x r.period (absolute r.period r.duty) (h.outside.together.pulses ∙ h.outside.now) wave here in
      let whole = perioded i.channel.polarity_high w.now (pulses.taken chip.pulses.time p) (put_out (Some i.channel) w.now (with_new w.now r.period (absolute r.period r.duty) x.output) x) r.period made in
      both_set d below chip w s r.channel i.may.lt i.may.on (some_is _ i.channel i.may.known) (pulses.taken chip.pulses.time p) (set_to (Some i.channel) w.now r.period r.duty x) after same refl (stands-move chip w (Write (PulseCommit r.channel) 1) 0 h.outside) (subst (λ z. UnitAgrees (polarity_of z) w.now (pulses.taken chip.pulses.time p) (set_to (Some i.channel) w.now r.period r.duty x)) (sym i.may.known) whole) h

module _ (d : PwmTable) where
  abbrev Commits : Reservations → Chip → World → PwmState → Want → Origin Call → Option Told → (ℕ → Bool) → Bool → Type 0
  Commits below chip w s r o t m q = StepsTo (over (pwm_basis d) below) (steady_above d output_work output_takes output_left output_gap (output_holds d) below) (chip_after chip (Write (PulseCommit r.channel) 1) 0) w s o (Write (PulseCommit r.channel) 1) false t m (if q then (Keep r, acts) else (Commit r, ends (Some Act) no_answer Nothing))

  commit_by : (below : Reservations) (chip : Chip) (w : World) (s : PwmState) (r : Want) (o : Origin Call) (t : Option Told) (m : ℕ → Bool) → PwmRepresents d below settled chip w s → (i : Wants d s r o t) → (pulses.pulse_at chip.pulses r.channel).wave ≡ record { period = r.period; duty = absolute r.period r.duty; high = r.high } → (q : Bool) → r.keeps ≡ q → Before (calls.Channel r.channel (asked_by q r.period r.duty)) o t → IsLast q r.period (pulse_at s r.channel) → MayAct d s r.channel (calls.Channel r.channel (asked_by q r.period r.duty)) i.channel → Commits below chip w s r o t m q
  commit_by below chip w s r o t m h i is true e Is_before last may =
      let c = r.channel in
      let x1 = set_to (Some i.channel) w.now r.period r.duty (pulse_at s c) in
      record {
        own = tt;
        state = with_pulse s c x1;
        told = tells_nothing;
        is = λ b. ap (λ z. Some (acts_by d w s (calls.Channel c (SetPeriodAndDuty r.period r.duty)) b.committed z)) may.pass ∙ ap (λ z. Some (outcome (with_pulse s c (channel_work z w.now (SetPeriodAndDuty r.period r.duty) (pulse_at s c))) tells_nothing)) may.known;
        acts = tt;
        next = (committed_at d below chip w s r o t i h (only (period_word c)) (λ g. let f = eq_self (period_word c) in absurd (cc)) is, (Is_after, may.lt, may.on, sym (ap (λ y. y.period) (channel_same s c x1 may.lt))));
      }
  commit_by below chip w s r o t m h i is false e Is_before last may =
      let c = r.channel in
      record {
        own = tt;
        state = with_pulse s c (set_to (Some i.channel) w.now r.period r.duty (pulse_at s c));
        told = tells_nothing;
        is = λ b. ap (λ z. Some (acts_by d w s (calls.Channel c (SetDutyCycle r.duty)) b.committed z)) may.pass ∙ (ap (λ z. Some (outcome (with_pulse s c (channel_work z w.now (SetDutyCycle r.duty) (pulse_at s c))) tells_nothing)) may.known ∙ ap (λ v. Some (outcome (with_pulse s c (set_to (Some i.channel) w.now v r.duty (pulse_at s c))) tells_nothing)) (sym last));
        acts = tt;
        next = (committed_at d below chip w s r o t i h none (λ g. last) is, (refl, refl, refl));
      }

  steps : AllGood d (steady_above d output_work output_takes output_left output_gap (output_holds d))
  steps below chip w s (Load r) o t m (h, (b, k, i, e, q)) = (may_load r.channel i.lt, (h, loaded d s r o t k _ r.keeps q refl b i e (h.words.periods i.on r.channel i.lt (some_is _ k i.known) refl)))
  steps below chip w s (Period r) o t m (h, i) =
      let v = (pulses.pulse_at chip.pulses r.channel).wave in
      let v1 : Wave = record v { period = r.period } in
      (below_test r.channel i.may.lt, (wrote d below chip w s r o t i h v1 (stands-move chip w (Write (PulsePeriod r.channel) r.period) 0 h.outside), (i, ap (λ x. x.period) (stands_there d below chip w s r o t i h v1))))
  steps below chip w s (Duty r) o t m (h, (i, a)) =
      let v = (pulses.pulse_at chip.pulses r.channel).wave in
      let v1 : Wave = record v { duty = absolute r.period r.duty } in
      let there = stands_there d below chip w s r o t i h v1 in
      (below_test r.channel i.may.lt, (wrote d below chip w s r o t i h v1 (stands-move chip w (Write (PulseDuty r.channel) (absolute r.period r.duty)) 0 h.outside), (i, ap (λ x. x.period) there ∙ a, ap (λ x. x.duty) there)))
  steps below chip w s (Polarity r) o t m (h, (i, a, b)) =
      let v = (pulses.pulse_at chip.pulses r.channel).wave in
      let v1 : Wave = record v { high = not (level r.high == 0) } in
      let there = stands_there d below chip w s r o t i h v1 in
      (below_test r.channel i.may.lt, (wrote d below chip w s r o t i h v1 (stands-move chip w (Write (PulsePolarity r.channel) (level r.high)) 0 h.outside), (i, there ∙ wave_is v1 r.period (absolute r.period r.duty) r.high a b (level_set r.high))))
  steps below chip w s (Commit r) o t m (h, (i, is)) = (below_test r.channel i.may.lt, commit_by below chip w s r o t (missed_after (pwm_machine d) w s m) h i is r.keeps refl i.call i.last i.may)
  steps below chip w s (Keep r) o t m (h, (Is_after, lt, on, is)) = (may_store r.channel r.period lt, (period_kept d below chip w s r.channel r.period lt on is h, (refl, refl, refl)))

  later : (f : Pulses) (now now1 : ℕ) (s : PwmState) (k : OutputBody) (o : Origin Call) (t : Option Told) → now ≤ now1 → output_holds d f now s k o t → output_holds d f now1 s k o t
  later f now now1 s (Load r) o t le h = h
  later f now now1 s (Period r) o t le h = h
  later f now now1 s (Duty r) o t le h = h
  later f now now1 s (Polarity r) o t le h = h
  later f now now1 s (Commit r) o t le h = h
  later f now now1 s (Keep r) o t le h = h

  commit_shortens : (r : Want) (q : Bool) → Shortens output_left (Commit r) (if q then (Keep r, acts) else (Commit r, ends (Some Act) no_answer Nothing))
  commit_shortens r true = omega arith
  commit_shortens r false = omega arith

  shortens : (k : OutputBody) (x : ℕ) → Shortens output_left k (output_takes k x)
  shortens (Load r) x = omega arith
  shortens (Period r) x = omega arith
  shortens (Duty r) x = omega arith
  shortens (Polarity r) x = omega arith
  shortens (Commit r) x = commit_shortens r r.keeps
  shortens (Keep r) x = omega arith

  pub output_right : AreLong (pwm_basis d) (output_bodies d)
  output_right = family_right d output_work output_takes output_left output_gap (output_holds d) shortens later steps
