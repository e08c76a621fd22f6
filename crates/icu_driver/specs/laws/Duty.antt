-- Icu_GetDutyCycleValues: its steps, what holds at each, and that they are right.
-- From Measure, Calls, Steady, module_machines: icu.Channels, One and 1 more.
-- Used by service/duty/rt, Lawful, Windows.
use Rattle.std.proofs.Common.{◌≡◌, ◌==◌, [], ◌∷◌, ◌∙◌}
use Rattle.icu_driver.specs.Terms
use Terms.{ActiveIs, After, and_parts, answers, ap, AreRight, arith, Before, Bodies, Bool, Call, Called, capture_at, Captures, Chip, DutyBody, false, GetDutyCycleValues, icu_ground, IcuTable, IcuRepresents, IcuState, Is_after, Is_before, is_duty_cycle, is_measurement, is_some, Lag, List, Load, None, none, off_on, Option, Origin, outcome, Period, refl, settled, SignalMeasurement, Some, Store, subst, sym, Told, true, value_or, ValueIs, waiting_value, with_capture, word_of, World, ℕ}
use Rattle.module_machines.specs.declared.icu.call.Call.TheVariants.{Channel}
use Rattle.icu_driver.specs.declared.service.duty.DutyBody.TheVariants.{Waits, Active, Hand}
use Rattle.icu_driver.specs.laws.{Base.{Move, BodyTaken, goes, acts_on, ends, numbers, Nothing, Shortens, word}}
use Rattle.icu_driver.specs.laws.{Base.{SWITCHES, VALUES, TIMES}, Calls.{MayCall, acts_is, measures, to_mode, may_row}}
use Rattle.icu_driver.specs.laws.{Measure.{OfSome, IsPair, IsMeasured, waits_double, handed_waits, one_is, row_switches}}
use Rattle.module_machines.specs.icu.laws.{Channels.{with_same}}
use Rattle.icu_driver.specs.laws.{Measure.{row_values, all_handed, unwaiting, handing}, One.{IsRow}}
use Rattle.icu_driver.specs.laws.{Rows.{rows_of}, Steady.{calm_at, Good, AllGood, steady, steady_right}}
use Rattle.module_machines.specs.declared.icu.table.Channel as configured

abbrev pub duty_work : DutyBody → Move
duty_work (Waits c) = Load (word SWITCHES c)
duty_work (Period c q) = Load (word VALUES c)
duty_work (Active c q v) = Load (word TIMES c)
duty_work (Hand c a v) = Store (word SWITCHES c) 0

abbrev pub duty_takes : DutyBody → ℕ → DutyBody × BodyTaken
duty_takes (Waits c) x = (Period c (x == 1), goes)
duty_takes (Period c q) x = (Active c q x, goes)
duty_takes (Active c true v) x = (Hand c x v, acts_on)
duty_takes (Active c false v) x = (Hand c 0 0, acts_on)
duty_takes (Hand c a v) x = (Hand c a v, ends None (numbers (a ∷ v ∷ [])) Nothing)

abbrev pub duty_left : DutyBody → ℕ
duty_left (Waits c) = 4
duty_left (Period c q) = 3
duty_left (Active c q v) = 2
duty_left (Hand c a v) = 1

pub duty_shortens : (k : DutyBody) (x : ℕ) → Shortens duty_left k (duty_takes k x)
duty_shortens (Waits c) x = omega arith
duty_shortens (Period c q) x = omega arith
duty_shortens (Active c true v) x = omega arith
duty_shortens (Active c false v) x = omega arith
duty_shortens (Hand c a v) x = omega arith

-- ---- what holds at each; that a value waits is behind from the act on

abbrev pub duty_gap : DutyBody → Lag
duty_gap (Waits c) = settled
duty_gap (Period c q) = settled
duty_gap (Active c q v) = settled
duty_gap (Hand c a v) = rows_of (SWITCHES ∷ []) c

abbrev pub duty_holds : IcuTable → Captures → IcuState → DutyBody → Origin Call → Option Told → Type 0
duty_holds d f s (Waits c) o t = Before (Channel c GetDutyCycleValues) o t × MayCall d c GetDutyCycleValues × (s.initialised ≡ true)
duty_holds d f s (Period c q) o t = Before (Channel c GetDutyCycleValues) o t × (i : MayCall d c GetDutyCycleValues) × (s.initialised ≡ true) × (q ≡ is_some (waiting_value i.channel (capture_at s c)))
duty_holds d f s (Active c q v) o t = Before (Channel c GetDutyCycleValues) o t × (i : MayCall d c GetDutyCycleValues) × (s.initialised ≡ true) × (q ≡ is_some (waiting_value i.channel (capture_at s c))) × ValueIs v (waiting_value i.channel (capture_at s c))
duty_holds d f s (Hand c a v) o t = After (Channel c GetDutyCycleValues) (answers (numbers (a ∷ v ∷ []))) o t × (k : configured.Channel) × IsMeasured d s c k × ((capture_at s c).handed_out ≡ true)

abbrev pub duty_bodies : (d : IcuTable) → Bodies (icu_ground d) DutyBody
duty_bodies d = steady d duty_work duty_takes duty_left duty_gap (duty_holds d)

told_pair : (t v : ℕ) (o : Option (List ℕ)) → is_some o ≡ true → OfSome IsPair o → ValueIs v o → ActiveIs t o → value_or (0 ∷ 0 ∷ []) o ≡ t ∷ v ∷ []
told_pair t v None e h i j = off_on e
told_pair t v (Some (a ∷ n ∷ [])) e h i j = ap (λ z. z ∷ n ∷ []) (sym j) ∙ ap (λ z. t ∷ z ∷ []) (sym i)
told_pair t v (Some []) e h i j = absurd h
told_pair t v (Some (a ∷ [])) e h i j = absurd h
told_pair t v (Some (a ∷ n ∷ m ∷ ms)) e h i j = absurd h

told_none : (o : Option (List ℕ)) → is_some o ≡ false → value_or (0 ∷ 0 ∷ []) o ≡ 0 ∷ 0 ∷ []
told_none None e = refl
told_none (Some v) e = off_on (sym e)

row_times : IsRow TIMES
row_times = (refl, omega arith, omega arith)

module _ (d : IcuTable) where
  mode_of : (c : ℕ) (i : MayCall d c GetDutyCycleValues) → i.channel.mode ≡ SignalMeasurement
  mode_of c i = measures i.channel.mode (and_parts (is_measurement i.channel.mode) (is_duty_cycle i.channel.measured) i.suited).0

  -- both values are handed out
  handed_two : (chip : Chip) (w : World) (s : IcuState) (c : ℕ) (i : MayCall d c GetDutyCycleValues) (m : ℕ → Bool) (q : Bool) (v a n : ℕ) → s.initialised ≡ true → value_or (0 ∷ 0 ∷ []) (waiting_value i.channel (capture_at s c)) ≡ a ∷ n ∷ [] → IcuRepresents d settled chip w s → duty_takes (Active c q v) (word_of chip (word TIMES c)) ≡ (Hand c a n, acts_on) → Good d (duty_bodies d) chip w s (Active c q v) (Called (Channel c GetDutyCycleValues)) None m
  handed_two chip w s c i m q v a n on told h takes =
      let x = capture_at s c in
      let y = record x { handed_out = true } in
      let s1 = with_capture s c y in
      let mode = mode_of c i in (
        may_row d TIMES c row_times i.lt,
        rw takes (record {
          own = tt;
          state = s1;
          told = answers (numbers (a ∷ n ∷ []));
          is = λ times. acts_is d w s c GetDutyCycleValues times.committed i on ∙ ap (λ z. Some (outcome s1 (answers (numbers z)))) (handed_waits (0 ∷ 0 ∷ []) i.channel x ∙ told);
          acts = tt;
          next = (handing d chip w s c i.channel (i.known, mode, i.lt, on) h, ((Is_after, i.channel, (i.known, mode, i.lt, on), ap (λ z. z.handed_out) (calm_at s1 c i.lt) ∙ ap (λ z. z.handed_out) (with_same s c y i.lt)), tt));
        }),
      )

  steps : AllGood d (duty_bodies d)
  steps chip w s (Waits c) o t m (h, ((Is_before, i, on), u)) =
      let x = capture_at s c in
      let words = to_mode d c i.channel i.known SignalMeasurement (mode_of c i) (λ j. word_of chip j) none x (h.words c i.lt) in
      (may_row d SWITCHES c row_switches i.lt, (h, ((Is_before, i, on, ap (λ z. z == 1) (words.waits refl) ∙ (one_is (is_some (waiting_value i.channel x)) ∙ sym (ap (λ z. is_some (waiting_value i.channel z)) (calm_at s c i.lt)))), tt)))
  steps chip w s (Period c q) o t m (h, ((Is_before, i, on, e), u)) =
      let x = capture_at s c in
      let words = to_mode d c i.channel i.known SignalMeasurement (mode_of c i) (λ j. word_of chip j) none x (h.words c i.lt) in
      (may_row d VALUES c row_values i.lt, (h, ((Is_before, i, on, e, subst (λ z. ValueIs (word_of chip (word VALUES c)) (waiting_value i.channel z)) (sym (calm_at s c i.lt)) (words.value refl)), tt)))
  steps chip w s (Active c true v) o t m (h, ((Is_before, i, on, e, is), u)) =
      let x = capture_at s c in
      let words = to_mode d c i.channel i.known SignalMeasurement (mode_of c i) (λ j. word_of chip j) none x (h.words c i.lt) in
      let duty = (and_parts (is_measurement i.channel.mode) (is_duty_cycle i.channel.measured) i.suited).1 in
      let some = sym (e ∙ ap (λ z. is_some (waiting_value i.channel z)) (calm_at s c i.lt)) in
      let value = subst (λ z. ValueIs v (waiting_value i.channel z)) (calm_at s c i.lt) is in
      handed_two chip w s c i m true v (word_of chip (word TIMES c)) v on (told_pair (word_of chip (word TIMES c)) v (waiting_value i.channel x) some (waits_double i.channel x duty) value (words.time refl)) h refl
  steps chip w s (Active c false v) o t m (h, ((Is_before, i, on, e, is), u)) =
      let some = sym (e ∙ ap (λ z. is_some (waiting_value i.channel z)) (calm_at s c i.lt)) in
      handed_two chip w s c i m false v 0 0 on (told_none (waiting_value i.channel (capture_at s c)) some) h refl
  steps chip w s (Hand c a v) o t m (h, ((Is_after, k, is, e), u)) =
      let handed_all = sym (ap (λ z. z.handed_out) (calm_at s c is.2)) ∙ e in
      (may_row d SWITCHES c row_switches is.2, (unwaiting d [] tt chip w s c k is (all_handed k (capture_at s c) handed_all) h, (refl, refl, refl)))

  pub duty_right : AreRight (icu_ground d) (duty_bodies d)
  duty_right = steady_right d duty_work duty_takes duty_left duty_gap (duty_holds d) duty_shortens steps
