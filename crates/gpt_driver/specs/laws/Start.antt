-- Gpt_StartTimer: its steps, what holds at each, and that they are right.
-- From Base, Parts, ChannelTimes, RefinementRight, module_machines: gpt.Channels.
-- Used by service/start/rt, Lawful.
use Rattle.std.proofs.Common.{◌≡◌, ℕ, ◌<◌, ◌≤◌, ◌^◌, Bool, true, false, ◌||◌, ◌==◌, Option, Some, None, cond, refl, sym, ◌∙◌, ap, subst, arith}
use Rattle.std.specs.Prelude.{if◌then◌else◌}
use Rattle.mcal_base.specs.facts.Numbers.{eq_self}
use Rattle.gpt_driver.specs.laws.Base.{ne_eqb, lt-ltb, Chip, Timers, timer_at, is_flagged, expired_between, gate_set, running_of, Since, Timer, timer_at-acted_on, timer_at-with_timer_same, has_bit-running_of, has_bit, bits_of, has_bit-bits_of, GptBusy, Act, Move, TimerTarget, TimerPrescaler, TimerOneShot, TimerGateSet, TimerFlags, TimerRun, World, Told, no_answer, tells_nothing, Origin, Called, missed_after, Nothing, BodyTaken, Cleans, goes, acts_on, ends, owed_error, Shortens, Bodies, AreRight, StepsTo, Before, Is_before, After, Is_after, error_by, Lag, settled, none, only, open_at, behind, IsSet, TimerAgrees, TargetOf, GptRepresents, gpt_ground, GptState, channel_at, Timing, Course, Running, is_off, is_asleep, target_of, prescaler_of, runs, started, reporting, gpt_machine, channel_of, one_shot_of, is_one_shot, bit, target_word, Call, OfChannel, StartTimer, Channel, GptTable, Unflags, Opens, Read, Store, Write, either_way, on_later, timed, AllGood, all_right, acts_so, finds_busy}
use Rattle.mcal_base.specs.declared.service.Service.TheVariants.{GptStartTimer}
use Rattle.gpt_driver.specs.declared.service.start.Start.{Start}
use Rattle.gpt_driver.specs.declared.service.start.StartBody.{StartBody}
use Rattle.gpt_driver.specs.declared.service.start.StartBody.TheVariants.{Look, Target, Prescaler, OneShot, Clear, Gate, Keep}
use Rattle.gpt_driver.specs.laws.ChannelTimes.{expired_is, quiet, rests_later}
use Rattle.gpt_driver.specs.laws.RefinementRight.{may_words}
use Rattle.module_machines.specs.gpt.laws.Channels.{channel_same}
use Rattle.gpt_driver.specs.laws.Parts.{acted_with, acted_here, block_set, caught_up, moved, has_one, runs_here}

abbrev pub start_work : StartBody → Move
start_work (Look r) = Read TimerRun
start_work (Target r) = Write (TimerTarget r.channel) r.value
start_work (Prescaler r) = Write (TimerPrescaler r.channel) r.prescaler
start_work (OneShot r) = Write TimerOneShot r.one_shot_bits
start_work (Clear r) = Write TimerFlags (bit r.channel)
start_work (Gate r) = Write TimerGateSet (bit r.channel)
start_work (Keep r) = Store (target_word r.channel) r.value

abbrev pub start_takes : StartBody → ℕ → StartBody × BodyTaken
start_takes (Look r) x = if has_bit x r.channel then (Look r, ends (Some Act) no_answer r.busy) else (Target r, goes)
start_takes (Target r) x = (Prescaler r, goes)
start_takes (Prescaler r) x = (OneShot r, goes)
start_takes (OneShot r) x = (Clear r, goes)
start_takes (Clear r) x = (Gate r, goes)
start_takes (Gate r) x = (Keep r, acts_on)
start_takes (Keep r) x = (Keep r, ends None no_answer Nothing)

abbrev pub start_left : StartBody → ℕ
start_left (Look r) = 7
start_left (Target r) = 6
start_left (Prescaler r) = 5
start_left (OneShot r) = 4
start_left (Clear r) = 3
start_left (Gate r) = 2
start_left (Keep r) = 1

start_shortens : (k : StartBody) (x : ℕ) → Shortens start_left k (start_takes k x)
start_shortens (Look r) x = either_way (λ p. Shortens start_left (Look r) p) (has_bit x r.channel) _ _ (omega arith) (omega arith)
start_shortens _ x = omega arith

abbrev pub start_gap : StartBody → Lag
start_gap (Gate r) = open_at r.channel
start_gap (Keep r) = behind (target_word r.channel)
start_gap _ = settled

abbrev pub start_call : Start → Call
start_call r = OfChannel r.channel (StartTimer r.value)

-- it begins with a look, before which it wrote nothing
abbrev pub start_clean : StartBody → Bool
start_clean (Look r) = true
start_clean _ = false

start_cleans : (k : StartBody) (x : ℕ) → Cleans start_clean (start_work k) k (start_takes k x)
start_cleans (Look r) x = either_way (λ p. Cleans start_clean (Read TimerRun) (Look r) p) (has_bit x r.channel) _ _ tt (λ e. absurd (cc))
start_cleans (Keep r) x = tt
start_cleans _ x = λ e. absurd (cc)

-- what is to be started may be, and is as the configuration has it
pub record IsStart (d : GptTable) (s : GptState) (r : Start) : Type 0 where
  pub on : is_off s.mode ≡ false
  pub lt : r.channel < 8
  pub checks : (busy : Bool) → error_by d (start_call r) (is_off s.mode) (is_asleep s.mode) busy ≡ cond busy (Some GptBusy) None
  pub positive : 0 < r.value
  pub small : r.value < 2 ^ 32
  pub prescaler : r.prescaler ≡ prescaler_of (channel_of d r.channel)
  pub divides : 0 < r.prescaler
  pub bits : r.one_shot_bits ≡ bits_of (is_one_shot d) 8
  pub busy : r.busy ≡ owed_error (reporting d) GptStartTimer GptBusy

abbrev pub start_holds : GptTable → Timers → GptState → StartBody → Origin Call → Option Told → Type 0
start_holds d f s (Look r) o t = Before (start_call r) o t × IsStart d s r
start_holds d f s (Target r) o t = Before (start_call r) o t × IsStart d s r
start_holds d f s (Prescaler r) o t = Before (start_call r) o t × IsStart d s r × ((timer_at f r.channel).target ≡ r.value)
start_holds d f s (OneShot r) o t = Before (start_call r) o t × IsStart d s r × ((timer_at f r.channel).target ≡ r.value) × ((timer_at f r.channel).prescaler ≡ r.prescaler)
start_holds d f s (Clear r) o t = Before (start_call r) o t × IsStart d s r × ((timer_at f r.channel).target ≡ r.value) × ((timer_at f r.channel).prescaler ≡ r.prescaler) × (f.one_shot ≡ r.one_shot_bits)
start_holds d f s (Gate r) o t = Before (start_call r) o t × IsStart d s r × ((timer_at f r.channel).target ≡ r.value) × ((timer_at f r.channel).prescaler ≡ r.prescaler) × (f.one_shot ≡ r.one_shot_bits)
start_holds d f s (Keep r) o t = After (start_call r) tells_nothing o t × (r.channel < 8) × (r.value ≡ target_of (channel_at s r.channel).course)

-- the channel doesn't run, and once its flag is cleared that stays so too
abbrev pub start_stays : GptTable → Timers → GptState → StartBody → ℕ → Type 0
start_stays d f s (Look r) time = Unit {0}
start_stays d f s (Gate r) time = (runs (channel_of d r.channel) time (channel_at s r.channel).course ≡ false) × (is_flagged (timer_at f r.channel) time ≡ false)
start_stays d f s (Keep r) time = Unit {0}
start_stays d f s (Target r) time = runs (channel_of d r.channel) time (channel_at s r.channel).course ≡ false
start_stays d f s (Prescaler r) time = runs (channel_of d r.channel) time (channel_at s r.channel).course ≡ false
start_stays d f s (OneShot r) time = runs (channel_of d r.channel) time (channel_at s r.channel).course ≡ false
start_stays d f s (Clear r) time = runs (channel_of d r.channel) time (channel_at s r.channel).course ≡ false

abbrev pub start_bodies : (d : GptTable) → Bodies (gpt_ground d) StartBody
start_bodies d = timed d start_work start_takes start_left start_gap start_clean (start_holds d) (start_stays d)

-- ---- the gate

-- it opens with what was written
gate_opens : (k : Option Channel) (one : Bool) (time now v : ℕ) (t : Timer) (x : Timing) → time ≡ now → one ≡ one_shot_of k → t.target ≡ v → t.prescaler ≡ prescaler_of k → 0 < v → v < 2 ^ 32 → 0 < prescaler_of k → is_flagged t time ≡ false → TimerAgrees k one (gate_set one time t) (started now v x)
gate_opens k one time now v t x et eo ev ep positive small divides quiet =
    let opened = record t { count = Since (record { start = time; target = t.target; prescaler = t.prescaler; one_shot = one }); kept = is_flagged t time; watched = time } in
    let zero_no = ap (λ n. n == 0) ev ∙ ne_eqb v 0 (omega (arith, positive)) in
    let none_no = ap (λ n. n == 0) ep ∙ ne_eqb (prescaler_of k) 0 (omega (arith, divides)) in
    let open_yes : gate_set one time t ≡ opened = ap (λ q. if q || t.prescaler == 0 then t else opened) zero_no ∙ ap (λ q. if q then t else opened) none_no in
    let run = ap (λ n. Since (record { start = n; target = t.target; prescaler = t.prescaler; one_shot = one })) et ∙ ap (λ n. Since (record { start = now; target = n; prescaler = t.prescaler; one_shot = one })) ev ∙ ap (λ n. Since (record { start = now; target = v; prescaler = n; one_shot = one })) ep ∙ ap (λ q. Since (record { start = now; target = v; prescaler = prescaler_of k; one_shot = q })) eo in
    subst (λ y. TimerAgrees k one y (started now v x)) (sym open_yes) (record { count = run; kept = quiet; flag = λ n. ap (λ a. expired_between opened.count a n) et; set = (positive, small, divides, eo) })

rebit : (k : Option Channel) (a b : Bool) (x : Course) → b ≡ one_shot_of k → IsSet k a x → IsSet k b x
rebit k a b (Running s v) e h = (h.0, h.1, h.2, e)
rebit k a b _ e h = h

module _ (d : GptTable) where
  start_by : (chip : Chip) (w : World) (s : GptState) (m : ℕ → Bool) (r : Start) → IsStart d s r → GptRepresents d settled chip w s → (q : Bool) → q ≡ runs (channel_of d r.channel) w.now (channel_at s r.channel).course → StepsTo (gpt_ground d) (start_bodies d) chip w s (Called (start_call r)) (Read TimerRun) true None m (if q then (Look r, ends (Some Act) no_answer r.busy) else (Target r, goes))
  start_by chip w s m r i h true e = finds_busy d (start_bodies d) chip w s (start_call r) m (Look r) r.busy refl (ap (λ b. error_by d (start_call r) (is_off s.mode) (is_asleep s.mode) b) (sym e) ∙ i.checks true) i.busy h
  start_by chip w s m r i h false e = (h, ((Is_before, i), λ time le. rests_later (channel_of d r.channel) (channel_at s r.channel).course w.now time le (sym e)))

  steps : AllGood d (start_bodies d)
  steps chip w s (Look r) o t m (h, ((Is_before, i), stays)) = (refl, start_by chip w s (missed_after (gpt_machine d) w s m) r i h (has_bit (running_of chip.timers) r.channel) (has_bit-running_of chip.timers r.channel i.lt ∙ runs_here d chip w s settled h r.channel i.lt refl))
  steps chip w s (Target r) o t m (h, ((Is_before, i), stays)) =
      let c = r.channel in
      let x = record (timer_at chip.timers c) { target = r.value } in
      (lt-ltb c 8 i.lt, (moved d (start_work (Target r)) chip w s s settled settled h (block_set d chip w s c x i.lt h (λ a. record { count = a.count; kept = a.kept; flag = a.flag; set = a.set })) h.words h.lines h.clean, ((Is_before, i, ap (λ y. y.target) (timer_at-with_timer_same chip.timers c x (record { all = h.outside.all.timers; within = i.lt }))), stays)))
  steps chip w s (Prescaler r) o t m (h, ((Is_before, i, ev), stays)) =
      let c = r.channel in
      let x = record (timer_at chip.timers c) { prescaler = r.prescaler } in
      let e = timer_at-with_timer_same chip.timers c x (record { all = h.outside.all.timers; within = i.lt }) in
      (lt-ltb c 8 i.lt, (moved d (start_work (Prescaler r)) chip w s s settled settled h (block_set d chip w s c x i.lt h (λ a. record { count = a.count; kept = a.kept; flag = a.flag; set = a.set })) h.words h.lines h.clean, ((Is_before, i, ap (λ y. y.target) e ∙ ev, ap (λ y. y.prescaler) e), stays)))
  steps chip w s (OneShot r) o t m (h, ((Is_before, i, ev, ep), stays)) = (refl, (moved d (start_work (OneShot r)) chip w s s settled settled h (λ c lt closed. let a = h.block c lt closed in record { count = a.count; kept = a.kept; flag = a.flag; set = rebit (channel_of d c) _ _ (channel_at s c).course (ap (λ x. has_bit x c) i.bits ∙ has_bit-bits_of (is_one_shot d) 8 c lt) a.set }) h.words h.lines h.clean, ((Is_before, i, ev, ep, refl), stays)))
  steps chip w s (Clear r) o t m (h, ((Is_before, i, ev, ep, eb), stays)) =
      let c = r.channel in
      let e = timer_at-acted_on Unflags chip.timers (bit c) c (record { all = h.outside.all.timers; within = i.lt }) (has_one c i.lt) in
      let a = h.block c i.lt refl in
      (refl, (acted_here d Unflags chip w s c none (only c) i.lt h (λ g. let f = eq_self c in absurd (cc)) (λ k ne g. refl), ((Is_before, i, ap (λ y. y.target) e ∙ ev, ap (λ y. y.prescaler) e ∙ ep, eb), λ time le. (stays time le, ap (λ y. is_flagged y time) e ∙ (expired_is (channel_of d c) _ _ (channel_at s c) a chip.timers.time time ∙ quiet (channel_of d c) _ (channel_at s c).course w.now chip.timers.time time a.set (same_time chip w h.outside.now) (stays w.now (omega arith)))))))
    where
      same_time : (chip : Chip) (w : World) → chip.timers.time ≡ w.now → w.now ≤ chip.timers.time
      same_time chip w e = omega (arith, e)
  steps chip w s (Gate r) o t m (h, ((Is_before, i, ev, ep, eb), stays)) =
      let c = r.channel in
      let x = started w.now r.value (channel_at s c) in
      let still = stays w.now (omega arith) in
      let one = ap (λ y. has_bit y c) (eb ∙ i.bits) ∙ has_bit-bits_of (is_one_shot d) 8 c i.lt in
      let opened = gate_opens (channel_of d c) _ chip.timers.time w.now r.value (timer_at chip.timers c) (channel_at s c) h.outside.now one ev (ep ∙ i.prescaler) i.positive i.small (subst (λ n. 0 < n) i.prescaler i.divides) (ap (λ n. is_flagged (timer_at chip.timers c) n) h.outside.now ∙ still.1) in
      let after = acted_with d Opens chip w s c x (only c) none (only (target_word c)) i.lt i.on h (λ g. opened) (λ k ne g. ne_eqb k c ne) (λ g. let f = eq_self (target_word c) in absurd (cc)) (λ g. refl) in
      let first = ap (λ b. error_by d (start_call r) (is_off s.mode) (is_asleep s.mode) b) still.0 ∙ i.checks false in
      (refl, acts_so d w s (start_call r) first refl tt (after, ((Is_after, i.lt, sym (ap (λ y. target_of y.course) (channel_same s c x i.lt))), λ time le. tt)))
  steps chip w s (Keep r) o t m (h, ((Is_after, lt, is), stays)) = (may_words (TargetOf r.channel) lt, (caught_up d chip w s (TargetOf r.channel) r.value lt is h, (refl, refl, refl)))

  pub start_right : AreRight (gpt_ground d) (start_bodies d)
  start_right = all_right d (start_bodies d) start_shortens start_cleans (λ f w w1 s k o t le h. on_later w.now w1.now le h) steps
