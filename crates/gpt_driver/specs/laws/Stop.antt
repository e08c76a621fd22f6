-- Gpt_StopTimer: its steps, what holds at each, and that they are right.
-- From Parts, Base, ChannelTimes, service_outline: Acts, module_machines: gpt.Channels.
-- Used by Mode, service/stop/rt, Lawful.
use Rattle.std.proofs.Common.{◌≡◌, ℕ, ◌<◌, Bool, true, false, Option, Some, None, refl, sym, ◌∙◌, ap, subst, arith}
use Rattle.std.specs.Prelude.{if◌then◌else◌}
use Rattle.mcal_base.specs.facts.Numbers.{eq_self}
use Rattle.gpt_driver.specs.laws.Base.{ne_eqb, Chip, Timers, timer_at, acted, acting, counter, is_flagged, expired_between, flag_clear, Still, Timer, timer_at-acted_on, has_bit, Act, Move, TimerGateClear, TimerFlags, World, Told, no_answer, tells_nothing, Origin, Nothing, BodyTaken, acts_on, ends, never_clean, Shortens, Bodies, AreRight, Before, Is_before, After, Is_after, Lag, settled, none, only, open_at, TimerAgrees, GptRepresents, gpt_ground, GptState, channel_at, Timing, Stopped, elapsed, target_of, runs, runs_at, is_marked, stopped, with_channel, channel_of, one_shot_of, bit, Call, OfChannel, StopTimer, Channel, GptTable, Unflags, Shuts, Write, MayRun, steady, AllGood, all_right, acts_so}
use Rattle.gpt_driver.specs.declared.service.stop.StopBody.{StopBody}
use Rattle.gpt_driver.specs.declared.service.stop.StopBody.TheVariants.{OneShot, Continuous, Flag}
use Rattle.gpt_driver.specs.laws.ChannelTimes.{elapsed_small, unexpired, no_expiries, expired_is}
use Rattle.module_machines.specs.gpt.laws.Channels.{channel_same}
use Rattle.gpt_driver.specs.laws.Parts.{acted_with, acted_here, has_one, runs_here, elapsed_here, marked_here}

abbrev pub stop_work : StopBody → Move
stop_work (OneShot c) = Write TimerGateClear (bit c)
stop_work (Continuous c) = Write TimerGateClear (bit c)
stop_work (Flag c) = Write TimerFlags (bit c)

abbrev pub stop_takes : StopBody → ℕ → StopBody × BodyTaken
stop_takes (OneShot c) x = (OneShot c, ends (Some Act) no_answer Nothing)
stop_takes (Continuous c) x = (Flag c, acts_on)
stop_takes (Flag c) x = (Flag c, ends None no_answer Nothing)

abbrev pub stop_left : StopBody → ℕ
stop_left (OneShot c) = 1
stop_left (Continuous c) = 2
stop_left (Flag c) = 1

stop_shortens : (k : StopBody) (x : ℕ) → Shortens stop_left k (stop_takes k x)
stop_shortens (OneShot c) x = omega arith
stop_shortens _ x = omega arith

abbrev pub stop_gap : StopBody → Lag
stop_gap (OneShot c) = settled
stop_gap (Continuous c) = settled
stop_gap (Flag c) = open_at c

abbrev pub stop_call : ℕ → Call
stop_call c = OfChannel c StopTimer

-- at the last step the channel is as the machine has it once its flag is cleared, whenever that is
abbrev pub stop_holds : GptTable → Timers → GptState → StopBody → Origin Call → Option Told → Type 0
stop_holds d f s (OneShot c) o t = Before (stop_call c) o t × MayRun d s c StopTimer × (one_shot_of (channel_of d c) ≡ true)
stop_holds d f s (Continuous c) o t = Before (stop_call c) o t × MayRun d s c StopTimer × (one_shot_of (channel_of d c) ≡ false)
stop_holds d f s (Flag c) o t = After (stop_call c) tells_nothing o t × (c < 8) × ((time : ℕ) → TimerAgrees (channel_of d c) (has_bit f.one_shot c) (flag_clear time (timer_at f c)) (channel_at s c))

abbrev pub stop_bodies : (d : GptTable) → Bodies (gpt_ground d) StopBody
stop_bodies d = steady d stop_work stop_takes stop_left stop_gap (stop_holds d)

-- ---- what stopping makes of timer and channel, where it runs and where it doesn't

abbrev pub halted : Timer → ℕ → Bool → Timer
halted t time q = if q then record t { count = Still (counter t time); kept = is_flagged t time } else t

abbrev pub ended : Option Channel → Timing → ℕ → Bool → Timing
ended k x now q = if q then record x { course = Stopped (elapsed k now x.course) (target_of x.course); dropped = now } else x

stop_one_shot : (k : Option Channel) (bit : Bool) (t : Timer) (x : Timing) (time now : ℕ) (q : Bool) → TimerAgrees k bit t x → counter t time ≡ elapsed k now x.course → is_flagged t time ≡ is_marked k now x → one_shot_of k ≡ true → runs k now x.course ≡ q → TimerAgrees k bit (halted t time q) (ended k x now q)
stop_one_shot k bit t x time now true h e f os r = record { count = ap (λ n. Still n) e; kept = f ∙ unexpired k bit x.course x.dropped now h.set os r; flag = λ n. refl; set = elapsed_small k bit x.course now h.set }
stop_one_shot k bit t x time now false h e f os r = h

pub stop_cleared : (k : Option Channel) (bit : Bool) (t : Timer) (x : Timing) (time now at dropped : ℕ) (q : Bool) → TimerAgrees k bit t x → counter t time ≡ elapsed k now x.course → (runs k now x.course ≡ false → (n : ℕ) → expired_between t.count at n ≡ expired_between t.count dropped n) → runs k now x.course ≡ q → TimerAgrees k bit (flag_clear at (halted t time q)) (record (ended k x now q) { dropped = dropped })
stop_cleared k bit t x time now at dropped true h e f r = record { count = ap (λ n. Still n) e; kept = refl; flag = λ n. refl; set = elapsed_small k bit x.course now h.set }
stop_cleared k bit t x time now at dropped false h e f r = record { count = h.count; kept = refl; flag = f r; set = h.set }

pub ended_keeps : (k : Option Channel) (x : Timing) (now : ℕ) (q : Bool) → (target_of (ended k x now q).course ≡ target_of x.course) × ((ended k x now q).switches ≡ x.switches)
ended_keeps k x now true = (refl, refl)
ended_keeps k x now false = (refl, refl)

module _ (d : GptTable) where
  -- the gate is closed
  closed : (chip : Chip) (w : World) (s : GptState) (c : ℕ) (open1 : ℕ → Bool) → MayRun d s c StopTimer → GptRepresents d settled chip w s → (open1 c ≡ false → TimerAgrees (channel_of d c) (has_bit chip.timers.one_shot c) (acting Shuts (has_bit chip.timers.one_shot c) chip.timers.time (timer_at chip.timers c)) (stopped (channel_of d c) w.now (channel_at s c))) → GptRepresents d (record settled { block = open1 }) (record chip { timers = acted Shuts chip.timers (bit c) }) w (with_channel s c (stopped (channel_of d c) w.now (channel_at s c)))
  closed chip w s c open1 i h new =
      let k = channel_of d c in
      let x = channel_at s c in
      let q = runs k w.now x.course in
      acted_with d Shuts chip w s c (stopped k w.now x) none open1 none i.lt i.on h new (λ j ne g. refl) (λ g. (ended_keeps k x w.now q).0) (λ g. (ended_keeps k x w.now q).1)

  -- after a continuous channel's gate is closed only its flag may stand too much
  cleared : (chip : Chip) (w : World) (s : GptState) (c time : ℕ) → c < 8 → one_shot_of (channel_of d c) ≡ false → GptRepresents d settled chip w s → TimerAgrees (channel_of d c) (has_bit chip.timers.one_shot c) (flag_clear time (timer_at (acted Shuts chip.timers (bit c)) c)) (channel_at (with_channel s c (stopped (channel_of d c) w.now (channel_at s c))) c)
  cleared chip w s c time lt os h =
      let k = channel_of d c in
      let one = has_bit chip.timers.one_shot c in
      let x = channel_at s c in
      let y = timer_at chip.timers c in
      let q = runs k w.now x.course in
      let shut = timer_at-acted_on Shuts chip.timers (bit c) c (record { all = h.outside.all.timers; within = lt }) (has_one c lt) ∙ ap (λ r. halted y chip.timers.time r) (runs_here d chip w s settled h c lt refl) in
      let none_came = λ (r : runs k w.now x.course ≡ false) (after n : ℕ). expired_is k one y x (h.block c lt refl) after n ∙ no_expiries k x.course w.now after n os r in
      let a = stop_cleared k one y x chip.timers.time w.now time (ended k x w.now q).dropped q (h.block c lt refl) (elapsed_here d chip w s settled h c lt refl) (λ r n. none_came r time n ∙ sym (none_came r (ended k x w.now q).dropped n)) refl in
      subst (λ z. TimerAgrees k one (flag_clear time z) (channel_at (with_channel s c (ended k x w.now q)) c)) (sym shut) (subst (λ z. TimerAgrees k one (flag_clear time (halted y chip.timers.time q)) z) (sym (channel_same s c (ended k x w.now q) lt)) a)

  steps : AllGood d (stop_bodies d)
  steps chip w s (OneShot c) o t m (h, (Is_before, i, os)) =
      let k = channel_of d c in
      let bit = has_bit chip.timers.one_shot c in
      let x = channel_at s c in
      let y = timer_at chip.timers c in
      let q = runs k w.now x.course in
      let a = stop_one_shot k bit y x chip.timers.time w.now q (h.block c i.lt refl) (elapsed_here d chip w s settled h c i.lt refl) (marked_here d chip w s settled h c i.lt refl) os refl in
      let next = closed chip w s c none i h (λ g. subst (λ r. TimerAgrees k bit (halted y chip.timers.time r) (stopped k w.now x)) (sym (runs_here d chip w s settled h c i.lt refl)) a) in
      (refl, acts_so d w s (stop_call c) (i.pass (runs_at d w s c)) refl tt (next, (refl, refl, refl)))
  steps chip w s (Continuous c) o t m (h, (Is_before, i, os)) = (refl, acts_so d w s (stop_call c) (i.pass (runs_at d w s c)) refl tt (closed chip w s c (only c) i h (λ g. let e = eq_self c in absurd (cc)), (Is_after, i.lt, λ time. cleared chip w s c time i.lt os h)))
  steps chip w s (Flag c) o t m (h, (Is_after, lt, a)) = (refl, (acted_here d Unflags chip w s c (only c) none lt h (λ g. a chip.timers.time) (λ k ne g. ne_eqb k c ne), (refl, refl, refl)))

  pub stop_right : AreRight (gpt_ground d) (stop_bodies d)
  stop_right = all_right d (stop_bodies d) stop_shortens (λ k x. never_clean (stop_work k) k (stop_takes k x)) (λ f w w1 s k o t le h. h) steps
