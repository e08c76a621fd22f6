-- A channel that was stopped by a call or by sleep.
use Rattle.std.proofs.Common.{◌≡◌, ℕ, ◌+◌, ◌*◌, ◌<◌, Bool, true, false, ◌&&◌, nat_lt, List, Option, Some, None, refl, sym, ◌∙◌, ap, arith, ◌⊎◌, inl, inr}
use Rattle.std.specs.List.{list_all}
use Rattle.std.specs.Prelude.{if◌then◌else◌, is_some}
use Rattle.std.proofs.lemmas.Bool.Decides.{nat_tests}
use Rattle.std.proofs.lemmas.Bool.{and_right, false_from_ne_true}
use Rattle.mcal_base.specs.Expiry.{runs_on}
use Rattle.mcal_base.specs.declared.error_name.ErrorName.{ErrorName}
use Rattle.run_model.specs.World.{World}
use Rattle.run_model.specs.Machine.{number}
use Rattle.module_machines.specs.gpt.Checks.{error_by, takes}
use Rattle.module_machines.specs.gpt.Machine.{GptState, Timing, Course, Never, Running, Stopped, Normal, fresh_state, channel_at, is_off, is_asleep, is_busy, elapsed, target_of, runs, expired, stopped, unmarked, slept, slept_all, ready, runs_at, acts_by, acts, prescaler_of}
use Rattle.module_machines.specs.gpt.Table.{channel_of, one_shot_of}
use Rattle.module_machines.specs.declared.gpt.call.Call.TheVariants.{SetMode}
use Rattle.module_machines.specs.declared.gpt.call.Call.TheVariants as calls
use Rattle.module_machines.specs.declared.gpt.call.ChannelCall.TheVariants.{GetTimeElapsed, GetTimeRemaining, StopTimer}
use Rattle.module_machines.specs.declared.gpt.call.GptMode.TheVariants.{Sleep}
use Rattle.module_machines.specs.declared.gpt.table.Channel.{Channel}
use Rattle.module_machines.specs.declared.gpt.table.GptTable.{GptTable}
use Rattle.module_machines.specs.gpt.laws.Channels.{table_at, within}
use Rattle.machine_laws.specs.timers.Channels.{Occurrence, after_all, leaves_course, leaves_start}
use Rattle.machine_laws.specs.timers.Expiries.{ExpiresBetween}
use Rattle.machine_laws.proofs.ChannelMarks.{seen, seen_all, on_all, still, still_all, no_error, stop_on, elapsed_answer, remaining_answer, configured}
use Rattle.machine_laws.proofs.ChannelSteps.{put_same}
use Rattle.machine_laws.proofs.CountLaws.{runs_until, factor_left, factor_right}
use Rattle.machine_laws.proofs.ExpiryTimes.{by_times}

-- ---- a stop

-- what a stopped channel that ran is about
pub ran : (o : Option Channel) (now : ℕ) (t : Timing) → runs o now t.course ≡ true → (stopped o now t).course ≡ Stopped (elapsed o now t.course) (target_of t.course)
ran o now t e = ap (λ q. (if q then record t { course = Stopped (elapsed o now t.course) (target_of t.course); dropped = now } else t).course) e

record Stops (d : GptTable) (w : World) (s after : GptState) (c : ℕ) : Type 0 where
  channel : Channel
  there : channel_of d c ≡ Some channel
  on : is_off s.mode ≡ false
  after_on : is_off after.mode ≡ false
  course : (channel_at after c).course ≡ Stopped (elapsed (Some channel) w.now (channel_at s c).course) (target_of (channel_at s c).course)

known : (o : Option Channel) → is_some o ≡ true → (k : Channel) × (o ≡ Some k)
known None e = absurd (cc e)
known (Some k) e = (k, refl)

stops_by : (d : GptTable) (w : World) (s : GptState) (c : ℕ) (e : Option ErrorName) → e ≡ error_by d (calls.Channel c StopTimer) (is_off s.mode) (is_asleep s.mode) (is_busy d w s (calls.Channel c StopTimer))
    → (acts_by d w s (calls.Channel c StopTimer) e).told.error ≡ None → runs_at d w s c ≡ true → Stops d w s (acts_by d w s (calls.Channel c StopTimer) e).state c
stops_by d w s c (Some e) is told running = absurd (cc told)
stops_by d w s c None is told running =
    let clean = stop_on (is_off s.mode) (is_some (channel_of d c)) (takes StopTimer (channel_of d c)) (is_asleep s.mode) (runs_at d w s c) (sym is) in
    let k = known (channel_of d c) clean.1 in
    record {
      channel = k.0;
      there = k.1;
      on = clean.0;
      after_on = clean.0;
      course =
          ap (λ (t : Timing). t.course) (put_same s c (stopped (channel_of d c) w.now (channel_at s c)) (within d c clean.1))
          ∙ (ran (channel_of d c) w.now (channel_at s c) running
          ∙ ap (λ (o : Option Channel). Stopped (elapsed o w.now (channel_at s c).course) (target_of (channel_at s c).course)) k.1);
    }

pub stop_value : (d : GptTable) (w later : World) (s : GptState) (c : ℕ) (xs : List Occurrence) → (acts d w s (calls.Channel c StopTimer)).told.error ≡ None → runs_at d w s c ≡ true
    → list_all (λ (x : Occurrence). leaves_course c x.what) xs ≡ true
    → (acts d later (after_all d (acts d w s (calls.Channel c StopTimer)).state xs) (calls.Channel c GetTimeElapsed)).told.answer ≡ (acts d w s (calls.Channel c GetTimeElapsed)).told.answer
stop_value d w later s c xs told running left =
    let h = stops_by d w s c _ refl told running in
    let s' : GptState = (acts d w s (calls.Channel c StopTimer)).state in
    let lt = configured d c h.channel h.there in
    let there = ap (λ (p : Course × ℕ). p.0) (seen_all d s' c xs lt left) ∙ h.course in
    elapsed_answer d later (after_all d s' xs) c h.channel _ (on_all d s' c xs left h.after_on) h.there there
    ∙ sym (elapsed_answer d w s c h.channel (channel_at s c).course h.on h.there refl)

pub stop_rest : (d : GptTable) (w later : World) (s : GptState) (c : ℕ) (xs : List Occurrence) → (acts d w s (calls.Channel c StopTimer)).told.error ≡ None → runs_at d w s c ≡ true
    → list_all (λ (x : Occurrence). leaves_course c x.what) xs ≡ true
    → (acts d later (after_all d (acts d w s (calls.Channel c StopTimer)).state xs) (calls.Channel c GetTimeRemaining)).told.answer ≡ (acts d w s (calls.Channel c GetTimeRemaining)).told.answer
stop_rest d w later s c xs told running left =
    let h = stops_by d w s c _ refl told running in
    let s' : GptState = (acts d w s (calls.Channel c StopTimer)).state in
    let lt = configured d c h.channel h.there in
    let there = ap (λ (p : Course × ℕ). p.0) (seen_all d s' c xs lt left) ∙ h.course in
    remaining_answer d later (after_all d s' xs) c h.channel _ (on_all d s' c xs left h.after_on) h.there there
    ∙ sym (remaining_answer d w s c h.channel (channel_at s c).course h.on h.there refl)

pub stop_mark : (d : GptTable) (w later : World) (s : GptState) (c : ℕ) (xs : List Occurrence) → (acts d w s (calls.Channel c StopTimer)).told.error ≡ None → runs_at d w s c ≡ true
    → list_all (λ (x : Occurrence). leaves_start c x.what) xs ≡ true → ready d later (after_all d (acts d w s (calls.Channel c StopTimer)).state xs) c ≡ false
stop_mark d w later s c xs told running left =
    let h = stops_by d w s c _ refl told running in
    still_all d later (acts d w s (calls.Channel c StopTimer)).state c xs (configured d c h.channel h.there) left (ap still h.course)

-- ---- sleep

sleeps : (d : GptTable) (w : World) (s : GptState) → is_off s.mode ≡ false → (acts d w s (SetMode (Some Sleep))).state ≡ slept_all d w s
sleeps d w s on = ap (λ u. (acts_by d w s (SetMode (Some Sleep)) (error_by d (SetMode (Some Sleep)) u (is_asleep s.mode) (is_busy d w s (SetMode (Some Sleep))))).state) on

asleep_channel : (d : GptTable) (w : World) (s : GptState) (c : ℕ) → c < 8 → is_off s.mode ≡ false → (channel_at s c).switches.wakeup ≡ false
    → channel_at (acts d w s (SetMode (Some Sleep))).state c ≡ unmarked w.now (stopped (channel_of d c) w.now (channel_at s c))
asleep_channel d w s c lt on off =
    ap (λ (x : GptState). channel_at x c) (sleeps d w s on)
    ∙ (table_at (λ i. slept (channel_of d i) w.now (channel_at s i)) c lt
    ∙ ap (λ q. if q then channel_at s c else unmarked w.now (stopped (channel_of d c) w.now (channel_at s c))) off)

-- one that doesn't run expires no more
done_by : (one_shot : Bool) (s v p now later : ℕ) → runs_on one_shot s v p now ≡ false → ExpiresBetween one_shot s v p now later → ⊥
done_by false s v p now later e x = absurd (cc e)
done_by true s v p now later e x =
    let counts = x.expires.counts in
    let once : x.expires.spans * (v * p) ≡ 1 * (v * p) = ap (λ n. n * (v * p)) (x.expires.once refl) in
    let soon : now < s + v * p = omega (arith, once, x.expires.comes, x.later) in
    let on = (runs_until s v p now (factor_left v p counts) (factor_right v p counts)).1 soon in absurd (cc (sym e ∙ on))

rest_expired : (o : Option Channel) (now later : ℕ) (x : Course) → runs o now x ≡ false → expired o now later x ≡ false
rest_expired o now later Never e = refl
rest_expired o now later (Stopped value v) e = refl
rest_expired o now later (Running s v) e =
    false_from_ne_true _ (λ marked. done_by (one_shot_of o) s v (prescaler_of o) now later e ((by_times (one_shot_of o) s v (prescaler_of o) now later).0 marked))

stopped_expired : (o : Option Channel) (now later : ℕ) (t : Timing) (q : Bool) → runs o now t.course ≡ q
    → expired o now later (if q then record t { course = Stopped (elapsed o now t.course) (target_of t.course); dropped = now } else t).course ≡ false
stopped_expired o now later t true e = refl
stopped_expired o now later t false e = rest_expired o now later t.course e

order : (a b : ℕ) → (a < b) ⊎ (nat_lt a b ≡ false)
order a b = by (nat_lt a b) refl where
  by : (q : Bool) → nat_lt a b ≡ q → (a < b) ⊎ (nat_lt a b ≡ false)
  by true e = inl (grind (arith, nat_tests))
  by false e = inr e

pub sleep_mark : (d : GptTable) (w later : World) (s : GptState) (c : ℕ) (xs : List Occurrence) → is_off s.mode ≡ false → (channel_at s c).switches.wakeup ≡ false
    → list_all (λ (x : Occurrence). leaves_course c x.what) xs ≡ true → ready d later (after_all d (acts d w s (SetMode (Some Sleep))).state xs) c ≡ false
sleep_mark d w later s c xs on off left = by_number (order c 8) where
  end : GptState
  end = after_all d (acts d w s (SetMode (Some Sleep))).state xs

  by_number : (c < 8) ⊎ (nat_lt c 8 ≡ false) → ready d later end c ≡ false
  by_number (inr past) = ap (λ q. q && expired (channel_of d c) (channel_at end c).dropped later.now (channel_at end c).course) past
  by_number (inl lt) =
      let is = seen_all d (acts d w s (SetMode (Some Sleep))).state c xs lt left ∙ ap (λ (t : Timing). seen t) (asleep_channel d w s c lt on off) in
      and_right (nat_lt c 8) _
      (ap (λ (p : Course × ℕ). expired (channel_of d c) p.1 later.now p.0) is
      ∙ stopped_expired (channel_of d c) w.now later.now (channel_at s c) (runs (channel_of d c) w.now (channel_at s c).course) refl)

pub sleep_value : (d : GptTable) (w later : World) (s : GptState) (c : ℕ) (k : Channel) (xs : List Occurrence) → is_off s.mode ≡ false → channel_of d c ≡ Some k → (channel_at s c).switches.wakeup ≡ false
    → runs_at d w s c ≡ true → list_all (λ (x : Occurrence). leaves_course c x.what) xs ≡ true
    → (acts d later (after_all d (acts d w s (SetMode (Some Sleep))).state xs) (calls.Channel c GetTimeElapsed)).told.answer ≡ (acts d w s (calls.Channel c GetTimeElapsed)).told.answer
sleep_value d w later s c k xs on there off running left =
    let s' : GptState = (acts d w s (SetMode (Some Sleep))).state in
    let lt = configured d c k there in
    let awake : is_off s'.mode ≡ false = ap (λ (x : GptState). is_off x.mode) (sleeps d w s on) in
    let course =
    ap (λ (p : Course × ℕ). p.0) (seen_all d s' c xs lt left)
    ∙ (ap (λ (t : Timing). t.course) (asleep_channel d w s c lt on off)
    ∙ (ran (channel_of d c) w.now (channel_at s c) running
    ∙ ap (λ (o : Option Channel). Stopped (elapsed o w.now (channel_at s c).course) (target_of (channel_at s c).course)) there)) in
    elapsed_answer d later (after_all d s' xs) c k _ (on_all d s' c xs left awake) there course
    ∙ sym (elapsed_answer d w s c k (channel_at s c).course on there refl)

-- ---- after Gpt_Init

module _ (d : GptTable) (w : World) (s : GptState) (told : (acts d w s calls.Init).told.error ≡ None) where
  init_fresh : (acts d w s calls.Init).state ≡ fresh_state Normal
  init_fresh = ap (λ e. (acts_by d w s calls.Init e).state) (no_error d w s calls.Init _ told)

  pub init_mark : (later : World) (c : ℕ) (xs : List Occurrence) → c < 8 → list_all (λ (x : Occurrence). leaves_start c x.what) xs ≡ true → ready d later (after_all d (acts d w s calls.Init).state xs) c ≡ false
  init_mark later c xs lt left = still_all d later (acts d w s calls.Init).state c xs lt left (ap (λ (x : GptState). still (channel_at x c).course) init_fresh)

  module _ (later : World) (c : ℕ) (k : Channel) (xs : List Occurrence) (there : channel_of d c ≡ Some k) (left : list_all (λ (x : Occurrence). leaves_course c x.what) xs ≡ true) where
    init_on : is_off (after_all d (acts d w s calls.Init).state xs).mode ≡ false
    init_on = on_all d (acts d w s calls.Init).state c xs left (ap (λ (x : GptState). is_off x.mode) init_fresh)

    init_never : (channel_at (after_all d (acts d w s calls.Init).state xs) c).course ≡ Never
    init_never = ap (λ (p : Course × ℕ). p.0) (seen_all d (acts d w s calls.Init).state c xs (configured d c k there) left) ∙ ap (λ (x : GptState). (channel_at x c).course) init_fresh

    pub init_elapsed : (acts d later (after_all d (acts d w s calls.Init).state xs) (calls.Channel c GetTimeElapsed)).told.answer ≡ number 0
    init_elapsed = elapsed_answer d later (after_all d (acts d w s calls.Init).state xs) c k Never init_on there init_never

    pub init_remaining : (acts d later (after_all d (acts d w s calls.Init).state xs) (calls.Channel c GetTimeRemaining)).told.answer ≡ number 0
    init_remaining = remaining_answer d later (after_all d (acts d w s calls.Init).state xs) c k Never init_on there init_never
