-- A channel's mark and its answers in a history that leaves it alone.
use Rattle.std.proofs.Common.{◌≡◌, ℕ, ◌<◌, Bool, true, false, not, ◌&&◌, nat_lt, List, [], ◌∷◌, Option, Some, None, refl, sym, ◌∙◌, ap, subst, arith}
use Rattle.std.specs.List.{list_all}
use Rattle.std.specs.Prelude.{◌↔◌, if◌then◌else◌, is_some}
use Rattle.std.proofs.lemmas.Bool.Decides.{nat_tests}
use Rattle.std.proofs.lemmas.Bool.{and_right}
use Rattle.mcal_base.specs.declared.error_name.ErrorName.{ErrorName}
use Rattle.mcal_base.specs.declared.service.Service.TheVariants as services
use Rattle.mcal_base.specs.det_errors.Rows.{first_error}
use Rattle.run_model.specs.Machine.{Happening, Acts, Serves, Outcome, number}
use Rattle.run_model.specs.World.{World}
use Rattle.module_machines.specs.gpt.Checks.{error_by, takes}
use Rattle.module_machines.specs.gpt.Machine.{GptState, Timing, Course, Never, Running, Stopped, channel_at, is_off, is_asleep, is_busy, elapsed, remaining, target_of, runs, expired, is_marked, started, stopped, unmarked, served_channel, served_by, served, wakes, notifies, ready, runs_at, acts_by, acts}
use Rattle.module_machines.specs.gpt.Table.{channel_of}
use Rattle.module_machines.specs.declared.gpt.call.Call.{Call}
use Rattle.module_machines.specs.declared.gpt.call.Call.TheVariants.{SetMode}
use Rattle.module_machines.specs.declared.gpt.call.Call.TheVariants as calls
use Rattle.module_machines.specs.declared.gpt.call.ChannelCall.TheVariants.{GetTimeElapsed, GetTimeRemaining, StartTimer, StopTimer}
use Rattle.module_machines.specs.declared.gpt.call.GptMode.TheVariants.{Sleep}
use Rattle.module_machines.specs.declared.gpt.table.Channel.{Channel}
use Rattle.module_machines.specs.declared.gpt.table.GptTable.{GptTable}
use Rattle.module_machines.specs.gpt.laws.Channels.{within}
use Rattle.machine_laws.specs.timers.Channels.{Occurrence, after_all, leaves_module, leaves_course, leaves_start}
use Rattle.machine_laws.specs.timers.Expiries.{ExpiresBetween}
use Rattle.machine_laws.proofs.ChannelSteps.{Makes, begins, starts, stops, sleeps, switched, serves, put_same, step, step_on, all_steps, not_itself}
use Rattle.machine_laws.proofs.ExpiryTimes.{by_times}

-- ---- what a channel is about, and when its mark was dropped

abbrev pub seen : Timing → Course × ℕ
seen t = (t.course, t.dropped)

pub configured : (d : GptTable) (c : ℕ) (k : Channel) → channel_of d c ≡ Some k → c < 8
configured d c k there = within d c (ap (λ (o : Option Channel). is_some o) there)

seen_made : (d : GptTable) (w : World) (t : Timing) (c : ℕ) (h : Happening Call) (y : Timing) → leaves_course c h ≡ true → leaves_module h ≡ true → Makes d w t c h y → seen y ≡ seen t
seen_made d w t c h y left all (begins e) = absurd (cc (sym e ∙ all))
seen_made d w t c h y left all (starts v times) = absurd (not_itself c left)
seen_made d w t c h y left all (stops times) = absurd (not_itself c left)
seen_made d w t c h y left all (sleeps times) = absurd (cc left)
seen_made d w t c h y left all (switched by times) = refl
seen_made d w t c h y left all (serves wakes received) = absurd (not_itself c left)

module_left : (c : ℕ) (h : Happening Call) → leaves_course c h ≡ true → leaves_module h ≡ true
module_left c (Acts (calls.Channel n (StartTimer v)) times) left = refl
module_left c (Acts (calls.Channel n StopTimer) times) left = refl
module_left c (Acts (SetMode (Some Sleep)) times) left = refl
module_left c (Serves line received) left = refl
module_left c h left = left

pub seen_all : (d : GptTable) (s : GptState) (c : ℕ) (xs : List Occurrence) → c < 8 → list_all (λ (x : Occurrence). leaves_course c x.what) xs ≡ true
    → seen (channel_at (after_all d s xs) c) ≡ seen (channel_at s c)
seen_all d s c xs lt left =
    let from : Course × ℕ = seen (channel_at s c) in
    all_steps d (λ after. seen (channel_at after c) ≡ from) (leaves_course c)
    (λ w after h one e. step (λ t. seen t ≡ from) d w after c lt e h (λ y m. seen_made d w (channel_at after c) c h y one (module_left c h one) m ∙ e))
    s xs left refl

pub on_all : (d : GptTable) (s : GptState) (c : ℕ) (xs : List Occurrence) → list_all (λ (x : Occurrence). leaves_course c x.what) xs ≡ true → is_off s.mode ≡ false → is_off (after_all d s xs).mode ≡ false
on_all d s c xs left on =
    all_steps d (λ after. is_off after.mode ≡ false) (leaves_course c) (λ w after h one e. step_on d w after h (module_left c h one) e) s xs left on

-- ---- marks

below_eight : (c : ℕ) → c < 8 → nat_lt c 8 ≡ true
below_eight c lt = grind (arith, nat_tests)

pub ready_is : (d : GptTable) (w : World) (s : GptState) (c : ℕ) (k : Channel) (x : Course) (dropped : ℕ) → channel_of d c ≡ Some k → seen (channel_at s c) ≡ (x, dropped)
    → ready d w s c ≡ expired (Some k) dropped w.now x
ready_is d w s c k x dropped there is =
    ap (λ q. q && is_marked (channel_of d c) w.now (channel_at s c)) (below_eight c (configured d c k there))
    ∙ ap (λ (o : Option Channel). is_marked o w.now (channel_at s c)) there
    ∙ ap (λ (p : Course × ℕ). expired (Some k) p.1 w.now p.0) is

pub mark_is : (d : GptTable) (w : World) (s : GptState) (c start target dropped : ℕ) (k : Channel) → channel_of d c ≡ Some k → seen (channel_at s c) ≡ (Running start target, dropped)
    → (ready d w s c ≡ true) ↔ ExpiresBetween k.one_shot start target k.prescaler dropped w.now
mark_is d w s c start target dropped k there is =
    let at = ready_is d w s c k (Running start target) dropped there is in
    let times = by_times k.one_shot start target k.prescaler dropped w.now in
    (λ e. times.0 (sym at ∙ e), λ e. at ∙ times.1 e)

pub runs_is : (d : GptTable) (w : World) (s : GptState) (c : ℕ) (k : Channel) (x : Course) → channel_of d c ≡ Some k → (channel_at s c).course ≡ x → runs_at d w s c ≡ runs (Some k) w.now x
runs_is d w s c k x there is = ap (λ (o : Option Channel). runs o w.now (channel_at s c).course) there ∙ ap (λ y. runs (Some k) w.now y) is

-- ---- calls without an error

pub no_error : (d : GptTable) (w : World) (s : GptState) (call : Call) (e : Option ErrorName) → (acts_by d w s call e).told.error ≡ None → e ≡ None
no_error d w s call None told = refl
no_error d w s call (Some e) told = absurd (cc told)

pub start_on : (u p v a b : Bool) → first_error services.GptStartTimer (u ∷ not p ∷ not v ∷ a ∷ b ∷ false ∷ []) ≡ None → u ≡ false
start_on true p v a b e = absurd (cc e)
start_on false p v a b e = refl

pub stop_on : (u p v a b : Bool) → first_error services.GptStopTimer (u ∷ not p ∷ not v ∷ a ∷ b ∷ false ∷ []) ≡ None → (u ≡ false) × (p ≡ true)
stop_on true p v a b e = absurd (cc e)
stop_on false true v a b e = (refl, refl)
stop_on false false v a b e = absurd (cc e)

-- ---- answers

unhindered : (d : GptTable) (s : GptState) (c : ℕ) (k : Channel) (busy : Bool) → is_off s.mode ≡ false → channel_of d c ≡ Some k
    → first_error services.GptGetTimeElapsed (is_off s.mode ∷ not (is_some (channel_of d c)) ∷ not true ∷ is_asleep s.mode ∷ busy ∷ false ∷ []) ≡ None
unhindered d s c k busy on there =
    ap (λ u. first_error services.GptGetTimeElapsed (u ∷ not (is_some (channel_of d c)) ∷ not true ∷ is_asleep s.mode ∷ busy ∷ false ∷ [])) on
    ∙ ap (λ (o : Option Channel). first_error services.GptGetTimeElapsed (false ∷ not (is_some o) ∷ not true ∷ is_asleep s.mode ∷ busy ∷ false ∷ [])) there

pub elapsed_answer : (d : GptTable) (w : World) (s : GptState) (c : ℕ) (k : Channel) (x : Course) → is_off s.mode ≡ false → channel_of d c ≡ Some k → (channel_at s c).course ≡ x
    → (acts d w s (calls.Channel c GetTimeElapsed)).told.answer ≡ number (elapsed (Some k) w.now x)
elapsed_answer d w s c k x on there is =
    ap (λ e. (acts_by d w s (calls.Channel c GetTimeElapsed) e).told.answer) (unhindered d s c k (runs_at d w s c) on there)
    ∙ ap (λ (o : Option Channel). number (elapsed o w.now (channel_at s c).course)) there
    ∙ ap (λ y. number (elapsed (Some k) w.now y)) is

pub remaining_answer : (d : GptTable) (w : World) (s : GptState) (c : ℕ) (k : Channel) (x : Course) → is_off s.mode ≡ false → channel_of d c ≡ Some k → (channel_at s c).course ≡ x
    → (acts d w s (calls.Channel c GetTimeRemaining)).told.answer ≡ number (remaining (Some k) w.now x)
remaining_answer d w s c k x on there is =
    ap (λ e. (acts_by d w s (calls.Channel c GetTimeRemaining) e).told.answer) (unhindered d s c k (runs_at d w s c) on there)
    ∙ ap (λ (o : Option Channel). number (remaining o w.now (channel_at s c).course)) there
    ∙ ap (λ y. number (remaining (Some k) w.now y)) is

-- ---- after a start

record StartedAt (d : GptTable) (s : GptState) (c time target : ℕ) : Type 0 where
  seen : seen (channel_at s c) ≡ (Running time target, time)
  on : is_off s.mode ≡ false

start_by : (d : GptTable) (w : World) (s : GptState) (c target : ℕ) (k : Channel) (e : Option ErrorName) → e ≡ error_by d (calls.Channel c (StartTimer target)) (is_off s.mode) (is_asleep s.mode) (is_busy d w s (calls.Channel c (StartTimer target)))
    → (acts_by d w s (calls.Channel c (StartTimer target)) e).told.error ≡ None → channel_of d c ≡ Some k → StartedAt d (acts_by d w s (calls.Channel c (StartTimer target)) e).state c w.now target
start_by d w s c target k (Some e) is told there = absurd (cc told)
start_by d w s c target k None is told there = record {
  seen = ap (λ (t : Timing). seen t) (put_same s c (started w.now target (channel_at s c)) (configured d c k there));
  on = start_on (is_off s.mode) (is_some (channel_of d c)) (takes (StartTimer target) (channel_of d c)) (is_asleep s.mode) (runs_at d w s c) (sym is);
}

pub after_start : (d : GptTable) (w : World) (s : GptState) (c target : ℕ) (k : Channel) (xs : List Occurrence)
    → (acts d w s (calls.Channel c (StartTimer target))).told.error ≡ None → channel_of d c ≡ Some k → list_all (λ (x : Occurrence). leaves_course c x.what) xs ≡ true
    → (seen (channel_at (after_all d (acts d w s (calls.Channel c (StartTimer target))).state xs) c) ≡ (Running w.now target, w.now))
    × (is_off (after_all d (acts d w s (calls.Channel c (StartTimer target))).state xs).mode ≡ false)
after_start d w s c target k xs told there left =
    let first = start_by d w s c target k _ refl told there in
    let s' : GptState = (acts d w s (calls.Channel c (StartTimer target))).state in
    (seen_all d s' c xs (configured d c k there) left ∙ first.seen, on_all d s' c xs left first.on)

-- ---- after a serving

served_seen : (w : World) (s : GptState) (c : ℕ) (a b : Bool) → c < 8 → seen (channel_at (served_by w s c a b).state c) ≡ ((channel_at s c).course, w.now)
served_seen w s c true b lt = ap (λ (t : Timing). seen t) (put_same s c (served_channel true w.now (channel_at s c)) lt)
served_seen w s c false b lt = ap (λ (t : Timing). seen t) (put_same s c (served_channel false w.now (channel_at s c)) lt)

pub serving_seen : (w : World) (s : GptState) (c : ℕ) (out : Outcome GptState) (q : Bool) → (if q then Some (served w s c) else None) ≡ Some out → c < 8 → seen (channel_at out.state c) ≡ ((channel_at s c).course, w.now)
serving_seen w s c out false e lt = absurd (cc e)
serving_seen w s c out true e lt =
    let at : served w s c ≡ out = cc in
    subst (λ (o : Outcome GptState). seen (channel_at o.state c) ≡ ((channel_at s c).course, w.now)) at
    (served_seen w s c (wakes s.mode (channel_at s c).switches) (notifies s.mode (channel_at s c).switches) lt)

-- ---- a channel that was stopped, or never started

abbrev pub still : Course → Bool
still Never = true
still (Running start target) = false
still (Stopped value target) = true

still_by : (o : Option Channel) (now : ℕ) (t : Timing) (q : Bool) → still t.course ≡ true → still (if q then record t { course = Stopped (elapsed o now t.course) (target_of t.course); dropped = now } else t).course ≡ true
still_by o now t true e = refl
still_by o now t false e = e

still_stopped : (o : Option Channel) (now : ℕ) (t : Timing) → still t.course ≡ true → still (stopped o now t).course ≡ true
still_stopped o now t e = still_by o now t (runs o now t.course) e

still_slept : (o : Option Channel) (now : ℕ) (t : Timing) (q : Bool) → still t.course ≡ true → still (if q then t else unmarked now (stopped o now t)).course ≡ true
still_slept o now t true e = e
still_slept o now t false e = still_stopped o now t e

still_served : (now : ℕ) (t : Timing) (q : Bool) → still t.course ≡ true → still (served_channel q now t).course ≡ true
still_served now t true e = e
still_served now t false e = e

still_made : (d : GptTable) (w : World) (t : Timing) (c : ℕ) (h : Happening Call) (y : Timing) → leaves_start c h ≡ true → still t.course ≡ true → Makes d w t c h y → still y.course ≡ true
still_made d w t c h y left e (begins gone) = refl
still_made d w t c h y left e (starts v times) = absurd (not_itself c left)
still_made d w t c h y left e (stops times) = still_stopped (channel_of d c) w.now t e
still_made d w t c h y left e (sleeps times) = still_slept (channel_of d c) w.now t t.switches.wakeup e
still_made d w t c h y left e (switched by times) = e
still_made d w t c h y left e (serves wakes received) = still_served w.now t wakes e

still_unmarked : (o : Option Channel) (after now : ℕ) (x : Course) → still x ≡ true → expired o after now x ≡ false
still_unmarked o after now Never e = refl
still_unmarked o after now (Running s v) e = absurd (cc e)
still_unmarked o after now (Stopped value v) e = refl

pub still_all : (d : GptTable) (later : World) (s : GptState) (c : ℕ) (xs : List Occurrence) → c < 8 → list_all (λ (x : Occurrence). leaves_start c x.what) xs ≡ true → still (channel_at s c).course ≡ true
    → ready d later (after_all d s xs) c ≡ false
still_all d later s c xs lt left e =
    let end : GptState = after_all d s xs in
    let rests : still (channel_at end c).course ≡ true =
    all_steps d (λ after. still (channel_at after c).course ≡ true) (leaves_start c)
    (λ w after h one f. step (λ t. still t.course ≡ true) d w after c lt f h (λ y m. still_made d w (channel_at after c) c h y one f m)) s xs left e in
    and_right (nat_lt c 8) _ (still_unmarked (channel_of d c) (channel_at end c).dropped later.now (channel_at end c).course rests)
