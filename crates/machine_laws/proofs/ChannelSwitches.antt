-- A channel's notification and its wakeup mark.
use Rattle.std.proofs.Common.{◌≡◌, ℕ, ◌<◌, Bool, true, false, not, ◌&&◌, List, [], ◌∷◌, Option, Some, None, refl, sym, ◌∙◌, ap, subst}
use Rattle.std.specs.List.{list_all}
use Rattle.std.specs.Prelude.{if◌then◌else◌}
use Rattle.mcal_base.specs.declared.error_name.ErrorName.{ErrorName}
use Rattle.mcal_base.specs.declared.notice.NoticeKind.TheVariants.{GptNotification, EcuMSetWakeupEvent}
use Rattle.mcal_base.specs.declared.service.Service.TheVariants as services
use Rattle.mcal_base.specs.det_errors.Rows.{first_error}
use Rattle.run_model.specs.Machine.{Happening, Acts, Outcome}
use Rattle.run_model.specs.World.{World}
use Rattle.module_machines.specs.gpt.Checks.{error_by, has_notification}
use Rattle.module_machines.specs.gpt.Machine.{GptState, Timing, Mode, Off, Normal, Sleep, channel_at, is_off, is_asleep, elapsed, target_of, runs, stopped, unmarked, slept, changed, wakes, notifies, served_channel, served_by, served, ready, runs_at, notes, switches, acts_by, acts, Stopped}
use Rattle.module_machines.specs.gpt.Table.{channel_of}
use Rattle.module_machines.specs.declared.gpt.call.Call.{Call}
use Rattle.module_machines.specs.declared.gpt.call.Call.TheVariants as calls
use Rattle.module_machines.specs.declared.gpt.call.ChannelCall.TheVariants as asks
use Rattle.module_machines.specs.declared.gpt.call.Change.TheVariants.{Notification, Wakeup, Check}
use Rattle.module_machines.specs.declared.gpt.table.Channel.{Channel}
use Rattle.module_machines.specs.declared.gpt.table.GptTable.{GptTable}
use Rattle.module_machines.specs.declared.gpt.switches.Switches.{Switches}
use Rattle.machine_laws.specs.timers.Channels.{Occurrence, after_all, leaves_module, leaves_notification, leaves_serving, leaves_wakeup, one_notice}
use Rattle.machine_laws.proofs.ChannelMarks.{configured}
use Rattle.machine_laws.proofs.ChannelSteps.{Makes, begins, starts, stops, sleeps, switched, serves, put_same, step, step_on, all_steps, not_itself}

-- ---- what a stop and sleep leave of the switches

stop_keeps : (o : Option Channel) (now : ℕ) (t : Timing) (q : Bool) → (if q then record t { course = Stopped (elapsed o now t.course) (target_of t.course); dropped = now } else t).switches ≡ t.switches
stop_keeps o now t true = refl
stop_keeps o now t false = refl

stopped_keeps : (o : Option Channel) (now : ℕ) (t : Timing) → (stopped o now t).switches ≡ t.switches
stopped_keeps o now t = stop_keeps o now t (runs o now t.course)

sleep_keeps : (o : Option Channel) (now : ℕ) (t : Timing) (q : Bool) → (if q then t else unmarked now (stopped o now t)).switches ≡ t.switches
sleep_keeps o now t true = refl
sleep_keeps o now t false = stopped_keeps o now t

slept_keeps : (o : Option Channel) (now : ℕ) (t : Timing) → (slept o now t).switches ≡ t.switches
slept_keeps o now t = sleep_keeps o now t t.switches.wakeup

-- ---- the notification

notified_made : (d : GptTable) (w : World) (t : Timing) (c : ℕ) (h : Happening Call) (y : Timing) (on : Bool) → leaves_notification c h ≡ true → leaves_module h ≡ true → t.switches.notification ≡ on → Makes d w t c h y
    → y.switches.notification ≡ on
notified_made d w t c h y on left all e (begins gone) = absurd (cc (sym gone ∙ all))
notified_made d w t c h y on left all e (starts v times) = e
notified_made d w t c h y on left all e (stops times) = ap (λ (x : Switches). x.notification) (stopped_keeps (channel_of d c) w.now t) ∙ e
notified_made d w t c h y on left all e (sleeps times) = ap (λ (x : Switches). x.notification) (slept_keeps (channel_of d c) w.now t) ∙ e
notified_made d w t c h y on left all e (switched (Notification b) times) = absurd (not_itself c left)
notified_made d w t c h y on left all e (switched (Wakeup b) times) = e
notified_made d w t c h y on left all e (switched Check times) = e
notified_made d w t c h y on left all e (serves true received) = e
notified_made d w t c h y on left all e (serves false received) = e

module_left : (c : ℕ) (h : Happening Call) → leaves_notification c h ≡ true → leaves_module h ≡ true
module_left c (Acts (calls.Channel n (asks.Change (Notification on))) times) left = refl
module_left c h left = left

notified_all : (d : GptTable) (s : GptState) (c : ℕ) (on : Bool) (xs : List Occurrence) → c < 8 → list_all (λ (x : Occurrence). leaves_notification c x.what) xs ≡ true
    → (channel_at s c).switches.notification ≡ on → (channel_at (after_all d s xs) c).switches.notification ≡ on
notified_all d s c on xs lt left e =
    all_steps d (λ after. (channel_at after c).switches.notification ≡ on) (leaves_notification c)
    (λ w after h one f. step (λ t. t.switches.notification ≡ on) d w after c lt f h (λ y m. notified_made d w (channel_at after c) c h y on one (module_left c h one) f m)) s xs left e

-- ---- a call that switches it

switch_there : (u p a b : Bool) (on : Bool) → first_error (if on then services.GptEnableNotification else services.GptDisableNotification) (u ∷ not p ∷ not true ∷ a ∷ b ∷ false ∷ []) ≡ None → p ≡ true
switch_there true p a b true e = absurd (cc e)
switch_there true p a b false e = absurd (cc e)
switch_there false true a b on e = refl
switch_there false false a b true e = absurd (cc e)
switch_there false false a b false e = absurd (cc e)

allowed : (d : GptTable) (s : GptState) (c : ℕ) (on busy : Bool) → error_by d (calls.Channel c (asks.Change (Notification on))) (is_off s.mode) (is_asleep s.mode) busy ≡ None → has_notification (channel_of d c) ≡ true
allowed d s c true busy e = switch_there (is_off s.mode) (has_notification (channel_of d c)) (is_asleep s.mode) busy true e
allowed d s c false busy e = switch_there (is_off s.mode) (has_notification (channel_of d c)) (is_asleep s.mode) busy false e

known : (o : Option Channel) → has_notification o ≡ true → (k : Channel) × (o ≡ Some k)
known None e = absurd (cc e)
known (Some k) e = (k, refl)

record SwitchedTo (d : GptTable) (s : GptState) (c : ℕ) (on : Bool) : Type 0 where
  within : c < 8
  is : (channel_at s c).switches.notification ≡ on

switched_by : (d : GptTable) (w : World) (s : GptState) (c : ℕ) (on : Bool) (e : Option ErrorName) → e ≡ error_by d (calls.Channel c (asks.Change (Notification on))) (is_off s.mode) (is_asleep s.mode) (runs_at d w s c)
    → (acts_by d w s (calls.Channel c (asks.Change (Notification on))) e).told.error ≡ None → SwitchedTo d (acts_by d w s (calls.Channel c (asks.Change (Notification on))) e).state c on
switched_by d w s c on (Some e) is told = absurd (cc told)
switched_by d w s c on None is told =
    let k = known (channel_of d c) (allowed d s c on (runs_at d w s c) (sym is)) in
    let lt = configured d c k.0 k.1 in
    record {
      within = lt;
      is =
          ap (λ (o : Option Channel). (channel_at (switches o s c (Notification on)).state c).switches.notification) k.1
          ∙ ap (λ (t : Timing). t.switches.notification) (put_same s c (record (channel_at s c) { switches = changed (Notification on) (channel_at s c).switches }) lt);
    }

-- ---- a serving in normal mode

notices_by : (w : World) (s : GptState) (c : ℕ) (on : Bool) (asleep : Bool) → is_asleep s.mode ≡ asleep → asleep ≡ false → (channel_at s c).switches.notification ≡ on
    → (served_by w s c (asleep && (channel_at s c).switches.wakeup) (not asleep && (channel_at s c).switches.notification)).told.notices ≡ (if on then one_notice GptNotification c else [])
notices_by w s c on true is e f = absurd (cc e)
notices_by w s c on false is e f = ap (λ q. (notes q GptNotification c).notices) f

served_notices : (w : World) (s : GptState) (c : ℕ) (on : Bool) → is_asleep s.mode ≡ false → (channel_at s c).switches.notification ≡ on
    → (served w s c).told.notices ≡ (if on then one_notice GptNotification c else [])
served_notices w s c on awake f = notices_by w s c on (is_asleep s.mode) refl awake f

serving_notices : (w : World) (s : GptState) (c : ℕ) (on : Bool) (out : Outcome GptState) (q : Bool) → (if q then Some (served w s c) else None) ≡ Some out → is_asleep s.mode ≡ false → (channel_at s c).switches.notification ≡ on
    → out.told.notices ≡ (if on then one_notice GptNotification c else [])
serving_notices w s c on out false made awake f = absurd (cc made)
serving_notices w s c on out true made awake f =
    let at : served w s c ≡ out = cc in subst (λ (o : Outcome GptState). o.told.notices ≡ (if on then one_notice GptNotification c else [])) at (served_notices w s c on awake f)

pub normal_notices : (d : GptTable) (w later : World) (s : GptState) (c : ℕ) (on : Bool) (out : Outcome GptState) (xs : List Occurrence)
    → (acts d w s (calls.Channel c (asks.Change (Notification on)))).told.error ≡ None → list_all (λ (x : Occurrence). leaves_notification c x.what) xs ≡ true
    → is_asleep (after_all d (acts d w s (calls.Channel c (asks.Change (Notification on)))).state xs).mode ≡ false
    → (if ready d later (after_all d (acts d w s (calls.Channel c (asks.Change (Notification on)))).state xs) c then Some (served later (after_all d (acts d w s (calls.Channel c (asks.Change (Notification on)))).state xs) c) else None) ≡ Some out
    → out.told.notices ≡ (if on then one_notice GptNotification c else [])
normal_notices d w later s c on out xs told left awake made =
    let first = switched_by d w s c on _ refl told in
    let s' : GptState = (acts d w s (calls.Channel c (asks.Change (Notification on)))).state in
    serving_notices later (after_all d s' xs) c on out (ready d later (after_all d s' xs) c) made awake (notified_all d s' c on xs first.within left first.is)

-- ---- the wakeup mark

told_made : (d : GptTable) (w : World) (t : Timing) (c : ℕ) (h : Happening Call) (y : Timing) → leaves_serving c h ≡ true → t.switches.woken ≡ false → Makes d w t c h y → y.switches.woken ≡ false
told_made d w t c h y left e (begins gone) = refl
told_made d w t c h y left e (starts v times) = e
told_made d w t c h y left e (stops times) = ap (λ (x : Switches). x.woken) (stopped_keeps (channel_of d c) w.now t) ∙ e
told_made d w t c h y left e (sleeps times) = ap (λ (x : Switches). x.woken) (slept_keeps (channel_of d c) w.now t) ∙ e
told_made d w t c h y left e (switched (Notification b) times) = e
told_made d w t c h y left e (switched (Wakeup b) times) = e
told_made d w t c h y left e (switched Check times) = refl
told_made d w t c h y left e (serves wakes received) = absurd (not_itself c left)

woken_made : (d : GptTable) (w : World) (t : Timing) (c : ℕ) (h : Happening Call) (y : Timing) → leaves_wakeup c h ≡ true → leaves_module h ≡ true → t.switches.woken ≡ true → Makes d w t c h y → y.switches.woken ≡ true
woken_made d w t c h y left all e (begins gone) = absurd (cc (sym gone ∙ all))
woken_made d w t c h y left all e (starts v times) = e
woken_made d w t c h y left all e (stops times) = ap (λ (x : Switches). x.woken) (stopped_keeps (channel_of d c) w.now t) ∙ e
woken_made d w t c h y left all e (sleeps times) = ap (λ (x : Switches). x.woken) (slept_keeps (channel_of d c) w.now t) ∙ e
woken_made d w t c h y left all e (switched (Notification b) times) = e
woken_made d w t c h y left all e (switched (Wakeup b) times) = e
woken_made d w t c h y left all e (switched Check times) = absurd (not_itself c left)
woken_made d w t c h y left all e (serves true received) = refl
woken_made d w t c h y left all e (serves false received) = e

-- a check tells of a mark that stands, and of no other
check_none : (d : GptTable) (w : World) (s : GptState) (c : ℕ) (o : Option Channel) → (channel_at s c).switches.woken ≡ false → (switches o s c Check).told.notices ≡ []
check_none d w s c None e = refl
check_none d w s c (Some k) e = ap (λ q. (notes q EcuMSetWakeupEvent c).notices) e

checks_none : (d : GptTable) (w : World) (s : GptState) (c : ℕ) (e : Option ErrorName) → ((k : Channel) → channel_of d c ≡ Some k → (channel_at s c).switches.woken ≡ false)
    → (acts_by d w s (calls.Channel c (asks.Change Check)) e).told.notices ≡ []
checks_none d w s c (Some e) off = refl
checks_none d w s c None off = by_channel (channel_of d c) refl where
  by_channel : (o : Option Channel) → channel_of d c ≡ o → (switches o s c Check).told.notices ≡ []
  by_channel None there = refl
  by_channel (Some k) there = ap (λ q. (notes q EcuMSetWakeupEvent c).notices) (off k there)

checked_by : (d : GptTable) (w : World) (s : GptState) (c : ℕ) (k : Channel) (e : Option ErrorName) → (acts_by d w s (calls.Channel c (asks.Change Check)) e).told.error ≡ None → channel_of d c ≡ Some k
    → (channel_at (acts_by d w s (calls.Channel c (asks.Change Check)) e).state c).switches.woken ≡ false
checked_by d w s c k (Some e) told there = absurd (cc told)
checked_by d w s c k None told there =
    ap (λ (o : Option Channel). (channel_at (switches o s c Check).state c).switches.woken) there
    ∙ ap (λ (t : Timing). t.switches.woken) (put_same s c (record (channel_at s c) { switches = changed Check (channel_at s c).switches }) (configured d c k there))

pub told_once : (d : GptTable) (w later : World) (s : GptState) (c : ℕ) (xs : List Occurrence) → (acts d w s (calls.Channel c (asks.Change Check))).told.error ≡ None
    → list_all (λ (x : Occurrence). leaves_serving c x.what) xs ≡ true
    → (acts d later (after_all d (acts d w s (calls.Channel c (asks.Change Check))).state xs) (calls.Channel c (asks.Change Check))).told.notices ≡ []
told_once d w later s c xs told left =
    let s' : GptState = (acts d w s (calls.Channel c (asks.Change Check))).state in
    checks_none d later (after_all d s' xs) c _
    (λ k there. all_steps d (λ after. (channel_at after c).switches.woken ≡ false) (leaves_serving c)
    (λ v after h one f. step (λ t. t.switches.woken ≡ false) d v after c (configured d c k there) f h (λ y m. told_made d v (channel_at after c) c h y one f m))
    s' xs left (checked_by d w s c k _ told there))

-- ---- a wakeup is told

wakeup_left : (c : ℕ) (h : Happening Call) → leaves_wakeup c h ≡ true → leaves_module h ≡ true
wakeup_left c (Acts (calls.Channel n (asks.Change Check)) times) left = refl
wakeup_left c h left = left

asleep_on : (m : Mode) → is_asleep m ≡ true → is_off m ≡ false
asleep_on Off e = absurd (cc e)
asleep_on Normal e = refl
asleep_on Sleep e = refl

abbrev IsWoken : GptState → ℕ → Type 0
IsWoken s c = ((channel_at s c).switches.woken ≡ true) × (is_off s.mode ≡ false)

wakes_by : (w : World) (s : GptState) (c : ℕ) (q : Bool) → q ≡ true → c < 8 → is_off s.mode ≡ false → IsWoken (served_by w s c q (notifies s.mode (channel_at s c).switches)).state c
wakes_by w s c false e lt on = absurd (cc e)
wakes_by w s c true e lt on = (ap (λ (t : Timing). t.switches.woken) (put_same s c (served_channel true w.now (channel_at s c)) lt), on)

woken_by : (w : World) (s : GptState) (c : ℕ) (out : Outcome GptState) (q : Bool) → (if q then Some (served w s c) else None) ≡ Some out → is_asleep s.mode ≡ true → (channel_at s c).switches.wakeup ≡ true → c < 8 → IsWoken out.state c
woken_by w s c out false made asleep wakeup lt = absurd (cc made)
woken_by w s c out true made asleep wakeup lt =
    let at : served w s c ≡ out = cc in
    let wake : wakes s.mode (channel_at s c).switches ≡ true = ap (λ q. q && (channel_at s c).switches.wakeup) asleep ∙ wakeup in
    subst (λ (o : Outcome GptState). IsWoken o.state c) at (wakes_by w s c _ wake lt (asleep_on s.mode asleep))

pub told_next : (d : GptTable) (w later : World) (s : GptState) (c : ℕ) (k : Channel) (out : Outcome GptState) (xs : List Occurrence) → is_asleep s.mode ≡ true → (channel_at s c).switches.wakeup ≡ true → channel_of d c ≡ Some k
    → (if ready d w s c then Some (served w s c) else None) ≡ Some out → list_all (λ (x : Occurrence). leaves_wakeup c x.what) xs ≡ true
    → (acts d later (after_all d out.state xs) (calls.Channel c (asks.Change Check))).told.notices ≡ one_notice EcuMSetWakeupEvent c
told_next d w later s c k out xs asleep wakeup there made left =
    let lt = configured d c k there in
    let end : GptState = after_all d out.state xs in
    let woken : IsWoken end c =
    all_steps d (λ after. IsWoken after c) (leaves_wakeup c)
    (λ v after h one f. (
      step (λ t. t.switches.woken ≡ true) d v after c lt f.0 h (λ y m. woken_made d v (channel_at after c) c h y one (wakeup_left c h one) f.0 m),
      step_on d v after h (wakeup_left c h one) f.1,
    ))
    out.state xs left (woken_by w s c out (ready d w s c) made asleep wakeup lt) in
    ap (λ u. (acts_by d later end (calls.Channel c (asks.Change Check)) (error_by d (calls.Channel c (asks.Change Check)) u (is_asleep end.mode) (runs_at d later end c))).told.notices) woken.1
    ∙ (ap (λ (o : Option Channel). (switches o end c Check).told.notices) there
    ∙ ap (λ q. (notes q EcuMSetWakeupEvent c).notices) woken.0)
