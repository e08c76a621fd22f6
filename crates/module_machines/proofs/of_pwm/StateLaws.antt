-- What `Pwm_Init` and `Pwm_DeInit` leave, what calls about other channels leave, and that no mark comes while a notification is off.
use Rattle.std.proofs.Common.{◌≡◌, ◌≢◌, ℕ, ◌+◌, ◌<◌, ◌==◌, Bool, true, false, not, List, [], ◌∷◌, Option, Some, None, refl, sym, ◌∙◌, ap, subst, arith}
use Rattle.std.specs.List.{list_all}
use Rattle.std.specs.Prelude.{if◌then◌else◌}
use Rattle.std.proofs.lemmas.Bool.Decides.{nat_tests}
use Rattle.std.proofs.lemmas.Bool.{and_parts, and_right}
use Rattle.mcal_base.specs.facts.Numbers.{eq_other, eq_self}
use Rattle.mcal_base.specs.declared.error_name.ErrorName.{ErrorName}
use Rattle.run_model.specs.World.{World}
use Rattle.run_model.specs.Machine.{Happening, Acts, Serves, Starts, Aborts, Moves, Restarts}
use Rattle.run_model.specs.Frame.{state_by}
use Rattle.module_machines.specs.pwm.Checks.{error_by}
use Rattle.module_machines.specs.pwm.Runs.{Occurrence, leaves_off, state_after, after_all}
use Rattle.module_machines.specs.pwm.Output.{absolute, level_of, regime_level}
use Rattle.module_machines.specs.pwm.Machine.{PwmState, Pulse, pulse_at, with_pulse, forgotten, started, ended, is_marked_by, channel_work, acts_by, acts, level_at, ready_by, ready, served}
use Rattle.module_machines.specs.pwm.Table.{channel_of, channel_number, polarity_of}
use Rattle.module_machines.specs.declared.pwm.call.Call.{Call}
use Rattle.module_machines.specs.declared.pwm.call.Call.TheVariants.{Init, DeInit, GetOutputState}
use Rattle.module_machines.specs.declared.pwm.call.Call.TheVariants as calls
use Rattle.module_machines.specs.declared.pwm.call.ChannelCall.{ChannelCall}
use Rattle.module_machines.specs.declared.pwm.call.ChannelCall.TheVariants.{SetDutyCycle, SetPeriodAndDuty, SetOutputToIdle, EnableNotification, DisableNotification}
use Rattle.module_machines.specs.declared.pwm.table.Channel.{Channel}
use Rattle.module_machines.specs.declared.pwm.table.PwmTable.{PwmTable}
use Rattle.module_machines.specs.pwm.laws.Channels.{table_at, channel_same, known_within}
use Rattle.module_machines.proofs.of_pwm.StayLaws.{ready_is}

-- ---- calls about all channels

init_clean : (d : PwmTable) (s : PwmState) → s.initialised ≡ false → error_by d Init (not s.initialised) ≡ None
init_clean d s off = ap (λ b. error_by d Init (not b)) off

deinit_clean : (d : PwmTable) (s : PwmState) → s.initialised ≡ true → error_by d DeInit (not s.initialised) ≡ None
deinit_clean d s on = ap (λ b. error_by d DeInit (not b)) on

pub init_on : (d : PwmTable) (w : World) (s : PwmState) (committed : ℕ → ℕ) → s.initialised ≡ false → (acts d w s Init committed).state.initialised ≡ true
init_on d w s committed off = ap (λ e. (acts_by d w s Init committed e).state.initialised) (init_clean d s off)

pub deinit_off : (d : PwmTable) (w : World) (s : PwmState) (committed : ℕ → ℕ) → s.initialised ≡ true → (acts d w s DeInit committed).state.initialised ≡ false
deinit_off d w s committed on = ap (λ e. (acts_by d w s DeInit committed e).state.initialised) (deinit_clean d s on)

-- a configured channel after them
started_by : (d : PwmTable) (w : World) (s : PwmState) (c : ℕ) (k : Channel) (committed : ℕ → ℕ) → channel_of d c ≡ Some k → pulse_at (acts_by d w s Init committed None).state c ≡ started (Some k) (committed c) (pulse_at s c)
started_by d w s c k committed there =
    table_at (λ i. started (channel_of d i) (committed i) (pulse_at s i)) c (known_within d c k there) ∙ ap (λ (o : Option Channel). started o (committed c) (pulse_at s c)) there

ended_by : (d : PwmTable) (w : World) (s : PwmState) (c : ℕ) (k : Channel) (committed : ℕ → ℕ) → channel_of d c ≡ Some k → pulse_at (acts_by d w s DeInit committed None).state c ≡ ended (Some k) w.now (pulse_at s c)
ended_by d w s c k committed there =
    table_at (λ i. ended (channel_of d i) w.now (pulse_at s i)) c (known_within d c k there) ∙ ap (λ (o : Option Channel). ended o w.now (pulse_at s c)) there

pub init_starts : (d : PwmTable) (w : World) (s : PwmState) (c : ℕ) (k : Channel) (committed : ℕ → ℕ) → s.initialised ≡ false → channel_of d c ≡ Some k → pulse_at (acts d w s Init committed).state c ≡ started (Some k) (committed c) (pulse_at s c)
init_starts d w s c k committed off there = ap (λ e. pulse_at (acts_by d w s Init committed e).state c) (init_clean d s off) ∙ started_by d w s c k committed there

deinit_ends : (d : PwmTable) (w : World) (s : PwmState) (c : ℕ) (k : Channel) (committed : ℕ → ℕ) → s.initialised ≡ true → channel_of d c ≡ Some k → pulse_at (acts d w s DeInit committed).state c ≡ ended (Some k) w.now (pulse_at s c)
deinit_ends d w s c k committed on there = ap (λ e. pulse_at (acts_by d w s DeInit committed e).state c) (deinit_clean d s on) ∙ ended_by d w s c k committed there

-- the level of a configured channel
level_by : (d : PwmTable) (later : World) (s : PwmState) (c : ℕ) (k : Channel) (p : Pulse) → channel_of d c ≡ Some k → pulse_at s c ≡ p → level_at d later s c ≡ level_of k.polarity_high p.output later.now
level_by d later s c k p there is = ap (λ (o : Option Channel). level_of (polarity_of o) (pulse_at s c).output later.now) there ∙ ap (λ (x : Pulse). level_of k.polarity_high x.output later.now) is

pub init_level : (d : PwmTable) (w later : World) (s : PwmState) (c : ℕ) (k : Channel) (committed : ℕ → ℕ) → s.initialised ≡ false → channel_of d c ≡ Some k
    → level_at d later (acts d w s Init committed).state c ≡ regime_level k.polarity_high (record { start = committed c; period = k.period_ticks; duty = absolute k.period_ticks k.duty_cycle_default }) later.now
init_level d w later s c k committed off there = level_by d later (acts d w s Init committed).state c k (started (Some k) (committed c) (pulse_at s c)) there (init_starts d w s c k committed off there)

pub deinit_level : (d : PwmTable) (w later : World) (s : PwmState) (c : ℕ) (k : Channel) (committed : ℕ → ℕ) → s.initialised ≡ true → channel_of d c ≡ Some k → level_at d later (acts d w s DeInit committed).state c ≡ k.idle_high
deinit_level d w later s c k committed on there = level_by d later (acts d w s DeInit committed).state c k (ended (Some k) w.now (pulse_at s c)) there (deinit_ends d w s c k committed on there)

-- ---- other channels

-- a channel of a state in which one was put
put_at : (s : PwmState) (n i : ℕ) (p : Pulse) → i < 8 → pulse_at (with_pulse s n p) i ≡ (if i == n then p else pulse_at s i)
put_at s n i p lt = table_at (λ k. if k == n then p else pulse_at s k) i lt

others_by : (d : PwmTable) (w : World) (s : PwmState) (c i : ℕ) (call : ChannelCall) (committed : ℕ → ℕ) (e : Option ErrorName) → i < 8 → i ≢ c → pulse_at (acts_by d w s (calls.Channel c call) committed e).state i ≡ pulse_at s i
others_by d w s c i call committed (Some e) lt ne = refl
others_by d w s c i call committed None lt ne =
    let p : Pulse = channel_work (channel_of d c) w.now call (pulse_at s c) in
    put_at s c i p lt ∙ ap (λ q. if q then p else pulse_at s i) (eq_other i c ne)

pub others_stay : (d : PwmTable) (w : World) (s : PwmState) (c i : ℕ) (call : ChannelCall) (committed : ℕ → ℕ) → i < 8 → i ≢ c → pulse_at (acts d w s (calls.Channel c call) committed).state i ≡ pulse_at s i
others_stay d w s c i call committed lt ne = others_by d w s c i call committed (error_by d (calls.Channel c call) (not s.initialised)) lt ne

-- ---- while a notification is off

abbrev IsOff : PwmState → ℕ → Type 0
IsOff s c = (pulse_at s c).notified ≡ None

-- a channel that is off, in a state in which one was put
put_off : (s : PwmState) (n c : ℕ) (p : Pulse) → c < 8 → (c ≡ n → p.notified ≡ None) → IsOff s c → IsOff (with_pulse s n p) c
put_off s n c p lt f off = subst (λ (x : Pulse). x.notified ≡ None) (sym (put_at s n c p lt)) (by (c == n) refl) where
  same : (c == n) ≡ true → c ≡ n
  same e = grind (arith, nat_tests)

  by : (q : Bool) → (c == n) ≡ q → (if q then p else pulse_at s c).notified ≡ None
  by true e = f (same e)
  by false e = off

started_off : (o : Option Channel) (time : ℕ) (p : Pulse) → p.notified ≡ None → (started o time p).notified ≡ None
started_off None time p e = e
started_off (Some k) time p e = refl

ended_off : (o : Option Channel) (now : ℕ) (p : Pulse) → p.notified ≡ None → (ended o now p).notified ≡ None
ended_off None now p e = e
ended_off (Some k) now p e = refl

work_off : (o : Option Channel) (now c n : ℕ) (call : ChannelCall) (times : ℕ → ℕ) (p : Pulse) → c ≡ n → leaves_off c (Acts (calls.Channel n call) times) ≡ true → p.notified ≡ None → (channel_work o now call p).notified ≡ None
work_off None now c n call times p at left e = e
work_off (Some k) now c n (SetDutyCycle duty) times p at left e = e
work_off (Some k) now c n (SetPeriodAndDuty period duty) times p at left e = e
work_off (Some k) now c n SetOutputToIdle times p at left e = e
work_off (Some k) now c n (EnableNotification edge) times p at left e =
    let no : not (c == n) ≡ false = ap (λ i. not (c == i)) (sym at) ∙ ap not (eq_self c) in
    absurd (cc (sym no ∙ left))
work_off (Some k) now c n DisableNotification times p at left e = refl

acts_off : (d : PwmTable) (w : World) (s : PwmState) (c : ℕ) (call : Call) (committed : ℕ → ℕ) (e : Option ErrorName) → c < 8 → leaves_off c (Acts call committed) ≡ true → IsOff s c → IsOff (acts_by d w s call committed e).state c
acts_off d w s c call committed (Some e) lt left off = off
acts_off d w s c Init committed None lt left off =
    subst (λ (x : Pulse). x.notified ≡ None) (sym (table_at (λ i. started (channel_of d i) (committed i) (pulse_at s i)) c lt)) (started_off (channel_of d c) (committed c) (pulse_at s c) off)
acts_off d w s c DeInit committed None lt left off =
    subst (λ (x : Pulse). x.notified ≡ None) (sym (table_at (λ i. ended (channel_of d i) w.now (pulse_at s i)) c lt)) (ended_off (channel_of d c) w.now (pulse_at s c) off)
acts_off d w s c (GetOutputState n) committed None lt left off = off
acts_off d w s c (calls.Channel n call) committed None lt left off =
    put_off s n c (channel_work (channel_of d n) w.now call (pulse_at s n)) lt
    (λ at. work_off (channel_of d n) w.now c n call committed (pulse_at s n) at left (subst (λ i. (pulse_at s i).notified ≡ None) at off)) off

serves_off : (w : World) (s : PwmState) (n c : ℕ) (q : Bool) → c < 8 → IsOff s c → IsOff (state_by s (if q then Some (served w s n) else None)) c
serves_off w s n c true lt off = put_off s n c (forgotten w.now (pulse_at s n)) lt (λ at. subst (λ i. (pulse_at s i).notified ≡ None) at off) off
serves_off w s n c false lt off = off

after_off : (d : PwmTable) (w : World) (s : PwmState) (h : Happening Call) (c : ℕ) → c < 8 → leaves_off c h ≡ true → IsOff s c → IsOff (state_after d w s h) c
after_off d w s (Acts call committed) c lt left off = acts_off d w s c call committed (error_by d call (not s.initialised)) lt left off
after_off d w s (Serves l received) c lt left off = serves_off w s (channel_number l) c (ready d w s l) lt off
after_off d w s (Starts u made_by received) c lt left off = off
after_off d w s (Aborts u) c lt left off = off
after_off d w s (Moves order) c lt left off = off
after_off d w s (Restarts reason) c lt left off = refl

all_off : (d : PwmTable) (s : PwmState) (xs : List Occurrence) (c : ℕ) → c < 8 → list_all (λ (x : Occurrence). leaves_off c x.what) xs ≡ true → IsOff s c → IsOff (after_all d s xs) c
all_off d s [] c lt left off = off
all_off d s (x ∷ xs) c lt left off =
    let parts = and_parts (leaves_off c x.what) (list_all (λ (y : Occurrence). leaves_off c y.what) xs) left in
    all_off d (state_after d x.world s x.what) xs c lt parts.1 (after_off d x.world s x.what c lt parts.0 off)

off_by : (d : PwmTable) (later : World) (s : PwmState) (xs : List Occurrence) (c : ℕ) (k : Option Channel) → channel_of d c ≡ k → ((x : Channel) → channel_of d c ≡ Some x → IsOff s c)
    → list_all (λ (x : Occurrence). leaves_off c x.what) xs ≡ true → ready_by k later (after_all d s xs) c ≡ false
off_by d later s xs c None there f left = refl
off_by d later s xs c (Some k) there f left =
    let end : PwmState = after_all d s xs in
    and_right end.initialised (is_marked_by (pulse_at end c).notified k.polarity_high later.now (pulse_at end c))
    (ap (λ n. is_marked_by n k.polarity_high later.now (pulse_at end c)) (all_off d s xs c (known_within d c k there) left (f k there)))

-- no mark comes in a run from a state where it is off
stays_off : (d : PwmTable) (later : World) (s : PwmState) (xs : List Occurrence) (c : ℕ) → ((x : Channel) → channel_of d c ≡ Some x → IsOff s c) → list_all (λ (x : Occurrence). leaves_off c x.what) xs ≡ true → ready d later (after_all d s xs) (c + 8) ≡ false
stays_off d later s xs c f left = ready_is d later (after_all d s xs) c ∙ off_by d later s xs c (channel_of d c) refl f left

disabled_by : (d : PwmTable) (w : World) (s : PwmState) (c : ℕ) (committed : ℕ → ℕ) (e : Option ErrorName) → (acts_by d w s (calls.Channel c DisableNotification) committed e).told.error ≡ None → (k : Channel) → channel_of d c ≡ Some k
    → IsOff (acts_by d w s (calls.Channel c DisableNotification) committed e).state c
disabled_by d w s c committed (Some e) told k there = absurd (cc told)
disabled_by d w s c committed None told k there =
    let p : Pulse = channel_work (channel_of d c) w.now DisableNotification (pulse_at s c) in
    ap (λ (x : Pulse). x.notified) (channel_same s c p (known_within d c k there)) ∙ ap (λ (o : Option Channel). (channel_work o w.now DisableNotification (pulse_at s c)).notified) there

pub disabled_stays_off : (d : PwmTable) (w later : World) (s : PwmState) (c : ℕ) (committed : ℕ → ℕ) (xs : List Occurrence) → (acts d w s (calls.Channel c DisableNotification) committed).told.error ≡ None
    → list_all (λ (x : Occurrence). leaves_off c x.what) xs ≡ true → ready d later (after_all d (acts d w s (calls.Channel c DisableNotification) committed).state xs) (c + 8) ≡ false
disabled_stays_off d w later s c committed xs told left =
    stays_off d later (acts d w s (calls.Channel c DisableNotification) committed).state xs c (disabled_by d w s c committed (error_by d (calls.Channel c DisableNotification) (not s.initialised)) told) left

deinit_by : (d : PwmTable) (w : World) (s : PwmState) (c : ℕ) (committed : ℕ → ℕ) (e : Option ErrorName) → (acts_by d w s DeInit committed e).told.error ≡ None → (k : Channel) → channel_of d c ≡ Some k → IsOff (acts_by d w s DeInit committed e).state c
deinit_by d w s c committed (Some e) told k there = absurd (cc told)
deinit_by d w s c committed None told k there = ap (λ (x : Pulse). x.notified) (ended_by d w s c k committed there)

pub deinit_stays_off : (d : PwmTable) (w later : World) (s : PwmState) (c : ℕ) (committed : ℕ → ℕ) (xs : List Occurrence) → (acts d w s DeInit committed).told.error ≡ None
    → list_all (λ (x : Occurrence). leaves_off c x.what) xs ≡ true → ready d later (after_all d (acts d w s DeInit committed).state xs) (c + 8) ≡ false
deinit_stays_off d w later s c committed xs told left = stays_off d later (acts d w s DeInit committed).state xs c (deinit_by d w s c committed (error_by d DeInit (not s.initialised)) told) left
