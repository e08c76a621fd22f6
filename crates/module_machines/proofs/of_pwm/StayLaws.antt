-- A mark stays, and a call that changes the level in a notified way leaves one.
use Rattle.std.proofs.Common.{◌≡◌, ℕ, ◌+◌, ◌≤◌, Bool, true, false, not, ◌&&◌, ◌||◌, [], ◌∷◌, Option, Some, None, refl, sym, ◌∙◌, ap, subst, arith}
use Rattle.std.proofs.lemmas.Bool.{and_from, and_parts, not-false, or_left, or_right}
use Rattle.mcal_base.specs.declared.error_name.ErrorName.{ErrorName}
use Rattle.mcal_base.specs.det_errors.Rows.{first_error}
use Rattle.run_model.specs.World.{World}
use Rattle.module_machines.specs.pwm.Checks.{channel_service, allows, may_set, error_by}
use Rattle.module_machines.specs.pwm.Runs.{TurnsBetween, sets_output}
use Rattle.module_machines.specs.pwm.Output.{Output, Idle, level_of, with_new, absolute, turns, turns_between}
use Rattle.module_machines.specs.pwm.Machine.{PwmState, Pulse, pulse_at, with_pulse, is_marked, is_marked_by, is_notified, put_out, channel_work, acts_by, acts, level_at, ready_by, ready}
use Rattle.module_machines.specs.pwm.Table.{channel_of, channel_of_line, polarity_of}
use Rattle.module_machines.specs.declared.pwm.call.Call.TheVariants as calls
use Rattle.module_machines.specs.declared.pwm.call.ChannelCall.{ChannelCall}
use Rattle.module_machines.specs.declared.pwm.call.ChannelCall.TheVariants.{SetDutyCycle, SetPeriodAndDuty, SetOutputToIdle, EnableNotification, DisableNotification}
use Rattle.module_machines.specs.declared.pwm.call.PwmEdge.{PwmEdge}
use Rattle.module_machines.specs.declared.pwm.table.Channel.{Channel}
use Rattle.module_machines.specs.declared.pwm.table.PwmTable.{PwmTable}
use Rattle.module_machines.specs.pwm.laws.Changes.{times_of, of_times}
use Rattle.module_machines.specs.pwm.laws.Channels.{channel_same, known_within}
use Rattle.module_machines.proofs.of_pwm.DropLaws.{line_of, number_of, none_since}

-- ---- time goes on

-- a change between two times is one also up to a later time
between_later : (edge : PwmEdge) (level : ℕ → Bool) (after now later : ℕ) → now ≤ later → turns_between edge level after now ≡ true → turns_between edge level after later ≡ true
between_later edge level after now later le e =
    let t : TurnsBetween edge level after now = times_of edge level after now e in
    of_times edge level after later (record { time = t.time; later = t.later; within = omega (arith, t.within, le); turned = t.turned })

or_more : (t q r : Bool) → (q ≡ true → r ≡ true) → (t || q) ≡ true → (t || r) ≡ true
or_more true q r f e = refl
or_more false q r f e = f e

pub marked_later : (edge : Option PwmEdge) (polarity : Bool) (p : Pulse) (now later : ℕ) → now ≤ later → is_marked_by edge polarity now p ≡ true → is_marked_by edge polarity later p ≡ true
marked_later None polarity p now later le e = e
marked_later (Some edge) polarity p now later le e =
    or_more p.turned (turns_between edge (level_of polarity p.output) p.since now) (turns_between edge (level_of polarity p.output) p.since later)
    (between_later edge (level_of polarity p.output) p.since now later le) e

-- ---- a new output

by_turned : (edge : Option PwmEdge) (polarity : Bool) (now : ℕ) (p x : Pulse) → is_marked_by edge polarity now p ≡ true → x.turned ≡ true → is_marked_by edge polarity now x ≡ true
by_turned None polarity now p x e t = e
by_turned (Some edge) polarity now p x e t = ap (λ q. q || turns_between edge (level_of polarity x.output) x.since now) t

marked_over : (k : Option Channel) (now : ℕ) (o : Output) (p : Pulse) → is_marked k now p ≡ true → is_marked k now (put_out k now o p) ≡ true
marked_over k now o p e =
    by_turned p.notified (polarity_of k) now p (put_out k now o p) e
    (or_left (is_marked k now p) (is_notified p.notified (level_of (polarity_of k) p.output now) (level_of (polarity_of k) o now)) e)

marked_by_event : (k : Option Channel) (now : ℕ) (o : Output) (edge : PwmEdge) (p : Pulse) → p.notified ≡ Some edge → turns edge (level_of (polarity_of k) p.output now) (level_of (polarity_of k) o now) ≡ true
    → is_marked k now (put_out k now o p) ≡ true
marked_by_event k now o edge p is e =
    let before : Bool = level_of (polarity_of k) p.output now in
    let after : Bool = level_of (polarity_of k) o now in
    let t : (put_out k now o p).turned ≡ true = or_right (is_marked k now p) (is_notified p.notified before after) (ap (λ n. is_notified n before after) is ∙ e) in
    ap (λ n. is_marked_by n (polarity_of k) now (put_out k now o p)) is ∙ ap (λ q. q || turns_between edge (level_of (polarity_of k) o) now now) t

-- ---- a call

-- the period last set is nothing to a mark
with_period : (edge : Option PwmEdge) (polarity : Bool) (now period : ℕ) (x : Pulse) → is_marked_by edge polarity now (record x { period = period }) ≡ is_marked_by edge polarity now x
with_period None polarity now period x = refl
with_period (Some edge) polarity now period x = refl

work_marked : (k : Channel) (now : ℕ) (call : ChannelCall) (p : Pulse) → sets_output call ≡ true → is_marked (Some k) now p ≡ true → is_marked (Some k) now (channel_work (Some k) now call p) ≡ true
work_marked k now (SetDutyCycle duty) p set e = marked_over (Some k) now (with_new now p.period (absolute p.period duty) p.output) p e
work_marked k now (SetPeriodAndDuty period duty) p set e =
    let o : Output = with_new now period (absolute period duty) p.output in
    with_period p.notified k.polarity_high now period (put_out (Some k) now o p) ∙ marked_over (Some k) now o p e
work_marked k now SetOutputToIdle p set e = marked_over (Some k) now (Idle k.idle_high) p e
work_marked k now (EnableNotification edge) p set e = absurd (cc set)
work_marked k now DisableNotification p set e = absurd (cc set)

work_left : (k : Channel) (now : ℕ) (call : ChannelCall) (edge : PwmEdge) (p : Pulse) → sets_output call ≡ true → p.notified ≡ Some edge
    → turns edge (level_of k.polarity_high p.output now) (level_of k.polarity_high (channel_work (Some k) now call p).output now) ≡ true → is_marked (Some k) now (channel_work (Some k) now call p) ≡ true
work_left k now (SetDutyCycle duty) edge p set is e = marked_by_event (Some k) now (with_new now p.period (absolute p.period duty) p.output) edge p is e
work_left k now (SetPeriodAndDuty period duty) edge p set is e =
    let o : Output = with_new now period (absolute period duty) p.output in
    with_period p.notified k.polarity_high now period (put_out (Some k) now o p) ∙ marked_by_event (Some k) now o edge p is e
work_left k now SetOutputToIdle edge p set is e = marked_by_event (Some k) now (Idle k.idle_high) edge p is e
work_left k now (EnableNotification x) edge p set is e = absurd (cc set)
work_left k now DisableNotification edge p set is e = absurd (cc set)

-- a channel's line
pub ready_is : (d : PwmTable) (w : World) (s : PwmState) (c : ℕ) → ready d w s (c + 8) ≡ ready_by (channel_of d c) w s c
ready_is d w s c = ap (λ n. ready_by (channel_of_line d (c + 8)) w s n) (number_of c) ∙ ap (λ k. ready_by k w s c) (line_of d c)

-- the channel that was put there is marked
put_ready : (d : PwmTable) (w : World) (s : PwmState) (c : ℕ) (k : Channel) (p : Pulse) → channel_of d c ≡ Some k → s.initialised ≡ true → is_marked (Some k) w.now p ≡ true → ready_by (Some k) w (with_pulse s c p) c ≡ true
put_ready d w s c k p there on e =
    and_from s.initialised (is_marked (Some k) w.now (pulse_at (with_pulse s c p) c)) on
    (ap (λ (x : Pulse). is_marked (Some k) w.now x) (channel_same s c p (known_within d c k there)) ∙ e)

stays_by : (d : PwmTable) (w : World) (s : PwmState) (c : ℕ) (call : ChannelCall) (k : Option Channel) → channel_of d c ≡ k → sets_output call ≡ true → ready_by k w s c ≡ true
    → ready_by k w (with_pulse s c (channel_work k w.now call (pulse_at s c))) c ≡ true
stays_by d w s c call None there set e = e
stays_by d w s c call (Some k) there set e =
    let parts = and_parts s.initialised (is_marked (Some k) w.now (pulse_at s c)) e in
    put_ready d w s c k (channel_work (Some k) w.now call (pulse_at s c)) there parts.0 (work_marked k w.now call (pulse_at s c) set parts.1)

acts_stay : (d : PwmTable) (w : World) (s : PwmState) (c : ℕ) (call : ChannelCall) (committed : ℕ → ℕ) (e : Option ErrorName) → sets_output call ≡ true → ready_by (channel_of d c) w s c ≡ true
    → ready_by (channel_of d c) w (acts_by d w s (calls.Channel c call) committed e).state c ≡ true
acts_stay d w s c call committed (Some e) set r = r
acts_stay d w s c call committed None set r = stays_by d w s c call (channel_of d c) refl set r

pub mark_stays : (d : PwmTable) (w : World) (s : PwmState) (c : ℕ) (call : ChannelCall) (committed : ℕ → ℕ) → sets_output call ≡ true → ready d w s (c + 8) ≡ true
    → ready d w (acts d w s (calls.Channel c call) committed).state (c + 8) ≡ true
mark_stays d w s c call committed set r =
    ready_is d w (acts d w s (calls.Channel c call) committed).state c ∙ acts_stay d w s c call committed (error_by d (calls.Channel c call) (not s.initialised)) set (sym (ready_is d w s c) ∙ r)

-- ---- a call without an error

clean_by : (call : ChannelCall) (u a b : Bool) → first_error (channel_service call) (u ∷ not a ∷ not b ∷ false ∷ false ∷ false ∷ []) ≡ None → (u ≡ false) × (a ≡ true)
clean_by (SetDutyCycle x) true a b e = absurd (cc e)
clean_by (SetDutyCycle x) false true b e = (refl, refl)
clean_by (SetDutyCycle x) false false b e = absurd (cc e)
clean_by (SetPeriodAndDuty x y) true a b e = absurd (cc e)
clean_by (SetPeriodAndDuty x y) false true b e = (refl, refl)
clean_by (SetPeriodAndDuty x y) false false b e = absurd (cc e)
clean_by SetOutputToIdle true a b e = absurd (cc e)
clean_by SetOutputToIdle false true b e = (refl, refl)
clean_by SetOutputToIdle false false b e = absurd (cc e)
clean_by (EnableNotification x) true a b e = absurd (cc e)
clean_by (EnableNotification x) false true b e = (refl, refl)
clean_by (EnableNotification x) false false b e = absurd (cc e)
clean_by DisableNotification true a b e = absurd (cc e)
clean_by DisableNotification false true b e = (refl, refl)
clean_by DisableNotification false false b e = absurd (cc e)

there_by : (call : ChannelCall) (k : Option Channel) → allows call k ≡ true → (x : Channel) × (k ≡ Some x)
there_by call (Some x) e = (x, refl)
there_by (SetDutyCycle x) None e = absurd (cc e)
there_by (SetPeriodAndDuty x y) None e = absurd (cc e)
there_by SetOutputToIdle None e = absurd (cc e)
there_by (EnableNotification x) None e = absurd (cc e)
there_by DisableNotification None e = absurd (cc e)

-- its module is initialised, and its channel configured
pub clean : (d : PwmTable) (s : PwmState) (c : ℕ) (call : ChannelCall) → error_by d (calls.Channel c call) (not s.initialised) ≡ None → (s.initialised ≡ true) × ((k : Channel) × (channel_of d c ≡ Some k))
clean d s c call e =
    let parts = clean_by call (not s.initialised) (allows call (channel_of d c)) (may_set call (channel_of d c)) e in
    (not-false s.initialised parts.0, there_by call (channel_of d c) parts.1)

-- ---- a change that is notified

left_by : (d : PwmTable) (w : World) (s : PwmState) (c : ℕ) (call : ChannelCall) (edge : PwmEdge) (k : Channel) → channel_of d c ≡ Some k → s.initialised ≡ true → sets_output call ≡ true → (pulse_at s c).notified ≡ Some edge
    → turns edge (level_of k.polarity_high (pulse_at s c).output w.now) (level_of k.polarity_high (pulse_at (with_pulse s c (channel_work (Some k) w.now call (pulse_at s c))) c).output w.now) ≡ true
    → ready_by (Some k) w (with_pulse s c (channel_work (Some k) w.now call (pulse_at s c))) c ≡ true
left_by d w s c call edge k there on set is e =
    let p : Pulse = channel_work (Some k) w.now call (pulse_at s c) in
    let at : pulse_at (with_pulse s c p) c ≡ p = channel_same s c p (known_within d c k there) in
    put_ready d w s c k p there on
    (work_left k w.now call edge (pulse_at s c) set is (subst (λ (x : Pulse). turns edge (level_of k.polarity_high (pulse_at s c).output w.now) (level_of k.polarity_high x.output w.now) ≡ true) at e))

acts_leave : (d : PwmTable) (w : World) (s : PwmState) (c : ℕ) (call : ChannelCall) (committed : ℕ → ℕ) (edge : PwmEdge) (k : Option Channel) (e : Option ErrorName) → error_by d (calls.Channel c call) (not s.initialised) ≡ e → channel_of d c ≡ k
    → sets_output call ≡ true → (pulse_at s c).notified ≡ Some edge → (acts_by d w s (calls.Channel c call) committed e).told.error ≡ None
    → turns edge (level_at d w s c) (level_at d w (acts_by d w s (calls.Channel c call) committed e).state c) ≡ true → ready_by (channel_of d c) w (acts_by d w s (calls.Channel c call) committed e).state c ≡ true
acts_leave d w s c call committed edge k (Some e) at there set is told t = absurd (cc told)
acts_leave d w s c call committed edge None None at there set is told t = absurd (cc (sym there ∙ (clean d s c call at).1.1))
acts_leave d w s c call committed edge (Some k) None at there set is told t =
    subst (λ (o : Option Channel). turns edge (level_of (polarity_of o) (pulse_at s c).output w.now) (level_of (polarity_of o) (pulse_at (with_pulse s c (channel_work o w.now call (pulse_at s c))) c).output w.now) ≡ true → ready_by o w (with_pulse s c (channel_work o w.now call (pulse_at s c))) c ≡ true)
    (sym there) (left_by d w s c call edge k there (clean d s c call at).0 set is) t

pub mark_is_left : (d : PwmTable) (w : World) (s : PwmState) (c : ℕ) (call : ChannelCall) (edge : PwmEdge) (committed : ℕ → ℕ) → sets_output call ≡ true → (pulse_at s c).notified ≡ Some edge
    → (acts d w s (calls.Channel c call) committed).told.error ≡ None → turns edge (level_at d w s c) (level_at d w (acts d w s (calls.Channel c call) committed).state c) ≡ true
    → ready d w (acts d w s (calls.Channel c call) committed).state (c + 8) ≡ true
mark_is_left d w s c call edge committed set is told t =
    ready_is d w (acts d w s (calls.Channel c call) committed).state c ∙ acts_leave d w s c call committed edge (channel_of d c) (error_by d (calls.Channel c call) (not s.initialised)) refl refl set is told t

-- ---- no change that is notified

unmarked_by_event : (k : Option Channel) (now : ℕ) (o : Output) (edge : PwmEdge) (p : Pulse) → p.notified ≡ Some edge → is_marked k now p ≡ false
    → turns edge (level_of (polarity_of k) p.output now) (level_of (polarity_of k) o now) ≡ false → is_marked k now (put_out k now o p) ≡ false
unmarked_by_event k now o edge p is m e =
    let before : Bool = level_of (polarity_of k) p.output now in
    let after : Bool = level_of (polarity_of k) o now in
    let t : (put_out k now o p).turned ≡ false = ap (λ q. q || is_notified p.notified before after) m ∙ (ap (λ n. is_notified n before after) is ∙ e) in
    ap (λ n. is_marked_by n (polarity_of k) now (put_out k now o p)) is ∙ (ap (λ q. q || turns_between edge (level_of (polarity_of k) o) now now) t ∙ none_since edge (level_of (polarity_of k) o) now)

work_unmarked : (k : Channel) (now : ℕ) (call : ChannelCall) (edge : PwmEdge) (p : Pulse) → sets_output call ≡ true → p.notified ≡ Some edge → is_marked (Some k) now p ≡ false
    → turns edge (level_of k.polarity_high p.output now) (level_of k.polarity_high (channel_work (Some k) now call p).output now) ≡ false → is_marked (Some k) now (channel_work (Some k) now call p) ≡ false
work_unmarked k now (SetDutyCycle duty) edge p set is m e = unmarked_by_event (Some k) now (with_new now p.period (absolute p.period duty) p.output) edge p is m e
work_unmarked k now (SetPeriodAndDuty period duty) edge p set is m e =
    let o : Output = with_new now period (absolute period duty) p.output in
    with_period p.notified k.polarity_high now period (put_out (Some k) now o p) ∙ unmarked_by_event (Some k) now o edge p is m e
work_unmarked k now SetOutputToIdle edge p set is m e = unmarked_by_event (Some k) now (Idle k.idle_high) edge p is m e
work_unmarked k now (EnableNotification x) edge p set is m e = absurd (cc set)
work_unmarked k now DisableNotification edge p set is m e = absurd (cc set)

none_by_mark : (q m n : Bool) → (q && m) ≡ false → (m ≡ false → n ≡ false) → (q && n) ≡ false
none_by_mark true m n e f = f e
none_by_mark false m n e f = refl

none_by : (d : PwmTable) (w : World) (s : PwmState) (c : ℕ) (call : ChannelCall) (edge : PwmEdge) (k : Option Channel) → channel_of d c ≡ k → sets_output call ≡ true → (pulse_at s c).notified ≡ Some edge → ready_by k w s c ≡ false
    → turns edge (level_of (polarity_of k) (pulse_at s c).output w.now) (level_of (polarity_of k) (pulse_at (with_pulse s c (channel_work k w.now call (pulse_at s c))) c).output w.now) ≡ false
    → ready_by k w (with_pulse s c (channel_work k w.now call (pulse_at s c))) c ≡ false
none_by d w s c call edge None there set is r e = refl
none_by d w s c call edge (Some k) there set is r e =
    let p : Pulse = channel_work (Some k) w.now call (pulse_at s c) in
    let at : pulse_at (with_pulse s c p) c ≡ p = channel_same s c p (known_within d c k there) in
    none_by_mark s.initialised (is_marked (Some k) w.now (pulse_at s c)) (is_marked (Some k) w.now (pulse_at (with_pulse s c p) c)) r
    (λ m. ap (λ (x : Pulse). is_marked (Some k) w.now x) at ∙ work_unmarked k w.now call edge (pulse_at s c) set is m (subst (λ (x : Pulse). turns edge (level_of k.polarity_high (pulse_at s c).output w.now) (level_of k.polarity_high x.output w.now) ≡ false) at e))

acts_none : (d : PwmTable) (w : World) (s : PwmState) (c : ℕ) (call : ChannelCall) (edge : PwmEdge) (committed : ℕ → ℕ) (e : Option ErrorName) → sets_output call ≡ true → (pulse_at s c).notified ≡ Some edge → ready_by (channel_of d c) w s c ≡ false
    → turns edge (level_at d w s c) (level_at d w (acts_by d w s (calls.Channel c call) committed e).state c) ≡ false → ready_by (channel_of d c) w (acts_by d w s (calls.Channel c call) committed e).state c ≡ false
acts_none d w s c call edge committed (Some e) set is r t = r
acts_none d w s c call edge committed None set is r t = none_by d w s c call edge (channel_of d c) refl set is r t

pub no_mark_is_left : (d : PwmTable) (w : World) (s : PwmState) (c : ℕ) (call : ChannelCall) (edge : PwmEdge) (committed : ℕ → ℕ) → sets_output call ≡ true → (pulse_at s c).notified ≡ Some edge → ready d w s (c + 8) ≡ false
    → turns edge (level_at d w s c) (level_at d w (acts d w s (calls.Channel c call) committed).state c) ≡ false → ready d w (acts d w s (calls.Channel c call) committed).state (c + 8) ≡ false
no_mark_is_left d w s c call edge committed set is r t =
    ready_is d w (acts d w s (calls.Channel c call) committed).state c ∙ acts_none d w s c call edge committed (error_by d (calls.Channel c call) (not s.initialised)) set is (sym (ready_is d w s c) ∙ r) t
