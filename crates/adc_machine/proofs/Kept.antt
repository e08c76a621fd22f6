-- What makes no request.
use Rattle.std.proofs.Common.{◌≡◌, ℕ, ◌-◌, Bool, true, false, cond, ◌&&◌, Option, Some, None, refl, sym, ◌∙◌, ap}
use Rattle.mcal_base.specs.declared.error_name.ErrorName.{ErrorName}
use Rattle.mcal_base.specs.declared.directive.Order.{Order}
use Rattle.mcal_base.specs.declared.directive.Order.TheVariants as orders
use Rattle.run_model.specs.World.{World}
use Rattle.run_model.specs.Machine.{Happening, Acts, Serves, Starts, Aborts, Moves, Restarts, Outcome, outcome, tells_nothing}
use Rattle.adc_machine.specs.Groups.{Status, Idle, Busy, Completed, StreamCompleted, Round}
use Rattle.adc_machine.specs.Laws.{is_start, MakesNoRequest}
use Rattle.adc_machine.specs.Machine.{is_done, acts, acts_by, circumstances, group_work, happens, served_round, after_round, is_unit_line, is_trigger_line, starting, starts_on, aborting, aborts_on, moved, reads, points}
use Rattle.adc_machine.specs.Checks.{error_by}
use Rattle.adc_machine.specs.Triggers.{mark_at, without_mark, with_mark, served_trigger}
use Rattle.adc_machine.specs.Turns.{AdcState, group_at, round_at, with_group, with_round, has_turn, requested, number_of, starts, aborts}
use Rattle.adc_machine.specs.declared.call.Call.{Call}
use Rattle.adc_machine.specs.declared.call.Call.TheVariants.{Init, DeInit, Group}
use Rattle.adc_machine.specs.declared.call.GroupCall.{GroupCall}
use Rattle.adc_machine.specs.declared.call.GroupCall.TheVariants.{SetupResultBuffer, StartGroupConversion, StopGroupConversion, ReadGroup, EnableHardwareTrigger, DisableHardwareTrigger, Notification, GetGroupStatus, GetStreamLastPointer}
use Rattle.adc_machine.specs.declared.table.AdcTable.{AdcTable}
use Rattle.adc_machine.proofs.Numbers.{allowed}

unmarked_kept : (s : AdcState) (o : Option ℕ) → (without_mark s o).requests ≡ s.requests
unmarked_kept s None = refl
unmarked_kept s (Some i) = refl

turn_kept : (d : AdcTable) (s : AdcState) (g n : ℕ) (full continuous : Bool) → (after_round d s g n full continuous).requests ≡ s.requests
turn_kept d s g n true continuous = unmarked_kept _ _
turn_kept d s g n false true = refl
turn_kept d s g n false false = refl

reads_kept : (d : AdcTable) (s : AdcState) (g : ℕ) (x : Status) → (reads d s g x).state.requests ≡ s.requests
reads_kept d s g Idle = refl
reads_kept d s g Busy = refl
reads_kept d s g Completed = refl
reads_kept d s g StreamCompleted = refl

points_kept : (d : AdcTable) (s : AdcState) (g : ℕ) (x : Status) → (points d s g x).state.requests ≡ s.requests
points_kept d s g Idle = refl
points_kept d s g Busy = refl
points_kept d s g Completed = refl
points_kept d s g StreamCompleted = refl

group_kept : (d : AdcTable) (s : AdcState) (g : ℕ) (call : GroupCall) → is_start (Group g call) ≡ false → (group_work d s g call).state.requests ≡ s.requests
group_kept d s g (SetupResultBuffer b) isnt = refl
group_kept d s g StartGroupConversion isnt = absurd (cc isnt)
group_kept d s g EnableHardwareTrigger isnt = refl
group_kept d s g StopGroupConversion isnt = unmarked_kept _ _
group_kept d s g DisableHardwareTrigger isnt = unmarked_kept _ _
group_kept d s g ReadGroup isnt = reads_kept d s g (group_at s g).status
group_kept d s g (Notification on) isnt = refl
group_kept d s g GetGroupStatus isnt = refl
group_kept d s g GetStreamLastPointer isnt = points_kept d s g (group_at s g).status

act_kept : (d : AdcTable) (s : AdcState) (call : Call) (o : Option ErrorName) → is_start call ≡ false → (acts_by d s call o).state.requests ≡ s.requests
act_kept d s Init None isnt = refl
act_kept d s DeInit None isnt = refl
act_kept d s (Group g call) None isnt = group_kept d s g call isnt
act_kept d s call (Some e) isnt = refl

start_kept : (w : World) (s : AdcState) (u : ℕ) (o : Option ℕ) (out : Outcome AdcState) → starting w s u o ≡ Some out → out.state.requests ≡ s.requests
start_kept w s u None out e = absurd (cc e)
start_kept w s u (Some g) out e = is_out (cc e)
  where
    is_out : outcome (Rattle.adc_machine.specs.Turns.started w s u g) tells_nothing ≡ out → out.state.requests ≡ s.requests
    is_out same = ap (λ (x : Outcome AdcState). x.state.requests) (sym same)

starts_kept : (d : AdcTable) (w : World) (s : AdcState) (o : Option ℕ) (out : Outcome AdcState) → starts_on d w s o ≡ Some out → out.state.requests ≡ s.requests
starts_kept d w s None out e = absurd (cc e)
starts_kept d w s (Some u) out e = start_kept w s u (starts d s u) out e

abort_kept : (d : AdcTable) (w : World) (s : AdcState) (u : ℕ) (o : Option Round) (out : Outcome AdcState) → aborting d w s u o ≡ Some out → out.state.requests ≡ s.requests
abort_kept d w s u None out e = absurd (cc e)
abort_kept d w s u (Some r) out e =
    let same : outcome (Rattle.adc_machine.specs.Turns.aborted d w s u r) tells_nothing ≡ out = cc in
    ap (λ (x : Outcome AdcState). x.state.requests) (sym same)

aborts_kept : (d : AdcTable) (w : World) (s : AdcState) (o : Option ℕ) (out : Outcome AdcState) → aborts_on d w s o ≡ Some out → out.state.requests ≡ s.requests
aborts_kept d w s None out e = absurd (cc e)
aborts_kept d w s (Some u) out e = abort_kept d w s u (aborts d w s u) out e

pulse_kept : (s : AdcState) (i : ℕ) (b : Bool) → (cond b (with_mark s i true) s).requests ≡ s.requests
pulse_kept s i true = refl
pulse_kept s i false = refl

moved_kept : (d : AdcTable) (s : AdcState) (order : Order) → (moved d s order).requests ≡ s.requests
moved_kept d s (orders.Trigger i) = pulse_kept s i _
moved_kept d s _ = refl

-- the state of what came
state_is : (x out : Outcome AdcState) (n : ℕ) → Some x ≡ Some out → x.state.requests ≡ n → out.state.requests ≡ n
state_is x out n e f =
    let same : x ≡ out = cc in
    ap (λ (y : Outcome AdcState). y.state.requests) (sym same) ∙ f

round_kept : (d : AdcTable) (w : World) (s : AdcState) (u : ℕ) (q : Option Round) → (served_round d w s u q).state.requests ≡ s.requests
round_kept d w s u None = refl
round_kept d w s u (Some r) = turn_kept d _ r.group r.request.number _ _

-- a line that is ready and isn't one of a trigger is one of a unit
serving_kept : (d : AdcTable) (w : World) (s : AdcState) (l : ℕ) (on unit trigger marked : Bool) (q : Option Round) (t : AdcState) (out : Outcome AdcState) → trigger ≡ false
    → cond (on && cond unit (is_done d w q) (trigger && marked)) (Some (cond unit (served_round d w s (l - 24) q) (outcome t tells_nothing))) None ≡ Some out → out.state.requests ≡ s.requests
serving_kept d w s l on true trigger marked q t out isnt e = allowed (λ x. x.requests ≡ s.requests) (on && is_done d w q) (served_round d w s (l - 24) q) out e (round_kept d w s (l - 24) q)
serving_kept d w s l true false true marked q t out isnt e = absurd (cc isnt)
serving_kept d w s l true false false marked q t out isnt e = absurd (cc e)
serving_kept d w s l false false trigger marked q t out isnt e = absurd (cc e)

pub makes_none : (d : AdcTable) (w : World) (s : AdcState) (h : Happening Call) (out : Outcome AdcState) → happens d w s h ≡ Some out → MakesNoRequest h → out.state.requests ≡ s.requests
makes_none d w s (Acts call times) out e isnt = state_is (acts d s call) out s.requests e (act_kept d s call (error_by d call (circumstances d s call)) isnt)
makes_none d w s (Serves l received) out e isnt =
    serving_kept d w s l s.initialised (is_unit_line l) (is_trigger_line l) (mark_at s (l - 28)) (round_at s (l - 24)) (served_trigger d s (l - 28)) out isnt e
makes_none d w s (Starts u made_by received) out e isnt = starts_kept d w s (number_of u) out e
makes_none d w s (Aborts u) out e isnt = aborts_kept d w s (number_of u) out e
makes_none d w s (Moves order) out e isnt = state_is (outcome (moved d s order) tells_nothing) out s.requests e (moved_kept d s order)
makes_none d w s (Restarts reason) out e isnt = absurd isnt
