-- An uninitialised module is at rest.
use Rattle.std.proofs.Common.{◌≡◌, ℕ, ◌-◌, Bool, true, false, cond, ◌&&◌, not, List, [], ◌∷◌, Option, Some, None, refl, sym, ◌∙◌, ap}
use Rattle.std.specs.Prelude.{is_some}
use Rattle.mcal_base.specs.declared.error_name.ErrorName.{ErrorName}
use Rattle.mcal_base.specs.declared.directive.Order.{Order}
use Rattle.mcal_base.specs.declared.directive.Order.TheVariants as orders
use Rattle.run_model.specs.World.{World}
use Rattle.run_model.specs.Frame.{state_by}
use Rattle.run_model.specs.Machine.{Happening, Acts, Serves, Starts, Aborts, Moves, Restarts, Outcome, outcome, tells_nothing}
use Rattle.adc_machine.specs.Checks.{Circumstances, error_by}
use Rattle.adc_machine.specs.Groups.{Status, Idle, Busy, Completed, StreamCompleted, Round, untouched, trigger_input}
use Rattle.adc_machine.specs.Laws.{IsAtRest, Step, state_after}
use Rattle.adc_machine.specs.Machine.{acts, acts_by, circumstances, closed, group_work, happens, served, starting, starts_on, aborting, aborts_on, moved, reads, points, served_round, after_round, is_unit_line}
use Rattle.adc_machine.specs.Table.{group_of, all_groups}
use Rattle.adc_machine.specs.Triggers.{listener, listener_among, is_input, with_mark, without_mark, requested_unless_turn, served_trigger}
use Rattle.adc_machine.specs.Turns.{AdcState, first_state, group_at, round_at, is_on, number_of, next_group, starts, starts_by, started, aborts, aborted, has_turn, requested}
use Rattle.adc_machine.specs.declared.call.Call.{Call}
use Rattle.adc_machine.specs.declared.call.Call.TheVariants.{Init, DeInit, Group}
use Rattle.adc_machine.specs.declared.call.GroupCall.{GroupCall}
use Rattle.adc_machine.specs.declared.call.GroupCall.TheVariants.{SetupResultBuffer, StartGroupConversion, StopGroupConversion, ReadGroup, EnableHardwareTrigger, DisableHardwareTrigger, Notification, GetGroupStatus, GetStreamLastPointer}
use Rattle.adc_machine.specs.declared.table.AdcTable.{AdcTable}
use Rattle.adc_machine.proofs.Aborted.{abort_is}
use Rattle.adc_machine.proofs.Next.{next_is}
use Rattle.adc_machine.proofs.Numbers.{came}
use Rattle.adc_machine.proofs.Parts.{each_of, either}

-- while it is uninitialised it is at rest
abbrev Rests : AdcState → Type 0
Rests s = s.initialised ≡ false → IsAtRest s

-- ---- acts

unmarked_on : (s : AdcState) (o : Option ℕ) → (without_mark s o).initialised ≡ s.initialised
unmarked_on s None = refl
unmarked_on s (Some i) = refl

reads_on : (d : AdcTable) (s : AdcState) (g : ℕ) (x : Status) → (reads d s g x).state.initialised ≡ s.initialised
reads_on d s g Idle = refl
reads_on d s g Busy = refl
reads_on d s g Completed = refl
reads_on d s g StreamCompleted = refl

points_on : (d : AdcTable) (s : AdcState) (g : ℕ) (x : Status) → (points d s g x).state.initialised ≡ s.initialised
points_on d s g Idle = refl
points_on d s g Busy = refl
points_on d s g Completed = refl
points_on d s g StreamCompleted = refl

group_on : (d : AdcTable) (s : AdcState) (g : ℕ) (call : GroupCall) → (group_work d s g call).state.initialised ≡ s.initialised
group_on d s g (SetupResultBuffer b) = refl
group_on d s g StartGroupConversion = refl
group_on d s g EnableHardwareTrigger = refl
group_on d s g StopGroupConversion = unmarked_on _ (trigger_input (group_of d g))
group_on d s g DisableHardwareTrigger = unmarked_on _ (trigger_input (group_of d g))
group_on d s g ReadGroup = reads_on d s g (group_at s g).status
group_on d s g (Notification on) = refl
group_on d s g GetGroupStatus = refl
group_on d s g GetStreamLastPointer = points_on d s g (group_at s g).status

-- a call about a group finds an error while the module is uninitialised
uninit_found : (d : AdcTable) (g : ℕ) (call : GroupCall) (x : Circumstances) → x.uninitialised ≡ true → is_some (error_by d (Group g call) x) ≡ true
uninit_found d g (SetupResultBuffer b) x e = rw e refl
uninit_found d g StartGroupConversion x e = rw e refl
uninit_found d g StopGroupConversion x e = rw e refl
uninit_found d g ReadGroup x e = rw e refl
uninit_found d g EnableHardwareTrigger x e = rw e refl
uninit_found d g DisableHardwareTrigger x e = rw e refl
uninit_found d g (Notification true) x e = rw e refl
uninit_found d g (Notification false) x e = rw e refl
uninit_found d g GetGroupStatus x e = rw e refl
uninit_found d g GetStreamLastPointer x e = rw e refl

closed_rests : (s : AdcState) → IsAtRest (closed s)
closed_rests s = record {
  waiting = each_of (λ x. x.waiting ≡ None) (λ g. record untouched { chosen = (group_at s g).chosen }) refl (λ g. refl);
  triggers = each_of (λ x. x.trigger ≡ false) (λ g. record untouched { chosen = (group_at s g).chosen }) refl (λ g. refl);
  rounds = λ u. refl;
  marks = λ i. refl;
}

group_rests : (d : AdcTable) (s : AdcState) (g : ℕ) (call : GroupCall) (o : Option ErrorName) → (s.initialised ≡ false → is_some o ≡ true) → Rests s → Rests (acts_by d s (Group g call) o).state
group_rests d s g call None found rests off = absurd (none (found (sym (group_on d s g call) ∙ off)))
  where
    none : is_some {T = ErrorName} None ≡ true → ⊥
    none e = cc
group_rests d s g call (Some e) found rests off = rests off

whole_rests : (d : AdcTable) (s : AdcState) (o : Option ErrorName) → Rests s → Rests (acts_by d s Init o).state
whole_rests d s None rests off = absurd (cc off)
whole_rests d s (Some e) rests off = rests off

end_rests : (d : AdcTable) (s : AdcState) (o : Option ErrorName) → Rests s → Rests (acts_by d s DeInit o).state
end_rests d s None rests off = closed_rests s
end_rests d s (Some e) rests off = rests off

act_rests : (d : AdcTable) (s : AdcState) (call : Call) → Rests s → Rests (acts d s call).state
act_rests d s Init rests = whole_rests d s (error_by d Init (circumstances d s Init)) rests
act_rests d s DeInit rests = end_rests d s (error_by d DeInit (circumstances d s DeInit)) rests
act_rests d s (Group g call) rests =
    group_rests d s g call (error_by d (Group g call) (circumstances d s (Group g call))) (λ off. uninit_found d g call (circumstances d s (Group g call)) (ap (λ b. not b) off)) rests

-- ---- the rest

-- a serving leaves the module initialised, and nothing is served while it isn't
triggered_on : (s : AdcState) (o : Option ℕ) → (requested_unless_turn s o).initialised ≡ s.initialised
triggered_on s None = refl
triggered_on s (Some g) = either (λ t. t.initialised ≡ s.initialised) (has_turn s g) s (requested s g) refl refl

turn_on : (d : AdcTable) (s : AdcState) (g n : ℕ) (full continuous : Bool) → (after_round d s g n full continuous).initialised ≡ s.initialised
turn_on d s g n true continuous = unmarked_on _ (trigger_input (group_of d g))
turn_on d s g n false true = refl
turn_on d s g n false false = refl

round_on : (d : AdcTable) (w : World) (s : AdcState) (u : ℕ) (q : Option Round) → (served_round d w s u q).state.initialised ≡ s.initialised
round_on d w s u None = refl
round_on d w s u (Some r) = turn_on d _ r.group r.request.number _ _

served_on : (d : AdcTable) (w : World) (s : AdcState) (l : ℕ) → (served d w s l).state.initialised ≡ s.initialised
served_on d w s l =
    either (λ (x : Outcome AdcState). x.state.initialised ≡ s.initialised) (is_unit_line l) (served_round d w s (l - 24) (round_at s (l - 24))) (outcome (served_trigger d s (l - 28)) tells_nothing)
    (round_on d w s (l - 24) (round_at s (l - 24)))
    (triggered_on (with_mark s (l - 28) false) (listener d s (l - 28)))

serve_rests : (d : AdcTable) (w : World) (s : AdcState) (l : ℕ) (on b : Bool) (out : Outcome AdcState) → s.initialised ≡ on → cond (on && b) (Some (served d w s l)) None ≡ Some out → Rests out.state
serve_rests d w s l false b out at e = absurd (cc e)
serve_rests d w s l true false out at e = absurd (cc e)
serve_rests d w s l true true out at e = came Rests (served d w s l) out e (λ off. absurd (both (sym (served_on d w s l) ∙ off)))
  where
    both : s.initialised ≡ false → ⊥
    both off = cc

-- nothing starts at rest
next_waits : (d : AdcTable) (s : AdcState) (u g : ℕ) → IsAtRest s → next_group d s u ≡ Some g → ⊥
next_waits d s u g rest e = both (is_on u (group_of d g)) (is_some (group_at s g).waiting) (next_is d s u g e).waits (ap (λ q. is_some q) (rest.waiting g))
  where
    both : (a b : Bool) → (a && b) ≡ true → b ≡ false → ⊥
    both true b x y = cc
    both false b x y = cc

next_of : (q : Option Round) (o : Option ℕ) (g : ℕ) → starts_by q o ≡ Some g → o ≡ Some g
next_of None o g e = e
next_of (Some r) o g e = absurd (cc e)

start_rests : (d : AdcTable) (w : World) (s : AdcState) (u : ℕ) (o : Option ℕ) (out : Outcome AdcState) → ((g : ℕ) → o ≡ Some g → next_group d s u ≡ Some g) → Rests s → starting w s u o ≡ Some out → Rests out.state
start_rests d w s u None out next rests e = absurd (cc e)
start_rests d w s u (Some g) out next rests e = came Rests (outcome (started w s u g) tells_nothing) out e (λ off. absurd (next_waits d s u g (rests off) (next g refl)))

starts_rests : (d : AdcTable) (w : World) (s : AdcState) (o : Option ℕ) (out : Outcome AdcState) → Rests s → starts_on d w s o ≡ Some out → Rests out.state
starts_rests d w s None out rests e = absurd (cc e)
starts_rests d w s (Some u) out rests e = start_rests d w s u (starts d s u) out (λ g f. next_of (round_at s u) (next_group d s u) g f) rests e

abort_rests : (d : AdcTable) (w : World) (s : AdcState) (u : ℕ) (o : Option Round) (out : Outcome AdcState) → ((r : Round) → o ≡ Some r → round_at s u ≡ Some r) → Rests s → aborting d w s u o ≡ Some out → Rests out.state
abort_rests d w s u None out has rests e = absurd (cc e)
abort_rests d w s u (Some r) out has rests e = came Rests (outcome (aborted d w s u r) tells_nothing) out e (λ off. absurd (none (has r refl) ((rests off).rounds u)))
  where
    none : round_at s u ≡ Some r → round_at s u ≡ None → ⊥
    none x y = cc

aborts_rests : (d : AdcTable) (w : World) (s : AdcState) (o : Option ℕ) (out : Outcome AdcState) → Rests s → aborts_on d w s o ≡ Some out → Rests out.state
aborts_rests d w s None out rests e = absurd (cc e)
aborts_rests d w s (Some u) out rests e = abort_rests d w s u (aborts d w s u) out (λ r f. abort_is d w s u (round_at s u) r f) rests e

-- no group listens at rest
none_listens : (d : AdcTable) (s : AdcState) (i : ℕ) (gs : List ℕ) → IsAtRest s → listener_among d s i gs ≡ None
none_listens d s i [] rest = refl
none_listens d s i (g ∷ gs) rest =
    ap (λ b. cond b (Some g) (listener_among d s i gs)) (deaf (is_input i (trigger_input (group_of d g))) (group_at s g).trigger (rest.triggers g)) ∙ none_listens d s i gs rest
  where
    deaf : (a b : Bool) → b ≡ false → (a && b) ≡ false
    deaf true b e = e
    deaf false b e = refl

pulse_rests : (d : AdcTable) (s : AdcState) (i : ℕ) (b : Bool) → is_some (listener d s i) ≡ b → Rests s → Rests (cond b (with_mark s i true) s)
pulse_rests d s i false at rests off = rests off
pulse_rests d s i true at rests off = absurd (none (ap (λ q. is_some q) (none_listens d s i all_groups (rests off))) at)
  where
    none : is_some (listener d s i) ≡ false → is_some (listener d s i) ≡ true → ⊥
    none x y = cc

moved_rests : (d : AdcTable) (s : AdcState) (order : Order) → Rests s → Rests (moved d s order)
moved_rests d s (orders.Trigger i) rests = pulse_rests d s i (is_some (listener d s i)) refl rests
moved_rests d s _ rests = rests

first_rests : IsAtRest first_state
first_rests = record { waiting = λ g. refl; triggers = λ g. refl; rounds = λ u. refl; marks = λ i. refl }

happens_rests : (d : AdcTable) (w : World) (s : AdcState) (x : Happening Call) (out : Outcome AdcState) → Rests s → happens d w s x ≡ Some out → Rests out.state
happens_rests d w s (Acts call times) out rests e = came Rests (acts d s call) out e (act_rests d s call rests)
happens_rests d w s (Serves l received) out rests e = serve_rests d w s l s.initialised _ out refl e
happens_rests d w s (Starts u made_by received) out rests e = starts_rests d w s (number_of u) out rests e
happens_rests d w s (Aborts u) out rests e = aborts_rests d w s (number_of u) out rests e
happens_rests d w s (Moves order) out rests e = came Rests (outcome (moved d s order) tells_nothing) out e (moved_rests d s order rests)
happens_rests d w s (Restarts reason) out rests e = came Rests (outcome first_state tells_nothing) out e (λ off. first_rests)

-- ---- runs

after_rests : (s : AdcState) (o : Option (Outcome AdcState)) → Rests s → ((out : Outcome AdcState) → o ≡ Some out → Rests out.state) → Rests (state_by s o)
after_rests s None rests came = rests
after_rests s (Some out) rests came = came out refl

run_rests : (d : AdcTable) (s : AdcState) (steps : List Step) → Rests s → Rests (state_after d s steps)
run_rests d s [] rests = rests
run_rests d s (x ∷ xs) rests = run_rests d (state_by s (happens d x.world s x.happening)) xs (after_rests s (happens d x.world s x.happening) rests (λ out e. happens_rests d x.world s x.happening out rests e))

pub module_rests : (d : AdcTable) (steps : List Step) → (state_after d first_state steps).initialised ≡ false → IsAtRest (state_after d first_state steps)
module_rests d steps = run_rests d first_state steps (λ off. first_rests)
