-- Which happenings make requests, and that no number falls.
use Rattle.std.proofs.Common.{◌≡◌, ℕ, ◌+◌, ◌-◌, ◌<◌, ◌≤◌, Bool, true, false, cond, ◌&&◌, ◌||◌, ◌==◌, nat_lt, not, [], Option, Some, None, refl, sym, ◌∙◌, ap, subst, arith}
use Rattle.std.proofs.lemmas.Bool.Decides.{nat_tests}
use Rattle.mcal_base.specs.declared.error_name.ErrorName.{ErrorName}
use Rattle.mcal_base.specs.declared.directive.Order.{Order}
use Rattle.mcal_base.specs.declared.directive.Order.TheVariants as orders
use Rattle.run_model.specs.World.{World}
use Rattle.run_model.specs.Machine.{Happening, Acts, Serves, Starts, Aborts, Moves, Restarts, Outcome, outcome, tells_nothing}
use Rattle.adc_machine.specs.Groups.{Status, Idle, Busy, Completed, StreamCompleted, Round, trigger_input}
use Rattle.adc_machine.specs.Laws.{HasRequested, IsNoReset}
use Rattle.adc_machine.specs.Machine.{acts, acts_by, circumstances, group_work, happens, ready, served, served_round, after_round, is_unit_line, is_trigger_line, starting, starts_on, aborting, aborts_on, moved, begun_stream, reads, points}
use Rattle.adc_machine.specs.Checks.{error_by}
use Rattle.adc_machine.specs.Table.{group_of}
use Rattle.adc_machine.specs.Triggers.{listener, with_mark, without_mark, requested_unless_turn, served_trigger}
use Rattle.adc_machine.specs.Turns.{AdcState, group_at, round_at, requested, has_turn, number_of, starts, started, aborts, aborted}
use Rattle.adc_machine.specs.declared.call.Call.{Call}
use Rattle.adc_machine.specs.declared.call.Call.TheVariants.{Init, DeInit, Group}
use Rattle.adc_machine.specs.declared.call.GroupCall.{GroupCall}
use Rattle.adc_machine.specs.declared.call.GroupCall.TheVariants.{SetupResultBuffer, StartGroupConversion, StopGroupConversion, ReadGroup, EnableHardwareTrigger, DisableHardwareTrigger, Notification, GetGroupStatus, GetStreamLastPointer}
use Rattle.adc_machine.specs.declared.table.AdcTable.{AdcTable}
use Rattle.adc_machine.proofs.Numbers.{came, allowed}
use Rattle.adc_machine.proofs.Parts.{either, group_same}

-- ---- what makes a request

makes : (s : AdcState) (g : ℕ) → g < 16 → HasRequested s (requested s g) g
makes s g lt = record { waits = ap (λ x. x.waiting) (group_same s g (record (group_at s g) { waiting = Some (record { number = s.requests + 1; kept = [] }) }) lt); last = refl }

-- the same in a state that has made as many requests
makes_from : (s t : AdcState) (g : ℕ) → g < 16 → t.requests ≡ s.requests → HasRequested s (requested t g) g
makes_from s t g lt same = record {
  waits = (makes t g lt).waits ∙ ap (λ n. Some (record { number = n + 1; kept = [] })) same;
  last = ap (λ n. n + 1) same;
}

start_makes : (d : AdcTable) (s : AdcState) (g : ℕ) (o : Option ErrorName) → g < 16 → (acts_by d s (Group g StartGroupConversion) o).told.error ≡ None → HasRequested s (acts_by d s (Group g StartGroupConversion) o).state g
start_makes d s g None lt e = makes_from s (begun_stream s g false) g lt refl
start_makes d s g (Some x) lt e = absurd (cc e)

pub start_requests : (d : AdcTable) (w : World) (s : AdcState) (g : ℕ) (times : ℕ → ℕ) (out : Outcome AdcState) → g < 16 → happens d w s (Acts (Group g StartGroupConversion) times) ≡ Some out → out.told.error ≡ None → HasRequested s out.state g
start_requests d w s g times out lt e fine =
    let same : acts d s (Group g StartGroupConversion) ≡ out = cc in
    let call : Call = Group g StartGroupConversion in
    subst (λ (y : Outcome AdcState). HasRequested s y.state g) same (start_makes d s g (error_by d call (circumstances d s call)) lt (ap (λ (y : Outcome AdcState). y.told.error) same ∙ fine))

-- a trigger's line is none of a unit
other_line : (l : ℕ) → is_trigger_line l ≡ true → is_unit_line l ≡ false
other_line l e = by_test l (nat_lt l 28) refl e
  where
    by_test : (l : ℕ) (b : Bool) → nat_lt l 28 ≡ b → (not b && nat_lt l 32) ≡ true → (l == 24 || l == 25) ≡ false
    by_test l true lt f = absurd (cc f)
    by_test l false lt f = neither (l == 24) (l == 25) (grind (arith, nat_tests)) (grind (arith, nat_tests))
      where
        neither : (a b : Bool) → a ≡ false → b ≡ false → (a || b) ≡ false
        neither a b x y = rw (x, y) refl

-- the state after such a line was served
trigger_state : (d : AdcTable) (w : World) (s : AdcState) (l received : ℕ) (out : Outcome AdcState) → is_trigger_line l ≡ true → happens d w s (Serves l received) ≡ Some out → served_trigger d s (l - 28) ≡ out.state
trigger_state d w s l received out line e =
    ap (λ b. (cond b (served_round d w s (l - 24) (round_at s (l - 24))) (outcome (served_trigger d s (l - 28)) tells_nothing)).state) (sym (other_line l line))
    ∙ allowed (λ t. (served d w s l).state ≡ t) (ready d w s l) (served d w s l) out e refl

pub trigger_requests : (d : AdcTable) (w : World) (s : AdcState) (l received g : ℕ) (out : Outcome AdcState) → g < 16 → is_trigger_line l ≡ true → listener d s (l - 28) ≡ Some g → has_turn s g ≡ false
    → happens d w s (Serves l received) ≡ Some out → HasRequested s out.state g
trigger_requests d w s l received g out lt line listens turn e =
    let marked : AdcState = with_mark s (l - 28) false in
    let is_made : requested marked g ≡ out.state =
    ap (λ b. cond b marked (requested marked g)) (sym turn) ∙ ap (λ o. requested_unless_turn marked o) (sym listens) ∙ trigger_state d w s l received out line e in
    subst (λ t. HasRequested s t g) is_made (makes_from s marked g lt refl)

pub trigger_drops : (d : AdcTable) (w : World) (s : AdcState) (l received g : ℕ) (out : Outcome AdcState) → is_trigger_line l ≡ true → listener d s (l - 28) ≡ Some g → has_turn s g ≡ true
    → happens d w s (Serves l received) ≡ Some out → out.state ≡ with_mark s (l - 28) false
trigger_drops d w s l received g out line listens turn e =
    let marked : AdcState = with_mark s (l - 28) false in
    sym (ap (λ b. cond b marked (requested marked g)) (sym turn) ∙ ap (λ o. requested_unless_turn marked o) (sym listens) ∙ trigger_state d w s l received out line e)

-- ---- that no number falls

abbrev Grown : ℕ → AdcState → Type 0
Grown n t = n ≤ t.requests

unmarked_grows : (n : ℕ) (s : AdcState) (o : Option ℕ) → Grown n s → Grown n (without_mark s o)
unmarked_grows n s None h = h
unmarked_grows n s (Some i) h = h

triggered_grows : (n : ℕ) (s : AdcState) (o : Option ℕ) → Grown n s → Grown n (requested_unless_turn s o)
triggered_grows n s None h = h
triggered_grows n s (Some g) h = either (Grown n) (has_turn s g) s (requested s g) h (omega (arith, h))

turn_grows : (d : AdcTable) (m : ℕ) (s : AdcState) (g n : ℕ) (full continuous : Bool) → Grown m s → Grown m (after_round d s g n full continuous)
turn_grows d m s g n true continuous h = unmarked_grows m _ (trigger_input (group_of d g)) h
turn_grows d m s g n false true h = h
turn_grows d m s g n false false h = h

reads_grows : (d : AdcTable) (n : ℕ) (s : AdcState) (g : ℕ) (x : Status) → Grown n s → Grown n (reads d s g x).state
reads_grows d n s g Idle h = h
reads_grows d n s g Busy h = h
reads_grows d n s g Completed h = h
reads_grows d n s g StreamCompleted h = h

points_grows : (d : AdcTable) (n : ℕ) (s : AdcState) (g : ℕ) (x : Status) → Grown n s → Grown n (points d s g x).state
points_grows d n s g Idle h = h
points_grows d n s g Busy h = h
points_grows d n s g Completed h = h
points_grows d n s g StreamCompleted h = h

group_grows : (d : AdcTable) (n : ℕ) (s : AdcState) (g : ℕ) (call : GroupCall) → Grown n s → Grown n (group_work d s g call).state
group_grows d n s g (SetupResultBuffer b) h = h
group_grows d n s g StartGroupConversion h = omega (arith, h)
group_grows d n s g EnableHardwareTrigger h = h
group_grows d n s g StopGroupConversion h = unmarked_grows n _ (trigger_input (group_of d g)) h
group_grows d n s g DisableHardwareTrigger h = unmarked_grows n _ (trigger_input (group_of d g)) h
group_grows d n s g ReadGroup h = reads_grows d n s g (group_at s g).status h
group_grows d n s g (Notification on) h = h
group_grows d n s g GetGroupStatus h = h
group_grows d n s g GetStreamLastPointer h = points_grows d n s g (group_at s g).status h

act_grows : (d : AdcTable) (n : ℕ) (s : AdcState) (call : Call) (o : Option ErrorName) → Grown n s → Grown n (acts_by d s call o).state
act_grows d n s Init None h = h
act_grows d n s DeInit None h = h
act_grows d n s (Group g call) None h = group_grows d n s g call h
act_grows d n s call (Some e) h = h

round_grows : (d : AdcTable) (w : World) (n : ℕ) (s : AdcState) (u : ℕ) (q : Option Round) → Grown n s → Grown n (served_round d w s u q).state
round_grows d w n s u None h = h
round_grows d w n s u (Some r) h = turn_grows d n _ r.group r.request.number _ _ h

served_grows : (d : AdcTable) (w : World) (n : ℕ) (s : AdcState) (l : ℕ) → Grown n s → Grown n (served d w s l).state
served_grows d w n s l h =
    either (λ (x : Outcome AdcState). Grown n x.state) (is_unit_line l) (served_round d w s (l - 24) (round_at s (l - 24))) (outcome (served_trigger d s (l - 28)) tells_nothing)
    (round_grows d w n s (l - 24) (round_at s (l - 24)) h)
    (triggered_grows n (with_mark s (l - 28) false) (listener d s (l - 28)) h)

start_grows : (w : World) (n : ℕ) (s : AdcState) (u : ℕ) (o : Option ℕ) (out : Outcome AdcState) → Grown n s → starting w s u o ≡ Some out → Grown n out.state
start_grows w n s u None out h e = absurd (cc e)
start_grows w n s u (Some g) out h e = came (Grown n) (outcome (started w s u g) tells_nothing) out e h

starts_grows : (d : AdcTable) (w : World) (n : ℕ) (s : AdcState) (o : Option ℕ) (out : Outcome AdcState) → Grown n s → starts_on d w s o ≡ Some out → Grown n out.state
starts_grows d w n s None out h e = absurd (cc e)
starts_grows d w n s (Some u) out h e = start_grows w n s u (starts d s u) out h e

abort_grows : (d : AdcTable) (w : World) (n : ℕ) (s : AdcState) (u : ℕ) (o : Option Round) (out : Outcome AdcState) → Grown n s → aborting d w s u o ≡ Some out → Grown n out.state
abort_grows d w n s u None out h e = absurd (cc e)
abort_grows d w n s u (Some r) out h e = came (Grown n) (outcome (aborted d w s u r) tells_nothing) out e h

aborts_grows : (d : AdcTable) (w : World) (n : ℕ) (s : AdcState) (o : Option ℕ) (out : Outcome AdcState) → Grown n s → aborts_on d w s o ≡ Some out → Grown n out.state
aborts_grows d w n s None out h e = absurd (cc e)
aborts_grows d w n s (Some u) out h e = abort_grows d w n s u (aborts d w s u) out h e

moved_grows : (d : AdcTable) (n : ℕ) (s : AdcState) (order : Order) → Grown n s → Grown n (moved d s order)
moved_grows d n s (orders.Trigger i) h = either (Grown n) _ (with_mark s i true) s h h
moved_grows d n s _ h = h

pub requests_grow : (d : AdcTable) (w : World) (s : AdcState) (x : Happening Call) (out : Outcome AdcState) → happens d w s x ≡ Some out → IsNoReset x → s.requests ≤ out.state.requests
requests_grow d w s (Acts call times) out e kind = came (Grown s.requests) (acts d s call) out e (act_grows d s.requests s call (error_by d call (circumstances d s call)) (omega arith))
requests_grow d w s (Serves l received) out e kind = allowed (Grown s.requests) (ready d w s l) (served d w s l) out e (served_grows d w s.requests s l (omega arith))
requests_grow d w s (Starts u made_by received) out e kind = starts_grows d w s.requests s (number_of u) out (omega arith) e
requests_grow d w s (Aborts u) out e kind = aborts_grows d w s.requests s (number_of u) out (omega arith) e
requests_grow d w s (Moves order) out e kind = came (Grown s.requests) (outcome (moved d s order) tells_nothing) out e (moved_grows d s.requests s order (omega arith))
requests_grow d w s (Restarts reason) out e kind = absurd kind
