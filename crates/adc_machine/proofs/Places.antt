-- Where results are stored, and what leaves them.
use Rattle.std.proofs.Common.{◌≡◌, ◌≢◌, ℕ, zero, suc, ◌+◌, ◌-◌, ◌*◌, ◌<◌, Bool, true, false, cond, ◌&&◌, ◌==◌, List, [], ◌∷◌, length, Option, Some, None, refl, sym, ◌∙◌, ap, subst, arith}
use Rattle.std.specs.Prelude.{slice_get}
use Rattle.std.proofs.Math.Nat.{suc-mul}
use Rattle.std.proofs.lemmas.Bool.{and_from, and_left, and_right}
use Rattle.mcal_base.specs.facts.Numbers.{eq_other, eq_self}
use Rattle.mcal_base.specs.declared.error_name.ErrorName.{ErrorName}
use Rattle.mcal_base.specs.declared.directive.Order.{Order}
use Rattle.mcal_base.specs.declared.directive.Order.TheVariants as orders
use Rattle.run_model.specs.World.{World, with_at}
use Rattle.run_model.specs.Machine.{Happening, Acts, Serves, Starts, Aborts, Moves, Restarts, Outcome, outcome, tells_nothing}
use Rattle.adc_machine.specs.Groups.{GroupState, Status, Idle, Busy, Completed, StreamCompleted, Round, Results, values_of, samples_of, is_continuous, is_full, place_in, stored_from, is_same, with_round_of, held_in}
use Rattle.adc_machine.specs.Laws.{IsStored, StoresNothing}
use Rattle.adc_machine.specs.Machine.{acts, acts_by, circumstances, group_work, happens, ready, served, served_round, after_round, with_values, is_unit_line, starting, starts_on, aborting, aborts_on, moved, reads, points}
use Rattle.adc_machine.specs.Checks.{error_by}
use Rattle.adc_machine.specs.Table.{group_of}
use Rattle.adc_machine.specs.Triggers.{without_mark, listener, with_mark, requested_unless_turn, served_trigger}
use Rattle.adc_machine.specs.Turns.{AdcState, group_at, round_at, with_group, with_round, has_turn, requested, number_of, starts, aborts}
use Rattle.adc_machine.specs.declared.call.Call.{Call}
use Rattle.adc_machine.specs.declared.call.Call.TheVariants.{Init, DeInit, Group}
use Rattle.adc_machine.specs.declared.call.GroupCall.{GroupCall}
use Rattle.adc_machine.specs.declared.call.GroupCall.TheVariants.{SetupResultBuffer, StartGroupConversion, StopGroupConversion, ReadGroup, EnableHardwareTrigger, DisableHardwareTrigger, Notification, GetGroupStatus, GetStreamLastPointer}
use Rattle.adc_machine.specs.declared.call.ResultBuffer.{ResultBuffer}
use Rattle.adc_machine.specs.declared.call.ResultBuffer.TheVariants.{Zero, One}
use Rattle.adc_machine.specs.declared.table.AdcTable.{AdcTable}
use Rattle.adc_machine.specs.declared.table.Group as configured
use Rattle.adc_machine.proofs.Numbers.{allowed}
use Rattle.adc_machine.proofs.Parts.{either}

-- ---- places

-- a place that no value goes to
elsewhere : (place step : ℕ) (vs : List ℕ) (held : ℕ → ℕ) (p : ℕ) → ((j : ℕ) → j < length vs → p ≢ j * step + place) → stored_from place step vs held p ≡ held p
elsewhere place step [] held p isnt = refl
elsewhere place step (v ∷ vs) held p isnt =
    elsewhere (place + step) step vs (with_at held place v) p (λ j lt e. isnt (suc j) (omega (arith, lt)) (later j e))
    ∙ ap (λ b. cond b v (held p)) (eq_other p place (λ e. isnt 0 (omega arith) (omega (arith, e))))
  where
    later : (j : ℕ) → p ≡ j * step + (place + step) → p ≡ suc j * step + place
    later j e = omega (arith, e, suc-mul j step)

-- value j
value_at : (place step : ℕ) (vs : List ℕ) (held : ℕ → ℕ) (j v : ℕ) → 0 < step → slice_get vs j ≡ Some v → stored_from place step vs held (j * step + place) ≡ v
value_at place step [] held j v pos e = absurd (cc e)
value_at place step (x ∷ xs) held zero v pos e =
    let here : 0 * step + place ≡ place = omega arith in
    let same : x ≡ v = cc in
    ap (λ p. stored_from (place + step) step xs (with_at held place x) p) here
    ∙ elsewhere (place + step) step xs (with_at held place x) place (λ j lt f. omega (arith, pos, f))
    ∙ ap (λ b. cond b x (held place)) (eq_self place)
    ∙ same
value_at place step (x ∷ xs) held (suc j) v pos e =
    let there : suc j * step + place ≡ j * step + (place + step) = omega (arith, suc-mul j step) in
    ap (λ p. stored_from (place + step) step xs (with_at held place x) p) there ∙ value_at (place + step) step xs (with_at held place x) j v pos e

same_buffer : (b : ResultBuffer) → is_same b b ≡ true
same_buffer Zero = refl
same_buffer One = refl

other_buffer : (c b : ResultBuffer) → c ≢ b → is_same c b ≡ false
other_buffer Zero Zero ne = absurd (ne refl)
other_buffer Zero One ne = refl
other_buffer One Zero ne = refl
other_buffer One One ne = absurd (ne refl)

-- a round that is stored
pub stored : (k : Option configured.Group) (r g : ℕ) (b : ResultBuffer) (vs : List ℕ) (held : Results) → 0 < samples_of k → IsStored k r g b vs held (with_round_of k r g (Some b) vs held)
stored k r g b vs held pos = record {
  values_at = λ j v e. here (j * samples_of k + place_in k r) ∙ value_at (place_in k r) (samples_of k) vs (held_in held g b) j v pos e;
  places = λ p isnt. here p ∙ elsewhere (place_in k r) (samples_of k) vs (held_in held g b) p isnt;
  groups = λ h c p ne. away h c p (and_left (h == g) (is_same c b) (eq_other h g ne));
  buffers = λ c p ne. away g c p (and_right (g == g) (is_same c b) (other_buffer c b ne));
}
  where
    new : ℕ → ℕ
    new = stored_from (place_in k r) (samples_of k) vs (held_in held g b)

    here : (p : ℕ) → held_in (with_round_of k r g (Some b) vs held) g b p ≡ new p
    here p = ap (λ q. (cond q new (held_in held g b)) p) (and_from (g == g) (is_same b b) (eq_self g) (same_buffer b))

    away : (h : ℕ) (c : ResultBuffer) (p : ℕ) → (h == g && is_same c b) ≡ false → held_in (with_round_of k r g (Some b) vs held) h c p ≡ held_in held h c p
    away h c p e = ap (λ q. (cond q new (held_in held h c)) p) e

-- ---- what leaves the results

unmarked_results : (s : AdcState) (o : Option ℕ) → (without_mark s o).results ≡ s.results
unmarked_results s None = refl
unmarked_results s (Some i) = refl

turn_results : (d : AdcTable) (s : AdcState) (g n : ℕ) (full continuous : Bool) → (after_round d s g n full continuous).results ≡ s.results
turn_results d s g n true continuous = unmarked_results _ _
turn_results d s g n false true = refl
turn_results d s g n false false = refl

reads_results : (d : AdcTable) (s : AdcState) (g : ℕ) (x : Status) → (reads d s g x).state.results ≡ s.results
reads_results d s g Idle = refl
reads_results d s g Busy = refl
reads_results d s g Completed = refl
reads_results d s g StreamCompleted = refl

points_results : (d : AdcTable) (s : AdcState) (g : ℕ) (x : Status) → (points d s g x).state.results ≡ s.results
points_results d s g Idle = refl
points_results d s g Busy = refl
points_results d s g Completed = refl
points_results d s g StreamCompleted = refl

group_results : (d : AdcTable) (s : AdcState) (g : ℕ) (call : GroupCall) → (group_work d s g call).state.results ≡ s.results
group_results d s g (SetupResultBuffer b) = refl
group_results d s g StartGroupConversion = refl
group_results d s g EnableHardwareTrigger = refl
group_results d s g StopGroupConversion = unmarked_results _ _
group_results d s g DisableHardwareTrigger = unmarked_results _ _
group_results d s g ReadGroup = reads_results d s g (group_at s g).status
group_results d s g (Notification on) = refl
group_results d s g GetGroupStatus = refl
group_results d s g GetStreamLastPointer = points_results d s g (group_at s g).status

act_results : (d : AdcTable) (s : AdcState) (call : Call) (o : Option ErrorName) → (acts_by d s call o).state.results ≡ s.results
act_results d s Init None = refl
act_results d s DeInit None = refl
act_results d s (Group g call) None = group_results d s g call
act_results d s call (Some e) = refl

start_results : (w : World) (s : AdcState) (u : ℕ) (o : Option ℕ) (out : Outcome AdcState) → starting w s u o ≡ Some out → out.state.results ≡ s.results
start_results w s u None out e = absurd (cc e)
start_results w s u (Some g) out e = is_out (cc e)
  where
    is_out : outcome (Rattle.adc_machine.specs.Turns.started w s u g) tells_nothing ≡ out → out.state.results ≡ s.results
    is_out same = ap (λ (x : Outcome AdcState). x.state.results) (sym same)

starts_results : (d : AdcTable) (w : World) (s : AdcState) (o : Option ℕ) (out : Outcome AdcState) → starts_on d w s o ≡ Some out → out.state.results ≡ s.results
starts_results d w s None out e = absurd (cc e)
starts_results d w s (Some u) out e = start_results w s u (starts d s u) out e

abort_results : (d : AdcTable) (w : World) (s : AdcState) (u : ℕ) (o : Option Round) (out : Outcome AdcState) → aborting d w s u o ≡ Some out → out.state.results ≡ s.results
abort_results d w s u None out e = absurd (cc e)
abort_results d w s u (Some r) out e =
    let same : outcome (Rattle.adc_machine.specs.Turns.aborted d w s u r) tells_nothing ≡ out = cc in
    ap (λ (x : Outcome AdcState). x.state.results) (sym same)

aborts_results : (d : AdcTable) (w : World) (s : AdcState) (o : Option ℕ) (out : Outcome AdcState) → aborts_on d w s o ≡ Some out → out.state.results ≡ s.results
aborts_results d w s None out e = absurd (cc e)
aborts_results d w s (Some u) out e = abort_results d w s u (aborts d w s u) out e

pulse_results : (s : AdcState) (i : ℕ) (b : Bool) → (cond b (with_mark s i true) s).results ≡ s.results
pulse_results s i true = refl
pulse_results s i false = refl

moved_results : (d : AdcTable) (s : AdcState) (order : Order) → (moved d s order).results ≡ s.results
moved_results d s (orders.Trigger i) = pulse_results s i _
moved_results d s _ = refl

-- the state of what came
state_is : (x out : Outcome AdcState) (r : Results) → Some x ≡ Some out → x.state.results ≡ r → out.state.results ≡ r
state_is x out r e f =
    let same : x ≡ out = cc in
    ap (λ (y : Outcome AdcState). y.state.results) (sym same) ∙ f

-- a serving of a trigger's line
request_results : (s : AdcState) (o : Option ℕ) → (requested_unless_turn s o).results ≡ s.results
request_results s None = refl
request_results s (Some g) = either (λ (t : AdcState). t.results ≡ s.results) (has_turn s g) s (requested s g) refl refl

serving_results : (d : AdcTable) (w : World) (s : AdcState) (l received : ℕ) (out : Outcome AdcState) → is_unit_line l ≡ false → happens d w s (Serves l received) ≡ Some out → out.state.results ≡ s.results
serving_results d w s l received out line e =
    let is_served : served_trigger d s (l - 28) ≡ out.state =
    ap (λ b. (cond b (served_round d w s (l - 24) (round_at s (l - 24))) (outcome (served_trigger d s (l - 28)) tells_nothing)).state) (sym line)
    ∙ allowed (λ t. (served d w s l).state ≡ t) (ready d w s l) (served d w s l) out e refl in
    ap (λ (t : AdcState). t.results) (sym is_served) ∙ request_results (with_mark s (l - 28) false) (listener d s (l - 28))

pub leaves_results : (d : AdcTable) (w : World) (s : AdcState) (h : Happening Call) (out : Outcome AdcState) → happens d w s h ≡ Some out → StoresNothing h → out.state.results ≡ s.results
leaves_results d w s (Acts call times) out e isnt = state_is (acts d s call) out s.results e (act_results d s call (error_by d call (circumstances d s call)))
leaves_results d w s (Serves l received) out e isnt = serving_results d w s l received out isnt e
leaves_results d w s (Starts u made_by received) out e isnt = starts_results d w s (number_of u) out e
leaves_results d w s (Aborts u) out e isnt = aborts_results d w s (number_of u) out e
leaves_results d w s (Moves order) out e isnt = state_is (outcome (moved d s order) tells_nothing) out s.results e (moved_results d s order)
leaves_results d w s (Restarts reason) out e isnt = absurd isnt

-- ---- a serving of a unit's line

allowed_is : (b : Bool) (x out : Outcome AdcState) → cond b (Some x) None ≡ Some out → x ≡ out
allowed_is true x out e = cc
allowed_is false x out e = absurd (cc e)

pub serving_stores : (d : AdcTable) (w : World) (s : AdcState) (l received : ℕ) (r : Round) (b : ResultBuffer) (out : Outcome AdcState) → is_unit_line l ≡ true → round_at s (l - 24) ≡ Some r
    → (group_at s r.group).chosen ≡ Some b → 0 < samples_of (group_of d r.group) → happens d w s (Serves l received) ≡ Some out
    → IsStored (group_of d r.group) (length (group_at s r.group).rounds) r.group b (values_of w (group_of d r.group) r) s.results out.state.results
serving_stores d w s l received r b out line is_round is_chosen pos e =
    let k : Option configured.Group = group_of d r.group in
    let x : GroupState = group_at s r.group in
    let values : List ℕ = values_of w k r in
    let before : AdcState = record (with_group (with_round s (l - 24) None) r.group (with_values k x values)) { results = with_round_of k (length x.rounds) r.group x.chosen values s.results } in
    let is_served : (served_round d w s (l - 24) (Some r)).state.results ≡ out.state.results =
    ap (λ q. (served_round d w s (l - 24) q).state.results) (sym is_round)
    ∙ ap (λ q. (cond q (served_round d w s (l - 24) (round_at s (l - 24))) (outcome (Rattle.adc_machine.specs.Triggers.served_trigger d s (l - 28)) tells_nothing)).state.results) (sym line)
    ∙ ap (λ (y : Outcome AdcState). y.state.results) (allowed_is (ready d w s l) (served d w s l) out e) in
    let is_put : with_round_of k (length x.rounds) r.group (Some b) values s.results ≡ out.state.results =
    ap (λ c. with_round_of k (length x.rounds) r.group c values s.results) (sym is_chosen)
    ∙ sym (turn_results d before r.group r.request.number (is_full k (length x.rounds + 1)) (is_continuous k))
    ∙ is_served in
    subst (λ after. IsStored k (length x.rounds) r.group b values s.results after) is_put (stored k (length x.rounds) r.group b values s.results pos)
