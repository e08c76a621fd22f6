-- A group has one turn at most: it doesn't wait while a unit has a round of it.
use Rattle.std.proofs.Common.{◌≡◌, ◌≢◌, ℕ, zero, suc, ◌+◌, ◌-◌, ◌%◌, ◌<◌, ◌==◌, Bool, true, false, cond, ◌&&◌, ◌||◌, not, List, [], ◌∷◌, length, Option, Some, None, refl, sym, ◌∙◌, ap, subst, ◌⊎◌, inl, inr, arith}
use Rattle.std.specs.Prelude.{is_some, nat_le}
use Rattle.std.proofs.lemmas.Bool.Decides.{nat_tests}
use Rattle.std.proofs.lemmas.Bool.{and_parts}
use Rattle.mcal_base.specs.det_errors.Rows.{first_error}
use Rattle.mcal_base.specs.declared.error_name.ErrorName.{ErrorName}
use Rattle.mcal_base.specs.declared.service.Service.TheVariants.{AdcStartGroupConversion}
use Rattle.run_model.specs.World.{World}
use Rattle.run_model.specs.Machine.{Happening, Acts, Serves, Starts, Aborts, Moves, Restarts, Outcome}
use Rattle.adc_machine.specs.Checks.{error_by, is_triggered}
use Rattle.adc_machine.specs.Groups.{Status, Idle, Busy, Completed, StreamCompleted, GroupState, Round, trigger_input, is_continuous, is_full, place_in, samples_of, status_after, status_read, ends_with_stream}
use Rattle.adc_machine.specs.Machine.{acts, acts_by, group_work, circumstances, happens, served_values, after_round, with_values, is_unit_line, begun_stream, stopped, reads, read_from, points, under_way_by, is_under_way, is_start_busy, takes_one, is_unit_taken}
use Rattle.adc_machine.specs.Table.{group_of, all_groups}
use Rattle.adc_machine.specs.Triggers.{listens, listener, listener_among, is_input, has_input}
use Rattle.adc_machine.specs.Turns.{AdcState, group_at, round_at, with_group, with_round, has_turn, is_on as is_on_unit, unless_of}
use Rattle.adc_machine.specs.declared.call.Call.{Call}
use Rattle.adc_machine.specs.declared.call.Call.TheVariants.{Init, DeInit, Group}
use Rattle.adc_machine.specs.declared.call.GroupCall.{GroupCall}
use Rattle.adc_machine.specs.declared.call.GroupCall.TheVariants.{SetupResultBuffer, StartGroupConversion, StopGroupConversion, ReadGroup, EnableHardwareTrigger, DisableHardwareTrigger, Notification, GetGroupStatus, GetStreamLastPointer}
use Rattle.adc_machine.specs.declared.table.AdcTable.{AdcTable}
use Rattle.adc_machine.specs.declared.table.Group as configured
use Rattle.adc_machine.proofs.Others.{other_group}
use Rattle.adc_machine.proofs.Parts.{group_same}
use Rattle.adc_machine.proofs.Stopped.{unmarked_group, unmarked_round, off}
use Rattle.board_promises.specs.whole_runs.Runs.{is_of}
use Rattle.board_promises.specs.whole_runs.GroupRuns.{GroupEvent, requests, serves_on, call_by, is_start, round_group, requesting_group}
use Rattle.board_promises.proofs.GroupServes.{stored}
use Rattle.board_promises.proofs.GroupSteps.{seen, went, same_or_other, read_group, begun_group, stopped_is, closed_group}

-- ---- what holds

-- a group with this status has no turn: it is idle, or completed and ends with its stream
abbrev pub quiet_by : (ends : Bool) → Status → Bool
quiet_by ends Idle = true
quiet_by ends StreamCompleted = ends
quiet_by ends Busy = false
quiet_by ends Completed = false

abbrev pub is_quiet : AdcTable → ℕ → Status → Bool
is_quiet d g x = quiet_by (ends_with_stream (group_of d g)) x

-- no trigger makes a request of the group
abbrev pub IsDeaf : AdcTable → ℕ → GroupState → Type 0
IsDeaf d g x = (x.trigger ≡ false) ⊎ (is_some (trigger_input (group_of d g)) ≡ false)

pub record Single (d : AdcTable) (s : AdcState) : Type 0 where
  -- a group that a unit has a round of doesn't wait, and is on that unit
  pub alone : (g u : ℕ) (r : Round) → g < 16 → round_at s u ≡ Some r → r.group ≡ g → (group_at s g).waiting ≡ None
  pub placed : (u : ℕ) (r : Round) → round_at s u ≡ Some r → is_on_unit u (group_of d r.group) ≡ true
  pub few : (u : ℕ) (r : Round) → round_at s u ≡ Some r → u < 2
  -- a quiet group neither waits nor runs, and hears no trigger
  pub quiet : (g : ℕ) → g < 16 → is_quiet d g (group_at s g).status ≡ true → (group_at s g).waiting ≡ None
  pub still : (g u : ℕ) (r : Round) → g < 16 → is_quiet d g (group_at s g).status ≡ true → round_at s u ≡ Some r → r.group ≢ g
  pub deaf : (g : ℕ) → g < 16 → is_quiet d g (group_at s g).status ≡ true → IsDeaf d g (group_at s g)

-- ---- a request is made of a group without a turn

-- it has no turn, or is idle; and it hears its trigger, or isn't quiet afterwards
pub record MadeFree (d : AdcTable) (g : ℕ) (s : AdcState) (y : GroupState) : Type 0 where
  pub free : (has_turn s g ≡ false) ⊎ ((group_at s g).status ≡ Idle)
  pub heard : (((group_at s g).trigger ≡ true) × (is_some (trigger_input (group_of d g)) ≡ true)) ⊎ (is_quiet d g y.status ≡ false)

fine_start : (a b c e busy : Bool) → first_error AdcStartGroupConversion (a ∷ b ∷ c ∷ e ∷ busy ∷ false ∷ []) ≡ None → busy ≡ false
fine_start true b c e busy h = absurd (cc h)
fine_start false true c e busy h = absurd (cc h)
fine_start false false true e busy h = absurd (cc h)
fine_start false false false true busy h = absurd (cc h)
fine_start false false false false true h = absurd (cc h)
fine_start false false false false false h = refl

not_first : (a b : Bool) → (a || b) ≡ false → a ≡ false
not_first true b h = absurd (cc h)
not_first false b h = refl

not_under_way : (x : Status) (turn trigger : Bool) → under_way_by x turn trigger ≡ false → (turn ≡ false) ⊎ (x ≡ Idle)
not_under_way Idle turn trigger h = inr refl
not_under_way Busy turn trigger h = absurd (cc h)
not_under_way Completed turn trigger h = absurd (cc h)
not_under_way StreamCompleted turn trigger h = inl (not_first turn trigger h)

start_free : (d : AdcTable) (s : AdcState) (g : ℕ) → g < 16 → error_by d (Group g StartGroupConversion) (circumstances d s (Group g StartGroupConversion)) ≡ None → MadeFree d g s (group_at (group_work d s g StartGroupConversion).state g)
start_free d s g lt fine = record {
  free = not_under_way (group_at s g).status (has_turn s g) (group_at s g).trigger
      (not_first (is_under_way s g) (takes_one d && is_unit_taken d s (group_of d g)) (fine_start (not s.initialised) (not (is_some (group_of d g))) (is_triggered (group_of d g)) (not (is_some (group_at s g).chosen)) (is_start_busy d s g) fine));
  heard = inr (ap (λ (x : GroupState). is_quiet d g x.status) (group_same (begun_stream s g false) g (record (group_at (begun_stream s g false) g) { waiting = Some (record { number = s.requests + 1; kept = [] }) }) lt)
      ∙ ap (λ (x : GroupState). is_quiet d g x.status) (group_same s g (begun_group s g false) lt));
}

-- a call that requests a group
act_requests : (g : ℕ) (call : Call) (times : ℕ → ℕ) (o : Option ErrorName) → is_start g (call_by (Acts call times) o) ≡ true → (call ≡ Group g StartGroupConversion) × (o ≡ None)
act_requests g call times (Some x) h = absurd (cc h)
act_requests g Init times None h = absurd (cc h)
act_requests g DeInit times None h = absurd (cc h)
act_requests g (Group k StartGroupConversion) times None h = (ap (λ n. Group n StartGroupConversion) (grind (arith, nat_tests, h)), refl)
act_requests g (Group k (SetupResultBuffer b)) times None h = absurd (cc h)
act_requests g (Group k StopGroupConversion) times None h = absurd (cc h)
act_requests g (Group k ReadGroup) times None h = absurd (cc h)
act_requests g (Group k EnableHardwareTrigger) times None h = absurd (cc h)
act_requests g (Group k DisableHardwareTrigger) times None h = absurd (cc h)
act_requests g (Group k (Notification on)) times None h = absurd (cc h)
act_requests g (Group k GetGroupStatus) times None h = absurd (cc h)
act_requests g (Group k GetStreamLastPointer) times None h = absurd (cc h)

act_free_by : (d : AdcTable) (s : AdcState) (g : ℕ) (o : Option ErrorName) → g < 16 → error_by d (Group g StartGroupConversion) (circumstances d s (Group g StartGroupConversion)) ≡ o
    → (acts_by d s (Group g StartGroupConversion) o).told.error ≡ None → MadeFree d g s (group_at (acts_by d s (Group g StartGroupConversion) o).state g)
act_free_by d s g (Some x) lt at none = absurd (cc none)
act_free_by d s g None lt at none = start_free d s g lt at

act_free : (d : AdcTable) (s : AdcState) (g : ℕ) (call : Call) (times : ℕ → ℕ) → g < 16 → is_start g (call_by (Acts call times) (acts d s call).told.error) ≡ true → MadeFree d g s (group_at (acts d s call).state g)
act_free d s g call times lt h =
    let is = act_requests g call times (acts d s call).told.error h in
    subst (λ c. (acts d s c).told.error ≡ None → MadeFree d g s (group_at (acts d s c).state g)) (sym is.0)
    (λ none. act_free_by d s g (error_by d (Group g StartGroupConversion) (circumstances d s (Group g StartGroupConversion))) lt refl none) is.1

-- who listens hears
listener_hears : (d : AdcTable) (s : AdcState) (i : ℕ) (gs : List ℕ) (g : ℕ) → listener_among d s i gs ≡ Some g → listens d s i g ≡ true
listener_hears d s i [] g e = absurd (cc e)
listener_hears d s i (k ∷ gs) g e = by_test (listens d s i k) refl e (listener_hears d s i gs g)
  where
    by_test : (b : Bool) → listens d s i k ≡ b → cond b (Some k) (listener_among d s i gs) ≡ Some g → (listener_among d s i gs ≡ Some g → listens d s i g ≡ true) → listens d s i g ≡ true
    by_test true at f rest = let same : k ≡ g = cc f in subst (λ n. listens d s i n ≡ true) same at
    by_test false at f rest = rest f

input_there : (i : ℕ) (o : Option ℕ) → is_input i o ≡ true → is_some o ≡ true
input_there i None h = absurd (cc h)
input_there i (Some j) h = refl

-- a trigger's request
trigger_free : (d : AdcTable) (s : AdcState) (l g : ℕ) (y : GroupState) (o : Option ℕ) → listener d s (l - 28) ≡ o → is_of g (requesting_group s o) ≡ true → MadeFree d g s y
trigger_free d s l g y None at h = absurd (cc h)
trigger_free d s l g y (Some k) at h = by_turn (has_turn s k) refl h
  where
    by_turn : (b : Bool) → has_turn s k ≡ b → is_of g (cond b None (Some k)) ≡ true → MadeFree d g s y
    by_turn true turn f = absurd (cc f)
    by_turn false turn f =
        let same : k ≡ g = grind (arith, nat_tests, f) in
        let hears = and_parts (has_input (l - 28) (group_of d k)) (group_at s k).trigger (listener_hears d s (l - 28) all_groups k at) in
        subst (λ n. MadeFree d n s y) same (record { free = inl turn; heard = inl (hears.1, input_there (l - 28) (trigger_input (group_of d k)) hears.0) })

serve_free : (d : AdcTable) (s : AdcState) (l g : ℕ) (y : GroupState) (b : Bool) → is_unit_line l ≡ b → (not b && is_of g (cond b (round_group (round_at s (l - 24))) (requesting_group s (listener d s (l - 28))))) ≡ true → MadeFree d g s y
serve_free d s l g y true line h = absurd (cc h)
serve_free d s l g y false line h = trigger_free d s l g y (listener d s (l - 28)) refl h

first_of_or : (a : Bool) → (a || false) ≡ true → a ≡ true
first_of_or true h = refl
first_of_or false h = absurd (cc h)

pub made_free : (d : AdcTable) (w : World) (s : AdcState) (h : Happening Call) (out : Outcome AdcState) (g : ℕ) → g < 16 → happens d w s h ≡ Some out → requests g (seen d w h s out) ≡ true → MadeFree d g s (group_at out.state g)
made_free d w s (Acts call times) out g lt e request =
    went (λ (x : Outcome AdcState). is_start g (call_by (Acts call times) x.told.error) ≡ true → MadeFree d g s (group_at x.state g)) (acts d s call) out e (act_free d s g call times lt) (first_of_or _ request)
made_free d w s (Serves l received) out g lt e request = serve_free d s l g (group_at out.state g) (is_unit_line l) refl request
made_free d w s (Starts u made_by received) out g lt e request = absurd (cc request)
made_free d w s (Aborts u) out g lt e request = absurd (cc request)
made_free d w s (Moves order) out g lt e request = absurd (cc request)
made_free d w s (Restarts reason) out g lt e request = absurd (cc request)

-- ---- what an event does to the status and the trigger

pub data QuietGoes (d : AdcTable) (g : ℕ) (e : GroupEvent) (s t : AdcState) (x y : GroupState) : Type 0 where
  Carries : (is_quiet d g y.status ≡ true → is_quiet d g x.status ≡ true) → y.trigger ≡ x.trigger → QuietGoes d g e s t x y
  Loud : is_quiet d g y.status ≡ false → QuietGoes d g e s t x y
  Settles : (u : ℕ) (r : Round) → serves_on u g e ≡ true → round_at s u ≡ Some r → r.group ≡ g
      → (is_quiet d g y.status ≡ true → (is_quiet d g x.status ≡ true) ⊎ ((y.waiting ≡ x.waiting) × IsDeaf d g y)) → QuietGoes d g e s t x y
  Emptied : y.waiting ≡ None → y.trigger ≡ false → ((u : ℕ) (r : Round) → round_at t u ≡ Some r → r.group ≢ g) → QuietGoes d g e s t x y

-- a group whose status and trigger stay
pub same_quiet : (d : AdcTable) (g : ℕ) (e : GroupEvent) (s t : AdcState) (x y : GroupState) → y.status ≡ x.status → y.trigger ≡ x.trigger → QuietGoes d g e s t x y
same_quiet d g e s t x y status trigger = Carries (λ h. ap (λ z. is_quiet d g z) (sym status) ∙ h) trigger

pub left_quiet : (d : AdcTable) (g : ℕ) (e : GroupEvent) (s t : AdcState) (x y : GroupState) → y ≡ x → QuietGoes d g e s t x y
left_quiet d g e s t x y same = same_quiet d g e s t x y (ap (λ (z : GroupState). z.status) same) (ap (λ (z : GroupState). z.trigger) same)

-- one that was changed otherwise
pub kept_quiet : (d : AdcTable) (g : ℕ) (e : GroupEvent) (s t : AdcState) (x y z : GroupState) → y ≡ z → z.status ≡ x.status → z.trigger ≡ x.trigger → QuietGoes d g e s t x y
kept_quiet d g e s t x y z same status trigger = same_quiet d g e s t x y (ap (λ (k : GroupState). k.status) same ∙ status) (ap (λ (k : GroupState). k.trigger) same ∙ trigger)

read_quiet_by : (ends : Bool) (x : Status) → quiet_by ends (status_read ends x) ≡ true → quiet_by ends x ≡ true
read_quiet_by true Idle h = refl
read_quiet_by true Busy h = absurd (cc h)
read_quiet_by true Completed h = absurd (cc h)
read_quiet_by true StreamCompleted h = refl
read_quiet_by false Idle h = absurd (cc h)
read_quiet_by false Busy h = absurd (cc h)
read_quiet_by false Completed h = absurd (cc h)
read_quiet_by false StreamCompleted h = absurd (cc h)

read_quiet : (d : AdcTable) (g : ℕ) (e : GroupEvent) (s t : AdcState) → g < 16 → QuietGoes d g e s t (group_at s g) (group_at (read_from d s g) g)
read_quiet d g e s t lt =
    let own : group_at (read_from d s g) g ≡ read_group d s g = group_same s g (read_group d s g) lt in
    Carries (λ h. read_quiet_by (ends_with_stream (group_of d g)) (group_at s g).status (ap (λ (x : GroupState). is_quiet d g x.status) (sym own) ∙ h)) (ap (λ (x : GroupState). x.trigger) own)

reads_quiet : (d : AdcTable) (g : ℕ) (e : GroupEvent) (s : AdcState) (x : Status) → g < 16 → QuietGoes d g e s (reads d s g x).state (group_at s g) (group_at (reads d s g x).state g)
reads_quiet d g e s Idle lt = read_quiet d g e s _ lt
reads_quiet d g e s Busy lt = left_quiet d g e s _ _ _ refl
reads_quiet d g e s Completed lt = read_quiet d g e s _ lt
reads_quiet d g e s StreamCompleted lt = read_quiet d g e s _ lt

points_quiet : (d : AdcTable) (g : ℕ) (e : GroupEvent) (s : AdcState) (x : Status) → g < 16 → QuietGoes d g e s (points d s g x).state (group_at s g) (group_at (points d s g x).state g)
points_quiet d g e s Idle lt = read_quiet d g e s _ lt
points_quiet d g e s Busy lt = left_quiet d g e s _ _ _ refl
points_quiet d g e s Completed lt = read_quiet d g e s _ lt
points_quiet d g e s StreamCompleted lt = read_quiet d g e s _ lt

-- a stop leaves no round of the group
none_of : (h : ℕ) (p : Option Round) (r : Round) → unless_of h p ≡ Some r → r.group ≢ h
none_of h None r e same = absurd (cc e)
none_of h (Some x) r e same = by_test (x.group == h) refl e
  where
    by_test : (b : Bool) → (x.group == h) ≡ b → cond b None (Some x) ≡ Some r → ⊥
    by_test true at f = absurd (cc f)
    by_test false at f = let one : x ≡ r = cc f in let is : x.group ≡ h = ap (λ (y : Round). y.group) one ∙ same in grind (arith, nat_tests, at, is)

stopped_none : (d : AdcTable) (s : AdcState) (g u : ℕ) (r : Round) → round_at (stopped d s g) u ≡ Some r → r.group ≢ g
stopped_none d s g u r at = by_unit u r (sym (unmarked_round (off s g) u (trigger_input (group_of d g))) ∙ at)
  where
    by_unit : (v : ℕ) (r : Round) → round_at (off s g) v ≡ Some r → r.group ≢ g
    by_unit zero r e = none_of g (round_at s 0) r e
    by_unit (suc zero) r e = none_of g (round_at s 1) r e
    by_unit (suc (suc v)) r e = absurd (cc e)

stopped_quiet : (d : AdcTable) (g : ℕ) (e : GroupEvent) (s : AdcState) → g < 16 → QuietGoes d g e s (stopped d s g) (group_at s g) (group_at (stopped d s g) g)
stopped_quiet d g e s lt = Emptied (ap (λ (x : GroupState). x.waiting) (stopped_is d s g lt)) (ap (λ (x : GroupState). x.trigger) (stopped_is d s g lt)) (stopped_none d s g)

begun_loud : (d : AdcTable) (s : AdcState) (g : ℕ) (trigger : Bool) → g < 16 → is_quiet d g (group_at (begun_stream s g trigger) g).status ≡ false
begun_loud d s g trigger lt = ap (λ (x : GroupState). is_quiet d g x.status) (group_same s g (begun_group s g trigger) lt)

work_quiet : (d : AdcTable) (g : ℕ) (e : GroupEvent) (s : AdcState) (call : GroupCall) → g < 16 → QuietGoes d g e s (group_work d s g call).state (group_at s g) (group_at (group_work d s g call).state g)
work_quiet d g e s (SetupResultBuffer b) lt = kept_quiet d g e s _ _ _ (record (group_at s g) { chosen = b }) (group_same s g (record (group_at s g) { chosen = b }) lt) refl refl
work_quiet d g e s StartGroupConversion lt =
    Loud (ap (λ (x : GroupState). is_quiet d g x.status) (group_same (begun_stream s g false) g (record (group_at (begun_stream s g false) g) { waiting = Some (record { number = s.requests + 1; kept = [] }) }) lt) ∙ begun_loud d s g false lt)
work_quiet d g e s EnableHardwareTrigger lt = Loud (begun_loud d s g true lt)
work_quiet d g e s StopGroupConversion lt = stopped_quiet d g e s lt
work_quiet d g e s DisableHardwareTrigger lt = stopped_quiet d g e s lt
work_quiet d g e s ReadGroup lt = reads_quiet d g e s (group_at s g).status lt
work_quiet d g e s (Notification on) lt = kept_quiet d g e s _ _ _ (record (group_at s g) { notification = on }) (group_same s g (record (group_at s g) { notification = on }) lt) refl refl
work_quiet d g e s GetGroupStatus lt = left_quiet d g e s _ _ _ refl
work_quiet d g e s GetStreamLastPointer lt = points_quiet d g e s (group_at s g).status lt

own_quiet : (d : AdcTable) (g : ℕ) (e : GroupEvent) (s : AdcState) (call : GroupCall) (o : Option ErrorName) → g < 16 → QuietGoes d g e s (acts_by d s (Group g call) o).state (group_at s g) (group_at (acts_by d s (Group g call) o).state g)
own_quiet d g e s call None lt = work_quiet d g e s call lt
own_quiet d g e s call (Some x) lt = left_quiet d g e s _ _ _ refl

any_quiet : (d : AdcTable) (g h : ℕ) (e : GroupEvent) (s : AdcState) (call : GroupCall) → g < 16 → (h ≡ g) ⊎ (h ≢ g) → QuietGoes d g e s (acts d s (Group h call)).state (group_at s g) (group_at (acts d s (Group h call)).state g)
any_quiet d g h e s call lt (inl same) =
    subst (λ k. QuietGoes d g e s (acts d s (Group k call)).state (group_at s g) (group_at (acts d s (Group k call)).state g)) (sym same) (own_quiet d g e s call (error_by d (Group g call) (circumstances d s (Group g call))) lt)
any_quiet d g h e s call lt (inr ne) = left_quiet d g e s _ _ _ (other_group d s h g call lt (λ same. ne (sym same)))

init_quiet : (d : AdcTable) (g : ℕ) (e : GroupEvent) (s : AdcState) (o : Option ErrorName) → QuietGoes d g e s (acts_by d s Init o).state (group_at s g) (group_at (acts_by d s Init o).state g)
init_quiet d g e s None = Emptied refl refl (λ u r at. absurd (cc at))
init_quiet d g e s (Some x) = left_quiet d g e s _ _ _ refl

end_quiet : (d : AdcTable) (g : ℕ) (e : GroupEvent) (s : AdcState) (o : Option ErrorName) → g < 16 → QuietGoes d g e s (acts_by d s DeInit o).state (group_at s g) (group_at (acts_by d s DeInit o).state g)
end_quiet d g e s None lt = Emptied (ap (λ (x : GroupState). x.waiting) (closed_group s g lt)) (ap (λ (x : GroupState). x.trigger) (closed_group s g lt)) (λ u r at. absurd (cc at))
end_quiet d g e s (Some x) lt = left_quiet d g e s _ _ _ refl

pub act_quiet : (d : AdcTable) (g : ℕ) (e : GroupEvent) (s : AdcState) (call : Call) → g < 16 → QuietGoes d g e s (acts d s call).state (group_at s g) (group_at (acts d s call).state g)
act_quiet d g e s Init lt = init_quiet d g e s (error_by d Init (circumstances d s Init))
act_quiet d g e s DeInit lt = end_quiet d g e s (error_by d DeInit (circumstances d s DeInit)) lt
act_quiet d g e s (Group h call) lt = any_quiet d g h e s call lt (same_or_other h g)

-- ---- after a round

quiet_after : (ends last : Bool) (x : Status) → quiet_by ends (status_after last x) ≡ true → (quiet_by ends x ≡ true) ⊎ ((last ≡ true) × (ends ≡ true))
quiet_after ends true x h = inr (refl, h)
quiet_after ends false Idle h = absurd (cc h)
quiet_after ends false Busy h = absurd (cc h)
quiet_after ends false Completed h = absurd (cc h)
quiet_after ends false StreamCompleted h = inl h

-- a linear stream is full with its last place; what else ends with its stream isn't continuous and has no trigger
ended_stream : (k : Option configured.Group) (n : ℕ) → (place_in k n + 1 == samples_of k) ≡ true → ends_with_stream k ≡ true → (is_full k (n + 1) ≡ true) ⊎ ((is_continuous k ≡ false) × (is_some (trigger_input k) ≡ false))
ended_stream None n last ends = absurd (cc ends)
ended_stream (Some c) n last ends = by_linear c.linear refl
  where
    parts : (a b : Bool) → (not a && not b) ≡ true → (a ≡ false) × (b ≡ false)
    parts true b h = absurd (cc h)
    parts false true h = absurd (cc h)
    parts false false h = (refl, refl)

    enough : (n m : ℕ) → (n % m + 1 == m) ≡ true → nat_le m (n + 1) ≡ true
    enough n m h = grind (arith, nat_tests, h)

    by_linear : (b : Bool) → c.linear ≡ b → (is_full (Some c) (n + 1) ≡ true) ⊎ ((is_continuous (Some c) ≡ false) × (is_some (trigger_input (Some c)) ≡ false))
    by_linear true at = inl (rw at (enough n c.samples last))
    by_linear false at = inr (parts c.continuous (is_some c.trigger) (subst (λ b. cond b true (not c.continuous && not (is_some c.trigger)) ≡ true) at ends))

-- the group after its turn is settled
abbrev settled_group : AdcTable → AdcState → ℕ → ℕ → Bool → Bool → GroupState
settled_group d t g n full continuous = group_at (after_round d t g n full continuous) g

settled_status : (d : AdcTable) (t : AdcState) (g n : ℕ) (full continuous : Bool) → g < 16 → (settled_group d t g n full continuous).status ≡ (group_at t g).status
settled_status d t g n true continuous lt =
    ap (λ (x : GroupState). x.status) (unmarked_group (with_group t g (record (group_at t g) { trigger = false })) g (trigger_input (group_of d g)) ∙ group_same t g (record (group_at t g) { trigger = false }) lt)
settled_status d t g n false true lt = ap (λ (x : GroupState). x.status) (group_same t g (record (group_at t g) { waiting = Some (record { number = n; kept = [] }) }) lt)
settled_status d t g n false false lt = refl

full_deaf : (d : AdcTable) (t : AdcState) (g n : ℕ) (continuous : Bool) → g < 16 → ((settled_group d t g n true continuous).waiting ≡ (group_at t g).waiting) × ((settled_group d t g n true continuous).trigger ≡ false)
full_deaf d t g n continuous lt =
    let same : settled_group d t g n true continuous ≡ record (group_at t g) { trigger = false } =
    unmarked_group (with_group t g (record (group_at t g) { trigger = false })) g (trigger_input (group_of d g)) ∙ group_same t g (record (group_at t g) { trigger = false }) lt in
    (ap (λ (x : GroupState). x.waiting) same, ap (λ (x : GroupState). x.trigger) same)

-- a group that ends with its stream neither waits again nor hears a trigger
settled_quiet : (d : AdcTable) (t : AdcState) (g n : ℕ) (full continuous : Bool) → g < 16 → (full ≡ true) ⊎ ((continuous ≡ false) × (is_some (trigger_input (group_of d g)) ≡ false))
    → ((settled_group d t g n full continuous).waiting ≡ (group_at t g).waiting) × IsDeaf d g (settled_group d t g n full continuous)
settled_quiet d t g n true continuous lt why = let done = full_deaf d t g n continuous lt in (done.0, inl done.1)
settled_quiet d t g n false true lt (inl full) = absurd (cc full)
settled_quiet d t g n false true lt (inr why) = absurd (cc why.0)
settled_quiet d t g n false false lt (inl full) = absurd (cc full)
settled_quiet d t g n false false lt (inr why) = (refl, inr why.1)

pub served_quiet : (d : AdcTable) (e : GroupEvent) (s : AdcState) (u : ℕ) (r : Round) (values : List ℕ) → r.group < 16 → serves_on u r.group e ≡ true → round_at s u ≡ Some r
    → QuietGoes d r.group e s (served_values d s u r values) (group_at s r.group) (group_at (served_values d s u r values) r.group)
served_quiet d e s u r values lt serve at =
    let k : Option configured.Group = group_of d r.group in
    let x : GroupState = group_at s r.group in
    let t : AdcState = stored d s u r values in
    let own : group_at t r.group ≡ with_values k x values = group_same (with_round s u None) r.group (with_values k x values) lt in
    let n : ℕ = length x.rounds in
    let status : (group_at (served_values d s u r values) r.group).status ≡ status_after (place_in k n + 1 == samples_of k) x.status =
    settled_status d t r.group r.request.number (is_full k (n + 1)) (is_continuous k) lt ∙ ap (λ (y : GroupState). y.status) own in
    Settles u r serve at refl (λ h. by_quiet n (quiet_after (ends_with_stream k) (place_in k n + 1 == samples_of k) x.status (ap (λ y. is_quiet d r.group y) (sym status) ∙ h))
    (λ why. let done = settled_quiet d t r.group r.request.number (is_full k (n + 1)) (is_continuous k) lt why in (done.0 ∙ ap (λ (y : GroupState). y.waiting) own, done.1)))
  where
    by_quiet : (n : ℕ) → (is_quiet d r.group (group_at s r.group).status ≡ true) ⊎ (((place_in (group_of d r.group) n + 1 == samples_of (group_of d r.group)) ≡ true) × (ends_with_stream (group_of d r.group) ≡ true))
        → (((is_full (group_of d r.group) (n + 1) ≡ true) ⊎ ((is_continuous (group_of d r.group) ≡ false) × (is_some (trigger_input (group_of d r.group)) ≡ false)))
        → ((group_at (served_values d s u r values) r.group).waiting ≡ (group_at s r.group).waiting) × IsDeaf d r.group (group_at (served_values d s u r values) r.group))
        → (is_quiet d r.group (group_at s r.group).status ≡ true) ⊎ (((group_at (served_values d s u r values) r.group).waiting ≡ (group_at s r.group).waiting) × IsDeaf d r.group (group_at (served_values d s u r values) r.group))
    by_quiet n (inl was) done = inl was
    by_quiet n (inr and_parts) done = inr (done (ended_stream (group_of d r.group) n and_parts.0 and_parts.1))
