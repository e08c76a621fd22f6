-- The numbers of requests.
use Rattle.std.proofs.Common.{◌≡◌, ℕ, ◌+◌, ◌-◌, ◌≤◌, Bool, true, false, cond, ◌==◌, List, [], length, Option, Some, None, refl, sym, subst, arith}
use Rattle.mcal_base.specs.declared.error_name.ErrorName.{ErrorName}
use Rattle.mcal_base.specs.declared.directive.Order.{Order}
use Rattle.mcal_base.specs.declared.directive.Order.TheVariants as orders
use Rattle.run_model.specs.World.{World}
use Rattle.run_model.specs.Machine.{Happening, Acts, Serves, Starts, Aborts, Moves, Restarts, Outcome, outcome, tells_nothing}
use Rattle.adc_machine.specs.Groups.{trigger_input, Request, GroupState, Status, Idle, Busy, Completed, StreamCompleted, Round, untouched, values_of, with_round_of}
use Rattle.adc_machine.specs.Laws.{IsUpTo, IsRoundUpTo, IsNumbered}
use Rattle.adc_machine.specs.Machine.{acts, acts_by, circumstances, group_work, happens, ready, served, served_round, served_values, after_round, with_values, is_unit_line, starting, starts_on, aborting, aborts_on, moved, begun_stream, stopped, reads, points}
use Rattle.adc_machine.specs.Checks.{error_by}
use Rattle.adc_machine.specs.Table.{group_of}
use Rattle.adc_machine.specs.Triggers.{listener, with_mark, without_mark, requested_unless_turn, with_trigger_off, served_trigger}
use Rattle.adc_machine.specs.Turns.{AdcState, first_state, group_at, round_at, with_group, with_round, with_waiting, requested, has_turn, is_round_of, unless_of, without_turn, number_of, starts, started, begun, aborts, aborted}
use Rattle.adc_machine.specs.declared.call.Call.{Call}
use Rattle.adc_machine.specs.declared.call.Call.TheVariants.{Init, DeInit, Group}
use Rattle.adc_machine.specs.declared.call.GroupCall.{GroupCall}
use Rattle.adc_machine.specs.declared.call.GroupCall.TheVariants.{SetupResultBuffer, StartGroupConversion, StopGroupConversion, ReadGroup, EnableHardwareTrigger, DisableHardwareTrigger, Notification, GetGroupStatus, GetStreamLastPointer}
use Rattle.adc_machine.specs.declared.table.AdcTable.{AdcTable}
use Rattle.adc_machine.proofs.Aborted.{abort_is}
use Rattle.adc_machine.proofs.Parts.{each_of, each_with, either, each_round}

-- no request and no round has a number above n
record UpTo (n : ℕ) (s : AdcState) : Type 0 where
  waiting : (g : ℕ) → IsUpTo n (group_at s g).waiting
  running : (u : ℕ) → IsRoundUpTo n (round_at s u)

more : (n m : ℕ) (q : Option Request) → n ≤ m → IsUpTo n q → IsUpTo m q
more n m None le h = tt
more n m (Some q) le h = omega (arith, le, h)

more_round : (n m : ℕ) (r : Option Round) → n ≤ m → IsRoundUpTo n r → IsRoundUpTo m r
more_round n m None le h = tt
more_round n m (Some r) le h = omega (arith, le, h)

-- the groups with one that has such a number
with_group_to : (n : ℕ) (s : AdcState) (g : ℕ) (x : GroupState) → UpTo n s → IsUpTo n x.waiting → UpTo n (with_group s g x)
with_group_to n s g x h new = record { waiting = each_with (λ y. IsUpTo n y.waiting) s g x tt h.waiting new; running = h.running }

with_round_to : (n : ℕ) (s : AdcState) (u : ℕ) (r : Option Round) → UpTo n s → IsRoundUpTo n r → UpTo n (with_round s u r)
with_round_to n s u r h new = record {
  waiting = h.waiting;
  running = each_round (IsRoundUpTo n) (cond (0 == u) r (round_at s 0)) (cond (1 == u) r (round_at s 1)) tt (either (IsRoundUpTo n) (0 == u) r (round_at s 0) new (h.running 0)) (either (IsRoundUpTo n) (1 == u) r (round_at s 1) new (h.running 1));
}

same_parts : (n : ℕ) (s t : AdcState) → UpTo n s → t.groups ≡ s.groups → t.units ≡ s.units → UpTo n t
same_parts n s t h groups units = record {
  waiting = subst (λ gs. (g : ℕ) → IsUpTo n (group_at (record s { groups = gs }) g).waiting) (sym groups) h.waiting;
  running = subst (λ us. (u : ℕ) → IsRoundUpTo n (round_at (record s { units = us }) u)) (sym units) h.running;
}

unmarked_to : (n : ℕ) (s : AdcState) (o : Option ℕ) → UpTo n s → UpTo n (without_mark s o)
unmarked_to n s None h = h
unmarked_to n s (Some i) h = same_parts n s (with_mark s i false) h refl refl

untriggered_to : (n : ℕ) (d : AdcTable) (s : AdcState) (g : ℕ) → UpTo n s → UpTo n (with_trigger_off d s g)
untriggered_to n d s g h = unmarked_to n (with_group s g (record (group_at s g) { trigger = false })) _ (with_group_to n s g (record (group_at s g) { trigger = false }) h (h.waiting g))

without_turn_to : (n : ℕ) (s : AdcState) (g : ℕ) → UpTo n s → UpTo n (without_turn s g)
without_turn_to n s g h = record {
  waiting = (with_group_to n s g (record (group_at s g) { waiting = None }) h tt).waiting;
  running = each_round (IsRoundUpTo n) (unless_of g (round_at s 0)) (unless_of g (round_at s 1)) tt (unless 0) (unless 1);
}
  where
    unless : (u : ℕ) → IsRoundUpTo n (unless_of g (round_at s u))
    unless u = either (IsRoundUpTo n) (is_round_of g (round_at s u)) None (round_at s u) tt (h.running u)

-- ---- requests

requested_to : (s : AdcState) (g : ℕ) → UpTo s.requests s → UpTo (s.requests + 1) (requested s g)
requested_to s g h = record {
  waiting = (with_group_to (s.requests + 1) s g (record (group_at s g) { waiting = Some (record { number = s.requests + 1; kept = [] }) }) further (omega arith)).waiting;
  running = further.running;
}
  where
    further : UpTo (s.requests + 1) s
    further = record { waiting = λ x. more s.requests (s.requests + 1) (group_at s x).waiting (omega arith) (h.waiting x); running = λ u. more_round s.requests (s.requests + 1) (round_at s u) (omega arith) (h.running u) }

-- all numbers of a state are up to that of its last request
abbrev Fine : AdcState → Type 0
Fine s = UpTo s.requests s

triggered_to : (s : AdcState) (o : Option ℕ) → Fine s → Fine (requested_unless_turn s o)
triggered_to s None h = h
triggered_to s (Some g) h = either Fine (has_turn s g) s (requested s g) h (requested_to s g h)

begun_to : (n : ℕ) (w : World) (g : ℕ) (q : Option Request) → IsUpTo n q → IsRoundUpTo n (begun w g q)
begun_to n w g None h = tt
begun_to n w g (Some q) h = h

started_to : (n : ℕ) (w : World) (s : AdcState) (u g : ℕ) → UpTo n s → UpTo n (started w s u g)
started_to n w s u g h = with_round_to n (with_waiting s g None) u (begun w g (group_at s g).waiting) (with_group_to n s g (record (group_at s g) { waiting = None }) h tt) (begun_to n w g (group_at s g).waiting (h.waiting g))

aborted_to : (n : ℕ) (d : AdcTable) (w : World) (s : AdcState) (u : ℕ) (r : Round) → UpTo n s → IsRoundUpTo n (Some r) → UpTo n (aborted d w s u r)
aborted_to n d w s u r h new = with_round_to n (with_waiting s r.group (Some _)) u None (with_group_to n s r.group (record (group_at s r.group) { waiting = Some _ }) h new) tt

-- ---- services

reads_to : (d : AdcTable) (s : AdcState) (g : ℕ) (x : Status) → Fine s → Fine (reads d s g x).state
reads_to d s g Idle h = with_group_to s.requests s g _ h (h.waiting g)
reads_to d s g Busy h = h
reads_to d s g Completed h = with_group_to s.requests s g _ h (h.waiting g)
reads_to d s g StreamCompleted h = with_group_to s.requests s g _ h (h.waiting g)

points_to : (d : AdcTable) (s : AdcState) (g : ℕ) (x : Status) → Fine s → Fine (points d s g x).state
points_to d s g Idle h = with_group_to s.requests s g _ h (h.waiting g)
points_to d s g Busy h = h
points_to d s g Completed h = with_group_to s.requests s g _ h (h.waiting g)
points_to d s g StreamCompleted h = with_group_to s.requests s g _ h (h.waiting g)

begun_stream_to : (s : AdcState) (g : ℕ) (b : Bool) → Fine s → Fine (begun_stream s g b)
begun_stream_to s g b h = with_group_to s.requests s g (record (group_at s g) { status = Busy; rounds = []; trigger = b }) h (h.waiting g)

stopped_to : (d : AdcTable) (s : AdcState) (g : ℕ) → Fine s → Fine (stopped d s g)
stopped_to d s g h = fine (trigger_input (group_of d g)) (untriggered_to s.requests d (without_turn quiet g) g (without_turn_to s.requests quiet g (with_group_to s.requests s g (record (group_at s g) { status = Idle; notification = false }) h (h.waiting g))))
  where
    quiet : AdcState
    quiet = with_group s g (record (group_at s g) { status = Idle; notification = false })

    last : AdcState
    last = with_group (without_turn quiet g) g (record (group_at (without_turn quiet g) g) { trigger = false })

    fine : (o : Option ℕ) → UpTo s.requests (without_mark last o) → Fine (without_mark last o)
    fine None x = x
    fine (Some i) x = x

group_to : (d : AdcTable) (s : AdcState) (g : ℕ) (call : GroupCall) → Fine s → Fine (group_work d s g call).state
group_to d s g (SetupResultBuffer b) h = with_group_to s.requests s g _ h (h.waiting g)
group_to d s g StartGroupConversion h = requested_to (begun_stream s g false) g (begun_stream_to s g false h)
group_to d s g EnableHardwareTrigger h = begun_stream_to s g true h
group_to d s g StopGroupConversion h = stopped_to d s g h
group_to d s g DisableHardwareTrigger h = stopped_to d s g h
group_to d s g ReadGroup h = reads_to d s g (group_at s g).status h
group_to d s g (Notification on) h = with_group_to s.requests s g _ h (h.waiting g)
group_to d s g GetGroupStatus h = h
group_to d s g GetStreamLastPointer h = points_to d s g (group_at s g).status h

nothing_to : (n : ℕ) (s : AdcState) → s.groups ≡ [] → s.units ≡ [] → UpTo n s
nothing_to n s groups units = record {
  waiting = subst (λ gs. (g : ℕ) → IsUpTo n (group_at (record s { groups = gs }) g).waiting) (sym groups) (λ g. tt);
  running = subst (λ us. (u : ℕ) → IsRoundUpTo n (round_at (record s { units = us }) u)) (sym units) (λ u. tt);
}

act_to : (d : AdcTable) (s : AdcState) (call : Call) (o : Option ErrorName) → Fine s → Fine (acts_by d s call o).state
act_to d s Init None h = nothing_to s.requests _ refl refl
act_to d s DeInit None h = record { waiting = each_of (λ y. IsUpTo s.requests y.waiting) (λ g. record untouched { chosen = (group_at s g).chosen }) tt (λ g. tt); running = λ u. tt }
act_to d s (Group g call) None h = group_to d s g call h
act_to d s call (Some e) h = h

-- ---- servings

turn_to : (d : AdcTable) (s : AdcState) (g n : ℕ) (full continuous : Bool) → Fine s → n ≤ s.requests → Fine (after_round d s g n full continuous)
turn_to d s g n true continuous h le = fine (trigger_input (group_of d g)) (untriggered_to s.requests d s g h)
  where
    last : AdcState
    last = with_group s g (record (group_at s g) { trigger = false })

    fine : (o : Option ℕ) → UpTo s.requests (without_mark last o) → Fine (without_mark last o)
    fine None x = x
    fine (Some i) x = x
turn_to d s g n false true h le = with_group_to s.requests s g (record (group_at s g) { waiting = Some (record { number = n; kept = [] }) }) h le
turn_to d s g n false false h le = h

values_to : (d : AdcTable) (s : AdcState) (u : ℕ) (r : Round) (values : List ℕ) → Fine s → IsRoundUpTo s.requests (Some r) → Fine (served_values d s u r values)
values_to d s u r values h le = turn_to d before r.group r.request.number _ _ fine le
  where
    placed : AdcState
    placed = with_group (with_round s u None) r.group (with_values (group_of d r.group) (group_at s r.group) values)

    before : AdcState
    before = record placed { results = with_round_of (group_of d r.group) (length (group_at s r.group).rounds) r.group (group_at s r.group).chosen values s.results }

    fine : Fine before
    fine = same_parts s.requests placed before (with_group_to s.requests (with_round s u None) r.group (with_values (group_of d r.group) (group_at s r.group) values) (with_round_to s.requests s u None h tt) (h.waiting r.group)) refl refl

round_to : (d : AdcTable) (w : World) (s : AdcState) (u : ℕ) (q : Option Round) → Fine s → IsRoundUpTo s.requests q → Fine (served_round d w s u q).state
round_to d w s u None h le = h
round_to d w s u (Some r) h le = values_to d s u r (values_of w (group_of d r.group) r) h le

served_to : (d : AdcTable) (w : World) (s : AdcState) (l : ℕ) → Fine s → Fine (served d w s l).state
served_to d w s l h =
    either (λ (x : Outcome AdcState). Fine x.state) (is_unit_line l) (served_round d w s (l - 24) (round_at s (l - 24))) (outcome (served_trigger d s (l - 28)) tells_nothing)
    (round_to d w s (l - 24) (round_at s (l - 24)) h (h.running (l - 24)))
    (triggered_to (with_mark s (l - 28) false) (listener d s (l - 28)) (same_parts s.requests s (with_mark s (l - 28) false) h refl refl))

moved_to : (d : AdcTable) (s : AdcState) (order : Order) → Fine s → Fine (moved d s order)
moved_to d s (orders.Trigger i) h = either Fine _ (with_mark s i true) s (same_parts s.requests s (with_mark s i true) h refl refl) h
moved_to d s _ h = h

-- ---- what happens

pub came : (P : AdcState → Type 0) (x out : Outcome AdcState) → Some x ≡ Some out → P x.state → P out.state
came P x out e p = let same : x ≡ out = cc in subst (λ (y : Outcome AdcState). P y.state) same p

pub allowed : (P : AdcState → Type 0) (b : Bool) (x out : Outcome AdcState) → cond b (Some x) None ≡ Some out → P x.state → P out.state
allowed P true x out e p = came P x out e p
allowed P false x out e p = absurd (cc e)

start_to : (w : World) (s : AdcState) (u : ℕ) (o : Option ℕ) (out : Outcome AdcState) → Fine s → starting w s u o ≡ Some out → Fine out.state
start_to w s u None out h e = absurd (cc e)
start_to w s u (Some g) out h e = came Fine (outcome (started w s u g) tells_nothing) out e (started_to s.requests w s u g h)

starts_to : (d : AdcTable) (w : World) (s : AdcState) (o : Option ℕ) (out : Outcome AdcState) → Fine s → starts_on d w s o ≡ Some out → Fine out.state
starts_to d w s None out h e = absurd (cc e)
starts_to d w s (Some u) out h e = start_to w s u (starts d s u) out h e

abort_to : (d : AdcTable) (w : World) (s : AdcState) (u : ℕ) (o : Option Round) (out : Outcome AdcState) → Fine s → ((r : Round) → o ≡ Some r → IsRoundUpTo s.requests (Some r)) → aborting d w s u o ≡ Some out → Fine out.state
abort_to d w s u None out h le e = absurd (cc e)
abort_to d w s u (Some r) out h le e = came Fine (outcome (aborted d w s u r) tells_nothing) out e (aborted_to s.requests d w s u r h (le r refl))

aborts_to : (d : AdcTable) (w : World) (s : AdcState) (o : Option ℕ) (out : Outcome AdcState) → Fine s → aborts_on d w s o ≡ Some out → Fine out.state
aborts_to d w s None out h e = absurd (cc e)
aborts_to d w s (Some u) out h e = abort_to d w s u (aborts d w s u) out h (λ r f. subst (IsRoundUpTo s.requests) (abort_is d w s u (round_at s u) r f) (h.running u)) e

happens_to : (d : AdcTable) (w : World) (s : AdcState) (x : Happening Call) (out : Outcome AdcState) → Fine s → happens d w s x ≡ Some out → Fine out.state
happens_to d w s (Acts call times) out h e = came Fine (acts d s call) out e (act_to d s call (error_by d call (circumstances d s call)) h)
happens_to d w s (Serves l received) out h e = allowed Fine (ready d w s l) (served d w s l) out e (served_to d w s l h)
happens_to d w s (Starts u made_by received) out h e = starts_to d w s (number_of u) out h e
happens_to d w s (Aborts u) out h e = aborts_to d w s (number_of u) out h e
happens_to d w s (Moves order) out h e = came Fine (outcome (moved d s order) tells_nothing) out e (moved_to d s order h)
happens_to d w s (Restarts reason) out h e = came Fine (outcome first_state tells_nothing) out e (nothing_to 0 first_state refl refl)

pub numbered_first : IsNumbered first_state
numbered_first = record { waiting = λ g. tt; running = λ u. tt }

pub numbered_after : (d : AdcTable) (w : World) (s : AdcState) (x : Happening Call) (out : Outcome AdcState) → IsNumbered s → happens d w s x ≡ Some out → IsNumbered out.state
numbered_after d w s x out h e = let fine : Fine out.state = happens_to d w s x out (record { waiting = h.waiting; running = h.running }) e in record { waiting = fine.waiting; running = fine.running }
