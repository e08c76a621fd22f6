-- What each event does to the request, the rounds and the units of the converter groups.
use Rattle.std.proofs.Common.{◌≡◌, ◌≢◌, ℕ, zero, suc, ◌+◌, ◌<◌, ◌==◌, Bool, true, false, cond, ◌||◌, [], ◌∷◌, ◌++◌, Option, Some, None, refl, sym, ◌∙◌, ap, subst, ◌⊎◌, inl, inr, arith}
use Rattle.std.proofs.lemmas.Bool.Decides.{nat_tests}
use Rattle.mcal_base.specs.declared.error_name.ErrorName.{ErrorName}
use Rattle.run_model.specs.World.{World}
use Rattle.run_model.specs.Machine.{Happening, Acts, Outcome}
use Rattle.adc_machine.specs.Checks.{error_by}
use Rattle.adc_machine.specs.Groups.{Status, Idle, Busy, Completed, StreamCompleted, GroupState, Request, Round, untouched, trigger_input, status_read, ends_with_stream, values_of}
use Rattle.adc_machine.specs.Machine.{acts, acts_by, group_work, circumstances, closed, begun_stream, stopped, reads, read_from, points}
use Rattle.adc_machine.specs.Table.{group_of}
use Rattle.adc_machine.specs.Turns.{AdcState, group_at, round_at, kept_of, unless_of}
use Rattle.adc_machine.specs.declared.call.Call.{Call}
use Rattle.adc_machine.specs.declared.call.Call.TheVariants.{Init, DeInit, Group}
use Rattle.adc_machine.specs.declared.call.GroupCall.{GroupCall}
use Rattle.adc_machine.specs.declared.call.GroupCall.TheVariants.{SetupResultBuffer, StartGroupConversion, StopGroupConversion, ReadGroup, EnableHardwareTrigger, DisableHardwareTrigger, Notification, GetGroupStatus, GetStreamLastPointer}
use Rattle.adc_machine.specs.declared.table.AdcTable.{AdcTable}
use Rattle.adc_machine.proofs.Others.{other_group}
use Rattle.adc_machine.proofs.Parts.{of_group, group_same}
use Rattle.adc_machine.proofs.Stopped.{unmarked_group, unmarked_round, quiet, idle, off}
use Rattle.board_promises.specs.whole_runs.GroupRuns.{GroupEvent, seen_between, stops, begins, requests, starts_on as starts_of, aborts_on as aborts_of, serves_on, serves, is_on as on_unit, touches, call_by, is_start, is_enabling, is_stop, is_whole}

-- ---- what an event may do

-- a round was served since the group's stream began
abbrev pub is_completed : Status → Bool
is_completed Idle = false
is_completed Busy = false
is_completed Completed = true
is_completed StreamCompleted = true

-- what an event does to the request of a group
pub data WaitGoes (d : AdcTable) (g : ℕ) (e : GroupEvent) (s : AdcState) (x y : GroupState) : Type 0 where
  Stands : stops g e ≡ false → touches g e ≡ false → y.waiting ≡ x.waiting → WaitGoes d g e s x y
  Over : (u : ℕ) (r : Round) → serves_on u g e ≡ true → round_at s u ≡ Some r → r.group ≡ g → y.waiting ≡ x.waiting → WaitGoes d g e s x y
  Made : (n : ℕ) → requests g e ≡ true → y.waiting ≡ Some (record { number = n; kept = [] }) → WaitGoes d g e s x y
  Again : (u n : ℕ) (r : Round) → serves_on u g e ≡ true → round_at s u ≡ Some r → r.group ≡ g → y.waiting ≡ Some (record { number = n; kept = [] }) → WaitGoes d g e s x y
  Back : (u : ℕ) (r : Round) → aborts_of u g e ≡ true → round_at s u ≡ Some r → r.group ≡ g
      → y.waiting ≡ Some (record { number = r.request.number; kept = kept_of e.world (group_of d g) r }) → WaitGoes d g e s x y
  Dropped : y.waiting ≡ None → WaitGoes d g e s x y

-- what it does to the rounds of a group
pub data RoundsGo (d : AdcTable) (g : ℕ) (e : GroupEvent) (s : AdcState) (x y : GroupState) : Type 0 where
  Same : serves g e ≡ false → begins g e ≡ false → y.rounds ≡ x.rounds → (is_completed y.status ≡ true → is_completed x.status ≡ true) → RoundsGo d g e s x y
  Added : (u : ℕ) (r : Round) → serves_on u g e ≡ true → round_at s u ≡ Some r → r.group ≡ g → y.rounds ≡ x.rounds ++ values_of e.world (group_of d g) r ∷ [] → RoundsGo d g e s x y
  Cleared : begins g e ≡ true → y.rounds ≡ [] → is_completed y.status ≡ false → RoundsGo d g e s x y

pub record GroupGoes (d : AdcTable) (g : ℕ) (e : GroupEvent) (s : AdcState) (x y : GroupState) : Type 0 where
  pub waiting : WaitGoes d g e s x y
  pub rounds : RoundsGo d g e s x y

-- what it does to the round of a unit
pub data UnitGoes (u : ℕ) (e : GroupEvent) (s : AdcState) (p q : Option Round) : Type 0 where
  Remains : on_unit u e ≡ false → ((r : Round) → p ≡ Some r → stops r.group e ≡ false) → q ≡ p → UnitGoes u e s p q
  Begun : (g : ℕ) (x : Request) → starts_of u g e ≡ true → g < 16 → (group_at s g).waiting ≡ Some x → q ≡ Some (record { group = g; request = x; start = e.world.now }) → UnitGoes u e s p q
  Freed : q ≡ None → UnitGoes u e s p q

-- an event as it is seen where it is allowed
abbrev pub seen : AdcTable → World → Happening Call → AdcState → Outcome AdcState → GroupEvent
seen d w h s out = seen_between d s out.state (record { world = w; what = h }) out.told

pub record Goes (d : AdcTable) (w : World) (h : Happening Call) (s : AdcState) (out : Outcome AdcState) : Type 0 where
  pub groups : (g : ℕ) → g < 16 → GroupGoes d g (seen d w h s out) s (group_at s g) (group_at out.state g)
  pub units : (u : ℕ) → UnitGoes u (seen d w h s out) s (round_at s u) (round_at out.state u)

-- ---- numbers

pub same_number : (n : ℕ) → (n == n) ≡ true
same_number n = grind (arith, nat_tests)

pub other_number : (n m : ℕ) → n ≢ m → (n == m) ≡ false
other_number n m ne = grind (arith, nat_tests, ne)

pub same_or_other : (n m : ℕ) → (n ≡ m) ⊎ (n ≢ m)
same_or_other n m = by_test (n == m) refl
  where
    by_test : (b : Bool) → (n == m) ≡ b → (n ≡ m) ⊎ (n ≢ m)
    by_test true e = inl (grind (arith, nat_tests))
    by_test false e = inr (λ h. grind (arith, nat_tests))

-- ---- groups that an event leaves

pub same_group : (d : AdcTable) (g : ℕ) (e : GroupEvent) (s : AdcState) (x y : GroupState) → stops g e ≡ false → serves g e ≡ false → begins g e ≡ false → touches g e ≡ false → y.waiting ≡ x.waiting → y.rounds ≡ x.rounds
    → (is_completed y.status ≡ true → is_completed x.status ≡ true) → GroupGoes d g e s x y
same_group d g e s x y stop serve begin touch waiting rounds status = record { waiting = Stands stop touch waiting; rounds = Same serve begin rounds status }

pub left_group : (d : AdcTable) (g : ℕ) (e : GroupEvent) (s : AdcState) (x y : GroupState) → stops g e ≡ false → serves g e ≡ false → begins g e ≡ false → touches g e ≡ false → y ≡ x → GroupGoes d g e s x y
left_group d g e s x y stop serve begin touch same =
    same_group d g e s x y stop serve begin touch (ap (λ (z : GroupState). z.waiting) same) (ap (λ (z : GroupState). z.rounds) same) (λ h. ap (λ (z : GroupState). is_completed z.status) (sym same) ∙ h)

-- ---- acts about a group

-- an outcome that came
pub went : (P : Outcome AdcState → Type 0) (x out : Outcome AdcState) → Some x ≡ Some out → P x → P out
went P x out e p = let same : x ≡ out = cc in subst P same p

pub not_so : (a b : Bool) → a ≡ false → a ≡ true → b ≡ true
not_so a b e f = absurd (cc (e, f))

-- an event that is a call and finds an error, and one that is a call about another group
calls_other : (g h : ℕ) (call : GroupCall) (o : Option ErrorName) (times : ℕ → ℕ) → h ≢ g
    → ((is_whole (call_by (Acts (Group h call) times) o) || is_stop g (call_by (Acts (Group h call) times) o)) ≡ false)
    × ((is_whole (call_by (Acts (Group h call) times) o) || (is_start g (call_by (Acts (Group h call) times) o) || is_enabling g (call_by (Acts (Group h call) times) o))) ≡ false)
    × (is_start g (call_by (Acts (Group h call) times) o) || false ≡ false)
calls_other g h call (Some x) times ne = (refl, refl, refl)
calls_other g h (SetupResultBuffer b) None times ne = (refl, refl, refl)
calls_other g h StartGroupConversion None times ne = (refl, rw (other_number h g ne) refl, rw (other_number h g ne) refl)
calls_other g h StopGroupConversion None times ne = (other_number h g ne, refl, refl)
calls_other g h ReadGroup None times ne = (refl, refl, refl)
calls_other g h EnableHardwareTrigger None times ne = (refl, other_number h g ne, refl)
calls_other g h DisableHardwareTrigger None times ne = (other_number h g ne, refl, refl)
calls_other g h (Notification on) None times ne = (refl, refl, refl)
calls_other g h GetGroupStatus None times ne = (refl, refl, refl)
calls_other g h GetStreamLastPointer None times ne = (refl, refl, refl)

-- what a call without an error does to its own group
abbrev Own : AdcTable → World → AdcState → ℕ → GroupCall → (ℕ → ℕ) → Outcome AdcState → Type 0
Own d w s g call times out = GroupGoes d g (seen d w (Acts (Group g call) times) s out) s (group_at s g) (group_at out.state g)

pub changed_group : (d : AdcTable) (g : ℕ) (e : GroupEvent) (s : AdcState) (x y z : GroupState) → stops g e ≡ false → serves g e ≡ false → begins g e ≡ false → touches g e ≡ false → y ≡ z → z.waiting ≡ x.waiting → z.rounds ≡ x.rounds
    → (is_completed z.status ≡ true → is_completed x.status ≡ true) → GroupGoes d g e s x y
changed_group d g e s x y z stop serve begin touch same waiting rounds status =
    subst (λ a. GroupGoes d g e s x a) (sym same) (same_group d g e s x z stop serve begin touch waiting rounds status)

read_none : (b : Bool) (x : Status) → is_completed (status_read b x) ≡ false
read_none true Idle = refl
read_none true Busy = refl
read_none true Completed = refl
read_none true StreamCompleted = refl
read_none false Idle = refl
read_none false Busy = refl
read_none false Completed = refl
read_none false StreamCompleted = refl

-- a group whose newest round was read
abbrev pub read_group : AdcTable → AdcState → ℕ → GroupState
read_group d s g = record (group_at s g) { status = status_read (ends_with_stream (group_of d g)) (group_at s g).status }

read_own : (d : AdcTable) (g : ℕ) (e : GroupEvent) (s : AdcState) → g < 16 → stops g e ≡ false → serves g e ≡ false → begins g e ≡ false → touches g e ≡ false → GroupGoes d g e s (group_at s g) (group_at (read_from d s g) g)
read_own d g e s lt stop serve begin touch =
    changed_group d g e s (group_at s g) (group_at (read_from d s g) g) (read_group d s g) stop serve begin touch (group_same s g (read_group d s g) lt) refl refl
    (λ h. not_so (is_completed (read_group d s g).status) (is_completed (group_at s g).status) (read_none (ends_with_stream (group_of d g)) (group_at s g).status) h)

reads_own : (d : AdcTable) (w : World) (s : AdcState) (g : ℕ) (times : ℕ → ℕ) (x : Status) → g < 16 → Own d w s g ReadGroup times (reads d s g x)
reads_own d w s g times Idle lt = read_own d g _ s lt refl refl refl refl
reads_own d w s g times Busy lt = left_group d g _ s _ _ refl refl refl refl refl
reads_own d w s g times Completed lt = read_own d g _ s lt refl refl refl refl
reads_own d w s g times StreamCompleted lt = read_own d g _ s lt refl refl refl refl

points_own : (d : AdcTable) (w : World) (s : AdcState) (g : ℕ) (times : ℕ → ℕ) (x : Status) → g < 16 → Own d w s g GetStreamLastPointer times (points d s g x)
points_own d w s g times Idle lt = read_own d g _ s lt refl refl refl refl
points_own d w s g times Busy lt = left_group d g _ s _ _ refl refl refl refl refl
points_own d w s g times Completed lt = read_own d g _ s lt refl refl refl refl
points_own d w s g times StreamCompleted lt = read_own d g _ s lt refl refl refl refl

-- a group that begins a stream, and one that is stopped
abbrev pub begun_group : AdcState → ℕ → Bool → GroupState
begun_group s g trigger = record (group_at s g) { status = Busy; rounds = []; trigger = trigger }

abbrev pub stopped_group : GroupState → GroupState
stopped_group x = record x { status = Idle; notification = false; waiting = None; trigger = false }

pub stopped_is : (d : AdcTable) (s : AdcState) (g : ℕ) → g < 16 → group_at (stopped d s g) g ≡ stopped_group (group_at s g)
stopped_is d s g lt =
    unmarked_group (off s g) g (trigger_input (group_of d g))
    ∙ group_same (idle s g) g (record (group_at (idle s g) g) { trigger = false }) lt
    ∙ ap (λ (x : GroupState). record x { trigger = false }) (group_same (quiet s g) g (record (group_at (quiet s g) g) { waiting = None }) lt)
    ∙ ap (λ (x : GroupState). record x { waiting = None; trigger = false }) (group_same s g (record (group_at s g) { status = Idle; notification = false }) lt)

stopped_own : (d : AdcTable) (g : ℕ) (e : GroupEvent) (s : AdcState) → g < 16 → serves g e ≡ false → begins g e ≡ false → GroupGoes d g e s (group_at s g) (group_at (stopped d s g) g)
stopped_own d g e s lt serve begin =
    subst (λ a. GroupGoes d g e s (group_at s g) a) (sym (stopped_is d s g lt)) (record { waiting = Dropped refl; rounds = Same serve begin refl (λ h. not_so false (is_completed (group_at s g).status) refl h) })

work_own : (d : AdcTable) (w : World) (s : AdcState) (g : ℕ) (call : GroupCall) (times : ℕ → ℕ) → g < 16 → Own d w s g call times (group_work d s g call)
work_own d w s g (SetupResultBuffer b) times lt = changed_group d g _ s _ _ (record (group_at s g) { chosen = b }) refl refl refl refl (group_same s g (record (group_at s g) { chosen = b }) lt) refl refl (λ h. h)
work_own d w s g StartGroupConversion times lt = record {
  waiting = Made (s.requests + 1) (rw (same_number g) refl) (ap (λ (x : GroupState). x.waiting) (group_same (begun_stream s g false) g made lt));
  rounds = Cleared (rw (same_number g) refl)
      (ap (λ (x : GroupState). x.rounds) (group_same (begun_stream s g false) g made lt) ∙ ap (λ (x : GroupState). x.rounds) (group_same s g (begun_group s g false) lt))
      (ap (λ (x : GroupState). is_completed x.status) (group_same (begun_stream s g false) g made lt) ∙ ap (λ (x : GroupState). is_completed x.status) (group_same s g (begun_group s g false) lt));
}
  where
    made : GroupState
    made = record (group_at (begun_stream s g false) g) { waiting = Some (record { number = s.requests + 1; kept = [] }) }
work_own d w s g EnableHardwareTrigger times lt = record {
  waiting = Stands refl refl (ap (λ (x : GroupState). x.waiting) (group_same s g (begun_group s g true) lt));
  rounds = Cleared (rw (same_number g) refl) (ap (λ (x : GroupState). x.rounds) (group_same s g (begun_group s g true) lt)) (ap (λ (x : GroupState). is_completed x.status) (group_same s g (begun_group s g true) lt));
}
work_own d w s g StopGroupConversion times lt = stopped_own d g _ s lt refl refl
work_own d w s g DisableHardwareTrigger times lt = stopped_own d g _ s lt refl refl
work_own d w s g ReadGroup times lt = reads_own d w s g times (group_at s g).status lt
work_own d w s g (Notification on) times lt = changed_group d g _ s _ _ (record (group_at s g) { notification = on }) refl refl refl refl (group_same s g (record (group_at s g) { notification = on }) lt) refl refl (λ h. h)
work_own d w s g GetGroupStatus times lt = left_group d g _ s _ _ refl refl refl refl refl
work_own d w s g GetStreamLastPointer times lt = points_own d w s g times (group_at s g).status lt

own_by : (d : AdcTable) (w : World) (s : AdcState) (g : ℕ) (call : GroupCall) (times : ℕ → ℕ) (o : Option ErrorName) → g < 16 → Own d w s g call times (acts_by d s (Group g call) o)
own_by d w s g call times None lt = work_own d w s g call times lt
own_by d w s g call times (Some x) lt = left_group d g _ s _ _ refl refl refl refl refl

-- what a call about a group does to any group
abbrev acted : AdcTable → AdcState → ℕ → GroupCall → Outcome AdcState
acted d s h call = acts d s (Group h call)

any_group : (d : AdcTable) (w : World) (s : AdcState) (g h : ℕ) (call : GroupCall) (times : ℕ → ℕ) → g < 16 → (h ≡ g) ⊎ (h ≢ g)
    → GroupGoes d g (seen d w (Acts (Group h call) times) s (acted d s h call)) s (group_at s g) (group_at (acted d s h call).state g)
any_group d w s g h call times lt (inl same) =
    subst (λ k. GroupGoes d g (seen d w (Acts (Group k call) times) s (acted d s k call)) s (group_at s g) (group_at (acted d s k call).state g)) (sym same)
    (own_by d w s g call times (error_by d (Group g call) (circumstances d s (Group g call))) lt)
any_group d w s g h call times lt (inr ne) =
    let none = calls_other g h call (acted d s h call).told.error times ne in
    left_group d g (seen d w (Acts (Group h call) times) s (acted d s h call)) s (group_at s g) (group_at (acted d s h call).state g) none.0 refl none.1 none.2 (other_group d s h g call lt (λ same. ne (sym same)))

-- ---- units under acts about a group

pub left_unit : (u : ℕ) (e : GroupEvent) (s : AdcState) (p q : Option Round) → on_unit u e ≡ false → ((g : ℕ) → stops g e ≡ false) → q ≡ p → UnitGoes u e s p q
left_unit u e s p q none stop same = Remains none (λ r at. stop r.group) same

-- the round of a unit, unless it is of this group
unless_unit : (u h : ℕ) (e : GroupEvent) (s : AdcState) (p : Option Round) → on_unit u e ≡ false → ((g : ℕ) → h ≢ g → stops g e ≡ false) → UnitGoes u e s p (unless_of h p)
unless_unit u h e s None none stop = Freed refl
unless_unit u h e s (Some r) none stop = by_test (r.group == h) refl
  where
    by_test : (b : Bool) → (r.group == h) ≡ b → UnitGoes u e s (Some r) (cond b None (Some r))
    by_test true at = Freed refl
    by_test false at = Remains none (λ x is. stop x.group (λ same. differ x is same)) refl
      where
        differ : (x : Round) → Some r ≡ Some x → h ≡ x.group → ⊥
        differ x is same = let one : r ≡ x = cc in let at_one : (x.group == h) ≡ false = rw (← one) at in grind (arith, nat_tests, same, at_one)

stopped_unit : (d : AdcTable) (u h : ℕ) (e : GroupEvent) (s : AdcState) → on_unit u e ≡ false → ((g : ℕ) → h ≢ g → stops g e ≡ false) → UnitGoes u e s (round_at s u) (round_at (stopped d s h) u)
stopped_unit d u h e s none stop = subst (λ q. UnitGoes u e s (round_at s u) q) (sym (unmarked_round (off s h) u (trigger_input (group_of d h)))) (by_unit u none)
  where
    by_unit : (v : ℕ) → on_unit v e ≡ false → UnitGoes v e s (round_at s v) (round_at (off s h) v)
    by_unit zero none = unless_unit 0 h e s (round_at s 0) none stop
    by_unit (suc zero) none = unless_unit 1 h e s (round_at s 1) none stop
    by_unit (suc (suc v)) none = Freed refl

reads_unit : (d : AdcTable) (w : World) (s : AdcState) (h u : ℕ) (times : ℕ → ℕ) (x : Status) → UnitGoes u (seen d w (Acts (Group h ReadGroup) times) s (reads d s h x)) s (round_at s u) (round_at (reads d s h x).state u)
reads_unit d w s h u times Idle = left_unit u _ s _ _ refl (λ g. refl) refl
reads_unit d w s h u times Busy = left_unit u _ s _ _ refl (λ g. refl) refl
reads_unit d w s h u times Completed = left_unit u _ s _ _ refl (λ g. refl) refl
reads_unit d w s h u times StreamCompleted = left_unit u _ s _ _ refl (λ g. refl) refl

points_unit : (d : AdcTable) (w : World) (s : AdcState) (h u : ℕ) (times : ℕ → ℕ) (x : Status) → UnitGoes u (seen d w (Acts (Group h GetStreamLastPointer) times) s (points d s h x)) s (round_at s u) (round_at (points d s h x).state u)
points_unit d w s h u times Idle = left_unit u _ s _ _ refl (λ g. refl) refl
points_unit d w s h u times Busy = left_unit u _ s _ _ refl (λ g. refl) refl
points_unit d w s h u times Completed = left_unit u _ s _ _ refl (λ g. refl) refl
points_unit d w s h u times StreamCompleted = left_unit u _ s _ _ refl (λ g. refl) refl

work_unit : (d : AdcTable) (w : World) (s : AdcState) (h u : ℕ) (call : GroupCall) (times : ℕ → ℕ) → UnitGoes u (seen d w (Acts (Group h call) times) s (group_work d s h call)) s (round_at s u) (round_at (group_work d s h call).state u)
work_unit d w s h u (SetupResultBuffer b) times = left_unit u _ s _ _ refl (λ g. refl) refl
work_unit d w s h u StartGroupConversion times = left_unit u _ s _ _ refl (λ g. refl) refl
work_unit d w s h u EnableHardwareTrigger times = left_unit u _ s _ _ refl (λ g. refl) refl
work_unit d w s h u StopGroupConversion times = stopped_unit d u h _ s refl (λ g ne. other_number h g ne)
work_unit d w s h u DisableHardwareTrigger times = stopped_unit d u h _ s refl (λ g ne. other_number h g ne)
work_unit d w s h u ReadGroup times = reads_unit d w s h u times (group_at s h).status
work_unit d w s h u (Notification on) times = left_unit u _ s _ _ refl (λ g. refl) refl
work_unit d w s h u GetGroupStatus times = left_unit u _ s _ _ refl (λ g. refl) refl
work_unit d w s h u GetStreamLastPointer times = points_unit d w s h u times (group_at s h).status

any_unit : (d : AdcTable) (w : World) (s : AdcState) (h u : ℕ) (call : GroupCall) (times : ℕ → ℕ) (o : Option ErrorName)
    → UnitGoes u (seen d w (Acts (Group h call) times) s (acts_by d s (Group h call) o)) s (round_at s u) (round_at (acts_by d s (Group h call) o).state u)
any_unit d w s h u call times None = work_unit d w s h u call times
any_unit d w s h u call times (Some x) = left_unit u _ s _ _ refl (λ g. refl) refl

-- ---- acts

whole_by : (d : AdcTable) (w : World) (s : AdcState) (times : ℕ → ℕ) (o : Option ErrorName) → Goes d w (Acts Init times) s (acts_by d s Init o)
whole_by d w s times None = record { groups = λ g lt. record { waiting = Dropped refl; rounds = Cleared refl refl refl }; units = λ u. Freed refl }
whole_by d w s times (Some x) = record { groups = λ g lt. left_group d g _ s _ _ refl refl refl refl refl; units = λ u. left_unit u _ s _ _ refl (λ g. refl) refl }

pub closed_group : (s : AdcState) (g : ℕ) → g < 16 → group_at (closed s) g ≡ record untouched { chosen = (group_at s g).chosen }
closed_group s g lt = of_group (λ h. record untouched { chosen = (group_at s h).chosen }) g lt

end_by : (d : AdcTable) (w : World) (s : AdcState) (times : ℕ → ℕ) (o : Option ErrorName) → Goes d w (Acts DeInit times) s (acts_by d s DeInit o)
end_by d w s times None = record {
  groups = λ g lt. record {
    waiting = Dropped (ap (λ (x : GroupState). x.waiting) (closed_group s g lt));
    rounds = Cleared refl (ap (λ (x : GroupState). x.rounds) (closed_group s g lt)) (ap (λ (x : GroupState). is_completed x.status) (closed_group s g lt));
  };
  units = λ u. Freed refl;
}
end_by d w s times (Some x) = record { groups = λ g lt. left_group d g _ s _ _ refl refl refl refl refl; units = λ u. left_unit u _ s _ _ refl (λ g. refl) refl }

pub act_goes : (d : AdcTable) (w : World) (s : AdcState) (call : Call) (times : ℕ → ℕ) → Goes d w (Acts call times) s (acts d s call)
act_goes d w s Init times = whole_by d w s times (error_by d Init (circumstances d s Init))
act_goes d w s DeInit times = end_by d w s times (error_by d DeInit (circumstances d s DeInit))
act_goes d w s (Group h call) times = record {
  groups = λ g lt. any_group d w s g h call times lt (same_or_other h g);
  units = λ u. any_unit d w s h u call times (error_by d (Group h call) (circumstances d s (Group h call)));
}
