-- What a happening leaves of a group.
use Rattle.std.proofs.Common.{◌≡◌, ◌≢◌, ℕ, ◌+◌, ◌-◌, ◌<◌, ◌==◌, Bool, true, false, not, cond, ◌&&◌, List, [], ◌∷◌, length, length-append, Option, Some, None, refl, sym, ◌∙◌, ap, arith, ◌⊎◌, inl, inr}
use Rattle.std.specs.Prelude.{is_some}
use Rattle.std.specs.List.{list_all}
use Rattle.std.proofs.lemmas.Bool.Decides.{nat_tests}
use Rattle.std.proofs.lemmas.Bool.{and_parts}
use Rattle.mcal_base.specs.facts.Numbers.{eq_other, eq_self, same_or_other}
use Rattle.mcal_base.specs.declared.directive.Order.{Order}
use Rattle.mcal_base.specs.declared.directive.Order.TheVariants as orders
use Rattle.mcal_base.specs.declared.error_name.ErrorName.{ErrorName}
use Rattle.run_model.specs.Frame.{state_by}
use Rattle.run_model.specs.Machine.{Happening, Acts, Serves, Starts, Aborts, Moves, Restarts, tells_nothing, outcome}
use Rattle.run_model.specs.World.{World}
use Rattle.adc_machine.proofs.Others.{other_group}
use Rattle.adc_machine.proofs.Parts.{group_same, group_other}
use Rattle.adc_machine.proofs.Stopped.{unmarked_group, quiet, idle, off}
use Rattle.adc_machine.specs.Checks.{error_by}
use Rattle.adc_machine.specs.Groups.{Status, Idle, Busy, Completed, StreamCompleted, Request, GroupState, Round, values_of, is_continuous, is_full, trigger_input, with_round_of}
use Rattle.adc_machine.specs.Laws.{Step, state_after}
use Rattle.adc_machine.specs.Machine.{acts, acts_by, circumstances, happens, ready, is_unit_line, group_work, reads, points, stopped, with_values, after_round, served_values, served_round, starting, aborting, starts_on, aborts_on, moved}
use Rattle.adc_machine.specs.Table.{group_of}
use Rattle.adc_machine.specs.Triggers.{with_mark, listener, pulsed, with_trigger_off, requested_unless_turn, served_trigger}
use Rattle.adc_machine.specs.Turns.{AdcState, group_at, round_at, with_group, with_round, with_waiting, requested, has_turn, is_round_of, number_of, starts, aborts}
use Rattle.adc_machine.specs.declared.call.Call.{Call}
use Rattle.adc_machine.specs.declared.call.Call.TheVariants.{Init, DeInit, Group}
use Rattle.adc_machine.specs.declared.call.GroupCall.{GroupCall}
use Rattle.adc_machine.specs.declared.call.GroupCall.TheVariants.{SetupResultBuffer, StartGroupConversion, StopGroupConversion, ReadGroup, EnableHardwareTrigger, DisableHardwareTrigger, Notification, GetGroupStatus, GetStreamLastPointer}
use Rattle.adc_machine.specs.declared.table.AdcTable.{AdcTable}
use Rattle.machine_laws.specs.converters.GroupRuns.{leaves_notification, leaves_stream, serves_round, rounds_served}

pub not_itself : (g n : ℕ) → not (g == n) ≡ true → n ≢ g
not_itself g n e at = let no : not (g == n) ≡ false = ap (λ i. not (g == i)) at ∙ ap not (eq_self g) in absurd (cc (sym no ∙ e))

-- ---- a group that was put

module _ {A : Type 0} (see : GroupState → A) (g : ℕ) (lt : g < 16) where
  pub put_seen : (s : AdcState) (n : ℕ) (x : GroupState) → (n ≡ g → see x ≡ see (group_at s g)) → see (group_at (with_group s n x) g) ≡ see (group_at s g)
  put_seen s n x same = by (same_or_other g n) where
    by : (g ≡ n) ⊎ (g ≢ n) → see (group_at (with_group s n x) g) ≡ see (group_at s g)
    by (inl at) = ap (λ i. see (group_at (with_group s i x) g)) (sym at) ∙ (ap see (group_same s g x lt) ∙ same (sym at))
    by (inr ne) = ap see (group_other s n x g lt ne)

-- what neither a trigger that is switched off nor a request changes
pub record IsOfRounds {A : Type 0} (see : GroupState → A) : Type 0 where
  pub trigger : (x : GroupState) (b : Bool) → see (record x { trigger = b }) ≡ see x
  pub waiting : (x : GroupState) (q : Option Request) → see (record x { waiting = q }) ≡ see x

-- a group with one round more, and the state with it
abbrev pub new_group : AdcTable → AdcState → Round → List ℕ → GroupState
new_group d s r values = with_values (group_of d r.group) (group_at s r.group) values

abbrev pub stored_in : AdcTable → AdcState → (unit : ℕ) → Round → List ℕ → AdcState
stored_in d s u r values =
    record (with_group (with_round s u None) r.group (new_group d s r values)) { results = with_round_of (group_of d r.group) (length (group_at s r.group).rounds) r.group (group_at s r.group).chosen values s.results }

module _ {A : Type 0} (see : GroupState → A) (of : IsOfRounds see) (d : AdcTable) (w : World) (g : ℕ) (lt : g < 16) where
  waiting_seen : (s : AdcState) (n : ℕ) (q : Option Request) → see (group_at (with_waiting s n q) g) ≡ see (group_at s g)
  waiting_seen s n q = put_seen see g lt s n (record (group_at s n) { waiting = q }) (λ at. of.waiting (group_at s n) q ∙ ap (λ i. see (group_at s i)) at)

  off_seen : (s : AdcState) (n : ℕ) → see (group_at (with_trigger_off d s n) g) ≡ see (group_at s g)
  off_seen s n =
      ap see (unmarked_group (with_group s n (record (group_at s n) { trigger = false })) g (trigger_input (group_of d n)))
      ∙ put_seen see g lt s n (record (group_at s n) { trigger = false }) (λ at. of.trigger (group_at s n) false ∙ ap (λ i. see (group_at s i)) at)

  turn_seen : (s : AdcState) (n number : ℕ) (full continuous : Bool) → see (group_at (after_round d s n number full continuous) g) ≡ see (group_at s g)
  turn_seen s n number true continuous = off_seen s n
  turn_seen s n number false true = waiting_seen s n (Some (record { number = number; kept = [] }))
  turn_seen s n number false false = refl

  -- the group that was served has one round more
  pub values_seen : (s : AdcState) (u : ℕ) (r : Round) (values : List ℕ) → see (group_at (served_values d s u r values) g) ≡ see (cond (g == r.group) (with_values (group_of d r.group) (group_at s r.group) values) (group_at s g))
  values_seen s u r values = turn_seen (stored_in d s u r values) r.group r.request.number (is_full (group_of d r.group) (length (group_at s r.group).rounds + 1)) (is_continuous (group_of d r.group)) ∙ by (same_or_other g r.group) where
    by : (g ≡ r.group) ⊎ (g ≢ r.group) → see (group_at (stored_in d s u r values) g) ≡ see (cond (g == r.group) (new_group d s r values) (group_at s g))
    by (inl at) =
        ap (λ i. see (group_at (with_group (with_round s u None) i (new_group d s r values)) g)) (sym at)
        ∙ (ap see (group_same (with_round s u None) g (new_group d s r values) lt)
        ∙ ap (λ q. see (cond q (new_group d s r values) (group_at s g))) (sym (ap (λ i. g == i) (sym at) ∙ eq_self g)))
    by (inr ne) =
        ap see (group_other (with_round s u None) r.group (new_group d s r values) g lt ne) ∙ ap (λ q. see (cond q (new_group d s r values) (group_at s g))) (sym (eq_other g r.group ne))

  request_seen : (s : AdcState) (n : ℕ) → see (group_at (requested s n) g) ≡ see (group_at s g)
  request_seen s n = waiting_seen s n (Some (record { number = s.requests + 1; kept = [] }))

  unless_seen : (s : AdcState) (o : Option ℕ) → see (group_at (requested_unless_turn s o) g) ≡ see (group_at s g)
  unless_seen s None = refl
  unless_seen s (Some n) = by (has_turn s n) where
    by : (b : Bool) → see (group_at (cond b s (requested s n)) g) ≡ see (group_at s g)
    by true = refl
    by false = request_seen s n

  pub trigger_seen : (s : AdcState) (i : ℕ) → see (group_at (served_trigger d s i) g) ≡ see (group_at s g)
  trigger_seen s i = unless_seen (with_mark s i false) (listener d s i)

  starting_seen : (s : AdcState) (u : ℕ) (o : Option ℕ) → see (group_at (state_by s (starting w s u o)) g) ≡ see (group_at s g)
  starting_seen s u None = refl
  starting_seen s u (Some n) = waiting_seen s n None

  pub starts_seen : (s : AdcState) (k : Option ℕ) → see (group_at (state_by s (starts_on d w s k)) g) ≡ see (group_at s g)
  starts_seen s None = refl
  starts_seen s (Some u) = starting_seen s u (starts d s u)

  aborting_seen : (s : AdcState) (u : ℕ) (o : Option Round) → see (group_at (state_by s (aborting d w s u o)) g) ≡ see (group_at s g)
  aborting_seen s u None = refl
  aborting_seen s u (Some r) = waiting_seen s r.group _

  pub aborts_seen : (s : AdcState) (k : Option ℕ) → see (group_at (state_by s (aborts_on d w s k)) g) ≡ see (group_at s g)
  aborts_seen s None = refl
  aborts_seen s (Some u) = aborting_seen s u (aborts d w s u)

  pulsed_seen : (s : AdcState) (i : ℕ) → see (group_at (pulsed d s i) g) ≡ see (group_at s g)
  pulsed_seen s i = by (is_some (listener d s i)) where
    by : (b : Bool) → see (group_at (cond b (with_mark s i true) s) g) ≡ see (group_at s g)
    by true = refl
    by false = refl

  pub moved_seen : (s : AdcState) (order : Order) → see (group_at (moved d s order) g) ≡ see (group_at s g)
  moved_seen s (orders.Trigger i) = pulsed_seen s i
  moved_seen s order = refl

-- ---- the notification

of_notification : IsOfRounds (λ x. x.notification)
of_notification = record { trigger = λ x b. refl; waiting = λ x q. refl }

abbrev notified : AdcState → ℕ → Bool
notified s g = (group_at s g).notification

module _ (d : AdcTable) (g : ℕ) (lt : g < 16) where
  read_notified : (s : AdcState) (x : Status) → notified (reads d s g x).state g ≡ notified s g
  read_notified s Busy = refl
  read_notified s Idle = ap (λ (x : GroupState). x.notification) (group_same s g _ lt)
  read_notified s Completed = ap (λ (x : GroupState). x.notification) (group_same s g _ lt)
  read_notified s StreamCompleted = ap (λ (x : GroupState). x.notification) (group_same s g _ lt)

  point_notified : (s : AdcState) (x : Status) → notified (points d s g x).state g ≡ notified s g
  point_notified s Busy = refl
  point_notified s Idle = ap (λ (x : GroupState). x.notification) (group_same s g _ lt)
  point_notified s Completed = ap (λ (x : GroupState). x.notification) (group_same s g _ lt)
  point_notified s StreamCompleted = ap (λ (x : GroupState). x.notification) (group_same s g _ lt)

  own_notified : (s : AdcState) (call : GroupCall) (times : ℕ → ℕ) → leaves_notification g (Acts (Group g call) times) ≡ true → notified (group_work d s g call).state g ≡ notified s g
  own_notified s (SetupResultBuffer b) times left = ap (λ (x : GroupState). x.notification) (group_same s g _ lt)
  own_notified s StartGroupConversion times left =
      ap (λ (x : GroupState). x.notification) (group_same (with_group s g (record (group_at s g) { status = Busy; rounds = []; trigger = false })) g _ lt)
      ∙ ap (λ (x : GroupState). x.notification) (group_same s g (record (group_at s g) { status = Busy; rounds = []; trigger = false }) lt)
  own_notified s EnableHardwareTrigger times left = ap (λ (x : GroupState). x.notification) (group_same s g _ lt)
  own_notified s StopGroupConversion times left = absurd (not_itself g g left refl)
  own_notified s DisableHardwareTrigger times left = absurd (not_itself g g left refl)
  own_notified s ReadGroup times left = read_notified s (group_at s g).status
  own_notified s (Notification on) times left = absurd (not_itself g g left refl)
  own_notified s GetGroupStatus times left = refl
  own_notified s GetStreamLastPointer times left = point_notified s (group_at s g).status

  acts_notified : (s : AdcState) (n : ℕ) (call : GroupCall) (times : ℕ → ℕ) (e : Option ErrorName) → leaves_notification g (Acts (Group g call) times) ≡ true → n ≡ g
      → notified (acts_by d s (Group n call) e).state g ≡ notified s g
  acts_notified s n call times (Some e) left at = refl
  acts_notified s n call times None left at = ap (λ i. notified (group_work d s i call).state g) at ∙ own_notified s call times left

  leaves_own : (n : ℕ) (call : GroupCall) (times : ℕ → ℕ) → leaves_notification g (Acts (Group n call) times) ≡ true → n ≡ g → leaves_notification g (Acts (Group g call) times) ≡ true
  leaves_own n call times left at = ap (λ i. leaves_notification g (Acts (Group i call) times)) (sym at) ∙ left

  calls_notified : (w : World) (s : AdcState) (call : Call) (times : ℕ → ℕ) → leaves_notification g (Acts call times) ≡ true → notified (acts d s call).state g ≡ notified s g
  calls_notified w s Init times left = absurd (cc left)
  calls_notified w s DeInit times left = absurd (cc left)
  calls_notified w s (Group n call) times left = by (same_or_other n g) where
    by : (n ≡ g) ⊎ (n ≢ g) → notified (acts d s (Group n call)).state g ≡ notified s g
    by (inl at) = acts_notified s n call times (error_by d (Group n call) (circumstances d s (Group n call))) (leaves_own n call times left at) at
    by (inr ne) = ap (λ (x : GroupState). x.notification) (other_group d s n g call lt (λ e. ne (sym e)))

  served_notified : (w : World) (s : AdcState) (line received : ℕ) (a b : Bool) → notified (state_by s (cond a (Some (cond b (served_round d w s (line - 24) (round_at s (line - 24))) (outcome (served_trigger d s (line - 28)) tells_nothing))) None)) g ≡ notified s g
  served_notified w s line received false b = refl
  served_notified w s line received true false = trigger_seen (λ x. x.notification) of_notification d w g lt s (line - 28)
  served_notified w s line received true true = by (round_at s (line - 24)) where
    chosen : (r : Round) (values : List ℕ) (q : Bool) → (g == r.group) ≡ q → (cond q (with_values (group_of d r.group) (group_at s r.group) values) (group_at s g)).notification ≡ notified s g
    chosen r values false e = refl
    chosen r values true e = let at : r.group ≡ g = grind (arith, nat_tests) in ap (λ i. notified s i) at

    by : (o : Option Round) → notified (served_round d w s (line - 24) o).state g ≡ notified s g
    by None = refl
    by (Some r) = values_seen (λ x. x.notification) of_notification d w g lt s (line - 24) r (values_of w (group_of d r.group) r) ∙ chosen r (values_of w (group_of d r.group) r) (g == r.group) refl

  step_notified : (w : World) (s : AdcState) (h : Happening Call) → leaves_notification g h ≡ true → notified (state_by s (happens d w s h)) g ≡ notified s g
  step_notified w s (Acts call times) left = calls_notified w s call times left
  step_notified w s (Serves line received) left = served_notified w s line received (ready d w s line) (is_unit_line line)
  step_notified w s (Starts u made_by received) left = starts_seen (λ x. x.notification) of_notification d w g lt s (number_of u)
  step_notified w s (Aborts u) left = aborts_seen (λ x. x.notification) of_notification d w g lt s (number_of u)
  step_notified w s (Moves order) left = moved_seen (λ x. x.notification) of_notification d w g lt s order
  step_notified w s (Restarts reason) left = absurd (cc left)

  pub notified_all : (s : AdcState) (run : List Step) → list_all (λ (x : Step). leaves_notification g x.happening) run ≡ true → notified (state_after d s run) g ≡ notified s g
  notified_all s [] left = refl
  notified_all s (x ∷ xs) left =
      let parts = and_parts (leaves_notification g x.happening) (list_all (λ (y : Step). leaves_notification g y.happening) xs) left in
      notified_all (state_by s (happens d x.world s x.happening)) xs parts.1 ∙ step_notified x.world s x.happening parts.0

-- ---- the number of rounds

of_rounds : IsOfRounds (λ x. x.rounds)
of_rounds = record { trigger = λ x b. refl; waiting = λ x q. refl }

abbrev pub rounds_of : AdcState → ℕ → List (List ℕ)
rounds_of s g = (group_at s g).rounds

module _ (d : AdcTable) (g : ℕ) (lt : g < 16) where
  read_rounds : (s : AdcState) (x : Status) → rounds_of (reads d s g x).state g ≡ rounds_of s g
  read_rounds s Busy = refl
  read_rounds s Idle = ap (λ (x : GroupState). x.rounds) (group_same s g _ lt)
  read_rounds s Completed = ap (λ (x : GroupState). x.rounds) (group_same s g _ lt)
  read_rounds s StreamCompleted = ap (λ (x : GroupState). x.rounds) (group_same s g _ lt)

  point_rounds : (s : AdcState) (x : Status) → rounds_of (points d s g x).state g ≡ rounds_of s g
  point_rounds s Busy = refl
  point_rounds s Idle = ap (λ (x : GroupState). x.rounds) (group_same s g _ lt)
  point_rounds s Completed = ap (λ (x : GroupState). x.rounds) (group_same s g _ lt)
  point_rounds s StreamCompleted = ap (λ (x : GroupState). x.rounds) (group_same s g _ lt)

  stop_rounds : (s : AdcState) → rounds_of (stopped d s g) g ≡ rounds_of s g
  stop_rounds s =
      ap (λ (x : GroupState). x.rounds) (unmarked_group (off s g) g (trigger_input (group_of d g)))
      ∙ (ap (λ (x : GroupState). x.rounds) (group_same (idle s g) g (record (group_at (idle s g) g) { trigger = false }) lt)
      ∙ (ap (λ (x : GroupState). x.rounds) (group_same (quiet s g) g (record (group_at (quiet s g) g) { waiting = None }) lt)
      ∙ ap (λ (x : GroupState). x.rounds) (group_same s g (record (group_at s g) { status = Idle; notification = false }) lt)))

  own_rounds : (s : AdcState) (call : GroupCall) (times : ℕ → ℕ) → leaves_stream g (Acts (Group g call) times) ≡ true → rounds_of (group_work d s g call).state g ≡ rounds_of s g
  own_rounds s (SetupResultBuffer b) times left = ap (λ (x : GroupState). x.rounds) (group_same s g _ lt)
  own_rounds s StartGroupConversion times left = absurd (not_itself g g left refl)
  own_rounds s EnableHardwareTrigger times left = absurd (not_itself g g left refl)
  own_rounds s StopGroupConversion times left = stop_rounds s
  own_rounds s DisableHardwareTrigger times left = stop_rounds s
  own_rounds s ReadGroup times left = read_rounds s (group_at s g).status
  own_rounds s (Notification on) times left = ap (λ (x : GroupState). x.rounds) (group_same s g _ lt)
  own_rounds s GetGroupStatus times left = refl
  own_rounds s GetStreamLastPointer times left = point_rounds s (group_at s g).status

  acts_rounds : (s : AdcState) (n : ℕ) (call : GroupCall) (times : ℕ → ℕ) (e : Option ErrorName) → leaves_stream g (Acts (Group n call) times) ≡ true → n ≡ g
      → rounds_of (acts_by d s (Group n call) e).state g ≡ rounds_of s g
  acts_rounds s n call times (Some e) left at = refl
  acts_rounds s n call times None left at =
      ap (λ i. rounds_of (group_work d s i call).state g) at ∙ own_rounds s call times (ap (λ i. leaves_stream g (Acts (Group i call) times)) (sym at) ∙ left)

  calls_rounds : (s : AdcState) (call : Call) (times : ℕ → ℕ) → leaves_stream g (Acts call times) ≡ true → rounds_of (acts d s call).state g ≡ rounds_of s g
  calls_rounds s Init times left = absurd (cc left)
  calls_rounds s DeInit times left = absurd (cc left)
  calls_rounds s (Group n call) times left = by (same_or_other n g) where
    by : (n ≡ g) ⊎ (n ≢ g) → rounds_of (acts d s (Group n call)).state g ≡ rounds_of s g
    by (inl at) = acts_rounds s n call times (error_by d (Group n call) (circumstances d s (Group n call))) left at
    by (inr ne) = ap (λ (x : GroupState). x.rounds) (other_group d s n g call lt (λ e. ne (sym e)))

  -- so many rounds more
  abbrev adds : Bool → ℕ
  adds b = cond b 1 0

  served_rounds : (w : World) (s : AdcState) (line : ℕ) (a b : Bool)
      → length (rounds_of (state_by s (cond a (Some (cond b (served_round d w s (line - 24) (round_at s (line - 24))) (outcome (served_trigger d s (line - 28)) tells_nothing))) None)) g)
      ≡ length (rounds_of s g) + adds (a && (b && is_round_of g (round_at s (line - 24))))
  served_rounds w s line false b = omega arith
  served_rounds w s line true false =
      let same = ap length (trigger_seen (λ x. x.rounds) of_rounds d w g lt s (line - 28)) in omega (arith, same)
  served_rounds w s line true true = by (round_at s (line - 24)) where
    is_same : (n k : ℕ) → (n == k) ≡ (k == n)
    is_same n k = grind (arith, nat_tests)

    chosen : (r : Round) (values : List ℕ) (q : Bool) → (g == r.group) ≡ q → length (cond q (with_values (group_of d r.group) (group_at s r.group) values) (group_at s g)).rounds ≡ length (rounds_of s g) + adds q
    chosen r values false e = omega arith
    chosen r values true e =
        let at : r.group ≡ g = grind (arith, nat_tests) in
        let more = length-append (rounds_of s r.group) (values ∷ []) in
        let same = ap (λ i. length (rounds_of s i)) at in omega (arith, more, same)

    by : (o : Option Round) → length (rounds_of (served_round d w s (line - 24) o).state g) ≡ length (rounds_of s g) + adds (is_round_of g o)
    by None = omega arith
    by (Some r) =
        ap length (values_seen (λ x. x.rounds) of_rounds d w g lt s (line - 24) r (values_of w (group_of d r.group) r))
        ∙ (chosen r (values_of w (group_of d r.group) r) (g == r.group) refl ∙ ap (λ q. length (rounds_of s g) + adds q) (is_same g r.group))

  same_length : (xs ys : List (List ℕ)) → xs ≡ ys → length xs ≡ length ys + 0
  same_length xs ys e = let same = ap length e in omega (arith, same)

  step_rounds : (w : World) (s : AdcState) (h : Happening Call) → leaves_stream g h ≡ true → length (rounds_of (state_by s (happens d w s h)) g) ≡ length (rounds_of s g) + adds (serves_round d w s g h)
  step_rounds w s (Acts call times) left = same_length _ _ (calls_rounds s call times left)
  step_rounds w s (Serves line received) left = served_rounds w s line (ready d w s line) (is_unit_line line)
  step_rounds w s (Starts u made_by received) left = same_length _ _ (starts_seen (λ x. x.rounds) of_rounds d w g lt s (number_of u))
  step_rounds w s (Aborts u) left = same_length _ _ (aborts_seen (λ x. x.rounds) of_rounds d w g lt s (number_of u))
  step_rounds w s (Moves order) left = same_length _ _ (moved_seen (λ x. x.rounds) of_rounds d w g lt s order)
  step_rounds w s (Restarts reason) left = absurd (cc left)

  pub rounds_all : (s : AdcState) (run : List Step) → list_all (λ (x : Step). leaves_stream g x.happening) run ≡ true → length (rounds_of (state_after d s run) g) ≡ length (rounds_of s g) + rounds_served d s g run
  rounds_all s [] left = omega arith
  rounds_all s (x ∷ xs) left =
      let parts = and_parts (leaves_stream g x.happening) (list_all (λ (y : Step). leaves_stream g y.happening) xs) left in
      let next : AdcState = state_by s (happens d x.world s x.happening) in
      let one = step_rounds x.world s x.happening parts.0 in
      let rest = rounds_all next xs parts.1 in omega (arith, one, rest)
