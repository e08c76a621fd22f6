-- Notices, pointers, full streams, marks, what is busy, and aborts of converter groups.
use Rattle.std.proofs.Common.{◌≡◌, ◌≢◌, ℕ, zero, suc, ◌+◌, ◌-◌, ◌%◌, ◌<◌, ◌≤◌, ◌==◌, min, nat_lt, nat_le, Bool, true, false, not, cond, ◌&&◌, ◌||◌, List, [], ◌∷◌, length, Option, Some, None, refl, sym, ◌∙◌, ap, arith, ◌⊎◌, inl, inr}
use Rattle.std.specs.Prelude.{◌↔◌, is_some, slice_get, slice_index_or, if◌then◌else◌, IsSome}
use Rattle.std.specs.List.{list_all, list_any}
use Rattle.std.proofs.lemmas.Bool.Decides.{nat_tests}
use Rattle.std.proofs.lemmas.Bool.{and_from, and_parts, and_right, not-true}
use Rattle.mcal_base.specs.facts.Truths.{or_true}
use Rattle.mcal_base.specs.facts.Options.{some_is}
use Rattle.mcal_base.specs.facts.Numbers.{lt_from, lt_is}
use Rattle.mcal_base.specs.declared.directive.Order.TheVariants as orders
use Rattle.mcal_base.specs.declared.error_name.ErrorName.{ErrorName}
use Rattle.mcal_base.specs.declared.error_name.ErrorName.TheVariants.{AdcBusy}
use Rattle.mcal_base.specs.declared.moves.Unit as units
use Rattle.mcal_base.specs.declared.service.Service.TheVariants as services
use Rattle.mcal_base.specs.det_errors.Rows.{first_error}
use Rattle.run_model.specs.Machine.{Happening, Acts, Serves, Starts, Aborts, Moves, Restarts, Outcome, tells_nothing, outcome, numbers}
use Rattle.run_model.specs.World.{World}
use Rattle.adc_machine.proofs.Cleared.{init_clears}
use Rattle.adc_machine.proofs.Next.{listed}
use Rattle.adc_machine.proofs.Parts.{group_same}
use Rattle.adc_machine.proofs.Stopped.{unmarked_group, stop_leaves, disable_leaves}
use Rattle.adc_machine.specs.Checks.{error_by, is_triggered}
use Rattle.adc_machine.specs.Groups.{Status, Idle, Busy, Completed, StreamCompleted, GroupState, Round, values_of, is_continuous, is_finished, is_full, is_linear_stream, samples_of, trigger_input}
use Rattle.adc_machine.specs.Laws.{Step, state_after}
use Rattle.adc_machine.specs.Machine.{acts, acts_by, circumstances, happens, ready, is_unit_line, under_way_by, is_under_way, takes_one, is_unit_taken, is_start_busy, begun_stream, group_work, reads, points, notes, after_round, served_round, served, starting, aborting, starts_on, aborts_on}
use Rattle.adc_machine.specs.Table.{group_of, all_groups}
use Rattle.adc_machine.specs.Triggers.{mark_at, with_mark, listens, listener_among, without_mark, served_trigger}
use Rattle.adc_machine.specs.Turns.{AdcState, group_at, round_at, with_group, with_round, has_turn, is_on, waits_for, priority_of, rank_of, number_of, starts, is_outranked, aborts_by, aborts}
use Rattle.adc_machine.specs.declared.call.Call.{Call}
use Rattle.adc_machine.specs.declared.call.Call.TheVariants.{Init, DeInit, Group}
use Rattle.adc_machine.specs.declared.call.GroupCall.{GroupCall}
use Rattle.adc_machine.specs.declared.call.GroupCall.TheVariants.{SetupResultBuffer, StartGroupConversion, StopGroupConversion, ReadGroup, EnableHardwareTrigger, DisableHardwareTrigger, Notification, GetGroupStatus, GetStreamLastPointer}
use Rattle.adc_machine.specs.declared.call.ResultBuffer.{ResultBuffer}
use Rattle.adc_machine.specs.declared.table.AdcTable.{AdcTable}
use Rattle.adc_machine.specs.declared.table.Group as configured
use Rattle.machine_laws.specs.converters.GroupRuns.{leaves_notification, leaves_stream, rounds_served, one_notice, ServesNoUnit, IsUnderWay, WhileBusy, WhileCompleted, WithTurn, WithTrigger, IsTaken, IsOutranked}
use Rattle.machine_laws.proofs.GroupSteps.{notified_all, rounds_of, rounds_all, stored_in, new_group}

-- ---- what was served

serve_by : {A : Type 0} (b : Bool) (x out : A) → cond b (Some x) None ≡ Some out → x ≡ out
serve_by true x out e = cc e
serve_by false x out e = absurd (cc e)

round_served : (d : AdcTable) (w : World) (s : AdcState) (line received : ℕ) (r : Round) (out : Outcome AdcState) → happens d w s (Serves line received) ≡ Some out → is_unit_line line ≡ true → round_at s (line - 24) ≡ Some r
    → served_round d w s (line - 24) (Some r) ≡ out
round_served d w s line received r out made on is =
    ap (λ o. served_round d w s (line - 24) o) (sym is)
    ∙ (ap (λ b. cond b (served_round d w s (line - 24) (round_at s (line - 24))) (outcome (served_trigger d s (line - 28)) tells_nothing)) (sym on)
    ∙ serve_by (ready d w s line) (served d w s line) out made)

-- ---- notices

serving_notices : (d : AdcTable) (w : World) (s : AdcState) (g line received : ℕ) (on : Bool) (r : Round) (out : Outcome AdcState) → (group_at s g).notification ≡ on → happens d w s (Serves line received) ≡ Some out
    → is_unit_line line ≡ true → round_at s (line - 24) ≡ Some r → r.group ≡ g → out.told.notices ≡ cond on (one_notice g) []
serving_notices d w s g line received on r out notified made unit is own =
    ap (λ (x : Outcome AdcState). x.told.notices) (sym (round_served d w s line received r out made unit is))
    ∙ (ap (λ i. notes (group_at s i).notification i) own ∙ ap (λ b. notes b g) notified)

switched_by : (d : AdcTable) (s : AdcState) (g : ℕ) (on : Bool) (e : Option ErrorName) → (acts_by d s (Group g (Notification on)) e).told.error ≡ None → g < 16 → (group_at (acts_by d s (Group g (Notification on)) e).state g).notification ≡ on
switched_by d s g on (Some e) told lt = absurd (cc told)
switched_by d s g on None told lt = ap (λ (x : GroupState). x.notification) (group_same s g (record (group_at s g) { notification = on }) lt)

module _ (d : AdcTable) (w : World) (s : AdcState) (g line received : ℕ) (r : Round) (out : Outcome AdcState) (run : List Step) (lt : g < 16) (left : list_all (λ (x : Step). leaves_notification g x.happening) run ≡ true) where
  pub switched_notices : (on : Bool) → (acts d s (Group g (Notification on))).told.error ≡ None → is_unit_line line ≡ true → round_at (state_after d (acts d s (Group g (Notification on))).state run) (line - 24) ≡ Some r → r.group ≡ g
      → happens d w (state_after d (acts d s (Group g (Notification on))).state run) (Serves line received) ≡ Some out → out.told.notices ≡ cond on (one_notice g) []
  switched_notices on told unit is own made =
      serving_notices d w _ g line received on r out
      (notified_all d g lt (acts d s (Group g (Notification on))).state run left ∙ switched_by d s g on (error_by d (Group g (Notification on)) (circumstances d s (Group g (Notification on)))) told lt) made unit is own

  pub off_notices : (first : AdcState) → (group_at first g).notification ≡ false → is_unit_line line ≡ true → round_at (state_after d first run) (line - 24) ≡ Some r → r.group ≡ g
      → happens d w (state_after d first run) (Serves line received) ≡ Some out → out.told.notices ≡ []
  off_notices first down unit is own made = serving_notices d w (state_after d first run) g line received false r out (notified_all d g lt first run left ∙ down) made unit is own

pub stopped_off : (d : AdcTable) (s : AdcState) (g : ℕ) → g < 16 → (acts d s (Group g StopGroupConversion)).told.error ≡ None → (group_at (acts d s (Group g StopGroupConversion)).state g).notification ≡ false
stopped_off d s g lt told = (stop_leaves d s g lt told).notification

pub disabled_off : (d : AdcTable) (s : AdcState) (g : ℕ) → g < 16 → (acts d s (Group g DisableHardwareTrigger)).told.error ≡ None → (group_at (acts d s (Group g DisableHardwareTrigger)).state g).notification ≡ false
disabled_off d s g lt told = (disable_leaves d s g lt told).notification

pub initial_off : (d : AdcTable) (s : AdcState) (g : ℕ) → g < 16 → (acts d s Init).told.error ≡ None → (group_at (acts d s Init).state g).notification ≡ false
initial_off d s g lt told = ap (λ (x : GroupState). x.notification) ((init_clears d s told).groups g lt)

-- nothing else gives one
read_quiet : (d : AdcTable) (s : AdcState) (g : ℕ) (x : Status) → (reads d s g x).told.notices ≡ []
read_quiet d s g Idle = refl
read_quiet d s g Busy = refl
read_quiet d s g Completed = refl
read_quiet d s g StreamCompleted = refl

point_quiet : (d : AdcTable) (s : AdcState) (g : ℕ) (x : Status) → (points d s g x).told.notices ≡ []
point_quiet d s g Idle = refl
point_quiet d s g Busy = refl
point_quiet d s g Completed = refl
point_quiet d s g StreamCompleted = refl

work_quiet : (d : AdcTable) (s : AdcState) (g : ℕ) (call : GroupCall) → (group_work d s g call).told.notices ≡ []
work_quiet d s g (SetupResultBuffer b) = refl
work_quiet d s g StartGroupConversion = refl
work_quiet d s g EnableHardwareTrigger = refl
work_quiet d s g StopGroupConversion = refl
work_quiet d s g DisableHardwareTrigger = refl
work_quiet d s g ReadGroup = read_quiet d s g (group_at s g).status
work_quiet d s g (Notification on) = refl
work_quiet d s g GetGroupStatus = refl
work_quiet d s g GetStreamLastPointer = point_quiet d s g (group_at s g).status

acts_quiet : (d : AdcTable) (s : AdcState) (call : Call) (e : Option ErrorName) → (acts_by d s call e).told.notices ≡ []
acts_quiet d s call (Some e) = refl
acts_quiet d s Init None = refl
acts_quiet d s DeInit None = refl
acts_quiet d s (Group g call) None = work_quiet d s g call

starting_quiet : (w : World) (s : AdcState) (u : ℕ) (o : Option ℕ) (out : Outcome AdcState) → starting w s u o ≡ Some out → out.told.notices ≡ []
starting_quiet w s u None out e = absurd (cc e)
starting_quiet w s u (Some g) out e = ap (λ (x : Outcome AdcState). x.told.notices) (sym (some_is _ out e))

starts_quiet : (d : AdcTable) (w : World) (s : AdcState) (k : Option ℕ) (out : Outcome AdcState) → starts_on d w s k ≡ Some out → out.told.notices ≡ []
starts_quiet d w s None out e = absurd (cc e)
starts_quiet d w s (Some u) out e = starting_quiet w s u (starts d s u) out e

aborting_quiet : (d : AdcTable) (w : World) (s : AdcState) (u : ℕ) (o : Option Round) (out : Outcome AdcState) → aborting d w s u o ≡ Some out → out.told.notices ≡ []
aborting_quiet d w s u None out e = absurd (cc e)
aborting_quiet d w s u (Some r) out e = ap (λ (x : Outcome AdcState). x.told.notices) (sym (some_is _ out e))

aborts_quiet : (d : AdcTable) (w : World) (s : AdcState) (k : Option ℕ) (out : Outcome AdcState) → aborts_on d w s k ≡ Some out → out.told.notices ≡ []
aborts_quiet d w s None out e = absurd (cc e)
aborts_quiet d w s (Some u) out e = aborting_quiet d w s u (aborts d w s u) out e

pub others_quiet : (d : AdcTable) (w : World) (s : AdcState) (h : Happening Call) (out : Outcome AdcState) → happens d w s h ≡ Some out → ServesNoUnit h → out.told.notices ≡ []
others_quiet d w s (Acts call times) out e none = ap (λ (x : Outcome AdcState). x.told.notices) (sym (some_is _ out e)) ∙ acts_quiet d s call (error_by d call (circumstances d s call))
others_quiet d w s (Serves line received) out e none =
    ap (λ (x : Outcome AdcState). x.told.notices) (sym (serve_by (ready d w s line) (served d w s line) out e))
    ∙ ap (λ b. (cond b (served_round d w s (line - 24) (round_at s (line - 24))) (outcome (served_trigger d s (line - 28)) tells_nothing)).told.notices) none
others_quiet d w s (Starts u made_by received) out e none = starts_quiet d w s (number_of u) out e
others_quiet d w s (Aborts u) out e none = aborts_quiet d w s (number_of u) out e
others_quiet d w s (Moves order) out e none = ap (λ (x : Outcome AdcState). x.told.notices) (sym (some_is _ out e))
others_quiet d w s (Restarts reason) out e none = ap (λ (x : Outcome AdcState). x.told.notices) (sym (some_is _ out e))

-- ---- pointers

point_by : (d : AdcTable) (s : AdcState) (g : ℕ) (x : Status) → x ≢ Busy
    → (points d s g x).told.answer ≡ numbers (min (length (rounds_of s g)) (samples_of (group_of d g)) ∷ (length (rounds_of s g) - 1) % samples_of (group_of d g) ∷ [])
point_by d s g Idle ne = refl
point_by d s g Busy ne = absurd (ne refl)
point_by d s g Completed ne = refl
point_by d s g StreamCompleted ne = refl

pointer_by : (d : AdcTable) (s : AdcState) (g : ℕ) (e : Option ErrorName) → (acts_by d s (Group g GetStreamLastPointer) e).told.error ≡ None → (group_at s g).status ≢ Busy
    → (acts_by d s (Group g GetStreamLastPointer) e).told.answer ≡ numbers (min (length (rounds_of s g)) (samples_of (group_of d g)) ∷ (length (rounds_of s g) - 1) % samples_of (group_of d g) ∷ [])
pointer_by d s g (Some e) told ne = absurd (cc told)
pointer_by d s g None told ne = point_by d s g (group_at s g).status ne

none_started : (d : AdcTable) (s : AdcState) (g : ℕ) (e : Option ErrorName) → (acts_by d s (Group g StartGroupConversion) e).told.error ≡ None → g < 16 → rounds_of (acts_by d s (Group g StartGroupConversion) e).state g ≡ []
none_started d s g (Some e) told lt = absurd (cc told)
none_started d s g None told lt =
    ap (λ (x : GroupState). x.rounds) (group_same (begun_stream s g false) g _ lt) ∙ ap (λ (x : GroupState). x.rounds) (group_same s g (record (group_at s g) { status = Busy; rounds = []; trigger = false }) lt)

none_enabled : (d : AdcTable) (s : AdcState) (g : ℕ) (e : Option ErrorName) → (acts_by d s (Group g EnableHardwareTrigger) e).told.error ≡ None → g < 16 → rounds_of (acts_by d s (Group g EnableHardwareTrigger) e).state g ≡ []
none_enabled d s g (Some e) told lt = absurd (cc told)
none_enabled d s g None told lt = ap (λ (x : GroupState). x.rounds) (group_same s g (record (group_at s g) { status = Busy; rounds = []; trigger = true }) lt)

pub pointer_of : (d : AdcTable) (g : ℕ) (first : AdcState) (run : List Step) → rounds_of first g ≡ [] → g < 16 → list_all (λ (x : Step). leaves_stream g x.happening) run ≡ true
    → (acts d (state_after d first run) (Group g GetStreamLastPointer)).told.error ≡ None → (group_at (state_after d first run) g).status ≢ Busy
    → (acts d (state_after d first run) (Group g GetStreamLastPointer)).told.answer ≡ numbers (min (rounds_served d first g run) (samples_of (group_of d g)) ∷ (rounds_served d first g run - 1) % samples_of (group_of d g) ∷ [])
pointer_of d g first run none lt left told ne =
    let end : AdcState = state_after d first run in
    let count : length (rounds_of end g) ≡ rounds_served d first g run = let empty = ap length none in let all = rounds_all d g lt first run left in omega (arith, empty, all) in
    pointer_by d end g (error_by d (Group g GetStreamLastPointer) (circumstances d end (Group g GetStreamLastPointer))) told ne
    ∙ ap (λ n. numbers (min n (samples_of (group_of d g)) ∷ (n - 1) % samples_of (group_of d g) ∷ [])) count

pub first_started : (d : AdcTable) (s : AdcState) (g : ℕ) → (acts d s (Group g StartGroupConversion)).told.error ≡ None → g < 16 → rounds_of (acts d s (Group g StartGroupConversion)).state g ≡ []
first_started d s g told lt = none_started d s g (error_by d (Group g StartGroupConversion) (circumstances d s (Group g StartGroupConversion))) told lt

pub first_enabled : (d : AdcTable) (s : AdcState) (g : ℕ) → (acts d s (Group g EnableHardwareTrigger)).told.error ≡ None → g < 16 → rounds_of (acts d s (Group g EnableHardwareTrigger)).state g ≡ []
first_enabled d s g told lt = none_enabled d s g (error_by d (Group g EnableHardwareTrigger) (circumstances d s (Group g EnableHardwareTrigger))) told lt

-- ---- full streams

mark_off : (s : AdcState) (i : ℕ) → mark_at (with_mark s i false) i ≡ false
mark_off s zero = refl
mark_off s (suc zero) = refl
mark_off s (suc (suc zero)) = refl
mark_off s (suc (suc (suc zero))) = refl
mark_off s (suc (suc (suc (suc i)))) = refl

at_least : (a b : ℕ) → a ≤ b → nat_le a b ≡ true
at_least a b h = grind (arith, nat_tests)

module _ (d : AdcTable) (w : World) (s : AdcState) (line received : ℕ) (r : Round) (out : Outcome AdcState) (made : happens d w s (Serves line received) ≡ Some out) (unit : is_unit_line line ≡ true) (is : round_at s (line - 24) ≡ Some r)
    (linear : is_linear_stream (group_of d r.group) ≡ true) (many : samples_of (group_of d r.group) ≤ length (group_at s r.group).rounds + 1) where
  abbrev values : List ℕ
  values = values_of w (group_of d r.group) r

  abbrev stored : AdcState
  stored = stored_in d s (line - 24) r values

  abbrev off_group : AdcState
  off_group = with_group stored r.group (record (group_at stored r.group) { trigger = false })

  full : is_full (group_of d r.group) (length (group_at s r.group).rounds + 1) ≡ true
  full = ap (λ q. q && nat_le (samples_of (group_of d r.group)) (length (group_at s r.group).rounds + 1)) linear ∙ at_least (samples_of (group_of d r.group)) (length (group_at s r.group).rounds + 1) many

  rests : out.state ≡ without_mark off_group (trigger_input (group_of d r.group))
  rests =
      ap (λ (x : Outcome AdcState). x.state) (sym (round_served d w s line received r out made unit is))
      ∙ ap (λ q. after_round d stored r.group r.request.number q (is_continuous (group_of d r.group))) full

  pub full_trigger : r.group < 16 → (group_at out.state r.group).trigger ≡ false
  full_trigger lt =
      ap (λ (x : AdcState). (group_at x r.group).trigger) rests
      ∙ (ap (λ (x : GroupState). x.trigger) (unmarked_group off_group r.group (trigger_input (group_of d r.group)))
      ∙ ap (λ (x : GroupState). x.trigger) (group_same stored r.group (record (group_at stored r.group) { trigger = false }) lt))

  pub full_waiting : r.group < 16 → (group_at out.state r.group).waiting ≡ (group_at s r.group).waiting
  full_waiting lt =
      ap (λ (x : AdcState). (group_at x r.group).waiting) rests
      ∙ (ap (λ (x : GroupState). x.waiting) (unmarked_group off_group r.group (trigger_input (group_of d r.group)))
      ∙ (ap (λ (x : GroupState). x.waiting) (group_same stored r.group (record (group_at stored r.group) { trigger = false }) lt)
      ∙ ap (λ (x : GroupState). x.waiting) (group_same (with_round s (line - 24) None) r.group (new_group d s r values) lt)))

  pub full_mark : (input : ℕ) → trigger_input (group_of d r.group) ≡ Some input → mark_at out.state input ≡ false
  full_mark input at = ap (λ (x : AdcState). mark_at x input) (rests ∙ ap (λ o. without_mark off_group o) at) ∙ mark_off off_group input

-- ---- marks

some_listener : (d : AdcTable) (s : AdcState) (i : ℕ) (gs : List ℕ) (k g : ℕ) → slice_get gs k ≡ Some g → listens d s i g ≡ true → is_some (listener_among d s i gs) ≡ true
some_listener d s i [] k g at e = absurd (cc at)
some_listener d s i (x ∷ gs) k g at e = by (listens d s i x) refl k at (λ j f. some_listener d s i gs j g f e) where
  by : (b : Bool) → listens d s i x ≡ b → (k : ℕ) → slice_get (x ∷ gs) k ≡ Some g → ((j : ℕ) → slice_get gs j ≡ Some g → is_some (listener_among d s i gs) ≡ true)
      → is_some (cond b (Some x) (listener_among d s i gs)) ≡ true
  by true is k at more = refl
  by false is zero at more = absurd (cc (sym is ∙ (ap (λ n. listens d s i n) (some_is x g at) ∙ e)))
  by false is (suc k) at more = more k at

mark_on : (s : AdcState) (i : ℕ) → i < 4 → mark_at (with_mark s i true) i ≡ true
mark_on s zero lt = refl
mark_on s (suc zero) lt = refl
mark_on s (suc (suc zero)) lt = refl
mark_on s (suc (suc (suc zero))) lt = refl
mark_on s (suc (suc (suc (suc i)))) lt = absurd (omega (arith, lt))

pub pulse_marks : (d : AdcTable) (w : World) (s : AdcState) (input g : ℕ) (out : Outcome AdcState) → happens d w s (Moves (orders.Trigger input)) ≡ Some out → input < 4 → g < 16 → listens d s input g ≡ true → mark_at out.state input ≡ true
pulse_marks d w s input g out made few lt on =
    ap (λ (x : Outcome AdcState). mark_at x.state input) (sym (some_is _ out made))
    ∙ (ap (λ b. mark_at (cond b (with_mark s input true) s) input) (some_listener d s input all_groups g g (listed g lt) on) ∙ mark_on s input few)

-- ---- what is busy

any_of : {A : Type 0} (f : A → Bool) (xs : List A) → list_any f xs ≡ true → (x : A) × (f x ≡ true)
any_of f [] e = absurd (cc e)
any_of f (x ∷ xs) e = by (f x) refl e (λ h. any_of f xs h) where
  by : (b : Bool) → f x ≡ b → (b || list_any f xs) ≡ true → (list_any f xs ≡ true → (y : _) × (f y ≡ true)) → (y : _) × (f y ≡ true)
  by true is h more = (x, is)
  by false is h more = more h

is_any : (f : ℕ → Bool) (xs : List ℕ) (k x : ℕ) → slice_get xs k ≡ Some x → f x ≡ true → list_any f xs ≡ true
is_any f [] k x at e = absurd (cc at)
is_any f (y ∷ xs) zero x at e = ap (λ b. b || list_any f xs) (ap f (some_is y x at) ∙ e)
is_any f (y ∷ xs) (suc k) x at e = ap (λ b. f y || b) (is_any f xs k x at e) ∙ or_true (f y)

way_of : (s : AdcState) (g : ℕ) (x : Status) (turn trigger : Bool) → (group_at s g).status ≡ x → has_turn s g ≡ turn → (group_at s g).trigger ≡ trigger → under_way_by x turn trigger ≡ true → IsUnderWay s g
way_of s g Idle turn trigger is a b e = absurd (cc e)
way_of s g Busy turn trigger is a b e = WhileBusy is
way_of s g Completed turn trigger is a b e = WhileCompleted is
way_of s g StreamCompleted true trigger is a b e = WithTurn is a
way_of s g StreamCompleted false true is a b e = WithTrigger is b
way_of s g StreamCompleted false false is a b e = absurd (cc e)

pub under_way : (s : AdcState) (g : ℕ) → is_under_way s g ≡ true → IsUnderWay s g
under_way s g e = way_of s g (group_at s g).status (has_turn s g) (group_at s g).trigger refl refl refl e

pub on_its_way : (s : AdcState) (g : ℕ) → IsUnderWay s g → is_under_way s g ≡ true
on_its_way s g (WhileBusy e) = ap (λ x. under_way_by x (has_turn s g) (group_at s g).trigger) e
on_its_way s g (WhileCompleted e) = ap (λ x. under_way_by x (has_turn s g) (group_at s g).trigger) e
on_its_way s g (WithTurn e f) = ap (λ x. under_way_by x (has_turn s g) (group_at s g).trigger) e ∙ ap (λ b. b || (group_at s g).trigger) f
on_its_way s g (WithTrigger e f) = ap (λ x. under_way_by x (has_turn s g) (group_at s g).trigger) e ∙ (ap (λ b. has_turn s g || b) f ∙ or_true (has_turn s g))

below_sixteen : (g : ℕ) → nat_lt g 16 ≡ true → g < 16
below_sixteen g e = grind (arith, nat_tests)

-- a configured group is one of the sixteen
in_table : (d : AdcTable) (g : ℕ) (k : configured.Group) → group_of d g ≡ Some k → g < 16
in_table d g k e = by (nat_lt g 16) refl e where
  by : (b : Bool) → nat_lt g 16 ≡ b → (if b then slice_index_or d.groups g None else None) ≡ Some k → g < 16
  by true is e = below_sixteen g is
  by false is e = absurd (cc e)

on_unit : (u : ℕ) (o : Option configured.Group) → is_on u o ≡ true → (k : configured.Group) × (o ≡ Some k) × (k.unit ≡ u)
on_unit u None e = absurd (cc e)
on_unit u (Some k) e = let at : k.unit ≡ u = grind (arith, nat_tests) in (k, refl, at)

is_on_unit : (u : ℕ) (o : Option configured.Group) (k : configured.Group) → o ≡ Some k → k.unit ≡ u → is_on u o ≡ true
is_on_unit u o k e at = ap (λ x. is_on u x) e ∙ (ap (λ n. n == u) at ∙ same u) where
  same : (n : ℕ) → (n == n) ≡ true
  same n = grind (arith, nat_tests)

either : (p q : Bool) → (p || q) ≡ true → (p ≡ true) ⊎ (q ≡ true)
either true q e = inl refl
either false q e = inr e

module _ (d : AdcTable) (s : AdcState) (g : ℕ) (k : configured.Group) (there : group_of d g ≡ Some k) where
  taken : (takes_one d && is_unit_taken d s (Some k)) ≡ true → IsTaken d s k.unit
  taken e =
      let parts = and_parts (takes_one d) (is_unit_taken d s (Some k)) e in
      let one = and_parts (not d.priorities) (not d.queuing) parts.0 in
      let h = any_of (λ h. is_on k.unit (group_of d h) && is_under_way s h) all_groups parts.1 in
      let on = and_parts (is_on k.unit (group_of d h.0)) (is_under_way s h.0) h.1 in
      let x = on_unit k.unit (group_of d h.0) on.0 in
      record { priorities = not-true d.priorities one.0; queuing = not-true d.queuing one.1; group = h.0; configured = x.0; there = x.1; on = x.2; under_way = under_way s h.0 on.1 }

  is_taken : IsTaken d s k.unit → (takes_one d && is_unit_taken d s (Some k)) ≡ true
  is_taken t =
      and_from (takes_one d) (is_unit_taken d s (Some k)) (and_from (not d.priorities) (not d.queuing) (ap not t.priorities) (ap not t.queuing))
      (is_any (λ h. is_on k.unit (group_of d h) && is_under_way s h) all_groups t.group t.group (listed t.group (in_table d t.group t.configured t.there))
      (and_from (is_on k.unit (group_of d t.group)) (is_under_way s t.group) (is_on_unit k.unit (group_of d t.group) t.configured t.there t.on) (on_its_way s t.group t.under_way)))

  busy_is : is_start_busy d s g ≡ (is_under_way s g || (takes_one d && is_unit_taken d s (Some k)))
  busy_is = ap (λ o. is_under_way s g || (takes_one d && is_unit_taken d s o)) there

  busy_of : is_start_busy d s g ≡ true → IsUnderWay s g ⊎ IsTaken d s k.unit
  busy_of e = by (either (is_under_way s g) (takes_one d && is_unit_taken d s (Some k)) (sym busy_is ∙ e)) where
    by : (is_under_way s g ≡ true) ⊎ ((takes_one d && is_unit_taken d s (Some k)) ≡ true) → IsUnderWay s g ⊎ IsTaken d s k.unit
    by (inl way) = inl (under_way s g way)
    by (inr unit) = inr (taken unit)

  of_busy : IsUnderWay s g ⊎ IsTaken d s k.unit → is_start_busy d s g ≡ true
  of_busy (inl way) = busy_is ∙ ap (λ b. b || (takes_one d && is_unit_taken d s (Some k))) (on_its_way s g way)
  of_busy (inr unit) = busy_is ∙ (ap (λ b. is_under_way s g || b) (is_taken unit) ∙ or_true (is_under_way s g))

-- a call's error, where nothing but what is busy can be one
error_of : (b : Bool) → (if b then Some AdcBusy else None) ≡ Some AdcBusy → b ≡ true
error_of true e = refl
error_of false e = absurd (cc e)

start_error : (d : AdcTable) (s : AdcState) (g : ℕ) (e : Option ErrorName) → (acts_by d s (Group g StartGroupConversion) e).told.error ≡ e
start_error d s g None = refl
start_error d s g (Some e) = refl

enable_error : (d : AdcTable) (s : AdcState) (g : ℕ) (e : Option ErrorName) → (acts_by d s (Group g EnableHardwareTrigger) e).told.error ≡ e
enable_error d s g None = refl
enable_error d s g (Some e) = refl

deinit_error : (d : AdcTable) (s : AdcState) (e : Option ErrorName) → (acts_by d s DeInit e).told.error ≡ e
deinit_error d s None = refl
deinit_error d s (Some e) = refl

rows : (u t x b : Bool) → u ≡ false → t ≡ false → x ≡ false → first_error services.AdcStartGroupConversion (u ∷ false ∷ t ∷ x ∷ b ∷ false ∷ []) ≡ (if b then Some AdcBusy else None)
rows u t x true e f h = rw (e, f, h) refl
rows u t x false e f h = rw (e, f, h) refl

enable_rows : (u t x b : Bool) → u ≡ false → t ≡ false → x ≡ false → first_error services.AdcEnableHardwareTrigger (u ∷ false ∷ t ∷ x ∷ b ∷ false ∷ []) ≡ (if b then Some AdcBusy else None)
enable_rows u t x true e f h = rw (e, f, h) refl
enable_rows u t x false e f h = rw (e, f, h) refl

module _ (d : AdcTable) (s : AdcState) (g : ℕ) (k : configured.Group) (b : ResultBuffer) (on : s.initialised ≡ true) (there : group_of d g ≡ Some k) (chosen : (group_at s g).chosen ≡ Some b) where
  start_told : k.trigger ≡ None → (acts d s (Group g StartGroupConversion)).told.error ≡ (if is_start_busy d s g then Some AdcBusy else None)
  start_told none =
      start_error d s g (error_by d (Group g StartGroupConversion) (circumstances d s (Group g StartGroupConversion)))
      ∙ (ap (λ o. first_error services.AdcStartGroupConversion (not s.initialised ∷ not (is_some o) ∷ is_triggered o ∷ not (is_some (group_at s g).chosen) ∷ is_start_busy d s g ∷ false ∷ [])) there
      ∙ rows (not s.initialised) (is_some k.trigger) (not (is_some (group_at s g).chosen)) (is_start_busy d s g) (ap not on) (ap (λ o. is_some o) none) (ap (λ o. not (is_some o)) chosen))

  enable_told : (input : ℕ) → k.trigger ≡ Some input → (acts d s (Group g EnableHardwareTrigger)).told.error ≡ (if is_start_busy d s g then Some AdcBusy else None)
  enable_told input some =
      enable_error d s g (error_by d (Group g EnableHardwareTrigger) (circumstances d s (Group g EnableHardwareTrigger)))
      ∙ (ap (λ o. first_error services.AdcEnableHardwareTrigger (not s.initialised ∷ not (is_some o) ∷ not (is_triggered o) ∷ not (is_some (group_at s g).chosen) ∷ is_start_busy d s g ∷ false ∷ [])) there
      ∙ enable_rows (not s.initialised) (not (is_some k.trigger)) (not (is_some (group_at s g).chosen)) (is_start_busy d s g) (ap not on) (ap (λ o. not (is_some o)) some) (ap (λ o. not (is_some o)) chosen))

  pub start_busy : k.trigger ≡ None → ((acts d s (Group g StartGroupConversion)).told.error ≡ Some AdcBusy) ↔ (IsUnderWay s g ⊎ IsTaken d s k.unit)
  start_busy none = (
    λ e. busy_of d s g k there (error_of (is_start_busy d s g) (sym (start_told none) ∙ e)),
    λ x. start_told none ∙ ap (λ q. if q then Some AdcBusy else None) (of_busy d s g k there x),
  )

  pub enable_busy : (input : ℕ) → k.trigger ≡ Some input → ((acts d s (Group g EnableHardwareTrigger)).told.error ≡ Some AdcBusy) ↔ (IsUnderWay s g ⊎ IsTaken d s k.unit)
  enable_busy input some = (
    λ e. busy_of d s g k there (error_of (is_start_busy d s g) (sym (enable_told input some) ∙ e)),
    λ x. enable_told input some ∙ ap (λ q. if q then Some AdcBusy else None) (of_busy d s g k there x),
  )

deinit_rows : (u b : Bool) → u ≡ false → b ≡ true → first_error services.AdcDeInit (u ∷ b ∷ false ∷ false ∷ false ∷ false ∷ []) ≡ Some AdcBusy
deinit_rows u b e f = rw (e, f) refl

pub deinit_busy : (d : AdcTable) (s : AdcState) (g : ℕ) → s.initialised ≡ true → g < 16 → IsUnderWay s g → (acts d s DeInit).told.error ≡ Some AdcBusy
deinit_busy d s g on lt way =
    deinit_error d s (error_by d DeInit (circumstances d s DeInit))
    ∙ deinit_rows (not s.initialised) (list_any (is_under_way s) all_groups) (ap not on) (is_any (is_under_way s) all_groups g g (listed g lt) (on_its_way s g way))

-- ---- aborts

outranked_of : (d : AdcTable) (s : AdcState) (u g : ℕ) → is_outranked d s u g ≡ true → IsOutranked d s u g
outranked_of d s u g e =
    let h = any_of (λ h. waits_for d s u h && nat_lt (rank_of d g) (rank_of d h)) all_groups e in
    let parts = and_parts (waits_for d s u h.0) (nat_lt (rank_of d g) (rank_of d h.0)) h.1 in
    record { other = h.0; waits = parts.0; higher = lt_is (rank_of d g) (rank_of d h.0) parts.1 }

waits_known : (d : AdcTable) (s : AdcState) (u h : ℕ) → waits_for d s u h ≡ true → h < 16
waits_known d s u h e =
    let parts = and_parts (is_on u (group_of d h)) (is_some (group_at s h).waiting) e in
    let k = on_unit u (group_of d h) parts.0 in in_table d h k.0 k.1

of_outranked : (d : AdcTable) (s : AdcState) (u g : ℕ) → IsOutranked d s u g → is_outranked d s u g ≡ true
of_outranked d s u g x =
    is_any (λ h. waits_for d s u h && nat_lt (rank_of d g) (rank_of d h)) all_groups x.other x.other (listed x.other (waits_known d s u x.other x.waits))
    (and_from (waits_for d s u x.other) (nat_lt (rank_of d g) (rank_of d x.other)) x.waits (lt_from (rank_of d g) (rank_of d x.other) x.higher))

aborted_by : (d : AdcTable) (w : World) (s : AdcState) (u : ℕ) (r : Round) (q : Bool) (out : Outcome AdcState) → aborting d w s u (cond q (Some r) None) ≡ Some out → q ≡ true
aborted_by d w s u r true out e = refl
aborted_by d w s u r false out e = absurd (cc e)

pub abort_outranked : (d : AdcTable) (w : World) (s : AdcState) (unit : units.Unit) (u : ℕ) (r : Round) (out : Outcome AdcState) → happens d w s (Aborts unit) ≡ Some out → number_of unit ≡ Some u → round_at s u ≡ Some r
    → IsOutranked d s u r.group
abort_outranked d w s unit u r out made is there =
    let made_so : aborting d w s u (aborts_by d w s u (Some r)) ≡ Some out = ap (λ o. aborting d w s u (aborts_by d w s u o)) (sym there) ∙ (ap (λ k. aborts_on d w s k) (sym is) ∙ made) in
    let both_hold = aborted_by d w s u r (not (is_finished w (group_of d r.group) r) && is_outranked d s u r.group) out made_so in
    outranked_of d s u r.group (and_parts (not (is_finished w (group_of d r.group) r)) (is_outranked d s u r.group) both_hold).1

pub abort_allowed : (d : AdcTable) (w : World) (s : AdcState) (unit : units.Unit) (u : ℕ) (r : Round) → number_of unit ≡ Some u → round_at s u ≡ Some r → is_finished w (group_of d r.group) r ≡ false → IsOutranked d s u r.group
    → IsSome (happens d w s (Aborts unit))
abort_allowed d w s unit u r is there open_still x =
    ap (λ k. is_some (aborts_on d w s k)) is
    ∙ (ap (λ o. is_some (aborting d w s u (aborts_by d w s u o))) there
    ∙ ap (λ q. is_some (aborting d w s u (cond q (Some r) None))) (and_from (not (is_finished w (group_of d r.group) r)) (is_outranked d s u r.group) (ap not open_still) (of_outranked d s u r.group x)))

equal_ranks : (d : AdcTable) (g : ℕ) → d.priorities ≡ false → rank_of d g ≡ 0
equal_ranks d g e = ap (λ b. cond b (priority_of (group_of d g)) 0) e

none_outranked : (d : AdcTable) (s : AdcState) (u g : ℕ) (q : Bool) → d.priorities ≡ false → is_outranked d s u g ≡ q → q ≡ false
none_outranked d s u g false e f = refl
none_outranked d s u g true e f = let x = outranked_of d s u g f in absurd (omega (arith, x.higher, equal_ranks d g e, equal_ranks d x.other e))

none_aborts : (d : AdcTable) (w : World) (s : AdcState) (u : ℕ) (o : Option Round) → d.priorities ≡ false → aborting d w s u (aborts_by d w s u o) ≡ None
none_aborts d w s u None e = refl
none_aborts d w s u (Some r) e =
    ap (λ q. aborting d w s u (cond q (Some r) None)) (and_right (not (is_finished w (group_of d r.group) r)) (is_outranked d s u r.group) (none_outranked d s u r.group (is_outranked d s u r.group) e refl))

none_aborted : (d : AdcTable) (w : World) (s : AdcState) (k : Option ℕ) → d.priorities ≡ false → aborts_on d w s k ≡ None
none_aborted d w s None e = refl
none_aborted d w s (Some u) e = none_aborts d w s u (round_at s u) e

pub abort_never : (d : AdcTable) (w : World) (s : AdcState) (unit : units.Unit) → d.priorities ≡ false → happens d w s (Aborts unit) ≡ None
abort_never d w s unit e = none_aborted d w s (number_of unit) e
