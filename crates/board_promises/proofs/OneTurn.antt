-- In every run a group has one turn at most.
use Rattle.std.proofs.Common.{◌≡◌, ◌≢◌, ℕ, zero, suc, ◌+◌, ◌-◌, ◌<◌, ◌==◌, Bool, true, false, cond, ◌&&◌, ◌||◌, [], Option, Some, None, refl, sym, ◌∙◌, ap, subst, ◌⊎◌, inl, inr, arith}
use Rattle.std.specs.Prelude.{is_some}
use Rattle.std.proofs.lemmas.Bool.Decides.{nat_tests}
use Rattle.std.proofs.lemmas.Bool.{and_parts}
use Rattle.mcal_base.specs.declared.directive.Order.{Order}
use Rattle.mcal_base.specs.declared.directive.Order.TheVariants as orders
use Rattle.mcal_base.specs.declared.moves.Unit as units
use Rattle.mcal_base.specs.declared.moves.Unit.TheVariants.{Adc0, Adc1, Spi0, Spi1}
use Rattle.mcal_base.specs.declared.error_name.ErrorName.{ErrorName}
use Rattle.run_model.specs.World.{World}
use Rattle.run_model.specs.Machine.{Happening, Acts, Serves, Starts, Aborts, Moves, Restarts, Outcome, outcome, tells_nothing}
use Rattle.adc_machine.specs.Groups.{Idle, GroupState, Request, Round, values_of, trigger_input}
use Rattle.adc_machine.specs.Machine.{acts, happens, ready, served, served_round, is_unit_line, starting, starts_on, aborting, aborts_on, moved}
use Rattle.adc_machine.specs.Table.{group_of}
use Rattle.adc_machine.specs.Triggers.{listener, with_mark, requested_unless_turn, served_trigger}
use Rattle.adc_machine.specs.Turns.{AdcState, first_state, group_at, round_at, requested, has_turn, number_of, next_group, with_waiting, is_on as is_on_unit, starts, started, aborts, aborted, kept_of, is_round_of}
use Rattle.adc_machine.specs.declared.call.Call.{Call}
use Rattle.adc_machine.specs.declared.table.AdcTable.{AdcTable}
use Rattle.adc_machine.specs.declared.table.Group as configured
use Rattle.adc_machine.proofs.Next.{next_is}
use Rattle.adc_machine.proofs.Parts.{group_same, group_other}
use Rattle.board_promises.specs.whole_runs.Runs.{is_of}
use Rattle.board_promises.specs.whole_runs.GroupRuns.{GroupEvent, requests, starts_on as starts_of, aborts_on as aborts_of, serves_on, is_on as on_unit, touches, call_by, is_start, is_triggering, unit_started, unit_aborted, unit_served, started_group}
use Rattle.board_promises.proofs.GroupServes.{next_of, served_other}
use Rattle.board_promises.proofs.GroupSteps.{WaitGoes, Stands, Over, Made, Again, Back, Dropped, UnitGoes, Remains, Begun, Freed, seen, Goes, went, same_number, same_or_other}
use Rattle.board_promises.proofs.TurnSteps.{is_quiet, IsDeaf, Single, MadeFree, made_free, QuietGoes, Carries, Loud, Settles, Emptied, left_quiet, kept_quiet, act_quiet, served_quiet}

-- ---- statuses and triggers, for every event

abbrev Quiet : AdcTable → World → AdcState → Happening Call → ℕ → Outcome AdcState → Type 0
Quiet d w s h g out = QuietGoes d g (seen d w h s out) s out.state (group_at s g) (group_at out.state g)

round_quiet : (d : AdcTable) (w : World) (s : AdcState) (l received : ℕ) (r : Round) (g : ℕ) → is_unit_line l ≡ true → round_at s (l - 24) ≡ Some r → g < 16 → (r.group ≡ g) ⊎ (r.group ≢ g) → Quiet d w s (Serves l received) g (served_round d w s (l - 24) (Some r))
round_quiet d w s l received r g line at lt (inl same) =
    subst (λ k. Quiet d w s (Serves l received) k (served_round d w s (l - 24) (Some r))) same
    (served_quiet d (seen d w (Serves l received) s (served_round d w s (l - 24) (Some r))) s (l - 24) r (values_of w (group_of d r.group) r) (subst (λ k. k < 16) (sym same) lt) (rw (line, at, same_number (l - 24), same_number r.group) refl) at)
round_quiet d w s l received r g line at lt (inr ne) = left_quiet d g _ s _ _ _ (served_other d s (l - 24) g r (values_of w (group_of d r.group) r) lt (λ h. ne (sym h)))

unit_quiet : (d : AdcTable) (w : World) (s : AdcState) (l received : ℕ) (q : Option Round) (g : ℕ) → is_unit_line l ≡ true → round_at s (l - 24) ≡ q → g < 16 → Quiet d w s (Serves l received) g (served_round d w s (l - 24) q)
unit_quiet d w s l received None g line at lt = left_quiet d g _ s _ _ _ refl
unit_quiet d w s l received (Some r) g line at lt = round_quiet d w s l received r g line at lt (same_or_other r.group g)

request_quiet : (d : AdcTable) (g : ℕ) (e : GroupEvent) (s t u : AdcState) (h : ℕ) → g < 16 → (h ≡ g) ⊎ (h ≢ g) → group_at t g ≡ group_at s g → QuietGoes d g e s u (group_at s g) (group_at (requested t h) g)
request_quiet d g e s t u h lt (inl same) before =
    let made : GroupState = record (group_at t g) { waiting = Some (record { number = t.requests + 1; kept = [] }) } in
    subst (λ k. QuietGoes d g e s u (group_at s g) (group_at (requested t k) g)) (sym same)
    (kept_quiet d g e s u (group_at s g) _ made (group_same t g made lt) (ap (λ (x : GroupState). x.status) before) (ap (λ (x : GroupState). x.trigger) before))
request_quiet d g e s t u h lt (inr ne) before = left_quiet d g e s u _ _ (group_other t h _ g lt (λ same. ne (sym same)) ∙ before)

turn_quiet : (d : AdcTable) (g : ℕ) (e : GroupEvent) (s t u : AdcState) (h : ℕ) (b : Bool) → g < 16 → group_at t g ≡ group_at s g → QuietGoes d g e s u (group_at s g) (group_at (cond b t (requested t h)) g)
turn_quiet d g e s t u h true lt before = left_quiet d g e s u _ _ before
turn_quiet d g e s t u h false lt before = request_quiet d g e s t u h lt (same_or_other h g) before

trigger_quiet : (d : AdcTable) (g : ℕ) (e : GroupEvent) (s t u : AdcState) (o : Option ℕ) → g < 16 → group_at t g ≡ group_at s g → QuietGoes d g e s u (group_at s g) (group_at (requested_unless_turn t o) g)
trigger_quiet d g e s t u None lt before = left_quiet d g e s u _ _ before
trigger_quiet d g e s t u (Some h) lt before = turn_quiet d g e s t u h (has_turn t h) lt before

serve_quiet_by : (d : AdcTable) (w : World) (s : AdcState) (l received : ℕ) (g : ℕ) (b : Bool) → is_unit_line l ≡ b → g < 16
    → Quiet d w s (Serves l received) g (cond b (served_round d w s (l - 24) (round_at s (l - 24))) (outcome (served_trigger d s (l - 28)) tells_nothing))
serve_quiet_by d w s l received g true line lt = unit_quiet d w s l received (round_at s (l - 24)) g line refl lt
serve_quiet_by d w s l received g false line lt = trigger_quiet d g _ s (with_mark s (l - 28) false) _ (listener d s (l - 28)) lt refl

serve_quiet : (d : AdcTable) (w : World) (s : AdcState) (l received : ℕ) (g : ℕ) (b : Bool) (out : Outcome AdcState) → g < 16 → cond b (Some (served d w s l)) None ≡ Some out → Quiet d w s (Serves l received) g out
serve_quiet d w s l received g true out lt e = went (Quiet d w s (Serves l received) g) (served d w s l) out e (serve_quiet_by d w s l received g (is_unit_line l) refl lt)
serve_quiet d w s l received g false out lt e = absurd (cc e)

-- a change of what waits
waits_quiet : (d : AdcTable) (g h : ℕ) (e : GroupEvent) (s u : AdcState) (o : Option Request) → g < 16 → (h ≡ g) ⊎ (h ≢ g) → QuietGoes d g e s u (group_at s g) (group_at (with_waiting s h o) g)
waits_quiet d g h e s u o lt (inl same) =
    subst (λ k. QuietGoes d g e s u (group_at s g) (group_at (with_waiting s k o) g)) (sym same)
    (kept_quiet d g e s u (group_at s g) _ (record (group_at s g) { waiting = o }) (group_same s g (record (group_at s g) { waiting = o }) lt) refl refl)
waits_quiet d g h e s u o lt (inr ne) = left_quiet d g e s u _ _ (group_other s h _ g lt (λ same. ne (sym same)))

start_quiet : (d : AdcTable) (w : World) (s : AdcState) (unit : units.Unit) (made_by : Option Call) (received g u : ℕ) (o : Option ℕ) (out : Outcome AdcState) → g < 16 → starting w s u o ≡ Some out → Quiet d w s (Starts unit made_by received) g out
start_quiet d w s unit made_by received g u None out lt e = absurd (cc e)
start_quiet d w s unit made_by received g u (Some h) out lt e =
    went (Quiet d w s (Starts unit made_by received) g) (outcome (started w s u h) tells_nothing) out e (waits_quiet d g h _ s _ None lt (same_or_other h g))

starts_quiet : (d : AdcTable) (w : World) (s : AdcState) (unit : units.Unit) (made_by : Option Call) (received g : ℕ) (o : Option ℕ) (out : Outcome AdcState) → g < 16 → starts_on d w s o ≡ Some out → Quiet d w s (Starts unit made_by received) g out
starts_quiet d w s unit made_by received g None out lt e = absurd (cc e)
starts_quiet d w s unit made_by received g (Some u) out lt e = start_quiet d w s unit made_by received g u (starts d s u) out lt e

abort_quiet : (d : AdcTable) (w : World) (s : AdcState) (unit : units.Unit) (g u : ℕ) (o : Option Round) (out : Outcome AdcState) → g < 16 → aborting d w s u o ≡ Some out → Quiet d w s (Aborts unit) g out
abort_quiet d w s unit g u None out lt e = absurd (cc e)
abort_quiet d w s unit g u (Some r) out lt e =
    went (Quiet d w s (Aborts unit) g) (outcome (aborted d w s u r) tells_nothing) out e
    (waits_quiet d g r.group _ s _ (Some (record { number = r.request.number; kept = kept_of w (group_of d r.group) r })) lt (same_or_other r.group g))

aborts_quiet : (d : AdcTable) (w : World) (s : AdcState) (unit : units.Unit) (g : ℕ) (o : Option ℕ) (out : Outcome AdcState) → g < 16 → aborts_on d w s o ≡ Some out → Quiet d w s (Aborts unit) g out
aborts_quiet d w s unit g None out lt e = absurd (cc e)
aborts_quiet d w s unit g (Some u) out lt e = abort_quiet d w s unit g u (aborts d w s u) out lt e

pulse_quiet : (d : AdcTable) (w : World) (s : AdcState) (order : Order) (g i : ℕ) (b : Bool) → Quiet d w s (Moves order) g (outcome (cond b (with_mark s i true) s) tells_nothing)
pulse_quiet d w s order g i true = left_quiet d g _ s _ _ _ refl
pulse_quiet d w s order g i false = left_quiet d g _ s _ _ _ refl

moved_quiet : (d : AdcTable) (w : World) (s : AdcState) (order : Order) (g : ℕ) → Quiet d w s (Moves order) g (outcome (moved d s order) tells_nothing)
moved_quiet d w s (orders.Trigger i) g = pulse_quiet d w s (orders.Trigger i) g i (is_some (listener d s i))
moved_quiet d w s order g = left_quiet d g _ s _ _ _ refl

pub quiet_goes : (d : AdcTable) (w : World) (s : AdcState) (h : Happening Call) (out : Outcome AdcState) (g : ℕ) → g < 16 → happens d w s h ≡ Some out → Quiet d w s h g out
quiet_goes d w s (Acts call times) out g lt e = went (Quiet d w s (Acts call times) g) (acts d s call) out e (act_quiet d g _ s call lt)
quiet_goes d w s (Serves l received) out g lt e = serve_quiet d w s l received g (ready d w s l) out lt e
quiet_goes d w s (Starts u made_by received) out g lt e = starts_quiet d w s u made_by received g (number_of u) out lt e
quiet_goes d w s (Aborts u) out g lt e = aborts_quiet d w s u g (number_of u) out lt e
quiet_goes d w s (Moves order) out g lt e = went (Quiet d w s (Moves order) g) (outcome (moved d s order) tells_nothing) out e (moved_quiet d w s order g)
quiet_goes d w s (Restarts reason) out g lt e = went (Quiet d w s (Restarts reason) g) (outcome first_state tells_nothing) out e (Emptied refl refl (λ u r at. absurd (cc at)))

-- ---- where a unit starts

-- A start is of a group of the unit, and a unit is one of two.
pub record StartsOn (d : AdcTable) (u g : ℕ) : Type 0 where
  pub on : is_on_unit u (group_of d g) ≡ true
  pub few : u < 2

unit_few : (unit : units.Unit) (u : ℕ) → number_of unit ≡ Some u → u < 2
unit_few Adc0 u e = let same : 0 ≡ u = cc in subst (λ n. n < 2) same (omega arith)
unit_few Adc1 u e = let same : 1 ≡ u = cc in subst (λ n. n < 2) same (omega arith)
unit_few Spi0 u e = absurd (cc e)
unit_few Spi1 u e = absurd (cc e)

of_is : (n : ℕ) (o : Option ℕ) → is_of n o ≡ true → o ≡ Some n
of_is n None h = absurd (cc h)
of_is n (Some m) h = ap (λ k. Some k) (grind (arith, nat_tests, h))

start_on : (d : AdcTable) (w : World) (s : AdcState) (unit : units.Unit) (made_by : Option Call) (received : ℕ) (out : Outcome AdcState) (u g : ℕ) → starts_of u g (seen d w (Starts unit made_by received) s out) ≡ true → StartsOn d u g
start_on d w s unit made_by received out u g h =
    let parts = and_parts (is_of u (number_of unit)) (is_of g (started_group d s (number_of unit))) h in
    let num : number_of unit ≡ Some u = of_is u (number_of unit) parts.0 in
    let begins : starts d s u ≡ Some g = of_is g (starts d s u) (subst (λ k. is_of g (started_group d s k) ≡ true) num parts.1) in
    record {
      on = (and_parts (is_on_unit u (group_of d g)) (is_some (group_at s g).waiting) (next_is d s u g (next_of (round_at s u) (next_group d s u) g begins)).waits).0;
      few = unit_few unit u num;
    }

starts_there : (d : AdcTable) (w : World) (s : AdcState) (h : Happening Call) (out : Outcome AdcState) (u g : ℕ) → starts_of u g (seen d w h s out) ≡ true → StartsOn d u g
starts_there d w s (Starts unit made_by received) out u g h = start_on d w s unit made_by received out u g h
starts_there d w s (Acts call times) out u g h = absurd (cc h)
starts_there d w s (Serves l received) out u g h = absurd (cc h)
starts_there d w s (Aborts v) out u g h = absurd (cc h)
starts_there d w s (Moves order) out u g h = absurd (cc h)
starts_there d w s (Restarts reason) out u g h = absurd (cc h)

-- a start is neither a serving, nor an abort, nor a request, and it is the group's own
pub record IsStartAlone (g : ℕ) (e : GroupEvent) : Type 0 where
  pub serves : (v : ℕ) → serves_on v g e ≡ false
  pub aborts : (v : ℕ) → aborts_of v g e ≡ false
  pub requests : requests g e ≡ false
  pub touches : touches g e ≡ true

start_alone : (u g : ℕ) (e : GroupEvent) → starts_of u g e ≡ true → IsStartAlone g e
start_alone u g e h = record {
  serves = λ v. none_served v e.what (is_of g e.group) starts;
  aborts = λ v. none_aborted v e.what (is_of g e.group) starts;
  requests = none_requested e.what e.told.error (is_of g e.group) starts;
  touches = rw own (or_true (is_start g (call_by e.what e.told.error)));
}
  where
    or_true : (b : Bool) → (b || true) ≡ true
    or_true true = refl
    or_true false = refl

    starts : is_some (unit_started e.what) ≡ true
    starts = some_of u (unit_started e.what) (and_parts (is_of u (unit_started e.what)) (is_of g e.group) h).0
      where
        some_of : (n : ℕ) (o : Option ℕ) → is_of n o ≡ true → is_some o ≡ true
        some_of n None f = absurd (cc f)
        some_of n (Some m) f = refl

    own : is_of g e.group ≡ true
    own = (and_parts (is_of u (unit_started e.what)) (is_of g e.group) h).1

    none_served : (v : ℕ) (k : Happening Call) (b : Bool) → is_some (unit_started k) ≡ true → (is_of v (unit_served k) && b) ≡ false
    none_served v (Starts unit made_by received) b f = refl
    none_served v (Acts call times) b f = absurd (cc f)
    none_served v (Serves l received) b f = absurd (cc f)
    none_served v (Aborts unit) b f = absurd (cc f)
    none_served v (Moves order) b f = absurd (cc f)
    none_served v (Restarts reason) b f = absurd (cc f)

    none_aborted : (v : ℕ) (k : Happening Call) (b : Bool) → is_some (unit_started k) ≡ true → (is_of v (unit_aborted k) && b) ≡ false
    none_aborted v (Starts unit made_by received) b f = refl
    none_aborted v (Acts call times) b f = absurd (cc f)
    none_aborted v (Serves l received) b f = absurd (cc f)
    none_aborted v (Aborts unit) b f = absurd (cc f)
    none_aborted v (Moves order) b f = absurd (cc f)
    none_aborted v (Restarts reason) b f = absurd (cc f)

    none_requested : (k : Happening Call) (o : Option ErrorName) (b : Bool) → is_some (unit_started k) ≡ true → (is_start g (call_by k o) || (is_triggering k && b)) ≡ false
    none_requested (Starts unit made_by received) o b f = refl
    none_requested (Acts call times) o b f = absurd (cc f)
    none_requested (Serves l received) o b f = absurd (cc f)
    none_requested (Aborts unit) o b f = absurd (cc f)
    none_requested (Moves order) o b f = absurd (cc f)
    none_requested (Restarts reason) o b f = absurd (cc f)

clash : {b : Bool} → b ≡ true → b ≡ false → ⊥
clash x y = absurd (cc (x, y))

-- what is served or aborted on a unit is on it
serve_is_on : (u g : ℕ) (e : GroupEvent) → serves_on u g e ≡ true → on_unit u e ≡ true
serve_is_on u g e h = let own = (and_parts (is_of u (unit_served e.what)) (is_of g e.group) h).0 in rw own (third (is_of u (unit_started e.what)) (is_of u (unit_aborted e.what)))
  where
    third : (a b : Bool) → (a || (b || true)) ≡ true
    third true b = refl
    third false true = refl
    third false false = refl

abort_is_on : (u g : ℕ) (e : GroupEvent) → aborts_of u g e ≡ true → on_unit u e ≡ true
abort_is_on u g e h = let own = (and_parts (is_of u (unit_aborted e.what)) (is_of g e.group) h).0 in rw own (second (is_of u (unit_started e.what)) (is_of u (unit_served e.what)))
  where
    second : (a c : Bool) → (a || (true || c)) ≡ true
    second true c = refl
    second false c = refl

-- a group is on one unit
one_unit : (k : Option configured.Group) (u v : ℕ) → is_on_unit u k ≡ true → is_on_unit v k ≡ true → u ≡ v
one_unit None u v a b = absurd (cc a)
one_unit (Some c) u v a b = grind (arith, nat_tests, a, b)

-- a group that a unit runs has a turn
runs_turn : (s : AdcState) (g u : ℕ) (r : Round) → u < 2 → round_at s u ≡ Some r → r.group ≡ g → has_turn s g ≡ false → ⊥
runs_turn s g zero r few at own none = by_first (is_some (group_at s g).waiting) none
  where
    here : is_round_of g (round_at s 0) ≡ true
    here = ap (λ q. is_round_of g q) at ∙ ap (λ n. n == g) own ∙ same_number g

    by_first : (a : Bool) → (a || is_round_of g (round_at s 0) || is_round_of g (round_at s 1)) ≡ false → ⊥
    by_first true f = absurd (cc f)
    by_first false f = by_second (is_round_of g (round_at s 0)) here f
      where
        by_second : (b : Bool) → b ≡ true → (b || is_round_of g (round_at s 1)) ≡ false → ⊥
        by_second true h f = absurd (cc f)
        by_second false h f = absurd (cc h)
runs_turn s g (suc zero) r few at own none = by_all (is_some (group_at s g).waiting) (is_round_of g (round_at s 0)) (is_round_of g (round_at s 1)) here none
  where
    here : is_round_of g (round_at s 1) ≡ true
    here = ap (λ q. is_round_of g q) at ∙ ap (λ n. n == g) own ∙ same_number g

    by_all : (a b c : Bool) → c ≡ true → (a || b || c) ≡ false → ⊥
    by_all true b c h f = absurd (cc f)
    by_all false true c h f = absurd (cc f)
    by_all false false c h f = clash h f
runs_turn s g (suc (suc u)) r few at own none = omega (arith, few)

-- ---- what an event leaves

-- a group that didn't wait doesn't, where nothing of its own makes it
wait_none : (d : AdcTable) (g : ℕ) (e : GroupEvent) (s : AdcState) (x y : GroupState) → WaitGoes d g e s x y → x.waiting ≡ None → (requests g e ≡ true → ⊥)
    → ((u : ℕ) (r : Round) → serves_on u g e ≡ true → round_at s u ≡ Some r → r.group ≡ g → ⊥) → ((u : ℕ) (r : Round) → aborts_of u g e ≡ true → round_at s u ≡ Some r → r.group ≡ g → ⊥) → y.waiting ≡ None
wait_none d g e s x y (Stands calm touch same) none made served back = same ∙ none
wait_none d g e s x y (Over u r serve at own same) none made served back = same ∙ none
wait_none d g e s x y (Made n request is) none made served back = absurd (made request)
wait_none d g e s x y (Again u n r serve at own is) none made served back = absurd (served u r serve at own)
wait_none d g e s x y (Back u r abort at own is) none made served back = absurd (back u r abort at own)
wait_none d g e s x y (Dropped is) none made served back = is

-- and one that a unit starts doesn't
start_none : (d : AdcTable) (g : ℕ) (e : GroupEvent) (s : AdcState) (x y : GroupState) → WaitGoes d g e s x y → IsStartAlone g e → y.waiting ≡ None
start_none d g e s x y (Stands calm touch same) alone = absurd (clash alone.touches touch)
start_none d g e s x y (Over u r serve at own same) alone = absurd (clash serve (alone.serves u))
start_none d g e s x y (Made n request is) alone = absurd (clash request alone.requests)
start_none d g e s x y (Again u n r serve at own is) alone = absurd (clash serve (alone.serves u))
start_none d g e s x y (Back u r abort at own is) alone = absurd (clash abort (alone.aborts u))
start_none d g e s x y (Dropped is) alone = is

round_same : {x y : Round} → Some x ≡ Some y → x ≡ y
round_same h = cc h

-- no request is made of a group that a unit runs
not_made : (d : AdcTable) (g u : ℕ) (r : Round) (s : AdcState) (y : GroupState) → Single d s → g < 16 → round_at s u ≡ Some r → r.group ≡ g → MadeFree d g s y → ⊥
not_made d g u r s y single lt at own made = by_free made.free
  where
    by_free : (has_turn s g ≡ false) ⊎ ((group_at s g).status ≡ Idle) → ⊥
    by_free (inl none) = runs_turn s g u r (single.few u r at) at own none
    by_free (inr idle) = single.still g u r lt (ap (λ z. is_quiet d g z) idle) at own

-- another unit doesn't have a round of the group
same_unit : (d : AdcTable) (g u v : ℕ) (r k : Round) (s : AdcState) → Single d s → round_at s u ≡ Some r → r.group ≡ g → round_at s v ≡ Some k → k.group ≡ g → v ≡ u
same_unit d g u v r k s single at own there mine =
    one_unit (group_of d g) v u (subst (λ n. is_on_unit v (group_of d n) ≡ true) mine (single.placed v k there)) (subst (λ n. is_on_unit u (group_of d n) ≡ true) own (single.placed u r at))

module _ (d : AdcTable) (w : World) (s : AdcState) (h : Happening Call) (out : Outcome AdcState) (e : happens d w s h ≡ Some out) (goes : Goes d w h s out) (single : Single d s) where
  abbrev Now : GroupEvent
  Now = seen d w h s out

  alone_by : (g u : ℕ) (r : Round) (q : Option Round) → g < 16 → UnitGoes u Now s (round_at s u) q → q ≡ Some r → r.group ≡ g → (group_at out.state g).waiting ≡ None
  alone_by g u r q lt (Remains away calm same) at own =
      let was : round_at s u ≡ Some r = sym same ∙ at in
      wait_none d g Now s (group_at s g) (group_at out.state g) (goes.groups g lt).waiting (single.alone g u r lt was own)
      (λ request. not_made d g u r s (group_at out.state g) single lt was own (made_free d w s h out g lt e request))
      (λ v k serve there mine. clash (subst (λ n. on_unit n Now ≡ true) (same_unit d g u v r k s single was own there mine) (serve_is_on v g Now serve)) away)
      (λ v k abort there mine. clash (subst (λ n. on_unit n Now ≡ true) (same_unit d g u v r k s single was own there mine) (abort_is_on v g Now abort)) away)
  alone_by g u r q lt (Begun k x start below there is) at own =
      let same : k ≡ g = ap (λ (z : Round). z.group) (round_same (sym is ∙ at)) ∙ own in
      start_none d g Now s (group_at s g) (group_at out.state g) (goes.groups g lt).waiting (start_alone u g Now (subst (λ n. starts_of u n Now ≡ true) same start))
  alone_by g u r q lt (Freed none) at own = absurd (cc (none, at))

  placed_by : (u : ℕ) (r : Round) (q : Option Round) → UnitGoes u Now s (round_at s u) q → q ≡ Some r → StartsOn d u r.group
  placed_by u r q (Remains away calm same) at =
      let was : round_at s u ≡ Some r = sym same ∙ at in
      record { on = single.placed u r was; few = single.few u r was }
  placed_by u r q (Begun k x start below there is) at =
      let same : k ≡ r.group = ap (λ (z : Round). z.group) (round_same (sym is ∙ at)) in
      subst (λ n. StartsOn d u n) same (starts_there d w s h out u k start)
  placed_by u r q (Freed none) at = absurd (cc (none, at))

  -- what holds of a quiet group
  record Rests (g : ℕ) : Type 0 where
    waiting : (group_at out.state g).waiting ≡ None
    still : (u : ℕ) (r : Round) → round_at out.state u ≡ Some r → r.group ≢ g
    deaf : IsDeaf d g (group_at out.state g)

  unheard : (g : ℕ) → IsDeaf d g (group_at s g) → is_quiet d g (group_at out.state g).status ≡ true → MadeFree d g s (group_at out.state g) → ⊥
  unheard g deaf quiet made = by_heard made.heard deaf
    where
      by_heard : (((group_at s g).trigger ≡ true) × (is_some (trigger_input (group_of d g)) ≡ true)) ⊎ (is_quiet d g (group_at out.state g).status ≡ false) → IsDeaf d g (group_at s g) → ⊥
      by_heard (inl hears) (inl off) = clash hears.0 off
      by_heard (inl hears) (inr none) = clash hears.1 none
      by_heard (inr loud) deaf = clash quiet loud

  carried_still : (g u : ℕ) (r : Round) (q : Option Round) → g < 16 → is_quiet d g (group_at s g).status ≡ true → UnitGoes u Now s (round_at s u) q → q ≡ Some r → r.group ≢ g
  carried_still g u r q lt quiet (Remains away calm same) at own = single.still g u r lt quiet (sym same ∙ at) own
  carried_still g u r q lt quiet (Begun k x start below there is) at own =
      let same : k ≡ g = ap (λ (z : Round). z.group) (round_same (sym is ∙ at)) ∙ own in
      let waits : (group_at s g).waiting ≡ Some x = subst (λ n. (group_at s n).waiting ≡ Some x) same there in
      let none : (group_at s g).waiting ≡ None = single.quiet g lt quiet in
      absurd (cc (waits, none))
  carried_still g u r q lt quiet (Freed none) at own = absurd (cc (none, at))

  settled_still : (g u v : ℕ) (r k : Round) (q : Option Round) → g < 16 → serves_on u g Now ≡ true → round_at s u ≡ Some r → r.group ≡ g → UnitGoes v Now s (round_at s v) q → q ≡ Some k → k.group ≢ g
  settled_still g u v r k q lt serve there own (Remains away calm same) at mine =
      clash (subst (λ n. on_unit n Now ≡ true) (sym (same_unit d g u v r k s single there own (sym same ∙ at) mine)) (serve_is_on u g Now serve)) away
  settled_still g u v r k q lt serve there own (Begun i x start below waits is) at mine =
      let same : i ≡ g = ap (λ (z : Round). z.group) (round_same (sym is ∙ at)) ∙ mine in
      clash serve ((start_alone v g Now (subst (λ n. starts_of v n Now ≡ true) same start)).serves u)
  settled_still g u v r k q lt serve there own (Freed none) at mine = absurd (cc (none, at))

  rests : (g : ℕ) → g < 16 → is_quiet d g (group_at out.state g).status ≡ true → QuietGoes d g Now s out.state (group_at s g) (group_at out.state g) → Rests g
  rests g lt quiet (Carries was trigger) =
      let before : is_quiet d g (group_at s g).status ≡ true = was quiet in
      record {
        waiting = wait_none d g Now s (group_at s g) (group_at out.state g) (goes.groups g lt).waiting (single.quiet g lt before)
            (λ request. unheard g (single.deaf g lt before) quiet (made_free d w s h out g lt e request))
            (λ v k serve there mine. single.still g v k lt before there mine) (λ v k abort there mine. single.still g v k lt before there mine);
        still = λ u r at. carried_still g u r (round_at out.state u) lt before (goes.units u) at;
        deaf = by_deaf (single.deaf g lt before);
      }
    where
      by_deaf : IsDeaf d g (group_at s g) → IsDeaf d g (group_at out.state g)
      by_deaf (inl off) = inl (trigger ∙ off)
      by_deaf (inr none) = inr none
  rests g lt quiet (Loud loud) = absurd (clash quiet loud)
  rests g lt quiet (Settles u r serve there own why) = by_why (why quiet)
    where
      by_why : (is_quiet d g (group_at s g).status ≡ true) ⊎ (((group_at out.state g).waiting ≡ (group_at s g).waiting) × IsDeaf d g (group_at out.state g)) → Rests g
      by_why (inl before) = absurd (single.still g u r lt before there own)
      by_why (inr settled) = record {
        waiting = settled.0 ∙ single.alone g u r lt there own;
        still = λ v k at. settled_still g u v r k (round_at out.state v) lt serve there own (goes.units v) at;
        deaf = settled.1;
      }
  rests g lt quiet (Emptied waiting trigger none) = record { waiting = waiting; still = none; deaf = inl trigger }

  all_rest : (g : ℕ) → g < 16 → is_quiet d g (group_at out.state g).status ≡ true → Rests g
  all_rest g lt quiet = rests g lt quiet (quiet_goes d w s h out g lt e)

  pub single_after : Single d out.state
  single_after = record {
    alone = λ g u r lt at own. alone_by g u r (round_at out.state u) lt (goes.units u) at own;
    placed = λ u r at. (placed_by u r (round_at out.state u) (goes.units u) at).on;
    few = λ u r at. (placed_by u r (round_at out.state u) (goes.units u) at).few;
    quiet = λ g lt quiet. (all_rest g lt quiet).waiting;
    still = λ g u r lt quiet at. (all_rest g lt quiet).still u r at;
    deaf = λ g lt quiet. (all_rest g lt quiet).deaf;
  }

pub first_single : (d : AdcTable) → Single d first_state
first_single d = record {
  alone = λ g u r lt at own. absurd (cc at);
  placed = λ u r at. absurd (cc at);
  few = λ u r at. absurd (cc at);
  quiet = λ g lt quiet. refl;
  still = λ g u r lt quiet at. absurd (cc at);
  deaf = λ g lt quiet. inl refl;
}
