-- Rounds that are served: one for a request of a group that isn't continuous, and each one finished.
use Rattle.std.proofs.Common.{◌≡◌, ℕ, ◌+◌, ◌-◌, ◌<◌, ◌≤◌, ◌==◌, nat_le, Bool, true, false, cond, ◌&&◌, ◌||◌, List, [], ◌∷◌, length, Option, Some, None, refl, sym, ◌∙◌, ap, subst, arith}
use Rattle.std.specs.Prelude.{is_some, IsSome}
use Rattle.std.specs.List.{list_any}
use Rattle.std.proofs.lemmas.Bool.Decides.{nat_tests}
use Rattle.std.proofs.lemmas.Bool.{and_parts, or_from}
use Rattle.mcal_base.specs.facts.Options.{some_is}
use Rattle.mcal_base.specs.facts.Numbers.{eq_is, eq_self}
use Rattle.mcal_base.specs.declared.error_name.ErrorName.{ErrorName}
use Rattle.run_model.specs.Frame.{state_by}
use Rattle.run_model.specs.Machine.{Happening, Acts, Serves, Starts, Aborts, Moves, Restarts, Outcome, outcome, tells_nothing}
use Rattle.run_model.specs.World.{World}
use Rattle.adc_machine.proofs.Parts.{group_same}
use Rattle.adc_machine.proofs.Stopped.{unmarked_group}
use Rattle.adc_machine.specs.Groups.{Request, GroupState, Round, is_continuous, is_full, is_finished, finish_of, values_of, trigger_input, with_round_of}
use Rattle.adc_machine.specs.Machine.{adc_machine, happens, ready, is_done, is_unit_line, with_values, after_round, served_values, served_round, served}
use Rattle.adc_machine.specs.Table.{group_of}
use Rattle.adc_machine.specs.Triggers.{listener, served_trigger}
use Rattle.adc_machine.specs.Turns.{AdcState, first_state, group_at, round_at, with_group, with_round, is_on as is_on_unit}
use Rattle.adc_machine.specs.declared.call.Call.{Call}
use Rattle.adc_machine.specs.declared.table.AdcTable.{AdcTable}
use Rattle.adc_machine.specs.declared.table.Group as configured
use Rattle.board_promises.specs.whole_runs.GroupRuns.{GroupEvent, seen_between, seen_of, round_group, requesting_group, call_by, is_whole, is_start, is_stop, stops, unit_started, unit_aborted, unit_served, starts_on, aborts_on, serves_on, serves, is_on}
use Rattle.board_promises.specs.whole_runs.Runs.{Event, AreAllowed, NoneOf, told_or_nothing, is_restart, is_of}
use Rattle.board_promises.proofs.GroupServes.{happens_goes}
use Rattle.board_promises.proofs.GroupSteps as steps
use Rattle.board_promises.proofs.GroupSteps.{seen, WaitGoes, UnitGoes, Goes}
use Rattle.board_promises.proofs.OneTurn.{first_single}
use Rattle.board_promises.proofs.RoundStates.{Tells, IsRunning, tells_after}
use Rattle.board_promises.proofs.TurnSteps.{Single}
use Rattle.board_promises.specs.run_laws.Rounds.{state_of, seen_at, HasNewRequest, WasFinished, AreServedRight}

serve_by : {A : Type 0} (b : Bool) (x out : A) → cond b (Some x) None ≡ Some out → (b ≡ true) × (x ≡ out)
serve_by true x out e = (refl, some_is x out e)
serve_by false x out e = absurd (cc e)

-- ---- a serving of a round

-- what is served: a line of a unit, which has a round of the group
record Served (s : AdcState) (u g : ℕ) (h : Happening Call) : Type 0 where
  line : ℕ
  received : ℕ
  is : h ≡ Serves line received
  unit_line : is_unit_line line ≡ true
  unit : line - 24 ≡ u
  round : Round
  there : round_at s u ≡ Some round
  own : round.group ≡ g

group_named : (g : ℕ) (o : Option Round) → is_of g (round_group o) ≡ true → (r : Round) × (o ≡ Some r) × (r.group ≡ g)
group_named g None e = absurd (cc e)
group_named g (Some r) e = (r, refl, eq_is r.group g e)

line_served : (d : AdcTable) (s : AdcState) (u g line received : ℕ) (b : Bool) → is_unit_line line ≡ b
    → (is_of u (cond b (Some (line - 24)) None) && is_of g (cond b (round_group (round_at s (line - 24))) (requesting_group s (listener d s (line - 28))))) ≡ true → Served s u g (Serves line received)
line_served d s u g line received false on e = absurd (cc e)
line_served d s u g line received true on e =
    let parts = and_parts (line - 24 == u) (is_of g (round_group (round_at s (line - 24)))) e in
    let at : line - 24 ≡ u = eq_is (line - 24) u parts.0 in
    let r = group_named g (round_at s (line - 24)) parts.1 in
    record { line = line; received = received; is = refl; unit_line = on; unit = at; round = r.0; there = ap (λ i. round_at s i) (sym at) ∙ r.1; own = r.2 }

served_of : (d : AdcTable) (w : World) (s : AdcState) (h : Happening Call) (out : Outcome AdcState) (u g : ℕ) → serves_on u g (seen d w h s out) ≡ true → Served s u g h
served_of d w s (Acts call times) out u g e = absurd (cc e)
served_of d w s (Serves line received) out u g e = line_served d s u g line received (is_unit_line line) refl e
served_of d w s (Starts v made_by received) out u g e = absurd (cc e)
served_of d w s (Aborts v) out u g e = absurd (cc e)
served_of d w s (Moves order) out u g e = absurd (cc e)
served_of d w s (Restarts reason) out u g e = absurd (cc e)

served_is : (d : AdcTable) (w : World) (s : AdcState) (line received : ℕ) (r : Round) (out : Outcome AdcState) → is_unit_line line ≡ true → round_at s (line - 24) ≡ Some r → happens d w s (Serves line received) ≡ Some out
    → served_values d s (line - 24) r (values_of w (group_of d r.group) r) ≡ out.state
served_is d w s line received r out on there made =
    ap (λ o. (served_round d w s (line - 24) o).state) (sym there)
    ∙ (ap (λ b. (cond b (served_round d w s (line - 24) (round_at s (line - 24))) (outcome (served_trigger d s (line - 28)) tells_nothing)).state) (sym on)
    ∙ ap (λ (x : Outcome AdcState). x.state) (serve_by (ready d w s line) (served d w s line) out made).1)

-- a group that isn't continuous waits afterwards as it did before
turn_waits : (d : AdcTable) (s : AdcState) (g number : ℕ) (full continuous : Bool) → g < 16 → continuous ≡ false → (group_at (after_round d s g number full continuous) g).waiting ≡ (group_at s g).waiting
turn_waits d s g number full true lt e = absurd (cc e)
turn_waits d s g number false false lt e = refl
turn_waits d s g number true false lt e =
    ap (λ (x : GroupState). x.waiting) (unmarked_group (with_group s g (record (group_at s g) { trigger = false })) g (trigger_input (group_of d g)))
    ∙ ap (λ (x : GroupState). x.waiting) (group_same s g (record (group_at s g) { trigger = false }) lt)

values_wait : (d : AdcTable) (s : AdcState) (u : ℕ) (r : Round) (values : List ℕ) → r.group < 16 → is_continuous (group_of d r.group) ≡ false → (group_at (served_values d s u r values) r.group).waiting ≡ (group_at s r.group).waiting
values_wait d s u r values lt once =
    turn_waits d (record (with_group (with_round s u None) r.group (with_values (group_of d r.group) (group_at s r.group) values)) { results = with_round_of (group_of d r.group) (length (group_at s r.group).rounds) r.group (group_at s r.group).chosen values s.results })
    r.group r.request.number (is_full (group_of d r.group) (length (group_at s r.group).rounds + 1)) (is_continuous (group_of d r.group)) lt once
    ∙ ap (λ (x : GroupState). x.waiting) (group_same (with_round s u None) r.group (with_values (group_of d r.group) (group_at s r.group) values) lt)

serving_waits : (d : AdcTable) (w : World) (s : AdcState) (h : Happening Call) (out : Outcome AdcState) (u g : ℕ) → happens d w s h ≡ Some out → serves_on u g (seen d w h s out) ≡ true → g < 16 → is_continuous (group_of d g) ≡ false
    → (group_at out.state g).waiting ≡ (group_at s g).waiting
serving_waits d w s h out u g made serve lt once =
    let x = served_of d w s h out u g serve in
    let r = x.round in
    let made_so : happens d w s (Serves x.line x.received) ≡ Some out = ap (λ y. happens d w s y) (sym x.is) ∙ made in
    let is = served_is d w s x.line x.received r out x.unit_line (ap (λ i. round_at s i) x.unit ∙ x.there) made_so in
    let few : r.group < 16 = omega (arith, lt, x.own) in
    let once_so : is_continuous (group_of d r.group) ≡ false = ap (λ i. is_continuous (group_of d i)) x.own ∙ once in
    subst (λ i. (group_at out.state i).waiting ≡ (group_at s i).waiting) x.own
    (ap (λ (y : AdcState). (group_at y r.group).waiting) (sym is) ∙ values_wait d s (x.line - 24) r (values_of w (group_of d r.group) r) few once_so)

-- ---- a request that no round was served for

none_more : (p : GroupEvent → Bool) (e : GroupEvent) (es : List GroupEvent) → p e ≡ false → NoneOf p es → NoneOf p (e ∷ es)
none_more p e es h none = or_from (p e) (list_any p es) h none

later : (g : ℕ) (e : GroupEvent) (past : List GroupEvent) → stops g e ≡ false → serves g e ≡ false → HasNewRequest g past → HasNewRequest g (e ∷ past)
later g e past calm quiet h = record {
  since = e ∷ h.since;
  request = h.request;
  before = h.before;
  is = ap (λ (l : List GroupEvent). e ∷ l) h.is;
  requested = h.requested;
  unstopped = none_more (stops g) e h.since calm h.unstopped;
  unserved = none_more (serves g) e h.since quiet h.unserved;
}

-- an abort and a start stop nothing and serve nothing
abort_calm : (e : GroupEvent) (u g : ℕ) → aborts_on u g e ≡ true → (stops g e ≡ false) × (serves g e ≡ false)
abort_calm e u g on = by_what e.what e.told.error on where
  by_what : (h : Happening Call) (o : Option ErrorName) → (is_of u (unit_aborted h) && is_of g e.group) ≡ true → (((is_restart h || is_whole (call_by h o)) || is_stop g (call_by h o)) ≡ false) × ((is_some (unit_served h) && is_of g e.group) ≡ false)
  by_what (Acts call times) o f = absurd (cc f)
  by_what (Serves l received) o f = absurd (cc f)
  by_what (Starts v made_by received) o f = absurd (cc f)
  by_what (Aborts v) o f = (refl, refl)
  by_what (Moves order) o f = absurd (cc f)
  by_what (Restarts reason) o f = absurd (cc f)

start_calm : (e : GroupEvent) (u g : ℕ) → starts_on u g e ≡ true → (stops g e ≡ false) × (serves g e ≡ false)
start_calm e u g on = by_what e.what e.told.error on where
  by_what : (h : Happening Call) (o : Option ErrorName) → (is_of u (unit_started h) && is_of g e.group) ≡ true → (((is_restart h || is_whole (call_by h o)) || is_stop g (call_by h o)) ≡ false) × ((is_some (unit_served h) && is_of g e.group) ≡ false)
  by_what (Acts call times) o f = absurd (cc f)
  by_what (Serves l received) o f = absurd (cc f)
  by_what (Starts v made_by received) o f = (refl, refl)
  by_what (Aborts v) o f = absurd (cc f)
  by_what (Moves order) o f = absurd (cc f)
  by_what (Restarts reason) o f = absurd (cc f)

untouched_quiet : (a b c : Bool) → (a || b) ≡ false → (c && b) ≡ false
untouched_quiet true b c e = absurd (cc e)
untouched_quiet false true c e = absurd (cc e)
untouched_quiet false false true e = refl
untouched_quiet false false false e = refl

-- a group is on one unit
same_unit : (u v : ℕ) (o : Option configured.Group) → is_on_unit u o ≡ true → is_on_unit v o ≡ true → u ≡ v
same_unit u v None a b = absurd (cc a)
same_unit u v (Some k) a b = let x = eq_is k.unit u a in let y = eq_is k.unit v b in omega (arith, x, y)

serving_unit : (g : ℕ) (o : Option ℕ) (b : Bool) → (is_some o && b) ≡ true → (v : ℕ) × ((is_of v o && b) ≡ true)
serving_unit g None b e = absurd (cc e)
serving_unit g (Some v) b e = (v, ap (λ x. x && b) (eq_self v) ∙ e)

is_on_by : (a b c : Bool) → c ≡ true → (a || (b || c)) ≡ false → ⊥
is_on_by true b c e f = absurd (cc f)
is_on_by false true c e f = absurd (cc f)
is_on_by false false c e f = absurd (cc (sym f ∙ e))

-- while a unit has a round of a group, no other one serves one of it
elsewhere_quiet : (d : AdcTable) (w : World) (s : AdcState) (h : Happening Call) (out : Outcome AdcState) (u g : ℕ) (r : Round) (b : Bool) → Single d s → is_on u (seen d w h s out) ≡ false → round_at s u ≡ Some r → r.group ≡ g
    → serves g (seen d w h s out) ≡ b → b ≡ false
elsewhere_quiet d w s h out u g r false single away there own e = refl
elsewhere_quiet d w s h out u g r true single away there own e =
    let v = serving_unit g (unit_served h) (is_of g (seen d w h s out).group) e in
    let x = served_of d w s h out v.0 g v.1 in
    let mine : is_on_unit u (group_of d g) ≡ true = ap (λ i. is_on_unit u (group_of d i)) (sym own) ∙ single.placed u r there in
    let its : is_on_unit v.0 (group_of d g) ≡ true = ap (λ i. is_on_unit v.0 (group_of d i)) (sym x.own) ∙ single.placed v.0 x.round x.there in
    let same : v.0 ≡ u = same_unit v.0 u (group_of d g) its mine in
    let on : is_of u (unit_served h) ≡ true = ap (λ i. is_of i (unit_served h)) (sym same) ∙ (and_parts (is_of v.0 (unit_served h)) (is_of g (seen d w h s out).group) v.1).0 in
    absurd (is_on_by (is_of u (unit_started h)) (is_of u (unit_aborted h)) (is_of u (unit_served h)) on away)

-- ---- what the state says

-- a group that isn't continuous and waits or runs has a request that no round was served for
record OneRound (d : AdcTable) (past : List GroupEvent) (s : AdcState) : Type 0 where
  waits : (g : ℕ) → g < 16 → is_continuous (group_of d g) ≡ false → (q : Request) → (group_at s g).waiting ≡ Some q → HasNewRequest g past
  runs : (g : ℕ) → g < 16 → is_continuous (group_of d g) ≡ false → (u : ℕ) (r : Round) → round_at s u ≡ Some r → r.group ≡ g → HasNewRequest g past

module _ (d : AdcTable) (w : World) (s : AdcState) (h : Happening Call) (out : Outcome AdcState) (past : List GroupEvent) (made : happens d w s h ≡ Some out) (single : Single d s) (before : OneRound d past s) where
  abbrev view : GroupEvent
  view = seen d w h s out

  abbrev longer : List GroupEvent
  longer = view ∷ past

  none_waits : {A : Type 0} (o : Option Request) (q : Request) → o ≡ None → o ≡ Some q → A
  none_waits o q e f = absurd (cc (sym e ∙ f))

  waits_after : (g : ℕ) → g < 16 → is_continuous (group_of d g) ≡ false → (q : Request) → WaitGoes d g view s (group_at s g) (group_at out.state g) → (group_at out.state g).waiting ≡ Some q → HasNewRequest g longer
  waits_after g lt once q (steps.Stands calm touch same) at =
      later g view past calm (untouched_quiet (is_start g (call_by view.what view.told.error)) (is_of g view.group) (is_some (unit_served view.what)) touch) (before.waits g lt once q (sym same ∙ at))
  waits_after g lt once q (steps.Over u r serve there own same) at = none_waits (group_at s g).waiting q (single.alone g u r lt there own) (sym same ∙ at)
  waits_after g lt once q (steps.Made n request is) at = record { since = []; request = view; before = past; is = refl; requested = request; unstopped = refl; unserved = refl }
  waits_after g lt once q (steps.Again u n r serve there own is) at =
      none_waits (group_at s g).waiting q (single.alone g u r lt there own) (sym (serving_waits d w s h out u g made serve lt once) ∙ at)
  waits_after g lt once q (steps.Back u r abort there own is) at =
      let calm = abort_calm view u g abort in later g view past calm.0 calm.1 (before.runs g lt once u r there own)
  waits_after g lt once q (steps.Dropped none) at = none_waits (group_at out.state g).waiting q none at

  no_round : {A : Type 0} (o : Option Round) (r : Round) → o ≡ None → o ≡ Some r → A
  no_round o r e f = absurd (cc (sym e ∙ f))

  runs_after : (g : ℕ) → g < 16 → is_continuous (group_of d g) ≡ false → (u : ℕ) (r : Round) → UnitGoes u view s (round_at s u) (round_at out.state u) → round_at out.state u ≡ Some r → r.group ≡ g → HasNewRequest g longer
  runs_after g lt once u r (steps.Remains away calm same) at own =
      let was : round_at s u ≡ Some r = sym same ∙ at in
      later g view past (ap (λ i. stops i view) (sym own) ∙ calm r was) (elsewhere_quiet d w s h out u g r (serves g view) single away was own refl) (before.runs g lt once u r was own)
  runs_after g lt once u r (steps.Begun k x start few there is) at own =
      let same : k ≡ g = ap (λ (y : Round). y.group) (some_is _ r (sym is ∙ at)) ∙ own in
      let start_so : starts_on u g view ≡ true = ap (λ i. starts_on u i view) (sym same) ∙ start in
      let calm = start_calm view u g start_so in
      later g view past calm.0 calm.1 (before.waits g lt once x (ap (λ i. (group_at s i).waiting) (sym same) ∙ there))
  runs_after g lt once u r (steps.Freed none) at own = no_round (round_at out.state u) r none at

  one_after : OneRound d longer out.state
  one_after =
      let goes : Goes d w h s out = happens_goes d w s h out made in
      record {
        waits = λ g lt once q at. waits_after g lt once q (goes.groups g lt).waiting at;
        runs = λ g lt once u r at own. runs_after g lt once u r (goes.units u) at own;
      }

-- ---- a run

some_out : (o : Option (Outcome AdcState)) → IsSome o → (out : Outcome AdcState) × (o ≡ Some out)
some_out None e = absurd (cc e)
some_out (Some out) e = (out, refl)

first_tells : (d : AdcTable) → Tells d [] first_state
first_tells d = record { waiting = λ g lt q e. absurd (cc e); running = λ u r e. absurd (cc e); newest = λ g lt values e. absurd (cc e); completed = λ g lt e. absurd (cc e); single = first_single d }

seen_is : (d : AdcTable) (e : Event Call) (past : List (Event Call)) (out : Outcome AdcState) → happens d e.world (state_of d past) e.what ≡ Some out → seen_at d e past ≡ seen d e.world e.what (state_of d past) out
seen_is d e past out made = ap (λ o. seen_between d (state_of d past) (state_by (state_of d past) o) e (told_or_nothing o)) made

abbrev Says : AdcTable → List GroupEvent → AdcState → Type 0
Says d past s = Tells d past s × OneRound d past s

said : (d : AdcTable) (past : List (Event Call)) → AreAllowed (adc_machine d) first_state past → Says d (seen_of d past) (state_of d past)
said d [] allowed = (first_tells d, record { waits = λ g lt once q e. absurd (cc e); runs = λ g lt once u r e own. absurd (cc e) })
said d (e ∷ past) allowed =
    let before = said d past allowed.1 in
    let out = some_out (happens d e.world (state_of d past) e.what) allowed.0 in
    let tells = tells_after d e.world e.what (state_of d past) out.0 (seen_of d past) out.1 (happens_goes d e.world (state_of d past) e.what out.0 out.1) before.0 in
    let one = one_after d e.world (state_of d past) e.what out.0 (seen_of d past) out.1 before.0.single before.1 in
    subst (λ (s : AdcState). Tells d (seen_at d e past ∷ seen_of d past) s × OneRound d (seen_at d e past ∷ seen_of d past) s) (sym (ap (λ o. state_by (state_of d past) o) out.1))
    (subst (λ (v : GroupEvent). Tells d (v ∷ seen_of d past) out.0.state × OneRound d (v ∷ seen_of d past) out.0.state) (sym (seen_is d e past out.0 out.1)) (tells, one))

module _ (d : AdcTable) (e : Event Call) (past : List (Event Call)) (u g : ℕ) (allowed : AreAllowed (adc_machine d) first_state (e ∷ past)) (serve : serves_on u g (seen_at d e past) ≡ true) where
  abbrev here : AdcState
  here = state_of d past

  made : (out : Outcome AdcState) × (happens d e.world here e.what ≡ Some out)
  made = some_out (happens d e.world here e.what) allowed.0

  round_there : Served here u g e.what
  round_there = served_of d e.world here e.what made.0 u g (ap (λ (v : GroupEvent). serves_on u g v) (sym (seen_is d e past made.0 made.1)) ∙ serve)

  one_request : g < 16 → is_continuous (group_of d g) ≡ false → HasNewRequest g (seen_of d past)
  one_request lt once = (said d past allowed.1).1.runs g lt once u round_there.round round_there.there round_there.own

  unit_done : (b c : Bool) (line : ℕ) → (b && cond (is_unit_line line) (is_done d e.world (round_at here (line - 24))) c) ≡ true → is_unit_line line ≡ true → is_done d e.world (round_at here (line - 24)) ≡ true
  unit_done b c line f on =
      sym (ap (λ q. cond q (is_done d e.world (round_at here (line - 24))) c) on) ∙ (and_parts b (cond (is_unit_line line) (is_done d e.world (round_at here (line - 24))) c) f).1

  done : is_finished e.world (group_of d round_there.round.group) round_there.round ≡ true
  done =
      let x = round_there in
      let ready_so : ready d e.world here x.line ≡ true = (serve_by (ready d e.world here x.line) (served d e.world here x.line) made.0 (ap (λ h. happens d e.world here h) (sym x.is) ∙ made.1)).0 in
      ap (λ o. is_done d e.world o) (sym (ap (λ i. round_at here i) x.unit ∙ x.there)) ∙ unit_done here.initialised _ x.line ready_so x.unit_line

  at_most : (a b : ℕ) → nat_le a b ≡ true → a ≤ b
  at_most a b f = grind (arith, nat_tests)

  finished : WasFinished d g (seen_at d e past) (seen_of d past)
  finished =
      let x = round_there in
      let run : IsRunning d u x.round (seen_of d past) = (said d past allowed.1).0.running u x.round x.there in
      let over : finish_of (group_of d x.round.group) x.round ≤ e.world.now = at_most (finish_of (group_of d x.round.group) x.round) e.world.now done in
      subst (λ i. serves_on u i (seen_at d e past) ≡ true → WasFinished d i (seen_at d e past) (seen_of d past)) x.own
      (λ serve_so. record { unit = u; earlier = run.earlier; start = run.start; kept = x.round.request.kept; served = serve_so; stretch = run.stretch; keeps = run.stood; finished = omega (arith, over, run.at) }) serve

pub all_served_right : (d : AdcTable) (past : List (Event Call)) → AreAllowed (adc_machine d) first_state past → AreServedRight d past
all_served_right d [] allowed = tt
all_served_right d (e ∷ past) allowed = (record { one = λ u g lt once serve. one_request d e past u g allowed serve lt once; finished = λ u g serve. finished d e past u g allowed serve }, all_served_right d past allowed.1)
