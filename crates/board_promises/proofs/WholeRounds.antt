-- Every event of a run of the converter groups: what it reads, and what it does to places and newest rounds.
use Rattle.std.proofs.Common.{◌≡◌, ℕ, suc, ◌+◌, ◌-◌, ◌<◌, ◌==◌, Bool, true, false, cond, ◌&&◌, not, List, [], ◌∷◌, length, Option, Some, None, refl, sym, ◌∙◌, ap, subst, ◌⊎◌, inl, inr, arith}
use Rattle.std.specs.Prelude.{is_some, nat_lt, if◌then◌else◌, Contains, slice_index_or, IsSome}
use Rattle.std.proofs.lemmas.Bool.Decides.{nat_tests}
use Rattle.mcal_base.specs.det_errors.Rows.{first_error}
use Rattle.mcal_base.specs.declared.answer.Answer.{Answer}
use Rattle.mcal_base.specs.declared.answer_name.AnswerName.TheVariants.{EOk}
use Rattle.mcal_base.specs.declared.error_name.ErrorName.{ErrorName}
use Rattle.mcal_base.specs.declared.service.Service.TheVariants.{AdcReadGroup}
use Rattle.run_model.specs.Frame.{state_by}
use Rattle.run_model.specs.World.{World, with_at}
use Rattle.run_model.specs.Machine.{Happening, Acts, Serves, Starts, Aborts, Moves, Restarts, Outcome, outcome, tells_nothing, named_with}
use Rattle.adc_machine.specs.Checks.{error_by}
use Rattle.adc_machine.specs.Groups.{Status, Idle, Busy, Completed, StreamCompleted, GroupState, Round, Results, is_idle, newest, values_of, is_continuous, is_full, place_in, samples_of, stored_from, is_same, with_round_of, trigger_input, held_in}
use Rattle.adc_machine.specs.Machine.{adc_machine, acts, acts_by, circumstances, happens, ready, reads, served, served_round, served_values, after_round, is_unit_line, with_values}
use Rattle.adc_machine.specs.Table.{group_of}
use Rattle.adc_machine.specs.Triggers.{without_mark, served_trigger}
use Rattle.adc_machine.specs.Turns.{AdcState, first_state, group_at, round_at, with_group, with_round}
use Rattle.adc_machine.specs.declared.call.Call.{Call}
use Rattle.adc_machine.specs.declared.call.Call.TheVariants.{Init, DeInit, Group}
use Rattle.adc_machine.specs.declared.call.GroupCall.TheVariants.{SetupResultBuffer, StartGroupConversion, StopGroupConversion, ReadGroup, EnableHardwareTrigger, DisableHardwareTrigger, Notification, GetGroupStatus, GetStreamLastPointer}
use Rattle.adc_machine.specs.declared.call.ResultBuffer.{ResultBuffer}
use Rattle.adc_machine.specs.declared.call.ResultBuffer.TheVariants.{Zero, One}
use Rattle.adc_machine.specs.declared.table.AdcTable.{AdcTable}
use Rattle.adc_machine.specs.declared.table.Group as configured
use Rattle.adc_machine.proofs.Places.{leaves_results}
use Rattle.board_promises.specs.whole_runs.Runs.{Event, state_after, AreAllowed, told_or_nothing}
use Rattle.board_promises.specs.whole_runs.GroupRuns.{GroupEvent, seen_between, seen_of, serves_on, newest_of, newest_in}
use Rattle.board_promises.specs.whole_runs.Rounds.{IsRound, HandsOut, Reads, PlaceGoes, Left, Taken, Reset, NewestGoes, Stays, Becomes, Lost, PlacesGo, IsWhole, AreWhole}
use Rattle.board_promises.proofs.GroupSteps.{is_completed, RoundsGo, Same, Added, Cleared, seen, Goes, went, same_number}
use Rattle.board_promises.proofs.GroupServes.{happens_goes}
use Rattle.board_promises.proofs.OneTurn.{first_single}
use Rattle.board_promises.proofs.RoundStates.{IsRunning, Tells, is_round, newest_added, tells_after}

-- ---- reads

-- a read that finds no error is of a known group that isn't idle
found : (uninitialised unknown idle : Bool) → first_error AdcReadGroup (uninitialised ∷ unknown ∷ idle ∷ false ∷ false ∷ false ∷ []) ≡ None → (unknown ≡ false) × (idle ≡ false)
found true unknown idle e = absurd (cc e)
found false true idle e = absurd (cc e)
found false false true e = absurd (cc e)
found false false false e = (refl, refl)

known_below : (d : AdcTable) (g : ℕ) → not (is_some (group_of d g)) ≡ false → g < 16
known_below d g known = by_test (nat_lt g 16) refl known
  where
    by_test : (b : Bool) → nat_lt g 16 ≡ b → not (is_some (if b then slice_index_or d.groups g None else None)) ≡ false → g < 16
    by_test true e f = grind (arith, nat_tests)
    by_test false e f = absurd (cc f)

newest_is : (rounds : List (List ℕ)) (values : List ℕ) → is_some (newest_of rounds) ≡ true → newest rounds ≡ values → newest_of rounds ≡ Some values
newest_is [] values some e = absurd (cc some)
newest_is (r ∷ rs) values some e = ap (λ v. Some v) e

reads_newest : (d : AdcTable) (s : AdcState) (g : ℕ) (x : Status) (values : List ℕ) → (group_at s g).status ≡ x → (is_completed (group_at s g).status ≡ true → is_some (newest_in s g) ≡ true)
    → is_idle (group_at s g).status ≡ false → (reads d s g x).told.answer ≡ named_with EOk values → newest_in s g ≡ Some values
reads_newest d s g Idle values at completed idle e = absurd (cc (ap (λ y. is_idle y) at, idle))
reads_newest d s g Busy values at completed idle e = absurd (cc (ap (λ (a : Answer). a.head) e))
reads_newest d s g Completed values at completed idle e = newest_is (group_at s g).rounds values (completed (ap (λ y. is_completed y) at)) (ap (λ (a : Answer). a.words) e)
reads_newest d s g StreamCompleted values at completed idle e = newest_is (group_at s g).rounds values (completed (ap (λ y. is_completed y) at)) (ap (λ (a : Answer). a.words) e)

read_by : (d : AdcTable) (s : AdcState) (past : List GroupEvent) (g : ℕ) (values : List ℕ) (o : Option ErrorName) → error_by d (Group g ReadGroup) (circumstances d s (Group g ReadGroup)) ≡ o → Tells d past s
    → (acts_by d s (Group g ReadGroup) o).told.answer ≡ named_with EOk values → HandsOut d g past values
read_by d s past g values (Some x) at t e = absurd (cc (ap (λ (a : Answer). a.head) e))
read_by d s past g values None at t e =
    let fine = found (not s.initialised) (not (is_some (group_of d g))) (is_idle (group_at s g).status) at in
    let lt : g < 16 = known_below d g fine.0 in
    t.newest g lt values (reads_newest d s g (group_at s g).status values refl (t.completed g lt) fine.1 e)

reads_by : (d : AdcTable) (w : World) (h : Happening Call) (s : AdcState) (out : Outcome AdcState) (past : List GroupEvent) (g : ℕ) (values : List ℕ) → happens d w s h ≡ Some out → Tells d past s → Reads g h
    → out.told.answer ≡ named_with EOk values → HandsOut d g past values
reads_by d w (Acts (Group k ReadGroup) times) s out past g values e t is answer =
    subst (λ n. HandsOut d n past values) is
    (went (λ (x : Outcome AdcState). x.told.answer ≡ named_with EOk values → HandsOut d k past values) (acts d s (Group k ReadGroup)) out e
    (λ f. read_by d s past k values (error_by d (Group k ReadGroup) (circumstances d s (Group k ReadGroup))) refl t f) answer)
reads_by d w (Acts Init times) s out past g values e t is answer = absurd is
reads_by d w (Acts DeInit times) s out past g values e t is answer = absurd is
reads_by d w (Acts (Group k (SetupResultBuffer b)) times) s out past g values e t is answer = absurd is
reads_by d w (Acts (Group k StartGroupConversion) times) s out past g values e t is answer = absurd is
reads_by d w (Acts (Group k StopGroupConversion) times) s out past g values e t is answer = absurd is
reads_by d w (Acts (Group k EnableHardwareTrigger) times) s out past g values e t is answer = absurd is
reads_by d w (Acts (Group k DisableHardwareTrigger) times) s out past g values e t is answer = absurd is
reads_by d w (Acts (Group k (Notification on)) times) s out past g values e t is answer = absurd is
reads_by d w (Acts (Group k GetGroupStatus) times) s out past g values e t is answer = absurd is
reads_by d w (Acts (Group k GetStreamLastPointer) times) s out past g values e t is answer = absurd is
reads_by d w (Serves l received) s out past g values e t is answer = absurd is
reads_by d w (Starts u made_by received) s out past g values e t is answer = absurd is
reads_by d w (Aborts u) s out past g values e t is answer = absurd is
reads_by d w (Moves order) s out past g values e t is answer = absurd is
reads_by d w (Restarts reason) s out past g values e t is answer = absurd is

-- ---- places

further : (v : ℕ) (vs : List ℕ) (x : ℕ) → Contains vs x → Contains (v ∷ vs) x
further v vs x (k, within, is) = (suc k, omega (arith, within), is)

-- a place keeps what it held, or takes one of the values
stored_or : (place step : ℕ) (vs : List ℕ) (held : ℕ → ℕ) (p : ℕ) → (stored_from place step vs held p ≡ held p) ⊎ Contains vs (stored_from place step vs held p)
stored_or place step [] held p = inl refl
stored_or place step (v ∷ vs) held p = by_rest (stored_or (place + step) step vs (with_at held place v) p)
  where
    by_test : (b : Bool) (x : ℕ) → x ≡ cond b v (held p) → (x ≡ held p) ⊎ Contains (v ∷ vs) x
    by_test true x e = inr (0, omega arith, sym e)
    by_test false x e = inl e

    by_rest : (stored_from (place + step) step vs (with_at held place v) p ≡ with_at held place v p) ⊎ Contains vs (stored_from (place + step) step vs (with_at held place v) p)
        → (stored_from place step (v ∷ vs) held p ≡ held p) ⊎ Contains (v ∷ vs) (stored_from place step (v ∷ vs) held p)
    by_rest (inl same) = by_test (p == place) (stored_from (place + step) step vs (with_at held place v) p) same
    by_rest (inr there) = inr (further v vs (stored_from (place + step) step vs (with_at held place v) p) there)

round_or : (k : Option configured.Group) (r h : ℕ) (o : Option ResultBuffer) (vs : List ℕ) (held : Results) (g : ℕ) (b : ResultBuffer) (p : ℕ)
    → (held_in (with_round_of k r h o vs held) g b p ≡ held_in held g b p) ⊎ ((h ≡ g) × Contains vs (held_in (with_round_of k r h o vs held) g b p))
round_or k r h None vs held g b p = inl refl
round_or k r h (Some c) vs held g b p = by_test (g == h) (is_same b c) refl refl
  where
    put : ℕ → ℕ
    put = stored_from (place_in k r) (samples_of k) vs (held_in held h c)

    by_place : (g ≡ h) → (b ≡ c) → (put p ≡ held_in held h c p) ⊎ Contains vs (put p) → (put p ≡ held_in held g b p) ⊎ ((h ≡ g) × Contains vs (put p))
    by_place same one (inl left) = inl (left ∙ ap (λ m. held_in held m c p) (sym same) ∙ ap (λ x. held_in held g x p) (sym one))
    by_place same one (inr there) = inr (sym same, there)

    by_test : (x y : Bool) → (g == h) ≡ x → is_same b c ≡ y → ((cond (x && y) put (held_in held g b)) p ≡ held_in held g b p) ⊎ ((h ≡ g) × Contains vs ((cond (x && y) put (held_in held g b)) p))
    by_test true true e f = by_place (grind (arith, nat_tests, e)) (one_buffer b c f) (stored_or (place_in k r) (samples_of k) vs (held_in held h c) p)
      where
        one_buffer : (b c : ResultBuffer) → is_same b c ≡ true → b ≡ c
        one_buffer Zero Zero f = refl
        one_buffer One One f = refl
        one_buffer Zero One f = absurd (cc f)
        one_buffer One Zero f = absurd (cc f)
    by_test true false e f = inl refl
    by_test false true e f = inl refl
    by_test false false e f = inl refl

turn_results : (d : AdcTable) (t : AdcState) (g n : ℕ) (full continuous : Bool) → (after_round d t g n full continuous).results ≡ t.results
turn_results d t g n true continuous = unmarked (with_group t g (record (group_at t g) { trigger = false })) (trigger_input (group_of d g))
  where
    unmarked : (s : AdcState) (o : Option ℕ) → (without_mark s o).results ≡ s.results
    unmarked s None = refl
    unmarked s (Some i) = refl
turn_results d t g n false true = refl
turn_results d t g n false false = refl

-- what a serving of a unit's line does to a place
abbrev Places : AdcTable → List GroupEvent → GroupEvent → ℕ → ResultBuffer → ℕ → Type 0
Places d past e g b p = PlaceGoes d g e past (held_in e.held g b p) (held_in e.holds g b p)

served_place : (d : AdcTable) (w : World) (s : AdcState) (l received : ℕ) (r : Round) (past : List GroupEvent) (g : ℕ) (b : ResultBuffer) (p : ℕ) → is_unit_line l ≡ true → round_at s (l - 24) ≡ Some r → Tells d past s
    → Places d past (seen d w (Serves l received) s (served_round d w s (l - 24) (Some r))) g b p
served_place d w s l received r past g b p line at t =
    let e : GroupEvent = seen d w (Serves l received) s (served_round d w s (l - 24) (Some r)) in
    let k : Option configured.Group = group_of d r.group in
    let values : List ℕ = values_of w k r in
    let stored : Results = with_round_of k (length (group_at s r.group).rounds) r.group (group_at s r.group).chosen values s.results in
    let before : AdcState = record (with_group (with_round s (l - 24) None) r.group (with_values k (group_at s r.group) values)) { results = stored } in
    let is : (served_values d s (l - 24) r values).results ≡ stored = turn_results d before r.group r.request.number (is_full k (length (group_at s r.group).rounds + 1)) (is_continuous k) in
    let run : IsRunning d (l - 24) r past = t.running (l - 24) r at in
    let serve : serves_on (l - 24) r.group e ≡ true = rw (line, at, same_number (l - 24), same_number r.group) refl in
    by_place e values (is_round d (l - 24) r e past serve run)
    (subst (λ (x : Results). (held_in x g b p ≡ held_in s.results g b p) ⊎ ((r.group ≡ g) × Contains values (held_in x g b p))) (sym is) (round_or k (length (group_at s r.group).rounds) r.group (group_at s r.group).chosen values s.results g b p))
  where
    by_place : (e : GroupEvent) (values : List ℕ) → IsRound d r.group e past values → (held_in e.holds g b p ≡ held_in e.held g b p) ⊎ ((r.group ≡ g) × Contains values (held_in e.holds g b p)) → Places d past e g b p
    by_place e values round (inl same) = Left same
    by_place e values round (inr here) = Taken values (subst (λ n. IsRound d n e past values) here.0 round) here.1

round_place : (d : AdcTable) (w : World) (s : AdcState) (l received : ℕ) (q : Option Round) (past : List GroupEvent) (g : ℕ) (b : ResultBuffer) (p : ℕ) → is_unit_line l ≡ true → round_at s (l - 24) ≡ q → Tells d past s
    → Places d past (seen d w (Serves l received) s (served_round d w s (l - 24) q)) g b p
round_place d w s l received None past g b p line at t = Left refl
round_place d w s l received (Some r) past g b p line at t = served_place d w s l received r past g b p line at t

allowed_is : (b : Bool) (x out : Outcome AdcState) → cond b (Some x) None ≡ Some out → x ≡ out
allowed_is true x out e = cc
allowed_is false x out e = absurd (cc e)

serve_place : (d : AdcTable) (w : World) (s : AdcState) (l received : ℕ) (out : Outcome AdcState) (past : List GroupEvent) (g : ℕ) (b : ResultBuffer) (p : ℕ) (unit : Bool) → is_unit_line l ≡ unit
    → happens d w s (Serves l received) ≡ Some out → Tells d past s → Places d past (seen d w (Serves l received) s out) g b p
serve_place d w s l received out past g b p true line e t =
    let is : served_round d w s (l - 24) (round_at s (l - 24)) ≡ out =
    ap (λ x. cond x (served_round d w s (l - 24) (round_at s (l - 24))) (outcome (served_trigger d s (l - 28)) tells_nothing)) (sym line) ∙ allowed_is (ready d w s l) (served d w s l) out e in
    subst (λ (x : Outcome AdcState). Places d past (seen d w (Serves l received) s x) g b p) is (round_place d w s l received (round_at s (l - 24)) past g b p line refl t)
serve_place d w s l received out past g b p false line e t = Left (ap (λ (x : Results). held_in x g b p) (leaves_results d w s (Serves l received) out e line))

place_goes : (d : AdcTable) (w : World) (s : AdcState) (h : Happening Call) (out : Outcome AdcState) (past : List GroupEvent) → happens d w s h ≡ Some out → Tells d past s → PlacesGo d (seen d w h s out) past
place_goes d w s (Acts call times) out past e t g b p = Left (ap (λ (x : Results). held_in x g b p) (leaves_results d w s (Acts call times) out e tt))
place_goes d w s (Serves l received) out past e t g b p = serve_place d w s l received out past g b p (is_unit_line l) refl e t
place_goes d w s (Starts u made_by received) out past e t g b p = Left (ap (λ (x : Results). held_in x g b p) (leaves_results d w s (Starts u made_by received) out e tt))
place_goes d w s (Aborts u) out past e t g b p = Left (ap (λ (x : Results). held_in x g b p) (leaves_results d w s (Aborts u) out e tt))
place_goes d w s (Moves order) out past e t g b p = Left (ap (λ (x : Results). held_in x g b p) (leaves_results d w s (Moves order) out e tt))
place_goes d w s (Restarts reason) out past e t g b p = Reset refl (sym (ap (λ (x : Outcome AdcState). held_in x.state.results g b p) (some_is e)))
  where
    some_is : Some (outcome first_state tells_nothing) ≡ Some out → outcome first_state tells_nothing ≡ out
    some_is f = cc f

-- ---- newest rounds

newest_goes : (d : AdcTable) (g : ℕ) (e : GroupEvent) (past : List GroupEvent) (s : AdcState) (x y : GroupState) → RoundsGo d g e s x y → Tells d past s → NewestGoes d g e past (newest_of x.rounds) (newest_of y.rounds)
newest_goes d g e past s x y (Same serve begin same status) t = Stays (ap (λ rs. newest_of rs) same)
newest_goes d g e past s x y (Added u r serve there own is) t =
    Becomes (values_of e.world (group_of d g) r) (subst (λ h. serves_on u h e ≡ true → IsRound d h e past (values_of e.world (group_of d h) r)) own (λ f. is_round d u r e past f (t.running u r there)) serve)
    (ap (λ rs. newest_of rs) is ∙ newest_added x.rounds (values_of e.world (group_of d g) r))
newest_goes d g e past s x y (Cleared begin none status) t = Lost begin (ap (λ rs. newest_of rs) none)

-- ---- a run

first_tells : (d : AdcTable) → Tells d [] first_state
first_tells d = record { waiting = λ g lt q e. absurd (cc e); running = λ u r e. absurd (cc e); newest = λ g lt values e. absurd (cc e); completed = λ g lt e. absurd (cc e); single = first_single d }

-- what holds after an event, by what came of it
abbrev After : AdcTable → AdcState → Event Call → List GroupEvent → Option (Outcome AdcState) → Type 0
After d s e past o =
    Tells d (seen_between d s (state_by s o) e (told_or_nothing o) ∷ past) (state_by s o) × IsWhole d (seen_between d s (state_by s o) e (told_or_nothing o)) past

event_whole : (d : AdcTable) (s : AdcState) (e : Event Call) (past : List GroupEvent) (o : Option (Outcome AdcState)) → happens d e.world s e.what ≡ o → IsSome o → Tells d past s → After d s e past o
event_whole d s e past None at some t = absurd (cc some)
event_whole d s e past (Some out) at some t =
    let goes : Goes d e.world e.what s out = happens_goes d e.world s e.what out at in (
      tells_after d e.world e.what s out past at goes t,
      record {
        reads = λ g values is answer. reads_by d e.world e.what s out past g values at t is answer;
        places = place_goes d e.world s e.what out past at t;
        newest = λ g lt. newest_goes d g (seen d e.world e.what s out) past s (group_at s g) (group_at out.state g) (goes.groups g lt).rounds t;
      },
    )

run_whole : (d : AdcTable) (past : List (Event Call)) → AreAllowed (adc_machine d) first_state past → Tells d (seen_of d past) (state_after (adc_machine d) first_state past) × AreWhole d (seen_of d past)
run_whole d [] allowed = (first_tells d, tt)
run_whole d (e ∷ past) allowed =
    let before = run_whole d past allowed.1 in
    let s : AdcState = state_after (adc_machine d) first_state past in
    let after : After d s e (seen_of d past) (happens d e.world s e.what) = event_whole d s e (seen_of d past) (happens d e.world s e.what) refl allowed.0 before.0 in
    (after.0, (after.1, before.1))

pub whole_rounds : (d : AdcTable) (past : List (Event Call)) → AreAllowed (adc_machine d) first_state past → AreWhole d (seen_of d past)
whole_rounds d past allowed = (run_whole d past allowed).1
