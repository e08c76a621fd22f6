-- What the state of the converter groups says of the run that led to it.
use Rattle.std.proofs.Common.{◌≡◌, ℕ, ◌-◌, ◌<◌, ◌/◌, Bool, true, false, cond, ◌&&◌, ◌||◌, List, [], ◌∷◌, ◌++◌, length, take, drop, Option, Some, None, refl, sym, ◌∙◌, ap, subst, append_assoc, length-append, arith}
use Rattle.std.specs.Prelude.{is_some, slice_index_or}
use Rattle.std.proofs.lemmas.List.Folds.{list_any-append}
use Rattle.std.proofs.lemmas.Bool.{or_left}
use Rattle.mcal_base.specs.facts.Options.{some_same}
use Rattle.mcal_base.specs.declared.error_name.ErrorName.{ErrorName}
use Rattle.run_model.specs.World.{World}
use Rattle.run_model.specs.Machine.{Happening, Acts, Serves, Starts, Aborts, Moves, Restarts, Outcome}
use Rattle.adc_machine.specs.Groups.{GroupState, Request, Round, inputs_of, suspends, levels_from, newest, values_of}
use Rattle.adc_machine.specs.Machine.{happens}
use Rattle.adc_machine.specs.Table.{group_of}
use Rattle.adc_machine.specs.Turns.{AdcState, group_at, round_at, kept_of}
use Rattle.adc_machine.specs.declared.call.Call.{Call}
use Rattle.adc_machine.specs.declared.table.AdcTable.{AdcTable}
use Rattle.board_promises.specs.whole_runs.GroupRuns.{GroupEvent, stops, begins, starts_on, aborts_on, serves_on, serves, is_on, unit_started, unit_aborted, unit_served, newest_of, newest_in, is_whole, is_stop, call_by}
use Rattle.board_promises.specs.whole_runs.Runs.{NoneOf, is_of, is_restart}
use Rattle.board_promises.specs.whole_runs.Rounds.{inputs_after, Stretch, values_since, Keeps, Requested, Served, Aborted, Stands as StandsOn, IsRound, HasRequest, HandsOut}
use Rattle.board_promises.proofs.OneTurn.{single_after}
use Rattle.board_promises.proofs.TurnSteps.{Single}
use Rattle.board_promises.proofs.GroupSteps.{is_completed, WaitGoes, Stands, Over, Made, Again, Back, Dropped, RoundsGo, Same, Added, Cleared, UnitGoes, Remains, Begun, Freed, seen, Goes}

-- ---- what the state says

-- The round of a unit was started for a request that stood.
pub record IsRunning (d : AdcTable) (u : ℕ) (r : Round) (past : List GroupEvent) : Type 0 where
  pub earlier : List GroupEvent
  pub start : GroupEvent
  pub stretch : Stretch u r.group past earlier start
  pub stood : Keeps d r.group earlier r.request.kept
  pub at : r.start ≡ start.world.now
  pub below : r.group < 16

pub record Tells (d : AdcTable) (past : List GroupEvent) (s : AdcState) : Type 0 where
  pub waiting : (g : ℕ) → g < 16 → (q : Request) → (group_at s g).waiting ≡ Some q → Keeps d g past q.kept
  pub running : (u : ℕ) (r : Round) → round_at s u ≡ Some r → IsRunning d u r past
  pub newest : (g : ℕ) → g < 16 → (values : List ℕ) → newest_in s g ≡ Some values → HandsOut d g past values
  pub completed : (g : ℕ) → g < 16 → is_completed (group_at s g).status ≡ true → is_some (newest_in s g) ≡ true
  pub single : Single d s

-- ---- a round that is served

-- its values, by the time at which it was started
served_values : (d : AdcTable) (e start : GroupEvent) (r : Round) → r.start ≡ start.world.now
    → values_of e.world (group_of d r.group) r ≡ r.request.kept ++ levels_from e.world.samples start.world.now (inputs_after d r.group (length r.request.kept))
served_values d e start r at = ap (λ t. r.request.kept ++ levels_from e.world.samples t (drop (length r.request.kept) (inputs_of (group_of d r.group)))) at

-- what an abort keeps, by the time at which the round was started
kept_since : (d : AdcTable) (e start : GroupEvent) (r : Round) → r.start ≡ start.world.now
    → cond (suspends (group_of d r.group)) (r.request.kept ++ values_since d r.group start e r.request.kept) [] ≡ kept_of e.world (group_of d r.group) r
kept_since d e start r at =
    ap (λ t. cond (suspends (group_of d r.group)) (r.request.kept ++ levels_from e.world.samples t (take ((e.world.now - t) / 4) (drop (length r.request.kept) (inputs_of (group_of d r.group))))) []) (sym at)

-- ---- a request

-- a happening that is something of a unit is no call and no reset
unit_calm : (e : GroupEvent) (g : ℕ) → (is_some (unit_started e.what) || (is_some (unit_aborted e.what) || is_some (unit_served e.what))) ≡ true → stops g e ≡ false
unit_calm e g h = by_what e.what e.told.error h
  where
    by_what : (h : Happening Call) (o : Option ErrorName) → (is_some (unit_started h) || (is_some (unit_aborted h) || is_some (unit_served h))) ≡ true
        → ((is_restart h || is_whole (call_by h o)) || is_stop g (call_by h o)) ≡ false
    by_what (Acts call times) o f = absurd (cc f)
    by_what (Serves l received) o f = refl
    by_what (Starts u made_by received) o f = refl
    by_what (Aborts u) o f = refl
    by_what (Moves order) o f = absurd (cc f)
    by_what (Restarts reason) o f = absurd (cc f)

of_some : (u : ℕ) (o : Option ℕ) (b : Bool) → (is_of u o && b) ≡ true → is_some o ≡ true
of_some u None b h = absurd (cc h)
of_some u (Some v) b h = refl

third : (a b c : Bool) → c ≡ true → (a || (b || c)) ≡ true
third true b c h = refl
third false true c h = refl
third false false c h = h

second : (a b c : Bool) → b ≡ true → (a || (b || c)) ≡ true
second true b c h = refl
second false b c h = rw h refl

serving_calm : (u g : ℕ) (e : GroupEvent) → serves_on u g e ≡ true → stops g e ≡ false
serving_calm u g e h = unit_calm e g (third _ _ _ (of_some u (unit_served e.what) (is_of g e.group) h))

abort_calm : (u g : ℕ) (e : GroupEvent) → aborts_on u g e ≡ true → stops g e ≡ false
abort_calm u g e h = unit_calm e g (second _ _ _ (of_some u (unit_aborted e.what) (is_of g e.group) h))

start_calm : (u g : ℕ) (e : GroupEvent) → starts_on u g e ≡ true → stops g e ≡ false
start_calm u g e h = unit_calm e g (or_left _ _ (of_some u (unit_started e.what) (is_of g e.group) h))

none_more : (p : GroupEvent → Bool) (e : GroupEvent) (es : List GroupEvent) → p e ≡ false → NoneOf p es → NoneOf p (e ∷ es)
none_more p e es h none = rw (h, none) refl

none_joined : (p : GroupEvent → Bool) (xs ys : List GroupEvent) → NoneOf p xs → NoneOf p ys → NoneOf p (xs ++ ys)
none_joined p xs ys h k = list_any-append p xs ys ∙ rw (h, k) refl

-- a request that was made before a stretch
pub through : (u g : ℕ) (past earlier : List GroupEvent) (start : GroupEvent) → Stretch u g past earlier start → HasRequest g earlier → HasRequest g past
through u g past earlier start s h = record {
  since = s.running ++ start ∷ h.since;
  request = h.request;
  before = h.before;
  is = s.is ∙ ap (λ es. s.running ++ start ∷ es) h.is ∙ sym (append_assoc s.running (start ∷ h.since) (h.request ∷ h.before));
  requested = h.requested;
  unstopped = none_joined (stops g) s.running (start ∷ h.since) s.unstopped (none_more (stops g) start h.since (start_calm u g start s.starts) h.unstopped);
}

later : (g : ℕ) (e : GroupEvent) (past : List GroupEvent) → stops g e ≡ false → HasRequest g past → HasRequest g (e ∷ past)
later g e past calm h = record {
  since = e ∷ h.since;
  request = h.request;
  before = h.before;
  is = ap (λ es. e ∷ es) h.is;
  requested = h.requested;
  unstopped = none_more (stops g) e h.since calm h.unstopped;
}

pub was_requested : (d : AdcTable) (g : ℕ) (past : List GroupEvent) (kept : List ℕ) → Keeps d g past kept → HasRequest g past
was_requested d g past kept (Requested e older h) = record { since = []; request = e; before = older; is = refl; requested = h; unstopped = refl }
was_requested d g past kept (Served e older earlier start had u h s stood) = later g e older (serving_calm u g e h) (through u g older earlier start s (was_requested d g earlier had stood))
was_requested d g past kept (Aborted e older earlier start had u h s stood) = later g e older (abort_calm u g e h) (through u g older earlier start s (was_requested d g earlier had stood))
was_requested d g past kept (StandsOn e older had calm touch stood) = later g e older calm (was_requested d g older had stood)

pub is_round : (d : AdcTable) (u : ℕ) (r : Round) (e : GroupEvent) (past : List GroupEvent) → serves_on u r.group e ≡ true → IsRunning d u r past → IsRound d r.group e past (values_of e.world (group_of d r.group) r)
is_round d u r e past serve runs = record {
  unit = u;
  start = runs.start;
  earlier = runs.earlier;
  kept = r.request.kept;
  served = serve;
  stretch = runs.stretch;
  requested = was_requested d r.group runs.earlier r.request.kept runs.stood;
  keeps = runs.stood;
  whole = served_values d e runs.start r runs.at;
}

-- ---- what an event leaves of it

-- the request of a group
waiting_after : (d : AdcTable) (g : ℕ) (e : GroupEvent) (past : List GroupEvent) (s : AdcState) (x y : GroupState) → WaitGoes d g e s x y → ((q : Request) → x.waiting ≡ Some q → Keeps d g past q.kept)
    → ((u : ℕ) (r : Round) → round_at s u ≡ Some r → IsRunning d u r past) → ((u : ℕ) (r : Round) → round_at s u ≡ Some r → r.group ≡ g → x.waiting ≡ None) → (q : Request) → y.waiting ≡ Some q → Keeps d g (e ∷ past) q.kept
waiting_after d g e past s x y (Stands calm touch same) had runs alone q at = StandsOn e past q.kept calm touch (had q (sym same ∙ at))
waiting_after d g e past s x y (Over u r serve there own same) had runs alone q at =
    let none : x.waiting ≡ None = alone u r there own in
    absurd (cc (same, none, at))
waiting_after d g e past s x y (Made n request is) had runs alone q at =
    let same : record { number = n; kept = [] } ≡ q = some_same (sym is ∙ at) in
    subst (λ (k : Request). Keeps d g (e ∷ past) k.kept) same (Requested e past request)
waiting_after d g e past s x y (Again u n r serve there own is) had runs alone q at =
    let same : record { number = n; kept = [] } ≡ q = some_same (sym is ∙ at) in
    let run : IsRunning d u r past = runs u r there in
    subst (λ (k : Request). Keeps d g (e ∷ past) k.kept) same
    (Served e past run.earlier run.start r.request.kept u serve (subst (λ h. Stretch u h past run.earlier run.start) own run.stretch) (subst (λ h. Keeps d h run.earlier r.request.kept) own run.stood))
waiting_after d g e past s x y (Back u r abort there own is) had runs alone q at =
    let same : record { number = r.request.number; kept = kept_of e.world (group_of d g) r } ≡ q = some_same (sym is ∙ at) in
    let run : IsRunning d u r past = runs u r there in
    let kept : cond (suspends (group_of d g)) (r.request.kept ++ values_since d g run.start e r.request.kept) [] ≡ kept_of e.world (group_of d g) r =
    subst (λ h. cond (suspends (group_of d h)) (r.request.kept ++ values_since d h run.start e r.request.kept) [] ≡ kept_of e.world (group_of d h) r) own (kept_since d e run.start r run.at) in
    subst (λ (k : Request). Keeps d g (e ∷ past) k.kept) same
    (subst (λ ks. Keeps d g (e ∷ past) ks) kept
    (Aborted e past run.earlier run.start r.request.kept u abort (subst (λ h. Stretch u h past run.earlier run.start) own run.stretch) (subst (λ h. Keeps d h run.earlier r.request.kept) own run.stood)))
waiting_after d g e past s x y (Dropped none) had runs alone q at = absurd (cc (none, at))

-- the round of a unit
longer : (u g : ℕ) (e : GroupEvent) (past earlier : List GroupEvent) (start : GroupEvent) → is_on u e ≡ false → stops g e ≡ false → Stretch u g past earlier start → Stretch u g (e ∷ past) earlier start
longer u g e past earlier start away calm s = record {
  running = e ∷ s.running;
  is = ap (λ es. e ∷ es) s.is;
  starts = s.starts;
  alone = none_more (is_on u) e s.running away s.alone;
  unstopped = none_more (stops g) e s.running calm s.unstopped;
}

running_after : (d : AdcTable) (u : ℕ) (e : GroupEvent) (past : List GroupEvent) (s : AdcState) (p q : Option Round) → UnitGoes u e s p q → ((r : Round) → p ≡ Some r → IsRunning d u r past)
    → ((g : ℕ) → g < 16 → (x : Request) → (group_at s g).waiting ≡ Some x → Keeps d g past x.kept) → (r : Round) → q ≡ Some r → IsRunning d u r (e ∷ past)
running_after d u e past s p q (Remains away calm same) had waits r at =
    let was : p ≡ Some r = sym same ∙ at in
    let run : IsRunning d u r past = had r was in
    record { earlier = run.earlier; start = run.start; stretch = longer u r.group e past run.earlier run.start away (calm r was) run.stretch; stood = run.stood; at = run.at; below = run.below }
running_after d u e past s p q (Begun g x start lt there is) had waits r at =
    let same : record { group = g; request = x; start = e.world.now } ≡ r = some_same (sym is ∙ at) in
    subst (λ (k : Round). IsRunning d u k (e ∷ past)) same (record {
      earlier = past;
      start = e;
      stretch = record { running = []; is = refl; starts = start; alone = refl; unstopped = refl };
      stood = waits g lt x there;
      at = refl;
      below = lt;
    })
running_after d u e past s p q (Freed none) had waits r at = absurd (cc (none, at))

-- the newest round of a group
pub newest_added : (xs : List (List ℕ)) (v : List ℕ) → newest_of (xs ++ v ∷ []) ≡ Some v
newest_added [] v = refl
newest_added (x ∷ xs) v = ap (λ w. Some w) (last_of (x ∷ xs) v)
  where
    last_of : (xs : List (List ℕ)) (v : List ℕ) → newest (xs ++ v ∷ []) ≡ v
    last_of xs v = ap (λ n. slice_index_or (xs ++ v ∷ []) n []) (before_last xs v) ∙ there xs v
      where
        before_last : (xs : List (List ℕ)) (v : List ℕ) → length (xs ++ v ∷ []) - 1 ≡ length xs
        before_last xs v = grind (arith, length-append)

        there : (xs : List (List ℕ)) (v : List ℕ) → slice_index_or (xs ++ v ∷ []) (length xs) [] ≡ v
        there [] v = refl
        there (x ∷ xs) v = there xs v

newest_after : (d : AdcTable) (g : ℕ) (e : GroupEvent) (past : List GroupEvent) (s : AdcState) (x y : GroupState) → RoundsGo d g e s x y → ((values : List ℕ) → newest_of x.rounds ≡ Some values → HandsOut d g past values)
    → ((u : ℕ) (r : Round) → round_at s u ≡ Some r → IsRunning d u r past) → (values : List ℕ) → newest_of y.rounds ≡ Some values → HandsOut d g (e ∷ past) values
newest_after d g e past s x y (Same serve begin same status) had runs values at =
    let out : HandsOut d g past values = had values (ap (λ rs. newest_of rs) (sym same) ∙ at) in
    record { since = e ∷ out.since; serving = out.serving; before = out.before; is = ap (λ es. e ∷ es) out.is; round = out.round; newest = none_more (λ k. serves g k || begins g k) e out.since (rw (serve, begin) refl) out.newest }
newest_after d g e past s x y (Added u r serve there own is) had runs values at =
    let added : values_of e.world (group_of d g) r ≡ values = some_same (sym (ap (λ rs. newest_of rs) is ∙ newest_added x.rounds (values_of e.world (group_of d g) r)) ∙ at) in
    record {
      since = [];
      serving = e;
      before = past;
      is = refl;
      round = subst (λ v. IsRound d g e past v) added (subst (λ h. serves_on u h e ≡ true → IsRound d h e past (values_of e.world (group_of d h) r)) own (λ f. is_round d u r e past f (runs u r there)) serve);
      newest = refl;
    }
newest_after d g e past s x y (Cleared begin none status) had runs values at = absurd (cc (ap (λ rs. newest_of rs) none, at))

completed_after : (d : AdcTable) (g : ℕ) (e : GroupEvent) (s : AdcState) (x y : GroupState) → RoundsGo d g e s x y → (is_completed x.status ≡ true → is_some (newest_of x.rounds) ≡ true)
    → is_completed y.status ≡ true → is_some (newest_of y.rounds) ≡ true
completed_after d g e s x y (Same serve begin same status) had at = ap (λ rs. is_some (newest_of rs)) same ∙ had (status at)
completed_after d g e s x y (Added u r serve there own is) had at = ap (λ o. is_some o) (ap (λ rs. newest_of rs) is ∙ newest_added x.rounds (values_of e.world (group_of d g) r))
completed_after d g e s x y (Cleared begin none status) had at = absurd (cc (status, at))

pub tells_after : (d : AdcTable) (w : World) (h : Happening Call) (s : AdcState) (out : Outcome AdcState) (past : List GroupEvent) → happens d w s h ≡ Some out → Goes d w h s out → Tells d past s → Tells d (seen d w h s out ∷ past) out.state
tells_after d w h s out past e goes t = record {
  waiting = λ g lt. waiting_after d g (seen d w h s out) past s (group_at s g) (group_at out.state g) (goes.groups g lt).waiting (t.waiting g lt) t.running (λ u r at own. t.single.alone g u r lt at own);
  running = λ u. running_after d u (seen d w h s out) past s (round_at s u) (round_at out.state u) (goes.units u) (t.running u) t.waiting;
  newest = λ g lt. newest_after d g (seen d w h s out) past s (group_at s g) (group_at out.state g) (goes.groups g lt).rounds (t.newest g lt) t.running;
  completed = λ g lt. completed_after d g (seen d w h s out) s (group_at s g) (group_at out.state g) (goes.groups g lt).rounds (t.completed g lt);
  single = single_after d w s h out e goes t.single;
}
