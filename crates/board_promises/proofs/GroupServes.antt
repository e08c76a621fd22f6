-- What servings, starts, aborts and all else do to the request, the rounds and the units of the converter groups.
use Rattle.std.proofs.Common.{◌≡◌, ◌≢◌, ℕ, zero, suc, ◌+◌, ◌-◌, ◌<◌, ◌==◌, Bool, true, false, cond, ◌&&◌, List, [], ◌∷◌, ◌++◌, length, Option, Some, None, refl, sym, ◌∙◌, ap, subst, ◌⊎◌, inl, inr, arith}
use Rattle.std.specs.Prelude.{is_some, nat_lt, if◌then◌else◌, slice_index_or}
use Rattle.std.proofs.lemmas.Bool.Decides.{nat_tests}
use Rattle.std.proofs.lemmas.Bool.{and_parts}
use Rattle.mcal_base.specs.declared.directive.Order.{Order}
use Rattle.mcal_base.specs.declared.directive.Order.TheVariants as orders
use Rattle.mcal_base.specs.declared.moves.Unit as units
use Rattle.run_model.specs.World.{World}
use Rattle.run_model.specs.Machine.{Happening, Acts, Serves, Starts, Aborts, Moves, Restarts, Outcome, outcome, tells_nothing}
use Rattle.adc_machine.specs.Groups.{GroupState, Request, Round, is_continuous, is_full, trigger_input, values_of, with_round_of}
use Rattle.adc_machine.specs.Machine.{acts, happens, ready, served, served_round, served_values, after_round, with_values, is_unit_line, starting, starts_on, aborting, aborts_on, moved}
use Rattle.adc_machine.specs.Table.{group_of}
use Rattle.adc_machine.specs.Triggers.{listener, with_mark, with_trigger_off, requested_unless_turn, served_trigger}
use Rattle.adc_machine.specs.Turns.{AdcState, first_state, group_at, round_at, with_group, with_round, with_waiting, requested, has_turn, number_of, next_group, is_on, starts, starts_by, started, begun, aborts, aborted, kept_of}
use Rattle.adc_machine.specs.declared.call.Call.{Call}
use Rattle.adc_machine.specs.declared.table.AdcTable.{AdcTable}
use Rattle.adc_machine.specs.declared.table.Group as configured
use Rattle.adc_machine.proofs.Aborted.{abort_is}
use Rattle.adc_machine.proofs.Next.{next_is}
use Rattle.adc_machine.proofs.Parts.{group_same, group_other}
use Rattle.adc_machine.proofs.Stopped.{unmarked_group, unmarked_round}
use Rattle.board_promises.specs.whole_runs.GroupRuns.{GroupEvent, stops, begins, requests, starts_on as starts_of, serves_on, serves, is_on as on_unit}
use Rattle.board_promises.proofs.GroupSteps.{is_completed, WaitGoes, Over, Made, Again, Back, Dropped, Same, Added, Cleared, GroupGoes, UnitGoes, Begun, Freed, seen, Goes, same_number, other_number, same_or_other, left_group, went, left_unit, act_goes}

-- ---- units

-- a unit that is freed, and the other ones
freed_by : (v u : ℕ) (e : GroupEvent) (s : AdcState) (p : Option Round) → ((v ≢ u) → on_unit v e ≡ false) → ((g : ℕ) → stops g e ≡ false) → UnitGoes v e s p (cond (v == u) None p)
freed_by v u e s p none stop = by_test (v == u) refl
  where
    by_test : (b : Bool) → (v == u) ≡ b → UnitGoes v e s p (cond b None p)
    by_test true at = Freed refl
    by_test false at = left_unit v e s p p (none (λ same. differ same)) stop refl
      where
        differ : v ≡ u → ⊥
        differ same = grind (arith, nat_tests, same, at)

pub freed_unit : (v u : ℕ) (e : GroupEvent) (s : AdcState) → ((v ≢ u) → on_unit v e ≡ false) → ((g : ℕ) → stops g e ≡ false) → UnitGoes v e s (round_at s v) (round_at (with_round s u None) v)
freed_unit zero u e s none stop = freed_by zero u e s (round_at s 0) none stop
freed_unit (suc zero) u e s none stop = freed_by (suc zero) u e s (round_at s 1) none stop
freed_unit (suc (suc v)) u e s none stop = Freed refl

-- ---- a serving of a unit's line

-- the turn after a round leaves the units
turn_unit : (d : AdcTable) (t : AdcState) (g n v : ℕ) (full continuous : Bool) → round_at (after_round d t g n full continuous) v ≡ round_at t v
turn_unit d t g n v true continuous = unmarked_round (with_group t g (record (group_at t g) { trigger = false })) v (trigger_input (group_of d g))
turn_unit d t g n v false true = refl
turn_unit d t g n v false false = refl

-- and the other groups
turn_other : (d : AdcTable) (t : AdcState) (h n g : ℕ) (full continuous : Bool) → g < 16 → g ≢ h → group_at (after_round d t h n full continuous) g ≡ group_at t g
turn_other d t h n g true continuous lt ne =
    unmarked_group (with_group t h (record (group_at t h) { trigger = false })) g (trigger_input (group_of d h)) ∙ group_other t h (record (group_at t h) { trigger = false }) g lt ne
turn_other d t h n g false true lt ne = group_other t h (record (group_at t h) { waiting = Some (record { number = n; kept = [] }) }) g lt ne
turn_other d t h n g false false lt ne = refl

-- what it does to its own group: the request stays, or is there again
abbrev pub Settled : ℕ → GroupState → GroupState → Type 0
Settled n x y = (y.rounds ≡ x.rounds) × ((y.waiting ≡ x.waiting) ⊎ (y.waiting ≡ Some (record { number = n; kept = [] })))

pub turn_own : (d : AdcTable) (t : AdcState) (g n : ℕ) (full continuous : Bool) → g < 16 → Settled n (group_at t g) (group_at (after_round d t g n full continuous) g)
turn_own d t g n true continuous lt =
    let same : group_at (with_trigger_off d t g) g ≡ record (group_at t g) { trigger = false } =
    unmarked_group (with_group t g (record (group_at t g) { trigger = false })) g (trigger_input (group_of d g)) ∙ group_same t g (record (group_at t g) { trigger = false }) lt in
    (ap (λ (x : GroupState). x.rounds) same, inl (ap (λ (x : GroupState). x.waiting) same))
turn_own d t g n false true lt =
    let same : group_at (with_waiting t g (Some (record { number = n; kept = [] }))) g ≡ record (group_at t g) { waiting = Some (record { number = n; kept = [] }) } = group_same t g _ lt in
    (ap (λ (x : GroupState). x.rounds) same, inr (ap (λ (x : GroupState). x.waiting) same))
turn_own d t g n false false lt = (refl, inl refl)

-- the state before the turn is settled
abbrev pub stored : AdcTable → AdcState → (unit : ℕ) → Round → List ℕ → AdcState
stored d s u r values = record (with_group (with_round s u None) r.group (with_values (group_of d r.group) (group_at s r.group) values)) {
  results = with_round_of (group_of d r.group) (length (group_at s r.group).rounds) r.group (group_at s r.group).chosen values s.results;
}

settled_wait : (d : AdcTable) (g n u : ℕ) (r : Round) (e : GroupEvent) (s : AdcState) (x y : GroupState) → serves_on u g e ≡ true → stops g e ≡ false → round_at s u ≡ Some r → r.group ≡ g
    → (y.waiting ≡ x.waiting) ⊎ (y.waiting ≡ Some (record { number = n; kept = [] })) → WaitGoes d g e s x y
settled_wait d g n u r e s x y serve stop at own (inl same) = Over u r serve at own same
settled_wait d g n u r e s x y serve stop at own (inr again) = Again u n r serve at own again

served_own : (d : AdcTable) (w : World) (s : AdcState) (u : ℕ) (r : Round) (e : GroupEvent) → r.group < 16 → serves_on u r.group e ≡ true → stops r.group e ≡ false → round_at s u ≡ Some r → e.world ≡ w
    → GroupGoes d r.group e s (group_at s r.group) (group_at (served_values d s u r (values_of w (group_of d r.group) r)) r.group)
served_own d w s u r e lt serve stop at now =
    let k : Option configured.Group = group_of d r.group in
    let values : List ℕ = values_of w k r in
    let t : AdcState = stored d s u r values in
    let own : group_at t r.group ≡ with_values k (group_at s r.group) values = group_same (with_round s u None) r.group (with_values k (group_at s r.group) values) lt in
    let turned : Settled r.request.number (group_at t r.group) (group_at (served_values d s u r values) r.group) =
    turn_own d t r.group r.request.number (is_full k (length (group_at s r.group).rounds + 1)) (is_continuous k) lt in
    record {
      waiting = settled_wait d r.group r.request.number u r e s (group_at s r.group) _ serve stop at refl (subst (λ (z : GroupState). ((group_at (served_values d s u r values) r.group).waiting ≡ z.waiting) ⊎ ((group_at (served_values d s u r values) r.group).waiting ≡ Some (record { number = r.request.number; kept = [] }))) own turned.1);
      rounds = Added u r serve at refl (turned.0 ∙ ap (λ (z : GroupState). z.rounds) own ∙ ap (λ v. (group_at s r.group).rounds ++ values_of v k r ∷ []) (sym now));
    }

pub served_other : (d : AdcTable) (s : AdcState) (u g : ℕ) (r : Round) (values : List ℕ) → g < 16 → g ≢ r.group → group_at (served_values d s u r values) g ≡ group_at s g
served_other d s u g r values lt ne =
    turn_other d (stored d s u r values) r.group r.request.number g (is_full (group_of d r.group) (length (group_at s r.group).rounds + 1)) (is_continuous (group_of d r.group)) lt ne
    ∙ group_other (with_round s u None) r.group (with_values (group_of d r.group) (group_at s r.group) values) g lt ne

served_unit : (d : AdcTable) (s : AdcState) (u v : ℕ) (r : Round) (values : List ℕ) (e : GroupEvent) → ((v ≢ u) → on_unit v e ≡ false) → ((g : ℕ) → stops g e ≡ false)
    → UnitGoes v e s (round_at s v) (round_at (served_values d s u r values) v)
served_unit d s u v r values e none stop =
    subst (λ q. UnitGoes v e s (round_at s v) q)
    (sym (turn_unit d (stored d s u r values) r.group r.request.number v (is_full (group_of d r.group) (length (group_at s r.group).rounds + 1)) (is_continuous (group_of d r.group))))
    (freed_unit v u e s none stop)

-- a group by whether the round is one of it
round_group_goes : (d : AdcTable) (w : World) (s : AdcState) (l received : ℕ) (r : Round) (g : ℕ) → is_unit_line l ≡ true → round_at s (l - 24) ≡ Some r → g < 16 → (r.group ≡ g) ⊎ (r.group ≢ g)
    → GroupGoes d g (seen d w (Serves l received) s (served_round d w s (l - 24) (Some r))) s (group_at s g) (group_at (served_round d w s (l - 24) (Some r)).state g)
round_group_goes d w s l received r g line at lt (inl same) =
    subst (λ k. GroupGoes d k (seen d w (Serves l received) s (served_round d w s (l - 24) (Some r))) s (group_at s k) (group_at (served_round d w s (l - 24) (Some r)).state k)) same
    (served_own d w s (l - 24) r (seen d w (Serves l received) s (served_round d w s (l - 24) (Some r))) (subst (λ k. k < 16) (sym same) lt) (rw (line, at, same_number (l - 24), same_number r.group) refl) refl at refl)
round_group_goes d w s l received r g line at lt (inr ne) =
    left_group d g _ s _ _ refl (rw (line, at, other_number r.group g ne) refl) refl (rw (line, at, other_number r.group g ne) refl) (served_other d s (l - 24) g r (values_of w (group_of d r.group) r) lt (λ h. ne (sym h)))

round_goes : (d : AdcTable) (w : World) (s : AdcState) (l received : ℕ) (q : Option Round) → is_unit_line l ≡ true → round_at s (l - 24) ≡ q → Goes d w (Serves l received) s (served_round d w s (l - 24) q)
round_goes d w s l received None line at = record {
  groups = λ g lt. left_group d g _ s _ _ refl (rw (line, at) refl) refl (rw (line, at) refl) refl;
  units = λ v. by_unit v (same_or_other v (l - 24));
}
  where
    by_unit : (v : ℕ) → (v ≡ l - 24) ⊎ (v ≢ l - 24) → UnitGoes v (seen d w (Serves l received) s (outcome s tells_nothing)) s (round_at s v) (round_at s v)
    by_unit v (inl same) = Freed (ap (λ u. round_at s u) same ∙ at)
    by_unit v (inr ne) = left_unit v _ s _ _ (rw (line, other_number (l - 24) v (λ h. ne (sym h))) refl) (λ g. refl) refl
round_goes d w s l received (Some r) line at = record {
  groups = λ g lt. round_group_goes d w s l received r g line at lt (same_or_other r.group g);
  units = λ v. served_unit d s (l - 24) v r (values_of w (group_of d r.group) r) _ (λ ne. rw (line, other_number (l - 24) v (λ h. ne (sym h))) refl) (λ g. refl);
}

-- ---- a serving of a trigger's line

requested_own : (d : AdcTable) (g : ℕ) (e : GroupEvent) (s t : AdcState) → g < 16 → requests g e ≡ true → serves g e ≡ false → begins g e ≡ false → group_at t g ≡ group_at s g
    → GroupGoes d g e s (group_at s g) (group_at (requested t g) g)
requested_own d g e s t lt request serve begin same =
    let made : GroupState = record (group_at t g) { waiting = Some (record { number = t.requests + 1; kept = [] }) } in
    let own : group_at (requested t g) g ≡ made = group_same t g made lt in
    record {
      waiting = Made (t.requests + 1) request (ap (λ (x : GroupState). x.waiting) own);
      rounds = Same serve begin (ap (λ (x : GroupState). x.rounds) own ∙ ap (λ (x : GroupState). x.rounds) same) (λ h. ap (λ (x : GroupState). is_completed x.status) (sym same) ∙ ap (λ (x : GroupState). is_completed x.status) (sym own) ∙ h);
    }

-- the trigger's line of this group, where it has no turn
trigger_group : (d : AdcTable) (w : World) (s : AdcState) (l received h g : ℕ) → is_unit_line l ≡ false → listener d s (l - 28) ≡ Some h → has_turn s h ≡ false → g < 16 → (h ≡ g) ⊎ (h ≢ g)
    → GroupGoes d g (seen d w (Serves l received) s (outcome (requested (with_mark s (l - 28) false) h) tells_nothing)) s (group_at s g) (group_at (requested (with_mark s (l - 28) false) h) g)
trigger_group d w s l received h g line at turn lt (inl same) =
    subst (λ k. GroupGoes d k (seen d w (Serves l received) s (outcome (requested (with_mark s (l - 28) false) h) tells_nothing)) s (group_at s k) (group_at (requested (with_mark s (l - 28) false) h) k)) same
    (requested_own d h _ s (with_mark s (l - 28) false) (subst (λ k. k < 16) (sym same) lt) (rw (line, at, turn, same_number h) refl) (rw line refl) refl refl)
trigger_group d w s l received h g line at turn lt (inr ne) =
    left_group d g _ s _ _ refl (rw line refl) refl (rw (line, at, turn, other_number h g ne) refl) (group_other (with_mark s (l - 28) false) h _ g lt (λ same. ne (sym same)))

turn_goes : (d : AdcTable) (w : World) (s : AdcState) (l received h : ℕ) (b : Bool) → is_unit_line l ≡ false → listener d s (l - 28) ≡ Some h → has_turn s h ≡ b
    → Goes d w (Serves l received) s (outcome (cond b (with_mark s (l - 28) false) (requested (with_mark s (l - 28) false) h)) tells_nothing)
turn_goes d w s l received h true line at turn = record {
  groups = λ g lt. left_group d g _ s _ _ refl (rw line refl) refl (rw (line, at, turn) refl) refl;
  units = λ v. left_unit v _ s _ _ (rw line refl) (λ g. refl) refl;
}
turn_goes d w s l received h false line at turn = record {
  groups = λ g lt. trigger_group d w s l received h g line at turn lt (same_or_other h g);
  units = λ v. left_unit v _ s _ _ (rw line refl) (λ g. refl) refl;
}

trigger_goes : (d : AdcTable) (w : World) (s : AdcState) (l received : ℕ) (o : Option ℕ) → is_unit_line l ≡ false → listener d s (l - 28) ≡ o
    → Goes d w (Serves l received) s (outcome (requested_unless_turn (with_mark s (l - 28) false) o) tells_nothing)
trigger_goes d w s l received None line at = record {
  groups = λ g lt. left_group d g _ s _ _ refl (rw line refl) refl (rw (line, at) refl) refl;
  units = λ v. left_unit v _ s _ _ (rw line refl) (λ g. refl) refl;
}
trigger_goes d w s l received (Some h) line at = turn_goes d w s l received h (has_turn s h) line at refl

-- ---- servings

serve_by : (d : AdcTable) (w : World) (s : AdcState) (l received : ℕ) (b : Bool) → is_unit_line l ≡ b
    → Goes d w (Serves l received) s (cond b (served_round d w s (l - 24) (round_at s (l - 24))) (outcome (served_trigger d s (l - 28)) tells_nothing))
serve_by d w s l received true line = round_goes d w s l received (round_at s (l - 24)) line refl
serve_by d w s l received false line = trigger_goes d w s l received (listener d s (l - 28)) line refl

pub serve_goes : (d : AdcTable) (w : World) (s : AdcState) (l received : ℕ) (b : Bool) (out : Outcome AdcState) → cond b (Some (served d w s l)) None ≡ Some out → Goes d w (Serves l received) s out
serve_goes d w s l received true out e = went (Goes d w (Serves l received) s) (served d w s l) out e (serve_by d w s l received (is_unit_line l) refl)
serve_goes d w s l received false out e = absurd (cc e)

-- ---- starts

pub next_of : (q : Option Round) (o : Option ℕ) (g : ℕ) → starts_by q o ≡ Some g → o ≡ Some g
next_of None o g e = e
next_of (Some r) o g e = absurd (cc e)

known_below : (d : AdcTable) (u g : ℕ) → is_on u (group_of d g) ≡ true → g < 16
known_below d u g on = by_test (nat_lt g 16) refl on
  where
    by_test : (b : Bool) → nat_lt g 16 ≡ b → is_on u (if b then slice_index_or d.groups g None else None) ≡ true → g < 16
    by_test true e f = grind (arith, nat_tests)
    by_test false e f = absurd (cc f)

start_group : (d : AdcTable) (w : World) (s : AdcState) (unit : units.Unit) (made_by : Option Call) (received u h g : ℕ) → number_of unit ≡ Some u → starts d s u ≡ Some h → g < 16 → (h ≡ g) ⊎ (h ≢ g)
    → GroupGoes d g (seen d w (Starts unit made_by received) s (outcome (started w s u h) tells_nothing)) s (group_at s g) (group_at (started w s u h) g)
start_group d w s unit made_by received u h g num at lt (inl same) =
    let own : group_at (started w s u g) g ≡ record (group_at s g) { waiting = None } = group_same s g (record (group_at s g) { waiting = None }) lt in
    subst (λ k. GroupGoes d g (seen d w (Starts unit made_by received) s (outcome (started w s u k) tells_nothing)) s (group_at s g) (group_at (started w s u k) g)) (sym same)
    (record { waiting = Dropped (ap (λ (x : GroupState). x.waiting) own); rounds = Same refl refl (ap (λ (x : GroupState). x.rounds) own) (λ h. ap (λ (x : GroupState). is_completed x.status) (sym own) ∙ h) })
start_group d w s unit made_by received u h g num at lt (inr ne) = left_group d g _ s _ _ refl refl refl (rw (num, at, other_number h g ne) refl) (group_other s h (record (group_at s h) { waiting = None }) g lt (λ same. ne (sym same)))

-- the unit that starts
begun_unit : (w : World) (e : GroupEvent) (s : AdcState) (u h : ℕ) (o : Option Request) (p : Option Round) → is_some o ≡ true → (group_at s h).waiting ≡ o → h < 16 → starts_of u h e ≡ true → e.world ≡ w
    → UnitGoes u e s p (begun w h o)
begun_unit w e s u h None p some at lt start now = absurd (cc some)
begun_unit w e s u h (Some x) p some at lt start now = Begun h x start lt at (ap (λ (v : World). Some (record { group = h; request = x; start = v.now })) (sym now))

start_by : (w : World) (e : GroupEvent) (s : AdcState) (u v h : ℕ) (p : Option Round) → ((v ≢ u) → on_unit v e ≡ false) → ((g : ℕ) → stops g e ≡ false)
    → is_some (group_at s h).waiting ≡ true → h < 16 → starts_of u h e ≡ true → e.world ≡ w → UnitGoes v e s p (cond (v == u) (begun w h (group_at s h).waiting) p)
start_by w e s u v h p none stop waits lt start now = by_test (v == u) refl
  where
    by_test : (b : Bool) → (v == u) ≡ b → UnitGoes v e s p (cond b (begun w h (group_at s h).waiting) p)
    by_test true at =
        let same : u ≡ v = grind (arith, nat_tests, at) in
        subst (λ k. UnitGoes k e s p (begun w h (group_at s h).waiting)) same (begun_unit w e s u h (group_at s h).waiting p waits refl lt start now)
    by_test false at = left_unit v e s p p (none (λ same. differ same)) stop refl
      where
        differ : v ≡ u → ⊥
        differ same = grind (arith, nat_tests, same, at)

start_unit : (w : World) (e : GroupEvent) (s : AdcState) (u v h : ℕ) → ((v ≢ u) → on_unit v e ≡ false) → ((g : ℕ) → stops g e ≡ false)
    → is_some (group_at s h).waiting ≡ true → h < 16 → starts_of u h e ≡ true → e.world ≡ w → UnitGoes v e s (round_at s v) (round_at (started w s u h) v)
start_unit w e s u zero h none stop waits lt start now = start_by w e s u 0 h (round_at s 0) none stop waits lt start now
start_unit w e s u (suc zero) h none stop waits lt start now = start_by w e s u 1 h (round_at s 1) none stop waits lt start now
start_unit w e s u (suc (suc v)) h none stop waits lt start now = Freed refl

starting_goes : (d : AdcTable) (w : World) (s : AdcState) (unit : units.Unit) (made_by : Option Call) (received u : ℕ) (o : Option ℕ) (out : Outcome AdcState) → number_of unit ≡ Some u → starts d s u ≡ o
    → starting w s u o ≡ Some out → Goes d w (Starts unit made_by received) s out
starting_goes d w s unit made_by received u None out num at e = absurd (cc e)
starting_goes d w s unit made_by received u (Some h) out num at e =
    let waits = and_parts (is_on u (group_of d h)) (is_some (group_at s h).waiting) (next_is d s u h (next_of (round_at s u) (next_group d s u) h at)).waits in
    went (Goes d w (Starts unit made_by received) s) (outcome (started w s u h) tells_nothing) out e (record {
      groups = λ g lt. start_group d w s unit made_by received u h g num at lt (same_or_other h g);
      units = λ v. start_unit w _ s u v h (λ ne. rw (num, other_number u v (λ k. ne (sym k))) refl) (λ g. refl) waits.1 (known_below d u h waits.0) (rw (num, at, same_number u, same_number h) refl) refl;
    })

pub start_goes : (d : AdcTable) (w : World) (s : AdcState) (unit : units.Unit) (made_by : Option Call) (received : ℕ) (o : Option ℕ) (out : Outcome AdcState) → number_of unit ≡ o → starts_on d w s o ≡ Some out → Goes d w (Starts unit made_by received) s out
start_goes d w s unit made_by received None out num e = absurd (cc e)
start_goes d w s unit made_by received (Some u) out num e = starting_goes d w s unit made_by received u (starts d s u) out num refl e

-- ---- aborts

abort_group : (d : AdcTable) (w : World) (s : AdcState) (unit : units.Unit) (u : ℕ) (r : Round) (g : ℕ) → number_of unit ≡ Some u → round_at s u ≡ Some r → g < 16 → (r.group ≡ g) ⊎ (r.group ≢ g)
    → GroupGoes d g (seen d w (Aborts unit) s (outcome (aborted d w s u r) tells_nothing)) s (group_at s g) (group_at (aborted d w s u r) g)
abort_group d w s unit u r g num at lt (inl same) =
    let back : GroupState = record (group_at s r.group) { waiting = Some (record { number = r.request.number; kept = kept_of w (group_of d r.group) r }) } in
    let own : group_at (aborted d w s u r) r.group ≡ back = group_same s r.group back (subst (λ k. k < 16) (sym same) lt) in
    subst (λ k. GroupGoes d k (seen d w (Aborts unit) s (outcome (aborted d w s u r) tells_nothing)) s (group_at s k) (group_at (aborted d w s u r) k)) same
    (record {
      waiting = Back u r (rw (num, at, same_number u, same_number r.group) refl) at refl (ap (λ (x : GroupState). x.waiting) own);
      rounds = Same refl refl (ap (λ (x : GroupState). x.rounds) own) (λ h. ap (λ (x : GroupState). is_completed x.status) (sym own) ∙ h);
    })
abort_group d w s unit u r g num at lt (inr ne) = left_group d g _ s _ _ refl refl refl (rw (num, at, other_number r.group g ne) refl) (group_other s r.group _ g lt (λ same. ne (sym same)))

aborting_goes : (d : AdcTable) (w : World) (s : AdcState) (unit : units.Unit) (u : ℕ) (o : Option Round) (out : Outcome AdcState) → number_of unit ≡ Some u → aborts d w s u ≡ o
    → aborting d w s u o ≡ Some out → Goes d w (Aborts unit) s out
aborting_goes d w s unit u None out num at e = absurd (cc e)
aborting_goes d w s unit u (Some r) out num at e =
    let there : round_at s u ≡ Some r = abort_is d w s u (round_at s u) r at in
    went (Goes d w (Aborts unit) s) (outcome (aborted d w s u r) tells_nothing) out e (record {
      groups = λ g lt. abort_group d w s unit u r g num there lt (same_or_other r.group g);
      units = λ v. freed_unit v u _ s (λ ne. rw (num, other_number u v (λ k. ne (sym k))) refl) (λ g. refl);
    })

pub abort_goes : (d : AdcTable) (w : World) (s : AdcState) (unit : units.Unit) (o : Option ℕ) (out : Outcome AdcState) → number_of unit ≡ o → aborts_on d w s o ≡ Some out → Goes d w (Aborts unit) s out
abort_goes d w s unit None out num e = absurd (cc e)
abort_goes d w s unit (Some u) out num e = aborting_goes d w s unit u (aborts d w s u) out num refl e

-- ---- all else

pulse_goes : (d : AdcTable) (w : World) (s : AdcState) (order : Order) (i : ℕ) (b : Bool) → Goes d w (Moves order) s (outcome (cond b (with_mark s i true) s) tells_nothing)
pulse_goes d w s order i true = record { groups = λ g lt. left_group d g _ s _ _ refl refl refl refl refl; units = λ v. left_unit v _ s _ _ refl (λ g. refl) refl }
pulse_goes d w s order i false = record { groups = λ g lt. left_group d g _ s _ _ refl refl refl refl refl; units = λ v. left_unit v _ s _ _ refl (λ g. refl) refl }

moved_goes : (d : AdcTable) (w : World) (s : AdcState) (order : Order) → Goes d w (Moves order) s (outcome (moved d s order) tells_nothing)
moved_goes d w s (orders.Trigger i) = pulse_goes d w s (orders.Trigger i) i (is_some (listener d s i))
moved_goes d w s order = record { groups = λ g lt. left_group d g _ s _ _ refl refl refl refl refl; units = λ v. left_unit v _ s _ _ refl (λ g. refl) refl }

pub happens_goes : (d : AdcTable) (w : World) (s : AdcState) (h : Happening Call) (out : Outcome AdcState) → happens d w s h ≡ Some out → Goes d w h s out
happens_goes d w s (Acts call times) out e = went (Goes d w (Acts call times) s) (acts d s call) out e (act_goes d w s call times)
happens_goes d w s (Serves l received) out e = serve_goes d w s l received (ready d w s l) out e
happens_goes d w s (Starts u made_by received) out e = start_goes d w s u made_by received (number_of u) out refl e
happens_goes d w s (Aborts u) out e = abort_goes d w s u (number_of u) out refl e
happens_goes d w s (Moves order) out e = went (Goes d w (Moves order) s) (outcome (moved d s order) tells_nothing) out e (moved_goes d w s order)
happens_goes d w s (Restarts reason) out e = went (Goes d w (Restarts reason) s) (outcome first_state tells_nothing) out e (record {
  groups = λ g lt. record { waiting = Dropped refl; rounds = Cleared refl refl refl };
  units = λ v. Freed refl;
})
