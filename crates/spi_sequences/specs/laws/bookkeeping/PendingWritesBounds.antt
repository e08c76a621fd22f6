-- Each move that is owed leaves fewer: what is owed are loads and stores of the module's words, and writes for its
-- lines.
-- From services.ServeSteps, services.SyncSteps, services.StartSteps, services.UnitSteps, words.Cases and 4 more.
-- Used by spi_laws: sending.services.SendRight, spi_driver: bookkeeping.KeepsToModule and 8 more.
use Rattle.std.proofs.Common.{◌≡◌, ◌+◌, ◌-◌, ◌*◌, ◌<◌, ◌≤◌, ◌==◌, ◌&&◌, if◌then◌else◌, [], ◌∷◌, ◌∙◌}
use Rattle.spi_sequences.specs.Terms
use Terms.{after_serve, after_start, All, and_parts, ap, arith, BodyTaken, Bool, cancel_drops, cancel_owed_at, Cancels}
use Terms.{channel_at_place, channel_number, choice_in, Commit, commit_at, commit_by, commit_ends, commit_last}
use Terms.{commit_left, commit_more, commits_left, count_in, drop_after, drop_gave, drop_left, drop_more, Dropped}
use Terms.{false, first_internal, first_pinned, FitsSpi, FrameRole, gives, goes_on, Handler, has_ended, is_pinned_at}
use Terms.{is_simple, is_sync_unit, IsBasis, Keep, keep_ends, keep_left, keep_more, keep_of, keeping, Leaving, list_of}
use Terms.{Main, may, meets_at, More, more_owed, nat_le, nat_lt, nat_tests, Next, next_after, next_gave, next_gives}
use Terms.{next_left, next_more, None, none, Option, option_as, owed_left, owing_basis, PendingWrites, pinning, Placed}
use Terms.{placed_of, Places, Prepare, prepare_at, prepare_by, prepare_ends, prepare_left, prepare_more, prepared}
use Terms.{preparing, put_gave, put_more, refl, release_by, release_last, releasing, RequestPlace, Running, same_chip}
use Terms.{Search, search_more, Sent, serve_commits, serve_drops, serve_keeps, serve_keeps_last, serve_lets}
use Terms.{serve_releases, Served, ServePlace, ServeStep, simple_owed, Some, Sought, sought, spi_bare, spi_basis}
use Terms.{spi_owing, SpiTable, start_chooses, start_prepares, start_releases, Started, StartPlace, subst, suc, sym}
use Terms.{Take, take_gave, take_left, take_more, Taker, tally_cleared, tally_less, true, unit_more, unit_over}
use Terms.{unit_owed, unit_owes, unit_took, UnitBody, UnitPlace, Units, unless_done, whether_as, Wholes, zero, ℕ}
use Rattle.word_shapes.specs.Playing.{goes}
use Rattle.service_outline.specs.DeferredWrites.{AreOwed}
use Rattle.spi_sequences.specs.{declared.service.sync.SyncBody.{SyncBody}, declared.service.sync.SyncPlace.{SyncPlace}}
use Rattle.spi_sequences.specs.{laws.bookkeeping.RefinementRight.{bare_right}, laws.services.SyncSteps.{begins_whole}}
use Rattle.spi_sequences.specs.laws.services.SyncSteps.{channel_sent, run_sent, sync_at, sync_commits, sync_committed}
use Rattle.spi_sequences.specs.laws.services.SyncSteps.{sync_keeps, sync_prepared, sync_prepares, sync_prepares_at}
use Rattle.spi_sequences.specs.laws.services.SyncSteps.{sync_prepares_by, sync_serves, sync_took}
use Rattle.spi_sequences.specs.{laws.services.UnitSteps.{main_over}, PendingWrites.{Sends, sent_owes, serve_more}}
use Rattle.spi_sequences.specs.PendingWrites.{sync_more, sync_owed, sync_owes}
use Rattle.word_shapes.specs.declared.choosing.Next.TheVariants as next
use Rattle.word_shapes.specs.declared.dropped.Dropped.TheVariants as drops
use Rattle.word_shapes.specs.declared.search.Search.TheVariants as search
use Rattle.word_shapes.specs.declared.take.Take.TheVariants as take
use Rattle.word_shapes.specs.declared.add.Add.TheVariants as add
use Rattle.word_shapes.specs.declared.again.Again.TheVariants as again
use Rattle.word_shapes.specs.declared.put.Put.TheVariants as puts
use Rattle.word_shapes.specs.declared.jobs.banks.Commit.TheVariants as commits
use Rattle.word_shapes.specs.declared.jobs.keeping.Keep.TheVariants as keeps
use Rattle.word_shapes.specs.declared.jobs.keeping.Taker.TheVariants as takers
use Rattle.word_shapes.specs.declared.jobs.preparing.Prepare.TheVariants as prepares
use Rattle.spi_sequences.specs.declared.service.cancel.CancelBody.TheVariants as cancels
use Rattle.spi_sequences.specs.declared.service.request.RequestPlace.TheVariants as requests
use Rattle.spi_sequences.specs.declared.service.serve.SequenceNext.TheVariants as courses
use Rattle.spi_sequences.specs.declared.service.serve.ServePlace.TheVariants as serves
use Rattle.spi_sequences.specs.declared.service.start.StartPlace.TheVariants as starts
use Rattle.spi_sequences.specs.declared.service.start.Started.TheVariants as started
use Rattle.spi_sequences.specs.declared.service.serve.ServeStep.TheVariants as steps
use Rattle.spi_sequences.specs.declared.service.unit.UnitPlace.TheVariants as units
use Rattle.spi_sequences.specs.declared.service.whole.WholeBody.TheVariants as wholes
use Rattle.spi_sequences.specs.declared.service.sync.SyncPlace.TheVariants as sends
use Rattle.service_outline.specs.Done as outline

-- ---- the routines

abbrev SoughtLess : ℕ → Sought → Type 0
SoughtLess n (More s) = search_more s < n
SoughtLess n (All at p) = Unit {0}

search_less : (s : Search) (v : ℕ) → SoughtLess (search_more s) (sought s v)
search_less (search.Tally at) v = omega arith
search_less (search.Low at tally) v = whether_as (nat_le (count_in tally) 8) (λ q. SoughtLess 1 (if q then All at (record { low = v; high = 0; tally = tally }) else More (search.High at tally v)))
    (λ _. tt)
    (λ _. omega arith)
search_less (search.High at tally low) v = tt

pub take_less : (p : Take) (v : ℕ) → has_ended (take_gave p v) ≡ false → take_more (take_left p v) < take_more p
take_less (take.Pin c) v e = omega arith
take_less (take.Release c) v e = omega arith
take_less _ v e = absurd (cc)

pub next_less : (p : Next) (v : ℕ) → has_ended (next_gave p v) ≡ false → next_more (next_left p v) < next_more p
next_less (next.Tell at tally n) v e = absurd (cc)
next_less (next.Look s ranks) v e = by (sought s v) (search_less s v) e
  where
    chosen : (at : Places) (tally n : ℕ) (q : Bool) → has_ended (if q then goes else gives (n ∷ [])) ≡ false → next_more (if q then next.Tell at (tally_cleared tally n) n else next.Look s ranks) < 1 + search_more s
    chosen at tally n true e = omega arith
    chosen at tally n false e = absurd (cc)

    by : (t : Sought) → SoughtLess (search_more s) t → has_ended (next_gives ranks t) ≡ false → next_more (next_after (next.Look s ranks) ranks t) < 1 + search_more s
    by (More r) lt e = omega (arith, lt)
    by (All at p) lt e = chosen at p.tally (choice_in ranks p) (nat_lt (choice_in ranks p) none) e

pub drop_less : (p : Dropped) (v : ℕ) → has_ended (drop_gave p v) ≡ false → drop_more (drop_left p v) < drop_more p
drop_less (drops.Look s n) v e = by (sought s v) (search_less s v)
  where
    by : (t : Sought) → SoughtLess (search_more s) t → drop_more (drop_after n t) < 3 + search_more s
    by (More r) lt = omega (arith, lt)
    by (All at p) lt = omega arith
drop_less (drops.Low at p) v e =
    elim (nat_le (count_in p.tally) 8) as (λ q. drop_more (if q then drops.Tell at (tally_less p.tally) else drops.High at p) < 2)
    [ true ↦ omega arith | false ↦ omega arith ]
drop_less (drops.High at p) v e = omega arith
drop_less (drops.Tell at tally) v e = absurd (cc)

pub keep_few : (x : Placed) (i : ℕ) (t : Taker) (w : ℕ) → keep_more (keeping x i t w) ≤ 1
keep_few x i (takers.Bank b) w =
    elim (i == 0) as (λ q. keep_more (if q then keeps.Hold x b w else keeps.Fill x i b w) ≤ 1)
    [ true ↦ omega arith | false ↦ omega arith ]
keep_few x i (takers.SetUp by) w =
    elim by.destination as (λ q. keep_more (if q then keeps.Store x i w else keeps.Drop x) ≤ 1)
    [ true ↦ omega arith | false ↦ omega arith ]

keep_less : (k : Keep) → keep_ends k ≡ false → keep_more (keep_left k) < keep_more k
keep_less (keeps.Hold x b w) e = omega arith
keep_less _ e = absurd (cc)

commit_less : (c : Commit) (v : ℕ) → commit_ends c v ≡ false → commit_more (commit_left c v) < commit_more c
commit_less (commits.Held x) v e = omega arith
commit_less (commits.Put (puts.Commit c b)) v e = omega arith
commit_less _ v e = absurd (cc)

prepare_less : (p : Prepare) (v : ℕ) → prepare_ends p v ≡ false → prepare_more (prepare_left p v) < prepare_more p
prepare_less (prepares.Pin p) v e = take_less p v e
prepare_less (prepares.Load x) v e = omega arith
prepare_less (prepares.Hold x by) v e = absurd (cc)

prepare_few : (x : Placed) → prepare_more (preparing x) ≤ 1
prepare_few x =
    elim x.channel.internal as (λ q. prepare_more (if q then prepares.Pin (pinning x Sent) else prepares.Load x) ≤ 1)
    [ true ↦ omega arith | false ↦ omega arith ]

-- ---- the places of a unit's frame

abbrev Less : ℕ → Option PendingWrites → Type 0
Less n None = Unit {0}
Less n (Some y) = more_owed y < n

-- after a step of a start or of a serving
abbrev StartLess : UnitBody → ℕ → StartPlace × Started → Type 0
StartLess k n r = Less n (unless_done (after_start k r).1.done (unit_owed (after_start k r).0))

abbrev ServeLess : UnitBody → ℕ → ServePlace × ServeStep → Type 0
ServeLess k n r = Less n (unless_done (after_serve k r).1.done (unit_owed (after_serve k r).0))

over_less : (k : UnitBody) (p : UnitPlace) (n : ℕ) (e : FrameRole) (u : ℕ) → Less n (unless_done (unit_over k p e u).1.done (unit_owed (unit_over k p e u).0))
over_less k p n Main zero =
    elim (is_sync_unit k.table 1) as (λ b. Less n (unless_done (main_over k p b).1.done (unit_owed (main_over k p b).0)))
    [ true ↦ tt | false ↦ tt ]
over_less k p n _ _ = tt

-- the first of the last n places that is met comes after those before them
first_after : (found : ℕ → Option ℕ) (met : ℕ → Bool) → found zero ≡ None → ((n : ℕ) → found (suc n) ≡ (if nat_lt 3 n then None else if met n then Some (4 - suc n) else found n)) → (n i : ℕ) → found n ≡ Some i → (4 - n ≤ i) × (i < 4)
first_after found met empty step zero i e = absurd (let f = sym empty ∙ e in cc)
first_after found met empty step (suc n) i e = by (nat_lt 3 n) (met n) (sym (step n) ∙ e) (first_after found met empty step n i)
  where
    by : (p q : Bool) → (if p then None else if q then Some (4 - suc n) else found n) ≡ Some i → (found n ≡ Some i → (4 - n ≤ i) × (i < 4)) → (4 - suc n ≤ i) × (i < 4)
    by true q g rest = absurd (cc)
    by false true g rest = let at : 4 - suc n ≡ i = cc in (omega (arith, at), omega (arith, at))
    by false false g rest = let r = rest g in let low = r.0 in (omega (arith, low), r.1)

module _ (k : UnitBody) where
  prepared_less : (r : Running) (n : ℕ) → 3 < n → StartLess k n (prepared k.table r, started.Goes None)
  prepared_less r n lt =
      let x = channel_at_place k.table r.job 0 in
      whether_as (x.channel.internal && nat_le x.channel.length 1) (λ q. StartLess k n (if q then starts.Release r (releasing x Sent) else starts.Run r, started.Goes None))
      (λ _. lt)
      (λ _. omega (arith, lt))

  prepares_less : (r : Running) (i n : ℕ) → 3 < n → 5 + 2 * (3 - i) < n → StartLess k n (prepare_at k.table r i, started.Goes None)
  prepares_less r i n lt more =
      elim (channel_number (list_of k.table r.job) i) as (λ c. StartLess k n (prepare_by k.table r i c, started.Goes None))
      [ None ↦ prepared_less r n lt | Some c ↦ (let few = prepare_few (placed_of k.table c) in omega (arith, few, more)) ]

  start_less : (p : StartPlace) (v : ℕ) → Less (unit_more k.table (units.Start p)) (if unit_owes (units.Start p) then unless_done (unit_took k (units.Start p) v).1.done (unit_owed (unit_took k (units.Start p) v).0) else None)
  start_less (starts.Choose c p) v = whether_as (has_ended (next_gave p v)) (λ q. StartLess k (13 + next_more p) (start_chooses c p v q))
      (λ e. omega arith)
      (λ e. let lt = next_less p v e in omega (arith, lt))
  start_less (starts.Mark c) v = prepares_less c.run 0 12 (omega arith) (omega arith)
  start_less (starts.Prepare r i p) v = whether_as (prepare_ends p v) (λ q. StartLess k (4 + 2 * (3 - i) + prepare_more p) (start_prepares k.table r i p v q))
      (λ _. whether_as (nat_lt i 3) (λ q. StartLess k (4 + 2 * (3 - i) + prepare_more p) (if q then prepare_at k.table r (i + 1) else prepared k.table r, started.Goes None))
      (λ e. let lt : i < 3 = grind (arith, nat_tests) in prepares_less r (i + 1) _ (omega arith) (omega (arith, lt)))
      (λ e. prepared_less r _ (omega arith)))
      (λ e. let lt = prepare_less p v e in omega (arith, lt))
  start_less (starts.Release r p) v = whether_as (has_ended (take_gave p v)) (λ q. StartLess k (2 + take_more p) (start_releases r p v q))
      (λ e. omega arith)
      (λ e. let lt = take_less p v e in omega (arith, lt))
  start_less (starts.Run r) v = omega arith
  start_less starts.Stand v = over_less k (units.Start starts.Stand) 0 k.errand k.unit
  start_less _ v = tt

  request_less : (p : RequestPlace) (v : ℕ) → Less (unit_more k.table (units.Request p)) (if unit_owes (units.Request p) then unless_done (unit_took k (units.Request p) v).1.done (unit_owed (unit_took k (units.Request p) v).0) else None)
  request_less (requests.Look q) v = tt
  request_less requests.Accept v = tt
  request_less (requests.Add (add.Tell at tally)) v = tt
  request_less _ v = omega arith

  -- the first of the last n channels whose pin stands comes after those before them
  pinned_after : (r : Served) (n i : ℕ) → first_pinned k.table r n ≡ Some i → (4 - n ≤ i) × (i < 4)
  pinned_after r n i e = first_after (first_pinned k.table r) (λ n. meets_at k.table (is_pinned_at r (4 - suc n)) (channel_number (list_of k.table r.run.job) (4 - suc n))) refl (λ n. refl) n i e

  release_less : (l : Leaving) (n m : ℕ) → 7 < m → ((i : ℕ) → 4 - n ≤ i → i < 4 → 8 + 2 * (3 - i) + 1 < m) → ServeLess k m (release_last k.table l n, steps.Goes None)
  release_less l n m lt more = option_as (first_pinned k.table l.served n) (λ o. ServeLess k m (release_by k.table l o, steps.Goes None))
      (λ e. lt)
      (λ i e. let at = pinned_after l.served n i e in more i at.0 at.1)

  -- and the first internal one takes its moves of those that are left
  internal_after : (l : Leaving) (n i : ℕ) → first_internal k.table l.served n ≡ Some i → commits_left k.table l n ≡ 1 + commit_more (commit_at k.table l i) + commits_left k.table l (3 - i)
  internal_after l zero i e = absurd (cc)
  internal_after l (suc n) i e = one_place_more (nat_lt 3 n) (meets_at k.table (λ x. x.channel.internal) (channel_number (list_of k.table l.served.run.job) (4 - suc n))) refl e (internal_after l n i)
    where
      one_place_more : (p q : Bool) → nat_lt 3 n ≡ p → (if p then None else if q then Some (4 - suc n) else first_internal k.table l.served n) ≡ Some i → (first_internal k.table l.served n ≡ Some i → commits_left k.table l n ≡ 1 + commit_more (commit_at k.table l i) + commits_left k.table l (3 - i))
          → (if q then 1 + commit_more (commit_at k.table l (4 - suc n)) else 0) + commits_left k.table l n ≡ 1 + commit_more (commit_at k.table l i) + commits_left k.table l (3 - i)
      one_place_more true q f g rest = absurd (cc)
      one_place_more false true f g rest =
          let at : 4 - suc n ≡ i = cc in
          let few : n ≤ 3 = grind (arith, nat_tests) in
          let back : n ≡ 3 - (4 - suc n) = omega (arith, few) in
          subst (λ j. (1 + commit_more (commit_at k.table l (4 - suc n))) + commits_left k.table l n ≡ 1 + commit_more (commit_at k.table l j) + commits_left k.table l (3 - j)) at (ap (λ m. (1 + commit_more (commit_at k.table l (4 - suc n))) + commits_left k.table l m) back)
      one_place_more false false f g rest = let is = rest g in omega (arith, is)

  commits_less : (l : Leaving) (n m : ℕ) → 7 + commits_left k.table l n < m → ServeLess k m (commit_last k.table l n, steps.Goes None)
  commits_less l n m lt = option_as (first_internal k.table l.served n) (λ o. ServeLess k m (commit_by k.table l o, steps.Goes None))
      (λ e. omega (arith, lt))
      (λ i e. let is = internal_after l n i e in omega (arith, lt, is))

  serve_less : (p : ServePlace) (v : ℕ) → Less (unit_more k.table (units.Serve p)) (if unit_owes (units.Serve p) then unless_done (unit_took k (units.Serve p) v).1.done (unit_owed (unit_took k (units.Serve p) v).0) else None)
  serve_less (serves.Let r p t) v = whether_as (has_ended (take_gave t v)) (λ q. ServeLess k (3 + take_more t) (serve_lets k.table r p t v q))
      (λ e. let few = keep_few (channel_at_place k.table r.served.run.job r.served.at.channel) r.served.at.word r.taker r.word in omega (arith, few))
      (λ e. let lt = take_less t v e in omega (arith, lt))
  serve_less (serves.Keep x p) v = whether_as (keep_ends x) (λ q. ServeLess k (1 + keep_more x) (serve_keeps x p q))
      (λ e. omega arith)
      (λ e. let lt = keep_less x e in omega (arith, lt))
  serve_less (serves.Stand p) v = over_less k (units.Serve (serves.Stand p)) 0 k.errand k.unit
  serve_less (serves.Free r c) v =
      let l : Leaving = record { served = r.served; taker = r.taker; course = c } in
      let few = keep_few (channel_at_place k.table r.served.run.job r.served.at.channel) r.served.at.word r.taker r.word in
      elim r.served.failed as (λ q. ServeLess k (if q then 16 else 10 + commits_left k.table l 4) (if q then release_last k.table l (4 - r.served.at.channel) else serves.KeepLast l (keep_of k.table r), steps.Goes None))
      [ true ↦ release_less l (4 - r.served.at.channel) 16 (omega arith) (λ i low high. omega arith) | false ↦ omega (arith, few) ]
  serve_less (serves.Release l i t) v = whether_as (has_ended (take_gave t v)) (λ q. ServeLess k (8 + 2 * (3 - i) + take_more t) (serve_releases k.table l i t v q))
      (λ e. release_less l (3 - i) _ (omega arith) (λ j low high. omega (arith, low, high)))
      (λ e. let lt = take_less t v e in omega (arith, lt))
  serve_less (serves.KeepLast l x) v = whether_as (keep_ends x) (λ q. ServeLess k (8 + commits_left k.table l 4 + keep_more x) (serve_keeps_last k.table l x q))
      (λ e. commits_less l 4 _ (omega arith))
      (λ e. let lt = keep_less x e in omega (arith, lt))
  serve_less (serves.Commit l i c) v = whether_as (commit_ends c v) (λ q. ServeLess k (8 + commits_left k.table l (3 - i) + commit_more c) (serve_commits k.table l i c v q))
      (λ e. commits_less l (3 - i) _ (omega arith))
      (λ e. let lt = commit_less c v e in omega (arith, lt))
  serve_less (serves.Result l) v =
      elim l.course as (λ c. ServeLess k 7 (goes_on l.served c, steps.Goes None))
      [ courses.Further x ↦ omega arith | courses.Ends x ↦ omega arith ]
  serve_less (serves.Further r x) v = omega arith
  serve_less (serves.Again r (again.Look at n)) v = omega arith
  serve_less (serves.End r x) v = omega arith
  serve_less (serves.Drop r p) v = whether_as (has_ended (drop_gave p v)) (λ q. ServeLess k (drop_more p) (serve_drops k.table r p v q))
      (λ e. tt)
      (λ e. drop_less p v e)
  serve_less _ v = tt

  unit_less : (p : UnitPlace) (v : ℕ) → Less (unit_more k.table p) (if unit_owes p then unless_done (unit_took k p v).1.done (unit_owed (unit_took k p v).0) else None)
  unit_less (units.Request p) v = request_less p v
  unit_less (units.Start p) v = start_less p v
  unit_less (units.Serve p) v = serve_less p v
  unit_less _ v = tt

-- ---- the places of a call that sends a sequence

abbrev SyncLess : ℕ → SyncBody × BodyTaken → Type 0
SyncLess n r = Less n (unless_done r.1.done (sync_owed r.0))

module _ (k : SyncBody) where
  -- the places of a further word's window, and of the last one, are those of a serving
  abbrev serving : UnitBody
  serving = record { table = k.table; errand = Handler; unit = k.unit; place = units.Serve serves.Shut }

  as_served : (n : ℕ) (p : ServePlace) → ServeLess serving n (p, steps.Goes None) → SyncLess n (sync_at k (sends.Serve p), outline.goes)
  as_served n (serves.Let r p t) lt = lt
  as_served n (serves.Keep x p) lt = lt
  as_served n (serves.Stand p) lt = lt
  as_served n (serves.Free r c) lt = lt
  as_served n (serves.Release l i t) lt = lt
  as_served n (serves.KeepLast l x) lt = lt
  as_served n (serves.Commit l i c) lt = lt
  as_served n (serves.Result l) lt = lt
  as_served n (serves.End r x) lt = lt
  as_served n _ lt = tt

  served_on : (n : ℕ) (z : Bool → ServePlace × ServeStep) → (z true).1 ≡ steps.Goes None → (z false).1 ≡ steps.Goes None → (q : Bool) → ServeLess serving n (z q) → SyncLess n (sync_at k (sends.Serve (z q).0), outline.goes)
  served_on n z e f true lt = as_served n (z true).0 (subst (λ x. ServeLess serving n ((z true).0, x)) e lt)
  served_on n z e f false lt = as_served n (z false).0 (subst (λ x. ServeLess serving n ((z false).0, x)) f lt)

  made_ready : (i n : ℕ) → 3 < n → 5 + 2 * (3 - i) < n → SyncLess n (sync_at k (sync_prepares_at k i), outline.goes)
  made_ready i n lt more =
      elim (channel_number (list_of k.table (run_sent k).job) i) as (λ c. SyncLess n (sync_at k (sync_prepares_by c k.table i), outline.goes))
      [ None ↦ lt | Some c ↦ (let few = prepare_few (placed_of k.table c) in omega (arith, few, more)) ]

  first_ready : SyncLess 12 (sync_at k (sync_prepares k), outline.goes)
  first_ready =
      elim (begins_whole (channel_sent k 0)) as (λ b. SyncLess 12 (sync_at k (sync_prepares_at k (if b then 1 else 0)), outline.goes))
      [ true ↦ made_ready 1 12 (omega arith) (omega arith) | false ↦ made_ready 0 12 (omega arith) (omega arith) ]

  made_readable : (r : Served) (n m : ℕ) → 12 < m → ((i : ℕ) → 4 - n ≤ i → i < 4 → 14 + 2 * (3 - i) < m) → SyncLess m (sync_at k (sync_commits k r (first_internal k.table r n)), outline.goes)
  made_readable r n m lt more = option_as (first_internal k.table r n) (λ o. SyncLess m (sync_at k (sync_commits k r o), outline.goes))
      (λ e. lt)
      (λ i e.
      let at = first_after (first_internal k.table r) (λ n. meets_at k.table (λ x. x.channel.internal) (channel_number (list_of k.table r.run.job) (4 - suc n))) refl (λ n. refl) n i e in
      let most = more i at.0 at.1 in
      omega (arith, most))

  sync_less : (p : SyncPlace) (v : ℕ) → Less (sync_more k.table p) (if sync_owes p then unless_done (sync_took k p v).1.done (sync_owed (sync_took k p v).0) else None)
  sync_less sends.Pend v = first_ready
  sync_less (sends.Keep r p) v = whether_as (keep_ends p) (λ q. SyncLess (21 + keep_more p) (sync_at k (sync_keeps k r p q), outline.goes))
      (λ e. made_readable r 4 _ (omega arith) (λ i low high. omega arith))
      (λ e. let lt = keep_less p e in omega (arith, lt))
  sync_less (sends.Commit r i p) v = whether_as (has_ended (put_gave p v)) (λ q. SyncLess (13 + 2 * (3 - i) + put_more p) (sync_at k (sync_committed k r i p v q), outline.goes))
      (λ e. made_readable r (3 - i) _ (omega arith) (λ j low high. omega (arith, low, high)))
      (λ e. let lt = commit_less (commits.Put p) v e in omega (arith, lt))
  sync_less (sends.Result r) v = first_ready
  sync_less (sends.Prepare i p) v = whether_as (prepare_ends p v) (λ q. SyncLess (4 + 2 * (3 - i) + prepare_more p) (sync_at k (sync_prepared k i p v q), outline.goes))
      (λ _. whether_as (nat_lt i 3) (λ q. SyncLess (4 + 2 * (3 - i) + prepare_more p) (sync_at k (if q then sync_prepares_at k (i + 1) else sends.Run), outline.goes))
      (λ e. let lt : i < 3 = grind (arith, nat_tests) in made_ready (i + 1) _ (omega arith) (omega (arith, lt)))
      (λ e. omega arith))
      (λ e. let lt = prepare_less p v e in omega (arith, lt))
  sync_less sends.Run v = omega arith
  sync_less sends.Stand v = omega arith
  sync_less sends.Nexts v = omega arith
  sync_less (sends.Serve p) v = serve_step p
    where
      -- of each of them the step goes on
      serve_step : (p : ServePlace) → Less (serve_more k.table p) (if sent_owes p then unless_done (sync_serves k p v).1.done (sync_owed (sync_serves k p v).0) else None)
      serve_step (serves.Let r x t) = served_on (serve_more k.table (serves.Let r x t)) (serve_lets k.table r x t v) refl refl (has_ended (take_gave t v)) (serve_less serving (serves.Let r x t) v)
      serve_step (serves.Keep x y) = served_on (serve_more k.table (serves.Keep x y)) (serve_keeps x y) refl refl (keep_ends x) (serve_less serving (serves.Keep x y) v)
      serve_step (serves.Free r c) = as_served _ _ (serve_less serving (serves.Free r c) v)
      serve_step (serves.Release l i t) = served_on (serve_more k.table (serves.Release l i t)) (serve_releases k.table l i t v) refl refl (has_ended (take_gave t v)) (serve_less serving (serves.Release l i t) v)
      serve_step (serves.KeepLast l x) = served_on (serve_more k.table (serves.KeepLast l x)) (serve_keeps_last k.table l x) refl refl (keep_ends x) (serve_less serving (serves.KeepLast l x) v)
      serve_step (serves.Commit l i c) = served_on (serve_more k.table (serves.Commit l i c)) (serve_commits k.table l i c v) refl refl (commit_ends c v) (serve_less serving (serves.Commit l i c) v)
      serve_step (serves.Result l) = as_served _ _ (serve_less serving (serves.Result l) v)
      serve_step _ = tt
  sync_less _ v = tt

owed_less : (x : PendingWrites) (v : ℕ) → Less (more_owed x) (owed_left x v)
owed_less (Units k) v = unit_less k k.place v
owed_less (Cancels (cancels.Drop r p)) v = whether_as (has_ended (drop_gave p v)) (λ q. Less (drop_more p) (unless_done (cancel_drops r p v q).1.done (cancel_owed_at (cancel_drops r p v q).0)))
    (λ e. tt)
    (λ e. drop_less p v e)
owed_less (Wholes (wholes.Look x q)) v = tt
owed_less (Sends k) v = sync_less k k.place v
owed_less _ v = tt

pub owed_right : (d : SpiTable) → AreOwed (spi_bare d) (spi_owing d) same_chip
owed_right d = simple_owed (spi_bare d) (spi_owing d) (λ made e. (and_parts (is_simple made) (may d made) e).0) (λ x chip. tt) (λ x y v e. subst (Less (more_owed x)) e (owed_less x v))

-- so the basis with them is a basis
pub basis_right : (d : SpiTable) → FitsSpi d → IsBasis (spi_basis d)
basis_right d fits = owing_basis (spi_bare d) (spi_owing d) same_chip (owed_right d) (bare_right d fits)
