-- The moves that frames of units owe: after each one the frame owes the others, or goes on as it was to.
-- From services.UnitFrames, spi_sequences: services.ServeSteps, spi_sequences: services.UnitSteps and 7 more.
-- Used by bookkeeping.NoneWaits, services.UnitBounds, services.UnitSteps.
use Rattle.std.proofs.Common.{◌≡◌, ◌+◌, ◌-◌, ◌&&◌, ◌||◌, [], ◌∷◌, ◌++◌, ◌∙◌, ◌⊎◌, if◌then◌else◌}
use Rattle.spi_driver.specs.Terms
use Terms.{add_gave, after_request, after_serve, after_start, again_gave, and_parts, ap, AreWindows, arith, Arrived}
use Terms.{AssertedAt, AsyncTransmit, BodyTaken, Bool, Call, Called, Chip, clear_over, cleared_of, commit_by}
use Terms.{commit_ends, commit_last, Continues, drop_gave, ends_of, Entered, false, first_internal, first_pinned}
use Terms.{frame_names, FrameHistory, FrameRole, goes, goes_on, GoesFree, GoesOwing, Handler, has_ended, has_line}
use Terms.{inl, inr, is_simple, is_sync_unit, job_note, job_notice, job_of, keep_ends, keep_of, Leaving, List}
use Terms.{list_all, Main, main_over, may, MayStop, no_answer, None, Nothing, Notice, notices_by, notifies_job}
use Terms.{notifies_sequence, Option, Origin, owed_left, owed_move, PendingWrites, refl, release_by, release_last}
use Terms.{request_adds, request_owes, request_takes, Requested, requested_by, RequestPlace, Reservations, Rest}
use Terms.{rest_after, same_line, sequence_note, sequence_notice, sequence_of, SequenceNext, serve_again, serve_ahead}
use Terms.{serve_commits, serve_drops, serve_keeps, serve_keeps_last, serve_lets, serve_owes, serve_releases}
use Terms.{serve_takes, Served, ServePlace, ServeStep, Some, some_is, spi_bare, spi_basis, spi_owing}
use Terms.{SpiJobEndNotification, SpiRepresents, SpiSeqEndNotification, SpiState, SpiTable, start_takes, Started}
use Terms.{StartPlace, subst, suc, sym, take_gave, Transmit, true, unit_over, unit_owed, unit_owes, unit_takes}
use Terms.{UnitBody, UnitPlace, Units, unless_done, where_owed, whether_as, Windows, with_holds, World, zero, ℕ}
use Rattle.spi_driver.specs.laws.services.UnitFrames.{About, Ahead, Frame, Handles, HasDone, IsFor, Mains, OwedAt}
use Rattle.spi_driver.specs.laws.services.UnitFrames.{Rests, ToPass, ToStart, Transmits, about_owed, about_unit}
use Rattle.spi_driver.specs.laws.services.UnitFrames.{ahead_holds, ahead_of, ahead_owing, all_told, and_other, at}
use Rattle.spi_driver.specs.laws.services.UnitFrames.{is_met, owed_holds, served_ahead, told_list, unit_after}
use Rattle.spi_driver.specs.laws.services.UnitFrames.{unit_bodies, unit_windows, with_cleared}
use Rattle.spi_driver.specs.laws.bookkeeping.MainFunctionHold.{handling_of, handling_over}
use Rattle.spi_laws.specs.starting.laws.services.StartAround.{GoesOwing as StartOn, owed_goes as start_on}
use Rattle.spi_machine.specs.declared.call.Call.TheVariants as calls
use Rattle.spi_sequences.specs.declared.service.request.RequestPlace.TheVariants as request
use Rattle.spi_sequences.specs.declared.service.request.Requested.TheVariants as requested
use Rattle.spi_sequences.specs.declared.service.serve.SequenceNext.TheVariants as courses
use Rattle.spi_sequences.specs.declared.service.serve.ServePlace.TheVariants as serve
use Rattle.spi_sequences.specs.declared.service.serve.ServeStep.TheVariants as steps
use Rattle.spi_sequences.specs.declared.service.start.Started.TheVariants as started
use Rattle.spi_sequences.specs.declared.service.unit.After.TheVariants as after
use Rattle.spi_sequences.specs.declared.service.unit.UnitPlace.TheVariants as place

-- ---- a request

-- an owed move of a request leads to another one, or is the last
abbrev pub RequestOn : RequestPlace × Requested → Type 0
RequestOn (p, requested.Goes None) = request_owes p ≡ true
RequestOn (p, requested.Goes (Some e)) = ⊥
RequestOn (p, requested.Held) = ⊥
RequestOn (p, requested.Accepted) = Unit {0}

pub request_on : (d : SpiTable) (q : ℕ) (p : RequestPlace) (v : ℕ) → request_owes p ≡ true → RequestOn (request_takes d q p v)
request_on d q (request.Look k) v e = absurd (cc)
request_on d q request.Accept v e = absurd (cc)
request_on d q (request.Add p) v e =
    elim (has_ended (add_gave p v)) as (λ b. RequestOn (request_adds p v b))
    [ true ↦ tt | false ↦ refl ]
request_on d q _ v e = refl

-- ---- a serving

-- an owed move leads to another one with the same ahead, or is the last, after which the notices are told where a job has ended; where none are, the first unit is one that was served
abbrev pub ServeOn : SpiTable → Option (List Notice) → ServePlace × ServeStep → Type 0
ServeOn d a (p, steps.Goes None) = (serve_owes p ≡ true) × (serve_ahead d p ≡ a)
ServeOn d a (p, steps.Goes (Some e)) = ⊥
ServeOn d a (p, steps.Over) = (a ≡ None) × (rest_after (place.Serve p) ≡ Rest)
ServeOn d a (p, steps.JobOver x) = a ≡ Some (all_told x)

-- the notices of a job, and those of a sequence after others
job_told : (d : SpiTable) (j : ℕ) → job_notice d j ≡ and_other (job_note d j)
job_told d j =
    elim (notifies_job (job_of d j)) as (λ b. (if b then record { kind = SpiJobEndNotification; id = j } ∷ [] else []) ≡ and_other (if b then Some (record { kind = SpiJobEndNotification; id = j }) else None))
    [ true ↦ refl | false ↦ refl ]

sequence_told : (d : SpiTable) (q : ℕ) → sequence_notice d q ≡ and_other (sequence_note d q)
sequence_told d q =
    elim (notifies_sequence (sequence_of d q)) as (λ b. (if b then record { kind = SpiSeqEndNotification; id = q } ∷ [] else []) ≡ and_other (if b then Some (record { kind = SpiSeqEndNotification; id = q }) else None))
    [ true ↦ refl | false ↦ refl ]

told_both : (x y : Option Notice) → and_other x ++ and_other y ≡ told_list x y
told_both None y = refl
told_both (Some n) y = refl

told_first : (x : Option Notice) → and_other x ≡ told_list x None
told_first None = refl
told_first (Some n) = refl

-- a place that owes moves, and what is told after it
abbrev OwesTo : SpiTable → ServePlace → List Notice → Type 0
OwesTo d p ns = (serve_owes p ≡ true) × (serve_ahead d p ≡ Some ns)

-- a job's last channels are done one after another
release_on : (d : SpiTable) (l : Leaving) (n : ℕ) → OwesTo d (release_last d l n) (notices_by d l.served l.course)
release_on d l n =
    elim (first_pinned d l.served n) as (λ o. OwesTo d (release_by d l o) (notices_by d l.served l.course))
    [ None ↦ (refl, refl) | Some i ↦ (refl, refl) ]

commit_on : (d : SpiTable) (l : Leaving) (n : ℕ) → OwesTo d (commit_last d l n) (notices_by d l.served l.course)
commit_on d l n =
    elim (first_internal d l.served n) as (λ o. OwesTo d (commit_by d l o) (notices_by d l.served l.course))
    [ None ↦ (refl, refl) | Some i ↦ (refl, refl) ]

ends_on : (d : SpiTable) (r : Arrived) (c : SequenceNext) → OwesTo d (ends_of d r c) (notices_by d r.served c)
ends_on d r c = let l : Leaving = record { served = r.served; taker = r.taker; course = c } in
    elim r.served.failed as (λ q. OwesTo d (if q then release_last d l (4 - r.served.at.channel) else serve.KeepLast l (keep_of d r)) (notices_by d r.served c))
    [ true ↦ release_on d l (4 - r.served.at.channel) | false ↦ (refl, refl) ]

goes_on_on : (d : SpiTable) (r : Served) (c : SequenceNext) → OwesTo d (goes_on r c) (notices_by d r c)
goes_on_on d r (courses.Further v) = (refl, refl)
goes_on_on d r (courses.Ends x) = (refl, refl)

pub serve_on : (d : SpiTable) (u : ℕ) (p : ServePlace) (v : ℕ) → serve_owes p ≡ true → ServeOn d (serve_ahead d p) (serve_takes d u p v)
serve_on d u (serve.Let r p t) v e =
    elim (has_ended (take_gave t v)) as (λ b. ServeOn d None (serve_lets d r p t v b))
    [ true ↦ (refl, refl) | false ↦ (refl, refl) ]
serve_on d u (serve.Keep k p) v e =
    elim (keep_ends k) as (λ b. ServeOn d None (serve_keeps k p b))
    [ true ↦ (refl, refl) | false ↦ (refl, refl) ]
serve_on d u (serve.Stand p) v e = (refl, refl)
serve_on d u (serve.Free r c) v e = ends_on d r c
serve_on d u (serve.Release l i t) v e =
    elim (has_ended (take_gave t v)) as (λ b. ServeOn d (Some (notices_by d l.served l.course)) (serve_releases d l i t v b))
    [ true ↦ release_on d l (3 - i) | false ↦ (refl, refl) ]
serve_on d u (serve.KeepLast l k) v e =
    elim (keep_ends k) as (λ b. ServeOn d (Some (notices_by d l.served l.course)) (serve_keeps_last d l k b))
    [ true ↦ commit_on d l 4 | false ↦ (refl, refl) ]
serve_on d u (serve.Commit l i c) v e =
    elim (commit_ends c v) as (λ b. ServeOn d (Some (notices_by d l.served l.course)) (serve_commits d l i c v b))
    [ true ↦ commit_on d l (3 - i) | false ↦ (refl, refl) ]
serve_on d u (serve.Result l) v e = goes_on_on d l.served l.course
serve_on d u (serve.Further r x) v e = (refl, refl)
serve_on d u (serve.Again r a) v e =
    elim (has_ended (again_gave a v)) as (λ b. ServeOn d (Some (job_notice d r.run.job)) (serve_again d r a v b))
    [ true ↦ ap (λ ns. Some ns) (job_told d r.run.job ∙ told_first (job_note d r.run.job)) | false ↦ (refl, refl) ]
serve_on d u (serve.End r x) v e = (refl, refl)
serve_on d u (serve.Drop r p) v e = whether_as (has_ended (drop_gave p v)) (λ b. ServeOn d (Some (job_notice d r.run.job ++ sequence_notice d r.run.sequence)) (serve_drops d r p v b))
    (λ _. ap (λ ns. Some ns) (ap (λ ns. ns ++ sequence_notice d r.run.sequence) (job_told d r.run.job) ∙ ap (λ ns. and_other (job_note d r.run.job) ++ ns) (sequence_told d r.run.sequence) ∙ told_both (job_note d r.run.job) (sequence_note d r.run.sequence)))
    (λ _. (refl, refl))
serve_on d u _ v e = absurd (cc)

-- ---- all of them

owed_when : (q : Bool) (k : UnitBody) (x : PendingWrites) → where_owed q (Units k) ≡ Some x → (q ≡ true) × (Units k ≡ x)
owed_when true k x e = (refl, some_is (Units k) x e)
owed_when false k x e = absurd (cc)

-- what a body owes are its moves
owed_unit : (k : UnitBody) (x : PendingWrites) → unit_owed k ≡ Some x → (unit_owes k.place ≡ true) × (Units k ≡ x)
owed_unit k x e = owed_when (unit_owes k.place) k x e

-- what is left after one of them
left_of : (k : UnitBody) (v : ℕ) → unit_owes k.place ≡ true → owed_left (Units k) v ≡ unless_done (unit_takes k v).1.done (unit_owed (unit_takes k v).0)
left_of k v e = ap (λ q. if q then unless_done (unit_takes k v).1.done (unit_owed (unit_takes k v).0) else None) e

module _ (d : SpiTable) where
  abbrev W : Windows (spi_bare d) PendingWrites (Option About) UnitBody (spi_owing d)
  W = unit_windows d

  -- after an owed move the frame owes others and is about the same, or it is the last one
  abbrev GoesSo : About → UnitBody × BodyTaken → Type 0
  GoesSo z t = ((unit_owes t.0.place ≡ true) × (t.1 ≡ goes) × (about_unit t.0 ≡ z)) ⊎ ((unless_done t.1.done (unit_owed t.0) ≡ None) × (t.1.event ≡ None) × GoesFree W (Some z) t.0 t.1.done)

  abbrev about : SpiTable → FrameRole → ℕ → Ahead → About
  about x e u n = record { table = x; errand = e; unit = u; ahead = n }

  -- no unit comes after the second one
  pub unit_second : (e : FrameRole) → unit_after e 1 ≡ 0
  unit_second Main = refl
  unit_second _ = refl

  -- the frame is done with the unit
  passes_so : (x : SpiTable) (e : FrameRole) (u : ℕ) (p q : UnitPlace) → GoesSo (about x e u ToPass) (unit_over (at x e u p) q e u)
  passes_so x Main zero p q = whether_as (is_sync_unit x 1) (λ z. GoesSo (about x Main 0 ToPass) (main_over (at x Main 0 p) q z))
      (λ _. inr (refl, refl, tt))
      (λ _. inr (refl, refl, (refl, refl, refl, (let last = unit_second (rest_after q) in omega (arith, last)), omega arith)))
  passes_so x _ _ p q = inr (refl, refl, tt)

  goes_so : (x : SpiTable) (e : FrameRole) (u : ℕ) (p : UnitPlace) (v : ℕ) → unit_owes p ≡ true → GoesSo (about x e u (ahead_of x p)) (unit_takes (at x e u p) v)
  goes_so x e u (place.Request r) v i = request_goes (request_takes x (requested_by e) r v) (request_on x (requested_by e) r v i)
    where
      request_goes : (z : RequestPlace × Requested) → RequestOn z → GoesSo (about x e u ToStart) (after_request (at x e u (place.Request r)) z)
      request_goes (r1, requested.Goes None) h = inl (h, refl, refl)
      request_goes (r1, requested.Goes (Some n)) h = absurd h
      request_goes (r1, requested.Held) h = absurd h
      request_goes (r1, requested.Accepted) h = inr (refl, refl, (refl, refl, refl, omega arith, omega arith))
  goes_so x e u (place.Start r) v i = by (start_takes x u r v) (start_on x u r v i)
    where
      by : (z : StartPlace × Started) → StartOn x u z → GoesSo (about x e u ToPass) (after_start (at x e u (place.Start r)) z)
      by (r1, started.Goes None) h = inl (h, refl, refl)
      by (r1, started.Goes (Some n)) h = absurd h
      by (r1, started.Over) h = passes_so x e u (place.Start r) (place.Start r1)
  goes_so x e u (place.Serve r) v i = serve_goes (serve_takes x u r v) (serve_on x u r v i)
    where
      serve_goes : (z : ServePlace × ServeStep) → ServeOn x (serve_ahead x r) z → GoesSo (about x e u (served_ahead (serve_ahead x r))) (after_serve (at x e u (place.Serve r)) z)
      serve_goes (r1, steps.Goes None) h = inl (h.0, refl, ap (λ n. about x e u (served_ahead n)) h.1)
      serve_goes (r1, steps.Goes (Some n)) h = absurd h
      serve_goes (r1, steps.Over) h = subst (λ n. GoesSo (about x e u (served_ahead n)) (unit_over (at x e u (place.Serve r)) (place.Serve r1) e u)) (sym h.0) (passes_so x e u (place.Serve r) (place.Serve r1))
      serve_goes (r1, steps.JobOver n) h = subst (λ n1. GoesSo (about x e u (served_ahead n1)) (at x e u (place.Opens (after.Tell n)), goes)) (sym h) (inr (refl, refl, (refl, refl, refl, omega arith, omega arith)))
  goes_so x e u _ v i = absurd (cc)

  -- ---- after the last one the frame stands, or may end

  abbrev Continue : Reservations → Chip → World → SpiState → Origin Call → FrameHistory → (ℕ → Bool) → UnitBody × BodyTaken → Type 0
  Continue below chip w s o t m r = Continues (spi_basis d) (unit_bodies d) below chip w s o t m r.0 r.1.done

  all_none : (served missed : ℕ → Bool) (ls : List ℕ) → ls ≡ [] → list_all (λ l. served l || missed l) ls ≡ true
  all_none served missed ls e = ap (list_all (λ l. served l || missed l)) e

  still_met : (x y z : Bool) → x || z ≡ true → x || (y || z) ≡ true
  still_met false false z e = e
  still_met _ _ z e = refl

  both_met : (x y : Bool) → x ≡ true → y ≡ true → x && (y && true) ≡ true
  both_met true true e f = refl
  both_met _ _ e f = absurd (cc)

  -- the main function ends that has met both lines
  pub main_stops : (t : FrameHistory) (m : ℕ → Bool) → t.acted ≡ Some no_answer → t.polled ≡ 26 ∷ 27 ∷ [] → t.report ≡ None → t.owed ≡ [] → is_met t 26 ≡ true → is_met t 27 ≡ true → MayStop (spi_basis d) (Called calls.MainFunctionHandling) t m (record { answer = no_answer; owed = Nothing })
  main_stops t m acted polled report owed first second = record {
    may = (acted, ap (list_all (λ l. has_line t.served l || (m l || has_line t.missed l))) polled ∙ both_met (has_line t.served 26 || (m 26 || has_line t.missed 26)) (has_line t.served 27 || (m 27 || has_line t.missed 27)) (still_met (has_line t.served 26) (m 26) (has_line t.missed 26) first) (still_met (has_line t.served 27) (m 27) (has_line t.missed 27) second));
    served = false;
    owed = owed;
    shown = λ i. absurd (cc);
    report = report;
  }

  -- done with the unit, which it has cleared, it goes on with the next one, or may end
  pub passes_on : (x : SpiTable) (e : FrameRole) (u : ℕ) (p q : UnitPlace) (below : Reservations) (chip : Chip) (w : World) (s : SpiState) (o : Origin Call) (t : FrameHistory) (m : ℕ → Bool) → rest_after q ≡ Rest → Frame d x e u o → HasDone d e u true [] t → SpiRepresents d (with_holds o t.acted (with_cleared e u) below) chip w s
      → Continue below chip w s o t m (unit_over (at x e u p) q e u)
  passes_on x e u p q below chip w s o t m rest frame done h = passes_by_role e u o frame.of frame done h
    where
      o_main : Origin Call
      o_main = Called calls.MainFunctionHandling

      over : (o : Origin Call) (u : ℕ) (held : Reservations) → SpiRepresents d (cleared_of u o t.acted ∷ held) chip w s → SpiRepresents d held chip w s
      over o u held h = clear_over d held chip w s u o t.acted h

      passes_by_role : (e : FrameRole) (u : ℕ) (o : Origin Call) → IsFor u e o → Frame d x e u o → HasDone d e u true [] t → SpiRepresents d (with_holds o t.acted (with_cleared e u) below) chip w s → Continue below chip w s o t m (unit_over (at x e u p) q e u)
      passes_by_role (Transmit n) u _ (Transmits _) frame done h = (over (Called (calls.Sequence n AsyncTransmit)) u below h, record { may = (done.acted, all_none (λ l. has_line t.served l) (λ l. m l || has_line t.missed l) t.polled done.polled); served = false; owed = done.owed; shown = λ i. absurd (cc); report = done.report })
      passes_by_role Handler u _ Handles frame done h = (over (Entered (26 + u)) u below h, record { may = (ap (λ ls. has_line ls (26 + u) || m (26 + u)) done.progress ∙ ap (λ i. i || m (26 + u)) (same_line (26 + u)), refl); served = false; owed = done.owed; shown = λ i. absurd (cc); report = done.report })
      passes_by_role Main zero _ Mains frame done h = next (is_sync_unit x 1) refl
        where
          next : (z : Bool) → is_sync_unit x 1 ≡ z → Continue below chip w s o_main t m (main_over (at x Main 0 p) q z)
          next true sync = (handling_over d o_main t.acted below chip w s (over o_main 0 (handling_of o_main t.acted ∷ below) h), main_stops t m done.acted done.polled done.report done.owed done.progress.0 (done.progress.2 (ap (λ y. is_sync_unit y 1) (sym frame.table) ∙ sync)))
          next false async =
              subst (λ e1. AssertedAt (spi_basis d) (unit_bodies d) below chip w s (at x e1 1 (place.Opens after.Serve)) o_main t) (sym rest)
              (h, (record { table = frame.table; small = omega arith; async = ap (λ y. is_sync_unit y 1) (sym frame.table) ∙ async; of = Rests }, record { acted = done.acted; polled = done.polled; report = done.report; owed = done.owed; progress = (done.progress.0, done.progress.1) }))
      passes_by_role Main (suc u) _ Mains frame done h = (handling_over d o_main t.acted below chip w s (over o_main (suc u) (handling_of o_main t.acted ∷ below) h), main_stops t m done.acted done.polled done.report done.owed done.progress.0 done.progress.1)
      passes_by_role Rest zero _ Rests frame done h = absurd done.progress
      passes_by_role Rest (suc u) _ Rests frame done h = (
        handling_over d o_main t.acted below chip w s (over o_main 0 (handling_of o_main t.acted ∷ below) (over o_main (suc u) (cleared_of 0 o_main t.acted ∷ handling_of o_main t.acted ∷ below) h)),
        main_stops t m done.acted done.polled done.report done.owed done.progress.0 done.progress.1,
      )

  goes_owed : (x : SpiTable) (e : FrameRole) (u : ℕ) (p : UnitPlace) → unit_owes p ≡ true → unless_done None (unit_owed (at x e u p)) ≡ None → ⊥
  goes_owed x e u p i f = let g = sym (ap (λ q. where_owed q (Units (at x e u p))) i) ∙ f in cc

  stands_at : (x : SpiTable) (e : FrameRole) (u : ℕ) (p : UnitPlace) (v : ℕ) (below : Reservations) (chip : Chip) (w : World) (s : SpiState) (o : Origin Call) (t : FrameHistory) (m : ℕ → Bool) → unit_owes p ≡ true → unless_done (unit_takes (at x e u p) v).1.done (unit_owed (unit_takes (at x e u p) v).0) ≡ None
      → OwedAt d (Some (about x e u (ahead_of x p))) o t → SpiRepresents d (with_holds o t.acted (owed_holds (Some (about x e u (ahead_of x p)))) below) chip w s → Continue below chip w s o t m (unit_takes (at x e u p) v)
  stands_at x e u (place.Request r) v below chip w s o t m i none (frame, done) h = request_stands (request_takes x (requested_by e) r v) (request_on x (requested_by e) r v i) none
    where
      request_stands : (z : RequestPlace × Requested) → RequestOn z → let n = after_request (at x e u (place.Request r)) z in unless_done n.1.done (unit_owed n.0) ≡ None → Continue below chip w s o t m n
      request_stands (r1, requested.Goes None) k f = absurd (goes_owed x e u (place.Request r1) k f)
      request_stands (r1, requested.Goes (Some n)) k f = absurd k
      request_stands (r1, requested.Held) k f = absurd k
      request_stands (r1, requested.Accepted) k f = (h, (frame, done))
  stands_at x e u (place.Start r) v below chip w s o t m i none (frame, done) h = by (start_takes x u r v) (start_on x u r v i) none
    where
      by : (z : StartPlace × Started) → StartOn x u z → let n = after_start (at x e u (place.Start r)) z in unless_done n.1.done (unit_owed n.0) ≡ None → Continue below chip w s o t m n
      by (r1, started.Goes None) k f = absurd (goes_owed x e u (place.Start r1) k f)
      by (r1, started.Goes (Some n)) k f = absurd k
      by (r1, started.Over) k f = passes_on x e u (place.Start r) (place.Start r1) below chip w s o t m refl frame done h
  stands_at x e u (place.Serve r) v below chip w s o t m i none (frame, done) h = serve_stands (serve_takes x u r v) (serve_on x u r v i) none
    where
      Here : Option (List Notice) → Type 0
      Here n = HasDone d e u true (ahead_owing (served_ahead n)) t × SpiRepresents d (with_holds o t.acted (ahead_holds e u (served_ahead n)) below) chip w s

      serve_stands : (z : ServePlace × ServeStep) → ServeOn x (serve_ahead x r) z → let n = after_serve (at x e u (place.Serve r)) z in unless_done n.1.done (unit_owed n.0) ≡ None → Continue below chip w s o t m n
      serve_stands (r1, steps.Goes None) k f = absurd (goes_owed x e u (place.Serve r1) k.0 f)
      serve_stands (r1, steps.Goes (Some n)) k f = absurd k
      serve_stands (r1, steps.Over) k f = let here = subst Here k.0 (done, h) in passes_on x e u (place.Serve r) (place.Serve r1) below chip w s o t m k.1 frame here.0 here.1
      serve_stands (r1, steps.JobOver n) k f = let here = subst Here k (done, h) in (here.1, (frame, here.0))
  stands_at x e u place.Act v below chip w s o t m i none at h = absurd (cc)
  stands_at x e u (place.Opens n) v below chip w s o t m i none at h = absurd (cc)
  stands_at x e u (place.Tell n l) v below chip w s o t m i none at h = absurd (cc)

  -- ---- the places where moves are owed

  pub unit_wins : AreWindows W (λ k. None)
  unit_wins = record {
    makes = λ k x e. ap owed_move (owed_unit k x e).1;
    on = λ k x z v e i. let is = owed_unit k x e in subst (λ y. GoesOwing W y z (unit_takes k v)) is.1 (goes_on k z v is.0 (sym (left_of k v is.0) ∙ ap (λ y. owed_left y v) is.1 ∙ i));
    over = λ k x v e i. let is = owed_unit k x e in subst (λ y. ((unit_takes k v).1.event ≡ None) × GoesFree W (about_owed y) (unit_takes k v).0 (unit_takes k v).1.done) is.1 (ends_so k v is.0 (sym (left_of k v is.0) ∙ ap (λ y. owed_left y v) is.1 ∙ i));
    unended = λ k x v e. refl;
    may = λ x below o t made h e. frame_names d o made (and_parts (is_simple made) (may d made) e).1;
    stands = λ k x v below chip w s o t m e i p h.
        let is = owed_unit k x e in
        stands_at k.table k.errand k.unit k.place v below chip w s o t m is.0 (sym (left_of k v is.0) ∙ ap (λ y. owed_left y v) is.1 ∙ i) (subst (λ y. OwedAt d (about_owed y) o t) (sym is.1) p) (subst (λ y. SpiRepresents d (with_holds o t.acted (owed_holds (about_owed y)) below) chip w s) (sym is.1) h);
  }
    where
      goes_on : (k : UnitBody) (z : PendingWrites) (v : ℕ) → unit_owes k.place ≡ true → unless_done (unit_takes k v).1.done (unit_owed (unit_takes k v).0) ≡ Some z → GoesOwing W (Units k) z (unit_takes k v)
      goes_on k z v i f = owing_on (unit_takes k v) (goes_so k.table k.errand k.unit k.place v i) f
        where
          owing_on : (t : UnitBody × BodyTaken) → GoesSo (about_unit k) t → unless_done t.1.done (unit_owed t.0) ≡ Some z → GoesOwing W (Units k) z t
          owing_on t (inl (q, g, same)) f =
              let left : unit_owed t.0 ≡ Some z = subst (λ (n : BodyTaken). unless_done n.done (unit_owed t.0) ≡ Some z) g f in
              (left, g, ap about_owed (sym (owed_unit t.0 z left).1) ∙ ap (λ y. Some y) same)
          owing_on t (inr (none, q, free)) f = absurd (let g = sym none ∙ f in cc)

      ends_so : (k : UnitBody) (v : ℕ) → unit_owes k.place ≡ true → unless_done (unit_takes k v).1.done (unit_owed (unit_takes k v).0) ≡ None → ((unit_takes k v).1.event ≡ None) × GoesFree W (Some (about_unit k)) (unit_takes k v).0 (unit_takes k v).1.done
      ends_so k v i f = by (unit_takes k v) (goes_so k.table k.errand k.unit k.place v i) f
        where
          by : (t : UnitBody × BodyTaken) → GoesSo (about_unit k) t → unless_done t.1.done (unit_owed t.0) ≡ None → (t.1.event ≡ None) × GoesFree W (Some (about_unit k)) t.0 t.1.done
          by t (inl (q, g, same)) f = absurd (goes_owed t.0.table t.0.errand t.0.unit t.0.place q (subst (λ (n : BodyTaken). unless_done n.done (unit_owed t.0) ≡ None) g f))
          by t (inr (none, q, free)) f = (q, free)
