-- Spi_GetJobResult, Spi_GetSequenceResult and Spi_GetHWUnitStatus: that they are right.
-- From words.WordsToState, words.JobPlaces, services.QuerySteps, hardware.StableUnderHardware, words.Cases and 5 more.
-- Used by services.ModuleRight, spi_driver: bookkeeping.Lawful, services.CancelRight and 7 more.
use Rattle.std.proofs.Common.{◌≡◌, ◌+◌, ◌-◌, ◌<◌, ◌≤◌, ◌==◌, ◌&&◌, ◌||◌, [], ◌++◌, ◌∙◌, if◌then◌else◌}
use Rattle.spi_sequences.specs.Terms
use Terms.{Act, acts_by, all_of, AnswerName, answers, ap, AreLong, arith, asks_no, AssertedAt, begins_word, BodyTaken}
use Terms.{Bool, Call, Called, cases, Chip, chip_after, Cleans, Contains, Done, entries_begun, error_by, false, FitsSpi}
use Terms.{FrameHistory, fresh_history, Get, get_or_default, Going, has_job, HwUnitStatus, is_closed, is_left, is_of}
use Terms.{is_off, is_on_unit, is_pending, is_reset_service, is_running, is_shared, is_sync_unit, Is_this_frame}
use Terms.{IsThisFrame, Job, job_of, job_result, job_result_in, job_word, JobPlace, JobQuery, JobResult, jobs_list}
use Terms.{jobs_of, KeepsMask, length, List, list_any, Load, LongBodies, MakesTo, may, missed_after, Move, moved, named}
use Terms.{nat_le, nat_lt, nat_tests, never_clean, next_in, next_job, NEXTS, None, Nothing, Option, option_as, or_parts}
use Terms.{Order, Origin, outcome, PENDING, Pending, PendingWrites, place_in, PointAssertion, Query, query_answer}
use Terms.{QueryBody, Read, refl, Reservations, resets_chip, Right, run_in, running_word, RunsBy, sequence_result_in}
use Terms.{sequence_word, SequenceResult, service_of, SetupEb, shares_job, Shortens, ShortensTo, slice_index_or, Some}
use Terms.{spi_bare, spi_basis, spi_machine, spi_owing, SpiBusy, SpiIdle, SpiJobPending, SpiJobQueued, SpiRepresents}
use Terms.{SpiState, SpiTable, STATE, Store, subst, sym, SyncTransmit, true, TurnsMask, TurnsTo, Under, value_of, view}
use Terms.{whether, whether_as, Windows, windows, Within, word_of, Works, World, Write, ℕ}
use Rattle.mcal_base.specs.declared.moves.Event.{Event}
use Rattle.service_outline.specs.DeferredWrites.{or_owed, spot_or}
use Rattle.spi_sequences.specs.laws.bookkeeping.RefinementRight.{frame_may}
use Rattle.spi_sequences.specs.laws.hardware.StableUnderHardware.{begun_later, mode_later, pending_later, pointwise}
use Rattle.spi_sequences.specs.laws.{hardware.StableUnderHardware.{running_later}, services.QuerySteps.{after_look}}
use Rattle.spi_sequences.specs.laws.services.QuerySteps.{answers_by, by_place, is_running_job, job_looked, job_move}
use Rattle.spi_sequences.specs.laws.services.QuerySteps.{job_took, query_takes, query_work}
use Rattle.spi_sequences.specs.laws.{services.SetUpRight.{may_store}, words.JobPlaces.{all_carried, all_cases, any_in}}
use Rattle.spi_sequences.specs.laws.words.JobPlaces.{any_some, at_left, last_below, one_place, place_found}
use Rattle.spi_sequences.specs.laws.{words.JobPlaces.{place_missing}, words.WordsOfModule.{in_list, own_first}}
use Rattle.spi_sequences.specs.laws.words.WordsToState.{carried_going, entry_of, going_asked, going_next, going_runs}
use Rattle.spi_sequences.specs.laws.words.WordsToState.{is_below, is_number, is_past, is_there, job_said, next_says}
use Rattle.spi_sequences.specs.laws.words.WordsToState.{none_any, not_true, one_by_job, one_pending, one_unit}
use Rattle.spi_sequences.specs.laws.words.WordsToState.{pending_word, running_by, running_says, runs_on, same_number}
use Rattle.spi_sequences.specs.laws.words.WordsToState.{sequence_word_says, unit_word_says}
use Rattle.spi_machine.specs.declared.call.Call.TheVariants.{Channel, Sequence}
use Rattle.spi_sequences.specs.declared.service.query.JobPlace.TheVariants as place
use Rattle.spi_sequences.specs.declared.service.query.QueryBody.TheVariants as query

-- ---- acts of queries

-- no call asks for a reset
pub asks_none : (c : Call) → is_reset_service (service_of c) ≡ false
asks_none (Channel c (SetupEb p q n)) = refl
asks_none (Sequence q SyncTransmit) = refl
asks_none (Get (HwUnitStatus u)) = refl
asks_none _ = refl

-- a query acts at a load with its answer
pub answers_now : {Body : Type 0} (d : SpiTable) (b : LongBodies (spi_basis d) Body) (below : Reservations) (chip : Chip) (w : World) (s : SpiState) (x : Query) (n value y : ℕ) (m : ℕ → Bool) (clean : Bool) (k : Body) (name : AnswerName)
    → error_by d (Get x) (is_off s.mode) false ≡ None → name ≡ query_answer s x → SpiRepresents d below chip w s
    → Works (spi_basis d) b below chip chip w s (Called (Get x)) (Load n) clean value y fresh_history m k (Some Act) (Some (record { answer = named name; owed = Nothing }))
answers_now d b below chip w s x n value y m clean k name clear same h = record {
  may = refl;
  stands = tt;
  state = s;
  told = answers (named (query_answer s x));
  begins = None;
  is = ap (λ e. Some (acts_by d s (Get x) e)) clear;
  sends = tt;
  acts = tt;
  reset = sym (asks_no (spi_machine d) (Get x) (Some Act) (Some (outcome s (answers (named (query_answer s x))))) (asks_none (Get x)));
  next = (h, record { may = (ap (λ a. Some (named a)) (sym same), refl); served = false; owed = refl; shown = λ e. absurd (cc); report = refl });
}

-- ---- places

-- the call finds no error, and the module is initialised
abbrev pub IsAsking : SpiTable → (off : Bool) → Query → Origin Call → FrameHistory → Type 0
IsAsking d off x o t = IsThisFrame (Called (Get x)) fresh_history o t × (error_by d (Get x) off false ≡ None) × (off ≡ false)

-- the frame asks for a configured job
pub record IsJobQuery (d : SpiTable) (r : JobQuery) (j : ℕ) : Type 0 where
  pub job : Job
  pub known : job_of d j ≡ Some job
  pub table : r.table ≡ d
  pub number : r.job ≡ j
  pub unit : r.unit ≡ job.unit

-- a sequence runs a job, of those that are pending and of those that units carry out
abbrev pub works_by : (running : ℕ → Bool) → (begun : ℕ → Option Pending) → (sequence : ℕ) → Bool
works_by running begun q = running q || list_any (is_of q) (entries_begun (begun 0) ++ entries_begun (begun 1))

-- no sequence runs it, and none of these has it left
abbrev pub RunsNone : SpiTable → List Pending → (running : ℕ → Bool) → (job : ℕ) → Type 0
RunsNone d ps running j = (p : Pending) → Contains ps p → next_job d p ≡ j → running p.sequence ≡ false

abbrev pub LeftNone : SpiTable → List Pending → (job sequence : ℕ) → Type 0
LeftNone d ps j q = (p : Pending) → Contains ps p → p.sequence < q → is_left d j p ≡ false

-- one of them has the job at this place
abbrev pub HasPlace : SpiTable → List Pending → (job sequence place : ℕ) → Type 0
HasPlace d ps j q i = (p : Pending) × Contains ps p × (p.sequence ≡ q) × (i < length (jobs_of d q)) × (slice_index_or (jobs_of d q) i 0 ≡ j)

abbrev pub JobAt : SpiTable → List Pending → (running : ℕ → Bool) → (job : ℕ) → JobPlace → Type 0
JobAt d ps running j place.Running = Unit {0}
JobAt d ps running j (place.Look q) = (q < 8) × RunsNone d ps running j × LeftNone d ps j q
JobAt d ps running j (place.Next q i) = (q < 8) × RunsNone d ps running j × HasPlace d ps j q i
JobAt d ps running j place.Result = list_any (is_left d j) ps ≡ false

abbrev pub JobStands : SpiTable → (pending : List Pending) → (begun : ℕ → Option Pending) → (running : ℕ → Bool) → (job : ℕ) → JobPlace → Type 0
JobStands d ps begun running j p = JobAt d (ps ++ (entries_begun (begun 0) ++ entries_begun (begun 1))) (works_by running begun) j p

abbrev pub query_place : SpiTable → QueryBody → SpiState → Origin Call → FrameHistory → Type 0
query_place d (query.Job r) s o t = (j : ℕ) × IsAsking d (is_off s.mode) (JobResult j) o t × IsJobQuery d r j × JobStands d s.pending (view s).begun (is_running s) j r.place
query_place d (query.Sequence q) s o t = (n : ℕ) × IsAsking d (is_off s.mode) (SequenceResult n) o t × (n < 8) × (q ≡ n)
query_place d (query.Unit u) s o t = (n : ℕ) × IsAsking d (is_off s.mode) (HwUnitStatus n) o t × (n < 2) × (u ≡ n)

abbrev pub query_spot : (d : SpiTable) → QueryBody → PointAssertion (spi_basis d)
query_spot d k = Within (Under tt) [] (λ below f w s o t. query_place d k s o t)

abbrev pub job_fuel : JobPlace → ℕ
job_fuel place.Running = 12
job_fuel (place.Look q) = 3 + (8 - q)
job_fuel (place.Next q i) = 2
job_fuel place.Result = 1

abbrev pub query_fuel : QueryBody → ℕ
query_fuel (query.Job r) = job_fuel r.place
query_fuel (query.Sequence q) = 1
query_fuel (query.Unit u) = 1

abbrev pub query_bodies : (d : SpiTable) → LongBodies (spi_basis d) QueryBody
query_bodies d = record { work_of = query_work; takes = query_takes; fuel = query_fuel; room = query_fuel; clean = λ k. false; assertion = query_spot d }

-- ---- the job's steps

module _ (d : SpiTable) (fits : FitsSpi d) (below : Reservations) (chip : Chip) (w : World) (s : SpiState) (h : SpiRepresents d below chip w s) (j : ℕ) (k : Job) (known : job_of d j ≡ Some k) (on : is_off s.mode ≡ false) where
  small : j < 16
  small = let lt = in_list d.jobs j k known in omega (arith, lt, fits.rows.1)

  on_unit : is_on_unit k.unit (job_of d j) ≡ true
  on_unit = ap (is_on_unit k.unit) known ∙ same_number k.unit

  abbrev under_way : List Pending
  under_way = all_of (view s)

  abbrev works : ℕ → Bool
  works = works_by (is_running s) (view s).begun

  abbrev carried : List Pending
  carried = entries_begun ((view s).begun 0) ++ entries_begun ((view s).begun 1)

  -- where its unit runs another job or none, no sequence runs it
  runs_none : ((g : Going) → h.going k.unit ≡ Some g → next_job d g.pending ≡ j → ⊥) → RunsNone d under_way works j
  runs_none other p there e = not_true (works p.sequence) (λ f. whether (is_running s p.sequence)
      (λ i. let r = runs_on d fits below chip w s h p.sequence i in on_unit_of r.unit r.job r.few r.is r.of)
      (λ i.
      let (x, one, of) = any_some (is_of p.sequence) carried (ap (λ b. b || list_any (is_of p.sequence) carried) (sym i) ∙ f) in
      cases (all_cases (record (view s) { pending = [] }) x one)
      (λ none. let lt = none.1 in omega (arith, lt))
      (λ (u, begun).
      let c = carried_going d fits below chip w s h u x begun in
      on_unit_of u c.0 (h.sound.carries.unit u x begun).0 c.1 (ap (λ z. z.sequence) c.2 ∙ is_number x.sequence p.sequence of))))
    where
      -- the sequence's job on a unit is it
      on_unit_of : (u : ℕ) (g : Going) → u < 2 → h.going u ≡ Some g → g.pending.sequence ≡ p.sequence → ⊥
      on_unit_of u g few is of =
          let next = going_next d fits below chip w s h u g few is in
          let same : g.pending ≡ p = one_pending d fits below chip w s h g.pending p next.0 there of in
          let job : next_job d g.pending ≡ j = ap (next_job d) same ∙ e in
          let unit : u ≡ k.unit = one_unit d u k.unit j (sym (ap (λ n. is_on_unit u (job_of d n)) job) ∙ next.2) on_unit in
          other g (ap h.going (sym unit) ∙ is) job

  -- it waits at a place that is left
  queued : (p : Pending) (i : ℕ) → Contains under_way p → RunsNone d under_way works j → p.next ≤ i → i < length (jobs_of d p.sequence) → slice_index_or (jobs_of d p.sequence) i 0 ≡ j → job_result s.job_results j ≡ SpiJobQueued
  queued p i there none le lt at = ap (job_result s.job_results) (sym at) ∙ cases (all_cases (view s) p there)
      (λ is. h.sound.results.queued p i is le lt ∙ whether_as (i == p.next) (λ q. (if q && is_running s p.sequence then SpiJobPending else SpiJobQueued) ≡ SpiJobQueued)
      (λ e. ap (λ b. if b then SpiJobPending else SpiJobQueued) (rests e).0)
      (λ e. refl))
      (λ (u, b). h.sound.carries.queued u p i b le lt ∙ whether_as (i == p.next) (λ q. (if q then SpiJobPending else SpiJobQueued) ≡ SpiJobQueued)
      (λ e. absurd (let f = sym (rests e).1 ∙ any_in (is_of p.sequence) carried p (all_carried (record (view s) { pending = [] }) u p (h.sound.carries.unit u p b).0 b) (same_number p.sequence) in cc))
      (λ e. refl))
    where
      -- a sequence whose next job it is doesn't run it
      rests : (i == p.next) ≡ true → (is_running s p.sequence ≡ false) × (list_any (is_of p.sequence) carried ≡ false)
      rests e = or_parts (is_running s p.sequence) (list_any (is_of p.sequence) carried) (none p there (ap (λ n. slice_index_or (jobs_of d p.sequence) n 0) (sym (is_number i p.next e)) ∙ at))

  -- two that have it are one
  shares_it : (a b : Pending) → Contains (jobs_of d a.sequence) j → Contains (jobs_of d b.sequence) j → shares_job d a.sequence b.sequence ≡ true
  shares_it a b there also = any_in (has_job d a.sequence) (jobs_of d b.sequence) j also (any_in (λ n. n == j) (jobs_of d a.sequence) j there (same_number j))

  has_it : (q i : ℕ) → i < length (jobs_of d q) → slice_index_or (jobs_of d q) i 0 ≡ j → Contains (jobs_of d q) j
  has_it q i lt at = (i, lt, get_or_default (jobs_of d q) i j 0 lt ∙ at)

  left_has : (p : Pending) → is_left d j p ≡ true → Contains (jobs_of d p.sequence) j
  left_has p e = let l = at_left (jobs_of d p.sequence) p.next j e in has_it p.sequence l.place l.within l.is

  -- a sequence that has it no longer, and so no other one has it
  left_none : (p : Pending) (i : ℕ) → Contains under_way p → i < p.next → i < length (jobs_of d p.sequence) → slice_index_or (jobs_of d p.sequence) i 0 ≡ j → list_any (is_left d j) under_way ≡ false
  left_none p i there past lt at = none_any (is_left d j) under_way (λ x also. not_true (is_left d j x) (λ e.
      let same : x ≡ p = one_by_job d fits below chip w s h x p also there (shares_it x p (left_has x e) (has_it p.sequence i lt at)) (shares_it p x (has_it p.sequence i lt at) (left_has x e)) in
      let l = at_left (jobs_of d p.sequence) p.next j (subst (λ z. is_left d j z ≡ true) same e) in
      let one : l.place ≡ i = one_place d fits p.sequence l.place i l.within lt (l.is ∙ sym at) in
      let from = l.from in
      omega (arith, from, one, past)))

  module _ (r : JobQuery) (is : IsJobQuery d r j) (clear : error_by d (Get (JobResult j)) (is_off s.mode) false ≡ None) (y : ℕ) (m : ℕ → Bool) where
    -- what a step at a place has to make
    abbrev JobMakes : (n value : ℕ) → JobPlace × Option AnswerName → Type 0
    JobMakes n value p = Works (spi_basis d) (query_bodies d) below chip chip w s (Called (Get (JobResult j))) (Load n) false value y fresh_history m (query.Job (record r { place = p.0 })) (answers_by p.1).event (answers_by p.1).done

    goes_to : (n value : ℕ) (p : JobPlace) → JobAt d under_way works j p → JobMakes n value (p, None)
    goes_to n value p at = (h, (j, (Is_this_frame, clear, on), record { job = is.job; known = is.known; table = is.table; number = is.number; unit = is.unit }, at))

    tells : (n value : ℕ) (p : JobPlace) (name : AnswerName) → name ≡ job_result s.job_results j → JobMakes n value (p, Some name)
    tells n value p name e = answers_now d (query_bodies d) below chip w s (JobResult j) n value y m false (query.Job (record r { place = p })) name clear e h

    unit_is : r.unit ≡ k.unit
    unit_is = let same : Some is.job ≡ Some k = sym is.known ∙ known in let one : is.job ≡ k = cc in is.unit ∙ ap (λ x. x.unit) one

    -- the unit's word
    runs_by : (n value : ℕ) (g : Option Going) → h.going k.unit ≡ g → JobMakes n value (if is_running_job r.job (running_by d g) then (place.Running, Some SpiJobPending) else (place.Look 0, None))
    runs_by n value None e = goes_to n value (place.Look 0) (omega arith, runs_none (λ g f i. let c = sym e ∙ f in cc), λ p there lt. absurd (omega (arith, lt)))
    runs_by n value (Some g) e =
        let few = (fits.jobs j k known).unit in
        let next = going_next d fits below chip w s h k.unit g few e in
        let entry = h.sound.entries g.pending next.0 in
        let runs : job_result s.job_results (next_job d g.pending) ≡ SpiJobPending = whether (is_sync_unit d k.unit)
        (λ sync.
        h.sound.carries.queued k.unit g.pending g.pending.next (subst (λ q. RunsBy q (view s) k.unit g.pending) sync next.1) (omega arith) entry.next
        ∙ ap (λ b. if b then SpiJobPending else SpiJobQueued) (same_number g.pending.next))
        (λ async.
        h.sound.results.queued g.pending g.pending.next (going_asked d fits below chip w s h k.unit g few async e).0 (omega arith) entry.next
        ∙ ap (λ b. if b && is_running s g.pending.sequence then SpiJobPending else SpiJobQueued) (same_number g.pending.next)
        ∙ ap (λ b. if b then SpiJobPending else SpiJobQueued) (going_runs d fits below chip w s h k.unit g few async e)) in
        whether_as (next_job d g.pending == r.job) (λ b. JobMakes n value (if b then (place.Running, Some SpiJobPending) else (place.Look 0, None)))
        (λ f. tells n value place.Running SpiJobPending (sym (ap (job_result s.job_results) (sym (is_number (next_job d g.pending) r.job f ∙ is.number)) ∙ runs)))
        (λ f. goes_to n value (place.Look 0) (
          omega arith,
          runs_none (λ g1 i same. let one : g ≡ g1 = let c = sym e ∙ i in cc in let job : next_job d g.pending ≡ r.job = ap (λ x. next_job d x.pending) one ∙ same ∙ sym is.number in let no = sym f ∙ ap (λ n. n == r.job) job ∙ same_number r.job in cc),
          λ p there lt. absurd (omega (arith, lt)),
        ))

    -- the place after a look at a sequence that doesn't have it left
    looks_on : (n value q : ℕ) → q < 8 → RunsNone d under_way works j → LeftNone d under_way j q → ((p : Pending) → Contains under_way p → p.sequence ≡ q → is_left d j p ≡ false) → JobMakes n value (after_look q, None)
    looks_on n value q lt none left this = whether_as (nat_lt q 7) (λ b. JobMakes n value (if b then place.Look (q + 1) else place.Result, None))
        (λ f. goes_to n value (place.Look (q + 1)) (let less = is_below q 7 f in omega (arith, less), none, upto))
        (λ f. goes_to n value place.Result (none_any (is_left d j) under_way (λ p there. upto p there (let few = (h.sound.entries p there).number in let past = is_past q 7 f in omega (arith, few, past, lt)))))
      where
        upto : LeftNone d under_way j (q + 1)
        upto p there less = whether (nat_lt p.sequence q)
            (λ f. left p there (is_below p.sequence q f))
            (λ f. this p there (last_below p.sequence q less f))

    looks : (n value q : ℕ) → q < 8 → RunsNone d under_way works j → LeftNone d under_way j q → (b : Bool) → is_pending q under_way ≡ b → JobMakes n value (job_looked r q b, None)
    looks n value q lt none left false e = looks_on n value q lt none left (λ p there same. absurd (let g = subst (λ k. is_pending k under_way ≡ true) same (is_there d fits below chip w s h under_way p there) in let c = sym e ∙ g in cc))
    looks n value q lt none left true e =
        let (p, there, of) = entry_of d fits below chip w s h under_way q e in
        let same_place = ap (λ x. place_in (jobs_list x q) r.job) is.table ∙ ap (λ n. place_in (jobs_list d q) n) is.number in
        option_as (place_in (jobs_list r.table q) r.job) (λ o. JobMakes n value (by_place q o, None))
        (λ f. looks_on n value q lt none left (λ x also same. not_true (is_left d j x) (λ l. let a = at_left (jobs_of d x.sequence) x.next j l in place_missing d fits q j a.place (sym same_place ∙ f) (subst (λ i. a.place < length (jobs_of d i)) same a.within) (subst (λ i. slice_index_or (jobs_of d i) a.place 0 ≡ j) same a.is))))
        (λ i f. let found = place_found d fits q j i (sym same_place ∙ f) in goes_to n value (place.Next q i) (lt, none, (p, there, of, found.0, found.1)))

    nexts : (n value q i v : ℕ) → RunsNone d under_way works j → (p : Pending) → Contains under_way p → p.sequence ≡ q → i < length (jobs_of d q) → slice_index_or (jobs_of d q) i 0 ≡ j → v ≡ p.next
        → JobMakes n value (if nat_le v i then (place.Next q i, Some SpiJobQueued) else (place.Result, None))
    nexts n value q i v none p there of lt at e =
        let within : i < length (jobs_of d p.sequence) = subst (λ k. i < length (jobs_of d k)) (sym of) lt in
        let is_at : slice_index_or (jobs_of d p.sequence) i 0 ≡ j = subst (λ k. slice_index_or (jobs_of d k) i 0 ≡ j) (sym of) at in
        whether_as (nat_le v i) (λ b. JobMakes n value (if b then (place.Next q i, Some SpiJobQueued) else (place.Result, None)))
        (λ f. tells n value (place.Next q i) SpiJobQueued (sym (queued p i there none (let l = le v i f in omega (arith, l, e)) within is_at)))
        (λ f. goes_to n value place.Result (left_none p i there (let l = gt v i f in omega (arith, l, e)) within is_at))
      where
        le : (a b : ℕ) → nat_le a b ≡ true → a ≤ b
        le a b f = grind (arith, nat_tests)

        gt : (a b : ℕ) → nat_le a b ≡ false → b < a
        gt a b f = grind (arith, nat_tests)

    -- a step by the place
    job_right : (p : JobPlace) → JobAt d under_way works j p → MakesTo (spi_basis d) (query_bodies d) below chip (chip_after chip (job_move r p) y) w s (Called (Get (JobResult j))) (job_move r p) false (value_of chip (job_move r p)) y fresh_history m
        (query.Job (record r { place = (job_took r p (value_of chip (job_move r p))).0 }), answers_by (job_took r p (value_of chip (job_move r p))).1)
    job_right place.Running at =
        subst (λ o. JobMakes (running_word r.unit) (word_of chip (running_word r.unit)) (if is_running_job r.job o then (place.Running, Some SpiJobPending) else (place.Look 0, None)))
        (sym (ap (λ u. run_in (word_of chip (running_word u))) unit_is ∙ running_says d fits below chip w s h on k.unit (fits.jobs j k known).unit (h.going k.unit) refl))
        (runs_by (running_word r.unit) (word_of chip (running_word r.unit)) (h.going k.unit) refl)
    job_right (place.Look q) (lt, none, left) =
        subst (λ b. JobMakes (sequence_word q) (word_of chip (sequence_word q)) (job_looked r q b, None)) (sym (pending_word d fits below chip w s h on q lt))
        (looks (sequence_word q) (word_of chip (sequence_word q)) q lt none left (is_pending q under_way) refl)
    job_right (place.Next q i) (lt, none, (p, there, of, few, at)) =
        nexts NEXTS (word_of chip NEXTS) q i (next_in (word_of chip NEXTS) q) none p there of few at (ap (λ k. next_in (word_of chip NEXTS) k) (sym of) ∙ next_says d fits below chip w s h on p there)
    job_right place.Result none =
        tells (job_word r.job) (word_of chip (job_word r.job)) place.Result (job_result_in (word_of chip (job_word r.job)))
        (ap (λ n. job_result_in (word_of chip (job_word n))) is.number ∙ ap job_result_in ((h.words.on on).sequences.jobs j small none) ∙ job_said (job_result s.job_results j) (h.sound.results.last j none))

-- ---- the bodies

-- each step leaves fewer
job_less : (r : JobQuery) (p : JobPlace) (x : ℕ) → ShortensTo (job_fuel p) (job_fuel (job_took r p x).0) (answers_by (job_took r p x).1).done
job_less r place.Running x =
    elim (is_running_job r.job (run_in x)) as (λ q. let t : JobPlace × Option AnswerName = if q then (place.Running, Some SpiJobPending) else (place.Look 0, None) in ShortensTo 12 (job_fuel t.0) (answers_by t.1).done)
    [ true ↦ omega arith | false ↦ omega arith ]
job_less r (place.Look q) x = looked_less (x == PENDING)
  where
    after : (b : Bool) → nat_lt q 7 ≡ b → job_fuel (if b then place.Look (q + 1) else place.Result) < 3 + (8 - q)
    after true e = let lt : q < 7 = is_below q 7 e in omega (arith, lt)
    after false e = omega arith

    looked_less : (b : Bool) → job_fuel (job_looked r q b) < 3 + (8 - q)
    looked_less true =
        elim (place_in (jobs_list r.table q) r.job) as (λ o. job_fuel (by_place q o) < 3 + (8 - q))
        [ None ↦ after (nat_lt q 7) refl | Some i ↦ omega arith ]
    looked_less false = after (nat_lt q 7) refl
job_less r (place.Next q i) x =
    elim (nat_le (next_in x q) i) as (λ b. let t : JobPlace × Option AnswerName = if b then (place.Next q i, Some SpiJobQueued) else (place.Result, None) in ShortensTo 2 (job_fuel t.0) (answers_by t.1).done)
    [ true ↦ omega arith | false ↦ omega arith ]
job_less r place.Result x = omega arith

query_less : (k : QueryBody) (x : ℕ) → Shortens query_fuel k (query_takes k x)
query_less (query.Job r) x = job_less r r.place x
query_less _ x = omega arith

-- a body whose room is its fuel stays in its window while it names registers and words
abbrev pub IsCalm : Move → Type 0
IsCalm made = (is_shared made ≡ false) × (resets_chip made ≡ false) × (begins_word made ≡ false)

pub in_window : (bound room later : ℕ) (made : Move) (e : Option Event) (left : Option Done) → is_shared made ≡ false → ShortensTo room later left → TurnsMask bound true true room later made e left
in_window bound room later made e left plain less = by made plain left less
  where
    kept : (left : Option Done) → ShortensTo room later left → KeepsMask true true room later e left
    kept None less = (refl, less)
    kept (Some n) less = less

    by : (made : Move) → is_shared made ≡ false → (left : Option Done) → ShortensTo room later left → TurnsMask bound true true room later made e left
    by (Read r) plain left less = kept left less
    by (Write r v) plain left less = kept left less
    by (Load k) plain left less = kept left less
    by (Store k v) plain left less = kept left less
    by _ plain left less = absurd (cc)

-- and so do bodies that owe moves, wherever they owe none
module _ {About Body : Type 0} (d : SpiTable) (v : Windows (spi_bare d) PendingWrites About Body (spi_owing d)) where
  owed_closed : ((k : Body) → is_closed (v.bodies.assertion k) ≡ true) → (k : Body) → is_closed ((windows v).assertion k) ≡ true
  owed_closed closed k =
      elim (v.owes k) as (λ o. is_closed (spot_or v o (v.bodies.assertion k)) ≡ true)
      [ None ↦ closed k | Some x ↦ refl ]

  pub owed_turns : ((k : Body) → is_closed (v.bodies.assertion k) ≡ true) → (k : Body) (p : Body × BodyTaken) → is_shared (v.bodies.work_of k) ≡ false → ShortensTo ((windows v).room k) ((windows v).room p.0) p.1.done → TurnsTo (windows v) 32 k p
  owed_turns closed k p plain less =
      subst (λ q. TurnsMask 32 q (is_closed ((windows v).assertion p.0)) ((windows v).room k) ((windows v).room p.0) (v.bodies.work_of k) p.1.event p.1.done) (sym (owed_closed closed k))
      (subst (λ q. TurnsMask 32 true q ((windows v).room k) ((windows v).room p.0) (v.bodies.work_of k) p.1.event p.1.done) (sym (owed_closed closed p.0))
      (in_window 32 ((windows v).room k) ((windows v).room p.0) (v.bodies.work_of k) p.1.event p.1.done plain less))

  pub owed_cleans : ((k : Body) → v.bodies.clean k ≡ false) → (made : Move) (k : Body) (p : Body × BodyTaken) → Cleans (windows v).clean made k p
  owed_cleans none made k p = subst (λ c. Cleans c made k p) (sym (pointwise (windows v).clean (λ k. false) unclean)) (never_clean made k p)
    where
      unclean : (k : Body) → (windows v).clean k ≡ false
      unclean k =
          elim (v.owes k) as (λ o. or_owed (λ x. false) o (v.bodies.clean k) ≡ false)
          [ None ↦ none k | Some x ↦ refl ]

query_plain : (k : QueryBody) → IsCalm (query_work k)
query_plain (query.Job r) =
    elim r.place as (λ p. IsCalm (job_move r p))
    [ place.Running ↦ (refl, refl, refl) | _ ↦ (refl, refl, refl) ]
query_plain _ = (refl, refl, refl)

module _ (d : SpiTable) (fits : FitsSpi d) where
  query_turns : (k : QueryBody) (x : ℕ) → TurnsTo (query_bodies d) 32 k (query_takes k x)
  query_turns k x = let p = query_takes k x in in_window 32 (query_fuel k) (query_fuel p.0) (query_work k) p.1.event p.1.done (query_plain k).0 (query_less k x)

  pub may_first : (k : ℕ) → STATE ≤ k → k < STATE + 64 → may d (Load k) ≡ true
  may_first k low high = may_store d fits k 0 (own_first d k low high)

  query_own : (below : Reservations) (chip : Chip) (w : World) (s : SpiState) (k : QueryBody) (o : Origin Call) (t : FrameHistory) → AssertedAt (spi_basis d) (query_bodies d) below chip w s k o t → is_shared (query_work k) || may d (query_work k) ≡ true
  query_own below chip w s (query.Job r) o t (h, (j, asks, is, at)) = job_own r.place at
    where
      job_own : (p : JobPlace) → JobStands d s.pending (view s).begun (is_running s) j p → is_shared (job_move r p) || may d (job_move r p) ≡ true
      job_own place.Running i =
          let unit : r.unit < 2 = subst (λ n. n < 2) (sym is.unit) (fits.jobs j is.job is.known).unit in
          may_first (running_word r.unit) (omega arith) (omega (arith, unit))
      job_own (place.Look q) i = may_first (sequence_word q) (omega arith) (let lt = i.0 in omega (arith, lt))
      job_own (place.Next q n) i = may_first NEXTS (omega arith) (omega arith)
      job_own place.Result i =
          let small : r.job < 16 = let lt = in_list d.jobs j is.job is.known in let n = is.number in omega (arith, lt, n, fits.rows.1) in
          may_first (job_word r.job) (omega arith) (omega (arith, small))
  query_own below chip w s (query.Sequence q) o t (h, (n, asks, lt, at)) = may_first (sequence_word q) (omega arith) (omega (arith, lt, at))
  query_own below chip w s (query.Unit u) o t (h, (n, asks, lt, at)) = may_first (running_word u) (omega arith) (omega (arith, lt, at))

  query_steps : (below : Reservations) (chip : Chip) (w : World) (s : SpiState) (k : QueryBody) (o : Origin Call) (y : ℕ) (t : FrameHistory) (m : ℕ → Bool) → AssertedAt (spi_basis d) (query_bodies d) below chip w s k o t → Right (spi_basis d) (query_bodies d) below chip w s k o y t m
  query_steps below chip w s (query.Job r) o y t m (h, (j, (Is_this_frame, clear, on), is, at)) = job_right d fits below chip w s h j is.job is.known on r is clear y (missed_after (spi_machine d) w s m) r.place at
  query_steps below chip w s (query.Sequence q) o y t m (h, (n, (Is_this_frame, clear, on), lt, at)) =
      answers_now d (query_bodies d) below chip w s (SequenceResult n) (sequence_word q) (word_of chip (sequence_word q)) y (missed_after (spi_machine d) w s m) false (query.Sequence q) (sequence_result_in (word_of chip (sequence_word q))) clear (ap (λ i. sequence_result_in (word_of chip (sequence_word i))) at ∙ sequence_word_says d fits below chip w s h on n lt) h
  query_steps below chip w s (query.Unit u) o y t m (h, (n, (Is_this_frame, clear, on), lt, at)) =
      answers_now d (query_bodies d) below chip w s (HwUnitStatus n) (running_word u) (word_of chip (running_word u)) y (missed_after (spi_machine d) w s m) false (query.Unit u) (if word_of chip (running_word u) == 0 then SpiIdle else SpiBusy) clear (ap (λ i. if word_of chip (running_word i) == 0 then SpiIdle else SpiBusy) at ∙ unit_word_says d fits below chip w s h on n lt) h

  asks_later : (w : World) (s : SpiState) (order : Order) (x : Query) (o : Origin Call) (t : FrameHistory) → IsAsking d (is_off s.mode) x o t → IsAsking d (is_off (moved d w s order).mode) x o t
  asks_later w s order x o t h = subst (λ mode. IsAsking d (is_off mode) x o t) (sym (mode_later d w s order)) h

  query_stays : (w : World) (s : SpiState) (order : Order) (k : QueryBody) (o : Origin Call) (t : FrameHistory) → query_place d k s o t → query_place d k (moved d w s order) o t
  query_stays w s order (query.Job r) o t (j, asks, is, at) = (j, asks_later w s order (JobResult j) o t asks, is, subst (λ ps. JobStands d ps (view (moved d w s order)).begun (is_running (moved d w s order)) j r.place) (sym (pending_later d w s order)) (subst (λ f. JobStands d s.pending (view (moved d w s order)).begun f j r.place) (sym (running_later d w s order)) (subst (λ b. JobStands d s.pending b (is_running s) j r.place) (sym (begun_later d w s order)) at)))
  query_stays w s order (query.Sequence q) o t (n, asks, lt, at) = (n, asks_later w s order (SequenceResult n) o t asks, lt, at)
  query_stays w s order (query.Unit u) o t (n, asks, lt, at) = (n, asks_later w s order (HwUnitStatus n) o t asks, lt, at)

  pub query_right : AreLong (spi_basis d) (query_bodies d)
  query_right = record {
    own = λ below chip w s k o t h. frame_may d o (query_work k) (query_own below chip w s k o t h);
    turns = λ below chip w s k o t h. query_turns k (value_of chip (query_work k));
    steps = λ below chip w s k o y t m come few h. query_steps below chip w s k o y t m h;
    later = λ below chip w s order k o t come shut h. query_stays w s order k o t h.1;
    calm = λ below chip w s k o t h e. ((query_plain k).1, (query_plain k).2);
    shortens = query_less;
    cleans = λ k x. never_clean (query_work k) k (query_takes k x);
  }
