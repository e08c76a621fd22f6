-- Which result an end gives.
use Rattle.std.proofs.Common.{◌≡◌, ℕ, suc, ◌+◌, ◌≤◌, ◌==◌, nat_lt, Bool, true, false, not, cond, ◌&&◌, ◌||◌, List, [], ◌∷◌, ◌++◌, length, Option, Some, None, refl, sym, ◌∙◌, ap, subst, arith}
use Rattle.std.specs.Prelude.{find, is_some, IsSome, Contains}
use Rattle.std.proofs.lemmas.Bool.Decides.{nat_tests}
use Rattle.std.proofs.lemmas.Bool.{and_parts, not-true}
use Rattle.mcal_base.specs.facts.Options.{some_is}
use Rattle.mcal_base.specs.facts.Numbers.{eq_self}
use Rattle.mcal_base.specs.declared.answer_name.AnswerName.{AnswerName}
use Rattle.mcal_base.specs.declared.error_name.ErrorName.{ErrorName}
use Rattle.mcal_base.specs.declared.service.Service.TheVariants as services
use Rattle.mcal_base.specs.det_errors.Rows.{first_error}
use Rattle.run_model.specs.Frame.{state_by}
use Rattle.run_model.specs.Machine.{Happening, Acts, Serves, Starts, Aborts, Moves, Restarts, Outcome}
use Rattle.run_model.specs.World.{World}
use Rattle.spi_machine.proofs.Acts.{act-leaves}
use Rattle.spi_machine.proofs.Begins.{happens-begins}
use Rattle.spi_machine.proofs.Idle.{idle-run}
use Rattle.spi_machine.proofs.SequenceChanges.{found}
use Rattle.spi_machine.specs.Checks.{error_by}
use Rattle.spi_machine.specs.Machine.{spi_machine, acts_by, finds_held, unit_of, run_of}
use Rattle.spi_machine.specs.Pending as lists
use Rattle.spi_machine.specs.Pending.{Pending, is_of, has_further, sequence_result}
use Rattle.spi_machine.specs.Promised.{drops, does_go_on}
use Rattle.spi_machine.specs.Runs.{Occurrence, after_all}
use Rattle.spi_machine.specs.Runs as runs
use Rattle.spi_machine.specs.State.{SpiState, first_state, is_off}
use Rattle.spi_machine.specs.Table.{jobs_of}
use Rattle.spi_machine.specs.Wiring.{is_sync_sequence}
use Rattle.spi_machine.specs.Transfers.{Run}
use Rattle.spi_machine.specs.declared.call.Call.{Call}
use Rattle.spi_machine.specs.declared.call.Call.TheVariants.{Init, DeInit, SetAsyncMode, MainFunctionHandling, Channel, Sequence, Get}
use Rattle.spi_machine.specs.declared.call.SequenceCall.TheVariants.{Cancel}
use Rattle.spi_machine.specs.declared.table.SpiTable.{SpiTable}
use Rattle.machine_laws.specs.serial.Ends.{Sequel, IsLeft, Starting, GoingOn, BeingCancelled, EndsAtOnce, EndsCancelled, EndsFailed, EndsOk, EndsWith}
use Rattle.machine_laws.specs.serial.Faults.{is_unit}
use Rattle.machine_laws.proofs.Sequels.{happens_comes}
use Rattle.board_promises.specs.whole_runs.Runs.{Event, AreAllowed, is_restart, is_of as is_named}
use Rattle.board_promises.specs.whole_runs.SequenceRuns.{SequenceEvent, seen_of, sequence_of_run, is_pending, is_end, is_reset, ends_job, jobs_ended}
use Rattle.board_promises.proofs.EndsOnce.{run_agrees}
use Rattle.board_promises.proofs.JobOrder.{Ordered, ordered_after}
use Rattle.board_promises.proofs.SequenceSteps.{seen, happens_goes}
use Rattle.board_promises.specs.run_laws.Results.{EndsAs, AreEndedAs, AtCancel, AfterCancel, ByFailure, AfterAll, state_of, seen_at, cancels, is_cancel, was_cancelled, serves}
use Rattle.board_promises.proofs.Cancels.{all_marked, seen_is}
use Rattle.board_promises.proofs.WordStories.{story, has_failed, failed_if}

some_out : (o : Option (Outcome SpiState)) → IsSome o → (out : Outcome SpiState) × (o ≡ Some out)
some_out None e = absurd (cc e)
some_out (Some out) e = (out, refl)

-- ---- the entry of a pending sequence

entry : (q : ℕ) (ps : List Pending) → lists.is_pending q ps ≡ true → (p : Pending) × (find (is_of q) ps ≡ Some p)
entry q [] e = absurd (cc e)
entry q (p ∷ ps) e = by (p.sequence == q) e (λ f. entry q ps f) where
  by : (b : Bool) → (b || lists.is_pending q ps) ≡ true → (lists.is_pending q ps ≡ true → (x : Pending) × (find (is_of q) ps ≡ Some x)) → (x : Pending) × (cond b (Some p) (find (is_of q) ps) ≡ Some x)
  by true e more = (p, refl)
  by false e more = more e

no_entry : (q : ℕ) (ps : List Pending) → lists.is_pending q ps ≡ false → find (is_of q) ps ≡ None
no_entry q [] e = refl
no_entry q (p ∷ ps) e = by (p.sequence == q) e (λ f. no_entry q ps f) where
  by : (b : Bool) → (b || lists.is_pending q ps) ≡ false → (lists.is_pending q ps ≡ false → find (is_of q) ps ≡ None) → cond b (Some p) (find (is_of q) ps) ≡ None
  by true e more = absurd (cc e)
  by false e more = more e

among : (q : ℕ) (ps : List Pending) (p : Pending) → find (is_of q) ps ≡ Some p → Contains ps p
among q [] p e = absurd (cc e)
among q (x ∷ ps) p e = by (x.sequence == q) e (λ f. among q ps p f) where
  by : (b : Bool) → cond b (Some x) (find (is_of q) ps) ≡ Some p → (find (is_of q) ps ≡ Some p → Contains ps p) → Contains (x ∷ ps) p
  by true e more = (0, omega arith, some_is x p e)
  by false e more = let c = more e in (suc c.0, omega (arith, c.1), c.2)

-- ---- an uninitialised module has none

abbrev occurrences : List (Event Call) → List Occurrence
occurrences [] = []
occurrences (e ∷ past) = occurrences past ++ record { world = e.world; what = e.what } ∷ []

one_more : (d : SpiTable) (s : SpiState) (xs : List Occurrence) (x : Occurrence) → after_all d s (xs ++ x ∷ []) ≡ runs.state_after d x.world (after_all d s xs) x.what
one_more d s [] x = refl
one_more d s (y ∷ xs) x = one_more d (runs.state_after d y.world s y.what) xs x

same_state : (d : SpiTable) (past : List (Event Call)) → after_all d first_state (occurrences past) ≡ state_of d past
same_state d [] = refl
same_state d (e ∷ past) =
    one_more d first_state (occurrences past) (record { world = e.world; what = e.what }) ∙ ap (λ s. runs.state_after d e.world s e.what) (same_state d past)

idle : (d : SpiTable) (past : List (Event Call)) → is_off (state_of d past).mode ≡ true → (state_of d past).pending ≡ []
idle d past = subst (λ (s : SpiState). is_off s.mode ≡ true → s.pending ≡ []) (same_state d past) (idle-run d (occurrences past))

-- ---- the order of jobs

none_ordered : Ordered [] first_state
none_ordered = record {
  next = λ p has. absurd (none p has);
  started = λ p has. absurd (none p has);
  numbered = λ p has. absurd (none p has);
  order = λ p q has other le. absurd (none p has);
}
  where
    none : (p : Pending) → Contains {X = Pending} [] p → ⊥
    none p (n, within, is) = omega (arith, within)

ordered : (d : SpiTable) (past : List (Event Call)) → AreAllowed (spi_machine d) first_state past → Ordered (seen_of d past) (state_of d past)
ordered d [] allowed = none_ordered
ordered d (e ∷ past) allowed =
    let out = some_out ((spi_machine d).happens e.world (state_of d past) e.what) allowed.0 in
    let after : Ordered (seen d e.what (state_of d past) out.0 ∷ seen_of d past) out.0.state =
    ordered_after d (seen d e.what (state_of d past) out.0) (seen_of d past) (state_of d past) out.0.state (happens_goes d e.world (state_of d past) e.what out.0 out.1) (ordered d past allowed.1) in
    subst (λ (s : SpiState). Ordered (seen_at d e past ∷ seen_of d past) s) (sym (ap (λ o. state_by (state_of d past) o) out.1))
    (subst (λ (v : SequenceEvent). Ordered (v ∷ seen_of d past) out.0.state) (sym (seen_is d e past out.0 out.1)) after)

-- ---- an end

started_off : (a : Bool) → first_error services.SpiInit (not a ∷ false ∷ false ∷ false ∷ false ∷ false ∷ []) ≡ None → a ≡ true
started_off true e = refl
started_off false e = absurd (cc e)

none_some : {A : Type 0} (o : Option Pending) (p : Pending) → o ≡ None → o ≡ Some p → A
none_some o p e f = absurd (cc (sym e ∙ f))

init_ends_none : (d : SpiTable) (s : SpiState) (q : ℕ) (p : Pending) (e : Option ErrorName) → error_by d Init (is_off s.mode) (finds_held d s Init) ≡ e → (is_off s.mode ≡ true → s.pending ≡ []) → find (is_of q) s.pending ≡ Some p → find (is_of q) (acts_by d s Init e).state.pending ≡ None → ⊥
init_ends_none d s q p (Some x) is off there gone = none_some (find (is_of q) s.pending) p gone there
init_ends_none d s q p None is off there gone = none_some (find (is_of q) s.pending) p (ap (λ ps. find (is_of q) ps) (off (started_off (is_off s.mode) is))) there

-- an initialisation ends none, and a reset isn't an end
no_drop : (d : SpiTable) (w : World) (s : SpiState) (h : Happening Call) (out : Outcome SpiState) (q : ℕ) (p : Pending) → (spi_machine d).happens w s h ≡ Some out → (is_off s.mode ≡ true → s.pending ≡ []) → is_restart h ≡ false
    → find (is_of q) s.pending ≡ Some p → find (is_of q) out.state.pending ≡ None → drops h ≡ false
no_drop d w s (Acts Init times) out q p made off reset there gone =
    absurd (init_ends_none d s q p (error_by d Init (is_off s.mode) (finds_held d s Init)) refl off there (ap (λ (y : Outcome SpiState). find (is_of q) y.state.pending) (some_is _ out made) ∙ gone))
no_drop d w s (Acts DeInit times) out q p made off reset there gone = refl
no_drop d w s (Acts (SetAsyncMode m) times) out q p made off reset there gone = refl
no_drop d w s (Acts MainFunctionHandling times) out q p made off reset there gone = refl
no_drop d w s (Acts (Channel c call) times) out q p made off reset there gone = refl
no_drop d w s (Acts (Sequence k call) times) out q p made off reset there gone = refl
no_drop d w s (Acts (Get query) times) out q p made off reset there gone = refl
no_drop d w s (Serves l received) out q p made off reset there gone = refl
no_drop d w s (Starts u made_by received) out q p made off reset there gone = refl
no_drop d w s (Aborts u) out q p made off reset there gone = refl
no_drop d w s (Moves order) out q p made off reset there gone = refl
no_drop d w s (Restarts reason) out q p made off reset there gone = absurd (cc reset)

few : (a b : ℕ) → nat_lt (a + 1) b ≡ false → b ≤ suc a
few a b e = grind (arith, nat_tests)

module _ (d : SpiTable) (e : Event Call) (past : List (Event Call)) (q : ℕ) (out : Outcome SpiState) (p : Pending) (allowed : AreAllowed (spi_machine d) first_state past)
    (made : (spi_machine d).happens e.world (state_of d past) e.what ≡ Some out) (there : find (is_of q) (state_of d past).pending ≡ Some p) (gone : find (is_of q) out.state.pending ≡ None) (plain : is_sync_sequence d q ≡ false) where
  abbrev here : SpiState
  here = state_of d past

  made_at : (h : Happening Call) → e.what ≡ h → (spi_machine d).happens e.world here h ≡ Some out
  made_at h at = ap (λ y. (spi_machine d).happens e.world here y) (sym at) ∙ made

  view_at : (h : Happening Call) → e.what ≡ h → seen_at d e past ≡ seen d h here out
  view_at h at = seen_is d e past out made ∙ ap (λ y. seen d y here out) at

  -- an error ends none
  no_error : (times : ℕ → ℕ) (o : Option ErrorName) → e.what ≡ Acts (Sequence q Cancel) times → out.told.error ≡ o → is_cancel q (Acts (Sequence q Cancel) times) o ≡ true
  no_error times None at is = eq_self q
  no_error times (Some x) at is =
      let same = (act-leaves d e.world here (Sequence q Cancel) times out (made_at (Acts (Sequence q Cancel) times) at) (ap (λ o. is_some o) is)).0 in
      none_some (find (is_of q) here.pending) p (ap (λ (y : SpiState). find (is_of q) y.pending) (sym same) ∙ gone) there

  its_cancel : (times : ℕ → ℕ) → e.what ≡ Acts (Sequence q Cancel) times → cancels q (seen_at d e past) ≡ true
  its_cancel times at = ap (λ (v : SequenceEvent). cancels q v) (view_at (Acts (Sequence q Cancel) times) at) ∙ no_error times out.told.error at refl

  module _ (line received : ℕ) (r : Run) (at : e.what ≡ Serves line received) (own : EndsWith here q line r) where
    running : run_of here (unit_of line) ≡ Some r
    running = ap (λ k. run_of here k) own.on ∙ own.runs

    over : is_some out.begins ≡ false
    over = happens-begins d e.world here (Serves line received) out (made_at (Serves line received) at) ∙ (ap (λ o. does_go_on o) running ∙ own.over)

    its_job_ends : ends_job q (seen_at d e past) ≡ true
    its_job_ends =
        ap (λ (v : SequenceEvent). ends_job q v) (view_at (Serves line received) at)
        ∙ (ap (λ o. is_named q (sequence_of_run o) && not (is_some out.begins)) running
        ∙ (ap (λ n. (n == q) && not (is_some out.begins)) own.its ∙ (ap (λ b. b && not (is_some out.begins)) (eq_self q) ∙ ap not over)))

    serves_its_unit : is_unit own.unit (unit_of line) ≡ true
    serves_its_unit = ap (λ k. is_unit own.unit k) own.on ∙ eq_self own.unit

  marked : p.cancelled ≡ was_cancelled q (seen_of d past)
  marked = all_marked d past allowed q p there

  number : p.sequence ≡ q
  number = (found q p here.pending there).0

  last_place : has_further d p ≡ false → length (jobs_of d q) ≤ suc (jobs_ended q (seen_of d past))
  last_place e =
      let fits = few p.next (length (jobs_of d p.sequence)) e in
      let jobs = ap (λ k. length (jobs_of d k)) number in
      let place = (ordered d past allowed).next p (among q here.pending p there) ∙ ap (λ k. jobs_ended k (seen_of d past)) number in
      omega (arith, fits, jobs, place)

  serves_at : (u : ℕ) (line received : ℕ) → e.what ≡ Serves line received → is_unit u (unit_of line) ≡ true → serves u e.what ≡ true
  serves_at u line received at is = ap (λ h. serves u h) at ∙ is

  by_sequel : (h : Happening Call) (o : Option Pending) (r : AnswerName) → e.what ≡ h → Sequel d here q p h o r → o ≡ None → EndsAs d q e past r
  by_sequel h o r at IsLeft none = absurd (cc none)
  by_sequel h o r at (Starting unit made_by received u next a b c) none = absurd (cc none)
  by_sequel h o r at (GoingOn line received x own a b c) none = absurd (cc none)
  by_sequel h o r at (BeingCancelled times a) none = absurd (cc none)
  by_sequel h o r at (EndsAtOnce times a) none = AtCancel (its_cancel times at)
  by_sequel h o r at (EndsCancelled line received x own a) none = AfterCancel (sym marked ∙ a) (its_job_ends line received x at own)
  by_sequel h o r at (EndsFailed line received x own a b) none =
      let word = story d own.unit past allowed x own.runs in
      ByFailure (sym marked ∙ a) (its_job_ends line received x at own) own.unit (serves_at own.unit line received at (serves_its_unit line received x at own)) word.word (has_failed d own.unit past x word b)
  by_sequel h o r at (EndsOk line received x own a b c) none =
      let word = story d own.unit past allowed x own.runs in
      AfterAll (sym marked ∙ a) (its_job_ends line received x at own) (last_place c) own.unit (serves_at own.unit line received at (serves_its_unit line received x at own)) word.word
      (λ f. absurd (cc (sym b ∙ failed_if d own.unit past x word f)))

  pub ends_as : drops e.what ≡ false → EndsAs d q e past (sequence_result out.state.sequence_results q)
  ends_as drop = by_sequel e.what (find (is_of q) out.state.pending) (sequence_result out.state.sequence_results q) refl (happens_comes d here q p there plain e.world e.what out made drop) gone

ends : (d : SpiTable) (e : Event Call) (past : List (Event Call)) (q : ℕ) → AreAllowed (spi_machine d) first_state (e ∷ past) → is_sync_sequence d q ≡ false → is_end q (seen_at d e past) ≡ true → EndsAs d q e past ((seen_at d e past).has q)
ends d e past q allowed plain end =
    let out = some_out ((spi_machine d).happens e.world (state_of d past) e.what) allowed.0 in
    let after : state_of d (e ∷ past) ≡ out.0.state = ap (λ o. state_by (state_of d past) o) out.1 in
    let parts = and_parts (not (is_reset (seen_at d e past))) (is_pending ((seen_at d e past).had q) && not (is_pending ((seen_at d e past).has q))) end in
    let turns = and_parts (is_pending ((seen_at d e past).had q)) (not (is_pending ((seen_at d e past).has q))) parts.1 in
    let p = entry q (state_of d past).pending (sym ((run_agrees d past allowed.1).plain q plain) ∙ turns.0) in
    let gone : find (is_of q) out.0.state.pending ≡ None =
    ap (λ (s : SpiState). find (is_of q) s.pending) (sym after) ∙ no_entry q (state_of d (e ∷ past)).pending (sym ((run_agrees d (e ∷ past) allowed).plain q plain) ∙ not-true (is_pending ((seen_at d e past).has q)) turns.1) in
    let kept = no_drop d e.world (state_of d past) e.what out.0 q p.0 out.1 (idle d past) (not-true (is_restart e.what) parts.0) p.1 gone in
    subst (λ (s : SpiState). EndsAs d q e past (sequence_result s.sequence_results q)) (sym after) (ends_as d e past q out.0 p.0 allowed.1 out.1 p.1 gone plain kept)

pub all_ended_as : (d : SpiTable) (past : List (Event Call)) → AreAllowed (spi_machine d) first_state past → AreEndedAs d past
all_ended_as d [] allowed = tt
all_ended_as d (e ∷ past) allowed = (λ q plain end. ends d e past q allowed plain end, all_ended_as d past allowed.1)
