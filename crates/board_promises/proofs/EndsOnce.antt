-- One end for each request of a sequence.
use Rattle.std.proofs.Common.{◌≡◌, ◌≢◌, ℕ, zero, suc, ◌+◌, ◌≤◌, ◌==◌, Bool, true, false, cond, ◌&&◌, not, List, [], ◌∷◌, ◌++◌, Option, Some, None, refl, sym, ◌∙◌, ap, subst, ◌⊎◌, inl, inr, arith}
use Rattle.std.specs.Prelude.{Contains, count_by, IsSome}
use Rattle.std.specs.List.{list_any}
use Rattle.std.proofs.lemmas.List.Folds.{list_any-append}
use Rattle.std.proofs.lemmas.List.Sums.{sum_by-cons}
use Rattle.std.proofs.lemmas.Bool.{or_from, or_parts}
use Rattle.mcal_base.specs.facts.Truths.{or_false, or_true}
use Rattle.mcal_base.specs.facts.Numbers.{eq_is, eq_self, eq_turned, same_or_other}
use Rattle.mcal_base.specs.declared.answer_name.AnswerName.{AnswerName}
use Rattle.mcal_base.specs.declared.answer_name.AnswerName.TheVariants.{SpiSeqOk, SpiSeqPending}
use Rattle.mcal_base.specs.declared.error_name.ErrorName.{ErrorName}
use Rattle.run_model.specs.Frame.{state_by}
use Rattle.run_model.specs.Machine.{Happening, Acts, Serves, Starts, Aborts, Moves, Restarts, Outcome}
use Rattle.spi_machine.specs.Machine.{spi_machine}
use Rattle.spi_machine.specs.Numbered.{with_item}
use Rattle.spi_machine.specs.Pending as lists
use Rattle.spi_machine.specs.Pending.{Pending, is_of as is_entry, without, starts, goes_to_next, cancels, sequence_result, requested}
use Rattle.spi_machine.specs.Runs.{Occurrence, after_all}
use Rattle.spi_machine.specs.Runs as runs
use Rattle.spi_machine.specs.State.{SpiState, first_state, is_off}
use Rattle.spi_machine.specs.Table.{sequence_of, notifies_sequence}
use Rattle.spi_machine.specs.declared.call.Call.{Call}
use Rattle.spi_machine.specs.declared.call.Call.TheVariants.{Init, DeInit, SetAsyncMode, MainFunctionHandling, Channel, Sequence, Get}
use Rattle.spi_machine.specs.declared.call.SequenceCall.TheVariants.{AsyncTransmit, Cancel, SyncTransmit}
use Rattle.spi_machine.specs.declared.table.SpiTable.{SpiTable}
use Rattle.spi_machine.specs.Wiring.{is_sync_sequence}
use Rattle.spi_machine.proofs.Idle.{idle-run}
use Rattle.spi_machine.proofs.Numbers.{item-same, item-other}
use Rattle.spi_machine.proofs.SequenceChanges.{pending-changed, pending-without}
use Rattle.board_promises.specs.whole_runs.Runs.{Event, state_after, AreAllowed, NoneOf, told_or_nothing, is_restart, is_of}
use Rattle.board_promises.specs.whole_runs.SequenceRuns.{SequenceEvent, seen_between, seen_of, begins_by, is_accepted, accepts, is_begun, initialises, is_reset, is_pending, is_end, starts_job, ends_job, is_starting, is_serving}
use Rattle.board_promises.specs.whole_runs.Ends.{ResultGoes, Stays, Becomes, Ends, Begins, Reset, TellsEnd, IsEnded, AreEnded, HasOneEnd}
use Rattle.board_promises.proofs.SequenceSteps.{seen, ends_told, end_results, Goes, Leaves, Accepts, Starting, Advances, Marks, Ending, Initialising, Sends, Resetting, happens_goes}

-- ---- the pending list

joined_own : (k : ℕ) (ps : List Pending) (x : Pending) → x.sequence ≡ k → lists.is_pending k (ps ++ x ∷ []) ≡ true
joined_own k ps x e = list_any-append (is_entry k) ps (x ∷ []) ∙ rw (e, eq_self k) (or_true (lists.is_pending k ps))

joined_other : (q k : ℕ) (ps : List Pending) (x : Pending) → x.sequence ≡ k → q ≢ k → lists.is_pending q (ps ++ x ∷ []) ≡ lists.is_pending q ps
joined_other q k ps x e ne = list_any-append (is_entry q) ps (x ∷ []) ∙ rw (e, eq_turned q k ne) (or_false (lists.is_pending q ps))

without_by : (q k : ℕ) (p : Pending) (ps rest : List Pending) (b : Bool) → q ≢ k → (p.sequence == k) ≡ b → lists.is_pending q rest ≡ lists.is_pending q ps
    → lists.is_pending q (cond (not b) (p ∷ rest) rest) ≡ lists.is_pending q (p ∷ ps)
without_by q k p ps rest true ne e h = let g : p.sequence ≡ k = eq_is p.sequence k e in rw (g, eq_turned q k ne) h
without_by q k p ps rest false ne e h = rw h refl

without_other : (q k : ℕ) (ps : List Pending) → q ≢ k → lists.is_pending q (without k ps) ≡ lists.is_pending q ps
without_other q k [] ne = refl
without_other q k (p ∷ ps) ne = without_by q k p ps (without k ps) (p.sequence == k) ne refl (without_other q k ps ne)

-- ---- what the state says

-- a sequence is pending exactly where its result says so
abbrev AgreesOn : SpiState → ℕ → Type 0
AgreesOn s q = is_pending (sequence_result s.sequence_results q) ≡ lists.is_pending q s.pending

-- but one that Spi_SyncTransmit sends, which isn't in the list
pub record Agrees (d : SpiTable) (s : SpiState) : Type 0 where
  pub plain : (q : ℕ) → is_sync_sequence d q ≡ false → is_pending (sequence_result s.sequence_results q) ≡ lists.is_pending q s.pending
  pub sent : (q : ℕ) → is_sync_sequence d q ≡ true → lists.is_pending q s.pending ≡ false

-- and none is while the module is uninitialised
abbrev IsIdle : SpiState → Type 0
IsIdle s = is_off s.mode ≡ true → s.pending ≡ []

-- ---- what an event does to a result

-- one or none
abbrev once : Bool → ℕ
once b = cond b 1 0

-- what comes of it for one sequence
pub record Comes (d : SpiTable) (q : ℕ) (e : SequenceEvent) (t : SpiState) : Type 0 where
  pub result : ResultGoes q e
  pub told : TellsEnd d q e
  pub agrees : is_pending (sequence_result t.sequence_results q) ≡ lists.is_pending q t.pending

no_end : (q : ℕ) (e : SequenceEvent) → e.has q ≡ e.had q → is_end q e ≡ false
no_end q e same = rw same (none (is_reset e) (is_pending (e.had q)))
  where
    none : (a b : Bool) → (not a && (b && not b)) ≡ false
    none true true = refl
    none true false = refl
    none false true = refl
    none false false = refl

tells_none : (d : SpiTable) (q : ℕ) (e : SequenceEvent) → is_end q e ≡ false → ends_told q e ≡ 0 → TellsEnd d q e
tells_none d q e none told = told ∙ rw none refl

stays : (d : SpiTable) (q : ℕ) (e : SequenceEvent) (s t : SpiState) → accepts q e ≡ false → e.had q ≡ sequence_result s.sequence_results q → e.has q ≡ sequence_result t.sequence_results q
    → sequence_result t.sequence_results q ≡ sequence_result s.sequence_results q → lists.is_pending q t.pending ≡ lists.is_pending q s.pending → ends_told q e ≡ 0 → AgreesOn s q → Comes d q e t
stays d q e s t accept had has same pending told agrees =
    let still : e.has q ≡ e.had q = has ∙ same ∙ sym had in
    record { result = Stays accept still; told = tells_none d q e (no_end q e still) told; agrees = ap (λ r. is_pending r) same ∙ agrees ∙ sym pending }

-- an event as it is seen between two states
abbrev Between : ℕ → SequenceEvent → SpiState → SpiState → Type 0
Between q e s t = (e.had q ≡ sequence_result s.sequence_results q) × (e.has q ≡ sequence_result t.sequence_results q)

accepted : (d : SpiTable) (q k : ℕ) (e : SequenceEvent) (s t : SpiState) (x : Pending) → Between q e s t → accepts q e ≡ (k == q) → lists.is_pending k s.pending ≡ false → x.sequence ≡ k → t.pending ≡ s.pending ++ x ∷ []
    → t.sequence_results ≡ with_item SpiSeqOk s.sequence_results k SpiSeqPending → ends_told q e ≡ 0 → AgreesOn s q → (q ≡ k) ⊎ (q ≢ k) → Comes d q e t
accepted d q k e s t x views accept free own pending results told agrees (inl at) =
    let has : e.has q ≡ SpiSeqPending = views.1 ∙ ap (λ rs. sequence_result rs q) results ∙ rw at (item-same SpiSeqOk s.sequence_results k SpiSeqPending) in
    let had : is_pending (e.had q) ≡ false = ap (λ r. is_pending r) views.0 ∙ agrees ∙ rw at free in
    record {
      result = Becomes (accept ∙ rw at (eq_self k)) had has;
      told = tells_none d q e (none (is_reset e) (is_pending (e.had q)) (is_pending (e.has q)) had) told;
      agrees = ap (λ r. is_pending r) (sym views.1 ∙ has) ∙ sym (ap (λ ps. lists.is_pending q ps) pending ∙ rw at (joined_own k s.pending x own));
    }
  where
    none : (a b c : Bool) → b ≡ false → (not a && (b && not c)) ≡ false
    none true b c h = refl
    none false b c h = rw h refl
accepted d q k e s t x views accept free own pending results told agrees (inr ne) =
    stays d q e s t (accept ∙ eq_turned q k ne) views.0 views.1 (ap (λ rs. sequence_result rs q) results ∙ item-other SpiSeqOk s.sequence_results k q SpiSeqPending ne)
    (ap (λ ps. lists.is_pending q ps) pending ∙ joined_other q k s.pending x own ne) told agrees

-- the result of an end isn't pending
end_over : (x : AnswerName) → Contains end_results x → is_pending x ≡ false
end_over x (zero, within, is) = ap (λ r. is_pending r) (sym is)
end_over x (suc zero, within, is) = ap (λ r. is_pending r) (sym is)
end_over x (suc (suc zero), within, is) = ap (λ r. is_pending r) (sym is)
end_over x (suc (suc (suc n)), within, is) = absurd (omega (arith, within))

ends_now : (q : ℕ) (e : SequenceEvent) → is_reset e ≡ false → is_pending (e.had q) ≡ true → is_pending (e.has q) ≡ false → is_end q e ≡ true
ends_now q e calm had has = rw (calm, had, has) refl

ended : (d : SpiTable) (q k : ℕ) (e : SequenceEvent) (s t : SpiState) (x : AnswerName) → Between q e s t → accepts q e ≡ false → is_reset e ≡ false → lists.is_pending k s.pending ≡ true → Contains end_results x
    → t.pending ≡ without k s.pending → t.sequence_results ≡ with_item SpiSeqOk s.sequence_results k x
    → ends_told q e ≡ cond (notifies_sequence (sequence_of d k) && (k == q)) 1 0 → AgreesOn s q → (q ≡ k) ⊎ (q ≢ k) → Comes d q e t
ended d q k e s t x views accept calm there one pending results told agrees (inl at) =
    let has : e.has q ≡ x = views.1 ∙ ap (λ rs. sequence_result rs q) results ∙ rw at (item-same SpiSeqOk s.sequence_results k x) in
    let had : is_pending (e.had q) ≡ true = ap (λ r. is_pending r) views.0 ∙ agrees ∙ rw at there in
    let over : is_pending (e.has q) ≡ false = ap (λ r. is_pending r) has ∙ end_over x one in
    let now : is_end q e ≡ true = ends_now q e calm had over in
    record {
      result = Ends accept now (subst (λ r. Contains end_results r) (sym has) one);
      told = told ∙ sym (ap (λ b. once (b && notifies_sequence (sequence_of d q))) now ∙ same_told at);
      agrees = ap (λ r. is_pending r) (sym views.1) ∙ over ∙ sym (ap (λ ps. lists.is_pending q ps) pending ∙ rw at (pending-without k s.pending));
    }
  where
    and_true : (b : Bool) → (b && true) ≡ b
    and_true true = refl
    and_true false = refl

    same_told : q ≡ k → once (notifies_sequence (sequence_of d q)) ≡ once (notifies_sequence (sequence_of d k) && (k == q))
    same_told at = rw (at, eq_self k) (ap once (sym (and_true (notifies_sequence (sequence_of d k)))))
ended d q k e s t x views accept calm there one pending results told agrees (inr ne) =
    stays d q e s t accept views.0 views.1 (ap (λ rs. sequence_result rs q) results ∙ item-other SpiSeqOk s.sequence_results k q x ne)
    (ap (λ ps. lists.is_pending q ps) pending ∙ without_other q k s.pending ne) (told ∙ rw (eq_turned q k ne) (ap once (and_false (notifies_sequence (sequence_of d k))))) agrees
  where
    and_false : (b : Bool) → (b && false) ≡ false
    and_false true = refl
    and_false false = refl

clash : {b : Bool} → b ≡ true → b ≡ false → ⊥
clash e f = absurd (cc (e, f))

-- one of each kind
kinds_apart : (d : SpiTable) (q k : ℕ) → is_sync_sequence d q ≡ false → is_sync_sequence d k ≡ true → q ≢ k
kinds_apart d q k plain sync same = clash (ap (λ n. is_sync_sequence d n) same ∙ sync) plain

pub comes : (d : SpiTable) (q : ℕ) (e : SequenceEvent) (s t : SpiState) → Goes d e s t → is_sync_sequence d q ≡ false → Between q e s t → AgreesOn s q → IsIdle s → Comes d q e t
comes d q e s t (Leaves calm reset pending results requests told) plain views agrees idle =
    stays d q e s t (calm.accepts q) views.0 views.1 (ap (λ rs. sequence_result rs q) results) (ap (λ ps. lists.is_pending q ps) pending) (told q) agrees
comes d q e s t (Accepts k had own accept reset free pending results requests told) plain views agrees idle =
    accepted d q k e s t (requested k (s.requests + 1) had) views (accept q) free refl pending results (told q) agrees (same_or_other q k)
comes d q e s t (Starting k accept reset start end pending results requests told) plain views agrees idle =
    stays d q e s t (accept q) views.0 views.1 (ap (λ rs. sequence_result rs q) results) (ap (λ ps. lists.is_pending q ps) pending ∙ pending-changed q k starts (λ p. refl) s.pending) (told q) agrees
comes d q e s t (Advances k accept reset start end pending results requests told) plain views agrees idle =
    stays d q e s t (accept q) views.0 views.1 (ap (λ rs. sequence_result rs q) results) (ap (λ ps. lists.is_pending q ps) pending ∙ pending-changed q k goes_to_next (λ p. refl) s.pending) (told q) agrees
comes d q e s t (Marks k calm reset pending results requests told) plain views agrees idle =
    stays d q e s t (calm.accepts q) views.0 views.1 (ap (λ rs. sequence_result rs q) results) (ap (λ ps. lists.is_pending q ps) pending ∙ pending-changed q k cancels (λ p. refl) s.pending) (told q) agrees
comes d q e s t (Ending k x accept reset start end there one pending results requests told) plain views agrees idle =
    ended d q k e s t x views (accept q) reset there one pending results (told q) agrees (same_or_other q k)
comes d q e s t (Initialising begin accept reset off pending results told) plain views agrees idle =
    let free : is_pending (e.had q) ≡ false = ap (λ r. is_pending r) views.0 ∙ agrees ∙ ap (λ ps. lists.is_pending q ps) (idle off) in
    let has : e.has q ≡ SpiSeqOk = views.1 ∙ ap (λ rs. sequence_result rs q) results in
    record {
      result = Begins begin free has;
      told = tells_none d q e (none (is_reset e) (is_pending (e.had q)) (is_pending (e.has q)) free) (told q);
      agrees = ap (λ rs. is_pending (sequence_result rs q)) results ∙ sym (ap (λ ps. lists.is_pending q ps) pending);
    }
  where
    none : (a b c : Bool) → b ≡ false → (not a && (b && not c)) ≡ false
    none true b c h = refl
    none false b c h = rw h refl
comes d q e s t (Sends k x sync calm reset pending results requests told) plain views agrees idle =
    stays d q e s t (calm.accepts q) views.0 views.1 (ap (λ rs. sequence_result rs q) results ∙ item-other SpiSeqOk s.sequence_results k q x (kinds_apart d q k plain sync)) (ap (λ ps. lists.is_pending q ps) pending) (told q) agrees
comes d q e s t (Resetting reset accept pending results told) plain views agrees idle = record {
  result = Reset reset (views.1 ∙ ap (λ rs. sequence_result rs q) results);
  told = tells_none d q e (rw reset refl) (told q);
  agrees = ap (λ rs. is_pending (sequence_result rs q)) results ∙ sym (ap (λ ps. lists.is_pending q ps) pending);
}

-- what comes of it for a sequence that Spi_SyncTransmit sends
record Unasked (q : ℕ) (e : SequenceEvent) (t : SpiState) : Type 0 where
  accept : accepts q e ≡ false
  told : ends_told q e ≡ 0
  absent : lists.is_pending q t.pending ≡ false

comes_sent : (d : SpiTable) (q : ℕ) (e : SequenceEvent) (s t : SpiState) → Goes d e s t → is_sync_sequence d q ≡ true → lists.is_pending q s.pending ≡ false → Unasked q e t
comes_sent d q e s t (Leaves calm reset pending results requests told) sync absent = record { accept = calm.accepts q; told = told q; absent = ap (λ ps. lists.is_pending q ps) pending ∙ absent }
comes_sent d q e s t (Accepts k had own accept reset free pending results requests told) sync absent =
    let ne : q ≢ k = λ same. kinds_apart d k q own sync (sym same) in
    record {
      accept = accept q ∙ eq_turned q k ne;
      told = told q;
      absent = ap (λ ps. lists.is_pending q ps) pending ∙ joined_other q k s.pending (requested k (s.requests + 1) had) refl ne ∙ absent;
    }
comes_sent d q e s t (Starting k accept reset start end pending results requests told) sync absent =
    record { accept = accept q; told = told q; absent = ap (λ ps. lists.is_pending q ps) pending ∙ pending-changed q k starts (λ p. refl) s.pending ∙ absent }
comes_sent d q e s t (Advances k accept reset start end pending results requests told) sync absent =
    record { accept = accept q; told = told q; absent = ap (λ ps. lists.is_pending q ps) pending ∙ pending-changed q k goes_to_next (λ p. refl) s.pending ∙ absent }
comes_sent d q e s t (Marks k calm reset pending results requests told) sync absent =
    record { accept = calm.accepts q; told = told q; absent = ap (λ ps. lists.is_pending q ps) pending ∙ pending-changed q k cancels (λ p. refl) s.pending ∙ absent }
comes_sent d q e s t (Ending k x accept reset start end there one pending results requests told) sync absent =
    let ne : q ≢ k = λ same. clash there (subst (λ n. lists.is_pending n s.pending ≡ false) same absent) in
    record {
      accept = accept q;
      told = told q ∙ rw (eq_turned q k ne) (ap once (and_false (notifies_sequence (sequence_of d k))));
      absent = ap (λ ps. lists.is_pending q ps) pending ∙ without_other q k s.pending ne ∙ absent;
    }
  where
    and_false : (b : Bool) → (b && false) ≡ false
    and_false true = refl
    and_false false = refl
comes_sent d q e s t (Initialising begin accept reset off pending results told) sync absent = record { accept = accept q; told = told q; absent = ap (λ ps. lists.is_pending q ps) pending }
comes_sent d q e s t (Sends k x own calm reset pending results requests told) sync absent = record { accept = calm.accepts q; told = told q; absent = ap (λ ps. lists.is_pending q ps) pending ∙ absent }
comes_sent d q e s t (Resetting reset accept pending results told) sync absent = record { accept = accept q; told = told q; absent = ap (λ ps. lists.is_pending q ps) pending }

-- ---- a run

-- the events as occurrences, the oldest first
abbrev occurrences : List (Event Call) → List Occurrence
occurrences [] = []
occurrences (e ∷ past) = occurrences past ++ record { world = e.world; what = e.what } ∷ []

abbrev state_of : SpiTable → List (Event Call) → SpiState
state_of d past = state_after (spi_machine d) first_state past

one_more : (d : SpiTable) (s : SpiState) (xs : List Occurrence) (x : Occurrence) → after_all d s (xs ++ x ∷ []) ≡ runs.state_after d x.world (after_all d s xs) x.what
one_more d s [] x = refl
one_more d s (y ∷ xs) x = one_more d (runs.state_after d y.world s y.what) xs x

same_state : (d : SpiTable) (past : List (Event Call)) → after_all d first_state (occurrences past) ≡ state_of d past
same_state d [] = refl
same_state d (e ∷ past) =
    one_more d first_state (occurrences past) (record { world = e.world; what = e.what })
    ∙ ap (λ s. runs.state_after d e.world s e.what) (same_state d past)

run_idle : (d : SpiTable) (past : List (Event Call)) → IsIdle (state_of d past)
run_idle d past = subst IsIdle (same_state d past) (idle-run d (occurrences past))

abbrev After : SpiTable → SpiState → Event Call → Option (Outcome SpiState) → Type 0
After d s e o = let x : SequenceEvent = seen_between d s (state_by s o) e.what (told_or_nothing o) (begins_by o) in IsEnded d x × Agrees d (state_by s o)

event_ends : (d : SpiTable) (s : SpiState) (e : Event Call) (o : Option (Outcome SpiState)) → (spi_machine d).happens e.world s e.what ≡ o → IsSome o → Agrees d s → IsIdle s → After d s e o
event_ends d s e None at some agrees idle = absurd (cc some)
event_ends d s e (Some out) at some agrees idle =
    let goes : Goes d (seen d e.what s out) s out.state = happens_goes d e.world s e.what out at in
    let all = λ (q : ℕ) (plain : is_sync_sequence d q ≡ false). comes d q (seen d e.what s out) s out.state goes plain (refl, refl) (agrees.plain q plain) idle in
    let others = λ (q : ℕ) (sync : is_sync_sequence d q ≡ true). comes_sent d q (seen d e.what s out) s out.state goes sync (agrees.sent q sync) in (
      record { results = λ q plain. (all q plain).result; told = λ q plain. (all q plain).told; sent = λ q sync. ((others q sync).accept, (others q sync).told) },
      record { plain = λ q plain. (all q plain).agrees; sent = λ q sync. (others q sync).absent },
    )

run_ends : (d : SpiTable) (past : List (Event Call)) → AreAllowed (spi_machine d) first_state past → AreEnded d (seen_of d past) × Agrees d (state_of d past)
run_ends d [] allowed = (tt, record { plain = λ q plain. refl; sent = λ q sync. refl })
run_ends d (e ∷ past) allowed =
    let before = run_ends d past allowed.1 in
    let after : After d (state_of d past) e ((spi_machine d).happens e.world (state_of d past) e.what) =
    event_ends d (state_of d past) e ((spi_machine d).happens e.world (state_of d past) e.what) refl allowed.0 before.1 (run_idle d past) in
    ((after.0, before.0), after.1)

pub all_end : (d : SpiTable) (past : List (Event Call)) → AreAllowed (spi_machine d) first_state past → AreEnded d (seen_of d past)
all_end d past allowed = (run_ends d past allowed).0

pub run_agrees : (d : SpiTable) (past : List (Event Call)) → AreAllowed (spi_machine d) first_state past → Agrees d (state_of d past)
run_agrees d past allowed = (run_ends d past allowed).1

-- ---- counts

-- the result of a sequence after these events
abbrev result_now : ℕ → List SequenceEvent → AnswerName
result_now q [] = SpiSeqOk
result_now q (e ∷ past) = e.has q

-- each event finds what the one before it left, and what comes of it is right
abbrev Linked : ℕ → List SequenceEvent → Type 0
Linked q [] = Unit {0}
Linked q (e ∷ past) = (e.had q ≡ result_now q past) × ResultGoes q e × Linked q past

linked_later : (q : ℕ) (later past : List SequenceEvent) → Linked q (later ++ past) → Linked q past
linked_later q [] past h = h
linked_later q (e ∷ later) past h = linked_later q later past h.2

run_linked : (d : SpiTable) (q : ℕ) (past : List (Event Call)) → is_sync_sequence d q ≡ false → AreEnded d (seen_of d past) → Linked q (seen_of d past)
run_linked d q [] plain h = tt
run_linked d q (e ∷ []) plain h = (refl, h.0.results q plain, tt)
run_linked d q (e ∷ x ∷ past) plain h = (refl, h.0.results q plain, run_linked d q (x ∷ past) plain h.1)

-- no request of a sequence that Spi_SyncTransmit sends is accepted
none_asked : (d : SpiTable) (q : ℕ) (log : List SequenceEvent) → is_sync_sequence d q ≡ true → AreEnded d log → NoneOf (accepts q) log
none_asked d q [] sync h = refl
none_asked d q (e ∷ log) sync h = or_from (accepts q e) (list_any (accepts q) log) (h.0.sent q sync).0 (none_asked d q log sync h.1)

none_later : (q : ℕ) (later past : List SequenceEvent) → NoneOf (accepts q) (later ++ past) → NoneOf (accepts q) past
none_later q later past h = (or_parts (list_any (accepts q) later) (list_any (accepts q) past) (sym (list_any-append (accepts q) later past) ∙ h)).1

-- an accepted request is neither an initialisation nor a reset
accepts_calm : (q : ℕ) (e : SequenceEvent) → accepts q e ≡ true → (initialises e ≡ false) × (is_reset e ≡ false)
accepts_calm q e h = by_what e.what e.told.error h
  where
    by_what : (h : Happening Call) (o : Option ErrorName) → is_accepted q h o ≡ true → (is_begun h o ≡ false) × (is_restart h ≡ false)
    by_what (Acts (Sequence k AsyncTransmit) times) o f = (refl, refl)
    by_what (Acts (Sequence k Cancel) times) o f = absurd (cc f)
    by_what (Acts (Sequence k SyncTransmit) times) o f = absurd (cc f)
    by_what (Acts Init times) o f = absurd (cc f)
    by_what (Acts DeInit times) o f = absurd (cc f)
    by_what (Acts (SetAsyncMode m) times) o f = absurd (cc f)
    by_what (Acts MainFunctionHandling times) o f = absurd (cc f)
    by_what (Acts (Channel c call) times) o f = absurd (cc f)
    by_what (Acts (Get query) times) o f = absurd (cc f)
    by_what (Serves l received) o f = absurd (cc f)
    by_what (Starts u made_by received) o f = absurd (cc f)
    by_what (Aborts u) o f = absurd (cc f)
    by_what (Moves order) o f = absurd (cc f)
    by_what (Restarts reason) o f = absurd (cc f)

-- and no job starts or ends there
pub accepts_no_job : (k q : ℕ) (e : SequenceEvent) → accepts k e ≡ true → (starts_job q e ≡ false) × (ends_job q e ≡ false)
accepts_no_job k q e h = by_what e.what e.told.error h
  where
    by_what : (h : Happening Call) (o : Option ErrorName) → is_accepted k h o ≡ true → ((is_starting h && is_of q e.sequence) ≡ false) × ((is_serving h && (is_of q e.sequence && not e.begins)) ≡ false)
    by_what (Acts call times) o f = (refl, refl)
    by_what (Serves l received) o f = absurd (cc f)
    by_what (Starts u made_by received) o f = absurd (cc f)
    by_what (Aborts u) o f = absurd (cc f)
    by_what (Moves order) o f = absurd (cc f)
    by_what (Restarts reason) o f = absurd (cc f)

-- what an accepted request finds and leaves
taken : (q : ℕ) (e : SequenceEvent) → accepts q e ≡ true → ResultGoes q e → (is_pending (e.had q) ≡ false) × (is_pending (e.has q) ≡ true)
taken q e h (Stays accept same) = absurd (cc (h, accept))
taken q e h (Becomes accept had has) = (had, ap (λ r. is_pending r) has)
taken q e h (Ends accept end has) = absurd (cc (h, accept))
taken q e h (Begins begin had has) = absurd (cc (begin, (accepts_calm q e h).0))
taken q e h (Reset reset has) = absurd (cc (reset, (accepts_calm q e h).1))

-- the ends since a request, by whether the sequence is pending now
pub record Counts (q count : ℕ) (now : AnswerName) (between : List SequenceEvent) : Type 0 where
  pub most : (count ≡ 0) ⊎ ((count ≡ 1) × (is_pending now ≡ false))
  pub open_yet : NoneOf is_reset between → count ≡ 0 → is_pending now ≡ true

counted_more : (q : ℕ) (e : SequenceEvent) (between : List SequenceEvent) (b : Bool) → is_end q e ≡ b → count_by (is_end q) (e ∷ between) ≡ once b + count_by (is_end q) between
counted_more q e between b at = sum_by-cons (λ x. once (is_end q x)) e between ∙ ap (λ c. once c + count_by (is_end q) between) at

-- an event without an end leaves the count
quiet : (q n m : ℕ) → m ≡ once false + n → m ≡ n
quiet q n m e = omega (arith, e)

not_both : (x : AnswerName) → is_pending x ≡ true → is_pending x ≡ false → ⊥
not_both x e f = absurd (cc (e, f))

end_was : (q : ℕ) (e : SequenceEvent) → is_end q e ≡ true → (is_pending (e.had q) ≡ true) × (is_pending (e.has q) ≡ false)
end_was q e h = parts (is_reset e) (is_pending (e.had q)) (is_pending (e.has q)) h
  where
    parts : (a b c : Bool) → (not a && (b && not c)) ≡ true → (b ≡ true) × (c ≡ false)
    parts true b c h = absurd (cc h)
    parts false true true h = absurd (cc h)
    parts false true false h = (refl, refl)
    parts false false c h = absurd (cc h)

more : (q : ℕ) (e : SequenceEvent) (between : List SequenceEvent) (was : AnswerName) → e.had q ≡ was → accepts q e ≡ false → ResultGoes q e → Counts q (count_by (is_end q) between) was between
    → Counts q (count_by (is_end q) (e ∷ between)) (e.has q) (e ∷ between)
more q e between was had accept (Stays none same) c =
    let count : count_by (is_end q) (e ∷ between) ≡ count_by (is_end q) between = quiet q _ _ (counted_more q e between false (no_end q e same)) in
    let now : e.has q ≡ was = same ∙ had in
    record { most = by_most c.most count now; open_yet = λ calm none. ap (λ r. is_pending r) now ∙ c.open_yet (or_parts (is_reset e) (list_any is_reset between) calm).1 (sym count ∙ none) }
  where
    by_most : (count_by (is_end q) between ≡ 0) ⊎ ((count_by (is_end q) between ≡ 1) × (is_pending was ≡ false)) → count_by (is_end q) (e ∷ between) ≡ count_by (is_end q) between → e.has q ≡ was
        → (count_by (is_end q) (e ∷ between) ≡ 0) ⊎ ((count_by (is_end q) (e ∷ between) ≡ 1) × (is_pending (e.has q) ≡ false))
    by_most (inl none) count now = inl (count ∙ none)
    by_most (inr one) count now = inr (count ∙ one.0, ap (λ r. is_pending r) now ∙ one.1)
more q e between was had accept (Becomes again found has) c = absurd (cc (accept, again))
more q e between was had accept (Ends none end has) c =
    let parts = end_was q e end in
    let pending : is_pending was ≡ true = ap (λ r. is_pending r) (sym had) ∙ parts.0 in
    let count : count_by (is_end q) (e ∷ between) ≡ 1 = by_most c.most pending (counted_more q e between true end) in
    record { most = inr (count, parts.1); open_yet = λ calm zero_is. absurd (omega (arith, count, zero_is)) }
  where
    by_most : (count_by (is_end q) between ≡ 0) ⊎ ((count_by (is_end q) between ≡ 1) × (is_pending was ≡ false)) → is_pending was ≡ true → count_by (is_end q) (e ∷ between) ≡ once true + count_by (is_end q) between
        → count_by (is_end q) (e ∷ between) ≡ 1
    by_most (inl none) pending count = omega (arith, none, count)
    by_most (inr one) pending count = absurd (not_both was pending one.1)
more q e between was had accept (Begins begin free has) c =
    let over : is_pending (e.has q) ≡ false = ap (λ r. is_pending r) has in
    let none : is_end q e ≡ false = rw free (none_of (is_reset e)) in
    let count : count_by (is_end q) (e ∷ between) ≡ count_by (is_end q) between = quiet q _ _ (counted_more q e between false none) in
    record {
      most = by_most c.most count over;
      open_yet = λ calm zero_is. absurd (not_both was (c.open_yet (or_parts (is_reset e) (list_any is_reset between) calm).1 (sym count ∙ zero_is)) (ap (λ r. is_pending r) (sym had) ∙ free));
    }
  where
    none_of : (a : Bool) → (not a && false) ≡ false
    none_of true = refl
    none_of false = refl

    by_most : (count_by (is_end q) between ≡ 0) ⊎ ((count_by (is_end q) between ≡ 1) × (is_pending was ≡ false)) → count_by (is_end q) (e ∷ between) ≡ count_by (is_end q) between → is_pending (e.has q) ≡ false
        → (count_by (is_end q) (e ∷ between) ≡ 0) ⊎ ((count_by (is_end q) (e ∷ between) ≡ 1) × (is_pending (e.has q) ≡ false))
    by_most (inl none) count over = inl (count ∙ none)
    by_most (inr one) count over = inr (count ∙ one.0, over)
more q e between was had accept (Reset reset has) c =
    let over : is_pending (e.has q) ≡ false = ap (λ r. is_pending r) has in
    let none : is_end q e ≡ false = rw reset refl in
    let count : count_by (is_end q) (e ∷ between) ≡ count_by (is_end q) between = quiet q _ _ (counted_more q e between false none) in
    record { most = by_most c.most count over; open_yet = λ calm zero_is. absurd (cc (reset, (or_parts (is_reset e) (list_any is_reset between) calm).0)) }
  where
    by_most : (count_by (is_end q) between ≡ 0) ⊎ ((count_by (is_end q) between ≡ 1) × (is_pending was ≡ false)) → count_by (is_end q) (e ∷ between) ≡ count_by (is_end q) between → is_pending (e.has q) ≡ false
        → (count_by (is_end q) (e ∷ between) ≡ 0) ⊎ ((count_by (is_end q) (e ∷ between) ≡ 1) × (is_pending (e.has q) ≡ false))
    by_most (inl none) count over = inl (count ∙ none)
    by_most (inr one) count over = inr (count ∙ one.0, over)

counts : (q : ℕ) (between before : List SequenceEvent) (first : SequenceEvent) → Linked q (between ++ first ∷ before) → accepts q first ≡ true → NoneOf (accepts q) between
    → Counts q (count_by (is_end q) between) (result_now q (between ++ first ∷ before)) between
counts q [] before first links request none =
    let found = taken q first request links.1 in
    record { most = inl refl; open_yet = λ calm zero_is. found.1 }
counts q (e ∷ between) before first links request none =
    let parts = or_parts (accepts q e) (list_any (accepts q) between) none in
    more q e between (result_now q (between ++ first ∷ before)) links.0 parts.0 links.1 (counts q between before first links.2 request parts.1)

at_most : (n : ℕ) (now : AnswerName) → (n ≡ 0) ⊎ ((n ≡ 1) × (is_pending now ≡ false)) → n ≤ 1
at_most n now (inl none) = omega (arith, none)
at_most n now (inr one) = let e = one.0 in omega (arith, e)

exactly : (n : ℕ) (now : AnswerName) → (n ≡ 0) ⊎ ((n ≡ 1) × (is_pending now ≡ false)) → (n ≡ 0 → is_pending now ≡ true) → is_pending now ≡ false → n ≡ 1
exactly n now (inl none) waits over = absurd (not_both now (waits none) over)
exactly n now (inr one) waits over = one.0

one_end : (q : ℕ) (log : List SequenceEvent) → Linked q log → HasOneEnd q log
one_end q log links = record {
  one = λ later between before second first is again request none calm.
      let whole : Linked q (later ++ second ∷ (between ++ first ∷ before)) = subst (λ es. Linked q es) is links in
      let tail = linked_later q later (second ∷ (between ++ first ∷ before)) whole in
      let c : Counts q (count_by (is_end q) between) (result_now q (between ++ first ∷ before)) between = counts q between before first tail.2 request none in
      exactly (count_by (is_end q) between) (result_now q (between ++ first ∷ before)) c.most (c.open_yet calm) (ap (λ r. is_pending r) (sym tail.0) ∙ (taken q second again tail.1).0);
  most = λ later between before first is request none.
      let whole : Linked q (later ++ (between ++ first ∷ before)) = subst (λ es. Linked q es) is links in
      let c : Counts q (count_by (is_end q) between) (result_now q (between ++ first ∷ before)) between = counts q between before first (linked_later q later (between ++ first ∷ before) whole) request none in
      at_most (count_by (is_end q) between) (result_now q (between ++ first ∷ before)) c.most;
}

-- where none is accepted there is nothing to end
none_ends : (q : ℕ) (log : List SequenceEvent) → NoneOf (accepts q) log → HasOneEnd q log
none_ends q log none = record {
  one = λ later between before second first is again request clear calm.
      absurd (clash again (or_parts (accepts q second) (list_any (accepts q) (between ++ first ∷ before)) (none_later q later (second ∷ (between ++ first ∷ before)) (subst (λ es. NoneOf (accepts q) es) is none))).0);
  most = λ later between before first is request clear.
      absurd (clash request (or_parts (accepts q first) (list_any (accepts q) before) (none_later q between (first ∷ before) (none_later q later (between ++ first ∷ before) (subst (λ es. NoneOf (accepts q) es) is none)))).0);
}

pub end_once : (d : SpiTable) (past : List (Event Call)) (q : ℕ) → AreAllowed (spi_machine d) first_state past → HasOneEnd q (seen_of d past)
end_once d past q allowed = by_kind (is_sync_sequence d q) refl
  where
    by_kind : (b : Bool) → is_sync_sequence d q ≡ b → HasOneEnd q (seen_of d past)
    by_kind true sync = none_ends q (seen_of d past) (none_asked d q (seen_of d past) sync (all_end d past allowed))
    by_kind false plain = one_end q (seen_of d past) (run_linked d q past plain (all_end d past allowed))
