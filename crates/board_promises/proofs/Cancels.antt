-- A pending sequence is marked as cancelled exactly where a cancel came since its request.
use Rattle.std.proofs.Common.{◌≡◌, ℕ, ◌+◌, ◌==◌, Bool, true, false, not, cond, ◌||◌, List, [], ◌∷◌, ◌++◌, Option, Some, None, refl, sym, ◌∙◌, ap}
use Rattle.std.specs.Prelude.{find, IsSome}
use Rattle.mcal_base.specs.facts.Options.{some_is}
use Rattle.mcal_base.specs.facts.Numbers.{eq_is, eq_self}
use Rattle.mcal_base.specs.declared.answer_name.AnswerName.{AnswerName}
use Rattle.mcal_base.specs.declared.error_name.ErrorName.{ErrorName}
use Rattle.run_model.specs.Frame.{state_by}
use Rattle.run_model.specs.Machine.{Happening, Acts, Serves, Starts, Aborts, Moves, Restarts, Outcome}
use Rattle.run_model.specs.World.{World}
use Rattle.spi_machine.proofs.Acts.{act-leaves}
use Rattle.spi_machine.proofs.SequenceChanges.{found}
use Rattle.spi_machine.proofs.WordLaws.{cancel-ends}
use Rattle.spi_machine.specs.Machine.{spi_machine, acts_by, finds_held}
use Rattle.spi_machine.specs.Checks.{error_by}
use Rattle.spi_machine.specs.Pending as lists
use Rattle.spi_machine.specs.Pending.{Pending, is_of, changed, without, requested, cancels as marks}
use Rattle.spi_machine.specs.Promised.{drops}
use Rattle.spi_machine.specs.State.{SpiState, first_state, is_off, is_running}
use Rattle.spi_machine.specs.declared.call.Call.{Call}
use Rattle.spi_machine.specs.declared.call.Call.TheVariants.{Init, DeInit, SetAsyncMode, MainFunctionHandling, Channel, Sequence, Get}
use Rattle.spi_machine.specs.declared.call.SequenceCall.TheVariants.{AsyncTransmit, Cancel, SyncTransmit}
use Rattle.spi_machine.specs.declared.table.SpiTable.{SpiTable}
use Rattle.machine_laws.specs.serial.Ends.{Sequel, IsLeft, Starting, GoingOn, BeingCancelled, EndsAtOnce, EndsCancelled, EndsFailed, EndsOk}
use Rattle.machine_laws.proofs.Sequels.{happens_sequel, cancel_waits}
use Rattle.board_promises.specs.whole_runs.Runs.{Event, AreAllowed, told_or_nothing}
use Rattle.board_promises.specs.whole_runs.SequenceRuns.{SequenceEvent, seen_between, seen_of, begins_by, accepts}
use Rattle.board_promises.proofs.SequenceSteps as steps
use Rattle.board_promises.proofs.SequenceSteps.{seen, Goes, happens_goes}
use Rattle.board_promises.specs.run_laws.Results.{state_of, seen_at, is_cancel, cancels, was_cancelled}

-- ---- entries that aren't there

none_by : (q : ℕ) (p : Pending) (rest : Option Pending) (b : Bool) → cond b (Some p) rest ≡ None → (b ≡ false) × (rest ≡ None)
none_by q p rest true e = absurd (cc e)
none_by q p rest false e = (refl, e)

changed_none : (q k : ℕ) (f : Pending → Pending) → ((p : Pending) → (f p).sequence ≡ p.sequence) → (ps : List Pending) → find (is_of q) ps ≡ None → find (is_of q) (changed k f ps) ≡ None
changed_none q k f e [] h = refl
changed_none q k f e (p ∷ ps) h =
    let parts = none_by q p (find (is_of q) ps) (p.sequence == q) h in
    ap (λ n. cond (n == q) (Some (cond (p.sequence == k) (f p) p)) (find (is_of q) (changed k f ps))) (same (p.sequence == k))
    ∙ (ap (λ b. cond b (Some (cond (p.sequence == k) (f p) p)) (find (is_of q) (changed k f ps))) parts.0 ∙ changed_none q k f e ps parts.1)
  where
    same : (b : Bool) → (cond b (f p) p).sequence ≡ p.sequence
    same true = e p
    same false = refl

without_none : (q k : ℕ) (ps : List Pending) → find (is_of q) ps ≡ None → find (is_of q) (without k ps) ≡ None
without_none q k [] h = refl
without_none q k (p ∷ ps) h = let parts = none_by q p (find (is_of q) ps) (p.sequence == q) h in by (p.sequence == k) parts.0 (without_none q k ps parts.1) where
  by : (b : Bool) → (p.sequence == q) ≡ false → find (is_of q) (without k ps) ≡ None → find (is_of q) (cond (not b) (p ∷ without k ps) (without k ps)) ≡ None
  by true is more = more
  by false is more = ap (λ c. cond c (Some p) (find (is_of q) (without k ps))) is ∙ more

joined_none : (q : ℕ) (ps : List Pending) (x : Pending) → find (is_of q) ps ≡ None → find (is_of q) (ps ++ x ∷ []) ≡ cond (x.sequence == q) (Some x) None
joined_none q [] x h = refl
joined_none q (p ∷ ps) x h =
    let parts = none_by q p (find (is_of q) ps) (p.sequence == q) h in
    ap (λ b. cond b (Some p) (find (is_of q) (ps ++ x ∷ []))) parts.0 ∙ joined_none q ps x parts.1

-- ---- a request

-- a sequence that is pending after an event and wasn't before was requested there, and isn't cancelled
record IsNew (q : ℕ) (e : SequenceEvent) (p : Pending) : Type 0 where
  accepted : accepts q e ≡ true
  fresh : p.cancelled ≡ false

no_entry : {A : Type 0} (o : Option Pending) (p : Pending) → o ≡ None → o ≡ Some p → A
no_entry o p e f = absurd (cc (sym e ∙ f))

new_by : (q : ℕ) (e : SequenceEvent) (x p : Pending) (b : Bool) → (x.sequence == q) ≡ b → accepts q e ≡ (x.sequence == q) → x.cancelled ≡ false → cond b (Some x) None ≡ Some p → IsNew q e p
new_by q e x p false is a c f = absurd (cc f)
new_by q e x p true is a c f = record { accepted = a ∙ is; fresh = ap (λ (y : Pending). y.cancelled) (sym (some_is x p f)) ∙ c }

new_entry : (d : SpiTable) (e : SequenceEvent) (s t : SpiState) (q : ℕ) (p : Pending) → Goes d e s t → find (is_of q) s.pending ≡ None → find (is_of q) t.pending ≡ Some p → IsNew q e p
new_entry d e s t q p (steps.Leaves calm reset same results requests told) none is = no_entry _ p (ap (λ ps. find (is_of q) ps) same ∙ none) is
new_entry d e s t q p (steps.Accepts k had own accept reset free same results requests told) none is =
    new_by q e (requested k (s.requests + 1) had) p (k == q) refl (accept q) refl (sym (joined_none q s.pending (requested k (s.requests + 1) had) none) ∙ (sym (ap (λ ps. find (is_of q) ps) same) ∙ is))
new_entry d e s t q p (steps.Starting k accept reset starts ends same results requests told) none is = no_entry _ p (ap (λ ps. find (is_of q) ps) same ∙ changed_none q k lists.starts (λ x. refl) s.pending none) is
new_entry d e s t q p (steps.Advances k accept reset starts ends same results requests told) none is = no_entry _ p (ap (λ ps. find (is_of q) ps) same ∙ changed_none q k lists.goes_to_next (λ x. refl) s.pending none) is
new_entry d e s t q p (steps.Marks k calm reset same results requests told) none is = no_entry _ p (ap (λ ps. find (is_of q) ps) same ∙ changed_none q k marks (λ x. refl) s.pending none) is
new_entry d e s t q p (steps.Ending k x accept reset starts ends there one same results requests told) none is = no_entry _ p (ap (λ ps. find (is_of q) ps) same ∙ without_none q k s.pending none) is
new_entry d e s t q p (steps.Initialising begin accept reset off same results told) none is = no_entry _ p (ap (λ ps. find (is_of q) ps) same) is
new_entry d e s t q p (steps.Sends k x sync calm reset same results requests told) none is = no_entry _ p (ap (λ ps. find (is_of q) ps) same ∙ none) is
new_entry d e s t q p (steps.Resetting reset accept same results told) none is = no_entry _ p (ap (λ ps. find (is_of q) ps) same) is

-- no request of a pending sequence is accepted
not_accepted : (d : SpiTable) (e : SequenceEvent) (s t : SpiState) (q : ℕ) (p : Pending) → Goes d e s t → find (is_of q) s.pending ≡ Some p → accepts q e ≡ false
not_accepted d e s t q p (steps.Leaves calm reset same results requests told) is = calm.accepts q
not_accepted d e s t q p (steps.Accepts k had own accept reset free same results requests told) is = accept q ∙ by (k == q) refl where
  by : (b : Bool) → (k == q) ≡ b → b ≡ false
  by false x = refl
  by true x =
      let at = eq_is k q x in
      let pending : lists.is_pending k s.pending ≡ true = ap (λ i. lists.is_pending i s.pending) at ∙ (found q p s.pending is).1 in absurd (cc (sym free ∙ pending))
not_accepted d e s t q p (steps.Starting k accept reset starts ends same results requests told) is = accept q
not_accepted d e s t q p (steps.Advances k accept reset starts ends same results requests told) is = accept q
not_accepted d e s t q p (steps.Marks k calm reset same results requests told) is = calm.accepts q
not_accepted d e s t q p (steps.Ending k x accept reset starts ends there one same results requests told) is = accept q
not_accepted d e s t q p (steps.Initialising begin accept reset off same results told) is = accept q
not_accepted d e s t q p (steps.Sends k x sync calm reset same results requests told) is = calm.accepts q
not_accepted d e s t q p (steps.Resetting reset accept same results told) is = accept q

-- ---- a sequence that stays pending

-- a cancel of it without an error
cancels_is : (q : ℕ) (h : Happening Call) (o : Option ErrorName) → is_cancel q h o ≡ true → (times : ℕ → ℕ) × (h ≡ Acts (Sequence q Cancel) times) × (o ≡ None)
cancels_is q (Acts (Sequence k Cancel) times) None e = (times, ap (λ i. Acts (Sequence i Cancel) times) (eq_is k q e), refl)
cancels_is q (Acts (Sequence k Cancel) times) (Some x) e = absurd (cc e)
cancels_is q (Acts (Sequence k AsyncTransmit) times) o e = absurd (cc e)
cancels_is q (Acts (Sequence k SyncTransmit) times) o e = absurd (cc e)
cancels_is q (Acts Init times) o e = absurd (cc e)
cancels_is q (Acts DeInit times) o e = absurd (cc e)
cancels_is q (Acts (SetAsyncMode m) times) o e = absurd (cc e)
cancels_is q (Acts MainFunctionHandling times) o e = absurd (cc e)
cancels_is q (Acts (Channel c call) times) o e = absurd (cc e)
cancels_is q (Acts (Get query) times) o e = absurd (cc e)
cancels_is q (Serves l received) o e = absurd (cc e)
cancels_is q (Starts u made_by received) o e = absurd (cc e)
cancels_is q (Aborts u) o e = absurd (cc e)
cancels_is q (Moves order) o e = absurd (cc e)
cancels_is q (Restarts reason) o e = absurd (cc e)

module _ (d : SpiTable) (w : World) (s : SpiState) (q : ℕ) (p : Pending) (there : find (is_of q) s.pending ≡ Some p) where
  marked : (times : ℕ → ℕ) (out : Outcome SpiState) (x : Pending) (b : Bool) → (spi_machine d).happens w s (Acts (Sequence q Cancel) times) ≡ Some out → out.told.error ≡ None → is_running s q ≡ b → find (is_of q) out.state.pending ≡ Some x → x.cancelled ≡ true
  marked times out x true made quiet on is = ap (λ (y : Pending). y.cancelled) (sym (some_is (marks p) x (sym (cancel_waits d w s q times out p made quiet there on).0 ∙ is)))
  marked times out x false made quiet on is =
      let over = (cancel-ends d w s q times out p made quiet there on).over in absurd (cc (sym over ∙ (found q x out.state.pending is).1))

  -- not cancelled here: as it was
  other_by : (h : Happening Call) (o : Option Pending) (r : AnswerName) (x : Pending) (error : Option ErrorName) → Sequel d s q p h o r → o ≡ Some x → is_cancel q h error ≡ false → ((times : ℕ → ℕ) → h ≡ Acts (Sequence q Cancel) times → IsSome error → x ≡ p) → x.cancelled ≡ p.cancelled
  other_by h o r x error IsLeft is none same = ap (λ (y : Pending). y.cancelled) (sym (some_is p x is))
  other_by h o r x error (Starting unit made_by received u next a b c) is none same = ap (λ (y : Pending). y.cancelled) (sym (some_is _ x is))
  other_by h o r x error (GoingOn line received y own a b c) is none same = ap (λ (z : Pending). z.cancelled) (sym (some_is _ x is))
  other_by h o r x None (BeingCancelled times a) is none same = absurd (cc (sym none ∙ eq_self q))
  other_by h o r x (Some e) (BeingCancelled times a) is none same = ap (λ (y : Pending). y.cancelled) (same times refl refl)
  other_by h o r x error (EndsAtOnce times a) is none same = absurd (cc is)
  other_by h o r x error (EndsCancelled line received y own a) is none same = absurd (cc is)
  other_by h o r x error (EndsFailed line received y own a b) is none same = absurd (cc is)
  other_by h o r x error (EndsOk line received y own a b c) is none same = absurd (cc is)

  -- what an error leaves
  left_by : (h : Happening Call) (out : Outcome SpiState) (x : Pending) → (spi_machine d).happens w s h ≡ Some out → find (is_of q) out.state.pending ≡ Some x → (times : ℕ → ℕ) (call : Call) → h ≡ Acts call times → IsSome out.told.error → x ≡ p
  left_by h out x made is times call at error =
      let same = (act-leaves d w s call times out (ap (λ y. (spi_machine d).happens w s y) (sym at) ∙ made) error).0 in
      some_is x p (sym is ∙ (ap (λ (y : SpiState). find (is_of q) y.pending) same ∙ there))

-- ---- an event

-- it is marked as the events say
abbrev pub Marked : SpiTable → List (Event Call) → SpiState → Type 0
Marked d past s = (q : ℕ) (p : Pending) → find (is_of q) s.pending ≡ Some p → p.cancelled ≡ was_cancelled q (seen_of d past)

was_new : (a b c : Bool) → a ≡ true → cond a false (b || c) ≡ false
was_new a b c e = ap (λ x. cond x false (b || c)) e

was_marked : (a b c : Bool) → a ≡ false → b ≡ true → cond a false (b || c) ≡ true
was_marked a b c e f = ap (λ x. cond x false (b || c)) e ∙ ap (λ x. x || c) f

was_before : (a b c : Bool) → a ≡ false → b ≡ false → cond a false (b || c) ≡ c
was_before a b c e f = ap (λ x. cond x false (b || c)) e ∙ ap (λ x. x || c) f

init_same : (d : SpiTable) (s : SpiState) (q : ℕ) (p x : Pending) (e : Option ErrorName) → find (is_of q) s.pending ≡ Some p → find (is_of q) (acts_by d s Init e).state.pending ≡ Some x → x ≡ p
init_same d s q p x (Some e) there is = some_is x p (sym is ∙ there)
init_same d s q p x None there is = absurd (cc is)

-- what an initialisation or a reset leaves of a sequence that stays pending
dropped_same : (d : SpiTable) (w : World) (s : SpiState) (h : Happening Call) (out : Outcome SpiState) (q : ℕ) (p x : Pending) → (spi_machine d).happens w s h ≡ Some out → drops h ≡ true → find (is_of q) s.pending ≡ Some p → find (is_of q) out.state.pending ≡ Some x
    → (x ≡ p) × ((error : Option ErrorName) → is_cancel q h error ≡ false)
dropped_same d w s (Acts Init times) out q p x made drop there is =
    (init_same d s q p x (error_by d Init (is_off s.mode) (finds_held d s Init)) there (ap (λ (y : Outcome SpiState). find (is_of q) y.state.pending) (some_is _ out made) ∙ is), λ error. refl)
dropped_same d w s (Acts DeInit times) out q p x made drop there is = absurd (cc drop)
dropped_same d w s (Acts (SetAsyncMode m) times) out q p x made drop there is = absurd (cc drop)
dropped_same d w s (Acts MainFunctionHandling times) out q p x made drop there is = absurd (cc drop)
dropped_same d w s (Acts (Channel c call) times) out q p x made drop there is = absurd (cc drop)
dropped_same d w s (Acts (Sequence k call) times) out q p x made drop there is = absurd (cc drop)
dropped_same d w s (Acts (Get query) times) out q p x made drop there is = absurd (cc drop)
dropped_same d w s (Serves l received) out q p x made drop there is = absurd (cc drop)
dropped_same d w s (Starts u made_by received) out q p x made drop there is = absurd (cc drop)
dropped_same d w s (Aborts u) out q p x made drop there is = absurd (cc drop)
dropped_same d w s (Moves order) out q p x made drop there is = absurd (cc drop)
dropped_same d w s (Restarts reason) out q p x made drop there is = no_entry _ x refl (ap (λ (y : Outcome SpiState). find (is_of q) y.state.pending) (some_is _ out made) ∙ is)

module _ (d : SpiTable) (e : Event Call) (past : List (Event Call)) (out : Outcome SpiState) (made : (spi_machine d).happens e.world (state_of d past) e.what ≡ Some out) (before : Marked d past (state_of d past)) where
  abbrev here : SpiState
  here = state_of d past

  abbrev view : SequenceEvent
  view = seen d e.what here out

  goes : Goes d view here out.state
  goes = happens_goes d e.world here e.what out made

  stays_by : (q : ℕ) (p x : Pending) (drop cancel : Bool) → drops e.what ≡ drop → cancels q view ≡ cancel → find (is_of q) here.pending ≡ Some p → find (is_of q) out.state.pending ≡ Some x
      → x.cancelled ≡ cond (accepts q view) false (cancels q view || was_cancelled q (seen_of d past))
  stays_by q p x drop true a b there is =
      let of = cancels_is q e.what out.told.error b in
      marked d e.world here q p there of.0 out x (is_running here q) (ap (λ h. (spi_machine d).happens e.world here h) (sym of.1) ∙ made) of.2 refl is
      ∙ sym (was_marked (accepts q view) (cancels q view) (was_cancelled q (seen_of d past)) (not_accepted d view here out.state q p goes there) b)
  stays_by q p x false false a b there is =
      other_by d e.world here q p there e.what _ _ x out.told.error (happens_sequel d here q p there e.world e.what out made a).1 is b
      (λ times at error. left_by d e.world here q p there e.what out x made is times (Sequence q Cancel) at error)
      ∙ (before q p there ∙ sym (was_before (accepts q view) (cancels q view) (was_cancelled q (seen_of d past)) (not_accepted d view here out.state q p goes there) b))
  stays_by q p x true false a b there is =
      ap (λ (y : Pending). y.cancelled) (dropped_same d e.world here e.what out q p x made a there is).0
      ∙ (before q p there ∙ sym (was_before (accepts q view) (cancels q view) (was_cancelled q (seen_of d past)) (not_accepted d view here out.state q p goes there) b))

  after_by : (q : ℕ) (x : Pending) (o : Option Pending) → find (is_of q) here.pending ≡ o → find (is_of q) out.state.pending ≡ Some x → x.cancelled ≡ cond (accepts q view) false (cancels q view || was_cancelled q (seen_of d past))
  after_by q x None none is = let new = new_entry d view here out.state q x goes none is in new.fresh ∙ sym (was_new (accepts q view) (cancels q view) (was_cancelled q (seen_of d past)) new.accepted)
  after_by q x (Some p) there is = stays_by q p x (drops e.what) (cancels q view) refl refl there is

  pub marked_after : (q : ℕ) (x : Pending) → find (is_of q) out.state.pending ≡ Some x → x.cancelled ≡ cond (accepts q view) false (cancels q view || was_cancelled q (seen_of d past))
  marked_after q x is = after_by q x (find (is_of q) here.pending) refl is

some_out : (o : Option (Outcome SpiState)) → IsSome o → (out : Outcome SpiState) × (o ≡ Some out)
some_out None e = absurd (cc e)
some_out (Some out) e = (out, refl)

-- the event as it is seen where it is allowed
pub seen_is : (d : SpiTable) (e : Event Call) (past : List (Event Call)) (out : Outcome SpiState) → (spi_machine d).happens e.world (state_of d past) e.what ≡ Some out → seen_at d e past ≡ seen d e.what (state_of d past) out
seen_is d e past out made = ap (λ o. seen_between d (state_of d past) (state_by (state_of d past) o) e.what (told_or_nothing o) (begins_by o)) made

pub all_marked : (d : SpiTable) (past : List (Event Call)) → AreAllowed (spi_machine d) first_state past → Marked d past (state_of d past)
all_marked d [] allowed q p is = absurd (cc is)
all_marked d (e ∷ past) allowed q p is =
    let out = some_out ((spi_machine d).happens e.world (state_of d past) e.what) allowed.0 in
    marked_after d e past out.0 out.1 (all_marked d past allowed.1) q p (ap (λ o. find (is_of q) (state_by (state_of d past) o).pending) (sym out.1) ∙ is)
    ∙ ap (λ (v : SequenceEvent). cond (accepts q v) false (cancels q v || was_cancelled q (seen_of d past))) (sym (seen_is d e past out.0 out.1))
