-- Each start on a serial unit starts the next job.
use Rattle.std.proofs.Common.{◌≡◌, ℕ, zero, suc, ◌+◌, ◌<◌, ◌≤◌, ◌==◌, Bool, true, false, cond, ◌&&◌, ◌||◌, not, List, [], ◌∷◌, length, map, Option, Some, None, refl, sym, ◌∙◌, ap, subst, ◌⊎◌, inl, inr, arith}
use Rattle.std.specs.Prelude.{Contains, IsSome, if◌then◌else◌, filter, slice_index_or}
use Rattle.std.specs.List.{AllByRecursion}
use Rattle.std.proofs.lemmas.Bool.Decides.{nat_tests}
use Rattle.std.proofs.lemmas.List.Elements.{Contains-push_cases}
use Rattle.std.proofs.lemmas.Bool.{false_from_ne_true}
use Rattle.mcal_base.specs.declared.answer_name.AnswerName.{AnswerName}
use Rattle.mcal_base.specs.declared.answer_name.AnswerName.TheVariants.{SpiSeqPending}
use Rattle.mcal_base.specs.declared.moves.Unit as units
use Rattle.run_model.specs.Frame.{state_by}
use Rattle.run_model.specs.World.{World}
use Rattle.run_model.specs.Machine.{Happening, Acts, Serves, Starts, Aborts, Moves, Restarts, Outcome}
use Rattle.spi_machine.specs.Promised.{HasPriorities, IsNext, Yields, ToStarted, ToPriority, ToEarlier}
use Rattle.spi_machine.specs.Machine.{spi_machine, start_by, next_at, number_of}
use Rattle.spi_machine.specs.Pending as lists
use Rattle.spi_machine.specs.Pending.{Pending, is_of as is_entry, is_for, starts, goes_to_next, cancels, next_job, keeps_unit, priority_of, requested, sequence_result}
use Rattle.spi_machine.specs.State.{SpiState, first_state}
use Rattle.spi_machine.specs.Table.{jobs_of, job_of, sequence_of, priority_by, is_interruptible, is_on_unit, is_sync_unit}
use Rattle.spi_machine.specs.Wiring.{is_sync_sequence}
use Rattle.spi_machine.specs.declared.call.Call.{Call}
use Rattle.spi_machine.specs.declared.table.SpiTable.{SpiTable}
use Rattle.spi_machine.proofs.Best.{next_is}
use Rattle.spi_machine.proofs.Runs.{start-on}
use Rattle.spi_machine.proofs.Sending.{plain-start}
use Rattle.board_promises.specs.whole_runs.Runs.{Event, state_after, AreAllowed, told_or_nothing}
use Rattle.board_promises.specs.whole_runs.SequenceRuns.{SequenceEvent, seen_between, seen_of, begins_by, accepts, is_pending, starts_job, ends_job, requested_at, jobs_ended, has_started}
use Rattle.board_promises.specs.whole_runs.Order.{job_in, priority_in, keeps_unit_in, GoesFirst, Started, Priority, Earlier, StartsNext, InOrderBy, AreInOrder}
use Rattle.board_promises.proofs.EndsOnce.{Agrees, run_agrees, accepts_no_job}
use Rattle.board_promises.proofs.SequenceSteps.{seen, Goes, Leaves, Accepts, Starting, Advances, Marks, Ending, Initialising, Sends, Resetting, happens_goes}

-- ---- lists

eq_turned : (n k : ℕ) → (k == n) ≡ (n == k)
eq_turned n k = by_test (n == k) refl
  where
    by_test : (b : Bool) → (n == k) ≡ b → (k == n) ≡ b
    by_test true e = grind (arith, nat_tests)
    by_test false e = grind (arith, nat_tests)

-- an entry of a list that was changed one by one
mapped : (f : Pending → Pending) (ps : List Pending) (x : Pending) → Contains (map f ps) x → (p : Pending) × Contains ps p × (f p ≡ x)
mapped f [] x (n, within, is) = absurd (omega (arith, within))
mapped f (p ∷ ps) x (zero, within, is) = (p, (0, omega arith, refl), is)
mapped f (p ∷ ps) x (suc n, within, is) = let rest = mapped f ps x (n, omega (arith, within), is) in (rest.0, further rest.0 rest.1, rest.2)
  where
    further : (y : Pending) → Contains ps y → Contains (p ∷ ps) y
    further y (k, inside, same) = (suc k, omega (arith, inside), same)

-- an entry that is left of a list
left_by : (keep : Pending → Bool) (p : Pending) (ps : List Pending) (x : Pending) (b : Bool) → keep p ≡ b → Contains (cond b (p ∷ filter keep ps) (filter keep ps)) x
    → (Contains (filter keep ps) x → Contains ps x × (keep x ≡ true)) → Contains (p ∷ ps) x × (keep x ≡ true)
left_by keep p ps x true at (zero, within, is) rest = ((0, omega arith, is), ap keep (sym is) ∙ at)
left_by keep p ps x true at (suc n, within, is) rest =
    let found = rest (n, omega (arith, within), is) in ((suc found.0.0, more found.0.1, found.0.2), found.1)
  where
    more : {k n : ℕ} → k < n → suc k < suc n
    more h = omega (arith, h)
left_by keep p ps x false at has rest = let found = rest has in ((suc found.0.0, more found.0.1, found.0.2), found.1)
  where
    more : {k n : ℕ} → k < n → suc k < suc n
    more h = omega (arith, h)

left_of : (keep : Pending → Bool) (ps : List Pending) (x : Pending) → Contains (filter keep ps) x → Contains ps x × (keep x ≡ true)
left_of keep [] x (n, within, is) = absurd (omega (arith, within))
left_of keep (p ∷ ps) x has = left_by keep p ps x (keep p) refl has (left_of keep ps x)

-- the sequence of an entry is pending, and a pending sequence has an entry
is_there : (ps : List Pending) (p : Pending) → Contains ps p → lists.is_pending p.sequence ps ≡ true
is_there [] p (n, within, is) = absurd (omega (arith, within))
is_there (x ∷ ps) p (zero, within, is) = let same : (x.sequence == p.sequence) ≡ true = rw is (eq_turned p.sequence p.sequence ∙ self p.sequence) in rw same refl
  where
    self : (n : ℕ) → (n == n) ≡ true
    self n = grind (arith, nat_tests)
is_there (x ∷ ps) p (suc n, within, is) = rw (is_there ps p (n, omega (arith, within), is)) (or_true (x.sequence == p.sequence))
  where
    or_true : (b : Bool) → (b || true) ≡ true
    or_true true = refl
    or_true false = refl

entry_by : (q : ℕ) (x : Pending) (ps : List Pending) (b : Bool) → (x.sequence == q) ≡ b → (b || lists.is_pending q ps) ≡ true → (lists.is_pending q ps ≡ true → (p : Pending) × Contains ps p × (p.sequence ≡ q))
    → (p : Pending) × Contains (x ∷ ps) p × (p.sequence ≡ q)
entry_by q x ps true at h rest = (x, (0, omega arith, refl), grind (arith, nat_tests, at))
entry_by q x ps false at h rest = let found = rest h in (found.0, (suc found.1.0, more found.1.1, found.1.2), found.2)
  where
    more : {k n : ℕ} → k < n → suc k < suc n
    more h = omega (arith, h)

entry_of : (q : ℕ) (ps : List Pending) → lists.is_pending q ps ≡ true → (p : Pending) × Contains ps p × (p.sequence ≡ q)
entry_of q [] h = absurd (cc h)
entry_of q (x ∷ ps) h = entry_by q x ps (x.sequence == q) refl h (entry_of q ps)

each_at : (P : Pending → Type 0) (ps : List Pending) (p : Pending) → AllByRecursion P ps → Contains ps p → P p
each_at P [] p all (n, within, is) = absurd (omega (arith, within))
each_at P (x ∷ ps) p all (zero, within, is) = subst P is all.0
each_at P (x ∷ ps) p all (suc n, within, is) = each_at P ps p all.1 (n, omega (arith, within), is)

-- ---- what the pending list says

pub record Ordered (past : List SequenceEvent) (s : SpiState) : Type 0 where
  pub next : (p : Pending) → Contains s.pending p → p.next ≡ jobs_ended p.sequence past
  pub started : (p : Pending) → Contains s.pending p → p.started ≡ has_started p.sequence past
  pub numbered : (p : Pending) → Contains s.pending p → p.request ≤ s.requests
  pub order : (p q : Pending) → Contains s.pending p → Contains s.pending q → p.request ≤ q.request → requested_at p.sequence past ≤ requested_at q.sequence past

-- An entry was there before an event.
pub record EntryWas (e : SequenceEvent) (s : SpiState) (x : Pending) : Type 0 where
  pub old : Pending
  pub there : Contains s.pending old
  pub sequence : x.sequence ≡ old.sequence
  pub request : x.request ≡ old.request
  pub accept : accepts old.sequence e ≡ false
  pub next : x.next ≡ cond (ends_job old.sequence e) (suc old.next) old.next
  pub started : x.started ≡ (starts_job old.sequence e || old.started)

pub data EntryGoes (e : SequenceEvent) (s : SpiState) (x : Pending) : Type 0 where
  Old : EntryWas e s x → EntryGoes e s x
  New : x.next ≡ 0 → x.started ≡ false → x.request ≡ s.requests + 1 → accepts x.sequence e ≡ true → EntryGoes e s x

same_entry : (e : SequenceEvent) (s : SpiState) (x : Pending) → Contains s.pending x → accepts x.sequence e ≡ false → starts_job x.sequence e ≡ false → ends_job x.sequence e ≡ false → EntryGoes e s x
same_entry e s x there accept start end = Old (record { old = x; there = there; sequence = refl; request = refl; accept = accept; next = rw end refl; started = rw start refl })

-- an entry that is changed where it is of a sequence
changed_entry : (e : SequenceEvent) (s : SpiState) (k : ℕ) (f : Pending → Pending) (p x : Pending) (b : Bool) → Contains s.pending p → (p.sequence == k) ≡ b → cond b (f p) p ≡ x → ((f p).sequence ≡ p.sequence) → ((f p).request ≡ p.request)
    → accepts p.sequence e ≡ false → (b ≡ true → (f p).next ≡ cond (ends_job p.sequence e) (suc p.next) p.next) → (b ≡ true → (f p).started ≡ (starts_job p.sequence e || p.started))
    → (b ≡ false → (starts_job p.sequence e ≡ false) × (ends_job p.sequence e ≡ false)) → EntryGoes e s x
changed_entry e s k f p x true there at is seq req accept next started other = Old (record {
  old = p;
  there = there;
  sequence = ap (λ (y : Pending). y.sequence) (sym is) ∙ seq;
  request = ap (λ (y : Pending). y.request) (sym is) ∙ req;
  accept = accept;
  next = ap (λ (y : Pending). y.next) (sym is) ∙ next refl;
  started = ap (λ (y : Pending). y.started) (sym is) ∙ started refl;
})
changed_entry e s k f p x false there at is seq req accept next started other =
    subst (λ y. EntryGoes e s y) is (same_entry e s p there accept (other refl).0 (other refl).1)

entries_go : (d : SpiTable) (e : SequenceEvent) (s t : SpiState) → Goes d e s t → (x : Pending) → Contains t.pending x → EntryGoes e s x
entries_go d e s t (Leaves calm reset pending results requests told) x has =
    let there : Contains s.pending x = subst (λ ps. Contains ps x) pending has in
    same_entry e s x there (calm.accepts x.sequence) (calm.starts x.sequence) (calm.ends x there)
entries_go d e s t (Accepts k had own accept reset free pending results requests told) x has = by_place (Contains-push_cases s.pending (requested k (s.requests + 1) had) x (subst (λ ps. Contains ps x) pending has))
  where
    self : (n : ℕ) → (n == n) ≡ true
    self n = grind (arith, nat_tests)

    job_calm : (q : ℕ) → accepts k e ≡ true → (starts_job q e ≡ false) × (ends_job q e ≡ false)
    job_calm q h = accepts_no_job k q e h

    other : Contains s.pending x → (k == x.sequence) ≡ false
    other there = false_from_ne_true (k == x.sequence) (λ same. clash (is_there s.pending x there) (subst (λ n. lists.is_pending n s.pending ≡ false) (grind (arith, nat_tests, same)) free))
      where
        clash : {b : Bool} → b ≡ true → b ≡ false → ⊥
        clash a b = absurd (cc (a, b))

    by_place : Contains s.pending x ⊎ (requested k (s.requests + 1) had ≡ x) → EntryGoes e s x
    by_place (inl there) =
        let calm = job_calm x.sequence (accept k ∙ self k) in
        same_entry e s x there (accept x.sequence ∙ other there) calm.0 calm.1
    by_place (inr same) = subst (λ y. EntryGoes e s y) same (New refl refl refl (accept k ∙ self k))
entries_go d e s t (Starting k accept reset start end pending results requests told) x has =
    let found = mapped (λ p. if is_entry k p then starts p else p) s.pending x (subst (λ ps. Contains ps x) pending has) in
    let p : Pending = found.0 in
    changed_entry e s k starts p x (p.sequence == k) found.1 refl found.2 refl refl (accept p.sequence) (λ b. rw (end p.sequence) refl) (λ b. rw (start p.sequence, eq_turned p.sequence k, b) refl)
    (λ b. (start p.sequence ∙ eq_turned p.sequence k ∙ b, end p.sequence))
entries_go d e s t (Advances k accept reset start end pending results requests told) x has =
    let found = mapped (λ p. if is_entry k p then goes_to_next p else p) s.pending x (subst (λ ps. Contains ps x) pending has) in
    let p : Pending = found.0 in
    changed_entry e s k goes_to_next p x (p.sequence == k) found.1 refl found.2 refl refl (accept p.sequence) (λ b. rw (end p.sequence, eq_turned p.sequence k, b) (one_more p.next)) (λ b. rw (start p.sequence) refl)
    (λ b. (start p.sequence, end p.sequence ∙ eq_turned p.sequence k ∙ b))
  where
    one_more : (n : ℕ) → n + 1 ≡ suc n
    one_more n = omega arith
entries_go d e s t (Marks k calm reset pending results requests told) x has =
    let found = mapped (λ p. if is_entry k p then cancels p else p) s.pending x (subst (λ ps. Contains ps x) pending has) in
    let p : Pending = found.0 in
    changed_entry e s k cancels p x (p.sequence == k) found.1 refl found.2 refl refl (calm.accepts p.sequence) (λ b. rw (calm.ends p found.1) refl) (λ b. rw (calm.starts p.sequence) refl)
    (λ b. (calm.starts p.sequence, calm.ends p found.1))
entries_go d e s t (Ending k y accept reset start end there one pending results requests told) x has =
    let found = left_of (λ p. not (is_entry k p)) s.pending x (subst (λ ps. Contains ps x) pending has) in
    same_entry e s x found.0 (accept x.sequence) (start x.sequence) (end x.sequence (eq_turned x.sequence k ∙ is_not (x.sequence == k) found.1))
  where
    is_not : (b : Bool) → not b ≡ true → b ≡ false
    is_not true h = absurd (cc h)
    is_not false h = refl
entries_go d e s t (Initialising begin accept reset off pending results told) x has = absurd (none (subst (λ ps. Contains ps x) pending has))
  where
    none : Contains {X = Pending} [] x → ⊥
    none (n, within, is) = omega (arith, within)
entries_go d e s t (Sends k y sync calm reset pending results requests told) x has =
    let there : Contains s.pending x = subst (λ ps. Contains ps x) pending has in
    same_entry e s x there (calm.accepts x.sequence) (calm.starts x.sequence) (calm.ends x there)
entries_go d e s t (Resetting reset accept pending results told) x has = absurd (none (subst (λ ps. Contains ps x) pending has))
  where
    none : Contains {X = Pending} [] x → ⊥
    none (n, within, is) = omega (arith, within)

-- ---- what an event leaves of it

-- requests count on
abbrev Bound : SequenceEvent → SpiState → SpiState → Pending → Type 0
Bound e s t x = (s.requests ≤ t.requests) × (accepts x.sequence e ≡ true → t.requests ≡ s.requests + 1)

bound_same : (e : SequenceEvent) (s t : SpiState) (x : Pending) → ((q : ℕ) → accepts q e ≡ false) → t.requests ≡ s.requests → Bound e s t x
bound_same e s t x accept same = (omega (arith, same), λ h. absurd (clash h (accept x.sequence)))
  where
    clash : {b : Bool} → b ≡ true → b ≡ false → ⊥
    clash a b = absurd (cc (a, b))

bound : (d : SpiTable) (e : SequenceEvent) (s t : SpiState) → Goes d e s t → (x : Pending) → Contains t.pending x → Bound e s t x
bound d e s t (Leaves calm reset pending results requests told) x has = bound_same e s t x calm.accepts requests
bound d e s t (Accepts k had own accept reset free pending results requests told) x has = (omega (arith, requests), λ h. requests)
bound d e s t (Starting k accept reset start end pending results requests told) x has = bound_same e s t x accept requests
bound d e s t (Advances k accept reset start end pending results requests told) x has = bound_same e s t x accept requests
bound d e s t (Marks k calm reset pending results requests told) x has = bound_same e s t x calm.accepts requests
bound d e s t (Ending k y accept reset start end there one pending results requests told) x has = bound_same e s t x accept requests
bound d e s t (Initialising begin accept reset off pending results told) x has = absurd (none (subst (λ ps. Contains ps x) pending has))
  where
    none : Contains {X = Pending} [] x → ⊥
    none (n, within, is) = omega (arith, within)
bound d e s t (Sends k y sync calm reset pending results requests told) x has = bound_same e s t x calm.accepts requests
bound d e s t (Resetting reset accept pending results told) x has = absurd (none (subst (λ ps. Contains ps x) pending has))
  where
    none : Contains {X = Pending} [] x → ⊥
    none (n, within, is) = omega (arith, within)

-- the request of a sequence was among the events
within_past : (q : ℕ) (past : List SequenceEvent) → requested_at q past ≤ length past
within_past q [] = omega arith
within_past q (e ∷ past) = by_test (accepts q e) (within_past q past)
  where
    by_test : (b : Bool) → requested_at q past ≤ length past → cond b (length past) (requested_at q past) ≤ length (e ∷ past)
    by_test true h = omega arith
    by_test false h = omega (arith, h)

next_after : (e : SequenceEvent) (past : List SequenceEvent) (s : SpiState) (x : Pending) → EntryGoes e s x → Ordered past s → x.next ≡ jobs_ended x.sequence (e ∷ past)
next_after e past s x (Old was) h =
    was.next ∙ ap (λ n. cond (ends_job was.old.sequence e) (suc n) n) (h.next was.old was.there) ∙ sym (ap (λ q. jobs_ended q (e ∷ past)) was.sequence ∙ ended_by was.accept)
  where
    ended_by : accepts was.old.sequence e ≡ false → jobs_ended was.old.sequence (e ∷ past) ≡ cond (ends_job was.old.sequence e) (suc (jobs_ended was.old.sequence past)) (jobs_ended was.old.sequence past)
    ended_by accept = rw accept refl
next_after e past s x (New none new request accept) h = none ∙ sym (rw accept refl)

started_after : (e : SequenceEvent) (past : List SequenceEvent) (s : SpiState) (x : Pending) → EntryGoes e s x → Ordered past s → x.started ≡ has_started x.sequence (e ∷ past)
started_after e past s x (Old was) h =
    was.started ∙ ap (λ b. starts_job was.old.sequence e || b) (h.started was.old was.there) ∙ sym (ap (λ q. has_started q (e ∷ past)) was.sequence ∙ started_by was.accept)
  where
    started_by : accepts was.old.sequence e ≡ false → has_started was.old.sequence (e ∷ past) ≡ (starts_job was.old.sequence e || has_started was.old.sequence past)
    started_by accept = rw accept refl
started_after e past s x (New none new request accept) h = new ∙ sym (rw accept refl)

numbered_after : (e : SequenceEvent) (past : List SequenceEvent) (s t : SpiState) (x : Pending) → EntryGoes e s x → Bound e s t x → Ordered past s → x.request ≤ t.requests
numbered_after e past s t x (Old was) b h = let f = was.request in let g = h.numbered was.old was.there in let k = b.0 in omega (arith, f, g, k)
numbered_after e past s t x (New none new request accept) b h = let k = b.1 accept in omega (arith, request, k)

-- when the request of an entry came
at_old : (e : SequenceEvent) (past : List SequenceEvent) (s : SpiState) (x : Pending) (was : EntryWas e s x) → requested_at x.sequence (e ∷ past) ≡ requested_at was.old.sequence past
at_old e past s x was = ap (λ q. requested_at q (e ∷ past)) was.sequence ∙ at_by was.accept
  where
    at_by : accepts was.old.sequence e ≡ false → requested_at was.old.sequence (e ∷ past) ≡ requested_at was.old.sequence past
    at_by accept = rw accept refl

at_new : (e : SequenceEvent) (past : List SequenceEvent) (q : ℕ) → accepts q e ≡ true → requested_at q (e ∷ past) ≡ length past
at_new e past q accept = rw accept refl

order_after : (e : SequenceEvent) (past : List SequenceEvent) (s : SpiState) (x y : Pending) → EntryGoes e s x → EntryGoes e s y → Ordered past s → x.request ≤ y.request → requested_at x.sequence (e ∷ past) ≤ requested_at y.sequence (e ∷ past)
order_after e past s x y (Old a) (Old b) h le =
    let f = a.request in
    let g = b.request in
    let old : requested_at a.old.sequence past ≤ requested_at b.old.sequence past = h.order a.old b.old a.there b.there (omega (arith, f, g, le)) in
    let m = at_old e past s x a in
    let n = at_old e past s y b in
    omega (arith, m, n, old)
order_after e past s x y (Old a) (New none new request accept) h le =
    let m = at_old e past s x a in
    let n = at_new e past y.sequence accept in
    let w = within_past a.old.sequence past in
    omega (arith, m, n, w)
order_after e past s x y (New none new request accept) (Old b) h le =
    let g = b.request in
    let w = h.numbered b.old b.there in
    absurd (omega (arith, g, w, request, le))
order_after e past s x y (New none new request accept) (New none2 new2 request2 accept2) h le =
    let m = at_new e past x.sequence accept in
    let n = at_new e past y.sequence accept2 in
    omega (arith, m, n)

pub ordered_after : (d : SpiTable) (e : SequenceEvent) (past : List SequenceEvent) (s t : SpiState) → Goes d e s t → Ordered past s → Ordered (e ∷ past) t
ordered_after d e past s t goes h = record {
  next = λ x has. next_after e past s x (entries_go d e s t goes x has) h;
  started = λ x has. started_after e past s x (entries_go d e s t goes x has) h;
  numbered = λ x has. numbered_after e past s t x (entries_go d e s t goes x has) (bound d e s t goes x has) h;
  order = λ x y has other le. order_after e past s x y (entries_go d e s t goes x has) (entries_go d e s t goes y other) h le;
}

-- ---- a start

pending_is : (x : AnswerName) → is_pending x ≡ true → x ≡ SpiSeqPending
pending_is SpiSeqPending h = refl
pending_is x h = absurd (cc h)

-- the next job of an entry, its priority, and whether it keeps its unit, by the run
job_is : (d : SpiTable) (past : List SequenceEvent) (s : SpiState) (p : Pending) → Ordered past s → Contains s.pending p → next_job d p ≡ job_in d p.sequence past
job_is d past s p h there = ap (λ n. slice_index_or (jobs_of d p.sequence) n 0) (h.next p there)

priority_is : (d : SpiTable) (past : List SequenceEvent) (s : SpiState) (p : Pending) → Ordered past s → Contains s.pending p → priority_of d p ≡ priority_in d p.sequence past
priority_is d past s p h there = ap (λ j. priority_by (job_of d j)) (job_is d past s p h there)

keeps_is : (d : SpiTable) (past : List SequenceEvent) (s : SpiState) (p : Pending) → Ordered past s → Contains s.pending p → keeps_unit d p ≡ keeps_unit_in d p.sequence past
keeps_is d past s p h there = ap (λ b. b && not (is_interruptible (sequence_of d p.sequence))) (h.started p there)

goes_first : (d : SpiTable) (past : List SequenceEvent) (s : SpiState) (q p : Pending) → Ordered past s → Contains s.pending q → Contains s.pending p → Yields d q p → GoesFirst d past p.sequence q.sequence
goes_first d past s q p h has there (ToStarted keeps free) = Started (sym (keeps_is d past s p h there) ∙ keeps) (sym (keeps_is d past s q h has) ∙ free)
goes_first d past s q p h has there (ToPriority other own less) =
    let a = priority_is d past s q h has in
    let b = priority_is d past s p h there in
    Priority (sym (keeps_is d past s p h there) ∙ other) (sym (keeps_is d past s q h has) ∙ own) (omega (arith, a, b, less))
goes_first d past s q p h has there (ToEarlier same both le) =
    Earlier (sym (keeps_is d past s p h there) ∙ same ∙ keeps_is d past s q h has) (by_both both) (h.order p q there has le)
  where
    by_both : (keeps_unit d q ≡ true) ⊎ (priority_of d q ≡ priority_of d p) → (keeps_unit_in d p.sequence past ≡ true) ⊎ (priority_in d p.sequence past ≡ priority_in d q.sequence past)
    by_both (inl keeps) = inl (sym (keeps_is d past s p h there) ∙ same ∙ keeps)
    by_both (inr equal) = inr (sym (priority_is d past s p h there) ∙ sym equal ∙ priority_is d past s q h has)

start_next : (d : SpiTable) (past : List SequenceEvent) (s : SpiState) (e : SequenceEvent) (u : ℕ) (p : Pending) → HasPriorities d → Ordered past s → Agrees d s → next_at d s (Some u) ≡ Some p
    → e.sequence ≡ Some p.sequence → e.job ≡ Some (next_job d p) → ((q : ℕ) → e.had q ≡ sequence_result s.sequence_results q) → StartsNext d u e past
start_next d past s e u p fits h agrees at named job had =
    let best : IsNext d u s.pending p = next_is d u s.pending p fits (start-on d s u p at) in
    record {
      sequence = p.sequence;
      named = named;
      job = job ∙ ap (λ j. Some j) (job_is d past s p h best.among);
      pending = had p.sequence ∙ pending_is (sequence_result s.sequence_results p.sequence) (agrees.plain p.sequence (is_plain p best.among) ∙ is_there s.pending p best.among);
      on = ap (λ j. is_on_unit u (job_of d j)) (sym (job_is d past s p h best.among)) ∙ best.on;
      first = λ other plain waits on. first_by best other (entry_of other s.pending (sym (agrees.plain other plain) ∙ ap (λ r. is_pending r) (sym (had other) ∙ waits))) on;
    }
  where
    is_plain : (q : Pending) → Contains s.pending q → is_sync_sequence d q.sequence ≡ false
    is_plain q there = false_from_ne_true (is_sync_sequence d q.sequence) (λ sync. clash (is_there s.pending q there) (agrees.sent q.sequence sync))
      where
        clash : {b : Bool} → b ≡ true → b ≡ false → ⊥
        clash a b = absurd (cc (a, b))

    first_by : IsNext d u s.pending p → (other : ℕ) → (q : Pending) × Contains s.pending q × (q.sequence ≡ other) → is_on_unit u (job_of d (job_in d other past)) ≡ true → GoesFirst d past p.sequence other
    first_by best other (q, there, same) on =
        let for_unit : is_for d u q ≡ true = ap (λ j. is_on_unit u (job_of d j)) (job_is d past s q h there) ∙ ap (λ n. is_on_unit u (job_of d (job_in d n past))) same ∙ on in
        subst (λ n. GoesFirst d past p.sequence n) same (goes_first d past s q p h there best.among (each_at (λ q. is_for d u q ≡ true → Yields d q p) s.pending q best.first there for_unit))

start_by_next : (d : SpiTable) (w : World) (past : List SequenceEvent) (s : SpiState) (unit : units.Unit) (made_by : Option Call) (received u : ℕ) (o : Option Pending) (out : Outcome SpiState) → HasPriorities d → Ordered past s → Agrees d s
    → number_of unit ≡ Some u → is_sync_unit d u ≡ false → next_at d s (Some u) ≡ o → start_by d w s (Some u) received o ≡ Some out → StartsNext d u (seen d (Starts unit made_by received) s out) past
start_by_next d w past s unit made_by received u None out fits h agrees num plain at e = absurd (cc e)
start_by_next d w past s unit made_by received u (Some p) out fits h agrees num plain at e =
    start_next d past s (seen d (Starts unit made_by received) s out) u p fits h agrees at (rw (num, plain, at) refl) (rw (num, plain, at) refl) (λ q. refl)

in_order : (d : SpiTable) (w : World) (past : List SequenceEvent) (s : SpiState) (h : Happening Call) (out : Outcome SpiState) → HasPriorities d → Ordered past s → Agrees d s → (spi_machine d).happens w s h ≡ Some out
    → InOrderBy d (seen d h s out) past h
in_order d w past s (Acts call times) out fits o agrees e = tt
in_order d w past s (Serves l received) out fits o agrees e = tt
in_order d w past s (Starts unit made_by received) out fits o agrees e =
    λ u num plain.
    start_by_next d w past s unit made_by received u (next_at d s (Some u)) out fits o agrees num plain refl
    (ap (λ k. start_by d w s k received (next_at d s k)) (sym num) ∙ plain-start d w s (number_of unit) made_by received out u e num plain)
in_order d w past s (Aborts u) out fits o agrees e = tt
in_order d w past s (Moves order) out fits o agrees e = tt
in_order d w past s (Restarts reason) out fits o agrees e = tt

-- ---- a run

abbrev After : SpiTable → SpiState → Event Call → List SequenceEvent → Option (Outcome SpiState) → Type 0
After d s e past o = let x : SequenceEvent = seen_between d s (state_by s o) e.what (told_or_nothing o) (begins_by o) in InOrderBy d x past e.what × Ordered (x ∷ past) (state_by s o)

event_order : (d : SpiTable) (s : SpiState) (e : Event Call) (past : List SequenceEvent) (o : Option (Outcome SpiState)) → HasPriorities d → (spi_machine d).happens e.world s e.what ≡ o → IsSome o → Ordered past s → Agrees d s → After d s e past o
event_order d s e past None fits at some h agrees = absurd (cc some)
event_order d s e past (Some out) fits at some h agrees =
    (in_order d e.world past s e.what out fits h agrees at, ordered_after d (seen d e.what s out) past s out.state (happens_goes d e.world s e.what out at) h)

none_ordered : Ordered [] first_state
none_ordered = record {
  next = λ p has. absurd (none p has);
  started = λ p has. absurd (none p has);
  numbered = λ p has. absurd (none p has);
  order = λ p q has other le. absurd (none p has);
}
  where
    none : (p : Pending) → Contains {X = Pending} [] p → ⊥
    none p (n, within, is) = omega (arith, within)

run_order : (d : SpiTable) (past : List (Event Call)) → HasPriorities d → AreAllowed (spi_machine d) first_state past
    → AreInOrder d (seen_of d past) × Ordered (seen_of d past) (state_after (spi_machine d) first_state past)
run_order d [] fits allowed = (tt, none_ordered)
run_order d (e ∷ past) fits allowed =
    let before = run_order d past fits allowed.1 in
    let s : SpiState = state_after (spi_machine d) first_state past in
    let after : After d s e (seen_of d past) ((spi_machine d).happens e.world s e.what) =
    event_order d s e (seen_of d past) ((spi_machine d).happens e.world s e.what) fits refl allowed.0 before.1 (run_agrees d past allowed.1) in
    ((after.0, before.0), after.1)

pub all_in_order : (d : SpiTable) (past : List (Event Call)) → HasPriorities d → AreAllowed (spi_machine d) first_state past → AreInOrder d (seen_of d past)
all_in_order d past fits allowed = (run_order d past fits allowed).0
