-- What each happening does to a sequence: it stays, is requested or ends.
use Rattle.std.proofs.Common.{◌≡◌, ℕ, Bool, true, false, not, cond, ◌&&◌, ◌||◌, ◌==◌, ◌≢◌, List, [], ◌∷◌, ◌++◌, Option, Some, None, refl, sym, ◌∙◌, ap, subst, ◌⊎◌, inl, inr}
use Rattle.std.specs.Prelude.{find, drop}
use Rattle.std.specs.List.{list_any}
use Rattle.std.proofs.lemmas.List.Folds.{list_any-append}
use Rattle.std.proofs.lemmas.Bool.{or_parts}
use Rattle.mcal_base.specs.facts.Truths.{and_false, and_true, or_false, or_true}
use Rattle.mcal_base.specs.facts.Options.{some_is}
use Rattle.mcal_base.specs.facts.Numbers.{eq_is, eq_self, eq_turned, same_or_other}
use Rattle.mcal_base.specs.declared.answer_name.AnswerName.{AnswerName}
use Rattle.mcal_base.specs.declared.answer_name.AnswerName.TheVariants.{SpiSeqOk, SpiSeqPending, SpiSeqFailed, SpiSeqCanceled}
use Rattle.mcal_base.specs.declared.directive.Order.{Order}
use Rattle.mcal_base.specs.declared.directive.Order.TheVariants.{Fill, SpiFault}
use Rattle.mcal_base.specs.declared.error_name.ErrorName.{ErrorName}
use Rattle.mcal_base.specs.declared.service.Service.TheVariants as services
use Rattle.mcal_base.specs.det_errors.Rows.{first_error}
use Rattle.run_model.specs.Machine.{Happening, Acts, Serves, Starts, Aborts, Moves, Restarts, Told, Outcome, tells_nothing, outcome}
use Rattle.run_model.specs.World.{World}
use Rattle.spi_machine.proofs.Numbers.{item-same, item-other}
use Rattle.spi_machine.proofs.Results.{repeats-drop, results-own}
use Rattle.spi_machine.proofs.Runs.{stored-seen, after_last-seen, serve_by}
use Rattle.spi_machine.proofs.Sending.{act-either, start-either, carried-right}
use Rattle.spi_machine.specs.Checks.{error_by, is_wrong_sequence}
use Rattle.spi_machine.specs.Promised.{Turn, Stays, Begins, Ends, names_end, tells_end, is_init, drops, is_cancelled, takes_failed, has_failed, ends_as, had_by, had_of, first_unrun, GivesBack}
use Rattle.spi_machine.specs.Machine.{spi_machine, acts_by, work, unless_busy, cancelled, cancelled_by, finds_held, ended, after_last, sequence_after, job_over, served_by, served, unit_of, run_of, ready, started, start_by, next_at, number_of, moved, sent, sent_on, sequence_result_by}
use Rattle.spi_machine.specs.Wiring.{unit_of_sequence, is_sync_sequence}
use Rattle.spi_machine.specs.State.{SpiState, Carrying, is_busy, is_off, is_running, notes, job_notice, sequence_notice}
use Rattle.spi_machine.specs.Pending.{Pending, is_of, is_pending, changed, without, starts, goes_to_next, cancels, is_held, shares_job, end_by, has_further, next_job, given_back, sequence_result}
use Rattle.spi_machine.specs.Table.{jobs_of, sequence_of, notifies_sequence, job_of, notifies_job}
use Rattle.spi_machine.specs.Transfers.{JobWord, Run, goes_on, word_of}
use Rattle.spi_machine.specs.declared.call.Call.{Call}
use Rattle.spi_machine.specs.declared.call.Call.TheVariants.{Init, DeInit, SetAsyncMode, MainFunctionHandling, Channel, Sequence, Get}
use Rattle.spi_machine.specs.declared.call.ChannelCall.TheVariants.{WriteIb, ReadIb, SetupEb}
use Rattle.spi_machine.specs.declared.call.SequenceCall.TheVariants.{AsyncTransmit, Cancel, SyncTransmit}
use Rattle.spi_machine.specs.declared.table.SpiTable.{SpiTable}

-- ---- the pending list

-- a change that keeps the sequence's number keeps what is pending
changed_item : (q : ℕ) (f : Pending → Pending) (p : Pending) (b : Bool) → (f p).sequence ≡ p.sequence → (cond b (f p) p).sequence ≡ p.sequence
changed_item q f p true e = e
changed_item q f p false e = refl

pub pending-changed : (q k : ℕ) (f : Pending → Pending) → ((p : Pending) → (f p).sequence ≡ p.sequence) → (ps : List Pending) → is_pending q (changed k f ps) ≡ is_pending q ps
pending-changed q k f e [] = refl
pending-changed q k f e (p ∷ ps) =
    rw (pending-changed q k f e ps, changed_item k f p (p.sequence == k) (e p)) refl

-- without a sequence it isn't pending, and the others are as before
without_by : (q : ℕ) (p : Pending) (ps rest : List Pending) (b : Bool) → (p.sequence == q) ≡ b → is_pending q rest ≡ false → is_pending q (cond (not b) (p ∷ rest) rest) ≡ false
without_by q p ps rest true e h = h
without_by q p ps rest false e h = rw (e, h) refl

pub pending-without : (q : ℕ) (ps : List Pending) → is_pending q (without q ps) ≡ false
pending-without q [] = refl
pending-without q (p ∷ ps) = without_by q p ps (without q ps) (p.sequence == q) refl (pending-without q ps)

other_by : (q k : ℕ) (p : Pending) (ps rest : List Pending) (b : Bool) → q ≢ k → (p.sequence == k) ≡ b → is_pending q rest ≡ is_pending q ps
    → is_pending q (cond (not b) (p ∷ rest) rest) ≡ is_pending q (p ∷ ps)
other_by q k p ps rest true ne e h = let g : p.sequence ≡ k = eq_is p.sequence k e in rw (g, eq_turned q k ne) h
other_by q k p ps rest false ne e h = rw h refl

pending-other : (q k : ℕ) (ps : List Pending) → q ≢ k → is_pending q (without k ps) ≡ is_pending q ps
pending-other q k [] ne = refl
pending-other q k (p ∷ ps) ne = other_by q k p ps (without k ps) (p.sequence == k) ne refl (pending-other q k ps ne)

-- ---- what the jobs had

had-head : (b : Bool) (x y : Pending) (xs ys : Option Pending) → x.had ≡ y.had → had_by xs ≡ had_by ys → had_by (cond b (Some x) xs) ≡ had_by (cond b (Some y) ys)
had-head true x y xs ys e h = e
had-head false x y xs ys e h = h

changed_had : (f : Pending → Pending) (p : Pending) (b : Bool) → (f p).had ≡ p.had → (cond b (f p) p).had ≡ p.had
changed_had f p true e = e
changed_had f p false e = refl

had-changed : (q k : ℕ) (f : Pending → Pending) → ((p : Pending) → (f p).sequence ≡ p.sequence) → ((p : Pending) → (f p).had ≡ p.had) → (ps : List Pending)
    → had_of q (changed k f ps) ≡ had_of q ps
had-changed q k f e g [] = refl
had-changed q k f e g (p ∷ ps) =
    let x : Pending = cond (p.sequence == k) (f p) p in
    ap (λ n. had_by (cond (n == q) (Some x) (find (is_of q) (changed k f ps)))) (changed_item k f p (p.sequence == k) (e p))
    ∙ had-head (p.sequence == q) x p (find (is_of q) (changed k f ps)) (find (is_of q) ps) (changed_had f p (p.sequence == k) (g p)) (had-changed q k f e g ps)

had-other_by : (q k : ℕ) (p : Pending) (ps rest : List Pending) (b : Bool) → q ≢ k → (p.sequence == k) ≡ b → had_of q rest ≡ had_of q ps
    → had_of q (cond (not b) (p ∷ rest) rest) ≡ had_of q (p ∷ ps)
had-other_by q k p ps rest true ne e h = let g : (p.sequence == q) ≡ false = rw (eq_is p.sequence k e) (eq_turned q k ne) in rw g h
had-other_by q k p ps rest false ne e h = had-head (p.sequence == q) p p (find (is_of q) rest) (find (is_of q) ps) refl h

had-other : (q k : ℕ) (ps : List Pending) → q ≢ k → had_of q (without k ps) ≡ had_of q ps
had-other q k [] ne = refl
had-other q k (p ∷ ps) ne = had-other_by q k p ps (without k ps) (p.sequence == k) ne refl (had-other q k ps ne)

had-joined : (k : ℕ) (ps : List Pending) (x : Pending) → x.sequence ≡ k → is_pending k ps ≡ false → had_of k (ps ++ x ∷ []) ≡ x.had
had-joined k [] x e h = let g : (x.sequence == k) ≡ true = rw e (eq_self k) in rw g refl
had-joined k (p ∷ ps) x e h =
    let parts = or_parts (p.sequence == k) (is_pending k ps) h in
    rw parts.0 (had-joined k ps x e parts.1)

had-beside : (q k : ℕ) (ps : List Pending) (x : Pending) → x.sequence ≡ k → q ≢ k → had_of q (ps ++ x ∷ []) ≡ had_of q ps
had-beside q k [] x e ne = let g : (x.sequence == q) ≡ false = rw e (eq_turned q k ne) in rw g refl
had-beside q k (p ∷ ps) x e ne = had-head (p.sequence == q) p p (find (is_of q) (ps ++ x ∷ [])) (find (is_of q) ps) refl (had-beside q k ps x e ne)

-- ---- an entry that is found

-- an entry that is found is of the sequence, which is pending
found_by : (k : ℕ) (p x : Pending) (ps : List Pending) (b : Bool) → (p.sequence == k) ≡ b → cond b (Some p) (find (is_of k) ps) ≡ Some x
    → (find (is_of k) ps ≡ Some x → (x.sequence ≡ k) × (is_pending k ps ≡ true)) → (x.sequence ≡ k) × ((b || is_pending k ps) ≡ true)
found_by k p x ps true e h rest = let g : p ≡ x = cc h in (rw (← g) (eq_is p.sequence k e), refl)
found_by k p x ps false e h rest = rest h

pub found : (k : ℕ) (x : Pending) (ps : List Pending) → find (is_of k) ps ≡ Some x → (x.sequence ≡ k) × (is_pending k ps ≡ true)
found k x [] h = absurd (cc h)
found k x (p ∷ ps) h = found_by k p x ps (p.sequence == k) refl h (found k x ps)

-- ---- notices

tells-job : (d : SpiTable) (q j : ℕ) (b : Bool) → notifies_job (job_of d j) ≡ b → list_any (names_end q) (job_notice d j) ≡ false
tells-job d q j true e = rw e refl
tells-job d q j false e = rw e refl

tells-sequence_by : (d : SpiTable) (q k : ℕ) (b : Bool) → notifies_sequence (sequence_of d k) ≡ b → list_any (names_end q) (sequence_notice d k) ≡ (b && (k == q))
tells-sequence_by d q k true e = rw e (or_false (k == q))
tells-sequence_by d q k false e = rw e refl

pub tells-own : (d : SpiTable) (q : ℕ) → list_any (names_end q) (sequence_notice d q) ≡ notifies_sequence (sequence_of d q)
tells-own d q = tells-sequence_by d q q (notifies_sequence (sequence_of d q)) refl ∙ rw (eq_self q) (and_true (notifies_sequence (sequence_of d q)))

tells-other : (d : SpiTable) (q k : ℕ) → q ≢ k → list_any (names_end q) (sequence_notice d k) ≡ false
tells-other d q k ne = tells-sequence_by d q k (notifies_sequence (sequence_of d k)) refl ∙ rw (eq_turned q k ne) (and_false (notifies_sequence (sequence_of d k)))

-- ---- a sequence that ends, and all others

-- why a sequence ends, and with which result
abbrev EndsFor : SpiTable → SpiState → Happening Call → Pending → AnswerName → Type 0
EndsFor d s h p result =
    (is_cancelled p.sequence h p || takes_failed s h || not (has_further d p) ≡ true) × (result ≡ ends_as (is_cancelled p.sequence h p) (takes_failed s h))

given-back : (d : SpiTable) (t : SpiState) (h : Happening Call) (p : Pending) → GivesBack d h p (given_back d p (first_unrun h p) t.job_results)
given-back d t h p once n j x a b =
    results-own (drop (first_unrun h p) (jobs_of d p.sequence)) (drop (first_unrun h p) p.had) t.job_results n j x (repeats-drop (first_unrun h p) (jobs_of d p.sequence) once) a b

ended-turn : (d : SpiTable) (q : ℕ) (s t : SpiState) (h : Happening Call) (p : Pending) (result : AnswerName) (told : Told)
    → t.pending ≡ s.pending → t.sequence_results ≡ s.sequence_results → find (is_of p.sequence) s.pending ≡ Some p → EndsFor d s h p result
    → ((k : ℕ) → tells_end k told ≡ list_any (names_end k) (sequence_notice d p.sequence)) → (q ≡ p.sequence) ⊎ (q ≢ p.sequence)
    → Turn d q s h (outcome (ended d t p (first_unrun h p) result) told)
ended-turn d q s t h p result told e f there why tells (inl at) =
    Ends p (rw at there) (rw at (pending-without p.sequence t.pending)) (rw at why.0) (rw at (item-same SpiSeqOk t.sequence_results p.sequence result ∙ why.1))
    (given-back d t h p) (rw at (tells p.sequence ∙ tells-own d p.sequence))
ended-turn d q s t h p result told e f there why tells (inr ne) =
    Stays (pending-other q p.sequence t.pending ne ∙ ap (λ ps. is_pending q ps) e)
    (item-other SpiSeqOk t.sequence_results p.sequence q result ne ∙ ap (λ rs. sequence_result rs q) f)
    (had-other q p.sequence t.pending ne ∙ ap (λ ps. had_of q ps) e) (tells q ∙ tells-other d q p.sequence ne)

why-ends : (c f g : Bool) (r : AnswerName) → end_by c f g ≡ Some r → (c || f || not g ≡ true) × (r ≡ ends_as c f)
why-ends true f g r h = (refl, sym (some_is SpiSeqCanceled r h))
why-ends false true g r h = (refl, sym (some_is SpiSeqFailed r h))
why-ends false false true r h = absurd (cc h)
why-ends false false false r h = (refl, sym (some_is SpiSeqOk r h))

tells-both : (d : SpiTable) (j k n : ℕ) → list_any (names_end n) (job_notice d j ++ sequence_notice d k) ≡ list_any (names_end n) (sequence_notice d k)
tells-both d j k n = list_any-append (names_end n) (job_notice d j) (sequence_notice d k) ∙ rw (tells-job d n j (notifies_job (job_of d j)) refl) refl

sequence_after-turn : (d : SpiTable) (q : ℕ) (s t : SpiState) (l received : ℕ) (p : Pending) (e : Option AnswerName) → t.pending ≡ s.pending → t.sequence_results ≡ s.sequence_results
    → find (is_of p.sequence) s.pending ≡ Some p → ((r : AnswerName) → e ≡ Some r → EndsFor d s (Serves l received) p r) → Turn d q s (Serves l received) (sequence_after d t p e)
sequence_after-turn d q s t l received p None e f there why =
    Stays (pending-changed q p.sequence goes_to_next (λ p. refl) t.pending ∙ ap (λ ps. is_pending q ps) e) (ap (λ rs. sequence_result rs q) f)
    (had-changed q p.sequence goes_to_next (λ p. refl) (λ p. refl) t.pending ∙ ap (λ ps. had_of q ps) e) (tells-job d q (next_job d p) (notifies_job (job_of d (next_job d p))) refl)
sequence_after-turn d q s t l received p (Some r) e f there why =
    ended-turn d q s t (Serves l received) p r (notes (job_notice d (next_job d p) ++ sequence_notice d p.sequence)) e f there (why r refl)
    (λ k. tells-both d (next_job d p) p.sequence k) (same_or_other q p.sequence)

-- the entry that is found of a sequence is found of its own
found_own : (k : ℕ) (p : Pending) (ps : List Pending) → find (is_of k) ps ≡ Some p → find (is_of p.sequence) ps ≡ Some p
found_own k p ps h = ap (λ k. find (is_of k) ps) (found k p ps h).0 ∙ h

-- a serving takes a failed word or not, and cancels nothing
why-serves : (d : SpiTable) (s : SpiState) (l received : ℕ) (failed : Bool) (p : Pending) (r : AnswerName) → takes_failed s (Serves l received) ≡ failed
    → end_by p.cancelled failed (has_further d p) ≡ Some r → EndsFor d s (Serves l received) p r
why-serves d s l received failed p r e h = rw e (why-ends p.cancelled failed (has_further d p) r h)

job_over-turn : (d : SpiTable) (q : ℕ) (s t : SpiState) (l received u k : ℕ) (failed : Bool) (o : Option Pending) → t.pending ≡ s.pending → t.sequence_results ≡ s.sequence_results
    → takes_failed s (Serves l received) ≡ failed → find (is_of k) s.pending ≡ o → Turn d q s (Serves l received) (job_over d t u failed o)
job_over-turn d q s t l received u k failed None e f g h = Stays (ap (λ ps. is_pending q ps) e) (ap (λ rs. sequence_result rs q) f) (ap (λ ps. had_of q ps) e) refl
job_over-turn d q s t l received u k failed (Some p) e f g h =
    sequence_after-turn d q s _ l received p (end_by p.cancelled failed (has_further d p)) e f (found_own k p s.pending h) (λ r. why-serves d s l received failed p r g)

served_by-turn : (d : SpiTable) (w : World) (q : ℕ) (s : SpiState) (l u received : ℕ) (r : Run) (b : Bool) → takes_failed s (Serves l received) ≡ r.transfer.failed
    → Turn d q s (Serves l received) (served_by d w s u received r b)
served_by-turn d w q s l u received r true g =
    Stays (ap (λ ps. is_pending q ps) (stored-seen (λ s. s.pending) (λ s c x. refl) s (word_of r) (word_of r).goes r.transfer.incoming))
    (ap (λ rs. sequence_result rs q) (stored-seen (λ s. s.sequence_results) (λ s c x. refl) s (word_of r) (word_of r).goes r.transfer.incoming))
    (ap (λ ps. had_of q ps) (stored-seen (λ s. s.pending) (λ s c x. refl) s (word_of r) (word_of r).goes r.transfer.incoming)) refl
served_by-turn d w q s l u received r false g =
    job_over-turn d q s (after_last s r r.transfer.failed) l received u r.sequence r.transfer.failed (find (is_of r.sequence) s.pending)
    (after_last-seen (λ s. s.pending) (λ s c x. refl) s r r.transfer.failed) (after_last-seen (λ s. s.sequence_results) (λ s c x. refl) s r r.transfer.failed) g refl

served-turn : (d : SpiTable) (w : World) (q : ℕ) (s : SpiState) (l : ℕ) (k : Option ℕ) (received : ℕ) (o : Option Run) → takes_failed s (Serves l received) ≡ has_failed o
    → Turn d q s (Serves l received) (served d w s k received o)
served-turn d w q s l None received o g = Stays refl refl refl refl
served-turn d w q s l (Some k) received None g = Stays refl refl refl refl
served-turn d w q s l (Some k) received (Some r) g = served_by-turn d w q s l k received r (goes_on r) g

-- ---- requests

joined-own : (k : ℕ) (ps : List Pending) (x : Pending) → x.sequence ≡ k → is_pending k (ps ++ x ∷ []) ≡ true
joined-own k ps x e = list_any-append (is_of k) ps (x ∷ []) ∙ rw (e, eq_self k) (or_true (is_pending k ps))

joined-other : (q k : ℕ) (ps : List Pending) (x : Pending) → x.sequence ≡ k → q ≢ k → is_pending q (ps ++ x ∷ []) ≡ is_pending q ps
joined-other q k ps x e ne = list_any-append (is_of q) ps (x ∷ []) ∙ rw (e, eq_turned q k ne) (or_false (is_pending q ps))

not_held_by : (a b c : Bool) → ((a || b) || c) ≡ false → (a ≡ false) × (c ≡ false)
not_held_by true b c h = absurd (cc h)
not_held_by false true c h = absurd (cc h)
not_held_by false false c h = (refl, h)

not_held : (d : SpiTable) (k : ℕ) (ps : List Pending) → is_held d k ps ≡ false → is_pending k ps ≡ false
not_held d k [] h = refl
not_held d k (p ∷ ps) h =
    let parts = not_held_by (p.sequence == k) (shares_job d k p.sequence) (is_held d k ps) h in
    rw parts.0 (not_held d k ps parts.1)

no_error : (a b c : Bool) → first_error services.SpiAsyncTransmit (a ∷ b ∷ c ∷ false ∷ false ∷ false ∷ []) ≡ None → c ≡ false
no_error true b c h = absurd (cc h)
no_error false true c h = absurd (cc h)
no_error false false true h = absurd (cc h)
no_error false false false h = refl

accepted-turn : (d : SpiTable) (q : ℕ) (s : SpiState) (h : Happening Call) (k : ℕ) → is_pending k s.pending ≡ false → (q ≡ k) ⊎ (q ≢ k) → Turn d q s h (work d s (Sequence k AsyncTransmit))
accepted-turn d q s h k free (inl at) = Begins (rw at free) (rw at (joined-own k s.pending _ refl)) (rw at (item-same SpiSeqOk s.sequence_results k SpiSeqPending)) (rw at (had-joined k s.pending _ refl free)) refl
accepted-turn d q s h k free (inr ne) = Stays (joined-other q k s.pending _ refl ne) (item-other SpiSeqOk s.sequence_results k q SpiSeqPending ne) (had-beside q k s.pending _ refl ne) refl

-- ---- the other calls

-- a cancelled sequence ends for that
why-cancels : (d : SpiTable) (s : SpiState) (k : ℕ) (times : ℕ → ℕ) (p : Pending) → p.sequence ≡ k → EndsFor d s (Acts (Sequence k Cancel) times) p SpiSeqCanceled
why-cancels d s k times p e =
    let own : (k == p.sequence) ≡ true = rw e (eq_self k) in
    let cancelled : p.cancelled || (k == p.sequence) ≡ true = rw own (or_true p.cancelled) in
    rw cancelled (refl, refl)

cancelled_by-turn : (d : SpiTable) (q : ℕ) (s : SpiState) (k : ℕ) (times : ℕ → ℕ) (p : Pending) (b : Bool) → p.sequence ≡ k → find (is_of p.sequence) s.pending ≡ Some p
    → Turn d q s (Acts (Sequence k Cancel) times) (cancelled_by d s p b)
cancelled_by-turn d q s k times p true e there = Stays (pending-changed q p.sequence cancels (λ p. refl) s.pending) refl (had-changed q p.sequence cancels (λ p. refl) (λ p. refl) s.pending) refl
cancelled_by-turn d q s k times p false e there =
    ended-turn d q s s (Acts (Sequence k Cancel) times) p SpiSeqCanceled (notes (sequence_notice d p.sequence)) refl refl there (why-cancels d s k times p e) (λ k. refl) (same_or_other q p.sequence)

cancelled-turn : (d : SpiTable) (q : ℕ) (s : SpiState) (k : ℕ) (times : ℕ → ℕ) (o : Option Pending) → find (is_of k) s.pending ≡ o → Turn d q s (Acts (Sequence k Cancel) times) (cancelled d s o)
cancelled-turn d q s k times None h = Stays refl refl refl refl
cancelled-turn d q s k times (Some p) h = cancelled_by-turn d q s k times p (is_running s p.sequence) (found k p s.pending h).0 (found_own k p s.pending h)

unless-turn : (d : SpiTable) (q : ℕ) (s : SpiState) (h : Happening Call) (after : SpiState) (b : Bool) → after.pending ≡ s.pending → after.sequence_results ≡ s.sequence_results → Turn d q s h (unless_busy b s after)
unless-turn d q s h after true e f = Stays refl refl refl refl
unless-turn d q s h after false e f = Stays (ap (λ ps. is_pending q ps) e) (ap (λ rs. sequence_result rs q) f) (ap (λ ps. had_of q ps) e) refl

acts_by-turn : (d : SpiTable) (q : ℕ) (s : SpiState) (call : Call) (times : ℕ → ℕ) (e : Option ErrorName) → error_by d call (is_off s.mode) (finds_held d s call) ≡ e
    → is_init call ≡ false → Turn d q s (Acts call times) (acts_by d s call e)
acts_by-turn d q s call times (Some e) h i = Stays refl refl refl refl
acts_by-turn d q s Init times None h i = absurd (cc i)
acts_by-turn d q s DeInit times None h i = unless-turn d q s (Acts DeInit times) _ (is_busy s) refl refl
acts_by-turn d q s (SetAsyncMode m) times None h i = unless-turn d q s (Acts (SetAsyncMode m) times) _ (is_busy s) refl refl
acts_by-turn d q s MainFunctionHandling times None h i = Stays refl refl refl refl
acts_by-turn d q s (Channel c (WriteIb p)) times None h i = Stays refl refl refl refl
acts_by-turn d q s (Channel c ReadIb) times None h i = Stays refl refl refl refl
acts_by-turn d q s (Channel c (SetupEb a b n)) times None h i = Stays refl refl refl refl
acts_by-turn d q s (Sequence k AsyncTransmit) times None h i =
    accepted-turn d q s (Acts (Sequence k AsyncTransmit) times) k
    (not_held d k s.pending (no_error (is_off s.mode) (is_wrong_sequence d k AsyncTransmit) (is_held d k s.pending) h)) (same_or_other q k)
acts_by-turn d q s (Sequence k Cancel) times None h i = cancelled-turn d q s k times (find (is_of k) s.pending) refl
acts_by-turn d q s (Sequence k SyncTransmit) times None h i = Stays refl refl refl refl
acts_by-turn d q s (Get query) times None h i = Stays refl refl refl refl

-- ---- each happening

start_by-turn : (d : SpiTable) (w : World) (q : ℕ) (s : SpiState) (h : Happening Call) (k : Option ℕ) (received : ℕ) (o : Option Pending) (out : Outcome SpiState)
    → start_by d w s k received o ≡ Some out → Turn d q s h out
start_by-turn d w q s h None received o out e = absurd (cc e)
start_by-turn d w q s h (Some u) received None out e = absurd (cc e)
start_by-turn d w q s h (Some u) received (Some p) out e =
    rw (← some_is (started d w s u received p) out e) (Stays (pending-changed q p.sequence starts (λ p. refl) s.pending) refl (had-changed q p.sequence starts (λ p. refl) (λ p. refl) s.pending) refl)

moved-turn : (d : SpiTable) (w : World) (q : ℕ) (s : SpiState) (order : Order) → Turn d q s (Moves order) (outcome (moved d w s order) tells_nothing)
moved-turn d w q s (Fill c ws) = Stays refl refl refl refl
moved-turn d w q s (SpiFault u) = Stays refl refl refl refl
moved-turn d w q s _ = Stays refl refl refl refl

-- a sequence that a call sends is another one
other-sent : (d : SpiTable) (q k : ℕ) → is_sync_sequence d q ≡ false → is_sync_sequence d k ≡ true → q ≢ k
other-sent d q k a b e = let c : is_sync_sequence d k ≡ false = subst (λ n. is_sync_sequence d n ≡ false) e a in cc (b, c)

sent-turn : (d : SpiTable) (q : ℕ) (s : SpiState) (h : Happening Call) (u : ℕ) (x : Carrying) (failed : Bool) → q ≢ x.entry.sequence → Turn d q s h (sent d s u x failed)
sent-turn d q s h u x failed ne =
    let t : SpiState = after_last s x.run failed in
    let pending : t.pending ≡ s.pending = after_last-seen (λ s. s.pending) (λ s c x. refl) s x.run failed in
    let results : t.sequence_results ≡ s.sequence_results = after_last-seen (λ s. s.sequence_results) (λ s c x. refl) s x.run failed in
    Stays (ap (λ ps. is_pending q ps) pending)
    (item-other SpiSeqOk s.sequence_results x.entry.sequence q (sequence_result_by failed) ne) (ap (λ ps. had_of q ps) pending) refl

sent_on-turn : (d : SpiTable) (w : World) (q : ℕ) (s : SpiState) (h : Happening Call) (u received : ℕ) (x : Carrying) (b : Bool) → Turn d q s h (sent_on d w s u received x b)
sent_on-turn d w q s h u received x true =
    let y : JobWord = word_of x.run in
    let pending = stored-seen (λ s. s.pending) (λ s c x. refl) s y y.goes x.run.transfer.incoming in
    let results = stored-seen (λ s. s.sequence_results) (λ s c x. refl) s y y.goes x.run.transfer.incoming in
    Stays (ap (λ ps. is_pending q ps) pending) (ap (λ rs. sequence_result rs q) results) (ap (λ ps. had_of q ps) pending) refl
sent_on-turn d w q s h u received x false =
    let pending = after_last-seen (λ s. s.pending) (λ s c x. refl) s x.run false in
    let results = after_last-seen (λ s. s.sequence_results) (λ s c x. refl) s x.run false in
    Stays (ap (λ ps. is_pending q ps) pending) (ap (λ rs. sequence_result rs q) results) (ap (λ ps. had_of q ps) pending) refl

pub happens-turn : (d : SpiTable) (w : World) (s : SpiState) (h : Happening Call) (out : Outcome SpiState) (q : ℕ) → (spi_machine d).happens w s h ≡ Some out → drops h ≡ false → is_sync_sequence d q ≡ false → Turn d q s h out
happens-turn d w s (Acts call times) out q h i other =
    act-either (Turn d q s (Acts call times)) d w s call out h (acts_by-turn d q s call times (error_by d call (is_off s.mode) (finds_held d s call)) refl i) (λ k e c f. Stays refl refl refl refl)
    (λ k x c ends.
    let own : x.entry.sequence ≡ k = eq_is x.entry.sequence k ends.own in
    let ne : q ≢ k = other-sent d q k other (carried-right d s k x ends.carried).1 in
    sent-turn d q s (Acts call times) (unit_of_sequence d k) x x.run.transfer.failed (λ e. ne (e ∙ own)))
happens-turn d w s (Serves l received) out q h i other =
    rw (← serve_by (ready w s l) (served d w s (unit_of l) received (run_of s (unit_of l))) out h) (served-turn d w q s l (unit_of l) received (run_of s (unit_of l)) refl)
happens-turn d w s (Starts u made_by received) out q h i other =
    start-either (Turn d q s (Starts u made_by received)) d w s (number_of u) made_by received out h
    (λ n e. start_by-turn d w q s (Starts u made_by received) (number_of u) received (next_at d s (number_of u)) out e)
    (λ v k on new. Stays refl (item-other SpiSeqOk s.sequence_results k q SpiSeqPending (other-sent d q k other on.sync)) refl refl)
    (λ v k x on more. sent_on-turn d w q s (Starts u made_by received) v received x (goes_on x.run))
happens-turn d w s (Aborts u) out q h i other = absurd (cc h)
happens-turn d w s (Moves order) out q h i other = rw (← some_is _ out h) (moved-turn d w q s order)
happens-turn d w s (Restarts reason) out q h i other = absurd (cc i)
