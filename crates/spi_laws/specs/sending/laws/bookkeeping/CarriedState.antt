-- A unit carries out a sequence, from a job on: the state is sound, and the words stand for it.
-- From spi_sequences: words.JobPlaces, spi_sequences: words.Cases, bookkeeping.HeldWord and 1 more.
-- Used by services.SendGoesOn, services.SendStarts.
use Rattle.std.proofs.Common.{◌≡◌, ◌≢◌, ◌<◌, ◌≤◌, ◌==◌, ◌||◌, ◌∷◌, ◌∙◌, ◌⊎◌, if◌then◌else◌}
use Rattle.spi_laws.specs.sending.Terms
use Terms.{all_carried, all_cases, all_of, all_pending, AnswerName, any_in, any_none, any_some, ap, AreCarried}
use Terms.{at_left, Bool, cancelled_bit, cases, Contains, Contains-get_or, entries_of, false, FitsSpi, for_unit}
use Terms.{get_or_default, Going, has_mark, inl, inr, is_below, is_left, is_number, is_of, is_off, is_on_unit}
use Terms.{is_past, is_pending, is_sent, is_sync_sequence, is_sync_unit, IsEntry, IsOfSequence, IsSoundState}
use Terms.{job_code, job_of, job_on, job_result, job_small, job_word, jobs_of, left_at, LeftAt, length, List}
use Terms.{list_any, MARKS, Memory, nat_lt, next_in, NEXTS, None, none_any, not_true, one_unit, Option, order_word}
use Terms.{other_number, Pending, PendingAgrees, Position, refl, Reservations, RunsBy, RunsNext, same_number}
use Terms.{same_or_other, same_Some, sequence_code, sequence_result, sequence_word, SequencesAgree, slice_index_or}
use Terms.{Some, SpiJobOk, SpiJobPending, SpiJobQueued, SpiSeqPending, SpiTable, started_bit, subst, sym, true}
use Terms.{unit_of_sequence, View, whether, ℕ}
use Rattle.spi_laws.specs.sending.laws.{bookkeeping.HeldWord.{sending_of}}
use Rattle.spi_sequences.specs.Refinement.{IsLast as IsLastResult}
use Rattle.word_shapes.specs.PriorityQueue as ranked
use Rattle.std.proofs.lemmas.Bool.{or_right}

-- a unit of this kind carries out no sequence, or this one
pub record MayTake (d : SpiTable) (v : View) (u q : ℕ) : Type 0 where
  pub few : u < 2
  pub sync : is_sync_unit d u ≡ true
  pub unit : unit_of_sequence d q ≡ u
  pub same : (x : Pending) → v.begun u ≡ Some x → x.sequence ≡ q

-- ---- the other sequences under way

module _ (d : SpiTable) (fits : FitsSpi d) (v : View) (h : IsSoundState d v) (u q : ℕ) (t : MayTake d v u q) where
  sync_own : is_sync_sequence d q ≡ true
  sync_own = ap (is_sync_unit d) t.unit ∙ t.sync

  pub pending_other : (x : Pending) → Contains v.pending x → x.sequence ≢ q
  pending_other x there e = let f = sym (h.carries.asked x there) ∙ ap (is_sync_sequence d) e ∙ sync_own in cc

  pub begun_other : (n : ℕ) (x : Pending) → n ≢ u → v.begun n ≡ Some x → x.sequence ≢ q
  begun_other n x ne e f = ne (sym (h.carries.unit n x e).2 ∙ ap (unit_of_sequence d) f ∙ t.unit)

  -- are on other units
  unit_other : (x : Pending) → Contains (all_of v) x → x.sequence ≢ q → unit_of_sequence d x.sequence ≢ u
  unit_other x there ne e = cases (all_cases v x there)
      (λ is. let f = sym (h.carries.asked x is) ∙ ap (is_sync_unit d) e ∙ t.sync in absurd (cc))
      (λ (n, is). ne (t.same x (ap v.begun (sym e ∙ (h.carries.unit n x is).2) ∙ is)))

  -- have none of its jobs
  pub none_own : (x : Pending) (i : ℕ) → Contains (all_of v) x → x.sequence ≢ q → i < length (jobs_of d x.sequence) → list_any (λ k. k == slice_index_or (jobs_of d x.sequence) i 0) (jobs_of d q) ≡ false
  none_own x i there ne lt = not_true (list_any (λ k. k == j) (jobs_of d q)) (λ e. by (any_some (λ k. k == j) (jobs_of d q) e))
    where
      j : ℕ
      j = slice_index_or (jobs_of d x.sequence) i 0

      by : (k : ℕ) × Contains (jobs_of d q) k × ((k == j) ≡ true) → ⊥
      by (k, has, same) = unit_other x there ne (one_unit d (unit_of_sequence d x.sequence) u j (job_on d fits x.sequence j (Contains-get_or (jobs_of d x.sequence) i 0 lt)) (subst (λ n. is_on_unit u (job_of d n) ≡ true) (is_number k j same) (subst (λ n. is_on_unit n (job_of d k) ≡ true) t.unit (job_on d fits q k has))))

  -- and have none of them left
  pub none_left_own : (j : ℕ) → list_any (λ k. k == j) (jobs_of d q) ≡ true → ((x : Pending) → v.begun u ≡ Some x → is_left d j x ≡ false) → list_any (is_left d j) (all_of v) ≡ false
  none_left_own j own mine = none_any (is_left d j) (all_of v) (λ x there. by x there (all_cases v x there))
    where
      left : (x : Pending) → Contains (all_of v) x → x.sequence ≢ q → LeftAt (jobs_of d x.sequence) x.next j → ⊥
      left x there ne l = let f = sym (none_own x l.place there ne l.within) ∙ ap (λ i. list_any (λ k. k == i) (jobs_of d q)) l.is ∙ own in cc

      other : (x : Pending) → Contains (all_of v) x → x.sequence ≢ q → is_left d j x ≡ false
      other x there ne = not_true (is_left d j x) (λ e. left x there ne (at_left (jobs_of d x.sequence) x.next j e))

      unit : (n : ℕ) (x : Pending) → Contains (all_of v) x → v.begun n ≡ Some x → (n ≡ u) ⊎ (n ≢ u) → is_left d j x ≡ false
      unit n x there e (inl f) = mine x (ap v.begun (sym f) ∙ e)
      unit n x there e (inr ne) = other x there (begun_other n x ne e)

      by : (x : Pending) → Contains (all_of v) x → Contains v.pending x ⊎ ((n : ℕ) × (v.begun n ≡ Some x)) → is_left d j x ≡ false
      by x there (inl is) = other x there (pending_other x is)
      by x there (inr (n, e)) = unit n x there e (same_or_other n u)

-- ---- the unit takes up an entry: what it carries out then, and the results

pub record Takes (d : SpiTable) (v : View) (u : ℕ) (p : Pending) (begun : ℕ → Option Pending) (jobs sequences : List AnswerName) : Type 0 where
  pub may : MayTake d v u p.sequence
  pub on : is_off v.mode ≡ false
  pub here : begun u ≡ Some p
  pub others : (n : ℕ) → n ≢ u → begun n ≡ v.begun n
  -- the entry
  pub number : p.sequence < 8
  pub next : p.next < length (jobs_of d p.sequence)
  pub had : length p.had ≡ length (jobs_of d p.sequence)
  pub last : (i : ℕ) → i < length p.had → IsLastResult (slice_index_or p.had i SpiJobOk)
  pub cancelled : p.cancelled ≡ true → v.running p.sequence ≡ true
  -- the results of its jobs, of others' and of sequences
  pub ahead : (i : ℕ) → p.next ≤ i → i < length (jobs_of d p.sequence) → job_result jobs (slice_index_or (jobs_of d p.sequence) i 0) ≡ (if i == p.next then SpiJobPending else SpiJobQueued)
  pub behind : (i : ℕ) → i < p.next → i < length (jobs_of d p.sequence) → IsLastResult (job_result jobs (slice_index_or (jobs_of d p.sequence) i 0))
  pub beside : (j : ℕ) → list_any (λ k. k == j) (jobs_of d p.sequence) ≡ false → job_result jobs j ≡ job_result v.job_results j
  pub told : sequence_result sequences p.sequence ≡ SpiSeqPending
  pub untold : (q : ℕ) → q ≢ p.sequence → sequence_result sequences q ≡ sequence_result v.sequence_results q

-- what stands in the words of it
pub record TakesWords (d : SpiTable) (v : View) (p : Pending) (jobs : List AnswerName) (m m1 : Memory) : Type 0 where
  pub told : m1 (sequence_word p.sequence) ≡ sequence_code SpiSeqPending
  pub untold : (q : ℕ) → q < 8 → q ≢ p.sequence → m1 (sequence_word q) ≡ m (sequence_word q)
  pub next : next_in (m1 NEXTS) p.sequence ≡ p.next
  pub nexts : (q : ℕ) → q < 8 → q ≢ p.sequence → next_in (m1 NEXTS) q ≡ next_in (m NEXTS) q
  pub marks : m1 MARKS ≡ m MARKS
  pub ahead : (i : ℕ) → p.next ≤ i → i < length (jobs_of d p.sequence) → m1 (job_word (slice_index_or (jobs_of d p.sequence) i 0)) ≡ job_code (slice_index_or p.had i SpiJobOk)
  pub behind : (i : ℕ) → i < p.next → i < length (jobs_of d p.sequence) → m1 (job_word (slice_index_or (jobs_of d p.sequence) i 0)) ≡ job_code (job_result jobs (slice_index_or (jobs_of d p.sequence) i 0))
  pub beside : (j : ℕ) → j < 16 → list_any (λ k. k == j) (jobs_of d p.sequence) ≡ false → m1 (job_word j) ≡ m (job_word j)
  pub orders : (n : ℕ) → n < 2 → ranked.Holds (record { at = order_word n }) m1 (entries_of d v n)

module _ (d : SpiTable) (fits : FitsSpi d) (v : View) (h : IsSoundState d v) (u : ℕ) (p : Pending) (begun : ℕ → Option Pending) (jobs sequences : List AnswerName) (t : Takes d v u p begun jobs sequences) where
  abbrev own : List ℕ
  own = jobs_of d p.sequence

  abbrev is_own : ℕ → Bool
  is_own j = list_any (λ k. k == j) own

  -- the state in which it carries it out
  abbrev pub taken_view : View
  taken_view = record v { begun = begun; job_results = jobs; sequence_results = sequences }

  all_back : (x : Pending) → Contains (all_of taken_view) x → (Contains (all_of v) x × (x.sequence ≢ p.sequence)) ⊎ (p ≡ x)
  all_back x there =
      elim (all_cases taken_view x there)
      [ inl is ↦ inl (all_pending v x is, pending_other d fits v h u p.sequence t.may x is) | inr (n, e) ↦ unit n e (same_or_other n u) ]
    where
      unit : (n : ℕ) → begun n ≡ Some x → (n ≡ u) ⊎ (n ≢ u) → (Contains (all_of v) x × (x.sequence ≢ p.sequence)) ⊎ (p ≡ x)
      unit n e (inl f) = inr (same_Some p x (sym t.here ∙ ap begun (sym f) ∙ e))
      unit n e (inr ne) = let was = sym (t.others n ne) ∙ e in inl (all_carried v n x (h.carries.unit n x was).0 was, begun_other d fits v h u p.sequence t.may n x ne was)

  pub all_there : (x : Pending) → Contains (all_of v) x → x.sequence ≢ p.sequence → Contains (all_of taken_view) x
  all_there x there ne =
      elim (all_cases v x there)
      [ inl is ↦ all_pending taken_view x is | inr (n, e) ↦ unit n e (same_or_other n u) ]
    where
      unit : (n : ℕ) → v.begun n ≡ Some x → (n ≡ u) ⊎ (n ≢ u) → Contains (all_of taken_view) x
      unit n e (inl f) = absurd (ne (t.may.same x (ap v.begun (sym f) ∙ e)))
      unit n e (inr other) = all_carried taken_view n x (h.carries.unit n x e).0 (t.others n other ∙ e)

  all_own : Contains (all_of taken_view) p
  all_own = all_carried taken_view u p t.may.few t.here

  -- ---- jobs

  -- a job of the sequence, by its place
  record OwnAt (j : ℕ) : Type 0 where
    pub place : ℕ
    pub within : place < length own
    pub is : slice_index_or own place 0 ≡ j

  own_at : (j : ℕ) → is_own j ≡ true → OwnAt j
  own_at j e =
      let (k, (i, lt, at), same) = any_some (λ k. k == j) own e in
      record { place = i; within = lt; is = get_or_default own i 0 k lt ∙ at ∙ is_number k j same }

  -- one that none has left has run, or is none of its own
  none_left : (j : ℕ) → is_own j ≡ false → list_any (is_left d j) (all_of taken_view) ≡ false → list_any (is_left d j) (all_of v) ≡ false
  none_left j away none = none_any (is_left d j) (all_of v) (λ x there. not_left x there (same_or_other x.sequence p.sequence))
    where
      not_left : (x : Pending) → Contains (all_of v) x → (x.sequence ≡ p.sequence) ⊎ (x.sequence ≢ p.sequence) → is_left d j x ≡ false
      not_left x there (inl e) = not_true (is_left d j x) (λ f. left (at_left (jobs_of d x.sequence) x.next j f))
        where
          left : LeftAt (jobs_of d x.sequence) x.next j → ⊥
          left l = let f = sym away ∙ any_in (λ k. k == j) own j (subst (λ q. Contains (jobs_of d q) j) e (l.place, l.within, get_or_default (jobs_of d x.sequence) l.place j 0 l.within ∙ l.is)) (same_number j) in absurd (cc)
      not_left x there (inr ne) = any_none (is_left d j) (all_of taken_view) none x (all_there x there ne)

  -- of its own those have run that stand before its next one
  run_before : (j : ℕ) (o : OwnAt j) → list_any (is_left d j) (all_of taken_view) ≡ false → o.place < p.next
  run_before j o none = whether (nat_lt o.place p.next)
      (λ e. is_below o.place p.next e)
      (λ e. absurd (let f = sym (any_none (is_left d j) (all_of taken_view) none p all_own) ∙ left_at own p.next o.place j o.within (is_past o.place p.next e) o.is in cc))

  -- ---- the state

  entry_of : (x : Pending) → (Contains (all_of v) x × (x.sequence ≢ p.sequence)) ⊎ (p ≡ x) → IsEntry d taken_view x
  entry_of x (inl (there, ne)) = let e = h.entries x there in record { number = e.number; next = e.next; had = e.had; last = e.last; cancelled = e.cancelled }
  entry_of x (inr e) = subst (λ z. IsEntry d taken_view z) e (record { number = t.number; next = t.next; had = t.had; last = t.last; cancelled = t.cancelled })

  pub taken_sound : IsSoundState d taken_view
  taken_sound = record {
    entries = λ x there. entry_of x (all_back x there);
    apart = h.apart;
    requests = h.requests;
    results = record {
      queued = λ x i there le lt. t.beside (slice_index_or (jobs_of d x.sequence) i 0) (none_own d fits v h u p.sequence t.may x i (all_pending v x there) (pending_other d fits v h u p.sequence t.may x there) lt) ∙ h.results.queued x i there le lt;
      last = λ j none. whether (is_own j)
          (λ e. let o = own_at j e in subst (λ k. IsLastResult (job_result jobs k)) o.is (t.behind o.place (run_before j o none) o.within))
          (λ e. subst (λ x. IsLastResult x) (sym (t.beside j e)) (h.results.last j (none_left j e none)));
      named = λ q lt. cases (same_or_other q p.sequence)
          (λ e. subst (λ n. IsOfSequence (sequence_result sequences n)) (sym e) (subst (λ x. IsOfSequence x) (sym t.told) tt))
          (λ ne. subst (λ x. IsOfSequence x) (sym (t.untold q ne)) (h.results.named q lt));
      sequences = λ q lt. represents q lt (same_or_other q p.sequence);
    };
    carries = record {
      unit = λ n x e. unit n x e (same_or_other n u);
      asked = h.carries.asked;
      idle = h.carries.idle;
      queued = λ n x i e le lt. queued n x i e le lt (same_or_other n u);
      off = λ e n. absurd (let f = sym t.on ∙ e in cc);
    };
    few = h.few;
    off = λ e. absurd (let f = sym t.on ∙ e in cc);
  }
    where
      still : (q : ℕ) → q ≢ p.sequence → is_pending q (all_of taken_view) ≡ is_pending q (all_of v)
      still q ne = whether (is_pending q (all_of v))
          (λ e. let r = any_some (is_of q) (all_of v) e in any_in (is_of q) (all_of taken_view) r.0 (all_there r.0 r.1 (λ f. ne (sym (is_number r.0.sequence q r.2) ∙ f))) r.2 ∙ sym e)
          (λ e. none_any (is_of q) (all_of taken_view) (λ x there. no_other e x (all_back x there)) ∙ sym e)
        where
          no_other : is_pending q (all_of v) ≡ false → (x : Pending) → (Contains (all_of v) x × (x.sequence ≢ p.sequence)) ⊎ (p ≡ x) → is_of q x ≡ false
          no_other e x (inl (there, other)) = any_none (is_of q) (all_of v) e x there
          no_other e x (inr f) = subst (λ z. is_of q z ≡ false) f (other_number p.sequence q (λ g. ne (sym g)))

      represents : (q : ℕ) → q < 8 → (q ≡ p.sequence) ⊎ (q ≢ p.sequence) → (sequence_result sequences q ≡ SpiSeqPending → is_pending q (all_of taken_view) ≡ true) × (is_pending q (all_of taken_view) ≡ true → sequence_result sequences q ≡ SpiSeqPending)
      represents q lt (inl e) = (
        λ f. subst (λ n. is_pending n (all_of taken_view) ≡ true) (sym e) (any_in (is_of p.sequence) (all_of taken_view) p all_own (same_number p.sequence)),
        λ f. ap (sequence_result sequences) e ∙ t.told,
      )
      represents q lt (inr ne) = let was = h.results.sequences q lt in (λ f. still q ne ∙ was.0 (sym (t.untold q ne) ∙ f), λ f. t.untold q ne ∙ was.1 (sym (still q ne) ∙ f))

      unit : (n : ℕ) (x : Pending) → begun n ≡ Some x → (n ≡ u) ⊎ (n ≢ u) → (n < 2) × (is_sync_unit d n ≡ true) × (unit_of_sequence d x.sequence ≡ n)
      unit n x e (inl f) = let same : p ≡ x = same_Some p x (sym t.here ∙ ap begun (sym f) ∙ e) in (subst (λ k. k < 2) (sym f) t.may.few, ap (is_sync_unit d) f ∙ t.may.sync, ap (λ (z : Pending). unit_of_sequence d z.sequence) (sym same) ∙ t.may.unit ∙ sym f)
      unit n x e (inr ne) = h.carries.unit n x (sym (t.others n ne) ∙ e)

      queued : (n : ℕ) (x : Pending) (i : ℕ) → begun n ≡ Some x → x.next ≤ i → i < length (jobs_of d x.sequence) → (n ≡ u) ⊎ (n ≢ u) → job_result jobs (slice_index_or (jobs_of d x.sequence) i 0) ≡ (if i == x.next then SpiJobPending else SpiJobQueued)
      queued n x i e le lt (inl f) =
          let same : p ≡ x = same_Some p x (sym t.here ∙ ap begun (sym f) ∙ e) in
          subst (λ (z : Pending). z.next ≤ i → i < length (jobs_of d z.sequence) → job_result jobs (slice_index_or (jobs_of d z.sequence) i 0) ≡ (if i == z.next then SpiJobPending else SpiJobQueued)) same (λ a b. t.ahead i a b) le lt
      queued n x i e le lt (inr ne) =
          let was = sym (t.others n ne) ∙ e in
          t.beside (slice_index_or (jobs_of d x.sequence) i 0) (none_own d fits v h u p.sequence t.may x i (all_carried v n x (h.carries.unit n x was).0 was) (begun_other d fits v h u p.sequence t.may n x ne was) lt) ∙ h.carries.queued n x i was le lt

  -- ---- the other units, and who carries out what

  pub taken_nexts : (n : ℕ) → n ≢ u → (o : Option Going) → RunsNext d v n o → RunsNext d taken_view n o
  taken_nexts n ne None r = tt
  taken_nexts n ne (Some g) r = (all_there g.pending r.0 (λ e. ne (sym (for_unit d fits v h n g.pending r.0 r.2) ∙ ap (unit_of_sequence d) e ∙ t.may.unit)), runs (is_sync_unit d n) r.1, r.2)
    where
      runs : (b : Bool) → RunsBy b v n g.pending → RunsBy b taken_view n g.pending
      runs true e = t.others n ne ∙ e
      runs false e = e

  pub taken_carriers : (held : Reservations) (at : Position) (bs : List ℕ) (failed : Option Bool) (device : ℕ) → ((n : ℕ) (x : Pending) → n ≢ u → v.begun n ≡ Some x → list_any (λ z. is_sent x.sequence z.what) held ≡ true) → AreCarried taken_view (sending_of u p.sequence p.next at bs failed device ∷ held)
  taken_carriers held at bs failed device below n x e = cases (same_or_other n u)
      (λ f. ap (λ b. b || list_any (λ z. is_sent x.sequence z.what) held) (ap (λ (z : Pending). p.sequence == z.sequence) (sym (same_Some p x (sym t.here ∙ ap begun (sym f) ∙ e))) ∙ same_number p.sequence))
      (λ ne. or_right (p.sequence == x.sequence) (list_any (λ z. is_sent x.sequence z.what) held) (below n x ne (sym (t.others n ne) ∙ e)))

  -- ---- the words

  module _ (m m1 : Memory) (a : SequencesAgree d m v) (w : TakesWords d v p jobs m m1) where
    pending_words : (x : Pending) → Contains v.pending x → PendingAgrees m1 x
    pending_words x there =
        let was = a.pending x there in
        record {
          next = w.nexts x.sequence (h.entries x (all_pending v x there)).number (pending_other d fits v h u p.sequence t.may x there) ∙ was.next;
          started = ap (λ n. has_mark n (started_bit x.sequence)) w.marks ∙ was.started;
          cancelled = ap (λ n. has_mark n (cancelled_bit x.sequence)) w.marks ∙ was.cancelled;
        }

    begun_words : (n : ℕ) (x : Pending) → begun n ≡ Some x → (n ≡ u) ⊎ (n ≢ u) → next_in (m1 NEXTS) x.sequence ≡ x.next
    begun_words n x e (inl f) = subst (λ (z : Pending). next_in (m1 NEXTS) z.sequence ≡ z.next) (same_Some p x (sym t.here ∙ ap begun (sym f) ∙ e)) w.next
    begun_words n x e (inr ne) =
        let was = sym (t.others n ne) ∙ e in
        w.nexts x.sequence (h.entries x (all_carried v n x (h.carries.unit n x was).0 was)).number (begun_other d fits v h u p.sequence t.may n x ne was) ∙ a.begun n x was

    had_words : (x : Pending) (i : ℕ) → (Contains (all_of v) x × (x.sequence ≢ p.sequence)) ⊎ (p ≡ x) → x.next ≤ i → i < length (jobs_of d x.sequence) → m1 (job_word (slice_index_or (jobs_of d x.sequence) i 0)) ≡ job_code (slice_index_or x.had i SpiJobOk)
    had_words x i (inl (there, ne)) le lt = w.beside (slice_index_or (jobs_of d x.sequence) i 0) (job_small d fits x.sequence i lt) (none_own d fits v h u p.sequence t.may x i there ne lt) ∙ a.had x i there le lt
    had_words x i (inr e) le lt = subst (λ (z : Pending). z.next ≤ i → i < length (jobs_of d z.sequence) → m1 (job_word (slice_index_or (jobs_of d z.sequence) i 0)) ≡ job_code (slice_index_or z.had i SpiJobOk)) e (λ x y. w.ahead i x y) le lt

    job_by : (j : ℕ) → j < 16 → list_any (is_left d j) (all_of taken_view) ≡ false → (b : Bool) → is_own j ≡ b → m1 (job_word j) ≡ job_code (job_result jobs j)
    job_by j lt none true e = let o = own_at j e in subst (λ k. m1 (job_word k) ≡ job_code (job_result jobs k)) o.is (w.behind o.place (run_before j o none) o.within)
    job_by j lt none false e = w.beside j lt e ∙ a.jobs j lt (none_left j e none) ∙ ap job_code (sym (t.beside j e))

    sequence_told : (q : ℕ) → q < 8 → (q ≡ p.sequence) ⊎ (q ≢ p.sequence) → m1 (sequence_word q) ≡ sequence_code (sequence_result sequences q)
    sequence_told q lt (inl e) = ap (λ n. m1 (sequence_word n)) e ∙ w.told ∙ ap sequence_code (sym t.told) ∙ ap (λ n. sequence_code (sequence_result sequences n)) (sym e)
    sequence_told q lt (inr ne) = w.untold q lt ne ∙ a.sequences q lt ∙ ap sequence_code (sym (t.untold q ne))

    pub taken_words : SequencesAgree d m1 taken_view
    taken_words = record {
      sequences = λ q lt. sequence_told q lt (same_or_other q p.sequence);
      pending = pending_words;
      begun = λ n x e. begun_words n x e (same_or_other n u);
      had = λ x i there le lt. had_words x i (all_back x there) le lt;
      jobs = λ j lt none. job_by j lt none (is_own j) refl;
      orders = w.orders;
    }
