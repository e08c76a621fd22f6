-- A request is accepted: the state is sound, the words stand for it, and what its window owes after the act.
-- From words.NumbersApart, words.JobPlaces, bookkeeping.SequenceEnded, services.CancelRight and 9 more.
-- Used by spi_laws: sending.services.SendStarts, spi_driver: services.RequestAsking and 3 more.
use Rattle.std.proofs.Common.{◌≡◌, ◌≢◌, ◌+◌, ◌%◌, ◌<◌, ◌≤◌, ◌==◌, ◌&&◌, ◌||◌, [], ◌∷◌, ◌++◌, ◌∙◌, if◌then◌else◌, ◌⊎◌}
use Rattle.spi_sequences.specs.Terms
use Terms.{accepted, Add, add-ends, add_gave, adding, after_request, all_get, all_of, and_false, Answer, AnswerName, ap}
use Terms.{append-nil, AreOwed, arith, Bool, Call, cancelled_bit, cases, Chip, chip_after, CommitsAfter, Contains}
use Terms.{Contains-append_left, Contains-get_or, Contains-push, Contains-push_cases, Debt, DiffersIn, entries_of}
use Terms.{Entry, false, filter, filter-append, FitsSpi, get_or_default, Going, has_job, has_mark, holds-agree, inl}
use Terms.{inr, is_for, is_held, is_left, is_of, is_off, is_owed, is_pending, is_running, is_some, is_sync_sequence}
use Terms.{is_sync_unit, IsEntry, IsLast, IsOfSequence, IsPart, IsSoundState, item-other, item-same, job_code}
use Terms.{job_result, job_word, jobs_by, jobs_of, length, length-map, length-take-le, List, list_any, map, map-append}
use Terms.{MARKS, Memory, next_in, NEXTS, None, not, one_owed, Option, option_map, or_parts, or_right, order_places}
use Terms.{order_word, Origin, PartTo, PENDING, Pending, PendingAgrees, PendingWrites, refl, request_adds, requested}
use Terms.{RequestPlace, Reservations, results-other, results-own, RunsBy, RunsNext, same_or_other, Sequence}
use Terms.{sequence_code, sequence_of, sequence_result, sequence_word, SequencesAgree, settles_part, shares_job}
use Terms.{slice_get, slice_get-map, slice_index_or, Some, spi_owing, SpiJobOk, SpiJobPending, SpiJobQueued}
use Terms.{SpiRepresents, SpiSeqOk, SpiSeqPending, SpiState, SpiTable, stands-move, StandsIn, started_bit, Store}
use Terms.{stored_other, stored_same, subst, suc, sym, Transmit, true, unit_of_sequence, unit_owed, UnitBody, Units}
use Terms.{unless_done, unmarked_in, View, view, whether, with_item, with_next_in, word_of, World, zero, ℕ}
use Rattle.spi_sequences.specs.laws.bookkeeping.SequenceEnded.{filter_back, get_contained, jobs_once, there_back}
use Rattle.spi_sequences.specs.laws.services.CancelRight.{named_own, order_there, own_order}
use Rattle.spi_sequences.specs.laws.{services.QueryRight.{may_first}, services.SetUpRight.{may_store}}
use Rattle.spi_sequences.specs.laws.words.JobPlaces.{all_carried, all_cases, all_pending, any_in, at_left, job_unit}
use Rattle.spi_sequences.specs.laws.{words.JobPlaces.{shares_unit, unit_few}, words.NumbersApart.{before_sequences}}
use Rattle.spi_sequences.specs.laws.words.NumbersApart.{first_other, first_same, from_order, high_order, low_order}
use Rattle.spi_sequences.specs.laws.words.NumbersApart.{marks_apart, marks_at, nexts_apart, nexts_at, not_marks}
use Rattle.spi_sequences.specs.laws.words.NumbersApart.{not_nexts, order_at, sequence_at, to_order, unmarked_other}
use Rattle.spi_sequences.specs.laws.words.NumbersApart.{unmarked_same, words_stay, WordsStay}
use Rattle.spi_sequences.specs.laws.words.PendingWords.{firsts_changed, holds_debt, stands_owed}
use Rattle.spi_sequences.specs.laws.{words.SameWords.{job_small}, words.WordsOfModule.{own_first}}
use Rattle.spi_sequences.specs.laws.words.WordsToState.{any_none, any_some, at_contained, going_asked, is_number}
use Rattle.spi_sequences.specs.laws.words.WordsToState.{none_any, not_true, one_unit, other_number, runs_on}
use Rattle.spi_sequences.specs.laws.words.WordsToState.{same_number}
use Rattle.word_shapes.specs.Order as order
use Rattle.word_shapes.specs.PriorityQueue as ranked
use Rattle.word_shapes.specs.declared.add.Add.TheVariants as adds
use Rattle.spi_sequences.specs.declared.service.request.RequestPlace.TheVariants as requests
use Rattle.spi_sequences.specs.declared.service.unit.UnitPlace.TheVariants as units

-- ---- lists with one more

get_push : {A : Type 0} (xs : List A) (y : A) (i : ℕ) (z : A) → slice_get (xs ++ y ∷ []) i ≡ Some z → ((slice_get xs i ≡ Some z) × (i < length xs)) ⊎ ((i ≡ length xs) × (y ≡ z))
get_push [] y zero z e = inr (refl, let same : y ≡ z = cc in same)
get_push [] y (suc i) z e = absurd (cc)
get_push (x ∷ xs) y zero z e = inl (e, omega arith)
get_push (x ∷ xs) y (suc i) z e =
    elim (get_push xs y i z e) as (λ _. ((slice_get xs i ≡ Some z) × (suc i < suc (length xs))) ⊎ ((suc i ≡ suc (length xs)) × (y ≡ z)))
    [ inl (f, lt) ↦ inl (f, omega (arith, lt)) | inr (f, g) ↦ inr (ap suc f, g) ]

pub map_get : {A B : Type 0} (f : A → B) (xs : List A) (i : ℕ) (x : A) → slice_get xs i ≡ Some x → slice_get (map f xs) i ≡ Some (f x)
map_get f xs i x e = slice_get-map f xs i ∙ ap (option_map f) e

pub map_at : (f : ℕ → AnswerName) (xs : List ℕ) (i : ℕ) → i < length xs → slice_index_or (map f xs) i SpiJobOk ≡ f (slice_index_or xs i 0)
map_at f [] i lt = absurd (omega (arith, lt))
map_at f (x ∷ xs) zero lt = refl
map_at f (x ∷ xs) (suc i) lt = map_at f xs i (omega (arith, lt))

-- ---- the state

module _ (d : SpiTable) (fits : FitsSpi d) (v : View) (h : IsSoundState d v) (q : ℕ) (small : q < 8) (x : Sequence) (known : sequence_of d q ≡ Some x) (free : is_held d q v.pending ≡ false) (async : is_sync_sequence d q ≡ false) (rests : v.running q ≡ false) (on : is_off v.mode ≡ false) where
  abbrev jobs : List ℕ
  jobs = jobs_of d q

  abbrev pub new : Pending
  new = requested q (v.requests + 1) (map (job_result v.job_results) jobs)

  abbrev pub accepted_view : View
  accepted_view = record v { pending = v.pending ++ new ∷ []; requests = v.requests + 1; sequence_results = with_item SpiSeqOk v.sequence_results q SpiSeqPending; job_results = all_get SpiJobQueued jobs v.job_results }

  pub some : 0 < length jobs
  some =
      let f = fits.sequences q x known in
      let count = length-take-le x.jobs.count x.jobs.numbers (let row = f.row in let few = f.few in omega (arith, row, few)) in
      let one = f.some in
      let same : length jobs ≡ length (jobs_by (Some x)) = ap (λ o. length (jobs_by o)) known in
      omega (arith, count, one, same)

  -- no sequence under way is it, or has a job of it
  pub apart_from : (p : Pending) → Contains (all_of v) p → (p.sequence ≢ q) × (shares_job d q p.sequence ≡ false)
  apart_from p there = cases (all_cases v p there)
      (λ is.
      let r = or_parts (is_of q p) (shares_job d q p.sequence) (any_none (λ p. is_of q p || shares_job d q p.sequence) v.pending free p is) in
      (λ e. let f = sym r.0 ∙ ap (λ n. n == q) e ∙ same_number q in cc, r.1))
      (λ (u, e).
      let r = h.carries.unit u p e in
      let sync : is_sync_sequence d p.sequence ≡ true = ap (is_sync_unit d) r.2 ∙ r.1 in (
        λ f. let g = sym async ∙ ap (is_sync_sequence d) (sym f) ∙ sync in cc,
        not_true (shares_job d q p.sequence) (λ f. let g = sym async ∙ ap (is_sync_unit d) (shares_unit d fits q p.sequence f) ∙ sync in cc),
      ))

  not_job : (p : Pending) (j : ℕ) → Contains (all_of v) p → Contains (jobs_of d p.sequence) j → list_any (λ k. k == j) jobs ≡ false
  not_job p j there has = not_true (list_any (λ k. k == j) jobs) (λ e. let f = sym (apart_from p there).1 ∙ any_in (has_job d q) (jobs_of d p.sequence) j has e in cc)

  not_left : (j : ℕ) → Contains jobs j → list_any (is_left d j) (all_of v) ≡ false
  not_left j has = none_any (is_left d j) (all_of v) (λ p there. not_true (is_left d j p) (λ e.
      let l = at_left (jobs_of d p.sequence) p.next j e in
      let f = sym (not_job p j there (l.place, l.within, get_or_default (jobs_of d p.sequence) l.place j 0 l.within ∙ l.is)) ∙ any_in (λ k. k == j) jobs j has (same_number j) in
      cc))

  not_shared : (p : Pending) → Contains (all_of v) p → shares_job d p.sequence q ≡ false
  not_shared p there = none_any (has_job d p.sequence) jobs (λ j has. not_true (has_job d p.sequence j) (λ e.
      let (k, own, is) = any_some (λ k. k == j) (jobs_of d p.sequence) e in
      let f = sym (not_job p j there (subst (λ n. Contains (jobs_of d p.sequence) n) (is_number k j is) own)) ∙ any_in (λ m. m == j) jobs j has (same_number j) in
      cc))

  -- its jobs are queued, and the others have what they had
  queued_now : (i : ℕ) → i < length jobs → job_result (all_get SpiJobQueued jobs v.job_results) (slice_index_or jobs i 0) ≡ SpiJobQueued
  queued_now i lt =
      let at = at_contained jobs i (slice_index_or jobs i 0) lt (get_or_default jobs i (slice_index_or jobs i 0) 0 lt) in
      results-own jobs (map (λ j. SpiJobQueued) jobs) v.job_results i (slice_index_or jobs i 0) SpiJobQueued (jobs_once d fits q) at (map_get (λ j. SpiJobQueued) jobs i (slice_index_or jobs i 0) at)

  others_now : (j : ℕ) → list_any (λ k. k == j) jobs ≡ false → job_result (all_get SpiJobQueued jobs v.job_results) j ≡ job_result v.job_results j
  others_now j e = results-other jobs (map (λ j. SpiJobQueued) jobs) v.job_results j e

  entry_new : IsEntry d accepted_view new
  entry_new = record {
    number = small;
    next = some;
    had = length-map jobs (job_result v.job_results);
    last = λ i lt. let less : i < length jobs = subst (λ n. i < n) (length-map jobs (job_result v.job_results)) lt in subst (λ a. IsLast a) (sym (map_at (job_result v.job_results) jobs i less)) (h.results.last (slice_index_or jobs i 0) (not_left (slice_index_or jobs i 0) (Contains-get_or jobs i 0 less)));
    cancelled = λ e. absurd (cc);
  }

  entry_old : (p : Pending) → Contains (all_of v) p → IsEntry d accepted_view p
  entry_old p there = let e = h.entries p there in record { number = e.number; next = e.next; had = e.had; last = e.last; cancelled = e.cancelled }

  -- a pending sequence, and one under way, is one that was so, or it
  new_or_old : (C : Pending → Type 0) (p : Pending) → Contains (v.pending ++ new ∷ []) p → (Contains v.pending p → C p) → C new → C p
  new_or_old C p there old own = cases (Contains-push_cases v.pending new p there) old (λ e. subst C e own)

  all_new_or_old : (C : Pending → Type 0) (p : Pending) → Contains (all_of accepted_view) p → (Contains (all_of v) p → C p) → C new → C p
  all_new_or_old C p there old own = cases (all_cases accepted_view p there)
      (λ is. new_or_old C p is (λ one. old (all_pending v p one)) own)
      (λ (u, e). old (all_carried v u p (h.carries.unit u p e).0 e))

  pub all_kept : (p : Pending) → Contains (all_of v) p → Contains (all_of accepted_view) p
  all_kept p there = cases (all_cases v p there)
      (λ is. all_pending accepted_view p (Contains-append_left v.pending (new ∷ []) p is))
      (λ (u, e). all_carried accepted_view u p (h.carries.unit u p e).0 e)

  all_own : Contains (all_of accepted_view) new
  all_own = all_pending accepted_view new (Contains-push v.pending new)

  none_left : (j : ℕ) → list_any (is_left d j) (all_of accepted_view) ≡ false → (list_any (is_left d j) (all_of v) ≡ false) × (is_left d j new ≡ false)
  none_left j none = (none_any (is_left d j) (all_of v) (λ p is. any_none (is_left d j) (all_of accepted_view) none p (all_kept p is)), any_none (is_left d j) (all_of accepted_view) none new all_own)

  pub accepted_sound : IsSoundState d accepted_view
  accepted_sound = record {
    entries = λ p there. all_new_or_old (λ z. IsEntry d accepted_view z) p there (entry_old p) entry_new;
    apart = λ i j a b lt e f. apart i j a b lt (get_push v.pending new i a e) (get_push v.pending new j b f);
    requests = λ p there. new_or_old (λ z. z.request ≤ v.requests + 1) p there (λ is. let le = h.requests p is in omega (arith, le)) (omega arith);
    results = record {
      queued = λ p i there. new_or_old (λ z. z.next ≤ i → i < length (jobs_of d z.sequence) → job_result accepted_view.job_results (slice_index_or (jobs_of d z.sequence) i 0) ≡ (if i == z.next && v.running z.sequence then SpiJobPending else SpiJobQueued)) p there
          (λ is le lt. others_now (slice_index_or (jobs_of d p.sequence) i 0) (not_job p (slice_index_or (jobs_of d p.sequence) i 0) (all_pending v p is) (Contains-get_or (jobs_of d p.sequence) i 0 lt)) ∙ h.results.queued p i is le lt)
          (λ le lt. queued_now i lt ∙ sym (ap (λ b. if i == 0 && b then SpiJobPending else SpiJobQueued) rests ∙ ap (λ b. if b then SpiJobPending else SpiJobQueued) (and_false (i == 0))));
      last = λ j none. let r = none_left j none in subst (λ a. IsLast a) (sym (others_now j r.1)) (h.results.last j r.0);
      named = λ n lt. cases (same_or_other n q)
          (λ e. subst (λ k. IsOfSequence (sequence_result (with_item SpiSeqOk v.sequence_results q SpiSeqPending) k)) (sym e) (subst (λ a. IsOfSequence a) (sym (item-same SpiSeqOk v.sequence_results q SpiSeqPending)) tt))
          (λ ne. subst (λ a. IsOfSequence a) (sym (item-other SpiSeqOk v.sequence_results q n SpiSeqPending ne)) (h.results.named n lt));
      sequences = λ n lt. cases (same_or_other n q)
          (λ e. (
            λ f. subst (λ k. is_pending k (all_of accepted_view) ≡ true) (sym e) (any_in (is_of q) (all_of accepted_view) new all_own (same_number q)),
            λ f. ap (sequence_result (with_item SpiSeqOk v.sequence_results q SpiSeqPending)) e ∙ item-same SpiSeqOk v.sequence_results q SpiSeqPending,
          ))
          (λ ne.
          let same = item-other SpiSeqOk v.sequence_results q n SpiSeqPending ne in
          let was = h.results.sequences n lt in
          (λ f. still n ne ∙ was.0 (sym same ∙ f), λ f. same ∙ was.1 (sym (still n ne) ∙ f)));
    };
    carries = record {
      unit = h.carries.unit;
      asked = λ p there. new_or_old (λ z. is_sync_sequence d z.sequence ≡ false) p there (h.carries.asked p) async;
      idle = h.carries.idle;
      queued = λ u p i e le lt. others_now (slice_index_or (jobs_of d p.sequence) i 0) (not_job p (slice_index_or (jobs_of d p.sequence) i 0) (all_carried v u p (h.carries.unit u p e).0 e) (Contains-get_or (jobs_of d p.sequence) i 0 lt)) ∙ h.carries.queued u p i e le lt;
      off = λ e u. absurd (let f = sym on ∙ e in cc);
    };
    few = h.few;
    off = λ e. absurd (let f = sym on ∙ e in cc);
  }
    where
      apart : (i j : ℕ) (a b : Pending) → i < j → ((slice_get v.pending i ≡ Some a) × (i < length v.pending)) ⊎ ((i ≡ length v.pending) × (new ≡ a)) → ((slice_get v.pending j ≡ Some b) × (j < length v.pending)) ⊎ ((j ≡ length v.pending) × (new ≡ b)) → (a.request < b.request) × (shares_job d a.sequence b.sequence ≡ false)
      apart i j a b lt (inl (e, less)) (inl (f, below)) = h.apart i j a b lt e f
      apart i j a b lt (inl (e, less)) (inr (f, g)) =
          let there = get_contained v.pending i a e in
          let all = all_pending v a there in
          let le = h.requests a there in
          let same : new.request ≡ b.request = ap (λ z. z.request) g in
          (omega (arith, le, same), ap (shares_job d a.sequence) (ap (λ z. z.sequence) (sym g)) ∙ not_shared a all)
      apart i j a b lt (inr (e, f)) (inl (g, below)) = absurd (omega (arith, lt, e, below))
      apart i j a b lt (inr (e, f)) (inr (g, k)) = absurd (omega (arith, lt, e, g))

      still : (n : ℕ) → n ≢ q → is_pending n (all_of accepted_view) ≡ is_pending n (all_of v)
      still n ne = whether (is_pending n (all_of v))
          (λ e. let r = any_some (is_of n) (all_of v) e in any_in (is_of n) (all_of accepted_view) r.0 (all_kept r.0 r.1) r.2 ∙ sym e)
          (λ e. none_any (is_of n) (all_of accepted_view) (λ p is. all_new_or_old (λ z. is_of n z ≡ false) p is (any_none (is_of n) (all_of v) e p) (other_number q n (λ i. ne (sym i)))) ∙ sym e)

  -- ---- the order

  abbrev entry_at : Pending → Entry
  entry_at p = record { number = p.sequence; waits = not (v.running p.sequence) }

  entries_now : (u : ℕ) (b : Bool) → is_for d u new ≡ b → entries_of d accepted_view u ≡ map entry_at (filter (is_for d u) v.pending ++ (if b then new ∷ [] else []))
  entries_now u b e = ap (map entry_at) (filter-append (is_for d u) v.pending (new ∷ [])) ∙ ap (λ b. map entry_at (filter (is_for d u) v.pending ++ (if b then new ∷ [] else []))) e

  pub order_with : (u : ℕ) → u ≡ unit_of_sequence d q → entries_of d accepted_view u ≡ order.added q (entries_of d v u)
  order_with u e = entries_now u true (subst (λ n. is_for d n new ≡ true) (sym e) (job_unit d fits q 0 some)) ∙ map-append entry_at (filter (is_for d u) v.pending) (new ∷ []) ∙ ap (λ b. entries_of d v u ++ record { number = q; waits = not b } ∷ []) rests

  pub order_without : (u : ℕ) → u ≢ unit_of_sequence d q → entries_of d accepted_view u ≡ entries_of d v u
  order_without u ne =
      entries_now u false (not_true (is_for d u new) (λ e. ne (one_unit d u (unit_of_sequence d q) (slice_index_or jobs 0 0) e (job_unit d fits q 0 some))))
      ∙ ap (map entry_at) (append-nil (filter (is_for d u) v.pending))

  -- ---- the words

  module _ (m m1 : Memory) (a : SequencesAgree d m v) (others : (n : ℕ) → n < 8 → n ≢ q → m1 (sequence_word n) ≡ m (sequence_word n)) (told : m1 (sequence_word q) ≡ 1) (nexts : m1 NEXTS ≡ with_next_in (m NEXTS) q 0) (marks : m1 MARKS ≡ unmarked_in (m MARKS) q)
      (job_words : (j : ℕ) → j < 16 → m1 (job_word j) ≡ m (job_word j)) (orders : (u : ℕ) → u < 2 → ranked.Holds (record { at = order_word u }) m1 (entries_of d accepted_view u)) where
    differ : (p : Pending) → Contains (all_of v) p → p.sequence % 8 ≢ q % 8
    differ p there e = let lt = (h.entries p there).number in (apart_from p there).0 (omega (arith, e, lt, small))

    pending_words : (p : Pending) → Contains v.pending p → PendingAgrees m1 p
    pending_words p there =
        let w = a.pending p there in
        let apart = differ p (all_pending v p there) in
        let off = unmarked_other (m MARKS) q p.sequence apart in
        record {
          next = ap (λ n. next_in n p.sequence) nexts ∙ first_other (m NEXTS) q p.sequence apart ∙ w.next;
          started = ap (λ n. has_mark n (started_bit p.sequence)) marks ∙ off.0 ∙ w.started;
          cancelled = ap (λ n. has_mark n (cancelled_bit p.sequence)) marks ∙ off.1 ∙ w.cancelled;
        }

    new_words : PendingAgrees m1 new
    new_words = record {
      next = ap (λ n. next_in n q) nexts ∙ first_same (m NEXTS) q;
      started = ap (λ n. has_mark n (started_bit q)) marks ∙ (unmarked_same (m MARKS) q).0;
      cancelled = ap (λ n. has_mark n (cancelled_bit q)) marks ∙ (unmarked_same (m MARKS) q).1;
    }

    pub accepted_words : SequencesAgree d m1 accepted_view
    accepted_words = record {
      sequences = λ n lt. cases (same_or_other n q)
          (λ e. ap (λ k. m1 (sequence_word k)) e ∙ told ∙ ap sequence_code (sym (item-same SpiSeqOk v.sequence_results q SpiSeqPending)) ∙ ap (λ k. sequence_code (sequence_result (with_item SpiSeqOk v.sequence_results q SpiSeqPending) k)) (sym e))
          (λ ne. others n lt ne ∙ a.sequences n lt ∙ ap sequence_code (sym (item-other SpiSeqOk v.sequence_results q n SpiSeqPending ne)));
      pending = λ p there. new_or_old (λ z. PendingAgrees m1 z) p there (pending_words p) new_words;
      begun = λ u p e. ap (λ n. next_in n p.sequence) nexts ∙ first_other (m NEXTS) q p.sequence (differ p (all_carried v u p (h.carries.unit u p e).0 e)) ∙ a.begun u p e;
      had = λ p i there. all_new_or_old (λ z. z.next ≤ i → i < length (jobs_of d z.sequence) → m1 (job_word (slice_index_or (jobs_of d z.sequence) i 0)) ≡ job_code (slice_index_or z.had i SpiJobOk)) p there
          (λ is le lt. job_words (slice_index_or (jobs_of d p.sequence) i 0) (job_small d fits p.sequence i lt) ∙ a.had p i is le lt)
          (λ le lt. job_words (slice_index_or jobs i 0) (job_small d fits q i lt) ∙ a.jobs (slice_index_or jobs i 0) (job_small d fits q i lt) (not_left (slice_index_or jobs i 0) (Contains-get_or jobs i 0 lt)) ∙ ap job_code (sym (map_at (job_result v.job_results) jobs i lt)));
      jobs = λ j lt none. let r = none_left j none in job_words j lt ∙ a.jobs j lt r.0 ∙ ap job_code (sym (others_now j r.1));
      orders = orders;
    }

-- ---- A request is accepted: what its window owes after the act, and the agreement after that.

-- the frame at a place of its request
abbrev pub requesting : SpiTable → (sequence unit : ℕ) → RequestPlace → UnitBody
requesting d q u p = record { table = d; errand = Transmit q; unit = u; place = units.Request p }

-- ---- the order's part

module _ (d : SpiTable) (fits : FitsSpi d) (q u : ℕ) (few : u < 2) where
  abbrev adding_at : Add → PendingWrites
  adding_at p = Units (requesting d q u (requests.Add p))

  add_steps : (p : Add) (v : ℕ) (o : Option Answer) → (add_gave p v).ended ≡ o → PartTo adding (spi_owing d) adding_at (λ xs. None) p v o
  add_steps p v None e = ap (λ b. unless_done (after_request (requesting d q u (requests.Add p)) (request_adds p v b)).1.done (unit_owed (after_request (requesting d q u (requests.Add p)) (request_adds p v b)).0)) (ap is_some e)
  add_steps p v (Some a) e = ap (λ b. unless_done (after_request (requesting d q u (requests.Add p)) (request_adds p v b)).1.done (unit_owed (after_request (requesting d q u (requests.Add p)) (request_adds p v b)).0)) (ap is_some e)

  add_part : IsPart adding (ranked.own_of (record { at = order_word u })) (spi_owing d) adding_at (λ xs. None)
  add_part = record {
    moves = λ p. refl;
    steps = λ p v. add_steps p v (add_gave p v).ended refl;
    named = named_own d fits (ranked.own_of (record { at = order_word u })) (λ j own. own_order d u j few own);
    fits = λ p chip. tt;
  }

-- ---- the act

module _ (d : SpiTable) (fits : FitsSpi d) (below : Reservations) (chip : Chip) (w : World) (s : SpiState) (h : SpiRepresents d below chip w s) (on : is_off s.mode ≡ false) (q : ℕ) (small : q < 8) (x : Sequence) (known : sequence_of d q ≡ Some x) (free : is_held d q s.pending ≡ false) (async : is_sync_sequence d q ≡ false) where
  abbrev unit : ℕ
  unit = unit_of_sequence d q

  few : unit < 2
  few = unit_few d fits q

  -- the sequence runs no job
  rests : is_running s q ≡ false
  rests = not_true (is_running s q) (λ e.
      let r = runs_on d fits below chip w s h q e in
      let there = (going_asked d fits below chip w s h r.unit r.job r.few r.async r.is).0 in
      let none : is_of q r.job.pending || shares_job d q r.job.pending.sequence ≡ false = any_none (λ p. is_of q p || shares_job d q p.sequence) s.pending free r.job.pending there in
      let f = sym none ∙ ap (λ b. b || shares_job d q r.job.pending.sequence) (ap (λ n. n == q) r.of ∙ same_number q) in
      cc)

  abbrev first : Chip
  first = chip_after chip (Store (sequence_word q) PENDING) 0

  abbrev second : Chip
  second = chip_after first (Store NEXTS (with_next_in (word_of first NEXTS) q 0)) 0

  abbrev third : Chip
  third = chip_after second (Store MARKS (unmarked_in (word_of second MARKS) q)) 0

  outside : StandsIn third w
  outside = stands-move second w (Store MARKS (unmarked_in (word_of second MARKS) q)) 0 (stands-move first w (Store NEXTS (with_next_in (word_of first NEXTS) q 0)) 0 (stands-move chip w (Store (sequence_word q) PENDING) 0 h.outside))

  third_other : (j : ℕ) → j ≢ sequence_word q → j ≢ NEXTS → j ≢ MARKS → word_of third j ≡ word_of chip j
  third_other j a b c = stored_other second MARKS (unmarked_in (word_of second MARKS) q) 0 j c ∙ stored_other first NEXTS (with_next_in (word_of first NEXTS) q 0) 0 j b ∙ stored_other chip (sequence_word q) PENDING 0 j a

  third_told : word_of third (sequence_word q) ≡ 1
  third_told = stored_other second MARKS (unmarked_in (word_of second MARKS) q) 0 (sequence_word q) (not_marks (sequence_word q) (sequence_at q).1) ∙ stored_other first NEXTS (with_next_in (word_of first NEXTS) q 0) 0 (sequence_word q) (not_nexts (sequence_word q) (sequence_at q).1) ∙ stored_same chip (sequence_word q) PENDING 0 (omega (arith, small)) h.outside.all.words

  third_nexts : word_of third NEXTS ≡ with_next_in (word_of chip NEXTS) q 0
  third_nexts =
      stored_other second MARKS (unmarked_in (word_of second MARKS) q) 0 NEXTS (nexts_apart q).0 ∙ stored_same first NEXTS (with_next_in (word_of first NEXTS) q 0) 0 (omega arith) (stands-move chip w (Store (sequence_word q) PENDING) 0 h.outside).all.words
      ∙ ap (λ n. with_next_in n q 0) (stored_other chip (sequence_word q) PENDING 0 NEXTS (nexts_apart q).1)

  third_marks : word_of third MARKS ≡ unmarked_in (word_of chip MARKS) q
  third_marks =
      stored_same second MARKS (unmarked_in (word_of second MARKS) q) 0 (omega arith) (stands-move first w (Store NEXTS (with_next_in (word_of first NEXTS) q 0)) 0 (stands-move chip w (Store (sequence_word q) PENDING) 0 h.outside)).all.words
      ∙ ap (λ n. unmarked_in n q) (stored_other first NEXTS (with_next_in (word_of first NEXTS) q 0) 0 MARKS (marks_apart q).0 ∙ stored_other chip (sequence_word q) PENDING 0 MARKS (marks_apart q).1)

  abbrev after : SpiState
  after = accepted d s q

  module _ (c : Chip) (differs : DiffersIn (ranked.own_of (record { at = order_word unit })) third c) (holds : ranked.Holds (record { at = order_word unit }) (word_of c) (order.added q (entries_of d (view s) unit))) where
    word_same : (j : ℕ) → ranked.own_of (record { at = order_word unit }) j ≡ false → j ≢ sequence_word q → j ≢ NEXTS → j ≢ MARKS → word_of c j ≡ word_of chip j
    word_same j own a b m = differs.others j own ∙ third_other j a b m

    unchanged : WordsStay (word_of chip) (word_of c) q unit
    unchanged = words_stay (word_of chip) (word_of c) q unit small few word_same

    orders : (u : ℕ) → u < 2 → ranked.Holds (record { at = order_word u }) (word_of c) (entries_of d (view after) u)
    orders u lt = cases (same_or_other u unit)
        (λ e. subst (λ n. ranked.Holds (record { at = order_word n }) (word_of c) (entries_of d (view after) n)) (sym e) (subst (λ xs. ranked.Holds (record { at = order_word unit }) (word_of c) xs) (sym (order_with d fits (view s) h.sound q small x known free async rests on unit refl)) holds))
        (λ ne. subst (λ xs. ranked.Holds (record { at = order_word u }) (word_of c) xs) (sym (order_without d fits (view s) h.sound q small x known free async rests on u ne)) (holds-agree (record { at = order_word u }) (word_of chip) (word_of c) (entries_of d (view s) u) (λ j own. unchanged.orders u j lt ne own) ((h.words.on on).sequences.orders u lt)))

    wordly : SequencesAgree d (word_of c) (view after)
    wordly = accepted_words d fits (view s) h.sound q small x known free async rests on (word_of chip) (word_of c) (h.words.on on).sequences unchanged.sequences
        (differs.others (sequence_word q) (high_order unit (sequence_word q) few (sequence_at q).0) ∙ third_told) (differs.others NEXTS (low_order unit NEXTS nexts_at.1) ∙ third_nexts) (differs.others MARKS (low_order unit MARKS marks_at.1) ∙ third_marks) unchanged.jobs orders

    nexts_kept : (u : ℕ) → u < 2 → (g : Option Going) → RunsNext d (view s) u g → RunsNext d (view after) u g
    nexts_kept u lt None n = tt
    nexts_kept u lt (Some g) n = (all_kept d fits (view s) h.sound q small x known free async rests on g.pending n.0, runs (is_sync_unit d u) n.1, n.2)
      where
        runs : (b : Bool) → RunsBy b (view s) u g.pending → RunsBy b (view after) u g.pending
        runs true r = r
        runs false r = (Contains-append_left s.pending (new d fits (view s) h.sound q small x known free async rests on ∷ []) g.pending r.0, r.1)

    -- the frame owes a start
    accepted_now : (by : Origin Call) (acted : Option Answer) → StandsIn c w → SpiRepresents d (record { by = by; what = Debt unit; acted = acted } ∷ below) c w after
    accepted_now by acted stands = firsts_changed d fits below (record { by = by; what = Debt unit; acted = acted } ∷ below) chip c w s h on (holds_debt d (record { by = by; what = Debt unit; acted = acted }) unit below refl) stands (ap (λ x. x.wiring) differs.rest) (ap (λ x. x.serials.units) differs.rest) (ap (λ x. x.control) differs.rest) unchanged.past
        unchanged.state unchanged.runs after.pending after.requests after.sequence_results after.job_results ((few, on, async), h.right) (tt, h.sending) h.carriers (accepted_sound d fits (view s) h.sound q small x known free async rests on) (λ u lt. nexts_kept u lt (h.going u) (h.nexts u lt)) wordly owed
      where
        owed : AreOwed d (record { by = by; what = Debt unit; acted = acted } ∷ below) h.going after
        owed u p lt none there for = cases (Contains-push_cases s.pending (new d fits (view s) h.sound q small x known free async rests on) p there)
            (λ there. or_right (unit == u) _ (h.owed u p lt none there for))
            (λ e.
            let some_job : 0 < length (jobs_of d q) = some d fits (view s) h.sound q small x known free async rests on in
            let at : is_for d u (new d fits (view s) h.sound q small x known free async rests on) ≡ true = subst (λ z. is_for d u z ≡ true) (sym e) for in
            let same : unit ≡ u = one_unit d unit u (slice_index_or (jobs_of d q) 0 0) (job_unit d fits q 0 (some_job)) at in
            ap (λ b. b || is_owed u below) (ap (λ n. unit == n) (sym same) ∙ same_number unit))

  -- what is owed after the act
  pub accepted_owes : (by : Origin Call) (acted : Option Answer) → CommitsAfter (spi_owing d) (Some (Units (requesting d q unit requests.Nexts))) first (λ c. SpiRepresents d (record { by = by; what = Debt unit; acted = acted } ∷ below) c w after)
  accepted_owes by acted =
      one_owed (spi_owing d) Done (Units (requesting d q unit requests.Nexts)) first (Some (Units (requesting d q unit (requests.First (with_next_in (word_of first NEXTS) q 0))))) (may_first d fits NEXTS (omega arith) (omega arith)) tt refl
      (one_owed (spi_owing d) Done (Units (requesting d q unit (requests.First (with_next_in (word_of first NEXTS) q 0)))) first (Some (Units (requesting d q unit requests.Marks))) (may_store d fits NEXTS (with_next_in (word_of first NEXTS) q 0) (own_first d NEXTS (omega arith) (omega arith))) tt refl
      (one_owed (spi_owing d) Done (Units (requesting d q unit requests.Marks)) second (Some (Units (requesting d q unit (requests.Unmark (unmarked_in (word_of second MARKS) q))))) (may_first d fits MARKS (omega arith) (omega arith)) tt refl
      (one_owed (spi_owing d) Done (Units (requesting d q unit (requests.Unmark (unmarked_in (word_of second MARKS) q)))) second (Some (Units (requesting d q unit (requests.Add (adds.Count (order_places unit) q))))) (may_store d fits MARKS (unmarked_in (word_of second MARKS) q) (own_first d MARKS (omega arith) (omega arith))) tt refl
      (settles_part adding (ranked.own_of (record { at = order_word unit })) (spi_owing d) (λ p. Units (requesting d q unit (requests.Add p))) (λ xs. None) (add_part d fits q unit few) (order_there unit few)
      (λ m words. ranked.Holds (record { at = order_word unit }) m (order.added q (entries_of d (view s) unit)) × (words ≡ [])) Done 4 (adds.Count (order_places unit) q) third outside.all.words
      (add-ends (record { at = order_word unit }) q (word_of third) (entries_of d (view s) unit) (omega (arith, small)) held absent)
      (λ c xs differs holds. accepted_now c differs holds.0 by acted (stands_owed (ranked.own_of (record { at = order_word unit })) third c w differs outside))))))
    where
      Done : Chip → Type 0
      Done c = SpiRepresents d (record { by = by; what = Debt unit; acted = acted } ∷ below) c w after

      held : ranked.Holds (record { at = order_word unit }) (word_of third) (entries_of d (view s) unit)
      held = holds-agree (record { at = order_word unit }) (word_of chip) (word_of third) (entries_of d (view s) unit) (λ j own. let at = order_at unit j few (from_order unit j own) (to_order unit j own) in sym (third_other j (before_sequences q j at.0) (not_nexts j at.1) (not_marks j at.1))) ((h.words.on on).sequences.orders unit few)

      absent : order.is_there q (entries_of d (view s) unit) ≡ false
      absent = not_true (order.is_there q (entries_of d (view s) unit)) (λ e.
          let (p, is, same) = there_back (is_running s) q (filter (is_for d unit) s.pending) e in
          (apart_from d fits (view s) h.sound q small x known free async rests on p (all_pending (view s) p (filter_back (is_for d unit) s.pending p is).0)).0 same)
