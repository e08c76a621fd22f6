-- One pending sequence is changed in its marks: what stays of the agreement, and that it stands for the changed state.
-- From words.SameWords, words.JobPlaces, words.WordsOfModule, words.Cases, service_outline: Words and 3 more.
-- Used by spi_laws: starting.words.UnitWords, spi_laws: serving.words.NextWords, services.CancelRight and 2 more.
use Rattle.std.proofs.Common.{◌≡◌, ◌≢◌, ◌+◌, ◌*◌, ◌%◌, ◌^◌, ◌<◌, ◌≤◌, ◌==◌, ◌&&◌, ◌||◌, [], ◌∷◌, ◌++◌, ◌∙◌}
use Rattle.std.proofs.Common.{if◌then◌else◌}
use Rattle.spi_sequences.specs.Terms
use Terms.{all_of, and_or_apart, and_or_self, ap, arith, BanksAgree, bit_or, Bool, cancelled_bit, cancels, carried_at}
use Terms.{CarriesAgrees, cases, changed, Channel, channel_of, channels_of, Chip, chip_after, Contains, Destination}
use Terms.{drop, entries_begun, entries_of, Entry, false, filter, FitsSpi, Going, has_mark, held_word, holds-agree}
use Terms.{is_for, is_left, is_of, is_off, is_on_unit, is_pending, is_sync_sequence, is_sync_unit, IsEntry, IsLast}
use Terms.{IsSoundState, job_code, job_of, job_result, job_word, jobs_of, KeepsNone, KeepsWords, length, List, list_any}
use Terms.{map, MARKS, Memory, nat_tests, next_in, next_job, NEXTS, None, not, Option, order_word, packed_run, Pending}
use Terms.{PendingAgrees, Pins, PinsNone, place_of, Placed, placed_of, position_word, pow_apart, PutRight, Putting}
use Terms.{refl, Reservations, Run, run_at, run_carried, RunAgrees, running_word, RunsBy, RunsNext, select_by}
use Terms.{select_of, sequence_word, SequencesAgree, Serial, set_up_word, shares_job, slice_get, slice_index_or, Some}
use Terms.{some_or_none, Source, source_word, SpiJobOk, SpiJobPending, SpiJobQueued, SpiRepresents, SpiState, SpiTable}
use Terms.{stands-move, started_bit, STATE, Store, stored_other, stored_same, subst, suc, sym, TakeRight, Taking, true}
use Terms.{unit_at, UnitAgrees, View, view, whether, whether_as, word_of, words_of, World, zero, ℕ}
use Rattle.spi_sequences.specs.laws.{hardware.StableUnderHardware.{none_in}, services.SetUpRight.{none_stored}}
use Rattle.spi_sequences.specs.laws.words.JobPlaces.{all_carried, all_cases, all_pending, IsAside}
use Rattle.spi_sequences.specs.laws.words.SameWords.{banks_as, banks_view, banks_words, contains_map, going_words, job_small}
use Rattle.spi_sequences.specs.laws.{words.SameWords.{sends_as}, words.WordsOfModule.{in_order, of_banks, of_held}}
use Rattle.spi_sequences.specs.laws.{words.WordsOfModule.{of_set_up, past_the_first}, words.WordsToState.{at_contained}}
use Rattle.spi_sequences.specs.laws.words.WordsToState.{going_next, is_number, other_number, same_number}
use Rattle.std.proofs.lemmas.List.Folds.{list_any-append}
use Rattle.word_shapes.specs.PriorityQueue as ranked

-- ---- lists that are mapped

pub contains_back : {A B : Type 0} (g : A → B) (xs : List A) (y : B) → Contains (map g xs) y → (x : A) × Contains xs x × (y ≡ g x)
contains_back g [] y (k, lt, e) = absurd (omega (arith, lt))
contains_back g (x ∷ xs) y (zero, lt, e) = (x, (0, omega arith, refl), sym e)
contains_back g (x ∷ xs) y (suc k, lt, e) = let r = contains_back g xs y (k, omega (arith, lt), e) in (r.0, (suc r.1.0, let less = r.1.1 in omega (arith, less), r.1.2), r.2)

pub get_back : {A B : Type 0} (g : A → B) (xs : List A) (i : ℕ) (y : B) → slice_get (map g xs) i ≡ Some y → (x : A) × (slice_get xs i ≡ Some x) × (y ≡ g x)
get_back g [] i y e = absurd (cc)
get_back g (x ∷ xs) zero y e = (x, refl, let same : g x ≡ y = cc in sym same)
get_back g (x ∷ xs) (suc i) y e = get_back g xs i y e

pub any_mapped : {A : Type 0} (p : A → Bool) (g : A → A) (xs : List A) → ((x : A) → p (g x) ≡ p x) → list_any p (map g xs) ≡ list_any p xs
any_mapped p g [] e = refl
any_mapped p g (x ∷ xs) e = ap (λ q. q || list_any p (map g xs)) (e x) ∙ ap (λ q. p x || q) (any_mapped p g xs e)

-- ---- the sequence that is changed

module _ (q : ℕ) (f : Pending → Pending) where
  -- its sequence, its request, its next job and what its jobs had stay
  pub record Keeps : Type 0 where
    pub sequence : (p : Pending) → (f p).sequence ≡ p.sequence
    pub request : (p : Pending) → (f p).request ≡ p.request
    pub next : (p : Pending) → (f p).next ≡ p.next
    pub had : (p : Pending) → (f p).had ≡ p.had

  abbrev pub item : Pending → Pending
  item p = if is_of q p then f p else p

  same_by : {A : Type 0} (see : Pending → A) → ((p : Pending) → see (f p) ≡ see p) → (p : Pending) → see (item p) ≡ see p
  same_by see e p = elim (is_of q p) as (λ b. see (if b then f p else p) ≡ see p) [ true ↦ e p | false ↦ refl ]

  -- what runs of it is its entry as it was changed
  abbrev pub going_with : Option Going → Option Going
  going_with None = None
  going_with (Some g) = Some (record g { pending = item g.pending })

  module _ (d : SpiTable) (k : Keeps) where
    pub item_sequence : (p : Pending) → (item p).sequence ≡ p.sequence
    item_sequence p = same_by (λ p. p.sequence) k.sequence p

    item_request : (p : Pending) → (item p).request ≡ p.request
    item_request p = same_by (λ p. p.request) k.request p

    pub item_next : (p : Pending) → (item p).next ≡ p.next
    item_next p = same_by (λ p. p.next) k.next p

    item_had : (p : Pending) → (item p).had ≡ p.had
    item_had p = same_by (λ p. p.had) k.had p

    pub item_job : (p : Pending) → next_job d (item p) ≡ next_job d p
    item_job p = ap (λ z. slice_index_or (jobs_of d z) (item p).next 0) (item_sequence p) ∙ ap (λ n. slice_index_or (jobs_of d p.sequence) n 0) (item_next p)

    pub item_for : (u : ℕ) (p : Pending) → is_for d u (item p) ≡ is_for d u p
    item_for u p = ap (λ j. is_on_unit u (job_of d j)) (item_job p)

    item_left : (j : ℕ) (p : Pending) → is_left d j (item p) ≡ is_left d j p
    item_left j p = ap (λ n. list_any (λ k. k == j) (drop n (jobs_of d (item p).sequence))) (item_next p) ∙ ap (λ z. list_any (λ k. k == j) (drop p.next (jobs_of d z))) (item_sequence p)

    module _ (v : View) (aside : IsAside q v) where
      abbrev pub after : View
      after = record v { pending = changed q f v.pending }

      abbrev others : List Pending
      others = entries_begun (v.begun 0) ++ entries_begun (v.begun 1)

      -- what a unit carries out stays
      item_begun : (u : ℕ) (p : Pending) → v.begun u ≡ Some p → item p ≡ p
      item_begun u p e = ap (λ b. if b then f p else p) (aside u p e).1

      all_back : (p : Pending) → Contains (all_of after) p → (x : Pending) × Contains (all_of v) x × (p ≡ item x)
      all_back p there = cases (all_cases after p there)
          (λ is. let r = contains_back item v.pending p is in (r.0, all_pending v r.0 r.1, r.2))
          (λ (u, e). (p, all_carried v u p (aside u p e).0 e, sym (item_begun u p e)))

      all_mapped : (g : Pending → Bool) → ((p : Pending) → g (item p) ≡ g p) → list_any g (all_of after) ≡ list_any g (all_of v)
      all_mapped g e = list_any-append g (changed q f v.pending) others ∙ ap (λ b. b || list_any g others) (any_mapped g item v.pending e) ∙ sym (list_any-append g v.pending others)

      pub pending_now : (n : ℕ) → is_pending n (all_of after) ≡ is_pending n (all_of v)
      pending_now n = all_mapped (is_of n) (λ p. ap (λ z. z == n) (item_sequence p))

      left_now : (j : ℕ) → list_any (is_left d j) (all_of after) ≡ list_any (is_left d j) (all_of v)
      left_now j = all_mapped (is_left d j) (item_left j)

      entry_after : (p : Pending) → ((item p).cancelled ≡ true → v.running p.sequence ≡ true) → IsEntry d v p → IsEntry d after (item p)
      entry_after p marks e = record {
        number = subst (λ n. n < 8) (sym (item_sequence p)) e.number;
        next = subst (λ n. n < length (jobs_of d (item p).sequence)) (sym (item_next p)) (subst (λ z. p.next < length (jobs_of d z)) (sym (item_sequence p)) e.next);
        had = ap length (item_had p) ∙ e.had ∙ ap (λ z. length (jobs_of d z)) (sym (item_sequence p));
        last = λ i lt. subst (λ xs. IsLast (slice_index_or xs i SpiJobOk)) (sym (item_had p)) (e.last i (subst (λ xs. i < length xs) (item_had p) lt));
        cancelled = λ c. ap v.running (item_sequence p) ∙ marks c;
      }

      -- the state is as sound as it was
      pub sound_changed : ((p : Pending) → Contains v.pending p → (item p).cancelled ≡ true → v.running p.sequence ≡ true) → IsSoundState d v → IsSoundState d after
      sound_changed marks h = record {
        entries = λ p there.
            let (x, one, is) = all_back p there in
            let marked : (item x).cancelled ≡ true → v.running x.sequence ≡ true = λ c. cases (all_cases v x one) (λ i. marks x i c) (λ (u, e). (h.entries x one).cancelled (ap (λ z. z.cancelled) (sym (item_begun u x e)) ∙ c)) in
            subst (λ z. IsEntry d after z) (sym is) (entry_after x marked (h.entries x one));
        apart = λ i j x y lt e g.
            let (a, at, isa) = get_back item v.pending i x e in
            let (b, bt, isb) = get_back item v.pending j y g in
            let r = h.apart i j a b lt at bt in
            let less = r.0 in
            let first : x.request ≡ a.request = ap (λ z. z.request) isa ∙ item_request a in
            let second : y.request ≡ b.request = ap (λ z. z.request) isb ∙ item_request b in
            (omega (arith, less, first, second), ap (λ z. shares_job d z y.sequence) (ap (λ z. z.sequence) isa ∙ item_sequence a) ∙ ap (λ z. shares_job d a.sequence z) (ap (λ z. z.sequence) isb ∙ item_sequence b) ∙ r.1);
        requests = λ p there.
            let (x, one, is) = contains_back item v.pending p there in
            let le = h.requests x one in
            let same : p.request ≡ x.request = ap (λ z. z.request) is ∙ item_request x in
            omega (arith, le, same);
        results = record {
          queued = λ p i there le lt.
              let (x, one, is) = contains_back item v.pending p there in
              let sq : p.sequence ≡ x.sequence = ap (λ z. z.sequence) is ∙ item_sequence x in
              let nx : p.next ≡ x.next = ap (λ z. z.next) is ∙ item_next x in
              subst (λ z. job_result v.job_results (slice_index_or (jobs_of d z) i 0) ≡ (if i == p.next && v.running z then SpiJobPending else SpiJobQueued)) (sym sq)
              (subst (λ n. job_result v.job_results (slice_index_or (jobs_of d x.sequence) i 0) ≡ (if i == n && v.running x.sequence then SpiJobPending else SpiJobQueued)) (sym nx)
              (h.results.queued x i one (subst (λ n. n ≤ i) nx le) (subst (λ z. i < length (jobs_of d z)) sq lt)));
          last = λ j none. h.results.last j (sym (left_now j) ∙ none);
          named = h.results.named;
          sequences = λ n lt. let r = h.results.sequences n lt in (λ e. pending_now n ∙ r.0 e, λ e. r.1 (sym (pending_now n) ∙ e));
        };
        carries = record {
          unit = h.carries.unit;
          asked = λ p there.
              let (x, one, is) = contains_back item v.pending p there in
              ap (is_sync_sequence d) (ap (λ z. z.sequence) is ∙ item_sequence x) ∙ h.carries.asked x one;
          idle = h.carries.idle;
          queued = h.carries.queued;
          off = h.carries.off;
        };
        few = h.few;
        off = λ e. (ap (changed q f) (h.off e).0, (h.off e).1);
      }

      -- the order of the requests stays
      abbrev entry_of : Pending → Entry
      entry_of p = record { number = p.sequence; waits = not (v.running p.sequence) }

      order_same : (u : ℕ) (ps : List Pending) → map entry_of (filter (is_for d u) (changed q f ps)) ≡ map entry_of (filter (is_for d u) ps)
      order_same u [] = refl
      order_same u (p ∷ ps) =
          ap (λ a. map entry_of (if a then item p ∷ filter (is_for d u) (changed q f ps) else filter (is_for d u) (changed q f ps))) (item_for u p)
          ∙ whether_as (is_for d u p) (λ b. map entry_of (if b then item p ∷ filter (is_for d u) (changed q f ps) else filter (is_for d u) (changed q f ps)) ≡ map entry_of (if b then p ∷ filter (is_for d u) ps else filter (is_for d u) ps))
          (λ _. ap (λ z. record { number = z; waits = not (v.running z) } ∷ map entry_of (filter (is_for d u) (changed q f ps))) (item_sequence p) ∙ ap (λ xs. entry_of p ∷ xs) (order_same u ps))
          (λ _. order_same u ps)

      pub entries_same : (u : ℕ) → entries_of d after u ≡ entries_of d v u
      entries_same u = order_same u v.pending

      -- the words, where the marks are the changed ones and all others are as they were
      module _ (m m1 : Memory) (words : (j : ℕ) → STATE < j → j < STATE + 64 → j ≢ MARKS → m1 j ≡ m j) where
        pending_after : (p : Pending) → PendingAgrees m p → (has_mark (m1 MARKS) (started_bit p.sequence) ≡ (item p).started) × (has_mark (m1 MARKS) (cancelled_bit p.sequence) ≡ (item p).cancelled) → PendingAgrees m1 (item p)
        pending_after p h marks = record {
          next = ap (next_in (m1 NEXTS)) (item_sequence p) ∙ ap (λ n. next_in n p.sequence) (words NEXTS (omega arith) (omega arith) (λ e. omega (arith, e))) ∙ h.next ∙ sym (item_next p);
          started = ap (λ z. has_mark (m1 MARKS) (started_bit z)) (item_sequence p) ∙ marks.0;
          cancelled = ap (λ z. has_mark (m1 MARKS) (cancelled_bit z)) (item_sequence p) ∙ marks.1;
        }

        -- a place of a job among the first words
        module _ (h : SequencesAgree d m v) (marks : (p : Pending) → Contains v.pending p → (has_mark (m1 MARKS) (started_bit p.sequence) ≡ (item p).started) × (has_mark (m1 MARKS) (cancelled_bit p.sequence) ≡ (item p).cancelled))
            (small : (n i : ℕ) → i < length (jobs_of d n) → slice_index_or (jobs_of d n) i 0 < 16) where
          order_apart : (u j : ℕ) → u < 2 → ranked.own_of (record { at = order_word u }) j ≡ true → m1 j ≡ m j
          order_apart u j lt own = let range = in_order u j lt own in words j range.0 range.1 (not_marks u j own)
            where
              not_marks : (u j : ℕ) → ranked.own_of (record { at = order_word u }) j ≡ true → j ≢ MARKS
              not_marks u j own e = grind (arith, nat_tests)

          pub sequences_after : SequencesAgree d m1 after
          sequences_after = record {
            sequences = λ n lt. words (sequence_word n) (omega arith) (omega (arith, lt)) (λ e. omega (arith, e)) ∙ h.sequences n lt;
            pending = λ p there.
                let (x, one, is) = contains_back item v.pending p there in
                subst (λ z. PendingAgrees m1 z) (sym is) (pending_after x (h.pending x one) (marks x one));
            begun = λ u p e. ap (λ n. next_in n p.sequence) (words NEXTS (omega arith) (omega arith) (λ i. omega (arith, i))) ∙ h.begun u p e;
            had = λ p i there le lt.
                let (x, one, is) = all_back p there in
                let sq : p.sequence ≡ x.sequence = ap (λ z. z.sequence) is ∙ item_sequence x in
                let nx : p.next ≡ x.next = ap (λ z. z.next) is ∙ item_next x in
                let hd : p.had ≡ x.had = ap (λ z. z.had) is ∙ item_had x in
                let less : i < length (jobs_of d x.sequence) = subst (λ z. i < length (jobs_of d z)) sq lt in
                let few = small x.sequence i less in
                ap (λ z. m1 (job_word (slice_index_or (jobs_of d z) i 0))) sq ∙ words (job_word (slice_index_or (jobs_of d x.sequence) i 0)) (omega arith) (omega (arith, few)) (λ e. omega (arith, e))
                ∙ h.had x i one (subst (λ n. n ≤ i) nx le) less ∙ ap (λ xs. job_code (slice_index_or xs i SpiJobOk)) (sym hd);
            jobs = λ j lt none. words (job_word j) (omega arith) (omega (arith, lt)) (λ e. omega (arith, e)) ∙ h.jobs j lt (sym (left_now j) ∙ none);
            orders = λ u lt. subst (λ xs. ranked.Holds (record { at = order_word u }) m1 xs) (sym (entries_same u)) (holds-agree (record { at = order_word u }) m m1 (entries_of d v u) (λ j own. sym (order_apart u j lt own)) (h.orders u lt));
          }

      -- what runs is the next job of an entry as it was changed
      pub nexts_after : ((p : Pending) → p.started ≡ true → (f p).started ≡ true) → (u : ℕ) (g : Option Going) → RunsNext d v u g → RunsNext d after u (going_with g)
      nexts_after starts u None h = tt
      nexts_after starts u (Some g) h = (
        cases (all_cases v g.pending h.0)
            (λ is. all_pending after (item g.pending) (there is))
            (λ (n, e). all_carried after n (item g.pending) (aside n g.pending e).0 (e ∙ ap (λ z. Some z) (sym (item_begun n g.pending e)))),
        runs (is_sync_unit d u) h.1,
        item_for u g.pending ∙ h.2,
      )
        where
          there : Contains v.pending g.pending → Contains (changed q f v.pending) (item g.pending)
          there (n, lt, e) = contains_map item v.pending n g.pending (at_contained v.pending n g.pending lt e)

          started : g.pending.started ≡ true → (item g.pending).started ≡ true
          started i =
              elim (is_of q g.pending) as (λ b. (if b then f g.pending else g.pending).started ≡ true)
              [ true ↦ starts g.pending i | false ↦ i ]

          runs : (b : Bool) → RunsBy b v u g.pending → RunsBy b after u (item g.pending)
          runs true r = r ∙ ap (λ z. Some z) (sym (item_begun u g.pending r))
          runs false r = (there r.0, started r.1)

    -- a unit runs what it ran
    pub unit_with : (x : Serial) (r : Option Run) (g : Option Going) → UnitAgrees d x r g → UnitAgrees d x r (going_with g)
    unit_with x r None h = h
    unit_with x r (Some g) h = (h.0, h.1 ∙ ap (λ z. Some (record { sequence = z; words = words_of d g.parts; received = g.received; transfer = h.0 })) (sym (item_sequence g.pending)), h.2, h.3 ∙ ap (λ j. select_of (select_by (job_of d j))) (sym (item_job g.pending)))

    pub carried_with : (x : Serial) (r : Option Run) (g : Option Going) → CarriesAgrees d x r g → CarriesAgrees d x r (going_with g)
    carried_with x r None h = h
    carried_with x r (Some g) h = (h.0, h.1 ∙ ap (λ z. Some (record { sequence = z; words = words_of d g.parts; received = g.received; transfer = h.0 })) (sym (item_sequence g.pending)), h.2)

    pub run_with : (m : Memory) (u : ℕ) (g : Option Going) → RunAgrees d m u g → RunAgrees d m u (going_with g)
    run_with m u None h = h
    run_with m u (Some g) h = record {
      channels = h.channels ∙ ap (channels_of d) (sym (item_job g.pending));
      running = h.running ∙ ap (λ j. packed_run (record { job = j; sequence = g.pending.sequence })) (sym (item_job g.pending)) ∙ ap (λ z. packed_run (record { job = next_job d (item g.pending); sequence = z })) (sym (item_sequence g.pending));
      position = h.position;
      place = h.place;
      inside = h.inside;
      count = h.count;
      parts = h.parts;
    }

-- ---- the agreement stands for the state in which it has the mark

-- ---- the marks in their word

some_bit : (i : ℕ) → 2 ^ i ≢ 0
some_bit zero e = omega (arith, e)
some_bit (suc i) e = some_bit i (let f : 2 ^ suc i ≡ 2 * 2 ^ i = grind arith in omega (arith, e, f))

pub marked_same : (v i : ℕ) → has_mark (bit_or v (2 ^ i)) (2 ^ i) ≡ true
marked_same v i = ap (λ n. not (n == 0)) (and_or_self (2 ^ i) v) ∙ ap not (other_number (2 ^ i) 0 (some_bit i))

pub marked_other : (v i j : ℕ) → i ≢ j → has_mark (bit_or v (2 ^ i)) (2 ^ j) ≡ has_mark v (2 ^ j)
marked_other v i j ne = ap (λ n. not (n == 0)) (and_or_apart (2 ^ j) v (2 ^ i) (pow_apart i j ne))

-- ---- what runs holds the same of its banks

module _ (q : ℕ) (f : Pending → Pending) where
  -- what looks at its parts alone
  with_same : (P : Option Going → Type 0) → ((g : Going) → P (Some g) → P (going_with q f (Some g))) → (g : Option Going) → P g → P (going_with q f g)
  with_same P same None h = h
  with_same P same (Some g) h = same g h

  take_with : (going : ℕ → Option Going) (c : ℕ) (o : Option Taking) → TakeRight going c o → TakeRight (λ u. going_with q f (going u)) c o
  take_with going c None h = λ u lt. with_same (λ g. PinsNone g c) (λ g h. h) (going u) (h u lt)
  take_with going c (Some x) h = (h.0, h.1, with_same (λ g. Pins g c x.kept) (λ g h. h) (going h.0) h.2)

  put_with : (going : ℕ → Option Going) (m : Memory) (x : Placed) (held o : Option Putting) → PutRight going m x held o → PutRight (λ u. going_with q f (going u)) m x held o
  put_with going m x None None h = λ u lt. with_same (λ g. KeepsNone g x.number) (λ g h. h) (going u) (h u lt)
  put_with going m x None (Some p) h = (h.0, h.1, with_same (λ g. KeepsWords g x.number p.filled) (λ g h. h) (going h.0) h.2, h.3)
  put_with going m x (Some y) o h = h

  banks_with : (d : SpiTable) (held : Reservations) (going : ℕ → Option Going) (m : Memory) (v : View) (c : ℕ) (k : Channel) → BanksAgree d held going m v c k → BanksAgree d held (λ u. going_with q f (going u)) m v c k
  banks_with d held going m v c k h =
      banks_as d held held going (λ u. going_with q f (going u)) m m v v c k (λ side j is. refl) (take_with going c) (put_with going m (placed_of d c)) refl refl (λ r. refl) refl refl refl h

-- ---- the mark

module _ (d : SpiTable) (fits : FitsSpi d) (below : Reservations) (chip : Chip) (w : World) (s : SpiState) (h : SpiRepresents d below chip w s) (on : is_off s.mode ≡ false) (q : ℕ) (aside : IsAside q (view s)) (f : Pending → Pending) (k : Keeps q f) (value : ℕ) where
  abbrev chip1 : Chip
  chip1 = chip_after chip (Store MARKS value) 0

  abbrev going1 : ℕ → Option Going
  going1 u = going_with q f (h.going u)

  other : (j : ℕ) → j ≢ MARKS → word_of chip1 j ≡ word_of chip j
  other j ne = stored_other chip MARKS value 0 j ne

  above : (j : ℕ) → STATE + 64 ≤ j → word_of chip1 j ≡ word_of chip j
  above j le = other j (λ e. omega (arith, le, e))

  here : word_of chip1 MARKS ≡ value
  here = stored_same chip MARKS value 0 (omega arith) h.outside.all.words

  run_marked : (u : ℕ) → u < 2 → (g : Option Going) → h.going u ≡ g → RunAgrees d (word_of chip) u g → RunAgrees d (word_of chip1) u (going_with q f g)
  run_marked u lt None e r = other (running_word u) (λ i. omega (arith, i)) ∙ r
  run_marked u lt (Some g) e r = run_with q f d k (word_of chip1) u (Some g) (going_words d fits u (word_of chip) (word_of chip1) g (going_next d fits below chip w s h u g lt e).2
      (λ n x c at known outside. above (held_word (placed_of d x.channel)) (past_the_first d x.channel c _ (fits.channels x.channel c known) (of_held d fits x.channel c known))) (λ n x c i at known few. other (source_word (placed_of d x.channel) i) (λ j. omega (arith, j)))
      (other (running_word u) (λ i. omega (arith, i))) (other (position_word u) (λ i. omega (arith, i))) r)

  pub marked : ((p : Pending) → Contains s.pending p → (item q f p).cancelled ≡ true → (view s).running p.sequence ≡ true) → ((p : Pending) → p.started ≡ true → (f p).started ≡ true)
      → ((p : Pending) → Contains s.pending p → (has_mark value (started_bit p.sequence) ≡ (item q f p).started) × (has_mark value (cancelled_bit p.sequence) ≡ (item q f p).cancelled))
      → SpiRepresents d below chip1 w (record s { pending = changed q f s.pending })
  marked runs starts marks = record {
    right = h.right;
    outside = stands-move chip w (Store MARKS value) 0 h.outside;
    wired = h.wired;
    size = h.size;
    sound = sound_changed q f d k (view s) aside runs h.sound;
    going = going1;
    nexts = λ u lt. nexts_after q f d k (view s) aside starts u (h.going u) (h.nexts u lt);
    units = λ u lt async. unit_with q f d k (unit_at chip.serials u) (run_at s u) (h.going u) (h.units u lt async);
    sends = λ u lt sync. carried_with q f d k (unit_at chip.serials u) (run_carried (carried_at s u)) (h.going u) (h.sends u lt sync);
    sending = sends_as d chip chip1 w w h.going going1 s (record s { pending = changed q f s.pending }) (λ u g lt sync is. going_same u (h.going u) refl lt sync) (λ u g lt sync is. refl) (λ u g n x c lt sync is there known. above (held_word (placed_of d x.channel)) (past_the_first d x.channel c _ (fits.channels x.channel c known) (of_held d fits x.channel c known))) (λ u o knows. knows) below h.sending;
    carriers = h.carriers;
    words = record {
      state = other STATE (λ e. omega (arith, e)) ∙ h.words.state;
      on = λ still. record {
        sequences = sequences_after q f d k (view s) aside (word_of chip) (word_of chip1) (λ j low high ne. other j ne) (h.words.on on).sequences (λ p there. subst (λ n. (has_mark n (started_bit p.sequence) ≡ (item q f p).started) × (has_mark n (cancelled_bit p.sequence) ≡ (item q f p).cancelled)) (sym here) (marks p there)) (λ n i lt. job_small d fits n i lt);
        runs = λ u lt. run_marked u lt (h.going u) refl ((h.words.on on).runs u lt);
      };
      banks = λ c x known internal. banks_view d below going1 (word_of chip1) (view s) (view (record s { pending = changed q f s.pending })) c x refl refl (λ r. refl) (banks_with q f d below h.going (word_of chip1) (view s) c x (banks_kept c x known internal));
      stored = λ j n is. absurd (none_in (j, n) (subst (λ xs. Contains xs (j, n)) (none_stored d s.mode s.channels below on h.right) is));
    };
    set_ups = λ still c x known external. above (set_up_word (placed_of d c)) (past_the_first d c x _ (fits.channels c x known) (of_set_up d fits c x known)) ∙ h.set_ups on c x known external;
    sizes = λ still. h.sizes on;
    arrays = λ c. record { source = λ i lt. other (place_of (Source c) i) (λ e. omega (arith, e)) ∙ (h.arrays c).source i lt; destination = λ i lt. other (place_of (Destination c) i) (λ e. omega (arith, e)) ∙ (h.arrays c).destination i lt };
    lines = h.lines;
    owed = λ u p lt free there for.
        let (x, one, is) = contains_back (item q f) s.pending p there in
        let none : h.going u ≡ None = some_or_none (h.going u) (λ g e. absurd (let n = sym free ∙ ap (going_with q f) e in cc)) (λ e. e) in
        h.owed u x lt none one (sym (item_for q f d k u x) ∙ sym (ap (is_for d u) is) ∙ for);
  }
    where
      -- a unit that carries out a sequence for a call runs what it ran
      going_same : (u : ℕ) (g : Option Going) → h.going u ≡ g → u < 2 → is_sync_unit d u ≡ true → going_with q f g ≡ h.going u
      going_same u None e lt sync = sym e
      going_same u (Some g) e lt sync =
          let begun = subst (λ b. RunsBy b (view s) u g.pending) sync (going_next d fits below chip w s h u g lt e).1 in
          ap (λ z. Some (record g { pending = z })) (ap (λ b. if b then f g.pending else g.pending) (aside u g.pending begun).1) ∙ sym e

      banks_kept : (c : ℕ) (x : Channel) → channel_of d c ≡ Some x → x.internal ≡ true → BanksAgree d below h.going (word_of chip1) (view s) c x
      banks_kept c x known internal = banks_words d fits below h.going (word_of chip) (word_of chip1) (view s) c x known (above (held_word (placed_of d c)) (past_the_first d c x _ (fits.channels c x known) (of_held d fits c x known))) (λ side j is. above j (past_the_first d c x j (fits.channels c x known) (of_banks d fits c x known internal side j is))) (h.words.banks c x known internal)

-- ---- a running sequence is cancelled

cancel_keeps : (q : ℕ) → Keeps q cancels
cancel_keeps q = record { sequence = λ p. refl; request = λ p. refl; next = λ p. refl; had = λ p. refl }

module _ (d : SpiTable) (fits : FitsSpi d) (below : Reservations) (chip : Chip) (w : World) (s : SpiState) (h : SpiRepresents d below chip w s) (on : is_off s.mode ≡ false) (q : ℕ) (aside : IsAside q (view s)) (small : q < 8) (runs : (view s).running q ≡ true) where
  abbrev mark : ℕ
  mark = bit_or (word_of chip MARKS) (cancelled_bit q)

  bits_apart : (p : Pending) → p.sequence < 8 → p.sequence ≢ q → 8 + q % 8 ≢ 8 + p.sequence % 8
  bits_apart p lt ne e = ne (omega (arith, lt, small, e))

  pub cancelled_now : SpiRepresents d below (chip_after chip (Store MARKS mark) 0) w (record s { pending = changed q cancels s.pending })
  cancelled_now = marked d fits below chip w s h on q aside cancels (cancel_keeps q) mark running (λ p e. e) marks
    where
      running : (p : Pending) → Contains s.pending p → (item q cancels p).cancelled ≡ true → (view s).running p.sequence ≡ true
      running p there c = whether (is_of q p)
          (λ e. ap (view s).running (is_number p.sequence q e) ∙ runs)
          (λ e. (h.sound.entries p (all_pending (view s) p there)).cancelled (sym (ap (λ b. (if b then cancels p else p).cancelled) e) ∙ c))

      marks : (p : Pending) → Contains s.pending p → (has_mark mark (started_bit p.sequence) ≡ (item q cancels p).started) × (has_mark mark (cancelled_bit p.sequence) ≡ (item q cancels p).cancelled)
      marks p there =
          let started : has_mark mark (started_bit p.sequence) ≡ p.started = marked_other (word_of chip MARKS) (8 + q % 8) (p.sequence % 8) (λ e. omega (arith, e)) ∙ ((h.words.on on).sequences.pending p there).started in
          whether_as (is_of q p) (λ b. (has_mark mark (started_bit p.sequence) ≡ (if b then cancels p else p).started) × (has_mark mark (cancelled_bit p.sequence) ≡ (if b then cancels p else p).cancelled))
          (λ e. (started, subst (λ n. has_mark mark (cancelled_bit n) ≡ true) (sym (is_number p.sequence q e)) (marked_same (word_of chip MARKS) (8 + q % 8))))
          (λ e. (started, marked_other (word_of chip MARKS) (8 + q % 8) (8 + p.sequence % 8) (bits_apart p (h.sound.entries p (all_pending (view s) p there)).number (λ f. let g = sym e ∙ ap (λ n. n == q) f ∙ same_number q in cc)) ∙ ((h.words.on on).sequences.pending p there).cancelled))
