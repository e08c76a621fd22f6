-- A sequence goes on to its next job and waits: the word of next jobs, the state, which stays sound, and the words that stand for it.
-- From spi_sequences: words.JobPlaces, spi_sequences: bookkeeping.MarkedState and 4 more.
-- Used by services.ServeRight, sending.services.SendGoesOn, sending.services.SendStarts and 1 more.
use Rattle.std.proofs.Common.{◌≡◌, ◌≢◌, ◌+◌, ◌*◌, ◌/◌, ◌%◌, ◌^◌, ◌<◌, ◌≤◌, ◌&&◌, ◌||◌, ◌==◌, ◌++◌, ◌∙◌, ◌⊎◌}
use Rattle.std.proofs.Common.{if◌then◌else◌}
use Rattle.spi_laws.specs.serving.Terms
use Terms.{all_carried, all_cases, all_of, all_pending, and_le_l, and_le_r, AnswerName, any_in, any_mapped, any_none}
use Terms.{ap, arith, aside_pending, at_contained, bit_and, bit_or, Bool, by_eight, cancelled_bit, cases, changed, Chip}
use Terms.{Contains, Contains-get_or, contains_back, contains_map, entries_begun, entries_of, false, first_other}
use Terms.{first_same, FitsSpi, get_back, goes_to_next, has_job, has_mark, inl, inr, is_left, is_next, is_of, is_off}
use Terms.{is_pending, is_sync_sequence, is_sync_unit, IsEntry, IsSoundState, item-other, item-same, job_code}
use Terms.{job_result, job_small, job_word, jobs_by, jobs_of, length, length-take-le, List, list_any, list_any-append}
use Terms.{MARKS, Memory, next_in, next_job, NEXTS, None, none_any, not_true, one_by_job, one_pending, one_place}
use Terms.{Option, or_disjoint, or_mod, or_shr, order_word, other_number, Pending, PendingAgrees, refl, Reservations}
use Terms.{same_number, same_or_other, Sequence, sequence_of, sequence_word, SequencesAgree, shares_job, slice_get}
use Terms.{slice_index_or, Some, SpiJobOk, SpiJobPending, SpiJobQueued, SpiRepresents, SpiState, SpiTable, started_bit}
use Terms.{subst, sym, true, View, view, with_item, with_next_in, word_of, World, zero-div, ℕ}
use Rattle.mcal_base.specs.Bits.{without}
use Rattle.spi_sequences.specs.Refinement.{IsLast}
use Rattle.word_shapes.specs.PriorityQueue as ranked

module _ (i : ℕ) (few : i < 16) where
  -- a place among the digits of another sequence, and of its own
  abbrev Digit : (sequence other : ℕ) → Type 0
  Digit k j = i % 16 * 2 ^ (4 * k) % 2 ^ 32 / 2 ^ (4 * j) % 16 ≡ (if k == j then i else 0)

  all_digits : (k j : ℕ) → k < 8 → j < 8 → Digit k j
  all_digits k j lt less = by_eight (λ k. Digit k j)
      (by_eight (λ j. Digit 0 j) (omega (arith, few)) (omega (arith, few)) (omega (arith, few)) (omega (arith, few))
      (omega (arith, few)) (omega (arith, few)) (omega (arith, few)) (omega (arith, few)) j less)
      (by_eight (λ j. Digit 1 j) (omega (arith, few)) (omega (arith, few)) (omega (arith, few)) (omega (arith, few))
      (omega (arith, few)) (omega (arith, few)) (omega (arith, few)) (omega (arith, few)) j less)
      (by_eight (λ j. Digit 2 j) (omega (arith, few)) (omega (arith, few)) (omega (arith, few)) (omega (arith, few))
      (omega (arith, few)) (omega (arith, few)) (omega (arith, few)) (omega (arith, few)) j less)
      (by_eight (λ j. Digit 3 j) (omega (arith, few)) (omega (arith, few)) (omega (arith, few)) (omega (arith, few))
      (omega (arith, few)) (omega (arith, few)) (omega (arith, few)) (omega (arith, few)) j less)
      (by_eight (λ j. Digit 4 j) (omega (arith, few)) (omega (arith, few)) (omega (arith, few)) (omega (arith, few))
      (omega (arith, few)) (omega (arith, few)) (omega (arith, few)) (omega (arith, few)) j less)
      (by_eight (λ j. Digit 5 j) (omega (arith, few)) (omega (arith, few)) (omega (arith, few)) (omega (arith, few))
      (omega (arith, few)) (omega (arith, few)) (omega (arith, few)) (omega (arith, few)) j less)
      (by_eight (λ j. Digit 6 j) (omega (arith, few)) (omega (arith, few)) (omega (arith, few)) (omega (arith, few))
      (omega (arith, few)) (omega (arith, few)) (omega (arith, few)) (omega (arith, few)) j less)
      (by_eight (λ j. Digit 7 j) (omega (arith, few)) (omega (arith, few)) (omega (arith, few)) (omega (arith, few))
      (omega (arith, few)) (omega (arith, few)) (omega (arith, few)) (omega (arith, few)) j less) k lt

  and_none : (v : ℕ) → bit_and v 0 ≡ 0
  and_none v = let le = and_le_r v 0 in omega (arith, le)

  or_none : (v : ℕ) → bit_or v 0 ≡ v
  or_none v = or_disjoint v 0 (and_none v) ∙ omega arith

  none_or : (v : ℕ) → bit_or 0 v ≡ v
  none_or v = or_disjoint 0 v (let le = and_le_l 0 v in omega (arith, le)) ∙ omega arith

  small : (q : ℕ) → q % 8 < 8
  small q = omega arith

  -- the digits of both
  digits : (v q p n : ℕ) → next_in (with_next_in v q n) p ≡ bit_or (without v (15 * 2 ^ (4 * (q % 8)) % 2 ^ 32) / 2 ^ (4 * (p % 8)) % 16) (n % 16 * 2 ^ (4 * (q % 8)) % 2 ^ 32 / 2 ^ (4 * (p % 8)) % 16)
  digits v q p n =
      ap (λ z. z % 16) (or_shr (without v (15 * 2 ^ (4 * (q % 8)) % 2 ^ 32)) (n % 16 * 2 ^ (4 * (q % 8)) % 2 ^ 32) (4 * (p % 8)))
      ∙ or_mod (without v (15 * 2 ^ (4 * (q % 8)) % 2 ^ 32) / 2 ^ (4 * (p % 8))) (n % 16 * 2 ^ (4 * (q % 8)) % 2 ^ 32 / 2 ^ (4 * (p % 8))) 4

  no_digit : (q p : ℕ) → 0 % 16 * 2 ^ (4 * (q % 8)) % 2 ^ 32 / 2 ^ (4 * (p % 8)) % 16 ≡ 0
  no_digit q p = ap (λ z. z % 2 ^ 32 / 2 ^ (4 * (p % 8)) % 16) (nothing (2 ^ (4 * (q % 8)))) ∙ over (2 ^ (4 * (p % 8)))
    where
      nothing : (n : ℕ) → 0 % 16 * n ≡ 0
      nothing n = omega arith

      over : (n : ℕ) → 0 % 2 ^ 32 / n % 16 ≡ 0
      over n = ap (λ z. z % 16) (zero-div n)

  -- what is left without the digit
  left : (v q p : ℕ) → without v (15 * 2 ^ (4 * (q % 8)) % 2 ^ 32) / 2 ^ (4 * (p % 8)) % 16 ≡ next_in (with_next_in v q 0) p
  left v q p = sym (digits v q p 0 ∙ ap (bit_or (without v (15 * 2 ^ (4 * (q % 8)) % 2 ^ 32) / 2 ^ (4 * (p % 8)) % 16)) (no_digit q p) ∙ or_none (without v (15 * 2 ^ (4 * (q % 8)) % 2 ^ 32) / 2 ^ (4 * (p % 8)) % 16))

  pub next_same : (v q : ℕ) → next_in (with_next_in v q i) q ≡ i
  next_same v q =
      digits v q q i ∙ ap (λ z. bit_or z (i % 16 * 2 ^ (4 * (q % 8)) % 2 ^ 32 / 2 ^ (4 * (q % 8)) % 16)) (left v q q ∙ first_same v q)
      ∙ ap (bit_or 0) (all_digits (q % 8) (q % 8) (small q) (small q) ∙ ap (λ b. if b then i else 0) (same_number (q % 8))) ∙ none_or i

  pub next_other : (v q p : ℕ) → p % 8 ≢ q % 8 → next_in (with_next_in v q i) p ≡ next_in v p
  next_other v q p ne =
      digits v q p i ∙ ap (λ z. bit_or z (i % 16 * 2 ^ (4 * (q % 8)) % 2 ^ 32 / 2 ^ (4 * (p % 8)) % 16)) (left v q p ∙ first_other v q p ne)
      ∙ ap (bit_or (next_in v p)) (all_digits (q % 8) (p % 8) (small q) (small p) ∙ ap (λ b. if b then i else 0) (other_number (q % 8) (p % 8) (λ e. ne (sym e)))) ∙ or_none (next_in v p)

-- ---- the sequence waits with it, and the state is sound

-- a sequence has at most sixteen jobs
pub jobs_few : (d : SpiTable) → FitsSpi d → (q : ℕ) → length (jobs_of d q) ≤ 16
jobs_few d fits q = by (sequence_of d q) refl
  where
    by : (o : Option Sequence) → sequence_of d q ≡ o → length (jobs_by o) ≤ 16
    by None e = omega arith
    by (Some k) e = let few = (fits.sequences q k e).few in let row = (fits.sequences q k e).row in let same = length-take-le k.jobs.count k.jobs.numbers (omega (arith, few, row)) in omega (arith, few, same)

module _ (d : SpiTable) (fits : FitsSpi d) (below : Reservations) (chip : Chip) (w : World) (s : SpiState) (h : SpiRepresents d below chip w s) (p : Pending) (there : Contains s.pending p) (more : p.next + 1 < length (jobs_of d p.sequence)) (good : p.cancelled ≡ false)
    (running idle : ℕ → Bool) (over : running p.sequence ≡ false) (others : (n : ℕ) → n ≢ p.sequence → running n ≡ (view s).running n) (few : (u : ℕ) → 2 ≤ u → idle u ≡ true) (calm : (u : ℕ) → is_sync_unit d u ≡ true → idle u ≡ true) (on : is_off s.mode ≡ false) (result : AnswerName) (last : IsLast result) where
  abbrev item : Pending → Pending
  item x = if is_of p.sequence x then goes_to_next x else x

  abbrev pub results : List AnswerName
  results = with_item SpiJobOk s.job_results (next_job d p) result

  abbrev pub next_view : View
  next_view = record (view s) { pending = changed p.sequence goes_to_next s.pending; job_results = results; running = running; idle = idle }

  pub item_other : (x : Pending) → x.sequence ≢ p.sequence → item x ≡ x
  item_other x ne = ap (λ q. if q then goes_to_next x else x) (other_number x.sequence p.sequence ne)

  item_own : item p ≡ goes_to_next p
  item_own = ap (λ q. if q then goes_to_next p else p) (same_number p.sequence)

  item_sequence : (x : Pending) → (item x).sequence ≡ x.sequence
  item_sequence x = grind arith

  item_request : (x : Pending) → (item x).request ≡ x.request
  item_request x = grind arith

  -- what is so of the entry that went on and of the others is so of each
  pub each_entry : (P : Pending → Type 0) → P (goes_to_next p) → ((x : Pending) → Contains s.pending x → x.sequence ≢ p.sequence → P x) → (x : Pending) → Contains (changed p.sequence goes_to_next s.pending) x → P x
  each_entry P own other x is = holds_changed (contains_back item s.pending x is)
    where
      holds_changed : (z : Pending) × Contains s.pending z × (x ≡ item z) → P x
      holds_changed (z, at, same) = subst P (sym same) (split (same_or_other z.sequence p.sequence))
        where
          split : (z.sequence ≡ p.sequence) ⊎ (z.sequence ≢ p.sequence) → P (item z)
          split (inl e) = subst (λ k. P (item k)) (sym (one_pending d fits below chip w s h z p (all_pending (view s) z at) (all_pending (view s) p there) e)) (subst P (sym item_own) own)
          split (inr ne) = subst P (sym (item_other z ne)) (other z at ne)

  -- a sequence that a unit carries out is another one
  unlike : (u : ℕ) (x : Pending) → (view s).begun u ≡ Some x → x.sequence ≢ p.sequence
  unlike u x e same = let f = sym (aside_pending d (view s) h.sound p there u x e).1 ∙ ap (λ n. n == p.sequence) same ∙ same_number p.sequence in cc

  pub begun_there : (u : ℕ) (x : Pending) → (view s).begun u ≡ Some x → Contains (all_of (view s)) x × (x.sequence ≢ p.sequence)
  begun_there u x e = (all_carried (view s) u x (h.sound.carries.unit u x e).0 e, unlike u x e)

  -- and of all sequences under way
  pub each_of_all : (P : Pending → Type 0) → P (goes_to_next p) → ((x : Pending) → Contains (all_of (view s)) x → x.sequence ≢ p.sequence → P x) → (x : Pending) → Contains (all_of next_view) x → P x
  each_of_all P own other x is = cases (all_cases next_view x is)
      (λ at. each_entry P own (λ z there ne. other z (all_pending (view s) z there) ne) x at)
      (λ (u, e). let r = begun_there u x e in other x r.0 r.1)

  pub still_there : (x : Pending) → Contains s.pending x → Contains (changed p.sequence goes_to_next s.pending) (item x)
  still_there x (n, lt, e) = contains_map item s.pending n x (at_contained s.pending n x lt e)

  all_still : (x : Pending) → Contains (all_of (view s)) x → Contains (all_of next_view) (item x)
  all_still x is = cases (all_cases (view s) x is)
      (λ at. all_pending next_view (item x) (still_there x at))
      (λ (u, e). subst (λ z. Contains (all_of next_view) z) (sym (item_other x (unlike u x e))) (all_carried next_view u x (h.sound.carries.unit u x e).0 e))

  shared : (a b j : ℕ) → Contains (jobs_of d a) j → Contains (jobs_of d b) j → shares_job d a b ≡ true
  shared a b j x y = any_in (has_job d a) (jobs_of d b) j y (any_in (λ k. k == j) (jobs_of d a) j x (same_number j))

  own_job : Contains (jobs_of d p.sequence) (next_job d p)
  own_job = Contains-get_or (jobs_of d p.sequence) p.next 0 (omega (arith, more))

  -- its job is none of another sequence's under way
  pub not_of_other : (x : Pending) → Contains (all_of (view s)) x → x.sequence ≢ p.sequence → (i : ℕ) → i < length (jobs_of d x.sequence) → slice_index_or (jobs_of d x.sequence) i 0 ≢ next_job d p
  not_of_other x at ne i lt e =
      let has : Contains (jobs_of d x.sequence) (next_job d p) = subst (λ j. Contains (jobs_of d x.sequence) j) e (Contains-get_or (jobs_of d x.sequence) i 0 lt) in
      ne (ap (λ z. z.sequence) (one_by_job d fits below chip w s h x p at (all_pending (view s) p there) (shared x.sequence p.sequence (next_job d p) has own_job) (shared p.sequence x.sequence (next_job d p) own_job has)))

  entry : (x : Pending) → Contains (all_of next_view) x → IsEntry d next_view x
  entry = each_of_all (λ x. IsEntry d next_view x) own (λ x at ne. other x ne (h.sound.entries x at))
    where
      own : IsEntry d next_view (goes_to_next p)
      own = let e = h.sound.entries p (all_pending (view s) p there) in record { number = e.number; next = more; had = e.had; last = e.last; cancelled = λ c. absurd (let f = sym good ∙ c in cc) }

      other : (x : Pending) → x.sequence ≢ p.sequence → IsEntry d (view s) x → IsEntry d next_view x
      other x ne e = record { number = e.number; next = e.next; had = e.had; last = e.last; cancelled = λ c. others x.sequence ne ∙ e.cancelled c }

  abbrev Queued : Pending → Type 0
  Queued x = (i : ℕ) → x.next ≤ i → i < length (jobs_of d x.sequence) → job_result results (slice_index_or (jobs_of d x.sequence) i 0) ≡ (if i == x.next && running x.sequence then SpiJobPending else SpiJobQueued)

  queued : (x : Pending) → Contains (changed p.sequence goes_to_next s.pending) x → Queued x
  queued = each_entry Queued own other
    where
      own : Queued (goes_to_next p)
      own i le lt =
          item-other SpiJobOk s.job_results (next_job d p) (slice_index_or (jobs_of d p.sequence) i 0) result (λ e. let same = one_place d fits p.sequence i p.next lt (omega (arith, more)) e in omega (arith, same, le))
          ∙ h.sound.results.queued p i there (omega (arith, le)) lt
          ∙ ap (λ q. if q && (view s).running p.sequence then SpiJobPending else SpiJobQueued) (other_number i p.next (λ e. omega (arith, e, le)))
          ∙ sym (ap (λ q. if i == p.next + 1 && q then SpiJobPending else SpiJobQueued) over ∙ none (i == p.next + 1))
        where
          none : (q : Bool) → (if q && false then SpiJobPending else SpiJobQueued) ≡ SpiJobQueued
          none true = refl
          none false = refl

      other : (x : Pending) → Contains s.pending x → x.sequence ≢ p.sequence → Queued x
      other x at ne i le lt =
          item-other SpiJobOk s.job_results (next_job d p) (slice_index_or (jobs_of d x.sequence) i 0) result (not_of_other x (all_pending (view s) x at) ne i lt)
          ∙ h.sound.results.queued x i at le lt ∙ ap (λ q. if i == x.next && q then SpiJobPending else SpiJobQueued) (sym (others x.sequence ne))

  -- a job that none has left had none left before, but for the one that ended
  pub none_left : (j : ℕ) → j ≢ next_job d p → list_any (is_left d j) (all_of next_view) ≡ false → list_any (is_left d j) (all_of (view s)) ≡ false
  none_left j ne none = none_any (is_left d j) (all_of (view s)) (λ x at. cases (same_or_other x.sequence p.sequence)
      (λ e. subst (λ z. is_left d j z ≡ false) (sym (one_pending d fits below chip w s h x p at (all_pending (view s) p there) e)) own)
      (λ other. ap (is_left d j) (sym (item_other x other)) ∙ any_none (is_left d j) (all_of next_view) none (item x) (all_still x at)))
    where
      own : is_left d j p ≡ false
      own =
          let gone : is_left d j (goes_to_next p) ≡ false = ap (is_left d j) (sym item_own) ∙ any_none (is_left d j) (all_of next_view) none (item p) (all_pending next_view (item p) (still_there p there)) in
          not_true (is_left d j p) (λ e. ne (is_next d fits p (omega (arith, more)) j e gone))

  abbrev begun_ones : List Pending
  begun_ones = entries_begun ((view s).begun 0) ++ entries_begun ((view s).begun 1)

  pub still_pending : (n : ℕ) → is_pending n (all_of next_view) ≡ is_pending n (all_of (view s))
  still_pending n =
      list_any-append (is_of n) (changed p.sequence goes_to_next s.pending) begun_ones
      ∙ ap (λ b. b || list_any (is_of n) begun_ones) (any_mapped (is_of n) item s.pending (λ x. ap (λ z. z == n) (item_sequence x)))
      ∙ sym (list_any-append (is_of n) s.pending begun_ones)

  pub next_sound : IsSoundState d next_view
  next_sound = record {
    entries = entry;
    apart = λ i j x y lt a b. apart i j x y lt (get_back item s.pending i x a) (get_back item s.pending j y b);
    requests = each_entry (λ x. x.request ≤ s.requests) (h.sound.requests p there) (λ x at ne. h.sound.requests x at);
    results = record {
      queued = λ x i at le lt. queued x at i le lt;
      last = λ j none. cases (same_or_other j (next_job d p))
          (λ e. subst (λ k. IsLast (job_result results k)) (sym e) (subst (λ x. IsLast x) (sym (item-same SpiJobOk s.job_results (next_job d p) result)) last))
          (λ ne. subst (λ x. IsLast x) (sym (item-other SpiJobOk s.job_results (next_job d p) j result ne)) (h.sound.results.last j (none_left j ne none)));
      named = h.sound.results.named;
      sequences = λ n lt. let r = h.sound.results.sequences n lt in (λ e. still_pending n ∙ r.0 e, λ e. r.1 (sym (still_pending n) ∙ e));
    };
    carries = record {
      unit = h.sound.carries.unit;
      asked = each_entry (λ x. is_sync_sequence d x.sequence ≡ false) (h.sound.carries.asked p there) (λ x at ne. h.sound.carries.asked x at);
      idle = calm;
      queued = λ u x i e le lt. let r = begun_there u x e in item-other SpiJobOk s.job_results (next_job d p) (slice_index_or (jobs_of d x.sequence) i 0) result (not_of_other x r.0 r.1 i lt) ∙ h.sound.carries.queued u x i e le lt;
      off = λ e u. absurd (let f = sym on ∙ e in cc);
    };
    few = few;
    off = λ e. absurd (let f = sym on ∙ e in cc);
  }
    where
      apart : (i j : ℕ) (x y : Pending) → i < j → (a : Pending) × (slice_get s.pending i ≡ Some a) × (x ≡ item a) → (b : Pending) × (slice_get s.pending j ≡ Some b) × (y ≡ item b) → (x.request < y.request) × (shares_job d x.sequence y.sequence ≡ false)
      apart i j x y lt (a, at, isa) (b, bt, isb) =
          let r = h.sound.apart i j a b lt at bt in
          let less = r.0 in
          let first : x.request ≡ a.request = ap (λ z. z.request) isa ∙ item_request a in
          let second : y.request ≡ b.request = ap (λ z. z.request) isb ∙ item_request b in
          (omega (arith, less, first, second), ap (λ z. shares_job d z y.sequence) (ap (λ z. z.sequence) isa ∙ item_sequence a) ∙ ap (λ z. shares_job d a.sequence z) (ap (λ z. z.sequence) isb ∙ item_sequence b) ∙ r.1)

  -- ---- its words

  module _ (m1 : Memory) (nexts : m1 NEXTS ≡ with_next_in (word_of chip NEXTS) p.sequence (p.next + 1)) (marks : m1 MARKS ≡ word_of chip MARKS) (sequence_words : (n : ℕ) → n < 8 → m1 (sequence_word n) ≡ word_of chip (sequence_word n))
      (told : m1 (job_word (next_job d p)) ≡ job_code result) (job_words : (j : ℕ) → j < 16 → j ≢ next_job d p → m1 (job_word j) ≡ word_of chip (job_word j))
      (orders : (u : ℕ) → u < 2 → ranked.Holds (record { at = order_word u }) m1 (entries_of d next_view u)) where
    was : SequencesAgree d (word_of chip) (view s)
    was = (h.words.on on).sequences

    -- the entry that went on, and the others
    pending_own : PendingAgrees m1 (goes_to_next p)
    pending_own = let a = was.pending p there in record {
      next = ap (λ v. next_in v p.sequence) nexts ∙ next_same (p.next + 1) (let most = jobs_few d fits p.sequence in omega (arith, more, most)) (word_of chip NEXTS) p.sequence;
      started = ap (λ v. has_mark v (started_bit p.sequence)) marks ∙ a.started;
      cancelled = ap (λ v. has_mark v (cancelled_bit p.sequence)) marks ∙ a.cancelled;
    }

    apart : (x : Pending) → Contains (all_of (view s)) x → x.sequence ≢ p.sequence → x.sequence % 8 ≢ p.sequence % 8
    apart x at ne e = let lt = (h.sound.entries x at).number in let less = (h.sound.entries p (all_pending (view s) p there)).number in ne (omega (arith, lt, less, e))

    pending_other : (x : Pending) → Contains s.pending x → x.sequence ≢ p.sequence → PendingAgrees m1 x
    pending_other x at ne = let a = was.pending x at in record {
      next = ap (λ v. next_in v x.sequence) nexts ∙ next_other (p.next + 1) (let most = jobs_few d fits p.sequence in omega (arith, more, most)) (word_of chip NEXTS) p.sequence x.sequence (apart x (all_pending (view s) x at) ne) ∙ a.next;
      started = ap (λ v. has_mark v (started_bit x.sequence)) marks ∙ a.started;
      cancelled = ap (λ v. has_mark v (cancelled_bit x.sequence)) marks ∙ a.cancelled;
    }

    abbrev Had : Pending → Type 0
    Had x = (i : ℕ) → x.next ≤ i → i < length (jobs_of d x.sequence) → m1 (job_word (slice_index_or (jobs_of d x.sequence) i 0)) ≡ job_code (slice_index_or x.had i SpiJobOk)

    had_own : Had (goes_to_next p)
    had_own i le lt = job_words (slice_index_or (jobs_of d p.sequence) i 0) (job_small d fits p.sequence i lt) (λ e. let same = one_place d fits p.sequence i p.next lt (omega (arith, more)) e in omega (arith, same, le)) ∙ was.had p i (all_pending (view s) p there) (omega (arith, le)) lt

    had_other : (x : Pending) → Contains (all_of (view s)) x → x.sequence ≢ p.sequence → Had x
    had_other x at ne i le lt = job_words (slice_index_or (jobs_of d x.sequence) i 0) (job_small d fits x.sequence i lt) (not_of_other x at ne i lt) ∙ was.had x i at le lt

    pub next_words : SequencesAgree d m1 next_view
    next_words = record {
      sequences = λ n lt. sequence_words n lt ∙ was.sequences n lt;
      pending = each_entry (λ x. PendingAgrees m1 x) pending_own pending_other;
      begun = λ u x e. let r = begun_there u x e in
          ap (λ v. next_in v x.sequence) nexts ∙ next_other (p.next + 1) (let most = jobs_few d fits p.sequence in omega (arith, more, most)) (word_of chip NEXTS) p.sequence x.sequence (apart x r.0 r.1) ∙ was.begun u x e;
      had = λ x i at le lt. each_of_all Had had_own had_other x at i le lt;
      jobs = λ j lt none. cases (same_or_other j (next_job d p))
          (λ e. ap (λ k. m1 (job_word k)) e ∙ told ∙ ap job_code (sym (item-same SpiJobOk s.job_results (next_job d p) result)) ∙ ap (λ k. job_code (job_result next_view.job_results k)) (sym e))
          (λ ne. job_words j lt ne ∙ was.jobs j lt (none_left j ne none) ∙ ap job_code (sym (item-other SpiJobOk s.job_results (next_job d p) j result ne)));
      orders = orders;
    }
