-- A pending sequence ends, and its jobs that never ran have the results that they had: the state is sound, and the
-- words stand for it.
-- From words.JobPlaces, words.Cases, words.SameWords.
-- Used by services.CancelRight, spi_laws: serving.services.SequenceOverRight, spi_laws: sending.services.SendLast and 9 more.
use Rattle.std.proofs.Common.{◌≡◌, ◌≢◌, ◌+◌, ◌-◌, ◌<◌, ◌≤◌, ◌==◌, ◌&&◌, ◌||◌, [], ◌∷◌, ◌++◌, ◌∙◌, if◌then◌else◌}
use Rattle.spi_sequences.specs.Terms
use Terms.{all_of, and_false, AnswerName, ap, AreDifferent, arith, Bool, cancelled_bit, cases, Contains}
use Terms.{Contains-get_or, drop, entries_begun, entries_of, Entry, false, filter, FitsSpi, get_or-drop, get_or_default}
use Terms.{given_back, has_job, has_mark, is_for, is_left, is_of, is_off, is_pending, is_sync_sequence, is_sync_unit}
use Terms.{is_there, IsLast, IsOfSequence, IsOnce, IsSoundState, item-other, item-same, job_code, job_result, job_word}
use Terms.{jobs_by, jobs_of, length-drop, List, list_any, map, MARKS, Memory, next_in, NEXTS, None, not, Option}
use Terms.{or_right, order_word, Pending, refl, repeats, repeats-drop, results-other, results-own, same_or_other}
use Terms.{sequence_code, sequence_of, sequence_result, sequence_word, SequencesAgree, shares_job, slice_get}
use Terms.{slice_index_or, Some, some_is, some_or_none, SpiJobOk, SpiJobPending, SpiJobQueued, SpiSeqOk, SpiSeqPending}
use Terms.{SpiTable, started_bit, subst, suc, sym, true, unit_of_sequence, View, whether, whether_as, with_item}
use Terms.{without, zero, ℕ}
use Rattle.spi_sequences.specs.laws.words.JobPlaces.{all_carried, all_cases, all_pending, any_in, aside_pending}
use Rattle.spi_sequences.specs.laws.words.JobPlaces.{at_left, left_at, LeftAt, nothing_in, one_of_all}
use Rattle.spi_sequences.specs.laws.words.{SameWords.{job_small}, WordsToState.{any_none, any_some, at_contained}}
use Rattle.spi_sequences.specs.laws.words.WordsToState.{is_number, none_any, not_true, other_number, same_number}
use Rattle.std.proofs.lemmas.Bool.{or_from}
use Rattle.word_shapes.specs.Order as order
use Rattle.word_shapes.specs.PriorityQueue as ranked

-- ---- lists that are filtered

pub get_contained : {A : Type 0} (xs : List A) (k : ℕ) (x : A) → slice_get xs k ≡ Some x → Contains xs x
get_contained [] k x e = absurd (cc)
get_contained (y ∷ ys) zero x e = (0, omega arith, let same : y ≡ x = cc in same)
get_contained (y ∷ ys) (suc k) x e = let r = get_contained ys k x e in (suc r.0, let lt = r.1 in omega (arith, lt), r.2)

module _ {A : Type 0} (t : A → Bool) where
  kept_one : (xs : List A) (j : ℕ) (y : A) → slice_get (filter t xs) j ≡ Some y → (b : ℕ) × (slice_get xs b ≡ Some y) × (t y ≡ true)
  kept_one [] j y e = absurd (cc)
  kept_one (z ∷ zs) j y e = by (t z) refl (λ i. kept_one zs i y) j e
    where
      by : (q : Bool) → t z ≡ q → ((i : ℕ) → slice_get (filter t zs) i ≡ Some y → (b : ℕ) × (slice_get zs b ≡ Some y) × (t y ≡ true)) → (j : ℕ) → slice_get (if q then z ∷ filter t zs else filter t zs) j ≡ Some y → (b : ℕ) × (slice_get (z ∷ zs) b ≡ Some y) × (t y ≡ true)
      by true f rest zero e = let same : z ≡ y = cc in (0, e, ap t (sym same) ∙ f)
      by true f rest (suc j) e = let r = rest j e in (suc r.0, r.1, r.2)
      by false f rest j e = let r = rest j e in (suc r.0, r.1, r.2)

  -- those that are kept stand in their order
  pub kept_order : (xs : List A) (i j : ℕ) (x y : A) → i < j → slice_get (filter t xs) i ≡ Some x → slice_get (filter t xs) j ≡ Some y → (a : ℕ) × (b : ℕ) × (a < b) × (slice_get xs a ≡ Some x) × (slice_get xs b ≡ Some y)
  kept_order [] i j x y lt e f = absurd (cc)
  kept_order (z ∷ zs) i j x y lt e f = order_with_first (t z) refl (λ a b. kept_order zs a b x y) i j lt e f
    where
      order_with_first : (q : Bool) → t z ≡ q → ((i j : ℕ) → i < j → slice_get (filter t zs) i ≡ Some x → slice_get (filter t zs) j ≡ Some y → (a : ℕ) × (b : ℕ) × (a < b) × (slice_get zs a ≡ Some x) × (slice_get zs b ≡ Some y)) → (i j : ℕ) → i < j → slice_get (if q then z ∷ filter t zs else filter t zs) i ≡ Some x → slice_get (if q then z ∷ filter t zs else filter t zs) j ≡ Some y → (a : ℕ) × (b : ℕ) × (a < b) × (slice_get (z ∷ zs) a ≡ Some x) × (slice_get (z ∷ zs) b ≡ Some y)
      order_with_first true g rest zero (suc j) lt e f = let r = kept_one zs j y f in (0, suc r.0, omega arith, e, r.1)
      order_with_first true g rest (suc i) (suc j) lt e f = let r = rest i j (omega (arith, lt)) e f in (suc r.0, suc r.1, let less = r.2 in omega (arith, less), r.3, r.4)
      order_with_first false g rest i j lt e f = let r = rest i j lt e f in (suc r.0, suc r.1, let less = r.2 in omega (arith, less), r.3, r.4)
      order_with_first _ g rest _ _ lt e f = absurd (omega (arith, lt))

  pub filter_back : (xs : List A) (y : A) → Contains (filter t xs) y → Contains xs y × (t y ≡ true)
  filter_back xs y (k, lt, e) = let r = kept_one xs k y (at_contained (filter t xs) k y lt e) in (get_contained xs r.0 y r.1, r.2)

pub filter_keeps : {A : Type 0} (t : A → Bool) (xs : List A) (y : A) → Contains xs y → t y ≡ true → Contains (filter t xs) y
filter_keeps t [] y (k, lt, e) f = absurd (omega (arith, lt))
filter_keeps t (z ∷ zs) y (zero, lt, e) f = whether_as (t z) (λ q. Contains (if q then z ∷ filter t zs else filter t zs) y)
    (λ g. (0, omega arith, e))
    (λ g. absurd (let i = sym g ∙ ap t e ∙ f in cc))
filter_keeps t (z ∷ zs) y (suc k, lt, e) f =
    let r = filter_keeps t zs y (k, omega (arith, lt), e) f in
    elim (t z) as (λ q. Contains (if q then z ∷ filter t zs else filter t zs) y)
    [ true ↦ (suc r.0, let less = r.1 in omega (arith, less), r.2) | false ↦ r ]

-- ---- the jobs of a sequence stand in it once

different_once : (xs : List ℕ) → AreDifferent xs → repeats xs ≡ false
different_once [] h = refl
different_once (x ∷ xs) h = or_from (list_any (λ m. m == x) xs) (repeats xs) (not_true (list_any (λ m. m == x) xs) (λ e. again (any_some (λ m. m == x) xs e))) (different_once xs (λ i j n a b. less (h (suc i) (suc j) n a b)))
  where
    less : {i j : ℕ} → suc i ≡ suc j → i ≡ j
    less e = omega (arith, e)

    again : (m : ℕ) × Contains xs m × ((m == x) ≡ true) → ⊥
    again (m, (k, lt, e), is) = let f = h 0 (suc k) x refl (at_contained xs k m lt e ∙ ap (λ n. Some n) (is_number m x is)) in omega (arith, f)

pub jobs_once : (d : SpiTable) → FitsSpi d → (q : ℕ) → repeats (jobs_of d q) ≡ false
jobs_once d fits q = some_or_none (sequence_of d q)
    (λ k e. different_once (jobs_of d q) (fits.sequences q k e).once)
    (λ e. ap (λ o. repeats (jobs_by o)) e)

-- ---- the order

module _ (d : SpiTable) (u q : ℕ) (running running1 : ℕ → Bool) (others : (n : ℕ) → n ≢ q → running1 n ≡ running n) where
  abbrev was : Pending → Entry
  was p = record { number = p.sequence; waits = not (running p.sequence) }

  abbrev is : Pending → Entry
  is p = record { number = p.sequence; waits = not (running1 p.sequence) }

  other_entry : (p : Pending) → is_of q p ≡ false → is p ≡ was p
  other_entry p e = ap (λ b. record { number = p.sequence; waits = not b }) (others p.sequence (λ f. let g = sym e ∙ ap (λ n. n == q) f ∙ same_number q in cc))

  -- where it isn't there the entries stay
  pub stay : (ps : List Pending) → is_there q (map was (filter (is_for d u) ps)) ≡ false → map is (filter (is_for d u) (without q ps)) ≡ map was (filter (is_for d u) ps)
  stay [] e = refl
  stay (p ∷ ps) e = stay_with_first (is_of q p) refl (is_for d u p) refl e (stay ps)
    where
      stay_with_first : (a : Bool) → is_of q p ≡ a → (b : Bool) → is_for d u p ≡ b → is_there q (map was (if b then p ∷ filter (is_for d u) ps else filter (is_for d u) ps)) ≡ false
          → (is_there q (map was (filter (is_for d u) ps)) ≡ false → map is (filter (is_for d u) (without q ps)) ≡ map was (filter (is_for d u) ps))
          → map is (filter (is_for d u) (if not a then p ∷ without q ps else without q ps)) ≡ map was (if b then p ∷ filter (is_for d u) ps else filter (is_for d u) ps)
      stay_with_first true f true g e rest = absurd (let h = sym e ∙ ap (λ b. b || is_there q (map was (filter (is_for d u) ps))) f in cc)
      stay_with_first true f false g e rest = rest e
      stay_with_first false f true g e rest = ap (λ b. map is (if b then p ∷ filter (is_for d u) (without q ps) else filter (is_for d u) (without q ps))) g ∙ ap (λ x. x ∷ map is (filter (is_for d u) (without q ps))) (other_entry p f) ∙ ap (λ xs. was p ∷ xs) (rest (ap (λ b. b || is_there q (map was (filter (is_for d u) ps))) (sym f) ∙ e))
      stay_with_first false f false g e rest = ap (λ b. map is (if b then p ∷ filter (is_for d u) (without q ps) else filter (is_for d u) (without q ps))) g ∙ rest e

  -- else its entry is taken out
  pub left_order : (ps : List Pending) → IsOnce (map was (filter (is_for d u) ps)) → map is (filter (is_for d u) (without q ps)) ≡ order.without q (map was (filter (is_for d u) ps))
  left_order [] once = refl
  left_order (p ∷ ps) once = left_with_first (is_of q p) refl (is_for d u p) refl once (left_order ps)
    where
      left_with_first : (a : Bool) → is_of q p ≡ a → (b : Bool) → is_for d u p ≡ b → IsOnce (map was (if b then p ∷ filter (is_for d u) ps else filter (is_for d u) ps))
          → (IsOnce (map was (filter (is_for d u) ps)) → map is (filter (is_for d u) (without q ps)) ≡ order.without q (map was (filter (is_for d u) ps)))
          → map is (filter (is_for d u) (if not a then p ∷ without q ps else without q ps)) ≡ order.without q (map was (if b then p ∷ filter (is_for d u) ps else filter (is_for d u) ps))
      left_with_first true f true g o rest = stay ps (ap (λ n. is_there n (map was (filter (is_for d u) ps))) (sym (is_number p.sequence q f)) ∙ o.0) ∙ sym (ap (λ b. if b then map was (filter (is_for d u) ps) else was p ∷ order.without q (map was (filter (is_for d u) ps))) f)
      left_with_first true f false g o rest = rest o
      left_with_first false f true g o rest = ap (λ b. map is (if b then p ∷ filter (is_for d u) (without q ps) else filter (is_for d u) (without q ps))) g ∙ ap (λ x. x ∷ map is (filter (is_for d u) (without q ps))) (other_entry p f) ∙ ap (λ xs. was p ∷ xs) (rest o.1)
          ∙ sym (ap (λ b. if b then map was (filter (is_for d u) ps) else was p ∷ order.without q (map was (filter (is_for d u) ps))) f)
      left_with_first false f false g o rest = ap (λ b. map is (if b then p ∷ filter (is_for d u) (without q ps) else filter (is_for d u) (without q ps))) g ∙ rest o

-- an entry that is there is that of a pending sequence for the unit, and the other way round
pub there_back : (running : ℕ → Bool) (n : ℕ) (ps : List Pending) → is_there n (map (λ p. record { number = p.sequence; waits = not (running p.sequence) }) ps) ≡ true → (x : Pending) × Contains ps x × (x.sequence ≡ n)
there_back running n [] e = absurd (cc)
there_back running n (p ∷ ps) e = whether (is_of n p)
    (λ f. (p, (0, omega arith, refl), is_number p.sequence n f))
    (λ f. let r = there_back running n ps (ap (λ b. b || is_there n (map (λ p. record { number = p.sequence; waits = not (running p.sequence) }) ps)) (sym f) ∙ e) in (r.0, (suc r.1.0, let lt = r.1.1 in omega (arith, lt), r.1.2), r.2))

pub there_by : (running : ℕ → Bool) (ps : List Pending) (x : Pending) → Contains ps x → is_there x.sequence (map (λ p. record { number = p.sequence; waits = not (running p.sequence) }) ps) ≡ true
there_by running [] x (k, lt, e) = absurd (omega (arith, lt))
there_by running (p ∷ ps) x (zero, lt, e) = ap (λ b. b || is_there x.sequence (map (λ p. record { number = p.sequence; waits = not (running p.sequence) }) ps)) (ap (λ z. z.sequence == x.sequence) e ∙ same_number x.sequence)
there_by running (p ∷ ps) x (suc k, lt, e) = or_right (p.sequence == x.sequence) _ (there_by running ps x (k, omega (arith, lt), e))

-- ---- the state

-- a sequence under way leaves: these are pending then, and these the units carry out
pub record Leaves (v : View) (p : Pending) (ps : List Pending) (begun : ℕ → Option Pending) : Type 0 where
  pub kept : (x : Pending) → Contains ps x → Contains v.pending x × (x.sequence ≢ p.sequence)
  pub order : (i j : ℕ) (x y : Pending) → i < j → slice_get ps i ≡ Some x → slice_get ps j ≡ Some y → (a : ℕ) × (b : ℕ) × (a < b) × (slice_get v.pending a ≡ Some x) × (slice_get v.pending b ≡ Some y)
  pub carried : (u : ℕ) (x : Pending) → begun u ≡ Some x → (v.begun u ≡ Some x) × (x.sequence ≢ p.sequence)
  pub stays : (x : Pending) → Contains (all_of v) x → x.sequence ≢ p.sequence → Contains (ps ++ (entries_begun (begun 0) ++ entries_begun (begun 1))) x

-- as a pending one does
abbrev without_entry : View → Pending → View
without_entry v p = record v { pending = without p.sequence v.pending }

pub leaves_pending : (d : SpiTable) (v : View) (h : IsSoundState d v) (p : Pending) → Contains v.pending p → Leaves v p (without p.sequence v.pending) v.begun
leaves_pending d v h p there = record {
  kept = λ x is. let r = filter_back (λ z. not (is_of p.sequence z)) v.pending x is in (r.0, λ e. let f = sym r.1 ∙ ap (λ n. not (n == p.sequence)) e ∙ ap not (same_number p.sequence) in cc);
  order = λ i j x y lt a b. kept_order (λ z. not (is_of p.sequence z)) v.pending i j x y lt a b;
  carried = λ u x e. (e, λ same. let f = sym ((aside_pending d v h p there) u x e).1 ∙ ap (λ n. n == p.sequence) same ∙ same_number p.sequence in cc);
  stays = λ x is ne. cases (all_cases v x is)
      (λ one. all_pending (without_entry v p) x (filter_keeps (λ z. not (is_of p.sequence z)) v.pending x one (ap not (other_number x.sequence p.sequence ne))))
      (λ (u, e). all_carried (without_entry v p) u x (h.carries.unit u x e).0 e);
}

-- and as one that a unit carries out does
abbrev with_begun : View → (ℕ → Option Pending) → View
with_begun v begun = record v { begun = begun }

pub leaves_begun : (d : SpiTable) (v : View) (h : IsSoundState d v) (u : ℕ) (p : Pending) → v.begun u ≡ Some p → (begun : ℕ → Option Pending) → begun u ≡ None → ((n : ℕ) → n ≢ u → begun n ≡ v.begun n) → Leaves v p v.pending begun
leaves_begun d v h u p is begun own other = record {
  kept = λ x there. (there, λ e. let r = h.carries.unit u p is in let f = sym (h.carries.asked x there) ∙ ap (is_sync_sequence d) e ∙ ap (is_sync_unit d) r.2 ∙ r.1 in cc);
  order = λ i j x y lt a b. (i, j, lt, a, b);
  carried = λ n x e. cases (same_or_other n u)
      (λ same. absurd (let f = sym own ∙ ap begun (sym same) ∙ e in cc))
      (λ ne. let still = sym (other n ne) ∙ e in (still, λ same. ne (sym (h.carries.unit n x still).2 ∙ ap (unit_of_sequence d) same ∙ (h.carries.unit u p is).2)));
  stays = λ x there ne. cases (all_cases v x there)
      (λ one. all_pending (with_begun v begun) x one)
      (λ (n, e). cases (same_or_other n u)
      (λ same. absurd (ne (ap (λ z. z.sequence) (some_is x p (sym e ∙ ap v.begun same ∙ is)))))
      (λ far. all_carried (with_begun v begun) n x (h.carries.unit n x e).0 (other n far ∙ e)));
}

module _ (d : SpiTable) (fits : FitsSpi d) (v : View) (h : IsSoundState d v) (p : Pending) (there : Contains (all_of v) p) (from : ℕ) (from_next : p.next ≤ from) (rs : List AnswerName)
    (ran : (j : ℕ) → is_left d j p ≡ true → list_any (λ k. k == j) (drop from (jobs_of d p.sequence)) ≡ false → IsLast (job_result rs j))
    (unrun : (j : ℕ) → is_left d j p ≡ false → job_result rs j ≡ job_result v.job_results j) where
  abbrev jobs : List ℕ
  jobs = jobs_of d p.sequence

  abbrev given : List AnswerName
  given = given_back d p from rs

  abbrev rest : ℕ → Bool
  rest j = list_any (λ k. k == j) (drop from jobs)

  -- a job that never ran has what it had
  given_had : (j : ℕ) → (l : LeftAt jobs from j) → job_result given j ≡ slice_index_or p.had l.place SpiJobOk
  given_had j l =
      let count = (h.entries p there).had in
      let le = l.from in
      let lt = l.within in
      let back : from + (l.place - from) ≡ l.place = omega (arith, le) in
      let had = slice_index_or p.had l.place SpiJobOk in
      results-own (drop from jobs) (drop from p.had) rs (l.place - from) j had (repeats-drop from jobs (jobs_once d fits p.sequence))
      (at_contained (drop from jobs) (l.place - from) j (let rest = length-drop from jobs in omega (arith, rest, lt, le)) (get_or-drop from jobs (l.place - from) j ∙ ap (λ n. slice_index_or jobs n j) back ∙ get_or_default jobs l.place j 0 l.within ∙ l.is))
      (at_contained (drop from p.had) (l.place - from) had (let rest = length-drop from p.had in omega (arith, rest, lt, le, count)) (get_or-drop from p.had (l.place - from) had ∙ ap (λ n. slice_index_or p.had n had) back ∙ get_or_default p.had l.place had SpiJobOk (omega (arith, lt, count))))

  -- and any other what it has
  given_other : (j : ℕ) → rest j ≡ false → job_result given j ≡ job_result rs j
  given_other j e = results-other (drop from jobs) (drop from p.had) rs j e

  pair : (a b j : ℕ) → Contains (jobs_of d a) j → Contains (jobs_of d b) j → shares_job d a b ≡ true
  pair a b j at bt = any_in (has_job d a) (jobs_of d b) j bt (any_in (λ k. k == j) (jobs_of d a) j at (same_number j))

  next_in_jobs : Contains jobs (slice_index_or jobs p.next 0)
  next_in_jobs = Contains-get_or jobs p.next 0 (h.entries p there).next

  one_entry : (x : Pending) → Contains (all_of v) x → x.sequence ≡ p.sequence → x ≡ p
  one_entry x also e = one_of_all d fits v h x p also there (subst (λ n. shares_job d n p.sequence ≡ true) (sym e) (pair p.sequence p.sequence _ next_in_jobs next_in_jobs)) (subst (λ n. shares_job d p.sequence n ≡ true) (sym e) (pair p.sequence p.sequence _ next_in_jobs next_in_jobs))

  -- a job of another pending sequence is none of them
  not_left : (x : Pending) (j : ℕ) → Contains (all_of v) x → x.sequence ≢ p.sequence → Contains (jobs_of d x.sequence) j → is_left d j p ≡ false
  not_left x j also ne has = not_true (is_left d j p) (λ e.
      let l : LeftAt jobs p.next j = at_left jobs p.next j e in
      let own : Contains jobs j = (l.place, l.within, get_or_default jobs l.place j 0 l.within ∙ l.is) in
      ne (ap (λ z. z.sequence) (one_of_all d fits v h x p also there (pair x.sequence p.sequence j has own) (pair p.sequence x.sequence j own has))))

  left_rest : (j : ℕ) → rest j ≡ true → is_left d j p ≡ true
  left_rest j e = let l = at_left jobs from j e in left_at jobs p.next l.place j l.within (let le = l.from in omega (arith, le, from_next)) l.is

  other_result : (x : Pending) (j : ℕ) → Contains (all_of v) x → x.sequence ≢ p.sequence → Contains (jobs_of d x.sequence) j → job_result given j ≡ job_result v.job_results j
  other_result x j also ne has =
      let no = not_left x j also ne has in
      given_other j (not_true (rest j) (λ e. let f = sym no ∙ left_rest j e in cc)) ∙ unrun j no

  module _ (ps : List Pending) (begun : ℕ → Option Pending) (leaves : Leaves v p ps begun) (running : ℕ → Bool) (idle : ℕ → Bool) (result : AnswerName) (named : IsOfSequence result) (over : result ≡ SpiSeqPending → ⊥) (others : (n : ℕ) → n ≢ p.sequence → running n ≡ v.running n) (few : (u : ℕ) → 2 ≤ u → idle u ≡ true) (calm : (u : ℕ) → is_sync_unit d u ≡ true → idle u ≡ true) (off : is_off v.mode ≡ true → (u : ℕ) → idle u ≡ true) where
    abbrev pub ended_view : View
    ended_view = record v { pending = ps; begun = begun; sequence_results = with_item SpiSeqOk v.sequence_results p.sequence result; job_results = given; running = running; idle = idle }

    kept : (x : Pending) → Contains (all_of ended_view) x → Contains (all_of v) x × (x.sequence ≢ p.sequence)
    kept x is = cases (all_cases ended_view x is)
        (λ one. let r = leaves.kept x one in (all_pending v x r.0, r.1))
        (λ (u, e). let r = leaves.carried u x e in (all_carried v u x (h.carries.unit u x r.0).0 r.0, r.1))

    none_left : (j : ℕ) → list_any (is_left d j) (all_of ended_view) ≡ false → is_left d j p ≡ false → list_any (is_left d j) (all_of v) ≡ false
    none_left j none own = none_any (is_left d j) (all_of v) (λ x also. cases (same_or_other x.sequence p.sequence)
        (λ e. subst (λ z. is_left d j z ≡ false) (sym (one_entry x also e)) own)
        (λ ne. any_none (is_left d j) (all_of ended_view) none x (leaves.stays x also ne)))

    -- a job that no other one has left
    last_by : (j : ℕ) → list_any (is_left d j) (all_of ended_view) ≡ false → (a : Bool) → rest j ≡ a → (b : Bool) → is_left d j p ≡ b → IsLast (job_result given j)
    last_by j none true e b f = let l = at_left jobs from j e in subst (λ x. IsLast x) (sym (given_had j l)) ((h.entries p there).last l.place (let lt = l.within in let count = (h.entries p there).had in omega (arith, lt, count)))
    last_by j none false e true f = subst (λ x. IsLast x) (sym (given_other j e)) (ran j f e)
    last_by j none false e false f = subst (λ x. IsLast x) (sym (given_other j e ∙ unrun j f)) (h.results.last j (none_left j none f))

    pub ended_sound : IsSoundState d ended_view
    ended_sound = record {
      entries = λ x is. let k = kept x is in let e = h.entries x k.0 in record { number = e.number; next = e.next; had = e.had; last = e.last; cancelled = λ c. others x.sequence k.1 ∙ e.cancelled c };
      apart = λ i j x y lt a b. let r = leaves.order i j x y lt a b in h.apart r.0 r.1 x y r.2 r.3 r.4;
      requests = λ x is. h.requests x (leaves.kept x is).0;
      results = record {
        queued = λ x i is le lt. let k = leaves.kept x is in other_result x (slice_index_or (jobs_of d x.sequence) i 0) (all_pending v x k.0) k.1 (Contains-get_or (jobs_of d x.sequence) i 0 lt) ∙ h.results.queued x i k.0 le lt ∙ ap (λ b. if i == x.next && b then SpiJobPending else SpiJobQueued) (sym (others x.sequence k.1));
        last = λ j none. last_by j none (rest j) refl (is_left d j p) refl;
        named = λ n lt. cases (same_or_other n p.sequence)
            (λ e. subst (λ k. IsOfSequence (sequence_result (with_item SpiSeqOk v.sequence_results p.sequence result) k)) (sym e) (subst (λ x. IsOfSequence x) (sym (item-same SpiSeqOk v.sequence_results p.sequence result)) named))
            (λ ne. subst (λ x. IsOfSequence x) (sym (item-other SpiSeqOk v.sequence_results p.sequence n result ne)) (h.results.named n lt));
        sequences = λ n lt. cases (same_or_other n p.sequence)
            (λ e. subst (λ k. (sequence_result ended_view.sequence_results k ≡ SpiSeqPending → is_pending k (all_of ended_view) ≡ true) × (is_pending k (all_of ended_view) ≡ true → sequence_result ended_view.sequence_results k ≡ SpiSeqPending)) (sym e)
            (λ f. absurd (over (sym (item-same SpiSeqOk v.sequence_results p.sequence result) ∙ f)), λ f. absurd (let gone = none_any (is_of p.sequence) (all_of ended_view) (λ x is. other_number x.sequence p.sequence (kept x is).1) in let g = sym gone ∙ f in cc)))
            (λ ne.
            let same = item-other SpiSeqOk v.sequence_results p.sequence n result ne in
            let was = h.results.sequences n lt in
            (λ f. stays n ne ∙ was.0 (sym same ∙ f), λ f. same ∙ was.1 (sym (stays n ne) ∙ f)));
      };
      carries = record {
        unit = λ u x e. h.carries.unit u x (leaves.carried u x e).0;
        asked = λ x is. h.carries.asked x (leaves.kept x is).0;
        idle = calm;
        queued = λ u x i e le lt. let k = leaves.carried u x e in other_result x (slice_index_or (jobs_of d x.sequence) i 0) (all_carried v u x (h.carries.unit u x k.0).0 k.0) k.1 (Contains-get_or (jobs_of d x.sequence) i 0 lt) ∙ h.carries.queued u x i k.0 le lt;
        off = λ e u. some_or_none (begun u) (λ x i. absurd (let f = sym (leaves.carried u x i).0 ∙ h.carries.off e u in cc)) (λ i. i);
      };
      few = few;
      off = λ e. (nothing_in ps (λ x is. let none = subst (λ xs. Contains xs x) (h.off e).0 (leaves.kept x is).0 in let lt = none.1 in omega (arith, lt)), off e);
    }
      where
        stays : (n : ℕ) → n ≢ p.sequence → is_pending n (all_of ended_view) ≡ is_pending n (all_of v)
        stays n ne = whether (is_pending n (all_of v))
            (λ e. let r = any_some (is_of n) (all_of v) e in any_in (is_of n) (all_of ended_view) r.0 (leaves.stays r.0 r.1 (λ f. ne (sym (is_number r.0.sequence n r.2) ∙ f))) r.2 ∙ sym e)
            (λ e. none_any (is_of n) (all_of ended_view) (λ x is. any_none (is_of n) (all_of v) e x (kept x is).0) ∙ sym e)

    -- ---- the words

    module _ (m m1 : Memory) (a : SequencesAgree d m v) (sequence_words : (n : ℕ) → n < 8 → n ≢ p.sequence → m1 (sequence_word n) ≡ m (sequence_word n)) (told : m1 (sequence_word p.sequence) ≡ sequence_code result)
        (nexts : m1 NEXTS ≡ m NEXTS) (marks : m1 MARKS ≡ m MARKS) (job_words : (j : ℕ) → j < 16 → (is_left d j p && not (rest j)) ≡ false → m1 (job_word j) ≡ m (job_word j))
        (ran_words : (j : ℕ) → j < 16 → is_left d j p ≡ true → rest j ≡ false → m1 (job_word j) ≡ job_code (job_result rs j))
        (orders : (u : ℕ) → u < 2 → ranked.Holds (record { at = order_word u }) m1 (entries_of d ended_view u)) where
      unless_left : (j : ℕ) → is_left d j p ≡ false → (is_left d j p && not (rest j)) ≡ false
      unless_left j e = ap (λ b. b && not (rest j)) e

      unless_rest : (j : ℕ) → rest j ≡ true → (is_left d j p && not (rest j)) ≡ false
      unless_rest j e = ap (λ b. is_left d j p && not b) e ∙ and_false (is_left d j p)

      job_by : (j : ℕ) → j < 16 → list_any (is_left d j) (all_of ended_view) ≡ false → (b : Bool) → rest j ≡ b → (c : Bool) → is_left d j p ≡ c → m1 (job_word j) ≡ job_code (job_result given j)
      job_by j lt none true e c f =
          let l = at_left jobs from j e in
          let le = l.from in
          job_words j lt (unless_rest j e) ∙ ap (λ n. m (job_word n)) (sym l.is) ∙ a.had p l.place there (omega (arith, le, from_next)) l.within ∙ ap job_code (sym (given_had j l))
      job_by j lt none false e true f = ran_words j lt f e ∙ ap job_code (sym (given_other j e))
      job_by j lt none false e false f = job_words j lt (unless_left j f) ∙ a.jobs j lt (none_left j none f) ∙ ap job_code (sym (given_other j e ∙ unrun j f))

      pub ended_words : SequencesAgree d m1 ended_view
      ended_words = record {
        sequences = λ n lt. cases (same_or_other n p.sequence)
            (λ e. ap (λ k. m1 (sequence_word k)) e ∙ told ∙ ap sequence_code (sym (item-same SpiSeqOk v.sequence_results p.sequence result)) ∙ ap (λ k. sequence_code (sequence_result (with_item SpiSeqOk v.sequence_results p.sequence result) k)) (sym e))
            (λ ne. sequence_words n lt ne ∙ a.sequences n lt ∙ ap sequence_code (sym (item-other SpiSeqOk v.sequence_results p.sequence n result ne)));
        pending = λ x is. let k = leaves.kept x is in let w = a.pending x k.0 in record { next = ap (λ n. next_in n x.sequence) nexts ∙ w.next; started = ap (λ n. has_mark n (started_bit x.sequence)) marks ∙ w.started; cancelled = ap (λ n. has_mark n (cancelled_bit x.sequence)) marks ∙ w.cancelled };
        begun = λ u x e. ap (λ n. next_in n x.sequence) nexts ∙ a.begun u x (leaves.carried u x e).0;
        had = λ x i is le lt. let k = kept x is in job_words (slice_index_or (jobs_of d x.sequence) i 0) (job_small d fits x.sequence i lt) (unless_left (slice_index_or (jobs_of d x.sequence) i 0) (not_left x (slice_index_or (jobs_of d x.sequence) i 0) k.0 k.1 (Contains-get_or (jobs_of d x.sequence) i 0 lt))) ∙ a.had x i k.0 le lt;
        jobs = λ j lt none. job_by j lt none (rest j) refl (is_left d j p) refl;
        orders = orders;
      }
