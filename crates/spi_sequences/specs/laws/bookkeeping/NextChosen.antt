-- What a start chooses of a unit's order is what the machine starts next.
-- From words.JobPlaces, words.Cases, words.WordsToState, services.InitPrepared, services.StartSteps and 1 more.
-- Used by spi_laws: starting.services.StartRight, spi_laws: starting.services.StartWords, spi_laws: starting.Starting and 3 more.
use Rattle.std.proofs.Common.{◌≡◌, ◌<◌, ◌==◌, ◌&&◌, ◌||◌, [], ◌∷◌, ◌∙◌, if◌then◌else◌}
use Rattle.spi_sequences.specs.Terms
use Terms.{ap, arith, best, better, Bool, Chip, choice, Contains, entries_of, Entry, false, filter, FitsSpi, is_for}
use Terms.{is_interruptible, is_off, is_running, job_at_place, job_of, keeps_unit, List, lt_since, map, MARKS, nat_lt}
use Terms.{nat_tests, next_in, next_job, next_on, NEXTS, None, none, not, Option, option_as, over, Pending}
use Terms.{PendingAgrees, precedes, priority_by, rank, rank_in, ranks_in, refl, Reservations, same_Some, sequence_of}
use Terms.{slice_get, Some, some_or_none, SpiRepresents, SpiState, SpiTable, subst, suc, sym, true, view, whether}
use Terms.{whether_as, word_of, World, ℕ}
use Rattle.spi_sequences.specs.laws.{bookkeeping.SequenceEnded.{filter_back}, services.InitPrepared.{in_first}}
use Rattle.spi_sequences.specs.laws.{services.InitPrepared.{in_later}, words.JobPlaces.{all_pending, job_place}}
use Rattle.spi_sequences.specs.laws.words.WordsToState.{at_contained, going_asked, not_true, one_pending, one_unit}
use Rattle.spi_sequences.specs.laws.words.WordsToState.{runs_on, RunsOn}
use Rattle.word_shapes.specs.Order as order

-- an order of pending sequences that all wait
abbrev pub waiting_entries : List Pending → List Entry
waiting_entries ps = map (λ p. record { number = p.sequence; waits = true }) ps

abbrev pub number_of : Option Pending → ℕ
number_of None = none
number_of (Some p) = p.sequence

-- each was requested before those after it
abbrev pub IsSorted : List Pending → Type 0
IsSorted [] = Unit {0}
IsSorted (p ∷ ps) = ((q : Pending) → Contains ps q → p.request < q.request) × IsSorted ps

pub best_in : (d : SpiTable) (ps : List Pending) (b : Pending) → best d ps ≡ Some b → Contains ps b
best_in d [] b e = absurd (cc)
best_in d (p ∷ ps) b e = some_or_none (best d ps)
    (λ o f.
    let g : Some (if precedes d o p then o else p) ≡ Some b = sym (ap (λ x. Some (better d p x)) f) ∙ e in
    whether (precedes d o p)
    (λ h. let same : o ≡ b = ap (λ q. if q then o else p) (sym h) ∙ same_Some _ b g in subst (λ x. Contains (p ∷ ps) x) same (in_later p ps o (best_in d ps o f)))
    (λ h. let same : p ≡ b = ap (λ q. if q then o else p) (sym h) ∙ same_Some _ b g in subst (λ x. Contains (p ∷ ps) x) same (in_first p ps)))
    (λ f. let same : p ≡ b = same_Some p b (sym (ap (λ x. Some (better d p x)) f) ∙ e) in subst (λ x. Contains (p ∷ ps) x) same (in_first p ps))

-- the first of a sorted order stands unless another one ranks higher
chosen_of : (d : SpiTable) (ranks : List ℕ) (p b : Pending) → b.sequence < 8 → p.request < b.request → order.rank ranks p.sequence ≡ rank d p → order.rank ranks b.sequence ≡ rank d b
    → over ranks (record { number = p.sequence; waits = true }) b.sequence ≡ (better d p (Some b)).sequence
chosen_of d ranks p b few before e f =
    ap (λ q. if not (q && nat_lt (order.rank ranks p.sequence) (order.rank ranks b.sequence)) then p.sequence else b.sequence) (small b.sequence few)
    ∙ ap (λ n. if not (nat_lt n (order.rank ranks b.sequence)) then p.sequence else b.sequence) e ∙ ap (λ n. if not (nat_lt (rank d p) n) then p.sequence else b.sequence) f
    ∙ by (nat_lt (rank d p) (rank d b)) (rank d b == rank d p) ∙ ap (λ q. (if nat_lt (rank d p) (rank d b) || ((rank d b == rank d p) && q) then b else p).sequence) (sym (lt_since b.request p.request (omega (arith, before))))
  where
    small : (n : ℕ) → n < 8 → nat_lt n none ≡ true
    small n lt = grind (arith, nat_tests)

    by : (x y : Bool) → (if not x then p.sequence else b.sequence) ≡ (if x || (y && false) then b else p).sequence
    by false true = refl
    by _ _ = refl

pub chosen_best : (d : SpiTable) (ranks : List ℕ) (ps : List Pending) → IsSorted ps → ((p : Pending) → Contains ps p → (p.sequence < 8) × (order.rank ranks p.sequence ≡ rank d p)) → choice ranks (waiting_entries ps) ≡ number_of (best d ps)
chosen_best d ranks [] sorted all = refl
chosen_best d ranks (p ∷ ps) sorted all =
    ap (over ranks (record { number = p.sequence; waits = true })) (chosen_best d ranks ps sorted.1 (λ q there. all q (in_later p ps q there)))
    ∙ option_as (best d ps) (λ o. over ranks (record { number = p.sequence; waits = true }) (number_of o) ≡ number_of (Some (better d p o)))
    (λ e. refl)
    (λ b e. let there = best_in d ps b e in let at = all b (in_later p ps b there) in chosen_of d ranks p b at.0 (sorted.0 b there) (all p (in_first p ps)).1 at.1)

-- ---- in an order that words stand for

sorted_by : (ps : List Pending) → ((i j : ℕ) (p q : Pending) → i < j → slice_get ps i ≡ Some p → slice_get ps j ≡ Some q → p.request < q.request) → IsSorted ps
sorted_by [] h = tt
sorted_by (p ∷ ps) h = ((λ q there. h 0 (suc there.0) p q (omega arith) refl (at_contained ps there.0 q there.1 there.2)), sorted_by ps (λ i j a b lt e f. h (suc i) (suc j) a b (omega (arith, lt)) e f))

sorted_kept : (t : Pending → Bool) (ps : List Pending) → IsSorted ps → IsSorted (filter t ps)
sorted_kept t [] h = tt
sorted_kept t (p ∷ ps) h = whether_as (t p) (λ q. IsSorted (if q then p ∷ filter t ps else filter t ps))
    (λ _. ((λ q there. h.0 q (filter_back t ps q there).0), (sorted_kept t ps h.1)))
    (λ _. (sorted_kept t ps h.1))

rank_there : (d : SpiTable) (v m q : ℕ) → q < 8 → order.rank (ranks_in d v m) q ≡ rank_in d v m q
rank_there d v m (suc (suc (suc (suc (suc (suc (suc (suc q)))))))) lt = absurd (omega (arith, lt))
rank_there d v m _ lt = refl

module _ (d : SpiTable) (fits : FitsSpi d) (below : Reservations) (chip : Chip) (w : World) (s : SpiState) (h : SpiRepresents d below chip w s) (on : is_off s.mode ≡ false) where
  abbrev ranks : List ℕ
  ranks = ranks_in d (word_of chip NEXTS) (word_of chip MARKS)

  -- the ranks that a frame reads are the machine's
  rank_agrees : (p : Pending) → Contains s.pending p → order.rank ranks p.sequence ≡ rank d p
  rank_agrees p there =
      let a : PendingAgrees (word_of chip) p = (h.words.on on).sequences.pending p there in
      rank_there d (word_of chip NEXTS) (word_of chip MARKS) p.sequence (h.sound.entries p (all_pending (view s) p there)).number
      ∙ ap (λ q. if q && not (is_interruptible (sequence_of d p.sequence)) then 4 else priority_by (job_of d (job_at_place d p.sequence (next_in (word_of chip NEXTS) p.sequence)))) a.started
      ∙ ap (λ n. if keeps_unit d p then 4 else priority_by (job_of d (job_at_place d p.sequence n))) a.next
      ∙ ap (λ j. if keeps_unit d p then 4 else priority_by (job_of d j)) (job_place d fits p.sequence p.next (h.sound.entries p (all_pending (view s) p there)).next)

  module _ (u : ℕ) (few : u < 2) (free : h.going u ≡ None) where
    -- all sequences of a free unit wait
    pub free_rests : (p : Pending) → Contains s.pending p → is_for d u p ≡ true → is_running s p.sequence ≡ false
    free_rests p there for = not_true (is_running s p.sequence) (λ e.
        let r : RunsOn d fits below chip w s h p.sequence = runs_on d fits below chip w s h p.sequence e in
        let next = going_asked d fits below chip w s h r.unit r.job r.few r.async r.is in
        let same : r.job.pending ≡ p = one_pending d fits below chip w s h r.job.pending p (all_pending (view s) r.job.pending next.0) (all_pending (view s) p there) r.of in
        let unit : r.unit ≡ u = one_unit d r.unit u (next_job d p) (subst (λ x. is_for d r.unit x ≡ true) same next.2) for in
        let none : None ≡ Some r.job = sym free ∙ ap h.going (sym unit) ∙ r.is in
        cc)

    all_wait : (ps : List Pending) → ((p : Pending) → Contains ps p → Contains (filter (is_for d u) s.pending) p) → map (λ p. record { number = p.sequence; waits = not (is_running s p.sequence) }) ps ≡ waiting_entries ps
    all_wait [] all = refl
    all_wait (p ∷ ps) all =
        let at = filter_back (is_for d u) s.pending p (all p (in_first p ps)) in
        ap (λ b. record { number = p.sequence; waits = not b } ∷ map (λ x. record { number = x.sequence; waits = not (is_running s x.sequence) }) ps) (free_rests p at.0 at.1)
        ∙ ap (λ xs. record { number = p.sequence; waits = true } ∷ xs) (all_wait ps (λ q there. all q (in_later p ps q there)))

    pub waits_all : entries_of d (view s) u ≡ waiting_entries (filter (is_for d u) s.pending)
    waits_all = all_wait (filter (is_for d u) s.pending) (λ p there. there)

    -- the choice is the machine's next sequence
    pub choice_next : choice ranks (entries_of d (view s) u) ≡ number_of (next_on d u s.pending)
    choice_next =
        ap (choice ranks) waits_all
        ∙ chosen_best d ranks (filter (is_for d u) s.pending) (sorted_kept (is_for d u) s.pending (sorted_by s.pending (λ i j p q lt e f. (h.sound.apart i j p q lt e f).0)))
        (λ p there. let at = filter_back (is_for d u) s.pending p there in ((h.sound.entries p (all_pending (view s) p at.0)).number, rank_agrees p at.0))
