-- A free unit has begun its next job: the state is as sound as it was, the unit has the first word of the job in transfer under its
-- device, and the words of sequences and units stand for it.
-- From bookkeeping.RanState, spi_sequences: words.JobPlaces, spi_sequences: bookkeeping.MarkedState and 15 more.
-- Used by services.StartWords, services.StartRight.
use Rattle.std.proofs.Common.{◌≡◌, ◌≢◌, ◌+◌, ◌%◌, ◌^◌, ◌<◌, ◌≤◌, ◌&&◌, ◌||◌, ◌==◌, [], ◌∷◌, ◌∙◌, ◌⊎◌, if◌then◌else◌}
use Rattle.spi_laws.specs.starting.Terms
use Terms.{all_carried, all_of, all_pending, any_changed, any_in, ap, AreOwed, arith, aside_pending, at_contained}
use Terms.{banks_held, banks_view, BanksAgree, Bool, cancelled_bit, carried_at, CarriesAgrees, cases, changed, Channel}
use Terms.{channel_of, Chip, Contains, Contains-get_or, contains_back, contains_map, Destination, entries_of, Entry}
use Terms.{false, filter, filter_back, first_word, free_rests, from_order, get_or-set_other, get_or-set_same, Going}
use Terms.{going_free, going_runs, has_bit, has_job, has_mark, holds-agree, holds_back, holds_debt, idle, in_first}
use Terms.{in_later, inl, inr, InTransfer, is_for, is_left, is_number, is_of, is_off, is_owed, is_running, is_some}
use Terms.{is_sync_unit, IsLast, IsSoundState, item, item-other, item-same, item_for, Job, job_code, job_of, job_result}
use Terms.{job_small, job_word, jobs_of, Keeps, left_at, length, length-set, List, list_any, map, marked_other}
use Terms.{marked_same, MARKS, Memory, min, next_in, next_job, next_there, NEXTS, None, none_in, none_stored, not}
use Terms.{not_order, not_true, one_by_job, one_pending, one_place, one_unit, Option, order_stays, order_word}
use Terms.{other_number, Pending, place_of, placed_of, position_word, refl, Reservations, Run, run_at, run_carried}
use Terms.{run_of, RunAgrees, running_word, runs_sequence, RunsBy, RunsNext, same_number, same_or_other, select_by}
use Terms.{select_of, sends_as, sequence_word, sequences_after, SequencesAgree, SerialData, set_up_word, shares_job}
use Terms.{slice_index, slice_index_or, Some, some_at, sound_changed, Source, SpiJobOk, SpiJobPending, SpiJobQueued}
use Terms.{SpiRepresents, SpiState, SpiTable, stands-move, stands_owed, started_bit, starts, STATE, stored}
use Terms.{stored-other, stored-same, subst, sym, true, unit_at, UnitAgrees, View, view, waiting, with_item, with_wait}
use Terms.{word_of, words_are, Write, ℕ}
use Rattle.spi_laws.specs.starting.laws.bookkeeping.RanState.{channels, debt_of, first_chip, first_going, first_run}
use Rattle.spi_laws.specs.starting.laws.bookkeeping.RanState.{IsQuiet, quiet_first, quiet_set_up, quiet_users, Ran}
use Rattle.spi_laws.specs.starting.laws.{bookkeeping.RanState.{ran_state}, ToBegin.{of_start, ToBegin}, ToStart.{ToStart}}
use Rattle.spi_laws.specs.starting.laws.words.PinnedBanks.{banks_now, begun_runs, held_else, the_job, unit_words}
use Rattle.word_shapes.specs.PriorityQueue as ranked
use Rattle.chip_blocks.specs.units.Serials as serials

-- the unit has its width and selects its device
pub record IsTurned (d : SpiTable) (chip : Chip) (s : SpiState) (u : ℕ) (p : Pending) : Type 0 where
  pub width : (unit_at chip.serials u).width ≡ (first_word d s p).width
  pub narrow : (first_word d s p).width ≤ 16
  pub select : (unit_at chip.serials u).select ≡ select_of (select_by (job_of d (next_job d p)))

pub at_most : (n : ℕ) → n ≤ 16 → min n 16 ≡ n
at_most n le = omega (arith, le)

pub starts_keep : (q : ℕ) → Keeps q starts
starts_keep q = record { sequence = λ p. refl; request = λ p. refl; next = λ p. refl; had = λ p. refl }

module _ (st : ToStart) where
  open st use {d, fits, below, owner, acted, chip, w, s, u, h, p, there, for, free}

  abbrev held : Reservations
  held = debt_of u owner acted ∷ below

  few : u < 2
  few = h.right.0.0

  async : is_sync_unit d u ≡ false
  async = h.right.0.2

  pub unit_free : run_at s u ≡ None
  unit_free = going_free d fits held chip w s h u few free

  -- the sequence runs no job
  pub rests : is_running s p.sequence ≡ false
  rests = free_rests d fits held chip w s h h.right.0.1 u few free p there for

  -- ---- the state

  module _ (word received : ℕ) where
    abbrev after : SpiState
    after = ran_state d below owner acted chip w s u h p word received

    abbrev later : Chip
    later = first_chip d below owner acted chip w s u h p word received

    abbrev run : Run
    run = first_run d below owner acted chip w s u h p word received

    pub run_here : run_at after u ≡ Some run
    run_here = item-same None s.units u (Some run)

    pub runs_now : is_running after p.sequence ≡ true
    runs_now = some_at (runs_sequence p.sequence) after.units u refl (ap (runs_sequence p.sequence) run_here ∙ same_number p.sequence)

    pub runs_else : (n : ℕ) → n ≢ p.sequence → is_running after n ≡ is_running s n
    runs_else n ne = any_changed (runs_sequence n) None s.units u (Some run) refl (other_number p.sequence n (λ e. ne (sym e)) ∙ sym (ap (runs_sequence n) unit_free))

    pub one_entry : (x : Pending) → Contains (all_of (view s)) x → x.sequence ≡ p.sequence → x ≡ p
    one_entry x also e = one_pending d fits held chip w s h x p also (all_pending (view s) p there) e

    -- no other sequence under way has the job
    pub job_apart : (x : Pending) (i : ℕ) → Contains (all_of (view s)) x → x.sequence ≢ p.sequence → i < length (jobs_of d x.sequence) → slice_index_or (jobs_of d x.sequence) i 0 ≢ next_job d p
    job_apart x i also ne lt e = ne (ap (λ z. z.sequence) (one_by_job d fits held chip w s h x p also (all_pending (view s) p there) (pair x.sequence p.sequence has own) (pair p.sequence x.sequence own has)))
      where
        has : Contains (jobs_of d x.sequence) (next_job d p)
        has = subst (λ n. Contains (jobs_of d x.sequence) n) e (Contains-get_or (jobs_of d x.sequence) i 0 lt)

        own : Contains (jobs_of d p.sequence) (next_job d p)
        own = next_there d fits held chip w s h p (all_pending (view s) p there)

        pair : (a b : ℕ) → Contains (jobs_of d a) (next_job d p) → Contains (jobs_of d b) (next_job d p) → shares_job d a b ≡ true
        pair a b at bt = any_in (has_job d a) (jobs_of d b) (next_job d p) bt (any_in (λ k. k == next_job d p) (jobs_of d a) (next_job d p) at (same_number (next_job d p)))

    idle_else : (n : ℕ) → 2 ≤ n → (view after).idle n ≡ true
    idle_else n le = ap (λ r. not (is_some r)) (item-other None s.units u n (Some run) (λ e. let lt = few in omega (arith, le, e, lt))) ∙ h.sound.few n le

    calm_else : (n : ℕ) → is_sync_unit d n ≡ true → (view after).idle n ≡ true
    calm_else n sync = ap (λ r. not (is_some r)) (item-other None s.units u n (Some run) (λ e. let f = sym sync ∙ ap (is_sync_unit d) e ∙ async in cc)) ∙ h.sound.carries.idle n sync

    -- the state with the job running, but for the mark of its sequence
    abbrev pub half_view : View
    half_view = record (view s) { job_results = with_item SpiJobOk s.job_results (next_job d p) SpiJobPending; running = is_running after; idle = (view after).idle }

    result_other : (j : ℕ) → j ≢ next_job d p → job_result half_view.job_results j ≡ job_result (view s).job_results j
    result_other j ne = item-other SpiJobOk (view s).job_results (next_job d p) j SpiJobPending ne

    -- the place of its next job
    own_queued : (i : ℕ) → p.next ≤ i → i < length (jobs_of d p.sequence) → (b : Bool) → (i == p.next) ≡ b
        → job_result half_view.job_results (slice_index_or (jobs_of d p.sequence) i 0) ≡ (if b && is_running after p.sequence then SpiJobPending else SpiJobQueued)
    own_queued i le lt true e =
        ap (λ n. job_result half_view.job_results (slice_index_or (jobs_of d p.sequence) n 0)) (is_number i p.next e) ∙ item-same SpiJobOk (view s).job_results (next_job d p) SpiJobPending
        ∙ ap (λ b. if b then SpiJobPending else SpiJobQueued) (sym runs_now)
    own_queued i le lt false e =
        result_other (slice_index_or (jobs_of d p.sequence) i 0) (λ f. let at = one_place d fits p.sequence i p.next lt (h.sound.entries p (all_pending (view s) p there)).next f in let g = sym e ∙ ap (λ n. n == p.next) at ∙ same_number p.next in cc)
        ∙ h.sound.results.queued p i there le lt ∙ ap (λ b. if b && (view s).running p.sequence then SpiJobPending else SpiJobQueued) e

    other_queued : (x : Pending) (i : ℕ) → Contains (view s).pending x → x.sequence ≢ p.sequence → x.next ≤ i → i < length (jobs_of d x.sequence)
        → job_result half_view.job_results (slice_index_or (jobs_of d x.sequence) i 0) ≡ (if i == x.next && is_running after x.sequence then SpiJobPending else SpiJobQueued)
    other_queued x i also ne le lt =
        result_other (slice_index_or (jobs_of d x.sequence) i 0) (job_apart x i (all_pending (view s) x also) ne lt) ∙ h.sound.results.queued x i also le lt ∙ ap (λ b. if i == x.next && b then SpiJobPending else SpiJobQueued) (sym (runs_else x.sequence ne))

    queued_by : (x : Pending) (i : ℕ) → Contains (view s).pending x → (x.sequence ≡ p.sequence) ⊎ (x.sequence ≢ p.sequence) → x.next ≤ i → i < length (jobs_of d x.sequence)
        → job_result half_view.job_results (slice_index_or (jobs_of d x.sequence) i 0) ≡ (if i == x.next && is_running after x.sequence then SpiJobPending else SpiJobQueued)
    queued_by x i also (inl e) le lt =
        subst (λ (z : Pending). z.next ≤ i → i < length (jobs_of d z.sequence) → job_result half_view.job_results (slice_index_or (jobs_of d z.sequence) i 0) ≡ (if i == z.next && is_running after z.sequence then SpiJobPending else SpiJobQueued)) (sym (one_entry x (all_pending (view s) x also) e)) (λ le lt. own_queued i le lt (i == p.next) refl) le lt
    queued_by x i also (inr ne) le lt = other_queued x i also ne le lt

    -- it is one of the jobs that are left
    own_left : list_any (is_left d (next_job d p)) (all_of (view s)) ≡ true
    own_left = let all = all_pending (view s) p there in any_in (is_left d (next_job d p)) (all_of (view s)) p all (left_at (jobs_of d p.sequence) p.next p.next (next_job d p) (h.sound.entries p all).next (omega arith) refl)

    not_own : (j : ℕ) → list_any (is_left d j) (all_of (view s)) ≡ false → j ≢ next_job d p
    not_own j none e = let f = sym none ∙ ap (λ n. list_any (is_left d n) (all_of (view s))) e ∙ own_left in cc

    cancelled_by : (x : Pending) → Contains (all_of (view s)) x → (x.sequence ≡ p.sequence) ⊎ (x.sequence ≢ p.sequence) → x.cancelled ≡ true → is_running after x.sequence ≡ true
    cancelled_by x also (inl e) c = ap (is_running after) e ∙ runs_now
    cancelled_by x also (inr ne) c = runs_else x.sequence ne ∙ (h.sound.entries x also).cancelled c

    half_sound : IsSoundState d half_view
    half_sound = record {
      entries = λ x also. let e = h.sound.entries x also in record { number = e.number; next = e.next; had = e.had; last = e.last; cancelled = cancelled_by x also (same_or_other x.sequence p.sequence) };
      apart = h.sound.apart;
      requests = h.sound.requests;
      results = record {
        queued = λ x i also le lt. queued_by x i also (same_or_other x.sequence p.sequence) le lt;
        last = λ j none. subst (λ z. IsLast z) (sym (result_other j (not_own j none))) (h.sound.results.last j none);
        named = h.sound.results.named;
        sequences = h.sound.results.sequences;
      };
      carries = record {
        unit = h.sound.carries.unit;
        asked = h.sound.carries.asked;
        idle = calm_else;
        queued = λ u x i e le lt. result_other (slice_index_or (jobs_of d x.sequence) i 0) (job_apart x i (all_carried (view s) u x (h.sound.carries.unit u x e).0 e) (unlike u x e) lt) ∙ h.sound.carries.queued u x i e le lt;
        off = λ e u. absurd (let f = sym h.right.0.1 ∙ e in cc);
      };
      few = idle_else;
      off = λ e. absurd (let f = sym h.right.0.1 ∙ e in cc);
    }
      where
        unlike : (u : ℕ) (x : Pending) → (view s).begun u ≡ Some x → x.sequence ≢ p.sequence
        unlike u x e same = let f = sym (aside_pending d (view s) h.sound p there u x e).1 ∙ ap (λ n. n == p.sequence) same ∙ same_number p.sequence in cc

    pub ran_sound : IsSoundState d (view after)
    ran_sound = sound_changed p.sequence starts d (starts_keep p.sequence) half_view (aside_pending d (view s) h.sound p there) (λ x also c. (half_sound.entries x (all_pending half_view x also)).cancelled (kept x (is_of p.sequence x) c)) half_sound
      where
        kept : (x : Pending) (b : Bool) → (if b then starts x else x).cancelled ≡ true → x.cancelled ≡ true
        kept x true c = c
        kept x false c = c

    -- ---- its order

    abbrev entry_by : (ℕ → Bool) → Pending → Entry
    entry_by f x = record { number = x.sequence; waits = not (f x.sequence) }

    entry_chosen : (x : Pending) (b : Bool) → (x.sequence == p.sequence) ≡ b → entry_by (is_running after) x ≡ (if b then record { number = x.sequence; waits = false } else entry_by (view s).running x)
    entry_chosen x true e = ap (λ b. record { number = x.sequence; waits = not b }) (ap (is_running after) (is_number x.sequence p.sequence e) ∙ runs_now)
    entry_chosen x false e = ap (λ b. record { number = x.sequence; waits = not b }) (runs_else x.sequence (λ f. let g = sym e ∙ ap (λ n. n == p.sequence) f ∙ same_number p.sequence in cc))

    entries_chosen : (xs : List Pending) → map (entry_by (is_running after)) xs ≡ waiting p.sequence false (map (entry_by (view s).running) xs)
    entries_chosen [] = refl
    entries_chosen (x ∷ xs) = ap (λ e. e ∷ map (entry_by (is_running after)) xs) (entry_chosen x (x.sequence == p.sequence) refl) ∙ ap (λ es. with_wait p.sequence false (entry_by (view s).running x) ∷ es) (entries_chosen xs)

    -- it waits no longer there
    pub order_chosen : (u : ℕ) → entries_of d half_view u ≡ waiting p.sequence false (entries_of d (view s) u)
    order_chosen u = entries_chosen (filter (is_for d u) (view s).pending)

    entries_kept : (xs : List Pending) → ((x : Pending) → Contains xs x → x.sequence ≢ p.sequence) → map (entry_by (is_running after)) xs ≡ map (entry_by (view s).running) xs
    entries_kept [] none = refl
    entries_kept (x ∷ xs) none = ap (λ b. record { number = x.sequence; waits = not b } ∷ map (entry_by (is_running after)) xs) (runs_else x.sequence (none x (in_first x xs))) ∙ ap (λ es. entry_by (view s).running x ∷ es) (entries_kept xs (λ y also. none y (in_later x xs y also)))

    -- another unit's order stays
    pub order_kept : (u : ℕ) → is_for d u p ≡ false → entries_of d half_view u ≡ entries_of d (view s) u
    order_kept u away = entries_kept (filter (is_for d u) (view s).pending) (λ x is e. let k = filter_back (is_for d u) (view s).pending x is in let f = sym away ∙ ap (is_for d u) (sym (one_entry x (all_pending (view s) x k.0) e)) ∙ k.1 in cc)

    -- ---- its words

    module _ (m m1 : Memory) (a : SequencesAgree d m (view s)) (sequence_same : (q : ℕ) → q < 8 → m1 (sequence_word q) ≡ m (sequence_word q)) (nexts : m1 NEXTS ≡ m NEXTS) (marks : m1 MARKS ≡ m MARKS) (jobs_same : (j : ℕ) → j < 16 → m1 (job_word j) ≡ m (job_word j))
        (orders : (u : ℕ) → u < 2 → ranked.Holds (record { at = order_word u }) m1 (entries_of d half_view u)) where
      pub run_words : SequencesAgree d m1 half_view
      run_words = record {
        sequences = λ q lt. sequence_same q lt ∙ a.sequences q lt;
        pending = λ x also. let w = a.pending x also in record { next = ap (λ n. next_in n x.sequence) nexts ∙ w.next; started = ap (λ n. has_mark n (started_bit x.sequence)) marks ∙ w.started; cancelled = ap (λ n. has_mark n (cancelled_bit x.sequence)) marks ∙ w.cancelled };
        begun = λ u x e. ap (λ n. next_in n x.sequence) nexts ∙ a.begun u x e;
        had = λ x i also le lt. jobs_same (slice_index_or (jobs_of d x.sequence) i 0) (job_small d fits x.sequence i lt) ∙ a.had x i also le lt;
        jobs = λ j lt none. jobs_same j lt ∙ a.jobs j lt none ∙ ap job_code (sym (result_other j (not_own j none)));
        orders = orders;
      }

    -- ---- what the units do

    abbrev going : Going
    going = first_going d below owner acted chip w s u h p word received

    abbrev pub going_now : ℕ → Option Going
    going_now n = if n == u then Some going else h.going n

    pub going_here : going_now u ≡ Some going
    going_here = ap (λ b. if b then Some going else h.going u) (same_number u)

    pub going_else : (n : ℕ) → n ≢ u → going_now n ≡ h.going n
    going_else n ne = ap (λ b. if b then Some going else h.going n) (other_number n u ne)

    still_there : (x : Pending) → Contains s.pending x → x.sequence ≢ p.sequence → Contains (changed p.sequence starts s.pending) x
    still_there x (n, lt, e) ne = subst (λ z. Contains (changed p.sequence starts s.pending) z) (ap (λ b. if b then starts x else x) (other_number x.sequence p.sequence ne)) (contains_map (item p.sequence starts) s.pending n x (at_contained s.pending n x lt e))

    started_there : Contains (changed p.sequence starts s.pending) (starts p)
    started_there =
        let (n, lt, e) = there in
        subst (λ z. Contains (changed p.sequence starts s.pending) z) (ap (λ b. if b then starts p else p) (same_number p.sequence)) (contains_map (item p.sequence starts) s.pending n p (at_contained s.pending n p lt e))

    next_else : (n : ℕ) → n < 2 → (g : Option Going) → h.going n ≡ g → RunsNext d (view s) n g → RunsNext d (view after) n g
    next_else n lt None e r = tt
    next_else n lt (Some g) e r = next_runs (is_sync_unit d n) refl
      where
        next_runs : (b : Bool) → is_sync_unit d n ≡ b → RunsNext d (view after) n (Some g)
        next_runs true i =
            let begun = subst (λ q. RunsBy q (view s) n g.pending) i r.1 in
            (all_carried (view after) n g.pending lt begun, subst (λ q. RunsBy q (view after) n g.pending) (sym i) begun, r.2)
        next_runs false i =
            let asked = subst (λ q. RunsBy q (view s) n g.pending) i r.1 in
            let is = still_there g.pending asked.0 (λ f. let run = sym rests ∙ ap (is_running s) (sym f) ∙ going_runs d fits held chip w s h n g lt i e in cc) in
            (all_pending (view after) g.pending is, subst (λ q. RunsBy q (view after) n g.pending) (sym i) (is, asked.1), r.2)

    pub nexts_now : (n : ℕ) → n < 2 → RunsNext d (view after) n (going_now n)
    nexts_now n lt = cases (same_or_other n u)
        (λ e. subst (λ k. RunsNext d (view after) k (going_now k)) (sym e) (subst (λ g. RunsNext d (view after) u g) (sym going_here) (all_pending (view after) (starts p) started_there, subst (λ q. RunsBy q (view after) u (starts p)) (sym async) (started_there, refl), for)))
        (λ ne. subst (λ g. RunsNext d (view after) n g) (sym (going_else n ne)) (next_else n lt (h.going n) refl (h.nexts n lt)))

    -- ---- the unit, on the chip as the word begins

    module _ (t : IsTurned d chip s u p) where
      is_unit : u < length chip.serials.units
      is_unit = let lt = h.right.0.0 in let size = h.size in omega (arith, lt, size)

      unit_here : unit_at later.serials u ≡ serials.begun received chip.serials.time (unit_at chip.serials u)
      unit_here = get_or-set_same chip.serials.units u _ idle is_unit

      unit_else : (n : ℕ) → n ≢ u → unit_at later.serials n ≡ unit_at chip.serials n
      unit_else n ne = get_or-set_other chip.serials.units u n _ idle ne

      time : chip.serials.time ≡ w.now
      time = h.outside.together.serials ∙ h.outside.now

      width : min (unit_at chip.serials u).width 16 ≡ (first_word d s p).width
      width = ap (λ n. min n 16) t.width ∙ at_most (first_word d s p).width t.narrow

      word_here : InTransfer (serials.begun received chip.serials.time (unit_at chip.serials u)).word run.transfer
      word_here = record { start = time; incoming = λ e. ap (λ n. received % 2 ^ n) width; failed = refl }

      run_is : Some run ≡ Some (run_of d going run.transfer)
      run_is = ap (λ ws. Some (record { sequence = p.sequence; words = ws; received = []; transfer = run.transfer })) (sym (words_are d s (channels d below owner acted chip w s u h p word received)))

      -- what the units do, on the chip as the word begins
      pub units_now : (n : ℕ) → n < 2 → is_sync_unit d n ≡ false → UnitAgrees d (unit_at later.serials n) (run_at after n) (going_now n)
      units_now n lt async = agrees_now (same_or_other n u)
        where
          own : UnitAgrees d (unit_at later.serials u) (run_at after u) (going_now u)
          own =
              subst (λ g. UnitAgrees d (unit_at later.serials u) (run_at after u) g) (sym (going_here))
              (subst (λ x. UnitAgrees d x (run_at after u) (Some going)) (sym unit_here)
              (run.transfer, item-same None s.units u (Some run) ∙ run_is, word_here, t.select))

          agrees_now : (n ≡ u) ⊎ (n ≢ u) → UnitAgrees d (unit_at later.serials n) (run_at after n) (going_now n)
          agrees_now (inl e) = subst (λ k. UnitAgrees d (unit_at later.serials k) (run_at after k) (going_now k)) (sym e) own
          agrees_now (inr ne) =
              subst (λ g. UnitAgrees d (unit_at later.serials n) (run_at after n) g) (sym (going_else n ne))
              (subst (λ x. UnitAgrees d x (run_at after n) (h.going n)) (sym (unit_else n ne)) (subst (λ r. UnitAgrees d (unit_at chip.serials n) r (h.going n)) (sym (item-other None s.units u n (Some run) ne)) (h.units n lt async)))

      -- a unit that carries out a sequence for a call is another one
      pub other_one : (n : ℕ) → is_sync_unit d n ≡ true → n ≢ u
      other_one n sync e = let f = sym sync ∙ ap (is_sync_unit d) e ∙ h.right.0.2 in cc

      pub carried_now : (n : ℕ) → n < 2 → is_sync_unit d n ≡ true → CarriesAgrees d (unit_at later.serials n) (run_carried (carried_at after n)) (going_now n)
      carried_now n lt sync =
          let ne = other_one n sync in
          subst (λ g. CarriesAgrees d (unit_at later.serials n) (run_carried (carried_at after n)) g) (sym (going_else n ne))
          (subst (λ x. CarriesAgrees d x (run_carried (carried_at s n)) (h.going n)) (sym (unit_else n ne)) (h.sends n lt sync))

      pub select_now : (n : ℕ) → is_sync_unit d n ≡ true → (unit_at later.serials n).select ≡ (unit_at chip.serials n).select
      select_now n sync = ap (λ x. x.select) (unit_else n (other_one n sync))

    -- ---- the words, once all of it stands there

    module _ (c : Chip) (r : Ran d below owner acted chip w s u h p word received c) where
      abbrev q : ℕ
      q = p.sequence

      on : is_off s.mode ≡ false
      on = h.right.0.1

      abbrev job : (k : Job) × (job_of d (next_job d p) ≡ Some k)
      job = the_job (of_start st)

      -- ---- the first words

      first_same : (i : ℕ) → i < STATE + 64 → ranked.own_of (record { at = order_word u }) i ≡ false → i ≢ MARKS → i ≢ running_word u → i ≢ position_word u → word_of c i ≡ word_of chip i
      first_same i lt a b e f = r.along.quiet i (quiet_first d fits u few (next_job d p) job.0 job.1 i lt a b e f)

      -- those before the order, and those after it
      low_same : (i : ℕ) → i < STATE + 8 → i ≢ MARKS → word_of c i ≡ word_of chip i
      low_same i lt ne = first_same i (omega (arith, lt)) (not_order u i (λ e. omega (arith, lt, e)) (λ e. omega (arith, lt, e)) (λ e. omega (arith, lt, e))) ne (λ e. omega (arith, lt, e)) (λ e. omega (arith, lt, e))

      high_same : (i : ℕ) → STATE + 24 ≤ i → i < STATE + 64 → word_of c i ≡ word_of chip i
      high_same i le lt = first_same i lt (not_order u i (λ e. omega (arith, le, e, few)) (λ e. omega (arith, le, e, few)) (λ e. omega (arith, le, e, few))) (λ e. omega (arith, le, e)) (λ e. omega (arith, le, e, few)) (λ e. omega (arith, le, e, few))

      -- ---- the job that begins

      abbrev begins : ToBegin
      begins = of_start st

      quiet : (i : ℕ) → IsQuiet d u (next_job d p) i → i ≢ NEXTS → word_of c i ≡ word_of chip i
      quiet i is ne = r.along.quiet i is

      -- ---- sequences

      -- the words but for the marks
      abbrev middle : Memory
      middle = stored (word_of c) MARKS (word_of chip MARKS)

      middle_other : (i : ℕ) → i ≢ MARKS → middle i ≡ word_of c i
      middle_other i ne = stored-other (word_of c) i MARKS (word_of chip MARKS) ne

      was : SequencesAgree d (word_of chip) (view s)
      was = (h.words.on on).sequences

      orders : (n : ℕ) → n < 2 → ranked.Holds (record { at = order_word n }) middle (entries_of d half_view n)
      orders n lt = order_holds (same_or_other n u)
        where
          kept : n ≢ u → entries_of d half_view n ≡ entries_of d (view s) n
          kept ne = order_kept n (not_true (is_for d n p) (λ e. ne (one_unit d n u (next_job d p) e for)))

          order_holds : (n ≡ u) ⊎ (n ≢ u) → ranked.Holds (record { at = order_word n }) middle (entries_of d half_view n)
          order_holds (inl e) =
              subst (λ k. ranked.Holds (record { at = order_word k }) middle (entries_of d half_view k)) (sym e)
              (subst (λ xs. ranked.Holds (record { at = order_word u }) middle xs) (sym (order_chosen u)) (holds-agree (record { at = order_word u }) (word_of c) middle _ (λ j own. sym (middle_other j (λ f. let low = from_order u j own in omega (arith, low, f)))) r.along.order))
          order_holds (inr ne) =
              subst (λ xs. ranked.Holds (record { at = order_word n }) middle xs) (sym (kept ne))
              (order_stays (word_of chip) middle (entries_of d (view s) n) n (λ j low high. middle_other j (λ f. omega (arith, low, f)) ∙ unit_words begins (word_of c) quiet n lt ne j (omega (arith, low)) (omega (arith, high))) (was.orders n lt))

      half_words : SequencesAgree d middle half_view
      half_words = run_words
          (word_of chip) middle was
          (λ n lt. middle_other (sequence_word n) (λ e. omega (arith, e)) ∙ high_same (sequence_word n) (omega arith) (omega (arith, lt)))
          (middle_other NEXTS (λ e. omega (arith, e)) ∙ low_same NEXTS (omega arith) (λ e. omega (arith, e)))
          (stored-same (word_of c) MARKS MARKS (word_of chip MARKS) refl)
          (λ j lt. middle_other (job_word j) (λ e. omega (arith, e)) ∙ high_same (job_word j) (omega arith) (omega (arith, lt)))
          orders

      marks : (x : Pending) → Contains s.pending x → (has_mark (word_of c MARKS) (started_bit x.sequence) ≡ (item q starts x).started) × (has_mark (word_of c MARKS) (cancelled_bit x.sequence) ≡ (item q starts x).cancelled)
      marks x also = marks_agree (is_of q x) refl
        where
          small : q < 8
          small = (h.sound.entries p (all_pending (view s) p there)).number

          cancelled : has_mark (word_of c MARKS) (cancelled_bit x.sequence) ≡ x.cancelled
          cancelled = ap (λ n. has_mark n (cancelled_bit x.sequence)) r.along.marks ∙ marked_other (word_of chip MARKS) (q % 8) (8 + x.sequence % 8) (λ e. omega (arith, e, small)) ∙ (was.pending x also).cancelled

          marks_agree : (b : Bool) → is_of q x ≡ b → (has_mark (word_of c MARKS) (started_bit x.sequence) ≡ (if b then starts x else x).started) × (has_mark (word_of c MARKS) (cancelled_bit x.sequence) ≡ (if b then starts x else x).cancelled)
          marks_agree true e = (ap (λ n. has_mark (word_of c MARKS) (started_bit n)) (is_number x.sequence q e) ∙ ap (λ n. has_mark n (started_bit q)) r.along.marks ∙ marked_same (word_of chip MARKS) (q % 8), cancelled)
          marks_agree false e =
              let number : x.sequence < 8 = (h.sound.entries x (all_pending (view s) x also)).number in (
                ap (λ n. has_mark n (started_bit x.sequence)) r.along.marks ∙ marked_other (word_of chip MARKS) (q % 8) (x.sequence % 8) (λ f. let g = sym e ∙ ap (λ n. n == q) (let same : x.sequence ≡ q = omega (arith, f, small, number) in same) ∙ same_number q in cc) ∙ (was.pending x also).started,
                cancelled,
              )

      sequences_now : SequencesAgree d (word_of c) (view after)
      sequences_now = sequences_after q starts d (starts_keep q) half_view (aside_pending d (view s) h.sound p there) middle (word_of c) (λ j low high ne. sym (middle_other j ne)) half_words marks (λ n i lt. job_small d fits n i lt)

      -- ---- what the units run, and the banks

      runs_agree : (n : ℕ) → n < 2 → RunAgrees d (word_of c) n (going_now n)
      runs_agree n lt = begun_runs begins (word_of c) quiet (λ i b k at known external. r.along.holds i b k at known external refl) r.running r.position n lt

      banks_agree : (b : ℕ) (k : Channel) → channel_of d b ≡ Some k → k.internal ≡ true → BanksAgree d below going_now (word_of c) (view after) b k
      banks_agree b k known internal =
          banks_view d below going_now (word_of c) (view s) (view after) b k refl refl (λ side. refl)
          (banks_held d held below going_now (word_of c) (view s) b k (holds_back d below held (holds_debt d (debt_of u owner acted) u below refl)) (banks_now begins (word_of c) quiet r.along.sends b k known internal))

      -- ---- what is owed

      owed_now : AreOwed d below going_now after
      owed_now n x lt none also for_x = cases (same_or_other n u)
          (λ e. let f : None ≡ Some going = sym none ∙ ap going_now e ∙ going_here in absurd (cc))
          (λ ne. elsewhere ne (back ne (contains_back (item q starts) s.pending x also)))
        where
          elsewhere : n ≢ u → is_owed n held ≡ true → is_owed n below ≡ true
          elsewhere ne e = ap (λ b. b || is_owed n below) (sym (other_number u n (λ f. ne (sym f)))) ∙ e

          back : n ≢ u → (z : Pending) × Contains s.pending z × (x ≡ item q starts z) → is_owed n held ≡ true
          back ne (z, is, same) = h.owed n z lt (sym (going_else n ne) ∙ none) is (sym (item_for q starts d (starts_keep q) n z) ∙ sym (ap (is_for d n) same) ∙ for_x)

      -- ---- all of it

      pub ran_agrees : IsTurned d chip s u p → SpiRepresents d below c w after
      ran_agrees t = record {
        right = h.right.1;
        outside = stands_owed (λ j. true) later c w (record { rest = r.along.rest; whole = r.along.whole; others = λ j e. absurd (cc) }) (stands-move chip w (Write (SerialData u) word) received h.outside);
        wired = λ b lt. ap (λ x. slice_index x.wiring.sources b) r.along.rest ∙ h.wired b lt;
        size = ap (λ x. length x.serials.units) r.along.rest ∙ length-set chip.serials.units u _ ∙ h.size;
        sound = ran_sound;
        going = going_now;
        nexts = nexts_now;
        units = λ n lt async. subst (λ x. UnitAgrees d (unit_at x.serials n) (run_at after n) (going_now n)) (sym r.along.rest) (units_now t n lt async);
        sends = λ n lt sync. subst (λ x. CarriesAgrees d (unit_at x.serials n) (run_carried (carried_at after n)) (going_now n)) (sym r.along.rest) (carried_now t n lt sync);
        sending = sends_as d chip c w w h.going going_now s after (λ n g lt sync is. going_else n (other_one t n sync)) (λ n g lt sync is. ap (λ x. (unit_at x.serials n).select) r.along.rest ∙ select_now t n sync)
            (λ n g m x k lt sync is at known. held_else begins (word_of c) quiet n g m x k lt is at known) (λ n o knows. knows) below h.sending.1;
        carriers = h.carriers;
        words = record {
          state = low_same STATE (omega arith) (λ e. omega (arith, e)) ∙ h.words.state;
          on = λ still. record { sequences = sequences_now; runs = runs_agree };
          banks = banks_agree;
          stored = λ j v is. absurd (none_in (j, v) (subst (λ xs. Contains xs (j, v)) (none_stored d s.mode s.channels below on h.right.1) is));
        };
        set_ups = λ still b k known external. r.along.quiet (set_up_word (placed_of d b)) (quiet_set_up d fits u few (next_job d p) job.0 job.1 b k known) ∙ h.set_ups on b k known external;
        sizes = λ still. h.sizes on;
        arrays = λ b. record {
          source = λ i lt. r.along.quiet (place_of (Source b) i) (quiet_users d fits u few (next_job d p) job.0 job.1 (place_of (Source b) i) (omega arith)) ∙ (h.arrays b).source i lt;
          destination = λ i lt. r.along.quiet (place_of (Destination b) i) (quiet_users d fits u few (next_job d p) job.0 job.1 (place_of (Destination b) i) (omega arith)) ∙ (h.arrays b).destination i lt;
        };
        lines = λ n lt. ap (λ x. has_bit x.control.enabled (26 + n)) r.along.rest ∙ h.lines n lt;
        owed = owed_now;
      }
