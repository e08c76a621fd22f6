-- The first job of a sequence begins for a call that waits: what its window owes, and the agreement after it.
-- From spi_sequences: words.JobPlaces, spi_sequences: words.SameWords, spi_sequences: words.WordsOfModule and 18 more.
-- Used by services.WindowsRight.
use Rattle.std.proofs.Common.{◌≡◌, ◌≢◌, ◌+◌, ◌%◌, ◌^◌, ◌<◌, ◌≤◌, ◌==◌, [], ◌∷◌, ◌++◌, ◌∙◌, ◌⊎◌, if◌then◌else◌}
use Rattle.spi_laws.specs.sending.Terms
use Terms.{all_get, all_of, AnswerName, any_in, ap, arith, as_begun, as_requested, at_contained, banks_view}
use Terms.{banks_words, begins_whole, begun, Bool, Called, carried_at, CarriesAgrees, Carrying, Channel}
use Terms.{channel_at_place, channel_of, channels_of, Chip, chip_after, Contains-get_or, Destination, entries_of}
use Terms.{entry_carried, external_part, false, first_place, FitsSpi, fresh_history, get_or_default, Going}
use Terms.{going_next, going_words, held_word, inl, inr, internal_part, InTransfer, is_left, is_number, is_off}
use Terms.{is_on_unit, is_sync_unit, IsSoundState, item-other, item-same, job_at_place, job_code, job_of, job_place}
use Terms.{job_result, job_small, job_unit, job_word, job_words, jobs_of, jobs_once, JobWord, KnowsEnd, length}
use Terms.{length-map, length-set, List, list_any, map, map_at, map_get, MARKS, may_store, Memory, min, next_in}
use Terms.{next_other, next_same, NEXTS, None, of_banks, of_held, of_set_up, on_wire, one_owed, one_place, Option}
use Terms.{order_stays, own_first, past_the_first, PENDING, Pending, place_of, placed_of, Position, position_word}
use Terms.{refl, Reservations, results-other, results-own, Run, run_at, run_carried, run_of, RunAgrees, running_word}
use Terms.{same_number, same_or_other, Sends, sends_as, SendsRight, sequence_word, SequencesAgree, SerialData}
use Terms.{set_up_word, slice_index_or, Some, some_words, Source, source_word, spi_owing, SpiJobOk, SpiJobPending}
use Terms.{SpiJobQueued, SpiRepresents, SpiSeqOk, SpiSeqPending, SpiState, SpiTable, stands-move, StandsIn, STATE}
use Terms.{Store, stored_other, stored_same, subst, sym, sync_prepares, Transfer, true, unit_at, unit_few, unit_other}
use Terms.{unit_same, UnitAgrees, view, wire_at, with_item, with_next_in, word_of, words_are, World, Write, ℕ}
use Rattle.spi_laws.specs.sending.Sending.{device_at, first_of, IsSender}
use Rattle.spi_laws.specs.sending.laws.bookkeeping.CarriedState as carried_state
use Rattle.spi_laws.specs.sending.laws.{bookkeeping.CarriedState.{MayTake, Takes, TakesWords}, bookkeeping.HeldWord.{async_other, sending_of}}
use Rattle.spi_laws.specs.sending.laws.services.SendFirst as first_laws
use Rattle.spi_laws.specs.sending.laws.services.SendFree as free_laws
use Rattle.spi_laws.specs.sending.laws.services.SendReady.{prepares_left}
use Rattle.spi_laws.specs.sending.laws.{services.SendAround.{body}, services.SendBegun.{IsOpen, opened_owes}}
use Rattle.spi_laws.specs.sending.laws.{services.SendWindows.{asks, WordBegins}}
use Rattle.spi_laws.specs.starting.laws.ToBegin.{begun_going, ToBegin}
use Rattle.chip_blocks.specs.units.Serials as serials
use Rattle.spi_machine.specs.Transfers as transfers
use Rattle.spi_sequences.specs.Refinement.{IsLast as IsLastResult}
use Rattle.spi_sequences.specs.declared.service.sync.SyncPlace.TheVariants as place

module _ (d : SpiTable) (fits : FitsSpi d) (below : Reservations) (chip : Chip) (w : World) (s : SpiState) (h : SpiRepresents d below chip w s) (q u : ℕ) (at : Position) (bs : List ℕ) (is : IsSender d d q u bs below (Called (asks q)) fresh_history)
    (free : carried_at s u ≡ None) (on : is_off s.mode ≡ false) (x y : ℕ) (sent : x ≡ (first_of d s (job_at_place d q 0)).sent) (select : (unit_at chip.serials u).select ≡ device_at d q 0) (width : (unit_at chip.serials u).width ≡ (first_of d s (job_at_place d q 0)).width) where
  few : u < 2
  few = subst (λ i. i < 2) (sym is.unit) (unit_few d fits q)

  sync : is_sync_unit d u ≡ true
  sync = ap (is_sync_unit d) is.unit ∙ is.sync

  abbrev jobs : List ℕ
  jobs = jobs_of d q

  abbrev p : Pending
  p = as_requested d s q

  abbrev first_job : ℕ
  first_job = slice_index_or jobs 0 0

  abbrev word : JobWord
  word = first_of d s first_job

  abbrev transfer : Transfer
  transfer = transfers.begins w.now y word

  abbrev run : Run
  run = begun w.now y q (job_words d s first_job) []

  abbrev carrying : Carrying
  carrying = record { entry = p; run = run }

  abbrev queued : List AnswerName
  queued = all_get SpiJobQueued jobs s.job_results

  abbrev job_results : List AnswerName
  job_results = with_item SpiJobOk queued first_job SpiJobPending

  abbrev sequence_results : List AnswerName
  sequence_results = with_item SpiSeqOk s.sequence_results q SpiSeqPending

  -- the machine's state then
  abbrev pub state1 : SpiState
  state1 = record s { sequence_results = sequence_results; job_results = job_results; carried = with_item None s.carried u (Some carrying); wires = with_item [] s.wires u (wire_at s u ++ on_wire y (transfers.word_of run) ∷ []) }

  abbrev pub chip1 : Chip
  chip1 = chip_after chip (Write (SerialData u) x) y

  abbrev pub base : Chip
  base = chip_after chip1 (Store (sequence_word q) PENDING) 0

  some : 0 < length jobs
  some = free_laws.some_jobs d fits below chip w s h q u 0 at bs is refl on y (λ i. false)

  is_job : job_at_place d q 0 ≡ first_job
  is_job = job_place d fits q 0 some

  number : q < 8
  number = is.small

  -- ---- the state is sound

  begun_none : (view s).begun u ≡ None
  begun_none = ap entry_carried free

  may : MayTake d (view s) u q
  may = record { few = few; sync = sync; unit = sym is.unit; same = λ z e. absurd (let f = sym begun_none ∙ e in cc) }

  abbrev is_own : ℕ → Bool
  is_own j = list_any (λ k. k == j) jobs

  own_at : (i : ℕ) → i < length jobs → is_own (slice_index_or jobs i 0) ≡ true
  own_at i lt = any_in (λ k. k == slice_index_or jobs i 0) jobs (slice_index_or jobs i 0) (Contains-get_or jobs i 0 lt) (same_number (slice_index_or jobs i 0))

  none_left : (i : ℕ) → i < length jobs → list_any (is_left d (slice_index_or jobs i 0)) (all_of (view s)) ≡ false
  none_left i lt = carried_state.none_left_own d fits (view s) h.sound u q may (slice_index_or jobs i 0) (own_at i lt) (λ z e. absurd (let f = sym begun_none ∙ e in cc))

  had_count : length p.had ≡ length jobs
  had_count = length-map jobs (job_result s.job_results)

  had_is : (i : ℕ) → i < length jobs → slice_index_or p.had i SpiJobOk ≡ job_result s.job_results (slice_index_or jobs i 0)
  had_is i lt = map_at (job_result s.job_results) jobs i lt

  queued_now : (i : ℕ) → i < length jobs → job_result queued (slice_index_or jobs i 0) ≡ SpiJobQueued
  queued_now i lt =
      let there = at_contained jobs i (slice_index_or jobs i 0) lt (get_or_default jobs i (slice_index_or jobs i 0) 0 lt) in
      results-own jobs (map (λ j. SpiJobQueued) jobs) s.job_results i (slice_index_or jobs i 0) SpiJobQueued (jobs_once d fits q) there (map_get (λ j. SpiJobQueued) jobs i (slice_index_or jobs i 0) there)

  ahead : (i : ℕ) → i < length jobs → (b : Bool) → (i == 0) ≡ b → job_result job_results (slice_index_or jobs i 0) ≡ (if b then SpiJobPending else SpiJobQueued)
  ahead i lt true e = ap (λ k. job_result job_results (slice_index_or jobs k 0)) (is_number i 0 e) ∙ item-same SpiJobOk queued first_job SpiJobPending
  ahead i lt false e =
      item-other SpiJobOk queued first_job (slice_index_or jobs i 0) SpiJobPending (λ f. let same = one_place d fits q i 0 lt some f in let g = sym e ∙ ap (λ k. k == 0) same in absurd (cc))
      ∙ queued_now i lt

  takes : Takes d (view s) u p (view state1).begun job_results sequence_results
  takes = record {
    may = may;
    on = on;
    here = ap entry_carried (item-same None s.carried u (Some carrying));
    others = λ n ne. ap entry_carried (item-other None s.carried u n (Some carrying) ne);
    number = number;
    next = some;
    had = had_count;
    last = λ i lt. let less : i < length jobs = subst (λ k. i < k) had_count lt in subst (λ z. IsLastResult z) (sym (had_is i less)) (h.sound.results.last (slice_index_or jobs i 0) (none_left i less));
    cancelled = λ e. absurd (cc);
    ahead = λ i le lt. ahead i lt (i == 0) refl;
    behind = λ i lt less. absurd (omega (arith, lt));
    beside = λ j away. item-other SpiJobOk queued first_job j SpiJobPending (λ e. let f = sym away ∙ ap is_own e ∙ own_at 0 some in cc) ∙ results-other jobs (map (λ i. SpiJobQueued) jobs) s.job_results j away;
    told = item-same SpiSeqOk s.sequence_results q SpiSeqPending;
    untold = λ r ne. item-other SpiSeqOk s.sequence_results q r SpiSeqPending ne;
  }

  sound : IsSoundState d (view state1)
  sound = carried_state.taken_sound d fits (view s) h.sound u p (view state1).begun job_results sequence_results takes

  -- ---- what the chip has then

  base_other : (i : ℕ) → i ≢ sequence_word q → word_of base i ≡ word_of chip i
  base_other i ne = stored_other chip1 (sequence_word q) PENDING 0 i ne

  -- words past the first ones
  base_past : (i : ℕ) → STATE + 64 ≤ i → word_of base i ≡ word_of chip i
  base_past i le = base_other i (λ e. omega (arith, le, e, number))

  outside1 : StandsIn chip1 w
  outside1 = stands-move chip w (Write (SerialData u) x) y h.outside

  unit_here : unit_at base.serials u ≡ serials.begun y chip.serials.time (unit_at chip.serials u)
  unit_here = unit_same chip u (serials.begun y chip.serials.time (unit_at chip.serials u)) h.size few

  unit_else : (n : ℕ) → n ≢ u → unit_at base.serials n ≡ unit_at chip.serials n
  unit_else n ne = unit_other chip u n (serials.begun y chip.serials.time (unit_at chip.serials u)) ne

  going_free : h.going u ≡ None
  going_free = by (h.going u) (subst (λ o. CarriesAgrees d (unit_at chip.serials u) (run_carried o) (h.going u)) free (h.sends u few sync))
    where
      by : (o : Option Going) → CarriesAgrees d (unit_at chip.serials u) None o → o ≡ None
      by None a = refl
      by (Some g) a = absurd (let f = a.1 in cc)

  held_past : (b : ℕ) (k : Channel) → channel_of d b ≡ Some k → word_of base (held_word (placed_of d b)) ≡ word_of chip (held_word (placed_of d b))
  held_past b k known = base_past (held_word (placed_of d b)) (past_the_first d b k (held_word (placed_of d b)) (fits.channels b k known) (of_held d fits b k known))

  source_past : (b i : ℕ) → word_of base (source_word (placed_of d b) i) ≡ word_of chip (source_word (placed_of d b) i)
  source_past b i = base_past (source_word (placed_of d b) i) (omega arith)

  runs : (n : ℕ) → n < 2 → n ≢ u → RunAgrees d (word_of base) n (h.going n)
  runs n lt ne = by (h.going n) refl ((h.words.on on).runs n lt)
    where
      by : (o : Option Going) → h.going n ≡ o → RunAgrees d (word_of chip) n o → RunAgrees d (word_of base) n o
      by None e a = base_other (running_word n) (λ f. omega (arith, f, lt)) ∙ a
      by (Some g) e a = going_words d fits n (word_of chip) (word_of base) g (going_next d fits below chip w s h n g lt e).2 (λ i z k there known outside. held_past z.channel k known) (λ i z k j there known lt. source_past z.channel j) (base_other (running_word n) (λ f. omega (arith, f, lt))) (base_other (position_word n) (λ f. omega (arith, f, lt))) a

  abbrev t : ToBegin
  t = record {
    d = d;
    fits = fits;
    held = below;
    s = state1;
    right = h.right;
    on = on;
    u = u;
    few = few;
    p = p;
    for = subst (λ n. is_on_unit n (job_of d first_job) ≡ true) (sym is.unit) (job_unit d fits q 0 some);
    going = h.going;
    free = going_free;
    theirs = λ n g lt e. (going_next d fits below chip w s h n g lt e).2;
    words = word_of base;
    runs = runs;
    banks = λ b k known internal. banks_view d below h.going (word_of base) (view s) (view state1) b k refl refl (λ r. refl)
        (banks_words d fits below h.going (word_of chip) (word_of base) (view s) b k known (held_past b k known) (λ side j own. base_past j (past_the_first d b k j (fits.channels b k known) (of_banks d fits b k known internal side j own))) (h.words.banks b k known internal));
    some = λ b k known. some_words d fits below chip w s h on b k known;
    written = λ b k known internal. (h.sizes on b k known).written internal;
    inner = λ b k known internal. internal_part d fits below chip w s h on b k known internal;
    outer = λ b k known external m n same holds. external_part d fits below chip w s h on b k known external m first_place n (λ i lt. same i ∙ source_past b i) holds;
  }

  width_is : min (unit_at chip.serials u).width 16 ≡ word.width
  width_is =
      ap (λ n. min n 16) width ∙ (let le = free_laws.first_narrow d fits below chip w s h on q 0 some in omega (arith, le))
      ∙ ap (λ j. (first_of d s j).width) is_job

  word_in : InTransfer (serials.begun y chip.serials.time (unit_at chip.serials u)).word transfer
  word_in = record { start = h.outside.together.serials ∙ h.outside.now; incoming = λ e. ap (λ n. y % 2 ^ n) width_is; failed = refl }

  runs_it : Some carrying ≡ Some (record { entry = p; run = run_of d (begun_going t) transfer })
  runs_it = ap (λ ws. Some (record { entry = p; run = record { sequence = q; words = ws; received = []; transfer = transfer } })) (sym (words_are d state1 (channels_of d first_job)))

  nobody_knows : (n : ℕ) (o : Option Bool) → KnowsEnd w.now (run_carried (carried_at s n)) o → (n ≡ u) ⊎ (n ≢ u) → KnowsEnd w.now (run_carried (carried_at state1 n)) o
  nobody_knows n None e z = tt
  nobody_knows n (Some failed) e (inl f) = absurd (let none = subst (λ c. KnowsEnd w.now (run_carried c) (Some failed)) (ap (carried_at s) f ∙ free) e in let g = none.0 in cc)
  nobody_knows n (Some failed) e (inr ne) = subst (λ c. KnowsEnd w.now (run_carried c) (Some failed)) (sym (item-other None s.carried u n (Some carrying) ne)) e

  same_unit : (n : ℕ) (g : Going) → h.going n ≡ Some g → n ≢ u
  same_unit n g e f = let none : None ≡ Some g = sym going_free ∙ ap h.going (sym f) ∙ e in absurd (cc)

  was : SequencesAgree d (word_of chip) (view s)
  was = (h.words.on on).sequences

  module _ (m : Memory) (same : (i : ℕ) → i < STATE + 64 → i ≢ NEXTS → i ≢ running_word u → i ≢ position_word u → m i ≡ word_of base i) (nexts : m NEXTS ≡ with_next_in (word_of base NEXTS) q 0) where
    high_same : (i : ℕ) → STATE + 24 ≤ i → i < STATE + 64 → m i ≡ word_of base i
    high_same i le lt = same i lt (λ e. omega (arith, le, e)) (λ e. omega (arith, le, e, few)) (λ e. omega (arith, le, e, few))

    job_same : (j : ℕ) → j < 16 → m (job_word j) ≡ word_of chip (job_word j)
    job_same j lt = high_same (job_word j) (omega arith) (omega (arith, lt)) ∙ base_other (job_word j) (λ e. omega (arith, e, lt, number))

    takes_words : TakesWords d (view s) p job_results (word_of chip) m
    takes_words = record {
      told = high_same (sequence_word q) (omega arith) (omega (arith, number)) ∙ stored_same chip1 (sequence_word q) PENDING 0 (omega (arith, number)) outside1.all.words;
      untold = λ r lt ne. high_same (sequence_word r) (omega arith) (omega (arith, lt)) ∙ base_other (sequence_word r) (λ e. ne (omega (arith, e)));
      next = ap (λ v. next_in v q) nexts ∙ next_same 0 (omega arith) (word_of base NEXTS) q;
      nexts = λ r lt ne. ap (λ v. next_in v r) nexts ∙ next_other 0 (omega arith) (word_of base NEXTS) q r (λ e. ne (omega (arith, e, lt, number))) ∙ ap (λ v. next_in v r) (base_other NEXTS (λ e. omega (arith, e)));
      marks = same MARKS (omega arith) (λ e. omega (arith, e)) (λ e. omega (arith, e)) (λ e. omega (arith, e)) ∙ base_other MARKS (λ e. omega (arith, e));
      ahead = λ i le lt. job_same (slice_index_or jobs i 0) (job_small d fits q i lt) ∙ was.jobs (slice_index_or jobs i 0) (job_small d fits q i lt) (none_left i lt) ∙ ap job_code (sym (had_is i lt));
      behind = λ i lt less. absurd (omega (arith, lt));
      beside = λ j lt away. job_same j lt;
      orders = λ n lt. order_stays (word_of chip) m (entries_of d (view s) n) n (λ j low high. same j (omega (arith, high, lt)) (λ e. omega (arith, low, e)) (λ e. omega (arith, low, high, e, few, lt)) (λ e. omega (arith, low, high, e, few, lt))
          ∙ base_other j (λ e. omega (arith, high, e, lt))) (was.orders n lt);
    }

    sequences_now : SequencesAgree d m (view state1)
    sequences_now = carried_state.taken_words d fits (view s) h.sound u p (view state1).begun job_results sequence_results takes (word_of chip) m was takes_words

  opened : IsOpen t base w q 0 bs (device_at d q 0)
  opened = record {
    seen = λ i. refl;
    outside = stands-move chip1 w (Store (sequence_word q) PENDING) 0 outside1;
    wired = h.wired;
    size = length-set chip.serials.units u _ ∙ h.size;
    sound = sound;
    sync = sync;
    sequence = refl;
    next = refl;
    job = sym is_job;
    transfer = transfer;
    carries = item-same None s.carried u (Some carrying) ∙ runs_it;
    word = subst (λ z. InTransfer z.word transfer) (sym unit_here) word_in;
    select = ap (λ z. z.select) unit_here ∙ select;
    others = λ n lt ne. carried_state.taken_nexts d fits (view s) h.sound u p (view state1).begun job_results sequence_results takes n ne (h.going n) (h.nexts n lt);
    units = λ n lt async. subst (λ z. UnitAgrees d z (run_at s n) (h.going n)) (sym (unit_else n (async_other d u n sync async))) (h.units n lt async);
    sends = λ n lt sync ne. subst (λ z. CarriesAgrees d z (run_carried (carried_at state1 n)) (h.going n)) (sym (unit_else n ne)) (subst (λ c. CarriesAgrees d (unit_at chip.serials n) (run_carried c) (h.going n)) (sym (item-other None s.carried u n (Some carrying) ne)) (h.sends n lt sync));
    sending = sends_as d chip base w w h.going h.going s state1 (λ n g lt sync e. refl) (λ n g lt sync e. ap (λ z. z.select) (unit_else n (same_unit n g e))) (λ n g i z k lt sync e there known. held_past z.channel k known) (λ n o knows. nobody_knows n o knows (same_or_other n u)) below h.sending;
    carriers = carried_state.taken_carriers d fits (view s) h.sound u p (view state1).begun job_results sequence_results takes below first_place bs None (device_at d q 0) (λ n z ne e. h.carriers n z e);
    owed = λ n z lt ne none there mine. h.owed n z lt none there mine;
    state = base_other STATE (λ e. omega (arith, e)) ∙ h.words.state;
    sequences = sequences_now;
    set_ups = λ b k known external. base_past (set_up_word (placed_of d b)) (past_the_first d b k (set_up_word (placed_of d b)) (fits.channels b k known) (of_set_up d fits b k known)) ∙ h.set_ups on b k known external;
    sizes = h.sizes on;
    arrays = λ b. record { source = λ i lt. base_past (place_of (Source b) i) (omega arith) ∙ (h.arrays b).source i lt; destination = λ i lt. base_past (place_of (Destination b) i) (omega arith) ∙ (h.arrays b).destination i lt };
    lines = h.lines;
  }

  -- ---- the window

  abbrev Done : Chip → Type 0
  Done c = SpiRepresents d (sending_of u q 0 first_place bs None (device_at d q 0) ∷ below) c w state1

  pub starts_right : WordBegins d (sending_of u q 0 first_place bs None (device_at d q 0) ∷ below) u (asks q) chip chip1 w s (Write (SerialData u) x) y (body d q u 0 at bs place.Pend)
  starts_right = record {
    state = state1;
    begins = as_begun d u (Some p) word;
    is = first_laws.first_is d fits below chip w s h q u 0 at bs is free refl on y;
    sends = subst (λ j. SendsRight chip (Some (as_begun d u (Some p) (first_of d s j))) (Write (SerialData u) x)) is_job (first_laws.first_sends d fits below chip w s h on q u 0 x some p refl refl sent select width);
    owes = one_owed (spi_owing d) Done (Sends (body d q u 0 at bs place.Pend)) chip1 (Some (Sends (body d q u 0 at bs (sync_prepares (body d q u 0 at bs place.Run))))) (may_store d fits (sequence_word q) PENDING (own_first d (sequence_word q) (omega arith) (omega (arith, number)))) tt
        (prepares_left d q u 0 at bs (if begins_whole (channel_at_place d (job_at_place d q 0) 0) then 1 else 0)) (opened_owes t base w q 0 bs (device_at d q 0) opened at);
  }
