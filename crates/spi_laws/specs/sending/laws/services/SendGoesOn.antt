-- A further job of a sequence begins for a call that waits, and the job before has ended: what its window owes, and the
-- agreement after it.
-- From spi_sequences: words.JobPlaces, spi_sequences: words.SameWords, serving.services.FreedUnit and 33 more.
-- Used by services.WindowsRight.
use Rattle.std.proofs.Common.{◌≡◌, ◌≢◌, ◌+◌, ◌-◌, ◌%◌, ◌^◌, ◌<◌, ◌≤◌, ◌==◌, ◌||◌, [], ◌∷◌, ◌++◌, ◌∙◌, ◌⊎◌, if◌then◌else◌}
use Rattle.spi_laws.specs.sending.Terms
use Terms.{after_last, all_carried, all_of, AllSend, AnswerName, any_in, ap, AreCarried, arith, Arrived, as_begun}
use Terms.{as_read, aside_high, At, at_left, banks_held, banks_view, banks_words, begun, Bool, Call, Called}
use Terms.{carried_at, carries_job, CarriesAgrees, Carrying, cases, Channel, channel_of, channel_words, channels_of}
use Terms.{ChannelState, Chip, chip_after, CommitsAfter, Contains, Contains-get_or, Destination, ends_here}
use Terms.{entries_of, entry_carried, external_part, ExternalAgrees, false, few_places, first_place, FitsSpi}
use Terms.{flat_map, fresh_history, goes_to_next, Going, going_here, going_left, going_next, going_other, going_words}
use Terms.{happens, has_bit, held_word, holds_debt, HoldsLike, inl, inr, internal_part, InternalAgrees, InTransfer}
use Terms.{is_for, is_left, is_number, is_of, is_off, is_on_unit, is_sent, IsAside, IsFilled, IsFree}
use Terms.{IsLast, IsSending, IsServed, IsSoundState, IsStored, IsTold, item-other, item-same, job_at_place, job_code}
use Terms.{job_of, job_place, job_result, job_small, job_unit, job_word, jobs_of, JobWord, keep_of, last_is}
use Terms.{last_like, last_stored, LeftAt, length, length-set, List, list_any, MARKS, Memory, min, next_in, next_job}
use Terms.{next_other, next_same, next_small, next_view, NEXTS, no_word, None, not_true, of_banks, of_held, of_set_up}
use Terms.{of_sixteen, on_wire, one_job, one_place, Option, order_left, order_stays, Origin, other_number}
use Terms.{outcome_with, packed, part_at, past_the_first, Pending, place_of, placed_of, Position, position_word, refl}
use Terms.{Reservations, right_like, Run, run_at, run_carried, run_of, RunAgrees, running_word, RunsNext, same_number}
use Terms.{same_or_other, same_Some, Sends, SendsRight, sequence_code, sequence_word, sequences_as, SequencesAgree}
use Terms.{SerialData, set_up_code, set_up_or, set_up_word, SetUpFits, slice_index, slice_index_or, Some, some_words}
use Terms.{sound_as, Source, source_word, spi_owing, SpiJobOk, SpiJobPending, SpiJobQueued, SpiRepresents, SpiState}
use Terms.{SpiTable, stands-move, StandsIn, start_owed, Starts, STATE, Store, stored_other, stored_same, subst, sym}
use Terms.{sync_prepares, tells_nothing, ToServe, Transfer, true, UnderWay, unit_at, unit_named, unit_other, unit_run}
use Terms.{unit_same, UnitAgrees, untouched, upto, View, view, wire_at, with_channels, with_item, with_next_in}
use Terms.{word_at, word_of, words_are, words_of, World, Write, ℕ}
use Rattle.spi_laws.specs.sending.Sending.{device_at, first_of, HasBank, IsSender}
use Rattle.spi_laws.specs.sending.laws.bookkeeping.AsFreed as freed_laws
use Rattle.spi_laws.specs.sending.laws.bookkeeping.CarriedOut as carried_out
use Rattle.spi_laws.specs.sending.laws.bookkeeping.CarriedState as carried_state
use Rattle.spi_laws.specs.sending.laws.{bookkeeping.CarriedState.{MayTake, Takes, TakesWords}}
use Rattle.spi_laws.specs.sending.laws.{bookkeeping.HeldWord.{async_other, like_through, sending_of, sends_alike}}
use Rattle.spi_laws.specs.sending.laws.{bookkeeping.SentBeside.{sends_beside}}
use Rattle.spi_laws.specs.sending.laws.{bookkeeping.WordsLike.{part_like, words_like}, services.SendAround.{body}}
use Rattle.spi_laws.specs.sending.laws.services.SendBegun.{IsOpen, opened_owes}
use Rattle.spi_laws.specs.sending.laws.services.SendFirst as first_laws
use Rattle.spi_laws.specs.sending.laws.services.SendFree as free_laws
use Rattle.spi_laws.specs.sending.laws.services.SendKeeps as keeps_laws
use Rattle.spi_laws.specs.sending.laws.{services.SendWindows.{asks, WordBegins}}
use Rattle.spi_laws.specs.serving.laws.services.FreedUnit as freed_unit
use Rattle.spi_laws.specs.serving.laws.services.JobLeft as left
use Rattle.spi_laws.specs.serving.laws.services.WellEnded.{well_left}
use Rattle.spi_laws.specs.serving.laws.words.NextWords.{jobs_few}
use Rattle.spi_laws.specs.starting.laws.ToBegin.{begun_going, ToBegin}
use Rattle.chip_blocks.specs.units.Serials as serials
use Rattle.spi_machine.specs.Transfers as transfers
use Rattle.spi_sequences.specs.Refinement.{IsLast as IsLastResult}
use Rattle.spi_sequences.specs.declared.service.sync.SyncPlace.TheVariants as place

module _ (d : SpiTable) (fits : FitsSpi d) (below : Reservations) (chip : Chip) (w : World) (s : SpiState) (q u n : ℕ) (at : Position) (bs : List ℕ) (r : Arrived) (is : IsSender d d q u bs below (Called (asks q)) fresh_history)
    (h : SpiRepresents d (sending_of u q (n - 1) r.served.at bs (Some false) (device_at d q n) ∷ below) chip w s) (last : IsLast d (word_of chip) s w.now u r) (good : r.served.failed ≡ false) (some : 0 < n) (lt : n < length (jobs_of d q))
    (same : r.served.at ≡ at) (bank : HasBank (body d q u n at bs place.Run) r.taker) (x y : ℕ) (sent : x ≡ (first_of d s (job_at_place d q n)).sent) (width : (unit_at chip.serials u).width ≡ (first_of d s (job_at_place d q n)).width) where
  abbrev device : ℕ
  device = device_at d q n

  abbrev held : Reservations
  held = sending_of u q (n - 1) r.served.at bs (Some false) device ∷ below

  abbrev says : IsSending d chip w h.going s u q (n - 1) r.served.at bs (Some false) device
  says = h.sending.0

  abbrev few : u < 2
  few = says.few

  on : is_off s.mode ≡ false
  on = h.right.0.1

  abbrev by : IsServed d (word_of chip) s w.now u r.served
  by = keeps_laws.by d fits below chip w s q u n at bs r device h last good same bank x y

  abbrev run : Run
  run = by.done.run

  abbrev under : UnderWay d held chip w s h u run
  under = keeps_laws.under d fits below chip w s q u n at bs r device h last good same bank x y

  abbrev st : ToServe
  st = keeps_laws.st d fits below chip w s q u n at bs r device h last good same bank x y

  abbrev its : Pending
  its = under.job.pending

  runs : unit_run d s u ≡ Some run
  runs = by.done.is

  sequence_is : its.sequence ≡ q
  sequence_is = carried_out.sequence_is d fits below chip w s u q (n - 1) r.served.at bs (Some false) device h run runs under

  next_is : its.next + 1 ≡ n
  next_is = let before = carried_out.next_is d fits below chip w s u q (n - 1) r.served.at bs (Some false) device h run runs under in omega (arith, before, some)

  begun_is : (view s).begun u ≡ Some its
  begun_is = carried_out.begun_is d fits below chip w s u q (n - 1) r.served.at bs (Some false) device h run runs under

  abbrev jobs : List ℕ
  jobs = jobs_of d its.sequence

  all : Contains (all_of (view s)) its
  all = all_carried (view s) u its few begun_is

  more : its.next + 1 < length jobs
  more = subst (λ z. its.next + 1 < length (jobs_of d z)) (sym sequence_is) (subst (λ z. z < length (jobs_of d q)) (sym next_is) lt)

  abbrev p : Pending
  p = goes_to_next its

  abbrev old_job : ℕ
  old_job = next_job d its

  abbrev new_job : ℕ
  new_job = next_job d p

  is_job : new_job ≡ job_at_place d q n
  is_job = ap (λ z. slice_index_or (jobs_of d z) (its.next + 1) 0) sequence_is ∙ ap (λ z. slice_index_or (jobs_of d q) z 0) next_is ∙ sym (job_place d fits q n lt)

  old_is : r.served.run.job ≡ old_job
  old_is = keeps_laws.job_is d fits below chip w s q u n at bs r device h last good same bank x y

  -- ---- the machine's state then

  abbrev cs : List ChannelState
  cs = (after_last s run false).channels

  like : IsFilled cs s
  like = last_like s run false

  abbrev results : List AnswerName
  results = with_item SpiJobOk s.job_results old_job SpiJobOk

  abbrev job_results : List AnswerName
  job_results = with_item SpiJobOk results new_job SpiJobPending

  -- the job's words, as the channels stand
  abbrev words : List JobWord
  words = flat_map (λ c. channel_words c (channel_of d c) (slice_index_or cs c untouched)) (channels_of d new_job)

  abbrev word : JobWord
  word = slice_index_or words 0 no_word

  abbrev transfer : Transfer
  transfer = transfers.begins w.now y word

  abbrev new_run : Run
  new_run = begun w.now y its.sequence words []

  abbrev carrying : Carrying
  carrying = record { entry = p; run = new_run }

  abbrev pub state1 : SpiState
  state1 = record s { channels = cs; job_results = job_results; carried = with_item None s.carried u (Some carrying); wires = with_item [] s.wires u (wire_at s u ++ on_wire y (transfers.word_of new_run) ∷ []) }

  abbrev pub chip1 : Chip
  chip1 = chip_after chip (Write (SerialData u) x) y

  word_is : word ≡ first_of d s (job_at_place d q n)
  word_is = ap (λ ws. slice_index_or ws 0 no_word) (words_like d s cs like new_job) ∙ ap (first_of d s) is_job

  -- ---- the event

  event : happens d w s (Starts (unit_named u) (Some (asks q)) y) ≡ Some (outcome_with state1 tells_nothing (Some (as_begun d u (Some p) word)))
  event =
      first_laws.further_is d fits below chip w s q u n bs r is h last good some lt y
      ∙ ap (λ (z : SpiState). Some (carries_job d w (record z { job_results = results }) u y p)) (last_is s run false)

  word_sends : SendsRight chip (Some (as_begun d u (Some p) word)) (Write (SerialData u) x)
  word_sends = subst (λ z. SendsRight chip (Some (as_begun d u (Some p) z)) (Write (SerialData u) x)) (sym word_is) (first_laws.first_sends d fits held chip w s h on q u n x lt p sequence_is next_is sent says.select width)

  -- ---- the state is sound

  one_entry : (z : Pending) → (view s).begun u ≡ Some z → its ≡ z
  one_entry z e = same_Some its z (sym begun_is ∙ e)

  may : MayTake d (view s) u its.sequence
  may = record { few = few; sync = says.sync; unit = (h.sound.carries.unit u its begun_is).2; same = λ z e. ap (λ (k : Pending). k.sequence) (sym (one_entry z e)) }

  abbrev is_own : ℕ → Bool
  is_own j = list_any (λ k. k == j) jobs

  own_at : (i : ℕ) → i < length jobs → is_own (slice_index_or jobs i 0) ≡ true
  own_at i less = any_in (λ k. k == slice_index_or jobs i 0) jobs (slice_index_or jobs i 0) (Contains-get_or jobs i 0 less) (same_number (slice_index_or jobs i 0))

  apart : (i k : ℕ) → i < length jobs → k < length jobs → i ≢ k → slice_index_or jobs i 0 ≢ slice_index_or jobs k 0
  apart i k less also ne e = ne (one_place d fits its.sequence i k less also e)

  within : its.next < length jobs
  within = omega (arith, more)

  -- the jobs that ran before it none has left
  none_left : (i : ℕ) → i < its.next → i < length jobs → list_any (is_left d (slice_index_or jobs i 0)) (all_of (view s)) ≡ false
  none_left i before less = carried_state.none_left_own d fits (view s) h.sound u its.sequence may (slice_index_or jobs i 0) (own_at i less) (λ z e. subst (λ k. is_left d (slice_index_or jobs i 0) k ≡ false) (one_entry z e) gone)
    where
      gone : is_left d (slice_index_or jobs i 0) its ≡ false
      gone = not_true (is_left d (slice_index_or jobs i 0) its) (λ e. by (at_left jobs its.next (slice_index_or jobs i 0) e))
        where
          by : LeftAt jobs its.next (slice_index_or jobs i 0) → ⊥
          by l = let at_place = one_place d fits its.sequence l.place i l.within less l.is in let from = l.from in omega (arith, at_place, from, before)

  unchanged : (j : ℕ) → j ≢ new_job → j ≢ old_job → job_result job_results j ≡ job_result s.job_results j
  unchanged j a b = item-other SpiJobOk results new_job j SpiJobPending a ∙ item-other SpiJobOk s.job_results old_job j SpiJobOk b

  ahead : (i : ℕ) → its.next + 1 ≤ i → i < length jobs → (b : Bool) → (i == its.next + 1) ≡ b → job_result job_results (slice_index_or jobs i 0) ≡ (if b then SpiJobPending else SpiJobQueued)
  ahead i le less true e = ap (λ k. job_result job_results (slice_index_or jobs k 0)) (is_number i (its.next + 1) e) ∙ item-same SpiJobOk results new_job SpiJobPending
  ahead i le less false e =
      unchanged (slice_index_or jobs i 0) (apart i (its.next + 1) less more (λ f. absurd (let g = sym e ∙ ap (λ k. k == its.next + 1) f ∙ same_number (its.next + 1) in cc))) (apart i its.next less within (λ f. omega (arith, f, le)))
      ∙ h.sound.carries.queued u its i begun_is (omega (arith, le)) less ∙ ap (λ b. if b then SpiJobPending else SpiJobQueued) (other_number i its.next (λ f. omega (arith, f, le)))

  behind : (i : ℕ) → i < its.next + 1 → i < length jobs → (i ≡ its.next) ⊎ (i ≢ its.next) → IsLastResult (job_result job_results (slice_index_or jobs i 0))
  behind i before less (inl e) =
      subst (λ k. IsLastResult (job_result job_results (slice_index_or jobs k 0))) (sym e)
      (subst (λ z. IsLastResult z) (sym (item-other SpiJobOk results new_job old_job SpiJobPending (apart its.next (its.next + 1) within more (λ f. omega (arith, f))) ∙ item-same SpiJobOk s.job_results old_job SpiJobOk)) tt)
  behind i before less (inr ne) =
      subst (λ z. IsLastResult z) (sym (unchanged (slice_index_or jobs i 0) (apart i (its.next + 1) less more (λ f. omega (arith, f, before))) (apart i its.next less within ne)))
      (h.sound.results.last (slice_index_or jobs i 0) (none_left i (omega (arith, before, ne)) less))

  takes : Takes d (view s) u p (view state1).begun job_results s.sequence_results
  takes = record {
    may = may;
    on = on;
    here = ap entry_carried (item-same None s.carried u (Some carrying));
    others = λ m ne. ap entry_carried (item-other None s.carried u m (Some carrying) ne);
    number = (h.sound.entries its all).number;
    next = more;
    had = (h.sound.entries its all).had;
    last = (h.sound.entries its all).last;
    cancelled = (h.sound.entries its all).cancelled;
    ahead = λ i le less. ahead i le less (i == its.next + 1) refl;
    behind = λ i before less. behind i before less (same_or_other i its.next);
    beside = λ j away. unchanged j (λ e. absurd (let f = sym away ∙ ap is_own e ∙ own_at (its.next + 1) more in cc)) (λ e. absurd (let f = sym away ∙ ap is_own e ∙ own_at its.next within in cc));
    told = (h.sound.results.sequences its.sequence (h.sound.entries its all).number).1 (any_in (is_of its.sequence) (all_of (view s)) its all (same_number its.sequence));
    untold = λ k ne. refl;
  }

  abbrev taken : View
  taken = carried_state.taken_view d fits (view s) h.sound u p (view state1).begun job_results s.sequence_results takes

  sound : IsSoundState d (view state1)
  sound = sound_as d taken s.mode (view state1).written (view state1).received (view state1).sources (λ e. absurd (let f = sym on ∙ e in cc)) (λ e m. absurd (let f = sym on ∙ e in cc))
      (carried_state.taken_sound d fits (view s) h.sound u p (view state1).begun job_results s.sequence_results takes)

  -- ---- what the chip has once the job before has its result

  abbrev owner : Origin Call
  owner = Called (asks q)

  abbrev owing : Reservations
  owing = start_owed u owner None ∷ held

  held_alike : HoldsLike d owing below
  held_alike = like_through d held owing below (holds_debt d (start_owed u owner None) u held refl) (like_through d below held below (sends_alike d below u q (n - 1) r.served.at bs (Some false) device) (record { puts = λ sources c k. refl; takes = λ c. refl; prepares = refl; readied = refl; stored = refl }))

  abbrev going : ℕ → Option Going
  going = going_left st

  abbrev result : ℕ
  result = job_word r.served.run.job

  number : its.sequence < 8
  number = (h.sound.entries its all).number

  job_few : r.served.run.job < 16
  job_few = subst (λ j. j < 16) (sym old_is) (next_small d fits held chip w s h its all)

  aside : IsAside result
  aside = aside_high result (omega arith) (omega (arith, job_few))

  was : SequencesAgree d (word_of chip) (view s)
  was = (h.words.on on).sequences

  module _ (b c : Chip) (based : keeps_laws.Based d fits below chip w s q u n at bs r device h last good same bank x y b) (kept : keeps_laws.Kept d fits below chip w s q u n at bs r device h last good same bank x y (upto 4) b c) where
    abbrev base : Chip
    base = chip_after c (Store result 0) 0

    -- the words as if the unit had been freed
    abbrev free : Chip
    free = left.fc d fits held chip w s h u few r last y

    freed : IsFree d w chip u free
    freed = left.freed d fits held chip w s h u few r last y

    abbrev here : At st st.g.at (length st.g.received)
    here = keeps_laws.its d fits below chip w s q u n at bs r device h last good same bank x y

    abbrev whole : length st.g.received + 1 ≡ length (words_of d st.g.parts)
    whole = keeps_laws.whole d fits below chip w s q u n at bs r device h last good same bank x y

    abbrev outside1 : StandsIn chip1 w
    outside1 = keeps_laws.outside1 d fits below chip w s q u n at bs r device h last good same bank x y

    abbrev alike1 : (j : ℕ) → j ≢ running_word u → word_of chip1 j ≡ word_of chip j
    alike1 = keeps_laws.alike1 d fits below chip w s q u n at bs r device h last good same bank x y

    abbrev as_freed : Chip → Chip
    as_freed z = freed_laws.as_freed st here whole run.transfer.incoming free freed chip1 outside1 alike1 z

    freed_same : (z : Chip) (j : ℕ) → j ≢ running_word u → word_of (as_freed z) j ≡ word_of z j
    freed_same z j ne = freed_laws.freed_same st here whole run.transfer.incoming free freed chip1 outside1 alike1 z j ne

    brings : IsStored st run state1
    brings = last_stored st run by.done.done (by.done.failed ∙ good) (ends_here d fits held chip w s h u few r last) state1 (ap (λ k. (after_last s run k).channels) (sym (by.done.failed ∙ good)))

    l : freed_unit.Left st owner None cs like (as_freed c)
    l = well_left st here whole run (ap (λ (z : Run). z.words) under.runs) (ap (λ (z : Run). z.received) under.runs) state1 brings free freed (as_freed b)
        (freed_laws.freed_base st here whole run.transfer.incoming free freed chip1 outside1 alike1 b based) (as_freed c)
        (freed_laws.freed_kept st here whole run.transfer.incoming free freed chip1 outside1 alike1 b c based.sized kept) owner None like

    -- and with the job's result told there too
    abbrev told : Chip
    told = chip_after (as_freed c) (Store result 0) 0

    told_so : IsTold w (as_freed c) told
    told_so = record {
      outside = stands-move (as_freed c) w (Store result 0) 0 l.outside;
      rest = refl;
      above = λ j le. stored_other (as_freed c) result 0 0 j (λ e. omega (arith, e, le, job_few));
      state = stored_other (as_freed c) result 0 0 STATE (λ e. omega (arith, e));
      runs = λ m less. (stored_other (as_freed c) result 0 0 (running_word m) (λ e. omega (arith, e, less)), stored_other (as_freed c) result 0 0 (position_word m) (λ e. omega (arith, e, less)));
    }

    base_other : (j : ℕ) → j ≢ result → word_of base j ≡ word_of c j
    base_other j ne = stored_other c result 0 0 j ne

    -- the base has the words of the freed one, but for the unit's
    base_freed : (j : ℕ) → j ≢ running_word u → j ≢ result → word_of base j ≡ word_of (as_freed c) j
    base_freed j ne other = base_other j other ∙ sym (freed_same c j ne)

    base_told : (j : ℕ) → j ≢ running_word u → word_of base j ≡ word_of told j
    base_told j ne = cases (same_or_other j result)
        (λ e. subst (λ k. word_of base k ≡ word_of told k) (sym e) (stored_same c result 0 0 (omega (arith, job_few)) kept.outside.all.words ∙ sym (stored_same (as_freed c) result 0 0 (omega (arith, job_few)) l.outside.all.words)))
        (λ other. base_freed j ne other ∙ sym (stored_other (as_freed c) result 0 0 j other))

    base_past : (j : ℕ) → STATE + 64 ≤ j → word_of base j ≡ word_of (as_freed c) j
    base_past j le = base_freed j (λ e. omega (arith, e, le, few)) (λ e. omega (arith, e, le, job_few))

    base_first : (j : ℕ) → STATE ≤ j → j < STATE + 64 → j ≢ running_word u → j ≢ result → word_of base j ≡ word_of chip j
    base_first j low high ne other = base_freed j ne other ∙ l.first j low high ne

    held_word_past : (m : ℕ) (k : Channel) → channel_of d m ≡ Some k → word_of base (held_word (placed_of d m)) ≡ word_of (as_freed c) (held_word (placed_of d m))
    held_word_past m k known = base_past (held_word (placed_of d m)) (past_the_first d m k (held_word (placed_of d m)) (fits.channels m k known) (of_held d fits m k known))

    chip_rest : base ≡ record chip1 { words = base.words }
    chip_rest = ap (λ (z : Chip). record z { words = base.words }) (kept.rest ∙ ap (λ (z : Chip). record z { words = c.words }) based.rest)

    unit_here : unit_at base.serials u ≡ serials.begun y chip.serials.time (unit_at chip.serials u)
    unit_here = ap (λ z. unit_at z.serials u) chip_rest ∙ unit_same chip u (serials.begun y chip.serials.time (unit_at chip.serials u)) h.size few

    unit_else : (m : ℕ) → m ≢ u → unit_at base.serials m ≡ unit_at chip.serials m
    unit_else m ne = ap (λ z. unit_at z.serials m) chip_rest ∙ unit_other chip u m (serials.begun y chip.serials.time (unit_at chip.serials u)) ne

    going_else : (m : ℕ) → m ≢ u → going m ≡ h.going m
    going_else m ne = going_other h.going u None m ne

    runs_base : (m : ℕ) → m < 2 → m ≢ u → RunAgrees d (word_of base) m (going m)
    runs_base m less ne = subst (λ o. RunAgrees d (word_of base) m o) (sym (going_else m ne)) (agrees_base (h.going m) refl ((h.words.on on).runs m less))
      where
        agrees_base : (o : Option Going) → h.going m ≡ o → RunAgrees d (word_of chip) m o → RunAgrees d (word_of base) m o
        agrees_base None e a = base_told (running_word m) (λ f. ne (omega (arith, f))) ∙ freed_unit.run_other st owner None cs like (as_freed c) told l told_so m less ne None e a
        agrees_base (Some k) e a = going_words d fits m (word_of told) (word_of base) k (going_next d fits held chip w s h m k less e).2
            (λ i z y there known outside. base_told (held_word (placed_of d z.channel)) (λ f. let le = past_the_first d z.channel y (held_word (placed_of d z.channel)) (fits.channels z.channel y known) (of_held d fits z.channel y known) in omega (arith, le, f, few)))
            (λ i z j m1 there known less1. base_told (source_word (placed_of d z.channel) m1) (λ f. omega (arith, f, few)))
            (base_told (running_word m) (λ f. ne (omega (arith, f)))) (base_told (position_word m) (λ f. omega (arith, f, few, less))) (freed_unit.run_other st owner None cs like (as_freed c) told l told_so m less ne (Some k) e a)

    source_past : (m i : ℕ) → m < 16 → i < 64 → word_of base (place_of (Source m) i) ≡ word_of chip (place_of (Source m) i)
    source_past m i small less = base_past (place_of (Source m) i) (omega arith) ∙ l.sources m i small less

    -- ---- the job that begins

    -- what is sent of a channel is as it was
    sent_same : (m : ℕ) → part_at d state1 m ≡ part_at d s m
    sent_same m = part_like d s cs like m

    theirs : (m : ℕ) (k : Going) → m < 2 → going m ≡ Some k → (m ≡ u) ⊎ (m ≢ u) → is_for d m k.pending ≡ true
    theirs m k less e (inl f) = absurd (let none : None ≡ Some k = sym (going_here h.going u None) ∙ ap going (sym f) ∙ e in cc)
    theirs m k less e (inr ne) = (going_next d fits held chip w s h m k less (sym (going_else m ne) ∙ e)).2

    abbrev t : ToBegin
    t = record {
      d = d;
      fits = fits;
      held = below;
      s = state1;
      right = right_like d s cs like.source below h.right.1;
      on = on;
      u = u;
      few = few;
      p = p;
      for = subst (λ k. is_on_unit k (job_of d new_job) ≡ true) may.unit (job_unit d fits its.sequence (its.next + 1) more);
      going = going;
      free = going_here h.going u None;
      theirs = λ m k less e. theirs m k less e (same_or_other m u);
      words = word_of base;
      runs = runs_base;
      banks = λ m k known internal. banks_view d below going (word_of base) (view (with_channels s cs)) (view state1) m k refl refl (λ z. refl)
          (banks_held d owing below going (word_of base) (view (with_channels s cs)) m k held_alike
          (banks_words d fits owing going (word_of (as_freed c)) (word_of base) (view (with_channels s cs)) m k known (held_word_past m k known) (λ side j own. base_past j (past_the_first d m k j (fits.channels m k known) (of_banks d fits m k known internal side j own))) (l.banks m k known internal)));
      some = λ m k known. subst (λ z. 0 < length z.values) (sym (sent_same m)) (some_words d fits held chip w s h on m k known);
      written = λ m k known internal. ap length (like.written m) ∙ (h.sizes on m k known).written internal;
      inner = λ m k known internal. subst (λ z. InternalAgrees (placed_of d m).channel z) (sym (sent_same m)) (internal_part d fits held chip w s h on m k known internal);
      outer = λ m k known external m1 i same1 holds. subst (λ z. ExternalAgrees m1 (placed_of d m) first_place i z) (sym (sent_same m))
          (external_part d fits held chip w s h on m k known external m1 first_place i (λ j less. same1 j ∙ source_past m j (of_sixteen d m k fits known) (let most = (fits.channels m k known).few in omega (arith, less, most))) (holds ∙ ap (λ o. packed (as_read (set_up_or k o))) (like.set_up m)));
    }

    width_is : min (unit_at chip.serials u).width 16 ≡ word.width
    width_is = ap (λ k. min k 16) width ∙ (let le = free_laws.first_narrow d fits held chip w s h on q n lt in omega (arith, le)) ∙ ap (λ (z : JobWord). z.width) (sym word_is)

    word_in : InTransfer (serials.begun y chip.serials.time (unit_at chip.serials u)).word transfer
    word_in = record { start = h.outside.together.serials ∙ h.outside.now; incoming = λ e. ap (λ k. y % 2 ^ k) width_is; failed = refl }

    runs_it : Some carrying ≡ Some (record { entry = p; run = run_of d (begun_going t) transfer })
    runs_it = ap (λ ws. Some (record { entry = p; run = record { sequence = its.sequence; words = ws; received = []; transfer = transfer } })) (sym (words_are d state1 (channels_of d new_job)))

    module _ (m : Memory) (same1 : (i : ℕ) → i < STATE + 64 → i ≢ NEXTS → i ≢ running_word u → i ≢ position_word u → m i ≡ word_of base i) (nexts : m NEXTS ≡ with_next_in (word_of base NEXTS) q n) where
      first_same : (i : ℕ) → STATE ≤ i → i < STATE + 64 → i ≢ NEXTS → i ≢ running_word u → i ≢ position_word u → i ≢ result → m i ≡ word_of chip i
      first_same i low high a e f ne = same1 i high a e f ∙ base_first i low high e ne

      high_same : (i : ℕ) → STATE + 24 ≤ i → i < STATE + 64 → i ≢ result → m i ≡ word_of chip i
      high_same i le high ne = first_same i (omega (arith, le)) high (λ e. omega (arith, le, e)) (λ e. omega (arith, le, e, few)) (λ e. omega (arith, le, e, few)) ne

      job_same : (j : ℕ) → j < 16 → j ≢ old_job → m (job_word j) ≡ word_of chip (job_word j)
      job_same j less ne = high_same (job_word j) (omega arith) (omega (arith, less)) (λ e. ne (omega (arith, e, old_is)))

      n_few : n < 16
      n_few = let most = jobs_few d fits q in omega (arith, lt, most)

      nexts_old : word_of base NEXTS ≡ word_of chip NEXTS
      nexts_old = base_first NEXTS (omega arith) (omega arith) (λ e. omega (arith, e)) (λ e. omega (arith, e))

      told_zero : m (job_word old_job) ≡ 0
      told_zero =
          ap (λ j. m (job_word j)) (sym old_is) ∙ same1 result (omega (arith, job_few)) (λ e. omega (arith, e)) (λ e. omega (arith, e, few)) (λ e. omega (arith, e, few))
          ∙ stored_same c result 0 0 (omega (arith, job_few)) kept.outside.all.words

      takes_words : TakesWords d (view s) p job_results (word_of chip) m
      takes_words = record {
        told = high_same (sequence_word its.sequence) (omega arith) (omega (arith, number)) (λ e. omega (arith, e, number, job_few)) ∙ was.sequences its.sequence number ∙ ap sequence_code takes.told;
        untold = λ k less ne. high_same (sequence_word k) (omega arith) (omega (arith, less)) (λ e. omega (arith, e, less, job_few));
        next = ap (next_in (m NEXTS)) sequence_is ∙ ap (λ v. next_in v q) nexts ∙ next_same n n_few (word_of base NEXTS) q ∙ sym next_is;
        nexts = λ k less ne. ap (λ v. next_in v k) nexts ∙ next_other n n_few (word_of base NEXTS) q k (λ e. ne (omega (arith, e, less, number, sequence_is))) ∙ ap (λ v. next_in v k) nexts_old;
        marks = first_same MARKS (omega arith) (omega arith) (λ e. omega (arith, e)) (λ e. omega (arith, e)) (λ e. omega (arith, e)) (λ e. omega (arith, e));
        ahead = λ i le less. job_same (slice_index_or jobs i 0) (job_small d fits its.sequence i less) (apart i its.next less within (λ f. omega (arith, f, le))) ∙ was.had its i all (omega (arith, le)) less;
        behind = λ i before less. by_place i before less (same_or_other i its.next);
        beside = λ j less away. job_same j less (λ e. absurd (let f = sym away ∙ ap is_own e ∙ own_at its.next within in cc));
        orders = λ k less. order_stays (word_of (as_freed c)) m (entries_of d (view s) k) k (λ j low high. same1 j (omega (arith, high, less)) (λ e. omega (arith, low, e)) (λ e. omega (arith, low, high, e, few, less)) (λ e. omega (arith, low, high, e, few, less))
            ∙ base_freed j (λ e. omega (arith, low, high, e, few, less)) (λ e. omega (arith, high, e, less))) (order_left st owner None cs like (as_freed c) l k less);
      }
        where
          by_place : (i : ℕ) → i < its.next + 1 → i < length jobs → (i ≡ its.next) ⊎ (i ≢ its.next) → m (job_word (slice_index_or jobs i 0)) ≡ job_code (job_result job_results (slice_index_or jobs i 0))
          by_place i before less (inl e) =
              subst (λ k. m (job_word (slice_index_or jobs k 0)) ≡ job_code (job_result job_results (slice_index_or jobs k 0))) (sym e)
              (told_zero ∙ ap job_code (sym (item-other SpiJobOk results new_job old_job SpiJobPending (apart its.next (its.next + 1) within more (λ f. omega (arith, f))) ∙ item-same SpiJobOk s.job_results old_job SpiJobOk)))
          by_place i before less (inr ne) =
              job_same (slice_index_or jobs i 0) (job_small d fits its.sequence i less) (apart i its.next less within ne)
              ∙ was.jobs (slice_index_or jobs i 0) (job_small d fits its.sequence i less) (none_left i (omega (arith, before, ne)) less)
              ∙ ap job_code (sym (unchanged (slice_index_or jobs i 0) (apart i (its.next + 1) less more (λ f. omega (arith, f, before))) (apart i its.next less within ne)))

      sequences_now : SequencesAgree d m (view state1)
      sequences_now = sequences_as d taken s.mode (view state1).written (view state1).received (view state1).sources m
          (carried_state.taken_words d fits (view s) h.sound u p (view state1).begun job_results s.sequence_results takes (word_of chip) m was takes_words)

    sending_now : AllSend d base w going state1 below
    sending_now = sends_beside d q u says.job chip base w h.going going s state1 says.is says.sequence (λ m ne. going_else m ne) (λ m ne. ap (λ z. z.select) (unit_else m ne))
        (λ m k j z kk ne less e there known. held_word_past z.channel kk known
        ∙ l.held_away z.channel kk known (λ j1 y1 there1 same2. ne (one_job d fits held chip w s h under.on u m under.job k few less under.is e j1 j y1 z there1 there (sym same2)))) (λ m ne. item-other None s.carried u m (Some carrying) ne) below is.alone h.sending.1

    carriers_now : AreCarried (view state1) (sending_of u q n first_place bs None device ∷ below)
    carriers_now = subst (λ k. AreCarried (view state1) (sending_of u k n first_place bs None device ∷ below)) sequence_is
        (carried_state.taken_carriers d fits (view s) h.sound u p (view state1).begun job_results s.sequence_results takes below first_place bs None device (λ m z ne e. other m z ne e))
      where
        other : (m : ℕ) (z : Pending) → m ≢ u → (view s).begun m ≡ Some z → list_any (λ k. is_sent z.sequence k.what) below ≡ true
        other m z ne e =
            sym (ap (λ k. k || list_any (λ a. is_sent z.sequence a.what) below) (other_number q z.sequence (λ f. carried_state.begun_other d fits (view s) h.sound u its.sequence may m z ne e (sym f ∙ sym sequence_is))))
            ∙ h.carriers m z e

    opened : IsOpen t base w q n bs device
    opened = record {
      seen = λ i. refl;
      outside = stands-move c w (Store result 0) 0 kept.outside;
      wired = λ m less. ap (λ z. slice_index z.wiring.sources m) chip_rest ∙ h.wired m less;
      size = ap (λ z. length z.serials.units) chip_rest ∙ length-set chip.serials.units u _ ∙ h.size;
      sound = sound;
      sync = says.sync;
      sequence = sequence_is;
      next = next_is;
      job = is_job;
      transfer = transfer;
      carries = item-same None s.carried u (Some carrying) ∙ runs_it;
      word = subst (λ z. InTransfer z.word transfer) (sym unit_here) word_in;
      select = ap (λ z. z.select) unit_here ∙ says.select;
      others = λ m less ne. subst (λ o. RunsNext d (view state1) m o) (sym (going_else m ne)) (next_view d taken (view state1) m (h.going m) refl refl (carried_state.taken_nexts d fits (view s) h.sound u p (view state1).begun job_results s.sequence_results takes m ne (h.going m) (h.nexts m less)));
      units = λ m less async. subst (λ o. UnitAgrees d (unit_at base.serials m) (run_at s m) o) (sym (going_else m (async_other d u m says.sync async))) (subst (λ z. UnitAgrees d z (run_at s m) (h.going m)) (sym (unit_else m (async_other d u m says.sync async))) (h.units m less async));
      sends = λ m less sync ne. subst (λ o. CarriesAgrees d (unit_at base.serials m) (run_carried (carried_at state1 m)) o) (sym (going_else m ne))
          (subst (λ z. CarriesAgrees d z (run_carried (carried_at state1 m)) (h.going m)) (sym (unit_else m ne)) (subst (λ k. CarriesAgrees d (unit_at chip.serials m) (run_carried k) (h.going m)) (sym (item-other None s.carried u m (Some carrying) ne)) (h.sends m less sync)));
      sending = sending_now;
      carriers = carriers_now;
      owed = λ m z less ne none there mine. h.owed m z less (sym (going_else m ne) ∙ none) there mine;
      state = base_first STATE (omega arith) (omega arith) (λ e. omega (arith, e)) (λ e. omega (arith, e)) ∙ h.words.state;
      sequences = sequences_now;
      set_ups = λ m k known external. base_past (set_up_word (placed_of d m)) (past_the_first d m k (set_up_word (placed_of d m)) (fits.channels m k known) (of_set_up d fits m k known)) ∙ l.set_ups m k known ∙ h.set_ups on m k known external ∙ ap set_up_code (sym (like.set_up m));
      sizes = λ m k known. record { written = λ i. ap length (like.written m) ∙ (h.sizes on m k known).written i; set_up = λ i. subst (λ o. SetUpFits k o) (sym (like.set_up m)) ((h.sizes on m k known).set_up i) };
      arrays = λ m. record {
        source = λ i less. source_past m i (few_places d fits m i less).0 (few_places d fits m i less).1 ∙ (h.arrays m).source i less ∙ ap (λ xs. word_at xs i) (sym (like.source m));
        destination = λ i less. base_past (place_of (Destination m) i) (omega arith) ∙ l.destinations m i less;
      };
      lines = λ m less. ap (λ z. has_bit z.control.enabled (26 + m)) chip_rest ∙ h.lines m less;
    }

    pub opened_so : CommitsAfter (spi_owing d) (Some (Sends (body d q u n at bs (sync_prepares (body d q u n at bs place.Run))))) base (λ z. SpiRepresents d (sending_of u q n first_place bs None device ∷ below) z w state1)
    opened_so = opened_owes t base w q n bs device opened at

  -- ---- the window

  abbrev Done : Chip → Type 0
  Done z = SpiRepresents d (sending_of u q n first_place bs None device ∷ below) z w state1

  pub goes_on_right : WordBegins d (sending_of u q n first_place bs None device ∷ below) u (asks q) chip chip1 w s (Write (SerialData u) x) y (body d q u n at bs (place.Keep r.served (keep_of d r)))
  goes_on_right = record {
    state = state1;
    begins = as_begun d u (Some p) word;
    is = event;
    sends = word_sends;
    owes = keeps_laws.keeps_owed d fits below chip w s q u n at bs r device h last good same bank x y Done (λ b c based kept. opened_so b c based kept);
  }
