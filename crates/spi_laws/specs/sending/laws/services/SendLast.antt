-- The sequence ends, with its last word or with one that failed: the event, and the moves that the last window owes after it.
-- more.
-- From spi_sequences: services.ServeSteps, serving.services.SequenceOverRight and 23 more.
-- Used by services.SendSteps.
use Rattle.std.proofs.Common.{◌≡◌, ◌≢◌, ◌+◌, ◌-◌, ◌<◌, ◌≤◌, ◌==◌, ◌&&◌, ◌||◌, ◌∷◌, ◌∙◌, ◌⊎◌, if◌then◌else◌}
use Rattle.spi_laws.specs.sending.Terms
use Terms.{act_of, after_last, all_carried, all_of, AllSend, AnswerName, answers, ap, AreCarried, AreOwed, arith}
use Terms.{Arrived, aside_high, asked_unit, banks_held, begun, Bool, both_outside, both_told, by_unit, Call, Called}
use Terms.{carried_at, carried_for, CarriesAgrees, Carrying, cases, ChannelState, Chip, commit_by, commit_ends}
use Terms.{CommitsTo, Contains, DiffersIn, ended_sound, ended_view, ended_words, ends_here, ENotOk, entries_of}
use Terms.{entry_carried, EOk, error_of_sending, FAILED, failed_word, false, first_internal, first_pinned, first_told}
use Terms.{FitsSpi, freed_as, fresh_history, given_back, Going, going_here, going_left, going_other, has_ended}
use Terms.{has_further, held_word, holds_debt, HoldsLike, inl, inr, is_behind, is_below, is_left, is_next, is_off}
use Terms.{is_sent, is_sync_unit, is_told, IsAside, IsEnding, IsFilled, IsLast, IsOfSequence, IsSending, IsServed}
use Terms.{IsSoundState, IsTold, item-other, item-same, job_code, job_result, job_word, jobs_in, jobs_list, jobs_of}
use Terms.{keep_ends, keep_of, last_is, last_like, last_stored, Leaves, leaves_begun, Leaving, length, List, list_any}
use Terms.{MARKS, may_end, may_store, named, nat_lt, next_ahead, next_job, next_left, next_small, NEXTS, None, not}
use Terms.{not_order, not_sent, of_held, one_job, one_owed, Option, order_before, order_left, order_word, Origin}
use Terms.{other_free, other_number, others_differ, outcome, owed_left, OwesEnds, own_first, past_the_first, Pending}
use Terms.{placed_of, Position, refl, release_by, release_last, Reservations, result_by, right_like, Run, run_at}
use Terms.{run_carried, RunsBy, RunsNext, same_number, same_or_other, sending_ends, Sends, sends_on, sent, Sequence}
use Terms.{sequence_code, sequence_of, sequence_result_by, sequence_word, sequences_as, SequencesAgree, serve_commits}
use Terms.{serve_keeps_last, serve_owes, serve_releases, serve_takes, ServePlace, Some, sound_as, spi_owing, SpiJobOk}
use Terms.{SpiRepresents, SpiSeqOk, SpiSeqPending, SpiState, SpiTable, start_owed, STATE, subst, sym, sync_owed}
use Terms.{take_gave, told_first, told_other, told_second, ToServe, true, UnderWay, unit_at, unit_of_sequence}
use Terms.{UnitAgrees, View, view, whether, with_item, word_of, World, ℕ}
use Rattle.spi_laws.specs.sending.Sending.{device_at, EndsWith, IsSender, sent_answer}
use Rattle.spi_laws.specs.sending.laws.bookkeeping.CarriedOut as carried_out
use Rattle.spi_laws.specs.sending.laws.{bookkeeping.HeldWord.{async_other, like_through, sending_of, sends_alike}}
use Rattle.spi_laws.specs.sending.laws.{bookkeeping.SentBeside.{sends_beside}}
use Rattle.spi_laws.specs.sending.laws.{services.SendAround.{body}}
use Rattle.spi_laws.specs.sending.laws.{services.SendWindows.{asks, SequenceEnds}}
use Rattle.spi_laws.specs.serving.laws.services.SequenceOverRight.{told_result}
use Rattle.spi_laws.specs.serving.laws.services.FreedUnit as freed
use Rattle.spi_laws.specs.serving.laws.services.JobLeft as left
use Rattle.spi_laws.specs.serving.laws.bookkeeping.JobEnd as job_ends
use Rattle.spi_laws.specs.serving.laws.bookkeeping.JobEnd.{jobs_count}
use Rattle.word_shapes.specs.PriorityQueue as ranked
use Rattle.spi_sequences.specs.Refinement.{IsLast as IsLastResult}
use Rattle.spi_sequences.specs.declared.service.serve.SequenceNext.TheVariants as courses
use Rattle.spi_sequences.specs.declared.service.serve.ServePlace.TheVariants as serve
use Rattle.spi_sequences.specs.declared.service.sync.SyncPlace.TheVariants as place
use Rattle.mcal_base.specs.facts.Numbers.{lt_from}

-- ---- the moves of the end, as the frame owes them

pub sent_ends : (d : SpiTable) (q u n : ℕ) (at : Position) (bs : List ℕ) → OwesEnds d u (λ z. Sends (body d q u n at bs (place.Serve z)))
sent_ends d q u n at bs = record { moves = λ z. refl; lefts = lefts }
  where
    Left : ServePlace → Type 0
    Left z = sync_owed (body d q u n at bs (place.Serve z)) ≡ Some (Sends (body d q u n at bs (place.Serve z)))

    -- places of the end owe moves in either frame
    releases : (l : Leaving) (o : Option ℕ) → Left (release_by d l o)
    releases l None = refl
    releases l (Some i) = refl

    commits : (l : Leaving) (o : Option ℕ) → Left (commit_by d l o)
    commits l None = refl
    commits l (Some i) = refl

    lefts : (z : ServePlace) (v : ℕ) → IsEnding z → serve_owes (serve_takes d u z v).0 ≡ true → owed_left (Sends (body d q u n at bs (place.Serve z))) v ≡ Some (Sends (body d q u n at bs (place.Serve (serve_takes d u z v).0)))
    lefts (serve.Free r c) v i o =
        let l : Leaving = record { served = r.served; taker = r.taker; course = c } in
        elim r.served.failed as (λ b. Left (if b then release_last d l (4 - r.served.at.channel) else serve.KeepLast l (keep_of d r)))
        [ true ↦ releases l (first_pinned d r.served (4 - r.served.at.channel)) | false ↦ refl ]
    lefts (serve.Release l m t) v i o =
        elim (has_ended (take_gave t v)) as (λ b. Left (serve_releases d l m t v b).0)
        [ true ↦ releases l (first_pinned d l.served (3 - m)) | false ↦ refl ]
    lefts (serve.KeepLast l k) v i o =
        elim (keep_ends k) as (λ b. Left (serve_keeps_last d l k b).0)
        [ true ↦ commits l (first_internal d l.served 4) | false ↦ refl ]
    lefts (serve.Commit l m c) v i o =
        elim (commit_ends c v) as (λ b. Left (serve_commits d l m c v b).0)
        [ true ↦ commits l (first_internal d l.served (3 - m)) | false ↦ refl ]
    lefts _ v i o = absurd i

-- the result of a job, and of a sequence that ends with it
last_result : (b : Bool) → IsLastResult (result_by b)
last_result true = tt
last_result false = tt

ends_named : (b : Bool) → IsOfSequence (sequence_result_by b)
ends_named true = tt
ends_named false = tt

ends_over : (b : Bool) → sequence_result_by b ≡ SpiSeqPending → ⊥
ends_over true e = cc
ends_over false e = cc

ends_code : (b : Bool) → (if b then FAILED else 0) ≡ sequence_code (sequence_result_by b)
ends_code true = refl
ends_code false = refl

module _ (d : SpiTable) (fits : FitsSpi d) (below : Reservations) (chip : Chip) (w : World) (s : SpiState) (q u n : ℕ) (at : Position) (bs : List ℕ) (a : Arrived) (x y : ℕ) (is : IsSender d d q u bs below (Called (asks q)) fresh_history)
    (h : SpiRepresents d (sending_of u q n at bs (Some a.served.failed) (device_at d q n) ∷ below) chip w s)
    (i : IsLast d (word_of chip) s w.now u a) (ends : EndsWith (body d q u n at bs (place.Serve (serve.Acknowledge a (courses.Ends x)))) a x) where
  abbrev device : ℕ
  device = device_at d q n

  abbrev held : Reservations
  held = sending_of u q n at bs (Some a.served.failed) device ∷ below

  abbrev says : IsSending d chip w h.going s u q n at bs (Some a.served.failed) device
  says = h.sending.0

  abbrev few : u < 2
  few = says.few

  on : is_off s.mode ≡ false
  on = h.right.0.1

  abbrev by : IsServed d (word_of chip) s w.now u a.served
  by = left.served d fits held chip w s h u few a i y

  abbrev run : Run
  run = by.done.run

  abbrev under : UnderWay d held chip w s h u run
  under = left.under d fits held chip w s h u few a i y

  abbrev pub st : ToServe
  st = left.st d fits held chip w s h u few a i y

  abbrev its : Pending
  its = under.job.pending

  abbrev failed : Bool
  failed = run.transfer.failed

  -- ---- its job is the one that the frame sends

  sequence_is : its.sequence ≡ q
  sequence_is = carried_out.sequence_is d fits below chip w s u q n at bs (Some a.served.failed) device h run by.done.is under

  next_is : its.next ≡ n
  next_is = carried_out.next_is d fits below chip w s u q n at bs (Some a.served.failed) device h run by.done.is under

  begun_is : (view s).begun u ≡ Some its
  begun_is = carried_out.begun_is d fits below chip w s u q n at bs (Some a.served.failed) device h run by.done.is under

  abbrev carrying : Carrying
  carrying = record { entry = its; run = run }

  carried_is : carried_at s u ≡ Some carrying
  carried_is = carried_out.carried_is d fits below chip w s u q n at bs (Some a.served.failed) device h run by.done.is under

  -- ---- the event

  carried_there : carried_for d s q ≡ Some carrying
  carried_there = carried_out.carried_there d fits below chip w s u q n at bs (Some a.served.failed) device h run by.done.is under is on

  none_further : failed ≡ false → has_further d its ≡ false
  none_further good = by_count (nat_lt (n + 1) (jobs_list d q).count) refl
    where
      few_jobs : (o : Option Sequence) → sequence_of d q ≡ o → (jobs_in o).count ≤ 16
      few_jobs None e = omega arith
      few_jobs (Some k) e = (fits.sequences q k e).few

      by_count : (b : Bool) → nat_lt (n + 1) (jobs_list d q).count ≡ b → has_further d its ≡ false
      by_count true e =
          let ended : nat_lt n 15 && nat_lt (n + 1) (jobs_list d q).count ≡ false = ends.1 (sym by.done.failed ∙ good) in
          let more = is_below (n + 1) (jobs_list d q).count e in
          let most = few_jobs (sequence_of d q) refl in
          let small = lt_from n 15 (omega (arith, more, most)) in
          absurd (let f = sym ended ∙ ap (λ z. z && nat_lt (n + 1) (jobs_list d q).count) small ∙ e in cc)
      by_count false e = ap (λ z. nat_lt (z + 1) (length (jobs_of d its.sequence))) next_is ∙ ap (λ z. nat_lt (n + 1) (length (jobs_of d z))) sequence_is ∙ ap (nat_lt (n + 1)) (sym (jobs_count d fits q)) ∙ e

  may_so : may_end d w carrying ≡ true
  may_so = ap (λ b. b && not (sends_on d carrying)) by.done.done ∙ ap (λ b. not (b || (not failed && has_further d its))) (ends_here d fits held chip w s h u few a i) ∙ ap not (whether failed
      (λ e. ap (λ b. not b && has_further d its) e)
      (λ e. ap (λ b. not b && has_further d its) e ∙ none_further e))

  abbrev cs : List ChannelState
  cs = (after_last s run failed).channels

  abbrev results : List AnswerName
  results = with_item SpiJobOk s.job_results (next_job d its) (result_by failed)

  abbrev ended_with : AnswerName
  ended_with = sequence_result_by failed

  -- the machine's state after it
  abbrev pub state1 : SpiState
  state1 = record s { channels = cs; carried = with_item None s.carried u None; sequence_results = with_item SpiSeqOk s.sequence_results its.sequence ended_with; job_results = given_back d its (its.next + 1) results }

  answer_is : named (if failed then ENotOk else EOk) ≡ sent_answer x
  answer_is = ap (λ b. named (if b then ENotOk else EOk)) by.done.failed ∙ each a.served.failed ∙ ap sent_answer (sym ends.0)
    where
      each : (b : Bool) → named (if b then ENotOk else EOk) ≡ sent_answer (if b then FAILED else 0)
      each true = refl
      each false = refl

  pub act_is : act_of d w s (asks q) ≡ Some (outcome state1 (answers (sent_answer x)))
  act_is =
      ap (sending_ends d w s q) carried_there
      ∙ ap (λ b. if b then (if may_end d w carrying then Some (sent d s (unit_of_sequence d q) carrying failed) else None) else not_sent s q (error_of_sending d s q)) (ap (λ z. z == q) sequence_is ∙ same_number q)
      ∙ ap (λ b. if b then Some (sent d s (unit_of_sequence d q) carrying failed) else None) may_so ∙ ap (λ v. Some (sent d s v carrying failed)) (sym is.unit)
      ∙ ap (λ (z : SpiState). Some (outcome (record z { carried = with_item None z.carried u None; sequence_results = with_item SpiSeqOk s.sequence_results its.sequence ended_with; job_results = given_back d its (its.next + 1) results }) (answers (named (if failed then ENotOk else EOk))))) (last_is s run failed)
      ∙ ap (λ v. Some (outcome state1 (answers v))) answer_is

  -- ---- the words and registers after its moves

  like : IsFilled cs s
  like = last_like s run failed

  abbrev owner : Origin Call
  owner = Called (asks q)

  abbrev chip1 : Chip
  chip1 = left.chip1 d fits held chip w s h u few a i y

  abbrev pub Done : Chip → Type 0
  Done c = SpiRepresents d below c w state1

  all : Contains (all_of (view s)) its
  all = all_carried (view s) u its few begun_is

  within : its.next < length (jobs_of d its.sequence)
  within = (h.sound.entries its all).next

  abbrev begun1 : ℕ → Option Pending
  begun1 = (view state1).begun

  begun_here : begun1 u ≡ None
  begun_here = ap entry_carried (item-same None s.carried u None)

  begun_other : (m : ℕ) → m ≢ u → begun1 m ≡ (view s).begun m
  begun_other m ne = ap entry_carried (item-other None s.carried u m None ne)

  leaves : Leaves (view s) its (view s).pending begun1
  leaves = leaves_begun d (view s) h.sound u its begun_is begun1 begun_here begun_other

  -- of the jobs that were left its own alone has run
  abbrev later : ℕ → Bool
  later = is_behind d fits its within

  ran : (j : ℕ) → is_left d j its ≡ true → later j ≡ false → IsLastResult (job_result results j)
  ran j there none = subst (λ k. IsLastResult (job_result results k)) (sym (is_next d fits its within j there none)) (subst (λ z. IsLastResult z) (sym (item-same SpiJobOk s.job_results (next_job d its) (result_by failed))) (last_result failed))

  unrun : (j : ℕ) → is_left d j its ≡ false → job_result results j ≡ job_result s.job_results j
  unrun j none = item-other SpiJobOk s.job_results (next_job d its) j (result_by failed) (λ e. let f = sym none ∙ ap (λ k. is_left d k its) e ∙ next_left d fits its within in cc)

  next_le : its.next ≤ its.next + 1
  next_le = omega arith

  idle_off : is_off s.mode ≡ true → (m : ℕ) → (view s).idle m ≡ true
  idle_off e = absurd (let f = sym on ∙ e in cc)

  -- the view after it
  abbrev view1 : View
  view1 = ended_view d fits (view s) h.sound its all (its.next + 1) next_le results ran unrun (view s).pending begun1 leaves (view s).running (view s).idle ended_with (ends_named failed) (ends_over failed) (λ m ne. refl) h.sound.few h.sound.carries.idle idle_off

  sound : IsSoundState d (view state1)
  sound = sound_as d view1 s.mode (view state1).written (view state1).received (view state1).sources (λ e. absurd (let f = sym on ∙ e in cc)) (λ e m. absurd (let f = sym on ∙ e in cc))
      (ended_sound d fits (view s) h.sound its all (its.next + 1) next_le results ran unrun (view s).pending begun1 leaves (view s).running (view s).idle ended_with (ends_named failed) (ends_over failed) (λ m ne. refl) h.sound.few h.sound.carries.idle idle_off)

  nexts : (m : ℕ) → m < 2 → RunsNext d (view state1) m (going_left st m)
  nexts m lt = by_unit (λ k o. RunsNext d (view state1) k o) h.going u None tt m (λ ne. other ne (h.going m) refl (h.nexts m lt))
    where
      other : m ≢ u → (o : Option Going) → h.going m ≡ o → RunsNext d (view s) m o → RunsNext d (view state1) m o
      other ne None e r = tt
      other ne (Some k) e r = (leaves.stays k.pending r.0 (others_differ st m k lt ne e), split (is_sync_unit d m) r.1, r.2)
        where
          split : (b : Bool) → RunsBy b (view s) m k.pending → RunsBy b (view state1) m k.pending
          split true begun = begun_other m ne ∙ begun
          split false asked = asked

  owed : AreOwed d below (going_left st) state1
  owed m z lt free there mine = cases (same_or_other m u)
      (λ e. absurd (let f = sym (asked_unit d fits (view s) h.sound m z there mine) ∙ ap (is_sync_unit d) e ∙ says.sync in cc))
      (λ ne. h.owed m z lt (other_free st m ne free) there mine)

  -- each of the other sequences is that of a frame below
  carriers : AreCarried (view state1) below
  carriers m p begun =
      let r = leaves.carried m p begun in
      sym (ap (λ b. b || list_any (λ z. is_sent p.sequence z.what) below) (other_number q p.sequence (λ e. r.1 (sym e ∙ sym sequence_is)))) ∙ h.carriers m p r.0

  abbrev owing : Reservations
  owing = start_owed u owner None ∷ held

  -- what is held of channels is that of the frames below
  held_alike : HoldsLike d owing below
  held_alike = like_through d held owing below (holds_debt d (start_owed u owner None) u held refl) (like_through d below held below (sends_alike d below u q n at bs (Some a.served.failed) device) (record { puts = λ sources c r. refl; takes = λ c. refl; prepares = refl; readied = refl; stored = refl }))

  -- ---- its results are told

  abbrev leaving : Leaving
  leaving = record { served = a.served; taker = a.taker; course = courses.Ends x }

  job_is : a.served.run.job ≡ next_job d its
  job_is = job_ends.job_is d fits held chip w s h u few a i y

  run_sequence : a.served.run.sequence ≡ its.sequence
  run_sequence = job_ends.sequence_is d fits held chip w s h u few a i y

  job_few : a.served.run.job < 16
  job_few = subst (λ j. j < 16) (sym job_is) (next_small d fits held chip w s h its all)

  number : a.served.run.sequence < 8
  number = subst (λ z. z < 8) (sym run_sequence) (h.sound.entries its all).number

  abbrev result : ℕ
  result = job_word a.served.run.job

  abbrev ending : ℕ
  ending = sequence_word a.served.run.sequence

  aside : IsAside result
  aside = aside_high result (omega arith) (let lt = job_few in omega (arith, lt))

  beside : IsAside ending
  beside = aside_high ending (omega arith) (let lt = number in omega (arith, lt))

  apart : result ≢ ending
  apart f = let lt = job_few in omega (arith, f, lt)

  was : SequencesAgree d (word_of chip) (view s)
  was = (h.words.on on).sequences

  module _ (c : Chip) (l : freed.Left st owner None cs like c) where
    abbrev second : Chip
    second = both_told w u few c l.outside result aside (failed_word a.served.failed) ending beside x apart

    differs : DiffersIn (ranked.own_of (record { at = order_word u })) second second
    differs = record { rest = refl; whole = (both_outside w u few c l.outside result aside (failed_word a.served.failed) ending beside x apart).all.words; others = λ j out. refl }

    t : IsTold w c second
    t = is_told w u few c l.outside result aside (failed_word a.served.failed) ending beside x apart second differs

    other : (j : ℕ) → ranked.own_of (record { at = order_word u }) j ≡ false → j ≢ result → j ≢ ending → word_of second j ≡ word_of c j
    other j out na nb = told_other w u few c l.outside result aside (failed_word a.served.failed) ending beside x apart second differs j out na nb

    low_same : (j : ℕ) → STATE < j → j < STATE + 8 → word_of second j ≡ word_of chip j
    low_same j low lt = other j (not_order u j (λ z. omega (arith, z, lt)) (λ z. omega (arith, z, lt)) (λ z. omega (arith, z, lt))) (λ z. omega (arith, z, lt)) (λ z. omega (arith, z, lt)) ∙ l.first j (omega (arith, low)) (omega (arith, lt)) (λ z. omega (arith, z, lt))

    high_same : (j : ℕ) → STATE + 24 ≤ j → j < STATE + 64 → j ≢ result → j ≢ ending → word_of second j ≡ word_of chip j
    high_same j le lt na nb = other j (not_order u j (λ z. omega (arith, z, le, few)) (λ z. omega (arith, z, le, few)) (λ z. omega (arith, z, le, few))) na nb ∙ l.first j (omega (arith, le)) lt (λ z. omega (arith, z, le, few))

    told : word_of second (sequence_word its.sequence) ≡ sequence_code ended_with
    told =
        ap (λ z. word_of second (sequence_word z)) (sym run_sequence) ∙ told_second w u few c l.outside result aside (failed_word a.served.failed) ending beside x apart second differs
        ∙ ends.0 ∙ ap (λ b. if b then FAILED else 0) (sym by.done.failed) ∙ ends_code failed

    result_told : word_of second (job_word (next_job d its)) ≡ job_code (job_result results (next_job d its))
    result_told =
        ap (λ j. word_of second (job_word j)) (sym job_is) ∙ told_first w u few c l.outside result aside (failed_word a.served.failed) ending beside x apart second differs ∙ ap failed_word (sym by.done.failed) ∙ told_result failed
        ∙ ap job_code (sym (item-same SpiJobOk s.job_results (next_job d its) (result_by failed)))

    orders : (m : ℕ) → m < 2 → ranked.Holds (record { at = order_word m }) (word_of second) (entries_of d view1 m)
    orders m lt = order_before w u few c l.outside result aside (failed_word a.served.failed) ending beside x apart m lt (entries_of d (view s) m) (order_left st owner None cs like c l m lt)

    job_same : (j : ℕ) → j < 16 → (is_left d j its && not (later j)) ≡ false → word_of second (job_word j) ≡ word_of chip (job_word j)
    job_same j lt unless = high_same (job_word j) (omega arith) (omega (arith, lt)) (λ z. let same = job_is in own (omega (arith, z, same))) (λ z. omega (arith, z, lt))
      where
        own : j ≡ next_job d its → ⊥
        own e = let z = sym unless ∙ ap (λ k. is_left d k its && not (later k)) e ∙ ap (λ b. b && not (later (next_job d its))) (next_left d fits its within) ∙ ap not (next_ahead d fits its within) in cc

    sequences : SequencesAgree d (word_of second) (view state1)
    sequences = sequences_as d view1 s.mode (view state1).written (view state1).received (view state1).sources (word_of second)
        (ended_words d fits (view s) h.sound its all (its.next + 1) next_le results ran unrun (view s).pending begun1 leaves (view s).running (view s).idle ended_with (ends_named failed) (ends_over failed) (λ m ne. refl) h.sound.few h.sound.carries.idle idle_off (word_of chip) (word_of second) was
        (λ m lt ne. high_same (sequence_word m) (omega arith) (omega (arith, lt)) (λ z. let lt1 = job_few in omega (arith, z, lt1)) (λ z. let same = run_sequence in ne (omega (arith, z, same)))) told
        (low_same NEXTS (omega arith) (omega arith)) (low_same MARKS (omega arith) (omega arith)) job_same
        (λ j lt there none. subst (λ k. word_of second (job_word k) ≡ job_code (job_result results k)) (sym (is_next d fits its within j there none)) result_told) orders)

    unit_now : (m : ℕ) → m < 2 → is_sync_unit d m ≡ false → UnitAgrees d (unit_at second.serials m) (run_at state1 m) (going_left st m)
    unit_now m lt async =
        let ne = async_other d u m says.sync async in
        subst (λ z. UnitAgrees d (unit_at z.serials m) (run_at s m) (going_left st m)) (sym t.rest)
        (subst (λ z. UnitAgrees d z (run_at s m) (going_left st m)) (sym (l.others m ne))
        (subst (λ o. UnitAgrees d (unit_at chip.serials m) (run_at s m) o) (sym (going_other h.going u None m ne)) (h.units m lt async)))

    carried_now : (m : ℕ) → m < 2 → is_sync_unit d m ≡ true → (m ≡ u) ⊎ (m ≢ u) → CarriesAgrees d (unit_at second.serials m) (run_carried (carried_at state1 m)) (going_left st m)
    carried_now m lt sync (inl e) =
        subst (λ k. CarriesAgrees d (unit_at second.serials k) (run_carried (carried_at state1 k)) (going_left st k)) (sym e)
        (subst (λ z. CarriesAgrees d (unit_at z.serials u) (run_carried (carried_at state1 u)) (going_left st u)) (sym t.rest)
        (subst (λ o. CarriesAgrees d (unit_at c.serials u) (run_carried o) (going_left st u)) (sym (item-same None s.carried u None))
        (subst (λ o. CarriesAgrees d (unit_at c.serials u) None o) (sym (going_here h.going u None)) l.unit)))
    carried_now m lt sync (inr ne) =
        subst (λ z. CarriesAgrees d (unit_at z.serials m) (run_carried (carried_at state1 m)) (going_left st m)) (sym t.rest)
        (subst (λ z. CarriesAgrees d z (run_carried (carried_at state1 m)) (going_left st m)) (sym (l.others m ne))
        (subst (λ o. CarriesAgrees d (unit_at chip.serials m) (run_carried o) (going_left st m)) (sym (item-other None s.carried u m None ne))
        (subst (λ o. CarriesAgrees d (unit_at chip.serials m) (run_carried (carried_at s m)) o) (sym (going_other h.going u None m ne)) (h.sends m lt sync))))

    sending_now : AllSend d second w (going_left st) state1 below
    sending_now = sends_beside d q u says.job chip second w h.going (going_left st) s state1 says.is says.sequence (λ m ne. going_other h.going u None m ne) (λ m ne. ap (λ z. (unit_at z.serials m).select) t.rest ∙ ap (λ z. z.select) (l.others m ne))
        (λ m g j z k ne lt e there known. t.above (held_word (placed_of d z.channel)) (past_the_first d z.channel k (held_word (placed_of d z.channel)) (fits.channels z.channel k known) (of_held d fits z.channel k known))
        ∙ l.held_away z.channel k known (λ j1 y1 there1 same. ne (one_job d fits held chip w s h under.on u m under.job g few lt under.is e j1 j y1 z there1 there (sym same)))) (λ m ne. item-other None s.carried u m None ne) below is.alone h.sending.1

    represents : Done second
    represents = freed_as st owner None cs like c second l t state1 refl refl below (right_like d s cs like.source below h.right.1) unit_now (λ m lt sync. carried_now m lt sync (same_or_other m u)) sending_now carriers
        (λ m k agrees. banks_held d owing below (going_left st) (word_of second) (view state1) m k held_alike agrees) sound nexts sequences owed

    result_owes : (j : ℕ) × CommitsTo (spi_owing d) j (Sends (body d q u n at bs (place.Serve (serve.Result leaving)))) c Done
    result_owes =
        let first : Chip = first_told w u few c l.outside result aside (failed_word a.served.failed) ending beside x apart in
        one_owed (spi_owing d) Done (Sends (body d q u n at bs (place.Serve (serve.Result leaving)))) c (Some (Sends (body d q u n at bs (place.Serve (serve.End a.served x))))) (may_store d fits result (failed_word a.served.failed) (own_first d result (omega arith) (let lt = job_few in omega (arith, lt)))) tt refl
        (one_owed (spi_owing d) Done (Sends (body d q u n at bs (place.Serve (serve.End a.served x)))) first None (may_store d fits ending x (own_first d ending (omega arith) (let lt = number in omega (arith, lt)))) tt refl represents)

  pub sequence_ends : SequenceEnds d below (asks q) chip1 w s x (body d q u n at bs (place.Serve (serve.Free a (courses.Ends x))))
  sequence_ends = record {
    state = state1;
    is = act_is;
    owes = left.left_owes d fits held chip w s h u few a i y (λ z. Sends (body d q u n at bs (place.Serve z))) (sent_ends d q u n at bs) owner None (courses.Ends x) state1 like
        (λ good. last_stored st run by.done.done (by.done.failed ∙ good) (ends_here d fits held chip w s h u few a i) state1 refl) (λ f. ap (λ b. (after_last s run b).channels) (by.done.failed ∙ f)) Done (λ c l. result_owes c l);
  }
