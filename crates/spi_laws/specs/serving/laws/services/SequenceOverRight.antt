-- A job has ended and its sequence with it: both results and the order of the unit are told (as they are where a sequence goes on),
-- and the words stand for the machine's state.
-- From services.FreedUnit, spi_sequences: bookkeeping.SequenceEnded, spi_sequences: words.JobPlaces and 12 more.
-- Used by services.ServeRight, sending.services.SendLast, sending.services.SendGoesOn.
use Rattle.std.proofs.Common.{◌≡◌, ◌≢◌, ◌+◌, ◌<◌, ◌≤◌, ◌&&◌, [], ◌∷◌, ◌∙◌, ◌⊎◌}
use Rattle.spi_laws.specs.serving.Terms
use Terms.{after_serve, all_of, all_pending, Answer, AnswerName, ap, AreOwed, arith, Bool, Call, ChannelState, Chip}
use Terms.{chip_after, CommitsTo, Contains, DiffersIn, drop-ends, drop_gave, Dropped, dropping, ended_sound, ended_view}
use Terms.{ended_words, entries_of, Entry, failed_word, false, filter, filter_back, filter_keeps, FitsSpi, FrameRole}
use Terms.{from_order, given_back, going_asked, going_next, holds-agree, inl, inr, is_behind, is_for, is_left, is_next}
use Terms.{is_of, is_off, is_some, is_sync_unit, IsOfSequence, IsPart, IsSoundState, item-other, item-same, job_code}
use Terms.{job_result, job_word, jobs_of, Leaves, leaves_pending, Leaving, left_order, length, List, MARKS, may_store}
use Terms.{named_own, next_ahead, next_job, next_left, next_small, NEXTS, None, not, not_order, one_owed, Option}
use Terms.{order_there, order_word, Origin, other_number, own_first, own_order, PartTo, Pending, position_word, refl}
use Terms.{result_by, running_word, same_or_other, search_of, sequence_code, sequence_word, sequences_as}
use Terms.{SequencesAgree, serve_drops, Served, ServePlace, settles_part, Some, sound_as, spi_owing, SpiJobOk}
use Terms.{SpiRepresents, SpiSeqOk, SpiSeqPending, SpiState, SpiTable, stands-move, stands_owed, StandsIn, STATE, stay}
use Terms.{Store, stored_other, stored_same, subst, sym, Taker, there_by, to_order, true, unit_owed, Units, unless_done}
use Terms.{view, with_item, without, word_of, World, ℕ}
use Rattle.spi_laws.specs.serving.laws.services.FreedUnit.{calm_run, few_run, freed_agrees, going_left, in_no_other}
use Rattle.spi_laws.specs.serving.laws.services.FreedUnit.{IsFilled, IsTold, Left, order_left, other_free, others_run}
use Rattle.spi_laws.specs.serving.laws.services.FreedUnit.{owed_left, start_owed, with_free}
use Rattle.spi_laws.specs.serving.laws.{services.FurtherRight.{serving}, ToServe.{ToServe}}
use Rattle.spi_sequences.specs.Refinement.{IsLast}
use Rattle.word_shapes.specs.PriorityQueue as ranked
use Rattle.word_shapes.specs.Order as order
use Rattle.word_shapes.specs.declared.dropped.Dropped.TheVariants as drops
use Rattle.spi_sequences.specs.declared.service.serve.SequenceNext.TheVariants as courses
use Rattle.spi_sequences.specs.declared.service.serve.ServePlace.TheVariants as serve

-- a word that is none of what a unit runs, nor of an order, nor the module's state
pub record IsAside (a : ℕ) : Type 0 where
  pub low : STATE < a
  pub high : a < STATE + 64
  pub runs : (n : ℕ) → n < 2 → (running_word n ≢ a) × (position_word n ≢ a)
  pub orders : (n : ℕ) → n < 2 → ranked.own_of (record { at = order_word n }) a ≡ false

pub aside_high : (a : ℕ) → STATE + 24 ≤ a → a < STATE + 64 → IsAside a
aside_high a le lt = record {
  low = omega (arith, le);
  high = lt;
  runs = λ n few. (λ e. omega (arith, e, le, few), λ e. omega (arith, e, le, few));
  orders = λ n few. not_order n a (λ e. omega (arith, e, le, few)) (λ e. omega (arith, e, le, few)) (λ e. omega (arith, e, le, few));
}

pub aside_nexts : IsAside NEXTS
aside_nexts = record {
  low = omega arith;
  high = omega arith;
  runs = λ n few. (λ e. omega (arith, e), λ e. omega (arith, e));
  orders = λ n few. not_order n NEXTS (λ e. omega (arith, e)) (λ e. omega (arith, e)) (λ e. omega (arith, e));
}

module _ (w : World) (u : ℕ) (few : u < 2) (c : Chip) (outside : StandsIn c w) (a : ℕ) (aside : IsAside a) (x : ℕ) (b : ℕ) (beside : IsAside b) (y : ℕ) (apart : a ≢ b) where
  abbrev its : ℕ → ℕ → Bool
  its n = ranked.own_of (record { at = order_word n })

  -- the chip after both stores
  abbrev pub first_told : Chip
  first_told = chip_after c (Store a x) 0

  abbrev pub both_told : Chip
  both_told = chip_after first_told (Store b y) 0

  pub first_outside : StandsIn first_told w
  first_outside = stands-move c w (Store a x) 0 outside

  pub both_outside : StandsIn both_told w
  both_outside = stands-move first_told w (Store b y) 0 first_outside

  both_other : (j : ℕ) → j ≢ a → j ≢ b → word_of both_told j ≡ word_of c j
  both_other j na nb = stored_other first_told b y 0 j nb ∙ stored_other c a x 0 j na

  not_own : (n j i : ℕ) → its n j ≡ true → its n i ≡ false → j ≢ i
  not_own n j i own out e = let f = sym own ∙ ap (its n) e ∙ out in cc

  -- orders are as they were
  pub order_before : (n : ℕ) → n < 2 → (xs : List Entry) → ranked.Holds (record { at = order_word n }) (word_of c) xs → ranked.Holds (record { at = order_word n }) (word_of both_told) xs
  order_before n lt xs h = holds-agree (record { at = order_word n }) (word_of c) (word_of both_told) xs (λ j own. sym (both_other j (not_own n j a own (aside.orders n lt)) (not_own n j b own (beside.orders n lt)))) h

  module _ (f : Chip) (differs : DiffersIn (ranked.own_of (record { at = order_word u })) both_told f) where
    pub told_other : (j : ℕ) → its u j ≡ false → j ≢ a → j ≢ b → word_of f j ≡ word_of c j
    told_other j out na nb = differs.others j out ∙ both_other j na nb

    pub told_first : word_of f a ≡ x
    told_first = differs.others a (aside.orders u few) ∙ stored_other first_told b y 0 a apart ∙ stored_same c a x 0 (let lt = aside.high in omega (arith, lt)) outside.all.words

    pub told_second : word_of f b ≡ y
    told_second = differs.others b (beside.orders u few) ∙ stored_same first_told b y 0 (let lt = beside.high in omega (arith, lt)) first_outside.all.words

    -- the order of another unit
    pub order_other : (n : ℕ) → n < 2 → n ≢ u → (xs : List Entry) → ranked.Holds (record { at = order_word n }) (word_of c) xs → ranked.Holds (record { at = order_word n }) (word_of f) xs
    order_other n lt ne xs h = holds-agree (record { at = order_word n }) (word_of both_told) (word_of f) xs (λ j own. sym (differs.others j (other j own))) (order_before n lt xs h)
      where
        other : (j : ℕ) → its n j ≡ true → its u j ≡ false
        other j own =
            let low = from_order n j own in
            let high = to_order n j own in
            not_order u j (λ e. ne (omega (arith, low, high, e, lt, few))) (λ e. ne (omega (arith, low, high, e, lt, few))) (λ e. ne (omega (arith, low, high, e, lt, few)))

    pub is_told : IsTold w c f
    is_told = record {
      outside = stands_owed (its u) both_told f w differs both_outside;
      rest = differs.rest;
      above = λ j le. told_other j (not_order u j (λ e. omega (arith, e, le, few)) (λ e. omega (arith, e, le, few)) (λ e. omega (arith, e, le, few))) (λ e. let lt = aside.high in omega (arith, e, lt, le)) (λ e. let lt = beside.high in omega (arith, e, lt, le));
      state = told_other STATE (not_order u STATE (λ e. omega (arith, e)) (λ e. omega (arith, e)) (λ e. omega (arith, e))) (λ e. let lt = aside.low in omega (arith, e, lt)) (λ e. let lt = beside.low in omega (arith, e, lt));
      runs = λ n lt. (
        told_other (running_word n) (not_order u (running_word n) (λ e. omega (arith, e, lt, few)) (λ e. omega (arith, e, lt, few)) (λ e. omega (arith, e, lt, few))) (aside.runs n lt).0 (beside.runs n lt).0,
        told_other (position_word n) (not_order u (position_word n) (λ e. omega (arith, e, lt, few)) (λ e. omega (arith, e, lt, few)) (λ e. omega (arith, e, lt, few))) (aside.runs n lt).1 (beside.runs n lt).1,
      );
    }

-- ---- a sequence ends

-- ---- the sequence leaves the order: a part of what is owed

module _ (d : SpiTable) (fits : FitsSpi d) (e : FrameRole) (u : ℕ) (few : u < 2) (r : Served) where
  drop_steps : (a : Dropped) (v : ℕ) (o : Option Answer) → (drop_gave a v).ended ≡ o → PartTo dropping (spi_owing d) (λ x. Units (serving d e u (serve.Drop r x))) (λ xs. None) a v o
  drop_steps a v None f = ap (λ b. unless_done (after_serve (serving d e u (serve.Drop r a)) (serve_drops d r a v b)).1.done (unit_owed (after_serve (serving d e u (serve.Drop r a)) (serve_drops d r a v b)).0)) (ap is_some f)
  drop_steps a v (Some x) f = ap (λ b. unless_done (after_serve (serving d e u (serve.Drop r a)) (serve_drops d r a v b)).1.done (unit_owed (after_serve (serving d e u (serve.Drop r a)) (serve_drops d r a v b)).0)) (ap is_some f)

  pub drop_part : IsPart dropping (ranked.own_of (record { at = order_word u })) (spi_owing d) (λ x. Units (serving d e u (serve.Drop r x))) (λ xs. None)
  drop_part = record {
    moves = λ a. refl;
    steps = λ a v. drop_steps a v (drop_gave a v).ended refl;
    named = named_own d fits (ranked.own_of (record { at = order_word u })) (λ j own. own_order d u j few own);
    fits = λ a chip. tt;
  }

-- the result of a job, as its word has it
last_result : (b : Bool) → IsLast (result_by b)
last_result true = tt
last_result false = tt

pub told_result : (b : Bool) → failed_word b ≡ job_code (result_by b)
told_result b = grind arith

-- ---- the words

module _ (st : ToServe) (async : is_sync_unit st.d st.u ≡ false) (owner : Origin Call) (acted : Option Answer) (cs : List ChannelState)
    (like : IsFilled cs st.s) (c : Chip) (l : Left st owner acted cs like c) (failed : Bool) (x : AnswerName)
    (named : IsOfSequence x) (done : x ≡ SpiSeqPending → ⊥) where
  open st use {d, fits, below, chip, w, s, h, on, u, few, g, is}

  abbrev p : Pending
  p = g.pending

  there : Contains s.pending p
  there = (going_asked d fits below chip w s h u g few async is).0

  all : Contains (all_of (view s)) p
  all = all_pending (view s) p there

  for : is_for d u p ≡ true
  for = (going_next d fits below chip w s h u g few is).2

  within : p.next < length (jobs_of d p.sequence)
  within = (h.sound.entries p all).next

  abbrev results : List AnswerName
  results = with_item SpiJobOk s.job_results (next_job d p) (result_by failed)

  -- the machine's state then
  abbrev pub after : SpiState
  after = with_free s u cs (without p.sequence s.pending) (with_item SpiSeqOk s.sequence_results p.sequence x) (given_back d p (p.next + 1) results)

  abbrev runs : ℕ → Bool
  runs = (view after).running

  abbrev idle : ℕ → Bool
  idle = (view after).idle

  others : (n : ℕ) → n ≢ p.sequence → runs n ≡ (view s).running n
  others = others_run st async

  rest : (n : ℕ) → 2 ≤ n → idle n ≡ true
  rest = few_run st async

  calm : (n : ℕ) → is_sync_unit d n ≡ true → idle n ≡ true
  calm = calm_run st async

  leaves : Leaves (view s) p after.pending (view s).begun
  leaves = leaves_pending d (view s) h.sound p there

  -- of the jobs that were left its own alone has run
  abbrev later : ℕ → Bool
  later = is_behind d fits p within

  ran : (j : ℕ) → is_left d j p ≡ true → later j ≡ false → IsLast (job_result results j)
  ran j left none = subst (λ k. IsLast (job_result results k)) (sym (is_next d fits p within j left none)) (subst (λ z. IsLast z) (sym (item-same SpiJobOk s.job_results (next_job d p) (result_by failed))) (last_result failed))

  unrun : (j : ℕ) → is_left d j p ≡ false → job_result results j ≡ job_result s.job_results j
  unrun j none = item-other SpiJobOk s.job_results (next_job d p) j (result_by failed) (λ e. let f = sym none ∙ ap (λ k. is_left d k p) e ∙ next_left d fits p within in cc)

  off : is_off s.mode ≡ true → (n : ℕ) → idle n ≡ true
  off e = absurd (let f = sym on ∙ e in cc)

  sound : IsSoundState d (view after)
  sound = sound_as d (ended_view d fits (view s) h.sound p all (p.next + 1) (omega arith) results ran unrun after.pending (view s).begun leaves runs idle x named done others rest calm off) s.mode (view after).written (view after).received (view after).sources (λ e. absurd (let f = sym on ∙ e in cc)) (λ e n. absurd (let f = sym on ∙ e in cc))
      (ended_sound d fits (view s) h.sound p all (p.next + 1) (omega arith) results ran unrun after.pending (view s).begun leaves runs idle x named done others rest calm off)

  still : (z : Pending) → Contains s.pending z → z.sequence ≢ p.sequence → Contains after.pending z
  still z at ne = filter_keeps (λ y. not (is_of p.sequence y)) s.pending z at (ap not (other_number z.sequence p.sequence ne))

  owed : AreOwed d (start_owed u owner acted ∷ below) (going_left st) after
  owed n z lt free at mine = owed_left st owner acted n lt free (λ ne. h.owed n z lt (other_free st n ne free) (filter_back (λ y. not (is_of p.sequence y)) s.pending z at).0 mine)

  -- ---- what is owed

  module _ (e : FrameRole) (r : Served) (t : Taker) (v : ℕ) (job_is : r.run.job ≡ next_job d p) (sequence_is : r.run.sequence ≡ p.sequence) (failed_is : r.failed ≡ failed) (code_is : v ≡ sequence_code x) where
    abbrev pub leaving : Leaving
    leaving = record { served = r; taker = t; course = courses.Ends v }

    abbrev Done : Chip → Type 0
    Done f = SpiRepresents d (start_owed u owner acted ∷ below) f w after

    abbrev Owes : ServePlace → Chip → Type 0
    Owes q c1 = (n : ℕ) × CommitsTo (spi_owing d) n (Units (serving d e u q)) c1 Done

    job_few : r.run.job < 16
    job_few = subst (λ j. j < 16) (sym job_is) (next_small d fits below chip w s h p all)

    number : r.run.sequence < 8
    number = subst (λ q. q < 8) (sym sequence_is) (h.sound.entries p all).number

    abbrev result : ℕ
    result = job_word r.run.job

    abbrev ending : ℕ
    ending = sequence_word r.run.sequence

    aside : IsAside result
    aside = aside_high result (omega arith) (let lt = job_few in omega (arith, lt))

    beside : IsAside ending
    beside = aside_high ending (omega arith) (let lt = number in omega (arith, lt))

    apart : result ≢ ending
    apart f = let lt = job_few in omega (arith, f, lt)

    abbrev second : Chip
    second = both_told w u few c l.outside result aside (failed_word r.failed) ending beside v apart

    was : SequencesAgree d (word_of chip) (view s)
    was = (h.words.on on).sequences

    -- it is in the order of its unit
    present : order.is_there r.run.sequence (entries_of d (view s) u) ≡ true
    present = ap (λ q. order.is_there q (entries_of d (view s) u)) sequence_is ∙ there_by (view s).running (filter (is_for d u) s.pending) p (filter_keeps (is_for d u) s.pending p there for)

    module _ (f : Chip) (differs : DiffersIn (ranked.own_of (record { at = order_word u })) second f) (holds : ranked.Holds (record { at = order_word u }) (word_of f) (order.without r.run.sequence (entries_of d (view s) u))) where
      other : (j : ℕ) → ranked.own_of (record { at = order_word u }) j ≡ false → j ≢ result → j ≢ ending → word_of f j ≡ word_of c j
      other j out na nb = told_other w u few c l.outside result aside (failed_word r.failed) ending beside v apart f differs j out na nb

      low_same : (j : ℕ) → STATE < j → j < STATE + 8 → word_of f j ≡ word_of chip j
      low_same j low lt = other j (not_order u j (λ y. omega (arith, y, lt)) (λ y. omega (arith, y, lt)) (λ y. omega (arith, y, lt))) (λ y. omega (arith, y, lt)) (λ y. omega (arith, y, lt)) ∙ l.first j (omega (arith, low)) (omega (arith, lt)) (λ y. omega (arith, y, lt))

      high_same : (j : ℕ) → STATE + 24 ≤ j → j < STATE + 64 → j ≢ result → j ≢ ending → word_of f j ≡ word_of chip j
      high_same j le lt na nb = other j (not_order u j (λ y. omega (arith, y, le, few)) (λ y. omega (arith, y, le, few)) (λ y. omega (arith, y, le, few))) na nb ∙ l.first j (omega (arith, le)) lt (λ y. omega (arith, y, le, few))

      told : word_of f (sequence_word p.sequence) ≡ sequence_code x
      told = ap (λ q. word_of f (sequence_word q)) (sym sequence_is) ∙ told_second w u few c l.outside result aside (failed_word r.failed) ending beside v apart f differs ∙ code_is

      result_told : word_of f (job_word (next_job d p)) ≡ job_code (job_result results (next_job d p))
      result_told =
          ap (λ j. word_of f (job_word j)) (sym job_is) ∙ told_first w u few c l.outside result aside (failed_word r.failed) ending beside v apart f differs ∙ ap failed_word failed_is ∙ told_result failed
          ∙ ap job_code (sym (item-same SpiJobOk s.job_results (next_job d p) (result_by failed)))

      orders : (n : ℕ) → n < 2 → ranked.Holds (record { at = order_word n }) (word_of f) (entries_of d (ended_view d fits (view s) h.sound p all (p.next + 1) (omega arith) results ran unrun after.pending (view s).begun leaves runs idle x named done others rest calm off) n)
      orders n lt = by (same_or_other n u)
        where
          Order : ℕ → Type 0
          Order k = ranked.Holds (record { at = order_word k }) (word_of f) (entries_of d (ended_view d fits (view s) h.sound p all (p.next + 1) (omega arith) results ran unrun after.pending (view s).begun leaves runs idle x named done others rest calm off) k)

          by : (n ≡ u) ⊎ (n ≢ u) → Order n
          by (inl y) = subst Order (sym y) (subst (λ xs. ranked.Holds (record { at = order_word u }) (word_of f) xs) (sym (left_order d u p.sequence (view s).running runs others s.pending (was.orders u few).once)) (subst (λ q. ranked.Holds (record { at = order_word u }) (word_of f) (order.without q (entries_of d (view s) u))) sequence_is holds))
          by (inr ne) = subst (λ xs. ranked.Holds (record { at = order_word n }) (word_of f) xs) (sym (stay d n p.sequence (view s).running runs others s.pending (in_no_other st n ne)))
              (order_other w u few c l.outside result aside (failed_word r.failed) ending beside v apart f differs n lt ne (entries_of d (view s) n) (order_left st owner acted cs like c l n lt))

      job_same : (j : ℕ) → j < 16 → (is_left d j p && not (later j)) ≡ false → word_of f (job_word j) ≡ word_of chip (job_word j)
      job_same j lt unless = high_same (job_word j) (omega arith) (omega (arith, lt)) (λ y. let same = job_is in own (omega (arith, y, same))) (λ y. omega (arith, y, lt))
        where
          own : j ≡ next_job d p → ⊥
          own e = let y = sym unless ∙ ap (λ k. is_left d k p && not (later k)) e ∙ ap (λ q. q && not (later (next_job d p))) (next_left d fits p within) ∙ ap not (next_ahead d fits p within) in cc

      sequences : SequencesAgree d (word_of f) (view after)
      sequences = sequences_as d (ended_view d fits (view s) h.sound p all (p.next + 1) (omega arith) results ran unrun after.pending (view s).begun leaves runs idle x named done others rest calm off) s.mode (view after).written (view after).received (view after).sources (word_of f)
          (ended_words d fits (view s) h.sound p all (p.next + 1) (omega arith) results ran unrun after.pending (view s).begun leaves runs idle x named done others rest calm off (word_of chip) (word_of f) was
          (λ n lt ne. high_same (sequence_word n) (omega arith) (omega (arith, lt)) (λ y. let lt1 = job_few in omega (arith, y, lt1)) (λ y. let same = sequence_is in ne (omega (arith, y, same)))) told
          (low_same NEXTS (omega arith) (omega arith)) (low_same MARKS (omega arith) (omega arith)) job_same
          (λ j lt left none. subst (λ k. word_of f (job_word k) ≡ job_code (job_result results k)) (sym (is_next d fits p within j left none)) result_told) orders)

      represents : Done f
      represents = freed_agrees st async owner acted cs like c f l (is_told w u few c l.outside result aside (failed_word r.failed) ending beside v apart f differs) after.pending after.sequence_results after.job_results sound still sequences owed

    pub result_owes : Owes (serve.Result leaving) c
    result_owes = one_owed (spi_owing d) Done (Units (serving d e u (serve.Result leaving))) c (Some (Units (serving d e u (serve.End r v)))) (may_store d fits result (failed_word r.failed) (own_first d result (omega arith) (let lt = job_few in omega (arith, lt)))) tt refl
        (one_owed (spi_owing d) Done (Units (serving d e u (serve.End r v))) first (Some (Units (serving d e u (serve.Drop r (drops.Look (search_of u) r.run.sequence))))) (may_store d fits ending v (own_first d ending (omega arith) (let lt = number in omega (arith, lt)))) tt refl
        (settles_part dropping (ranked.own_of (record { at = order_word u })) (spi_owing d) (λ z. Units (serving d e u (serve.Drop r z))) (λ xs. None) (drop_part d fits e u few r) (order_there u few)
        (λ m words. ranked.Holds (record { at = order_word u }) m (order.without r.run.sequence (entries_of d (view s) u)) × (words ≡ [])) Done
        _ (drops.Look (search_of u) r.run.sequence) second (both_outside w u few c l.outside result aside (failed_word r.failed) ending beside v apart).all.words
        (drop-ends (record { at = order_word u }) r.run.sequence (word_of second) (entries_of d (view s) u) (order_before w u few c l.outside result aside (failed_word r.failed) ending beside v apart u few (entries_of d (view s) u) (order_left st owner acted cs like c l u few)) present)
        (λ f xs differs holds. represents f differs holds.0)))
      where
        first : Chip
        first = first_told w u few c l.outside result aside (failed_word r.failed) ending beside v apart
