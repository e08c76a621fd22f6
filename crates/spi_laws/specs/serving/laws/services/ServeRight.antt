-- Each step of the serving window is right: up to its event what was loaded stands, and at a job's end the unit is free, what came
-- in is readable, or the pins of a failed job end, and its results and its sequence are told.
-- From services.FreedUnit, words.FacingWords, spi_sequences: services.ServeSteps and 18 more.
-- Used by sending.services.SendSteps, spi_driver: services.UnitSteps, services.ServeMoves, services.ServeBounds.
use Rattle.std.proofs.Common.{◌≡◌, ◌≢◌, ◌+◌, ◌/◌, ◌%◌, ◌<◌, ◌≤◌, ◌&&◌, ◌==◌, [], ◌∷◌, ◌∙◌, ◌⊎◌, if◌then◌else◌}
use Rattle.spi_laws.specs.serving.Terms
use Terms.{after_job, after_last, after_serve, Again, again-ends, again_gave, all_pending, Answer, AnswerName, ap}
use Terms.{AreOwed, arith, Arrived, asked_word, asking, bank_word, begins_by, begins_of, Begun, Bool, Call}
use Terms.{cancelled_bit, changed, channel_next, channel_served, ChannelState, Chip, chip_after, cleared_of, CommitsTo}
use Terms.{Contains, contains_back, control_word, DiffersIn, end_by, ends_well, entries_of, Event, failed_word, false}
use Terms.{Find, find_gave, find_left, find_move, finding, FitsSpi, Footing, found_in, FrameRole, further_of}
use Terms.{given_back, goes_on, goes_to_next, Going, going_asked, has_done, has_further, has_mark, held_word, inl, inr}
use Terms.{is_below, is_done, is_for, is_of, is_owed, is_shared, is_some, is_sync_unit, IsArrived, IsDone, IsFinding}
use Terms.{IsFurther, IsLast, IsOfSequence, IsPart, IsServed, IsSoundState, IsTaken, job_word, JobOver, jobs_of}
use Terms.{Leaving, length, lets_of, List, Load, MARKS, masked_by, may_store, Move, named_own, next_job, next_small}
use Terms.{NEXTS, None, not, not_order, notes, Notice, notices_by, one_owed, Option, order_places, order_there}
use Terms.{order_word, Origin, Outcome, outcome_with, Over, own_first, own_order, PartTo, Pending, pinned_bank, Placed}
use Terms.{Position, position_in, position_word, ready, refl, Reservations, result_by, Run, run_in, Running}
use Terms.{running_says, running_word, same_or_other, SendsRight, Sent, sequence_code, sequence_word, SequenceNext}
use Terms.{sequences_as, SequencesAgree, SerialAck, SerialWidth, serve_again, serve_ahead, serve_finds, serve_move}
use Terms.{serve_owes, serve_place, serve_run, serve_takes, Served, ServePlace, Serves, ServeStep, settles_part, SetUp}
use Terms.{Some, some_is, sound_as, source_word, spi_machine, spi_owing, SpiJobOk, SpiRepresents, SpiSeqCanceled}
use Terms.{SpiSeqFailed, SpiSeqOk, SpiSeqPending, SpiState, SpiTable, STATE, subst, sym, Taker, true, unit_at}
use Terms.{unit_owed, unit_run, Units, unless_done, unpacked, value_of, view, waiting-absent, waiting_again, whether}
use Terms.{with_item, with_next_in, without, word_after, word_of, word_place, World, Write, ℕ}
use Rattle.spi_laws.specs.serving.laws.bookkeeping.JobEnd.{course_by, ends_sends, ends_told, width_agrees, width_is}
use Rattle.spi_laws.specs.serving.laws.bookkeeping.Readable.{last_is, last_like, served_stored}
use Rattle.spi_laws.specs.serving.laws.services.FreedUnit.{calm_run, few_run, for_same, freed_agrees, going_left}
use Rattle.spi_laws.specs.serving.laws.services.FreedUnit.{in_no_other, IsFilled, Left, none_runs, order_left, other_free}
use Rattle.spi_laws.specs.serving.laws.services.FreedUnit.{others_run, owed_left, start_owed, waits_again, with_free}
use Rattle.spi_laws.specs.serving.laws.services.FurtherRight.{asked_owes, asked_sends, further_is, served_ends, serving}
use Rattle.spi_laws.specs.serving.laws.{services.FurtherRight.{state1, word1}, services.JobLeft.{left_owes}}
use Rattle.spi_laws.specs.serving.laws.services.SequenceOverRight.{aside_high, aside_nexts, both_outside, both_told}
use Rattle.spi_laws.specs.serving.laws.services.SequenceOverRight.{first_told, is_told, IsAside, order_before, order_other}
use Rattle.spi_laws.specs.serving.laws.{services.SequenceOverRight.{told_first, told_other, told_second}, ToServe.{ToServe}}
use Rattle.spi_laws.specs.serving.laws.words.FacingWords.{done_alike, ends_here, found_bank, found_default, found_source}
use Rattle.spi_laws.specs.serving.laws.words.FacingWords.{next_channel, not_ready, placed, received_says, runs_so}
use Rattle.spi_laws.specs.serving.laws.words.FacingWords.{state_done, state_says, under_way, UnderWay}
use Rattle.spi_laws.specs.serving.laws.words.NextWords.{item_other, next_sound, next_view, next_words, still_there}
use Rattle.spi_sequences.specs.declared.service.serve.ServeStep.TheVariants.{Goes}
use Rattle.chip_blocks.specs.units.Serials as serials
use Rattle.word_shapes.specs.declared.jobs.finding.Find.TheVariants as finds
use Rattle.spi_sequences.specs.declared.service.serve.ServePlace.TheVariants as serve
use Rattle.word_shapes.specs.Order as order
use Rattle.word_shapes.specs.PriorityQueue as ranked
use Rattle.word_shapes.specs.declared.again.Again.TheVariants as agains
use Rattle.spi_sequences.specs.declared.service.serve.SequenceNext.TheVariants as courses
use Rattle.spi_laws.specs.serving.laws.bookkeeping.JobEnd as ends
use Rattle.spi_laws.specs.serving.laws.services.SequenceOverRight as over_laws
use Rattle.mcal_base.specs.declared.moves.Event.TheVariants as events

-- the load that is made
pub asks_load : (x : Placed) (i : ℕ) → asking x i ≡ Load (asked_word x i)
asks_load x i = grind arith

-- what the places rest on, of a chip
abbrev pub footing : Chip → Footing
footing chip = (word_of chip, (λ u. (unit_at chip.serials u).select), (λ u. (unit_at chip.serials u).width))

module _ (d : SpiTable) (fits : FitsSpi d) (below : Reservations) (chip : Chip) (w : World) (s : SpiState) (h : SpiRepresents d below chip w s) (u : ℕ) (few : u < 2) where
  -- a step without an event goes on at a place, or nothing was there to serve
  abbrev pub Decided : Chip → ServePlace × ServeStep → Type 0
  Decided c (p, Goes None) = SpiRepresents d below c w s × word_place d u p (footing c) w s
  Decided c (p, Over) = SpiRepresents d below c w s × (ready w s (26 + u) ≡ false) × (serve_owes p ≡ false)
  Decided c (p, _) = ⊥

  pub state_decides : is_sync_unit d u ≡ false → Decided chip (serve_takes d u serve.State (serials.state (unit_at chip.serials u) chip.serials.time))
  state_decides async = decides_by_state (serials.is_done (unit_at chip.serials u) chip.serials.time) refl (serials.is_failed (unit_at chip.serials u) chip.serials.time) refl
    where
      v : ℕ
      v = serials.state (unit_at chip.serials u) chip.serials.time

      decides_by_state : (a : Bool) → serials.is_done (unit_at chip.serials u) chip.serials.time ≡ a → (b : Bool) → serials.is_failed (unit_at chip.serials u) chip.serials.time ≡ b → Decided chip (if v / 2 % 2 == 0 then (serve.State, Over) else (serve.Running (v / 4 % 2 == 1), Goes None))
      decides_by_state a e b f =
          let says = state_says (unit_at chip.serials u) chip.serials.time in
          subst (λ q. Decided chip (if q then (serve.State, Over) else (serve.Running (v / 4 % 2 == 1), Goes None))) (sym (says.0 ∙ ap not e))
          (subst (λ q. Decided chip (if not a then (serve.State, Over) else (serve.Running q, Goes None))) (sym (says.1 ∙ f)) (split a e b f))
        where
          split : (a : Bool) → serials.is_done (unit_at chip.serials u) chip.serials.time ≡ a → (b : Bool) → serials.is_failed (unit_at chip.serials u) chip.serials.time ≡ b → Decided chip (if not a then (serve.State, Over) else (serve.Running b, Goes None))
          split false e b f = (h, not_ready d fits below chip w s h u few (ap (has_done w.now) (sym (runs_so d fits below chip w s h u few async)) ∙ sym (done_alike d fits below chip w s h u few) ∙ e), refl)
          split true e b f = (h, state_done d fits below chip w s h u few b (sym (done_alike d fits below chip w s h u few) ∙ e) f)

  pub running_decides : (bad : Bool) → IsDone d s w.now u bad → Decided chip (serve_takes d u (serve.Running bad) (word_of chip (running_word u)))
  running_decides bad i = by (run_in (word_of chip (running_word u))) refl
    where
      way : UnderWay d below chip w s h u i.run
      way = under_way d fits below chip w s h u few i.run i.is

      by : (o : Option Running) → run_in (word_of chip (running_word u)) ≡ o → Decided chip (serve_run bad o)
      by None e = absurd (let f = sym e ∙ running_says d fits below chip w s h way.on u few (Some way.job) way.is in cc)
      by (Some r) e = (h, (i, e))

  pub position_decides : (r : Running) (bad : Bool) (v : ℕ) → IsDone d s w.now u bad → run_in (word_of chip (running_word u)) ≡ Some r → v ≡ word_of chip (position_word u) → Decided chip (serve_takes d u (serve.Position r bad) v)
  position_decides r bad v i e at = (h, record { done = i; run = e; at = ap position_in (sym at) })

  pub taker_decides : (r : Served) → IsServed d (word_of chip) s w.now u r → Decided chip (serve_takes d u (serve.Taker r) (word_of chip (asked_word (channel_served d r) r.at.word)))
  taker_decides r i = (h, record { served = i; taker = refl })

  pub receive_decides : (r : Served) (t : Taker) → IsTaken d (word_of chip) s w.now u r t → Decided chip (serve_takes d u (serve.Receive r t) (serials.received (unit_at chip.serials u) chip.serials.time))
  receive_decides r t i = decides_further r.failed refl (further_of d a) refl
    where
      a : Arrived
      a = record { served = r; taker = t; word = serials.received (unit_at chip.serials u) chip.serials.time }

      arrived : IsArrived d (word_of chip) s w.now u a
      arrived = record { taken = i; word = λ run is good. came run is good }
        where
          came : (run : Run) → unit_run d s u ≡ Some run → run.transfer.failed ≡ false → serials.received (unit_at chip.serials u) chip.serials.time ≡ run.transfer.incoming
          came run is good =
              let same : i.served.done.run ≡ run = some_is i.served.done.run run (sym i.served.done.is ∙ is) in
              received_says d fits below chip w s h u few run is (subst (λ (z : Run). is_done w.now z.transfer ≡ true) same i.served.done.done) good

      decides_further : (b : Bool) → r.failed ≡ b → (o : Option Position) → further_of d a ≡ o → Decided chip (begins_of d a, Goes None)
      decides_further true e o f = subst (λ z. Decided chip (z, Goes None)) (sym ends) (h, record { arrived = arrived; ends = ends })
        where
          ends : begins_of d a ≡ serve.Marks a
          ends = ap (λ b. if b then serve.Marks a else begins_by a (further_of d a)) e
      decides_further false e None f = subst (λ z. Decided chip (z, Goes None)) (sym ends) (h, record { arrived = arrived; ends = ends })
        where
          ends : begins_of d a ≡ serve.Marks a
          ends = ap (λ b. if b then serve.Marks a else begins_by a (further_of d a)) e ∙ ap (begins_by a) f
      decides_further false e (Some p) f = subst (λ z. Decided chip (z, Goes None)) (sym (ap (λ b. if b then serve.Marks a else begins_by a (further_of d a)) e ∙ ap (begins_by a) f)) (h, record { arrived = arrived; good = e; next = f })

  pub width_decides : (a : Arrived) (p : Position) (y : ℕ) → IsFurther d (word_of chip) s w.now u a p → Decided (chip_after chip (Write (SerialWidth u) (channel_next d a p).channel.width) y) (serve_takes d u (serve.Width a p) 0)
  width_decides a p y i = (width_agrees d below chip w s h u few (channel_next d a p).channel.width y, at (channel_next d a p) (channel_next d a p).channel.internal refl)
    where
      c : Chip
      c = chip_after chip (Write (SerialWidth u) (channel_next d a p).channel.width) y

      at : (x : Placed) (q : Bool) → x.channel.internal ≡ q → IsFurther d (word_of chip) s w.now u a p × ((unit_at c.serials u).width ≡ (channel_next d a p).channel.width) × IsFinding (word_of chip) x p.word (finding x p.word)
      at x true e = (i, width_is d below chip w s h u few (channel_next d a p).channel.width y, subst (λ q. IsFinding (word_of chip) x p.word (if q then finds.Pinned x p.word else finds.Held x p.word)) (sym e) (refl, refl, e))
      at x false e = (i, width_is d below chip w s h u few (channel_next d a p).channel.width y, subst (λ q. IsFinding (word_of chip) x p.word (if q then finds.Pinned x p.word else finds.Held x p.word)) (sym e) (refl, refl, e))

  -- the word is looked for
  module _ (a : Arrived) (p : Position) (i : IsFurther d (word_of chip) s w.now u a p) (wide : (unit_at chip.serials u).width ≡ (channel_next d a p).channel.width) where
    is_placed : channel_next d a p ≡ placed d fits below chip w s h u few a p i
    is_placed = next_channel d fits below chip w s h u few a p i

    -- where it is found, the place of its beginning stands
    begins_with : (v : ℕ) → v ≡ (word_after i.arrived.taken.served.done.run).sent → Decided chip (serve.Begin a p v, Goes None)
    begins_with v e = (h, (i, wide, λ run is. e ∙ ap (λ (z : Run). (word_after z).sent) (some_is i.arrived.taken.served.done.run run (sym i.arrived.taken.served.done.is ∙ is))))

    found_at : (x : Placed) → channel_next d a p ≡ x → (v : ℕ) → (by : SetUp) → unpacked (word_of chip (held_word x)) ≡ by → x.channel.internal ≡ false → IsFinding (word_of chip) x p.word (found_in x p.word by)
    found_at x e v by f external = whether by.source
        (λ g. subst (λ q. IsFinding (word_of chip) x p.word (if q then finds.Source x p.word else finds.Default x)) (sym g) (refl, refl, external, ap (λ z. z.source) f ∙ g))
        (λ g. subst (λ q. IsFinding (word_of chip) x p.word (if q then finds.Source x p.word else finds.Default x)) (sym g) (refl, external, ap (λ z. z.source) f ∙ g))

    module _ (x : Placed) (at : channel_next d a p ≡ x) where
      here : x ≡ placed d fits below chip w s h u few a p i
      here = sym at ∙ is_placed

      pub find_decides : (f : Find) → IsFinding (word_of chip) x p.word f → Decided chip (serve_finds a p f (value_of chip (find_move f)) (find_gave f (value_of chip (find_move f))))
      find_decides (finds.Pinned y j) (same, place, internal) =
          (h, (i, wide, subst (λ z. IsFinding (word_of chip) z p.word (find_left (finds.Pinned y j) (word_of chip (control_word y Sent)))) (sym at) (same, place, internal, ap (λ z. pinned_bank (word_of chip (control_word z Sent))) same)))
      find_decides (finds.Held y j) (same, place, external) =
          (h, (i, wide, subst (λ z. IsFinding (word_of chip) z p.word (found_in y j (unpacked (word_of chip (held_word y))))) (sym at) (subst (λ z. IsFinding (word_of chip) x p.word (found_in z j (unpacked (word_of chip (held_word z))))) (sym same) (subst (λ n. IsFinding (word_of chip) x p.word (found_in x n (unpacked (word_of chip (held_word x))))) (sym place) (found_at x at 0 (unpacked (word_of chip (held_word x))) refl external)))))
      find_decides (finds.Bank y j b) (same, place, internal, bank) =
          let placed_here : Placed = placed d fits below chip w s h u few a p i in
          subst (λ z. Decided chip (serve_finds a p (finds.Bank z j b) (word_of chip (bank_word z Sent b j)) (Some (masked_by z.channel (word_of chip (bank_word z Sent b j)))))) (sym (same ∙ here))
          (subst (λ n. Decided chip (serve_finds a p (finds.Bank placed_here n b) (word_of chip (bank_word placed_here Sent b n)) (Some (masked_by placed_here.channel (word_of chip (bank_word placed_here Sent b n)))))) (sym place)
          (subst (λ n. Decided chip (serve_finds a p (finds.Bank placed_here p.word n) (word_of chip (bank_word placed_here Sent n p.word)) (Some (masked_by placed_here.channel (word_of chip (bank_word placed_here Sent n p.word)))))) (sym (bank ∙ ap (λ z. pinned_bank (word_of chip (control_word z Sent))) here))
          (begins_with (masked_by placed_here.channel (word_of chip (bank_word placed_here Sent (pinned_bank (word_of chip (control_word placed_here Sent))) p.word))) (found_bank d fits below chip w s h u few a p i (ap (λ z. z.channel.internal) (sym here) ∙ internal)))))
      find_decides (finds.Source y j) (same, place, external, source) =
          let placed_here : Placed = placed d fits below chip w s h u few a p i in
          subst (λ z. Decided chip (serve_finds a p (finds.Source z j) (word_of chip (source_word z j)) (Some (masked_by z.channel (word_of chip (source_word z j)))))) (sym (same ∙ here))
          (subst (λ n. Decided chip (serve_finds a p (finds.Source placed_here n) (word_of chip (source_word placed_here n)) (Some (masked_by placed_here.channel (word_of chip (source_word placed_here n)))))) (sym place)
          (begins_with (masked_by placed_here.channel (word_of chip (source_word placed_here p.word))) (found_source d fits below chip w s h u few a p i (ap (λ z. z.channel.internal) (sym here) ∙ external) (ap (λ z. (unpacked (word_of chip (held_word z))).source) (sym here) ∙ source))))
      find_decides (finds.Default y) (same, external, source) =
          let placed_here : Placed = placed d fits below chip w s h u few a p i in
          subst (λ z. Decided chip (serve_finds a p (finds.Default z) (word_of chip (held_word z)) (Some (masked_by z.channel z.channel.default_data)))) (sym (same ∙ here))
          (begins_with (masked_by placed_here.channel placed_here.channel.default_data) (found_default d fits below chip w s h u few a p i (ap (λ z. z.channel.internal) (sym here) ∙ external) (ap (λ z. (unpacked (word_of chip (held_word z))).source) (sym here) ∙ source)))
      find_decides (finds.Newest y) i1 = absurd i1
      find_decides (finds.SetUp y) i1 = absurd i1

  pub marks_decides : (a : Arrived) → IsLast d (word_of chip) s w.now u a → Decided chip (serve_takes d u (serve.Marks a) (word_of chip MARKS))
  marks_decides a i = (h, (i, refl))

  pub nexts_decides : (a : Arrived) (c : Bool) → IsLast d (word_of chip) s w.now u a → c ≡ has_mark (word_of chip MARKS) (cancelled_bit a.served.run.sequence) → Decided chip (serve_takes d u (serve.Nexts a c) (word_of chip NEXTS))
  nexts_decides a c i e = (h, (i, ap (λ q. after_job d a.served q (word_of chip NEXTS)) e))

-- ---- the sequence goes on: it waits again, as a part of what is owed

-- ---- the sequence waits again: a part of what is owed

module _ (d : SpiTable) (fits : FitsSpi d) (e : FrameRole) (u : ℕ) (few : u < 2) (r : Served) where
  again_steps : (a : Again) (v : ℕ) (o : Option Answer) → (again_gave a v).ended ≡ o → PartTo waiting_again (spi_owing d) (λ x. Units (serving d e u (serve.Again r x))) (λ xs. None) a v o
  again_steps a v None f = ap (λ b. unless_done (after_serve (serving d e u (serve.Again r a)) (serve_again d r a v b)).1.done (unit_owed (after_serve (serving d e u (serve.Again r a)) (serve_again d r a v b)).0)) (ap is_some f)
  again_steps a v (Some x) f = ap (λ b. unless_done (after_serve (serving d e u (serve.Again r a)) (serve_again d r a v b)).1.done (unit_owed (after_serve (serving d e u (serve.Again r a)) (serve_again d r a v b)).0)) (ap is_some f)

  pub again_part : IsPart waiting_again (ranked.own_of (record { at = order_word u })) (spi_owing d) (λ x. Units (serving d e u (serve.Again r x))) (λ xs. None)
  again_part = record {
    moves = λ a. refl;
    steps = λ a v. again_steps a v (again_gave a v).ended refl;
    named = named_own d fits (ranked.own_of (record { at = order_word u })) (λ j own. own_order d u j few own);
    fits = λ a chip. tt;
  }

-- ---- the words

module _ (st : ToServe) (async : is_sync_unit st.d st.u ≡ false) (owner : Origin Call) (acted : Option Answer) (cs : List ChannelState)
    (like : IsFilled cs st.s) (c : Chip) (l : Left st owner acted cs like c)
    (more : st.g.pending.next + 1 < length (jobs_of st.d st.g.pending.sequence))
    (good : st.g.pending.cancelled ≡ false) where
  open st use {d, fits, below, chip, w, s, h, on, u, few, g, is}

  abbrev p : Pending
  p = g.pending

  there : Contains s.pending p
  there = (going_asked d fits below chip w s h u g few async is).0

  -- the machine's state then
  abbrev pub going_on : SpiState
  going_on = with_free s u cs (changed p.sequence goes_to_next s.pending) s.sequence_results (with_item SpiJobOk s.job_results (next_job d p) SpiJobOk)

  abbrev runs : ℕ → Bool
  runs = (view going_on).running

  abbrev idle : ℕ → Bool
  idle = (view going_on).idle

  over : runs p.sequence ≡ false
  over = none_runs st async

  others : (n : ℕ) → n ≢ p.sequence → runs n ≡ (view s).running n
  others = others_run st async

  rest : (n : ℕ) → 2 ≤ n → idle n ≡ true
  rest = few_run st async

  calm : (n : ℕ) → is_sync_unit d n ≡ true → idle n ≡ true
  calm = calm_run st async

  sound : IsSoundState d (view going_on)
  sound = sound_as d (next_view d fits below chip w s h p there more good runs idle over others rest calm on SpiJobOk tt) s.mode (view going_on).written (view going_on).received (view going_on).sources (λ e. absurd (let f = sym on ∙ e in cc)) (λ e n. absurd (let f = sym on ∙ e in cc)) (next_sound d fits below chip w s h p there more good runs idle over others rest calm on SpiJobOk tt)

  still : (x : Pending) → Contains s.pending x → x.sequence ≢ p.sequence → Contains going_on.pending x
  still x at ne = subst (λ z. Contains going_on.pending z) (item_other d fits below chip w s h p there more good runs idle over others rest calm on SpiJobOk tt x ne) (still_there d fits below chip w s h p there more good runs idle over others rest calm on SpiJobOk tt x at)

  owed : AreOwed d (start_owed u owner acted ∷ below) (going_left st) going_on
  owed n x lt free at mine = owed_left st owner acted n lt free (λ ne. by ne (contains_back item s.pending x at))
    where
      item : Pending → Pending
      item z = if is_of p.sequence z then goes_to_next z else z

      by : n ≢ u → (z : Pending) × Contains s.pending z × (x ≡ item z) → is_owed n below ≡ true
      by ne (z, at1, same) = h.owed n z lt (other_free st n ne free) at1 (sym (for_same d fits below chip w s h p there more runs over others n z at1) ∙ ap (is_for d n) (sym same) ∙ mine)

  -- ---- what is owed

  module _ (e : FrameRole) (r : Served) (t : Taker) (v : ℕ) (job_is : r.run.job ≡ next_job d p) (sequence_is : r.run.sequence ≡ p.sequence) (well : r.failed ≡ false) (next_is : v ≡ with_next_in (word_of chip NEXTS) p.sequence (p.next + 1)) where
    abbrev Waits : Chip → Type 0
    Waits f = SpiRepresents d (start_owed u owner acted ∷ below) f w going_on

    job_few : r.run.job < 16
    job_few = subst (λ j. j < 16) (sym job_is) (next_small d fits below chip w s h p (all_pending (view s) p there))

    abbrev result : ℕ
    result = job_word r.run.job

    aside : IsAside result
    aside = aside_high result (omega arith) (let lt = job_few in omega (arith, lt))

    apart : result ≢ NEXTS
    apart f = omega (arith, f)

    abbrev second : Chip
    second = both_told w u few c l.outside result aside (failed_word r.failed) NEXTS aside_nexts v apart

    module _ (f : Chip) (differs : DiffersIn (ranked.own_of (record { at = order_word u })) second f) (holds : ranked.Holds (record { at = order_word u }) (word_of f) (order.waiting r.run.sequence true (entries_of d (view s) u))) where
      other : (j : ℕ) → ranked.own_of (record { at = order_word u }) j ≡ false → j ≢ result → j ≢ NEXTS → word_of f j ≡ word_of c j
      other j out na nb = told_other w u few c l.outside result aside (failed_word r.failed) NEXTS aside_nexts v apart f differs j out na nb

      marks : word_of f MARKS ≡ word_of chip MARKS
      marks = other MARKS (not_order u MARKS (λ x. omega (arith, x)) (λ x. omega (arith, x)) (λ x. omega (arith, x))) (λ x. omega (arith, x)) (λ x. omega (arith, x)) ∙ l.first MARKS (omega arith) (omega arith) (λ x. omega (arith, x))

      high_same : (j : ℕ) → STATE + 24 ≤ j → j < STATE + 64 → j ≢ result → word_of f j ≡ word_of chip j
      high_same j le lt ne = other j (not_order u j (λ x. omega (arith, x, le, few)) (λ x. omega (arith, x, le, few)) (λ x. omega (arith, x, le, few))) ne (λ x. omega (arith, x, le)) ∙ l.first j (omega (arith, le)) lt (λ x. omega (arith, x, le, few))

      told : word_of f (job_word (next_job d p)) ≡ 0
      told = ap (λ j. word_of f (job_word j)) (sym job_is) ∙ told_first w u few c l.outside result aside (failed_word r.failed) NEXTS aside_nexts v apart f differs ∙ ap failed_word well

      nexts_told : word_of f NEXTS ≡ with_next_in (word_of chip NEXTS) p.sequence (p.next + 1)
      nexts_told = told_second w u few c l.outside result aside (failed_word r.failed) NEXTS aside_nexts v apart f differs ∙ next_is

      orders : (n : ℕ) → n < 2 → ranked.Holds (record { at = order_word n }) (word_of f) (entries_of d (next_view d fits below chip w s h p there more good runs idle over others rest calm on SpiJobOk tt) n)
      orders n lt = subst (λ xs. ranked.Holds (record { at = order_word n }) (word_of f) xs) (sym (waits_again d fits below chip w s h p there more runs over others n)) (by (same_or_other n u))
        where
          by : (n ≡ u) ⊎ (n ≢ u) → ranked.Holds (record { at = order_word n }) (word_of f) (order.waiting p.sequence true (entries_of d (view s) n))
          by (inl x) = subst (λ k. ranked.Holds (record { at = order_word k }) (word_of f) (order.waiting p.sequence true (entries_of d (view s) k))) (sym x) (subst (λ q. ranked.Holds (record { at = order_word u }) (word_of f) (order.waiting q true (entries_of d (view s) u))) sequence_is holds)
          by (inr ne) = subst (λ xs. ranked.Holds (record { at = order_word n }) (word_of f) xs) (sym (waiting-absent p.sequence true (entries_of d (view s) n) (in_no_other st n ne)))
              (order_other w u few c l.outside result aside (failed_word r.failed) NEXTS aside_nexts v apart f differs n lt ne (entries_of d (view s) n) (order_left st owner acted cs like c l n lt))

      sequences : SequencesAgree d (word_of f) (view going_on)
      sequences = sequences_as d (next_view d fits below chip w s h p there more good runs idle over others rest calm on SpiJobOk tt) s.mode (view going_on).written (view going_on).received (view going_on).sources (word_of f)
          (next_words d fits below chip w s h p there more good runs idle over others rest calm on SpiJobOk tt (word_of f) nexts_told marks
          (λ n lt. high_same (sequence_word n) (omega arith) (omega (arith, lt)) (λ x. let j = job_few in omega (arith, x, j))) told
          (λ j lt ne. high_same (job_word j) (omega arith) (omega (arith, lt)) (λ x. let same = job_is in ne (omega (arith, x, same)))) orders)

      represents : Waits f
      represents = freed_agrees st async owner acted cs like c f l (is_told w u few c l.outside result aside (failed_word r.failed) NEXTS aside_nexts v apart f differs) going_on.pending going_on.sequence_results going_on.job_results sound still sequences owed

    goes_on_owes : (n : ℕ) × CommitsTo (spi_owing d) n (Units (serving d e u (serve.Result (record { served = r; taker = t; course = courses.Further v })))) c Waits
    goes_on_owes = one_owed (spi_owing d) Waits (Units (serving d e u (serve.Result (record { served = r; taker = t; course = courses.Further v })))) c (Some (Units (serving d e u (serve.Further r v)))) (may_store d fits result (failed_word r.failed) (own_first d result (omega arith) (let lt = job_few in omega (arith, lt)))) tt refl
        (one_owed (spi_owing d) Waits (Units (serving d e u (serve.Further r v))) first (Some (Units (serving d e u (serve.Again r (agains.Look (order_places u) r.run.sequence))))) (may_store d fits NEXTS v (own_first d NEXTS (omega arith) (omega arith))) tt refl
        (settles_part waiting_again (ranked.own_of (record { at = order_word u })) (spi_owing d) (λ x. Units (serving d e u (serve.Again r x))) (λ xs. None) (again_part d fits e u few r) (order_there u few)
        (λ m words. ranked.Holds (record { at = order_word u }) m (order.waiting r.run.sequence true (entries_of d (view s) u)) × (words ≡ [])) Waits
        2 (agains.Look (order_places u) r.run.sequence) second (both_outside w u few c l.outside result aside (failed_word r.failed) NEXTS aside_nexts v apart).all.words
        (again-ends (record { at = order_word u }) r.run.sequence (word_of second) (entries_of d (view s) u) number (order_before w u few c l.outside result aside (failed_word r.failed) NEXTS aside_nexts v apart u few (entries_of d (view s) u) (order_left st owner acted cs like c l u few)))
        (λ f xs differs holds. represents f differs holds.0)))
      where
        first : Chip
        first = first_told w u few c l.outside result aside (failed_word r.failed) NEXTS aside_nexts v apart

        number : r.run.sequence < 16
        number = let lt = (h.sound.entries p (all_pending (view s) p there)).number in let same = sequence_is in omega (arith, lt, same)

-- ---- what a job's end owes

-- a sequence that goes on was not cancelled, and its job ended well
goes_by_end : (cancelled failed further : Bool) → end_by cancelled failed further ≡ None → (cancelled ≡ false) × (failed ≡ false) × (further ≡ true)
goes_by_end false false true e = (refl, refl, refl)
goes_by_end _ _ _ e = absurd (cc)

-- one that ends has a result
ends_by_end : (cancelled failed further : Bool) (x : AnswerName) → end_by cancelled failed further ≡ Some x → IsOfSequence x × (x ≡ SpiSeqPending → ⊥)
ends_by_end c f m x e = by (end_by c f m) refl e
  where
    is : (y : AnswerName) → IsOfSequence y × (y ≡ SpiSeqPending → ⊥) → y ≡ x → IsOfSequence x × (x ≡ SpiSeqPending → ⊥)
    is y a same = subst (λ z. IsOfSequence z × (z ≡ SpiSeqPending → ⊥)) same a

    one : (c f m : Bool) → end_by c f m ≡ Some x → IsOfSequence x × (x ≡ SpiSeqPending → ⊥)
    one true f m e = is SpiSeqCanceled (tt, λ q. absurd (cc)) (some_is SpiSeqCanceled x e)
    one false true m e = is SpiSeqFailed (tt, λ q. absurd (cc)) (some_is SpiSeqFailed x e)
    one false false true e = absurd (cc)
    one false false false e = is SpiSeqOk (tt, λ q. absurd (cc)) (some_is SpiSeqOk x e)

    by : (o : Option AnswerName) → end_by c f m ≡ o → o ≡ Some x → IsOfSequence x × (x ≡ SpiSeqPending → ⊥)
    by o e f1 = one c f m (e ∙ f1)

module _ (d : SpiTable) (fits : FitsSpi d) (below : Reservations) (chip : Chip) (w : World) (s : SpiState) (h : SpiRepresents d below chip w s) (u : ℕ) (few : u < 2) (async : is_sync_unit d u ≡ false) (a : Arrived) (i : IsLast d (word_of chip) s w.now u a) (y : ℕ) where
  abbrev served : IsServed d (word_of chip) s w.now u a.served
  served = ends.by d fits below chip w s h u few a i y

  abbrev under : UnderWay d below chip w s h u served.done.run
  under = ends.under d fits below chip w s h u few a i y

  abbrev g : Going
  g = under.job

  abbrev run : Run
  run = served.done.run

  abbrev entry : Pending
  entry = g.pending

  abbrev ending : Option AnswerName
  ending = ends.ending d fits below chip w s h u few a i y async

  abbrev failed : Bool
  failed = run.transfer.failed

  -- ---- the machine's state

  abbrev cs : List ChannelState
  cs = (after_last s run failed).channels

  abbrev results : List AnswerName
  results = with_item SpiJobOk s.job_results (next_job d entry) (result_by failed)

  abbrev pending_by : Option AnswerName → List Pending
  pending_by None = changed entry.sequence goes_to_next s.pending
  pending_by (Some x) = without entry.sequence s.pending

  abbrev sequences_by : Option AnswerName → List AnswerName
  sequences_by None = s.sequence_results
  sequences_by (Some x) = with_item SpiSeqOk s.sequence_results entry.sequence x

  abbrev jobs_by : Option AnswerName → List AnswerName
  jobs_by None = results
  jobs_by (Some x) = given_back d entry (entry.next + 1) results

  abbrev pub state3 : Option AnswerName → SpiState
  state3 o = with_free s u cs (pending_by o) (sequences_by o) (jobs_by o)

  state_is : (o : Option AnswerName) → ends.state2 d fits below chip w s h u few a i y async o ≡ state3 o
  state_is None = ap (λ (z : SpiState). with_free z u cs (changed entry.sequence goes_to_next z.pending) z.sequence_results (with_item SpiJobOk z.job_results (next_job d entry) (result_by failed))) (last_is s run failed)
  state_is (Some x) = ap (λ (z : SpiState). with_free z u cs (without entry.sequence z.pending) (with_item SpiSeqOk z.sequence_results entry.sequence x) (given_back d entry (entry.next + 1) (with_item SpiJobOk z.job_results (next_job d entry) (result_by failed)))) (last_is s run failed)

  abbrev pub out : Outcome SpiState
  out = outcome_with (state3 ending) (notes (ends.end_notices d entry ending)) None

  pub over_is : (spi_machine d).happens w s (Serves (26 + u) y) ≡ Some out
  over_is = ends.ends_is d fits below chip w s h u few a i y async ∙ ap (λ z. Some (outcome_with z (notes (ends.end_notices d entry ending)) None)) (state_is ending)

  like : IsFilled cs s
  like = last_like s run failed

  -- ---- the frame's part of it

  -- the chip as the word is acknowledged
  abbrev pub chip1 : Chip
  chip1 = chip_after chip (Write (SerialAck u) 1) y

  abbrev st : ToServe
  st = record { d = d; fits = fits; below = below; chip = chip; w = w; s = s; h = h; on = under.on; u = u; few = few; g = g; is = under.is }

  module _ (e : FrameRole) (owner : Origin Call) (acted : Option Answer) (c : SequenceNext) (c_is : c ≡ after_job d a.served (has_mark (word_of chip MARKS) (cancelled_bit a.served.run.sequence)) (word_of chip NEXTS)) where
    abbrev held : Reservations
    held = start_owed u owner acted ∷ below

    abbrev Done : Chip → Type 0
    Done f = SpiRepresents d held f w (state3 ending)

    abbrev Owes : ServePlace → Chip → Type 0
    Owes q c1 = (n : ℕ) × CommitsTo (spi_owing d) n (Units (serving d e u q)) c1 Done

    abbrev leaving : SequenceNext → Leaving
    leaving z = record { served = a.served; taker = a.taker; course = z }

    abbrev Ready : Chip → Type 0
    Ready c1 = Left st owner acted cs like c1

    -- the results, by how the sequence goes on
    told_as : (o : Option AnswerName) → ending ≡ o → (c1 : Chip) → Ready c1 → (n : ℕ) × CommitsTo (spi_owing d) n (Units (serving d e u (serve.Result (leaving (course_by (word_of chip NEXTS) entry.sequence entry.next o))))) c1 (λ f. SpiRepresents d held f w (state3 o))
    told_as None f c1 left =
        let q = goes_by_end entry.cancelled failed (has_further d entry) f in
        subst (λ z. (n : ℕ) × CommitsTo (spi_owing d) n (Units (serving d e u (serve.Result (leaving (courses.Further (with_next_in (word_of chip NEXTS) entry.sequence (entry.next + 1))))))) c1 (λ k. SpiRepresents d held k w (with_free s u cs (changed entry.sequence goes_to_next s.pending) s.sequence_results (with_item SpiJobOk s.job_results (next_job d entry) z)))) (sym (ap result_by q.1))
        (goes_on_owes st async owner acted cs like c1 left (is_below (entry.next + 1) (length (jobs_of d entry.sequence)) q.2) q.0 e a.served a.taker (with_next_in (word_of chip NEXTS) entry.sequence (entry.next + 1))
        (ends.job_is d fits below chip w s h u few a i y) (ends.sequence_is d fits below chip w s h u few a i y) (sym served.done.failed ∙ q.1) refl)
    told_as (Some x) f c1 left =
        let q = ends_by_end entry.cancelled failed (has_further d entry) x f in
        over_laws.result_owes st async owner acted cs like c1 left failed x q.0 q.1 e a.served a.taker (sequence_code x)
        (ends.job_is d fits below chip w s h u few a i y) (ends.sequence_is d fits below chip w s h u few a i y) (sym served.done.failed) refl

    result_owes : (c1 : Chip) → Ready c1 → Owes (serve.Result (leaving c)) c1
    result_owes c1 left = by ending refl
      where
        by : (o : Option AnswerName) → ending ≡ o → Owes (serve.Result (leaving c)) c1
        by o f =
            subst (λ z. Owes (serve.Result (leaving z)) c1) (sym (c_is ∙ ends.course_is d fits below chip w s h u few a i y async ∙ ap (course_by (word_of chip NEXTS) entry.sequence entry.next) f))
            (subst (λ z. (n : ℕ) × CommitsTo (spi_owing d) n (Units (serving d e u (serve.Result (leaving (course_by (word_of chip NEXTS) entry.sequence entry.next o))))) c1 (λ k. SpiRepresents d held k w (state3 z))) (sym f) (told_as o f c1 left))

    well : a.served.failed ≡ false → ends_well (Some run) ≡ true
    well good = ap (λ q. not q && not (goes_on run)) (served.done.failed ∙ good) ∙ ap not (ends_here d fits below chip w s h u few a i)

    pub job_owes : Owes (serve.Free a c) chip1
    job_owes =
        left_owes d fits below chip w s h u few a i y (λ q. Units (serving d e u q)) (served_ends d e u) owner acted c (state3 ending) like
        (λ good. served_stored st run out y over_is (ends.runs d fits below chip w s h u few a i y async) (served.done.failed ∙ good) (well good))
        (λ f. ap (λ b. (after_last s run b).channels) (served.done.failed ∙ f)) Done (λ c1 l. result_owes c1 l)

-- ---- the step

-- What is owed after the event: to a further word nothing else, since it clears the unit, and to a job's end a start, and its notices.
abbrev pub ServeOwes : SpiTable → FrameRole → Reservations → (number : ℕ) → (after : Chip) → World → (state : SpiState) → List Notice → ServePlace → (ahead : Option (List Notice)) → Type 0
ServeOwes d e below u after w state ns p None = (ns ≡ []) × ((owner : Origin Call) (acted : Option Answer) → (n : ℕ) × CommitsTo (spi_owing d) n (Units (serving d e u p)) after (λ c. SpiRepresents d (cleared_of u owner acted ∷ below) c w state))
ServeOwes d e below u after w state ns p (Some told) = (ns ≡ told) × ((owner : Origin Call) (acted : Option Answer) → (n : ℕ) × CommitsTo (spi_owing d) n (Units (serving d e u p)) after (λ c. SpiRepresents d (start_owed u owner acted ∷ below) c w state))

-- the word is served: a further one begins or the job ends, and the rest of the window is owed
pub record ServeHappens (d : SpiTable) (e : FrameRole) (below : Reservations) (u : ℕ) (before after : Chip) (w : World) (s : SpiState) (made : Move) (received : ℕ) (p : ServePlace) (event : Event) : Type 0 where
  pub state : SpiState
  pub notices : List Notice
  pub begins : Option Begun
  pub is : (spi_machine d).happens w s (Serves (26 + u) received) ≡ Some (outcome_with state (notes notices) begins)
  pub is_serve : event ≡ events.Serve (26 + u)
  pub sends : SendsRight before begins made
  pub owing : serve_owes p ≡ true
  pub owes : ServeOwes d e below u after w state notices p (serve_ahead d p)

-- what such a step leaves
abbrev pub Leaves : SpiTable → FrameRole → Reservations → (number : ℕ) → (before after : Chip) → World → SpiState → Move → (received : ℕ) → ServePlace × ServeStep → Type 0
Leaves d e below u before after w s made received (p, Goes None) = SpiRepresents d below after w s × serve_place d u p (footing after) w s × (serve_owes p ≡ false)
Leaves d e below u before after w s made received (p, Over) = SpiRepresents d below after w s × (ready w s (26 + u) ≡ false) × (serve_owes p ≡ false)
Leaves d e below u before after w s made received (p, JobOver x) = ⊥
Leaves d e below u before after w s made received (p, Goes (Some x)) = ServeHappens d e below u before after w s made received p x

module _ (d : SpiTable) (fits : FitsSpi d) (e : FrameRole) (below : Reservations) (chip : Chip) (w : World) (s : SpiState) (h : SpiRepresents d below chip w s) (u : ℕ) (few : u < 2) (async : is_sync_unit d u ≡ false) (y : ℕ) where
  -- nothing is owed at a place where something stands
  stands_free : (q : ServePlace) (c : Chip) → word_place d u q (footing c) w s → serve_owes q ≡ false
  stands_free serve.Shut c i = refl
  stands_free _ c i = search

  decided : (c : Chip) (made : Move) (r : ServePlace × ServeStep) → Decided d fits below chip w s h u few c r → Leaves d e below u chip c w s made y r
  decided c made (p, Goes None) i = (i.0, (async, i.1), stands_free p c i.1)
  decided c made (p, Over) i = i
  decided c made (p, JobOver x) i = absurd i
  decided c made (p, Goes (Some x)) i = absurd i

  abbrev At : Move → ServePlace → ℕ → Type 0
  At made p v = Leaves d e below u chip (chip_after chip made y) w s made y (serve_takes d u p v)

  abbrev Step : Move → ServePlace → Type 0
  Step made p = At made p (value_of chip made)

  -- after its beginning the window owes moves
  lets_owing : (a : Arrived) (p : Position) → serve_owes (lets_of d a p) ≡ true
  lets_owing a p = grind arith

  -- and nothing is told after them
  lets_ahead : (a : Arrived) (p : Position) → serve_ahead d (lets_of d a p) ≡ None
  lets_ahead a p = grind arith

  pub steps_right : (p : ServePlace) → serve_owes p ≡ false → is_shared (serve_move d u p) ≡ false → word_place d u p (footing chip) w s → Step (serve_move d u p) p
  steps_right serve.Shut f k i = absurd (cc)
  steps_right serve.State f k i = decided chip (serve_move d u serve.State) (serve_takes d u serve.State (value_of chip (serve_move d u serve.State))) (state_decides d fits below chip w s h u few async)
  steps_right (serve.Running b) f k i = decided chip (serve_move d u (serve.Running b)) (serve_takes d u (serve.Running b) (value_of chip (serve_move d u (serve.Running b)))) (running_decides d fits below chip w s h u few b i)
  steps_right (serve.Position r b) f k i = decided chip (serve_move d u (serve.Position r b)) (serve_takes d u (serve.Position r b) (value_of chip (serve_move d u (serve.Position r b)))) (position_decides d fits below chip w s h u few r b (word_of chip (position_word u)) i.0 i.1 refl)
  steps_right (serve.Taker r) f k i = subst (λ made. Step made (serve.Taker r)) (sym (asks_load (channel_served d r) r.at.word)) (decided chip (Load (asked_word (channel_served d r) r.at.word)) (serve_takes d u (serve.Taker r) (word_of chip (asked_word (channel_served d r) r.at.word))) (taker_decides d fits below chip w s h u few r i))
  steps_right (serve.Receive r t) f k i = decided chip (serve_move d u (serve.Receive r t)) (serve_takes d u (serve.Receive r t) (value_of chip (serve_move d u (serve.Receive r t)))) (receive_decides d fits below chip w s h u few r t i)
  steps_right (serve.Width a p) f k i = decided (chip_after chip (serve_move d u (serve.Width a p)) y) (serve_move d u (serve.Width a p)) (serve_takes d u (serve.Width a p) (value_of chip (serve_move d u (serve.Width a p)))) (width_decides d fits below chip w s h u few a p y i)
  steps_right (serve.Find a p x) f k (i, wide, finding) = found x finding
    where
      found : (x : Find) → IsFinding (word_of chip) (channel_next d a p) p.word x → Step (find_move x) (serve.Find a p x)
      found (finds.Newest z) j = absurd j
      found (finds.SetUp z) j = absurd j
      found z j = decided chip (find_move z) (serve_takes d u (serve.Find a p z) (value_of chip (find_move z))) (find_decides d fits below chip w s h u few a p i wide (channel_next d a p) refl z j)
  steps_right (serve.Begin a p v) f k (i, wide, word) = record {
    state = state1 d fits below chip w s h u few a p v y i wide word async;
    notices = [];
    begins = Some (word1 d fits below chip w s h u few a p v y i wide word);
    is = further_is d fits below chip w s h u few a p v y i wide word async;
    is_serve = refl;
    sends = asked_sends d fits below chip w s h u few a p v y i wide word async;
    owing = lets_owing a p;
    owes = subst (λ o. ServeOwes d e below u (chip_after chip (serve_move d u (serve.Begin a p v)) y) w (state1 d fits below chip w s h u few a p v y i wide word async) [] (lets_of d a p) o) (sym (lets_ahead a p)) (refl, λ owner acted. asked_owes d fits below chip w s h u few a p v y i wide word async e owner acted);
  }
  steps_right (serve.Marks a) f k i = decided chip (serve_move d u (serve.Marks a)) (serve_takes d u (serve.Marks a) (value_of chip (serve_move d u (serve.Marks a)))) (marks_decides d fits below chip w s h u few a i)
  steps_right (serve.Nexts a c) f k i = decided chip (serve_move d u (serve.Nexts a c)) (serve_takes d u (serve.Nexts a c) (value_of chip (serve_move d u (serve.Nexts a c)))) (nexts_decides d fits below chip w s h u few a c i.0 i.1)
  steps_right (serve.Acknowledge a c) f k (i, course) = record {
    state = state3 d fits below chip w s h u few async a i y (ends.ending d fits below chip w s h u few a i y async);
    notices = notices_by d a.served c;
    begins = None;
    is = over_is d fits below chip w s h u few async a i y ∙ ap (λ ns. Some (outcome_with (state3 d fits below chip w s h u few async a i y (ends.ending d fits below chip w s h u few a i y async)) (notes ns) None)) (ends_told d fits below chip w s h u few a i y async c course);
    is_serve = refl;
    sends = ends_sends d fits below chip w s h u few a i y;
    owing = refl;
    owes = (refl, λ owner acted. job_owes d fits below chip w s h u few async a i y e owner acted c course);
  }
  steps_right _ f k i = absurd (cc)
