-- A call that sends a sequence and waits: each of its steps that owes nothing is right, from what its windows owe.
-- From spi_sequences: services.SyncSteps, spi_sequences: services.ServeSteps, services.SendAround and 18 more.
-- Used by services.SendRight.
use Rattle.std.proofs.Common.{◌≡◌, ◌≢◌, ◌+◌, ◌-◌, ◌%◌, ◌<◌, ◌==◌, ◌&&◌, ◌∷◌, ◌∙◌, ◌⊎◌, if◌then◌else◌}
use Rattle.spi_laws.specs.sending.Terms
use Terms.{agrees_at, and_parts, answers, ap, apart_agrees, arith, Arrived, asked_word, asking, asks_load, bank_of}
use Terms.{BanksAgree, begins_by, begins_of, BodyTaken, Bool, by_two, Call, Called, carried_at, CarriesAgrees, Channel}
use Terms.{channel_at_place, channel_next, channel_of, channel_sent, channel_there, channels_of, Chip, chip_after}
use Terms.{CommitsTo, control_word, Decided, FAILED, false, Find, find_decides, find_gave, find_move, finding_first}
use Terms.{first_place, FitsSpi, for_at, free_bank, fresh_history, further_of, get_or-set_other, get_or-set_same}
use Terms.{get_within, goes, Going, GoingAgrees, has_channel, has_further_job, held_word, inl, inr, is_below, is_for}
use Terms.{is_kept, is_last_place, is_off, is_some, is_sync_unit, Is_this_frame, IsFinding, IsLast, IsSending}
use Terms.{IsServed, job_at_place, jobs_in, jobs_list, jobs_of, keep_of, length, length-set, List, LooksAt, map, Mask}
use Terms.{masked_by, missed_after, Move, nat_lt, nat_tests, next_job, next_job_of, None, none_received, not, Option}
use Terms.{or_none, Origin, Part, parts_few, Placed, placed_of, plain_makes, Position, PutIn, PutRight, Putting, Read}
use Terms.{receive_decides, Received, received_of, refl, releasing, Reservations, Right, run_carried, Running}
use Terms.{same_or_other, Sends, Sent, sent, sent_owes, Sequence, sequence_of, SerialData, SerialSelect, SerialWait}
use Terms.{serve_finds, Served, ServePlace, set_up_word, slice_get, slice_index_or, slice_set, Some, source_word}
use Terms.{spi_basis, spi_machine, spi_owing, SpiRepresents, SpiState, SpiTable, stall_of, stands-move, StandsAt}
use Terms.{Start, subst, sym, sync_arrives, sync_at, sync_comes, sync_finds, sync_goes_to, sync_job_over, sync_move}
use Terms.{sync_owes, SyncBody, SyncPlace, taken_of, Taker, taker_of, tells_nothing, trio_of, true, turned_agrees}
use Terms.{unit_at, unit_few, unit_named, unit_same, Unmask, unpacked, value_of, view, width_agrees, width_decides}
use Terms.{width_is, will_give, with_taken, word_of, word_place, Works, World, Write, ℕ}
use Rattle.spi_laws.specs.sending.Sending.{BeforeJob, device_at, IsSeeking, IsSender, sent_answer, word_sent}
use Rattle.spi_laws.specs.sending.laws.bookkeeping.HeldWord as held
use Rattle.spi_laws.specs.sending.laws.{bookkeeping.HeldWord.{knows_end, reheld, sending_of}}
use Rattle.spi_laws.specs.sending.laws.{bookkeeping.SelectsNext.{reselects, selected_is}}
use Rattle.spi_laws.specs.sending.laws.{services.SendAround.{asking_plain, body, find_plain, foot, StandAt, V}}
use Rattle.spi_laws.specs.sending.laws.{services.SendFree.{first_width, looks_free, seeks}}
use Rattle.spi_laws.specs.sending.laws.{services.SendFurther.{word_begins}, services.SendLast.{sequence_ends}}
use Rattle.spi_laws.specs.sending.laws.{services.SendWindows.{AreWindowsRight, asks, WordBegins}}
use Rattle.spi_laws.specs.serving.laws.bookkeeping.JobEnd.{jobs_count}
use Rattle.chip_blocks.specs.units.Serials as serials
use Rattle.word_shapes.specs.declared.jobs.finding.Find.TheVariants as finds
use Rattle.word_shapes.specs.declared.jobs.keeping.Taker.TheVariants as takers
use Rattle.spi_sequences.specs.declared.service.serve.SequenceNext.TheVariants as courses
use Rattle.spi_sequences.specs.declared.service.serve.ServePlace.TheVariants as serve
use Rattle.spi_sequences.specs.declared.service.serve.ServeStep.TheVariants as steps
use Rattle.spi_sequences.specs.declared.service.sync.SyncPlace.TheVariants as place

-- ---- the banks that the frame keeps

-- a bank that has words of a channel is one of three
held_small : (d : SpiTable) (fits : FitsSpi d) (held : Reservations) (chip : Chip) (w : World) (s : SpiState) (h : SpiRepresents d held chip w s) (on : is_off s.mode ≡ false) (u : ℕ) (few : u < 2) (g : Going) (is : h.going u ≡ Some g) (i : ℕ) (x : Part) (there : slice_get g.parts i ≡ Some x) (z : Channel) → channel_of d x.channel ≡ Some z → z.internal ≡ true
    → 0 < taken_of g.at i (length x.values) → word_of chip (held_word (placed_of d x.channel)) < 3
held_small d fits held chip w s h on u few g is i x there z known inner some = subst (λ n. n < 3) (sym put.3) (subst (λ o. PutIn (trio_of (placed_of d x.channel) Received) (word_of chip) was.received.bank was.received.take o) put.1 was.receives.put).below
  where
    was : BanksAgree d held h.going (word_of chip) (view s) x.channel z
    was = h.words.banks x.channel z known inner

    put : (p : Putting) × (was.received.put ≡ Some p) × (p.filled ≡ received_of g i x) × (word_of chip (held_word (placed_of d x.channel)) ≡ p.bank)
    put = is_kept d fits held chip w s h on u g few is i x there some was.received.put (subst (λ o. PutRight h.going (word_of chip) (placed_of d x.channel) o was.received.put) (none_received d s.mode s.channels (view s).sources x.channel held on h.right) was.keeps)

-- at the place of the word in transfer one is kept behind the first word alone
taken_here : (at : Position) (i k : ℕ) → i ≡ at.channel → 0 < taken_of at i k → (at.word == 0) ≡ false
taken_here at i k e some = grind (arith, nat_tests)

module _ (d : SpiTable) (fits : FitsSpi d) (windows : AreWindowsRight d) (q u n : ℕ) (at : Position) (bs : List ℕ) (below : Reservations) (chip : Chip) (w : World) (s : SpiState) (y : ℕ) (m : ℕ → Bool) where
  abbrev k : SyncPlace → SyncBody
  k p = body d q u n at bs p

  abbrev o : Origin Call
  o = Called (asks q)

  abbrev Stand : SyncPlace → Type 0
  Stand p = StandAt d below chip w s (k p) o fresh_history

  abbrev pub Step : SyncPlace → Type 0
  Step p = Right (spi_basis d) (V d) below chip w s (k p) o y fresh_history m

  abbrev Sender : Type 0
  Sender = IsSender d d q u bs below o fresh_history

  abbrev missed : ℕ → Bool
  missed = missed_after (spi_machine d) w s m

  few_of : Sender → u < 2
  few_of is = subst (λ i. i < 2) (sym is.unit) (unit_few d fits q)

  -- ---- the first word is looked for

  under_four : (v : ℕ) → v % 4 < 4
  under_four v = omega arith

  find_right : (b : Option Arrived) (f : Find) → Stand (place.Find b f) → Step (place.Find b f)
  find_right b (finds.Newest x) (h, (is, was, i)) = (h, (is, was, record { number = i.number; channel = i.channel; first = i.first; known = i.known; looks = (i.looks.0, i.looks.1, refl, under_four (word_of chip (control_word x Sent))); will = i.will }))
  find_right b (finds.SetUp x) (h, (is, was, i)) = let r = found_so (or_none (word_of chip (set_up_word x)) x.channel).source i.will in (h, (is, was, record { number = i.number; channel = i.channel; first = i.first; known = i.known; looks = r.0; will = r.1 }))
    where
      found_so : (z : Bool) → (if z then masked_by x.channel (word_of chip (source_word x 0)) else masked_by x.channel x.channel.default_data) ≡ (word_sent d s (k (place.Find b (finds.SetUp x)))).sent
          → LooksAt d i.number i.channel (if z then finds.Source x 0 else finds.Default x) × (will_give (word_of chip) (if z then finds.Source x 0 else finds.Default x) ≡ (word_sent d s (k (place.Find b (finds.SetUp x)))).sent)
      found_so true e = ((i.looks, refl), e)
      found_so false e = (i.looks, e)
  find_right b (finds.Bank x i e) (h, (is, was, z)) = (h, (is, was, z.will))
  find_right b (finds.Source x i) (h, (is, was, z)) = (h, (is, was, z.will))
  find_right b (finds.Default x) (h, (is, was, z)) = (h, (is, was, z.will))
  find_right b (finds.Pinned x i) (h, (is, was, z)) = absurd z.looks
  find_right b (finds.Held x i) (h, (is, was, z)) = absurd z.looks

  -- ---- the unit is made ready

  select_right : (b : Option Arrived) (x : ℕ) → Stand (place.Select b x) → Step (place.Select b x)
  select_right None x (h, (is, was, sent)) = (
    turned_agrees d below chip w s h u free (record (unit_at chip.serials u) { select = device_at d q n }) refl few (chip_after chip (Write (SerialSelect u) (device_at d q n)) y) (stands-move chip w (Write (SerialSelect u) (device_at d q n)) y h.outside) refl refl refl refl,
    (is, was, (sent, ap (λ z. z.select) (unit_same chip u (record (unit_at chip.serials u) { select = device_at d q n }) h.size few))),
  )
    where
      few : u < 2
      few = few_of is

      free : h.going u ≡ None
      free = by (h.going u) refl (h.sends u few (ap (is_sync_unit d) is.unit ∙ is.sync))
        where
          by : (g : Option Going) → h.going u ≡ g → CarriesAgrees d (unit_at chip.serials u) (run_carried (carried_at s u)) g → g ≡ None
          by None e a = refl
          by (Some g) e a = absurd (let f = sym (ap run_carried was.0) ∙ a.1 in cc)
  select_right (Some r) x (h, (is, was, sent)) = (
    reselects d below chip w s u q (n - 1) r.served.at bs (Some false) (device_at d q (n - 1)) h is.alone (device_at d q n) y,
    (is, was, (sent, selected_is d below chip w s u q (n - 1) r.served.at bs (Some false) (device_at d q (n - 1)) h is.alone (device_at d q n) y)),
  )

  -- the job that begins is one of the sequence
  module _ (is : Sender) where
    some_jobs : 0 < length (jobs_of d q)
    some_jobs = subst (λ i. 0 < i) (jobs_count d fits q) (by (sequence_of d q) refl)
      where
        by : (z : Option Sequence) → sequence_of d q ≡ z → 0 < (jobs_list d q).count
        by None e = absurd (let f = sym is.known ∙ ap (λ i. is_some i) e in cc)
        by (Some x) e = subst (λ i. 0 < (jobs_in i).count) (sym e) (fits.sequences q x e).some

  width_right : (b : Option Arrived) (x : ℕ) → Stand (place.Width b x) → Step (place.Width b x)
  width_right None x (h, (is, was, (sent, select))) = (
    width_agrees d below chip w s h u (few_of is) (channel_at_place d (job_at_place d q n) 0).channel.width y,
    (
      is,
      was,
      (
        sent,
        ap (λ z. z.select) (unit_same chip u (record (unit_at chip.serials u) { width = (channel_at_place d (job_at_place d q n) 0).channel.width }) h.size (few_of is)) ∙ select,
        width_is d below chip w s h u (few_of is) (channel_at_place d (job_at_place d q n) 0).channel.width y ∙ first_width d fits below chip w s h was.2 q n (subst (λ i. i < length (jobs_of d q)) (sym was.1) (some_jobs is)),
      ),
    ),
  )
  width_right (Some r) x (h, (is, was, (sent, select))) = (
    width_agrees d (sending_of u q (n - 1) r.served.at bs (Some false) (device_at d q n) ∷ below) chip w s h u (few_of is) (channel_at_place d (job_at_place d q n) 0).channel.width y,
    (
      is,
      was,
      (
        sent,
        ap (λ z. z.select) (unit_same chip u (record (unit_at chip.serials u) { width = (channel_at_place d (job_at_place d q n) 0).channel.width }) h.size (few_of is)) ∙ select,
        width_is d (sending_of u q (n - 1) r.served.at bs (Some false) (device_at d q n) ∷ below) chip w s h u (few_of is) (channel_at_place d (job_at_place d q n) 0).channel.width y
            ∙ first_width d fits (sending_of u q (n - 1) r.served.at bs (Some false) (device_at d q n) ∷ below) chip w s h h.right.0.1 q n was.3,
      ),
    ),
  )

  -- ---- a word begins

  by_unit : u < 2 → (P : ℕ → Type 0) → P 0 → P 1 → P u
  by_unit few P a b = by_two P a b u few

  begins_so : u < 2 → (x value : ℕ) (p : SyncPlace) (z : SyncPlace) (held : Reservations) → WordBegins d held u (asks q) chip (chip_after chip (Write (SerialData u) x) y) w s (Write (SerialData u) x) y (k z)
      → ((state : SpiState) → (i : ℕ) × CommitsTo (spi_owing d) i (Sends (k z)) (chip_after chip (Write (SerialData u) x) y) (λ c. SpiRepresents d held c w state) → StandAt d below (chip_after chip (Write (SerialData u) x) y) w state (k z) o fresh_history)
      → Works (spi_basis d) (V d) below chip (chip_after chip (Write (SerialData u) x) y) w s o (Write (SerialData u) x) false value y fresh_history missed (k z) (Some (Start (unit_named u))) None
  begins_so few x value p z held g stands = record {
    may = (refl, tt);
    stands = by_unit few (λ i. StandsAt (Start (unit_named i)) (Write (SerialData i) x) value) (refl, refl) (refl, refl);
    state = g.state;
    told = tells_nothing;
    begins = Some g.begins;
    is = g.is;
    sends = g.sends;
    acts = tt;
    reset = refl;
    next = stands g.state g.owes;
  }

  begin_right : (b : Option Arrived) (x : ℕ) → Stand (place.Begin b x) → Step (place.Begin b x)
  begin_right None x (h, (is, was, (sent, select, width))) =
      begins_so (few_of is) x 0 (place.Begin None x) place.Pend (sending_of u q n first_place bs None (device_at d q n) ∷ below)
      (windows.first below chip w s q u n at bs None x y is h was sent select width) (λ state owes. (owes, is))
  begin_right (Some r) x (h, (is, was, (sent, select, width))) =
      begins_so (few_of is) x 0 (place.Begin (Some r) x) (place.Keep r.served (keep_of d r)) (sending_of u q n first_place bs None (device_at d q n) ∷ below)
      (windows.first below chip w s q u n at bs (Some r) x y is h was sent select width) (λ state owes. (owes, is))

  -- ---- it waits

  opens_right : Stand place.Opens → Step place.Opens
  opens_right (h, is) = (apart_agrees d fits (sending_of u q n at bs None (device_at d q n) ∷ below) chip w s Unmask y refl h, is)

  wait_right : stall_of chip (Read (SerialWait u)) ≡ 0 → Stand place.Wait → Step place.Wait
  wait_right still (h, is) = (knows_end d fits below chip w s u q n at bs (device_at d q n) h still, is)

  shut_right : (failed : Bool) → Stand (place.Shut failed) → Step (place.Shut failed)
  shut_right failed (h, is) = (apart_agrees d fits (sending_of u q n at bs (Some failed) (device_at d q n) ∷ below) chip w s Mask y refl h, is)

  -- ---- a word has come

  -- where it goes
  taker_right : (failed : Bool) → Stand (place.Taker failed) → Step (place.Taker failed)
  taker_right failed (h, is) =
      plain_makes (spi_basis d) (V d) below chip (chip_after chip made y) w s o false (value_of chip made) y fresh_history missed r.0 None None made (asking_plain (channel_sent (k (place.Taker failed)) at.channel) at.word)
      (subst (λ z. Works (spi_basis d) (V d) below chip (chip_after chip z y) w s o z false (value_of chip z) y fresh_history missed (took (value_of chip z)) None None) (sym (asks_load x at.word)) (comes (taker_of x at.word v) refl))
    where
      x : Placed
      x = channel_sent (k (place.Taker failed)) at.channel

      made : Move
      made = asking x at.word

      took : ℕ → SyncBody
      took z = sync_at (with_taken (k (place.Taker failed)) (taker_of x at.word z)) (sync_comes (k (place.Taker failed)) failed (taker_of x at.word z))

      r : SyncBody × BodyTaken
      r = (took (value_of chip made), goes)

      v : ℕ
      v = word_of chip (asked_word x at.word)

      served : IsServed d (word_of chip) s w.now u (held.served_sent d fits below chip w s u q n at bs failed (device_at d q n) h)
      served = held.word_sent d fits below chip w s u q n at bs failed (device_at d q n) h

      says : IsSending d chip w h.going s u q n at bs (Some failed) (device_at d q n)
      says = h.sending.0

      on : is_off s.mode ≡ false
      on = h.right.0.1

      Comes : Taker → Type 0
      Comes t = StandAt d below chip w s (sync_at (with_taken (k (place.Taker failed)) t) (sync_comes (k (place.Taker failed)) failed t)) o fresh_history

      -- the banks with this one, where it takes the word
      kept : (b : ℕ) → taker_of x at.word v ≡ takers.Bank b → (i : ℕ) (z : Part) (c : Channel) → slice_get says.job.parts i ≡ Some z → channel_of d z.channel ≡ Some c → c.internal ≡ true → 0 < taken_of at i (length z.values)
          → word_of chip (held_word (placed_of d z.channel)) ≡ slice_index_or (slice_set bs at.channel b) i 0
      kept b e i z c there known inner some = kept_at (same_or_other i at.channel)
        where
          parts : map (λ p. p.channel) says.job.parts ≡ channels_of d (next_job d says.job.pending)
          parts = (agrees_at d fits (sending_of u q n at bs (Some failed) (device_at d q n) ∷ below) chip w s h on u says.job says.few says.is).channels

          kept_at : (i ≡ at.channel) ⊎ (i ≢ at.channel) → word_of chip (held_word (placed_of d z.channel)) ≡ slice_index_or (slice_set bs at.channel b) i 0
          kept_at (inr ne) = says.kept i z c there known inner some ∙ sym (get_or-set_other bs at.channel i b 0 ne)
          kept_at (inl f) = held_is ∙ sym (ap (λ j. slice_index_or (slice_set bs at.channel b) j 0) f ∙ get_or-set_same bs at.channel b 0 (omega (arith, four, within, f)))
            where
              four : length bs ≡ 4
              four = is.four

              held_now : Reservations
              held_now = sending_of u q n at bs (Some failed) (device_at d q n) ∷ below

              for : is_for d u says.job.pending ≡ true
              for = for_at d fits held_now chip w s h on u says.job says.few says.is

              represents : GoingAgrees d (word_of chip) u says.job
              represents = agrees_at d fits held_now chip w s h on u says.job says.few says.is

              within : i < 4
              within = let lt = get_within says.job.parts i z there in let most = parts_few d fits u (word_of chip) says.job for represents in omega (arith, lt, most)

              here : x ≡ placed_of d z.channel
              here =
                  ap (λ j. channel_at_place d j at.channel) (sym (held.job_is d fits below chip w s u q n at bs (Some failed) (device_at d q n) h))
                  ∙ ap (channel_at_place d (next_job d says.job.pending)) (sym f) ∙ channel_there d fits u (word_of chip) says.job for represents i z there

              inside : (placed_of d z.channel).channel.internal ≡ true
              inside = ap (λ j. j.internal) (has_channel d fits z.channel c known) ∙ inner

              further : (at.word == 0) ≡ false
              further = taken_here at i (length z.values) f some

              bank : b ≡ bank_of (word_of chip (held_word (placed_of d z.channel)))
              bank = the_bank b (bank_of (word_of chip (held_word (placed_of d z.channel)))) (sym e ∙ as_held)
                where
                  the_bank : (a c : ℕ) → takers.Bank a ≡ takers.Bank c → a ≡ c
                  the_bank a c e = cc

                  as_held : taker_of x at.word v ≡ takers.Bank (bank_of (word_of chip (held_word (placed_of d z.channel))))
                  as_held =
                      ap (λ j. taker_of j at.word (word_of chip (asked_word j at.word))) here
                      ∙ ap (λ j. if not j then takers.SetUp (unpacked (word_of chip (if j && at.word == 0 then control_word (placed_of d z.channel) Received else held_word (placed_of d z.channel)))) else if at.word == 0 then takers.Bank (free_bank (word_of chip (if j && at.word == 0 then control_word (placed_of d z.channel) Received else held_word (placed_of d z.channel)))) else takers.Bank (bank_of (word_of chip (if j && at.word == 0 then control_word (placed_of d z.channel) Received else held_word (placed_of d z.channel))))) inside
                      ∙ ap (λ j. if j then takers.Bank (free_bank (word_of chip (if j then control_word (placed_of d z.channel) Received else held_word (placed_of d z.channel)))) else takers.Bank (bank_of (word_of chip (if j then control_word (placed_of d z.channel) Received else held_word (placed_of d z.channel))))) further

              held_is : word_of chip (held_word (placed_of d z.channel)) ≡ b
              held_is = small (word_of chip (held_word (placed_of d z.channel))) (held_small d fits held_now chip w s h on u says.few says.job says.is i z there c known inner (subst (λ p. 0 < taken_of p i (length z.values)) (sym says.place) some)) ∙ sym bank
                where
                  small : (j : ℕ) → j < 3 → j ≡ bank_of j
                  small j lt = omega (arith, lt)

      -- its channel is one of four
      at_few : at.channel < length bs
      at_few =
          let held_now : Reservations = sending_of u q n at bs (Some failed) (device_at d q n) ∷ below in
          let represents = agrees_at d fits held_now chip w s h on u says.job says.few says.is in
          let lt = represents.place in
          let most = parts_few d fits u (word_of chip) says.job (for_at d fits held_now chip w s h on u says.job says.few says.is) represents in
          let same = ap (λ (z : Position). z.channel) says.place in
          let four = is.four in
          omega (arith, lt, most, same, four)

      sender : (b : ℕ) → IsSender d d q u (slice_set bs at.channel b) below o fresh_history
      sender b = record { this = is.this; table = is.table; small = is.small; known = is.known; sync = is.sync; unit = is.unit; four = length-set bs at.channel b ∙ is.four; alone = is.alone }

      comes : (t : Taker) → taker_of x at.word v ≡ t → Comes (taker_of x at.word v)
      comes (takers.SetUp by) e = subst (λ z. Comes z) (sym e) (h, (is, (refl, refl, tt), record { served = served; taker = sym e }))
      comes (takers.Bank b) e = subst (λ z. Comes z) (sym e) (
        reheld d below chip w s u q n at bs (slice_set bs at.channel b) (Some failed) (Some failed) (device_at d q n) h (kept b e) says.end,
        (sender b, (refl, refl, get_or-set_same bs at.channel b 0 at_few), record { served = served; taker = sym e }),
      )

  -- the word that is read: a further one begins, a further job, or the sequence ends
  receive_right : (r : Served) (t : Taker) → Stand (place.Receive r t) → Step (place.Receive r t)
  receive_right r t (h, (is, here, taken)) = arrives_right r.failed refl (further_of d a) refl (receive_decides d fits (sending_of u q n at bs (Some r.failed) (device_at d q n) ∷ below) chip w s h u (few_of is) r t taken).1
    where
      a : Arrived
      a = record { served = r; taker = t; word = serials.received (unit_at chip.serials u) chip.serials.time }

      kr : SyncBody
      kr = k (place.Receive r t)

      Goes_on : SyncBody × SyncPlace → Type 0
      Goes_on z = StandAt d below chip w s (sync_at z.0 z.1) o fresh_history

      -- a further job
      onward : r.failed ≡ false → has_further_job kr ≡ true → IsLast d (word_of chip) s w.now u a → Goes_on (next_job_of kr, sync_finds (next_job_of kr) (Some a))
      onward good more last =
          subst (λ i. SpiRepresents d (sending_of u q i r.at bs (Some false) (device_at d q i) ∷ below) chip w s × (IsSender d d q u bs below o fresh_history × BeforeJob d (sync_at (next_job_of kr) (sync_finds (next_job_of kr) (Some a))) (Some a) (foot d chip) w s × IsSeeking d (sync_at (next_job_of kr) (sync_finds (next_job_of kr) (Some a))) (finding_first (channel_sent (next_job_of kr) 0)) (word_of chip) s)) (sym back) (
            subst (λ b. SpiRepresents d (sending_of u q n r.at bs (Some b) (device_at d q n) ∷ below) chip w s) good (subst (λ p. SpiRepresents d (sending_of u q n p bs (Some r.failed) (device_at d q n) ∷ below) chip w s) (sym here.1) h),
            (is, (last, good, omega arith, less, ap (λ (z : Running). z.job) here.0 ∙ ap (job_at_place d q) (sym back), here.1, here.2), seeks d fits (sending_of u q n at bs (Some r.failed) (device_at d q n) ∷ below) chip w s h h.right.0.1 q (n + 1) less u at bs (sync_finds (next_job_of kr) (Some a))),
          )
        where
          back : n + 1 - 1 ≡ n
          back = omega arith

          less : n + 1 < length (jobs_of d q)
          less = subst (λ i. n + 1 < i) (jobs_count d fits q) (is_below (n + 1) (jobs_list d q).count (and_parts (nat_lt n 15) (nat_lt (n + 1) (jobs_list d q).count) more).1)

      over : (b : Bool) → r.failed ≡ b → (c : Bool) → has_further_job kr ≡ c → IsLast d (word_of chip) s w.now u a → Goes_on (sync_job_over kr a r.failed (has_further_job kr))
      over true e c f last = subst (λ i. Goes_on (sync_job_over kr a i (has_further_job kr))) (sym e) (h, (is, here, (last, (ap (λ i. if i then FAILED else 0) (sym e), λ good. absurd (let g = sym e ∙ good in cc)))))
      over false e true f last = subst (λ i. Goes_on (sync_job_over kr a i (has_further_job kr))) (sym e) (subst (λ i. Goes_on (sync_job_over kr a false i)) (sym f) (onward e f last))
      over false e false f last = subst (λ i. Goes_on (sync_job_over kr a i (has_further_job kr))) (sym e) (subst (λ i. Goes_on (sync_job_over kr a false i)) (sym f) (h, (is, here, (last, (ap (λ i. if i then FAILED else 0) (sym e), λ good. f)))))

      Stands : ServePlace → Type 0
      Stands p = word_place d u p (foot d chip) w s

      arrives_right : (b : Bool) → r.failed ≡ b → (z : Option Position) → further_of d a ≡ z → Stands (begins_of d a) → Step (place.Receive r t)
      arrives_right b e z f stands = subst (λ p. Stands p → StandAt d below chip w s (sync_goes_to (sync_arrives kr a p)).0 o fresh_history) (sym (ap (λ i. if i then serve.Marks a else begins_by a (further_of d a)) e ∙ ap (λ i. if b then serve.Marks a else begins_by a i) f)) (split b e z) stands
        where
          split : (b : Bool) → r.failed ≡ b → (z : Option Position) → Stands (if b then serve.Marks a else begins_by a z) → StandAt d below chip w s (sync_goes_to (sync_arrives kr a (if b then serve.Marks a else begins_by a z))).0 o fresh_history
          split true e z last = over true e (has_further_job kr) refl last
          split false e None last = over false e (has_further_job kr) refl last
          split false e (Some p) i = (h, (is, here, i))

  -- ---- the windows of a further word, and of the end

  serve_right : (p : ServePlace) → sent_owes p ≡ false → Stand (place.Serve p) → Step (place.Serve p)
  serve_right (serve.Width a p) e (h, (is, here, i)) = let z = width_decides d fits (sending_of u q n at bs (Some a.served.failed) (device_at d q n) ∷ below) chip w s h u (few_of is) a p y i in (z.0, (is, here, z.1))
  serve_right (serve.Find a p f) e (h, (is, here, i)) =
      plain_makes (spi_basis d) (V d) below chip (chip_after chip (find_move f) y) w s o false (value_of chip (find_move f)) y fresh_history missed (sync_at (k (place.Serve (serve.Find a p f))) (place.Serve (serve_finds a p f (value_of chip (find_move f)) (find_gave f (value_of chip (find_move f)))).0)) None None (find_move f) (find_plain f)
      (found f i.2)
    where
      held_now : Reservations
      held_now = sending_of u q n at bs (Some a.served.failed) (device_at d q n) ∷ below

      Found : Find → Type 0
      Found f = Works (spi_basis d) (V d) below chip (chip_after chip (find_move f) y) w s o (find_move f) false (value_of chip (find_move f)) y fresh_history missed (sync_at (k (place.Serve (serve.Find a p f))) (place.Serve (serve_finds a p f (value_of chip (find_move f)) (find_gave f (value_of chip (find_move f)))).0)) None None

      decided : (f : Find) → IsFinding (word_of chip) (channel_next d a p) p.word f → Decided d fits held_now chip w s h u (few_of is) chip (serve_finds a p f (value_of chip (find_move f)) (find_gave f (value_of chip (find_move f))))
      decided f j = find_decides d fits held_now chip w s h u (few_of is) a p i.0 i.1 (channel_next d a p) refl f j

      found : (f : Find) → IsFinding (word_of chip) (channel_next d a p) p.word f → Found f
      found (finds.Pinned x j) z = let r = decided (finds.Pinned x j) z in (r.0, (is, here, r.1))
      found (finds.Held x j) z = by (unpacked (word_of chip (held_word x))).source (decided (finds.Held x j) z)
        where
          by : (b : Bool) → Decided d fits held_now chip w s h u (few_of is) chip (serve.Find a p (if b then finds.Source x j else finds.Default x), steps.Goes None) → StandAt d below chip w s (k (place.Serve (serve.Find a p (if b then finds.Source x j else finds.Default x)))) o fresh_history
          by true r = (r.0, (is, here, r.1))
          by false r = (r.0, (is, here, r.1))
      found (finds.Bank x j b) z = let r = decided (finds.Bank x j b) z in (r.0, (is, here, r.1))
      found (finds.Source x j) z = let r = decided (finds.Source x j) z in (r.0, (is, here, r.1))
      found (finds.Default x) z = let r = decided (finds.Default x) z in (r.0, (is, here, r.1))
      found _ z = absurd z
  serve_right (serve.Begin a p x) e (h, (is, here, i)) =
      lets_so (channel_next d a p) ((channel_next d a p).channel.internal && is_last_place (channel_next d a p) p.word) (word_begins d fits below chip w s q u n at bs a p x y is h here i.0 i.1 i.2)
    where
      held_then : Reservations
      held_then = sending_of u q n p bs None (device_at d q n) ∷ below

      lets_so : (z : Placed) (b : Bool) → WordBegins d held_then u (asks q) chip (chip_after chip (Write (SerialData u) x) y) w s (Write (SerialData u) x) y (k (place.Serve (if b then serve.Let a p (releasing z Sent) else serve.Keep (keep_of d a) p)))
          → Works (spi_basis d) (V d) below chip (chip_after chip (Write (SerialData u) x) y) w s o (Write (SerialData u) x) false 0 y fresh_history missed (k (place.Serve (if b then serve.Let a p (releasing z Sent) else serve.Keep (keep_of d a) p))) (Some (Start (unit_named u))) None
      lets_so z true g = begins_so (few_of is) x 0 (place.Serve (serve.Begin a p x)) (place.Serve (serve.Let a p (releasing z Sent))) held_then g (λ state owes. (owes, is))
      lets_so z false g = begins_so (few_of is) x 0 (place.Serve (serve.Begin a p x)) (place.Serve (serve.Keep (keep_of d a) p)) held_then g (λ state owes. (owes, is))
  serve_right (serve.Acknowledge a (courses.Ends x)) e (h, (is, here, (last, ends))) = let g = sequence_ends d fits below chip w s q u n at bs a x y is h last ends in record {
    may = refl;
    stands = tt;
    state = g.state;
    told = answers (sent_answer x);
    begins = None;
    is = g.is;
    sends = tt;
    acts = tt;
    reset = refl;
    next = (g.owes, Is_this_frame);
  }
  serve_right (serve.Acknowledge a (courses.Further x)) e (h, i) = absurd i
  serve_right serve.Shut e (h, i) = absurd i
  serve_right serve.State e (h, i) = absurd i
  serve_right (serve.Running failed) e (h, i) = absurd i
  serve_right (serve.Position r failed) e (h, i) = absurd i
  serve_right (serve.Taker r) e (h, i) = absurd i
  serve_right (serve.Receive r t) e (h, i) = absurd i
  serve_right (serve.Marks a) e (h, i) = absurd i
  serve_right (serve.Nexts a c) e (h, i) = absurd i
  serve_right (serve.Further r x) e (h, i) = absurd i
  serve_right (serve.Again r x) e (h, i) = absurd i
  serve_right (serve.Drop r x) e (h, i) = absurd i
  serve_right _ e h = absurd (cc)

  -- ---- all of them

  pub steps_at : (p : SyncPlace) → sync_owes p ≡ false → stall_of chip (sync_move (k p) p) ≡ 0 → Stand p → Step p
  steps_at place.Free e still (h, (is, first, on)) = looks_free d fits below chip w s h q u n at bs is first on y missed
  steps_at (place.Find b f) e still h = find_right b f h
  steps_at (place.Select b x) e still h = select_right b x h
  steps_at (place.Width b x) e still h = width_right b x h
  steps_at (place.Begin b x) e still h = begin_right b x h
  steps_at place.Opens e still h = opens_right h
  steps_at place.Wait e still h = wait_right still h
  steps_at (place.Shut failed) e still h = shut_right failed h
  steps_at (place.Taker failed) e still h = taker_right failed h
  steps_at (place.Receive r t) e still h = receive_right r t h
  steps_at (place.Serve p) e still h = serve_right p e h
  steps_at _ e still h = absurd (cc)
