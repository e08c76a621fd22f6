-- What a unit's registers and words say of the job under way, and which word of it comes after the one that is served.
-- From words.Positions, spi_sequences: services.ServeSteps, spi_sequences: words.WordsToState and 5 more.
-- Used by services.FurtherRight, services.ServeRight, services.ServeMoves, bookkeeping.JobEnd and 10 more.
use Rattle.std.proofs.Common.{◌≡◌, ◌+◌, ◌*◌, ◌/◌, ◌%◌, ◌^◌, ◌<◌, ◌≤◌, ◌&&◌, ◌==◌, [], ◌∷◌, ◌∙◌, if◌then◌else◌}
use Rattle.spi_laws.specs.serving.Terms
use Terms.{after_word, all_of, ap, arith, Arrived, asked_word, bank_word, BanksAgree, begins_by, bit_of, Bool, by_two}
use Terms.{carried_at, CarriesAgrees, Channel, channel_at_place, channel_next, channel_of, channel_served, Chip}
use Terms.{Contains, control_word, done_same, ExternalAgrees, false, FitsSpi, further_of, goes_on, Going, going_asked}
use Terms.{going_next, GoingAgrees, has_channel, has_done, held_word, InTransfer, is_done, is_for, is_off, is_sync_unit}
use Terms.{IsArrived, IsDone, IsFurther, IsLast, IsServed, IsTaken, job_of, kept-word, le_since, length, length-append}
use Terms.{length_taken, list_of, lt_from, lt_since, masked, masked_by, nat_lt, next_job, no_word, None, none_under_way}
use Terms.{not, not_true, Option, packed_position, Part, PartBy, Pending, pin_of, pinned_bank, Placed, placed_of}
use Terms.{Position, position_in, ready, received_with, refl, Reservations, Run, run_at, run_carried, run_in, run_of}
use Terms.{RunAgrees, Running, running_says, running_word, select_by, select_of, Sent, Serial, Served, slice_index}
use Terms.{slice_index_or, Some, some_is, source_word, SpiRepresents, SpiState, SpiTable, subst, sym, Taker, taker_of}
use Terms.{Taking, Transfer, trio_of, true, unit_at, unit_of, unit_run, UnitAgrees, unpacked, view, whether_as}
use Terms.{width_by, word_after, word_of, WordAgrees, words_of, World, ℕ}
use Rattle.spi_laws.specs.serving.laws.words.Positions.{Follows, Stands, channel_there, here, in_words, onward, parts_few}
use Rattle.spi_laws.specs.serving.laws.words.Positions.{part_most, taken_length, word_at, words_at, ahead_next, begins_next}
use Rattle.spi_laws.specs.serving.laws.{words.Positions.{held_back, part_few, part_known}, bookkeeping.JobsApart.{is_pinned}}
use Rattle.chip_blocks.specs.units.Serials as serials
use Rattle.chip_blocks.specs.declared.units.serial.Word as chips
use Rattle.spi_machine.specs.Machine as machine
use Rattle.mcal_base.specs.facts.Truths.{and_false}
use Rattle.spi_machine.specs.Transfers as transfers
use Rattle.spi_sequences.specs.declared.service.serve.ServePlace.TheVariants as serve
use Rattle.word_shapes.specs.TripleBuffer as trio

-- ---- a unit's state register

pub state_says : (x : Serial) (now : ℕ) → ((serials.state x now / 2 % 2 == 0) ≡ not (serials.is_done x now)) × ((serials.state x now / 4 % 2 == 1) ≡ serials.is_failed x now)
state_says x now = bits_say (serials.is_busy x now) (serials.is_done x now) (serials.is_failed x now)
  where
    bits_say : (a b c : Bool) → (((bit_of a + 2 * bit_of b + 4 * bit_of c) / 2 % 2 == 0) ≡ not b) × (((bit_of a + 2 * bit_of b + 4 * bit_of c) / 4 % 2 == 1) ≡ c)
    bits_say true true true = (refl, refl)
    bits_say true true false = (refl, refl)
    bits_say true false true = (refl, refl)
    bits_say true false false = (refl, refl)
    bits_say false true true = (refl, refl)
    bits_say false true false = (refl, refl)
    bits_say false false true = (refl, refl)
    bits_say false false false = (refl, refl)

-- the unit of a line
pub unit_line : (u : ℕ) → u < 2 → unit_of (26 + u) ≡ Some u
unit_line u few = by_two (λ n. unit_of (26 + n) ≡ Some n) refl refl u few

-- a place as a word has it
pub place_back : (p : Position) → p.channel < 4 → p.word < 256 → position_in (packed_position p) ≡ p
place_back p few small = same (position_in (packed_position p)) (omega (arith, few)) (omega (arith, few, small))
  where
    same : (q : Position) → q.channel ≡ p.channel → q.word ≡ p.word → q ≡ p
    same q e f = ap (λ n. record { channel = n; word = q.word }) e ∙ ap (λ n. record { channel = p.channel; word = n }) f

-- ---- the job under way

-- what a unit does that has a word in transfer
pub record UnderWay (d : SpiTable) (below : Reservations) (chip : Chip) (w : World) (s : SpiState) (h : SpiRepresents d below chip w s) (u : ℕ) (run : Run) : Type 0 where
  pub job : Going
  pub is : h.going u ≡ Some job
  pub on : is_off s.mode ≡ false
  pub there : Contains (all_of (view s)) job.pending
  pub for : is_for d u job.pending ≡ true
  pub represents : GoingAgrees d (word_of chip) u job
  pub transfer : Transfer
  pub runs : run ≡ run_of d job transfer
  pub word : chips.Word
  pub stands : (unit_at chip.serials u).word ≡ Some word
  pub like : WordAgrees word transfer

module _ (d : SpiTable) (fits : FitsSpi d) (below : Reservations) (chip : Chip) (w : World) (s : SpiState) (h : SpiRepresents d below chip w s) (u : ℕ) (few : u < 2) where
  abbrev unit : Serial
  unit = unit_at chip.serials u

  time : chip.serials.time ≡ w.now
  time = h.outside.together.serials ∙ h.outside.now

  -- a module that has something under way is initialised
  initialised : (p : Pending) → Contains (all_of (view s)) p → is_off s.mode ≡ false
  initialised p there = not_true (is_off s.mode) (λ e. none_under_way d (view s) h.sound e p there)

  -- what the unit runs agrees with its word, whichever kind of unit it is
  agrees : CarriesAgrees d unit (unit_run d s u) (h.going u)
  agrees = whether_as (is_sync_unit d u) (λ q. CarriesAgrees d unit (if q then run_carried (carried_at s u) else run_at s u) (h.going u))
      (λ e. h.sends u few e)
      (λ e. plain (h.going u) (h.units u few e))
    where
      plain : (o : Option Going) → UnitAgrees d unit (run_at s u) o → CarriesAgrees d unit (run_at s u) o
      plain None a = a
      plain (Some g) a = (a.0, a.1, a.2)

  -- a unit that starts jobs of pending sequences runs one of those, on its device
  pub asked_by : is_sync_unit d u ≡ false → (g : Going) → h.going u ≡ Some g → Contains s.pending g.pending × ((unit_at chip.serials u).select ≡ select_of (select_by (job_of d (next_job d g.pending))))
  asked_by async g is = ((going_asked d fits below chip w s h u g few async is).0, (subst (λ o. UnitAgrees d unit (run_at s u) o) is (h.units u few async)).3)

  pub runs_so : is_sync_unit d u ≡ false → unit_run d s u ≡ run_at s u
  runs_so async = ap (λ q. if q then run_carried (carried_at s u) else run_at s u) async

  in_transfer : (x : Serial) (t : Transfer) → InTransfer x.word t → (y : chips.Word) × (x.word ≡ Some y) × WordAgrees y t
  in_transfer x t a = by x.word refl a
    where
      by : (o : Option chips.Word) → x.word ≡ o → InTransfer o t → (y : chips.Word) × (x.word ≡ Some y) × WordAgrees y t
      by None e a = absurd a
      by (Some y) e a = (y, e, a)

  pub under_way : (run : Run) → unit_run d s u ≡ Some run → UnderWay d below chip w s h u run
  under_way run is = going_under_way (h.going u) refl agrees
    where
      going_under_way : (o : Option Going) → h.going u ≡ o → CarriesAgrees d unit (unit_run d s u) o → UnderWay d below chip w s h u run
      going_under_way None e a = absurd (let f = sym is ∙ a.1 in cc)
      going_under_way (Some g) e a =
          let next = going_next d fits below chip w s h u g few e in
          let on = initialised g.pending next.0 in
          let on_wire = in_transfer unit a.0 a.2 in
          record {
            job = g;
            is = e;
            on = on;
            there = next.0;
            for = next.2;
            represents = subst (λ o. RunAgrees d (word_of chip) u o) e ((h.words.on on).runs u few);
            transfer = a.0;
            runs = some_is run (run_of d g a.0) (sym is ∙ a.1);
            word = on_wire.0;
            stands = on_wire.1;
            like = on_wire.2;
          }

  -- its word is done on the chip where it is in the machine
  pub done_alike : serials.is_done unit chip.serials.time ≡ has_done w.now (unit_run d s u)
  done_alike = ap (λ t. serials.is_done unit t) time ∙ done_at_now (h.going u) agrees
    where
      done_at_now : (o : Option Going) → CarriesAgrees d unit (unit_run d s u) o → serials.is_done unit w.now ≡ has_done w.now (unit_run d s u)
      done_at_now None a = ap (λ o. serials.has_ended o w.now) a.0 ∙ sym (ap (λ o. has_done w.now o) a.1)
      done_at_now (Some g) a =
          let on_wire = in_transfer unit a.0 a.2 in
          ap (λ o. serials.has_ended o w.now) on_wire.1 ∙ done_same on_wire.0 a.0 w.now on_wire.2.start ∙ sym (ap (λ o. has_done w.now o) a.1)

  -- a line isn't ready where its unit's word isn't done
  pub not_ready : has_done w.now (run_at s u) ≡ false → ready w s (26 + u) ≡ false
  not_ready e = ap (λ o. not (is_off s.mode) && has_done w.now (machine.run_of s o)) (unit_line u few) ∙ ap (λ q. not (is_off s.mode) && q) e ∙ and_false (not (is_off s.mode))

  -- and is ready where it is
  pub is_ready : is_off s.mode ≡ false → has_done w.now (run_at s u) ≡ true → ready w s (26 + u) ≡ true
  is_ready on e = ap (λ o. not (is_off s.mode) && has_done w.now (machine.run_of s o)) (unit_line u few) ∙ ap (λ q. not q && has_done w.now (run_at s u)) on ∙ e

  run_there : (r : Option Run) → has_done w.now r ≡ true → (run : Run) × (r ≡ Some run) × (is_done w.now run.transfer ≡ true)
  run_there None e = absurd (cc)
  run_there (Some run) e = (run, refl, e)

  -- what the state register says
  pub state_done : (b : Bool) → has_done w.now (unit_run d s u) ≡ true → serials.is_failed unit chip.serials.time ≡ b → IsDone d s w.now u b
  state_done b e f =
      let (run, is, done) = run_there (unit_run d s u) e in
      let way = under_way run is in
      let ended : serials.is_done_at way.word chip.serials.time ≡ true = ap (λ t. serials.is_done_at way.word t) time ∙ done_same way.word way.transfer w.now way.like.start ∙ ap (λ r. is_done w.now r.transfer) (sym way.runs) ∙ done in
      record {
        run = run;
        is = is;
        done = done;
        failed = ap (λ r. r.transfer.failed) way.runs ∙ sym way.like.failed ∙ sym (ap (λ q. q && way.word.failed) ended) ∙ sym (ap (λ o. serials.ended_failed o chip.serials.time) way.stands) ∙ f;
      }

  -- what came in, unless the word failed
  pub received_says : (run : Run) → unit_run d s u ≡ Some run → is_done w.now run.transfer ≡ true → run.transfer.failed ≡ false → serials.received unit chip.serials.time ≡ run.transfer.incoming
  received_says run is done good =
      let way = under_way run is in
      let ended : serials.is_done_at way.word chip.serials.time ≡ true = ap (λ t. serials.is_done_at way.word t) time ∙ done_same way.word way.transfer w.now way.like.start ∙ ap (λ r. is_done w.now r.transfer) (sym way.runs) ∙ done in
      let well : way.transfer.failed ≡ false = ap (λ r. r.transfer.failed) (sym way.runs) ∙ good in
      let fine : way.word.failed ≡ false = way.like.failed ∙ well in
      ap (λ o. serials.last_received o unit.received chip.serials.time) way.stands ∙ ap (λ q. if q && not way.word.failed then way.word.incoming else unit.received) ended ∙ ap (λ q. if not q then way.word.incoming else unit.received) fine
      ∙ way.like.incoming well ∙ ap (λ r. r.transfer.incoming) (sym way.runs)

  -- what it runs and where it stands, as they were loaded
  module _ (run : Run) (is : unit_run d s u ≡ Some run) (way : UnderWay d below chip w s h u run) where
    pub says_run : (r : Running) → run_in (word_of chip (running_word u)) ≡ Some r → r ≡ record { job = next_job d way.job.pending; sequence = way.job.pending.sequence }
    says_run r e = some_is r (record { job = next_job d way.job.pending; sequence = way.job.pending.sequence }) (sym e ∙ running_says d fits below chip w s h way.on u few (Some way.job) way.is)

-- ---- the words that a window looks at

-- ---- widths

pub masked_alike : (k : Channel) (v : ℕ) → k.width ≤ 16 → masked_by k v ≡ masked k.width v
masked_alike k v narrow = ap (λ q. if q then v % 2 ^ k.width else v) (lt_from k.width 32 (omega (arith, narrow)))

-- the bank that is pinned, by the control word
pub pinned_in : (v bank pin : ℕ) → bank < 3 → pin < 3 → v ≡ bank + 4 * (pin + 1) → pinned_bank v ≡ pin
pinned_in v bank pin few less e = omega (arith, few, less, e)

module _ (d : SpiTable) (fits : FitsSpi d) (below : Reservations) (chip : Chip) (w : World) (s : SpiState) (h : SpiRepresents d below chip w s) (u : ℕ) (few : u < 2) where
  module _ (r : Served) (i : IsServed d (word_of chip) s w.now u r) where
    abbrev pub way : UnderWay d below chip w s h u i.done.run
    way = under_way d fits below chip w s h u few i.done.run i.done.is

    abbrev pub job : Going
    job = way.job

    abbrev pub At : Position → ℕ → Type 0
    At p k = Stands d fits u (word_of chip) job way.for way.represents p k

    abbrev pub standing : At job.at (length job.received)
    standing = here d fits u (word_of chip) job way.for way.represents

    pub run_is : r.run ≡ record { job = next_job d job.pending; sequence = job.pending.sequence }
    run_is = says_run d fits below chip w s h u few i.done.run i.done.is way r.run i.run

    pub at_is : r.at ≡ job.at
    at_is = sym i.at ∙ ap (λ v. position_in v) way.represents.position ∙ place_back job.at (omega (arith, within, parts)) (omega (arith, inside, most))
      where
        within : job.at.channel < length job.parts
        within = way.represents.place

        parts : length job.parts ≤ 4
        parts = parts_few d fits u (word_of chip) job way.for way.represents

        inside : job.at.word < length standing.part.values
        inside = standing.inside

        most : length standing.part.values ≤ 64
        most = part_most d fits u (word_of chip) job way.for way.represents job.at.channel standing.part standing.there

    -- the channel at a place of the job
    pub channel_is : (n : ℕ) → channel_at_place d r.run.job n ≡ channel_at_place d (next_job d job.pending) n
    channel_is n = ap (λ (z : Running). channel_at_place d z.job n) run_is

    pub served_is : channel_served d r ≡ placed_of d standing.part.channel
    served_is = channel_is r.at.channel ∙ ap (λ (p : Position). channel_at_place d (next_job d job.pending) p.channel) at_is ∙ channel_there d fits u (word_of chip) job way.for way.represents job.at.channel standing.part standing.there

    words_are : i.done.run.words ≡ words_of d job.parts
    words_are = ap (λ z. z.words) way.runs

    received_are : i.done.run.received ≡ job.received
    received_are = ap (λ z. z.received) way.runs

    pub received_more : length (received_with i.done.run) ≡ length job.received + 1
    received_more = length-append i.done.run.received (i.done.run.transfer.incoming ∷ []) ∙ ap (λ xs. length xs + 1) received_are

    -- the machine's word in transfer
    pub word_is : transfers.word_of i.done.run ≡ word_at d fits u (word_of chip) job way.for way.represents standing.part job.at.word
    word_is =
        ap (λ xs. slice_index_or xs (length i.done.run.received) no_word) words_are ∙ ap (λ xs. slice_index_or (words_of d job.parts) (length xs) no_word) received_are
        ∙ ap (λ n. slice_index_or (words_of d job.parts) n no_word) standing.count ∙ words_at d fits u (word_of chip) job way.for way.represents job.at.channel job.at.word standing.part standing.there standing.inside

    -- the place after it, as it is looked for
    module _ (a : Arrived) (is : a.served ≡ r) (t : IsTaken d (word_of chip) s w.now u a.served a.taker) where
      abbrev taken : Placed → ℕ → Taker
      taken y n = taker_of y n (word_of chip (asked_word y n))

      abbrev Onward : Option Position → Type 0
      Onward None = length job.received + 1 ≡ length (words_of d job.parts)
      Onward (Some q) = At q (length job.received + 1) × Follows d fits u (word_of chip) job way.for way.represents job.at q (length standing.part.values)

      length_is : length_taken (channel_served d a.served) a.taker ≡ length standing.part.values
      length_is =
          ap (length_taken (channel_served d a.served)) t.taker
          ∙ subst (λ (z : Served). length_taken (channel_served d z) (taken (channel_served d z) z.at.word) ≡ length standing.part.values) (sym is)
          (ap (λ y. length_taken y (taken y r.at.word)) served_is ∙ taken_length d fits u (word_of chip) job way.for way.represents job.at.channel standing.part standing.there r.at.word)

      -- the place that is looked for is the one after it in the job
      pub further_is : further_of d a ≡ after_word job.at (length standing.part.values) (list_of d (next_job d job.pending)).count
      further_is =
          ap (λ n. after_word a.served.at n (list_of d a.served.run.job).count) length_is
          ∙ ap (λ (z : Served). after_word z.at (length standing.part.values) (list_of d z.run.job).count) is
          ∙ ap (λ p. after_word p (length standing.part.values) (list_of d r.run.job).count) at_is
          ∙ ap (λ (z : Running). after_word job.at (length standing.part.values) (list_of d z.job).count) run_is

      pub onward_to : (o : Option Position) → further_of d a ≡ o → Onward o
      onward_to o e = subst (λ z. Onward z) (sym further_is ∙ e) (onward d fits u (word_of chip) job way.for way.represents job.at (length job.received) standing)

  -- ---- what came in, and how it goes on

  module _ (a : Arrived) (i : IsArrived d (word_of chip) s w.now u a) where
    abbrev pub run : Run
    run = i.taken.served.done.run

    pub failed_is : run.transfer.failed ≡ a.served.failed
    failed_is = i.taken.served.done.failed

    -- nothing further begins where the word failed or is the last one
    pub goes_on_by : (b c : Bool) → a.served.failed ≡ b → nat_lt (length run.received + 1) (length run.words) ≡ c → goes_on run ≡ not b && c
    goes_on_by b c e f = ap (λ q. not q && nat_lt (length run.received + 1) (length run.words)) (failed_is ∙ e) ∙ ap (λ q. not b && q) f

  -- a further word
  module _ (a : Arrived) (p : Position) (i : IsFurther d (word_of chip) s w.now u a p) where
    abbrev pub served_by : IsServed d (word_of chip) s w.now u a.served
    served_by = i.arrived.taken.served

    abbrev under : UnderWay d below chip w s h u served_by.done.run
    under = way a.served served_by

    abbrev going : Going
    going = under.job

    pub next_at : At a.served served_by p (length going.received + 1) × Follows d fits u (word_of chip) going under.for under.represents going.at p (length (standing a.served served_by).part.values)
    next_at = onward_to a.served served_by a refl i.arrived.taken (Some p) i.next

    pub next_channel : channel_next d a p ≡ placed_of d next_at.0.part.channel
    next_channel = channel_is a.served served_by p.channel ∙ channel_there d fits u (word_of chip) going under.for under.represents p.channel next_at.0.part next_at.0.there

    pub next_word : word_after served_by.done.run ≡ word_at d fits u (word_of chip) going under.for under.represents next_at.0.part p.word
    next_word =
        ap (λ xs. slice_index_or xs (length (received_with served_by.done.run)) no_word) (words_are a.served served_by)
        ∙ ap (λ n. slice_index_or (words_of d going.parts) n no_word) (received_more a.served served_by ∙ next_at.0.count)
        ∙ words_at d fits u (word_of chip) going under.for under.represents p.channel p.word next_at.0.part next_at.0.there next_at.0.inside

    pub goes_further : goes_on served_by.done.run ≡ true
    goes_further = goes_on_by a i.arrived false true i.good (lt_from (length served_by.done.run.received + 1) (length served_by.done.run.words) (omega (arith, within, received, words)))
      where
        within : length going.received + 1 < length (words_of d going.parts)
        within = in_words d fits u (word_of chip) going under.for under.represents p (length going.received + 1) next_at.0

        received : length served_by.done.run.received ≡ length going.received
        received = ap length (received_are a.served served_by)

        words : length served_by.done.run.words ≡ length (words_of d going.parts)
        words = ap length (words_are a.served served_by)

    -- ---- what is found of it is the machine's

    abbrev next : Stands d fits u (word_of chip) going under.for under.represents p (length going.received + 1)
    next = next_at.0

    abbrev first : Stands d fits u (word_of chip) going under.for under.represents going.at (length going.received)
    first = standing a.served served_by

    pub follows : Follows d fits u (word_of chip) going under.for under.represents going.at p (length first.part.values)
    follows = next_at.1

    abbrev part : Part
    part = next.part

    abbrev pub placed : Placed
    placed = placed_of d part.channel

    pub known : (k : Channel) × (channel_of d part.channel ≡ Some k)
    known = part_known d fits u (word_of chip) going under.for under.represents p.channel part next.there

    pub is_channel : placed.channel ≡ known.0
    is_channel = has_channel d fits part.channel known.0 known.1

    -- its width is the machine's, and at most 16
    pub width_same : width_by (channel_of d part.channel) ≡ placed.channel.width
    width_same = ap width_by known.1 ∙ ap (λ k. k.width) (sym is_channel)

    pub narrow : placed.channel.width ≤ 16
    narrow = subst (λ (k : Channel). k.width ≤ 16) (sym is_channel) (fits.channels part.channel known.0 known.1).narrow

    sent_is : (word_after served_by.done.run).sent ≡ masked placed.channel.width (slice_index_or part.values p.word 0)
    sent_is = ap (λ z. z.sent) next_word ∙ ap (λ n. masked n (slice_index_or part.values p.word 0)) width_same

    found : (v : ℕ) → v ≡ slice_index_or part.values p.word 0 → masked_by placed.channel v ≡ (word_after served_by.done.run).sent
    found v e = masked_alike placed.channel v narrow ∙ ap (masked placed.channel.width) e ∙ sym sent_is

    -- ---- an internal channel

    module _ (internal : placed.channel.internal ≡ true) where
      pub banks : BanksAgree d below h.going (word_of chip) (view s) part.channel known.0
      banks = h.words.banks part.channel known.0 known.1 (ap (λ (k : Channel). k.internal) (sym is_channel) ∙ internal)

      pub pinned : (t : Taking) × (banks.sent.take ≡ Some t) × (t.kept ≡ part.values)
      pinned = is_pinned d fits below chip w s h under.on u going few under.is p.channel part next.there (begins_next d fits u (word_of chip) going under.for under.represents going.at p (length first.part.values) (length part.values) follows next.inside) banks.sent.take banks.pinned

      pub bank_small : pinned.0.bank < 3
      bank_small = (subst (λ o. trio.TakeIn (trio_of placed Sent) (word_of chip) o) pinned.1 banks.sends.take).below

      control : word_of chip (control_word placed Sent) ≡ banks.sent.bank + 4 * (pinned.0.bank + 1)
      control = banks.sends.control ∙ ap (λ o. banks.sent.bank + 4 * pin_of o) pinned.1

      pub pinned_bank_is : pinned_bank (word_of chip (control_word placed Sent)) ≡ pinned.0.bank
      pinned_bank_is = pinned_in (word_of chip (control_word placed Sent)) banks.sent.bank pinned.0.bank banks.sends.below bank_small control

      pub found_bank : masked_by placed.channel (word_of chip (bank_word placed Sent (pinned_bank (word_of chip (control_word placed Sent))) p.word)) ≡ (word_after served_by.done.run).sent
      found_bank = found (word_of chip (bank_word placed Sent (pinned_bank (word_of chip (control_word placed Sent))) p.word)) (
          ap (λ b. word_of chip (bank_word placed Sent b p.word)) pinned_bank_is
          ∙ kept-word (trio_of placed Sent) (word_of chip) banks.sent pinned.0 p.word banks.sends pinned.1 (omega (arith, next.inside, fewer))
          ∙ ap (λ xs. slice_index xs p.word) pinned.2
          )
        where
          fewer : length part.values ≤ placed.channel.length
          fewer = part_few d fits u (word_of chip) going under.for under.represents p.channel part next.there

    -- ---- an external one

    module _ (external : placed.channel.internal ≡ false) where
      represents : ExternalAgrees (word_of chip) placed going.at p.channel part
      represents = subst (λ q. PartBy q (word_of chip) placed going.at p.channel part) external (under.represents.parts p.channel part next.there).1

      by_is : unpacked (word_of chip (held_word placed)) ≡ represents.by
      by_is = held_back d fits u (word_of chip) going under.for under.represents p.channel part next.there represents

      sent_by : slice_index_or part.values p.word 0 ≡ (if represents.by.source then word_of chip (source_word placed p.word) else placed.channel.default_data)
      sent_by = represents.ahead p.word (let inside = next.inside in let count = represents.count in omega (arith, inside, count)) (ahead_next d fits u (word_of chip) going under.for under.represents going.at p (length first.part.values) follows)

      pub found_source : (unpacked (word_of chip (held_word placed))).source ≡ true → masked_by placed.channel (word_of chip (source_word placed p.word)) ≡ (word_after served_by.done.run).sent
      found_source e = found (word_of chip (source_word placed p.word)) (sym (sent_by ∙ ap (λ q. if q then word_of chip (source_word placed p.word) else placed.channel.default_data) (ap (λ z. z.source) (sym by_is) ∙ e)))

      pub found_default : (unpacked (word_of chip (held_word placed))).source ≡ false → masked_by placed.channel placed.channel.default_data ≡ (word_after served_by.done.run).sent
      found_default e = found placed.channel.default_data (sym (sent_by ∙ ap (λ q. if q then word_of chip (source_word placed p.word) else placed.channel.default_data) (ap (λ z. z.source) (sym by_is) ∙ e)))

  -- the last one
  module _ (a : Arrived) (i : IsLast d (word_of chip) s w.now u a) where
    pub ends_here : goes_on i.arrived.taken.served.done.run ≡ false
    ends_here = by a.served.failed refl (further_of d a) refl
      where
        r : Served
        r = a.served

        run_of : Run
        run_of = i.arrived.taken.served.done.run

        received : length run_of.received ≡ length (job r i.arrived.taken.served).received
        received = ap length (received_are r i.arrived.taken.served)

        words : length run_of.words ≡ length (words_of d (job r i.arrived.taken.served).parts)
        words = ap length (words_are r i.arrived.taken.served)

        by : (b : Bool) → a.served.failed ≡ b → (o : Option Position) → further_of d a ≡ o → goes_on run_of ≡ false
        by true e o f = goes_on_by a i.arrived true (nat_lt (length run_of.received + 1) (length run_of.words)) e refl
        by false e None f = goes_on_by a i.arrived false false e (lt_since (length run_of.received + 1) (length run_of.words) (le_since (length run_of.words) (length run_of.received + 1) (let last = onward_to r i.arrived.taken.served a refl i.arrived.taken None f in omega (arith, last, received, words))))
        by false e (Some p) f = absurd (let ends : serve.Width a p ≡ serve.Marks a = sym (ap (λ b. if b then serve.Marks a else begins_by a (further_of d a)) e ∙ ap (begins_by a) f) ∙ i.ends in cc)
