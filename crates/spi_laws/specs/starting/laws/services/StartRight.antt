-- Each step of the starting window is right: what the first word is, and where nothing starts the unit is owed nothing.
-- From spi_sequences: services.StartSteps, spi_sequences: words.FirstParts, words.PinnedBanks and 14 more.
-- Used by spi_driver: services.UnitSteps, spi_driver: bookkeeping.NoneWaits, sending.services.SendFree and 1 more.
use Rattle.std.proofs.Common.{◌≡◌, ◌+◌, ◌%◌, ◌^◌, ◌<◌, ◌≤◌, ◌||◌, ◌==◌, [], ◌∷◌, ◌++◌, ◌∙◌, if◌then◌else◌}
use Rattle.spi_laws.specs.starting.Terms
use Terms.{all_pending, Answer, ap, apart_agrees, AreOwed, arith, as_begun, as_read, as_words, bank_of, bank_word}
use Terms.{BanksAgree, Begun, Bool, by_two, Call, carried_at, CarriesAgrees, cases, Channel, channel_at}
use Terms.{channel_at_place, channel_of, channels_of, Chip, chip_after, choice, choice_next, choosing_front, Chosen}
use Terms.{chosen_by, cleared_of, clears, CommitsAfter, Contains, control_word, Destination, Ends, ends-then}
use Terms.{entries_of, Entry, Event, false, Find, find_gave, find_move, finding_first, first-at, first_parts}
use Terms.{first_word, FitsSpi, flat_map-cons, FrameRole, Front, front-ends, front_gave, front_left, front_move, gave}
use Terms.{get_or-replicate, get_or-set_other, get_or-set_same, Goes, Going, going_free, going_run, happens, has_bit}
use Terms.{has_channel, has_ended, held_word, holds_back, holds_changed, holds_debt, idle, is_for, is_off, is_owed}
use Terms.{is_some, is_sync_unit, is_users, IsChosen, IsFirst, IsFree, job_at_place, job_of, job_place, JobWord, length}
use Terms.{length-set, length_by, List, Load, LooksAt, lt_from, MARKS, Mask, masked, masked_by, Memory, min, Move}
use Terms.{nat_lt, newest-in, newest-word, next_at, next_by, next_job, next_on, NEXTS, no_word, None, none_readied}
use Terms.{Null, number_in, number_of, Option, or_none, order_word, Origin, other_number, outcome_with, outgoing}
use Terms.{part_at, part_by, part_for, Pending, place_of, Placed, placed_of, Pointer, prepares, ranks_in, read_set_up}
use Terms.{refl, Reservations, run_at, run_carried, RunAgrees, running_word, same_or_other, Search, search_move}
use Terms.{search_of, Seen, select_by, select_of, selects, sends_as, SendsRight, Sent, sent_by, sent_word, Serial}
use Terms.{SerialData, SerialSelect, SerialWidth, set_unit, set_up_code, set_up_fits, set_up_or, set_up_word, slice_get}
use Terms.{slice_index, slice_index_or, slice_set, Some, some_is, some_words, Source, source_word, spi_bare, spi_owing}
use Terms.{SpiRepresents, SpiState, SpiTable, stands-move, StandsAt, StandsIn, Start, start_by, start_finds}
use Terms.{start_found, start_looks, start_move, start_of, start_owes, start_place, start_takes, Started, StartPlace}
use Terms.{Starts, subst, suc, sym, Taken, tells_nothing, trio_of, true, unit_at, unit_named, unit_number, UnitAgrees}
use Terms.{Units, Users, value_of, view, whether_as, width_by, will_give, will_read, word_of, words_are, words_from}
use Terms.{words_of, WordsAgree, World, Write, zero, ℕ}
use Rattle.spi_laws.specs.starting.laws.{bookkeeping.RanState.{debt_of, ran_state}, services.StartWords.{begun_owes}}
use Rattle.spi_laws.specs.starting.laws.{services.StartWords.{choosing, starting}, words.PinnedBanks.{channel_is}}
use Rattle.spi_laws.specs.starting.laws.words.PinnedBanks.{first_placed, first_there, internal_values, next_there}
use Rattle.spi_laws.specs.starting.laws.{words.PinnedBanks.{none_for}, words.UnitWords.{at_most, IsTurned}}
use Rattle.word_shapes.specs.declared.jobs.finding.Find.TheVariants as finds
use Rattle.word_shapes.specs.Playing as playing
use Rattle.word_shapes.specs.PriorityQueue as ranked
use Rattle.word_shapes.specs.declared.choosing.Next.TheVariants as nexts
use Rattle.word_shapes.specs.declared.search.Search.TheVariants as search
use Rattle.spi_sequences.specs.declared.service.start.StartPlace.TheVariants as start
use Rattle.spi_sequences.specs.declared.service.start.Started.TheVariants as started

-- ---- the first of a job's words

first_of : (c width : ℕ) (g : Goes) (values : List ℕ) (rest : List JobWord) → 0 < length values
    → slice_index_or (as_words c width g values ++ rest) 0 no_word ≡ record { channel = c; place = 0; width = width; sent = masked width (slice_index_or values 0 0); goes = g }
first_of c width g [] rest lt = absurd (omega (arith, lt))
first_of c width g (v ∷ vs) rest lt = refl

-- a word that is masked once more stays
pub mod_again : (v n : ℕ) → v % 2 ^ n % 2 ^ n ≡ v % 2 ^ n
mod_again v n = grind arith

module _ (d : SpiTable) (fits : FitsSpi d) (held : Reservations) (chip : Chip) (w : World) (s : SpiState) (h : SpiRepresents d held chip w s) (on : is_off s.mode ≡ false) (b : ℕ) (k : Channel) (known : channel_of d b ≡ Some k) where
  abbrev x : Placed
  x = placed_of d b

  -- what is sent first of a channel
  abbrev pub value : ℕ
  value = slice_index_or (part_at d s b).values 0 0

  pub first_is : (p : Pending) → slice_get (channels_of d (next_job d p)) 0 ≡ Some b → first_word d s p ≡ record { channel = b; place = 0; width = k.width; sent = masked k.width value; goes = (part_at d s b).goes }
  first_is p at = first_in_list (channels_of d (next_job d p)) refl at
    where
      first_in_list : (cs : List ℕ) → channels_of d (next_job d p) ≡ cs → slice_get cs 0 ≡ Some b → first_word d s p ≡ record { channel = b; place = 0; width = k.width; sent = masked k.width value; goes = (part_at d s b).goes }
      first_in_list [] e f = absurd (cc)
      first_in_list (c ∷ cs) e f =
          let same : c ≡ b = some_is c b f in
          ap (λ ws. slice_index_or ws 0 no_word) (sym (words_are d s (channels_of d (next_job d p))))
          ∙ ap (λ xs. slice_index_or (words_of d (first_parts d s xs)) 0 no_word) e
          ∙ ap (λ a. slice_index_or (words_of d (first_parts d s (a ∷ cs))) 0 no_word) same
          ∙ ap (λ ws. slice_index_or ws 0 no_word) (flat_map-cons (λ z. as_words z.channel (width_by (channel_of d z.channel)) z.goes z.values) (part_at d s b) (first_parts d s cs))
          ∙ first_of (part_at d s b).channel (width_by (channel_of d (part_at d s b).channel)) (part_at d s b).goes (part_at d s b).values (words_of d (first_parts d s cs)) (some_words d fits held chip w s h on b k known)
          ∙ ap (λ a. record { channel = a; place = 0; width = width_by (channel_of d a); sent = masked (width_by (channel_of d a)) value; goes = (part_at d s b).goes }) (channel_is d s b)
          ∙ ap (λ o. record { channel = b; place = 0; width = width_by o; sent = masked (width_by o) value; goes = (part_at d s b).goes }) known

  -- ---- what a look gives

  masks : (v : ℕ) → masked_by x.channel v ≡ masked k.width v
  masks v = ap (λ z. masked_by z v) (has_channel d fits b k known) ∙ ap (λ q. if q then v % 2 ^ k.width else v) (lt_from k.width 32 (let few = (fits.channels b k known).narrow in omega (arith, few)))

  none_prepares : prepares held ≡ false
  none_prepares = (none_readied d s.mode s.channels held on h.right).1

  found_internal : k.internal ≡ true → will_give (word_of chip) (finds.Newest x) ≡ masked k.width value
  found_internal internal = masks (word_of chip (bank_word x Sent (bank_of (word_of chip (control_word x Sent))) 0)) ∙ ap (masked k.width) stands_there
    where
      was : BanksAgree d held h.going (word_of chip) (view s) b k
      was = h.words.banks b k known internal

      stands_there : word_of chip (bank_word x Sent (bank_of (word_of chip (control_word x Sent))) 0) ≡ value
      stands_there =
          let some : 0 < x.channel.length = subst (λ z. 0 < z.length) (sym (has_channel d fits b k known)) (fits.channels b k known).some in
          ap (λ i. word_of chip (bank_word x Sent i 0)) (newest-in (trio_of x Sent) (word_of chip) was.sent was.sends)
          ∙ newest-word (trio_of x Sent) (word_of chip) was.sent 0 was.sends some
          ∙ ap (λ xs. slice_index xs 0) (was.written none_prepares)
          ∙ first-at k.length (channel_at s b).written 0 (fits.channels b k known).some
          ∙ sym (ap (λ z. slice_index_or z.values 0 0) (internal_values d s b k known internal))

  -- of an external channel, by its set-up
  external_value : k.internal ≡ false → value ≡ slice_index_or (words_from (set_up_or k (channel_at s b).set_up).source (set_up_or k (channel_at s b).set_up).words k (channel_at s b)) 0 0
  external_value external = ap (λ z. slice_index_or z.values 0 0) (ap (λ o. part_by b o (channel_at s b)) known ∙ ap (part_for b k (channel_at s b)) external)

  sent_first : (q : Pointer) (n : ℕ) → 0 < n → slice_index_or (words_from q n k (channel_at s b)) 0 0 ≡ (if is_users q then word_of chip (source_word x 0) else k.default_data)
  sent_first Users n lt = first-at n (channel_at s b).source 0 lt ∙ sym ((h.arrays b).source 0 (subst (λ o. 0 < length_by o) (sym known) (fits.channels b k known).some))
  sent_first Null n lt = get_or-replicate n 0 k.default_data 0 lt

  found_by : (q : Bool) → (if q then masked_by x.channel (word_of chip (source_word x 0)) else masked_by x.channel x.channel.default_data) ≡ masked k.width (if q then word_of chip (source_word x 0) else k.default_data)
  found_by true = masks (word_of chip (source_word x 0))
  found_by false = masks x.channel.default_data ∙ ap (λ z. masked k.width z.default_data) (has_channel d fits b k known)

  found_external : k.internal ≡ false → will_give (word_of chip) (finds.SetUp x) ≡ masked k.width value
  found_external external =
      ap (will_read (word_of chip) x) read
      ∙ found_by (is_users (set_up_or k (channel_at s b).set_up).source)
      ∙ sym (ap (masked k.width) (external_value external ∙ sent_first (set_up_or k (channel_at s b).set_up).source (set_up_or k (channel_at s b).set_up).words (set_up_fits k (channel_at s b).set_up (fits.channels b k known).some ((h.sizes on b k known).set_up external)).0))
    where
      read : or_none (word_of chip (set_up_word x)) x.channel ≡ as_read (set_up_or k (channel_at s b).set_up)
      read = ap (λ v. or_none v x.channel) (h.set_ups on b k known external) ∙ ap (λ z. or_none (set_up_code (channel_at s b).set_up) z) (has_channel d fits b k known) ∙ read_set_up k (channel_at s b).set_up (fits.channels b k known).few ((h.sizes on b k known).set_up external)

  -- a look at the channel will give its first word
  pub found : will_give (word_of chip) (finding_first x) ≡ masked k.width value
  found = ap (λ z. will_give (word_of chip) (if z.internal then finds.Newest x else finds.SetUp x)) (has_channel d fits b k known) ∙ by k.internal refl
    where
      by : (q : Bool) → k.internal ≡ q → will_give (word_of chip) (if q then finds.Newest x else finds.SetUp x) ≡ masked k.width value
      by true e = found_internal e
      by false e = found_external e

-- ---- a window without a start

module _ (d : SpiTable) (debts : Reservations) (chip : Chip) (w : World) (s : SpiState) (h : SpiRepresents d debts chip w s) (u : ℕ) (free : h.going u ≡ None) (x : Serial) (word : x.word ≡ (unit_at chip.serials u).word) where
  turned_unit : (lt : u < 2) (n : ℕ) → n < 2 → is_sync_unit d n ≡ false → UnitAgrees d (slice_index_or (slice_set chip.serials.units u x) n idle) (run_at s n) (h.going n)
  turned_unit lt = set_unit (λ n y. is_sync_unit d n ≡ false → UnitAgrees d y (run_at s n) (h.going n)) chip.serials.units u x h.size
      (λ few async. subst (λ g. UnitAgrees d x (run_at s u) g) (sym free) (own (subst (λ g. UnitAgrees d (unit_at chip.serials u) (run_at s u) g) free (h.units u lt async))))
      (λ n few ne. h.units n few)
    where
      own : UnitAgrees d (unit_at chip.serials u) (run_at s u) None → UnitAgrees d x (run_at s u) None
      own a = (word ∙ a.0, a.1)

  turned_carried : (lt : u < 2) (n : ℕ) → n < 2 → is_sync_unit d n ≡ true → CarriesAgrees d (slice_index_or (slice_set chip.serials.units u x) n idle) (run_carried (carried_at s n)) (h.going n)
  turned_carried lt = set_unit (λ n y. is_sync_unit d n ≡ true → CarriesAgrees d y (run_carried (carried_at s n)) (h.going n)) chip.serials.units u x h.size
      (λ few sync. subst (λ g. CarriesAgrees d x (run_carried (carried_at s u)) g) (sym free) (own (subst (λ g. CarriesAgrees d (unit_at chip.serials u) (run_carried (carried_at s u)) g) free (h.sends u lt sync))))
      (λ n few ne. h.sends n few)
    where
      own : CarriesAgrees d (unit_at chip.serials u) (run_carried (carried_at s u)) None → CarriesAgrees d x (run_carried (carried_at s u)) None
      own a = (word ∙ a.0, a.1)

  -- a unit that isn't free is another one
  turned_select : (n : ℕ) (g : Going) → h.going n ≡ Some g → (slice_index_or (slice_set chip.serials.units u x) n idle).select ≡ (unit_at chip.serials n).select
  turned_select n g is = ap (λ y. y.select) (get_or-set_other chip.serials.units u n x idle (λ e. let f = sym free ∙ ap h.going (sym e) ∙ is in cc))

  -- the chip with this unit, and the same words
  pub turned_agrees : u < 2 → (c : Chip) → StandsIn c w → c.words ≡ chip.words → c.wiring ≡ chip.wiring → c.control ≡ chip.control → c.serials.units ≡ slice_set chip.serials.units u x → SpiRepresents d debts c w s
  turned_agrees lt c outside words wiring control units = record {
    right = h.right;
    outside = outside;
    wired = λ b few. ap (λ z. slice_index z.sources b) wiring ∙ h.wired b few;
    size = ap length units ∙ length-set chip.serials.units u x ∙ h.size;
    sound = h.sound;
    going = h.going;
    nexts = h.nexts;
    units = λ n few async. subst (λ xs. UnitAgrees d (slice_index_or xs n idle) (run_at s n) (h.going n)) (sym units) (turned_unit lt n few async);
    sends = λ n few sync. subst (λ xs. CarriesAgrees d (slice_index_or xs n idle) (run_carried (carried_at s n)) (h.going n)) (sym units) (turned_carried lt n few sync);
    sending = sends_as d chip c w w h.going h.going s s (λ n g few sync is. refl) (λ n g few sync is. ap (λ xs. (slice_index_or xs n idle).select) units ∙ turned_select n g is) (λ n g i y k few sync is there known. ap (λ ws. slice_index ws (held_word (placed_of d y.channel))) words) (λ n o knows. knows) debts h.sending;
    carriers = h.carriers;
    words = subst (λ ws. WordsAgree d debts h.going (λ k. slice_index ws k) (view s)) (sym words) h.words;
    set_ups = λ on b k known external. ap (λ ws. slice_index ws (set_up_word (placed_of d b))) words ∙ h.set_ups on b k known external;
    sizes = h.sizes;
    arrays = λ b. record { source = λ i few. ap (λ ws. slice_index ws (place_of (Source b) i)) words ∙ (h.arrays b).source i few; destination = λ i few. ap (λ ws. slice_index ws (place_of (Destination b) i)) words ∙ (h.arrays b).destination i few };
    lines = λ n few. ap (λ z. has_bit z.enabled (26 + n)) control ∙ h.lines n few;
    owed = h.owed;
  }

module _ (d : SpiTable) (fits : FitsSpi d) (below : Reservations) (owner : Origin Call) (acted : Option Answer) (chip : Chip) (w : World) (s : SpiState) (u : ℕ) (h : SpiRepresents d (debt_of u owner acted ∷ below) chip w s) where
  abbrev debts : Reservations
  debts = debt_of u owner acted ∷ below

  -- a unit that runs no job does nothing
  pub goes_none : run_at s u ≡ None → h.going u ≡ None
  goes_none e = by (h.going u) refl
    where
      by : (g : Option Going) → h.going u ≡ g → g ≡ None
      by None f = refl
      by (Some g) f = absurd (let run = going_run d fits debts chip w s h u g h.right.0.0 h.right.0.2 f in let no = sym e ∙ run.1 in cc)

  -- the debt is paid, and the unit cleared, where it runs a job or none waits
  pub paid : ((q : Pending) → h.going u ≡ None → Contains s.pending q → is_for d u q ≡ true → ⊥) → SpiRepresents d (cleared_of u owner acted ∷ below) chip w s
  paid none = clears d below chip w s u owner acted fits (holds_changed d debts below chip w s h (holds_back d below debts (holds_debt d (debt_of u owner acted) u below refl)) h.right.1 h.sending.1 h.carriers owed) (λ q free there for. none q (goes_none free) there for)
    where
      owed : AreOwed d below h.going s
      owed n q lt free there for = cases (same_or_other n u)
          (λ e. absurd (none q (ap h.going (sym e) ∙ free) there (subst (λ k. is_for d k q ≡ true) e for)))
          (λ ne. ap (λ b. b || is_owed n below) (sym (other_number u n (λ e. ne (sym e)))) ∙ h.owed n q lt free there for)

  module _ (free : h.going u ≡ None) (v received : ℕ) where
    pub selects_agrees : SpiRepresents d debts (chip_after chip (Write (SerialSelect u) v) received) w s
    selects_agrees = turned_agrees d debts chip w s h u free (record (unit_at chip.serials u) { select = v }) refl h.right.0.0 (chip_after chip (Write (SerialSelect u) v) received) (stands-move chip w (Write (SerialSelect u) v) received h.outside) refl refl refl refl

    pub widens_agrees : SpiRepresents d debts (chip_after chip (Write (SerialWidth u) v) received) w s
    widens_agrees = turned_agrees d debts chip w s h u free (record (unit_at chip.serials u) { width = v }) refl h.right.0.0 (chip_after chip (Write (SerialWidth u) v) received) (stands-move chip w (Write (SerialWidth u) v) received h.outside) refl refl refl refl

-- ---- its steps

-- ---- what a step leaves

-- the start: what the machine gives, the word that begins, and what the window owes after it
pub record StartBegins (d : SpiTable) (errand : FrameRole) (held : Reservations) (u : ℕ) (chip later : Chip) (w : World) (s : SpiState) (made : Move) (received : ℕ) (x : StartPlace) (e : Event) : Type 0 where
  pub is_start : e ≡ Start (unit_named u)
  pub stands : (value : ℕ) → StandsAt e made value
  pub state : SpiState
  pub begins : Begun
  pub is : (by : Option Call) → happens d w s (Starts (unit_named u) by received) ≡ Some (outcome_with state tells_nothing (Some begins))
  pub sends : SendsRight chip (Some begins) made
  pub owing : start_owes x ≡ true
  pub owes : CommitsAfter (spi_owing d) (Some (Units (starting d errand u x))) later (λ c. SpiRepresents d held c w state)

-- a step goes on, is the start, or was the last one, which clears the unit
abbrev pub StartLeaves : SpiTable → FrameRole → Reservations → Origin Call → Option Answer → (number : ℕ) → (chip later : Chip) → World → SpiState → Move → (received : ℕ) → StartPlace × Started → Type 0
StartLeaves d e below owner acted u chip c w s made y (x, started.Goes None) = SpiRepresents d (debt_of u owner acted ∷ below) c w s × start_place d u x ((spi_bare d).foot c) s
StartLeaves d e below owner acted u chip c w s made y (x, started.Goes (Some a)) = StartBegins d e (cleared_of u owner acted ∷ below) u chip c w s made y x a
StartLeaves d e below owner acted u chip c w s made y (x, started.Over) = SpiRepresents d (cleared_of u owner acted ∷ below) c w s

module _ (d : SpiTable) (fits : FitsSpi d) (errand : FrameRole) (below : Reservations) (owner : Origin Call) (acted : Option Answer) (chip : Chip) (w : World) (s : SpiState) (u : ℕ) (h : SpiRepresents d (debt_of u owner acted ∷ below) chip w s) (y : ℕ) where
  abbrev held : Reservations
  held = debt_of u owner acted ∷ below

  few : u < 2
  few = h.right.0.0

  on : is_off s.mode ≡ false
  on = h.right.0.1

  async : is_sync_unit d u ≡ false
  async = h.right.0.2

  abbrev foot : Chip → Seen
  foot c = (spi_bare d).foot c

  -- after this move
  abbrev Leaves : Move → StartPlace × Started → Type 0
  Leaves made z = StartLeaves d errand below owner acted u chip (chip_after chip made y) w s made y z

  -- ---- what the unit runs, and what waits

  running_right : Leaves (Load (running_word u)) (if word_of chip (running_word u) == 0 then (start.Nexts, started.Goes None) else (start.Running, started.Over))
  running_right = running_leaves (h.going u) refl ((h.words.on on).runs u few)
    where
      running_leaves : (g : Option Going) → h.going u ≡ g → RunAgrees d (word_of chip) u g → Leaves (Load (running_word u)) (if word_of chip (running_word u) == 0 then (start.Nexts, started.Goes None) else (start.Running, started.Over))
      running_leaves None e r = subst (λ n. Leaves (Load (running_word u)) (if n == 0 then (start.Nexts, started.Goes None) else (start.Running, started.Over))) (sym r) (h, going_free d fits held chip w s h u few e)
      running_leaves (Some g) e r =
          subst (λ q. Leaves (Load (running_word u)) (if q then (start.Nexts, started.Goes None) else (start.Running, started.Over))) (sym (other_number (word_of chip (running_word u)) 0 (λ f. let z = sym f ∙ r.running in omega (arith, z))))
          (paid d fits below owner acted chip w s u h (λ q none there for. let no = sym none ∙ e in cc))

  -- a look at the order gives the machine's next sequence
  looks_right : (free : IsFree s u) → (n : ℕ) × Ends choosing_front (ranked.own_of (record { at = order_word u })) n (record { search = search_of u; ranks = ranks_in d (word_of chip NEXTS) (word_of chip MARKS) }) (word_of chip) (λ m words. words ≡ number_of (next_on d u s.pending) ∷ [])
  looks_right free =
      let ranks : List ℕ = ranks_in d (word_of chip NEXTS) (word_of chip MARKS) in
      let entries : List Entry = entries_of d (view s) u in (
        _,
        ends-then choosing_front (ranked.own_of (record { at = order_word u })) _ (record { search = search_of u; ranks = ranks }) (word_of chip) (λ m words. ranked.Holds (record { at = order_word u }) m entries × (words ≡ choice ranks entries ∷ [])) (λ m words. words ≡ number_of (next_on d u s.pending) ∷ [])
            (λ m words z. z.1 ∙ ap (λ i. i ∷ []) (choice_next d fits held chip w s h on u few (goes_none d fits below owner acted chip w s u h free)))
            (front-ends (record { at = order_word u }) ranks (word_of chip) entries ((h.words.on on).sequences.orders u few)),
      )

  -- ---- the choice

  -- a sequence is found
  found_right : (made : Move) → chip_after chip made y ≡ chip → (p : Front) → (x : ℕ) → (free : IsFree s u) → (o : Option Pending) → next_on d u s.pending ≡ o
      → Leaves made (start_found d (word_of chip NEXTS) (word_of chip MARKS) p x (number_of o) (nat_lt (number_of o) 8))
  found_right made same p x free None e =
      subst (λ c. SpiRepresents d (cleared_of u owner acted ∷ below) c w s) (sym same) (paid d fits below owner acted chip w s u h (λ q none there for. none_for d u s.pending q e there for))
  found_right made same p x free (Some q) e =
      subst (λ b. Leaves made (start_found d (word_of chip NEXTS) (word_of chip MARKS) p x q.sequence b)) (sym (lt_from q.sequence 8 number))
      (subst (λ c. SpiRepresents d held c w s × start_place d u (start.Find found_so (finding_first (channel_at_place d found_so.run.job 0))) (foot c) s) (sym same)
      (h, (q, record { free = free; next = e; is = ap (λ j. record { run = record { job = j; sequence = q.sequence }; nexts = word_of chip NEXTS; marks = word_of chip MARKS }) job }, first.0, first.1, first.2, subst (λ z. LooksAt d first.0 first.1 (finding_first z)) (sym place) (looks_first first.0 first.1 first.2.known), will)))
    where
      there : Contains s.pending q × (is_for d u q ≡ true)
      there = next_there d u s.pending q e

      number : q.sequence < 8
      number = (h.sound.entries q (all_pending (view s) q there.0)).number

      found_so : Chosen
      found_so = chosen_by d (word_of chip NEXTS) (word_of chip MARKS) q.sequence

      job : found_so.run.job ≡ next_job d q
      job = ap (job_at_place d q.sequence) ((h.words.on on).sequences.pending q there.0).next ∙ job_place d fits q.sequence q.next (h.sound.entries q (all_pending (view s) q there.0)).next

      first : (b : ℕ) × (k : Channel) × IsFirst d q b k
      first = first_there d fits u q there.1

      place : channel_at_place d found_so.run.job 0 ≡ placed_of d first.0
      place = ap (λ j. channel_at_place d j 0) job ∙ first_placed d u q there.1 first.0 first.2.at

      looks_first : (b : ℕ) (k : Channel) → channel_of d b ≡ Some k → LooksAt d b k (finding_first (placed_of d b))
      looks_first b k known = whether_as (placed_of d b).channel.internal (λ i. LooksAt d b k (if i then finds.Newest (placed_of d b) else finds.SetUp (placed_of d b)))
          (λ e. (refl, sym (ap (λ z. z.internal) (has_channel d fits b k known)) ∙ e))
          (λ e. refl)

      will : will_give (word_of chip) (finding_first (channel_at_place d found_so.run.job 0)) ≡ (first_word d s q).sent
      will = ap (λ z. will_give (word_of chip) (finding_first z)) place ∙ found d fits held chip w s h on first.0 first.1 first.2.known ∙ sym (ap (λ z. z.sent) (first_is d fits held chip w s h on first.0 first.1 first.2.known q first.2.at))

  -- the look goes on, or has found what the machine starts next
  front_right : (p : Front) (n : ℕ) (free : IsFree s u) → Ends choosing_front (ranked.own_of (record { at = order_word u })) n p (word_of chip) (λ m words. words ≡ number_of (next_on d u s.pending) ∷ [])
      → (made : Move) → front_move p ≡ made → chip_after chip made y ≡ chip → value_of chip made ≡ playing.given (word_of chip) made → playing.after (word_of chip) made ≡ word_of chip
      → Leaves made (start_looks d (word_of chip NEXTS) (word_of chip MARKS) p (value_of chip made) (front_gave p (value_of chip made)) (has_ended (front_gave p (value_of chip made))))
  front_right p zero free ends made is same _ after = absurd ends
  front_right p (suc n) free ends made is same loaded after = front_leaves (front_gave p (value_of chip made)) refl rest
    where
      D : Memory → List ℕ → Type 0
      D m words = words ≡ number_of (next_on d u s.pending) ∷ []

      own : ℕ → Bool
      own = ranked.own_of (record { at = order_word u })

      rest : playing.Either (front_gave p (value_of chip made)).ended (Ends choosing_front own n (front_left p (value_of chip made)) (word_of chip) D) (D (word_of chip))
      rest =
          subst (λ m. playing.Either (front_gave p (value_of chip made)).ended (Ends choosing_front own n (front_left p (value_of chip made)) m D) (D m)) after
          (subst (λ v. playing.Either (front_gave p v).ended (Ends choosing_front own n (front_left p v) (playing.after (word_of chip) made) D) (D (playing.after (word_of chip) made))) (sym loaded)
          (subst (λ z. playing.Either (front_gave p (playing.given (word_of chip) z)).ended (Ends choosing_front own n (front_left p (playing.given (word_of chip) z)) (playing.after (word_of chip) z) D) (D (playing.after (word_of chip) z))) is ends.2))

      ended : (t : Taken) (a : Answer) → t.ended ≡ Some a → a.words ≡ number_of (next_on d u s.pending) ∷ [] → Leaves made (start_found d (word_of chip NEXTS) (word_of chip MARKS) p (value_of chip made) (gave t) (nat_lt (gave t) 8))
      ended t a e words =
          subst (λ z. Leaves made (start_found d (word_of chip NEXTS) (word_of chip MARKS) p (value_of chip made) z (nat_lt z 8))) (sym (ap number_in e ∙ ap (λ xs. slice_index_or xs 0 0) words))
          (found_right made same p (value_of chip made) free (next_on d u s.pending) refl)

      front_leaves : (t : Taken) → front_gave p (value_of chip made) ≡ t → playing.Either t.ended (Ends choosing_front own n (front_left p (value_of chip made)) (word_of chip) D) (D (word_of chip))
          → Leaves made (start_looks d (word_of chip NEXTS) (word_of chip MARKS) p (value_of chip made) t (has_ended t))
      front_leaves t e rest = split t.ended refl rest
        where
          split : (o : Option Answer) → t.ended ≡ o → playing.Either o (Ends choosing_front own n (front_left p (value_of chip made)) (word_of chip) D) (D (word_of chip))
              → Leaves made (start_looks d (word_of chip NEXTS) (word_of chip MARKS) p (value_of chip made) t (is_some t.ended))
          split None f more = subst (λ q. Leaves made (start_looks d (word_of chip NEXTS) (word_of chip MARKS) p (value_of chip made) t (is_some q))) (sym f) (subst (λ c. SpiRepresents d held c w s × start_place d u (start.Front (word_of chip NEXTS) (word_of chip MARKS) (front_left p (value_of chip made))) (foot c) s) (sym same) (h, (free, refl, refl, n, more)))
          split (Some a) f done = subst (λ q. Leaves made (start_looks d (word_of chip NEXTS) (word_of chip MARKS) p (value_of chip made) t (is_some q))) (sym f) (ended t a f done.1)

  front_all : (p : Front) (n : ℕ) (free : IsFree s u) → Ends choosing_front (ranked.own_of (record { at = order_word u })) n p (word_of chip) (λ m words. words ≡ number_of (next_on d u s.pending) ∷ [])
      → Leaves (front_move p) (start_looks d (word_of chip NEXTS) (word_of chip MARKS) p (value_of chip (front_move p)) (front_gave p (value_of chip (front_move p))) (has_ended (front_gave p (value_of chip (front_move p)))))
  front_all p n free ends = by p.search refl
    where
      moved : (k : ℕ) → front_move p ≡ Load k → Leaves (front_move p) (start_looks d (word_of chip NEXTS) (word_of chip MARKS) p (value_of chip (front_move p)) (front_gave p (value_of chip (front_move p))) (has_ended (front_gave p (value_of chip (front_move p)))))
      moved k f = subst (λ made. Leaves made (start_looks d (word_of chip NEXTS) (word_of chip MARKS) p (value_of chip made) (front_gave p (value_of chip made)) (has_ended (front_gave p (value_of chip made))))) (sym f) (front_right p n free ends (Load k) f refl refl refl)

      by : (z : Search) → p.search ≡ z → Leaves (front_move p) (start_looks d (word_of chip NEXTS) (word_of chip MARKS) p (value_of chip (front_move p)) (front_gave p (value_of chip (front_move p))) (has_ended (front_gave p (value_of chip (front_move p)))))
      by (search.Tally at) f = moved at.tally (ap search_move f)
      by (search.Low at tally) f = moved at.low (ap search_move f)
      by (search.High at tally low) f = moved at.high (ap search_move f)

  -- ---- the first word is found

  under_four : (v : ℕ) → v % 4 < 4
  under_four v = omega arith

  find_right : (c : Chosen) (p : Find) → start_place d u (start.Find c p) (foot chip) s → Leaves (find_move p) (start_finds c p (value_of chip (find_move p)) (find_gave p (value_of chip (find_move p))))
  find_right c (finds.Newest x) (q, is, b, k, first, looks, will) = (h, (q, is, b, k, first, (looks.0, looks.1, refl, under_four (word_of chip (control_word x Sent))), will))
  find_right c (finds.SetUp x) (q, is, b, k, first, looks, will) = let r = found_so (or_none (word_of chip (set_up_word x)) x.channel).source will in (h, (q, is, b, k, first, r.0, r.1))
    where
      found_so : (i : Bool) → (if i then masked_by x.channel (word_of chip (source_word x 0)) else masked_by x.channel x.channel.default_data) ≡ (first_word d s q).sent
          → LooksAt d b k (if i then finds.Source x 0 else finds.Default x) × (will_give (word_of chip) (if i then finds.Source x 0 else finds.Default x) ≡ (first_word d s q).sent)
      found_so true e = ((looks, refl), e)
      found_so false e = (looks, e)
  find_right c (finds.Pinned x i) (q, is, b, k, first, looks, will) = absurd looks
  find_right c (finds.Held x i) (q, is, b, k, first, looks, will) = absurd looks
  find_right c _ (q, is, b, k, first, looks, will) = (h, (q, is, will))

  -- ---- the unit is made ready

  unit_there : u < length chip.serials.units
  unit_there = let lt = few in let size = h.size in omega (arith, lt, size)

  select_right : (c : Chosen) (x : ℕ) → start_place d u (start.Select c x) (foot chip) s → Leaves (Write (SerialSelect u) (selects d c.run.job)) (start.Width c x, started.Goes None)
  select_right c x (q, is, sent) = (
    selects_agrees d fits below owner acted chip w s u h (goes_none d fits below owner acted chip w s u h is.free) (selects d c.run.job) y,
    (q, record { free = is.free; next = is.next; is = is.is }, sent, ap (λ z. z.select) (get_or-set_same chip.serials.units u (record (unit_at chip.serials u) { select = selects d c.run.job }) idle unit_there) ∙ ap (λ z. selects d z.run.job) is.is),
  )

  -- the width of the first channel is that of the first word
  width_is : (c : Chosen) (q : Pending) → IsChosen d u (word_of chip) s c q → (channel_at_place d c.run.job 0).channel.width ≡ (first_word d s q).width
  width_is c q is =
      let for = (next_there d u s.pending q is.next).1 in
      let first = first_there d fits u q for in
      ap (λ z. (channel_at_place d z.run.job 0).channel.width) is.is
      ∙ ap (λ z. z.channel.width) (first_placed d u q for first.0 first.2.at)
      ∙ ap (λ z. z.width) (has_channel d fits first.0 first.1 first.2.known)
      ∙ sym (ap (λ z. z.width) (first_is d fits held chip w s h on first.0 first.1 first.2.known q first.2.at))

  width_right : (c : Chosen) (x : ℕ) → start_place d u (start.Width c x) (foot chip) s → Leaves (Write (SerialWidth u) (channel_at_place d c.run.job 0).channel.width) (start.Begin c x, started.Goes None)
  width_right c x (q, is, sent, select) = (
    widens_agrees d fits below owner acted chip w s u h (goes_none d fits below owner acted chip w s u h is.free) (channel_at_place d c.run.job 0).channel.width y,
    (q, record { free = is.free; next = is.next; is = is.is }, sent, ap (λ z. z.select) same ∙ select, ap (λ z. z.width) same ∙ width_is c q is),
  )
    where
      same : unit_at (chip_after chip (Write (SerialWidth u) (channel_at_place d c.run.job 0).channel.width) y).serials u ≡ record (unit_at chip.serials u) { width = (channel_at_place d c.run.job 0).channel.width }
      same = get_or-set_same chip.serials.units u (record (unit_at chip.serials u) { width = (channel_at_place d c.run.job 0).channel.width }) idle unit_there

  -- ---- the start

  by_unit : (P : ℕ → Type 0) → P 0 → P 1 → P u
  by_unit P a b = by_two P a b u few

  module _ (q : Pending) (x : ℕ) (free : IsFree s u) (next : next_on d u s.pending ≡ Some q) (sent : x ≡ (first_word d s q).sent) (select : (unit_at chip.serials u).select ≡ select_of (select_by (job_of d (next_job d q)))) (width : (unit_at chip.serials u).width ≡ (first_word d s q).width) where
    there : Contains s.pending q × (is_for d u q ≡ true)
    there = next_there d u s.pending q next

    first : (b : ℕ) × (k : Channel) × IsFirst d q b k
    first = first_there d fits u q there.1

    is_first : first_word d s q ≡ record { channel = first.0; place = 0; width = first.1.width; sent = masked first.1.width (slice_index_or (part_at d s first.0).values 0 0); goes = (part_at d s first.0).goes }
    is_first = first_is d fits held chip w s h on first.0 first.1 first.2.known q first.2.at

    narrow : (first_word d s q).width ≤ 16
    narrow = subst (λ n. n ≤ 16) (sym (ap (λ z. z.width) is_first)) (fits.channels first.0 first.1 first.2.known).narrow

    turned : IsTurned d chip s u q
    turned = record { width = width; narrow = narrow; select = select }

    abbrev begun_state : SpiState
    begun_state = ran_state d below owner acted chip w s u h q x y

    -- the machine starts it
    startable : next_at d s (Some u) ≡ Some q
    startable = ap (λ b. if b then None else next_by d s u (run_at s u)) on ∙ ap (next_by d s u) free ∙ next

    start_is : (by : Option Call) → happens d w s (Starts (unit_named u) by y) ≡ Some (outcome_with begun_state tells_nothing (Some (as_begun d u (Some q) (first_word d s q))))
    start_is by =
        ap (λ o. start_of d w s o by y) (by_unit (λ n. unit_number (unit_named n) ≡ Some n) refl refl)
        ∙ ap (λ q. if q then sent_word d w s u y (sent_by by) else start_by d w s (Some u) y (next_at d s (Some u))) async ∙ ap (start_by d w s (Some u) y) startable

    -- what is sent is of the width already
    sent_masked : outgoing (unit_at chip.serials u) x ≡ (first_word d s q).sent
    sent_masked =
        ap (λ n. x % 2 ^ n) (ap (λ n. min n 16) width ∙ at_most (first_word d s q).width narrow ∙ ap (λ z. z.width) is_first)
        ∙ ap (λ v. v % 2 ^ first.1.width) (sent ∙ ap (λ z. z.sent) is_first) ∙ mod_again (slice_index_or (part_at d s first.0).values 0 0) first.1.width ∙ sym (ap (λ z. z.sent) is_first)

    begin_leaves : StartBegins d errand (cleared_of u owner acted ∷ below) u chip (chip_after chip (Write (SerialData u) x) y) w s (Write (SerialData u) x) y (start.Choose (choosing d chip q) (nexts.Look (search_of u) (ranks_in d (word_of chip NEXTS) (word_of chip MARKS)))) (Start (unit_named u))
    begin_leaves = record {
      is_start = refl;
      stands = λ v. by_unit (λ n. StandsAt (Start (unit_named n)) (Write (SerialData n) x) v) (refl, refl) (refl, refl);
      state = begun_state;
      begins = as_begun d u (Some q) (first_word d s q);
      is = start_is;
      sends = record { on = refl; word = sent_masked; width = ap (λ n. min n 16) width ∙ at_most (first_word d s q).width narrow; select = select };
      owing = refl;
      owes = begun_owes (record { d = d; fits = fits; below = below; owner = owner; acted = acted; chip = chip; w = w; s = s; u = u; h = h; p = q; there = there.0; for = there.1; free = goes_none d fits below owner acted chip w s u h free }) x y turned errand next;
    }

  begin_right : (c : Chosen) (x : ℕ) → start_place d u (start.Begin c x) (foot chip) s → Leaves (Write (SerialData u) x) (start_takes d u (start.Begin c x) 0)
  begin_right c x (q, is, sent, select, width) = subst (λ z. Leaves (Write (SerialData u) x) (start_takes d u (start.Begin z x) 0)) (sym is.is) (begin_leaves q x is.free is.next sent select width)

  -- ---- each place

  pub start_right : (p : StartPlace) → start_owes p ≡ false → start_place d u p (foot chip) s → Leaves (start_move d u p) (start_takes d u p (value_of chip (start_move d u p)))
  start_right start.Shut e at = (apart_agrees d fits held chip w s Mask y refl h, tt)
  start_right start.Running e at = running_right
  start_right start.Nexts e at = (h, (at, refl))
  start_right (start.Marks v) e (free, is) =
      subst (λ n. Leaves (Load MARKS) (start.Front n (word_of chip MARKS) (record { search = search_of u; ranks = ranks_in d n (word_of chip MARKS) }), started.Goes None)) (sym is) (let l = looks_right free in (h, (free, refl, refl, l.0, l.1)))
  start_right (start.Front v m p) e (free, is, also, n, ends) =
      subst (λ i. Leaves (front_move p) (start_looks d i m p (value_of chip (front_move p)) (front_gave p (value_of chip (front_move p))) (has_ended (front_gave p (value_of chip (front_move p)))))) (sym is)
      (subst (λ i. Leaves (front_move p) (start_looks d (word_of chip NEXTS) i p (value_of chip (front_move p)) (front_gave p (value_of chip (front_move p))) (has_ended (front_gave p (value_of chip (front_move p)))))) (sym also)
      (front_all p n free ends))
  start_right (start.Find c p) e at = find_right c p at
  start_right (start.Select c x) e at = select_right c x at
  start_right (start.Width c x) e at = width_right c x at
  start_right (start.Begin c x) e at = begin_right c x at
  start_right _ e at = absurd (cc)
