-- Words of sequences, jobs and orders change with what is pending; the rest of the agreement stays.
-- From words.SameWords, words.WordsOfModule, words.WordsToState, hardware.StableUnderHardware and 2 more.
-- Used by spi_laws: starting.services.StartRight, spi_laws: starting.words.UnitWords and 19 more.
use Rattle.std.proofs.Common.{◌≡◌, ◌+◌, ◌<◌, ◌≤◌, ◌==◌, ◌&&◌, ◌∷◌, ◌∙◌}
use Rattle.spi_sequences.specs.Terms
use Terms.{AllRight, AllSend, Answer, AnswerName, ap, AreCarried, AreOwed, arith, BanksAgree, Bool, Call, carried_at}
use Terms.{CarriesAgrees, cases, Channel, channel_of, Chip, Cleared, Contains, Debt, Destination, DiffersIn, false}
use Terms.{FitsSpi, flat_map-cons, Going, has_bit, held_word, idle, is_for, is_off, is_owed, IsSoundState, length, List}
use Terms.{Memory, None, not, Option, Origin, Pending, place_of, placed_of, position_word, prepares, put_held}
use Terms.{readied_by, readied_in, refl, Reservation, Reservations, ReservedBy, run_at, run_carried, RunAgrees}
use Terms.{running_word, RunsNext, same_or_other, SequencesAgree, set_up_word, slice_index, slice_index_or, Some}
use Terms.{Source, source_word, SpiRepresents, SpiState, SpiTable, StandsIn, STATE, stored_by, stored_in, subst, sym}
use Terms.{take_held, true, UnitAgrees, View, view, word_of, World, ℕ}
use Rattle.spi_sequences.specs.laws.{hardware.StableUnderHardware.{none_in}, services.SetUpRight.{none_stored}}
use Rattle.spi_sequences.specs.laws.words.SameWords.{banks_as, banks_view, banks_words, going_words, sends_as}
use Rattle.spi_sequences.specs.laws.words.WordsOfModule.{of_banks, of_held, of_set_up, past_the_first}
use Rattle.spi_sequences.specs.laws.words.WordsToState.{going_free, going_next, other_number}
use Rattle.mcal_base.specs.facts.Truths.{and_second}

-- frames that hold the same of channels
pub record HoldsLike (d : SpiTable) (held held1 : Reservations) : Type 0 where
  pub puts : (sources : ℕ → List ℕ) (n : ℕ) (r : Bool) → put_held d sources n r held1 ≡ put_held d sources n r held
  pub takes : (n : ℕ) → take_held n held1 ≡ take_held n held
  pub prepares : prepares held1 ≡ prepares held
  pub readied : readied_in held1 ≡ readied_in held
  pub stored : stored_in held1 ≡ stored_in held

pub holds_back : (d : SpiTable) (held held1 : Reservations) → HoldsLike d held held1 → HoldsLike d held1 held
holds_back d held held1 h = record { puts = λ sources n r. sym (h.puts sources n r); takes = λ n. sym (h.takes n); prepares = sym h.prepares; readied = sym h.readied; stored = sym h.stored }

pub holds_same : (d : SpiTable) (held : Reservations) → HoldsLike d held held
holds_same d held = record { puts = λ sources n r. refl; takes = λ n. refl; prepares = refl; readied = refl; stored = refl }

-- a frame that owes a start holds nothing of them
pub holds_debt : (d : SpiTable) (x : ReservedBy Call Reservation) (u : ℕ) (held : Reservations) → x.what ≡ Debt u → HoldsLike d held (x ∷ held)
holds_debt d x u held e = subst (λ y. HoldsLike d held (record { by = x.by; what = y; acted = x.acted } ∷ held)) (sym e) (record {
  puts = λ sources n r. refl;
  takes = λ n. refl;
  prepares = refl;
  readied = flat_map-cons (λ h. readied_by h.what) (record { by = x.by; what = Debt u; acted = x.acted }) held;
  stored = flat_map-cons (λ h. stored_by h.what) (record { by = x.by; what = Debt u; acted = x.acted }) held;
})

pub banks_held : (d : SpiTable) (held held1 : Reservations) (going : ℕ → Option Going) (m : Memory) (v : View) (c : ℕ) (k : Channel) → HoldsLike d held held1 → BanksAgree d held going m v c k → BanksAgree d held1 going m v c k
banks_held d held held1 going m v c k b h = banks_as d held held1 going going m m v v c k (λ side j is. refl) (λ o t. t) (λ a o t. t) refl refl (b.puts v.sources c) (b.takes c) b.prepares b.readied h

-- what is held changes alone
pub holds_changed : (d : SpiTable) (held held1 : Reservations) (chip : Chip) (w : World) (s : SpiState) (h : SpiRepresents d held chip w s) → HoldsLike d held held1 → AllRight d s.mode s.channels held1 → AllSend d chip w h.going s held1 → AreCarried (view s) held1 → AreOwed d held1 h.going s → SpiRepresents d held1 chip w s
holds_changed d held held1 chip w s h like right sending carried owed = record {
  right = right;
  outside = h.outside;
  wired = h.wired;
  size = h.size;
  sound = h.sound;
  going = h.going;
  nexts = h.nexts;
  units = h.units;
  sends = h.sends;
  sending = sending;
  carriers = carried;
  words = record {
    state = h.words.state;
    on = h.words.on;
    banks = λ c k known internal. banks_held d held held1 h.going (word_of chip) (view s) c k like (h.words.banks c k known internal);
    stored = λ j v is. h.words.stored j v (subst (λ xs. Contains xs (j, v)) like.stored is);
  };
  set_ups = h.set_ups;
  sizes = h.sizes;
  arrays = h.arrays;
  lines = h.lines;
  owed = owed;
}

-- a chip that differs in driver words stands in the world
pub stands_owed : (own : ℕ → Bool) (chip c : Chip) (w : World) → DiffersIn own chip c → StandsIn chip w → StandsIn c w
stands_owed own chip c w differs h = subst (λ x. StandsIn x w) (sym differs.rest) (record {
  all = record { words = differs.whole; ram = h.all.ram; outside = h.all.outside; incoming = h.all.incoming; timers = h.all.timers; inputs = h.all.inputs; sources = h.all.sources };
  together = record { pulses = h.together.pulses; captures = h.together.captures; converters = h.together.converters; serials = h.together.serials };
  osc = h.osc;
  now = h.now;
  levels = h.levels;
  analog = h.analog;
  past = h.past;
})

-- the state with other sequences pending
abbrev pub with_pending : SpiState → List Pending → ℕ → (sequence_results job_results : List AnswerName) → SpiState
with_pending s ps n qs js = record s { pending = ps; requests = n; sequence_results = qs; job_results = js }

module _ (d : SpiTable) (fits : FitsSpi d) (below held1 : Reservations) (chip chip1 : Chip) (w : World) (s : SpiState) (h : SpiRepresents d below chip w s) (on : is_off s.mode ≡ false) (like : HoldsLike d below held1)
    (outside : StandsIn chip1 w) (wiring : chip1.wiring ≡ chip.wiring) (units : chip1.serials.units ≡ chip.serials.units) (control : chip1.control ≡ chip.control)
    (above : (j : ℕ) → STATE + 64 ≤ j → word_of chip1 j ≡ word_of chip j) (state : word_of chip1 STATE ≡ word_of chip STATE) (runs : (u : ℕ) → u < 2 → (word_of chip1 (running_word u) ≡ word_of chip (running_word u)) × (word_of chip1 (position_word u) ≡ word_of chip (position_word u)))
    (ps : List Pending) (n : ℕ) (qs js : List AnswerName) where
  abbrev later : SpiState
  later = with_pending s ps n qs js

  run_kept : (u : ℕ) → u < 2 → (g : Option Going) → h.going u ≡ g → RunAgrees d (word_of chip) u g → RunAgrees d (word_of chip1) u g
  run_kept u lt None e r = (runs u lt).0 ∙ r
  run_kept u lt (Some g) e r = going_words d fits u (word_of chip) (word_of chip1) g (going_next d fits below chip w s h u g lt e).2
      (λ n x c at known outside. above (held_word (placed_of d x.channel)) (past_the_first d x.channel c _ (fits.channels x.channel c known) (of_held d fits x.channel c known))) (λ n x c i at known few. above (source_word (placed_of d x.channel) i) (omega arith)) (runs u lt).0 (runs u lt).1 r

  pub firsts_changed : AllRight d s.mode s.channels held1 → AllSend d chip w h.going s held1 → AreCarried (view s) held1 → IsSoundState d (view later) → ((u : ℕ) → u < 2 → RunsNext d (view later) u (h.going u)) → SequencesAgree d (word_of chip1) (view later) → AreOwed d held1 h.going later → SpiRepresents d held1 chip1 w later
  firsts_changed right sending carried sound nexts sequences owed = record {
    right = right;
    outside = outside;
    wired = λ c lt. ap (λ x. slice_index x.sources c) wiring ∙ h.wired c lt;
    size = ap length units ∙ h.size;
    sound = sound;
    going = h.going;
    nexts = nexts;
    units = λ u lt async. subst (λ xs. UnitAgrees d (slice_index_or xs u idle) (run_at s u) (h.going u)) (sym units) (h.units u lt async);
    sends = λ u lt sync. subst (λ xs. CarriesAgrees d (slice_index_or xs u idle) (run_carried (carried_at s u)) (h.going u)) (sym units) (h.sends u lt sync);
    sending = sends_as d chip chip1 w w h.going h.going s later (λ u g lt sync is. refl) (λ u g lt sync is. ap (λ xs. (slice_index_or xs u idle).select) units) (λ u g m x c lt sync is there known. above (held_word (placed_of d x.channel)) (past_the_first d x.channel c _ (fits.channels x.channel c known) (of_held d fits x.channel c known))) (λ u o knows. knows) held1 sending;
    carriers = carried;
    words = record {
      state = state ∙ h.words.state;
      on = λ still. record { sequences = sequences; runs = λ u lt. run_kept u lt (h.going u) refl ((h.words.on on).runs u lt) };
      banks = λ c x known internal. banks_view d held1 h.going (word_of chip1) (view s) (view later) c x refl refl (λ r. refl) (banks_held d below held1 h.going (word_of chip1) (view s) c x like (banks_kept c x known internal));
      stored = λ j v is. absurd (none_in (j, v) (subst (λ xs. Contains xs (j, v)) (like.stored ∙ none_stored d s.mode s.channels below on h.right) is));
    };
    set_ups = λ still c x known external. above (set_up_word (placed_of d c)) (past_the_first d c x _ (fits.channels c x known) (of_set_up d fits c x known)) ∙ h.set_ups on c x known external;
    sizes = λ still. h.sizes on;
    arrays = λ c. record { source = λ i lt. above (place_of (Source c) i) (omega arith) ∙ (h.arrays c).source i lt; destination = λ i lt. above (place_of (Destination c) i) (omega arith) ∙ (h.arrays c).destination i lt };
    lines = λ u lt. ap (λ x. has_bit x.enabled (26 + u)) control ∙ h.lines u lt;
    owed = owed;
  }
    where
      banks_kept : (c : ℕ) (x : Channel) → channel_of d c ≡ Some x → x.internal ≡ true → BanksAgree d below h.going (word_of chip1) (view s) c x
      banks_kept c x known internal = banks_words d fits below h.going (word_of chip) (word_of chip1) (view s) c x known (above (held_word (placed_of d c)) (past_the_first d c x _ (fits.channels c x known) (of_held d fits c x known))) (λ side j is. above j (past_the_first d c x j (fits.channels c x known) (of_banks d fits c x known internal side j is))) (h.words.banks c x known internal)

-- ---- A frame has cleared a unit that it leaves busy, or without a sequence that waits.

-- what a frame of this origin holds that acted so and has cleared the unit
abbrev pub cleared_of : (number : ℕ) → Origin Call → Option Answer → ReservedBy Call Reservation
cleared_of u by acted = record { by = by; what = Cleared u; acted = acted }

-- it holds nothing of channels
like : (d : SpiTable) (u : ℕ) (by : Origin Call) (acted : Option Answer) (held : Reservations) → HoldsLike d held (cleared_of u by acted ∷ held)
like d u by acted held = record {
  puts = λ sources n r. refl;
  takes = λ n. refl;
  prepares = refl;
  readied = flat_map-cons (λ h. readied_by h.what) (cleared_of u by acted) held;
  stored = flat_map-cons (λ h. stored_by h.what) (cleared_of u by acted) held;
}

module _ (d : SpiTable) (held : Reservations) (chip : Chip) (w : World) (s : SpiState) (u : ℕ) (by : Origin Call) (acted : Option Answer) where
  -- a unit is cleared that is busy, or for which no sequence waits
  pub clears : FitsSpi d → (h : SpiRepresents d held chip w s) → ((p : Pending) → run_at s u ≡ None → Contains s.pending p → is_for d u p ≡ true → ⊥) → SpiRepresents d (cleared_of u by acted ∷ held) chip w s
  clears fits h none = holds_changed d held (cleared_of u by acted ∷ held) chip w s h (like d u by acted held) (tt, h.right) (tt, h.sending) h.carriers owed
    where
      owed : AreOwed d (cleared_of u by acted ∷ held) h.going s
      owed n p lt free there for = cases (same_or_other n u)
          (λ e. absurd (none p (ap (run_at s) (sym e) ∙ going_free d fits held chip w s h n lt free) there (subst (λ k. is_for d k p ≡ true) e for)))
          (λ ne. ap (λ q. not q && is_owed n held) (other_number u n (λ e. ne (sym e))) ∙ h.owed n p lt free there for)

  -- a frame that ends, or goes on, holds it no more
  pub clear_over : SpiRepresents d (cleared_of u by acted ∷ held) chip w s → SpiRepresents d held chip w s
  clear_over h = holds_changed d (cleared_of u by acted ∷ held) held chip w s h (holds_back d held (cleared_of u by acted ∷ held) (like d u by acted held)) h.right.1 h.sending.1 h.carriers (λ n p lt free there for. and_second (not (u == n)) (is_owed n held) (h.owed n p lt free there for))
