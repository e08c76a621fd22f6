-- The hardware may move, wherever the words and registers agree, and another module's frame too.
-- From hardware.StableUnderHardware, words.Cases, service_outline: Words, hardware.HardwareCommutes and 1 more.
-- Used by bookkeeping.RefinementRight, adc_driver: bookkeeping.Joined and 4 more.
use Rattle.std.proofs.Common.{◌≡◌, ◌≢◌, ◌+◌, ◌*◌, ◌^◌, ◌<◌, ◌≤◌, ◌&&◌, ◌||◌, ◌==◌, [], ◌∷◌, ◌∙◌, if◌then◌else◌}
use Rattle.adc_groups.specs.Terms
use Terms.{adc_owns, AdcState, AdcTable, after_read, Agrees, all_groups, AllByRecursion, and_first, and_second, ap}
use Terms.{arith, begins_word, bit_at, bit_at-lt, bit_at-zero, bit_or, Bool, Chip, chip_after, clash, clear_apart}
use Terms.{ClockPll, ClockRate, cond, ConverterAbort, ConverterAck, ConverterGo, ConverterList, Converters, EnableClear}
use Terms.{EnableSet, ended-later, false, FillsThere, FitsAdc, Group, group_at, group_of, happened, Hardware, has_bit}
use Terms.{has_bit-above, has_bit-or, has_bit-pow_other, has_bit-pow_same, has_bit-without, has_ended-not_yet}
use Terms.{has_ended-open, has_lines, HasUnit, is_for_lines, is_input, is_shared, is_some, is_trigger_line}
use Terms.{is_unit_line, is_word, last_sample, le_since, length, length-map, level_leaves, Levels, List, list_all}
use Terms.{list_any, listener, listener_among, listens, Load, mark_at, may, may_name, may_write, Move, moved}
use Terms.{names_there, nat_lt, nat_tests, None, not, off_on, Option, option_as, or_parts, Order, owns_written}
use Terms.{range_with_len, Read, refl, Reg, Reservations, ResetRequest, resets_chip, result-settled, result_of}
use Terms.{same_from_bits_below, Sample, sample_at, SerialData, set_apart, sets_rate, slice_index, Some, stands-event}
use Terms.{stands-move, StandsIn, Store, stores_in, subst, suc, sym, TimerLow, trigger_input, TriggerClear}
use Terms.{TriggerFlags, TriggersAgree, TriggerSet, true, unit_at-analog, whether, whether_as, with_mark, word_apart}
use Terms.{word_later, word_of, World, world_after, Write, zero, ℕ}
use Rattle.adc_groups.specs.laws.{hardware.HardwareCommutes.{small_or}, hardware.StableUnderHardware.{Goes_on}}
use Rattle.adc_groups.specs.laws.hardware.StableUnderHardware.{now_here, Onward, onward_agrees}
use Rattle.adc_groups.specs.laws.words.WordsOfModule.{words_below}
use Rattle.std.proofs.lemmas.Bool.{and_right}
use Rattle.adc_machine.specs.Words.{is_converter}
use Rattle.chip_blocks.specs.converter.Converters as chips
use Rattle.chip_blocks.specs.converter.Rounds as rounds

-- ---- levels and samples

-- where all samples are before a time, the last one counts there
last_counts : (xs : List Sample) (since at input : ℕ) → AllByRecursion (λ (x : Sample). x.since ≤ since) xs → since < at → sample_at xs input at ≡ last_sample xs input
last_counts [] since at input all lt = refl
last_counts (x ∷ xs) since at input all lt =
    let early : x.since < at = (let le = all.0 in omega (arith, le, lt)) in
    ap (λ q. cond q x.value (sample_at xs input at)) (before (x.input == input) x.since at early) ∙ ap (λ v. cond (x.input == input) x.value v) (last_counts xs since at input all.1 lt)
  where
    before : (b : Bool) (m n : ℕ) → m < n → b && nat_lt m n ≡ b
    before true m n lt = grind (arith, nat_tests)
    before false m n lt = refl

-- a sample of now doesn't count up to now
new_sample : (xs : List Sample) (now v i input at : ℕ) → at ≤ now → sample_at (record { input = i; since = now; value = v } ∷ xs) input at ≡ sample_at xs input at
new_sample xs now v i input at le = ap (λ q. cond q v (sample_at xs input at)) (whether_as (i == input) (λ b. b && nat_lt now at ≡ false)
    (λ _. grind (arith, nat_tests)) (λ _. refl))

all_before : (xs : List Sample) (m n : ℕ) → m ≤ n → AllByRecursion (λ (x : Sample). x.since ≤ m) xs → AllByRecursion (λ (x : Sample). x.since ≤ n) xs
all_before [] m n le h = tt
all_before (x ∷ xs) m n le h = ((let a = h.0 in omega (arith, a, le)), all_before xs m n le h.1)

swap : (q m r : Bool) → q ≡ r → cond q true m ≡ (m || r)
swap true false true e = refl
swap false false false e = refl
swap true m false e = absurd (cc)
swap false m true e = absurd (cc)
swap _ _ _ e = refl

-- ---- which group listens

pub none_listens : (d : AdcTable) (s : AdcState) (i : ℕ) (gs : List ℕ) → ((g : ℕ) → (group_at s g).trigger ≡ false) → listener_among d s i gs ≡ None
none_listens d s i [] off = refl
none_listens d s i (g ∷ gs) off = ap (λ q. cond q (Some g) (listener_among d s i gs)) (and_right (is_input i (trigger_input (group_of d g))) (group_at s g).trigger (off g)) ∙ none_listens d s i gs off

-- a listener's input is one of the four
listener_few : (d : AdcTable) → FitsAdc d → (s : AdcState) (i : ℕ) (gs : List ℕ) → is_some (listener_among d s i gs) ≡ true → i < 4
listener_few d fits s i [] e = absurd (cc)
listener_few d fits s i (g ∷ gs) e = by (listens d s i g) refl (λ h. listener_few d fits s i gs h) e
  where
    input_few : (k : Option Group) → group_of d g ≡ k → is_input i (trigger_input k) ≡ true → i < 4
    input_few None f h = absurd (cc)
    input_few (Some k) f h = option_as k.trigger (λ o. is_input i o ≡ true → i < 4)
        (λ j n h.
        let lt : j < 4 = (fits.groups g k f).trigger j n in
        let same : j ≡ i = grind (arith, nat_tests) in
        omega (arith, lt, same))
        (λ n h. absurd (cc)) h

    by : (q : Bool) → listens d s i g ≡ q → (is_some (listener_among d s i gs) ≡ true → i < 4) → is_some (cond q (Some g) (listener_among d s i gs)) ≡ true → i < 4
    by true f rest h = input_few (group_of d g) refl (and_first (is_input i (trigger_input (group_of d g))) (group_at s g).trigger f)
    by false f rest h = rest h

-- ---- lemmas without the words and the state, so that no search reads those

le_self : (m : ℕ) → m ≤ m
le_self m = omega arith

le_more : (m n : ℕ) → m ≤ m + n
le_more m n = omega arith

le_past : (m n k : ℕ) → m ≤ n → m ≤ n + k
le_past m n k le = omega (arith, le)

no_time : {A : Type 0} (m n end : ℕ) → n ≡ m → m < end → end ≤ n → A
no_time m n end e late early = absurd (omega (arith, e, late, early))

before_end : (since time now end : ℕ) → since ≤ time → time ≡ now → now < end → since < end
before_end since time now end le e late = omega (arith, le, e, late)

ended_still : (r : rounds.Round) (i m n : ℕ) → m ≤ n → rounds.has_ended r i m ≡ true → rounds.has_ended r i n ≡ true
ended_still r i m n le e = let later = ended-later r m n le in grind (arith, nat_tests)

equal : (i j : ℕ) → (j == i) ≡ true → j ≡ i
equal i j e = grind (arith, nat_tests)

is_few : (i : ℕ) → i < 4 → nat_lt i 4 ≡ true
is_few i lt = grind (arith, nat_tests)

one_bit : (i j : ℕ) (q : Bool) → (j == i) ≡ q → has_bit (2 ^ i) j ≡ (j == i)
one_bit i j true e = ap (λ k. has_bit (2 ^ i) k) (equal i j e) ∙ (has_bit-pow_same i ∙ sym e)
one_bit i j false e = let other : j ≢ i = grind (arith, nat_tests) in has_bit-pow_other i j other ∙ sym e

module _ (d : AdcTable) (fits : FitsAdc d) (held : Reservations) (chip : Chip) (w : World) (s : AdcState) (h : Agrees d held chip w s) where
  here : chip.converters.time ≡ w.now
  here = now_here chip w h.outside

  has_unit : (u : ℕ) → u < 2 → HasUnit chip.converters u
  has_unit u lt = record { all = h.block.all; within = lt; past = h.block.past }

  -- ---- where the converters stay as they are, but maybe for their flags

  flagged : (b : Chip) (x : World) (ms : List Bool) (pulses : ℕ) → b.converters ≡ record chip.converters { pulses = pulses } → StandsIn b x
      → ((l : ℕ) → is_unit_line l || is_trigger_line l ≡ true → has_bit b.control.enabled l ≡ has_bit chip.control.enabled l)
      → ((k : ℕ) → is_word d k ≡ true → word_of b k ≡ word_of chip k) → x.now ≡ w.now → x.samples ≡ w.samples
      → ((i : ℕ) → mark_at (record s { marks = ms }) i ≡ true → is_some (listener d s i) ≡ true) → (s.initialised ≡ false → (i : ℕ) → mark_at (record s { marks = ms }) i ≡ false)
      → TriggersAgree d (record chip.converters { pulses = pulses }) (record s { marks = ms }) → Agrees d held b x (record s { marks = ms })
  flagged b x ms pulses same stands lines words now samples marks off triggers = onward_agrees d fits chip b w x s ms on held h
    where
      on : Onward d chip b w x s ms
      on = record {
        outside = stands;
        block = record {
          all = ap (λ c. length c.units) same ∙ h.block.all;
          lists = λ u lt. ap (λ c. length (chips.unit_at c u).list) same ∙ h.block.lists u lt;
          past = subst (λ (c : Converters). c.levels.since ≤ c.time) (sym same) h.block.past;
          samples = subst (λ (c : Converters). AllByRecursion (λ (y : Sample). y.since ≤ c.levels.since) x.samples) (sym same) (subst (λ xs. AllByRecursion (λ (y : Sample). y.since ≤ chip.converters.levels.since) xs) (sym samples) h.block.samples);
        };
        words = words;
        lines = lines;
        now = le_since w.now x.now now;
        time = le_since chip.converters.time b.converters.time (ap (λ c. c.time) same);
        units = λ u lt. Goes_on (record {
          round = ap (λ c. (chips.unit_at c u).round) same;
          ended = λ i few e. ap (λ c. chips.result c.levels c.time (chips.unit_at c u) i) same;
          fresh = λ i input few unclosed small is late early. no_time w.now x.now ((chips.unit_at chip.converters u).round.start + 4 * (i + 1)) now late early;
        });
        samples = λ i at le. ap (λ xs. sample_at xs i at) samples;
        marks = marks;
        off = off;
        triggers = subst (λ c. TriggersAgree d c (record s { marks = ms })) (sym same) triggers;
      }

  pub still : (b : Chip) (x : World) → StandsIn b x → b.converters ≡ chip.converters
      → ((l : ℕ) → is_unit_line l || is_trigger_line l ≡ true → has_bit b.control.enabled l ≡ has_bit chip.control.enabled l)
      → ((k : ℕ) → is_word d k ≡ true → word_of b k ≡ word_of chip k) → x.now ≡ w.now → x.samples ≡ w.samples → Agrees d held b x s
  still b x stands same lines words now samples = flagged b x s.marks chip.converters.pulses same stands lines words now samples h.sound.marks h.sound.off h.triggers

  -- ---- time

  module _ (n : ℕ) where
    ticked_result : (u i : ℕ) → rounds.has_ended (chips.unit_at chip.converters u).round i chip.converters.time ≡ true → result_of (happened chip (Order.Tick n)) u i ≡ result_of chip u i
    ticked_result u i e =
        let a = chips.unit_at chip.converters u in
        let still_ended = ended_still a.round i chip.converters.time (chip.converters.time + n * chip.clock.rate) (le_more chip.converters.time (n * chip.clock.rate)) e in
        ap (λ q. if q && not (rounds.has_ended a.round i chip.converters.levels.since) then chips.level_at chip.converters.levels (rounds.input_of a.round i) else slice_index a.results i) (still_ended ∙ sym e)

    ticked_fresh : (u i input : ℕ) → i < (chips.unit_at chip.converters u).round.count → (chips.unit_at chip.converters u).round.closed ≡ None → input < 32 → rounds.input_of (chips.unit_at chip.converters u).round i ≡ input
        → let end = (chips.unit_at chip.converters u).round.start + 4 * (i + 1) in w.now < end → end ≤ w.now + n * chip.clock.rate → result_of (happened chip (Order.Tick n)) u i ≡ sample_at w.samples input end
    ticked_fresh u i input few unclosed small is late early =
        let a = chips.unit_at chip.converters u in
        let end = a.round.start + 4 * (i + 1) in
        let first : chip.converters.levels.since < end = before_end chip.converters.levels.since chip.converters.time w.now end h.block.past here late in
        let yes : rounds.has_ended a.round i (chip.converters.time + n * chip.clock.rate) ≡ true = has_ended-open a.round i (chip.converters.time + n * chip.clock.rate) (ap (λ q. is_some q) unclosed) few (subst (λ k. end ≤ k + n * chip.clock.rate) (sym here) early) in
        let no : rounds.has_ended a.round i chip.converters.levels.since ≡ false = has_ended-not_yet a.round i chip.converters.levels.since first in
        ap (λ q. if q && not (rounds.has_ended a.round i chip.converters.levels.since) then chips.level_at chip.converters.levels (rounds.input_of a.round i) else slice_index a.results i) yes
        ∙ (ap (λ q. if not q then chips.level_at chip.converters.levels (rounds.input_of a.round i) else slice_index a.results i) no
        ∙ (ap (λ j. chips.level_at chip.converters.levels j) is
        ∙ (h.outside.analog input small ∙ sym (last_counts w.samples chip.converters.levels.since end input h.block.samples first))))

    ticks : Agrees d held (happened chip (Order.Tick n)) (world_after w chip.clock.rate (Order.Tick n)) s
    ticks = onward_agrees d fits chip (happened chip (Order.Tick n)) w (world_after w chip.clock.rate (Order.Tick n)) s s.marks on held h
      where
        on : Onward d chip (happened chip (Order.Tick n)) w (world_after w chip.clock.rate (Order.Tick n)) s s.marks
        on = record {
          outside = stands-event chip w (Order.Tick n) tt h.outside;
          block = record { all = h.block.all; lists = h.block.lists; past = le_past chip.converters.levels.since chip.converters.time (n * chip.clock.rate) h.block.past; samples = h.block.samples };
          words = λ k own. refl;
          lines = λ l e. refl;
          now = le_more w.now (n * chip.clock.rate);
          time = le_more chip.converters.time (n * chip.clock.rate);
          units = λ u lt. Goes_on (record { round = refl; ended = λ i few e. ticked_result u i e; fresh = λ i input few unclosed small is late early. ticked_fresh u i input few unclosed small is late early });
          samples = λ i at le. refl;
          marks = h.sound.marks;
          off = h.sound.off;
          triggers = record { gates = h.triggers.gates; flags = h.triggers.flags; others = h.triggers.others };
        }

  -- ---- a level

  samples_now : AllByRecursion (λ (x : Sample). x.since ≤ chip.converters.time) w.samples
  samples_now = all_before w.samples chip.converters.levels.since chip.converters.time h.block.past h.block.samples

  levels_one : (input v : ℕ) → Agrees d held (happened chip (Order.Analog input v)) (world_after w chip.clock.rate (Order.Analog input v)) s
  levels_one input v = onward_agrees d fits chip (happened chip (Order.Analog input v)) w (world_after w chip.clock.rate (Order.Analog input v)) s s.marks on held h
    where
      unit : (u : ℕ) → u < 2 → chips.unit_at (chips.after_analog chip.converters input v) u ≡ chips.settled chip.converters.levels chip.converters.time (chips.unit_at chip.converters u)
      unit u lt = unit_at-analog chip.converters input v u (has_unit u lt)

      levels : Levels
      levels = chips.with_level chip.converters.levels input v chip.converters.time

      on : Onward d chip (happened chip (Order.Analog input v)) w (world_after w chip.clock.rate (Order.Analog input v)) s s.marks
      on = record {
        outside = stands-event chip w (Order.Analog input v) tt h.outside;
        block = record {
          all = length-map chip.converters.units (chips.settled chip.converters.levels chip.converters.time) ∙ h.block.all;
          lists = λ u lt. ap (λ a. length a.list) (unit u lt) ∙ h.block.lists u lt;
          past = le_self chip.converters.time;
          samples = (le_since w.now chip.converters.time here, samples_now);
        };
        words = λ k own. refl;
        lines = λ l e. refl;
        now = le_self w.now;
        time = le_self chip.converters.time;
        units = λ u lt. Goes_on (record {
          round = ap (λ a. a.round) (unit u lt);
          ended = λ i few e.
              ap (λ a. chips.result (chips.with_level chip.converters.levels input v chip.converters.time) chip.converters.time a i) (unit u lt) ∙ result-settled chip.converters.levels (chips.with_level chip.converters.levels input v chip.converters.time) chip.converters.time i (chips.unit_at chip.converters u) few refl;
          fresh = λ i j few unclosed small is late early. no_time w.now w.now ((chips.unit_at chip.converters u).round.start + 4 * (i + 1)) refl late early;
        });
        samples = λ i at le. new_sample w.samples w.now v input i at le;
        marks = h.sound.marks;
        off = h.sound.off;
        triggers = record { gates = h.triggers.gates; flags = h.triggers.flags; others = h.triggers.others };
      }

  -- ---- a pulse

  -- a chip with other flags
  pulsed_as : (b : Chip) (ms : List Bool) (pulses : ℕ) → b ≡ record chip { converters = record chip.converters { pulses = pulses } }
      → StandsIn b w
      → ((i : ℕ) → mark_at (record s { marks = ms }) i ≡ true → is_some (listener d s i) ≡ true) → (s.initialised ≡ false → (i : ℕ) → mark_at (record s { marks = ms }) i ≡ false)
      → TriggersAgree d (record chip.converters { pulses = pulses }) (record s { marks = ms }) → Agrees d held b w (record s { marks = ms })
  pulsed_as b ms pulses is stands = flagged b w ms pulses (ap (λ c. c.converters) is) stands (λ l e. ap (λ c. has_bit c.control.enabled l) is) (λ k own. ap (λ c. word_of c k) is) refl refl

  -- a pulse that is heard
  module _ (i : ℕ) (heard : is_some (listener d s i) ≡ true) where
    few : i < 4
    few = listener_few d fits s i all_groups heard

    gate : has_bit chip.converters.gates i ≡ true
    gate = h.triggers.gates i few ∙ heard

    marked : (j : ℕ) → j < 4 → mark_at (with_mark s i true) j ≡ (mark_at s j || (j == i))
    marked zero lt = swap (0 == i) (mark_at s 0) (0 == i) refl
    marked (suc zero) lt = swap (1 == i) (mark_at s 1) (1 == i) refl
    marked (suc (suc zero)) lt = swap (2 == i) (mark_at s 2) (2 == i) refl
    marked (suc (suc (suc zero))) lt = swap (3 == i) (mark_at s 3) (3 == i) refl
    marked (suc (suc (suc (suc j)))) lt = absurd (omega (arith, lt))

    heard_flags : TriggersAgree d (record chip.converters { pulses = bit_or chip.converters.pulses (2 ^ i) }) (with_mark s i true)
    heard_flags = record {
      gates = h.triggers.gates;
      flags = λ j lt. has_bit-or chip.converters.pulses (2 ^ i) j ∙ (ap (λ q. q || has_bit (2 ^ i) j) (h.triggers.flags j lt) ∙ (ap (λ q. mark_at s j || q) (one_bit i j (j == i) refl) ∙ sym (marked j lt)));
      others = (let p = h.triggers.others in small_or chip.converters.pulses i p few);
    }

    pick : (j : ℕ) (q : Bool) → (j == i) ≡ q → cond q true (mark_at s j) ≡ true → is_some (listener d s j) ≡ true
    pick j true e f = ap (λ k. is_some (listener d s k)) (equal i j e) ∙ heard
    pick j false e f = h.sound.marks j f

    heard_marks : (j : ℕ) → mark_at (with_mark s i true) j ≡ true → is_some (listener d s j) ≡ true
    heard_marks zero e = pick 0 (0 == i) refl e
    heard_marks (suc zero) e = pick 1 (1 == i) refl e
    heard_marks (suc (suc zero)) e = pick 2 (2 == i) refl e
    heard_marks (suc (suc (suc zero))) e = pick 3 (3 == i) refl e
    heard_marks (suc (suc (suc (suc j)))) e = off_on e

    heard_off : s.initialised ≡ false → (j : ℕ) → mark_at (with_mark s i true) j ≡ false
    heard_off off j = clash (ap (λ o. is_some o) (none_listens d s i all_groups (λ g. (h.sound.groups g).trigger (h.sound.rest off g).0))) heard

  pulses_one : (i : ℕ) (q : Bool) → is_some (listener d s i) ≡ q → Agrees d held (happened chip (Order.Trigger i)) w (cond q (with_mark s i true) s)
  pulses_one i true e = pulsed_as (happened chip (Order.Trigger i)) (with_mark s i true).marks (bit_or chip.converters.pulses (2 ^ i)) (gated (few i e) (gate i e)) (stands-event chip w (Order.Trigger i) tt h.outside) (heard_marks i e) (heard_off i e) (heard_flags i e)
    where
      gated : i < 4 → has_bit chip.converters.gates i ≡ true → happened chip (Order.Trigger i) ≡ record chip { converters = record chip.converters { pulses = bit_or chip.converters.pulses (2 ^ i) } }
      gated lt on = ap (λ q. record chip { converters = if q then record chip.converters { pulses = bit_or chip.converters.pulses (2 ^ i) } else chip.converters }) both
        where
          both : nat_lt i 4 && has_bit chip.converters.gates i ≡ true
          both = ap (λ q. q && has_bit chip.converters.gates i) (is_few i lt) ∙ on
  pulses_one i false e = pulsed_as (happened chip (Order.Trigger i)) s.marks chip.converters.pulses (gated (nat_lt i 4) refl) (stands-event chip w (Order.Trigger i) tt h.outside) h.sound.marks h.sound.off h.triggers
    where
      gated : (q : Bool) → nat_lt i 4 ≡ q → happened chip (Order.Trigger i) ≡ chip
      gated true f =
          let lt : i < 4 = grind (arith, nat_tests) in
          let off : nat_lt i 4 && has_bit chip.converters.gates i ≡ false = ap (λ q. q && has_bit chip.converters.gates i) f ∙ (h.triggers.gates i lt ∙ e) in
          ap (λ q. record chip { converters = if q then record chip.converters { pulses = bit_or chip.converters.pulses (2 ^ i) } else chip.converters }) off
      gated false f =
          let off : nat_lt i 4 && has_bit chip.converters.gates i ≡ false = ap (λ q. q && has_bit chip.converters.gates i) f in
          ap (λ q. record chip { converters = if q then record chip.converters { pulses = bit_or chip.converters.pulses (2 ^ i) } else chip.converters }) off

  -- ---- all of them

  order_still : (order : Order) → FillsThere (Hardware order) → (happened chip order).converters ≡ chip.converters → (happened chip order).control ≡ chip.control → (world_after w chip.clock.rate order).now ≡ w.now → (world_after w chip.clock.rate order).samples ≡ w.samples
      → Agrees d held (happened chip order) (world_after w chip.clock.rate order) s
  order_still order fills converters control now samples =
      still (happened chip order) (world_after w chip.clock.rate order) (stands-event chip w order fills h.outside) converters (λ l e. ap (λ c. has_bit c.enabled l) control) (λ k own. word_later chip order k h.outside.all.words (words_below d fits k own)) now samples

  pub later_agrees : (order : Order) → FillsThere (Hardware order) → Agrees d held (happened chip order) (world_after w chip.clock.rate order) (moved d s order)
  later_agrees (Order.Tick n) fills = ticks n
  later_agrees (Order.Level p v) fills = order_still (Order.Level p v) fills (level_leaves (λ c. c.converters) chip p v refl) (level_leaves (λ c. c.control) chip p v refl) refl refl
  later_agrees (Order.Analog i v) fills = levels_one i v
  later_agrees (Order.Trigger i) fills = pulses_one i (is_some (listener d s i)) refl
  later_agrees (Order.Miso u ws) fills = order_still (Order.Miso u ws) fills refl refl refl refl
  later_agrees (Order.SpiFault u) fills = order_still (Order.SpiFault u) fills refl refl refl refl
  later_agrees (Order.Fill c ws) fills = order_still (Order.Fill c ws) fills refl refl refl refl
  later_agrees order fills = order_still order fills refl refl refl refl

-- ---- What a move that names nothing of the module's leaves, and what the module's frames may do.

-- ---- the lines

-- what is so of each line of the module
pub by_line : (P : ℕ → Type 0) → P 24 → P 25 → P 28 → P 29 → P 30 → P 31 → (l : ℕ) → is_unit_line l || is_trigger_line l ≡ true → P l
by_line P a b c e f g l h = which_line (l == 24) refl (l == 25) refl (l == 28) refl (l == 29) refl (l == 30) refl
  where
    at : (n : ℕ) → (l == n) ≡ true → P n → P l
    at n i p = let same : n ≡ l = grind (arith, nat_tests) in subst P same p

    last : (l : ℕ) → (l == 24 || l == 25) || (not (nat_lt l 28) && nat_lt l 32) ≡ true → (l == 24) ≡ false → (l == 25) ≡ false → (l == 28) ≡ false → (l == 29) ≡ false → (l == 30) ≡ false → l ≡ 31
    last l h i j k m n = grind (arith, nat_tests)

    which_line : (p : Bool) → (l == 24) ≡ p → (q : Bool) → (l == 25) ≡ q → (r : Bool) → (l == 28) ≡ r → (s : Bool) → (l == 29) ≡ s → (t : Bool) → (l == 30) ≡ t → P l
    which_line true i q j r k s m t n = at 24 i a
    which_line false i true j r k s m t n = at 25 j b
    which_line false i false j true k s m t n = at 28 k c
    which_line false i false j false k true m t n = at 29 m e
    which_line false i false j false k false m true n = at 30 n f
    which_line false i false j false k false m false n = subst P (sym (last l h i j k m n)) g

no_line : (v : ℕ) → has_lines v ≡ false → (l : ℕ) → is_unit_line l || is_trigger_line l ≡ true → has_bit v l ≡ false
no_line v e =
    let first = or_parts (list_any (λ l. has_bit v l) (24 ∷ 25 ∷ 28 ∷ 29 ∷ 30 ∷ 31 ∷ [])) (not (nat_lt v (2 ^ 32))) e in
    let a = or_parts (has_bit v 24) _ first.0 in
    let b = or_parts (has_bit v 25) _ a.1 in
    let c = or_parts (has_bit v 28) _ b.1 in
    let f = or_parts (has_bit v 29) _ c.1 in
    let g = or_parts (has_bit v 30) _ f.1 in
    let h = or_parts (has_bit v 31) _ g.1 in
    by_line (λ l. has_bit v l ≡ false) a.0 b.0 c.0 f.0 g.0 h.0

lines_fit : (v : ℕ) → has_lines v ≡ false → v < 2 ^ 32
lines_fit v e = let small = (or_parts (list_any (λ l. has_bit v l) (24 ∷ 25 ∷ 28 ∷ 29 ∷ 30 ∷ 31 ∷ [])) (not (nat_lt v (2 ^ 32))) e).1 in grind (arith, nat_tests)

line_few : (l : ℕ) → is_unit_line l || is_trigger_line l ≡ true → l < 32
line_few = by_line (λ l. l < 32) (omega arith) (omega arith) (omega arith) (omega arith) (omega arith) (omega arith)

-- ---- moves elsewhere

read_apart : (chip : Chip) (r : Reg) → is_converter r ≡ false → (after_read chip r).converters ≡ chip.converters
read_apart chip (ConverterAbort u) e = absurd (cc)
read_apart chip _ e = refl

written_apart : (chip : Chip) (r : Reg) (v received : ℕ) → owns_written r v ≡ false → (chip_after chip (Write r v) received).converters ≡ chip.converters
written_apart chip (ConverterList u place) v received e = absurd (cc)
written_apart chip (ConverterGo u) v received e = absurd (cc)
written_apart chip (ConverterAck u) v received e = absurd (cc)
written_apart chip TriggerSet v received e = absurd (cc)
written_apart chip TriggerClear v received e = absurd (cc)
written_apart chip TriggerFlags v received e = absurd (cc)
written_apart chip _ v received e = refl

converters_apart : (d : AdcTable) (chip : Chip) (made : Move) (received : ℕ) → adc_owns d made ≡ false → (chip_after chip made received).converters ≡ chip.converters
converters_apart d chip (Read r) received e = read_apart chip r e
converters_apart d chip (Write r v) received e = written_apart chip r v received e
converters_apart d chip _ received e = refl

unstored : (d : AdcTable) (made : Move) → adc_owns d made ≡ false → stores_in (is_word d) made ≡ false
unstored d (Store k v) e = e
unstored d _ e = refl

written_enabled : (chip : Chip) (r : Reg) (v received l : ℕ) → owns_written r v ≡ false → is_unit_line l || is_trigger_line l ≡ true → has_bit (chip_after chip (Write r v) received).control.enabled l ≡ has_bit chip.control.enabled l
written_enabled chip EnableSet v received l e at = has_bit-or chip.control.enabled v l ∙ set_apart (has_bit chip.control.enabled l) (has_bit v l) (no_line v e l at)
written_enabled chip EnableClear v received l e at = has_bit-without chip.control.enabled v l (lines_fit v e) (line_few l at) ∙ clear_apart (has_bit chip.control.enabled l) (has_bit v l) (no_line v e l at)
written_enabled chip _ v received l e at = refl

read_enabled : (chip : Chip) (r : Reg) → (after_read chip r).control ≡ chip.control
read_enabled chip (TimerLow c) = refl
read_enabled chip _ = refl

enabled_apart : (d : AdcTable) (chip : Chip) (made : Move) (received l : ℕ) → adc_owns d made ≡ false → is_unit_line l || is_trigger_line l ≡ true → has_bit (chip_after chip made received).control.enabled l ≡ has_bit chip.control.enabled l
enabled_apart d chip (Read r) received l e at = ap (λ k. has_bit k.enabled l) (read_enabled chip r)
enabled_apart d chip (Write r v) received l e at = written_enabled chip r v received l e at
enabled_apart d chip _ received l e at = refl

pub apart_agrees : (d : AdcTable) → FitsAdc d → (held : Reservations) (chip : Chip) (w : World) (s : AdcState) (made : Move) (received : ℕ) → adc_owns d made ≡ false → Agrees d held chip w s → Agrees d held (chip_after chip made received) w s
apart_agrees d fits held chip w s made received e h =
    still d fits held chip w s h (chip_after chip made received) w (stands-move chip w made received h.outside) (converters_apart d chip made received e) (λ l at. enabled_apart d chip made received l e at)
    (λ k own. word_apart (is_word d) chip made received k (unstored d made e) own) refl refl

-- ---- what a frame may do

pub owned_plain : (d : AdcTable) (made : Move) → adc_owns d made ≡ true → is_shared made ≡ false
owned_plain d (Read r) e = refl
owned_plain d (Write r v) e = refl
owned_plain d (Load k) e = refl
owned_plain d (Store k v) e = refl
owned_plain d _ e = absurd (cc)

-- a value for lines alone has one of them
all_below : (p : ℕ → Bool) (a n i : ℕ) → i < n → list_all p (range_with_len a n) ≡ true → p (a + i) ≡ true
all_below p a zero i lt e = absurd (omega (arith, lt))
all_below p a (suc n) zero lt e = let at : a ≡ a + 0 = omega arith in subst (λ k. p k ≡ true) at (and_first (p a) (list_all p (range_with_len (a + 1) n)) e)
all_below p a (suc n) (suc i) lt e = let at : a + 1 + i ≡ a + suc i = omega arith in subst (λ k. p k ≡ true) at (all_below p (a + 1) n i (omega (arith, lt)) (and_second (p a) (list_all p (range_with_len (a + 1) n)) e))

abbrev line_test : ℕ → ℕ → Bool
line_test v l = not (has_bit v l) || is_unit_line l || is_trigger_line l

abbrev all_lines : ℕ → Bool
all_lines v = list_all (line_test v) (range_with_len 0 32)

for_parts : (v : ℕ) → is_for_lines v ≡ true → (v ≢ 0) × (v < 2 ^ 32) × (list_all (line_test v) (range_with_len 0 32) ≡ true)
for_parts v e = (some v (and_first (not (v == 0)) (nat_lt v (2 ^ 32)) (bounds v e)), few v (and_second (not (v == 0)) (nat_lt v (2 ^ 32)) (bounds v e)), and_second (not (v == 0) && nat_lt v (2 ^ 32)) (all_lines v) e)
  where
    bounds : (v : ℕ) → is_for_lines v ≡ true → not (v == 0) && nat_lt v (2 ^ 32) ≡ true
    bounds v e = and_first (not (v == 0) && nat_lt v (2 ^ 32)) (all_lines v) e

    some : (v : ℕ) → not (v == 0) ≡ true → v ≢ 0
    some v e = grind (arith, nat_tests)

    few : (v : ℕ) → nat_lt v (2 ^ 32) ≡ true → v < 2 ^ 32
    few v e = grind (arith, nat_tests)

pub other_line : (bits line : ℕ) → is_for_lines bits ≡ true → is_unit_line line || is_trigger_line line ≡ false → has_bit bits line ≡ false
other_line bits line e other = whether_as (nat_lt line 32) (λ q. has_bit bits line ≡ false)
    (λ i.
    let lt : line < 32 = grind (arith, nat_tests) in
    let at : 0 + line ≡ line = omega arith in
    let all : line_test bits line ≡ true = subst (λ k. line_test bits k ≡ true) at (all_below (line_test bits) 0 32 line lt (for_parts bits e).2) in
    none (has_bit bits line) (is_unit_line line) (is_trigger_line line) other all)
    (λ i. let above : 32 ≤ line = grind (arith, nat_tests) in has_bit-above bits 32 line (for_parts bits e).1 above)
  where
    none : (b u t : Bool) → u || t ≡ false → not b || u || t ≡ true → b ≡ false
    none true false true e f = absurd (cc)
    none false u t e f = refl
    none _ _ _ e f = absurd (cc)

zero_bit : (n : ℕ) → n < 2 → (n == 1) ≡ false → n ≡ 0
zero_bit n lt e = grind (arith, nat_tests)

lines_named : (v : ℕ) → is_for_lines v ≡ true → has_lines v ≡ true
lines_named v e = whether (has_lines v)
    (λ i. i) (λ i. absurd ((for_parts v e).0 (same_from_bits_below 32 v 0 (for_parts v e).1 (omega arith) (bits i))))
  where
    bits : has_lines v ≡ false → (i : ℕ) → i < 32 → bit_at v i ≡ bit_at 0 i
    bits none i lt = zero_bit (bit_at v i) (bit_at-lt v i) (clear (is_unit_line i || is_trigger_line i) refl) ∙ sym (bit_at-zero i)
      where
        clear : (q : Bool) → is_unit_line i || is_trigger_line i ≡ q → has_bit v i ≡ false
        clear true at = no_line v none i at
        clear false at = other_line v i e at

written_owned : (r : Reg) (v : ℕ) → may_write r v ≡ true → owns_written r v ≡ true
written_owned EnableSet v e = lines_named v e
written_owned EnableClear v e = lines_named v e
written_owned _ v e = e

may_owned : (d : AdcTable) (made : Move) → may_name d made ≡ true → adc_owns d made ≡ true
may_owned d (Write r v) e = written_owned r v e
may_owned d _ e = e

pub may_parts : (d : AdcTable) (made : Move) → may d made ≡ true → (adc_owns d made ≡ true) × (names_there made ≡ true)
may_parts d made e = (may_owned d made (and_first (may_name d made) (names_there made) e), and_second (may_name d made) (names_there made) e)

-- it resets nothing, begins no serial word and sets no rate
abbrev pub IsPlain : Move → Type 0
IsPlain made = (resets_chip made ≡ false) × (begins_word made ≡ false) × (sets_rate made ≡ false)

written_plain : (d : AdcTable) (r : Reg) (v : ℕ) → may_name d (Write r v) ≡ true → IsPlain (Write r v)
written_plain d ResetRequest v e = absurd (cc)
written_plain d (SerialData u) v e = absurd (cc)
written_plain d ClockPll v e = absurd (cc)
written_plain d ClockRate v e = absurd (cc)
written_plain d _ v e = (refl, refl, refl)

named_plain : (d : AdcTable) (made : Move) → may_name d made ≡ true → IsPlain made
named_plain d (Write r v) e = written_plain d r v e
named_plain d _ e = (refl, refl, refl)

pub plain : (d : AdcTable) (made : Move) → may d made ≡ true → IsPlain made
plain d made e = named_plain d made (and_first (may_name d made) (names_there made) e)
