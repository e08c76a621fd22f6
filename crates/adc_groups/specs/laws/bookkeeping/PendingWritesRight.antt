-- The moves that windows owe are as the outline asks for, and what is promised of the other unit stays.
-- From hardware.HardwareCommutes, hardware.StableUnderHardware, words.Cases, service_outline: SimpleMoves and 3 more.
-- Used by services.RequestRight, services.StopRight, adc_laws: turns.words.BegunWords and 7 more.
use Rattle.std.proofs.Common.{◌≡◌, ◌≢◌, ◌+◌, ◌^◌, ◌<◌, ◌≤◌, ◌&&◌, ◌||◌, ◌==◌, [], ◌∷◌, ◌∙◌, if◌then◌else◌}
use Rattle.adc_groups.specs.Terms
use Terms.{aborts, aborts_by, ack_left, acks, AdcState, AdcTable, Agrees, Alike, Alike_but, alike_chips, Alike_same}
use Terms.{all_groups, AllByRecursion, and_false, and_first, and_from, and_parts, and_second, ap, Are_closed, Are_same}
use Terms.{AreFlagsAlike, AreOwed, arith, bare, bit_or, Bool, Call, cases, Chip, chip_after, clears_flag, Closes, cond}
use Terms.{Continuation, Converter, ConverterAbort, ConverterAck, Converters, deed_move, deferring_writes, Differs}
use Terms.{EnableClear, eq_other, false, fits_by, FitsAdc, FitsDeed, flag_left, Flags_left, Flags_same, get_or-map}
use Terms.{group_at, group_of, happened, has_bit, has_bit-without, Is_closed, is_fill, Is_finished, is_finished}
use Terms.{is_handler, is_on, Is_open, is_outranked, Is_over, is_some, is_unit_line, IsBasis, IsDone, IsOver, IsUnkept}
use Terms.{left_by, length, length-map, length-set, List, list_any, MachineRound, making_owed, may, may_name, move_by}
use Terms.{nat_lt, nat_tests, next_group, next_is, None, none_is, not, Option, option_as, or_right, Order, Origin}
use Terms.{owed_of, owed_own, owing_basis, PendingWrites, priority_of, Promised, rank_of, Read, refl, Reservations}
use Terms.{Round, round_at, RoundAgrees, same_or_other, Sample, shape_move, SharedRefinement, simple_commutes}
use Terms.{simple_value, Some, some_hold, StandsIn, starts, starts_by, starts_on, StructureOp, subst, sym, TriggerClear}
use Terms.{TriggerFlags, true, UnitsAlike, unused, value_of, waits_for, whether_as, will_yield, WindowWrite, without}
use Terms.{word_of, words_happened, World, Write, ℕ}
use Rattle.adc_groups.specs.laws.bookkeeping.RefinementRight.{bare_right}
use Rattle.adc_groups.specs.laws.hardware.HardwareCommutes.{abort_commutes, aborted_list, ack_commutes}
use Rattle.adc_groups.specs.laws.hardware.HardwareCommutes.{acknowledged_list, acknowledged_over, alike_left}
use Rattle.adc_groups.specs.laws.hardware.HardwareCommutes.{bits_of_flags, block_after, closes_over, done_later}
use Rattle.adc_groups.specs.laws.hardware.HardwareCommutes.{done_stays, flags_commute, gates_commute, happened_block}
use Rattle.adc_groups.specs.laws.hardware.HardwareCommutes.{kind_of, owed_calm, owed_plain, owed_reset, owed_steady}
use Rattle.adc_groups.specs.laws.hardware.HardwareCommutes.{owed_times, owed_unwound, shape_simple, shorter_by}
use Rattle.adc_groups.specs.laws.hardware.HardwareCommutes.{small_or, small_without, sound_later, unit_other}
use Rattle.adc_groups.specs.laws.hardware.HardwareCommutes.{unit_set, unkept_same}
use Rattle.adc_groups.specs.laws.hardware.StableUnderHardware.{Goes_on, Is_left, Onward, onward_agrees, UnitGoes}
use Rattle.adc_groups.specs.PendingWrites.{IsSound}
use Rattle.chip_blocks.specs.converter.Rounds.{Round as ChipRound}
use Rattle.chip_blocks.specs.converter.Converters as chips
use Rattle.chip_blocks.specs.converter.Rounds as rounds

any_same : (p q : ℕ → Bool) → ((h : ℕ) → p h ≡ q h) → (gs : List ℕ) → list_any p gs ≡ list_any q gs
any_same p q same [] = refl
any_same p q same (g ∷ gs) = ap (λ b. b || list_any p gs) (same g) ∙ ap (λ b. q g || b) (any_same p q same gs)

-- where each group waits for the unit as before
module _ (d : AdcTable) (w : World) (s t : AdcState) (v : ℕ) (round : round_at t v ≡ round_at s v) (waits : (h : ℕ) → waits_for d t v h ≡ waits_for d s v h) where
  starts_before : is_some (starts d t v) ≡ true → is_some (starts d s v) ≡ true
  starts_before e = by (round_at s v) refl (next_group d t v) refl (sym (ap (λ q. is_some (starts_by q (next_group d t v))) round) ∙ e)
    where
      found : (k : ℕ) → next_group d t v ≡ Some k → is_some (next_group d s v) ≡ true
      found k f = option_as (next_group d s v) (λ o. is_some o ≡ true)
          (λ _ _. refl)
          (λ i. let there : waits_for d s v k ≡ true = sym (waits k) ∙ (next_is d t v k f).waits in let off = none_is d s v k i in absurd (cc))

      by : (q : Option Round) → round_at s v ≡ q → (o : Option ℕ) → next_group d t v ≡ o → is_some (starts_by q o) ≡ true → is_some (starts d s v) ≡ true
      by None i (Some k) f g = ap (λ q. is_some (starts_by q (next_group d s v))) i ∙ found k f
      by _ i _ f g = absurd (cc)

  outranked_same : (g : ℕ) → is_outranked d t v g ≡ is_outranked d s v g
  outranked_same g = any_same (λ h. waits_for d t v h && nat_lt (rank_of d g) (rank_of d h)) (λ h. waits_for d s v h && nat_lt (rank_of d g) (rank_of d h)) (λ h. ap (λ q. q && nat_lt (rank_of d g) (rank_of d h)) (waits h)) all_groups

  aborts_in : (q : Option Round) → is_some (aborts_by d w t v q) ≡ is_some (aborts_by d w s v q)
  aborts_in None = refl
  aborts_in (Some r) = ap (λ q. is_some (cond (not (is_finished w (group_of d r.group) r) && q) (Some r) None)) (outranked_same r.group)

  aborts_before : is_some (aborts d w t v) ≡ true → is_some (aborts d w s v) ≡ true
  aborts_before e = sym (ap (λ q. is_some (aborts_by d w t v q)) round ∙ aborts_in (round_at s v)) ∙ e

  pub promised_same : (before after : Reservations) → (some_hold (starts_on v) before ≡ true → some_hold (starts_on v) after ≡ true) → (will_yield v before ≡ true → will_yield v after ≡ true) → Promised d before w s v → Promised d after w t v
  promised_same before after f h p = record { starts = λ e. f (p.starts (starts_before e)); yields = λ e. h (p.yields (aborts_before e)) }

-- a change of one group leaves how groups wait for another unit
pub waits_other : (d : AdcTable) (s t : AdcState) (g v : ℕ) → is_on v (group_of d g) ≡ false → ((k : ℕ) → k ≢ g → is_some (group_at t k).waiting ≡ is_some (group_at s k).waiting) → (h : ℕ) → waits_for d t v h ≡ waits_for d s v h
waits_other d s t g v off waits h = cases (same_or_other h g)
    (λ e.
    let none : is_on v (group_of d h) ≡ false = ap (λ k. is_on v (group_of d k)) e ∙ off in
    ap (λ q. q && is_some (group_at t h).waiting) none ∙ sym (ap (λ q. q && is_some (group_at s h).waiting) none))
    (λ ne. ap (λ q. is_on v (group_of d h) && q) (waits h ne))

-- without priorities nothing yields
none_ranks : (p q : ℕ → Bool) → ((h : ℕ) → q h ≡ false) → (gs : List ℕ) → list_any (λ h. p h && q h) gs ≡ false
none_ranks p q off [] = refl
none_ranks p q off (g ∷ gs) = ap (λ b. (p g && b) || list_any (λ h. p h && q h) gs) (off g) ∙ (ap (λ b. b || list_any (λ h. p h && q h) gs) (and_false (p g)) ∙ none_ranks p q off gs)

pub none_yields : (d : AdcTable) (w : World) (s : AdcState) (v : ℕ) → d.priorities ≡ false → is_some (aborts d w s v) ≡ false
none_yields d w s v flat = option_as (round_at s v) (λ q. is_some (aborts_by d w s v q) ≡ false)
    (λ r _. ap (λ q. is_some (cond (not (is_finished w (group_of d r.group) r) && q) (Some r) None)) (off r.group) ∙ and_none (not (is_finished w (group_of d r.group) r)) r)
    (λ _. refl)
  where
    rank : (g : ℕ) → rank_of d g ≡ 0
    rank g = ap (λ q. cond q (priority_of (group_of d g)) 0) flat

    below : (g h : ℕ) → nat_lt (rank_of d g) (rank_of d h) ≡ false
    below g h = ap (λ n. nat_lt n (rank_of d h)) (rank g) ∙ ap (λ n. nat_lt 0 n) (rank h)

    off : (g : ℕ) → is_outranked d s v g ≡ false
    off g = none_ranks (λ h. waits_for d s v h) (λ h. nat_lt (rank_of d g) (rank_of d h)) (λ h. below g h) all_groups

    and_none : (a : Bool) (r : Round) → is_some (cond (a && false) (Some r) None) ≡ false
    and_none true r = refl
    and_none false r = refl

-- where fewer groups wait, and no unit has another round, no more may be aborted, and no more may start where the round is the same
any_more : (p q : ℕ → Bool) → ((h : ℕ) → p h ≡ true → q h ≡ true) → (gs : List ℕ) → list_any p gs ≡ true → list_any q gs ≡ true
any_more p q more [] e = e
any_more p q more (g ∷ gs) e = by (λ f. any_more p q more gs f) (p g) refl e
  where
    by : (list_any p gs ≡ true → list_any q gs ≡ true) → (b : Bool) → p g ≡ b → b || list_any p gs ≡ true → q g || list_any q gs ≡ true
    by rest true i f = ap (λ b. b || list_any q gs) (more g i)
    by rest false i f = or_right (q g) (list_any q gs) (rest f)

module _ (d : AdcTable) (w : World) (s t : AdcState) (v : ℕ) (waits : (h : ℕ) → waits_for d t v h ≡ true → waits_for d s v h ≡ true) (round : (r : Round) → round_at t v ≡ Some r → round_at s v ≡ Some r) where
  outranked_more : (g : ℕ) → is_outranked d t v g ≡ true → is_outranked d s v g ≡ true
  outranked_more g = any_more (λ h. waits_for d t v h && nat_lt (rank_of d g) (rank_of d h)) (λ h. waits_for d s v h && nat_lt (rank_of d g) (rank_of d h))
      (λ h e. let k = and_parts (waits_for d t v h) (nat_lt (rank_of d g) (rank_of d h)) e in and_from (waits_for d s v h) (nat_lt (rank_of d g) (rank_of d h)) (waits h k.0) k.1) all_groups

  pub aborts_fewer : is_some (aborts d w t v) ≡ true → is_some (aborts d w s v) ≡ true
  aborts_fewer e = option_as (round_at t v) (λ q. is_some (aborts_by d w t v q) ≡ true → is_some (aborts d w s v) ≡ true)
      (λ r i f.
      let k = and_parts (not (is_finished w (group_of d r.group) r)) (is_outranked d t v r.group) (holds (not (is_finished w (group_of d r.group) r) && is_outranked d t v r.group) r f) in
      let on = and_from (not (is_finished w (group_of d r.group) r)) (is_outranked d s v r.group) k.0 (outranked_more r.group k.1) in
      ap (λ q. is_some (aborts_by d w s v q)) (round r i) ∙ ap (λ b. is_some (cond b (Some r) None)) on)
      (λ i f. absurd (cc)) e
    where
      holds : (q : Bool) (r : Round) → is_some (cond q (Some r) None) ≡ true → q ≡ true
      holds true r f = refl
      holds false r f = absurd (cc)

-- ---- what is yielded below a frame's promise of starts

-- it is promised without that frame, and with it unless the frame is the handler of the unit's own line
pub yields_below : (own x : Bool) → not own && x ≡ true → x ≡ true
yields_below true x e = absurd (cc)
yields_below false x e = e

pub yields_past : (a : Bool) (v : ℕ) (o : Origin Call) (x : Bool) → is_handler v o ≡ false → not (a && is_handler v o) && x ≡ x
yields_past a v o x e = ap (λ b. not (a && b) && x) e ∙ ap (λ b. not b && x) (and_false a)

-- the line of a trigger input is no unit's
pub no_unit : (i : ℕ) → is_unit_line (28 + i) ≡ false
no_unit i = ap (λ q. q || 28 + i == 25) (eq_other (28 + i) 24 (λ e. omega (arith, e))) ∙ eq_other (28 + i) 25 (λ e. omega (arith, e))

-- ---- The moves that windows owe are as the outline asks for.

-- ---- what the hardware leaves of the block

record BlockLeft (a b : Converters) : Type 0 where
  time : a.time ≤ b.time
  all : length b.units ≡ length a.units
  gates : b.gates ≡ a.gates
  few : a.pulses < 16 → b.pulses < 16
  round : (u : ℕ) → u < length a.units → (chips.unit_at b u).round ≡ (chips.unit_at a u).round

block_left : (o : Order) (r : ℕ) (c : Converters) → BlockLeft c (block_after o r c)
block_left (Order.Analog i v) r c = record { time = omega arith; all = length-map c.units (chips.settled c.levels c.time); gates = refl; few = λ e. e; round = λ u lt. ap (λ x. x.round) (get_or-map (chips.settled c.levels c.time) c.units u unused unused lt) }
block_left (Order.Trigger i) r c = whether_as (nat_lt i 4 && has_bit c.gates i) (λ q. BlockLeft c (if q then record c { pulses = bit_or c.pulses (2 ^ i) } else c))
    (λ e. record { time = omega arith; all = refl; gates = refl; few = λ few. small_or c.pulses i few (small (nat_lt i 4) (has_bit c.gates i) refl e); round = λ u lt. refl })
    (λ e. record { time = omega arith; all = refl; gates = refl; few = λ e. e; round = λ u lt. refl })
  where
    small : (s g : Bool) → nat_lt i 4 ≡ s → s && g ≡ true → i < 4
    small true g e f = grind (arith, nat_tests)
    small false g e f = absurd (cc)
block_left _ r c = record { time = omega arith; all = refl; gates = refl; few = λ e. e; round = λ u lt. refl }

left_by_order : (chip : Chip) (order : Order) → is_fill order ≡ false → BlockLeft chip.converters (happened chip order).converters
left_by_order chip order none = subst (λ c. BlockLeft chip.converters c) (sym (happened_block chip order none)) (block_left order chip.clock.rate chip.converters)

-- ---- units that are there

abbrev is_there_deed : WindowWrite → Bool
is_there_deed (WindowWrite.Abort u) = nat_lt u 2
is_there_deed (WindowWrite.Write (ConverterAck u) v) = nat_lt u 2
is_there_deed _ = true

few_there : (u : ℕ) → nat_lt u 2 ≡ true → u < 2
few_there u e = grind (arith, nat_tests)

unit_there : (u : ℕ) → nat_lt u 2 ≡ true → (units : List Converter) → length units ≡ 2 → u < length units
unit_there u e units all = let lt = few_there u e in omega (arith, lt, all)

-- a frame of the driver may make the move of this one
abbrev own_by : (frames : AdcTable) → AdcTable → Option StructureOp → Option StructureOp → List WindowWrite → Bool
own_by f d o b ds = owed_own f (move_by d o b ds)

-- a move that a frame may make names what is there
deed_there : (f d : AdcTable) (x : WindowWrite) → owed_own f (deed_move d x) ≡ true → is_there_deed x ≡ true
deed_there f d (WindowWrite.Abort u) e = and_second (may_name f (Read (ConverterAbort u))) (nat_lt u 2) (and_first (may f (Read (ConverterAbort u))) _ e)
deed_there f d (WindowWrite.Write (ConverterAck u) v) e = and_second (may_name f (Write (ConverterAck u) v)) (nat_lt u 2) (and_first (may f (Write (ConverterAck u) v)) _ e)
deed_there f d x e = refl

-- ---- what the chip has to be stays so

module _ (f d : AdcTable) (chip : Chip) (order : Order) (none : is_fill order ≡ false) where
  on : BlockLeft chip.converters (happened chip order).converters
  on = left_by_order chip order none

  unkept : (u : ℕ) (ds : List WindowWrite) → IsUnkept d u chip ds → IsUnkept d u (happened chip order) ds
  unkept u ds h = unkept_same d u chip (happened chip order) ds (sym (words_happened chip order none)) h

  deed_stays : (x : WindowWrite) (ds : List WindowWrite) → is_there_deed x ≡ true → FitsDeed d x ds chip → FitsDeed d x ds (happened chip order)
  deed_stays (WindowWrite.Abort u) ds there h = record {
    all = on.all ∙ h.all;
    round = subst (λ r. IsSound r (happened chip order).converters.time) (sym (on.round u (unit_there u there chip.converters.units h.all))) (sound_later (chips.unit_at chip.converters u).round chip.converters.time (happened chip order).converters.time on.time h.round);
    ack = h.ack;
    unkept = unkept u ds h.unkept;
  }
  deed_stays (WindowWrite.Write (ConverterAck u) v) ds there h = record {
    all = on.all ∙ h.all;
    round = subst (λ r. IsDone r (happened chip order).converters.time) (sym (on.round u (unit_there u there chip.converters.units h.all))) (done_later (chips.unit_at chip.converters u).round chip.converters.time (happened chip order).converters.time on.time h.round);
    unkept = unkept u ds h.unkept;
  }
  deed_stays (WindowWrite.Write TriggerFlags v) ds there h = record { bits = h.bits; few = on.few h.few; gates = λ i lt e. ap (λ g. has_bit g i) on.gates ∙ h.gates i lt e }
  deed_stays (WindowWrite.Write TriggerClear v) ds there h = record { all = on.all ∙ h.all; bits = h.bits; few = on.few h.few; flags = h.flags }
  deed_stays x ds there h = tt

  stays_by : (o b : Option StructureOp) (ds : List WindowWrite) → own_by f d o b ds ≡ true → fits_by d o b ds chip → fits_by d o b ds (happened chip order)
  stays_by None None (x ∷ xs) e h = deed_stays x xs (deed_there f d x e) h
  stays_by _ _ _ e h = tt

  -- ---- and the hardware may move before

  commutes_deed : (x : WindowWrite) (xs : List WindowWrite) (t : Continuation) → is_there_deed x ≡ true → owed_own f (deed_move d x) ≡ true → FitsDeed d x xs chip → Alike d (owed_of d None None xs t) (happened (chip_after chip (deed_move d x) 0) order) (chip_after (happened chip order) (deed_move d x) 0)
  commutes_deed (WindowWrite.Set w v) xs t there own h = Alike_same (sym (simple_commutes chip order (deed_move d (WindowWrite.Set w v)) refl none))
  commutes_deed WindowWrite.Disable xs t there own h = Alike_same (sym (simple_commutes chip order (deed_move d WindowWrite.Disable) refl none))
  commutes_deed (WindowWrite.Abort u) xs t there own h = abort_commutes d xs t chip order none u (few_there u there) h
  commutes_deed (WindowWrite.Write EnableClear v) xs t there own h = Alike_same (sym (simple_commutes chip order (Write EnableClear v) refl none))
  commutes_deed (WindowWrite.Write (ConverterAck u) v) xs t there own h = ack_commutes d xs t chip order none u v (few_there u there) h
  commutes_deed (WindowWrite.Write TriggerClear v) xs t there own h = gates_commute d xs t chip order none v h
  commutes_deed (WindowWrite.Write TriggerFlags v) xs t there own h = flags_commute d xs t chip order none v h
  commutes_deed (WindowWrite.Write r v) xs t there own h = absurd (let k = kind_of f (Write r v) own in cc)

  commutes_by : (o b : Option StructureOp) (ds : List WindowWrite) (t : Continuation) → own_by f d o b ds ≡ true → fits_by d o b ds chip
      → (left_by d o b ds t (value_of (happened chip order) (move_by d o b ds)) ≡ left_by d o b ds t (value_of chip (move_by d o b ds)))
      × Alike d (left_by d o b ds t (value_of chip (move_by d o b ds))) (happened (chip_after chip (move_by d o b ds) 0) order) (chip_after (happened chip order) (move_by d o b ds) 0)
  commutes_by (Some s) b ds t e h = (ap (left_by d (Some s) b ds t) (simple_value chip order (shape_move s) (shape_simple s) none), Alike_same (sym (simple_commutes chip order (shape_move s) (shape_simple s) none)))
  commutes_by None (Some s) ds t e h = (ap (left_by d None (Some s) ds t) (simple_value chip order (shape_move s) (shape_simple s) none), Alike_same (sym (simple_commutes chip order (shape_move s) (shape_simple s) none)))
  commutes_by None None (x ∷ xs) t e h = (refl, commutes_deed x xs t (deed_there f d x e) e h)
  commutes_by None None [] t e h = (refl, Alike_same refl)

-- ---- alike chips stay so

closes_done : (q : Bool) (x : ChipRound) (now : ℕ) → Closes q x now → IsDone x now
closes_done true x now h = h
closes_done false x now h = Is_over h

sound_of_done : (x : ChipRound) (now : ℕ) → IsDone x now → IsSound x now
sound_of_done x now (Is_over h) = Is_closed h
sound_of_done x now (Is_finished e) = Is_open (unclosed x.closed (rounds.ended x now == x.count) e)
  where
    unclosed : (o : Option ℕ) (all : Bool) → not (is_some o) && all ≡ true → o ≡ None
    unclosed None all e = refl
    unclosed (Some t) all e = absurd (cc)

module _ (d : AdcTable) (x : WindowWrite) (xs : List WindowWrite) where
  weaken_unit : (a : Chip) (u now : ℕ) (k j : Converter) → acks u x ≡ false → UnitsAlike d (x ∷ xs) a u now k j → UnitsAlike d xs (chip_after a (deed_move d x) 0) u now k j
  weaken_unit a u now k j e (Are_same s) = Are_same s
  weaken_unit a u now k j e (Are_closed l p q r) = Are_closed l (subst (λ z. Closes (z || ack_left xs u) k.round now) e p) (subst (λ z. Closes (z || ack_left xs u) j.round now) e q) r

  weaken_flags : (a b : ℕ) → ((i : ℕ) → clears_flag i x ≡ false) → AreFlagsAlike (x ∷ xs) a b → AreFlagsAlike xs a b
  weaken_flags a b e (Flags_same s) = Flags_same s
  weaken_flags a b e (Flags_left r) = Flags_left (record { few = r.few; also = r.also; bits = λ i lt none. r.bits i lt (ap (λ z. z || flag_left xs i) (e i) ∙ none) })

  -- a move that leaves the blocks
  apart_on : (a b : Chip) → ((u : ℕ) → acks u x ≡ false) → ((i : ℕ) → clears_flag i x ≡ false) → (chip_after a (deed_move d x) 0).converters ≡ a.converters → (chip_after b (deed_move d x) 0).converters ≡ b.converters
      → chip_after b (deed_move d x) 0 ≡ record (chip_after a (deed_move d x) 0) { converters = (chip_after b (deed_move d x) 0).converters } → Differs d (x ∷ xs) a b → Differs d xs (chip_after a (deed_move d x) 0) (chip_after b (deed_move d x) 0)
  apart_on a b acks_none flags_none ca cb rest h = record {
    rest = rest;
    time = ap (λ c. c.time) cb ∙ (h.time ∙ sym (ap (λ c. c.time) ca));
    levels = ap (λ c. c.levels) cb ∙ (h.levels ∙ sym (ap (λ c. c.levels) ca));
    gates = ap (λ c. c.gates) cb ∙ (h.gates ∙ sym (ap (λ c. c.gates) ca));
    all = ap (λ c. length c.units) ca ∙ h.all;
    also = ap (λ c. length c.units) cb ∙ h.also;
    units = λ u lt. subst (λ c. UnitsAlike d xs (chip_after a (deed_move d x) 0) u c.time (chips.unit_at c u) (chips.unit_at (chip_after b (deed_move d x) 0).converters u)) (sym ca) (subst (λ c. UnitsAlike d xs (chip_after a (deed_move d x) 0) u a.converters.time (chips.unit_at a.converters u) (chips.unit_at c u)) (sym cb) (weaken_unit a u a.converters.time (chips.unit_at a.converters u) (chips.unit_at b.converters u) (acks_none u) (h.units u lt)));
    flags = subst (λ c. AreFlagsAlike xs c.pulses (chip_after b (deed_move d x) 0).converters.pulses) (sym ca) (subst (λ c. AreFlagsAlike xs a.converters.pulses c.pulses) (sym cb) (weaken_flags a.converters.pulses b.converters.pulses flags_none h.flags));
  }

  -- a move of a unit
  module _ (a b : Chip) (k : ℕ) (few : k < 2) (f : ℕ → Converter → Converter) (h : Differs d (x ∷ xs) a b)
      (is : (c : Chip) → chip_after c (deed_move d x) 0 ≡ record c { converters = chips.with_unit c.converters k (f c.converters.time (chips.unit_at c.converters k)) })
      (flags_none : (i : ℕ) → clears_flag i x ≡ false) (others : (u : ℕ) → u ≢ k → acks u x ≡ false)
      (here : UnitsAlike d (x ∷ xs) a k a.converters.time (chips.unit_at a.converters k) (chips.unit_at b.converters k) → UnitsAlike d xs (chip_after a (deed_move d x) 0) k a.converters.time (f a.converters.time (chips.unit_at a.converters k)) (f a.converters.time (chips.unit_at b.converters k))) where
    abbrev turned : Chip → Chip
    turned c = record c { converters = chips.with_unit c.converters k (f c.converters.time (chips.unit_at c.converters k)) }

    in_a : k < length a.converters.units
    in_a = (let e = h.all in omega (arith, few, e))

    in_b : k < length b.converters.units
    in_b = (let e = h.also in omega (arith, few, e))

    unit_on : (u : ℕ) → u < 2 → UnitsAlike d xs (chip_after a (deed_move d x) 0) u a.converters.time (chips.unit_at (turned a).converters u) (chips.unit_at (turned b).converters u)
    unit_on u lt =
        let first : Converter = f a.converters.time (chips.unit_at a.converters k) in
        let second : Converter = f b.converters.time (chips.unit_at b.converters k) in
        cases (same_or_other u k)
        (λ e. subst (λ n. UnitsAlike d xs (chip_after a (deed_move d x) 0) n a.converters.time (chips.unit_at (turned a).converters n) (chips.unit_at (turned b).converters n)) (sym e)
        (subst (λ z. UnitsAlike d xs (chip_after a (deed_move d x) 0) k a.converters.time z (chips.unit_at (turned b).converters k)) (sym (unit_set a.converters.units k first in_a))
        (subst (λ z. UnitsAlike d xs (chip_after a (deed_move d x) 0) k a.converters.time (f a.converters.time (chips.unit_at a.converters k)) z) (sym (unit_set b.converters.units k second in_b ∙ ap (λ t. f t (chips.unit_at b.converters k)) h.time)) (here (h.units k few)))))
        (λ ne. subst (λ z. UnitsAlike d xs (chip_after a (deed_move d x) 0) u a.converters.time z (chips.unit_at (turned b).converters u)) (sym (unit_other a.converters.units k u first ne))
        (subst (λ z. UnitsAlike d xs (chip_after a (deed_move d x) 0) u a.converters.time (chips.unit_at a.converters u) z) (sym (unit_other b.converters.units k u second ne))
        (weaken_unit a u a.converters.time (chips.unit_at a.converters u) (chips.unit_at b.converters u) (others u ne) (h.units u lt))))

    rest_on : turned b ≡ record (turned a) { converters = (turned b).converters }
    rest_on = ap {A = Chip} (λ (c : Chip). record c { converters = (turned b).converters }) h.rest

    turned_on : Differs d xs (turned a) (turned b)
    turned_on = record {
      rest = rest_on;
      time = h.time;
      levels = h.levels;
      gates = h.gates;
      all = length-set a.converters.units k (f a.converters.time (chips.unit_at a.converters k)) ∙ h.all;
      also = length-set b.converters.units k (f b.converters.time (chips.unit_at b.converters k)) ∙ h.also;
      units = λ u lt. subst (λ c. UnitsAlike d xs c u a.converters.time (chips.unit_at (turned a).converters u) (chips.unit_at (turned b).converters u)) (is a) (unit_on u lt);
      flags = weaken_flags a.converters.pulses b.converters.pulses flags_none h.flags;
    }

    unit_moved : Differs d xs (chip_after a (deed_move d x) 0) (chip_after b (deed_move d x) 0)
    unit_moved = subst (λ c. Differs d xs c (chip_after b (deed_move d x) 0)) (sym (is a)) (subst (λ c. Differs d xs (turned a) c) (sym (is b)) turned_on)

-- a unit that is aborted, and one that is acknowledged
aborted_here : (d : AdcTable) (k : ℕ) (xs : List WindowWrite) (a : Chip) (now : ℕ) (x y : Converter) → UnitsAlike d (WindowWrite.Abort k ∷ xs) a k now x y → UnitsAlike d xs (chip_after a (Read (ConverterAbort k)) 0) k now (chips.aborted now x) (chips.aborted now y)
aborted_here d k xs a now x y (Are_same e) = Are_same (ap (λ z. chips.aborted now z) e)
aborted_here d k xs a now x y (Are_closed l p q r) =
    let sx = done_stays x now (closes_done (ack_left xs k) x.round now p) in
    let sy = done_stays y now (closes_done (ack_left xs k) y.round now q) in
    Are_closed (aborted_list y now ∙ (l ∙ sym (aborted_list x now))) (subst (λ (z : Converter). Closes (ack_left xs k) z.round now) (sym sx) p) (subst (λ (z : Converter). Closes (ack_left xs k) z.round now) (sym sy) q) r

acknowledged_here : (d : AdcTable) (k v : ℕ) (xs : List WindowWrite) (a : Chip) (now : ℕ) (x y : Converter) → UnitsAlike d (WindowWrite.Write (ConverterAck k) v ∷ xs) a k now x y
    → UnitsAlike d xs (chip_after a (Write (ConverterAck k) v) 0) k now (chips.acknowledged now x) (chips.acknowledged now y)
acknowledged_here d k v xs a now x y (Are_same e) = Are_same (ap (λ z. chips.acknowledged now z) e)
acknowledged_here d k v xs a now x y (Are_closed l p q r) =
    Are_closed (acknowledged_list y now ∙ (l ∙ sym (acknowledged_list x now))) (closes_over (ack_left xs k) _ now (acknowledged_over x now (closes_done _ x.round now p))) (closes_over (ack_left xs k) _ now (acknowledged_over y now (closes_done _ y.round now q))) r

-- flags that are cleared
cleared_flags : (v : ℕ) (xs : List WindowWrite) (a b : ℕ) → v < 2 ^ 32 → AreFlagsAlike (WindowWrite.Write TriggerFlags v ∷ xs) a b → AreFlagsAlike xs (without a v) (without b v)
cleared_flags v xs a b fits (Flags_same e) = Flags_same (ap (λ p. without p v) e)
cleared_flags v xs a b fits (Flags_left r) = Flags_left (record {
  few = small_without a v r.few;
  also = small_without b v r.also;
  bits = λ i lt none. has_bit-without b v i fits (omega (arith, lt)) ∙ (by i (has_bit v i) refl lt none ∙ sym (has_bit-without a v i fits (omega (arith, lt))));
})
  where
    neither : (p q w : Bool) → w ≡ true → (p && not w) ≡ (q && not w)
    neither p q true e = and_false p ∙ sym (and_false q)
    neither p q false e = absurd (cc)

    by : (i : ℕ) (w : Bool) → has_bit v i ≡ w → i < 4 → flag_left xs i ≡ false → (has_bit b i && not (has_bit v i)) ≡ (has_bit a i && not (has_bit v i))
    by i true e lt none = neither (has_bit b i) (has_bit a i) (has_bit v i) e
    by i false e lt none = ap (λ q. q && not (has_bit v i)) (r.bits i lt (ap (λ z. z || flag_left xs i) e ∙ none))

-- ---- each of them leaves alike chips alike

module _ (f d : AdcTable) (a b : Chip) where
  words_of : (ds : List WindowWrite) → Differs d ds a b → a.words ≡ b.words
  words_of ds h = sym (ap (λ c. c.words) h.rest)

  sound_unit : (ds : List WindowWrite) (u now : ℕ) (x y : Converter) → UnitsAlike d ds a u now x y → IsSound x.round now → IsSound y.round now
  sound_unit ds u now x y (Are_same e) h = subst (λ (z : Converter). IsSound z.round now) (sym e) h
  sound_unit ds u now x y (Are_closed l p q r) h = sound_of_done y.round now (closes_done (ack_left ds u) y.round now q)

  done_unit : (ds : List WindowWrite) (u now : ℕ) (x y : Converter) → UnitsAlike d ds a u now x y → IsDone x.round now → IsDone y.round now
  done_unit ds u now x y (Are_same e) h = subst (λ (z : Converter). IsDone z.round now) (sym e) h
  done_unit ds u now x y (Are_closed l p q r) h = closes_done (ack_left ds u) y.round now q

  few_flags : (ds : List WindowWrite) (p q : ℕ) → AreFlagsAlike ds p q → p < 16 → q < 16
  few_flags ds p q (Flags_same e) few = subst (λ n. n < 16) (sym e) few
  few_flags ds p q (Flags_left r) few = r.also

  fits_other : (x : WindowWrite) (xs : List WindowWrite) → is_there_deed x ≡ true → Differs d (x ∷ xs) a b → FitsDeed d x xs a → FitsDeed d x xs b
  fits_other (WindowWrite.Abort u) xs there h fit = record {
    all = h.also;
    round = subst (λ t. IsSound (chips.unit_at b.converters u).round t) (sym h.time) (sound_unit (WindowWrite.Abort u ∷ xs) u a.converters.time (chips.unit_at a.converters u) (chips.unit_at b.converters u) (h.units u (few_there u there)) fit.round);
    ack = fit.ack;
    unkept = unkept_same d u a b xs (words_of (WindowWrite.Abort u ∷ xs) h) fit.unkept;
  }
  fits_other (WindowWrite.Write (ConverterAck u) v) xs there h fit = record {
    all = h.also;
    round = subst (λ t. IsDone (chips.unit_at b.converters u).round t) (sym h.time) (done_unit (WindowWrite.Write (ConverterAck u) v ∷ xs) u a.converters.time (chips.unit_at a.converters u) (chips.unit_at b.converters u) (h.units u (few_there u there)) fit.round);
    unkept = unkept_same d u a b xs (words_of (WindowWrite.Write (ConverterAck u) v ∷ xs) h) fit.unkept;
  }
  fits_other (WindowWrite.Write TriggerFlags v) xs there h fit = record { bits = fit.bits; few = few_flags (WindowWrite.Write TriggerFlags v ∷ xs) a.converters.pulses b.converters.pulses h.flags fit.few; gates = λ i lt e. ap (λ g. has_bit g i) h.gates ∙ fit.gates i lt e }
  fits_other (WindowWrite.Write TriggerClear v) xs there h fit = record { all = h.also; bits = fit.bits; few = few_flags (WindowWrite.Write TriggerClear v ∷ xs) a.converters.pulses b.converters.pulses h.flags fit.few; flags = fit.flags }
  fits_other x xs there h fit = tt

  goes_deed : (x : WindowWrite) (xs : List WindowWrite) → is_there_deed x ≡ true → owed_own f (deed_move d x) ≡ true → FitsDeed d x xs a → Differs d (x ∷ xs) a b → Differs d xs (chip_after a (deed_move d x) 0) (chip_after b (deed_move d x) 0)
  goes_deed (WindowWrite.Set w v) xs there own fit h = apart_on d (WindowWrite.Set w v) xs a b (λ u. refl) (λ i. refl) refl refl (ap (λ c. chip_after c (deed_move d (WindowWrite.Set w v)) 0) h.rest) h
  goes_deed WindowWrite.Disable xs there own fit h = apart_on d WindowWrite.Disable xs a b (λ u. refl) (λ i. refl) refl refl (ap (λ c. chip_after c (deed_move d WindowWrite.Disable) 0) h.rest) h
  goes_deed (WindowWrite.Abort k) xs there own fit h = unit_moved d (WindowWrite.Abort k) xs a b k (few_there k there) chips.aborted h (λ c. refl) (λ i. refl) (λ u ne. refl) (λ e. aborted_here d k xs a a.converters.time (chips.unit_at a.converters k) (chips.unit_at b.converters k) e)
  goes_deed (WindowWrite.Write EnableClear v) xs there own fit h = apart_on d (WindowWrite.Write EnableClear v) xs a b (λ u. refl) (λ i. refl) refl refl (ap (λ c. chip_after c (Write EnableClear v) 0) h.rest) h
  goes_deed (WindowWrite.Write (ConverterAck k) v) xs there own fit h = unit_moved d (WindowWrite.Write (ConverterAck k) v) xs a b k (few_there k there) chips.acknowledged h (λ c. refl) (λ i. refl) (λ u ne. eq_other u k ne) (λ e. acknowledged_here d k v xs a a.converters.time (chips.unit_at a.converters k) (chips.unit_at b.converters k) e)
  goes_deed (WindowWrite.Write TriggerClear v) xs there own fit h = record {
    rest = ap {A = Chip} (λ (c : Chip). record c { converters = record b.converters { gates = without b.converters.gates v } }) h.rest;
    time = h.time;
    levels = h.levels;
    gates = ap (λ g. without g v) h.gates;
    all = h.all;
    also = h.also;
    units = λ u lt. weaken_unit d (WindowWrite.Write TriggerClear v) xs a u a.converters.time (chips.unit_at a.converters u) (chips.unit_at b.converters u) refl (h.units u lt);
    flags = weaken_flags d (WindowWrite.Write TriggerClear v) xs a.converters.pulses b.converters.pulses (λ i. refl) h.flags;
  }
  goes_deed (WindowWrite.Write TriggerFlags v) xs there own fit h = record {
    rest = ap {A = Chip} (λ (c : Chip). record c { converters = record b.converters { pulses = without b.converters.pulses v } }) h.rest;
    time = h.time;
    levels = h.levels;
    gates = h.gates;
    all = h.all;
    also = h.also;
    units = λ u lt. weaken_unit d (WindowWrite.Write TriggerFlags v) xs a u a.converters.time (chips.unit_at a.converters u) (chips.unit_at b.converters u) refl (h.units u lt);
    flags = cleared_flags v xs a.converters.pulses b.converters.pulses fit.bits h.flags;
  }
  goes_deed (WindowWrite.Write r v) xs there own fit h = absurd (let k = kind_of f (Write r v) own in cc)

  goes_by : (o q : Option StructureOp) (ds : List WindowWrite) (t : Continuation) → own_by f d o q ds ≡ true → fits_by d o q ds a → o ≡ None → q ≡ None → Differs d ds a b
      → fits_by d o q ds b × (left_by d o q ds t (value_of b (move_by d o q ds)) ≡ left_by d o q ds t (value_of a (move_by d o q ds))) × Alike d (left_by d o q ds t (value_of a (move_by d o q ds))) (chip_after a (move_by d o q ds) 0) (chip_after b (move_by d o q ds) 0)
  goes_by None None (x ∷ xs) t own fit p r h = let there = deed_there f d x own in (fits_other x xs there h fit, refl, alike_left d xs t (chip_after a (deed_move d x) 0) (chip_after b (deed_move d x) 0) (goes_deed x xs there own fit h))
  goes_by None None [] t own fit p r h = (tt, refl, Alike_but h)
  goes_by _ _ ds t own fit p r h = absurd (cc)

-- which driver tells what is left doesn't matter after the last one
unit_as : (d e : AdcTable) (a : Chip) (u now : ℕ) (x y : Converter) → UnitsAlike d [] a u now x y → UnitsAlike e [] a u now x y
unit_as d e a u now x y (Are_same s) = Are_same s
unit_as d e a u now x y (Are_closed l p q r) = Are_closed l p q r

alike_as : (d e : AdcTable) (q : Option PendingWrites) (a b : Chip) → Alike d q a b → Alike e q a b
alike_as d e q a b (Alike_same s) = Alike_same s
alike_as d e None a b (Alike_but h) = Alike_but (record { rest = h.rest; time = h.time; levels = h.levels; gates = h.gates; all = h.all; also = h.also; units = λ u lt. unit_as d e a u a.converters.time (chips.unit_at a.converters u) (chips.unit_at b.converters u) (h.units u lt); flags = h.flags })
alike_as d e (Some x) a b (Alike_but h) = Alike_but h

goes_on : (f : AdcTable) (a b : Chip) (x : PendingWrites) → owed_own f (move_by x.table x.order x.banks x.deeds) ≡ true → fits_by x.table x.order x.banks x.deeds a → Alike f (Some x) a b
    → fits_by x.table x.order x.banks x.deeds b × (left_by x.table x.order x.banks x.deeds x.after (value_of b (move_by x.table x.order x.banks x.deeds)) ≡ left_by x.table x.order x.banks x.deeds x.after (value_of a (move_by x.table x.order x.banks x.deeds)))
    × Alike f (left_by x.table x.order x.banks x.deeds x.after (value_of a (move_by x.table x.order x.banks x.deeds))) (chip_after a (move_by x.table x.order x.banks x.deeds) 0) (chip_after b (move_by x.table x.order x.banks x.deeds) 0)
goes_on f a b x own fit (Alike_same e) = (subst (λ c. fits_by x.table x.order x.banks x.deeds c) (sym e) fit, ap (λ c. left_by x.table x.order x.banks x.deeds x.after (value_of c (move_by x.table x.order x.banks x.deeds))) e, Alike_same (ap (λ c. chip_after c (move_by x.table x.order x.banks x.deeds) 0) e))
goes_on f a b x own fit (Alike_but h) = let k = goes_by f x.table a b x.order x.banks x.deeds x.after own fit h.0 h.1 h.2 in (k.0, k.1, alike_as x.table f _ _ _ k.2)

commutes_on : (f : AdcTable) (x : PendingWrites) (chip : Chip) (order : Order) → is_fill order ≡ false → owed_own f (move_by x.table x.order x.banks x.deeds) ≡ true → fits_by x.table x.order x.banks x.deeds chip
    → (left_by x.table x.order x.banks x.deeds x.after (value_of (happened chip order) (move_by x.table x.order x.banks x.deeds)) ≡ left_by x.table x.order x.banks x.deeds x.after (value_of chip (move_by x.table x.order x.banks x.deeds)))
    × Alike f (left_by x.table x.order x.banks x.deeds x.after (value_of chip (move_by x.table x.order x.banks x.deeds))) (happened (chip_after chip (move_by x.table x.order x.banks x.deeds) 0) order) (chip_after (happened chip order) (move_by x.table x.order x.banks x.deeds) 0)
commutes_on f x chip order none own fit = let k = commutes_by f x.table chip order none x.order x.banks x.deeds x.after own fit in (k.0, alike_as x.table f _ _ _ k.1)

-- ---- and after the last one the agreement can't tell them apart

stands_alike : (a : Chip) (w : World) (c : Converters) → c.time ≡ a.converters.time → c.levels ≡ a.converters.levels → StandsIn a w → StandsIn (record a { converters = c }) w
stands_alike a w c time levels h = record {
  all = record { words = h.all.words; ram = h.all.ram; outside = h.all.outside; incoming = h.all.incoming; timers = h.all.timers; inputs = ap (λ l. length l.values) levels ∙ h.all.inputs; sources = h.all.sources };
  together = record { pulses = h.together.pulses; captures = h.together.captures; converters = time ∙ h.together.converters; serials = h.together.serials };
  osc = h.osc;
  now = h.now;
  levels = h.levels;
  analog = λ i lt. ap (λ l. chips.level_at l i) levels ∙ h.analog i lt;
  past = h.past;
}

module _ (d : AdcTable) (fits : FitsAdc d) (held : Reservations) (a b : Chip) (w : World) (s : AdcState) (h : Agrees d held a w s) (k : Differs d [] a b) where
  left_free : (u : ℕ) (q : Option MachineRound) → round_at s u ≡ q → IsOver (chips.unit_at a.converters u).round a.converters.time → RoundAgrees d a.converters w (chips.unit_at a.converters u) q → q ≡ None
  left_free u None e over r = refl
  left_free u (Some x) e over r = absurd (let gone : None ≡ Some over.0 = sym r.on ∙ over.1 in cc)

  unit_goes : (u : ℕ) → u < 2 → UnitsAlike d [] a u a.converters.time (chips.unit_at a.converters u) (chips.unit_at b.converters u) → UnitGoes d a b w w s u
  unit_goes u lt (Are_same e) = Goes_on (record {
    round = ap (λ x. x.round) e;
    ended = λ i few done.
        ap (λ l. chips.result l b.converters.time (chips.unit_at b.converters u) i) k.levels ∙ (ap (λ t. chips.result a.converters.levels t (chips.unit_at b.converters u) i) k.time ∙ ap (λ x. chips.result a.converters.levels a.converters.time x i) e);
    fresh = λ i input few unclosed small is late early. absurd (omega (arith, late, early));
  })
  unit_goes u lt (Are_closed l p q r) = Is_left (left_free u (round_at s u) refl p (h.rounds u lt)) (subst (λ t. IsOver (chips.unit_at b.converters u).round t) (sym k.time) q) r

  flags_alike : AreFlagsAlike [] a.converters.pulses b.converters.pulses → b.converters.pulses ≡ a.converters.pulses
  flags_alike (Flags_same e) = e
  flags_alike (Flags_left r) = bits_of_flags a.converters.pulses b.converters.pulses r.few r.also (λ i lt. r.bits i lt refl)

  same_list : (u : ℕ) → UnitsAlike d [] a u a.converters.time (chips.unit_at a.converters u) (chips.unit_at b.converters u) → length (chips.unit_at b.converters u).list ≡ length (chips.unit_at a.converters u).list
  same_list u (Are_same e) = ap (λ (x : Converter). length x.list) e
  same_list u (Are_closed l p q r) = ap length l

  lasts_but : Agrees d held b w s
  lasts_but = onward_agrees d fits a b w w s s.marks on held h
    where
      on : Onward d a b w w s s.marks
      on = record {
        outside = subst (λ c. StandsIn c w) (sym k.rest) (stands_alike a w b.converters k.time k.levels h.outside);
        block = record {
          all = k.also;
          lists = λ u lt. same_list u (k.units u lt) ∙ h.block.lists u lt;
          past = subst (λ l. l.since ≤ b.converters.time) (sym k.levels) (subst (λ t. a.converters.levels.since ≤ t) (sym k.time) h.block.past);
          samples = subst (λ l. AllByRecursion (λ (y : Sample). y.since ≤ l.since) w.samples) (sym k.levels) h.block.samples;
        };
        words = λ j own. ap (λ c. word_of c j) k.rest;
        lines = λ l e. ap (λ c. has_bit c.control.enabled l) k.rest;
        now = omega arith;
        time = (let t = k.time in omega (arith, t));
        units = λ u lt. unit_goes u lt (k.units u lt);
        samples = λ i at le. refl;
        marks = h.sound.marks;
        off = h.sound.off;
        triggers = record {
          gates = λ i lt. ap (λ g. has_bit g i) k.gates ∙ h.triggers.gates i lt;
          flags = λ i lt. ap (λ p. has_bit p i) (flags_alike k.flags) ∙ h.triggers.flags i lt;
          others = (let e = flags_alike k.flags in let few = h.triggers.others in omega (arith, e, few));
        };
      }

lasts : (d : AdcTable) → FitsAdc d → (held : Reservations) (a b : Chip) (w : World) (s : AdcState) → Alike d None a b → Agrees d held a w s → Agrees d held b w s
lasts d fits held a b w s (Alike_same e) h = subst (λ c. Agrees d held c w s) (sym e) h
lasts d fits held a b w s (Alike_but k) h = lasts_but d fits held a b w s h k

pub owed_right : (d : AdcTable) → FitsAdc d → AreOwed (bare d) (making_owed d) (alike_chips d)
owed_right d fits = record {
  plain = λ made e. owed_plain made (kind_of d made e);
  calm = λ made e. owed_calm made (kind_of d made e);
  times = λ w times made e. owed_times w times made (kind_of d made e);
  steady = λ chip made e. owed_steady chip made (kind_of d made e);
  unwound = λ chip made e. owed_unwound chip made (kind_of d made e);
  resets = λ chip made reason e. owed_reset chip made reason (kind_of d made e);
  shorter = λ x y v e. shorter_by x.table x.order x.banks x.deeds x.after v y e;
  commutes = λ x chip order own fit none. commutes_on d x chip order none own fit;
  stays = λ x chip order own fit none. stays_by d x.table chip order none x.order x.banks x.deeds own fit;
  goes = λ x a b own fit alike. goes_on d a b x own fit alike;
  lasts = λ held a b w s alike h. lasts d fits held a b w s alike h;
}

-- what all services stand on
abbrev pub adc_basis : AdcTable → SharedRefinement AdcState Call
adc_basis d = deferring_writes (bare d) (making_owed d)

pub adc_basis_right : (d : AdcTable) → FitsAdc d → IsBasis (adc_basis d)
adc_basis_right d fits = owing_basis (bare d) (making_owed d) (alike_chips d) (owed_right d fits) (bare_right d fits)
