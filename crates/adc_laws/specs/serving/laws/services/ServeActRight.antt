-- A finished round is served: all agrees after the acknowledgement, the change of the unit's order, the new newest bank and the deeds.
-- From words.PlainFacts, bookkeeping.ServedState, services.ServeWords, adc_groups: bookkeeping.FrameRule and 17 more.
-- Used by services.ServeRight.
use Rattle.std.proofs.Common.{◌≡◌, ◌≢◌, ◌+◌, ◌*◌, ◌/◌, ◌%◌, ◌<◌, ◌≤◌, ◌&&◌, ◌||◌, ◌==◌, [], ◌∷◌, ◌∙◌, ◌⊎◌}
use Rattle.std.proofs.Common.{if◌then◌else◌}
use Rattle.adc_laws.specs.serving.Terms
use Terms.{aborts_by, acknowledged_list, acknowledged_over, AdcState, AdcTable, Agrees, all_changed, AllRight}
use Terms.{AllSpare, ap, Bank, bank_below, bank_number, bank_word, BanksAgree, bit_of, Bool, buffer_by, Call, cases}
use Terms.{changed, Chip, chip_after, chosen_of, claim_past, claim_right, claim_stays, claimed_parts, claims_on}
use Terms.{clash, Column, Converter, ConverterAck, Converters, Copies, CopiesRight, deed_move, DiffersIn, Entered}
use Terms.{Entry, eq_is, eq_other, eq_self, false, finished_here, first_held, FitsAdc, Fresh, Full, group_at}
use Terms.{group_of, group_word, GroupAgrees, GroupState, has_bit, has_turn, HasWords, held_in, HeldRight, HoldsOrder}
use Terms.{inl, inputs_of, inr, is_continuous, is_done, Is_finished, is_finished, is_full, is_on, is_owed}
use Terms.{is_round_of, is_some, IsAlone, IsBlock, IsOrder, IsOver, IsSoundGroup, IsSoundRequest, kept_by, kept_in}
use Terms.{kept_of_round, le_since, left_of, length, length-drop, length_push, List, listener, listener_as, mark_at}
use Terms.{marks_off, min, mod-lt, newest, None, none_past, none_some, not, number_at, number_by, off_block}
use Terms.{off_group, off_on, off_time, off_unit, on_there, Option, or_else, or_parts, order_of, order_waiting}
use Terms.{order_without, own_of, phase_of, place_count, place_stays, place_value, Promised, promised_same, put_of}
use Terms.{refl, Request, Reservation, Reservations, ReservedBy, result_word, ResultBuffer, Round, round_at}
use Terms.{round_turn, RoundAgrees, rounds_of, running_of, same_or_other, samples_of, slice_get, Some, some_hold}
use Terms.{some_same, some_samples, sound_past, SoundGroup, start_from, starts_on, STATE, status_after, Stays, subst}
use Terms.{sym, trigger_bit, trigger_input, triggers_off, TriggersAgree, trio_of, true, turn_round, unit_block}
use Terms.{unit_is, unit_of, unit_of_round, unit_other, unit_set, UnitAgrees, untouched, values_of, waiting}
use Terms.{waits_other, whether, whole_values, WindowWrite, with_round_of, within, without_mark, Word, word_number}
use Terms.{word_of, World, ℕ}
use Rattle.adc_laws.specs.serving.laws.{services.ClaimRight.{claiming}, words.CommittedWords.{part_of, newest_pushed}}
use Rattle.adc_laws.specs.serving.laws.words.CommittedWords.{quarter_left, rest_left, committed, stands_committed}
use Rattle.adc_laws.specs.serving.laws.words.CommittedWords.{newest_committed, value_stored, group_unstored}
use Rattle.adc_laws.specs.serving.laws.{words.CommittedWords.{place_unstored}, services.CopyRight.{got}}
use Rattle.adc_laws.specs.serving.laws.{services.GiveUpRight.{no_puts, none_right}, services.ServeWords.{turn_set, last}}
use Rattle.adc_laws.specs.serving.laws.services.ServeWords.{low_served, control_served, running_served, claim_served}
use Rattle.adc_laws.specs.serving.laws.services.ServeWords.{other_served, order_served, block_served, lines_served}
use Rattle.adc_laws.specs.serving.laws.{services.ServeWords.{stands_served}, words.PlainFacts.{three_off, some_left}}
use Rattle.adc_laws.specs.serving.laws.words.PlainFacts.{whole_count, three_four, below_seven, zero_claims, one_claims}
use Rattle.adc_laws.specs.serving.laws.words.PlainFacts.{past_order, control_past, control_word, in_banks, past_eight}
use Rattle.adc_laws.specs.serving.laws.{words.PlainFacts.{past_unit, bank_from}, bookkeeping.ServedState.{served}}
use Rattle.adc_laws.specs.serving.laws.bookkeeping.ServedState.{HasServed, served_fields, served_group, is_group, is_other}
use Rattle.adc_laws.specs.serving.laws.bookkeeping.ServedState.{is_free, other_round, is_rest, marks_full, marks_rest}
use Rattle.adc_laws.specs.serving.laws.bookkeeping.ServedSound.{after_full, after_again, after_rest}
use Rattle.adc_groups.specs.laws.bookkeeping.FrameRule.{turn_same}
use Rattle.chip_blocks.specs.converter.Converters as chips
use Rattle.word_shapes.specs.PriorityQueue as ranked
use Rattle.mcal_base.specs.facts.Truths.{and_false, and_true, and_second}

module _ (d : AdcTable) (fits : FitsAdc d) (below : Reservations) (chip : Chip) (w : World) (s : AdcState) (u g : ℕ) (b : Bank) (few : u < 2) (alone : IsAlone (24 + u) below) (x : Round) (is : round_at s u ≡ Some x) (h : Agrees d (claiming u (Full u g b) below) chip w s) where
  abbrev before : Reservations
  before = claiming u (Full u g b) below

  on : s.initialised ≡ true
  on = h.right.0.1

  at : is_on u (group_of d g) ≡ true
  at = h.right.0.2

  pub there : is_some (group_of d g) ≡ true
  there = on_there u (group_of d g) at

  pub lt : g < 16
  lt = within d g there

  here : unit_of (group_of d g) ≡ u
  here = unit_is d fits u (group_of d g) at

  pub group_is : x.group ≡ g
  group_is = (h.right.0.3.same x is).0

  pub finished : is_finished w (group_of d g) x ≡ true
  finished = (h.right.0.3.same x is).1

  abbrev pub values : List ℕ
  values = values_of w (group_of d g) x

  pub past : (k : ℕ) → 16 ≤ k → group_at s k ≡ untouched
  past = sound_past d s h.sound.groups

  -- what is so of its round
  waits_none : (group_at s g).waiting ≡ None
  waits_none = subst (λ n. (group_at s n).waiting ≡ None) group_is (h.sound.runs u x is).2

  sound_request : IsSoundRequest d s g x.request
  sound_request = subst (λ n. IsSoundRequest d s n x.request) group_is (h.sound.runs u x is).4

  of_group : is_round_of g (round_at s u) ≡ true
  of_group = ap (λ q. is_round_of g q) is ∙ (ap (λ n. n == g) group_is ∙ eq_self g)

  pub turn_was : has_turn s g ≡ true
  turn_was = round_turn s g u few of_group

  whole_round : length values ≡ length (inputs_of (group_of d g))
  whole_round = whole_count _ _ _ _ (whole_values w (group_of d g) x).count (length-drop (length x.request.kept) (inputs_of (group_of d g))) sound_request.2

  was_sound : SoundGroup (group_of d g) true (group_at s g)
  was_sound = subst (λ q. SoundGroup (group_of d g) q (group_at s g)) turn_was (h.sound.groups g)

  claim_parts : (word_of chip (word_number d (Word.Claim u)) ≡ 1) × (some_hold (claims_on u) below ≡ false)
  claim_parts = claimed_parts u (word_of chip (word_number d (Word.Claim u))) below (claim_right below u (word_of chip (word_number d (Word.Claim u)))) ((h.settled on).claims u few)

  was : GroupAgrees d (word_of chip) s g
  was = (h.settled on).groups g there

  pub unit_was : UnitAgrees d (word_of chip) s u
  unit_was = (h.settled on).units u few

  abbrev pub xs : List Entry
  xs = unit_was.order.0

  pub whole : HasWords chip
  whole = h.outside.all.words

  -- ---- the state, by whether its stream is full and whether it is continuous

  module _ (f c : Bool) where
    abbrev pub t : AdcState
    t = served d s g u few lt past x.request.number values f c

    group_now : group_at t g ≡ served_group d s g u few lt past x.request.number values f c
    group_now = is_group d s g u few lt past x.request.number values f c

    others_as : (k : ℕ) → k ≢ g → group_at t k ≡ group_at s k
    others_as = is_other d s g u few lt past x.request.number values f c

    free : round_at t u ≡ None
    free = is_free d s g u few lt past x.request.number values f c

    rounds_as : (v : ℕ) → v ≢ u → round_at t v ≡ round_at s v
    rounds_as = other_round d s g u few lt past x.request.number values f c (none_past d w s h.sound)

    rest_as : (t.results ≡ with_round_of (group_of d g) (length (group_at s g).rounds) g (group_at s g).chosen values s.results) × (t.requests ≡ s.requests) × (t.initialised ≡ s.initialised)
    rest_as = is_rest d s g u few lt past x.request.number values f c

    still : t.initialised ≡ true
    still = rest_as.2 ∙ on

    none_of_group : (v : ℕ) → is_round_of g (round_at t v) ≡ false
    none_of_group v = cases (same_or_other v u)
        (λ e. ap (λ n. is_round_of g (round_at t n)) e ∙ ap (λ q. is_round_of g q) free)
        (λ ne. ap (λ q. is_round_of g q) (rounds_as v ne) ∙ not_here ne (is_round_of g (round_at s v)) refl)
      where
        not_here : v ≢ u → (q : Bool) → is_round_of g (round_at s v) ≡ q → q ≡ false
        not_here ne true e = absurd (ne (unit_of_round d fits w s h.sound g v e ∙ here))
        not_here ne false e = refl

    waiting_by : (f c : Bool) → is_some (served_group d s g u few lt past x.request.number values f c).waiting ≡ c && not f
    waiting_by true true = ap (λ q. is_some q) waits_none
    waiting_by false true = refl
    waiting_by _ _ = ap (λ q. is_some q) waits_none

    waits_now : is_some (group_at t g).waiting ≡ c && not f
    waits_now = ap (λ (z : GroupState). is_some z.waiting) group_now ∙ waiting_by f c

    turn_now : has_turn t g ≡ c && not f
    turn_now = three_off (is_some (group_at t g).waiting) (is_round_of g (round_at t 0)) (is_round_of g (round_at t 1)) (none_of_group 0) (none_of_group 1) ∙ waits_now

    -- what is new of the group
    now : HasServed d s g values (group_at t g)
    now = subst (λ z. HasServed d s g values z) (sym group_now) (served_fields d s g u few lt past x.request.number values f c)

    trigger_now : (group_at t g).trigger ≡ (group_at s g).trigger && not f
    trigger_now = ap (λ (z : GroupState). z.trigger) group_now ∙ by f c
      where
        by : (f c : Bool) → (served_group d s g u few lt past x.request.number values f c).trigger ≡ (group_at s g).trigger && not f
        by true c = sym (and_false (group_at s g).trigger)
        by false true = sym (and_true (group_at s g).trigger)
        by false false = sym (and_true (group_at s g).trigger)

    sound : is_full (group_of d g) (length (group_at s g).rounds + 1) ≡ f → is_continuous (group_of d g) ≡ c → IsSoundGroup d t g
    sound ef ec = subst (λ z. SoundGroup (group_of d g) (has_turn t g) z) (sym group_now) (subst (λ q. SoundGroup (group_of d g) q (served_group d s g u few lt past x.request.number values f c)) (sym turn_now) (sound_after f c ef ec))
      where
        hears : is_some (trigger_input (group_of d g)) ≡ true → (group_at s g).trigger ≡ true
        hears i = h.sound.hears g turn_was i

        sound_after : (f c : Bool) → is_full (group_of d g) (length (group_at s g).rounds + 1) ≡ f → is_continuous (group_of d g) ≡ c → SoundGroup (group_of d g) (c && not f) (served_group d s g u few lt past x.request.number values f c)
        sound_after true true ef ec = after_full (group_of d g) (group_at s g) there (some_samples d fits g there) was_sound hears values whole_round ef
        sound_after true false ef ec = after_full (group_of d g) (group_at s g) there (some_samples d fits g there) was_sound hears values whole_round ef
        sound_after false true ef ec = after_again (group_of d g) (group_at s g) there (some_samples d fits g there) was_sound hears values whole_round (Some (record { number = x.request.number; kept = [] })) ef ec
        sound_after false false ef ec = after_rest (group_of d g) (group_at s g) there (some_samples d fits g there) was_sound hears values whole_round ef ec

  -- ---- the chip after all moves

  module _ (f c : Bool) (ef : is_full (group_of d g) (length (group_at s g).rounds + 1) ≡ f) (ec : is_continuous (group_of d g) ≡ c) (a : Chip) (differs : DiffersIn (ranked.own_of (order_of u)) (chip_after chip (deed_move d (WindowWrite.Write (ConverterAck u) 1)) 0) a)
      (holds : HoldsOrder (order_of u) (word_of a) (if c && not f then waiting g true unit_was.order.0 else left_of g unit_was.order.0)) (count place phase : ℕ) (count_is : count ≡ min (length (group_at s g).rounds + 1) (samples_of (group_of d g))) (place_is : place ≡ (length (group_at s g).rounds + 1) % samples_of (group_of d g))
      (phase_is : phase ≡ phase_of (status_after (length (group_at s g).rounds % samples_of (group_of d g) + 1 == samples_of (group_of d g)) (group_at s g).status) (c && not f || (group_at s g).trigger && not f)) (second : Bool) (chosen : (group_at s g).chosen ≡ Some (buffer_by second)) where
    abbrev v : ℕ
    v = word_of a (trio_of (rounds_of d g)).control

    abbrev value : ℕ
    value = bank_number b % 4 + 4 * (word_of a (trio_of (rounds_of d g)).control / 4)

    abbrev z : Chip
    z = last d fits g u there few chip whole a differs (bank_number b % 4 + 4 * (word_of a (trio_of (rounds_of d g)).control / 4)) count place phase (c && not f) (f && is_some (trigger_input (group_of d g)))

    abbrev t1 : AdcState
    t1 = served d s g u few lt past x.request.number values f c

    abbrev col : Column
    col = record { group = g; second = second; samples = samples_of (group_of d g); place = length (group_at s g).rounds % samples_of (group_of d g) }

    abbrev after : Reservations
    after = claiming u (Copies b (record { group = g; second = second; samples = samples_of (group_of d g); place = length (group_at s g).rounds % samples_of (group_of d g) }) 0 None) below

    low : (j : ℕ) → j ≢ 7 → word_of z (group_word d g j) ≡ turn_set (c && not f) j (if 0 == j then phase else (if 5 == j then place else (if 4 == j then count else word_of chip (group_word d g j))))
    low = low_served d fits g u there few chip whole a differs value count place phase (c && not f) (f && is_some (trigger_input (group_of d g)))

    claim_now : word_of z (word_number d (Word.Claim u)) ≡ 0
    claim_now = claim_served d fits g u there few chip whole a differs value count place phase (c && not f) (f && is_some (trigger_input (group_of d g)))

    running_now : word_of z (word_number d (Word.Running u)) ≡ 0
    running_now = running_served d fits g u there few chip whole a differs value count place phase (c && not f) (f && is_some (trigger_input (group_of d g)))

    control_now : word_of z (group_word d g 7) ≡ value
    control_now = control_served d fits g u there few chip whole a differs value count place phase (c && not f) (f && is_some (trigger_input (group_of d g)))

    elsewhere : (k : ℕ) → ((i : ℕ) → i < 8 → k ≢ group_word d g i) → ((i : ℕ) → i < 5 → k ≢ STATE + 8 + 8 * u + i) → word_of z k ≡ word_of chip k
    elsewhere = other_served d fits g u there few chip whole a differs value count place phase (c && not f) (f && is_some (trigger_input (group_of d g)))

    -- ---- the block

    abbrev unit_a : Converter
    unit_a = chips.unit_at chip.converters u

    abbrev acked : Converters
    acked = chips.with_unit chip.converters u (chips.acknowledged chip.converters.time (chips.unit_at chip.converters u))

    block : z.converters ≡ off_block (f && is_some (trigger_input (group_of d g))) (trigger_bit d g) acked
    block = block_served d fits g u there few chip whole a differs value count place phase (c && not f) (f && is_some (trigger_input (group_of d g)))

    lines : z.control ≡ chip.control
    lines = lines_served d fits g u there few chip whole a differs value count place phase (c && not f) (f && is_some (trigger_input (group_of d g)))

    within_units : u < length chip.converters.units
    within_units = subst (λ n. u < n) (sym h.block.all) few

    is_unit : chips.unit_at acked u ≡ chips.acknowledged chip.converters.time (chips.unit_at chip.converters u)
    is_unit = unit_set chip.converters.units u (chips.acknowledged chip.converters.time (chips.unit_at chip.converters u)) within_units

    other_units : (k : ℕ) → k ≢ u → chips.unit_at acked k ≡ chips.unit_at chip.converters k
    other_units k ne = unit_other chip.converters.units u k (chips.acknowledged chip.converters.time (chips.unit_at chip.converters u)) ne

    acked_block : IsBlock acked w
    acked_block = unit_block chip.converters w u (chips.acknowledged chip.converters.time unit_a) h.block (λ less. ap length (acknowledged_list unit_a chip.converters.time) ∙ h.block.lists u less)

    off_same : (q : Bool) (n : ℕ) (e : Converters) → IsBlock e w → IsBlock (off_block q n e) w
    off_same true n e k = record { all = k.all; lists = k.lists; past = k.past; samples = k.samples }
    off_same false n e k = k

    off_levels : (q : Bool) (n : ℕ) (e : Converters) → (off_block q n e).levels ≡ e.levels
    off_levels true n e = refl
    off_levels false n e = refl

    unit_z : (k : ℕ) → chips.unit_at z.converters k ≡ chips.unit_at acked k
    unit_z k = ap (λ e. chips.unit_at e k) block ∙ off_unit (f && is_some (trigger_input (group_of d g))) (trigger_bit d g) k acked

    time_z : z.converters.time ≡ chip.converters.time
    time_z = ap (λ (e : Converters). e.time) block ∙ off_time (f && is_some (trigger_input (group_of d g))) (trigger_bit d g) acked

    round_over : IsOver (chips.unit_at z.converters u).round z.converters.time
    round_over = subst (λ n. IsOver (chips.unit_at z.converters u).round n) (sym time_z) (subst (λ (q : Converter). IsOver q.round chip.converters.time) (sym (unit_z u ∙ is_unit)) (acknowledged_over unit_a chip.converters.time (Is_finished (finished_here d fits before chip w s h u few ∙ (ap (λ q. is_done d w q) is ∙ (ap (λ n. is_finished w (group_of d n) x) group_is ∙ finished))))))

    -- ---- triggers

    deaf : f ≡ true → (group_at t1 g).trigger ≡ false
    deaf e = trigger_now f c ∙ (ap (λ q. (group_at s g).trigger && not q) e ∙ and_false (group_at s g).trigger)

    trigger_others : (k : ℕ) → k ≢ g → (group_at t1 k).trigger ≡ (group_at s k).trigger
    trigger_others k ne = ap (λ (q : GroupState). q.trigger) (others_as f c k ne)

    -- what the block's gates and flags are, and which marks some group listens to
    module _ (e : f ≡ true) where
      marks_left : (i : ℕ) → mark_at t1 i ≡ mark_at (without_mark s (trigger_input (group_of d g))) i
      marks_left i = ap (λ q. mark_at (served d s g u few lt past x.request.number values q c) i) e ∙ marks_full d s g u few lt past x.request.number values c i

      full_marks : (i : ℕ) → mark_at t1 i ≡ true → is_some (listener d t1 i) ≡ true
      full_marks = marks_off d fits s t1 g was_sound.input trigger_others (deaf e) marks_left h.sound.marks

      full_triggers : TriggersAgree d z.converters t1
      full_triggers =
          let q = triggers_off d fits s t1 g was_sound.input trigger_others (deaf e) marks_left acked (record { gates = h.triggers.gates; flags = h.triggers.flags; others = h.triggers.others }) in
          subst (λ e. TriggersAgree d e t1) (sym (block ∙ ap (λ n. off_block (n && is_some (trigger_input (group_of d g))) (trigger_bit d g) acked) e)) q

    module _ (e : f ≡ false) where
      marks_same : (i : ℕ) → mark_at t1 i ≡ mark_at s i
      marks_same i = ap (λ q. mark_at (served d s g u few lt past x.request.number values q c) i) e ∙ marks_rest d s g u few lt past x.request.number values c i

      listens_as : (i : ℕ) → listener d t1 i ≡ listener d s i
      listens_as = listener_as d s t1 (λ k. cases (same_or_other k g)
          (λ i. subst (λ n. (group_at t1 n).trigger ≡ (group_at s n).trigger) (sym i) (trigger_now f c ∙ (ap (λ q. (group_at s g).trigger && not q) e ∙ and_true (group_at s g).trigger)))
          (λ ne. trigger_others k ne))

      rest_triggers : TriggersAgree d z.converters t1
      rest_triggers =
          subst (λ e. TriggersAgree d e t1) (sym (block ∙ ap (λ n. off_block (n && is_some (trigger_input (group_of d g))) (trigger_bit d g) acked) e)) (record {
            gates = λ i less. h.triggers.gates i less ∙ ap (λ q. is_some q) (sym (listens_as i));
            flags = λ i less. h.triggers.flags i less ∙ sym (marks_same i);
            others = h.triggers.others;
          })

    -- ---- what stays

    -- the new results are those of a stored round
    results_now : t1.results ≡ with_round_of (group_of d g) (length (group_at s g).rounds) g (Some (buffer_by second)) values s.results
    results_now = (rest_as f c).0 ∙ ap (λ o. with_round_of (group_of d g) (length (group_at s g).rounds) g o values s.results) chosen

    results_other : (k : ℕ) → k ≢ g → (n : ResultBuffer) (p : ℕ) → place_value t1 k n p ≡ place_value s k n p
    results_other k ne n p = ap (λ r. held_in r k n p) results_now ∙ group_unstored (group_of d g) (some_samples d fits g there) (length (group_at s g).rounds) g second values s.results k n p ne

    stays : Stays d before after chip z s t1 g u
    stays = record {
      on = on;
      still = still f c;
      requests = le_since s.requests t1.requests (rest_as f c).1;
      others = others_as f c;
      rounds = rounds_as f c;
      from = λ y i ne. none_some (sym (free f c) ∙ i);
      to = λ y i ne. absurd (ne (ap (λ (r : Round). r.group) (sym (some_same (sym is ∙ i))) ∙ group_is));
      results = results_other;
      elsewhere = elsewhere;
      claim_from = λ k ne i. absurd (zero_claims (word_of z (word_number d (Word.Claim u))) k claim_now i);
      claim_to = λ k ne i. absurd (one_claims (word_of chip (word_number d (Word.Claim u))) k claim_parts.0 i);
      unit = λ k ne i. absurd (zero_claims (word_of z (word_number d (Word.Claim u))) k claim_now i);
      units = λ k less ne. unit_z k ∙ other_units k ne;
      levels = ap (λ (e : Converters). e.levels) block ∙ off_levels (f && is_some (trigger_input (group_of d g))) (trigger_bit d g) acked;
      time = time_z;
      enabled = λ l i. ap (λ e. has_bit e.enabled l) lines;
      puts = λ k ne. sym (ap (λ q. or_else (if q then Some (bank_number b, length (inputs_of (group_of d k))) else None) (first_held (put_of d k) below)) (eq_other k g ne));
      takes = λ k ne. refl;
    }

    -- ---- what is held

    stays_control : word_of a (trio_of (rounds_of d g)).control ≡ word_of chip (trio_of (rounds_of d g)).control
    stays_control = differs.others (trio_of (rounds_of d g)).control (past_order (trio_of (rounds_of d g)).control (STATE + 10 + 8 * u) (control_past (rounds_of d g).start u (start_from d fits g there).0 few))

    value_is : value ≡ bank_number b % 4 + 4 * (word_of chip (trio_of (rounds_of d g)).control / 4)
    value_is = ap (λ n. bank_number b % 4 + 4 * (n / 4)) stays_control

    bank_small : bank_number b < 4
    bank_small = three_four (bank_number b) (bank_below d fits b)

    control_is : word_of z (trio_of (rounds_of d g)).control ≡ bank_number b % 4 + 4 * (word_of chip (trio_of (rounds_of d g)).control / 4)
    control_is = ap (λ k. word_of z k) (sym (control_word d g)) ∙ (control_now ∙ value_is)

    pinned_same : word_of z (group_word d g 7) / 4 ≡ word_of chip (group_word d g 7) / 4
    pinned_same = ap (λ n. n / 4) (control_now ∙ value_is) ∙ (quarter_left (bank_number b) (word_of chip (trio_of (rounds_of d g)).control) bank_small ∙ ap (λ k. word_of chip k / 4) (sym (control_word d g)))

    -- frames below claim nothing of the unit, and copy nothing of the group
    spare : (hs : Reservations) → AllRight d chip w s hs → IsAlone (24 + u) hs → some_hold (claims_on u) hs ≡ false → AllSpare d chip z s t1 g u hs
    spare [] r al e = tt
    spare (y ∷ ys) r al e =
        let k = or_parts (claims_on u y.what) (some_hold (claims_on u) ys) e in (
          record {
            rounds = λ i. clash k.0 i;
            unkept = λ i. clash k.0 i;
            lost = λ i. clash k.0 i;
            copies = λ n q j o i same. absurd (al.0 (by_line y y.what n q j o r.0 i same));
            reads = λ n q vs i same. pinned_same;
          },
          spare ys r.1 al.1 k.1,
        )
      where
        by_line : (y : ReservedBy Call Reservation) (m : Reservation) (n : Bank) (q : Column) (j : ℕ) (o : Option ℕ) → HeldRight d chip w s y m → m ≡ Copies n q j o → q.group ≡ g → y.by ≡ Entered (24 + u)
        by_line y m n q j o r i same = (subst (λ e. HeldRight d chip w s y e) i r).0 ∙ ap (λ k. Entered (24 + k)) (ap (λ k. unit_of (group_of d k)) same ∙ here)

    right_below : AllRight d z w t1 below
    right_below = all_changed d fits before after chip z w s t1 h g u at stays below (spare below h.right.1.1 alone claim_parts.1) h.right.1.1

    -- ---- the banks

    trio_other : (j : ℕ) → own_of (trio_of (rounds_of d g)) j ≡ true → j ≢ (trio_of (rounds_of d g)).control → word_of z j ≡ word_of chip j
    trio_other j own ne =
        let from = in_banks (trio_of (rounds_of d g)).control (trio_of (rounds_of d g)).banks (3 * length (inputs_of (group_of d g))) j (eq_other j (trio_of (rounds_of d g)).control ne) own in
        let start = (start_from d fits g there).0 in
        elsewhere j (λ i less e. past_eight (rounds_of d g).start i j from less e) (λ i less e. past_unit (rounds_of d g).start u i j from start few less e)

    filled_is : (j n : ℕ) → slice_get values j ≡ Some n → word_of chip (bank_word (rounds_of d g) b j) ≡ n
    filled_is j n e = h.right.0.3.filled x j n is e

    put_is : part_of (h.banks g there).banks.put ≡ Some (bank_number b, length (inputs_of (group_of d g)))
    put_is = (h.banks g there).put ∙ ap (λ q. or_else (if q then Some (bank_number b, length (inputs_of (group_of d g))) else None) (first_held (put_of d g) below)) (eq_self g)

    banks : BanksAgree d after (word_of z) t1 g
    banks =
        let k = h.banks g there in record {
          banks = committed d fits g there (word_of chip) (word_of z) b values whole_round filled_is k.banks k.stands put_is control_is trio_other;
          stands = stands_committed d fits g there (word_of chip) (word_of z) b values whole_round filled_is k.banks k.stands put_is control_is trio_other;
          newest = λ ne more. newest_committed d fits g there (word_of chip) (word_of z) b values whole_round filled_is k.banks k.stands put_is control_is trio_other ∙ sym (ap (λ r. newest r) (now f c).rounds ∙ newest_pushed (group_at s g).rounds values);
          put = sym (no_puts d fits chip w s u g at below h.right.1.1 claim_parts.1);
          take = k.take;
        }

    -- ---- what is copied next

    -- each value's word in the bank, and its place in the buffer
    value_now : (j : ℕ) → j < length (inputs_of (group_of d g)) → word_of z (bank_word (rounds_of d g) b j) ≡ place_value t1 g (buffer_by second) (j * samples_of (group_of d g) + length (group_at s g).rounds % samples_of (group_of d g))
    value_now j less =
        let n = got values j (subst (λ n. j < n) (sym whole_round) less) in
        let start = (start_from d fits g there).0 in
        let from = bank_from d g b j in
        elsewhere (bank_word (rounds_of d g) b j) (λ i lt e. past_eight (rounds_of d g).start i (bank_word (rounds_of d g) b j) from lt e) (λ i lt e. past_unit (rounds_of d g).start u i (bank_word (rounds_of d g) b j) from start few lt e)
        ∙ (filled_is j n.0 n.1 ∙ sym (ap (λ r. held_in r g (buffer_by second) (j * samples_of (group_of d g) + length (group_at s g).rounds % samples_of (group_of d g))) results_now ∙ value_stored (group_of d g) (some_samples d fits g there) (length (group_at s g).rounds) g second values s.results j n.0 n.1))

    copies_right : CopiesRight d z t1 b col 0 None
    copies_right = record {
      newest = ap (λ n. n % 4) control_is ∙ rest_left (bank_number b) (word_of chip (trio_of (rounds_of d g)).control) bank_small;
      values = λ j less le. value_now j less;
      next = λ n e. none_some e;
    }

    right : AllRight d z w t1 after
    right = ((ap (λ n. Entered (24 + n)) (sym here), still f c, there, copies_right), (still f c, right_below))

    -- a place that isn't owed is as before
    places : (k : ℕ) (n : ResultBuffer) (p : ℕ) → p < place_count d k → some_hold (is_owed k n p) after ≡ false → word_of z (result_word k n p) ≡ place_value t1 k n p
    places k n p less left =
        let both = or_parts (is_owed k n p (Copies b col 0 None)) (some_hold (is_owed k n p) below) left in
        place_stays d fits before after chip z w s t1 h g u at stays k n p
        ∙ (h.places k n p less both.1
        ∙ sym (ap (λ r. held_in r k n p) results_now ∙ place_unstored (group_of d g) (some_samples d fits g there) (length (group_at s g).rounds) g second values s.results k n p b (mod-lt (length (group_at s g).rounds) (some_samples d fits g there)) both.0))

    -- ---- the group's words

    count_word : min (length (group_at t1 g).rounds) (samples_of (group_of d g)) ≡ count
    count_word = ap (λ r. min (length r) (samples_of (group_of d g))) (now f c).rounds ∙ (ap (λ n. min n (samples_of (group_of d g))) (length_push (group_at s g).rounds values) ∙ sym count_is)

    place_word : length (group_at t1 g).rounds % samples_of (group_of d g) ≡ place
    place_word = ap (λ r. length r % samples_of (group_of d g)) (now f c).rounds ∙ (ap (λ n. n % samples_of (group_of d g)) (length_push (group_at s g).rounds values) ∙ sym place_is)

    phase_word : phase_of (group_at t1 g).status (has_turn t1 g || (group_at t1 g).trigger) ≡ phase
    phase_word =
        ap (λ q. phase_of q (has_turn t1 g || (group_at t1 g).trigger)) (now f c).status
        ∙ (ap (λ q. phase_of (status_after (length (group_at s g).rounds % samples_of (group_of d g) + 1 == samples_of (group_of d g)) (group_at s g).status) (q || (group_at t1 g).trigger)) (turn_now f c)
        ∙ (ap (λ q. phase_of (status_after (length (group_at s g).rounds % samples_of (group_of d g) + 1 == samples_of (group_of d g)) (group_at s g).status) (c && not f || q)) (trigger_now f c) ∙ sym phase_is))

    asks : (f c : Bool) → c && not f ≡ true → (served_group d s g u few lt past x.request.number values f c).waiting ≡ Some (record { number = x.request.number; kept = [] })
    asks true true i = off_on i
    asks false true i = refl
    asks _ _ i = off_on i

    kept_by_turn : (q : Bool) → c && not f ≡ q → (has_turn t1 g ≡ true → word_of z (group_word d g 6) ≡ length (kept_in d t1 g)) × ((i n : ℕ) → has_turn t1 g ≡ true → slice_get (kept_in d t1 g) i ≡ Some n → ⊥)
    kept_by_turn false e = (λ k. clash (turn_now f c ∙ e) k, λ i n k. clash (turn_now f c ∙ e) k)
    kept_by_turn true e = (λ k. low 6 (below_seven 6 refl) ∙ (ap (λ q. turn_set q 6 (word_of chip (group_word d g 6))) e ∙ sym (ap length none)), λ i n k o. none_some (sym (ap (λ vs. slice_get vs i) none) ∙ o))
      where
        none : kept_in d t1 g ≡ []
        none = ap (λ q. kept_by q (kept_of_round g (round_at t1 (unit_of (group_of d g))))) (ap (λ (q : GroupState). q.waiting) (group_now f c) ∙ asks f c e)

    group : GroupAgrees d (word_of z) t1 g
    group = record {
      phase = low 0 (below_seven 0 refl) ∙ (by_turn (c && not f) 0 phase refl refl ∙ sym phase_word);
      chosen = low 1 (below_seven 1 refl) ∙ (by_turn (c && not f) 1 (word_of chip (group_word d g 1)) refl refl ∙ (was.chosen ∙ sym (ap (λ o. chosen_of o) (now f c).chosen)));
      notified = low 2 (below_seven 2 refl) ∙ (by_turn (c && not f) 2 (word_of chip (group_word d g 2)) refl refl ∙ (was.notified ∙ sym (ap (λ q. bit_of q) (now f c).notification)));
      turn = low 3 (below_seven 3 refl) ∙ (turn_word (c && not f) ∙ sym (ap (λ q. bit_of q) (turn_now f c)));
      count = λ ne. low 4 (below_seven 4 refl) ∙ (by_turn (c && not f) 4 count refl refl ∙ sym count_word);
      place = λ ne. low 5 (below_seven 5 refl) ∙ (by_turn (c && not f) 5 place refl refl ∙ sym place_word);
      kept = λ k ne. (kept_by_turn (c && not f) refl).0 k;
      values = λ k ne i n e. absurd ((kept_by_turn (c && not f) refl).1 i n k e);
    }
      where
        by_turn : (q : Bool) (j y : ℕ) → (3 == j) ≡ false → (6 == j) ≡ false → turn_set q j y ≡ y
        by_turn true j y e i = ap (λ b. if b then 0 else y) i
        by_turn false j y e i = ap (λ b. if b then 0 else y) e

        turn_word : (q : Bool) → turn_set q 3 (word_of chip (group_word d g 3)) ≡ bit_of q
        turn_word true = was.turn ∙ ap (λ q. bit_of q) turn_was
        turn_word false = refl

    -- ---- the order

    turns : (k : ℕ) → k ≢ g → has_turn t1 k ≡ has_turn s k
    turns k ne = turn_same d fits before after chip z w s t1 h g u at stays k ne

    waits : (k : ℕ) → k ≢ g → is_some (group_at t1 k).waiting ≡ is_some (group_at s k).waiting
    waits k ne = ap (λ (q : GroupState). is_some q.waiting) (others_as f c k ne)

    numbers_other : (k : ℕ) → k ≢ g → has_turn s k ≡ true → is_on u (group_of d k) ≡ true → number_at d t1 k ≡ number_at d s k
    numbers_other k ne turned unit = ap (λ (q : GroupState). number_by q.waiting (round_at t1 (unit_of (group_of d k)))) (others_as f c k ne) ∙ by (group_at s k).waiting refl
      where
        by : (q : Option Request) → (group_at s k).waiting ≡ q → number_by q (round_at t1 (unit_of (group_of d k))) ≡ number_by q (round_at s (unit_of (group_of d k)))
        by (Some q) e = refl
        by None e = absurd (ne (sym (eq_is x.group k (sym (ap (λ q. is_round_of k q) is) ∙ turn_round d fits w s h.sound u k turned e unit)) ∙ group_is))

    order_by : (q : Bool) → c && not f ≡ q → IsOrder d t1 u (if q then waiting g true unit_was.order.0 else left_of g unit_was.order.0)
    order_by true e = order_waiting d s t1 g u at turns waits unit_was.order.0 unit_was.order.2 (λ k turned unit. numbers k turned unit (same_or_other k g)) (turn_now f c ∙ (e ∙ sym turn_was)) true (waits_now f c ∙ e)
      where
        own_was : number_at d s g ≡ x.request.number
        own_was = ap (λ q. number_by q (round_at s (unit_of (group_of d g)))) waits_none ∙ (ap (λ n. number_by None (round_at s n)) here ∙ ap (λ q. number_by None q) is)

        numbers : (k : ℕ) → has_turn s k ≡ true → is_on u (group_of d k) ≡ true → (k ≡ g) ⊎ (k ≢ g) → number_at d t1 k ≡ number_at d s k
        numbers k turned unit (inl i) = subst (λ n. number_at d t1 n ≡ number_at d s n) (sym i) (ap (λ (q : GroupState). number_by q.waiting (round_at t1 (unit_of (group_of d g)))) (group_now f c) ∙ (ap (λ q. number_by q (round_at t1 (unit_of (group_of d g)))) (asks f c e) ∙ sym own_was))
        numbers k turned unit (inr ne) = numbers_other k ne turned unit
    order_by false e = order_without d s t1 g u at turns waits unit_was.order.0 unit_was.order.2 numbers_other unit_was.order.1.once (turn_now f c ∙ e)

    order : IsOrder d t1 u (if c && not f then waiting g true unit_was.order.0 else left_of g unit_was.order.0)
    order = order_by (c && not f) refl

    -- ---- claims and promises

    claims : (k : ℕ) → k < 2 → (k ≡ u) ⊎ (k ≢ u) → claim_right after k (word_of z (word_number d (Word.Claim k))) ≡ true
    claims k less (inl i) = subst (λ n. claim_right below n (word_of z (word_number d (Word.Claim n))) ≡ true) (sym i) (none_right u (word_of z (word_number d (Word.Claim u))) below claim_parts.1 claim_now)
    claims k less (inr ne) =
        ap (λ n. claim_right below k n) (claim_stays d fits before after chip z w s t1 h g u at stays k less ne)
        ∙ (sym (claim_past k u _ _ ne) ∙ (h.settled on).claims k less)

    promised : (k : ℕ) → (k ≡ u) ⊎ (k ≢ u) → Promised d after w t1 k
    promised k (inl i) = subst (λ n. Promised d after w t1 n) (sym i) (record {
      starts = λ e. ap (λ q. q || some_hold (starts_on u) below) (eq_self u);
      yields = λ e. clash (ap (λ q. is_some (aborts_by d w t1 u q)) (free f c)) e;
    })
    promised k (inr ne) = promised_same d w s t1 k (rounds_as f c k ne) (waits_other d s t1 g k (off_group d fits g u k at ne) waits) before after (λ e. e) (λ e. e) ((h.settled on).promised k)

    waits_fresh : (r : Request) → (group_at t1 g).waiting ≡ Some r → IsSoundRequest d t1 g r
    waits_fresh r e = request_sound f c (sym (ap (λ (q : GroupState). q.waiting) (group_now f c)) ∙ e) (rest_as f c).1
      where
        none : (o : Option Request) → o ≡ None → o ≡ Some r → ⊥
        none o i j = none_some (sym i ∙ j)

        some_inputs_left : 0 < length (inputs_of (group_of d g))
        some_inputs_left = some_left (length x.request.kept) (length (inputs_of (group_of d g))) sound_request.2

        request_sound : (f c : Bool) → (served_group d s g u few lt past x.request.number values f c).waiting ≡ Some r → t1.requests ≡ s.requests → IsSoundRequest d t1 g r
        request_sound true true i same = absurd (none (group_at s g).waiting waits_none i)
        request_sound false true i same =
            subst (λ (q : Request). IsSoundRequest d t1 g q) (some_same i) (sound_request.0, subst (λ n. x.request.number ≤ n) (sym same) sound_request.1, some_inputs_left, λ k. refl)
        request_sound _ _ i same = absurd (none (group_at s g).waiting waits_none i)

    hears_now : has_turn t1 g ≡ true → is_some (trigger_input (group_of d g)) ≡ true → (group_at t1 g).trigger ≡ true
    hears_now turned i = trigger_now f c ∙ (ap (λ q. q && not f) (h.sound.hears g turn_was i) ∙ and_second c (not f) (sym (turn_now f c) ∙ turned))

    -- ---- all of it

    fresh : Fresh d after z w t1 g u
    fresh = record {
      sound = sound f c ef ec;
      waits = waits_fresh;
      runs = λ r i same. none_some (sym (free f c) ∙ i);
      marks = λ i m. whether f
          (λ e. full_marks e i m)
          (λ e. ap (λ q. is_some q) (listens_as e i) ∙ h.sound.marks i (sym (marks_same e i) ∙ m));
      hears = hears_now;
      outside = stands_served d fits g u there few chip whole a differs value count place phase (c && not f) (f && is_some (trigger_input (group_of d g))) w h.outside;
      block = subst (λ e. IsBlock e w) (sym block) (off_same (f && is_some (trigger_input (group_of d g))) (trigger_bit d g) acked acked_block);
      round = subst (λ q. RoundAgrees d z.converters w (chips.unit_at z.converters u) q) (sym (free f c)) round_over;
      triggers = whether f full_triggers rest_triggers;
      right = right;
      banks = banks;
      places = places;
      backed = (λ k e. off_on e, (λ k e. off_on e, h.backed.1.1));
      group = group;
      unit = record { running = running_now ∙ sym (ap (λ q. running_of q) (free f c)); order = ((if c && not f then waiting g true unit_was.order.0 else left_of g unit_was.order.0), order_served d fits g u there few chip whole a differs value count place phase (c && not f) (f && is_some (trigger_input (group_of d g))) (if c && not f then waiting g true unit_was.order.0 else left_of g unit_was.order.0) holds, order) };
      claims = λ k less. claims k less (same_or_other k u);
      promised = λ k. promised k (same_or_other k u);
    }

    pub acts_agree : Agrees d (claiming u (Copies b (record { group = g; second = second; samples = samples_of (group_of d g); place = length (group_at s g).rounds % samples_of (group_of d g) }) 0 None) below)
        (last d fits g u there few chip whole a differs (bank_number b % 4 + 4 * (word_of a (trio_of (rounds_of d g)).control / 4)) count place phase (c && not f) (f && is_some (trigger_input (group_of d g)))) w (served d s g u few lt past x.request.number values f c)
    acts_agree = changed d fits before after chip z w s t1 h g u at stays fresh
