-- A trigger is enabled, its pulse is served, and what is left where it is off.
-- From services.RequestRight, bookkeeping.FrameRule, words.StructureParts, bookkeeping.RefinementRight and 14 more.
-- Used by services.SingleWordSteps, services.StopRight, adc_laws: serving.services.ServeActRight, services.CallSteps.
use Rattle.std.proofs.Common.{◌≡◌, ◌≢◌, ◌+◌, ◌*◌, ◌/◌, ◌%◌, ◌^◌, ◌<◌, ◌&&◌, ◌||◌, ◌==◌, [], ◌∷◌, ◌∙◌, ◌⊎◌}
use Rattle.std.proofs.Common.{if◌then◌else◌}
use Rattle.adc_groups.specs.Terms
use Terms.{acts_by, adc_bodies, adc_machine, AdcBody, AdcGround, AdcState, AdcTable, after_list, Agrees, all_groups}
use Terms.{AllRight, and_false, and_first, and_second, and_true, ap, arith, asks_no, BanksAgree, begun_stream, bit}
use Terms.{bit_of, bit_of_trigger, bit_or, body_ends, body_work, Bool, Busy, Call, Called, cases, Chip, chip_after}
use Terms.{chosen_of, circumstances, claim_right, CommitsTo, cond, Converters, deed_move, enable, EnableHardwareTrigger}
use Terms.{ended_at, Entered, Entry, eq_self, error_by, Event, false, first_error, FitsAdc, fresh_history, Group}
use Terms.{group_at, group_of, group_same, group_word, GroupAgrees, GroupState, happens, has_bit, has_bit-or}
use Terms.{has_bit-pow_other, has_bit-pow_same, has_bit-without, has_input, Has_served, has_served, has_turn, HasWords}
use Terms.{Idle, inl, inr, is_on, is_round_of, is_some, is_start_busy, Is_this_frame, is_triggered, IsOrder}
use Terms.{IsSoundGroup, Leaves_acted, length, length_after, List, listener, listener_among, listens, Makes}
use Terms.{making_owed, mark_at, MayCall, MayClose, MayPulse, MayStart, min, missed_after, nat_tests, None, not}
use Terms.{nothing_more, number_by, Option, option_as, or_right, order_of, order_own, Origin, outcome, owed_of}
use Terms.{phase_of, pow_below, pulse_by, refl, requested, requested_unless_turn, Reservation, Reservations, RightOr}
use Terms.{Round, round_at, RoundAgrees, rounds_of, same_line, same_or_other, samples_of, served, served_trigger}
use Terms.{Serves, Service, Set, set_apart, settles_list, slice_get, Some, SoundGroup, stands-agree, stands-move, STATE}
use Terms.{subst, suc, sym, tells_nothing, trigger_bit, trigger_input, TriggerFlags, TriggersAgree, TriggerSet, trio_of}
use Terms.{true, unit_at, unit_of, UnitAgrees, value_of, whether_as, Window, WindowWrite, with_mark, without}
use Terms.{without_mark, Word, word_number, word_of, World, zero, zero-mod, ℕ}
use Rattle.adc_groups.specs.{declared.making.WindowWrite.TheVariants.{Write}, laws.bookkeeping.FrameRule.{all_changed}}
use Rattle.adc_groups.specs.laws.bookkeeping.FrameRule.{all_spare, changed, claims_stay, Fresh, no_keeper}
use Rattle.adc_groups.specs.laws.bookkeeping.FrameRule.{place_stays, Spares, Stays, trio_group}
use Rattle.adc_groups.specs.laws.bookkeeping.PendingWritesRight.{no_unit, promised_same}
use Rattle.adc_groups.specs.laws.bookkeeping.RefinementRight.{bit_is, input_small, kept_none, listener_off}
use Rattle.adc_groups.specs.laws.bookkeeping.RefinementRight.{listener_on, listener_other, none_waits}
use Rattle.adc_groups.specs.laws.hardware.HardwareCommutes.{small_without}
use Rattle.adc_groups.specs.laws.hardware.StableUnderHardware.{Goes_on, Onward, onward_agrees}
use Rattle.adc_groups.specs.laws.services.RequestRight.{asked_group, asked_kept, asked_turn, asks, listener_as}
use Rattle.adc_groups.specs.laws.services.RequestRight.{may_set, none_under_way, on_own, request_settles, Requests}
use Rattle.adc_groups.specs.{laws.services.RequestRight.{runs_other}, laws.services.SingleWordCalls.{group_errors}}
use Rattle.adc_groups.specs.{laws.services.SingleWordCalls.{not_reset}, laws.services.StopWords.{off_block}}
use Rattle.adc_groups.specs.{laws.words.OrderWords.{order_kept}, laws.words.StoreOneWord.{other_at, sound_past}}
use Rattle.adc_groups.specs.laws.words.StructureParts.{deeds_listed, differs_none, low_last, low_set, lows_set}
use Rattle.adc_groups.specs.laws.words.StructureParts.{order_first, order_last, other_last, stands_last, unit_last}
use Rattle.adc_groups.specs.laws.words.WordsOfModule.{none_full, unit_small, within}

-- ---- marks

left : (q b : Bool) → cond q false b ≡ true → (q ≡ false) × (b ≡ true)
left true b e = absurd (cc)
left false b e = (refl, e)

off : (q b : Bool) → cond q false b ≡ b && not q
off true false = refl
off false false = refl
off _ _ = refl

-- where an input is marked after the mark of this one was dropped, it is another one that was marked before
pub marked_before : (s : AdcState) (i j : ℕ) → mark_at (with_mark s i false) j ≡ true → ((j == i) ≡ false) × (mark_at s j ≡ true)
marked_before s i zero e = left (0 == i) (mark_at s 0) e
marked_before s i (suc zero) e = left (1 == i) (mark_at s 1) e
marked_before s i (suc (suc zero)) e = left (2 == i) (mark_at s 2) e
marked_before s i (suc (suc (suc zero))) e = left (3 == i) (mark_at s 3) e
marked_before s i (suc (suc (suc (suc j)))) e = absurd (cc)

mark_left : (s : AdcState) (i j : ℕ) → j < 4 → mark_at (with_mark s i false) j ≡ mark_at s j && not (j == i)
mark_left s i zero lt = off (0 == i) (mark_at s 0)
mark_left s i (suc zero) lt = off (1 == i) (mark_at s 1)
mark_left s i (suc (suc zero)) lt = off (2 == i) (mark_at s 2)
mark_left s i (suc (suc (suc zero))) lt = off (3 == i) (mark_at s 3)
mark_left s i (suc (suc (suc (suc j)))) lt = absurd (omega (arith, lt))

-- the flag goes with the mark
pub flags_left : (d : AdcTable) (b : Converters) (s : AdcState) (i : ℕ) → i < 4 → TriggersAgree d b s → (j : ℕ) → j < 4 → has_bit (without b.pulses (bit i)) j ≡ mark_at (with_mark s i false) j
flags_left d b s i few h j lt =
    let fits : 2 ^ i < 2 ^ 32 = pow_below i 32 (omega (arith, few)) in
    ap (λ n. has_bit (without b.pulses n) j) (bit_is i few)
    ∙ (has_bit-without b.pulses (2 ^ i) j fits (omega (arith, lt))
    ∙ (ap (λ q. q && not (has_bit (2 ^ i) j)) (h.flags j lt)
    ∙ (ap (λ q. mark_at s j && not q) (one i j) ∙ sym (mark_left s i j lt))))
  where
    one : (i j : ℕ) → has_bit (2 ^ i) j ≡ (j == i)
    one i j = whether_as (j == i) (λ q. has_bit (2 ^ i) j ≡ q)
        (λ e. let same : j ≡ i = grind (arith, nat_tests) in ap (λ n. has_bit (2 ^ i) n) same ∙ has_bit-pow_same i)
        (λ e. let ne : j ≢ i = grind (arith, nat_tests) in has_bit-pow_other i j ne)

-- the group that listens has the input, and its trigger is enabled
pub heard_by : (d : AdcTable) (s : AdcState) (i g : ℕ) → listener d s i ≡ Some g → (has_input i (group_of d g) ≡ true) × ((group_at s g).trigger ≡ true)
heard_by d s i g e = let on = among all_groups e in (and_first (has_input i (group_of d g)) (group_at s g).trigger on, and_second (has_input i (group_of d g)) (group_at s g).trigger on)
  where
    one : (k : ℕ) (q : Bool) (o : Option ℕ) → listens d s i k ≡ q → (o ≡ Some g → listens d s i g ≡ true) → cond q (Some k) o ≡ Some g → listens d s i g ≡ true
    one k true o f rest h = let same : k ≡ g = cc in subst (λ n. listens d s i n ≡ true) same f
    one k false o f rest h = rest h

    among : (ks : List ℕ) → listener_among d s i ks ≡ Some g → listens d s i g ≡ true
    among [] h = absurd (cc)
    among (k ∷ ks) h = one k (listens d s i k) (listener_among d s i ks) refl (λ f. among ks f) h

-- what the machine makes of such a serving
serves_pulse : (d : AdcTable) (w : World) (s : AdcState) (i g : ℕ) → MayPulse d s i g → (t : AdcState) → cond (has_turn s g) (with_mark s i false) (requested (with_mark s i false) g) ≡ t → (x : ℕ) → happens d w s (Serves (28 + i) x) ≡ Some (outcome t tells_nothing)
serves_pulse d w s i g may t is x = served_on_line x i may.few may.marked (ap (λ o. requested_unless_turn (with_mark s i false) o) may.listens ∙ is)
  where
    served_on_line : (x n : ℕ) → n < 4 → mark_at s n ≡ true → served_trigger d s n ≡ t → happens d w s (Serves (28 + n) x) ≡ Some (outcome t tells_nothing)
    served_on_line x zero lt marked e = ap (λ q. cond (q && mark_at s 0) (Some (served d w s 28)) None) may.on ∙ (ap (λ q. cond q (Some (served d w s 28)) None) marked ∙ ap (λ z. Some (outcome z tells_nothing)) e)
    served_on_line x (suc zero) lt marked e = ap (λ q. cond (q && mark_at s 1) (Some (served d w s 29)) None) may.on ∙ (ap (λ q. cond q (Some (served d w s 29)) None) marked ∙ ap (λ z. Some (outcome z tells_nothing)) e)
    served_on_line x (suc (suc zero)) lt marked e = ap (λ q. cond (q && mark_at s 2) (Some (served d w s 30)) None) may.on ∙ (ap (λ q. cond q (Some (served d w s 30)) None) marked ∙ ap (λ z. Some (outcome z tells_nothing)) e)
    served_on_line x (suc (suc (suc zero))) lt marked e = ap (λ q. cond (q && mark_at s 3) (Some (served d w s 31)) None) may.on ∙ (ap (λ q. cond q (Some (served d w s 31)) None) marked ∙ ap (λ z. Some (outcome z tells_nothing)) e)
    served_on_line x (suc (suc (suc (suc n)))) lt marked e = absurd (omega (arith, lt))

-- ---- the group has a turn

module _ (d : AdcTable) (fits : FitsAdc d) (f r : AdcBody → ℕ) (below : Reservations) (chip : Chip) (w : World) (s : AdcState) (h : Agrees d below chip w s) (m : ℕ → Bool) (y : ℕ) (i g : ℕ) (may : MayPulse d s i g) (turned : has_turn s g ≡ true) where
  abbrev flagged : Chip
  flagged = chip_after chip (deed_move d (Write TriggerFlags (bit i))) 0

  onward : Onward d chip flagged w w s (with_mark s i false).marks
  onward = record {
    outside = stands-move chip w (deed_move d (Write TriggerFlags (bit i))) 0 h.outside;
    block = record { all = h.block.all; lists = h.block.lists; past = h.block.past; samples = h.block.samples };
    words = λ k own. refl;
    lines = λ l e. refl;
    now = omega arith;
    time = omega arith;
    units = λ u lt. Goes_on (record { round = refl; ended = λ j lt e. refl; fresh = λ j input lt1 opened lt2 e early late. absurd (omega (arith, early, late)) });
    samples = λ j at le. refl;
    marks = λ j e. h.sound.marks j (marked_before s i j e).1;
    off = λ e. absurd (let on = may.on in cc);
    triggers = record { gates = h.triggers.gates; flags = λ j lt. flags_left d chip.converters s i may.few h.triggers j lt; others = small_without chip.converters.pulses (bit i) h.triggers.others };
  }

  pub drop_right : RightOr (AdcGround d) (adc_bodies d f r) below chip w s (record { table = d; place = Makes (pulse_by d i g true) }) (Entered (28 + i)) y fresh_history m (ended_at (adc_bodies d f r) body_ends (record { table = d; place = Makes (pulse_by d i g true) }) (value_of chip (body_work (record { table = d; place = Makes (pulse_by d i g true) }))))
  drop_right = record {
    may = (refl, refl);
    stands = tt;
    state = with_mark s i false;
    told = tells_nothing;
    begins = None;
    is = serves_pulse d w s i g may (with_mark s i false) (ap (λ q. cond q (with_mark s i false) (requested (with_mark s i false) g)) turned) 0;
    sends = tt;
    acts = tt;
    reset = refl;
    next = (onward_agrees d fits chip flagged w w s (with_mark s i false).marks onward below h, record { may = (ap (λ q. q || missed_after (adc_machine d) w s m (28 + i)) (same_line (28 + i)), refl); served = true; owed = refl; shown = λ e. tt; report = refl });
  }

-- ---- the group makes a request

module _ (d : AdcTable) (fits : FitsAdc d) (f r : AdcBody → ℕ) (below : Reservations) (chip : Chip) (w : World) (s : AdcState) (h : Agrees d below chip w s) (m : ℕ → Bool) (y : ℕ) (i g : ℕ) (may : MayPulse d s i g) (none : has_turn s g ≡ false) where
  abbrev own_unit : ℕ
  own_unit = unit_of (group_of d g)

  abbrev line : Origin Call
  line = Entered (28 + i)

  pulse_small : g < 16
  pulse_small = within d g may.there

  hears_it : (has_input i (group_of d g) ≡ true) × ((group_at s g).trigger ≡ true)
  hears_it = heard_by d s i g may.listens

  abbrev before : AdcState
  before = with_mark s i false

  abbrev asking : AdcState
  asking = requested before g

  was_sound : SoundGroup (group_of d g) (has_turn s g) (group_at s g)
  was_sound = h.sound.groups g

  awake : {A : Type 0} → (group_at s g).status ≡ Idle → A
  awake e = absurd (let off = was_sound.trigger e in let on = hears_it.1 in cc)

  running_on : has_turn s g || (group_at s g).trigger ≡ true || (group_at s g).trigger
  running_on = or_right (has_turn s g) (group_at s g).trigger hears_it.1

  sound_now : SoundGroup (group_of d g) true (asks before (group_at s g))
  sound_now = record {
    configured = λ e. absurd (let j : is_some (group_of d g) ≡ false = ap (λ k. is_some k) e in let k = may.there in cc);
    chosen = was_sound.chosen;
    turn = λ e. awake e;
    trigger = λ e. awake e;
    input = was_sound.input;
    going = λ e. sym running_on ∙ was_sound.going e;
    rounds = was_sound.rounds;
    stream = was_sound.stream;
    linear = was_sound.linear;
    lasts = λ e. was_sound.lasts (or_right (has_turn s g) (group_at s g).trigger hears_it.1);
    whole = was_sound.whole;
  }

  abbrev flag_off : WindowWrite
  flag_off = Write TriggerFlags (bit i)

  abbrev turn_on : List WindowWrite
  turn_on = Set (Word.Kept g) 0 ∷ Set (Word.Turn g) 1 ∷ []

  words : (b : Chip) → ((j : ℕ) → word_of b (group_word d g j) ≡ lows_set turn_on j (low_set flag_off j (word_of chip (group_word d g j))))
      → GroupAgrees d (word_of b) asking g
  words b low =
      let was = (h.settled may.on).groups g may.there in
      let is = asked_group before g pulse_small (group_at s g) refl in
      let turn = asked_turn before g pulse_small (group_at s g) refl in record {
        phase = low 0 ∙ (was.phase ∙ (ap (λ q. phase_of (group_at s g).status q) running_on ∙ (sym (ap (λ q. phase_of (group_at s g).status (q || (group_at s g).trigger)) turn) ∙ sym (ap (λ (x : GroupState). phase_of x.status (has_turn asking g || x.trigger)) is))));
        chosen = low 1 ∙ (was.chosen ∙ sym (ap (λ (x : GroupState). chosen_of x.chosen) is));
        notified = low 2 ∙ (was.notified ∙ sym (ap (λ (x : GroupState). bit_of x.notification) is));
        turn = low 3 ∙ sym (ap (λ q. bit_of q) turn);
        count = λ e. low 4 ∙ (was.count (λ i. e (ap (λ (x : GroupState). x.status) is ∙ i)) ∙ sym (ap (λ (x : GroupState). min (length x.rounds) (samples_of (group_of d g))) is));
        place = λ e. low 5 ∙ (was.place (λ i. e (ap (λ (x : GroupState). x.status) is ∙ i)) ∙ sym (ap (λ (x : GroupState). length x.rounds % samples_of (group_of d g)) is));
        kept = λ e k. low 6 ∙ sym (ap length (asked_kept before g pulse_small (group_at s g) refl d));
        values = λ e k j v at. absurd (let none : slice_get [] j ≡ Some v = sym (ap (λ vs. slice_get vs j) (asked_kept before g pulse_small (group_at s g) refl d)) ∙ at in cc);
      }

  requests : Requests d chip w s g before (group_at s g) (record chip.converters { pulses = without chip.converters.pulses (bit i) }) flag_off turn_on
  requests = record {
    on = may.on;
    still = may.on;
    there = may.there;
    none = none;
    group = refl;
    others = λ k ne. refl;
    past = sound_past d s h.sound.groups;
    requests = refl;
    rounds = λ v. refl;
    results = refl;
    marks = λ j e. (marked_before s i j e).1;
    trigger = refl;
    hears = λ j. hears_it.1;
    newest = λ e more. (e, refl);
    sound = sound_now;
    first = tt;
    rest = (refl, (refl, tt));
    control = λ v. refl;
    unit = λ j v. refl;
    owed = λ c. ((may_set d fits g may.there 6 0 (omega arith), tt), ((may_set d fits g may.there 3 1 (omega arith), tt), tt));
    words = words;
    registers = λ c e. (ap (λ (z : Chip). (after_list (deed_move d) z turn_on).converters) e, ap (λ (z : Chip). (after_list (deed_move d) z turn_on).control) e);
    units = λ v. refl;
    levels = refl;
    time = refl;
    gates = refl;
    flags = λ j less. flags_left d chip.converters s i may.few h.triggers j less;
    few = small_without chip.converters.pulses (bit i) h.triggers.others;
    block = record { all = h.block.all; lists = h.block.lists; past = h.block.past; samples = h.block.samples };
  }

  -- ---- the step

  closes : (q : Bool) → MayClose d (if q then Window.Yield own_unit else Window.Begin own_unit) below line (has_served (28 + i))
  closes true = (Has_served (28 + i) (λ e. absurd (let none = no_unit i in cc)) Is_this_frame, unit_small d fits g may.there)
  closes false = (Has_served (28 + i) (λ e. absurd (let none = no_unit i in cc)) Is_this_frame, unit_small d fits g may.there)

  pub request_right : RightOr (AdcGround d) (adc_bodies d f r) below chip w s (record { table = d; place = Makes (pulse_by d i g false) }) line y fresh_history m (ended_at (adc_bodies d f r) body_ends (record { table = d; place = Makes (pulse_by d i g false) }) (value_of chip (body_work (record { table = d; place = Makes (pulse_by d i g false) }))))
  request_right = record {
    may = (refl, refl);
    stands = tt;
    state = asking;
    told = tells_nothing;
    begins = None;
    is = serves_pulse d w s i g may asking (ap (λ q. cond q before asking) none) 0;
    sends = tt;
    acts = tt;
    reset = refl;
    next = (request_settles d fits below chip w s h line None (λ v. ap (λ q. q && 28 + i == 24 + v) (no_unit i)) g before (group_at s g) _ flag_off turn_on requests, (refl, closes d.priorities));
  }

-- ---- A group's trigger is off: who listens then, which marks are left, and that gates and flags agree once those of its input are off.

module _ (d : AdcTable) (fits : FitsAdc d) (s t : AdcState) (g : ℕ) (wired : (group_at s g).trigger ≡ true → is_some (trigger_input (group_of d g)) ≡ true) (others : (k : ℕ) → k ≢ g → (group_at t k).trigger ≡ (group_at s k).trigger) (deaf : (group_at t g).trigger ≡ false)
    (left : (i : ℕ) → mark_at t i ≡ mark_at (without_mark s (trigger_input (group_of d g))) i) where
  mark_by : (o : Option ℕ) → trigger_input (group_of d g) ≡ o → (i : ℕ) → mark_at t i ≡ mark_at (without_mark s o) i
  mark_by o e i = left i ∙ ap (λ q. mark_at (without_mark s q) i) e

  -- where it has no trigger, all hear as before
  unwired : trigger_input (group_of d g) ≡ None → (i : ℕ) → listener d t i ≡ listener d s i
  unwired e = listener_as d s t (λ k. cases (same_or_other k g)
      (λ i. subst (λ n. (group_at t n).trigger ≡ (group_at s n).trigger) (sym i) (deaf ∙ sym was_deaf))
      (λ ne. others k ne))
    where
      was_deaf : (group_at s g).trigger ≡ false
      was_deaf = whether_as (group_at s g).trigger (λ q. q ≡ false)
          (λ i. absurd (let j = wired i in let k : is_some (trigger_input (group_of d g)) ≡ false = ap (λ q. is_some q) e in cc))
          (λ i. refl)

  marks_by : ((i : ℕ) → mark_at s i ≡ true → is_some (listener d s i) ≡ true) → (o : Option ℕ) → trigger_input (group_of d g) ≡ o → (i : ℕ) → mark_at t i ≡ true → is_some (listener d t i) ≡ true
  marks_by were None e i on = ap (λ q. is_some q) (unwired e i) ∙ were i (sym (mark_by None e i) ∙ on)
  marks_by were (Some j) e i on =
      let k = marked_before s j i (sym (mark_by (Some j) e i) ∙ on) in
      let ne : i ≢ j = (λ z. let same : (i == j) ≡ true = ap (λ n. i == n) (sym z) ∙ eq_self i in let no = k.0 in absurd (cc)) in
      ap (λ q. is_some q) (listener_other d fits s t g j e others i ne) ∙ were i k.1

  -- some group listens to each input that is marked
  pub marks_off : ((i : ℕ) → mark_at s i ≡ true → is_some (listener d s i) ≡ true) → (i : ℕ) → mark_at t i ≡ true → is_some (listener d t i) ≡ true
  marks_off were = marks_by were (trigger_input (group_of d g)) refl

  fits_bit : (j : ℕ) → j < 4 → bit j < 2 ^ 32
  fits_bit (suc (suc (suc (suc j)))) less = absurd (omega (arith, less))
  fits_bit _ less = omega arith

  triggers_by : (c : Converters) → TriggersAgree d c s → (o : Option ℕ) → trigger_input (group_of d g) ≡ o → TriggersAgree d (off_block (is_some o) (bit_of_trigger o) c) t
  triggers_by c h None e = record {
    gates = λ i less. h.gates i less ∙ ap (λ q. is_some q) (sym (unwired e i));
    flags = λ i less. h.flags i less ∙ sym (mark_by None e i);
    others = h.others;
  }
  triggers_by c h (Some j) e =
      let small = input_small d fits g j e in record {
        gates = λ i less. gate i less small (same_or_other i j);
        flags = λ i less. flags_left d c s j small h i less ∙ sym (mark_by (Some j) e i);
        others = small_without c.pulses (bit j) h.others;
      }
    where
      gate : (i : ℕ) → i < 4 → j < 4 → (i ≡ j) ⊎ (i ≢ j) → has_bit (without c.gates (bit j)) i ≡ is_some (listener d t i)
      gate i less small (inl is) =
          has_bit-without c.gates (bit j) i (fits_bit j small) (omega (arith, less))
          ∙ (ap (λ q. has_bit c.gates i && not q) (ap (λ n. has_bit n i) (bit_is j small) ∙ (ap (λ n. has_bit (2 ^ j) n) is ∙ has_bit-pow_same j))
          ∙ (and_false (has_bit c.gates i) ∙ sym (ap (λ q. is_some q) (ap (λ n. listener d t n) is ∙ listener_off d fits s t g j e others deaf))))
      gate i less small (inr ne) =
          has_bit-without c.gates (bit j) i (fits_bit j small) (omega (arith, less))
          ∙ (ap (λ q. has_bit c.gates i && not q) (ap (λ n. has_bit n i) (bit_is j small) ∙ has_bit-pow_other j i ne)
          ∙ (and_true (has_bit c.gates i) ∙ (h.gates i less ∙ ap (λ q. is_some q) (sym (listener_other d fits s t g j e others i ne)))))

  pub triggers_off : (c : Converters) → TriggersAgree d c s → TriggersAgree d (off_block (is_some (trigger_input (group_of d g))) (trigger_bit d g) c) t
  triggers_off c h = triggers_by c h (trigger_input (group_of d g)) refl

-- ---- A call begins a stream and has its trigger switched on: the step at which it acts, and all that its window makes after that.

-- ---- Adc_EnableHardwareTrigger

module _ (d : AdcTable) (fits : FitsAdc d) (f r : AdcBody → ℕ) (below : Reservations) (chip : Chip) (w : World) (s : AdcState) (h : Agrees d below chip w s) (m : ℕ → Bool) (y : ℕ) (g : ℕ) (may : MayCall d s g EnableHardwareTrigger) (go : MayStart d s g) where
  abbrev u : ℕ
  u = unit_of (group_of d g)

  abbrev call : Call
  call = Call.Group g EnableHardwareTrigger

  at : is_on u (group_of d g) ≡ true
  at = on_own (group_of d g) may.there

  few : u < 2
  few = unit_small d fits g may.there

  lt : g < 16
  lt = within d g may.there

  quiet : (has_turn s g ≡ false) × ((group_at s g).trigger ≡ false)
  quiet = none_under_way (group_of d g) (has_turn s g) (group_at s g) (h.sound.groups g) go.quiet

  -- ---- the machine's state after it

  abbrev begun : GroupState
  begun = record (group_at s g) { status = Busy; rounds = []; trigger = true }

  abbrev t : AdcState
  t = begun_stream s g true

  is_group : group_at t g ≡ begun
  is_group = group_same s g begun lt

  is_other : (k : ℕ) → k ≢ g → group_at t k ≡ group_at s k
  is_other k ne = other_at s g begun (sound_past d s h.sound.groups) k ne

  waiting_as : (k : ℕ) → (group_at t k).waiting ≡ (group_at s k).waiting
  waiting_as k = cases (same_or_other k g)
      (λ e. subst (λ n. (group_at t n).waiting ≡ (group_at s n).waiting) (sym e) (ap (λ (x : GroupState). x.waiting) is_group))
      (λ ne. ap (λ (x : GroupState). x.waiting) (is_other k ne))

  turn_as : (k : ℕ) → has_turn t k ≡ has_turn s k
  turn_as k = ap (λ q. is_some q || is_round_of k (round_at s 0) || is_round_of k (round_at s 1)) (waiting_as k)

  turn : has_turn t g ≡ false
  turn = turn_as g ∙ quiet.0

  -- ---- its trigger

  input : (i : ℕ) × (trigger_input (group_of d g) ≡ Some i)
  input = by (group_of d g) may.there may.right
    where
      some : (o : Option ℕ) → not (is_some o) ≡ false → (i : ℕ) × (o ≡ Some i)
      some None e = absurd (cc)
      some (Some i) e = (i, refl)

      by : (k : Option Group) → is_some k ≡ true → not (is_triggered k) ≡ false → (i : ℕ) × (trigger_input k ≡ Some i)
      by None e f = absurd (cc)
      by (Some k) e f = some k.trigger f

  small : input.0 < 4
  small = input_small d fits g input.0 input.1

  bits : trigger_bit d g ≡ 2 ^ input.0
  bits = ap (λ o. bit_of_trigger o) input.1 ∙ bit_is input.0 small

  others_as : (k : ℕ) → k ≢ g → (group_at t k).trigger ≡ (group_at s k).trigger
  others_as k ne = ap (λ (x : GroupState). x.trigger) (is_other k ne)

  heard : is_some (listener d t input.0) ≡ true
  heard = listener_on d fits s t g input.0 input.1 others_as lt (ap (λ (x : GroupState). x.trigger) is_group)

  heard_as : (i : ℕ) → i ≢ input.0 → listener d t i ≡ listener d s i
  heard_as = listener_other d fits s t g input.0 input.1 others_as

  sound : IsSoundGroup d t g
  sound = subst (λ x. SoundGroup (group_of d g) (has_turn t g) x) (sym is_group) (subst (λ q. SoundGroup (group_of d g) q begun) (sym turn) (record {
    configured = λ e. absurd (let i : is_some (group_of d g) ≡ false = ap (λ k. is_some k) e in let j = may.there in cc);
    chosen = λ e. go.chosen;
    turn = λ e. absurd (cc);
    trigger = λ e. absurd (cc);
    input = λ e. ap (λ o. is_some o) input.1;
    going = λ e. absurd (cc);
    rounds = λ e. absurd (cc);
    stream = λ e. absurd (cc);
    linear = λ e. omega arith;
    lasts = λ e. none_full d fits g may.there;
    whole = λ x i e. absurd (cc);
  }))

  none_wait : (group_at t g).waiting ≡ None
  none_wait = waiting_as g ∙ option_as (group_at s g).waiting (λ q. is_some q ≡ false → q ≡ None)
      (λ q _ e. absurd (cc)) (λ _ _. refl) (none_waits s g quiet.0)

  -- ---- the words after the window's moves

  was : GroupAgrees d (word_of chip) s g
  was = (h.settled may.on).groups g may.there

  unit_was : UnitAgrees d (word_of chip) s u
  unit_was = (h.settled may.on).units u few

  abbrev xs : List Entry
  xs = unit_was.order.0

  whole : HasWords chip
  whole = h.outside.all.words

  abbrev deed : WindowWrite
  deed = Write TriggerSet (trigger_bit d g)

  abbrev deeds : List WindowWrite
  deeds = Set (Word.Phase g) 1 ∷ Set (Word.Count g) 0 ∷ Set (Word.Place g) 0 ∷ []

  abbrev acted : Chip
  acted = chip_after chip (deed_move d deed) 0

  first_whole : HasWords acted
  first_whole = length_after chip (deed_move d deed) 0 ∙ whole

  abbrev b : Chip
  b = after_list (deed_move d) acted deeds

  low : (j : ℕ) → word_of b (group_word d g j) ≡ lows_set deeds j (low_set deed j (word_of chip (group_word d g j)))
  low = low_last d fits g u may.there few chip whole deed tt acted (differs_none (order_own (order_of u)) acted first_whole) deeds (refl, (refl, (refl, tt)))

  claim : word_of b (word_number d (Word.Claim u)) ≡ word_of chip (word_number d (Word.Claim u))
  claim = let is : STATE + 8 + 8 * u + 1 ≡ word_number d (Word.Claim u) = omega arith in subst (λ k. word_of b k ≡ word_of chip k) is (unit_last d fits g u may.there few chip whole deed tt acted (differs_none (order_own (order_of u)) acted first_whole) deeds (refl, (refl, (refl, tt))) 1 (omega arith))

  running : word_of b (word_number d (Word.Running u)) ≡ word_of chip (word_number d (Word.Running u))
  running = let is : STATE + 8 + 8 * u + 0 ≡ word_number d (Word.Running u) = omega arith in subst (λ k. word_of b k ≡ word_of chip k) is (unit_last d fits g u may.there few chip whole deed tt acted (differs_none (order_own (order_of u)) acted first_whole) deeds (refl, (refl, (refl, tt))) 0 (omega arith))

  stays : Stays d below below chip b s t g u
  stays = record {
    on = may.on;
    still = may.on;
    requests = omega arith;
    others = is_other;
    rounds = λ v ne. refl;
    from = λ x e ne. e;
    to = λ x e ne. e;
    results = λ k ne n p. refl;
    elsewhere = other_last d fits g u may.there few chip whole deed tt acted (differs_none (order_own (order_of u)) acted first_whole) deeds (refl, (refl, (refl, tt)));
    claim_from = λ k ne e. sym claim ∙ e;
    claim_to = λ k ne e. claim ∙ e;
    unit = λ k ne e. refl;
    units = λ v less ne. refl;
    levels = refl;
    time = refl;
    enabled = λ l e. refl;
    puts = λ k ne. refl;
    takes = λ k ne. refl;
  }

  unkept : word_of chip (word_number d (Word.Claim u)) ≢ 2 + g
  unkept = no_keeper d chip w s g u (none_waits s g quiet.0) below h.right ((h.settled may.on).claims u few)

  spares : (z : Reservation) → Spares d chip b s t g u z
  spares z = record { rounds = λ on x e. e; unkept = λ on e. unkept (sym claim ∙ e); lost = λ on. kept_none d fits t g may.there turn; copies = λ n k i x e same. (ap (λ v. v % 4) (low 7), λ n p. refl); reads = λ k n vs e same. ap (λ v. v / 4) (low 7) }

  right : AllRight d b w t below
  right = all_changed d fits below below chip b w s t h g u at stays below (all_spare d chip b s t g u spares below) h.right

  order : IsOrder d t u xs
  order = order_kept d s t u turn_as (λ k. ap (λ q. is_some q) (waiting_as k)) (λ k on. ap (λ q. number_by q (round_at s (unit_of (group_of d k)))) (waiting_as k)) xs unit_was.order.2

  fresh : Fresh d below b w t g u
  fresh = record {
    sound = sound;
    waits = λ q e. absurd (let none = none_wait in cc);
    runs = λ x e same. absurd (runs_other s g quiet.0 u x few e same);
    marks = λ i e. marks i e (same_or_other i input.0);
    hears = λ e i. ap (λ (x : GroupState). x.trigger) is_group;
    outside = stands_last d fits g u may.there few chip whole deed tt acted (differs_none (order_own (order_of u)) acted first_whole) deeds (refl, (refl, (refl, tt))) w h.outside;
    block = record { all = h.block.all; lists = h.block.lists; past = h.block.past; samples = h.block.samples };
    round = round_by (round_at s u) (h.rounds u few);
    triggers = record { gates = λ i less. gates i (same_or_other i input.0) less; flags = λ i less. h.triggers.flags i less; others = h.triggers.others };
    right = right;
    banks = banks;
    places = λ k n p less free. place_stays d fits below below chip b w s t h g u at stays k n p ∙ h.places k n p less free;
    backed = h.backed;
    group = group;
    unit = record { running = running ∙ unit_was.running; order = (xs, order_last d fits g u may.there few chip whole deed tt acted (differs_none (order_own (order_of u)) acted first_whole) deeds (refl, (refl, (refl, tt))) xs (order_first d fits g u may.there few chip whole deed tt acted (differs_none (order_own (order_of u)) acted first_whole) [] tt xs unit_was.order.1), order) };
    claims = λ v less. ap (λ x. claim_right below v x) (claims_stay d fits below below chip b w s t h g u at stays claim v less) ∙ (h.settled may.on).claims v less;
    promised = λ v. promised_same d w s t v refl (λ k. ap (λ q. is_on v (group_of d k) && is_some q) (waiting_as k)) below below (λ e. e) (λ e. e) ((h.settled may.on).promised v);
  }
    where
      marks : (i : ℕ) → mark_at s i ≡ true → (i ≡ input.0) ⊎ (i ≢ input.0) → is_some (listener d t i) ≡ true
      marks i e (inl is) = subst (λ n. is_some (listener d t n) ≡ true) (sym is) heard
      marks i e (inr ne) = ap (λ o. is_some o) (heard_as i ne) ∙ h.sound.marks i e

      gates : (i : ℕ) → (i ≡ input.0) ⊎ (i ≢ input.0) → i < 4 → has_bit (bit_or chip.converters.gates (trigger_bit d g)) i ≡ is_some (listener d t i)
      gates i (inl is) less = has_bit-or chip.converters.gates (trigger_bit d g) i ∙ (or_right (has_bit chip.converters.gates i) (has_bit (trigger_bit d g) i) (ap (λ n. has_bit n i) bits ∙ (ap (λ n. has_bit (2 ^ input.0) n) is ∙ has_bit-pow_same input.0)) ∙ sym (subst (λ n. is_some (listener d t n) ≡ true) (sym is) heard))
      gates i (inr ne) less = has_bit-or chip.converters.gates (trigger_bit d g) i ∙ (set_apart (has_bit chip.converters.gates i) (has_bit (trigger_bit d g) i) (ap (λ n. has_bit n i) bits ∙ has_bit-pow_other input.0 i ne) ∙ (h.triggers.gates i less ∙ ap (λ o. is_some o) (sym (heard_as i ne))))

      round_by : (q : Option Round) → RoundAgrees d chip.converters w (unit_at chip.converters u) q → RoundAgrees d b.converters w (unit_at chip.converters u) q
      round_by None x = x
      round_by (Some q) x = record { on = x.on; start = x.start; count = x.count; inputs = x.inputs; values = x.values }

      banks : BanksAgree d below (word_of b) t g
      banks =
          let q = h.banks g may.there in record {
            banks = q.banks;
            stands = stands-agree (trio_of (rounds_of d g)) (word_of chip) (word_of b) q.banks (trio_group d fits below below chip b w s t h g u at stays (low 7)) q.stands;
            newest = λ e more. absurd (let none : 0 < 0 = subst (λ (x : GroupState). 0 < length x.rounds) is_group more in omega (arith, none));
            put = q.put;
            take = q.take;
          }

      group : GroupAgrees d (word_of b) t g
      group = let none : 0 ≡ min 0 (samples_of (group_of d g)) = omega arith in record {
        phase = low 0 ∙ sym (ap (λ (x : GroupState). phase_of x.status (has_turn t g || x.trigger)) is_group);
        chosen = low 1 ∙ (was.chosen ∙ sym (ap (λ (x : GroupState). chosen_of x.chosen) is_group));
        notified = low 2 ∙ (was.notified ∙ sym (ap (λ (x : GroupState). bit_of x.notification) is_group));
        turn = low 3 ∙ (was.turn ∙ ap (λ q. bit_of q) (sym (turn_as g)));
        count = λ e. low 4 ∙ (none ∙ sym (ap (λ (x : GroupState). min (length x.rounds) (samples_of (group_of d g))) is_group));
        place = λ e. low 5 ∙ (sym (zero-mod (samples_of (group_of d g))) ∙ sym (ap (λ (x : GroupState). length x.rounds % samples_of (group_of d g)) is_group));
        kept = λ e k. absurd (let none = turn in cc);
        values = λ e k i v is. absurd (let none = turn in cc);
      }

  represents : Agrees d below b w t
  represents = changed d fits below below chip b w s t h g u at stays fresh

  -- ---- the moves that are owed

  settles : (n : ℕ) × CommitsTo (making_owed d) n (record { table = d; order = None; banks = None; deeds = deeds; after = nothing_more }) acted (λ c. Agrees d below c w t)
  settles = settles_list (making_owed d) (deed_move d) (λ ds. owed_of d None None ds nothing_more) (deeds_listed d fits nothing_more) (λ c. Agrees d below c w t) deeds acted
      ((may_set d fits g may.there 0 1 (omega arith), tt), ((may_set d fits g may.there 4 0 (omega arith), tt), ((may_set d fits g may.there 5 0 (omega arith), tt), tt))) represents

  -- ---- the step

  none_error : error_by d call (circumstances d s call) ≡ None
  none_error =
      group_errors d s g EnableHardwareTrigger may
      ∙ (ap (λ q. first_error Service.AdcEnableHardwareTrigger (false ∷ false ∷ q ∷ not (is_some (group_at s g).chosen) ∷ is_start_busy d s g ∷ false ∷ [])) may.right
      ∙ (ap (λ q. first_error Service.AdcEnableHardwareTrigger (false ∷ false ∷ false ∷ not q ∷ is_start_busy d s g ∷ false ∷ [])) go.chosen
      ∙ ap (λ q. first_error Service.AdcEnableHardwareTrigger (false ∷ false ∷ false ∷ false ∷ q ∷ false ∷ [])) go.free))

  pub enable_right : RightOr (AdcGround d) (adc_bodies d f r) below chip w s (record { table = d; place = Makes (enable d g) }) (Called call) y fresh_history m (ended_at (adc_bodies d f r) body_ends (record { table = d; place = Makes (enable d g) }) (value_of chip (body_work (record { table = d; place = Makes (enable d g) }))))
  enable_right = record {
    may = refl;
    stands = tt;
    state = t;
    told = tells_nothing;
    begins = None;
    is = ap (λ x. Some (acts_by d s call x)) none_error;
    sends = tt;
    acts = tt;
    reset = sym (asks_no (adc_machine d) call (Some Event.Act) (Some (outcome t tells_nothing)) (not_reset call));
    next = (settles, (refl, Leaves_acted call Is_this_frame refl));
  }
