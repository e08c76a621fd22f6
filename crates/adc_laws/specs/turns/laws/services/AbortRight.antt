-- A round that is outranked is aborted, or was finished before: the step that reads the abort register, and all that its window makes
-- after it.
-- From adc_groups: words.StructureParts, adc_groups: bookkeeping.RefinementRight and 18 more.
-- Used by adc_driver: services.AllSteps.
use Rattle.std.proofs.Common.{◌≡◌, ◌≢◌, ◌+◌, ◌-◌, ◌*◌, ◌/◌, ◌%◌, ◌<◌, ◌≤◌, ◌&&◌, ◌||◌, ◌==◌, [], ◌∷◌, ◌∙◌, ◌⊎◌}
use Rattle.std.proofs.Common.{if◌then◌else◌}
use Rattle.adc_laws.specs.turns.Terms
use Terms.{Abort, abort-not_running, aborted, aborted_by, aborted_in, aborted_list, aborting, Aborts, aborts}
use Terms.{aborts_by, aborts_on, acted, adc_bodies, adc_machine, AdcBody, AdcGround, AdcState, AdcTable, after_list}
use Terms.{again-ends, again_part, again_start, Agrees, all_changed, AllOf, AllRight, ap, arith, AssertedAt, Backed}
use Terms.{BanksAgree, bit_of, body_ends, body_work, Bool, Call, Called, cases, changed, Chip, chip_after, chosen_of}
use Terms.{claim_past, claim_right, claim_stays, claim_words, claims_on, Closes, CommitsAfter, CommitsTo, cond}
use Terms.{Continuation, Converter, ConverterAbort, Converters, Counts, DecidedRight, decides_abort, deed_move}
use Terms.{deeds_listed, differs_none, DiffersIn, drop_yields, ended-over, ended_at, ended_by, Entered, Entry, entry}
use Terms.{eq_is, eq_other, eq_self, Event, false, few_inputs, finished_here, first_held, FitsAdc, FrameHistory}
use Terms.{Fresh, group_at, group_of, group_same, group_word, GroupAgrees, GroupState, Has_acted, has_bit, Has_served}
use Terms.{has_served, has_turn, HasDone, HasWords, hold_in, hold_then, HoldsOrder, inl, inputs_left, inputs_of, inr}
use Terms.{InWindow, is_done, is_finished, is_handler, is_on, is_outranked, is_owed, is_round_of, is_some}
use Terms.{Is_this_frame, is_word, IsBlock, IsOrder, IsOver, IsRound, IsSoundGroup, IsSoundRequest, KeepsRight}
use Terms.{kept_by, kept_in, kept_of, kept_of_round, kept_round, kept_word, length, length_after, List, listener}
use Terms.{listener_as, Load, Looks, looks_right, low_last, lows_set, Makes, MakesTo, making_owed, min, missed_after}
use Terms.{mod-eq_of_lt, named_converter, named_number, named_of, nat_lt, nat_tests, newest, None, none_past, not}
use Terms.{now_here, number_at, number_by, number_of, off_unit, on_there, Option, order_first, order_last, order_of}
use Terms.{order_waiting, order_words, Origin, other_at, other_last, outcome, owed_of, owed_own, own_named, own_of}
use Terms.{phase_of, Place, place_ends, place_stays, Promised, promised_same, put_of, Read, refl, Request}
use Terms.{Reservations, result-over, result_of, ResultBuffer, RightOr, Round, round_at, round_other, round_same}
use Terms.{round_turn, RoundAgrees, rounds_of, running_of, running_words, same_or_other, samples_of, Set}
use Terms.{settles_list, settles_part, slice_get, Some, some_hold, sound_past, SoundGroup, stands-agree, stands_last}
use Terms.{start_from, starts_on, STATE, Stays, step, steps_so, Store, StructureOp, subst, Suspended, suspends, sym}
use Terms.{take_of, tells_nothing, TriggersAgree, trio_group, trio_of, true, turn_round, turn_same, unclaimed}
use Terms.{unit_block, unit_is, unit_last, unit_named, unit_of, unit_other, unit_set, UnitAgrees, units_set, value_of}
use Terms.{waiting, waiting_again, waiting_sound, waits_other, waits_turn, whether_as, whole_first, will_yield}
use Terms.{Window, WindowWrite, with_holds, with_waiting, within, Word, word_number, word_of, word_there, World, ℕ}
use Rattle.adc_laws.specs.turns.laws.words.EndedRound.{ended_now, kept_count, kept_front, kept_behind, kept_none}
use Rattle.adc_laws.specs.turns.laws.{words.EndedRound.{kept_less, running_as}, services.ClaimEndRight.{claims_left}}
use Rattle.adc_laws.specs.turns.laws.services.ClaimEndRight.{unclaimed_spare}
use Rattle.chip_blocks.specs.converter.Converters as chips
use Rattle.chip_blocks.specs.converter.Rounds as rounds
use Rattle.std.proofs.lemmas.Bool.{not-false}

-- what the window makes after the abort and the order, by whether the group suspends
abbrev pub deeds_of : (unit group : ℕ) → Bool → List WindowWrite
deeds_of u g true = Set (Word.Running u) 0 ∷ Set (Word.Claim u) (2 + g) ∷ []
deeds_of u g false = Set (Word.Running u) 0 ∷ []

abbrev pub then_of : (unit group kept : ℕ) → Bool → Continuation
then_of u g e true = Continuation.Goes (Counts (record { unit = u; group = g; kept = e }))
then_of u g e false = Continuation.Goes (Closes (Window.Begin u))

module _ (d : AdcTable) (fits : FitsAdc d) (below : Reservations) (chip : Chip) (w : World) (s : AdcState) (u : ℕ) (x : Round) (is : round_at s u ≡ Some x) (on : s.initialised ≡ true) (none_claims : some_hold (claims_on u) below ≡ false) (o : Origin Call) (p : FrameHistory) (h : Agrees d (with_holds o p.acted (hold_in (Window.Suspend u x.group)) below) chip w s)
    (unfinished : is_finished w (group_of d x.group) x ≡ false) (runs : rounds.is_running (chips.unit_at chip.converters u).round chip.converters.time ≡ true) where
  abbrev g : ℕ
  g = x.group

  abbrev e : ℕ
  e = length x.request.kept

  abbrev before : Reservations
  before = with_holds o p.acted (hold_in (Window.Suspend u x.group)) below

  run : (u < 2) × (is_on u (group_of d x.group) ≡ true) × ((group_at s x.group).waiting ≡ None) × (x.start ≤ w.now) × IsSoundRequest d s x.group x.request
  run = h.sound.runs u x is

  few : u < 2
  few = run.0

  at : is_on u (group_of d x.group) ≡ true
  at = run.1

  there : is_some (group_of d x.group) ≡ true
  there = on_there u (group_of d x.group) at

  lt : x.group < 16
  lt = within d x.group there

  here : unit_of (group_of d x.group) ≡ u
  here = unit_is d fits u (group_of d x.group) at

  -- ---- the machine's state after it

  abbrev request : Request
  request = record { number = x.request.number; kept = kept_of w (group_of d x.group) x }

  abbrev waits : GroupState
  waits = record (group_at s x.group) { waiting = Some request }

  abbrev pub t : AdcState
  t = aborted d w s u x

  is_group : group_at t g ≡ waits
  is_group = group_same s x.group waits lt

  is_other : (k : ℕ) → k ≢ g → group_at t k ≡ group_at s k
  is_other k ne = other_at s x.group waits (sound_past d s h.sound.groups) k ne

  free : round_at t u ≡ None
  free = round_same (with_waiting s x.group (Some request)) u None few

  rounds_as : (v : ℕ) → v ≢ u → round_at t v ≡ round_at s v
  rounds_as v ne = round_other (with_waiting s x.group (Some request)) u None (none_past d w s h.sound) v ne

  turn_was : has_turn s g ≡ true
  turn_was = round_turn s x.group u few (ap (λ q. is_round_of x.group q) is ∙ eq_self x.group)

  turn : has_turn t g ≡ true
  turn = waits_turn t x.group (ap (λ (z : GroupState). is_some z.waiting) is_group)

  kept_was : kept_in d s g ≡ x.request.kept
  kept_was = kept_round d fits w s h.sound u x is

  kept_now : kept_in d t g ≡ kept_of w (group_of d x.group) x
  kept_now = ap (λ (z : GroupState). kept_by z.waiting (kept_of_round x.group (round_at t (unit_of (group_of d x.group))))) is_group

  numbers : (k : ℕ) → has_turn s k ≡ true → is_on u (group_of d k) ≡ true → number_at d t k ≡ number_at d s k
  numbers k turned unit = cases (same_or_other k x.group)
      (λ i. subst (λ n. number_at d t n ≡ number_at d s n) (sym i) own)
      (λ ne. ap (λ (z : GroupState). number_by z.waiting (round_at t (unit_of (group_of d k)))) (is_other k ne) ∙ not_waiting ne (group_at s k).waiting refl)
    where
      own : number_at d t x.group ≡ number_at d s x.group
      own =
          ap (λ (z : GroupState). number_by z.waiting (round_at t (unit_of (group_of d x.group)))) is_group
          ∙ sym (ap (λ q. number_by q (round_at s (unit_of (group_of d x.group)))) run.2 ∙ (ap (λ v. number_by None (round_at s v)) here ∙ ap (λ q. number_by None q) is))

      not_waiting : k ≢ x.group → (q : Option Request) → (group_at s k).waiting ≡ q → number_by q (round_at t (unit_of (group_of d k))) ≡ number_by q (round_at s (unit_of (group_of d k)))
      not_waiting ne (Some q) f = refl
      not_waiting ne None f = absurd (ne (sym (eq_is x.group k (sym (ap (λ q. is_round_of k q) is) ∙ turn_round d fits w s h.sound u k turned f unit))))

  sound : IsSoundGroup d t g
  sound = subst (λ z. SoundGroup (group_of d x.group) (has_turn t x.group) z) (sym is_group) (subst (λ q. SoundGroup (group_of d x.group) q waits) (turn_was ∙ sym turn) (waiting_sound (group_of d x.group) (has_turn s x.group) (group_at s x.group) (Some request) there (h.sound.groups x.group)))

  listens_as : (i : ℕ) → listener d t i ≡ listener d s i
  listens_as = listener_as d s t (λ k. cases (same_or_other k x.group)
      (λ i. subst (λ n. (group_at t n).trigger ≡ (group_at s n).trigger) (sym i) (ap (λ (z : GroupState). z.trigger) is_group))
      (λ ne. ap (λ (z : GroupState). z.trigger) (is_other k ne)))

  -- ---- what was there before

  was : GroupAgrees d (word_of chip) s g
  was = (h.settled on).groups x.group there

  unit_was : UnitAgrees d (word_of chip) s u
  unit_was = (h.settled on).units u few

  claim_was : word_of chip (word_number d (Word.Claim u)) ≡ 0
  claim_was = eq_is (word_of chip (word_number d (Word.Claim u))) 0 (not-false (word_of chip (word_number d (Word.Claim u)) == 0) (sym (unclaimed u (word_of chip (word_number d (Word.Claim u))) below ((h.settled on).claims u few)) ∙ none_claims))

  unkept : word_of chip (word_number d (Word.Claim (unit_of (group_of d x.group)))) ≢ 2 + x.group
  unkept i = let none : 0 ≡ 2 + x.group = sym claim_was ∙ (ap (λ v. word_of chip (word_number d (Word.Claim v))) (sym here) ∙ i) in omega (arith, none)

  abbrev xs : List Entry
  xs = unit_was.order.0

  whole : HasWords chip
  whole = h.outside.all.words

  -- ---- the unit

  abbrev deed : WindowWrite
  deed = Abort u

  abbrev chip_aborted : Chip
  chip_aborted = chip_after chip (deed_move d deed) 0

  abbrev unit_a : Converter
  unit_a = chips.unit_at chip.converters u

  within_units : u < length chip.converters.units
  within_units = let all = h.block.all in let l = few in omega (arith, all, l)

  is_unit : chips.unit_at chip_aborted.converters u ≡ record unit_a { round = rounds.over chip.converters.time unit_a.round }
  is_unit = unit_set chip.converters.units u (chips.aborted chip.converters.time unit_a) within_units ∙ ap (λ q. if q then record unit_a { round = rounds.over chip.converters.time unit_a.round } else unit_a) runs

  other_units : (v : ℕ) → v ≢ u → chips.unit_at chip_aborted.converters v ≡ chips.unit_at chip.converters v
  other_units v ne = unit_other chip.converters.units u v (chips.aborted chip.converters.time unit_a) ne

  round_was : IsRound (group_of d g) chip.converters w unit_a x
  round_was = subst (λ q. RoundAgrees d chip.converters w unit_a q) is (h.rounds u few)

  time : chip.converters.time ≡ w.now
  time = now_here chip w h.outside

  not_idle : rounds.is_idle unit_a.round ≡ false
  not_idle = ap (λ q. is_some q) round_was.on

  -- as many inputs have ended as before
  ended_as : rounds.ended (chips.unit_at chip_aborted.converters u).round chip.converters.time ≡ min (length (inputs_left (group_of d g) x)) ((w.now - x.start) / 4)
  ended_as =
      ap (λ (z : Converter). rounds.ended z.round chip.converters.time) is_unit
      ∙ (ended-over unit_a.round chip.converters.time chip.converters.time not_idle (omega arith) ∙ ended_now (group_of d x.group) chip.converters w unit_a x round_was time)

  result_as : (i : ℕ) → result_of chip_aborted u i ≡ result_of chip u i
  result_as i = ap (λ z. chips.result chip.converters.levels chip.converters.time z i) is_unit ∙ result-over chip.converters.levels chip.converters.time unit_a i not_idle h.block.past

  block_all : IsBlock chip_aborted.converters w
  block_all = unit_block chip.converters w u (chips.aborted chip.converters.time unit_a) h.block (λ less. ap length (aborted_list unit_a chip.converters.time) ∙ h.block.lists u less)

  -- ---- by whether the group suspends

  module _ (c : Bool) (sus : suspends (group_of d g) ≡ c) where
    abbrev deeds : List WindowWrite
    deeds = deeds_of u g c

    abbrev after : Reservations
    after = with_holds o p.acted (hold_then (then_of u g e c)) below

    of_all : AllOf g u deeds
    of_all = elim c as (λ z. AllOf x.group u (deeds_of u x.group z)) [ true ↦ (refl, (refl, tt)) | false ↦ (refl, tt) ]

    module _ (a : Chip) (differs : DiffersIn (own_of (order_of u)) chip_aborted a) (holds : HoldsOrder (order_of u) (word_of a) (waiting g true xs)) where
      abbrev b : Chip
      b = after_list (deed_move d) a deeds

      -- they leave the group's words, the block and the lines, and the unit has no group that runs
      deeds_so : (z : Bool) → ((j v : ℕ) → lows_set (deeds_of u x.group z) j v ≡ v) × ((v : ℕ) → units_set (deeds_of u x.group z) 0 v ≡ 0) × ((after_list (deed_move d) a (deeds_of u x.group z)).converters ≡ a.converters) × ((after_list (deed_move d) a (deeds_of u x.group z)).control ≡ a.control)
      deeds_so true = (λ j v. refl, λ v. refl, refl, refl)
      deeds_so false = (λ j v. refl, λ v. refl, refl, refl)

      low : (j : ℕ) → word_of b (group_word d g j) ≡ word_of chip (group_word d g j)
      low j = low_last d fits x.group u there few chip whole deed tt a differs deeds of_all j ∙ (deeds_so c).0 j (word_of chip (group_word d x.group j))

      abbrev claim_by : Bool → ℕ
      claim_by true = 2 + x.group
      claim_by false = 0

      claim : word_of b (word_number d (Word.Claim u)) ≡ claim_by c
      claim =
          let is : STATE + 8 + 8 * u + 1 ≡ word_number d (Word.Claim u) = omega arith in
          subst (λ k. word_of b k ≡ claim_by c) is
          (unit_last d fits x.group u there few chip whole deed tt a differs deeds of_all 1 (omega arith) ∙ by c (subst (λ k. word_of chip k ≡ 0) (sym is) claim_was))
        where
          by : (z : Bool) → word_of chip (STATE + 8 + 8 * u + 1) ≡ 0 → units_set (deeds_of u x.group z) 1 (word_of chip (STATE + 8 + 8 * u + 1)) ≡ claim_by z
          by true f = refl
          by false f = f

      running : word_of b (word_number d (Word.Running u)) ≡ 0
      running =
          let is : STATE + 8 + 8 * u + 0 ≡ word_number d (Word.Running u) = omega arith in
          subst (λ k. word_of b k ≡ 0) is (unit_last d fits x.group u there few chip whole deed tt a differs deeds of_all 0 (omega arith) ∙ (deeds_so c).1 (word_of chip (STATE + 8 + 8 * u + 0)))

      block : b.converters ≡ chip_aborted.converters
      block = (deeds_so c).2 ∙ ap (λ (z : Chip). z.converters) differs.rest

      control : b.control ≡ chip.control
      control = (deeds_so c).3 ∙ ap (λ (z : Chip). z.control) differs.rest

      -- no other group's values are kept
      claim_other : (k : ℕ) → k ≢ g → word_of b (word_number d (Word.Claim u)) ≢ 2 + k
      claim_other k ne i = by c (sym claim ∙ i)
        where
          by : (z : Bool) → claim_by z ≡ 2 + k → ⊥
          by true f = ne (omega (arith, f))
          by false f = omega (arith, f)

      kept_stays : (j : ℕ) → word_of b (kept_word (rounds_of d g) j) ≡ word_of chip (kept_word (rounds_of d g) j)
      kept_stays j =
          let is : group_word d x.group (32 + 3 * length (inputs_of (group_of d x.group)) + j) ≡ kept_word (rounds_of d x.group) j = omega arith in
          other_last d fits x.group u there few chip whole deed tt a differs deeds of_all (kept_word (rounds_of d x.group) j) (λ i less f. omega (arith, is, f, less)) (λ i less f. let start = (start_from d fits x.group there).0 in let l = few in omega (arith, is, f, less, start, l))

      -- what its window holds then is no bank and no place
      abbrev after_by : Bool → Reservations
      after_by z = with_holds o p.acted (hold_then (then_of u x.group (length x.request.kept) z)) below

      held_as : (z : Bool) → ((k : ℕ) → first_held (put_of d k) (after_by z) ≡ first_held (put_of d k) before) × ((k : ℕ) → first_held (take_of k) (after_by z) ≡ first_held (take_of k) before) × ((k : ℕ) (n : ResultBuffer) (j : ℕ) → some_hold (is_owed k n j) (after_by z) ≡ some_hold (is_owed k n j) before)
      held_as true = (λ k. refl, λ k. refl, λ k n j. refl)
      held_as false = (λ k. refl, λ k. refl, λ k n j. refl)

      stays : Stays d before after chip b s t g u
      stays = record {
        on = on;
        still = on;
        requests = omega arith;
        others = is_other;
        rounds = rounds_as;
        from = λ y i ne. absurd (let none : None ≡ Some y = sym free ∙ i in cc);
        to = λ y i ne. absurd (ne (let same : Some x ≡ Some y = sym is ∙ i in let q : x ≡ y = cc in ap (λ (z : Round). z.group) (sym q)));
        results = λ k ne i j. refl;
        elsewhere = other_last d fits x.group u there few chip whole deed tt a differs deeds of_all;
        claim_from = λ k ne i. absurd (claim_other k ne i);
        claim_to = λ k ne i. absurd (let none : 0 ≡ 2 + k = sym claim_was ∙ i in omega (arith, none));
        unit = λ k ne i. absurd (claim_other k ne i);
        units = λ v less ne. ap (λ z. chips.unit_at z v) block ∙ other_units v ne;
        levels = ap (λ (z : Converters). z.levels) block;
        time = ap (λ (z : Converters). z.time) block;
        enabled = λ l i. ap (λ z. has_bit z.enabled l) control;
        puts = λ k ne. (held_as c).0 k;
        takes = λ k ne. (held_as c).1 k;
      }

      -- frames below claim nothing of the unit
      right : AllRight d b w t below
      right = all_changed d fits before after chip b w s t h x.group u at stays below (unclaimed_spare d chip b s t x.group u (low 7) (λ m p. refl) below none_claims) h.right.1.1

      right_in : (z : Bool) → suspends (group_of d x.group) ≡ z → AllRight d b w t (after_by z)
      right_in false i = (on, right)
      right_in true i = ((on, at, free, λ f. keeps, λ ne. absurd (ne (claim ∙ ap (λ v. claim_by v) (sym sus ∙ i)))), (on, right))
        where
          count : length (kept_in d t x.group) ≡ length x.request.kept + min (length (inputs_left (group_of d x.group) x)) ((w.now - x.start) / 4)
          count = ap length kept_now ∙ kept_count w (group_of d x.group) x i

          keeps : KeepsRight d b t u x.group (length x.request.kept) None 0 None
          keeps = record {
            waits = ap (λ (z : GroupState). is_some z.waiting) is_group;
            count = count ∙ ap (λ n. length x.request.kept + n) (sym (ap (λ (z : Converters). rounds.ended (chips.unit_at z u).round z.time) block ∙ ended_as));
            told = λ k f. absurd (cc);
            word = low 6 ∙ (was.kept turn_was unkept ∙ ap length kept_was);
            kept = λ j v less f.
                let front : j < length x.request.kept = omega (arith, less) in
                kept_stays j ∙ was.values turn_was unkept j v (ap (λ vs. slice_get vs j) kept_was ∙ kept_front w (group_of d x.group) x i j v front (ap (λ vs. slice_get vs j) (sym kept_now) ∙ f));
            results = λ j v f.
                let k = kept_behind w (group_of d x.group) x i j v (ap (λ vs. slice_get vs (length x.request.kept + j)) (sym kept_now) ∙ f) in
                ap (λ (z : Converters). chips.result z.levels z.time (chips.unit_at z u) j) block ∙ (result_as j ∙ (round_was.values j k.0 k.1 k.2 ∙ sym k.3));
            next = λ v f. absurd (cc);
          }

      order : IsOrder d t u (waiting g true xs)
      order = order_waiting d s t x.group u at (λ k ne. turn_same d fits before after chip b w s t h x.group u at stays k ne) (λ k ne. ap (λ (z : GroupState). is_some z.waiting) (is_other k ne)) xs unit_was.order.2 numbers (turn ∙ sym turn_was) true (ap (λ (z : GroupState). is_some z.waiting) is_group)

      claims_in : (z : Bool) → claim_by z ≡ claim_by z → (v : ℕ) → v < 2 → (v ≡ u) ⊎ (v ≢ u) → word_of b (word_number d (Word.Claim u)) ≡ claim_by z → claim_right (after_by z) v (word_of b (word_number d (Word.Claim v))) ≡ true
      claims_in false same v less q f = claims_left d u below chip b none_claims f (claim_stays d fits before after chip b w s t h x.group u at stays) (λ v less ne. (h.settled on).claims v less) v less
      claims_in true same v less (inl i) f =
          subst (λ n. claim_right (after_by true) n (word_of b (word_number d (Word.Claim n))) ≡ true) (sym i)
          (subst (λ n. claim_right (after_by true) u n ≡ true) (sym f)
          (ap (λ q. if q then ((2 + x.group == 2 + x.group) || (2 + x.group == 1)) && not (some_hold (claims_on u) below) else claim_right below u (2 + x.group)) (eq_self u)
          ∙ (ap (λ q. (q || (2 + x.group == 1)) && not (some_hold (claims_on u) below)) (eq_self (2 + x.group)) ∙ ap (λ q. not q) none_claims)))
      claims_in true same v less (inr ne) f =
          claim_past v u _ _ ne
          ∙ subst (λ n. claim_right below v n ≡ true) (sym (claim_stays d fits before after chip b w s t h x.group u at stays v less ne)) ((h.settled on).claims v less)

      promised : (z : Bool) (v : ℕ) → (v ≡ u) ⊎ (v ≢ u) → Promised d (after_by z) w t v
      promised z v (inl i) = subst (λ n. Promised d (after_by z) w t n) (sym i) (record {
        starts = λ f.
            elim z as (λ q. some_hold (starts_on u) (after_by q) ≡ true)
            [ true ↦ ap (λ q. q || some_hold (starts_on u) below) (eq_self u) | false ↦ ap (λ q. q || some_hold (starts_on u) below) (eq_self u) ];
        yields = λ f. absurd (let none : is_some (aborts d w t u) ≡ false = ap (λ q. is_some (aborts_by d w t u q)) free in cc);
      })
      promised z v (inr ne) = promised_same d w s t v (rounds_as v ne) (waits_other d s t x.group v (off_unit d fits x.group u v at ne) (λ k nk. ap (λ (z : GroupState). is_some z.waiting) (is_other k nk))) before (after_by z) (whether_as z (λ z. some_hold (starts_on v) before ≡ true → some_hold (starts_on v) (after_by z) ≡ true) (λ _ f. f) (λ _ f. f)) (yields_more z) ((h.settled on).promised v)
        where
          yields_more : (z : Bool) → will_yield v before ≡ true → will_yield v (after_by z) ≡ true
          yields_more true f = sym (ap (λ q. q || (not ((v == u) && is_handler v o) && will_yield v below)) (eq_other v u ne)) ∙ f
          yields_more false f = sym (ap (λ q. q || (not ((v == u) && is_handler v o) && will_yield v below)) (eq_other v u ne)) ∙ f

      banks : BanksAgree d after (word_of b) t g
      banks = let k = h.banks x.group there in record {
        banks = k.banks;
        stands = stands-agree (trio_of (rounds_of d x.group)) (word_of chip) (word_of b) k.banks (trio_group d fits before after chip b w s t h x.group u at stays (low 7)) k.stands;
        newest = λ ne more. k.newest (λ i. ne (ap (λ (z : GroupState). z.status) is_group ∙ i)) (subst (λ (z : GroupState). 0 < length z.rounds) is_group more) ∙ ap (λ (z : GroupState). newest z.rounds) (sym is_group);
        put = k.put ∙ sym ((held_as c).0 g);
        take = k.take ∙ sym ((held_as c).1 g);
      }

      group : GroupAgrees d (word_of b) t g
      group = record {
        phase = low 0 ∙ (was.phase ∙ (ap (λ q. phase_of (group_at s x.group).status (q || (group_at s x.group).trigger)) (turn_was ∙ sym turn) ∙ sym (ap (λ (z : GroupState). phase_of z.status (has_turn t x.group || z.trigger)) is_group)));
        chosen = low 1 ∙ (was.chosen ∙ sym (ap (λ (z : GroupState). chosen_of z.chosen) is_group));
        notified = low 2 ∙ (was.notified ∙ sym (ap (λ (z : GroupState). bit_of z.notification) is_group));
        turn = low 3 ∙ (was.turn ∙ ap (λ q. bit_of q) (turn_was ∙ sym turn));
        count = λ ne. low 4 ∙ (was.count (λ i. ne (ap (λ (z : GroupState). z.status) is_group ∙ i)) ∙ sym (ap (λ (z : GroupState). min (length z.rounds) (samples_of (group_of d x.group))) is_group));
        place = λ ne. low 5 ∙ (was.place (λ i. ne (ap (λ (z : GroupState). z.status) is_group ∙ i)) ∙ sym (ap (λ (z : GroupState). length z.rounds % samples_of (group_of d x.group)) is_group));
        kept = λ turned ne. by_kept c sus claim ne;
        values = λ turned ne i v f. by_values c sus claim ne i v f;
      }
        where
          -- a group that suspends is claimed, and any other one keeps nothing
          not_claimed : word_of b (word_number d (Word.Claim (unit_of (group_of d x.group)))) ≢ 2 + x.group → word_of b (word_number d (Word.Claim u)) ≡ 2 + x.group → ⊥
          not_claimed ne i = ne (ap (λ v. word_of b (word_number d (Word.Claim v))) here ∙ i)

          by_kept : (z : Bool) → suspends (group_of d x.group) ≡ z → word_of b (word_number d (Word.Claim u)) ≡ claim_by z → word_of b (word_number d (Word.Claim (unit_of (group_of d x.group)))) ≢ 2 + x.group → word_of b (group_word d x.group 6) ≡ length (kept_in d t x.group)
          by_kept true i f ne = absurd (not_claimed ne f)
          by_kept false i f ne = low 6 ∙ (was.kept turn_was unkept ∙ (ap length (kept_was ∙ run.4.3 i) ∙ sym (ap length (kept_now ∙ kept_none w (group_of d x.group) x i))))

          by_values : (z : Bool) → suspends (group_of d x.group) ≡ z → word_of b (word_number d (Word.Claim u)) ≡ claim_by z → word_of b (word_number d (Word.Claim (unit_of (group_of d x.group)))) ≢ 2 + x.group → (i v : ℕ) → slice_get (kept_in d t x.group) i ≡ Some v → word_of b (kept_word (rounds_of d x.group) i) ≡ v
          by_values true i f ne j v k = absurd (not_claimed ne f)
          by_values false i f ne j v k = absurd (let none : slice_get [] j ≡ Some v = sym (ap (λ vs. slice_get vs j) (kept_now ∙ kept_none w (group_of d x.group) x i)) ∙ k in cc)

      fresh : Fresh d after b w t g u
      fresh = record {
        sound = sound;
        waits = λ q i. subst (λ (z : Request). IsSoundRequest d t x.group z) (asked q i) (run.4.0, run.4.1, kept_less w (group_of d x.group) x run.4.2 unfinished, λ f. kept_none w (group_of d x.group) x f);
        runs = λ y i same. absurd (let none : None ≡ Some y = sym free ∙ i in cc);
        marks = λ i f. ap (λ q. is_some q) (listens_as i) ∙ h.sound.marks i f;
        hears = λ turned i. ap (λ (z : GroupState). z.trigger) is_group ∙ h.sound.hears x.group turn_was i;
        outside = stands_last d fits x.group u there few chip whole deed tt a differs deeds of_all w h.outside;
        block = subst (λ z. IsBlock z w) (sym block) block_all;
        round = subst (λ q. RoundAgrees d b.converters w (chips.unit_at b.converters u) q) (sym free) (subst (λ (z : Converters). IsOver (chips.unit_at z u).round z.time) (sym block) (chip.converters.time, ap (λ (z : Converter). z.round.closed) is_unit, omega arith));
        triggers = subst (λ z. TriggersAgree d z t) (sym block) (record { gates = λ i less. h.triggers.gates i less ∙ ap (λ q. is_some q) (sym (listens_as i)); flags = h.triggers.flags; others = h.triggers.others });
        right = right_in c sus;
        banks = banks;
        places = λ k n j less left. place_stays d fits before after chip b w s t h x.group u at stays k n j ∙ h.places k n j less (sym ((held_as c).2 k n j) ∙ left);
        backed = backed c;
        group = group;
        unit = record { running = running ∙ sym (ap (λ q. running_of q) free); order = (waiting x.group true xs, order_last d fits x.group u there few chip whole deed tt a differs deeds of_all (waiting x.group true xs) holds, order) };
        claims = λ v less. claims_in c refl v less (same_or_other v u) claim;
        promised = λ v. promised c v (same_or_other v u);
      }
        where
          asked : (q : Request) → (group_at t x.group).waiting ≡ Some q → request ≡ q
          asked q i = let j : Some request ≡ Some q = sym (ap (λ (z : GroupState). z.waiting) is_group) ∙ i in let k : request ≡ q = cc in k

          backed : (z : Bool) → Backed (after_by z)
          backed true = (λ v i. ap (λ q. q || some_hold (starts_on v) below) i, (λ v i. absurd (cc), h.backed.1.1))
          backed false = (λ v i. absurd (cc), h.backed.1.1)

      represents : Agrees d after b w t
      represents = changed d fits before after chip b w s t h x.group u at stays fresh

    -- ---- the moves that are owed

    own_there : (k : ℕ) → own_of (order_of u) k ≡ true → is_word d k ≡ true
    own_there k i = order_words d u k few i

    may_set : (k v : ℕ) → is_word d k ≡ true → owed_own d (Store k v) ≡ true
    may_set k v own = own_named d fits (λ j. is_word d j) (λ j i. i) (Store k v) own

    entry_is : entry g ≡ g
    entry_is = mod-eq_of_lt lt

    comes : (z : Bool) (a : Chip) → Agrees d after (after_list (deed_move d) a (deeds_of u x.group z)) w t → CommitsAfter (making_owed d) (owed_of d None None (deeds_of u x.group z) (then_of u x.group (length x.request.kept) z)) a (λ q. Agrees d after q w t)
    comes true a k = settles_list (making_owed d) (deed_move d) (λ ds. owed_of d None None ds (then_of u x.group (length x.request.kept) true)) (deeds_listed d fits (then_of u x.group (length x.request.kept) true)) (λ q. Agrees d after q w t) (deeds_of u x.group true) a ((may_set (word_number d (Word.Running u)) 0 (running_words d u few), tt), ((may_set (word_number d (Word.Claim u)) (2 + x.group) (claim_words d u few), tt), tt)) k
    comes false a k = settles_list (making_owed d) (deed_move d) (λ ds. owed_of d None None ds (then_of u x.group (length x.request.kept) false)) (deeds_listed d fits (then_of u x.group (length x.request.kept) false)) (λ q. Agrees d after q w t) (deeds_of u x.group false) a ((may_set (word_number d (Word.Running u)) 0 (running_words d u few), tt), tt) k

    pub abort_settles : (n : ℕ) × CommitsTo (making_owed d) n (record { table = d; order = Some (StructureOp.Again (again_start (order_of u) (entry g))); banks = None; deeds = deeds_of u g c; after = then_of u g e c }) chip_aborted (λ q. Agrees d (with_holds o p.acted (hold_then (then_of u g e c)) below) q w t)
    abort_settles =
        settles_part waiting_again (own_of (order_of u)) (making_owed d) (λ q. record { table = d; order = Some (StructureOp.Again q); banks = None; deeds = deeds; after = then_of u x.group (length x.request.kept) c }) (λ ws. owed_of d None None deeds (then_of u x.group (length x.request.kept) c))
        (again_part d fits (own_of (order_of u)) own_there None deeds (then_of u x.group (length x.request.kept) c)) (λ k i. word_there d fits k (own_there k i)) (λ k ws. HoldsOrder (order_of u) k (waiting (entry x.group) true xs) × (ws ≡ [])) (λ q. Agrees d after q w t)
        2 (again_start (order_of u) (entry x.group)) chip_aborted (whole_first d fits x.group u there few chip whole deed tt chip_aborted (differs_none (own_of (order_of u)) chip_aborted first_whole) [] tt)
        (again-ends (order_of u) (entry x.group) (word_of chip_aborted) xs (subst (λ n. n < 16) (sym entry_is) lt) (order_first d fits x.group u there few chip whole deed tt chip_aborted (differs_none (own_of (order_of u)) chip_aborted first_whole) [] tt xs unit_was.order.1))
        (λ a ws differs dd. comes c a (represents a differs (subst (λ n. HoldsOrder (order_of u) (word_of a) (waiting n true xs)) entry_is dd.0)))
      where
        first_whole : HasWords chip_aborted
        first_whole = length_after chip (deed_move d deed) 0 ∙ whole

-- ---- The windows in which a unit's round yields: how many values it has kept before is looked up, and then it is aborted, unless it is
-- finished.

-- a number below a limit is left
limited_same : (v m : ℕ) → v < m → (if nat_lt v m then v else m) ≡ v
limited_same v m lt = let on : nat_lt v m ≡ true = grind (arith, nat_tests) in ap (λ q. if q then v else m) on

module _ (d : AdcTable) (fits : FitsAdc d) (f r : AdcBody → ℕ) (below : Reservations) (chip : Chip) (w : World) (s : AdcState) (m : ℕ → Bool) (y : ℕ) where
  -- ---- the values that were kept before are counted

  module _ (u g : ℕ) (o : Origin Call) (p : FrameHistory) (in_window : InWindow d (Window.Suspend u g) below w s o p) (h : Agrees d (with_holds o p.acted (hold_in (Window.Suspend u g)) below) chip w s) where
    unit_few : u < 2
    unit_few = in_window.1

    on : s.initialised ≡ true
    on = in_window.2

    has_round : is_round_of g (round_at s u) ≡ true
    has_round = ap (λ q. is_round_of g q) in_window.4.is ∙ (ap (λ n. n == g) in_window.4.group ∙ eq_self g)

    on_unit : is_on u (group_of d g) ≡ true
    on_unit = subst (λ n. is_on u (group_of d n) ≡ true) in_window.4.group (h.sound.runs u in_window.4.round in_window.4.is).1

    claim_none : word_of chip (word_number d (Word.Claim u)) ≡ 0
    claim_none = eq_is (word_of chip (word_number d (Word.Claim u))) 0 (not-false (word_of chip (word_number d (Word.Claim u)) == 0) (sym (unclaimed u (word_of chip (word_number d (Word.Claim u))) below ((h.settled on).claims u unit_few)) ∙ in_window.3))

    kept_word_is : word_of chip (word_number d (Word.Kept g)) ≡ length (kept_in d s g)
    kept_word_is = ((h.settled on).groups g (on_there u (group_of d g) on_unit)).kept (round_turn s g u unit_few has_round) (λ i. let none : 0 ≡ 2 + g = sym claim_none ∙ (ap (λ v. word_of chip (word_number d (Word.Claim v))) (sym (unit_is d fits u (group_of d g) on_unit)) ∙ i) in omega (arith, none))

    kept_few : length (kept_in d s g) < 32
    kept_few =
        let run = h.sound.runs u in_window.4.round in_window.4.is in
        let less : length (kept_in d s g) < length (inputs_of (group_of d g)) = subst (λ n. length (kept_in d s n) < length (inputs_of (group_of d n))) in_window.4.group (subst (λ vs. length vs < length (inputs_of (group_of d in_window.4.round.group))) (sym (kept_round d fits w s h.sound u in_window.4.round in_window.4.is)) run.4.2) in
        let most = few_inputs d fits g (on_there u (group_of d g) on_unit) in
        omega (arith, less, most)

    pub suspend_right : (K : Place) (k v : ℕ) → DecidedRight d f r below chip w s o (Load k) false v y p (missed_after (adc_machine d) w s m) K (decides_abort u g (word_of chip (word_number d (Word.Kept g))))
    suspend_right K k v = ((h, (refl, (in_window, sym (ap (λ n. if nat_lt n 32 then n else 32) kept_word_is ∙ limited_same (length (kept_in d s g)) 32 kept_few)))), refl)

  pub suspend_looks : (u g : ℕ) (o : Origin Call) (p : FrameHistory) (seen : List ℕ) → InWindow d (Window.Suspend u g) below w s o p → AssertedAt (AdcGround d) (adc_bodies d f r) below chip w s (record { table = d; place = Looks (Window.Suspend u g) seen }) o p
      → RightOr (AdcGround d) (adc_bodies d f r) below chip w s (record { table = d; place = Looks (Window.Suspend u g) seen }) o y p m (ended_at (adc_bodies d f r) body_ends (record { table = d; place = Looks (Window.Suspend u g) seen }) (value_of chip (body_work (record { table = d; place = Looks (Window.Suspend u g) seen }))))
  suspend_looks u g o p seen in_window stand = looks_right d f r below chip w s (Window.Suspend u g) o y p m (omega arith) seen stand (λ k v. suspend_right u g o p in_window stand.0 (Looks (Window.Suspend u g) (word_of chip (word_number d (Word.Kept g)) ∷ [])) k v)

  -- ---- the round is aborted, or finished

  abbrev body : Suspended → AdcBody
  body q = record { table = d; place = Aborts q }

  abbrev StepRight : Suspended → Origin Call → FrameHistory → Type 0
  StepRight q o p = RightOr (AdcGround d) (adc_bodies d f r) below chip w s (body q) o y p m (ended_at (adc_bodies d f r) body_ends (body q) (value_of chip (body_work (body q))))

  module _ (u : ℕ) (x : Round) (is : round_at s u ≡ Some x) (on : s.initialised ≡ true) (none_claims : some_hold (claims_on u) below ≡ false) (out : is_outranked d s u x.group ≡ true) where
    abbrev q : Suspended
    q = record { unit = u; group = x.group; kept = length x.request.kept }

    abbrev runs : Bool
    runs = rounds.is_running (chips.unit_at chip.converters u).round chip.converters.time

    -- what may be aborted
    aborts_it : is_finished w (group_of d x.group) x ≡ false → aborts d w s u ≡ Some x
    aborts_it unfinished = ap (λ z. aborts_by d w s u z) is ∙ (ap (λ z. cond (not z && is_outranked d s u x.group) (Some x) None) unfinished ∙ ap (λ z. cond z (Some x) None) out)

    aborts_so : u < 2 → is_finished w (group_of d x.group) x ≡ false → aborts_on d w s (number_of (unit_named u)) ≡ Some (outcome (aborted d w s u x) tells_nothing)
    aborts_so few unfinished = ap (λ z. aborts_on d w s z) (named_of u few) ∙ ap (λ z. aborting d w s u z) (aborts_it unfinished)

    none_left : is_finished w (group_of d x.group) x ≡ true → is_some (aborts d w s u) ≡ false
    none_left over = ap (λ z. is_some (aborts_by d w s u z)) is ∙ ap (λ z. is_some (cond (not z && is_outranked d s u x.group) (Some x) None)) over

    abbrev Left : Origin Call → FrameHistory → Bool → Type 0
    Left o p z = MakesTo (AdcGround d) (adc_bodies d f r) below chip (chip_after chip (Read (ConverterAbort u)) y) w s o (Read (ConverterAbort u)) false (bit_of z) y p (missed_after (adc_machine d) w s m) (record { table = d; place = (aborted_in d q (bit_of z)).1 }, step (aborted_in d q (bit_of z)).0)

    -- it runs
    module _ (few : u < 2) (at : is_on u (group_of d x.group) ≡ true) (unfinished : is_finished w (group_of d x.group) x ≡ false) (run : runs ≡ true) where
      kept_least : (k n : ℕ) → k < n → k ≤ n
      kept_least k n lt = omega (arith, lt)

      -- its window owes the moves after it
      stands : (c : Bool) → suspends (group_of d x.group) ≡ c → (o : Origin Call) (p : FrameHistory) → HasDone u below o p → Agrees d (with_holds o p.acted (hold_in (Window.Suspend u x.group)) below) chip w s
          → AssertedAt (AdcGround d) (adc_bodies d f r) below (chip_after chip (Read (ConverterAbort u)) y) w (aborted d w s u x) (record { table = d; place = Makes (aborted_by q c) }) o p
      stands true sus o p has h = (abort_settles d fits below chip w s u x is on none_claims o p h unfinished run true sus, (refl, (has, few, at, kept_least (length x.request.kept) (length (inputs_of (group_of d x.group))) (h.sound.runs u x is).4.2)))
      stands false sus o p has h = (abort_settles d fits below chip w s u x is on none_claims o p h unfinished run false sus, (refl, (has, few)))

      aborted_so : (c : Bool) → suspends (group_of d x.group) ≡ c → (o : Origin Call) (p : FrameHistory) → HasDone u below o p → Agrees d (with_holds o p.acted (hold_in (Window.Suspend u x.group)) below) chip w s
          → MakesTo (AdcGround d) (adc_bodies d f r) below chip (chip_after chip (Read (ConverterAbort u)) y) w s o (Read (ConverterAbort u)) false 1 y p (missed_after (adc_machine d) w s m) (record { table = d; place = Makes (aborted_by q c) }, step (Some (Event.Abort (unit_named u))))
      aborted_so c sus _ _ (Has_acted a Is_this_frame) h = record {
        may = refl;
        stands = (named_converter u few, named_number u few, refl);
        state = aborted d w s u x;
        told = tells_nothing;
        begins = None;
        is = aborts_so few unfinished;
        sends = tt;
        acts = tt;
        reset = refl;
        next = stands c sus (Called a) acted (Has_acted a Is_this_frame) h;
      }
      aborted_so c sus _ _ (Has_served l own Is_this_frame) h = record {
        may = refl;
        stands = (named_converter u few, named_number u few, refl);
        state = aborted d w s u x;
        told = tells_nothing;
        begins = None;
        is = aborts_so few unfinished;
        sends = tt;
        acts = tt;
        reset = refl;
        next = stands c sus (Entered l) (has_served l) (Has_served l own Is_this_frame) h;
      }

    pub round_right : (o : Origin Call) (p : FrameHistory) → HasDone u below o p → Agrees d (with_holds o p.acted (hold_in (Window.Suspend u x.group)) below) chip w s → StepRight q o p
    round_right o p has h = step_by_runs runs refl
      where
        run_was : (u < 2) × (is_on u (group_of d x.group) ≡ true)
        run_was = let k = h.sound.runs u x is in (k.0, k.1)

        runs_as : runs ≡ not (is_finished w (group_of d x.group) x)
        runs_as =
            let round = subst (λ z. RoundAgrees d chip.converters w (chips.unit_at chip.converters u) z) is (h.rounds u run_was.0) in
            running_as (chips.unit_at chip.converters u).round chip.converters.time round.on ∙ ap (λ z. not z) (finished_here d fits (with_holds o p.acted (hold_in (Window.Suspend u x.group)) below) chip w s h u run_was.0 ∙ ap (λ z. is_done d w z) is)

        negated : (a b : Bool) → a ≡ not b → b ≡ not a
        negated true false e = refl
        negated false true e = refl
        negated _ _ e = absurd (cc)

        finished : (z : Bool) → runs ≡ z → is_finished w (group_of d x.group) x ≡ not z
        finished z e = negated z (is_finished w (group_of d x.group) x) (sym e ∙ runs_as)

        same : runs ≡ false → chip_after chip (Read (ConverterAbort u)) y ≡ chip
        same e = ap (λ z. let c : Chip = record chip { converters = z } in c) (abort-not_running chip.converters u e)

        left : (z : Bool) → runs ≡ z → Left o p z
        left true e = aborted_so run_was.0 run_was.1 (finished true e) e (suspends (group_of d x.group)) refl o p has h
        left false e = (
          subst (λ c. Agrees d (with_holds o p.acted (hold_in (Window.Begin u)) below) c w s) (sym (same e)) (drop_yields d chip w s o p.acted u (with_holds o p.acted (hold_in (Window.Begin u)) below) h (λ i. absurd (let off = none_left (finished false e) in cc))),
          (refl, (has, run_was.0)),
        )

        over : (z : Bool) → place_ends (aborted_in d q (bit_of z)).1 ≡ None
        over true = refl
        over false = refl

        step_by_runs : (z : Bool) → runs ≡ z → StepRight q o p
        step_by_runs z e =
            steps_so d f r below chip w s m y o p (body q) (record { table = d; place = (aborted_in d q (bit_of z)).1 }) (step (aborted_in d q (bit_of z)).0)
            (ap (λ b. (record { table = d; place = (aborted_in d q (bit_of b)).1 }, step (aborted_in d q (bit_of b)).0)) e) (ap (λ a. ended_by a None) (over z))
            (subst (λ b. MakesTo (AdcGround d) (adc_bodies d f r) below chip (chip_after chip (Read (ConverterAbort u)) y) w s o (Read (ConverterAbort u)) false (bit_of b) y p (missed_after (adc_machine d) w s m) (record { table = d; place = (aborted_in d q (bit_of z)).1 }, step (aborted_in d q (bit_of z)).0)) (sym e) (left z e))

  -- the step at which a unit's round is aborted
  pub abort_right : (q : Suspended) (o : Origin Call) (p : FrameHistory) → InWindow d (Window.Suspend q.unit q.group) below w s o p → length (kept_in d s q.group) ≡ q.kept → Agrees d (with_holds o p.acted (hold_in (Window.Suspend q.unit q.group)) below) chip w s → StepRight q o p
  abort_right q o p in_window kept h =
      let x : Round = in_window.4.round in
      let is : round_at s q.unit ≡ Some x = in_window.4.is in
      let same : x.group ≡ q.group = in_window.4.group in
      let held : Agrees d (with_holds o p.acted (hold_in (Window.Suspend q.unit x.group)) below) chip w s = h in
      let count : length x.request.kept ≡ q.kept = ap length (sym (kept_round d fits w s h.sound q.unit x is)) ∙ (ap (λ n. length (kept_in d s n)) same ∙ kept) in
      subst (λ n. StepRight (record { unit = q.unit; group = n; kept = q.kept }) o p) same (subst (λ n. StepRight (record { unit = q.unit; group = x.group; kept = n }) o p) count
      (round_right q.unit x is in_window.2 in_window.3 (subst (λ n. is_outranked d s q.unit n ≡ true) (sym same) in_window.5) o p in_window.0 held))
