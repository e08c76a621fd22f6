-- A call stops a group: the step at which it acts, and all that its window makes after that; before it, a window's first move.
-- From services.StopWords, services.RequestRight, words.StructureParts, bookkeeping.FrameRule and 15 more.
-- Used by services.SingleWordSteps, adc_laws: serving.services.ServeRight, services.CallSteps and 4 more.
use Rattle.std.proofs.Common.{◌≡◌, ◌≢◌, ◌+◌, ◌*◌, ◌/◌, ◌%◌, ◌<◌, ◌&&◌, ◌||◌, ◌==◌, [], ◌∷◌, ◌++◌, ◌∙◌, if◌then◌else◌}
use Rattle.adc_groups.specs.Terms
use Terms.{acts_by, adc_bodies, adc_machine, AdcBody, AdcGround, AdcState, AdcTable, Adding, after_list, after_making}
use Terms.{Agrees, AllRight, and_false, ap, arith, asks_no, BanksAgree, bit_of, body_ends, body_takes, body_work}
use Terms.{BodyTaken, Bool, Call, Called, cases, Chip, chip_after, chosen_of, circumstances, claim_lost, claim_right}
use Terms.{CommitsAfter, CommitsTo, cond, Continuation, Converter, Converters, deed_move, DiffersIn}
use Terms.{DisableHardwareTrigger, drop-ends, drop_start, dropping, ended_at, ended_by, Entry, entry, eq_is, eq_other}
use Terms.{eq_self, error_by, Event, false, first_error, FitsAdc, FrameHistory, fresh_history, goes_right, group_at}
use Terms.{group_of, group_word, GroupAgrees, GroupCall, GroupState, Has_acted, has_bit, has_turn, HasWords, held_in}
use Terms.{HoldsOrder, Idle, inl, inr, is_idle, is_on, Is_open, is_round_of, is_some, is_there, Is_this_frame, IsBlock}
use Terms.{IsOrder, IsSoundGroup, IsStop, Leaves_acted, left_of, length, length_after, List, Looking, Makes, MakesTo}
use Terms.{making, making_owed, making_takes, mark_at, MayCall, missed_after, mod-eq_of_lt, nat_le, nat_lt, nat_tests}
use Terms.{no_answer, None, not, nothing_more, number_at, number_by, off, off_where, Option, option_as, order_of}
use Terms.{order_own, Origin, outcome, Outside, owed_of, phase_of, PointAssertion, Promised, quieted, refl, Request}
use Terms.{Reservation, Reservations, RightOr, Round, round_at, RoundAgrees, rounds_of, running_of, same_or_other}
use Terms.{Service, Set, settles_list, settles_part, SharedRefinement, Some, SoundGroup, stands-agree, starts_on, STATE}
use Terms.{step, stop_by, StopGroupConversion, stopped, StructureOp, subst, suc, sym, taken_away, tells_nothing}
use Terms.{trigger_bit, trigger_input, TriggersAgree, trio_of, true, unit_at, unit_of, UnitAgrees, unless_of, value_of}
use Terms.{waits_for, whether_as, Window, WindowWrite, Within, without_mark, Word, word_number, word_of, World}
use Terms.{WriteBatch, ℕ}
use Rattle.adc_groups.specs.{declared.outside.Outside.TheVariants.{Closes}, laws.bookkeeping.FrameRule.{all_changed}}
use Rattle.adc_groups.specs.laws.bookkeeping.FrameRule.{all_spare, changed, claim_stays, Fresh, no_keeper}
use Rattle.adc_groups.specs.laws.bookkeeping.FrameRule.{place_stays, round_kept, Spares, Stays, trio_group, turn_same}
use Rattle.adc_groups.specs.laws.bookkeeping.PendingWritesRight.{aborts_fewer, promised_same, waits_other}
use Rattle.adc_groups.specs.laws.bookkeeping.RefinementRight.{kept_none, none_past, none_runs, none_waits}
use Rattle.adc_groups.specs.laws.bookkeeping.RefinementRight.{off_unit as off_group, turn_round, unit_of_round}
use Rattle.adc_groups.specs.{laws.hardware.AfterReset.{idle_group}, laws.services.EnableTriggerRight.{marks_off}}
use Rattle.adc_groups.specs.{laws.services.EnableTriggerRight.{triggers_off}, laws.services.RequestRight.{asking}}
use Rattle.adc_groups.specs.laws.services.RequestRight.{asking_more, asking_starts, gone_round, left_backed}
use Rattle.adc_groups.specs.laws.services.RequestRight.{left_claims, left_in, left_owed, left_puts, left_right}
use Rattle.adc_groups.specs.laws.services.RequestRight.{left_takes, none_of_three, on_own, still_yields, unless_some}
use Rattle.adc_groups.specs.laws.services.SingleWordCalls.{group_errors, not_idle, not_reset}
use Rattle.adc_groups.specs.laws.services.StopWords.{away_bits, away_block, away_over, block_stays, claim_loses}
use Rattle.adc_groups.specs.laws.services.StopWords.{ends_all, ends_block, ends_claim, ends_control, ends_low}
use Rattle.adc_groups.specs.laws.services.StopWords.{ends_of, ends_running, halted, halted_group, halted_other}
use Rattle.adc_groups.specs.laws.services.StopWords.{halted_rest, halted_round, kept_free, may_ends, off_block}
use Rattle.adc_groups.specs.laws.services.StopWords.{off_time, off_unit, turn_kept, turn_set}
use Rattle.adc_groups.specs.{laws.words.OrderWords.{order_kept, order_without}, laws.words.StoreOneWord.{sound_past}}
use Rattle.adc_groups.specs.laws.words.StructureParts.{AllOf, deeds_listed, differs_none, drop_part, low_last}
use Rattle.adc_groups.specs.laws.words.StructureParts.{order_first, order_last, other_last, set_at, stands_last}
use Rattle.adc_groups.specs.laws.words.StructureParts.{unit_last, whole_first, word_there}
use Rattle.adc_groups.specs.laws.words.WordsOfModule.{order_words, unit_is, unit_small, within}
use Rattle.adc_groups.specs.PendingWrites.{IsSound}

-- moves with this event at the first, of these changes and at least two deeds
abbrev pub two_or_more : Event → (x z : WindowWrite) → List WindowWrite → (order banks : Option StructureOp) → Continuation → WriteBatch
two_or_more e x z rest o b t = record (making (Some e) (x ∷ z ∷ rest) t) { order = o; banks = b }

pub first_takes : (d : AdcTable) (e : Event) (x z : WindowWrite) (rest : List WindowWrite) (o b : Option StructureOp) (t : Continuation) (v : ℕ)
    → body_takes (record { table = d; place = Makes (two_or_more e x z rest o b t) }) v ≡ (record { table = d; place = Makes (record (two_or_more e x z rest o b t) { made = 1 }) }, step (Some e))
first_takes d e x z rest o b t v = ap (λ k. (record { table = d; place = k.0 }, k.1)) (ap (λ q. making_takes (Some e) (if q then record m { made = 1 } else m)) some ∙ ap (λ q. if q then after_making (Some e) (record m { made = 1 }) t else (Makes (record m { made = 1 }), step (Some e))) (open_still (is_some o) (is_some b)))
  where
    m : WriteBatch
    m = two_or_more e x z rest o b t

    some : nat_lt 0 (suc (suc (length rest))) ≡ true
    some = grind (arith, nat_tests)

    open_still : (p q : Bool) → not p && (not q && nat_le (suc (suc (length rest))) 1) ≡ false
    open_still false false = let more : nat_le (suc (suc (length rest))) 1 ≡ false = grind (arith, nat_tests) in more
    open_still _ _ = refl

-- a frame need not add to its past where it looks
adding_none : {State Call : Type 0} {g : SharedRefinement State Call} (x : PointAssertion g) (ready : ℕ → Bool) (past : FrameHistory) (P : FrameHistory → Type 0) → P past → Adding x ready past P
adding_none (Within gap hs place) ready past P h = h
adding_none (Outside hs place) ready past P h = h
adding_none (Looking gap hs place) ready past P h = inl h

-- a step that goes on, by what it makes of the body
pub steps_so : (d : AdcTable) (f r : AdcBody → ℕ) (below : Reservations) (chip : Chip) (w : World) (s : AdcState) (m : ℕ → Bool) (y : ℕ) (o : Origin Call) (p : FrameHistory) (k j : AdcBody) (x : BodyTaken) → body_takes k (value_of chip (body_work k)) ≡ (j, x) → ended_by (body_ends j) x.done ≡ None
    → MakesTo (AdcGround d) (adc_bodies d f r) below chip (chip_after chip (body_work k) y) w s o (body_work k) ((adc_bodies d f r).clean k) (value_of chip (body_work k)) y p (missed_after (adc_machine d) w s m) (j, x)
    → RightOr (AdcGround d) (adc_bodies d f r) below chip w s k o y p m (ended_at (adc_bodies d f r) body_ends k (value_of chip (body_work k)))
steps_so d f r below chip w s m y o p k j x is none right =
    goes_right (AdcGround d) (adc_bodies d f r) below chip w s k o y p m (ended_at (adc_bodies d f r) body_ends k (value_of chip (body_work k))) (ap (λ (z : AdcBody × BodyTaken). ended_by (body_ends z.0) z.1.done) is ∙ none)
    (adding_none ((adc_bodies d f r).assertion k) ((AdcGround d).setting.machine.ready w s) p (λ t. MakesTo (AdcGround d) (adc_bodies d f r) below chip (chip_after chip (body_work k) y) w s o (body_work k) ((adc_bodies d f r).clean k) (value_of chip (body_work k)) y t (missed_after (adc_machine d) w s m) (body_takes k (value_of chip (body_work k)))) (subst (λ z. MakesTo (AdcGround d) (adc_bodies d f r) below chip (chip_after chip (body_work k) y) w s o (body_work k) ((adc_bodies d f r).clean k) (value_of chip (body_work k)) y p (missed_after (adc_machine d) w s m) z) (sym is) right))

-- ---- A call stops a group: the step at which it acts, and all that its window makes after that.

-- ---- the group and its unit

module _ (d : AdcTable) (fits : FitsAdc d) (f r : AdcBody → ℕ) (below : Reservations) (chip : Chip) (w : World) (s : AdcState) (h : Agrees d below chip w s) (m : ℕ → Bool) (y : ℕ) (g : ℕ) (call : GroupCall) (stop : IsStop call) (may : MayCall d s g call) (busy : (group_at s g).status ≡ Idle → ⊥) where
  abbrev u : ℕ
  u = unit_of (group_of d g)

  abbrev line : Origin Call
  line = Called (Call.Group g call)

  abbrev wired : Bool
  wired = is_some (trigger_input (group_of d g))

  at : is_on u (group_of d g) ≡ true
  at = on_own (group_of d g) may.there

  few : u < 2
  few = unit_small d fits g may.there

  lt : g < 16
  lt = within d g may.there

  abbrev t : AdcState
  t = stopped d s g

  is_group : group_at t g ≡ halted (group_at s g)
  is_group = halted_group d s g lt

  is_other : (k : ℕ) → k ≢ g → group_at t k ≡ group_at s k
  is_other = halted_other d s g (sound_past d s h.sound.groups)

  still_on : t.initialised ≡ true
  still_on = (halted_rest d s g).0 ∙ may.on

  round_is : (v : ℕ) → round_at t v ≡ unless_of g (round_at s v)
  round_is = halted_round d s g (none_past d w s h.sound)

  none_elsewhere : (v : ℕ) → v ≢ u → is_round_of g (round_at s v) ≡ false
  none_elsewhere v ne = whether_as (is_round_of g (round_at s v)) (λ q. q ≡ false)
      (λ e. absurd (ne (unit_of_round d fits w s h.sound g v e))) (λ e. refl)

  rounds_as : (v : ℕ) → is_round_of g (round_at s v) ≡ false → round_at t v ≡ round_at s v
  rounds_as v e = round_is v ∙ ap (λ q. cond q None (round_at s v)) e

  round_from : (v : ℕ) (x : Round) → round_at t v ≡ Some x → round_at s v ≡ Some x
  round_from v x e = unless_some (round_at s v) (is_round_of g (round_at s v)) x (sym (round_is v) ∙ e)

  gone : (v : ℕ) → is_round_of g (round_at t v) ≡ false
  gone v = ap (λ q. is_round_of g q) (round_is v) ∙ gone_round g (round_at s v) (is_round_of g (round_at s v)) refl

  turn : has_turn t g ≡ false
  turn = none_of_three (is_some (group_at t g).waiting) (is_round_of g (round_at t 0)) (is_round_of g (round_at t 1)) (ap (λ (x : GroupState). is_some x.waiting) is_group) (gone 0) (gone 1)

  other_numbers : (k : ℕ) → k ≢ g → has_turn s k ≡ true → is_on u (group_of d k) ≡ true → number_at d t k ≡ number_at d s k
  other_numbers k ne on unit =
      ap (λ (x : GroupState). number_by x.waiting (round_at t (unit_of (group_of d k)))) (is_other k ne)
      ∙ (ap (λ v. number_by (group_at s k).waiting (round_at t v)) (unit_is d fits u (group_of d k) unit) ∙ (by (group_at s k).waiting refl ∙ sym (ap (λ v. number_by (group_at s k).waiting (round_at s v)) (unit_is d fits u (group_of d k) unit))))
    where
      by : (q : Option Request) → (group_at s k).waiting ≡ q → number_by q (round_at t u) ≡ number_by q (round_at s u)
      by (Some q) e = refl
      by None e = ap (λ z. number_by None z) (rounds_as u (option_as (round_at s u) (λ q. is_round_of k q ≡ true → is_round_of g q ≡ false)
          (λ x _ e. eq_other x.group g (λ i. ne (sym (eq_is x.group k e) ∙ i)))
          (λ _ e. absurd (cc)) (turn_round d fits w s h.sound u k on e unit)))

  -- ---- its state

  was_sound : SoundGroup (group_of d g) (has_turn s g) (group_at s g)
  was_sound = h.sound.groups g

  sound : IsSoundGroup d t g
  sound = subst (λ x. SoundGroup (group_of d g) (has_turn t g) x) (sym is_group) (subst (λ q. SoundGroup (group_of d g) q (halted (group_at s g))) (sym turn)
      (idle_group (group_of d g) (halted (group_at s g)) refl refl (λ e. absurd (let i : is_some (group_of d g) ≡ false = ap (λ k. is_some k) e in let k = may.there in cc)) was_sound.linear was_sound.whole))

  -- ---- triggers

  abbrev bits : ℕ
  bits = trigger_bit d g

  others_hear : (k : ℕ) → k ≢ g → (group_at t k).trigger ≡ (group_at s k).trigger
  others_hear k ne = ap (λ (x : GroupState). x.trigger) (is_other k ne)

  deaf : (group_at t g).trigger ≡ false
  deaf = ap (λ (x : GroupState). x.trigger) is_group

  left_marks : (i : ℕ) → mark_at t i ≡ mark_at (without_mark s (trigger_input (group_of d g))) i
  left_marks i =
      elim (trigger_input (group_of d g)) as (λ o. mark_at (without_mark (off s g) o) i ≡ mark_at (without_mark s o) i)
      [ None ↦ refl | Some j ↦ refl ]

  triggers : (run : Bool) → TriggersAgree d (away_block run u (off_block wired bits chip.converters)) t
  triggers run =
      let same = away_bits run u (off_block wired bits chip.converters) in
      let z = triggers_off d fits s t g was_sound.input others_hear deaf left_marks chip.converters h.triggers in record {
        gates = λ i less. ap (λ n. has_bit n i) same.0 ∙ z.gates i less;
        flags = λ i less. ap (λ n. has_bit n i) same.1 ∙ z.flags i less;
        others = subst (λ n. n < 16) (sym same.1) z.others;
      }

  -- ---- what was there before

  was : GroupAgrees d (word_of chip) s g
  was = (h.settled may.on).groups g may.there

  unit_was : UnitAgrees d (word_of chip) s u
  unit_was = (h.settled may.on).units u few

  claim_was : claim_right below u (word_of chip (word_number d (Word.Claim u))) ≡ true
  claim_was = (h.settled may.on).claims u few

  abbrev xs : List Entry
  xs = unit_was.order.0

  whole : HasWords chip
  whole = h.outside.all.words

  abbrev deed : WindowWrite
  deed = Set (Word.Phase g) 0

  abbrev acted : Chip
  acted = chip_after chip (deed_move d deed) 0

  first_whole : HasWords acted
  first_whole = length_after chip (deed_move d deed) 0 ∙ whole

  module _ (q run lost : Bool) (turned : has_turn s g ≡ q) (runs : is_round_of g (round_at s u) ≡ run) (loses : (word_of chip (word_number d (Word.Claim u)) == 2 + g) ≡ lost) where
    abbrev deeds : List WindowWrite
    deeds = ends_of d u g q wired run lost

    of_all : AllOf g u deeds
    of_all = ends_all d u g q wired run lost

    abbrev after : Reservations
    after = left_in line (Some no_answer) u below q

    still : q ≡ false → (run ≡ false) × (lost ≡ false)
    still e = (sym runs ∙ none_runs s g (turned ∙ e) u few, sym loses ∙ eq_other (word_of chip (word_number d (Word.Claim u))) (2 + g) (no_keeper d chip w s g u (none_waits s g (turned ∙ e)) below h.right claim_was))

    -- where the group's round is on the unit, no frame keeps values of an aborted one
    free : run ≡ true → (k : ℕ) → word_of chip (word_number d (Word.Claim u)) ≢ 2 + k
    free e k same =
        let none = kept_free d chip w s u k below h.right (subst (λ v. claim_right below u v ≡ true) same claim_was) in
        let on : is_round_of g (round_at s u) ≡ true = runs ∙ e in
        let not_on : is_round_of g (round_at s u) ≡ false = ap (λ o. is_round_of g o) none in
        cc

    opened : run ≡ true → IsSound (unit_at chip.converters u).round chip.converters.time
    opened e = by (round_at s u) (runs ∙ e) (h.rounds u few)
      where
        by : (o : Option Round) → is_round_of g o ≡ true → RoundAgrees d chip.converters w (unit_at chip.converters u) o → IsSound (unit_at chip.converters u).round chip.converters.time
        by None i x = absurd (cc)
        by (Some z) i x = Is_open x.on

    abbrev left : List Entry
    left = if q then left_of g xs else xs

    module _ (c : Chip) (differs : DiffersIn (order_own (order_of u)) acted c) (holds : HoldsOrder (order_of u) (word_of c) left) where
      abbrev b : Chip
      b = after_list (deed_move d) c deeds

      low : (j : ℕ) → word_of b (group_word d g j) ≡ turn_set q j (set_at 2 0 j (set_at 0 0 j (word_of chip (group_word d g j))))
      low j = low_last d fits g u may.there few chip whole deed refl c differs deeds of_all j ∙ ends_low d u g q wired run lost j (set_at 0 0 j (word_of chip (group_word d g j)))

      low_one : (j : ℕ) → (3 == j) ≡ false → word_of b (group_word d g j) ≡ set_at 2 0 j (set_at 0 0 j (word_of chip (group_word d g j)))
      low_one j e = low j ∙ turn_kept q j (set_at 2 0 j (set_at 0 0 j (word_of chip (group_word d g j)))) e

      no_turn : word_of b (group_word d g 3) ≡ 0
      no_turn = low 3 ∙ whether_as q (λ z. has_turn s g ≡ z → turn_set z 3 (word_of chip (group_word d g 3)) ≡ 0)
          (λ _ _. refl) (λ _ e. was.turn ∙ ap (λ z. bit_of z) e) turned

      claim : word_of b (word_number d (Word.Claim u)) ≡ (if lost then 1 else word_of chip (word_number d (Word.Claim u)))
      claim =
          let is : STATE + 8 + 8 * u + 1 ≡ word_number d (Word.Claim u) = omega arith in
          subst (λ k. word_of b k ≡ (if lost then 1 else word_of chip k)) is
          (unit_last d fits g u may.there few chip whole deed refl c differs deeds of_all 1 (omega arith) ∙ ends_claim d u g q wired run lost still (word_of chip (STATE + 8 + 8 * u + 1)))

      running : word_of b (word_number d (Word.Running u)) ≡ (if run then 0 else word_of chip (word_number d (Word.Running u)))
      running =
          let is : STATE + 8 + 8 * u + 0 ≡ word_number d (Word.Running u) = omega arith in
          subst (λ k. word_of b k ≡ (if run then 0 else word_of chip k)) is
          (unit_last d fits g u may.there few chip whole deed refl c differs deeds of_all 0 (omega arith) ∙ ends_running d u g q wired run lost still (word_of chip (STATE + 8 + 8 * u + 0)))

      block : b.converters ≡ away_block run u (off_block wired bits chip.converters)
      block = ends_block d u g q wired run lost still c ∙ ap (λ (z : Chip). away_block run u (off_block wired bits z.converters)) differs.rest

      control : b.control ≡ chip.control
      control = ends_control d u g q wired run lost c ∙ ap (λ (z : Chip). z.control) differs.rest

      -- by what the claim's word was
      claim_by : (k : ℕ) (l : Bool) → (word_of chip (word_number d (Word.Claim u)) == 2 + g) ≡ l → (if l then 1 else word_of chip (word_number d (Word.Claim u))) ≡ 2 + k → word_of chip (word_number d (Word.Claim u)) ≡ 2 + k
      claim_by k true e i = absurd (omega (arith, i))
      claim_by k false e i = i

      claim_on : (k : ℕ) → k ≢ g → (l : Bool) → (word_of chip (word_number d (Word.Claim u)) == 2 + g) ≡ l → word_of chip (word_number d (Word.Claim u)) ≡ 2 + k → (if l then 1 else word_of chip (word_number d (Word.Claim u))) ≡ 2 + k
      claim_on k ne true e i = absurd (let same = eq_is (word_of chip (word_number d (Word.Claim u))) (2 + g) e in omega (arith, same, i, ne))
      claim_on k ne false e i = i

      unkept : word_of b (word_number d (Word.Claim u)) ≢ 2 + g
      unkept same = by lost loses (sym claim ∙ same)
        where
          by : (l : Bool) → (word_of chip (word_number d (Word.Claim u)) == 2 + g) ≡ l → (if l then 1 else word_of chip (word_number d (Word.Claim u))) ≡ 2 + g → ⊥
          by true e i = omega (arith, i)
          by false e i = let on : (word_of chip (word_number d (Word.Claim u)) == 2 + g) ≡ true = ap (λ n. n == 2 + g) i ∙ eq_self (2 + g) in cc

      kept_unit : (z : Bool) → is_round_of g (round_at s u) ≡ z → (k : ℕ) → word_of chip (word_number d (Word.Claim u)) ≡ 2 + k → (run ≡ z) → unit_at (away_block z u (off_block wired bits chip.converters)) u ≡ unit_at chip.converters u
      kept_unit true e k i same = absurd (free same k i)
      kept_unit false e k i same = off_unit wired bits u chip.converters

      stays : Stays d below after chip b s t g u
      stays = record {
        on = may.on;
        still = still_on;
        requests = (let same = (halted_rest d s g).1 in omega (arith, same));
        others = is_other;
        rounds = λ v ne. rounds_as v (none_elsewhere v ne);
        from = λ x e ne. round_from u x e;
        to = λ x e ne. round_is u ∙ (ap (λ o. unless_of g o) e ∙ ap (λ z. cond z None (Some x)) (eq_other x.group g ne));
        results = λ k ne n p. ap (λ z. held_in z k n p) (halted_rest d s g).2;
        elsewhere = other_last d fits g u may.there few chip whole deed refl c differs deeds of_all;
        claim_from = λ k ne e. claim_by k lost loses (sym claim ∙ e);
        claim_to = λ k ne e. claim ∙ claim_on k ne lost loses e;
        unit = λ k ne e. ap (λ z. unit_at z u) block ∙ kept_unit run runs k (claim_by k lost loses (sym claim ∙ e)) refl;
        units = λ v less ne. ap (λ z. unit_at z v) block ∙ (block_stays w u wired run bits chip.converters h.block).others v ne;
        levels = ap (λ (z : Converters). z.levels) block ∙ (block_stays w u wired run bits chip.converters h.block).levels;
        time = ap (λ (z : Converters). z.time) block ∙ (block_stays w u wired run bits chip.converters h.block).time;
        enabled = λ l e. ap (λ z. has_bit z.enabled l) control;
        puts = λ k ne. left_puts line (Some no_answer) u below d k q;
        takes = λ k ne. left_takes line (Some no_answer) u below k q;
      }

      spares : (z : Reservation) → Spares d chip b s t g u z
      spares z = record { rounds = λ on x e. round_from u x e; unkept = λ on e. unkept e; lost = λ on. kept_none d fits t g may.there turn; copies = λ n k i x e same. (ap (λ v. v % 4) (low_one 7 refl), λ n p. ap (λ z. held_in z g n p) (halted_rest d s g).2); reads = λ k n vs e same. ap (λ v. v / 4) (low_one 7 refl) }

      right : AllRight d b w t below
      right = all_changed d fits below after chip b w s t h g u at stays below (all_spare d chip b s t g u spares below) h.right

      turns : (k : ℕ) → k ≢ g → has_turn t k ≡ has_turn s k
      turns = turn_same d fits below after chip b w s t h g u at stays

      waits : (k : ℕ) → k ≢ g → is_some (group_at t k).waiting ≡ is_some (group_at s k).waiting
      waits k ne = ap (λ (x : GroupState). is_some x.waiting) (is_other k ne)

      -- where it had no turn, all turns are as before
      module _ (none : has_turn s g ≡ false) where
        waits_all : (k : ℕ) → (group_at t k).waiting ≡ (group_at s k).waiting
        waits_all k = cases (same_or_other k g)
            (λ e. subst (λ n. (group_at t n).waiting ≡ (group_at s n).waiting) (sym e) (ap (λ (x : GroupState). x.waiting) is_group ∙ nothing (group_at s g).waiting (none_waits s g none)))
            (λ ne. ap (λ (x : GroupState). x.waiting) (is_other k ne))
          where
            nothing : (o : Option Request) → is_some o ≡ false → None ≡ o
            nothing None e = refl
            nothing (Some o) e = absurd (cc)

        rounds_all : (v : ℕ) → round_at t v ≡ round_at s v
        rounds_all v = cases (same_or_other v u)
            (λ e. rounds_as v (ap (λ n. is_round_of g (round_at s n)) e ∙ none_runs s g none u few))
            (λ ne. rounds_as v (none_elsewhere v ne))

        turns_all : (k : ℕ) → has_turn t k ≡ has_turn s k
        turns_all k =
            elim (same_or_other k g)
            [ inl e ↦ subst (λ n. has_turn t n ≡ has_turn s n) (sym e) (turn ∙ sym none) | inr ne ↦ turns k ne ]

      order : (z : Bool) → has_turn s g ≡ z → IsOrder d t u (if z then left_of g xs else xs)
      order true e = order_without d s t g u at turns waits xs unit_was.order.2 other_numbers unit_was.order.1.once turn
      order false e = order_kept d s t u (turns_all e) (λ k. ap (λ o. is_some o) (waits_all e k)) (λ k on. ap (λ o. number_by o (round_at t (unit_of (group_of d k)))) (waits_all e k) ∙ ap (λ o. number_by (group_at s k).waiting o) (rounds_all e (unit_of (group_of d k)))) xs unit_was.order.2

      waits_fewer : (k : ℕ) → waits_for d t u k ≡ true → waits_for d s u k ≡ true
      waits_fewer k e = cases (same_or_other k g)
          (λ i. absurd (let not_on : waits_for d t u k ≡ false = ap (λ n. waits_for d t u n) i ∙ (ap (λ (x : GroupState). is_on u (group_of d g) && is_some x.waiting) is_group ∙ and_false (is_on u (group_of d g))) in cc))
          (λ ne. ap (λ z. is_on u (group_of d k) && z) (sym (waits k ne)) ∙ e)

      promised : (z : Bool) → has_turn s g ≡ z → (v : ℕ) → Promised d (left_in line (Some no_answer) u below z) w t v
      promised false e v = promised_same d w s t v (rounds_all e v) (λ k. ap (λ o. is_on v (group_of d k) && is_some o) (waits_all e k)) below below (λ i. i) (λ i. i) ((h.settled may.on).promised v)
      promised true e v = cases (same_or_other v u)
          (λ i. subst (λ n. Promised d (asking line (Some no_answer) u below false) w t n) (sym i) here)
          (λ ne. promised_same d w s t v (rounds_as v (none_elsewhere v ne)) (waits_other d s t g v (off_group d fits g u v at ne) waits) below (asking line (Some no_answer) u below false) (asking_more line (Some no_answer) u below (starts_on v) false) (still_yields line (Some no_answer) u below v false refl) ((h.settled may.on).promised v))
        where
          here : Promised d (asking line (Some no_answer) u below false) w t u
          here = record { starts = λ i. asking_starts line (Some no_answer) u below false; yields = λ i. still_yields line (Some no_answer) u below u false refl (((h.settled may.on).promised u).yields (aborts_fewer d w s t u waits_fewer (round_from u) i)) }

      claims : (v : ℕ) → v < 2 → claim_right below v (word_of b (word_number d (Word.Claim v))) ≡ true
      claims v less = cases (same_or_other v u)
          (λ i. subst (λ n. claim_right below n (word_of b (word_number d (Word.Claim n))) ≡ true) (sym i) (ap (λ x. claim_right below u x) claim ∙ here lost loses))
          (λ ne. ap (λ x. claim_right below v x) (claim_stays d fits below after chip b w s t h g u at stays v less ne) ∙ (h.settled may.on).claims v less)
        where
          here : (l : Bool) → (word_of chip (word_number d (Word.Claim u)) == 2 + g) ≡ l → claim_right below u (if l then 1 else word_of chip (word_number d (Word.Claim u))) ≡ true
          here true e = claim_loses u g below (subst (λ x. claim_right below u x ≡ true) (eq_is (word_of chip (word_number d (Word.Claim u))) (2 + g) e) claim_was)
          here false e = claim_was

      round_now : (z : Bool) → is_round_of g (round_at s u) ≡ z → (run ≡ z) → RoundAgrees d (away_block z u (off_block wired bits chip.converters)) w (unit_at (away_block z u (off_block wired bits chip.converters)) u) (cond z None (round_at s u))
      round_now true e same =
          away_over u (off_block wired bits chip.converters) (let all = (block_stays w u wired false bits chip.converters h.block).block.all in omega (arith, few, all))
          (subst (λ n. IsSound (unit_at (off_block wired bits chip.converters) u).round n) (sym (off_time wired bits chip.converters)) (subst (λ (z : Converter). IsSound z.round chip.converters.time) (sym (off_unit wired bits u chip.converters)) (opened same)))
      round_now false e same = round_kept d chip.converters (off_block wired bits chip.converters) w (unit_at chip.converters u) (unit_at (off_block wired bits chip.converters) u) (round_at s u) (off_unit wired bits u chip.converters) (block_stays w u wired false bits chip.converters h.block).levels (off_time wired bits chip.converters) (h.rounds u few)

      banks : BanksAgree d after (word_of b) t g
      banks =
          let k = h.banks g may.there in record {
            banks = k.banks;
            stands = stands-agree (trio_of (rounds_of d g)) (word_of chip) (word_of b) k.banks (trio_group d fits below after chip b w s t h g u at stays (low_one 7 refl)) k.stands;
            newest = λ e more. absurd (e (ap (λ (x : GroupState). x.status) is_group));
            put = k.put ∙ sym (left_puts line (Some no_answer) u below d g q);
            take = k.take ∙ sym (left_takes line (Some no_answer) u below g q);
          }

      group : GroupAgrees d (word_of b) t g
      group = record {
        phase = low_one 0 refl ∙ sym (ap (λ (x : GroupState). phase_of x.status (has_turn t g || x.trigger)) is_group);
        chosen = low_one 1 refl ∙ (was.chosen ∙ sym (ap (λ (x : GroupState). chosen_of x.chosen) is_group));
        notified = low_one 2 refl ∙ sym (ap (λ (x : GroupState). bit_of x.notification) is_group);
        turn = no_turn ∙ sym (ap (λ z. bit_of z) turn);
        count = λ e. absurd (e (ap (λ (x : GroupState). x.status) is_group));
        place = λ e. absurd (e (ap (λ (x : GroupState). x.status) is_group));
        kept = λ e k. absurd (let no = turn in cc);
        values = λ e k i v is. absurd (let no = turn in cc);
      }

      running_now : (z : Bool) → is_round_of g (round_at s u) ≡ z → (if z then 0 else word_of chip (word_number d (Word.Running u))) ≡ running_of (cond z None (round_at s u))
      running_now true e = refl
      running_now false e = unit_was.running

      fresh : Fresh d after b w t g u
      fresh = record {
        sound = sound;
        waits = λ x e. absurd (let none : (group_at t g).waiting ≡ None = ap (λ (x : GroupState). x.waiting) is_group in cc);
        runs = λ x e same. absurd (let off : is_round_of g (round_at t u) ≡ false = gone u in let on : is_round_of g (round_at t u) ≡ true = ap (λ o. is_round_of g o) e ∙ (ap (λ n. n == g) same ∙ eq_self g) in cc);
        marks = marks_off d fits s t g was_sound.input others_hear deaf left_marks h.sound.marks;
        hears = λ e i. absurd (let off = turn in cc);
        outside = stands_last d fits g u may.there few chip whole deed refl c differs deeds of_all w h.outside;
        block = subst (λ z. IsBlock z w) (sym block) (block_stays w u wired run bits chip.converters h.block).block;
        round = subst (λ o. RoundAgrees d b.converters w (unit_at b.converters u) o) (sym (round_is u ∙ ap (λ z. cond z None (round_at s u)) runs)) (subst (λ z. RoundAgrees d z w (unit_at z u) (cond run None (round_at s u))) (sym block) (round_now run runs refl));
        triggers = subst (λ z. TriggersAgree d z t) (sym block) (triggers run);
        right = left_right line (Some no_answer) u below d b w t q still_on right;
        banks = banks;
        places = λ k n p less free. place_stays d fits below after chip b w s t h g u at stays k n p ∙ (h.places k n p less (sym (left_owed line (Some no_answer) u below k n p q) ∙ free) ∙ sym (ap (λ z. held_in z k n p) (halted_rest d s g).2));
        backed = left_backed line (Some no_answer) u below q h.backed;
        group = group;
        unit = record { running = running ∙ (running_now run runs ∙ ap (λ o. running_of o) (sym (round_is u ∙ ap (λ z. cond z None (round_at s u)) runs))); order = (left, order_last d fits g u may.there few chip whole deed refl c differs deeds of_all left holds, order q turned) };
        claims = λ v less. left_claims line (Some no_answer) u below v (word_of b (word_number d (Word.Claim v))) q ∙ claims v less;
        promised = promised q turned;
      }

      represents : Agrees d after b w t
      represents = changed d fits below after chip b w s t h g u at stays fresh

    -- ---- the moves that are owed

    comes : (next : Continuation) (c : Chip) → DiffersIn (order_own (order_of u)) acted c → HoldsOrder (order_of u) (word_of c) left → CommitsAfter (making_owed d) (owed_of d None None deeds next) c (λ z. Agrees d after z w t)
    comes next c differs holds =
        let same : c.converters ≡ chip.converters = ap (λ (z : Chip). z.converters) differs.rest in
        settles_list (making_owed d) (deed_move d) (λ ds. owed_of d None None ds next) (deeds_listed d fits next) (λ z. Agrees d after z w t) deeds c
        (may_ends d fits g u may.there few next q wired run lost c differs.whole (ap (λ (z : Converters). length z.units) same ∙ h.block.all) (subst (λ (z : Converters). z.pulses < 16) (sym same) h.triggers.others)
        (λ e. subst (λ (z : Converters). IsSound (unit_at z u).round z.time) (sym same) (opened e)) (λ e k i. free e k (sym (claim_before c differs) ∙ i)))
        (represents c differs holds)
      where
        -- the order's words and the group's aren't the claim's
        claim_before : (c : Chip) → DiffersIn (order_own (order_of u)) acted c → word_of c (word_number d (Word.Claim u)) ≡ word_of chip (word_number d (Word.Claim u))
        claim_before c differs =
            let is : STATE + 8 + 8 * u + 1 ≡ word_number d (Word.Claim u) = omega arith in
            subst (λ k. word_of c k ≡ word_of chip k) is (unit_last d fits g u may.there few chip whole deed refl c differs [] tt 1 (omega arith))

  -- ---- the step

  none_error : error_by d (Call.Group g call) (circumstances d s (Call.Group g call)) ≡ None
  none_error = stops_without_error call stop may
    where
      stops_without_error : (c : GroupCall) → IsStop c → MayCall d s g c → error_by d (Call.Group g c) (circumstances d s (Call.Group g c)) ≡ None
      stops_without_error StopGroupConversion i k =
          group_errors d s g StopGroupConversion k
          ∙ (ap (λ z. first_error Service.AdcStopGroupConversion (false ∷ false ∷ z ∷ is_idle (group_at s g).status ∷ false ∷ false ∷ [])) k.right
          ∙ ap (λ z. first_error Service.AdcStopGroupConversion (false ∷ false ∷ false ∷ z ∷ false ∷ false ∷ [])) (not_idle (group_at s g).status busy))
      stops_without_error DisableHardwareTrigger i k =
          group_errors d s g DisableHardwareTrigger k
          ∙ (ap (λ z. first_error Service.AdcDisableHardwareTrigger (false ∷ false ∷ z ∷ is_idle (group_at s g).status ∷ false ∷ false ∷ [])) k.right
          ∙ ap (λ z. first_error Service.AdcDisableHardwareTrigger (false ∷ false ∷ false ∷ z ∷ false ∷ false ∷ [])) (not_idle (group_at s g).status busy))
      stops_without_error _ i k = absurd i

  does : Some (acts_by d s (Call.Group g call) (error_by d (Call.Group g call) (circumstances d s (Call.Group g call)))) ≡ Some (outcome t tells_nothing)
  does = ap (λ x. Some (acts_by d s (Call.Group g call) x)) none_error ∙ by call stop
    where
      by : (c : GroupCall) → IsStop c → Some (acts_by d s (Call.Group g c) None) ≡ Some (outcome t tells_nothing)
      by StopGroupConversion i = refl
      by DisableHardwareTrigger i = refl
      by _ i = absurd i

  -- it had no turn
  pub quiet_right : has_turn s g ≡ false → RightOr (AdcGround d) (adc_bodies d f r) below chip w s (record { table = d; place = Makes (making (Some Event.Act) (quieted d g) nothing_more) }) line y fresh_history m (ended_at (adc_bodies d f r) body_ends (record { table = d; place = Makes (making (Some Event.Act) (quieted d g) nothing_more) }) (value_of chip (body_work (record { table = d; place = Makes (making (Some Event.Act) (quieted d g) nothing_more) }))))
  quiet_right none =
      steps_so d f r below chip w s m y line fresh_history (record { table = d; place = Makes (making (Some Event.Act) (quieted d g) nothing_more) }) (record { table = d; place = Makes (record (making (Some Event.Act) (quieted d g) nothing_more) { made = 1 }) }) (step (Some Event.Act))
      (first_takes d Event.Act deed (Set (Word.Notified g) 0) (off_where wired (trigger_bit d g)) None None nothing_more (value_of chip (deed_move d deed))) refl (record {
        may = refl;
        stands = tt;
        state = t;
        told = tells_nothing;
        begins = None;
        is = does;
        sends = tt;
        acts = tt;
        reset = sym (asks_no (adc_machine d) (Call.Group g call) (Some Event.Act) (Some (outcome t tells_nothing)) (not_reset (Call.Group g call)));
        next = (
          comes false false false none (none_runs s g none u few) (eq_other (word_of chip (word_number d (Word.Claim u))) (2 + g) (no_keeper d chip w s g u (none_waits s g none) below h.right claim_was)) nothing_more acted (differs_none (order_own (order_of u)) acted first_whole)
              (order_first d fits g u may.there few chip whole deed refl acted (differs_none (order_own (order_of u)) acted first_whole) [] tt xs unit_was.order.1),
          (refl, Leaves_acted (Call.Group g call) Is_this_frame refl),
        );
      })

  abbrev begins : Continuation
  begins = Continuation.Goes (Closes (Window.Begin u))

  entry_is : entry g ≡ g
  entry_is = mod-eq_of_lt lt

  -- it had one
  pub turn_right : has_turn s g ≡ true → (run lost : Bool) → is_round_of g (round_at s u) ≡ run → (word_of chip (word_number d (Word.Claim u)) == 2 + g) ≡ lost → RightOr (AdcGround d) (adc_bodies d f r) below chip w s (record { table = d; place = Makes (stop_by d u g run lost) }) line y fresh_history m (ended_at (adc_bodies d f r) body_ends (record { table = d; place = Makes (stop_by d u g run lost) }) (value_of chip (body_work (record { table = d; place = Makes (stop_by d u g run lost) }))))
  turn_right on run lost runs loses =
      steps_so d f r below chip w s m y line fresh_history (record { table = d; place = Makes (stop_by d u g run lost) }) (record { table = d; place = Makes (record (stop_by d u g run lost) { made = 1 }) }) (step (Some Event.Act))
      (first_takes d Event.Act deed (Set (Word.Notified g) 0) (off_where wired (trigger_bit d g) ++ (taken_away run u ++ (claim_lost lost u ++ Set (Word.Turn g) 0 ∷ []))) (Some (StructureOp.Drop (drop_start (order_of u) (entry g)))) None begins (value_of chip (deed_move d deed))) refl (record {
        may = refl;
        stands = tt;
        state = t;
        told = tells_nothing;
        begins = None;
        is = does;
        sends = tt;
        acts = tt;
        reset = sym (asks_no (adc_machine d) (Call.Group g call) (Some Event.Act) (Some (outcome t tells_nothing)) (not_reset (Call.Group g call)));
        next = (settles, (refl, (Has_acted (Call.Group g call) Is_this_frame, few)));
      })
    where
      there : is_there (entry g) xs ≡ true
      there = ap (λ n. is_there n xs) entry_is ∙ (unit_was.order.2.there g ∙ (ap (λ q. q && is_on u (group_of d g)) on ∙ at))

      settles : (n : ℕ) × CommitsTo (making_owed d) n (record { table = d; order = Some (StructureOp.Drop (drop_start (order_of u) (entry g))); banks = None; deeds = ends_of d u g true wired run lost; after = begins }) acted (λ c. Agrees d (asking line (Some no_answer) u below false) c w t)
      settles =
          settles_part dropping (order_own (order_of u)) (making_owed d) (λ q. record { table = d; order = Some (StructureOp.Drop q); banks = None; deeds = ends_of d u g true wired run lost; after = begins }) (λ ws. owed_of d None None (ends_of d u g true wired run lost) begins)
          (drop_part d fits (order_own (order_of u)) (λ k e. order_words d u k few e) None (ends_of d u g true wired run lost) begins) (λ k e. word_there d fits k (order_words d u k few e)) (λ k ws. HoldsOrder (order_of u) k (left_of (entry g) xs) × (ws ≡ [])) (λ c. Agrees d (asking line (Some no_answer) u below false) c w t)
          (if nat_lt 8 (length xs) then 6 else 4) (drop_start (order_of u) (entry g)) acted (whole_first d fits g u may.there few chip whole deed refl acted (differs_none (order_own (order_of u)) acted first_whole) [] tt)
          (drop-ends (order_of u) (entry g) (word_of acted) xs (order_first d fits g u may.there few chip whole deed refl acted (differs_none (order_own (order_of u)) acted first_whole) [] tt xs unit_was.order.1) there)
          (λ c ws differs dd. comes true run lost on runs loses begins c differs (subst (λ n. HoldsOrder (order_of u) (word_of c) (left_of n xs)) entry_is dd.0))
