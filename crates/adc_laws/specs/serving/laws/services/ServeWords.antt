-- The moves of a serving after its acknowledgement: what each word is after a change of the unit's order, the new control word of the
-- group's banks, and the deeds behind that; and that all of them may be made.
-- From adc_groups: words.StructureParts, adc_groups: words.WordsOfModule, adc_groups: services.Decisions and 4 more.
-- Used by services.ServeActRight, services.ServeRight.
use Rattle.std.proofs.Common.{◌≡◌, ◌≢◌, ◌+◌, ◌-◌, ◌*◌, ◌<◌, ◌≤◌, ◌&&◌, ◌||◌, ◌==◌, [], ◌∷◌, ◌++◌, ◌∙◌, if◌then◌else◌}
use Rattle.adc_laws.specs.serving.Terms
use Terms.{AdcTable, after_list, AllMay, AllOf, and_false, ap, arith, bits_few, Bool, Chip, chip_after, claim_words}
use Terms.{Continuation, ConverterAck, deed_move, deeds_low, deeds_other, deeds_unit, DiffersIn, Entry, false}
use Terms.{FitsAdc, flag_left, group_of, group_word, has_bit, has_bit-without, HasWords, holds-agree, HoldsOrder}
use Terms.{is_some, is_word, length, length_after, List, low_last, low_words, lows_set, making_owed, nat_tests, None}
use Terms.{not, off_block, off_where, order_of, order_within, other_last, owed_of, owed_own, own-control, own_named}
use Terms.{refl, rounds_of, running_words, set_at, stands-move, stands_last, stands_list, StandsIn, start_from, STATE}
use Terms.{Store, stored_other, stored_same, subst, sym, trigger_bit, trio_of, trio_words, true, turn_deed, units_set}
use Terms.{WindowWrite, Word, word_number, word_of, word_there, World, ℕ}
use Rattle.word_shapes.specs.PriorityQueue.{own_of}
use Rattle.chip_blocks.specs.converter.Converters as chips

-- ---- the deeds

-- what is made of the unit and its group, by whether that waits again and whether its trigger goes off
abbrev pub serves_of : AdcTable → (unit group count place phase : ℕ) → (again off : Bool) → List WindowWrite
serves_of d u g c p n again off = WindowWrite.Set (Word.Running u) 0 ∷ WindowWrite.Set (Word.Count g) c ∷ WindowWrite.Set (Word.Place g) p ∷ WindowWrite.Set (Word.Phase g) n ∷ turn_deed g again ∷ (off_where off (trigger_bit d g) ++ WindowWrite.Set (Word.Claim u) 0 ∷ [])

-- the word of its turn, or of how many values it has kept
abbrev pub turn_set : Bool → (j x : ℕ) → ℕ
turn_set true j x = set_at 6 0 j x
turn_set false j x = set_at 3 0 j x

serves_all : (d : AdcTable) (u g c p n : ℕ) (again off : Bool) → AllOf g u (serves_of d u g c p n again off)
serves_all d u g c p n true false = (refl, (refl, (refl, (refl, (refl, (refl, tt))))))
serves_all d u g c p n false false = (refl, (refl, (refl, (refl, (refl, (refl, tt))))))
serves_all d u g c p n _ _ = (refl, (refl, (refl, (refl, (refl, (tt, (tt, (refl, tt))))))))

-- what they make of the words of the group and of the unit, of the block, and of the lines
serves_so : (d : AdcTable) (u g c p n : ℕ) (again off : Bool)
    → ((j x : ℕ) → lows_set (serves_of d u g c p n again off) j x ≡ turn_set again j (set_at 0 n j (set_at 5 p j (set_at 4 c j x)))) × ((j x : ℕ) → units_set (serves_of d u g c p n again off) j x ≡ set_at 1 0 j (set_at 0 0 j x))
    × ((a : Chip) → (after_list (deed_move d) a (serves_of d u g c p n again off)).converters ≡ off_block off (trigger_bit d g) a.converters) × ((a : Chip) → (after_list (deed_move d) a (serves_of d u g c p n again off)).control ≡ a.control)
serves_so d u g c p n true true = (λ j x. refl, λ j x. refl, λ a. refl, λ a. refl)
serves_so d u g c p n true false = (λ j x. refl, λ j x. refl, λ a. refl, λ a. refl)
serves_so d u g c p n false true = (λ j x. refl, λ j x. refl, λ a. refl, λ a. refl)
serves_so d u g c p n false false = (λ j x. refl, λ j x. refl, λ a. refl, λ a. refl)

set_high : (i v j x : ℕ) → i < j → (if i == j then v else x) ≡ x
set_high i v j x lt = let off : (i == j) ≡ false = grind (arith, nat_tests) in ap (λ q. if q then v else x) off

-- ---- the words after them

module _ (d : AdcTable) (fits : FitsAdc d) (g u : ℕ) (here : is_some (group_of d g) ≡ true) (few : u < 2) (chip : Chip) (whole : HasWords chip) (c : Chip) (differs : DiffersIn (own_of (order_of u)) (chip_after chip (deed_move d (WindowWrite.Write (ConverterAck u) 1)) 0) c) (value count place phase : ℕ) (again off : Bool) where
  abbrev pub told : Chip
  told = chip_after c (Store (trio_of (rounds_of d g)).control value) 0

  abbrev ys : List WindowWrite
  ys = serves_of d u g count place phase again off

  abbrev pub last : Chip
  last = after_list (deed_move d) told ys

  of_all : AllOf g u ys
  of_all = serves_all d u g count place phase again off

  whole_told : HasWords told
  whole_told = length_after c (Store (trio_of (rounds_of d g)).control value) 0 ∙ differs.whole

  is_control : group_word d g 7 ≡ (trio_of (rounds_of d g)).control
  is_control = omega arith

  other_told : (k : ℕ) → k ≢ (trio_of (rounds_of d g)).control → word_of told k ≡ word_of c k
  other_told k ne = stored_other c (trio_of (rounds_of d g)).control value 0 k ne

  pub low_served : (j : ℕ) → j ≢ 7 → word_of last (group_word d g j) ≡ turn_set again j (set_at 0 phase j (set_at 5 place j (set_at 4 count j (word_of chip (group_word d g j)))))
  low_served j ne =
      deeds_low d fits g u here few ys of_all told whole_told j
      ∙ ((serves_so d u g count place phase again off).0 j (word_of told (group_word d g j))
      ∙ ap (λ x. turn_set again j (set_at 0 phase j (set_at 5 place j (set_at 4 count j x)))) (other_told (group_word d g j) (λ e. ne (let is = is_control in omega (arith, e, is))) ∙ low_last d fits g u here few chip whole (WindowWrite.Write (ConverterAck u) 1) tt c differs [] tt j))

  pub control_served : word_of last (group_word d g 7) ≡ value
  control_served =
      deeds_low d fits g u here few ys of_all told whole_told 7
      ∙ ((serves_so d u g count place phase again off).0 7 (word_of told (group_word d g 7))
      ∙ (by again (word_of told (group_word d g 7)) ∙ (ap (λ k. word_of told k) is_control ∙ stored_same c (trio_of (rounds_of d g)).control value 0 (word_there d fits (trio_of (rounds_of d g)).control (trio_words d fits g (trio_of (rounds_of d g)).control here (own-control (trio_of (rounds_of d g))))) differs.whole)))
    where
      by : (q : Bool) (x : ℕ) → turn_set q 7 (set_at 0 phase 7 (set_at 5 place 7 (set_at 4 count 7 x))) ≡ x
      by true x = refl
      by false x = refl

  -- the unit's words
  unit_served : (j : ℕ) → j < 5 → word_of last (STATE + 8 + 8 * u + j) ≡ set_at 1 0 j (set_at 0 0 j (word_of told (STATE + 8 + 8 * u + j)))
  unit_served j lt = deeds_unit d fits g u here few ys of_all told whole_told j lt ∙ (serves_so d u g count place phase again off).1 j (word_of told (STATE + 8 + 8 * u + j))

  pub running_served : word_of last (word_number d (Word.Running u)) ≡ 0
  running_served = let is : STATE + 8 + 8 * u + 0 ≡ word_number d (Word.Running u) = omega arith in subst (λ k. word_of last k ≡ 0) is (unit_served 0 (omega arith))

  pub claim_served : word_of last (word_number d (Word.Claim u)) ≡ 0
  claim_served = let is : STATE + 8 + 8 * u + 1 ≡ word_number d (Word.Claim u) = omega arith in subst (λ k. word_of last k ≡ 0) is (unit_served 1 (omega arith))

  pub other_served : (k : ℕ) → ((i : ℕ) → i < 8 → k ≢ group_word d g i) → ((i : ℕ) → i < 5 → k ≢ STATE + 8 + 8 * u + i) → word_of last k ≡ word_of chip k
  other_served k f h =
      deeds_other d fits g u here few ys of_all told k f h
      ∙ (other_told k (λ e. f 7 (omega arith) (e ∙ sym is_control)) ∙ other_last d fits g u here few chip whole (WindowWrite.Write (ConverterAck u) 1) tt c differs [] tt k f h)

  pub order_served : (xs : List Entry) → HoldsOrder (order_of u) (word_of c) xs → HoldsOrder (order_of u) (word_of last) xs
  order_served xs = holds-agree (order_of u) (word_of c) (word_of last) xs (λ k own. sym (same k (order_within k (STATE + 10 + 8 * u) own)))
    where
      stays : (j : ℕ) → 2 ≤ j → j < 5 → word_of last (STATE + 8 + 8 * u + j) ≡ word_of c (STATE + 8 + 8 * u + j)
      stays j le lt =
          unit_served j lt ∙ (set_high 1 0 j (set_at 0 0 j (word_of told (STATE + 8 + 8 * u + j))) (omega (arith, le)) ∙ (set_high 0 0 j (word_of told (STATE + 8 + 8 * u + j)) (omega (arith, le))
          ∙ other_told (STATE + 8 + 8 * u + j) (λ e. let low = (start_from d fits g here).0 in let is = is_control in omega (arith, e, is, low, lt, few))))

      same : (k : ℕ) → (STATE + 10 + 8 * u ≤ k) × (k ≤ STATE + 10 + 8 * u + 2) → word_of last k ≡ word_of c k
      same k both =
          let low = both.0 in
          let high = both.1 in
          let is : STATE + 8 + 8 * u + (k - (STATE + 8 + 8 * u)) ≡ k = omega (arith, low) in
          subst (λ n. word_of last n ≡ word_of c n) is (stays (k - (STATE + 8 + 8 * u)) (omega (arith, low)) (omega (arith, low, high)))

  pub block_served : last.converters ≡ off_block off (trigger_bit d g) (chips.with_unit chip.converters u (chips.acknowledged chip.converters.time (chips.unit_at chip.converters u)))
  block_served = (serves_so d u g count place phase again off).2 told ∙ ap (λ (z : Chip). off_block off (trigger_bit d g) z.converters) differs.rest

  pub lines_served : last.control ≡ chip.control
  lines_served = (serves_so d u g count place phase again off).3 told ∙ ap (λ (z : Chip). z.control) differs.rest

  pub stands_served : (w : World) → StandsIn chip w → StandsIn last w
  stands_served w h = stands_list d w ys told (stands-move c w (Store (trio_of (rounds_of d g)).control value) 0 (stands_last d fits g u here few chip whole (WindowWrite.Write (ConverterAck u) 1) tt c differs [] tt w h))

-- ---- that they may be made

module _ (d : AdcTable) (fits : FitsAdc d) (g u : ℕ) (here : is_some (group_of d g) ≡ true) (few : u < 2) (after : Continuation) where
  abbrev May : Chip → List WindowWrite → Type 0
  May c ds = AllMay (making_owed d) (deed_move d) (λ xs. owed_of d None None xs after) c ds

  may_set : (i v : ℕ) → i < 32 → owed_own d (Store (group_word d g i) v) ≡ true
  may_set i v less = own_named d fits (λ k. is_word d k) (λ k e. e) (Store (group_word d g i) v) (low_words d fits g i here less)

  may_off : (off : Bool) (c : Chip) (rest : List WindowWrite) → length c.converters.units ≡ 2 → c.converters.pulses < 16 → May (after_list (deed_move d) c (off_where off (trigger_bit d g))) rest → May c (off_where off (trigger_bit d g) ++ rest)
  may_off false c rest all small m = m
  may_off true c rest all small m =
      let bits = bits_few d fits g in
      ((refl, record { all = all; bits = bits; few = small; flags = λ i lt e. ap (λ q. q || flag_left rest i) e }), ((refl, record { bits = bits; few = small; gates = λ i lt e. has_bit-without c.converters.gates (trigger_bit d g) i bits (omega (arith, lt)) ∙ (ap (λ q. has_bit c.converters.gates i && not q) e ∙ and_false (has_bit c.converters.gates i)) }), m))

  pub may_serves : (c p n : ℕ) (again off : Bool) (a : Chip) → length a.converters.units ≡ 2 → a.converters.pulses < 16 → May a (serves_of d u g c p n again off)
  may_serves c p n again off a all small =
      let own = own_named d fits (λ k. is_word d k) (λ k e. e) in (
        (own (Store (word_number d (Word.Running u)) 0) (running_words d u few), tt),
        (
          (may_set 4 c (omega arith), tt),
          (
            (may_set 5 p (omega arith), tt),
            ((may_set 0 n (omega arith), tt), by again),
          ),
        ),
      )
    where
      four : Chip
      four = after_list (deed_move d) a (WindowWrite.Set (Word.Running u) 0 ∷ WindowWrite.Set (Word.Count g) c ∷ WindowWrite.Set (Word.Place g) p ∷ WindowWrite.Set (Word.Phase g) n ∷ [])

      by : (q : Bool) → May four (turn_deed g q ∷ (off_where off (trigger_bit d g) ++ WindowWrite.Set (Word.Claim u) 0 ∷ []))
      by true = ((may_set 6 0 (omega arith), tt), may_off off (chip_after four (deed_move d (turn_deed g true)) 0) (WindowWrite.Set (Word.Claim u) 0 ∷ []) all small ((own_named d fits (λ k. is_word d k) (λ k e. e) (Store (word_number d (Word.Claim u)) 0) (claim_words d u few), tt), tt))
      by false = ((may_set 3 0 (omega arith), tt), may_off off (chip_after four (deed_move d (turn_deed g false)) 0) (WindowWrite.Set (Word.Claim u) 0 ∷ []) all small ((own_named d fits (λ k. is_word d k) (λ k e. e) (Store (word_number d (Word.Claim u)) 0) (claim_words d u few), tt), tt))
