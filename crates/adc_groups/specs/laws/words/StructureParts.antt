-- The parts of a structure's word, and what is so of the order between its writes.
-- From service_outline: Words, words.WordsOfModule, services.WriteBatchSteps, words.Cases, words.StoreOneWord.
-- Used by services.RequestRight, adc_laws: turns.services.AbortRight, adc_laws: serving.services.ServeWords and 16 more.
use Rattle.std.proofs.Common.{◌≡◌, ◌≢◌, ◌+◌, ◌-◌, ◌*◌, ◌<◌, ◌≤◌, ◌&&◌, ◌||◌, ◌==◌, [], ◌∷◌, ◌∙◌, if◌then◌else◌}
use Rattle.adc_groups.specs.Terms
use Terms.{AdcTable, adding, after_list, Answer, ap, AreListed, arith, Bool, Chip, chip_after, Continuation, deed_move}
use Terms.{DiffersIn, dropping, Entry, false, FitsAdc, group_of, group_word, HasWords, holds-agree, HoldsOrder, is_some}
use Terms.{is_word, IsPart, length_after, List, Load, lt_from, making_owed, Move, NamesOwn, nat_lt, nat_tests, None}
use Terms.{Option, order_of, order_own, owed_of, owed_own, PartTo, PendingWrites, Play, refl, Some, stands-move}
use Terms.{StandsIn, STATE, Store, stored_other, stored_same, stores_in, StructureOp, subst, sym, true, waiting_again}
use Terms.{whether_as, WindowWrite, Word, word_apart, word_number, word_of, WORDS, World, Write, ℕ}
use Rattle.adc_groups.specs.laws.words.{StoreOneWord.{start_from}, WordsOfModule.{first_words, low_words, words_below}}

-- ---- moves of the module's words

module _ (d : AdcTable) (fits : FitsAdc d) where
  pub word_there : (k : ℕ) → is_word d k ≡ true → k < WORDS
  word_there k e = let lt = words_below d fits k e in omega (arith, lt)

  both : (a b : Bool) → a ≡ true → b ≡ true → (a && b) && true ≡ true
  both true true e f = refl
  both _ _ e f = absurd (cc)

  -- a move of a word of the module may be owed
  pub own_named : (own : ℕ → Bool) → ((k : ℕ) → own k ≡ true → is_word d k ≡ true) → (made : Move) → NamesOwn own made → owed_own d made ≡ true
  own_named own is (Load k) at = both (is_word d k) (nat_lt k WORDS) (is k at) (lt_from k WORDS (word_there k (is k at)))
  own_named own is (Store k v) at = both (is_word d k) (nat_lt k WORDS) (is k at) (lt_from k WORDS (word_there k (is k at)))
  own_named own is _ at = absurd at

  -- ---- a change of an order, and of banks

  order_steps : (b : Option StructureOp) (ds : List WindowWrite) (t : Continuation) (s : StructureOp) (q : Option Answer) → owed_of d (if is_some q then None else Some s) b ds t ≡ (if is_some q then owed_of d None b ds t else Some (record { table = d; order = Some s; banks = b; deeds = ds; after = t }))
  order_steps b ds t s None = refl
  order_steps b ds t s (Some a) = refl

  -- what comes after a step of a part, by whether it ended
  part_to : {R : Type 0} (q : Play R) (into : R → PendingWrites) (over : Option PendingWrites) (r : R) (v : ℕ) (a : Option Answer) → (making_owed d).left (into r) v ≡ (if is_some a then over else Some (into (q.left r v))) → PartTo q (making_owed d) into (λ ws. over) r v a
  part_to q into over r v None e = e
  part_to q into over r v (Some a) e = e

  pub add_part : (own : ℕ → Bool) → ((k : ℕ) → own k ≡ true → is_word d k ≡ true) → (b : Option StructureOp) (ds : List WindowWrite) (t : Continuation) → IsPart adding own (making_owed d) (λ r. record { table = d; order = Some (StructureOp.Add r); banks = b; deeds = ds; after = t }) (λ ws. owed_of d None b ds t)
  add_part own is b ds t = record {
    moves = λ r. refl;
    steps = λ r v. part_to adding (λ r. record { table = d; order = Some (StructureOp.Add r); banks = b; deeds = ds; after = t }) (owed_of d None b ds t) r v (adding.gave r v).ended (order_steps b ds t (StructureOp.Add (adding.left r v)) (adding.gave r v).ended);
    named = own_named own is;
    fits = λ r chip. tt;
  }

  pub again_part : (own : ℕ → Bool) → ((k : ℕ) → own k ≡ true → is_word d k ≡ true) → (b : Option StructureOp) (ds : List WindowWrite) (t : Continuation) → IsPart waiting_again own (making_owed d) (λ r. record { table = d; order = Some (StructureOp.Again r); banks = b; deeds = ds; after = t }) (λ ws. owed_of d None b ds t)
  again_part own is b ds t = record {
    moves = λ r. refl;
    steps = λ r v. part_to waiting_again (λ r. record { table = d; order = Some (StructureOp.Again r); banks = b; deeds = ds; after = t }) (owed_of d None b ds t) r v (waiting_again.gave r v).ended (order_steps b ds t (StructureOp.Again (waiting_again.left r v)) (waiting_again.gave r v).ended);
    named = own_named own is;
    fits = λ r chip. tt;
  }

  pub drop_part : (own : ℕ → Bool) → ((k : ℕ) → own k ≡ true → is_word d k ≡ true) → (b : Option StructureOp) (ds : List WindowWrite) (t : Continuation) → IsPart dropping own (making_owed d) (λ r. record { table = d; order = Some (StructureOp.Drop r); banks = b; deeds = ds; after = t }) (λ ws. owed_of d None b ds t)
  drop_part own is b ds t = record {
    moves = λ r. refl;
    steps = λ r v. part_to dropping (λ r. record { table = d; order = Some (StructureOp.Drop r); banks = b; deeds = ds; after = t }) (owed_of d None b ds t) r v (dropping.gave r v).ended (order_steps b ds t (StructureOp.Drop (dropping.left r v)) (dropping.gave r v).ended);
    named = own_named own is;
    fits = λ r chip. tt;
  }

  -- and the deeds, one after the other
  pub deeds_listed : (t : Continuation) → AreListed (making_owed d) (deed_move d) (λ ds. owed_of d None None ds t)
  deeds_listed t = record { none = refl; next = λ x rest. (refl, λ v. refl) }

-- ---- the chip after a change of words, and after deeds

pub stands_words : (a b : Chip) (w : World) → b ≡ record a { words = b.words } → HasWords b → StandsIn a w → StandsIn b w
stands_words a b w rest whole h = subst (λ (c : Chip). StandsIn c w) (sym rest) (record {
  all = record { words = whole; ram = h.all.ram; outside = h.all.outside; incoming = h.all.incoming; timers = h.all.timers; inputs = h.all.inputs; sources = h.all.sources };
  together = record { pulses = h.together.pulses; captures = h.together.captures; converters = h.together.converters; serials = h.together.serials };
  osc = h.osc;
  now = h.now;
  levels = h.levels;
  analog = h.analog;
  past = h.past;
})

pub stands_list : (d : AdcTable) (w : World) (ds : List WindowWrite) (c : Chip) → StandsIn c w → StandsIn (after_list (deed_move d) c ds) w
stands_list d w [] c h = h
stands_list d w (x ∷ xs) c h = stands_list d w xs (chip_after c (deed_move d x) 0) (stands-move c w (deed_move d x) 0 h)

-- what a deed makes of a group's word, and of a unit's word, by their places
abbrev pub set_at : (place value j x : ℕ) → ℕ
set_at i v j x = if i == j then v else x

abbrev pub low_set : WindowWrite → (j x : ℕ) → ℕ
low_set (WindowWrite.Set (Word.Phase g) v) j x = set_at 0 v j x
low_set (WindowWrite.Set (Word.Chosen g) v) j x = set_at 1 v j x
low_set (WindowWrite.Set (Word.Notified g) v) j x = set_at 2 v j x
low_set (WindowWrite.Set (Word.Turn g) v) j x = set_at 3 v j x
low_set (WindowWrite.Set (Word.Count g) v) j x = set_at 4 v j x
low_set (WindowWrite.Set (Word.Place g) v) j x = set_at 5 v j x
low_set (WindowWrite.Set (Word.Kept g) v) j x = set_at 6 v j x
low_set y j x = x

abbrev pub unit_set : WindowWrite → (j x : ℕ) → ℕ
unit_set (WindowWrite.Set (Word.Running u) v) j x = set_at 0 v j x
unit_set (WindowWrite.Set (Word.Claim u) v) j x = set_at 1 v j x
unit_set y j x = x

abbrev pub lows_set : List WindowWrite → (j x : ℕ) → ℕ
lows_set [] j x = x
lows_set (y ∷ ys) j x = lows_set ys j (low_set y j x)

abbrev pub units_set : List WindowWrite → (j x : ℕ) → ℕ
units_set [] j x = x
units_set (y ∷ ys) j x = units_set ys j (unit_set y j x)

-- a deed sets a word of this group or of this unit, if any
abbrev pub SetsOf : (group unit : ℕ) → WindowWrite → Type 0
SetsOf g u (WindowWrite.Set Word.State v) = ⊥
SetsOf g u (WindowWrite.Set (Word.Running n) v) = n ≡ u
SetsOf g u (WindowWrite.Set (Word.Claim n) v) = n ≡ u
SetsOf g u (WindowWrite.Set (Word.Phase n) v) = n ≡ g
SetsOf g u (WindowWrite.Set (Word.Chosen n) v) = n ≡ g
SetsOf g u (WindowWrite.Set (Word.Notified n) v) = n ≡ g
SetsOf g u (WindowWrite.Set (Word.Turn n) v) = n ≡ g
SetsOf g u (WindowWrite.Set (Word.Count n) v) = n ≡ g
SetsOf g u (WindowWrite.Set (Word.Place n) v) = n ≡ g
SetsOf g u (WindowWrite.Set (Word.Kept n) v) = n ≡ g
SetsOf g u y = Unit {0}

abbrev pub AllOf : (group unit : ℕ) → List WindowWrite → Type 0
AllOf g u [] = Unit {0}
AllOf g u (y ∷ ys) = SetsOf g u y × AllOf g u ys

module _ (d : AdcTable) (fits : FitsAdc d) (g u : ℕ) (here : is_some (group_of d g) ≡ true) (few : u < 2) where
  -- a store of one of these words
  module _ (i v : ℕ) (c : Chip) (whole : HasWords c) where
    equal_or : (i j v x : ℕ) (q : Bool) → (i == j) ≡ q → (q ≡ true → x ≡ v) → (y : ℕ) → (q ≡ false → x ≡ y) → x ≡ set_at i v j y
    equal_or i j v x true e same y other = same refl ∙ ap (λ b. if b then v else y) (sym e)
    equal_or i j v x false e same y other = other refl ∙ ap (λ b. if b then v else y) (sym e)

    group_low : i < 7 → (j : ℕ) → word_of (chip_after c (Store (group_word d g i) v) 0) (group_word d g j) ≡ set_at i v j (word_of c (group_word d g j))
    group_low lt j = equal_or i j v _ (i == j) refl
        (λ e. let same : j ≡ i = grind (arith, nat_tests) in subst (λ n. word_of (chip_after c (Store (group_word d g i) v) 0) (group_word d g n) ≡ v) (sym same) (stored_same c (group_word d g i) v 0 (word_there d fits (group_word d g i) (low_words d fits g i here (omega (arith, lt)))) whole))
        (word_of c (group_word d g j))
        (λ e. let ne : j ≢ i = grind (arith, nat_tests) in stored_other c (group_word d g i) v 0 (group_word d g j) (λ z. ne (omega (arith, z))))

    group_high : i < 7 → (j : ℕ) → j < 5 → word_of (chip_after c (Store (group_word d g i) v) 0) (STATE + 8 + 8 * u + j) ≡ word_of c (STATE + 8 + 8 * u + j)
    group_high lt j less = stored_other c (group_word d g i) v 0 (STATE + 8 + 8 * u + j) (λ z. let low = (start_from d fits g here).0 in omega (arith, z, low, less, few))

    unit_low : i < 2 → (j : ℕ) → word_of (chip_after c (Store (STATE + 8 + 8 * u + i) v) 0) (STATE + 8 + 8 * u + j) ≡ set_at i v j (word_of c (STATE + 8 + 8 * u + j))
    unit_low lt j = equal_or i j v _ (i == j) refl
        (λ e. let same : j ≡ i = grind (arith, nat_tests) in subst (λ n. word_of (chip_after c (Store (STATE + 8 + 8 * u + i) v) 0) (STATE + 8 + 8 * u + n) ≡ v) (sym same) (stored_same c (STATE + 8 + 8 * u + i) v 0 (word_there d fits (STATE + 8 + 8 * u + i) own) whole))
        (word_of c (STATE + 8 + 8 * u + j))
        (λ e. let ne : j ≢ i = grind (arith, nat_tests) in stored_other c (STATE + 8 + 8 * u + i) v 0 (STATE + 8 + 8 * u + j) (λ z. ne (omega (arith, z))))
      where
        own : is_word d (STATE + 8 + 8 * u + i) ≡ true
        own = let is : STATE + (8 + 8 * u + i) ≡ STATE + 8 + 8 * u + i = omega arith in subst (λ k. is_word d k ≡ true) is (first_words d (8 + 8 * u + i) (omega (arith, lt, few)))

    unit_high : i < 2 → (j : ℕ) → word_of (chip_after c (Store (STATE + 8 + 8 * u + i) v) 0) (group_word d g j) ≡ word_of c (group_word d g j)
    unit_high lt j = stored_other c (STATE + 8 + 8 * u + i) v 0 (group_word d g j) (λ z. let low = (start_from d fits g here).0 in omega (arith, z, low, lt, few))

  running_at : (n : ℕ) → n ≡ u → STATE + 8 + 8 * u + 0 ≡ word_number d (Word.Running n)
  running_at n e = omega (arith, e)

  claim_at : (n : ℕ) → n ≡ u → STATE + 8 + 8 * u + 1 ≡ word_number d (Word.Claim n)
  claim_at n e = omega (arith, e)

  group_at_word : (n i : ℕ) → n ≡ g → group_word d g i ≡ group_word d n i
  group_at_word n i e = ap (λ m. group_word d m i) (sym e)

  unstored : (c : Chip) (made : Move) (k : ℕ) → stores_in (λ m. true) made ≡ false → word_of (chip_after c made 0) k ≡ word_of c k
  unstored c made k e = word_apart (λ m. true) c made 0 k e refl

  -- a deed, by what it makes of the group's words
  deed_low : (x : WindowWrite) → SetsOf g u x → (c : Chip) → HasWords c → (j : ℕ) → word_of (chip_after c (deed_move d x) 0) (group_word d g j) ≡ low_set x j (word_of c (group_word d g j))
  deed_low (WindowWrite.Set Word.State v) at c whole j = absurd at
  deed_low (WindowWrite.Set (Word.Running n) v) at c whole j = subst (λ k. word_of (chip_after c (Store k v) 0) (group_word d g j) ≡ word_of c (group_word d g j)) (running_at n at) (unit_high 0 v c whole (omega arith) j)
  deed_low (WindowWrite.Set (Word.Claim n) v) at c whole j = subst (λ k. word_of (chip_after c (Store k v) 0) (group_word d g j) ≡ word_of c (group_word d g j)) (claim_at n at) (unit_high 1 v c whole (omega arith) j)
  deed_low (WindowWrite.Set (Word.Phase n) v) at c whole j = subst (λ k. word_of (chip_after c (Store k v) 0) (group_word d g j) ≡ set_at 0 v j (word_of c (group_word d g j))) (group_at_word n 0 at) (group_low 0 v c whole (omega arith) j)
  deed_low (WindowWrite.Set (Word.Chosen n) v) at c whole j = subst (λ k. word_of (chip_after c (Store k v) 0) (group_word d g j) ≡ set_at 1 v j (word_of c (group_word d g j))) (group_at_word n 1 at) (group_low 1 v c whole (omega arith) j)
  deed_low (WindowWrite.Set (Word.Notified n) v) at c whole j = subst (λ k. word_of (chip_after c (Store k v) 0) (group_word d g j) ≡ set_at 2 v j (word_of c (group_word d g j))) (group_at_word n 2 at) (group_low 2 v c whole (omega arith) j)
  deed_low (WindowWrite.Set (Word.Turn n) v) at c whole j = subst (λ k. word_of (chip_after c (Store k v) 0) (group_word d g j) ≡ set_at 3 v j (word_of c (group_word d g j))) (group_at_word n 3 at) (group_low 3 v c whole (omega arith) j)
  deed_low (WindowWrite.Set (Word.Count n) v) at c whole j = subst (λ k. word_of (chip_after c (Store k v) 0) (group_word d g j) ≡ set_at 4 v j (word_of c (group_word d g j))) (group_at_word n 4 at) (group_low 4 v c whole (omega arith) j)
  deed_low (WindowWrite.Set (Word.Place n) v) at c whole j = subst (λ k. word_of (chip_after c (Store k v) 0) (group_word d g j) ≡ set_at 5 v j (word_of c (group_word d g j))) (group_at_word n 5 at) (group_low 5 v c whole (omega arith) j)
  deed_low (WindowWrite.Set (Word.Kept n) v) at c whole j = subst (λ k. word_of (chip_after c (Store k v) 0) (group_word d g j) ≡ set_at 6 v j (word_of c (group_word d g j))) (group_at_word n 6 at) (group_low 6 v c whole (omega arith) j)
  deed_low (WindowWrite.Write r v) at c whole j = unstored c (Write r v) (group_word d g j) refl
  deed_low (WindowWrite.Abort n) at c whole j = unstored c (deed_move d (WindowWrite.Abort n)) (group_word d g j) refl
  deed_low WindowWrite.Disable at c whole j = unstored c (deed_move d WindowWrite.Disable) (group_word d g j) refl

  -- of the unit's
  of_group_unit : (n i v : ℕ) → n ≡ g → i < 7 → (c : Chip) → HasWords c → (j : ℕ) → j < 5 → word_of (chip_after c (Store (group_word d n i) v) 0) (STATE + 8 + 8 * u + j) ≡ word_of c (STATE + 8 + 8 * u + j)
  of_group_unit n i v at lt c whole j less = subst (λ k. word_of (chip_after c (Store k v) 0) (STATE + 8 + 8 * u + j) ≡ word_of c (STATE + 8 + 8 * u + j)) (group_at_word n i at) (group_high i v c whole lt j less)

  deed_unit : (x : WindowWrite) → SetsOf g u x → (c : Chip) → HasWords c → (j : ℕ) → j < 5 → word_of (chip_after c (deed_move d x) 0) (STATE + 8 + 8 * u + j) ≡ unit_set x j (word_of c (STATE + 8 + 8 * u + j))
  deed_unit (WindowWrite.Set Word.State v) at c whole j less = absurd at
  deed_unit (WindowWrite.Set (Word.Running n) v) at c whole j less = subst (λ k. word_of (chip_after c (Store k v) 0) (STATE + 8 + 8 * u + j) ≡ set_at 0 v j (word_of c (STATE + 8 + 8 * u + j))) (running_at n at) (unit_low 0 v c whole (omega arith) j)
  deed_unit (WindowWrite.Set (Word.Claim n) v) at c whole j less = subst (λ k. word_of (chip_after c (Store k v) 0) (STATE + 8 + 8 * u + j) ≡ set_at 1 v j (word_of c (STATE + 8 + 8 * u + j))) (claim_at n at) (unit_low 1 v c whole (omega arith) j)
  deed_unit (WindowWrite.Set (Word.Phase n) v) at c whole j less = of_group_unit n 0 v at (omega arith) c whole j less
  deed_unit (WindowWrite.Set (Word.Chosen n) v) at c whole j less = of_group_unit n 1 v at (omega arith) c whole j less
  deed_unit (WindowWrite.Set (Word.Notified n) v) at c whole j less = of_group_unit n 2 v at (omega arith) c whole j less
  deed_unit (WindowWrite.Set (Word.Turn n) v) at c whole j less = of_group_unit n 3 v at (omega arith) c whole j less
  deed_unit (WindowWrite.Set (Word.Count n) v) at c whole j less = of_group_unit n 4 v at (omega arith) c whole j less
  deed_unit (WindowWrite.Set (Word.Place n) v) at c whole j less = of_group_unit n 5 v at (omega arith) c whole j less
  deed_unit (WindowWrite.Set (Word.Kept n) v) at c whole j less = of_group_unit n 6 v at (omega arith) c whole j less
  deed_unit (WindowWrite.Write r v) at c whole j less = unstored c (Write r v) (STATE + 8 + 8 * u + j) refl
  deed_unit (WindowWrite.Abort n) at c whole j less = unstored c (deed_move d (WindowWrite.Abort n)) (STATE + 8 + 8 * u + j) refl
  deed_unit WindowWrite.Disable at c whole j less = unstored c (deed_move d WindowWrite.Disable) (STATE + 8 + 8 * u + j) refl

  -- and of any other word
  abbrev IsElsewhere : ℕ → Type 0
  IsElsewhere k = ((i : ℕ) → i < 8 → k ≢ group_word d g i) × ((i : ℕ) → i < 5 → k ≢ STATE + 8 + 8 * u + i)

  of_group_other : (n i v : ℕ) → n ≡ g → i < 8 → (c : Chip) (k : ℕ) → IsElsewhere k → word_of (chip_after c (Store (group_word d n i) v) 0) k ≡ word_of c k
  of_group_other n i v at lt c k other = stored_other c (group_word d n i) v 0 k (λ z. other.0 i lt (z ∙ sym (group_at_word n i at)))

  deed_other : (x : WindowWrite) → SetsOf g u x → (c : Chip) (k : ℕ) → IsElsewhere k → word_of (chip_after c (deed_move d x) 0) k ≡ word_of c k
  deed_other (WindowWrite.Set Word.State v) at c k other = absurd at
  deed_other (WindowWrite.Set (Word.Running n) v) at c k other = stored_other c (word_number d (Word.Running n)) v 0 k (λ z. other.1 0 (omega arith) (z ∙ sym (running_at n at)))
  deed_other (WindowWrite.Set (Word.Claim n) v) at c k other = stored_other c (word_number d (Word.Claim n)) v 0 k (λ z. other.1 1 (omega arith) (z ∙ sym (claim_at n at)))
  deed_other (WindowWrite.Set (Word.Phase n) v) at c k other = of_group_other n 0 v at (omega arith) c k other
  deed_other (WindowWrite.Set (Word.Chosen n) v) at c k other = of_group_other n 1 v at (omega arith) c k other
  deed_other (WindowWrite.Set (Word.Notified n) v) at c k other = of_group_other n 2 v at (omega arith) c k other
  deed_other (WindowWrite.Set (Word.Turn n) v) at c k other = of_group_other n 3 v at (omega arith) c k other
  deed_other (WindowWrite.Set (Word.Count n) v) at c k other = of_group_other n 4 v at (omega arith) c k other
  deed_other (WindowWrite.Set (Word.Place n) v) at c k other = of_group_other n 5 v at (omega arith) c k other
  deed_other (WindowWrite.Set (Word.Kept n) v) at c k other = of_group_other n 6 v at (omega arith) c k other
  deed_other (WindowWrite.Write r v) at c k other = unstored c (Write r v) k refl
  deed_other (WindowWrite.Abort n) at c k other = unstored c (deed_move d (WindowWrite.Abort n)) k refl
  deed_other WindowWrite.Disable at c k other = unstored c (deed_move d WindowWrite.Disable) k refl

  -- all deeds
  later_whole : (x : WindowWrite) (c : Chip) → HasWords c → HasWords (chip_after c (deed_move d x) 0)
  later_whole x c whole = length_after c (deed_move d x) 0 ∙ whole

  pub deeds_low : (xs : List WindowWrite) → AllOf g u xs → (c : Chip) → HasWords c → (j : ℕ) → word_of (after_list (deed_move d) c xs) (group_word d g j) ≡ lows_set xs j (word_of c (group_word d g j))
  deeds_low [] at c whole j = refl
  deeds_low (x ∷ xs) at c whole j = deeds_low xs at.1 (chip_after c (deed_move d x) 0) (later_whole x c whole) j ∙ ap (λ v. lows_set xs j v) (deed_low x at.0 c whole j)

  pub deeds_unit : (xs : List WindowWrite) → AllOf g u xs → (c : Chip) → HasWords c → (j : ℕ) → j < 5 → word_of (after_list (deed_move d) c xs) (STATE + 8 + 8 * u + j) ≡ units_set xs j (word_of c (STATE + 8 + 8 * u + j))
  deeds_unit [] at c whole j less = refl
  deeds_unit (x ∷ xs) at c whole j less = deeds_unit xs at.1 (chip_after c (deed_move d x) 0) (later_whole x c whole) j less ∙ ap (λ v. units_set xs j v) (deed_unit x at.0 c whole j less)

  pub deeds_other : (xs : List WindowWrite) → AllOf g u xs → (c : Chip) (k : ℕ) → ((i : ℕ) → i < 8 → k ≢ group_word d g i) → ((i : ℕ) → i < 5 → k ≢ STATE + 8 + 8 * u + i) → word_of (after_list (deed_move d) c xs) k ≡ word_of c k
  deeds_other [] at c k f h = refl
  deeds_other (x ∷ xs) at c k f h = deeds_other xs at.1 (chip_after c (deed_move d x) 0) k f h ∙ deed_other x at.0 c k (f, h)

pub deeds_whole : (d : AdcTable) (xs : List WindowWrite) (c : Chip) → HasWords c → HasWords (after_list (deed_move d) c xs)
deeds_whole d [] c whole = whole
deeds_whole d (x ∷ xs) c whole = deeds_whole d xs (chip_after c (deed_move d x) 0) (length_after c (deed_move d x) 0 ∙ whole)

-- ---- A deed, then a change of the unit's order, then further deeds: what stands in the words after all of them.

set_high : (i v j x : ℕ) → i < j → (if i == j then v else x) ≡ x
set_high i v j x lt = let off : (i == j) ≡ false = grind (arith, nat_tests) in ap (λ q. if q then v else x) off

unset : (y : WindowWrite) (j x : ℕ) → 2 ≤ j → unit_set y j x ≡ x
unset (WindowWrite.Set (Word.Running n) v) j x le = set_high 0 v j x (omega (arith, le))
unset (WindowWrite.Set (Word.Claim n) v) j x le = set_high 1 v j x (omega (arith, le))
unset _ j x le = refl

units_high : (ys : List WindowWrite) (j x : ℕ) → 2 ≤ j → units_set ys j x ≡ x
units_high [] j x le = refl
units_high (y ∷ ys) j x le = units_high ys j (unit_set y j x) le ∙ unset y j x le

off_above : (k at : ℕ) → at + 2 < k → k == at || (k == at + 1 || k == at + 2) ≡ false
off_above k at lt = grind (arith, nat_tests)

off_below : (k at : ℕ) → k < at → k == at || (k == at + 1 || k == at + 2) ≡ false
off_below k at lt = grind (arith, nat_tests)

-- a word of an order is one of three
pub order_within : (k at : ℕ) → k == at || (k == at + 1 || k == at + 2) ≡ true → (at ≤ k) × (k ≤ at + 2)
order_within k at e = (grind (arith, nat_tests), grind (arith, nat_tests))

module _ (d : AdcTable) (fits : FitsAdc d) (g u : ℕ) (here : is_some (group_of d g) ≡ true) (few : u < 2) (chip : Chip) (whole : HasWords chip) (y : WindowWrite) (of : SetsOf g u y) (c : Chip) (differs : DiffersIn (order_own (order_of u)) (chip_after chip (deed_move d y) 0) c) (ys : List WindowWrite) (ofs : AllOf g u ys) where
  abbrev first : Chip
  first = chip_after chip (deed_move d y) 0

  abbrev last : Chip
  last = after_list (deed_move d) c ys

  order_off : (k : ℕ) → ((i : ℕ) → i < 5 → k ≢ STATE + 8 + 8 * u + i) → order_own (order_of u) k ≡ false
  order_off k h = whether_as (order_own (order_of u) k) (λ q. q ≡ false)
      (λ e.
      let both = order_within k (STATE + 10 + 8 * u) e in
      let low = both.0 in
      let high = both.1 in
      absurd (h (k - (STATE + 8 + 8 * u)) (omega (arith, low, high)) (omega (arith, low))))
      (λ _. refl)

  group_off : (j : ℕ) → order_own (order_of u) (group_word d g j) ≡ false
  group_off j = let low = (start_from d fits g here).0 in off_above (group_word d g j) (STATE + 10 + 8 * u) (omega (arith, low, few))

  pub low_last : (j : ℕ) → word_of last (group_word d g j) ≡ lows_set ys j (low_set y j (word_of chip (group_word d g j)))
  low_last j = deeds_low d fits g u here few ys ofs c differs.whole j ∙ ap (λ v. lows_set ys j v) (differs.others (group_word d g j) (group_off j) ∙ deeds_low d fits g u here few (y ∷ []) (of, tt) chip whole j)

  pub unit_last : (j : ℕ) → j < 2 → word_of last (STATE + 8 + 8 * u + j) ≡ units_set ys j (unit_set y j (word_of chip (STATE + 8 + 8 * u + j)))
  unit_last j lt =
      let off : order_own (order_of u) (STATE + 8 + 8 * u + j) ≡ false = off_below (STATE + 8 + 8 * u + j) (STATE + 10 + 8 * u) (omega (arith, lt)) in
      deeds_unit d fits g u here few ys ofs c differs.whole j (omega (arith, lt)) ∙ ap (λ v. units_set ys j v) (differs.others (STATE + 8 + 8 * u + j) off ∙ deeds_unit d fits g u here few (y ∷ []) (of, tt) chip whole j (omega (arith, lt)))

  pub other_last : (k : ℕ) → ((i : ℕ) → i < 8 → k ≢ group_word d g i) → ((i : ℕ) → i < 5 → k ≢ STATE + 8 + 8 * u + i) → word_of last k ≡ word_of chip k
  other_last k f h = deeds_other d fits g u here few ys ofs c k f h ∙ (differs.others k (order_off k h) ∙ deeds_other d fits g u here few (y ∷ []) (of, tt) chip k f h)

  -- the order's words are left alone by deeds
  order_same : (zs : List WindowWrite) → AllOf g u zs → (b : Chip) → HasWords b → (k : ℕ) → order_own (order_of u) k ≡ true → word_of b k ≡ word_of (after_list (deed_move d) b zs) k
  order_same zs at b full k own =
      let both = order_within k (STATE + 10 + 8 * u) own in
      let low = both.0 in
      let high = both.1 in
      let is : STATE + 8 + 8 * u + (k - (STATE + 8 + 8 * u)) ≡ k = omega (arith, low) in
      subst (λ n. word_of b n ≡ word_of (after_list (deed_move d) b zs) n) is (sym (deeds_unit d fits g u here few zs at b full (k - (STATE + 8 + 8 * u)) (omega (arith, low, high)) ∙ units_high zs (k - (STATE + 8 + 8 * u)) _ (omega (arith, low))))

  pub order_first : (xs : List Entry) → HoldsOrder (order_of u) (word_of chip) xs → HoldsOrder (order_of u) (word_of first) xs
  order_first xs = holds-agree (order_of u) (word_of chip) (word_of first) xs (order_same (y ∷ []) (of, tt) chip whole)

  pub order_last : (xs : List Entry) → HoldsOrder (order_of u) (word_of c) xs → HoldsOrder (order_of u) (word_of last) xs
  order_last xs = holds-agree (order_of u) (word_of c) (word_of last) xs (order_same ys ofs c differs.whole)

  pub whole_first : HasWords first
  whole_first = length_after chip (deed_move d y) 0 ∙ whole

  pub stands_last : (w : World) → StandsIn chip w → StandsIn last w
  stands_last w h = stands_list d w ys c (stands_words first c w differs.rest differs.whole (stands-move chip w (deed_move d y) 0 h))

-- where no order is changed
pub differs_none : (own : ℕ → Bool) (c : Chip) → HasWords c → DiffersIn own c c
differs_none own c whole = record { rest = refl; whole = whole; others = λ k e. refl }
