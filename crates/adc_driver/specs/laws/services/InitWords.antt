-- What Adc_Init clears with the mask open, a word after the other, of a module that is uninitialised.
-- From adc_groups: services.InitSteps, adc_groups: hardware.AfterReset, adc_groups: words.WordsOfModule and 4 more.
-- Used by services.InitRight, services.InitActRight, services.BeginSteps.
use Rattle.std.proofs.Common.{◌≡◌, ◌≢◌, ◌+◌, ◌-◌, ◌/◌, ◌%◌, ◌<◌, ◌==◌, [], ◌∷◌, ◌∙◌, if◌then◌else◌}
use Rattle.adc_driver.specs.Terms
use Terms.{AdcState, AdcTable, Agrees, AllRight, and_from, ap, arith, begins_word, Bool, Call, Called, cases, Chip}
use Terms.{chip_after, clear_at, clear_words, cleared_group, cleared_word, Clears, false, first_words, FitsAdc}
use Terms.{fresh_history, group_clear, group_of, group_word, inl, inr, is_some, is_word, IsCleared, IsOwnStore}
use Terms.{IsQuiet, IsSound, IsZero, Load, may, Move, nat_lt, nat_tests, None, own_of, past_wrote, place_apart, refl}
use Terms.{Reservations, resets_chip, rests_agree, result_past, result_word, ResultBuffer, rounds_of, same_or_other}
use Terms.{some_hold, stands-move, start_from, STATE, Store, stored_other, stored_same, subst, sym, trio_apart}
use Terms.{trio_of, trio_past, true, unit_word, whether_as, Word, word_number, word_of, WORDS, words_below, World, ℕ}
use Rattle.adc_driver.specs.laws.words.EitherOne.{either}
use Rattle.adc_groups.specs.Refinement.{first_held, is_owed, put_of, take_of}
use Rattle.run_model.specs.Outside.{StandsIn}
use Rattle.mcal_base.specs.facts.Numbers.{lt_from}

-- ---- the moves

-- what is so of a store and of the load that clears nothing is so of each move
pub each_clear : (d : AdcTable) (P : Move → Type 0) → ((k : ℕ) → P (Store k 0)) → P (Load STATE) → (i : ℕ) → P (clear_at d i)
each_clear d P stores loads i =
    elim (nat_lt i 6) as (λ q. P (if q then Store (unit_word d (i / 3) (i % 3)) 0 else group_clear d (cleared_group d ((i - 6) / 4)) ((i - 6) % 4)))
    [ true ↦ stores (unit_word d (i / 3) (i % 3)) | false ↦ either P (is_some (group_of d (cleared_group d ((i - 6) / 4)))) _ _ (stores (word_number d (cleared_word (cleared_group d ((i - 6) / 4)) ((i - 6) % 4)))) loads ]

-- it resets nothing, begins no serial word, and is no commit
pub clears_calm : (d : AdcTable) (i : ℕ) → (resets_chip (clear_at d i) ≡ false) × (begins_word (clear_at d i) ≡ false)
clears_calm d = each_clear d (λ made. (resets_chip made ≡ false) × (begins_word made ≡ false)) (λ k. (refl, refl)) (refl, refl)

pub clears_past : (d : AdcTable) (w : World) (i : ℕ) → past_wrote w (clear_at d i) fresh_history ≡ fresh_history
clears_past d w = each_clear d (λ made. past_wrote w made fresh_history ≡ fresh_history) (λ k. refl) refl

-- a word that is cleared is the module's, and none that stands for anything while the module is uninitialised
pub record IsSpare (d : AdcTable) (k : ℕ) : Type 0 where
  pub other : k ≢ STATE
  pub banks : (g j : ℕ) → is_some (group_of d g) ≡ true → own_of (trio_of (rounds_of d g)) j ≡ true → j ≢ k
  pub places : (g : ℕ) (n : ResultBuffer) (p : ℕ) → result_word g n p ≢ k

abbrev IsSpared : AdcTable → Move → Type 0
IsSpared d (Store k v) = IsSpare d k × (v ≡ 0)
IsSpared d _ = Unit {0}

abbrev IsStored : Move → Type 0
IsStored (Store k v) = Unit {0}
IsStored (Load k) = k ≡ STATE
IsStored _ = ⊥

pub is_stored : (d : AdcTable) (i : ℕ) → IsStored (clear_at d i)
is_stored d = each_clear d IsStored (λ k. tt) refl

module _ (d : AdcTable) (fits : FitsAdc d) where
  -- one of the module's first words
  first_spare : (k : ℕ) → STATE < k → k < STATE + 64 → IsSpare d k
  first_spare k low high = record {
    other = λ e. omega (arith, low, e);
    banks = λ g j there own e. bank g j there own e;
    places = λ g n p e. let past = result_past g n p in omega (arith, past, high, e);
  }
    where
      bank : (g j : ℕ) → is_some (group_of d g) ≡ true → own_of (trio_of (rounds_of d g)) j ≡ true → j ≡ k → ⊥
      bank g j there own e = let past = trio_past (rounds_of d g) j own in let start = start_from d fits g there in let s = start.0 in omega (arith, past, s, high, e)

  group_spare : (g i : ℕ) → is_some (group_of d g) ≡ true → i < 7 → IsSpare d (group_word d g i)
  group_spare g i there lt = record {
    other = λ e. let start = start_from d fits g there in let s = start.0 in omega (arith, s, e);
    banks = λ h j here own e. trio_apart d fits g h i j there here lt own e;
    places = λ h n p e. place_apart d fits g i h n p there (omega (arith, lt)) e;
  }

  unit_spare : (u at : ℕ) → u < 2 → IsSpare d (unit_word d u at)
  unit_spare u at lt = either (IsSpare d) (at == 0) _ _ (first_spare _ (omega arith) (omega (arith, lt))) (either (IsSpare d) (at == 1) _ _ (first_spare _ (omega arith) (omega (arith, lt))) (first_spare _ (omega arith) (omega (arith, lt))))

  low_spare : (g at : ℕ) → is_some (group_of d g) ≡ true → IsSpare d (word_number d (cleared_word g at))
  low_spare g at there = either Spared (at == 0) _ _ (group_spare g 0 there (omega arith)) (either Spared (at == 1) _ _ (group_spare g 1 there (omega arith))
      (either Spared (at == 2) _ _ (group_spare g 2 there (omega arith)) (group_spare g 3 there (omega arith))))
    where
      Spared : Word → Type 0
      Spared x = IsSpare d (word_number d x)

  pub spared : (i : ℕ) → IsSpared d (clear_at d i)
  spared i = whether_as (nat_lt i 6) (λ q. IsSpared d (if q then Store (unit_word d (i / 3) (i % 3)) 0 else group_clear d (cleared_group d ((i - 6) / 4)) ((i - 6) % 4)))
      (λ e. let lt : i < 6 = grind (arith, nat_tests) in (unit_spare (i / 3) (i % 3) (omega (arith, lt)), refl))
      (λ e. of_group (cleared_group d ((i - 6) / 4)) ((i - 6) % 4) (is_some (group_of d (cleared_group d ((i - 6) / 4)))) refl)
    where
      of_group : (g at : ℕ) (q : Bool) → is_some (group_of d g) ≡ q → IsSpared d (if q then Store (word_number d (cleared_word g at)) 0 else Load STATE)
      of_group g at true e = (low_spare g at e, refl)
      of_group g at false e = tt

  -- ---- a frame may make them

  word_there : (k : ℕ) → is_word d k ≡ true → k < WORDS
  word_there k own = let lt = words_below d fits k own in omega (arith, lt)

  pub clears_may : (i : ℕ) → may d (clear_at d i) ≡ true
  clears_may i = by (clear_at d i) (clear_words d fits i) (is_stored d i)
    where
      state : is_word d STATE ≡ true
      state = first_words d 0 (omega arith)

      by : (made : Move) → IsOwnStore d made → IsStored made → may d made ≡ true
      by (Store k v) own is = and_from (is_word d k) (nat_lt k WORDS) own (lt_from k WORDS (word_there k own))
      by (Load k) own is = subst (λ n. may d (Load n) ≡ true) (sym is) (and_from (is_word d STATE) (nat_lt STATE WORDS) state (lt_from STATE WORDS (word_there STATE state)))
      by _ own is = absurd is

-- ---- what is held

abbrev pub clearing : ℕ → Reservations
clearing n = record { by = Called Call.Init; what = Clears n; acted = None } ∷ []

-- nothing is under way in a module that is uninitialised
pub off_quiet : (d : AdcTable) (w : World) (s : AdcState) → IsSound d w s → s.initialised ≡ false → IsQuiet s
off_quiet d w s sound off = record { rounds = λ u lt. (sound.rest off 0).1 u; triggers = λ g. (sound.groups g).trigger (sound.rest off g).0 }

-- what frames hold is nothing of banks and places
abbrev pub HoldsNone : AdcTable → Reservations → Type 0
HoldsNone d hs = ((g : ℕ) → None ≡ first_held (put_of d g) hs) × ((g : ℕ) → None ≡ first_held (take_of g) hs) × ((g : ℕ) (n : ResultBuffer) (p : ℕ) → some_hold (is_owed g n p) hs ≡ false)

-- such a module agrees still, whatever was cleared, where the word of its state, the banks and the places stay
pub off_agrees : (d : AdcTable) (before : Reservations) (n : ℕ) (a b : Chip) (w : World) (s : AdcState) → s.initialised ≡ false → HoldsNone d before → StandsIn b w → b.converters ≡ a.converters → word_of b STATE ≡ word_of a STATE
    → ((g j : ℕ) → is_some (group_of d g) ≡ true → own_of (trio_of (rounds_of d g)) j ≡ true → word_of b j ≡ word_of a j) → ((g : ℕ) (n : ResultBuffer) (p : ℕ) → word_of b (result_word g n p) ≡ word_of a (result_word g n p))
    → AllRight d b w s (clearing n) → Agrees d before a w s → Agrees d (clearing n) b w s
off_agrees d before n a b w s off none outside block state banks places right h = rests_agree d before (clearing n) a b w s s h (record {
  was = off_quiet d w s h.sound off;
  idle = λ g. (h.sound.rest off g).0;
  free = λ u lt. (h.sound.rest off 0).1 u;
  sound = h.sound;
  results = λ g n p. refl;
  outside = outside;
  block = block;
  state = state ∙ h.state;
  banks = banks;
  places = places;
  puts = none.0;
  takes = none.1;
  owed = none.2;
  right = right;
  backed = (λ u e. absurd (cc), tt);
  settled = λ e. absurd (let no = off in cc);
  left = λ e none. absurd (cc);
})

module _ (d : AdcTable) (fits : FitsAdc d) (chip : Chip) (w : World) (s : AdcState) (i : ℕ) (h : Agrees d (clearing i) chip w s) where
  off : s.initialised ≡ false
  off = h.right.0.1

  module _ (k : ℕ) (spare : IsSpare d k) (own : is_word d k ≡ true) (is : clear_at d i ≡ Store k 0) where
    abbrev stored : Chip
    stored = chip_after chip (Store k 0) 0

    here : word_of stored k ≡ 0
    here = stored_same chip k 0 0 (word_there d fits k own) h.outside.all.words

    word : (j : ℕ) → j ≢ k → word_of stored j ≡ word_of chip j
    word j ne = stored_other chip k 0 0 j ne

    -- what was cleared stays so
    zero_stays : (made : Move) → IsSpared d made → IsZero chip made → IsZero stored made
    zero_stays (Store j v) at e =
        elim (same_or_other j k)
        [ inl same ↦ ap (λ n. word_of stored n) same ∙ (here ∙ sym at.1) | inr ne ↦ word j ne ∙ e ]
    zero_stays _ at e = tt

    zeros : (j : ℕ) → j < i + 1 → IsCleared d stored j
    zeros j lt = cases (same_or_other j i)
        (λ same. subst (λ n. IsCleared d stored n) (sym same) (subst (λ z. IsZero stored z) (sym is) here))
        (λ ne. zero_stays (clear_at d j) (spared d fits j) (h.right.0.2 j (omega (arith, lt, ne))))

    clears_word : Agrees d (clearing (i + 1)) stored w s
    clears_word =
        off_agrees d (clearing i) (i + 1) chip stored w s off (λ g. refl, λ g. refl, λ g n p. refl) (stands-move chip w (Store k 0) 0 h.outside) refl (word STATE (λ e. spare.other (sym e)))
        (λ g j there of. word j (spare.banks g j there of)) (λ g n p. word (result_word g n p) (spare.places g n p)) ((refl, off, zeros), tt) h

  -- nothing is cleared
  clears_none : (k : ℕ) → clear_at d i ≡ Load k → Agrees d (clearing (i + 1)) chip w s
  clears_none k is = off_agrees d (clearing i) (i + 1) chip chip w s off (λ g. refl, λ g. refl, λ g n p. refl) h.outside refl refl (λ g j there of. refl) (λ g n p. refl) ((refl, off, zeros), tt) h
    where
      zeros : (j : ℕ) → j < i + 1 → IsCleared d chip j
      zeros j lt = cases (same_or_other j i)
          (λ same. subst (λ n. IsCleared d chip n) (sym same) (subst (λ z. IsZero chip z) (sym is) tt))
          (λ ne. h.right.0.2 j (omega (arith, lt, ne)))

  -- one more is cleared
  pub clears_step : Agrees d (clearing (i + 1)) (chip_after chip (clear_at d i) 0) w s
  clears_step = by (clear_at d i) refl (clear_words d fits i) (spared d fits i) (is_stored d i)
    where
      by : (made : Move) → clear_at d i ≡ made → IsOwnStore d made → IsSpared d made → IsStored made → Agrees d (clearing (i + 1)) (chip_after chip made 0) w s
      by (Store k v) e own spare is = subst (λ n. Agrees d (clearing (i + 1)) (chip_after chip (Store k n) 0) w s) (sym spare.1) (clears_word k spare.0 own (e ∙ ap (λ n. Store k n) spare.1))
      by (Load k) e own spare is = clears_none k e
      by _ e own spare is = absurd is

-- before the first one nothing is cleared
pub clearing_begins : (d : AdcTable) (chip : Chip) (w : World) (s : AdcState) → s.initialised ≡ false → Agrees d [] chip w s → Agrees d (clearing 0) chip w s
clearing_begins d chip w s off h = off_agrees d [] 0 chip chip w s off (λ g. refl, λ g. refl, λ g n p. refl) h.outside refl refl (λ g j there of. refl) (λ g n p. refl) ((refl, off, λ i lt. absurd (omega (arith, lt))), tt) h
