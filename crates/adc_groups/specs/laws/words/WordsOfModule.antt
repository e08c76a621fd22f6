-- Which words are the module's: those of units and groups, the banks and kept values, and the places of the users' buffers.
-- From services.InitSteps, words.Cases.
-- Used by hardware.StableUnderHardware, adc_driver: bookkeeping.MayMove, services.RequestRight and 38 more.
use Rattle.std.proofs.Common.{◌≡◌, ◌+◌, ◌-◌, ◌*◌, ◌/◌, ◌%◌, ◌<◌, ◌≤◌, ◌&&◌, ◌||◌, ◌==◌, [], ◌∷◌, ◌∙◌, if◌then◌else◌}
use Rattle.adc_groups.specs.Terms
use Terms.{AdcTable, all_groups, ap, arith, Bank, bank_number, bank_word, Bool, buffer_number, clear_at, cleared_group}
use Terms.{cleared_word, drop, false, FitsAdc, Group, group_clear, group_of, group_start, group_word, input_count}
use Terms.{inputs_of, is_full, is_in_buffer, is_linear_stream, is_on, is_own_word, is_result_word, is_some, is_word}
use Terms.{kept_word, length, List, list_any, listed, Load, Move, mul-le-mul_right, nat_le, nat_lt, nat_tests, None}
use Terms.{not, object_count, Option, option_as, or_left, or_right, order_of, order_own, own_of, place_count, refl}
use Terms.{result_word, ResultBuffer, rounds_of, samples_of, slice_get, slice_index_or, Some, SOURCES, STATE, Store}
use Terms.{subst, suc, trio_of, true, unit_level, unit_of, unit_word, whether_as, Word, word_number, Zero, zero, ℕ}
use Rattle.mcal_base.specs.{declared.layout.Array.TheVariants.{Round}, Layout.{start_of}}

-- ---- truth values

pub either_of : {A : Type 0} (P : A → Type 0) (q : Bool) (x y : A) → P x → P y → P (if q then x else y)
either_of P true x y h k = h
either_of P false x y h k = k

-- the store is one of a word of the module
abbrev pub IsOwnStore : AdcTable → Move → Type 0
IsOwnStore d (Store k v) = is_word d k ≡ true
IsOwnStore d _ = Unit {0}

-- an element behind those that were dropped
pub get_dropped : {A : Type 0} (n : ℕ) (xs : List A) (i : ℕ) (x : A) → slice_get (drop n xs) i ≡ Some x → slice_get xs (n + i) ≡ Some x
get_dropped zero xs i x e = let at : i ≡ 0 + i = omega arith in subst (λ k. slice_get xs k ≡ Some x) at e
get_dropped (suc n) [] i x e = absurd (cc)
get_dropped (suc n) (y ∷ ys) i x e = let at : suc (n + i) ≡ suc n + i = omega arith in subst (λ k. slice_get (y ∷ ys) k ≡ Some x) at (get_dropped n ys i x e)

-- ---- groups that are there

abbrev pub AllSmall : List ℕ → Type 0
AllSmall [] = Unit {0}
AllSmall (g ∷ gs) = (g < 16) × AllSmall gs

pub all_small : AllSmall all_groups
all_small = (omega arith, (omega arith, (omega arith, (omega arith, (omega arith, (omega arith, (omega arith, (omega arith, (omega arith, (omega arith, (omega arith, (omega arith, (omega arith, (omega arith, (omega arith, (omega arith, tt))))))))))))))))

-- a group that is there is below 16
pub within : (d : AdcTable) (g : ℕ) → is_some (group_of d g) ≡ true → g < 16
within d g h = whether_as (nat_lt g 16) (λ q. is_some (if q then slice_index_or d.groups g None else None) ≡ true → g < 16)
    (λ e h. grind (arith, nat_tests)) (λ e h. absurd (cc)) h

pub on_there : (u : ℕ) (k : Option Group) → is_on u k ≡ true → is_some k ≡ true
on_there u None e = absurd (cc)
on_there u (Some k) e = refl

-- ---- the module's own words

pub own_word : (d : AdcTable) (j : ℕ) → 40960 ≤ j → j < 40960 + (64 + 32 * object_count d + 6 * input_count d) → is_word d j ≡ true
own_word d j low high = or_left (is_own_word d j) (is_result_word d j) (by (64 + 32 * object_count d + 6 * input_count d) high)
  where
    by : (n : ℕ) → j < 40960 + n → not (nat_lt j 40960) && nat_lt j (40960 + n) ≡ true
    by n lt = grind (arith, nat_tests)

-- the first 64
pub first_words : (d : AdcTable) (j : ℕ) → j < 64 → is_word d (STATE + j) ≡ true
first_words d j lt = own_word d (STATE + j) (omega arith) (omega (arith, lt))

-- those of a unit, and its order
pub running_words : (d : AdcTable) (u : ℕ) → u < 2 → is_word d (word_number d (Word.Running u)) ≡ true
running_words d u lt = own_word d (word_number d (Word.Running u)) (omega arith) (omega (arith, lt))

pub claim_words : (d : AdcTable) (u : ℕ) → u < 2 → is_word d (word_number d (Word.Claim u)) ≡ true
claim_words d u lt = own_word d (word_number d (Word.Claim u)) (omega arith) (omega (arith, lt))

tally_words : (d : AdcTable) (u : ℕ) → u < 2 → is_word d ((order_of u).at + 2) ≡ true
tally_words d u lt = own_word d ((order_of u).at + 2) (omega arith) (omega (arith, lt))

pub order_words : (d : AdcTable) (u k : ℕ) → u < 2 → order_own (order_of u) k ≡ true → is_word d k ≡ true
order_words d u k lt own =
    let both : (40970 + 8 * u ≤ k) × (k ≤ 40972 + 8 * u) = (grind (arith, nat_tests), grind (arith, nat_tests)) in
    let low = both.0 in
    let high = both.1 in
    own_word d k (omega (arith, low)) (omega (arith, high, lt))

-- ---- the places of the users' buffers

any_in : (p : ℕ → Bool) (xs : List ℕ) (i g : ℕ) → slice_get xs i ≡ Some g → p g ≡ true → list_any p xs ≡ true
any_in p [] i g e h = absurd (cc)
any_in p (x ∷ xs) zero g e h = let same : x ≡ g = cc in or_left (p x) (list_any p xs) (ap p same ∙ h)
any_in p (x ∷ xs) (suc i) g e h = or_right (p x) (list_any p xs) (any_in p xs i g e h)

in_range : (first count p : ℕ) → p < count → not (nat_lt (first + p) first) && nat_lt (first + p) (first + count) ≡ true
in_range first count p lt = grind (arith, nat_tests)

pub place_words : (d : AdcTable) (g : ℕ) (b : ResultBuffer) (p : ℕ) → p < place_count d g → is_word d (result_word g b p) ≡ true
place_words d g b p lt = or_right (is_own_word d (result_word g b p)) (is_result_word d (result_word g b p)) (any_in (λ h. is_in_buffer d (result_word g b p) h ResultBuffer.Zero || is_in_buffer d (result_word g b p) h ResultBuffer.One) all_groups g g (listed g small) (by b))
  where
    small : g < 16
    small = within d g (option_as (group_of d g) (λ k. p < length (inputs_of k) * samples_of k → is_some k ≡ true)
        (λ _ _ _. refl) (λ _ few. absurd (omega (arith, few))) lt)

    by : (c : ResultBuffer) → is_in_buffer d (result_word g c p) g ResultBuffer.Zero || is_in_buffer d (result_word g c p) g ResultBuffer.One ≡ true
    by ResultBuffer.Zero = or_left _ _ (in_range (start_of (Round g 0)) (place_count d g) p lt)
    by ResultBuffer.One = or_right _ _ (in_range (start_of (Round g 1)) (place_count d g) p lt)

module _ (d : AdcTable) (fits : FitsAdc d) where
  -- a word of a group
  pub group_words : (g i : ℕ) → is_some (group_of d g) ≡ true → i < 32 + 6 * length (inputs_of (group_of d g)) → is_word d (group_word d g i) ≡ true
  group_words g i there lt = words_of_group (group_of d g) refl there lt
    where
      words_of_group : (k : Option Group) → group_of d g ≡ k → is_some k ≡ true → i < 32 + 6 * length (inputs_of k) → is_word d (STATE + group_start k + i) ≡ true
      words_of_group None e h few = absurd (cc)
      words_of_group (Some k) e h few =
          let last = (fits.groups g k e).words in
          own_word d (STATE + k.start + i) (omega arith) (omega (arith, few, last))

  pub low_words : (g i : ℕ) → is_some (group_of d g) ≡ true → i < 32 → is_word d (group_word d g i) ≡ true
  low_words g i there lt = group_words g i there (omega (arith, lt))

  few_banks : (n len j : ℕ) → n < 3 → j < len → 32 + n * len + j < 32 + 6 * len
  few_banks n len j lt small = let le : n * len ≤ 2 * len = (let two : n ≤ 2 = omega (arith, lt) in mul-le-mul_right len two) in omega (arith, le, small)

  pub bank_below : (b : Bank) → bank_number b < 3
  bank_below Zero = omega arith
  bank_below _ = omega arith

  -- a word of a group's banks, and a kept value
  pub bank_words : (g : ℕ) (b : Bank) (j : ℕ) → is_some (group_of d g) ≡ true → j < length (inputs_of (group_of d g)) → is_word d (bank_word (rounds_of d g) b j) ≡ true
  bank_words g b j there lt =
      let len = length (inputs_of (group_of d g)) in
      let few = few_banks (bank_number b) len j (bank_below b) lt in
      let same : STATE + group_start (group_of d g) + (32 + bank_number b * len + j) ≡ bank_word (rounds_of d g) b j = omega arith in
      subst (λ k. is_word d k ≡ true) same (group_words g (32 + bank_number b * len + j) there few)

  pub kept_words : (g j : ℕ) → is_some (group_of d g) ≡ true → j < length (inputs_of (group_of d g)) → is_word d (kept_word (rounds_of d g) j) ≡ true
  kept_words g j there lt =
      let len = length (inputs_of (group_of d g)) in
      let same : STATE + group_start (group_of d g) + (32 + 3 * len + j) ≡ kept_word (rounds_of d g) j = omega arith in
      subst (λ k. is_word d k ≡ true) same (group_words g (32 + 3 * len + j) there (omega (arith, lt)))

  -- the words of a group's three banks
  pub trio_words : (g k : ℕ) → is_some (group_of d g) ≡ true → own_of (trio_of (rounds_of d g)) k ≡ true → is_word d k ≡ true
  trio_words g k there own =
      let len = length (inputs_of (group_of d g)) in
      let start = group_start (group_of d g) in
      let t = trio_of (rounds_of d g) in
      trio_word (k == t.control) refl own
    where
      trio_word : (q : Bool) → (k == (trio_of (rounds_of d g)).control) ≡ q → own_of (trio_of (rounds_of d g)) k ≡ true → is_word d k ≡ true
      trio_word true e own =
          let same : k ≡ (trio_of (rounds_of d g)).control = grind (arith, nat_tests) in
          let at : STATE + group_start (group_of d g) + 7 ≡ k = omega (arith, same) in
          subst (λ j. is_word d j ≡ true) at (low_words g 7 there (omega arith))
      trio_word false e own =
          let len = length (inputs_of (group_of d g)) in
          let start = group_start (group_of d g) in
          let both : (40960 + start + 32 ≤ k) × (k < 40960 + start + 32 + 3 * len) = (grind (arith, nat_tests), grind (arith, nat_tests)) in
          let low = both.0 in
          let high = both.1 in
          let at : STATE + start + (k - (40960 + start)) ≡ k = omega (arith, low) in
          subst (λ j. is_word d j ≡ true) at (group_words g (k - (40960 + start)) there (omega (arith, low, high)))

  -- ---- all of them stand before the arrays that the outside fills

  own_below : (k n : ℕ) → not (nat_lt k 40960) && nat_lt k (40960 + n) ≡ true → n ≤ 8192 → k < SOURCES
  own_below k n e le = let lt : k < 40960 + n = grind (arith, nat_tests) in omega (arith, lt, le)

  few_places : (g : ℕ) → place_count d g ≤ 2048
  few_places g = option_as (group_of d g) (λ k. length (inputs_of k) * samples_of k ≤ 2048)
      (λ k e.
      let f = fits.groups g k e in
      let few = f.few in
      let most = f.places.1 in
      let row : length k.inputs * k.samples ≤ 32 * k.samples = mul-le-mul_right k.samples few in
      omega (arith, row, most))
      (λ e. omega arith)

  buffer_below : (k g : ℕ) (b : ResultBuffer) → g < 16 → is_in_buffer d k g b ≡ true → k < SOURCES
  buffer_below k g b lt e =
      let few = few_places g in
      let number = buffer_few b in
      let high : k < start_of (Round g (buffer_number b)) + place_count d g = in_high k (start_of (Round g (buffer_number b))) (place_count d g) e in
      omega (arith, few, number, high, lt)
    where
      buffer_few : (b : ResultBuffer) → buffer_number b < 2
      buffer_few ResultBuffer.Zero = omega arith
      buffer_few ResultBuffer.One = omega arith

      in_high : (k first count : ℕ) → not (nat_lt k first) && nat_lt k (first + count) ≡ true → k < first + count
      in_high k first count e = grind (arith, nat_tests)

  results_below : (k : ℕ) (gs : List ℕ) → AllSmall gs → list_any (λ g. is_in_buffer d k g ResultBuffer.Zero || is_in_buffer d k g ResultBuffer.One) gs ≡ true → k < SOURCES
  results_below k [] small e = absurd (cc)
  results_below k (g ∷ gs) small e = by (is_in_buffer d k g ResultBuffer.Zero) refl (is_in_buffer d k g ResultBuffer.One) refl (λ f. results_below k gs small.1 f) e
    where
      by : (p : Bool) → is_in_buffer d k g ResultBuffer.Zero ≡ p → (q : Bool) → is_in_buffer d k g ResultBuffer.One ≡ q → (list_any (λ g. is_in_buffer d k g ResultBuffer.Zero || is_in_buffer d k g ResultBuffer.One) gs ≡ true → k < SOURCES) → (p || q) || list_any (λ g. is_in_buffer d k g ResultBuffer.Zero || is_in_buffer d k g ResultBuffer.One) gs ≡ true → k < SOURCES
      by true i q j rest f = buffer_below k g ResultBuffer.Zero small.0 i
      by false i true j rest f = buffer_below k g ResultBuffer.One small.0 j
      by false i false j rest f = rest f

  pub words_below : (k : ℕ) → is_word d k ≡ true → k < SOURCES
  words_below k e = whether_as (is_own_word d k) (λ q. q || is_result_word d k ≡ true → k < SOURCES)
      (λ i _. own_below k (64 + 32 * object_count d + 6 * input_count d) i fits.room)
      (λ _ f. results_below k all_groups all_small f) e

  -- ---- what is known of groups that are there

  module _ (g : ℕ) (there : is_some (group_of d g) ≡ true) where
    known : (P : Option Group → Type 0) → ((k : Group) → group_of d g ≡ Some k → P (Some k)) → P (group_of d g)
    known P h = option_as (group_of d g) (λ k. is_some k ≡ true → P k) (λ k e _. h k e) (λ e i. absurd (cc)) there

    pub few_inputs : length (inputs_of (group_of d g)) ≤ 32
    few_inputs = known (λ k. length (inputs_of k) ≤ 32) (λ k e. (fits.groups g k e).few)

    pub some_samples : 0 < samples_of (group_of d g)
    some_samples = known (λ k. 0 < samples_of k) (λ k e. (fits.groups g k e).places.0)

    -- without a round its stream isn't full
    pub none_full : is_full (group_of d g) 0 ≡ false
    none_full = whether_as (is_linear_stream (group_of d g)) (λ q. q && nat_le (samples_of (group_of d g)) 0 ≡ false)
        (λ _. let some = some_samples in grind (arith, nat_tests)) (λ _. refl)

    pub some_inputs : 0 < length (inputs_of (group_of d g))
    some_inputs = known (λ k. 0 < length (inputs_of k)) (λ k e. (fits.groups g k e).some)

    pub unit_small : unit_of (group_of d g) < 2
    unit_small = known (λ k. unit_of k < 2) (λ k e. configured k.unit (fits.groups g k e).unit)
      where
        configured : (u : ℕ) → is_some (unit_level d u) ≡ true → u < 2
        configured u h = whether_as (nat_lt u 2) (λ q. is_some (if q then slice_index_or d.units u None else None) ≡ true → u < 2)
            (λ e h. grind (arith, nat_tests)) (λ e h. absurd (cc)) h

  pub unit_is : (u : ℕ) (k : Option Group) → is_on u k ≡ true → unit_of k ≡ u
  unit_is u None e = absurd (cc)
  unit_is u (Some k) e = grind (arith, nat_tests)

  pub unit_within : (u g : ℕ) → is_on u (group_of d g) ≡ true → u < 2
  unit_within u g e = subst (λ y. y < 2) (unit_is u (group_of d g) e) (unit_small g (on_there u (group_of d g) e))

  -- an input that is left is one of the group's
  pub left_small : (g n i input : ℕ) → is_some (group_of d g) ≡ true → slice_get (drop n (inputs_of (group_of d g))) i ≡ Some input → input < 32
  left_small g n i input there at = known g there (λ k. slice_get (drop n (inputs_of k)) i ≡ Some input → input < 32) (λ k e f. (fits.groups g k e).inputs (n + i) input (get_dropped n k.inputs i input f)) at

  -- the words that Adc_Init clears
  pub clear_words : (i : ℕ) → IsOwnStore d (clear_at d i)
  clear_words i = whether_as (nat_lt i 6) (λ q. IsOwnStore d (if q then Store (unit_word d (i / 3) (i % 3)) 0 else group_clear d (cleared_group d ((i - 6) / 4)) ((i - 6) % 4)))
      (λ e. let lt : i < 6 = grind (arith, nat_tests) in unit_own (i / 3) (i % 3) (omega (arith, lt)))
      (λ e. group_by (cleared_group d ((i - 6) / 4)) ((i - 6) % 4) (is_some (group_of d (cleared_group d ((i - 6) / 4)))) refl)
    where
      unit_own : (u at : ℕ) → u < 2 → is_word d (unit_word d u at) ≡ true
      unit_own u at lt = either_of (λ k. is_word d k ≡ true) (at == 0) _ _ (running_words d u lt) (either_of (λ k. is_word d k ≡ true) (at == 1) _ _ (claim_words d u lt) (tally_words d u lt))

      group_own : (g at : ℕ) → is_some (group_of d g) ≡ true → is_word d (word_number d (cleared_word g at)) ≡ true
      group_own g at there = either_of (λ k. is_word d (word_number d k) ≡ true) (at == 0) _ _ (low_words g 0 there (omega arith)) (either_of (λ k. is_word d (word_number d k) ≡ true) (at == 1) _ _ (low_words g 1 there (omega arith)) (either_of (λ k. is_word d (word_number d k) ≡ true) (at == 2) _ _ (low_words g 2 there (omega arith)) (low_words g 3 there (omega arith))))

      group_by : (g at : ℕ) (q : Bool) → is_some (group_of d g) ≡ q → IsOwnStore d (if q then Store (word_number d (cleared_word g at)) 0 else Load STATE)
      group_by g at true e = group_own g at e
      group_by g at false e = tt
