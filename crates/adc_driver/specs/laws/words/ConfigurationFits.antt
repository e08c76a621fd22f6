-- What a driver that is made of a sound configuration is: its groups, their trigger inputs and the places of their words.
-- From adc_groups: words.Cases.
-- Used by mcal_drivers: proofs/Joining, mcal_drivers: proofs/SoundConverters, mcal_system: proofs/Resting.
use Rattle.std.proofs.Common.{◌≡◌, ◌+◌, ◌*◌, ◌<◌, ◌≤◌, ◌==◌, [], ◌∷◌, ◌∙◌, if◌then◌else◌}
use Rattle.adc_driver.specs.Terms
use Terms.{AdcConfig, AdcGroup, AdcHwUnit, AdcTable, AdcTriggerSource, All, ap, arith, Bool, cond, configured_input}
use Terms.{count_by, count_by-le-length, end_of, false, FitsAdc, FitsGroup, found_in, get_or_default}
use Terms.{get_or_from_slice_get, Group, group_of, groups_of, Hardware, input_by, input_count, inputs_of, is_some}
use Terms.{length, level_in, List, nat_lt, nat_tests, None, object_count, Option, option_map, refl, slice_get}
use Terms.{slice_get_within, slice_index_or, Software, Some, start_in, subst, suc, sum_by, sum_by-cons, sum_by-le}
use Terms.{sym, table_of, taken, trigger_input, true, unit_level, whether, whether_as, words_for, zero, ℕ}
use Rattle.adc_machine.specs.Table.{group_in}
use Rattle.mcal_base.specs.facts.Options.{some_is}

-- ---- a sound configuration

-- a group's unit is configured; it has inputs, which are there, and places for its rounds; and a trigger input is one of the four
pub record IsSoundGroup (us : List AdcHwUnit) (x : AdcGroup) : Type 0 where
  pub unit : (x.unit < 2) × (is_some (level_in us x.unit) ≡ true)
  pub some : 0 < length x.definition
  pub few : length x.definition ≤ 32
  pub inputs : All (λ (i : ℕ). i < 32) x.definition
  pub samples : (0 < x.streaming_num_samples) × (x.streaming_num_samples ≤ 64)
  pub trigger : (i : ℕ) → x.trigger_input ≡ Some i → i < 4

-- groups are so, and no two have one trigger input
pub record IsSound (x : AdcConfig) : Type 0 where
  pub groups : All (IsSoundGroup x.units) x.groups
  pub alone : (g h i : ℕ) (a b : AdcGroup) → found_in x.groups g ≡ Some a → found_in x.groups h ≡ Some b → configured_input a ≡ Some i → configured_input b ≡ Some i → g ≡ h

-- ---- groups by number

found_is : (P : AdcGroup → Type 0) (xs : List AdcGroup) → All P xs → (g : ℕ) (x : AdcGroup) → found_in xs g ≡ Some x → P x
found_is P [] all g x e = absurd (cc)
found_is P (y ∷ ys) all g x e = by (found_is P ys (λ i z lt. all (suc i) z (omega (arith, lt))) g x) (y.id == g) e
  where
    by : (found_in ys g ≡ Some x → P x) → (q : Bool) → (if q then Some y else found_in ys g) ≡ Some x → P x
    by rest true f = subst P (some_is y x f) (all 0 y (omega arith))
    by rest false f = rest f

pub group_is : (xs : List AdcGroup) (g : ℕ) → g < 16 → slice_index_or (groups_of xs) g None ≡ group_in xs g
group_is xs (suc (suc (suc (suc (suc (suc (suc (suc (suc (suc (suc (suc (suc (suc (suc (suc i)))))))))))))))) lt = absurd (omega (arith, lt))
group_is xs _ lt = refl

-- ---- the words of groups

-- those of one, of all in a list, and of each number
abbrev cost : Option Group → ℕ
cost None = 0
cost (Some k) = 32 + 6 * length k.inputs

cost_is : (xs : List AdcGroup) (g : ℕ) → words_for (found_in xs g) ≡ cost (group_in xs g)
cost_is xs g =
    elim (found_in xs g) as (λ o. words_for o ≡ cost (option_map (taken (start_in xs g)) o))
    [ None ↦ refl | Some x ↦ refl ]

-- 32 for each group and six for each of its inputs
costs_are : (ks : List (Option Group)) → sum_by cost ks ≡ 32 * count_by is_some ks + 6 * sum_by (λ (k : Option Group). length (inputs_of k)) ks
costs_are [] = refl
costs_are (k ∷ ks) =
    let rest = costs_are ks in
    let all = sum_by-cons cost k ks in
    let objects = sum_by-cons (λ x. cond (is_some x) 1 0) k ks in
    let inputs = sum_by-cons (λ (k : Option Group). length (inputs_of k)) k ks in
    let first = by k in
    omega (arith, rest, all, objects, inputs, first)
  where
    by : (o : Option Group) → cost o ≡ 32 * cond (is_some o) 1 0 + 6 * length (inputs_of o)
    by None = refl
    by (Some x) = omega arith

-- the words of a group of a greater number stand after those of one of a smaller
starts_up : (xs : List AdcGroup) (g h : ℕ) → g ≤ h → start_in xs g ≤ start_in xs h
starts_up xs g zero le = let none : g ≡ 0 = omega (arith, le) in rw (none) omega arith
starts_up xs g (suc h) le = whether (nat_lt h g)
    (λ e. let same : g ≡ suc h = grind (arith, nat_tests) in subst (λ n. start_in xs g ≤ start_in xs n) same (omega arith))
    (λ e. let low : g ≤ h = grind (arith, nat_tests) in let more = starts_up xs g h low in omega (arith, more))

last_start : (xs : List AdcGroup) → start_in xs 16 ≡ 64 + sum_by cost (groups_of xs)
last_start xs =
    let c0 = cost_is xs 0 in
    let c1 = cost_is xs 1 in
    let c2 = cost_is xs 2 in
    let c3 = cost_is xs 3 in
    let c4 = cost_is xs 4 in
    let c5 = cost_is xs 5 in
    let c6 = cost_is xs 6 in
    let c7 = cost_is xs 7 in
    let c8 = cost_is xs 8 in
    let c9 = cost_is xs 9 in
    let c10 = cost_is xs 10 in
    let c11 = cost_is xs 11 in
    let c12 = cost_is xs 12 in
    let c13 = cost_is xs 13 in
    let c14 = cost_is xs 14 in
    let c15 = cost_is xs 15 in
    omega (arith, c0, c1, c2, c3, c4, c5, c6, c7, c8, c9, c10, c11, c12, c13, c14, c15)

-- ---- a driver

input_small : (ns : List ℕ) → All (λ (i : ℕ). i < 32) ns → (i n : ℕ) → slice_get ns i ≡ Some n → n < 32
input_small ns all i n e = subst (λ k. k < 32) (get_or_from_slice_get ns i n n e) (all i n (slice_get_within ns i n e))

input_few : (source : AdcTriggerSource) (input : Option ℕ) → ((i : ℕ) → input ≡ Some i → i < 4) → (i : ℕ) → input_by source input ≡ Some i → i < 4
input_few Software input few i e = absurd (cc)
input_few Hardware input few i e = few i e

module _ (x : AdcConfig) (sound : IsSound x) where
  abbrev d : AdcTable
  d = table_of x

  low : (g : ℕ) (k : Group) → group_of d g ≡ Some k → g < 16
  low g k e = by (nat_lt g 16) refl e
    where
      by : (q : Bool) → nat_lt g 16 ≡ q → (if q then slice_index_or d.groups g None else None) ≡ Some k → g < 16
      by true f h = grind (arith, nat_tests)
      by false f h = absurd (cc)

  -- a group is one of the configuration's
  abbrev IsTaken : ℕ → Group → Type 0
  IsTaken g k = (y : AdcGroup) × (found_in x.groups g ≡ Some y) × IsSoundGroup x.units y × (taken (start_in x.groups g) y ≡ k)

  group_at : (g : ℕ) → g < 16 → group_of d g ≡ group_in x.groups g
  group_at g lt = whether_as (nat_lt g 16) (λ q. (if q then slice_index_or d.groups g None else None) ≡ group_in x.groups g)
      (λ e. group_is x.groups g lt)
      (λ e. absurd (let no : nat_lt g 16 ≡ true = grind (arith, nat_tests) in cc))

  taken_at : (g : ℕ) (k : Group) → group_of d g ≡ Some k → IsTaken g k
  taken_at g k e = by (found_in x.groups g) refl (sym (group_at g (low g k e)) ∙ e)
    where
      by : (o : Option AdcGroup) → found_in x.groups g ≡ o → option_map (taken (start_in x.groups g)) o ≡ Some k → IsTaken g k
      by None f h = absurd (cc)
      by (Some y) f h = (y, f, found_is (IsSoundGroup x.units) x.groups sound.groups g y f, some_is (taken (start_in x.groups g) y) k h)

  -- where its words start and end
  start_is : (g : ℕ) (k : Group) → IsTaken g k → k.start ≡ start_in x.groups g
  start_is g k (y, f, s, is) = ap (λ (k : Group). k.start) (sym is)

  end_is : (g : ℕ) (k : Group) → IsTaken g k → end_of k ≡ start_in x.groups (suc g)
  end_is g k (y, f, s, is) = ap end_of (sym is) ∙ ap (λ o. start_in x.groups g + words_for o) (sym f)

  within_all : (g : ℕ) → g < 16 → start_in x.groups (suc g) ≤ 64 + 32 * object_count d + 6 * input_count d
  within_all g lt =
      let up = starts_up x.groups (suc g) 16 lt in
      let last = last_start x.groups in
      let costs = costs_are d.groups in
      omega (arith, up, last, costs)

  level_there : (u : ℕ) → u < 2 → unit_level d u ≡ level_in x.units u
  level_there (suc (suc u)) lt = absurd (omega (arith, lt))
  level_there _ lt = refl

  fits_group : (g : ℕ) (k : Group) → group_of d g ≡ Some k → FitsGroup d k
  fits_group g k e = from_taken (taken_at g k e)
    where
      from_taken : IsTaken g k → FitsGroup d k
      from_taken (y, f, s, is) =
          let first = starts_up x.groups 0 g (omega arith) in
          let start = start_is g k (y, f, s, is) in
          let last = end_is g k (y, f, s, is) in
          let all = within_all g (low g k e) in
          record {
            unit = subst (λ (k : Group). is_some (unit_level d k.unit) ≡ true) is (ap is_some (level_there y.unit s.unit.0) ∙ s.unit.1);
            some = subst (λ (k : Group). 0 < length k.inputs) is s.some;
            few = subst (λ (k : Group). length k.inputs ≤ 32) is s.few;
            inputs = subst (λ (k : Group). (i n : ℕ) → slice_get k.inputs i ≡ Some n → n < 32) is (λ i n at. input_small y.definition s.inputs i n at);
            places = subst (λ (k : Group). (0 < k.samples) × (k.samples ≤ 64)) is s.samples;
            trigger = subst (λ (k : Group). (i : ℕ) → k.trigger ≡ Some i → i < 4) is (λ i at. input_few y.trigger_source y.trigger_input s.trigger i at);
            start = omega (arith, first, start);
            words = omega (arith, last, all);
          }

  alone : (g h i : ℕ) → trigger_input (group_of d g) ≡ Some i → trigger_input (group_of d h) ≡ Some i → g ≡ h
  alone g h i e f = same_group (group_of d g) refl e (group_of d h) refl f
    where
      inputs : (k : Group) (n : ℕ) → IsTaken n k → k.trigger ≡ Some i → (y : AdcGroup) × (found_in x.groups n ≡ Some y) × (configured_input y ≡ Some i)
      inputs k n (y, f, s, is) at = (y, f, ap (λ (k : Group). k.trigger) is ∙ at)

      same_group : (k : Option Group) → group_of d g ≡ k → trigger_input k ≡ Some i → (j : Option Group) → group_of d h ≡ j → trigger_input j ≡ Some i → g ≡ h
      same_group (Some k) p a (Some j) q b =
          let one = inputs k g (taken_at g k p) a in
          let other = inputs j h (taken_at h j q) b in
          sound.alone g h i one.0 other.0 one.1 other.1 one.2 other.2
      same_group _ p a _ q b = absurd (cc)

  apart : (g h : ℕ) (k j : Group) → group_of d g ≡ Some k → group_of d h ≡ Some j → g < h → end_of k ≤ j.start
  apart g h k j e f lt =
      let last = end_is g k (taken_at g k e) in
      let start = start_is h j (taken_at h j f) in
      let up = starts_up x.groups (suc g) h lt in
      omega (arith, last, start, up)

  inputs_few : (o : Option Group) (g : ℕ) → g < 16 → group_of d g ≡ o → length (inputs_of o) ≤ 32
  inputs_few None g lt e = omega arith
  inputs_few (Some k) g lt e = (fits_group g k e).few

  inputs_at : (i : ℕ) (o : Option Group) → i < 16 → length (inputs_of (slice_index_or d.groups i o)) ≤ 32
  inputs_at i o lt = subst (λ k. length (inputs_of k) ≤ 32) (get_or_default d.groups i None o (omega (arith, lt))) (subst (λ k. length (inputs_of k) ≤ 32) (group_at i lt ∙ sym (group_is x.groups i lt)) (inputs_few (group_of d i) i lt refl))

  room : 64 + 32 * object_count d + 6 * input_count d ≤ 8192
  room =
      let units = count_by-le-length is_some d.units in
      let groups = count_by-le-length is_some d.groups in
      let inputs = sum_by-le (λ (k : Option Group). length (inputs_of k)) 32 d.groups (λ i o lt. inputs_at i o (omega (arith, lt))) in
      omega (arith, units, groups, inputs)

  -- the driver is made of it as it has to be
  pub fits_of : FitsAdc d
  fits_of = record { rows = omega arith; groups = fits_group; alone = alone; apart = apart; room = room }
