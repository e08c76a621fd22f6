-- A configuration that was read is sound for the converter driver, and its arrays have the places of the groups' buffers.
use Rattle.std.proofs.Common.{◌≡◌, ℕ, ◌*◌, ◌<◌, ◌≤◌, zero, suc, ◌==◌, Bool, true, false, nat_lt, ◌&&◌, ◌||◌, List, [], ◌∷◌, length, Option, Some, None, refl, sym, ◌∙◌, ap, subst, arith}
use Rattle.std.specs.Prelude.{All, Contains, cond, if◌then◌else◌, is_some, slice_index_or, take}
use Rattle.std.specs.List.{find, list_any}
use Rattle.std.specs.Option.{IfSome, option_map, option_map_or}
use Rattle.std.proofs.lemmas.Bool.Decides.{nat_tests}
use Rattle.std.proofs.lemmas.List.{get_or-take, get_or_default, length-take-le}
use Rattle.config_facts.specs.Ids.{InRange, has_id, same_id}
use Rattle.config_facts.specs.Rules.{is_hardware, is_triggered_by, shares_trigger}
use Rattle.config_facts.specs.Valid.{IsAdc, IsGroup, unit_id}
use Rattle.mcal_base.specs.Layout.{length_of, of_id, place_of}
use Rattle.mcal_base.specs.declared.config.adc.AdcConfig.{AdcConfig}
use Rattle.mcal_base.specs.declared.config.adc.AdcGroup.{AdcGroup}
use Rattle.mcal_base.specs.declared.config.adc.AdcHwUnit.{AdcHwUnit}
use Rattle.mcal_base.specs.declared.config.adc.AdcTriggerSource.{AdcTriggerSource}
use Rattle.mcal_base.specs.declared.config.adc.AdcTriggerSource.TheVariants.{Software, Hardware}
use Rattle.mcal_base.specs.declared.config.whole.Config.{Config}
use Rattle.mcal_base.specs.declared.layout.Array.TheVariants.{Round}
use Rattle.adc_driver.specs.laws.words.ConfigurationFits as converter_fits
use Rattle.adc_machine.specs.Groups.{inputs_of, samples_of}
use Rattle.adc_machine.specs.Machine.{chosen_buffer, place_value}
use Rattle.adc_machine.specs.Table.{AreSmall, IsSmall, IsSmallInput, configured_input, found_in, group_of, input_by, level_in, start_in, table_of, taken}
use Rattle.adc_machine.specs.Turns.{AdcState}
use Rattle.adc_machine.specs.Words.{HoldsResults, buffer_number, place_count}
use Rattle.adc_machine.specs.declared.call.ResultBuffer.{ResultBuffer}
use Rattle.adc_machine.specs.declared.call.ResultBuffer.TheVariants.{Zero, One}
use Rattle.adc_machine.specs.declared.table.Group.{Group}
use Rattle.spi_sequences.specs.laws.hardware.SourceFilled.{any_in, not_both}
use Rattle.spi_sequences.specs.laws.words.WordsToState.{is_number, same_number}
use Rattle.mcal_drivers.specs.Setting.{SystemState}
use Rattle.mcal_drivers.specs.Shows.{buffer_of, results_at}

-- ---- groups

-- the unit that a group names is there
unit_there : (us : List AdcHwUnit) (u : ℕ) → has_id unit_id us u ≡ true → is_some (level_in us u) ≡ true
unit_there [] u e = absurd (cc)
unit_there (x ∷ us) u e = by (x.id == u) refl e (unit_there us u)
  where
    by : (q : Bool) → (x.id == u) ≡ q → (u == x.id) || has_id unit_id us u ≡ true → (has_id unit_id us u ≡ true → is_some (level_in us u) ≡ true) → is_some (if q then Some x.level else level_in us u) ≡ true
    by true is some rest = refl
    by false is some rest = rest (later (u == x.id) refl some)
      where
        later : (b : Bool) → (u == x.id) ≡ b → b || has_id unit_id us u ≡ true → has_id unit_id us u ≡ true
        later true same f = absurd (let own = same_number u in let is_it = is_number u x.id same in let same_too : (x.id == u) ≡ true = subst (λ z. (z == u) ≡ true) is_it own in cc)
        later false same f = f

input_few : (o : Option ℕ) → IfSome o (InRange 0 3) → (i : ℕ) → o ≡ Some i → i < 4
input_few None h i e = absurd (cc)
input_few (Some j) h i e = let most = h.most in let same : j ≡ i = some_is e in omega (arith, most, same)
  where
    some_is : Some j ≡ Some i → j ≡ i
    some_is f = cc

sound_group : (us : List AdcHwUnit) (x : AdcGroup) → IsGroup x → has_id unit_id us x.unit ≡ true → converter_fits.IsSoundGroup us x
sound_group us x v there = record {
  unit = ((let most = v.unit.most in omega (arith, most)), unit_there us x.unit there);
  some = (let enough = v.definition.enough in omega (arith, enough));
  few = v.definition.few;
  inputs = λ i d lt. (let most = (v.definition.each i d lt).most in omega (arith, most));
  samples = ((let least = v.streaming_num_samples.least in omega (arith, least)), v.streaming_num_samples.most);
  trigger = input_few x.trigger_input v.trigger_input;
}

-- ---- no two groups have one trigger input

-- the group that is found is one of the configured ones
found_at : (xs : List AdcGroup) (g : ℕ) (x : AdcGroup) → found_in xs g ≡ Some x → Contains xs x × (x.id ≡ g)
found_at [] g x e = absurd (cc)
found_at (y ∷ ys) g x e = by (y.id == g) refl e (found_at ys g x)
  where
    some_is : Some y ≡ Some x → y ≡ x
    some_is f = cc

    by : (q : Bool) → (y.id == g) ≡ q → (if q then Some y else found_in ys g) ≡ Some x → (found_in ys g ≡ Some x → Contains ys x × (x.id ≡ g)) → Contains (y ∷ ys) x × (x.id ≡ g)
    by true is f rest = ((0, omega arith, some_is f), ap (λ (z : AdcGroup). z.id) (sym (some_is f)) ∙ is_number y.id g is)
    by false is f rest = let r = rest f in ((suc r.0.0, (let lt = r.0.1 in omega (arith, lt)), r.0.2), r.1)

-- a trigger input that counts is a hardware one
input_is : (x : AdcGroup) (i : ℕ) → configured_input x ≡ Some i → (is_hardware (Some x.trigger_source) ≡ true) × (x.trigger_input ≡ Some i)
input_is x i e = by x.trigger_source e
  where
    by : (s : AdcTriggerSource) → input_by s x.trigger_input ≡ Some i → (is_hardware (Some s) ≡ true) × (x.trigger_input ≡ Some i)
    by Software f = absurd (cc)
    by Hardware f = (refl, f)

module _ (g : AdcConfig) (h : IsAdc g) where
  -- the earlier one of two would break the rule
  no_second : (p q i : ℕ) (a b : AdcGroup) → p < q → p < length g.groups → slice_index_or g.groups p a ≡ a → q < length g.groups → slice_index_or g.groups q b ≡ b → configured_input a ≡ Some i → configured_input b ≡ Some i → a ≡ b
  no_second p q i a b lt few own less other e f =
      let one = input_is a i e in
      let two = input_is b i f in
      let triggered : is_triggered_by a b.trigger_input ≡ true =
      ap (λ z. z && same_id a.trigger_input b.trigger_input) one.0 ∙ ap (λ o. same_id o b.trigger_input) one.1 ∙ ap (λ o. same_id (Some i) o) two.1 ∙ same_number i in
      not_both (shares_trigger (take q g.groups) b) (ap (λ z. z && list_any (λ (x : AdcGroup). is_triggered_by x b.trigger_input) (take q g.groups)) two.0 ∙ any_in (λ (x : AdcGroup). is_triggered_by x b.trigger_input) (take q g.groups) a earlier triggered) rule
    where
      rule : shares_trigger (take q g.groups) b ≡ false
      rule = subst (λ x. shares_trigger (take q g.groups) x ≡ false) other (h.rules.triggers q b less)

      earlier : Contains (take q g.groups) a
      earlier = (p, (let size : length (take q g.groups) ≡ q = length-take-le q g.groups (omega (arith, less)) in omega (arith, size, lt)), get_or-take q g.groups p a lt ∙ own)

  alone : (m n i : ℕ) (a b : AdcGroup) → found_in g.groups m ≡ Some a → found_in g.groups n ≡ Some b → configured_input a ≡ Some i → configured_input b ≡ Some i → m ≡ n
  alone m n i a b e f in_a in_b = by (found_at g.groups m a e) (found_at g.groups n b f)
    where
      below : (j k : ℕ) → nat_lt j k ≡ true → j < k
      below j k d = grind (arith, nat_tests)

      equal : (j k : ℕ) → nat_lt j k ≡ false → nat_lt k j ≡ false → j ≡ k
      equal j k d c = grind (arith, nat_tests)

      same : Contains g.groups a → Contains g.groups b → a ≡ b
      same (p, few, own) (q, less, other) = by_order (nat_lt p q) refl (nat_lt q p) refl
        where
          one : p ≡ q → a ≡ b
          one is = sym own ∙ get_or_default g.groups p a b few ∙ ap (λ k. slice_index_or g.groups k b) is ∙ other

          by_order : (u : Bool) → nat_lt p q ≡ u → (v : Bool) → nat_lt q p ≡ v → a ≡ b
          by_order true d v c = no_second p q i a b (below p q d) few own less other in_a in_b
          by_order false d true c = sym (no_second q p i b a (below q p c) less other few own in_b in_a)
          by_order false d false c = one (equal p q d c)

      by : Contains g.groups a × (a.id ≡ m) → Contains g.groups b × (b.id ≡ n) → m ≡ n
      by (own, is_a) (other, is_b) = sym is_a ∙ ap (λ (x : AdcGroup). x.id) (same own other) ∙ is_b

  pub sound_converters : converter_fits.IsSound g
  sound_converters = record { groups = λ k d lt. sound_group g.units (slice_index_or g.groups k d) (h.tables.groups.each k d lt) (h.units k d lt); alone = alone }

  -- all its numbers have room in a byte
  small_input : (o : Option ℕ) → IfSome o (InRange 0 3) → IsSmallInput o
  small_input None v = tt
  small_input (Some i) v = let most = v.most in omega (arith, most)

  small_group : (x : AdcGroup) → IsGroup x → IsSmall x
  small_group x v = record {
    unit = (let most = v.unit.most in omega (arith, most));
    inputs = (v.definition.few, λ i d lt. (let most = (v.definition.each i d lt).most in omega (arith, most)));
    priority = (let most = v.priority.most in omega (arith, most));
    samples = (let most = v.streaming_num_samples.most in omega (arith, most));
    trigger = small_input x.trigger_input v.trigger_input;
    level = (let most = v.level.most in omega (arith, most));
  }

  pub small_converters : AreSmall g
  small_converters = record {
    groups = λ k d lt. small_group (slice_index_or g.groups k d) (h.tables.groups.each k d lt);
    units = λ k d lt. (let most = (h.tables.units.each k d lt).level.most in omega (arith, most));
  }

-- ---- the places of buffers

abbrev places_by : Option AdcGroup → ℕ
places_by o = option_map_or (λ (x : AdcGroup). length x.definition * x.streaming_num_samples) o 0

-- the first group with a number is the one that is found
found_is : (xs : List AdcGroup) (g : ℕ) → find (λ (x : AdcGroup). x.id == g) xs ≡ found_in xs g
found_is [] g = refl
found_is (x ∷ xs) g = by (x.id == g) (found_is xs g)
  where
    by : (q : Bool) → find (λ (x : AdcGroup). x.id == g) xs ≡ found_in xs g → cond q (Some x) (find (λ (x : AdcGroup). x.id == g) xs) ≡ (if q then Some x else found_in xs g)
    by true more = refl
    by false more = more

-- the places of what is kept of a group
kept_places : (n : ℕ) (o : Option AdcGroup) → places_by o ≡ length (inputs_of (option_map (taken n) o)) * samples_of (option_map (taken n) o)
kept_places n None = refl
kept_places n (Some x) = refl

none_past : (xs : List AdcGroup) → All IsGroup xs → (g : ℕ) → 16 ≤ g → found_in xs g ≡ None
none_past [] each g le = refl
none_past (x ∷ xs) each g le = by (x.id == g) refl (none_past xs (λ i y lt. each (suc i) y (omega (arith, lt))) g le)
  where
    by : (q : Bool) → (x.id == g) ≡ q → found_in xs g ≡ None → (if q then Some x else found_in xs g) ≡ None
    by true e more = absurd (let most = (each 0 x (omega arith)).id.most in let is = is_number x.id g e in omega (arith, most, is, le))
    by false e more = more

module _ (c : Config) (v : IsAdc c.adc) (g : ℕ) where
  abbrev kept : Option Group
  kept = group_of (table_of c.adc) g

  kept_is : places_by (found_in c.adc.groups g) ≡ place_count (table_of c.adc) g
  kept_is = by (nat_lt g 16) refl
    where
      below : nat_lt g 16 ≡ true → g < 16
      below e = grind (arith, nat_tests)

      past : nat_lt g 16 ≡ false → 16 ≤ g
      past e = grind (arith, nat_tests)

      by : (q : Bool) → nat_lt g 16 ≡ q → places_by (found_in c.adc.groups g) ≡ length (inputs_of (if q then slice_index_or (table_of c.adc).groups g None else None)) * samples_of (if q then slice_index_or (table_of c.adc).groups g None else None)
      by true e = kept_places (start_in c.adc.groups g) (found_in c.adc.groups g) ∙ ap (λ k. length (inputs_of k) * samples_of k) (sym (converter_fits.group_is c.adc.groups g (below e)))
      by false e = ap places_by (none_past c.adc.groups v.tables.groups.each g (past e))

  -- a buffer has as many places as its group has inputs in all its rounds
  pub buffer_places : (b : ℕ) → b < 2 → length_of c (Round g b) ≡ place_count (table_of c.adc) g
  buffer_places b lt = by (nat_lt b 2) refl
    where
      by : (q : Bool) → nat_lt b 2 ≡ q → (if q then of_id (λ (x : AdcGroup). x.id) (λ (x : AdcGroup). length x.definition * x.streaming_num_samples) c.adc.groups g else 0) ≡ place_count (table_of c.adc) g
      by true e = ap places_by (found_is c.adc.groups g) ∙ kept_is
      by false e = absurd (let no : nat_lt b 2 ≡ true = grind (arith, nat_tests) in cc)

  -- there are two
  has_buffer : (b k : ℕ) → k < length_of c (Round g b) → b < 2
  has_buffer b k lt = by (nat_lt b 2) refl lt
    where
      by : (q : Bool) → nat_lt b 2 ≡ q → k < (if q then of_id (λ (x : AdcGroup). x.id) (λ (x : AdcGroup). length x.definition * x.streaming_num_samples) c.adc.groups g else 0) → b < 2
      by true e less = grind (arith, nat_tests)
      by false e less = absurd (omega (arith, less))

  -- what a place of one has is the machine's
  pub result_place : (b k : ℕ) (word : ℕ → ℕ) (s : AdcState) → HoldsResults word (table_of c.adc) s g → k < length_of c (Round g b) → word (place_of (Round g b) k) ≡ place_value s g (buffer_of b) k
  result_place b k word s holds lt = by b (has_buffer b k lt) (subst (λ n. k < n) (buffer_places b (has_buffer b k lt)) lt)
    where
      by : (n : ℕ) → n < 2 → k < place_count (table_of c.adc) g → word (place_of (Round g n) k) ≡ place_value s g (buffer_of n) k
      by zero few less = holds Zero k less
      by (suc zero) few less = holds One k less
      by (suc (suc n)) few less = absurd (omega (arith, few))

-- and the places that are shown of the chosen one are places of it
number_few : (b : ResultBuffer) → buffer_number b < 2
number_few Zero = omega arith
number_few One = omega arith

pub results_few : (c : Config) → IsAdc c.adc → (s : SystemState) (g : ℕ) → IfSome (results_at c s g) (λ found. found.1 ≤ length_of c (Round g found.0))
results_few c v s g = by (chosen_buffer s.1.1.0 g)
  where
    by : (o : Option ResultBuffer) → IfSome {T = ℕ × ℕ} (option_map (λ b. (buffer_number b, place_count (table_of c.adc) g)) o) (λ found. found.1 ≤ length_of c (Round g found.0))
    by None = tt
    by (Some b) = let same = buffer_places c v g (buffer_number b) (number_few b) in omega (arith, same)
