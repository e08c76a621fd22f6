-- Whose a driver word is.
use Rattle.std.proofs.Common.{◌≡◌, ℕ, zero, suc, ◌+◌, ◌-◌, ◌*◌, ◌<◌, ◌≤◌, ◌==◌, nat_lt, Bool, true, false, ◌||◌, cond, List, [], ◌∷◌, length, slice_index_or, Some, map, refl, sym, ◌∙◌, ap, arith, ◌⊎◌, inl, inr}
use Rattle.std.specs.Prelude.{All}
use Rattle.std.specs.List.{find, list_any}
use Rattle.std.specs.Option.{option_map_or}
use Rattle.std.proofs.lemmas.Bool.Decides.{nat_tests}
use Rattle.std.proofs.lemmas.Grind.{common_steps}
use Rattle.std.proofs.lemmas.List.Elements.{All-head, All-tail, All-map, All-append, All-nil}
use Rattle.std.proofs.lemmas.List.Folds.{list_any-append}
use Rattle.std.proofs.lemmas.List.Sums.{sum_by-le}
use Rattle.std.proofs.Math.Nat.{mul-le-mul_right}
use Rattle.std.proofs.lemmas.Bool.{or_left, or_right}
use Rattle.mcal_base.specs.facts.Numbers.{eq_is}
use Rattle.mcal_base.specs.Layout.{WithinLimits, of_id, length_of, words_of, internal_words, start_of, place_of, user_of, is_within, own_start, own_count, is_own_word, arrays_of, is_users_word, is_word_of}
use Rattle.mcal_base.specs.Names.{module_number}
use Rattle.mcal_base.specs.declared.config.adc.AdcGroup.{AdcGroup}
use Rattle.mcal_base.specs.declared.config.icu.IcuChannel.{IcuChannel}
use Rattle.mcal_base.specs.declared.config.spi.SpiChannel.{SpiChannel}
use Rattle.mcal_base.specs.declared.config.spi.SpiChannelType.{SpiChannelType}
use Rattle.mcal_base.specs.declared.config.spi.SpiChannelType.TheVariants.{Internal, External}
use Rattle.mcal_base.specs.declared.config.whole.Config.{Config}
use Rattle.mcal_base.specs.declared.layout.Array.{Array}
use Rattle.mcal_base.specs.declared.layout.Array.TheVariants.{Round, Stamps, Source, Destination}
use Rattle.mcal_base.specs.declared.module_name.ModuleName.{ModuleName}
use Rattle.mcal_base.specs.declared.module_name.ModuleName.TheVariants.{Mcu, Port, Gpt, Pwm, Icu, Adc, Spi, Dio, Wdg}
use Rattle.mcal_base.proofs.Places.{Placed, placed, alone}

pub within_is : (first count k : ℕ) → is_within first count k ≡ true → (first ≤ k) × (k < first + count)
within_is first count k h = (grind (arith, nat_tests, common_steps), grind (arith, nat_tests, common_steps))

pub within_from : (first count k : ℕ) → first ≤ k → k < first + count → is_within first count k ≡ true
within_from first count k h l = grind (arith, nat_tests, common_steps)

-- ---- a module's own words

internal_le : (t : SpiChannelType) → internal_words t ≤ words_of t
internal_le (Internal n) = omega arith
internal_le (External n) = omega arith

internal_few : (x : SpiChannel) → words_of x.channel_type ≤ 64 → internal_words x.channel_type ≤ 64
internal_few x h = omega (arith, h, internal_le x.channel_type)

pub own_few : (c : Config) (m : ModuleName) → WithinLimits c → own_count c m ≤ 8192
own_few c Mcu w = omega (arith, w.clock_settings, w.modes, w.ram_sections)
own_few c Port w = omega (arith, w.pins)
own_few c Gpt w = omega (arith, w.timers)
own_few c Pwm w = omega (arith, w.pulses)
own_few c Icu w = omega (arith, w.captures.0)
own_few c Adc w =
    let each : All (λ (g : AdcGroup). length g.definition ≤ 32) c.adc.groups = λ k d lt. (w.groups.1 k d lt).1 in
    let few = sum_by-le (λ (g : AdcGroup). length g.definition) 32 c.adc.groups each in
    let most : length c.adc.groups * 32 ≤ 16 * 32 = mul-le-mul_right 32 w.groups.0 in
    omega (arith, few, most, w.units, w.groups.0)
own_few c Spi w =
    let each : All (λ (x : SpiChannel). internal_words x.channel_type ≤ 64) c.spi.channels = λ k d lt. internal_few (slice_index_or c.spi.channels k d) (w.channels.1 k d lt).1 in
    let few = sum_by-le (λ (x : SpiChannel). internal_words x.channel_type) 64 c.spi.channels each in
    let most : length c.spi.channels * 64 ≤ 16 * 64 = mul-le-mul_right 64 w.channels.0 in
    omega (arith, few, most, w.channels.0, w.jobs, w.sequences)
own_few c Dio w = omega (arith, w.pin_groups)
own_few c Wdg w = omega arith

pub own_range : (c : Config) (m : ModuleName) (k : ℕ) → WithinLimits c → is_own_word c m k ≡ true → (own_start m ≤ k) × (k < own_start m + 8192)
own_range c m k w h = let r = within_is (own_start m) (own_count c m) k h in (r.0, omega (arith, r.1, own_few c m w))

-- ---- words of the users' arrays

any_first : {T : Type 0} (test : T → Bool) (P : T → Type 0) (x : T) (xs : List T) (b : Bool) → test x ≡ b → P x
    → (list_any test xs ≡ true → (y : T) × P y × (test y ≡ true)) → (b || list_any test xs) ≡ true → (y : T) × P y × (test y ≡ true)
any_first test P x xs true e p rest h = (x, p, e)
any_first test P x xs false e p rest h = rest h

any_of : {T : Type 0} (test : T → Bool) (P : T → Type 0) (xs : List T) → All P xs → list_any test xs ≡ true → (x : T) × P x × (test x ≡ true)
any_of test P [] all h = absurd (cc h)
any_of test P (x ∷ xs) all h = any_first test P x xs (test x) refl (All-head P x xs all) (any_of test P xs (All-tail P x xs all)) h

all_used : {T : Type 0} (m : ModuleName) (make : T → Array) (xs : List T) → ((x : T) → user_of (make x) ≡ m) → All (λ a. user_of a ≡ m) (map make xs)
all_used m make xs h = All-map (λ a. user_of a ≡ m) make xs (λ k d lt. h _)

users_alike : (c : Config) (m : ModuleName) → All (λ a. user_of a ≡ m) (arrays_of c m)
users_alike c Mcu = All-nil (λ a. user_of a ≡ Mcu)
users_alike c Port = All-nil (λ a. user_of a ≡ Port)
users_alike c Gpt = All-nil (λ a. user_of a ≡ Gpt)
users_alike c Pwm = All-nil (λ a. user_of a ≡ Pwm)
users_alike c Icu = all_used Icu (λ (x : IcuChannel). Stamps x.id) c.icu.channels (λ x. refl)
users_alike c Adc =
    All-append (λ a. user_of a ≡ Adc) (map (λ (g : AdcGroup). Round g.id 0) c.adc.groups) (map (λ (g : AdcGroup). Round g.id 1) c.adc.groups)
    (all_used Adc (λ (g : AdcGroup). Round g.id 0) c.adc.groups (λ x. refl))
    (all_used Adc (λ (g : AdcGroup). Round g.id 1) c.adc.groups (λ x. refl))
users_alike c Spi =
    All-append (λ a. user_of a ≡ Spi) (map (λ (x : SpiChannel). Source x.id) c.spi.channels) (map (λ (x : SpiChannel). Destination x.id) c.spi.channels)
    (all_used Spi (λ (x : SpiChannel). Source x.id) c.spi.channels (λ x. refl))
    (all_used Spi (λ (x : SpiChannel). Destination x.id) c.spi.channels (λ x. refl))
users_alike c Dio = All-nil (λ a. user_of a ≡ Dio)
users_alike c Wdg = All-nil (λ a. user_of a ≡ Wdg)

-- the place that a word of the users holds
pub record Holding (c : Config) (m : ModuleName) (k : ℕ) : Type 0 where
  pub array : Array
  pub index : ℕ
  pub user : user_of array ≡ m
  pub there : index < length_of c array
  pub word : place_of array index ≡ k

pub held : (c : Config) (m : ModuleName) (k : ℕ) → is_users_word c m k ≡ true → Holding c m k
held c m k h =
    let f = any_of (λ a. is_within (start_of a) (length_of c a) k) (λ a. user_of a ≡ m) (arrays_of c m) (users_alike c m) h in
    let r = within_is (start_of f.0) (length_of c f.0) k f.2 in
    record { array = f.0; index = k - start_of f.0; user = f.1; there = omega (arith, r.0, r.1); word = omega (arith, r.0) }

placed_range : (a : Array) (i : ℕ) → Placed a i → (73728 ≤ place_of a i) × (place_of a i < 147456)
placed_range (Round g b) i p = (omega arith, omega (arith, p.exists.0, p.exists.1, p.inside))
placed_range (Stamps n) i p = (omega arith, omega (arith, p.exists, p.inside))
placed_range (Source n) i p = (omega arith, omega (arith, p.exists, p.inside))
placed_range (Destination n) i p = (omega arith, omega (arith, p.exists, p.inside))

pub users_range : (c : Config) (m : ModuleName) (k : ℕ) → WithinLimits c → is_users_word c m k ≡ true → (73728 ≤ k) × (k < 147456)
users_range c m k w h =
    let p = held c m k h in
    let r = placed_range p.array p.index (placed c p.array p.index w p.there) in
    (omega (arith, r.0, p.word), omega (arith, r.1, p.word))

-- ---- each place is a word of its module's arrays

among_first : {T : Type 0} (id number : T → ℕ) (make : ℕ → Array) (test : Array → Bool) (x : T) (xs : List T) (n i : ℕ) (b : Bool) → (id x == n) ≡ b
    → test (make n) ≡ true → (i < of_id id number xs n → list_any test (map (λ y. make (id y)) xs) ≡ true)
    → i < option_map_or number (cond b (Some x) (find (λ y. id y == n) xs)) 0 → list_any test (map (λ y. make (id y)) (x ∷ xs)) ≡ true
among_first id number make test x xs n i true e h rest lt = or_left (test (make (id x))) _ (rw (eq_is (id x) n e) h)
among_first id number make test x xs n i false e h rest lt = or_right (test (make (id x))) _ (rest lt)

among : {T : Type 0} (id number : T → ℕ) (make : ℕ → Array) (test : Array → Bool) (xs : List T) (n i : ℕ)
    → i < of_id id number xs n → test (make n) ≡ true → list_any test (map (λ x. make (id x)) xs) ≡ true
among id number make test [] n i lt h = absurd (omega arith)
among id number make test (x ∷ xs) n i lt h = among_first id number make test x xs n i (id x == n) refl h (λ l. among id number make test xs n i l h) lt

no_buffer : (b : ℕ) → nat_lt (suc (suc b)) 2 ≡ false
no_buffer b = grind (arith, nat_tests)

-- the word is one of the array's
abbrev covers : Config → ℕ → Array → Bool
covers c k a = is_within (start_of a) (length_of c a) k

covers_place : (c : Config) (a : Array) (k : ℕ) → k < length_of c a → covers c (place_of a k) a ≡ true
covers_place c a k lt = within_from (start_of a) (length_of c a) (place_of a k) (omega arith) (omega (arith, lt))

pub listed : (c : Config) (a : Array) (k : ℕ) → k < length_of c a → is_users_word c (user_of a) (place_of a k) ≡ true
listed c (Stamps n) k lt = among (λ (x : IcuChannel). x.id) _ Stamps (covers c (place_of (Stamps n) k)) c.icu.channels n k lt (covers_place c (Stamps n) k lt)
listed c (Source n) k lt =
    let test = covers c (place_of (Source n) k) in
    list_any-append test (map (λ (x : SpiChannel). Source x.id) c.spi.channels) (map (λ (x : SpiChannel). Destination x.id) c.spi.channels)
    ∙ or_left _ _ (among (λ (x : SpiChannel). x.id) _ Source test c.spi.channels n k lt (covers_place c (Source n) k lt))
listed c (Destination n) k lt =
    let test = covers c (place_of (Destination n) k) in
    list_any-append test (map (λ (x : SpiChannel). Source x.id) c.spi.channels) (map (λ (x : SpiChannel). Destination x.id) c.spi.channels)
    ∙ or_right _ _ (among (λ (x : SpiChannel). x.id) _ Destination test c.spi.channels n k lt (covers_place c (Destination n) k lt))
listed c (Round g zero) k lt =
    let test = covers c (place_of (Round g 0) k) in
    list_any-append test (map (λ (x : AdcGroup). Round x.id 0) c.adc.groups) (map (λ (x : AdcGroup). Round x.id 1) c.adc.groups)
    ∙ or_left _ _ (among (λ (x : AdcGroup). x.id) _ (λ n. Round n 0) test c.adc.groups g k lt (covers_place c (Round g 0) k lt))
listed c (Round g (suc zero)) k lt =
    let test = covers c (place_of (Round g 1) k) in
    list_any-append test (map (λ (x : AdcGroup). Round x.id 0) c.adc.groups) (map (λ (x : AdcGroup). Round x.id 1) c.adc.groups)
    ∙ or_right _ _ (among (λ (x : AdcGroup). x.id) _ (λ n. Round n 1) test c.adc.groups g k lt (covers_place c (Round g 1) k lt))
listed c (Round g (suc (suc b))) k lt = absurd (omega (arith, rw (no_buffer b) at lt))

-- ---- no word is two modules'

module_at : ℕ → ModuleName
module_at n = slice_index_or (Mcu ∷ Port ∷ Gpt ∷ Pwm ∷ Icu ∷ Adc ∷ Spi ∷ Dio ∷ Wdg ∷ []) n Mcu

module_at-number : (m : ModuleName) → module_at (module_number m) ≡ m
unfolding module_at
module_at-number Mcu = refl
module_at-number Port = refl
module_at-number Gpt = refl
module_at-number Pwm = refl
module_at-number Icu = refl
module_at-number Adc = refl
module_at-number Spi = refl
module_at-number Dio = refl
module_at-number Wdg = refl

same_module : (m n : ModuleName) → module_number m ≡ module_number n → m ≡ n
same_module m n e = sym (module_at-number m) ∙ ap module_at e ∙ module_at-number n

few_modules : (m : ModuleName) → module_number m < 9
few_modules Mcu = omega arith
few_modules Port = omega arith
few_modules Gpt = omega arith
few_modules Pwm = omega arith
few_modules Icu = omega arith
few_modules Adc = omega arith
few_modules Spi = omega arith
few_modules Dio = omega arith
few_modules Wdg = omega arith

one_of : (a b : Bool) → (a || b) ≡ true → (a ≡ true) ⊎ (b ≡ true)
one_of true b h = inl refl
one_of false b h = inr h

pub apart : (c : Config) (m n : ModuleName) (k : ℕ) → WithinLimits c → is_word_of c m k ≡ true → is_word_of c n k ≡ true → m ≡ n
apart c m n k w h g = elim (one_of (is_own_word c m k) (is_users_word c m k) h) as (λ _. m ≡ n) [
  | inl own ↦ let r = own_range c m k w own in elim (one_of (is_own_word c n k) (is_users_word c n k) g) as (λ _. m ≡ n) [
    | inl other ↦ let s = own_range c n k w other in same_module m n (omega (arith, r.0, r.1, s.0, s.1))
    | inr other ↦ absurd (omega (arith, r.1, few_modules m, (users_range c n k w other).0))
  ]
  | inr used ↦ elim (one_of (is_own_word c n k) (is_users_word c n k) g) as (λ _. m ≡ n) [
    | inl other ↦ absurd (omega (arith, (own_range c n k w other).1, few_modules n, (users_range c m k w used).0))
    | inr other ↦
        let p = held c m k used in
        let q = held c n k other in
        let same = alone p.array p.index q.array q.index (placed c p.array p.index w p.there) (placed c q.array q.index w q.there) (q.word ∙ sym p.word) in
        sym p.user ∙ ap user_of (sym same.0) ∙ q.user
  ]
]
