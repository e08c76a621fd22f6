-- The pulse channel whose output is seen at a pin is the configured one that names it.
use Rattle.std.proofs.Common.{◌≡◌, ℕ, zero, suc, ◌+◌, ◌<◌, ◌≤◌, ◌==◌, Bool, true, false, ◌||◌, List, [], ◌∷◌, Option, Some, None, refl, sym, ◌∙◌, ap, subst, arith}
use Rattle.std.specs.Prelude.{All, AllPairs, if◌then◌else◌, cond, map, option_map, slice_index_or}
use Rattle.std.specs.List.{find, range_with_len}
use Rattle.std.proofs.lemmas.Bool.Decides.{nat_tests}
use Rattle.mcal_base.specs.facts.Numbers.{eq_self}
use Rattle.chip_blocks.specs.captures.Captures as captures
use Rattle.chip_model.specs.Chip.{channel_from}
use Rattle.chip_model.specs.Wiring.{wiring_of, output_in}
use Rattle.config_facts.specs.Ids.{same_id, Keeps}
use Rattle.config_facts.specs.Rules.{shares_pin}
use Rattle.config_facts.specs.Valid.{IsPulse, IsPwm, pulse_id}
use Rattle.mcal_base.specs.declared.config.pwm.PwmChannel.{PwmChannel}
use Rattle.mcal_base.specs.declared.config.whole.Config.{Config}
use Rattle.mcal_drivers.specs.Shows.{is_pin, channel_on}

-- ---- channels, one after another

abbrev Each : (PwmChannel → Type 0) → List PwmChannel → Type 0
Each P [] = Unit {0}
Each P (x ∷ xs) = P x × Each P xs

each_of : (P : PwmChannel → Type 0) (xs : List PwmChannel) → All P xs → Each P xs
each_of P [] h = tt
each_of P (x ∷ xs) h = (h 0 x (omega arith), each_of P xs (λ k d lt. h (suc k) d (omega (arith, lt))))

each_so : (P Q : PwmChannel → Type 0) (xs : List PwmChannel) → ((x : PwmChannel) → P x → Q x) → Each P xs → Each Q xs
each_so P Q [] so h = tt
each_so P Q (x ∷ xs) so h = (so x h.0, each_so P Q xs so h.1)

-- two channels have different numbers, and different pins where they have some
abbrev Differ : (earlier later : PwmChannel) → Type 0
Differ x y = ((y.id == x.id) ≡ false) × (same_id x.pin y.pin ≡ false)

abbrev AllDiffer : List PwmChannel → Type 0
AllDiffer [] = Unit {0}
AllDiffer (x ∷ xs) = Each (Differ x) xs × AllDiffer xs

or_first : (a b : Bool) → a || b ≡ false → a ≡ false
or_first true b e = cc
or_first false b e = refl

or_second : (a b : Bool) → a || b ≡ false → b ≡ false
or_second true b e = absurd (cc)
or_second false b e = e

all_differ : (xs : List PwmChannel) → AllPairs (λ (x y : PwmChannel). same_id (pulse_id y) (pulse_id x) ≡ false) xs → Keeps shares_pin xs → AllDiffer xs
all_differ [] once keeps = tt
all_differ (x ∷ xs) once keeps = (
  each_of (Differ x) xs (λ k d lt. (once 0 (suc k) d (omega arith) (omega (arith, lt)), or_first (same_id x.pin (slice_index_or xs k d).pin) _ (keeps (suc k) d (omega (arith, lt))))),
  all_differ xs (λ i j d lt le. once (suc i) (suc j) d (omega (arith, lt)) (omega (arith, le))) (λ k d lt. or_second (same_id x.pin (slice_index_or xs k d).pin) _ (keeps (suc k) d (omega (arith, lt)))),
)

-- ---- the channel that is found

abbrev on : (pin : ℕ) → PwmChannel → Bool
on p x = is_pin x.pin p

same : (x y : PwmChannel) → Some x ≡ Some y → x ≡ y
same x y e = cc

found_is : (P : PwmChannel → Type 0) (xs : List PwmChannel) (p : ℕ) (x : PwmChannel) → Each P xs → find (on p) xs ≡ Some x → P x
found_is P [] p x h e = absurd (cc)
found_is P (y ∷ xs) p x h e = by (is_pin y.pin p) (λ f. found_is P xs p x h.1 f) e
  where
    by : (q : Bool) → (find (on p) xs ≡ Some x → P x) → cond q (Some y) (find (on p) xs) ≡ Some x → P x
    by true more e = subst P (same y x e) h.0
    by false more e = more e

none_found : (xs : List PwmChannel) (p : ℕ) → find (on p) xs ≡ None → Each (λ y. is_pin y.pin p ≡ false) xs
none_found [] p e = tt
none_found (y ∷ xs) p e = by (is_pin y.pin p) refl (λ f. none_found xs p f) e
  where
    by : (q : Bool) → is_pin y.pin p ≡ q → (find (on p) xs ≡ None → Each (λ z. is_pin z.pin p ≡ false) xs) → cond q (Some y) (find (on p) xs) ≡ None → (is_pin y.pin p ≡ false) × Each (λ z. is_pin z.pin p ≡ false) xs
    by true i more e = absurd (cc)
    by false i more e = (i, more e)

-- ---- the outputs by number

none_seen : (xs : List PwmChannel) (p k : ℕ) → Each (λ y. is_pin y.pin p ≡ false) xs → is_pin (output_in xs k) p ≡ false
none_seen [] p k h = refl
none_seen (y ∷ xs) p k h = by (y.id == k) (none_seen xs p k h.1)
  where
    by : (q : Bool) → is_pin (output_in xs k) p ≡ false → is_pin (if q then y.pin else output_in xs k) p ≡ false
    by true more = h.0
    by false more = more

other_pin : (a b : Option ℕ) (p : ℕ) → is_pin a p ≡ true → same_id a b ≡ false → is_pin b p ≡ false
other_pin None b p e f = absurd (cc)
other_pin (Some m) None p e f = refl
other_pin (Some m) (Some n) p e f = grind (arith, nat_tests)

-- the output of this number is seen at the pin, and no other one
record IsSeen (output : ℕ → Option ℕ) (p i : ℕ) : Type 0 where
  at : is_pin (output i) p ≡ true
  sole : (k : ℕ) → is_pin (output k) p ≡ true → k ≡ i

module _ (y : PwmChannel) (xs : List PwmChannel) (p : ℕ) where
  turned : (m n : ℕ) → (m == n) ≡ false → (n == m) ≡ false
  turned m n e = grind (arith, nat_tests)

  equal : (m n : ℕ) → (m == n) ≡ true → n ≡ m
  equal m n e = grind (arith, nat_tests)

  first : Each (Differ y) xs → is_pin y.pin p ≡ true → IsSeen (output_in (y ∷ xs)) p y.id
  first apart i = record { at = ap (λ q. is_pin (if q then y.pin else output_in xs y.id) p) (eq_self y.id) ∙ i; sole = λ k. only k (y.id == k) refl }
    where
      only : (k : ℕ) (q : Bool) → (y.id == k) ≡ q → is_pin (if q then y.pin else output_in xs k) p ≡ true → k ≡ y.id
      only k true e h = equal y.id k e
      only k false e h = let none = none_seen xs p k (each_so (Differ y) (λ z. is_pin z.pin p ≡ false) xs (λ z a. other_pin y.pin z.pin p i a.1) apart) in absurd (cc)

  next : (i : ℕ) → is_pin y.pin p ≡ false → (i == y.id) ≡ false → IsSeen (output_in xs) p i → IsSeen (output_in (y ∷ xs)) p i
  next i off other h = record { at = ap (λ q. is_pin (if q then y.pin else output_in xs i) p) (turned i y.id other) ∙ h.at; sole = λ k. only k (y.id == k) }
    where
      only : (k : ℕ) (q : Bool) → is_pin (if q then y.pin else output_in xs k) p ≡ true → k ≡ i
      only k true g = absurd (cc)
      only k false g = h.sole k g

found_seen : (xs : List PwmChannel) (p : ℕ) (x : PwmChannel) → AllDiffer xs → find (on p) xs ≡ Some x → IsSeen (output_in xs) p x.id
found_seen [] p x apart e = absurd (cc)
found_seen (y ∷ xs) p x apart e = by (is_pin y.pin p) refl (λ f. found_seen xs p x apart.1 f) e
  where
    by : (q : Bool) → is_pin y.pin p ≡ q → (find (on p) xs ≡ Some x → IsSeen (output_in xs) p x.id) → cond q (Some y) (find (on p) xs) ≡ Some x → IsSeen (output_in (y ∷ xs)) p x.id
    by true i more e = subst (λ z. IsSeen (output_in (y ∷ xs)) p z.id) (same y x e) (first y xs p apart.0 i)
    by false i more e = next y xs p x.id i (found_is (Differ y) xs p x apart.0 e).0 (more e)

-- ---- the wiring

same_pin : (o : Option ℕ) (p : ℕ) → captures.is_pin o p ≡ is_pin o p
same_pin None p = refl
same_pin (Some q) p = refl

module _ (output : ℕ → Option ℕ) (p : ℕ) where
  none_from : ((k : ℕ) → is_pin (output k) p ≡ false) → (n j : ℕ) → channel_from j (map output (range_with_len j n)) p ≡ None
  none_from none zero j = refl
  none_from none (suc n) j = ap (λ q. if q then Some j else channel_from (j + 1) (map output (range_with_len (j + 1) n)) p) (same_pin (output j) p ∙ none j) ∙ none_from none n (j + 1)

  module _ (i : ℕ) (h : IsSeen output p i) where
    before : (j : ℕ) → j ≤ i → is_pin (output j) p ≡ false → j + 1 ≤ i
    before j le off = by (j == i) refl
      where
        equal_here : (j == i) ≡ true → j ≡ i
        equal_here e = grind (arith, nat_tests)

        by : (q : Bool) → (j == i) ≡ q → j + 1 ≤ i
        by true e = let on_here = subst (λ k. is_pin (output k) p ≡ true) (sym (equal_here e)) h.at in absurd (cc)
        by false e = grind (arith, nat_tests)

    abbrev chosen : (n j : ℕ) → Bool → Option ℕ
    chosen n j q = if q then Some j else channel_from (j + 1) (map output (range_with_len (j + 1) n)) p

    seen_from : (n j : ℕ) → j ≤ i → i < j + n → channel_from j (map output (range_with_len j n)) p ≡ Some i
    seen_from zero j le lt = absurd (omega (arith, le, lt))
    seen_from (suc n) j le lt = by (is_pin (output j) p) refl (λ more. seen_from n (j + 1) more (omega (arith, lt)))
      where
        by : (q : Bool) → is_pin (output j) p ≡ q → (j + 1 ≤ i → chosen n j false ≡ Some i) → chosen n j (captures.is_pin (output j) p) ≡ Some i
        by true e more = ap (λ q. chosen n j q) (same_pin (output j) p ∙ e) ∙ ap (λ k. Some k) (h.sole j e)
        by false e more = ap (λ q. chosen n j q) (same_pin (output j) p ∙ e) ∙ more (before j le e)

-- ---- the channel of a pin

module _ (c : Config) (p : ℕ) (v : IsPwm c.pwm) where
  pub few : (x : PwmChannel) → channel_on c p ≡ Some x → x.id < 8
  few x e = let most = (found_is IsPulse c.pwm.channels p x (each_of IsPulse c.pwm.channels v.tables.channels.each) e).id.most in omega (arith, most)

  pub named : channel_from 0 (wiring_of c).outputs p ≡ option_map (λ (x : PwmChannel). x.id) (channel_on c p)
  unfolding wiring_of
  named = by (channel_on c p) refl
    where
      by : (q : Option PwmChannel) → channel_on c p ≡ q → channel_from 0 (map (output_in c.pwm.channels) (range_with_len 0 8)) p ≡ option_map (λ (x : PwmChannel). x.id) q
      by None e = none_from (output_in c.pwm.channels) p (λ k. none_seen c.pwm.channels p k (none_found c.pwm.channels p e)) 8 0
      by (Some x) e = let lt = few x e in seen_from (output_in c.pwm.channels) p x.id (found_seen c.pwm.channels p x (all_differ c.pwm.channels v.tables.channels.once v.rules.pins) e) 8 0 (omega arith) (omega (arith, lt))
