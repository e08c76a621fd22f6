-- What is known of the converter block's units.
use Rattle.std.proofs.Common.{◌≡◌, ℕ, ◌<◌, ◌≤◌, Bool, not, ◌&&◌, List, [], ◌∷◌, length, get_or, set, refl, sym, ◌∙◌, ap, arith, length-set, max, ◌⊎◌, inl, inr}
use Rattle.std.proofs.lemmas.List.{get_or_past, get_or_default, get_or-replicate}
use Rattle.std.specs.Prelude.{if◌then◌else◌, nat_lt, map, replicate}
use Rattle.std.proofs.lemmas.Bool.Decides.{nat_tests}
use Rattle.std.proofs.lemmas.List.FromFn.{fill_by_all}
use Rattle.mcal_base.specs.facts.Numbers.{lt_zero}
use Rattle.chip_blocks.specs.converter.Rounds.{no_round, ended, has_ended, input_of}
use Rattle.chip_blocks.specs.converter.Converters.{Converters, level_at, result, settled, unused, unit_at, with_unit, with_level, after_analog}
use Rattle.chip_blocks.specs.declared.converter.converter.Converter.{Converter}
use Rattle.chip_blocks.specs.declared.converter.converter.Levels.{Levels}

-- ---- units that aren't there

pub unit_at-above : (b : Converters) (u : ℕ) → length b.units ≤ u → unit_at b u ≡ unused
unit_at-above b u le = get_or_past b.units u unused le

nothing_ended : (i e : ℕ) (q : Bool) (x y : ℕ) → e ≡ 0 → (if nat_lt i e && q then x else y) ≡ y
nothing_ended i e q x y none = rw (none, lt_zero i) refl

zeros_at : (i : ℕ) → (i < 32) ⊎ (32 ≤ i) → get_or (replicate {A = ℕ} 32 0) i 0 ≡ 0
zeros_at i (inl lt) = get_or-replicate {A = ℕ} 32 i 0 0 lt
zeros_at i (inr le) = get_or_past (replicate {A = ℕ} 32 0) i 0 le

pub result-unused : (l : Levels) (now i : ℕ) → result l now unused i ≡ 0
unfolding unused
result-unused l now i =
    nothing_ended i (ended no_round now) (not (has_ended no_round i l.since)) (level_at l (input_of no_round i)) (get_or (replicate {A = ℕ} 32 0) i 0) (omega arith)
    ∙ zeros_at i (grind arith)

-- ---- results that are kept

-- what a loop over the places has made of the results: those that ended since, and are below n, are kept
abbrev pub kept_below : Levels → Converter → (n k : ℕ) → ℕ
kept_below l a n k =
    if nat_lt k n && not (has_ended a.round k l.since) then level_at l (input_of a.round k) else get_or a.results k 0

pub record SettledBelow (l : Levels) (a : Converter) (n : ℕ) (results : List ℕ) : Type 0 where
  pub size : length results ≡ 32
  pub done : (k : ℕ) → k < 32 → get_or results k 0 ≡ kept_below l a n k

-- all are done
all_passed : (k p s e : ℕ) → s ≤ p → e ≤ p → p ≤ max s e → (nat_lt k p && not (nat_lt k s)) ≡ (nat_lt k e && not (nat_lt k s))
all_passed k p s e from past within = grind (arith, nat_tests)

pub SettledBelow-all : (l : Levels) (now n : ℕ) (a : Converter) (results : List ℕ)
    → ended a.round l.since ≤ n → ended a.round now ≤ n → n ≤ max (ended a.round l.since) (ended a.round now)
    → SettledBelow l a n results → results ≡ (settled l now a).results
SettledBelow-all l now n a results from past within h =
    fill_by_all (λ i. result l now a i) results 32 0 h.size
    (λ k lt. h.done k lt
    ∙ ap (λ q. if q then level_at l (input_of a.round k) else get_or a.results k 0) (all_passed k n (ended a.round l.since) (ended a.round now) from past within))

-- ---- one unit's change

-- a unit that is there is found and changed
pub changed : (v b : Converters) (f : Converters → Converter → Converter) (u : ℕ) (d new : Converter)
    → v ≡ b → u < length v.units → new ≡ f v (get_or v.units u d)
    → record v { units = set v.units u new } ≡ with_unit b u (f b (unit_at b u))
changed v b f u d new is within made =
    rw (← is, made) (ap (λ x. record v { units = set v.units u (f v x) }) (get_or_default v.units u d unused within))

-- both units changed in the same way
pub both_changed : (f : Converter → Converter) (xs : List Converter) → length xs ≡ 2
    → set (set xs 0 (f (get_or xs 0 unused))) 1 (f (get_or (set xs 0 (f (get_or xs 0 unused))) 1 unused)) ≡ map f xs
both_changed f (x ∷ y ∷ []) size = refl
both_changed f [] size = absurd (cc size)
both_changed f (x ∷ []) size = absurd (omega (arith, size))
both_changed f (x ∷ y ∷ z ∷ zs) size = absurd (omega (arith, size))

-- both units are settled, and then a level is set
pub all_settled : (b first second v : Converters) (input value : ℕ) (levels : Levels)
    → first ≡ with_unit b 0 (settled b.levels b.time (unit_at b 0))
    → second ≡ with_unit first 1 (settled first.levels first.time (unit_at first 1))
    → v ≡ second → length v.units ≡ 2 → levels ≡ with_level v.levels input value v.time
    → record v { levels = levels } ≡ after_analog b input value
all_settled b first second v input value levels one two is size made =
    let f : Converter → Converter = settled b.levels b.time in
    let us : List Converter = set b.units 0 (f (unit_at b 0)) in
    let whole : v ≡ with_unit (with_unit b 0 (f (unit_at b 0))) 1 (f (get_or us 1 unused)) = rw (is, two, one) refl in
    let count : length v.units ≡ length b.units =
    ap (λ (c : Converters). length c.units) whole ∙ length-set us 1 (f (get_or us 1 unused)) ∙ length-set b.units 0 (f (unit_at b 0)) in
    rw (made, whole)
    (ap (λ xs. record b { units = xs; levels = with_level b.levels input value b.time }) (both_changed f b.units (sym count ∙ size)))
