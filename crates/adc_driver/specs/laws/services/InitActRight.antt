-- The move at which Adc_Init acts: the words that it has cleared stand for the machine's fresh state.
-- From adc_groups: services.InitSteps, adc_groups: hardware.AfterReset, services.InitWords and 4 more.
-- Used by services.InitRight.
use Rattle.std.proofs.Common.{◌≡◌, ◌≢◌, ◌+◌, ◌-◌, ◌*◌, ◌/◌, ◌%◌, ◌<◌, ◌||◌, ◌==◌, [], ◌∷◌, ◌∙◌, if◌then◌else◌}
use Rattle.adc_driver.specs.Terms
use Terms.{AdcState, AdcTable, Agrees, all_groups, ap, arith, Bool, Chip, chip_after, clear_at, clear_count}
use Terms.{cleared_group, cleared_word, cond, empty, false, first_of, FitsAdc, fresh, group_clear, group_of}
use Terms.{GroupAgrees, has_bit, is_on, is_some, is_trigger_line, is_unit_line, IsCleared, IsOrder, IsSound, IsZero}
use Terms.{List, Load, many_from, nat_lt, nat_tests, next_among, None, nth_from, order_of, Promised, refl}
use Terms.{rests_agree, result_past, result_word, rounds_of, Settled, Some, stands-move, start_from, STATE, Store}
use Terms.{stored_other, stored_same, subst, suc, sym, trio_past, true, unit_word, UnitAgrees, waits_for, whether_as}
use Terms.{within, Word, word_number, word_of, World, zero, ℕ}
use Rattle.adc_driver.specs.laws.services.InitWords.{clearing, off_quiet}
use Rattle.adc_groups.specs.laws.hardware.AfterReset.{untouched_sound}
use Rattle.mcal_base.specs.facts.Truths.{and_false}

-- all lines of the module are enabled
abbrev pub AreOn : (enabled : ℕ) → Type 0
AreOn v = (l : ℕ) → is_unit_line l || is_trigger_line l ≡ true → has_bit v l ≡ true

-- ---- the fresh state

module _ (d : AdcTable) (w : World) (s : AdcState) where
  fresh_sound : IsSound d w (fresh s)
  fresh_sound = record {
    groups = λ g. untouched_sound (group_of d g);
    waits = λ g q e. absurd (cc);
    runs = λ u r e. absurd (cc);
    marks = λ i e. absurd (cc);
    hears = λ g e i. absurd (cc);
    rest = λ e g. (refl, λ u. refl);
    off = λ e i. refl;
  }

  none_waits : (u g : ℕ) → waits_for d (fresh s) u g ≡ false
  none_waits u g = and_false (is_on u (group_of d g))

  none_next : (u : ℕ) (gs : List ℕ) → next_among d (fresh s) u gs ≡ None
  none_next u [] = refl
  none_next u (g ∷ gs) = ap (λ q. cond q (Some (first_of d (fresh s) g (next_among d (fresh s) u gs))) (next_among d (fresh s) u gs)) (none_waits u g) ∙ none_next u gs

  none_promised : (u : ℕ) → Promised d [] w (fresh s) u
  none_promised u = record { starts = λ e. absurd (let none : is_some (next_among d (fresh s) u all_groups) ≡ false = ap (λ o. is_some o) (none_next u all_groups) in cc); yields = λ e. absurd (cc) }

-- ---- the places of the configured groups

-- fewer come before a configured group than are configured
before_less : (d : AdcTable) (n from h g : ℕ) → g ≡ from + h → h < n → is_some (group_of d g) ≡ true → many_from d h from < many_from d n from
before_less d zero from h g is lt there = absurd (omega (arith, lt))
before_less d (suc n) from zero g is lt there = let same : g ≡ from = omega (arith, is) in subst (λ q. 0 < (if q then 1 + many_from d n (from + 1) else many_from d n (from + 1))) (sym (subst (λ z. is_some (group_of d z) ≡ true) same there)) (omega arith)
before_less d (suc n) from (suc h) g is lt there =
    let less = before_less d n (from + 1) h g (omega (arith, is)) (omega (arith, lt)) there in
    whether_as (is_some (group_of d from)) (λ q. (if q then 1 + many_from d h (from + 1) else many_from d h (from + 1)) < (if q then 1 + many_from d n (from + 1) else many_from d n (from + 1))) (λ _. omega (arith, less)) (λ _. less)

-- and it is found at that place
nth_is : (d : AdcTable) (n from h g : ℕ) → g ≡ from + h → h < n → is_some (group_of d g) ≡ true → nth_from d n from (many_from d h from) ≡ g
nth_is d zero from h g is lt there = absurd (omega (arith, lt))
nth_is d (suc n) from zero g is lt there = let same : g ≡ from = omega (arith, is) in ap (λ q. if q then from else nth_from d n (from + 1) 0) (subst (λ z. is_some (group_of d z) ≡ true) same there) ∙ sym same
nth_is d (suc n) from (suc h) g is lt there = by (is_some (group_of d from)) (nth_is d n (from + 1) h g (omega (arith, is)) (omega (arith, lt)) there)
  where
    many : ℕ
    many = many_from d h (from + 1)

    found : Bool → ℕ → ℕ
    found q i = if q then (if i == 0 then from else nth_from d n (from + 1) (i - 1)) else nth_from d n (from + 1) i

    later : 1 + many == 0 ≡ false
    later = grind (arith, nat_tests)

    back : 1 + many - 1 ≡ many
    back = omega arith

    by : (q : Bool) → nth_from d n (from + 1) many ≡ g → found q (if q then 1 + many else many) ≡ g
    by true is = ap (λ b. if b then from else nth_from d n (from + 1) (1 + many - 1)) later ∙ (ap (λ k. nth_from d n (from + 1) k) back ∙ is)
    by false is = is

-- ---- what was cleared

module _ (d : AdcTable) (chip : Chip) (all : (i : ℕ) → i < clear_count d → IsCleared d chip i) where
  -- the words of the units come first
  unit_zero : (i : ℕ) → i < 6 → IsZero chip (clear_at d i)
  unit_zero i lt = all i (omega (arith, lt))

  running_zero : (u : ℕ) → u < 2 → word_of chip (word_number d (Word.Running u)) ≡ 0
  running_zero zero lt = unit_zero 0 (omega arith)
  running_zero (suc zero) lt = unit_zero 3 (omega arith)
  running_zero (suc (suc u)) lt = absurd (omega (arith, lt))

  claim_zero : (u : ℕ) → u < 2 → word_of chip (word_number d (Word.Claim u)) ≡ 0
  claim_zero zero lt = unit_zero 1 (omega arith)
  claim_zero (suc zero) lt = unit_zero 4 (omega arith)
  claim_zero (suc (suc u)) lt = absurd (omega (arith, lt))

  order_zero : (u : ℕ) → u < 2 → word_of chip ((order_of u).at + 2) ≡ 0
  order_zero zero lt = unit_zero 2 (omega arith)
  order_zero (suc zero) lt = unit_zero 5 (omega arith)
  order_zero (suc (suc u)) lt = absurd (omega (arith, lt))

  -- and those of each configured group, whose place is how many come before it
  module _ (g : ℕ) (there : is_some (group_of d g) ≡ true) where
    small : g < 16
    small = within d g there

    abbrev before : ℕ
    before = many_from d g 0

    group_zero : (at : ℕ) → at < 4 → word_of chip (word_number d (cleared_word g at)) ≡ 0
    group_zero at lt = subst (λ made. IsZero chip made) is (all (6 + (4 * before + at)) (let less = before_less d 16 0 g g (omega arith) small there in omega (arith, less, lt)))
      where
        past : nat_lt (6 + (4 * before + at)) 6 ≡ false
        past = grind (arith, nat_tests)

        group : cleared_group d ((6 + (4 * before + at) - 6) / 4) ≡ g
        group = let place : (6 + (4 * before + at) - 6) / 4 ≡ before = omega (arith, lt) in ap (λ n. cleared_group d n) place ∙ nth_is d 16 0 g g (omega arith) small there

        place : (6 + (4 * before + at) - 6) % 4 ≡ at
        place = omega (arith, lt)

        is : clear_at d (6 + (4 * before + at)) ≡ Store (word_number d (cleared_word g at)) 0
        is = ap (λ q. if q then Store (unit_word d ((6 + (4 * before + at)) / 3) ((6 + (4 * before + at)) % 3)) 0 else group_clear d (cleared_group d ((6 + (4 * before + at) - 6) / 4)) ((6 + (4 * before + at) - 6) % 4)) past
            ∙ (ap (λ k. group_clear d k ((6 + (4 * before + at) - 6) % 4)) group ∙ (ap (λ n. group_clear d g n) place ∙ ap (λ q. if q then Store (word_number d (cleared_word g at)) 0 else Load STATE) there))

module _ (d : AdcTable) (fits : FitsAdc d) (chip : Chip) (w : World) (s : AdcState) (h : Agrees d (clearing (clear_count d)) chip w s) (on : AreOn chip.control.enabled) where
  abbrev acted : Chip
  acted = chip_after chip (Store STATE 1) 0

  word : (k : ℕ) → k ≢ STATE → word_of acted k ≡ word_of chip k
  word k ne = stored_other chip STATE 1 0 k ne

  abbrev zeros : (i : ℕ) → i < clear_count d → IsCleared d chip i
  zeros = h.right.0.2

  group_word_zero : (g at : ℕ) → is_some (group_of d g) ≡ true → at < 4 → word_of acted (word_number d (cleared_word g at)) ≡ 0
  group_word_zero g at there lt = word (word_number d (cleared_word g at)) (λ e. far at lt e) ∙ group_zero d chip zeros g there at lt
    where
      far : (at : ℕ) → at < 4 → word_number d (cleared_word g at) ≡ STATE → ⊥
      far (suc (suc (suc (suc at)))) lt e = absurd (omega (arith, lt))
      far _ lt e = let start = start_from d fits g there in let low = start.0 in omega (arith, low, e)

  group : (g : ℕ) → is_some (group_of d g) ≡ true → GroupAgrees d (word_of acted) (fresh s) g
  group g there = record {
    phase = group_word_zero g 0 there (omega arith);
    chosen = group_word_zero g 1 there (omega arith);
    notified = group_word_zero g 2 there (omega arith);
    turn = group_word_zero g 3 there (omega arith);
    count = λ e. absurd (e refl);
    place = λ e. absurd (e refl);
    kept = λ e. absurd (cc);
    values = λ e. absurd (cc);
  }

  order : (u : ℕ) → IsOrder d (fresh s) u []
  order u = record { there = λ g. refl; waits = λ i x e. absurd (cc); sorted = λ i j x y lt e. absurd (cc) }

  unit : (u : ℕ) → u < 2 → UnitAgrees d (word_of acted) (fresh s) u
  unit u lt = record {
    running = word (word_number d (Word.Running u)) (λ e. omega (arith, e)) ∙ running_zero d chip zeros u lt;
    order = ([], empty (order_of u) (word_of acted) (word ((order_of u).at + 2) (λ e. omega (arith, e)) ∙ order_zero d chip zeros u lt), order u);
  }

  settled : Settled d [] acted w (fresh s)
  settled = record {
    groups = group;
    units = unit;
    claims = λ u lt. ap (λ v. v == 0) (word (word_number d (Word.Claim u)) (λ e. omega (arith, e)) ∙ claim_zero d chip zeros u lt);
    lines = on;
    promised = λ u. none_promised d w s u;
  }

  pub renewed : Agrees d [] acted w (fresh s)
  renewed = rests_agree d (clearing (clear_count d)) [] chip acted w s (fresh s) h (record {
    was = off_quiet d w s h.sound h.right.0.1;
    idle = λ g. refl;
    free = λ u lt. refl;
    sound = fresh_sound d w s;
    results = λ g n p. refl;
    outside = stands-move chip w (Store STATE 1) 0 h.outside;
    block = refl;
    state = stored_same chip STATE 1 0 (omega arith) h.outside.all.words;
    banks = λ g j there own. word j (λ e. let past = trio_past (rounds_of d g) j own in omega (arith, past, e));
    places = λ g n p. word (result_word g n p) (λ e. let past = result_past g n p in omega (arith, past, e));
    puts = λ g. refl;
    takes = λ g. refl;
    owed = λ g n p. refl;
    right = tt;
    backed = tt;
    settled = λ e. settled;
    left = λ e none. absurd (cc);
  })
