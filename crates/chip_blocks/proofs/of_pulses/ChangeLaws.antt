-- Where an output changes its level: the definition's counts against the levels from one unit of time to the next.
use Rattle.std.proofs.Common.{◌≡◌, ℕ, ◌+◌, ◌-◌, ◌*◌, ◌/◌, ◌%◌, ◌<◌, ◌≤◌, Bool, true, false, not, ◌&&◌, ◌==◌, nat_lt, refl, sym, ◌∙◌, ap, arith, ◌⊎◌, inl, inr}
use Rattle.std.specs.Prelude.{if◌then◌else◌}
use Rattle.std.proofs.lemmas.Nat.{div-add-mod', mod-mul-add, le-div}
use Rattle.std.proofs.Math.Nat.{mod-lt, mul-mod_left, mul-le-mul_right, div-mul-le_self}
use Rattle.std.proofs.lemmas.Bool.{and_from, and_parts}
use Rattle.mcal_base.specs.facts.Numbers.{isnt_zero, lt_from, lt_is, lt_isnt, lt_since, zero_from}
use Rattle.chip_blocks.specs.pulses.Regime.{regime_level, regime_changed, changes_by, periods_by, duties_by, alternates, turns_to}
use Rattle.chip_blocks.specs.declared.pulses.regime.Regime.{Regime}

-- ---- numbers

-- from one unit of time to the next, with x units after the start before it: the duty test changes so
pub record Turn (p a x y : ℕ) (before after : Bool) : Type 0 where
  pub at : ℕ
  pub above : x < at
  pub within : at ≤ y
  pub was : nat_lt ((at - 1) % p) a ≡ before
  pub is : nat_lt (at % p) a ≡ after

-- the duties that are over after so many units
abbrev over : Bool → ℕ
over q = if q then 0 else 1

abbrev duties : (p a x : ℕ) → ℕ
duties p a x = x / p + over (nat_lt (x % p) a)

less_or_same_or_more : (n m : ℕ) → (n ≤ m) ⊎ (m + 1 ≤ n)
less_or_same_or_more n m = grind arith

step_back : (k p : ℕ) → 0 < p → (k + 1) * p - 1 ≡ k * p + (p - 1)
step_back k p h = omega arith

duty_back_one : (k p a : ℕ) → 0 < a → k * p + a - 1 ≡ k * p + (a - 1)
duty_back_one k p a h = omega arith

-- a period ends
period_turn_at : (k x y p a : ℕ) → 0 < a → a < p → y / p ≡ k + 1 → x / p < y / p → Turn p a x y false true
period_turn_at k x y p a some less at more =
    let pos : 0 < p = omega (arith, less) in
    let end : (k + 1) * p ≤ y = rw (← at) (div-mul-le_self y p) in
    let up : (x / p + 1) * p ≤ (k + 1) * p = mul-le-mul_right p (omega (arith, at, more)) in
    let rest : x % p < p = mod-lt x pos in
    let whole : x / p * p + x % p ≡ x = div-add-mod' x p in
    let zero_at : (k + 1) * p % p ≡ 0 = mul-mod_left (k + 1) p in
    let last : ((k + 1) * p - 1) % p ≡ p - 1 = ap (λ n. n % p) (step_back k p pos) ∙ mod-mul-add k p (p - 1) (omega (arith, pos)) in
    record {
      at = (k + 1) * p;
      above = omega (arith, up, rest, whole);
      within = end;
      was = ap (λ n. nat_lt n a) last ∙ lt_since (p - 1) a (omega (arith, less));
      is = ap (λ n. nat_lt n a) zero_at ∙ lt_from 0 a some;
    }

pub period_turn : (x y p a : ℕ) → 0 < a → a < p → x / p < y / p → Turn p a x y false true
period_turn x y p a some less more = period_turn_at (y / p - 1) x y p a some less (omega (arith, more)) more

-- a duty ends
duty_within : (k y p a : ℕ) (q : Bool) → nat_lt (y % p) a ≡ q → a < p → y / p + over q ≡ k + 1 → k * p + a ≤ y
duty_within k y p a true e less at =
    let whole : y / p * p + y % p ≡ y = div-add-mod' y p in
    let is : y / p * p ≡ (k + 1) * p = ap (λ n. n * p) (omega (arith, at)) in
    omega (arith, whole, is, less)
duty_within k y p a false e less at =
    let whole : y / p * p + y % p ≡ y = div-add-mod' y p in
    let same : y / p ≡ k = omega (arith, at) in
    let is : y / p * p ≡ k * p = ap (λ n. n * p) same in
    omega (arith, whole, is, lt_isnt (y % p) a e)

duty_above : (k x p a : ℕ) (q : Bool) → nat_lt (x % p) a ≡ q → 0 < p → x / p + over q ≤ k → x < k * p + a
duty_above k x p a true e pos few =
    let whole : x / p * p + x % p ≡ x = div-add-mod' x p in
    let up : x / p * p ≤ k * p = mul-le-mul_right p (omega (arith, few)) in
    omega (arith, whole, up, lt_is (x % p) a e)
duty_above k x p a false e pos few =
    let whole : x / p * p + x % p ≡ x = div-add-mod' x p in
    let rest : x % p < p = mod-lt x pos in
    let up : (x / p + 1) * p ≤ k * p = mul-le-mul_right p few in
    omega (arith, whole, rest, up)

duty_turn_at : (k x y p a : ℕ) → 0 < a → a < p → duties p a y ≡ k + 1 → duties p a x ≤ k → Turn p a x y true false
duty_turn_at k x y p a some less at few =
    let pos : 0 < p = omega (arith, less) in
    record {
      at = k * p + a;
      above = duty_above k x p a (nat_lt (x % p) a) refl pos few;
      within = duty_within k y p a (nat_lt (y % p) a) refl less at;
      was =
          ap (λ n. nat_lt (n % p) a) (duty_back_one k p a some)
          ∙ ap (λ n. nat_lt n a) (mod-mul-add k p (a - 1) (omega (arith, less)))
          ∙ lt_from (a - 1) a (omega (arith, some));
      is = ap (λ n. nat_lt n a) (mod-mul-add k p a less) ∙ lt_since a a (omega arith);
    }

pub duty_turn : (x y p a : ℕ) → 0 < a → a < p → duties p a x < duties p a y → Turn p a x y true false
duty_turn x y p a some less more = duty_turn_at (duties p a y - 1) x y p a some less (omega (arith, more)) (omega (arith, more))

-- ---- and back: where the test changes, the counts do

pub record Counted (p a n m : ℕ) : Type 0 where
  pub some : 0 < a
  pub less : a < p
  pub more : n < m

next_or_last : (m p : ℕ) → m < p → (m + 1 < p) ⊎ (m + 1 ≡ p)
next_or_last m p h = grind arith

quotient_le : (x z p : ℕ) → 0 < p → x ≤ z → x / p ≤ z / p
quotient_le x z p pos h = le-div (x / p) z p pos (omega (arith, h, div-mul-le_self x p))

-- the next unit after z, in the same period or at its end
next_in : (z p : ℕ) → z % p + 1 < p → (z + 1) % p ≡ z % p + 1
next_in z p h =
    let whole : z / p * p + z % p ≡ z = div-add-mod' z p in
    let is : z + 1 ≡ z / p * p + (z % p + 1) = omega (arith, whole) in
    ap (λ n. n % p) is ∙ mod-mul-add (z / p) p (z % p + 1) h

end_is : (z p : ℕ) → z % p + 1 ≡ p → z + 1 ≡ (z / p + 1) * p
end_is z p h = let whole : z / p * p + z % p ≡ z = div-add-mod' z p in omega (arith, whole, h)

next_end : (z p : ℕ) → z % p + 1 ≡ p → (z + 1) % p ≡ 0
next_end z p h = ap (λ n. n % p) (end_is z p h) ∙ mul-mod_left (z / p + 1) p

pub period_back : (x y z p a : ℕ) → x ≤ z → z + 1 ≤ y → 0 < p → nat_lt (z % p) a ≡ false → nat_lt ((z + 1) % p) a ≡ true → Counted p a (x / p) (y / p)
period_back x y z p a le within pos was is = elim (next_or_last (z % p) p (mod-lt z pos)) [
  | inl more ↦
      let now : (z + 1) % p < a = lt_is ((z + 1) % p) a is in
      absurd (omega (arith, now, next_in z p more, lt_isnt (z % p) a was))
  | inr last ↦
      let now : (z + 1) % p < a = lt_is ((z + 1) % p) a is in
      let up : z / p + 1 ≤ y / p = le-div (z / p + 1) y p pos (omega (arith, within, end_is z p last)) in
      let low : x / p ≤ z / p = quotient_le x z p pos le in
      record {
        some = omega (arith, now, next_end z p last);
        less = omega (arith, lt_isnt (z % p) a was, last);
        more = omega (arith, up, low);
      }
]

less_or_same : (n m : ℕ) → n ≤ m → (n < m) ⊎ (n ≡ m)
less_or_same n m h = grind arith

whole_part : (x p k : ℕ) → x / p ≡ k → k * p + x % p ≡ x
whole_part x p k e = ap (λ n. n * p + x % p) (sym e) ∙ div-add-mod' x p

over_few : (q : Bool) (n k : ℕ) → n < k → n + over q ≤ k
over_few true n k h = omega (arith, h)
over_few false n k h = omega (arith, h)

-- before the duty of period k is over, at most k duties are
quotient_few : (k x p a : ℕ) → 0 < p → x < k * p + a → a < p → x / p ≤ k
quotient_few k x p a pos h less = elim (less_or_same_or_more (x / p) k) [
  | inl few ↦ few
  | inr more ↦
      let up : (k + 1) * p ≤ x / p * p = mul-le-mul_right p more in
      absurd (omega (arith, up, div-mul-le_self x p, h, less))
]

few_at : (k x p a : ℕ) (q : Bool) → nat_lt (x % p) a ≡ q → x < k * p + a → x / p ≡ k → x / p + over q ≤ k
few_at k x p a true e h at = omega (arith, at)
few_at k x p a false e h at = absurd (omega (arith, h, whole_part x p k at, lt_isnt (x % p) a e))

few_duties : (k x p a : ℕ) → 0 < p → a < p → x < k * p + a → duties p a x ≤ k
few_duties k x p a pos less h = elim (less_or_same (x / p) k (quotient_few k x p a pos h less)) [
  | inl under ↦ over_few (nat_lt (x % p) a) (x / p) k under
  | inr at ↦ few_at k x p a (nat_lt (x % p) a) refl h at
]

many_at : (k y p a : ℕ) (q : Bool) → nat_lt (y % p) a ≡ q → k * p + a ≤ y → k ≡ y / p → k + 1 ≤ y / p + over q
many_at k y p a true e h at = absurd (omega (arith, h, whole_part y p k (sym at), lt_is (y % p) a e))
many_at k y p a false e h at = omega (arith, at)

over_many : (q : Bool) (n k : ℕ) → k < n → k + 1 ≤ n + over q
over_many true n k h = omega (arith, h)
over_many false n k h = omega (arith, h)

-- and from there on more than k
many_duties : (k y p a : ℕ) → 0 < p → k * p + a ≤ y → k < duties p a y
many_duties k y p a pos h =
    let up : k ≤ y / p = le-div k y p pos (omega (arith, h)) in
    let more : k + 1 ≤ duties p a y = elim (less_or_same k (y / p) up) [
      | inl above ↦ over_many (nat_lt (y % p) a) (y / p) k above
      | inr at ↦ many_at k y p a (nat_lt (y % p) a) refl h at
    ] in
    omega (arith, more)

pub duty_back : (x y z p a : ℕ) → x ≤ z → z + 1 ≤ y → 0 < p → nat_lt (z % p) a ≡ true → nat_lt ((z + 1) % p) a ≡ false → Counted p a (duties p a x) (duties p a y)
duty_back x y z p a le within pos was is = elim (next_or_last (z % p) p (mod-lt z pos)) [
  | inl more ↦
      let on : z % p < a = lt_is (z % p) a was in
      let off : a ≤ (z + 1) % p = lt_isnt ((z + 1) % p) a is in
      let whole : z / p * p + z % p ≡ z = div-add-mod' z p in
      let at : z + 1 ≡ z / p * p + a = omega (arith, whole, on, off, next_in z p more) in
      let less : a < p = omega (arith, on, off, next_in z p more, more) in
      let few : duties p a x ≤ z / p = few_duties (z / p) x p a pos less (omega (arith, at, le)) in
      let many : z / p < duties p a y = many_duties (z / p) y p a pos (omega (arith, at, within)) in
      record { some = omega (arith, on); less = less; more = omega (arith, few, many) }
  | inr last ↦
      let on : z % p < a = lt_is (z % p) a was in
      let off : a ≤ (z + 1) % p = lt_isnt ((z + 1) % p) a is in
      absurd (omega (arith, on, off, next_end z p last))
]

-- ---- a regime

-- the level by the duty test, where there is a period
level_by : (r : Regime) (t : ℕ) (q : Bool) → 0 < r.wave.period → nat_lt ((t - r.start) % r.wave.period) r.wave.duty ≡ q
    → regime_level r t ≡ (if q then r.wave.high else not r.wave.high)
level_by r t q pos e = rw (isnt_zero r.wave.period pos, e) refl

-- the output changes to this level with the unit that ends at a time
pub record Changes (to : Bool) (level : ℕ → Bool) (first last : ℕ) : Type 0 where
  pub time : ℕ
  pub after : first < time
  pub within : time ≤ last
  pub turns : turns_to to (level (time - 1)) (level time) ≡ true

turned : (to high before after : Bool) → turns_to to (if before then high else not high) (if after then high else not high) ≡ true → ((to ≡ high) × (before ≡ false) × (after ≡ true)) ⊎ ((to ≡ not high) × (before ≡ true) × (after ≡ false))
turned true true false true e = inl (refl, refl, refl)
turned true true true true e = absurd (cc e)
turned true true true false e = absurd (cc e)
turned true true false false e = absurd (cc e)
turned true false true false e = inr (refl, refl, refl)
turned true false true true e = absurd (cc e)
turned true false false true e = absurd (cc e)
turned true false false false e = absurd (cc e)
turned false true true false e = inr (refl, refl, refl)
turned false true true true e = absurd (cc e)
turned false true false true e = absurd (cc e)
turned false true false false e = absurd (cc e)
turned false false false true e = inl (refl, refl, refl)
turned false false true true e = absurd (cc e)
turned false false true false e = absurd (cc e)
turned false false false false e = absurd (cc e)

-- a change of the test is a change of the level
change_of : (to : Bool) (r : Regime) (first last : ℕ) (before after : Bool) → r.start ≤ first → 0 < r.wave.period
    → Turn r.wave.period r.wave.duty (first - r.start) (last - r.start) before after
    → turns_to to (if before then r.wave.high else not r.wave.high) (if after then r.wave.high else not r.wave.high) ≡ true
    → Changes to (regime_level r) first last
change_of to r first last before after begun pos t e =
    let back : (r.start + t.at) - 1 - r.start ≡ t.at - 1 = omega arith in
    let here : (r.start + t.at) - r.start ≡ t.at = omega arith in
    let was : nat_lt (((r.start + t.at) - 1 - r.start) % r.wave.period) r.wave.duty ≡ before = ap (λ n. nat_lt (n % r.wave.period) r.wave.duty) back ∙ t.was in
    let is : nat_lt (((r.start + t.at) - r.start) % r.wave.period) r.wave.duty ≡ after = ap (λ n. nat_lt (n % r.wave.period) r.wave.duty) here ∙ t.is in
    record {
      time = r.start + t.at;
      after = omega (arith, begun, t.above);
      within = omega (arith, t.above, t.within);
      turns = rw (level_by r ((r.start + t.at) - 1) before pos was, level_by r (r.start + t.at) after pos is) e;
    }

same_or_not : (to high : Bool) → (to ≡ high) ⊎ (to ≡ not high)
same_or_not true true = inl refl
same_or_not true false = inr refl
same_or_not false true = inr refl
same_or_not false false = inl refl

high_of : (to high : Bool) → to ≡ not high → high ≡ not to
high_of true true e = absurd (cc e)
high_of true false e = refl
high_of false true e = refl
high_of false false e = absurd (cc e)

-- changes to the polarity are counted by periods, and those to the opposite by duties
changes_polarity : (to : Bool) (r : Regime) (t : ℕ) → to ≡ r.wave.high → changes_by to r t ≡ periods_by r t
changes_polarity true r t e = ap (λ q. if q then periods_by r t else duties_by r t) (sym e)
changes_polarity false r t e = ap (λ q. if q then duties_by r t else periods_by r t) (sym e)

changes_opposite : (to : Bool) (r : Regime) (t : ℕ) → to ≡ not r.wave.high → changes_by to r t ≡ duties_by r t
changes_opposite true r t e = ap (λ q. if q then periods_by r t else duties_by r t) (high_of true r.wave.high e)
changes_opposite false r t e = ap (λ q. if q then duties_by r t else periods_by r t) (high_of false r.wave.high e)

turns_polarity : (to high : Bool) → to ≡ high → turns_to to (if false then high else not high) (if true then high else not high) ≡ true
turns_polarity true true e = refl
turns_polarity true false e = absurd (cc e)
turns_polarity false true e = absurd (cc e)
turns_polarity false false e = refl

turns_opposite : (to high : Bool) → to ≡ not high → turns_to to (if true then high else not high) (if false then high else not high) ≡ true
turns_opposite true true e = absurd (cc e)
turns_opposite true false e = refl
turns_opposite false true e = refl
turns_opposite false false e = absurd (cc e)

pub regime-changes : (to : Bool) (r : Regime) (first last : ℕ) → r.start ≤ first → regime_changed to r first last ≡ true → Changes to (regime_level r) first last
regime-changes to r first last begun e =
    let all = and_parts (alternates r.wave) (nat_lt (changes_by to r first) (changes_by to r last)) e in
    let ends = and_parts (nat_lt 0 r.wave.duty) (nat_lt r.wave.duty r.wave.period) all.0 in
    let some : 0 < r.wave.duty = lt_is 0 r.wave.duty ends.0 in
    let less : r.wave.duty < r.wave.period = lt_is r.wave.duty r.wave.period ends.1 in
    let pos : 0 < r.wave.period = omega (arith, less) in
    let more : changes_by to r first < changes_by to r last = lt_is (changes_by to r first) (changes_by to r last) all.1 in
    elim (same_or_not to r.wave.high) [
      | inl polarity ↦
          let by : periods_by r first < periods_by r last = rw (← changes_polarity to r first polarity, ← changes_polarity to r last polarity) more in
          change_of to r first last false true begun pos
          (period_turn (first - r.start) (last - r.start) r.wave.period r.wave.duty some less by) (turns_polarity to r.wave.high polarity)
      | inr opposite ↦
          let by : duties_by r first < duties_by r last = rw (← changes_opposite to r first opposite, ← changes_opposite to r last opposite) more in
          change_of to r first last true false begun pos
          (duty_turn (first - r.start) (last - r.start) r.wave.period r.wave.duty some less by) (turns_opposite to r.wave.high opposite)
    ]

-- ---- and back

none_or_some : (n : ℕ) → (n ≡ 0) ⊎ (0 < n)
none_or_some n = grind arith

pub never_turns : (to q : Bool) → turns_to to q q ≡ true → ⊥
never_turns true true e = absurd (cc e)
never_turns true false e = absurd (cc e)
never_turns false true e = absurd (cc e)
never_turns false false e = absurd (cc e)

level_no_period : (r : Regime) (t : ℕ) → r.wave.period ≡ 0 → regime_level r t ≡ not r.wave.high
level_no_period r t e = rw (zero_from r.wave.period e) refl

counted_changes : (to : Bool) (r : Regime) (first last : ℕ) → 0 < r.wave.duty → r.wave.duty < r.wave.period → changes_by to r first < changes_by to r last → regime_changed to r first last ≡ true
counted_changes to r first last some less more =
    and_from (alternates r.wave) (nat_lt (changes_by to r first) (changes_by to r last))
    (and_from (nat_lt 0 r.wave.duty) (nat_lt r.wave.duty r.wave.period) (lt_from 0 r.wave.duty some) (lt_from r.wave.duty r.wave.period less))
    (lt_from (changes_by to r first) (changes_by to r last) more)

changed_back : (to : Bool) (r : Regime) (first last : ℕ) → r.start ≤ first → 0 < r.wave.period → Changes to (regime_level r) first last → regime_changed to r first last ≡ true
changed_back to r first last begun pos t =
    let p = r.wave.period in
    let a = r.wave.duty in
    let x = first - r.start in
    let y = last - r.start in
    let z = t.time - 1 - r.start in
    let before : Bool = nat_lt (z % p) a in
    let after : Bool = nat_lt ((t.time - r.start) % p) a in
    let low : x ≤ z = omega (arith, begun, t.after) in
    let high : z + 1 ≤ y = omega (arith, begun, t.after, t.within) in
    let next : z + 1 ≡ t.time - r.start = omega (arith, begun, t.after) in
    let levels : turns_to to (if before then r.wave.high else not r.wave.high) (if after then r.wave.high else not r.wave.high) ≡ true =
    ap (λ l. turns_to to l (if after then r.wave.high else not r.wave.high)) (sym (level_by r (t.time - 1) before pos refl))
    ∙ ap (λ l. turns_to to (regime_level r (t.time - 1)) l) (sym (level_by r t.time after pos refl))
    ∙ t.turns in
    elim (turned to r.wave.high before after levels) [
      | inl w ↦
          let is : nat_lt ((z + 1) % p) a ≡ true = ap (λ n. nat_lt (n % p) a) next ∙ w.2 in
          let found : Counted p a (x / p) (y / p) = period_back x y z p a low high pos w.1 is in
          counted_changes to r first last found.some found.less (rw (changes_polarity to r first w.0, changes_polarity to r last w.0) found.more)
      | inr w ↦
          let is : nat_lt ((z + 1) % p) a ≡ false = ap (λ n. nat_lt (n % p) a) next ∙ w.2 in
          let found : Counted p a (duties p a x) (duties p a y) = duty_back x y z p a low high pos w.1 is in
          counted_changes to r first last found.some found.less (rw (changes_opposite to r first w.0, changes_opposite to r last w.0) found.more)
    ]

pub changes-regime : (to : Bool) (r : Regime) (first last : ℕ) → r.start ≤ first → Changes to (regime_level r) first last → regime_changed to r first last ≡ true
changes-regime to r first last begun t = elim (none_or_some r.wave.period) [
  | inl none ↦
      let same : turns_to to (not r.wave.high) (not r.wave.high) ≡ true =
      ap (λ l. turns_to to l (not r.wave.high)) (sym (level_no_period r (t.time - 1) none))
      ∙ ap (λ l. turns_to to (regime_level r (t.time - 1)) l) (sym (level_no_period r t.time none))
      ∙ t.turns in
      absurd (never_turns to (not r.wave.high) same)
  | inr pos ↦ changed_back to r first last begun pos t
]
