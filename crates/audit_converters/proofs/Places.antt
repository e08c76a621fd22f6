-- What stands for the lists of a state of which one place was changed, or all.
use Rattle.std.proofs.Common.{◌≡◌, ◌≢◌, ◌⊎◌, inl, inr, ℕ, zero, suc, ◌+◌, ◌<◌, ◌≤◌, Bool, false, cond, ◌==◌, List, [], ◌∷◌, length, Option, None, refl, sym, ◌∙◌, ap, subst, arith, replicate, slice_index_or, slice_set}
use Rattle.std.specs.Prelude.{option_map}
use Rattle.std.specs.List.{AllByRecursion}
use Rattle.std.proofs.lemmas.List.{get_or-set_same, get_or-set_other, get_or_past}
use Rattle.mcal_base.specs.facts.Numbers.{eq_other, eq_self, same_or_other}
use Rattle.adc_machine.specs.Groups as machine
use Rattle.adc_machine.specs.Groups.{GroupState, untouched}
use Rattle.adc_machine.specs.Table.{by_group}
use Rattle.adc_machine.specs.Triggers.{mark_at, with_mark}
use Rattle.adc_machine.specs.Turns.{AdcState, group_at, round_at, with_group, with_round}
use Rattle.adc_machine.proofs.Parts.{of_group}
use Rattle.audit_converters.specs.Stands.{Stands, Kept, GroupsStand, UnitsStand, MarksStand, IsWithin, blank, group_as, kept_of, round_as}
use Rattle.audit_converters.specs.declared.group.Group as code
use Rattle.audit_converters.specs.declared.group.Round.{Round}

within_or_past : (n k : ℕ) → (k < n) ⊎ (n ≤ k)
within_or_past n k = grind arith

-- ---- one place

-- What stands for a list place by place, and for nothing behind its end, stands for it with one place changed, and with none that isn't there.
module _ {X Y K : Type 0} (f : X → K) (g : Y → K) (d : X) (e : Y) (xs : List X) (ys zs : List Y) (n size : ℕ) (y : Y) (few : length xs ≡ size) (many : length zs ≡ size) (past : f d ≡ g e)
    (stand : (i : ℕ) → f (slice_index_or xs i d) ≡ g (slice_index_or ys i e)) (changed : (i : ℕ) → i < size → slice_index_or zs i e ≡ cond (i == n) y (slice_index_or ys i e)) where
  none : (i : ℕ) → size ≤ i → f (slice_index_or xs i d) ≡ g (slice_index_or zs i e)
  none i le = ap f (get_or_past xs i d (omega (arith, few, le))) ∙ (past ∙ ap g (sym (get_or_past zs i e (omega (arith, many, le)))))

  other : (i : ℕ) → i ≢ n → f (slice_index_or xs i d) ≡ g (slice_index_or zs i e)
  other i ne = by (within_or_past size i)
    where
      by : (i < size) ⊎ (size ≤ i) → f (slice_index_or xs i d) ≡ g (slice_index_or zs i e)
      by (inl lt) = stand i ∙ ap g (sym (changed i lt ∙ ap (λ q. cond q y (slice_index_or ys i e)) (eq_other i n ne)))
      by (inr le) = none i le

  skip_place : size ≤ n → (i : ℕ) → f (slice_index_or xs i d) ≡ g (slice_index_or zs i e)
  skip_place le i = by (same_or_other i n)
    where
      by : (i ≡ n) ⊎ (i ≢ n) → f (slice_index_or xs i d) ≡ g (slice_index_or zs i e)
      by (inl is) = none i (omega (arith, is, le))
      by (inr ne) = other i ne

  set_place : (x : X) → n < size → f x ≡ g y → (i : ℕ) → f (slice_index_or (slice_set xs n x) i d) ≡ g (slice_index_or zs i e)
  set_place x lt new i = by (same_or_other i n)
    where
      here : f (slice_index_or (slice_set xs n x) n d) ≡ g (slice_index_or zs n e)
      here = ap f (get_or-set_same xs n x d (omega (arith, few, lt))) ∙ (new ∙ ap g (sym (changed n lt ∙ ap (λ q. cond q y (slice_index_or ys n e)) (eq_self n))))

      by : (i ≡ n) ⊎ (i ≢ n) → f (slice_index_or (slice_set xs n x) i d) ≡ g (slice_index_or zs i e)
      by (inl is) = subst (λ k. f (slice_index_or (slice_set xs n x) k d) ≡ g (slice_index_or zs k e)) (sym is) here
      by (inr ne) = ap f (get_or-set_other xs n i x d ne) ∙ other i ne

-- ---- groups

changed_group : (s : AdcState) (n : ℕ) (x : GroupState) (i : ℕ) → i < 16 → group_at (with_group s n x) i ≡ cond (i == n) x (group_at s i)
changed_group s n x i lt = of_group (λ k. cond (k == n) x (group_at s k)) i lt

pub set_groups : (xs : List code.Group) (s : AdcState) (n : ℕ) (y : code.Group) (x : GroupState) → length xs ≡ 16 → n < 16 → GroupsStand xs s.groups → group_as y ≡ kept_of x → GroupsStand (slice_set xs n y) (with_group s n x).groups
set_groups xs s n y x size lt h new = set_place group_as kept_of blank untouched xs s.groups (with_group s n x).groups n 16 x size refl refl h (changed_group s n x) y lt new

pub skip_groups : (xs : List code.Group) (s : AdcState) (n : ℕ) (x : GroupState) → length xs ≡ 16 → 16 ≤ n → GroupsStand xs s.groups → GroupsStand xs (with_group s n x).groups
skip_groups xs s n x size le h = skip_place group_as kept_of blank untouched xs s.groups (with_group s n x).groups n 16 x size refl refl h (changed_group s n x) le

pub same_item : {X : Type 0} (m p : ℕ) (x : X) → slice_index_or (replicate m x) p x ≡ x
same_item zero p x = refl
same_item (suc m) zero x = refl
same_item (suc m) (suc p) x = same_item m p x

pub untouched_groups : GroupsStand (replicate 16 blank) []
untouched_groups g = ap group_as (same_item 16 g blank)

pub no_rounds : UnitsStand (replicate 2 None) []
no_rounds u = ap (λ r. option_map round_as r) (same_item 2 u None)

pub no_marks : MarksStand (replicate 4 false) []
no_marks i = same_item 4 i false

-- all sixteen
pub all_groups_stand : (f : ℕ → GroupState) (a b c d e i j k l m n o p q r t : code.Group)
    → group_as a ≡ kept_of (f 0) → group_as b ≡ kept_of (f 1) → group_as c ≡ kept_of (f 2) → group_as d ≡ kept_of (f 3)
    → group_as e ≡ kept_of (f 4) → group_as i ≡ kept_of (f 5) → group_as j ≡ kept_of (f 6) → group_as k ≡ kept_of (f 7)
    → group_as l ≡ kept_of (f 8) → group_as m ≡ kept_of (f 9) → group_as n ≡ kept_of (f 10) → group_as o ≡ kept_of (f 11)
    → group_as p ≡ kept_of (f 12) → group_as q ≡ kept_of (f 13) → group_as r ≡ kept_of (f 14) → group_as t ≡ kept_of (f 15)
    → GroupsStand (a ∷ b ∷ c ∷ d ∷ e ∷ i ∷ j ∷ k ∷ l ∷ m ∷ n ∷ o ∷ p ∷ q ∷ r ∷ t ∷ []) (by_group f)
all_groups_stand f a b c d e i j k l m n o p q r t h0 h1 h2 h3 h4 h5 h6 h7 h8 h9 h10 h11 h12 h13 h14 h15 g =
    one (a ∷ b ∷ c ∷ d ∷ e ∷ i ∷ j ∷ k ∷ l ∷ m ∷ n ∷ o ∷ p ∷ q ∷ r ∷ t ∷ []) (by_group f)
    (h0, (h1, (h2, (h3, (h4, (h5, (h6, (h7, (h8, (h9, (h10, (h11, (h12, (h13, (h14, (h15, tt)))))))))))))))) g
  where
    Both : List code.Group → List GroupState → Type 0
    Both [] [] = Unit {0}
    Both (x ∷ xs) (y ∷ ys) = (group_as x ≡ kept_of y) × Both xs ys
    Both _ _ = ⊥

    one : (xs : List code.Group) (ys : List GroupState) → Both xs ys → GroupsStand xs ys
    one [] [] h g = refl
    one (x ∷ xs) (y ∷ ys) h zero = h.0
    one (x ∷ xs) (y ∷ ys) h (suc g) = one xs ys h.1 g
    one [] (y ∷ ys) h g = absurd h
    one (x ∷ xs) [] h g = absurd h

-- with more events each group is still within them
pub within_more : (events : ℕ) (xs : List code.Group) → AllByRecursion (IsWithin events) xs → AllByRecursion (IsWithin (events + 1)) xs
within_more events [] h = tt
within_more events (x ∷ xs) h = let few : x.count ≤ events = h.0 in (omega (arith, few), within_more events xs h.1)

pub within_blank : (n events : ℕ) → AllByRecursion (IsWithin events) (replicate n blank)
within_blank zero events = tt
within_blank (suc n) events = (omega arith, within_blank n events)

-- ---- units

changed_round : (s : AdcState) (n : ℕ) (r : Option machine.Round) (u : ℕ) → u < 2 → round_at (with_round s n r) u ≡ cond (u == n) r (round_at s u)
changed_round s n r zero lt = refl
changed_round s n r (suc zero) lt = refl
changed_round s n r (suc (suc u)) lt = absurd (omega (arith, lt))

pub set_units : (xs : List (Option Round)) (s : AdcState) (n : ℕ) (r : Option Round) → length xs ≡ 2 → n < 2 → UnitsStand xs s.units → UnitsStand (slice_set xs n r) (with_round s n (option_map round_as r)).units
set_units xs s n r size lt h = set_place (λ (o : Option Round). option_map round_as o) (λ (o : Option machine.Round). o) None None xs s.units (with_round s n (option_map round_as r)).units n 2 (option_map round_as r) size refl refl h (changed_round s n (option_map round_as r)) r lt refl

pub skip_units : (xs : List (Option Round)) (s : AdcState) (n : ℕ) (r : Option machine.Round) → length xs ≡ 2 → 2 ≤ n → UnitsStand xs s.units → UnitsStand xs (with_round s n r).units
skip_units xs s n r size le h = skip_place (λ (o : Option Round). option_map round_as o) (λ (o : Option machine.Round). o) None None xs s.units (with_round s n r).units n 2 r size refl refl h (changed_round s n r) le

pub both_units : (a b : Option Round) (x y : Option machine.Round) → option_map round_as a ≡ x → option_map round_as b ≡ y → UnitsStand (a ∷ b ∷ []) (x ∷ y ∷ [])
both_units a b x y p q zero = p
both_units a b x y p q (suc zero) = q
both_units a b x y p q (suc (suc u)) = refl

-- ---- marks

changed_mark : (s : AdcState) (n : ℕ) (b : Bool) (i : ℕ) → i < 4 → mark_at (with_mark s n b) i ≡ cond (i == n) b (mark_at s i)
changed_mark s n b zero lt = refl
changed_mark s n b (suc zero) lt = refl
changed_mark s n b (suc (suc zero)) lt = refl
changed_mark s n b (suc (suc (suc zero))) lt = refl
changed_mark s n b (suc (suc (suc (suc i)))) lt = absurd (omega (arith, lt))

pub set_marks : (xs : List Bool) (s : AdcState) (n : ℕ) (b : Bool) → length xs ≡ 4 → n < 4 → MarksStand xs s.marks → MarksStand (slice_set xs n b) (with_mark s n b).marks
set_marks xs s n b size lt h = set_place (λ (q : Bool). q) (λ (q : Bool). q) false false xs s.marks (with_mark s n b).marks n 4 b size refl refl h (changed_mark s n b) b lt refl

pub skip_marks : (xs : List Bool) (s : AdcState) (n : ℕ) (b : Bool) → length xs ≡ 4 → 4 ≤ n → MarksStand xs s.marks → MarksStand xs (with_mark s n b).marks
skip_marks xs s n b size le h = skip_place (λ (q : Bool). q) (λ (q : Bool). q) false false xs s.marks (with_mark s n b).marks n 4 b size refl refl h (changed_mark s n b) le

-- ---- results are no part of it

pub same_results : (t : Kept) (s : AdcState) (results : machine.Results) → Stands t s → Stands t (record s { results = results })
same_results t s results h = record { initialised = h.initialised; groups = h.groups; units = h.units; marks = h.marks; requests = h.requests }
