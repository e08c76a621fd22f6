-- What an order of requests stands for after it was changed.
-- From words.Cases.
-- Used by services.StopRight, adc_laws: serving.services.ServeActRight, bookkeeping.FrameRule and 7 more.
use Rattle.std.proofs.Common.{◌≡◌, ◌≢◌, ◌<◌, ◌&&◌, ◌||◌, ◌==◌, [], ◌∷◌, ◌++◌, ◌∙◌, ◌⊎◌, if◌then◌else◌}
use Rattle.adc_groups.specs.Terms
use Terms.{AdcState, AdcTable, added, and_parts, and_second, ap, arith, Bool, cases, Entry, eq_other, eq_self, false}
use Terms.{group_at, group_of, has_turn, inl, inr, is_on, is_some, is_there, is_there-append, is_there-waiting, IsOnce}
use Terms.{IsOrder, length, List, map, nat_tests, number-waiting, number_at, or_false, or_left, or_right, refl}
use Terms.{same_or_other, slice_get, Some, subst, suc, sym, true, waiting, whether_as, with_wait, zero, ℕ}
use Rattle.word_shapes.specs.Order.{without}

-- ---- lists

or_none : (a b : Bool) → a ≡ false → a || b ≡ b
or_none true b e = absurd (cc)
or_none false b e = refl

-- an entry that is listed is there
pub listed_there : (xs : List Entry) (i : ℕ) (x : Entry) → slice_get xs i ≡ Some x → is_there x.number xs ≡ true
listed_there [] i x e = absurd (cc)
listed_there (z ∷ zs) zero x e = let same : z ≡ x = cc in or_left (z.number == x.number) (is_there x.number zs) (subst (λ (q : Entry). (q.number == x.number) ≡ true) (sym same) (eq_self x.number))
listed_there (z ∷ zs) (suc i) x e = or_right (z.number == x.number) (is_there x.number zs) (listed_there zs i x e)

-- an element of a list with one more at its end
pub last_or : (xs : List Entry) (y : Entry) (i : ℕ) (x : Entry) → slice_get (xs ++ y ∷ []) i ≡ Some x → (slice_get xs i ≡ Some x) ⊎ ((i ≡ length xs) × (x ≡ y))
last_or [] y zero x e = inr (refl, (let same : y ≡ x = cc in sym same))
last_or [] y (suc i) x e = absurd (cc)
last_or (z ∷ zs) y zero x e = inl e
last_or (z ∷ zs) y (suc i) x e = elim (last_or zs y i x e) [ inl f ↦ inl f | inr f ↦ inr (ap suc f.0, f.1) ]

within : (xs : List Entry) (i : ℕ) (x : Entry) → slice_get xs i ≡ Some x → i < length xs
within [] i x e = absurd (cc)
within (z ∷ zs) zero x e = omega arith
within (z ∷ zs) (suc i) x e = let lt = within zs i x e in omega (arith, lt)

mapped : (f : Entry → Entry) (xs : List Entry) (i : ℕ) (x : Entry) → slice_get (map f xs) i ≡ Some x → (z : Entry) × (slice_get xs i ≡ Some z) × (f z ≡ x)
mapped f [] i x e = absurd (cc)
mapped f (z ∷ zs) zero x e = (z, refl, (let same : f z ≡ x = cc in same))
mapped f (z ∷ zs) (suc i) x e = mapped f zs i x e

-- what is left of a list was there
left_from : (n : ℕ) (xs : List Entry) (i : ℕ) (x : Entry) → slice_get (without n xs) i ≡ Some x → (j : ℕ) × (slice_get xs j ≡ Some x)
left_from n [] i x e = absurd (cc)
left_from n (z ∷ zs) i x e = by (λ k f. left_from n zs k x f) (z.number == n) i e
  where
    by : ((k : ℕ) → slice_get (without n zs) k ≡ Some x → (j : ℕ) × (slice_get zs j ≡ Some x)) → (q : Bool) (i : ℕ) → slice_get (if q then zs else z ∷ without n zs) i ≡ Some x → (j : ℕ) × (slice_get (z ∷ zs) j ≡ Some x)
    by rest true i f = (suc i, f)
    by rest false zero f = (zero, f)
    by rest false (suc i) f = let k = rest i f in (suc k.0, k.1)

abbrev Ordered : (Entry → Entry → Type 0) → List Entry → Type 0
Ordered P xs = (i j : ℕ) (x y : Entry) → i < j → slice_get xs i ≡ Some x → slice_get xs j ≡ Some y → P x y

ordered_left : (P : Entry → Entry → Type 0) (n : ℕ) (xs : List Entry) → Ordered P xs → Ordered P (without n xs)
ordered_left P n [] h = h
ordered_left P n (z ∷ zs) h = ordered_without (z.number == n) (ordered_left P n zs (λ i j x y lt e f. h (suc i) (suc j) x y (omega (arith, lt)) e f))
  where
    ordered_without : (q : Bool) → Ordered P (without n zs) → Ordered P (if q then zs else z ∷ without n zs)
    ordered_without true rest i j x y lt e f = h (suc i) (suc j) x y (omega (arith, lt)) e f
    ordered_without false rest zero (suc j) x y lt e f = let k = left_from n zs j y f in h zero (suc k.0) x y (omega arith) e k.1
    ordered_without false rest (suc i) (suc j) x y lt e f = rest i j x y (omega (arith, lt)) e f
    ordered_without _ rest _ _ x y lt e f = absurd (omega (arith, lt))

-- which entries are left
there_left : (k n : ℕ) (xs : List Entry) → k ≢ n → is_there k (without n xs) ≡ is_there k xs
there_left k n [] ne = refl
there_left k n (z ∷ zs) ne = whether_as (z.number == n) (λ q. is_there k (if q then zs else z ∷ without n zs) ≡ (z.number == k) || is_there k zs)
    (λ e. let same : z.number ≡ n = grind (arith, nat_tests) in sym (or_none (z.number == k) (is_there k zs) (eq_other z.number k (λ f. ne (sym f ∙ same)))))
    (λ e. ap (λ q. (z.number == k) || q) (there_left k n zs ne))

none_left : (n : ℕ) (xs : List Entry) → IsOnce xs → is_there n (without n xs) ≡ false
none_left n [] once = refl
none_left n (z ∷ zs) once = whether_as (z.number == n) (λ q. is_there n (if q then zs else z ∷ without n zs) ≡ false)
    (λ e. let same : z.number ≡ n = grind (arith, nat_tests) in subst (λ k. is_there k zs ≡ false) same once.0)
    (λ e. or_none (z.number == n) (is_there n (without n zs)) e ∙ (none_left n zs once.1))

-- ---- the order of a unit

module _ (d : AdcTable) (s t : AdcState) (g u : ℕ) (at : is_on u (group_of d g) ≡ true) (turns : (k : ℕ) → k ≢ g → has_turn t k ≡ has_turn s k) (waits : (k : ℕ) → k ≢ g → is_some (group_at t k).waiting ≡ is_some (group_at s k).waiting)
    (xs : List Entry) (o : IsOrder d s u xs) where
  on_unit : (i : ℕ) (x : Entry) → slice_get xs i ≡ Some x → (has_turn s x.number ≡ true) × (is_on u (group_of d x.number) ≡ true)
  on_unit i x e = and_parts (has_turn s x.number) (is_on u (group_of d x.number)) (sym (o.there x.number) ∙ listed_there xs i x e)

  -- one more group has a turn, with a number above all
  module _ (numbers : (k : ℕ) → k ≢ g → is_on u (group_of d k) ≡ true → number_at d t k ≡ number_at d s k) (none : has_turn s g ≡ false) (turn : has_turn t g ≡ true) (waiting_now : is_some (group_at t g).waiting ≡ true)
      (above : (k : ℕ) → has_turn s k ≡ true → number_at d s k < number_at d t g) where
    other : (i : ℕ) (x : Entry) → slice_get xs i ≡ Some x → x.number ≢ g
    other i x e same = let on = (on_unit i x e).0 in let off : has_turn s x.number ≡ false = ap (λ k. has_turn s k) same ∙ none in absurd (cc)

    pub order_added : IsOrder d t u (added g xs)
    order_added = record {
      there = λ k. is_there-append k xs (record { number = g; waits = true } ∷ []) ∙ cases (same_or_other k g)
          (λ e. subst (λ n. is_there n xs || ((g == n) || false) ≡ has_turn t n && is_on u (group_of d n)) (sym e) (or_right (is_there g xs) ((g == g) || false) (ap (λ q. q || false) (eq_self g)) ∙ sym (ap (λ q. q && is_on u (group_of d g)) turn ∙ at)))
          (λ ne. ap (λ q. is_there k xs || (q || false)) (eq_other g k (λ e. ne (sym e))) ∙ (or_false (is_there k xs) ∙ (o.there k ∙ ap (λ q. q && is_on u (group_of d k)) (sym (turns k ne)))));
      waits = λ i x e. waits_by i x (last_or xs (record { number = g; waits = true }) i x e);
      sorted = λ i j x y lt e f. sorted_by i j x y lt (last_or xs (record { number = g; waits = true }) i x e) (last_or xs (record { number = g; waits = true }) j y f);
    }
      where
        waits_by : (i : ℕ) (x : Entry) → (slice_get xs i ≡ Some x) ⊎ ((i ≡ length xs) × (x ≡ record { number = g; waits = true })) → x.waits ≡ is_some (group_at t x.number).waiting
        waits_by i x (inl e) = o.waits i x e ∙ sym (waits x.number (other i x e))
        waits_by i x (inr e) = subst (λ (z : Entry). z.waits ≡ is_some (group_at t z.number).waiting) (sym e.1) (sym waiting_now)

        sorted_by : (i j : ℕ) (x y : Entry) → i < j → (slice_get xs i ≡ Some x) ⊎ ((i ≡ length xs) × (x ≡ record { number = g; waits = true })) → (slice_get xs j ≡ Some y) ⊎ ((j ≡ length xs) × (y ≡ record { number = g; waits = true })) → number_at d t x.number < number_at d t y.number
        sorted_by i j x y lt (inl e) (inl f) = subst (λ n. n < number_at d t y.number) (sym (numbers x.number (other i x e) (on_unit i x e).1)) (subst (λ n. number_at d s x.number < n) (sym (numbers y.number (other j y f) (on_unit j y f).1)) (o.sorted i j x y lt e f))
        sorted_by i j x y lt (inl e) (inr f) = subst (λ n. n < number_at d t y.number) (sym (numbers x.number (other i x e) (on_unit i x e).1)) (subst (λ (z : Entry). number_at d s x.number < number_at d t z.number) (sym f.1) (above x.number (on_unit i x e).0))
        sorted_by i j x y lt (inr e) (inl f) = let len = within xs j y f in let here = e.0 in absurd (omega (arith, lt, here, len))
        sorted_by i j x y lt (inr e) (inr f) = let here = e.0 in let there = f.0 in absurd (omega (arith, lt, here, there))

  -- the group waits so, or doesn't, at its place
  module _ (numbers : (k : ℕ) → has_turn s k ≡ true → is_on u (group_of d k) ≡ true → number_at d t k ≡ number_at d s k) (turn : has_turn t g ≡ has_turn s g) (q : Bool) (waiting_now : is_some (group_at t g).waiting ≡ q) where
    pub order_waiting : IsOrder d t u (waiting g q xs)
    order_waiting = record {
      there = λ k. is_there-waiting k g q xs ∙ (o.there k ∙ ap (λ b. b && is_on u (group_of d k)) (sym (cases (same_or_other k g)
          (λ e. subst (λ n. has_turn t n ≡ has_turn s n) (sym e) turn) (λ ne. turns k ne))));
      waits = λ i x e. waits_at i x (mapped (with_wait g q) xs i x e);
      sorted = λ i j x y lt e f. sorted_at i j x y lt (mapped (with_wait g q) xs i x e) (mapped (with_wait g q) xs j y f);
    }
      where
        waits_one : (i : ℕ) (z : Entry) → slice_get xs i ≡ Some z → (b : Bool) → (z.number == g) ≡ b → let x : Entry = (if b then record { number = z.number; waits = q } else z) in x.waits ≡ is_some (group_at t x.number).waiting
        waits_one i z e true f = let same : z.number ≡ g = grind (arith, nat_tests) in sym (ap (λ n. is_some (group_at t n).waiting) same ∙ waiting_now)
        waits_one i z e false f = let ne : z.number ≢ g = grind (arith, nat_tests) in o.waits i z e ∙ sym (waits z.number ne)

        waits_at : (i : ℕ) (x : Entry) → (z : Entry) × (slice_get xs i ≡ Some z) × (with_wait g q z ≡ x) → x.waits ≡ is_some (group_at t x.number).waiting
        waits_at i x z = subst (λ (y : Entry). y.waits ≡ is_some (group_at t y.number).waiting) z.2 (waits_one i z.0 z.1 (z.0.number == g) refl)

        number_is : (x : Entry) (z : Entry) → with_wait g q z ≡ x → x.number ≡ z.number
        number_is x z e = ap (λ (y : Entry). y.number) (sym e) ∙ number-waiting g q z

        sorted_at : (i j : ℕ) (x y : Entry) → i < j → (z : Entry) × (slice_get xs i ≡ Some z) × (with_wait g q z ≡ x) → (z : Entry) × (slice_get xs j ≡ Some z) × (with_wait g q z ≡ y) → number_at d t x.number < number_at d t y.number
        sorted_at i j x y lt a b =
            let first : number_at d t x.number ≡ number_at d s a.0.number = ap (λ n. number_at d t n) (number_is x a.0 a.2) ∙ numbers a.0.number (on_unit i a.0 a.1).0 (on_unit i a.0 a.1).1 in
            let second : number_at d t y.number ≡ number_at d s b.0.number = ap (λ n. number_at d t n) (number_is y b.0 b.2) ∙ numbers b.0.number (on_unit j b.0 b.1).0 (on_unit j b.0 b.1).1 in
            subst (λ n. n < number_at d t y.number) (sym first) (subst (λ n. number_at d s a.0.number < n) (sym second) (o.sorted i j a.0 b.0 lt a.1 b.1))

  -- the group has no turn any more
  module _ (numbers : (k : ℕ) → k ≢ g → has_turn s k ≡ true → is_on u (group_of d k) ≡ true → number_at d t k ≡ number_at d s k) (once : IsOnce xs) (turn : has_turn t g ≡ false) where
    pub order_without : IsOrder d t u (without g xs)
    order_without = record {
      there = λ k. cases (same_or_other k g)
          (λ e. subst (λ n. is_there n (without g xs) ≡ has_turn t n && is_on u (group_of d n)) (sym e) (none_left g xs once ∙ sym (ap (λ b. b && is_on u (group_of d g)) turn)))
          (λ ne. there_left k g xs ne ∙ (o.there k ∙ ap (λ b. b && is_on u (group_of d k)) (sym (turns k ne))));
      waits = λ i x e. let k = left_from g xs i x e in o.waits k.0 x k.1 ∙ sym (waits x.number (others i x e));
      sorted = λ i j x y lt e f.
          subst (λ n. n < number_at d t y.number) (sym (numbers x.number (others i x e) (turned i x e) (on i x e))) (subst (λ n. number_at d s x.number < n) (sym (numbers y.number (others j y f) (turned j y f) (on j y f)))
          (ordered_left (λ a b. number_at d s a.number < number_at d s b.number) g xs o.sorted i j x y lt e f));
    }
      where
        on : (i : ℕ) (x : Entry) → slice_get (without g xs) i ≡ Some x → is_on u (group_of d x.number) ≡ true
        on i x e = let k = left_from g xs i x e in (on_unit k.0 x k.1).1

        turned : (i : ℕ) (x : Entry) → slice_get (without g xs) i ≡ Some x → has_turn s x.number ≡ true
        turned i x e = let k = left_from g xs i x e in (on_unit k.0 x k.1).0

        others : (i : ℕ) (x : Entry) → slice_get (without g xs) i ≡ Some x → x.number ≢ g
        others i x e same = let is : is_there g (without g xs) ≡ true = subst (λ n. is_there n (without g xs) ≡ true) same (listed_there (without g xs) i x e) in let none = none_left g xs once in absurd (cc)

-- nothing of it changes
pub order_kept : (d : AdcTable) (s t : AdcState) (u : ℕ) → ((k : ℕ) → has_turn t k ≡ has_turn s k) → ((k : ℕ) → is_some (group_at t k).waiting ≡ is_some (group_at s k).waiting) → ((k : ℕ) → is_on u (group_of d k) ≡ true → number_at d t k ≡ number_at d s k) → (xs : List Entry) → IsOrder d s u xs → IsOrder d t u xs
order_kept d s t u turns waits numbers xs o = record {
  there = λ k. o.there k ∙ ap (λ b. b && is_on u (group_of d k)) (sym (turns k));
  waits = λ i x e. o.waits i x e ∙ sym (waits x.number);
  sorted = λ i j x y lt e f. subst (λ n. n < number_at d t y.number) (sym (numbers x.number (on i x e))) (subst (λ n. number_at d s x.number < n) (sym (numbers y.number (on j y f))) (o.sorted i j x y lt e f));
}
  where
    on : (i : ℕ) (x : Entry) → slice_get xs i ≡ Some x → is_on u (group_of d x.number) ≡ true
    on i x e = and_second (has_turn s x.number) (is_on u (group_of d x.number)) (sym (o.there x.number) ∙ listed_there xs i x e)
