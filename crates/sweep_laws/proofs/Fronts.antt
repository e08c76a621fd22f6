-- The run of a block up to a step is that of the block up to a place.
use Rattle.std.proofs.Common.{◌≡◌, ◌⊎◌, ℕ, ◌+◌, ◌-◌, ◌<◌, ◌≤◌, ◌==◌, ◌||◌, Bool, true, false, cond, List, [], ◌∷◌, ◌++◌, Option, Some, None, length, take, zero, suc, refl, sym, ap, ap₂, ◌∙◌, subst, inl, inr, arith, if◌then◌else◌, eq-eqb, eqb-true, append-nil, append_assoc}
use Rattle.std.specs.Prelude.{MatchBool, is_some, nat_lt, option_to_list, slice_get}
use Rattle.std.proofs.lemmas.Bool.Decides.{nat_tests}
use Rattle.std.proofs.lemmas.List.{map-append}
use Rattle.std.proofs.lemmas.List.Sums.{sum_by-cons}
use Rattle.irq_control.specs.declared.held.Held.{Held}
use Rattle.mcal_base.specs.declared.directive.Directive.{Directive}
use Rattle.mcal_base.specs.declared.directive.Order.{Order}
use Rattle.mcal_base.specs.declared.directive.Order.TheVariants as orders
use Rattle.mcal_base.specs.declared.directive.Reason.TheVariants.{Software}
use Rattle.mcal_base.specs.declared.directive.Request.{Request}
use Rattle.run_model.specs.declared.item.Stepped.{Stepped}
use Rattle.run_model.specs.declared.stop_condition.StopCondition.{StopCondition}
use Rattle.run_model.specs.declared.stop_condition.StopCondition.TheVariants.{Count, Until, Whole}
use Rattle.run_model.specs.Entry as entry
use Rattle.run_model.specs.Follows.{BeginsOnly, BeginsWhole, ComesAwaited, Follows, GoesOn, Goes, Gives, HappensOnly, IsOne, IsStep, Shows, Ticks, call_held, deeds_in, is_reached, line_held, ticks_left, ticks_through}
use Rattle.run_model.specs.Legal.{hardware_held}
use Rattle.run_model.specs.Frame.{Open, resets_chip}
use Rattle.run_model.specs.Moment.{Begins, Enters, Happens, Moment, Setting, Steps, after, after_all}
use Rattle.run_model.specs.Stops.{is_step, steps_in}
use Rattle.bench_sweep.specs.Cuts.{beginning_of, on_line, orders_up}
use Rattle.bench_sweep.specs.Places.{begins_frame}
use Rattle.sweep_laws.specs.Fronts.{Makes}

-- ---- how many steps there are among items

abbrev one : Bool → ℕ
one b = cond b 1 0

steps_cons : (e : entry.Entry) (es : List entry.Entry) → steps_in (e ∷ es) ≡ one (is_step e.said) + steps_in es
steps_cons e es = sum_by-cons (λ (x : entry.Entry). cond (is_step x.said) 1 0) e es

step_said : (e : entry.Entry) (s : Stepped) → e.said ≡ entry.Steps s → is_step e.said ≡ true
step_said e s p = ap is_step p

pub steps_some : (fs : List entry.Entry) (e : entry.Entry) (s : Stepped) → e.said ≡ entry.Steps s → 0 < steps_in (fs ++ e ∷ [])
steps_some [] e s p =
    let c : one (is_step e.said) ≡ 1 = ap one (step_said e s p) in
    omega (arith, steps_cons e [], c)
steps_some (f ∷ fs) e s p = omega (arith, steps_cons f (fs ++ e ∷ []), steps_some fs e s p)

pub steps_most : (xs ys : List entry.Entry) → steps_in xs ≤ steps_in (xs ++ ys)
steps_most [] ys = omega arith
steps_most (x ∷ xs) ys = omega (arith, steps_cons x xs, steps_cons x (xs ++ ys), steps_most xs ys)

-- ---- items among which there is a step are no others

heads : {X : Type 0} (x y : X) (xs ys : List X) → x ∷ xs ≡ y ∷ ys → x ≡ y
heads x y xs ys e = cc

tails : {X : Type 0} (x y : X) (xs ys : List X) → x ∷ xs ≡ y ∷ ys → xs ≡ ys
tails x y xs ys e = cc

-- says that something began, or that a step was made
abbrev is_made : entry.Said → Bool
is_made (entry.Steps s) = true
is_made entry.Begins = true
is_made (entry.Happens o) = false
is_made (entry.Stays c) = false
is_made (entry.Resets r k) = false

-- nothing began, and no step was made
abbrev pub AreQuiet : List entry.Entry → Type 0
AreQuiet [] = Unit {0}
AreQuiet (e ∷ es) = (is_made e.said ≡ false) × AreQuiet es

not_both : (b : Bool) → b ≡ true → b ≡ false → ⊥
not_both true p q = cc
not_both false p q = cc

made_quiet : (fs back : List entry.Entry) (e : entry.Entry) → is_made e.said ≡ true → AreQuiet (fs ++ e ∷ back) → ⊥
made_quiet [] back e p q = not_both (is_made e.said) p q.0
made_quiet (f ∷ fs) back e p q = made_quiet fs back e p q.1

made_as : (fs back items : List entry.Entry) (e : entry.Entry) → is_made e.said ≡ true → fs ++ e ∷ back ≡ items → AreQuiet items → ⊥
made_as fs back items e p i q = made_quiet fs back e p (subst AreQuiet (sym i) q)

pub not_quiet : (fs back : List entry.Entry) (e : entry.Entry) (s : Stepped) → e.said ≡ entry.Steps s → AreQuiet (fs ++ e ∷ back) → ⊥
not_quiet fs back e s p q = made_quiet fs back e (ap is_made p) q

pub quiet_as : (fs back items : List entry.Entry) (e : entry.Entry) (s : Stepped) → e.said ≡ entry.Steps s → fs ++ e ∷ back ≡ items → AreQuiet items → ⊥
quiet_as fs back items e s p i q = made_as fs back items e (ap is_made p) i q

not_none : (fs back : List entry.Entry) (e : entry.Entry) → fs ++ e ∷ back ≡ [] → ⊥
not_none [] back e i = cc
not_none (f ∷ fs) back e i = cc

-- an item that is alone is the first
alone_first : (fs back : List entry.Entry) (e x : entry.Entry) → fs ++ e ∷ back ≡ x ∷ [] → (fs ≡ []) × (e ≡ x)
alone_first [] back e x i = (refl, heads e x back [] i)
alone_first (f ∷ fs) back e x i = absurd (not_none fs back e (tails f x (fs ++ e ∷ back) [] i))

-- ---- steps of the top frame

last_comes : (r b en : Bool) (items : List entry.Entry) (A C : Type 0) → r ≡ false → b ≡ true → items ≡ [] → MatchBool r A (MatchBool (en || b) (items ≡ []) C)
last_comes true b en items A C p q n = absurd (cc)
last_comes false true true items A C p q n = n
last_comes false true false items A C p q n = n
last_comes false false en items A C p q n = absurd (cc)

either_false : (a b : Bool) → (a || b) ≡ false → a ≡ false
either_false true b e = absurd (cc)
either_false false b e = refl

comes_more : (r b : Bool) (A I C : Type 0) → (A → ⊥) → (I → ⊥) → MatchBool r A (MatchBool b I C) → (r ≡ false) × (b ≡ false) × C
comes_more true b A I C f h m = absurd (f m)
comes_more false true A I C f h m = absurd (h m)
comes_more false false A I C f h m = (refl, refl, m)

comes_on : (r en c : Bool) (A I C : Type 0) → r ≡ false → en ≡ false → c ≡ false → C → MatchBool r A (MatchBool (en || c) I C)
comes_on true en c A I C p q k m = absurd (cc)
comes_on false true c A I C p q k m = absurd (cc)
comes_on false false true A I C p q k m = absurd (cc)
comes_on false false false A I C p q k m = m

waits_on : (b : Bool) (X A B Y Z W C D : Type 0) → (A → ⊥) → (Z → W) → (C → D) → MatchBool b (X × A) (Y × Z × C) → MatchBool b (X × B) (Y × W × D)
waits_on true X A B Y Z W C D f h k m = absurd (f m.1)
waits_on false X A B Y Z W C D f h k m = (m.0, h m.1, k m.2)

waits_end : (b : Bool) (X A Y Z C : Type 0) → (A → ⊥) → (C → ⊥) → MatchBool b (X × A) (Y × Z × C) → ⊥
waits_end true X A Y Z C f k m = f m.1
waits_end false X A Y Z C f k m = k m.2

awaited : (u : ℕ) (fs back : List entry.Entry) (e : entry.Entry) → ComesAwaited u (fs ++ e ∷ back) → ComesAwaited u (fs ++ e ∷ [])
awaited u [] back e h = h
awaited u (f ∷ fs) back e h = h

not_equal : (a b : ℕ) (c : Bool) → (a == b) ≡ c → (a ≡ b → ⊥) → (a == b) ≡ false
not_equal a b true p n = absurd (n (eqb-true a b p))
not_equal a b false p n = p

module _ {State Call : Type 0} (g : Setting State Call) (line : ℕ) (reach : StopCondition) where
  -- the steps up to one of them: as many as are asked for
  abbrev IsCut : (fs back : List entry.Entry) (e : entry.Entry) → Type 0
  IsCut fs back e = (made k : ℕ) (m : Moment State Call) → k ≡ steps_in (fs ++ e ∷ []) → GoesOn g line reach made m (fs ++ e ∷ back) → GoesOn g line (Count (made + k)) made m (fs ++ e ∷ [])

  cut_last : (back : List entry.Entry) (e : entry.Entry) (s : Stepped) → e.said ≡ entry.Steps s → resets_chip s.made ≡ false → IsCut [] back e
  cut_last back e s p r made k m c h =
      let n : k ≡ 1 = c ∙ steps_cons e [] ∙ ap (λ (b : Bool). one b + 0) (step_said e s p) in
      let t : made + 1 ≡ made + k = omega (arith, n) in
      let now : IsStep g line reach made m e back (entry.Steps s) (λ n deed. GoesOn g line reach n (after g m deed) back) = subst (λ (w : entry.Said). IsStep g line reach made m e back w (λ n deed. GoesOn g line reach n (after g m deed) back)) p h in
      subst (λ (w : entry.Said). IsStep g line (Count (made + k)) made m e [] w (λ n deed. GoesOn g line (Count (made + k)) n (after g m deed) [])) (sym p)
      (now.0, now.1, last_comes (resets_chip s.made) (made + 1 == made + k) (is_some s.ended) [] _ _ r (eq-eqb (made + 1) (made + k) t) refl)

  cut_item : (fs back : List entry.Entry) (f e : entry.Entry) (s : Stepped) (w : entry.Said) → e.said ≡ entry.Steps s → IsCut fs back e → (made k j : ℕ) (m : Moment State Call) → j ≡ steps_in (fs ++ e ∷ []) → 0 < j → k ≡ one (is_step w) + j → IsStep g line reach made m f (fs ++ e ∷ back) w (λ n deed. GoesOn g line reach n (after g m deed) (fs ++ e ∷ back)) → IsStep g line (Count (made + k)) made m f (fs ++ e ∷ []) w (λ n deed. GoesOn g line (Count (made + k)) n (after g m deed) (fs ++ e ∷ []))
  cut_item fs back f e s (entry.Steps t) p more made k j m c l n h =
      let m1 = after g m (Steps t) in
      let u : (resets_chip t.made ≡ false) × ((is_some t.ended || is_reached reach (made + 1) t) ≡ false) × GoesOn g line reach (made + 1) m1 (fs ++ e ∷ back) =
      comes_more (resets_chip t.made) (is_some t.ended || is_reached reach (made + 1) t) _ _ _ (λ i. quiet_as fs back _ e s p i (refl, tt)) (not_none fs back e) h.2 in
      let q : made + 1 + j ≡ made + k = omega (arith, n) in
      let go : GoesOn g line (Count (made + k)) (made + 1) m1 (fs ++ e ∷ []) = subst (λ (x : ℕ). GoesOn g line (Count x) (made + 1) m1 (fs ++ e ∷ [])) q (more (made + 1) j m1 c u.2) in
      (h.0, h.1, comes_on (resets_chip t.made) (is_some t.ended) (made + 1 == made + k) _ _ _ u.0 (either_false (is_some t.ended) (is_reached reach (made + 1) t) u.1) (not_equal (made + 1) (made + k) (made + 1 == made + k) refl (λ x. omega (arith, x, n, l))) go)
  cut_item fs back f e s (entry.Happens (orders.Tick ticks)) p more made k j m c l n h =
      let q : made + j ≡ made + k = omega (arith, n) in
      let w = h.2 in (
        h.0,
        h.1,
        record {
          unit = w.unit;
          busy = w.busy;
          unmasked = w.unmasked;
          may = w.may;
          goes = waits_on _ _ _ _ _ _ _ _ _ (λ i. quiet_as fs back _ e s p i (refl, tt)) (awaited w.unit fs back e) (λ x. subst (λ (y : ℕ). GoesOn g line (Count y) made (after g m (Happens (orders.Tick ticks))) (fs ++ e ∷ [])) q (more made j (after g m (Happens (orders.Tick ticks))) c x)) w.goes;
        },
      )
  cut_item fs back f e s (entry.Happens o) p more made k j m c l n h = absurd h
  cut_item fs back f e s entry.Begins p more made k j m c l n h = absurd h
  cut_item fs back f e s (entry.Stays x) p more made k j m c l n h = absurd h
  cut_item fs back f e s (entry.Resets x y) p more made k j m c l n h = absurd h

  pub cut : (fs back : List entry.Entry) (e : entry.Entry) (s : Stepped) → e.said ≡ entry.Steps s → resets_chip s.made ≡ false → IsCut fs back e
  cut [] back e s p r = cut_last back e s p r
  cut (f ∷ fs) back e s p r = λ made k m c h. cut_item fs back f e s f.said p (cut fs back e s p r) made k (steps_in (fs ++ e ∷ [])) m refl (steps_some fs e s p) (c ∙ steps_cons f (fs ++ e ∷ [])) h

pub whole_count : {State Call : Type 0} (g : Setting State Call) (line j : ℕ) (m : Moment State Call) (items : List entry.Entry) → GoesOn g line (Count (0 + suc j)) 0 m items → GoesOn g line (Count (suc j)) 0 m items
whole_count g line j m items h = let e : 0 + suc j ≡ suc j = omega arith in subst (λ (k : ℕ). GoesOn g line (Count k) 0 m items) e h

-- what stands of a directive up to a step
positive : (j : ℕ) → nat_lt 0 (suc j) ≡ true
positive j = grind (arith, nat_tests)

up_by_test : (line : ℕ) (order : Order) (j : ℕ) (b : Bool) → b ≡ true → on_line line (option_to_list (beginning_of order) ++ (if b then orders.Run (suc j) ∷ [] else [])) ≡ on_line line (option_to_list (beginning_of order)) ++ record { line = line; order = orders.Run (suc j) } ∷ []
up_by_test line order j true e = map-append (λ (o : Order). record { line = line; order = o }) (option_to_list (beginning_of order)) (orders.Run (suc j) ∷ [])
up_by_test line order j false e = absurd (cc)

up_is : (line : ℕ) (order : Order) (j : ℕ) → on_line line (orders_up order (suc j)) ≡ on_line line (option_to_list (beginning_of order)) ++ record { line = line; order = orders.Run (suc j) } ∷ []
up_is line order j = up_by_test line order j (nat_lt 0 (suc j)) (positive j)

up_alone : (line : ℕ) (order : Order) (j : ℕ) → beginning_of order ≡ None → on_line line (orders_up order (suc j)) ≡ record { line = line; order = orders.Run (suc j) } ∷ []
up_alone line order j n = up_is line order j ∙ ap (λ (o : Option Order). on_line line (option_to_list o) ++ record { line = line; order = orders.Run (suc j) } ∷ []) n

-- what stands before an element of two lists one behind the other
abbrev Parted : (fs first later back : List entry.Entry) (e : entry.Entry) → Type 0
Parted fs first later back e = ((mid : List entry.Entry) × (first ≡ fs ++ e ∷ mid)) ⊎ ((gs : List entry.Entry) × (fs ≡ first ++ gs) × (later ≡ gs ++ e ∷ back))

parted_more : (f x : entry.Entry) (fs first later back : List entry.Entry) (e : entry.Entry) → f ≡ x → Parted fs first later back e → Parted (f ∷ fs) (x ∷ first) later back e
parted_more f x fs first later back e h (inl (mid, i)) = inl (mid, ap₂ (λ (y : entry.Entry) (ys : List entry.Entry). y ∷ ys) (sym h) i)
parted_more f x fs first later back e h (inr (gs, i, k)) = inr (gs, ap₂ (λ (y : entry.Entry) (ys : List entry.Entry). y ∷ ys) h i, k)

parted : (fs first later back : List entry.Entry) (e : entry.Entry) → fs ++ e ∷ back ≡ first ++ later → Parted fs first later back e
parted fs [] later back e i = inr (fs, refl, sym i)
parted [] (x ∷ xs) later back e i = inl (xs, ap (λ (y : entry.Entry). y ∷ xs) (sym (heads e x back (xs ++ later) i)))
parted (f ∷ fs) (x ∷ xs) later back e i = parted_more f x fs xs later back e (heads f x (fs ++ e ∷ back) (xs ++ later) i) (parted fs xs later back e (tails f x (fs ++ e ∷ back) (xs ++ later) i))

-- ---- a directive

module _ {State Call : Type 0} (g : Setting State Call) (call_of : Request → Call) where
  cut_goes : (line j : ℕ) (m : Moment State Call) (os : List (Open Call)) (reach : StopCondition) (fs back : List entry.Entry) (e : entry.Entry) (s : Stepped) → e.said ≡ entry.Steps s → resets_chip s.made ≡ false → suc j ≡ steps_in (fs ++ e ∷ []) → Goes g line reach m os (fs ++ e ∷ back) → Goes g line (Count (suc j)) m os (fs ++ e ∷ [])
  cut_goes line j m [] reach fs back e s p r c h = absurd (quiet_as fs back _ e s p h (refl, tt))
  cut_goes line j m (o ∷ os) (Count zero) fs back e s p r c h = absurd (not_none fs back e h)
  cut_goes line j m (o ∷ os) (Count (suc n)) fs back e s p r c h = whole_count g line j m (fs ++ e ∷ []) (cut g line (Count (suc n)) fs back e s p r 0 (suc j) m c h)
  cut_goes line j m (o ∷ os) (Until stop) fs back e s p r c h = whole_count g line j m (fs ++ e ∷ []) (cut g line (Until stop) fs back e s p r 0 (suc j) m c h)
  cut_goes line j m (o ∷ os) Whole fs back e s p r c h = whole_count g line j m (fs ++ e ∷ []) (cut g line Whole fs back e s p r 0 (suc j) m c h)

  -- a directive alone
  alone : (line : ℕ) (order : Order) (m : Moment State Call) (items : List entry.Entry) → Gives g call_of m line order items → Follows g call_of m (record { line = line; order = order } ∷ []) items
  alone line order m items h = record { first = items; later = []; is = sym (append-nil items); gives = h; rest = refl }

  run_alone : (line j : ℕ) (order : Order) (m : Moment State Call) (items : List entry.Entry) → beginning_of order ≡ None → Goes g line (Count (suc j)) m m.opens items → Follows g call_of m (on_line line (orders_up order (suc j))) items
  run_alone line j order m items n h = subst (λ (ds : List Directive). Follows g call_of m ds items) (sym (up_alone line order j n)) (alone line (orders.Run (suc j)) m items h)

  abbrev begun_item : (line : ℕ) (m : Moment State Call) → entry.Entry
  begun_item line m = record { line = line; depth = length m.opens; said = entry.Begins }

  -- the items behind a beginning
  behind_begun : (line : ℕ) (m m1 : Moment State Call) (fs back steps : List entry.Entry) (e : entry.Entry) (s : Stepped) → e.said ≡ entry.Steps s → fs ++ e ∷ back ≡ begun_item line m ∷ steps → GoesOn g line Whole 0 m1 steps → (gs : List entry.Entry) × (fs ≡ begun_item line m ∷ gs) × GoesOn g line Whole 0 m1 (gs ++ e ∷ back)
  behind_begun line m m1 [] back steps e s p i h = absurd (not_both (is_step e.said) (step_said e s p) (ap (λ (x : entry.Entry). is_step x.said) (heads e (begun_item line m) back steps i)))
  behind_begun line m m1 (f ∷ fs) back steps e s p i h = (fs, ap (λ (x : entry.Entry). x ∷ fs) (heads f (begun_item line m) (fs ++ e ∷ back) steps i), subst (λ (es : List entry.Entry). GoesOn g line Whole 0 m1 es) (sym (tails f (begun_item line m) (fs ++ e ∷ back) steps i)) h)

  abbrev IsCutWhole : (line j : ℕ) (m : Moment State Call) (up : Order) (fs back : List entry.Entry) (e : entry.Entry) → Type 0
  IsCutWhole line j m up fs back e = Follows g call_of m (record { line = line; order = up } ∷ record { line = line; order = orders.Run (suc j) } ∷ []) (fs ++ e ∷ [])

  cut_do : (line j level : ℕ) (q : Request) (m : Moment State Call) (held : Option Held) (fs back : List entry.Entry) (e : entry.Entry) (s : Stepped) → call_held g m (call_of q) level ≡ held → e.said ≡ entry.Steps s → resets_chip s.made ≡ false → suc j ≡ steps_in (fs ++ e ∷ []) → BeginsWhole g m line (Begins (call_of q) level) held (fs ++ e ∷ back) → IsCutWhole line j m (orders.Call level q) fs back e
  cut_do line j level q m (Some c) fs back e s k p r n h = absurd (quiet_as fs back _ e s p h (refl, tt))
  cut_do line j level q m None fs back e s k p r n h =
      let m1 = after g m (Begins (call_of q) level) in
      let b : (gs : List entry.Entry) × (fs ≡ begun_item line m ∷ gs) × GoesOn g line Whole 0 m1 (gs ++ e ∷ back) = behind_begun line m m1 fs back h.steps e s p h.is h.goes in
      let c : suc j ≡ steps_in (b.0 ++ e ∷ []) = n ∙ ap (λ (es : List entry.Entry). steps_in (es ++ e ∷ [])) b.1 ∙ steps_cons (begun_item line m) (b.0 ++ e ∷ []) ∙ omega arith in
      let go : GoesOn g line (Count (suc j)) 0 m1 (b.0 ++ e ∷ []) = whole_count g line j m1 (b.0 ++ e ∷ []) (cut g line Whole b.0 back e s p r 0 (suc j) m1 c b.2) in
      subst (λ (es : List entry.Entry). Follows g call_of m (record { line = line; order = orders.Call level q } ∷ record { line = line; order = orders.Run (suc j) } ∷ []) (es ++ e ∷ [])) (sym b.1)
      (record {
        first = begun_item line m ∷ [];
        later = b.0 ++ e ∷ [];
        is = refl;
        gives = subst (λ (o : Option Held). BeginsOnly m line o (begun_item line m ∷ [])) (sym k) refl;
        rest = alone line (orders.Run (suc j)) m1 (b.0 ++ e ∷ []) go;
      })

  cut_serve : (line j l : ℕ) (m : Moment State Call) (held : Option Held) (fs back : List entry.Entry) (e : entry.Entry) (s : Stepped) → line_held g m l ≡ held → e.said ≡ entry.Steps s → resets_chip s.made ≡ false → suc j ≡ steps_in (fs ++ e ∷ []) → BeginsWhole g m line (Enters l) held (fs ++ e ∷ back) → IsCutWhole line j m (orders.Enter l) fs back e
  cut_serve line j l m (Some c) fs back e s k p r n h = absurd (quiet_as fs back _ e s p h (refl, tt))
  cut_serve line j l m None fs back e s k p r n h =
      let m1 = after g m (Enters l) in
      let b : (gs : List entry.Entry) × (fs ≡ begun_item line m ∷ gs) × GoesOn g line Whole 0 m1 (gs ++ e ∷ back) = behind_begun line m m1 fs back h.steps e s p h.is h.goes in
      let c : suc j ≡ steps_in (b.0 ++ e ∷ []) = n ∙ ap (λ (es : List entry.Entry). steps_in (es ++ e ∷ [])) b.1 ∙ steps_cons (begun_item line m) (b.0 ++ e ∷ []) ∙ omega arith in
      let go : GoesOn g line (Count (suc j)) 0 m1 (b.0 ++ e ∷ []) = whole_count g line j m1 (b.0 ++ e ∷ []) (cut g line Whole b.0 back e s p r 0 (suc j) m1 c b.2) in
      subst (λ (es : List entry.Entry). Follows g call_of m (record { line = line; order = orders.Enter l } ∷ record { line = line; order = orders.Run (suc j) } ∷ []) (es ++ e ∷ [])) (sym b.1)
      (record {
        first = begun_item line m ∷ [];
        later = b.0 ++ e ∷ [];
        is = refl;
        gives = subst (λ (o : Option Held). BeginsOnly m line o (begun_item line m ∷ [])) (sym k) refl;
        rest = alone line (orders.Run (suc j)) m1 (b.0 ++ e ∷ []) go;
      })

  -- a directive without steps
  no_step_begins : (line : ℕ) (m : Moment State Call) (held : Option Held) (fs back : List entry.Entry) (e : entry.Entry) (s : Stepped) → e.said ≡ entry.Steps s → BeginsOnly m line held (fs ++ e ∷ back) → ⊥
  no_step_begins line m (Some c) fs back e s p h = quiet_as fs back _ e s p h (refl, tt)
  no_step_begins line m None fs back e s p h = not_both (is_step e.said) (step_said e s p) (ap (λ (x : entry.Entry). is_step x.said) (alone_first fs back e (begun_item line m) h).1)

  happens_quiet : (line : ℕ) (m : Moment State Call) (order : Order) (held : Option Held) (items : List entry.Entry) → HappensOnly m line order held items → AreQuiet items
  happens_quiet line m order (Some c) items h = subst AreQuiet (sym h) (refl, tt)
  happens_quiet line m order None items h = subst AreQuiet (sym h) (refl, tt)

  shows_quiet : (line : ℕ) (m : Moment State Call) (order : Order) (os : List (Open Call)) (items : List entry.Entry) → Shows m line order os items → AreQuiet items
  shows_quiet line m order [] items h = subst AreQuiet (sym h) (refl, tt)
  shows_quiet line m order (o ∷ os) items h = subst AreQuiet (sym h) (refl, tt)

  left_quiet : (line rest : ℕ) → AreQuiet (ticks_left line rest)
  left_quiet line zero = tt
  left_quiet line (suc n) = (refl, tt)

  through_quiet : (line n left : ℕ) (m : Moment State Call) (b : Bool) (items : List entry.Entry) → MatchBool b (IsOne m line (entry.Happens (orders.Tick n)) items) (items ≡ ticks_through line (length m.opens) left (n - left)) → AreQuiet items
  through_quiet line n left m true items h = subst AreQuiet (sym h) (refl, tt)
  through_quiet line n left m false items h = subst AreQuiet (sym h) (refl, (refl, left_quiet line (n - left)))

  ticks_quiet : (line n : ℕ) (m : Moment State Call) (left : Option ℕ) (items : List entry.Entry) → Ticks m line n left items → AreQuiet items
  ticks_quiet line n m None items h = subst AreQuiet (sym h) (refl, tt)
  ticks_quiet line n m (Some left) items h = through_quiet line n left m (nat_lt n left) items h

  cut_directive : (line j : ℕ) (order : Order) (m : Moment State Call) (fs back : List entry.Entry) (e : entry.Entry) (s : Stepped) → e.said ≡ entry.Steps s → resets_chip s.made ≡ false → suc j ≡ steps_in (fs ++ e ∷ []) → Gives g call_of m line order (fs ++ e ∷ back) → Follows g call_of m (on_line line (orders_up order (suc j))) (fs ++ e ∷ [])
  cut_directive line j (orders.Do level q) m fs back e s p r n h = subst (λ (ds : List Directive). Follows g call_of m ds (fs ++ e ∷ [])) (sym (up_is line (orders.Do level q) j)) (cut_do line j level q m (call_held g m (call_of q) level) fs back e s refl p r n h)
  cut_directive line j (orders.Serve l) m fs back e s p r n h = subst (λ (ds : List Directive). Follows g call_of m ds (fs ++ e ∷ [])) (sym (up_is line (orders.Serve l) j)) (cut_serve line j l m (line_held g m l) fs back e s refl p r n h)
  cut_directive line j (orders.Run k) m fs back e s p r n h = run_alone line j (orders.Run k) m (fs ++ e ∷ []) refl (cut_goes line j m m.opens (Count k) fs back e s p r n h)
  cut_directive line j (orders.Upto stop) m fs back e s p r n h = run_alone line j (orders.Upto stop) m (fs ++ e ∷ []) refl (cut_goes line j m m.opens (Until stop) fs back e s p r n h)
  cut_directive line j orders.Finish m fs back e s p r n h = run_alone line j orders.Finish m (fs ++ e ∷ []) refl (cut_goes line j m m.opens Whole fs back e s p r n h)
  cut_directive line j (orders.Call level q) m fs back e s p r n h = absurd (no_step_begins line m (call_held g m (call_of q) level) fs back e s p h)
  cut_directive line j (orders.Enter l) m fs back e s p r n h = absurd (no_step_begins line m (line_held g m l) fs back e s p h)
  cut_directive line j (orders.Tick k) m fs back e s p r n h = absurd (not_quiet fs back e s p (ticks_quiet line k m (g.machine.expires m.world m.state) (fs ++ e ∷ back) h))
  cut_directive line j (orders.Level a b) m fs back e s p r n h = absurd (quiet_as fs back _ e s p h (refl, tt))
  cut_directive line j (orders.Analog a b) m fs back e s p r n h = absurd (quiet_as fs back _ e s p h (refl, tt))
  cut_directive line j (orders.Trigger a) m fs back e s p r n h = absurd (quiet_as fs back _ e s p h (refl, tt))
  cut_directive line j (orders.Miso a b) m fs back e s p r n h = absurd (quiet_as fs back _ e s p h (refl, tt))
  cut_directive line j (orders.SpiFault a) m fs back e s p r n h = absurd (quiet_as fs back _ e s p h (refl, tt))
  cut_directive line j orders.Detach m fs back e s p r n h = absurd (not_quiet fs back e s p (happens_quiet line m orders.Detach (hardware_held g m orders.Detach) (fs ++ e ∷ back) h))
  cut_directive line j (orders.Fill a b) m fs back e s p r n h = absurd (not_quiet fs back e s p (happens_quiet line m (orders.Fill a b) (hardware_held g m (orders.Fill a b)) (fs ++ e ∷ back) h))
  cut_directive line j (orders.Reset Software) m fs back e s p r n h = absurd h
  cut_directive line j (orders.Reset reason) m fs back e s p r n h = absurd (quiet_as fs back _ e s p h (refl, tt))
  cut_directive line j (orders.Show a) m fs back e s p r n h = absurd (not_quiet fs back e s p (shows_quiet line m (orders.Show a) m.opens (fs ++ e ∷ back) h))

  -- ---- a block

  -- the block up to a step of one of its directives is followed
  pub record IsCutAt (m : Moment State Call) (block : List Directive) (steps : List ℕ) (items : List entry.Entry) : Type 0 where
    pub number : ℕ
    pub directive : Directive
    pub all : ℕ
    pub made : ℕ
    pub at : slice_get block number ≡ Some directive
    pub makes : slice_get steps number ≡ Some all
    pub within : made < all
    pub follows : Follows g call_of m (take number block ++ on_line directive.line (orders_up directive.order (suc made))) items

  pub cut_run : (block : List Directive) (steps : List ℕ) (m : Moment State Call) (fs back : List entry.Entry) (e : entry.Entry) (s : Stepped) → e.said ≡ entry.Steps s → resets_chip s.made ≡ false → Makes g call_of m block steps (fs ++ e ∷ back) → IsCutAt m block steps (fs ++ e ∷ [])
  cut_run [] ns m fs back e s p r h = absurd (not_none fs back e h)
  cut_run (d ∷ ds) [] m fs back e s p r h = absurd h
  cut_run (d ∷ ds) (n ∷ ns) m fs back e s p r h = elim (parted fs h.first h.later back e h.is) [
    | inl (mid, i) ↦
        let made : suc (steps_in (fs ++ e ∷ []) - 1) ≡ steps_in (fs ++ e ∷ []) = omega (arith, steps_some fs e s p) in
        let all : fs ++ e ∷ mid ≡ (fs ++ e ∷ []) ++ mid = sym (append_assoc fs (e ∷ []) mid) in
        let most : steps_in (fs ++ e ∷ []) ≤ n = subst (λ (k : ℕ). steps_in (fs ++ e ∷ []) ≤ k) (ap steps_in (sym all) ∙ ap steps_in (sym i) ∙ h.made) (steps_most (fs ++ e ∷ []) mid) in
        record {
          number = 0;
          directive = d;
          all = n;
          made = steps_in (fs ++ e ∷ []) - 1;
          at = refl;
          makes = refl;
          within = omega (arith, made, most);
          follows = cut_directive d.line (steps_in (fs ++ e ∷ []) - 1) d.order m fs mid e s p r made (subst (λ (es : List entry.Entry). Gives g call_of m d.line d.order es) i h.gives);
        }
    | inr (gs, i, k) ↦
        let m1 = after_all g m (deeds_in call_of d.order h.first) in
        let c : IsCutAt m1 ds ns (gs ++ e ∷ []) = cut_run ds ns m1 gs back e s p r (subst (λ (es : List entry.Entry). Makes g call_of m1 ds ns es) k h.rest) in
        record {
          number = suc c.number;
          directive = c.directive;
          all = c.all;
          made = c.made;
          at = c.at;
          makes = c.makes;
          within = c.within;
          follows = record {
            first = h.first;
            later = gs ++ e ∷ [];
            is = ap (λ (es : List entry.Entry). es ++ e ∷ []) i ∙ append_assoc h.first gs (e ∷ []);
            gives = h.gives;
            rest = c.follows;
          };
        }
  ]

  -- ---- a beginning

  -- among the steps of a frame nothing begins
  no_begin_item : (line : ℕ) (reach : StopCondition) (fs back : List entry.Entry) (f e : entry.Entry) (w : entry.Said) → is_made e.said ≡ true → ((n : ℕ) (m : Moment State Call) → GoesOn g line reach n m (fs ++ e ∷ back) → ⊥) → (made : ℕ) (m : Moment State Call) → IsStep g line reach made m f (fs ++ e ∷ back) w (λ n deed. GoesOn g line reach n (after g m deed) (fs ++ e ∷ back)) → ⊥
  no_begin_item line reach fs back f e (entry.Steps t) p more made m h =
      more (made + 1) (after g m (Steps t)) (comes_more (resets_chip t.made) (is_some t.ended || is_reached reach (made + 1) t) _ _ _ (λ i. made_as fs back _ e p i (refl, tt)) (not_none fs back e) h.2).2
  no_begin_item line reach fs back f e (entry.Happens (orders.Tick n)) p more made m h = waits_end _ _ _ _ _ _ (λ i. made_as fs back _ e p i (refl, tt)) (more made (after g m (Happens (orders.Tick n)))) h.2.goes
  no_begin_item line reach fs back f e (entry.Happens o) p more made m h = h
  no_begin_item line reach fs back f e entry.Begins p more made m h = h
  no_begin_item line reach fs back f e (entry.Stays c) p more made m h = h
  no_begin_item line reach fs back f e (entry.Resets r k) p more made m h = h

  no_begin : (line : ℕ) (reach : StopCondition) (fs back : List entry.Entry) (e : entry.Entry) → e.said ≡ entry.Begins → (made : ℕ) (m : Moment State Call) → GoesOn g line reach made m (fs ++ e ∷ back) → ⊥
  no_begin line reach [] back e p made m h = subst (λ (w : entry.Said). IsStep g line reach made m e back w (λ n deed. GoesOn g line reach n (after g m deed) back)) p h
  no_begin line reach (f ∷ fs) back e p made m h = no_begin_item line reach fs back f e f.said (ap is_made p) (no_begin line reach fs back e p) made m h

  no_begin_goes : (line : ℕ) (reach : StopCondition) (m : Moment State Call) (os : List (Open Call)) (fs back : List entry.Entry) (e : entry.Entry) → e.said ≡ entry.Begins → Goes g line reach m os (fs ++ e ∷ back) → ⊥
  no_begin_goes line reach m [] fs back e p h = made_as fs back _ e (ap is_made p) h (refl, tt)
  no_begin_goes line (Count zero) m (o ∷ os) fs back e p h = not_none fs back e h
  no_begin_goes line (Count (suc n)) m (o ∷ os) fs back e p h = no_begin line (Count (suc n)) fs back e p 0 m h
  no_begin_goes line (Until stop) m (o ∷ os) fs back e p h = no_begin line (Until stop) fs back e p 0 m h
  no_begin_goes line Whole m (o ∷ os) fs back e p h = no_begin line Whole fs back e p 0 m h

  -- the items of a directive up to a beginning are all of them, and none is a step; or those of the beginning of its frame
  abbrev pub IsBegunBy : (line : ℕ) (order : Order) (m : Moment State Call) (items all : List entry.Entry) → Type 0
  IsBegunBy line order m items all = ((steps_in all ≡ 0) × Follows g call_of m (record { line = line; order = order } ∷ []) items) ⊎ ((begins_frame order ≡ true) × Follows g call_of m (on_line line (orders_up order 0)) items)

  begun_alone : (line : ℕ) (order : Order) (m : Moment State Call) (held : Option Held) (fs back : List entry.Entry) (e : entry.Entry) → e.said ≡ entry.Begins → BeginsOnly m line held (fs ++ e ∷ back) → ((items : List entry.Entry) → BeginsOnly m line held items → Gives g call_of m line order items) → IsBegunBy line order m (fs ++ e ∷ []) (fs ++ e ∷ back)
  begun_alone line order m (Some c) fs back e p h gives = absurd (made_as fs back _ e (ap is_made p) h (refl, tt))
  begun_alone line order m None fs back e p h gives =
      let a : (fs ≡ []) × (e ≡ begun_item line m) = alone_first fs back e (begun_item line m) h in
      let i : fs ++ e ∷ [] ≡ begun_item line m ∷ [] = ap₂ (λ (xs : List entry.Entry) (x : entry.Entry). xs ++ x ∷ []) a.0 a.1 in
      inl (ap steps_in h, alone line order m (fs ++ e ∷ []) (gives (fs ++ e ∷ []) i))

  begun_first : (line : ℕ) (m m1 : Moment State Call) (fs back steps : List entry.Entry) (e : entry.Entry) → e.said ≡ entry.Begins → fs ++ e ∷ back ≡ begun_item line m ∷ steps → GoesOn g line Whole 0 m1 steps → fs ++ e ∷ [] ≡ begun_item line m ∷ []
  begun_first line m m1 [] back steps e p i h = ap (λ (x : entry.Entry). x ∷ []) (heads e (begun_item line m) back steps i)
  begun_first line m m1 (f ∷ fs) back steps e p i h = absurd (no_begin line Whole fs back e p 0 m1 (subst (λ (es : List entry.Entry). GoesOn g line Whole 0 m1 es) (sym (tails f (begun_item line m) (fs ++ e ∷ back) steps i)) h))

  begun_do : (line level : ℕ) (q : Request) (m : Moment State Call) (held : Option Held) (fs back : List entry.Entry) (e : entry.Entry) → call_held g m (call_of q) level ≡ held → e.said ≡ entry.Begins → BeginsWhole g m line (Begins (call_of q) level) held (fs ++ e ∷ back) → IsBegunBy line (orders.Do level q) m (fs ++ e ∷ []) (fs ++ e ∷ back)
  begun_do line level q m (Some c) fs back e k p h = absurd (made_as fs back _ e (ap is_made p) h (refl, tt))
  begun_do line level q m None fs back e k p h =
      inr (refl, alone line (orders.Call level q) m (fs ++ e ∷ []) (subst (λ (o : Option Held). BeginsOnly m line o (fs ++ e ∷ [])) (sym k) (begun_first line m (after g m (Begins (call_of q) level)) fs back h.steps e p h.is h.goes)))

  begun_serve : (line l : ℕ) (m : Moment State Call) (held : Option Held) (fs back : List entry.Entry) (e : entry.Entry) → line_held g m l ≡ held → e.said ≡ entry.Begins → BeginsWhole g m line (Enters l) held (fs ++ e ∷ back) → IsBegunBy line (orders.Serve l) m (fs ++ e ∷ []) (fs ++ e ∷ back)
  begun_serve line l m (Some c) fs back e k p h = absurd (made_as fs back _ e (ap is_made p) h (refl, tt))
  begun_serve line l m None fs back e k p h =
      inr (refl, alone line (orders.Enter l) m (fs ++ e ∷ []) (subst (λ (o : Option Held). BeginsOnly m line o (fs ++ e ∷ [])) (sym k) (begun_first line m (after g m (Enters l)) fs back h.steps e p h.is h.goes)))

  begun_directive : (line : ℕ) (order : Order) (m : Moment State Call) (fs back : List entry.Entry) (e : entry.Entry) → e.said ≡ entry.Begins → Gives g call_of m line order (fs ++ e ∷ back) → IsBegunBy line order m (fs ++ e ∷ []) (fs ++ e ∷ back)
  begun_directive line (orders.Call level q) m fs back e p h = begun_alone line (orders.Call level q) m (call_held g m (call_of q) level) fs back e p h (λ items x. x)
  begun_directive line (orders.Enter l) m fs back e p h = begun_alone line (orders.Enter l) m (line_held g m l) fs back e p h (λ items x. x)
  begun_directive line (orders.Do level q) m fs back e p h = begun_do line level q m (call_held g m (call_of q) level) fs back e refl p h
  begun_directive line (orders.Serve l) m fs back e p h = begun_serve line l m (line_held g m l) fs back e refl p h
  begun_directive line (orders.Run k) m fs back e p h = absurd (no_begin_goes line (Count k) m m.opens fs back e p h)
  begun_directive line (orders.Upto stop) m fs back e p h = absurd (no_begin_goes line (Until stop) m m.opens fs back e p h)
  begun_directive line orders.Finish m fs back e p h = absurd (no_begin_goes line Whole m m.opens fs back e p h)
  begun_directive line (orders.Tick k) m fs back e p h = absurd (made_quiet fs back e (ap is_made p) (ticks_quiet line k m (g.machine.expires m.world m.state) (fs ++ e ∷ back) h))
  begun_directive line (orders.Level a b) m fs back e p h = absurd (made_as fs back _ e (ap is_made p) h (refl, tt))
  begun_directive line (orders.Analog a b) m fs back e p h = absurd (made_as fs back _ e (ap is_made p) h (refl, tt))
  begun_directive line (orders.Trigger a) m fs back e p h = absurd (made_as fs back _ e (ap is_made p) h (refl, tt))
  begun_directive line (orders.Miso a b) m fs back e p h = absurd (made_as fs back _ e (ap is_made p) h (refl, tt))
  begun_directive line (orders.SpiFault a) m fs back e p h = absurd (made_as fs back _ e (ap is_made p) h (refl, tt))
  begun_directive line orders.Detach m fs back e p h = absurd (made_quiet fs back e (ap is_made p) (happens_quiet line m orders.Detach (hardware_held g m orders.Detach) (fs ++ e ∷ back) h))
  begun_directive line (orders.Fill a b) m fs back e p h = absurd (made_quiet fs back e (ap is_made p) (happens_quiet line m (orders.Fill a b) (hardware_held g m (orders.Fill a b)) (fs ++ e ∷ back) h))
  begun_directive line (orders.Reset Software) m fs back e p h = absurd h
  begun_directive line (orders.Reset reason) m fs back e p h = absurd (made_as fs back _ e (ap is_made p) h (refl, tt))
  begun_directive line (orders.Show a) m fs back e p h = absurd (made_quiet fs back e (ap is_made p) (shows_quiet line m (orders.Show a) m.opens (fs ++ e ∷ back) h))

  -- the block up to a beginning is followed
  pub record IsBegunAt (m : Moment State Call) (block : List Directive) (steps : List ℕ) (items : List entry.Entry) : Type 0 where
    pub number : ℕ
    pub directive : Directive
    pub all : ℕ
    pub at : slice_get block number ≡ Some directive
    pub makes : slice_get steps number ≡ Some all
    pub how : ((all ≡ 0) × Follows g call_of m (take number block ++ directive ∷ []) items) ⊎ ((begins_frame directive.order ≡ true) × Follows g call_of m (take number block ++ on_line directive.line (orders_up directive.order 0)) items)

  begun_here : (d : Directive) (n : ℕ) (m : Moment State Call) (items first : List entry.Entry) → steps_in first ≡ n → IsBegunBy d.line d.order m items first → ((n ≡ 0) × Follows g call_of m (d ∷ []) items) ⊎ ((begins_frame d.order ≡ true) × Follows g call_of m (on_line d.line (orders_up d.order 0)) items)
  begun_here d n m items first c (inl (z, f)) = inl (sym c ∙ z, f)
  begun_here d n m items first c (inr (b, f)) = inr (b, f)

  begun_later : (d : Directive) (ds : List Directive) (m m1 : Moment State Call) (items later : List entry.Entry) (number all : ℕ) (directive : Directive) → ((fs : List Directive) → Follows g call_of m1 fs later → Follows g call_of m (d ∷ fs) items) → ((all ≡ 0) × Follows g call_of m1 (take number ds ++ directive ∷ []) later) ⊎ ((begins_frame directive.order ≡ true) × Follows g call_of m1 (take number ds ++ on_line directive.line (orders_up directive.order 0)) later) → ((all ≡ 0) × Follows g call_of m (d ∷ (take number ds ++ directive ∷ [])) items) ⊎ ((begins_frame directive.order ≡ true) × Follows g call_of m (d ∷ (take number ds ++ on_line directive.line (orders_up directive.order 0))) items)
  begun_later d ds m m1 items later number all directive more (inl (z, f)) = inl (z, more (take number ds ++ directive ∷ []) f)
  begun_later d ds m m1 items later number all directive more (inr (b, f)) = inr (b, more (take number ds ++ on_line directive.line (orders_up directive.order 0)) f)

  pub begun_run : (block : List Directive) (steps : List ℕ) (m : Moment State Call) (fs back : List entry.Entry) (e : entry.Entry) → e.said ≡ entry.Begins → Makes g call_of m block steps (fs ++ e ∷ back) → IsBegunAt m block steps (fs ++ e ∷ [])
  begun_run [] ns m fs back e p h = absurd (not_none fs back e h)
  begun_run (d ∷ ds) [] m fs back e p h = absurd h
  begun_run (d ∷ ds) (n ∷ ns) m fs back e p h = elim (parted fs h.first h.later back e h.is) [
    | inl (mid, i) ↦
        let gives : Gives g call_of m d.line d.order (fs ++ e ∷ mid) = subst (λ (es : List entry.Entry). Gives g call_of m d.line d.order es) i h.gives in
        record {
          number = 0;
          directive = d;
          all = n;
          at = refl;
          makes = refl;
          how = begun_here d n m (fs ++ e ∷ []) (fs ++ e ∷ mid) (ap steps_in (sym i) ∙ h.made) (begun_directive d.line d.order m fs mid e p gives);
        }
    | inr (gs, i, k) ↦
        let m1 = after_all g m (deeds_in call_of d.order h.first) in
        let c : IsBegunAt m1 ds ns (gs ++ e ∷ []) = begun_run ds ns m1 gs back e p (subst (λ (es : List entry.Entry). Makes g call_of m1 ds ns es) k h.rest) in
        record {
          number = suc c.number;
          directive = c.directive;
          all = c.all;
          at = c.at;
          makes = c.makes;
          how = begun_later d ds m m1 (fs ++ e ∷ []) (gs ++ e ∷ []) c.number c.all c.directive (λ (ks : List Directive) f. record {
            first = h.first;
            later = gs ++ e ∷ [];
            is = ap (λ (es : List entry.Entry). es ++ e ∷ []) i ∙ append_assoc h.first gs (e ∷ []);
            gives = h.gives;
            rest = f;
          }) c.how;
        }
  ]
