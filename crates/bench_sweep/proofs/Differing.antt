-- Outcomes of which no two tell the same.
use Rattle.std.proofs.Common.{◌≡◌, ◌≢◌, ◌⊎◌, ℕ, ◌<◌, ◌≤◌, ◌&&◌, ◌++◌, Bool, true, false, cond, List, [], ◌∷◌, Option, Some, None, length, get_or, zero, suc, refl, sym, ap, subst, inl, inr, ◌∙◌, arith, eq-eqb, eqb-true}
use Rattle.std.specs.Prelude.{nat_lt, slice_get, string_bytes}
use Rattle.std.specs.List.{position, position_or_len}
use Rattle.std.proofs.lemmas.List.Quantifiers.{position-Some}
use Rattle.std.proofs.lemmas.List.Sums.{fails_before_first}
use Rattle.std.proofs.lemmas.Option.{get_or_from_slice_get, same_Some, slice_get-get_or, slice_get_within}
use Rattle.std.proofs.lemmas.Slice.Eq.{bytes_eq-Decides}
use Rattle.std.proofs.lemmas.Bool.{and_from, and_parts}
use Rattle.mcal_base.specs.facts.Numbers.{lt_isnt}
use Rattle.bench_sweep.specs.declared.outcomes.Outcome.{Outcome}
use Rattle.bench_sweep.specs.declared.outcomes.Told.{Told}
use Rattle.bench_sweep.specs.Lines.{or_length}
use Rattle.bench_sweep.specs.Outcomes.{AreDifferent, Tells, are_told, is_same, is_told, number_of, telling, told_in, with_found, with_outcome}

-- what says the same tells the same
same_told : (x y : Told) → is_told x y ≡ true → (x.line ≡ y.line) × (string_bytes x.text ≡ string_bytes y.text)
same_told x y e =
    let b = and_parts _ _ e in
    (eqb-true x.line y.line b.0, (bytes_eq-Decides (string_bytes x.text) (string_bytes y.text)).0 b.1)

same_in : (xs ys : List Told) → are_told xs ys ≡ true → told_in xs ≡ told_in ys
same_in [] [] e = refl
same_in [] (y ∷ ys) e = absurd (cc)
same_in (x ∷ xs) [] e = absurd (cc)
same_in (x ∷ xs) (y ∷ ys) e =
    let b : (is_told x y ≡ true) × (are_told xs ys ≡ true) = and_parts (is_told x y) (are_told xs ys) e in
    let t : (x.line ≡ y.line) × (string_bytes x.text ≡ string_bytes y.text) = same_told x y b.0 in
    let h : told_in xs ≡ told_in ys = same_in xs ys b.1 in
    rw (t.0, t.1, h) refl

heads : {X : Type 0} (x y : X) (xs ys : List X) → x ∷ xs ≡ y ∷ ys → x ≡ y
heads x y xs ys e = cc

told_same : (xs ys : List Told) → told_in xs ≡ told_in ys → are_told xs ys ≡ true
told_same [] [] e = refl
told_same [] (y ∷ ys) e = absurd (cc)
told_same (x ∷ xs) [] e = absurd (cc)
told_same (x ∷ xs) (y ∷ ys) e =
    let a : ℕ × List ℕ = (x.line, string_bytes x.text) in
    let b : ℕ × List ℕ = (y.line, string_bytes y.text) in
    let h : a ≡ b = heads a b (told_in xs) (told_in ys) e in
    let t : told_in xs ≡ told_in ys = cc in
    and_from (is_told x y) (are_told xs ys)
    (and_from _ _ (eq-eqb x.line y.line (ap (λ (p : ℕ × List ℕ). p.0) h)) ((bytes_eq-Decides (string_bytes x.text) (string_bytes y.text)).1 (ap (λ (p : ℕ × List ℕ). p.1) h)))
    (told_same xs ys t)

-- an element among more, and the last of those
pub get_more : {X : Type 0} (xs ys : List X) (i : ℕ) (x : X) → slice_get xs i ≡ Some x → slice_get (xs ++ ys) i ≡ Some x
get_more [] ys i x e = absurd (cc)
get_more (z ∷ xs) ys zero x e = e
get_more (z ∷ xs) ys (suc i) x e = get_more xs ys i x e

pub get_last : {X : Type 0} (xs : List X) (y : X) → slice_get (xs ++ y ∷ []) (length xs) ≡ Some y
get_last [] y = refl
get_last (z ∷ xs) y = get_last xs y

pub get_of_more : {X : Type 0} (xs : List X) (y : X) (i : ℕ) (x : X) → slice_get (xs ++ y ∷ []) i ≡ Some x → (slice_get xs i ≡ Some x) ⊎ ((i ≡ length xs) × (x ≡ y))
get_of_more [] y zero x e = inr (refl, same_Some x y (sym e))
get_of_more [] y (suc i) x e = absurd (cc)
get_of_more (z ∷ xs) y zero x e = inl e
get_of_more (z ∷ xs) y (suc i) x e = elim (get_of_more xs y i x e) [ inl h ↦ inl h | inr h ↦ inr (ap suc h.0, h.1) ]

true_false : true ≡ false → ⊥
true_false e = cc

none_there : (b : Bool) (n : ℕ) → cond b (Some n) None ≡ None → b ≡ false
none_there true n e = absurd (cc)
none_there false n e = refl

-- no other tells the same where none was found
not_found : (outcome : Outcome) (all : List Outcome) → position (λ other. is_same other outcome) all ≡ None → (i : ℕ) (a : Outcome) → slice_get all i ≡ Some a → telling a ≢ telling outcome
not_found outcome all e i a g = λ t.
    let n = position_or_len (λ (other : Outcome). is_same other outcome) all in
    let f : nat_lt n (length all) ≡ false = none_there (nat_lt n (length all)) n e in
    let l : i < n = omega (arith, lt_isnt n (length all) f, slice_get_within all i a g) in
    let h : is_same (get_or all i a) outcome ≡ false = fails_before_first (λ (other : Outcome). is_same other outcome) all i a l in
    let s : is_same a outcome ≡ true = told_same a.told.items outcome.told.items t in
    let r : get_or all i a ≡ a = get_or_from_slice_get all i a a g in
    let k : is_same a outcome ≡ false = subst (λ (o : Outcome). is_same o outcome ≡ false) r h in
    true_false (sym s ∙ k)

before_last : {X : Type 0} (xs : List X) (y : X) (i j : ℕ) (a : X) → i < j → j ≤ length xs → slice_get (xs ++ y ∷ []) i ≡ Some a → slice_get xs i ≡ Some a
before_last xs y i j a l m e = elim (get_of_more xs y i a e) [ inl h ↦ h | inr h ↦ absurd (omega (arith, h.0)) ]

differ_by : (outcome : Outcome) (all : List Outcome) (o : Option ℕ) → position (λ other. is_same other outcome) all ≡ o → AreDifferent all → AreDifferent (with_found outcome all o)
differ_by outcome all (Some n) e d = d
differ_by outcome all None e d = λ i j a b l g h.
    elim (get_of_more all outcome j b h) [
      | inl k ↦ d i j a b l (before_last all outcome i j a l (omega (arith, slice_get_within all j b k)) g) k
      | inr k ↦ subst (λ (o : Outcome). telling a ≢ telling o) (sym k.1) (not_found outcome all e i a (before_last all outcome i j a l (omega (arith, k.0)) g))
    ]

pub stay_different : (outcome : Outcome) (all : List Outcome) → AreDifferent all → AreDifferent (with_outcome outcome all)
stay_different outcome all d = differ_by outcome all (position (λ other. is_same other outcome) all) refl d

kept_by : (outcome : Outcome) (all : List Outcome) (o : Option ℕ) (n : ℕ) (a : Outcome) → slice_get all n ≡ Some a → slice_get (with_found outcome all o) n ≡ Some a
kept_by outcome all (Some m) n a g = g
kept_by outcome all None n a g = get_more all (outcome ∷ []) n a g

-- the outcome of a number stays that of the number
pub number_kept : (outcome : Outcome) (all : List Outcome) (n : ℕ) (a : Outcome) → slice_get all n ≡ Some a → slice_get (with_outcome outcome all) n ≡ Some a
number_kept outcome all n a g = kept_by outcome all (position (λ other. is_same other outcome) all) n a g

tells_by : (outcome : Outcome) (all : List Outcome) (o : Option ℕ) → position (λ other. is_same other outcome) all ≡ o → Tells (with_found outcome all o) (or_length all o) (telling outcome)
tells_by outcome all (Some n) e =
    let p = position-Some (λ (other : Outcome). is_same other outcome) all n outcome e in
    (get_or all n outcome, slice_get-get_or all n outcome p.0, same_in (get_or all n outcome).told.items outcome.told.items p.1)
tells_by outcome all None e = (outcome, get_last all outcome, refl)

-- the outcome of the number that is given tells the same
pub number_tells : (outcome : Outcome) (all : List Outcome) → Tells (with_outcome outcome all) (number_of outcome all) (telling outcome)
number_tells outcome all = tells_by outcome all (position (λ other. is_same other outcome) all) refl
