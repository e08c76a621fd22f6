-- The ranges of places that have an outcome.
use Rattle.std.proofs.Common.{◌≡◌, ◌≢◌, ◌∙◌, ℕ, ◌+◌, ◌-◌, ◌<◌, ◌≤◌, ◌==◌, Bool, true, false, cond, List, [], ◌∷◌, ◌++◌, Option, Some, None, All, arith, length, get_or, take, drop, zero, suc, add-one, refl, sym, ap, subst, eq-eqb, take_all, drop_of_length-le}
use Rattle.std.specs.Prelude.{slice_get, IfSome}
use Rattle.std.proofs.lemmas.Bool.{ne_eqb}
use Rattle.std.proofs.lemmas.List.{take_more}
use Rattle.std.proofs.lemmas.List.Elements.{All-get_or, All-push, All-take}
use Rattle.std.proofs.lemmas.Option.{same_Some, slice_get-get_or}
use Rattle.bench_sweep.specs.Groups.{cut_last, goes_on, longer, one_place, range_with, ranges_of, with_place, with_ranges, with_settled}
use Rattle.bench_sweep.specs.declared.groups.Range.{Range}
use Rattle.bench_sweep.specs.declared.groups.Settled.{Settled}

pub last_is : {X : Type 0} (P : X → Type 0) (xs : List X) (i : ℕ) (d : X) → i < length xs → All P xs → P (get_or xs i d)
last_is P xs i d l a = All-get_or P xs i d l a

pub pushed : {X : Type 0} (P : X → Type 0) (xs ys : List X) (x : X) → ys ≡ xs ++ x ∷ [] → All P xs → P x → All P ys
pushed {X = X} P xs ys x e a p = subst (λ (zs : List X). All P zs) (sym e) (All-push P xs x a p)

pub front : {X : Type 0} (P : X → Type 0) (xs ys : List X) (n : ℕ) → ys ≡ take n xs → All P xs → All P ys
front {X = X} P xs ys n e a = subst (λ (zs : List X). All P zs) (sym e) (All-take P n xs a)

-- ---- one place more

pub last_stands : (xs : List Range) (n : ℕ) (d : Range) → n ≡ length xs → 0 < n → xs ≡ take (length xs - 1) xs ++ get_or xs (n - 1) d ∷ []
last_stands xs n d e l =
    let inside : length xs - 1 < length xs = omega (arith, e, l) in
    let at : length xs - 1 ≡ n - 1 = omega (arith, e) in
    let whole : length xs - 1 + 1 ≡ length xs = omega (arith, e, l) in
    sym (take_all (length xs) xs (omega arith)) ∙ ap (λ (k : ℕ). take k xs) (sym whole) ∙ take_more xs (length xs - 1) d inside
    ∙ ap (λ (k : ℕ). take (length xs - 1) xs ++ get_or xs k d ∷ []) at

behind_last : (b : Bool) (before : List Range) (r : Range) (place wait : ℕ) → (r.last + 1 == place) ≡ b → with_place (before ++ r ∷ []) place wait ≡ cond b before (before ++ r ∷ []) ++ cond b (longer r place wait) (one_place place wait) ∷ []
behind_last true [] r place wait e = rw e refl
behind_last false [] r place wait e = rw e refl
behind_last true (x ∷ []) r place wait e = ap (λ (rs : List Range). x ∷ rs) (behind_last true [] r place wait e)
behind_last false (x ∷ []) r place wait e = ap (λ (rs : List Range). x ∷ rs) (behind_last false [] r place wait e)
behind_last true (x ∷ y ∷ ys) r place wait e = ap (λ (rs : List Range). x ∷ rs) (behind_last true (y ∷ ys) r place wait e)
behind_last false (x ∷ y ∷ ys) r place wait e = ap (λ (rs : List Range). x ∷ rs) (behind_last false (y ∷ ys) r place wait e)

pub put : (old kept next : List Range) (last : Option Range) (place wait : ℕ) → (last ≡ None → old ≡ []) → IfSome last (λ r. old ≡ take (length old - 1) old ++ r ∷ []) → kept ≡ cut_last (goes_on last place) old → next ≡ kept ++ range_with last place wait ∷ [] → next ≡ with_place old place wait
put old kept next None place wait none some k e =
    e ∙ ap (λ (rs : List Range). rs ++ one_place place wait ∷ []) (k ∙ none refl) ∙ sym (ap (λ (rs : List Range). with_place rs place wait) (none refl))
put old kept next (Some r) place wait none some k e =
    let b = r.last + 1 == place in
    let before = take (length old - 1) old in
    e ∙ ap (λ (rs : List Range). rs ++ cond b (longer r place wait) (one_place place wait) ∷ []) (k ∙ ap (λ (rs : List Range). cond b before rs) some)
    ∙ sym (behind_last b before r place wait refl) ∙ sym (ap (λ (rs : List Range). with_place rs place wait) some)

-- ---- where the place has the outcome

pub kept_in : (all : List Settled) (place outcome : ℕ) (now next : List Range) (found s : Settled) → slice_get all place ≡ Some found → found.outcome ≡ outcome → next ≡ with_place now place found.wait → slice_get all place ≡ Some s → next ≡ with_settled outcome now place s
kept_in all place outcome now next found s g o e h =
    let is : found ≡ s = same_Some found s (sym g ∙ h) in
    subst (λ (x : Settled). next ≡ with_settled outcome now place x) is (rw (eq-eqb found.outcome outcome o) e)

pub left_out : (all : List Settled) (place outcome : ℕ) (now : List Range) (found s : Settled) → slice_get all place ≡ Some found → found.outcome ≢ outcome → slice_get all place ≡ Some s → now ≡ with_settled outcome now place s
left_out all place outcome now found s g o h =
    let is : found ≡ s = same_Some found s (sym g ∙ h) in
    subst (λ (x : Settled). now ≡ with_settled outcome now place x) is (rw (ne_eqb found.outcome outcome o) refl)

-- ---- one place after another

drop_at : (all : List Settled) (place : ℕ) (s : Settled) → slice_get all place ≡ Some s → drop place all ≡ s ∷ drop (suc place) all
drop_at [] place s g = absurd (cc)
drop_at (x ∷ xs) zero s g = ap (λ (y : Settled). y ∷ xs) (same_Some x s g)
drop_at (x ∷ xs) (suc n) s g = drop_at xs n s g

pub ranges_on : (all : List Settled) (place outcome : ℕ) (now next : List Range) → place < length all → ((s : Settled) → slice_get all place ≡ Some s → next ≡ with_settled outcome now place s) → ranges_of outcome all ≡ with_ranges outcome now place (drop place all) → ranges_of outcome all ≡ with_ranges outcome next (place + 1) (drop (place + 1) all)
ranges_on all place outcome now next l e so =
    let d : Settled = record { outcome = 0; wait = 0 } in
    let s : Settled = get_or all place d in
    let at : slice_get all place ≡ Some s = slice_get-get_or all place d l in
    so ∙ ap (λ (ss : List Settled). with_ranges outcome now place ss) (drop_at all place s at)
    ∙ ap (λ (rs : List Range). with_ranges outcome rs (place + 1) (drop (suc place) all)) (sym (e s at))
    ∙ ap (λ (k : ℕ). with_ranges outcome next (place + 1) (drop k all)) (sym (add-one place))

pub ranges_done : (all : List Settled) (place outcome : ℕ) (now : List Range) → length all ≤ place → ranges_of outcome all ≡ with_ranges outcome now place (drop place all) → now ≡ ranges_of outcome all
ranges_done all place outcome now l so = sym (so ∙ ap (λ (ss : List Settled). with_ranges outcome now place ss) (drop_of_length-le all l))
