-- The directives of a script from a place on, which may be run.
use Rattle.std.proofs.Common.{◌≡◌, ℕ, zero, suc, ◌+◌, ◌<◌, ◌≤◌, ◌&&◌, Bool, List, [], ◌∷◌, Some, true, add-one, ap, arith, drop, length, refl, subst, sym}
use Rattle.std.specs.Bool.{Decides}
use Rattle.std.specs.Prelude.{nat_lt, slice_get}
use Rattle.std.proofs.lemmas.Bool.Decides.{Decides-and, Decides-at, Decides-ltb}
use Rattle.std.proofs.lemmas.Option.{none-some, same_Some}
use Rattle.mcal_base.specs.declared.directive.Directive.{Directive}
use Rattle.script_runner.specs.Scripts.{AllBuilt, LinesRise}
use Rattle.script_runner.specs.Standing.{is_built}

-- what a test of a directive behind a line tells
pub stands : (low : ℕ) (d : Directive) (r : Bool) → r ≡ (is_built d.order && nat_lt low d.line) → Decides r ((is_built d.order ≡ true) × (low < d.line))
stands low d r e = Decides-at {P = (is_built d.order ≡ true) × (low < d.line)} r (is_built d.order && nat_lt low d.line) e (Decides-and {P = is_built d.order ≡ true} {Q = low < d.line} (is_built d.order) (nat_lt low d.line) ((λ h. h), (λ h. h)) (Decides-ltb low d.line))

drop_at : (ds : List Directive) (i : ℕ) (d : Directive) → slice_get ds i ≡ Some d → drop i ds ≡ d ∷ drop (suc i) ds
drop_at [] i d e = absurd (none-some d e)
drop_at (x ∷ xs) zero d e = ap (λ (y : Directive). y ∷ xs) (same_Some x d e)
drop_at (x ∷ xs) (suc i) d e = drop_at xs i d e

-- nothing is behind the end
pub none_behind : (ds : List Directive) (i : ℕ) → length ds ≤ i → drop i ds ≡ []
none_behind [] zero l = refl
none_behind [] (suc i) l = refl
none_behind (d ∷ ds) zero l = absurd (omega (arith, l))
none_behind (d ∷ ds) (suc i) l = none_behind ds i (omega (arith, l))

-- the lines rise from a place on, where they rise behind it
pub rises_from : (ds : List Directive) (i low : ℕ) (d : Directive) → slice_get ds i ≡ Some d → low < d.line → LinesRise d.line (drop (i + 1) ds) → LinesRise low (drop i ds)
rises_from ds i low d e l h = subst (λ (xs : List Directive). LinesRise low xs) (sym (drop_at ds i d e)) (l, subst (λ (n : ℕ). LinesRise d.line (drop n ds)) (add-one i) h)

pub rises_on : (ds : List Directive) (i low : ℕ) (d : Directive) → slice_get ds i ≡ Some d → LinesRise low (drop i ds) → (low < d.line) × LinesRise d.line (drop (i + 1) ds)
rises_on ds i low d e h =
    let here : LinesRise low (d ∷ drop (suc i) ds) = subst (λ (xs : List Directive). LinesRise low xs) (drop_at ds i d e) h in
    (here.0, subst (λ (n : ℕ). LinesRise d.line (drop n ds)) (sym (add-one i)) here.1)

-- the same of orders that a run obeys
pub built_from : (ds : List Directive) (i : ℕ) (d : Directive) → slice_get ds i ≡ Some d → is_built d.order ≡ true → AllBuilt (drop (i + 1) ds) → AllBuilt (drop i ds)
built_from ds i d e b h = subst (λ (xs : List Directive). AllBuilt xs) (sym (drop_at ds i d e)) (b, subst (λ (n : ℕ). AllBuilt (drop n ds)) (add-one i) h)

pub built_on : (ds : List Directive) (i : ℕ) (d : Directive) → slice_get ds i ≡ Some d → AllBuilt (drop i ds) → (is_built d.order ≡ true) × AllBuilt (drop (i + 1) ds)
built_on ds i d e h =
    let here : AllBuilt (d ∷ drop (suc i) ds) = subst (λ (xs : List Directive). AllBuilt xs) (drop_at ds i d e) h in
    (here.0, subst (λ (n : ℕ). AllBuilt (drop n ds)) (sym (add-one i)) here.1)
