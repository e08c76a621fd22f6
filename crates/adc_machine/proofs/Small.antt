-- Of the configured groups by number: what holds of each, and all of them by their places.
use Rattle.std.proofs.Common.{◌≡◌, ℕ, zero, suc, ◌<◌, ◌≤◌, Bool, true, false, ◌==◌, List, [], ◌∷◌, length, get_or, drop, Option, Some, All, refl, ◌∙◌, ap, subst, arith}
use Rattle.std.specs.Prelude.{if◌then◌else◌}
use Rattle.std.proofs.lemmas.List.Elements.{All-head, All-tail}
use Rattle.mcal_base.specs.declared.config.adc.AdcGroup.{AdcGroup}
use Rattle.adc_machine.specs.Table.{IsSmall, found_in}

one_small : (P : AdcGroup → Type 0) (q : Bool) (y x : AdcGroup) (o : Option AdcGroup) → P y → (o ≡ Some x → P x) → (if q then Some y else o) ≡ Some x → P x
one_small P true y x o here rest e = let same : y ≡ x = cc in subst P same here
one_small P false y x o here rest e = rest e

pub found_small : (xs : List AdcGroup) (g : ℕ) (x : AdcGroup) → All IsSmall xs → found_in xs g ≡ Some x → IsSmall x
found_small [] g x all e = absurd (cc)
found_small (y ∷ ys) g x all e = one_small IsSmall (y.id == g) y x (found_in ys g) (All-head IsSmall y ys all) (λ f. found_small ys g x (All-tail IsSmall y ys all) f) e

-- a list by its elements, the next one at this place
pub link : {A : Type 0} (xs : List A) (i : ℕ) (a d : A) (rest : List A) → i < length xs → a ≡ get_or xs i d → rest ≡ drop (suc i) xs → a ∷ rest ≡ drop i xs
link [] i a d rest lt e f = absurd (omega (arith, lt))
link (x ∷ xs) zero a d rest lt e f = let head : a ≡ x = e in let tail : rest ≡ xs = f in ap (λ y. y ∷ rest) head ∙ ap (λ ys. x ∷ ys) tail
link (x ∷ xs) (suc i) a d rest lt e f = link xs i a d rest (omega (arith, lt)) e f

pub no_more : {A : Type 0} (xs : List A) (i : ℕ) → length xs ≤ i → [] ≡ drop i xs
no_more [] zero le = refl
no_more [] (suc i) le = refl
no_more (x ∷ xs) zero le = absurd (omega (arith, le))
no_more (x ∷ xs) (suc i) le = no_more xs i (omega (arith, le))
