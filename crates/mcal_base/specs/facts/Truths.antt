-- Truth values: what the toolchain has no word for.
use Rattle.std.proofs.Common.{◌≡◌, Bool, true, false, not, ◌&&◌, ◌||◌, if◌then◌else◌, refl, ap}
use Rattle.std.proofs.lemmas.Bool.{and_parts}

pub and_first : (a b : Bool) → a && b ≡ true → a ≡ true
and_first a b e = (and_parts a b e).0

pub and_second : (a b : Bool) → a && b ≡ true → b ≡ true
and_second a b e = (and_parts a b e).1

pub and_false : (a : Bool) → a && false ≡ false
and_false true = refl
and_false false = refl

pub and_true : (a : Bool) → a && true ≡ a
and_true true = refl
and_true false = refl

pub or_false : (a : Bool) → a || false ≡ a
or_false true = refl
or_false false = refl

pub or_true : (a : Bool) → a || true ≡ true
or_true true = refl
or_true false = refl

pub set_apart : (b f : Bool) → f ≡ false → b || f ≡ b
set_apart true f e = refl
set_apart false f e = e

pub clear_apart : (b f : Bool) → f ≡ false → b && not f ≡ b
clear_apart true f e = ap (λ x. not x) e
clear_apart false f e = refl

pub if_true : {A : Type 0} (b : Bool) (x y : A) → b ≡ true → (if b then x else y) ≡ x
if_true true x y e = refl
if_true false x y e = absurd (cc)

pub if_false : {A : Type 0} (b : Bool) (x y : A) → b ≡ false → (if b then x else y) ≡ y
if_false true x y e = absurd (cc)
if_false false x y e = refl

pub if_same : {A B : Type 0} (f : A → B) (q : Bool) (x y : A) → (if q then f x else f y) ≡ f (if q then x else y)
if_same f true x y = refl
if_same f false x y = refl

pub clash : {A : Type 0} {b : Bool} → b ≡ false → b ≡ true → A
clash e f = absurd (cc)

pub off_on : {A : Type 0} → false ≡ true → A
off_on e = absurd (cc)

pub on_off : {A : Type 0} → true ≡ false → A
on_off e = absurd (cc)
