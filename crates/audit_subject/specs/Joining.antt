-- What holds of two runs holds of both as one.
use Rattle.std.specs.Prelude.{◌≡◌, ◌||◌, ℕ, Option, Some, None, is_some}
use Rattle.std.proofs.Common.{Bool, true, false, cond, refl, ap, ◌∙◌}
use Rattle.run_model.specs.Frame.{Origin, Called, Entered}
use Rattle.run_model.specs.Machine.{Outcome}
use Rattle.run_model.specs.Moment.{Setting}
use Rattle.audit_base.specs.Deeds.{Member}
use Rattle.audit_base.specs.Product.{both, in_first}
use Rattle.audit_base.specs.declared.either.Either.{Either}
use Rattle.audit_base.specs.declared.either.Either.TheVariants.{Left, Right}
use Rattle.audit_subject.specs.Product.{joined, member_of}

pub members : {S T C D : Type 0} (g : Setting S C) (h : Setting T D) (f : Member S C) (k : Member T D) → member_of g ≡ f → member_of h ≡ k → member_of (joined g h) ≡ both f k
members g h f k first second = ap (λ x. both x (member_of h)) first ∙ ap (λ y. both f y) second

one_of : {Z : Type 0} (b : Bool) (x y z : Z) → x ≡ z → y ≡ z → cond b x y ≡ z
one_of true x y z first second = first
one_of false x y z first second = second

pub joined_windows : {S T C D : Type 0} (g : Setting S C) (h : Setting T D) → ((o : Origin C) → g.window_of o ≡ 32) → ((o : Origin D) → h.window_of o ≡ 32) → (o : Origin (Either C D)) → (joined g h).window_of o ≡ 32
joined_windows g h first second (Called (Left c)) = first (Called c)
joined_windows g h first second (Called (Right d)) = second (Called d)
joined_windows g h first second (Entered l) = one_of (g.used l) (g.window_of (Entered l)) (h.window_of (Entered l)) 32 (first (Entered l)) (second (Entered l))

-- ---- a line is the first's where an object of the first uses it

pub first_has : {S C Z : Type 0} (g : Setting S C) (f : Member S C) (l : ℕ) (x y : Z) → member_of g ≡ f → f.lines l ≡ true → cond (g.used l) x y ≡ x
first_has g f l x y same on = ap (λ b. cond b x y) (ap (λ k. k.lines l) same ∙ on)

pub second_has : {S C Z : Type 0} (g : Setting S C) (f : Member S C) (l : ℕ) (x y : Z) → member_of g ≡ f → f.lines l ≡ false → cond (g.used l) x y ≡ y
second_has g f l x y same off = ap (λ b. cond b x y) (ap (λ k. k.lines l) same ∙ off)

-- ---- a unit starts where the first allows it, or the second

pub either_starts : {S T : Type 0} (s : S) (t : T) (x : Option (Outcome S)) (y : Option (Outcome T)) → is_some (in_first s t x y) ≡ (is_some x || is_some y)
either_starts s t (Some x) y = refl
either_starts s t None (Some y) = refl
either_starts s t None None = refl
