-- Facts on the frames of a stack.
use Rattle.std.proofs.Common.{◌≡◌, ℕ, suc, Bool, true, false, not, ◌&&◌, ◌||◌, nat_lt, nat_le, List, [], ◌∷◌, length, reverse, refl, sym, ◌∙◌, ap, arith}
use Rattle.std.specs.List.{list_any, list_all}
use Rattle.std.proofs.lemmas.Bool.Decides.{nat_tests}
use Rattle.std.proofs.lemmas.List.{reverse-append}
use Rattle.std.proofs.lemmas.List.Folds.{list_any-append, list_all-append}
use Rattle.mcal_base.specs.facts.Truths.{and_true, or_false}
use Rattle.run_model.specs.declared.class.Class.{Class}
use Rattle.run_model.specs.Causes.{may_reenter, blocks, reads_source, is_full}
use Rattle.step_runner.specs.Kept.{tags_under, is_read}
use Rattle.step_runner.specs.declared.stack.Under.{Under}

pub length-tags_under : {Frame : Type 0} (us : List (Under Frame)) → length (tags_under us) ≡ length us
length-tags_under [] = refl
length-tags_under (u ∷ us) = ap suc (length-tags_under us)

le_not_lt : (n m : ℕ) → n ≡ m → nat_le 8 n ≡ not (nat_lt m 8)
le_not_lt n m e = grind (arith, nat_tests)

-- reentry asks each frame's tag
pub reenter-tags_under : {Frame : Type 0} (class : Class) (us : List (Under Frame)) → list_all (λ u. not (blocks class u.tag)) us ≡ may_reenter class (tags_under us)
reenter-tags_under class [] = refl
reenter-tags_under class (u ∷ us) = ap (λ b. not (blocks class u.tag) && b) (reenter-tags_under class us)

-- there are eight frames where so many are counted
pub full-tags_under : {Frame : Type 0} (us : List (Under Frame)) (n : ℕ) → n ≡ length us → nat_le 8 n ≡ is_full (tags_under us)
full-tags_under us n e = let k : n ≡ length (tags_under us) = e ∙ sym (length-tags_under us) in le_not_lt n (length (tags_under us)) k

swapped : (a b c : Bool) → a ≡ c → (a && (b && true)) ≡ (b && c)
swapped a true c e = and_true a ∙ e
swapped true false c e = refl
swapped false false c e = refl

pub list_all-reverse : {X : Type 0} (p : X → Bool) (xs : List X) → list_all p (reverse xs) ≡ list_all p xs
list_all-reverse p [] = refl
list_all-reverse p (x ∷ xs) = ap (list_all p) (reverse-append (x ∷ []) xs) ∙ (list_all-append p (reverse xs) (x ∷ []) ∙ swapped (list_all p (reverse xs)) (p x) (list_all p xs) (list_all-reverse p xs))

-- reentry by the frames as they lie, the oldest first
pub reenter-items : {Frame : Type 0} (class : Class) (items us : List (Under Frame)) → reverse items ≡ us → list_all (λ u. not (blocks class u.tag)) items ≡ may_reenter class (tags_under us)
reenter-items class items us e = sym (list_all-reverse (λ u. not (blocks class u.tag)) items) ∙ (ap (list_all (λ u. not (blocks class u.tag))) e ∙ reenter-tags_under class us)

turned : (a b c : Bool) → a ≡ c → (a || (b || false)) ≡ (b || c)
turned a true c e = or-true a
  where
    or-true : (a : Bool) → (a || true) ≡ true
    or-true true = refl
    or-true false = refl
turned a false c e = or_false a ∙ e

list_any-reverse : {X : Type 0} (p : X → Bool) (xs : List X) → list_any p (reverse xs) ≡ list_any p xs
list_any-reverse p [] = refl
list_any-reverse p (x ∷ xs) = ap (list_any p) (reverse-append (x ∷ []) xs) ∙ (list_any-append p (reverse xs) (x ∷ []) ∙ turned (list_any p (reverse xs)) (p x) (list_any p xs) (list_any-reverse p xs))

-- what calls read, by the frames as they lie
pub read-items : {Frame : Type 0} (c : ℕ) (items us : List (Under Frame)) → reverse items ≡ us → list_any (λ u. reads_source c u.tag.class) items ≡ is_read c us
read-items c items us e = sym (list_any-reverse (λ u. reads_source c u.tag.class) items) ∙ ap (list_any (λ u. reads_source c u.tag.class)) e
