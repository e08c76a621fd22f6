-- Truth values that decide statements, put together.
use Rattle.std.proofs.Common.{◌≡◌, ℕ, zero, suc, ◌<◌, ◌≤◌, Bool, true, false, not, ◌&&◌, ◌||◌, ◌==◌, List, [], ◌∷◌, length, Option, Some, None, refl, sym, ◌∙◌, arith}
use Rattle.std.specs.Prelude.{nat_lt, nat_le, slice_index_or, is_some}
use Rattle.std.specs.List.{list_any, Contains}
use Rattle.std.proofs.lemmas.Bool.Decides.{nat_tests}
use Rattle.mcal_base.specs.facts.Numbers.{eq_is, eq_from, lt_is, lt_from}
use Rattle.mcal_base.specs.facts.Truths.{and_first, and_second, off_on}
use Rattle.audit_frames.specs.Decides.{Decides}

pub and_join : (a b : Bool) → a ≡ true → b ≡ true → a && b ≡ true
and_join a b e f = rw (e, f) refl

pub or_left : (a b : Bool) → a ≡ true → a || b ≡ true
or_left a b e = rw e refl

pub or_right : (a b : Bool) → b ≡ true → a || b ≡ true
or_right true b e = refl
or_right false b e = e

pub or_turned : (a b : Bool) → a || b ≡ (b || a)
or_turned true true = refl
or_turned true false = refl
or_turned false true = refl
or_turned false false = refl

pub yes : {P : Type 0} → P → Decides true P
yes p = record { says = λ e. p; shows = λ h. refl }

pub no : {P : Type 0} → (P → ⊥) → Decides false P
no f = record { says = λ e. off_on e; shows = λ h. absurd (f h) }

pub both : {a b : Bool} {P Q : Type 0} → Decides a P → Decides b Q → Decides (a && b) (P × Q)
both {a} {b} d e = record { says = λ h. (d.says (and_first a b h), e.says (and_second a b h)); shows = λ h. and_join a b (d.shows h.0) (e.shows h.1) }

pub three : {a b c : Bool} {P Q R : Type 0} → Decides a P → Decides b Q → Decides c R → Decides (a && b && c) (P × Q × R)
three {a} {b} {c} d e f = record {
  says = λ h. (d.says (and_first a b (and_first (a && b) c h)), e.says (and_second a b (and_first (a && b) c h)), f.says (and_second (a && b) c h));
  shows = λ h. and_join (a && b) c (and_join a b (d.shows h.0) (e.shows h.1)) (f.shows h.2);
}

-- the same statement in other words, and the same truth value
pub worded : {b : Bool} {P Q : Type 0} → (P → Q) → (Q → P) → Decides b P → Decides b Q
worded f h d = record { says = λ e. f (d.says e); shows = λ q. d.shows (h q) }

pub valued : {b c : Bool} {P : Type 0} → b ≡ c → Decides c P → Decides b P
valued e d = record { says = λ h. d.says (sym e ∙ h); shows = λ p. e ∙ d.shows p }

implies_at : {P Q : Type 0} (a b : Bool) → Decides a P → Decides b Q → Decides (not a || b) (P → Q)
implies_at true b d e = record { says = λ h p. e.says h; shows = λ f. e.shows (f (d.says refl)) }
implies_at false b d e = record { says = λ h p. off_on (d.shows p); shows = λ f. refl }

pub implies : {a b : Bool} {P Q : Type 0} → Decides a P → Decides b Q → Decides (not a || b) (P → Q)
implies {a} {b} d e = implies_at a b d e

pub itself : (b : Bool) → Decides b (b ≡ true)
itself b = record { says = λ h. h; shows = λ h. h }

pub clear : (b : Bool) → Decides (not b) (b ≡ false)
clear true = no (λ e. off_on (sym e))
clear false = yes refl

-- of numbers
pub equal : (a b : ℕ) → Decides (a == b) (a ≡ b)
equal a b = record { says = eq_is a b; shows = eq_from a b }

pub less : (a b : ℕ) → Decides (nat_lt a b) (a < b)
less a b = record { says = lt_is a b; shows = lt_from a b }

le_says : (a b : ℕ) → nat_le a b ≡ true → a ≤ b
le_says a b e = grind (arith, nat_tests)

le_shows : (a b : ℕ) → a ≤ b → nat_le a b ≡ true
le_shows a b h = grind (arith, nat_tests)

pub at_most : (a b : ℕ) → Decides (nat_le a b) (a ≤ b)
at_most a b = record { says = le_says a b; shows = le_shows a b }

-- of what may be missing
pub missing : {A : Type 0} (x : Option A) → Decides (not (is_some x)) (x ≡ None)
missing None = yes refl
missing (Some a) = no (λ e. absurd (cc))

-- ---- lists

-- one more element at the front
contains_first : {X : Type 0} (x y : X) (xs : List X) → y ≡ x → Contains (y ∷ xs) x
contains_first x y xs e = (0, omega arith, e)

contains_later : {X : Type 0} (x y : X) (xs : List X) → Contains xs x → Contains (y ∷ xs) x
contains_later x y xs h = let lt = h.1 in (suc h.0, omega arith, h.2)

contains_none : {X : Type 0} (x : X) → Contains [] x → ⊥
contains_none x h = let lt = h.1 in omega arith

-- where it is contained, by its place
says_by : {X : Type 0} (x y : X) (xs : List X) (p b : Bool) → Decides p (y ≡ x) → Decides b (Contains xs x) → p || b ≡ true → Contains (y ∷ xs) x
says_by x y xs true b d e h = contains_first x y xs (d.says refl)
says_by x y xs false b d e h = contains_later x y xs (e.says h)

shows_at : {X : Type 0} (x y : X) (xs : List X) (p b : Bool) → Decides p (y ≡ x) → Decides b (Contains xs x) → (k : ℕ) → k < length (y ∷ xs) → slice_index_or (y ∷ xs) k x ≡ x → p || b ≡ true
shows_at x y xs p b d e zero lt at = or_left p b (d.shows at)
shows_at x y xs p b d e (suc k) lt at = or_right p b (e.shows (k, omega arith, at))

-- a test of one element finds it in a list
pub any_contains : {X : Type 0} (p : X → Bool) (x : X) → ((y : X) → Decides (p y) (y ≡ x)) → (xs : List X) → Decides (list_any p xs) (Contains xs x)
any_contains p x d [] = no (contains_none x)
any_contains p x d (y ∷ xs) =
    let rest : Decides (list_any p xs) (Contains xs x) = any_contains p x d xs in
    record {
      says = says_by x y xs (p y) (list_any p xs) (d y) rest;
      shows = λ h. shows_at x y xs (p y) (list_any p xs) (d y) rest h.0 h.1 h.2;
    }
