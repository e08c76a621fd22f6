-- Lists of which one place was set, seen through a function of their items.
use Rattle.std.proofs.Common.{◌≡◌, ℕ, zero, suc, ap, replicate, ◌+◌, ◌<◌, List, length, map, slice_index_or, slice_set, arith, ◌∙◌, refl, nat_lt}
use Rattle.std.specs.Prelude.{◌==◌, if◌then◌else◌}
use Rattle.std.proofs.Math.ListN.{get_or-map}
use Rattle.std.proofs.lemmas.Grind.{get_or-set_at, common_steps}
use Rattle.std.proofs.lemmas.List.{get_or-set_other}

pub set_at : {X Y : Type 0} (f : X → Y) (xs : List X) (n p : ℕ) (x d : X) → n < length xs
    → slice_index_or (map f (slice_set xs n x)) p (f d) ≡ (if p == n then f x else slice_index_or (map f xs) p (f d))
set_at f xs n p x d lt = grind (arith, common_steps, get_or-map f (slice_set xs n x) p d, get_or-map f xs p d, get_or-set_at, get_or-set_other)

-- one more place was made
pub made_next : {X Y : Type 0} (f : X → Y) (made old : ℕ → Y) (xs : List X) (n : ℕ) (x d : X) → n < length xs
    → ((p : ℕ) → p < length xs → slice_index_or (map f xs) p (f d) ≡ (if nat_lt p n then made p else old p)) → f x ≡ made n
    → (p : ℕ) → p < length xs → slice_index_or (map f (slice_set xs n x)) p (f d) ≡ (if nat_lt p (n + 1) then made p else old p)
made_next f made old xs n x d lt h e p small = grind (arith, common_steps, set_at f xs n p x d lt, h p small, e)

-- a number isn't below itself
pub not_below : {Y : Type 0} (n : ℕ) (made old : Y) → (if nat_lt n n then made else old) ≡ old
not_below n made old = grind (arith, common_steps)

pub get_or-replicate_same : {X : Type 0} (m p : ℕ) (x : X) → slice_index_or (replicate m x) p x ≡ x
get_or-replicate_same zero p x = refl
get_or-replicate_same (suc m) zero x = refl
get_or-replicate_same (suc m) (suc p) x = get_or-replicate_same m p x

-- each place of a list that holds one item alone
pub one_item : {X Y : Type 0} (f : X → Y) (m p : ℕ) (x : X) → slice_index_or (map f (replicate m x)) p (f x) ≡ f x
one_item f m p x = get_or-map f (replicate m x) p x ∙ ap f (get_or-replicate_same m p x)
