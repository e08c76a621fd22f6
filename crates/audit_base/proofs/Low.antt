-- Lists of one item.
use Rattle.std.proofs.Common.{◌≡◌, ℕ, zero, suc, refl, replicate, slice_index_or}

pub same_everywhere : {X : Type 0} (m p : ℕ) (x : X) → slice_index_or (replicate m x) p x ≡ x
same_everywhere zero p x = refl
same_everywhere (suc m) zero x = refl
same_everywhere (suc m) (suc p) x = same_everywhere m p x
