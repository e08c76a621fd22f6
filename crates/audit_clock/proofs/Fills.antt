-- Places that are filled, from a first one on.
use Rattle.std.proofs.Common.{◌≡◌, ℕ, ◌+◌, ◌<◌, ◌≤◌, ap, refl, arith, Bool, true, false, ◌&&◌, not, nat_lt, List, length, slice_index_or, slice_set}
use Rattle.std.specs.Prelude.{◌==◌, if◌then◌else◌, max, min}
use Rattle.std.proofs.lemmas.Grind.{get_or-set_at, common_steps}
use Rattle.std.proofs.lemmas.List.{get_or-set_other}
use Rattle.std.proofs.lemmas.Bool.Decides.{nat_tests}
use Rattle.audit_clock.specs.ClockStands.{is_between}

-- one place is set
pub place_set : (xs : List ℕ) (k n x : ℕ) → n < length xs → slice_index_or (slice_set xs n x) k 0 ≡ (if k == n then x else slice_index_or xs k 0)
place_set xs k n x lt = grind (arith, common_steps, get_or-set_at, get_or-set_other)

-- none is filled yet
pub none_between : (start k x y : ℕ) → (if is_between start start k then x else y) ≡ y
none_between start k x y = by (nat_lt k start)
  where
    by : (q : Bool) → (if not q && q then x else y) ≡ y
    by true = refl
    by false = refl

-- one more is filled
pub filled_next : (start n k value before now old : ℕ) → start ≤ n → before ≡ (if is_between start n k then value else old) → now ≡ (if k == n then value else before) → now ≡ (if is_between start (n + 1) k then value else old)
filled_next start n k value before now old le h e = grind (arith, common_steps, nat_tests)

-- all are filled where the last place is the end, or there was none
pub filled_all : (start n end k value old : ℕ) → start ≤ n → end ≤ n → n ≤ max start end → (if is_between start n k then value else old) ≡ (if is_between start end k then value else old)
filled_all start n end k value old le past within = grind (arith, common_steps, nat_tests)

-- an end behind the last place is as good as the last place
pub within_room : (start end k : ℕ) → k < 512 → is_between start (min end 512) k ≡ is_between start end k
within_room start end k small = ap (λ q. not (nat_lt k start) && q) (same end k small)
  where
    same : (end k : ℕ) → k < 512 → nat_lt k (min end 512) ≡ nat_lt k end
    same end k small = grind (arith, nat_tests)
