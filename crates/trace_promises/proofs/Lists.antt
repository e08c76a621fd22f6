-- What holds of each element holds of one of them.
use Rattle.std.proofs.Common.{ℕ, zero, suc, Bool, true, false, List, [], ◌∷◌}
use Rattle.std.specs.Prelude.{slice_index_or, if◌then◌else◌}
use Rattle.bench_report.specs.Numbers.{Each}

pub chosen : {T : Type 0} (P : T → Type 0) (b : Bool) (x y : T) → P x → P y → P (if b then x else y)
chosen P true x y h k = h
chosen P false x y h k = k

pub at_place : {T : Type 0} (P : T → Type 0) (xs : List T) (n : ℕ) (other : T) → Each P xs → P other → P (slice_index_or xs n other)
at_place P [] zero other h k = k
at_place P [] (suc n) other h k = k
at_place P (x ∷ xs) zero other h k = h.0
at_place P (x ∷ xs) (suc n) other h k = at_place P xs n other h.1 k
