-- What is so of each of two things is so of the one that a test chooses.
-- Used by bookkeeping.CleanPlaces, bookkeeping.MaskDiscipline, bookkeeping.MayMove, bookkeeping.NoneWaits and 4 more.
use Rattle.std.proofs.Common.{if◌then◌else◌, Bool, false, true}

pub either : {A : Type 0} (P : A → Type 0) (q : Bool) (x y : A) → P x → P y → P (if q then x else y)
either P true x y a b = a
either P false x y a b = b
