-- The list of the numbers that a reply carries gives them back.
-- Used by done/rt.
use Rattle.std.proofs.Common.{◌≡◌, refl}
use Rattle.service_outline.specs.Carried.{listed, first_two}
use Rattle.service_outline.specs.declared.done.Carried.{Carried}
use Rattle.service_outline.specs.declared.done.Carried.TheVariants.{Nothing, One, Two}

pub back : (n : Carried) → first_two (listed n) ≡ n
back Nothing = refl
back (One a) = refl
back (Two a b) = refl
