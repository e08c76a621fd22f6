use Rattle.std.proofs.Common.{◌≡◌, ◌<◌, ℕ, zero, suc, Bool, false, List, [], ◌∷◌, length, drop, get_or, refl, ◌∙◌, add-one, arith}
use Rattle.mcal_base.specs.declared.error_name.ErrorName.{ErrorName}
use Rattle.mcal_base.specs.det_errors.Rows as spec
use Rattle.mcal_base.proofs.det_errors.rows.first_that_holds.Goals as goal

-- an error whose condition does not hold may be left out
skipped : (errors : List ErrorName) (holds : List Bool) (i : ℕ) → i < length holds → get_or holds i false ≡ false → spec.first_that_holds (drop i errors) (drop i holds) ≡ spec.first_that_holds (drop (suc i) errors) (drop (suc i) holds)
skipped [] holds zero within silent = refl
skipped [] holds (suc i) within silent = refl
skipped (e ∷ es) [] i within silent = absurd (omega arith)
skipped (e ∷ es) (h ∷ hs) zero within silent = rw silent
skipped (e ∷ es) (h ∷ hs) (suc i) within silent = skipped es hs i (omega arith) silent

pub loop-place-preserved : goal.loop-place-preserved
loop-place-preserved c = rw add-one (c.loop-place.invariant ∙ skipped c.args.errors.now c.args.holds.now c.loop-place.place (omega arith) c.if-holds-place.false)
