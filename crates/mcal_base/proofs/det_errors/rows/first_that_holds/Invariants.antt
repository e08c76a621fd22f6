use Rattle.std.proofs.Common.{◌≡◌, drop}
use Rattle.mcal_base.specs.det_errors.Rows as spec
use Rattle.mcal_base.proofs.det_errors.rows.first_that_holds.Given as goal

abbrev pub invariant-loop-place : goal.invariant-loop-place
invariant-loop-place l = spec.first_that_holds l.errors l.holds ≡ spec.first_that_holds (drop l.place l.errors) (drop l.place l.holds)
