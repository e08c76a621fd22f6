use Rattle.std.proofs.Common.{◌≤◌, refl, subst, sym}
use Rattle.std.proofs.Math.Nat.{le_trans}
use Rattle.audit_pulses.proofs.part.PulsesPart.reset.Goals as goal

pub returns-clause-comes : goal.returns-clause-comes
returns-clause-comes c w s stands = record { told = refl; wordless = refl; kept = c.reset.ensures.state }

pub returns-clause-fits : goal.returns-clause-fits
returns-clause-fits c o a = subst (λ n. n ≤ o.time) (sym c.reset.ensures.latest) (le_trans c.requires.fits a.time)
