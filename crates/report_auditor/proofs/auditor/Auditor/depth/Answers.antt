-- There are eight frames at most.
use Rattle.std.proofs.Common.{length, arith, ap}
use Rattle.report_auditor.proofs.auditor.Auditor.depth.Goals as goal

pub returns : goal.returns
returns g c = omega (arith, c.depth.ensures, c.requires.few, ap (λ v. length v.frames) c.self.view_is)
