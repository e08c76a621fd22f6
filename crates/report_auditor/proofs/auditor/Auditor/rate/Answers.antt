-- It is the machines' own.
use Rattle.std.proofs.Common.{◌∙◌, ap}
use Rattle.report_auditor.proofs.auditor.Auditor.rate.Goals as goal

pub returns-clause-ticks : goal.returns-clause-ticks
returns-clause-ticks g c = c.rate.ensures.ticks ∙ ap (λ v. g.P.Part.ticks v.parts) c.self.view_is

pub returns-clause-is : goal.returns-clause-is
returns-clause-is g c s stands = rw (← c.self.view_is) (c.rate.ensures.is s (rw (← c.self.view_is) at stands))
