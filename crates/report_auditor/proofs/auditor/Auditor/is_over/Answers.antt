-- It has ended where 0 is left.
use Rattle.report_auditor.proofs.LeftLaws.{ended}
use Rattle.report_auditor.proofs.auditor.Auditor.is_over.Goals as goal

pub returns : goal.returns
returns g c w s at stands =
    rw (← c.self.view_is) (ended c.same_left.result c.expires.result _ c.same_left.ensures (c.expires.ensures w s (rw (← c.self.view_is) at at) (rw (← c.self.view_is) at stands)))
