-- The newest frame can go on exactly where each can.
use Rattle.report_auditor.proofs.ServedParts.{going}
use Rattle.report_auditor.proofs.auditor.Auditor.are_going.Goals as goal

pub returns : goal.returns
returns g c t p stands =
    let s = rw (← c.self.view_is) at stands in
    going g.P.Whole.agrees g.P.Subject.setting g.P.Part.table g.P.Part.stands g.P.Part.member g.met.P.Subject.member_is t _ p s c.is_going.result c.is_going.ensures
