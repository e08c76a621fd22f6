-- Only a start is asked for.
use Rattle.std.proofs.Common.{sym, ◌∙◌}
use Rattle.report_auditor.proofs.HearLaws.{none_started, started_right}
use Rattle.report_auditor.proofs.asking.starts_right.Goals as goal

pub returns-in-Some : goal.returns-in-Some
returns-in-Some g c w s at stands =
    let mac = (g.S.Part.member (g.S.Part.table c.args.subject.now)).machine in
    started_right mac w s c.args.frame.now.answer c.args.event c.in-Some.unit c.may_start.result (sym c.started.ensures ∙ c.in-Some.is) (c.may_start.ensures w s at stands)

pub returns-in-None : goal.returns-in-None
returns-in-None g c w s at stands =
    let mac = (g.S.Part.member (g.S.Part.table c.args.subject.now)).machine in
    none_started mac w s c.args.frame.now.answer c.args.event (sym c.started.ensures ∙ c.in-None.is)
