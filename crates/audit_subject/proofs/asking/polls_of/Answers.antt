-- A call polls what its machine says, and a handler nothing.
use Rattle.std.proofs.Common.{sym, subst}
use Rattle.audit_frames.specs.Told.{ArePolled}
use Rattle.audit_subject.specs.Origins.{origin_of}
use Rattle.audit_subject.proofs.asking.polls_of.Goals as goal

pub returns-in-Call : goal.returns-in-Call
returns-in-Call g c w s stands =
    let mac = (g.P.Part.member (g.P.Part.table c.args.part.now)).machine in
    subst (λ o. ArePolled mac w s c.polls.result (origin_of o)) (sym c.in-Call.is) (c.polls.ensures w s stands)

pub returns-in-Line : goal.returns-in-Line
returns-in-Line g c w s stands =
    let mac = (g.P.Part.member (g.P.Part.table c.args.part.now)).machine in
    subst (λ o. ArePolled mac w s c.new.result (origin_of o)) (sym c.in-Line.is) tt
