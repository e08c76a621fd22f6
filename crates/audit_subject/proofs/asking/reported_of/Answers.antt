-- A call reports its error, and a handler finds none.
use Rattle.std.proofs.Common.{None, sym, subst}
use Rattle.audit_frames.specs.Told.{IsReported}
use Rattle.audit_subject.specs.Origins.{origin_of}
use Rattle.audit_subject.proofs.asking.reported_of.Goals as goal

pub returns-in-Call : goal.returns-in-Call
returns-in-Call g c =
    let mac = (g.P.Part.member (g.P.Part.table c.args.part.now)).machine in
    subst (λ o. IsReported mac (origin_of o) c.args.error c.reported_by.result) (sym c.in-Call.is) c.reported_by.ensures

pub returns-in-Line : goal.returns-in-Line
returns-in-Line g c =
    let mac = (g.P.Part.member (g.P.Part.table c.args.part.now)).machine in
    subst (λ o. IsReported mac (origin_of o) c.args.error None) (sym c.in-Line.is) tt
