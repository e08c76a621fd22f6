-- An error is reported as the machine says.
use Rattle.std.proofs.Common.{None, sym, subst}
use Rattle.run_model.specs.Frame.{Called}
use Rattle.audit_frames.specs.Told.{IsReported}
use Rattle.audit_subject.proofs.asking.reported_by.Goals as goal

pub returns-in-Some : goal.returns-in-Some
returns-in-Some g c =
    let mac = (g.P.Part.member (g.P.Part.table c.args.part.now)).machine in
    subst (λ e. IsReported mac (Called c.args.call.now) e c.reported.result) (sym c.in-Some.is) c.reported.ensures

pub returns-in-None : goal.returns-in-None
returns-in-None g c =
    let mac = (g.P.Part.member (g.P.Part.table c.args.part.now)).machine in
    subst (λ e. IsReported mac (Called c.args.call.now) e None) (sym c.in-None.is) tt
