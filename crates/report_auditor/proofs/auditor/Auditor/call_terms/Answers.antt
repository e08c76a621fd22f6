-- The module says it of the run.
use Rattle.std.proofs.Common.{subst}
use Rattle.run_model.specs.Frame.{Called}
use Rattle.audit_frames.specs.StandsFor.{IsBegun}
use Rattle.report_auditor.specs.Deeds.{opening}
use Rattle.report_auditor.proofs.auditor.Auditor.call_terms.Goals as goal

pub returns : goal.returns
returns g c t p stands =
    let s = rw (← c.self.view_is) at stands in
    subst (λ x. IsBegun (g.P.Subject.setting x) c.call_terms.result (opening (g.P.Subject.setting x) (Called c.args.call.now) c.args.level)) s.kept_of c.call_terms.ensures
