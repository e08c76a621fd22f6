use Rattle.std.proofs.Common.{subst, sym}
use Rattle.run_model.specs.Machine.{Serves}
use Rattle.module_machines.specs.icu.Machine.{happens}
use Rattle.audit_base.proofs.Leaves.{served_follow}
use Rattle.audit_captures.specs.Stands.{StandsFor}
use Rattle.audit_captures.proofs.part.CapturesPart.serve.Goals as goal

pub returns-clause-follows : goal.returns-clause-follows
returns-clause-follows c w s at stands =
    served_follow (StandsFor c.serve-told.new.self) s c.serve-told.result c.if_told.result (happens c.args.self.now.driver w s (Serves c.args.line c.args._received)) c.if_told.ensures (c.serve-told.ensures.is w s c.args._received stands)
    (λ e. subst (λ k. StandsFor k s) (sym (c.serve-told.ensures.unchanged e)) stands)
