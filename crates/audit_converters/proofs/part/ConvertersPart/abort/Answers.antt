use Rattle.std.proofs.Common.{subst, sym}
use Rattle.run_model.specs.Machine.{Aborts}
use Rattle.adc_machine.specs.Machine.{happens}
use Rattle.audit_base.proofs.Leaves.{served_follow}
use Rattle.audit_converters.specs.Stands.{StandsFor}
use Rattle.audit_converters.proofs.part.ConvertersPart.abort.Goals as goal

pub returns-clause-follows : goal.returns-clause-follows
returns-clause-follows c w s at stands =
    served_follow (StandsFor c.abort-told.new.self) s c.abort-told.result c.if_told.result (happens c.args.self.now.table w s (Aborts c.args.unit)) c.if_told.ensures (c.abort-told.ensures.is w s at.now at.samples stands)
    (λ e. subst (λ k. StandsFor k s) (sym (c.abort-told.ensures.unchanged e)) stands)
