use Rattle.std.proofs.Common.{subst, sym}
use Rattle.std.specs.Prelude.{option_copied}
use Rattle.run_model.specs.Machine.{Starts}
use Rattle.adc_machine.specs.Machine.{happens}
use Rattle.audit_base.proofs.Leaves.{served_follow}
use Rattle.audit_converters.specs.Stands.{StandsFor}
use Rattle.audit_converters.proofs.part.ConvertersPart.start.Goals as goal

pub returns-clause-follows : goal.returns-clause-follows
returns-clause-follows c w s at stands =
    served_follow (StandsFor c.start-told.new.self) s c.start-told.result c.if_told.result (happens c.args.self.now.table w s (Starts c.args.unit (option_copied c.args._by) c.args._received)) c.if_told.ensures (c.start-told.ensures.is w s (option_copied c.args._by) c.args._received at.now stands)
    (λ e. subst (λ k. StandsFor k s) (sym (c.start-told.ensures.unchanged e)) stands)
