use Rattle.run_model.specs.Machine.{Acts}
use Rattle.module_machines.specs.icu.Machine.{happens}
use Rattle.audit_base.proofs.Leaves.{comes_follow}
use Rattle.audit_captures.specs.Stands.{StandsFor}
use Rattle.audit_captures.proofs.part.CapturesPart.act.Goals as goal

pub returns-clause-follows : goal.returns-clause-follows
returns-clause-follows c w s committed at times stands =
    comes_follow (StandsFor c.act-told.new.self) s c.act-told.result (happens c.args.self.now.driver w s (Acts c.args.call.now committed)) (c.act-told.ensures.is w s committed stands)
