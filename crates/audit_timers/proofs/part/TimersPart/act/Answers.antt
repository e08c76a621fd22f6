use Rattle.std.proofs.Common.{◌≡◌, subst, Some}
use Rattle.run_model.specs.Machine.{Acts}
use Rattle.audit_base.proofs.Leaves.{act_follows}
use Rattle.audit_base.specs.Deeds.{Follows, quiet}
use Rattle.module_machines.specs.gpt.Machine.{happens}
use Rattle.audit_timers.proofs.part.TimersPart.act.Goals as goal

pub returns-clause-follows : goal.returns-clause-follows
returns-clause-follows c w s committed at times stands =
    let x = c.act-told.new.self.state in
    let t = c.act-told.result in
    subst (λ y. Follows (λ z. x ≡ z) y (Some (quiet t)) (happens c.args.self.now.driver w y (Acts c.args.call.now committed))) stands
    (act_follows x c.args.self.now.state t _ (c.act-told.ensures.is w committed at.now))
