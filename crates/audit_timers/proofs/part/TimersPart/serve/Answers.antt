use Rattle.std.proofs.Common.{◌≡◌, ap, subst}
use Rattle.run_model.specs.Machine.{Serves}
use Rattle.audit_base.proofs.Leaves.{serve_follows}
use Rattle.audit_base.specs.Deeds.{Follows}
use Rattle.module_machines.specs.gpt.Machine.{happens}
use Rattle.audit_timers.proofs.part.TimersPart.serve.Goals as goal

pub returns-clause-follows : goal.returns-clause-follows
returns-clause-follows c w s at stands =
    let x = c.serve-told.new.self.state in
    let t = c.serve-told.result in
    subst (λ y. Follows (λ z. x ≡ z) y c.if_told.result (happens c.args.self.now.driver w y (Serves c.args.line c.args._received))) stands
    (serve_follows x c.args.self.now.state t c.if_told.result _ c.if_told.ensures (c.serve-told.ensures.is w c.args._received at.now) (λ e. ap (λ k. k.state) (c.serve-told.ensures.unchanged e)))
