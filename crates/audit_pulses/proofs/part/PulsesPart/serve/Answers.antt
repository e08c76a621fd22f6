use Rattle.std.proofs.Common.{◌≡◌, ◌≤◌, subst, sym}
use Rattle.run_model.specs.Machine.{Serves}
use Rattle.audit_base.proofs.Leaves.{serve_follows}
use Rattle.audit_base.specs.Deeds.{Follows}
use Rattle.module_machines.specs.pwm.Machine.{happens}
use Rattle.audit_pulses.proofs.part.PulsesPart.serve.Goals as goal

pub returns-clause-follows : goal.returns-clause-follows
returns-clause-follows c w s at stands =
    let k = c.args.self.now in
    let x = c.serve-told.new.self.state in
    let t = c.serve-told.result in
    subst (λ y. Follows (λ z. x ≡ z) y c.if_told.result (happens k.driver w y (Serves c.args.line c.args._received))) stands
    (serve_follows x k.state t c.if_told.result _ c.if_told.ensures (c.serve-told.ensures.is w c.args._received at.now) c.serve-told.ensures.unchanged)

pub returns-clause-fits : goal.returns-clause-fits
returns-clause-fits c o a = subst (λ n. n ≤ o.time) (sym c.serve-told.ensures.latest) a.time
