use Rattle.std.proofs.Common.{◌≡◌, ◌≤◌, ◌∙◌, subst, sym, Some}
use Rattle.run_model.specs.Machine.{Acts}
use Rattle.audit_base.proofs.Leaves.{act_follows}
use Rattle.audit_base.specs.Deeds.{Follows, quiet}
use Rattle.module_machines.specs.pwm.Machine.{happens}
use Rattle.audit_pulses.proofs.Times.{acts_same}
use Rattle.audit_pulses.specs.Stands.{times_of}
use Rattle.audit_pulses.proofs.part.PulsesPart.act.Goals as goal

pub returns-clause-follows : goal.returns-clause-follows
returns-clause-follows c w s committed at times stands =
    let k = c.args.self.now in
    let x = c.act-told.new.self.state in
    let t = c.act-told.result in
    subst (λ y. Follows (λ z. x ≡ z) y (Some (quiet t)) (happens k.driver w y (Acts c.args.call.now committed))) stands
    (act_follows x k.state t _ (c.act-told.ensures.is w at.now ∙ sym (acts_same k.driver w k.state c.args.call.now committed (times_of c.args.times) times)))

pub returns-clause-fits : goal.returns-clause-fits
returns-clause-fits c o a = subst (λ n. n ≤ o.time) (sym c.act-told.ensures.latest) a.time
