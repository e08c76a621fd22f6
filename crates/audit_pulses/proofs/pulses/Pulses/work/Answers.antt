use Rattle.std.proofs.Common.{◌≡◌, subst, sym}
use Rattle.run_model.specs.Machine.{outcome}
use Rattle.module_machines.specs.pwm.Machine.{work}
use Rattle.audit_pulses.specs.Stands.{times_of}
use Rattle.audit_pulses.proofs.pulses.Pulses.work.Goals as goal

pub returns-in-Init-clause-is : goal.returns-in-Init-clause-is
returns-in-Init-clause-is c w at =
    let m = c.args.self.now in
    subst (λ call. outcome c.start.new.self.state c.start.result ≡ work m.driver w m.state call (times_of c.args.times)) (sym c.in-Init.is) (c.start.ensures.is w at)

pub returns-in-DeInit-clause-is : goal.returns-in-DeInit-clause-is
returns-in-DeInit-clause-is c w at =
    let m = c.args.self.now in
    subst (λ call. outcome c.end.new.self.state c.end.result ≡ work m.driver w m.state call (times_of c.args.times)) (sym c.in-DeInit.is) (c.end.ensures.is w (times_of c.args.times) at)

pub returns-in-Channel-clause-is : goal.returns-in-Channel-clause-is
returns-in-Channel-clause-is c w at =
    let m = c.args.self.now in
    subst (λ call. outcome c.work_on.new.self.state c.work_on.result ≡ work m.driver w m.state call (times_of c.args.times)) (sym c.in-Channel.is) (c.work_on.ensures.is w (times_of c.args.times) at)
