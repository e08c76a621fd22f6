use Rattle.std.proofs.Common.{◌≡◌, ap, sym, ◌∙◌}
use Rattle.run_model.specs.Machine.{outcome}
use Rattle.module_machines.specs.pwm.Machine.{channel_work, pulse_at, with_pulse}
use Rattle.module_machines.specs.pwm.Table.{channel_of}
use Rattle.audit_pulses.specs.Stands.{Kept, pulse_of}
use Rattle.audit_pulses.proofs.pulses.Pulses.work_on.Goals as goal

pub returns-clause-is : goal.returns-clause-is
returns-clause-is c w committed at =
    let s = c.args.self.now.state in
    let n = c.args.number in
    let call = c.args.call in
    let k = channel_of c.args.self.now.driver n in
    let p = pulse_of c.channel.result in
    let made : pulse_of c.worked-pulse.result ≡ channel_work k w.now call (pulse_at s n) =
    c.worked-pulse.ensures.is
    ∙ ap (λ x. channel_work x c.self.inside.latest call p) (c.channel-channel.ensures ∙ ap (λ (t : Kept). channel_of t.driver n) c.self.view_is)
    ∙ ap (λ now. channel_work k now call p) (ap (λ (t : Kept). t.latest) c.self.view_is ∙ sym at)
    ∙ ap (channel_work k w.now call) c.channel.ensures.is
    in
    ap (λ x. outcome x c.nothing.result) (c.set.ensures.state ∙ ap (with_pulse s n) made)
    ∙ ap (outcome (with_pulse s n (channel_work k w.now call (pulse_at s n)))) c.nothing.ensures
