use Rattle.std.proofs.Common.{subst}
use Rattle.chip_blocks.specs.units.Pins as pins
use Rattle.module_machines.specs.pwm.Bounds.{OutputsAgree}
use Rattle.module_machines.specs.pwm.Machine.{PwmState}
use Rattle.audit_frames.specs.Decides.{Decides}
use Rattle.audit_frames.proofs.Deciding.{no, worded}
use Rattle.audit_modules.specs.Agrees.{PinsUnless}
use Rattle.audit_modules.proofs.Below.{fails}
use Rattle.audit_modules.proofs.agreeing.outputs_stand.Goals as goal

pub returns-then-not-outputs_agree : goal.returns-then-not-outputs_agree
returns-then-not-outputs_agree c w s at h =
    let d = c.args.modules.now.host.second.first.first.driver in
    let e = subst (λ (x : PwmState). Decides c.outputs_agree.result (OutputsAgree d c.args.bus.now.pulses w x)) h.1.0.0 (c.outputs_agree.ensures w at.now) in
    no (λ x. fails c.outputs_agree.result e c.if-not-outputs_agree.true x.outputs)

pub returns : goal.returns
returns c w s at h =
    let d = c.args.modules.now.host.second.first.first.driver in
    let e = subst (λ (x : PwmState). Decides c.outputs_agree.result (OutputsAgree d c.args.bus.now.pulses w x)) h.1.0.0 (c.outputs_agree.ensures w at.now) in
    let f = subst (λ (b : pins.Pins). Decides c.pins_stand.result (PinsUnless c.args.busy b s.0.1.0)) c.pins.ensures (c.pins_stand.ensures s.0.1.0 h.0.1.0) in
    worded (λ y. record { outputs = e.says c.if-not-outputs_agree.false; pins = y }) (λ x. x.pins) f
