use Rattle.std.proofs.Common.{◌∙◌, ap}
use Rattle.module_machines.specs.port.Machine.{level_of, pin_at}
use Rattle.audit_machines.specs.Guest.{output_at}
use Rattle.audit_machines.proofs.pin_calls.pin_of.Goals as goal

pub returns : goal.returns
returns g c w s at stands =
    let pulses = c.args.modules.now.second.first.first in
    let p = c.args.pin in
    let x = pin_at s.0.1.0 p in
    c.level.ensures.is s.0.1.0 stands.0.1.0
    ∙ (ap (λ v. level_of x v c.output-seen.result) (c.level-outer.ensures w at)
    ∙ (ap (λ o. level_of x (w.levels p) o) (c.output-seen.ensures w at.now)
    ∙ ap (λ y. level_of x (w.levels p) (output_at pulses.driver c.args.outputs.now w y p)) stands.1.0.0))
