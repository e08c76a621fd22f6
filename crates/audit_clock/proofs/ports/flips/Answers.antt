use Rattle.std.proofs.Common.{refl}
use Rattle.module_machines.specs.port.Machine.{Inverted, with_change}
use Rattle.audit_clock.proofs.ports.flips.Goals as goal

pub returns-clause-is : goal.returns-clause-is
returns-clause-is c w s outputs around stands =
    let kept = c.invert.ensures.is s stands in
    record { told = c.tells_level.ensures w (with_change s (Inverted c.args.pin)) outputs around kept; wordless = refl; kept = kept }
