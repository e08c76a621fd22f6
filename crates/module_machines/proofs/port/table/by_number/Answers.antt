use Rattle.std.proofs.Common.{None}
use Rattle.module_machines.specs.port.Table as spec
use Rattle.module_machines.proofs.of_port.ByNumber.{next-made}
use Rattle.module_machines.proofs.port.table.by_number.Goals as goal

pub loop-number-preserved : goal.loop-number-preserved
loop-number-preserved c =
    next-made (λ p. spec.pin_in c.args.pins.now p) None c.find.result c.loop-number.number 64 c.loop-number.found c.loop-number.invariant c.loop-number-test.true c.find.ensures
