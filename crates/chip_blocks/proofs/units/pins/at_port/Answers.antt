-- The moved bits stay within their half.
use Rattle.std.proofs.Common.{arith}
use Rattle.chip_blocks.proofs.of_units.PortLaws.{port-fits}
use Rattle.chip_blocks.proofs.units.pins.at_port.Goals as goal

pub returns : goal.returns
returns c = omega (arith, port-fits c.args.port c.args.bits)
