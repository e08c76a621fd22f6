use Rattle.chip_blocks.proofs.of_units.BegunLaws.{begun-later}
use Rattle.chip_blocks.proofs.units.serials.SerialBlock.tick.Goals as goal

pub invariant_of-self : goal.invariant_of-self
invariant_of-self c = (c.self.invariant.0, begun-later c.self.inside.time c.args.ticks c.self.inside.units c.self.invariant.1)
