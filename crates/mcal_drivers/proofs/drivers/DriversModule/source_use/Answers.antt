use Rattle.mcal_drivers.proofs.Sources.{has_arrays, uses_arrays}
use Rattle.mcal_drivers.proofs.drivers.DriversModule.source_use.Goals as goal

pub returns-clause-there : goal.returns-clause-there
returns-clause-there c = has_arrays c.args.self.now c.args.channel c.source_use.result c.source_use.ensures.there

pub returns-clause-used : goal.returns-clause-used
returns-clause-used c = uses_arrays c.args.self.now c.args.bus.now c.args.channel c.source_use.result c.source_use.ensures.there c.source_use.ensures.used
