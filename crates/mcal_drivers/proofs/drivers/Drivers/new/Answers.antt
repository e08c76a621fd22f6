use Rattle.mcal_drivers.proofs.Whole.{system_fits, system_wired}
use Rattle.mcal_drivers.proofs.drivers.Drivers.new.Goals as goal

pub returns-clause-fits : goal.returns-clause-fits
returns-clause-fits c = system_fits c.args.config.now c.requires.valid

pub returns-clause-wired : goal.returns-clause-wired
returns-clause-wired c = λ room devices. system_wired c.args.config.now c.requires.valid devices room
