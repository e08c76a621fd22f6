use Rattle.std.proofs.Common.{sym, subst}
use Rattle.chip_model.specs.Chip.{power_on, hung}
use Rattle.mcal_drivers.specs.Drivers.{as_one}
use Rattle.mcal_drivers.specs.declared.drivers.Drivers.{Drivers}
use Rattle.mcal_drivers.proofs.Limits.{within_limits}
use Rattle.live_modules.proofs.modules.AllModulesSights.powered.Goals as goal

pub new-requires-clause-config : goal.new-requires-clause-config
new-requires-clause-config c = within_limits c.args.config.now c.requires.valid

pub new-requires-clause-fits : goal.new-requires-clause-fits
new-requires-clause-fits c = subst (λ (u : Drivers). (as_one u).fits) (sym c.new-drivers.ensures.is) c.new-drivers.ensures.fits

pub new-requires-clause-wired : goal.new-requires-clause-wired
new-requires-clause-wired c = subst (λ (u : Drivers). (as_one u).wired (hung c.args.devices (power_on c.args.config.now 65536))) (sym c.new-drivers.ensures.is) (c.new-drivers.ensures.wired 65536 c.args.devices)
