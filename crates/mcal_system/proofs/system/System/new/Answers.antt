use Rattle.std.proofs.Common.{sym, subst}
use Rattle.script_runner.specs.Scripts.{words_given}
use Rattle.chip_model.specs.Chip.{power_on, hung}
use Rattle.mcal_drivers.specs.Drivers.{as_one}
use Rattle.mcal_drivers.specs.declared.drivers.Drivers.{Drivers}
use Rattle.mcal_system.proofs.Carried.{starts}
use Rattle.mcal_drivers.proofs.Limits.{within_limits}
use Rattle.mcal_system.proofs.system.System.new.Goals as goal

pub new-requires-clause-config : goal.new-requires-clause-config
new-requires-clause-config c = within_limits c.args.config c.requires.valid

pub new-requires-clause-fits : goal.new-requires-clause-fits
new-requires-clause-fits c = subst (λ (u : Drivers). (as_one u).fits) (sym c.new-drivers.ensures.is) c.new-drivers.ensures.fits

pub new-requires-clause-wired : goal.new-requires-clause-wired
new-requires-clause-wired c = subst (λ (u : Drivers). (as_one u).wired (hung c.args.devices (power_on c.args.config (words_given c.args.script.now)))) (sym c.new-drivers.ensures.is) (c.new-drivers.ensures.wired (words_given c.args.script.now) c.args.devices)

pub returns : goal.returns
returns c = starts c.args.config c.args.script.now c.args.devices c.new-drivers.result c.in_ok-engine.engine c.new-drivers.ensures.is c.in_ok-engine.ensures.begins
