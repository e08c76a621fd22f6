use Rattle.std.proofs.Common.{subst, sym}
use Rattle.spi_machine.specs.State.{first_state}
use Rattle.audit_serial.specs.Short.{IsShort}
use Rattle.audit_machines.proofs.Valid.{short_channels, short_sections}
use Rattle.audit_machines.proofs.all.Machines+AllModules.new.Goals as goal

pub new-units-requires : goal.new-units-requires
new-units-requires c = subst IsShort (sym c.new.ensures) (short_channels c.args.config.now c.requires)

pub returns-in-Ok-clause-stands : goal.returns-in-Ok-clause-stands
returns-in-Ok-clause-stands c = c.in-Ok.ensures.stands first_state c.new-units.ensures.state

pub after_power_on-requires-clause-short : goal.after_power_on-requires-clause-short
after_power_on-requires-clause-short c = short_sections c.args.config.now c.requires
