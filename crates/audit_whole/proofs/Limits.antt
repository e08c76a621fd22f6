-- What is kept of a configuration is within the chip's limits.
use Rattle.std.proofs.Common.{arith}
use Rattle.mcal_base.specs.Layout.{WithinLimits}
use Rattle.mcal_base.specs.declared.config.whole.Config.{Config}
use Rattle.spi_machine.specs.Table.{table_of}
use Rattle.audit_machines.specs.System.{tables_of}
use Rattle.audit_modules.proofs.Rooms.{room}
use Rattle.audit_whole.specs.Whole.{InLimits}

pub in_limits : (c : Config) → WithinLimits c → InLimits (tables_of c (table_of c.spi))
in_limits c limits = record { room = room c limits; channels = omega arith }
