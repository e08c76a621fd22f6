-- The machine that the program is, with the lines of units that have a handler.
use Rattle.spi_machine.specs.Bounds.{is_used}
use Rattle.spi_machine.specs.Machine.{spi_machine}
use Rattle.spi_machine.specs.State.{SpiState}
use Rattle.spi_machine.specs.declared.call.Call.{Call}
use Rattle.spi_machine.specs.declared.table.SpiTable.{SpiTable}
use Rattle.audit_base.specs.Deeds.{Member}

abbrev pub member_of : SpiTable → Member SpiState Call
member_of d = record { machine = spi_machine d; lines = is_used d }
