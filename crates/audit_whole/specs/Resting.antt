-- All modules as a checker knows them, while no frame is under way.
use Rattle.adc_machine.specs.Table as converter_table
use Rattle.adc_machine.specs.declared.table.AdcTable.{AdcTable}
use Rattle.mcal_base.specs.declared.config.whole.Config.{Config}
use Rattle.spi_machine.specs.Table as serial_table
use Rattle.spi_machine.specs.declared.table.SpiTable.{SpiTable}
use Rattle.audit_base.specs.declared.outside.Outside.{Outside}

-- their configuration, what is kept of them, and what stands outside
pub record Resting (Parts : Type 0) : Type 0 where
  pub config : Config
  pub modules : Parts
  pub outside : Outside

-- what is kept of a configuration's converter groups, and of its serial channels
abbrev pub groups_of : Config → AdcTable
groups_of c = converter_table.table_of c.adc

abbrev pub serials_of : Config → SpiTable
serials_of c = serial_table.table_of c.spi
