-- What is so of the parts of a run while no frame is under way.
use Rattle.std.specs.Prelude.{◌≡◌, ℕ, List, []}
use Rattle.chip_model.specs.Chip.{Chip}
use Rattle.config_facts.specs.Valid.{IsValid}
use Rattle.mcal_base.specs.declared.config.whole.Config.{Config}
use Rattle.mcal_base.specs.declared.directive.Directive.{Directive}
use Rattle.run_model.specs.Entry.{Entry}
use Rattle.run_model.specs.Legal.{IsLegal}
use Rattle.run_model.specs.Moment.{start_moment}
use Rattle.run_model.specs.Script.{deeds_of}
use Rattle.script_runner.specs.Scripts.{chip_for}
use Rattle.module_machines.specs.declared.icu.table.IcuTable.{IcuTable}
use Rattle.adc_driver.specs.declared.driver.AdcDriver.{AdcDriver}
use Rattle.spi_driver.specs.declared.driver.SpiDriver.{SpiDriver}
use Rattle.mcal_drivers.specs.Drivers.{drivers_of, system}
use Rattle.mcal_drivers.specs.Setting.{system_setting, call_of}
use Rattle.mcal_drivers.proofs.Resting.{Rests}
use Rattle.mcal_system.specs.Runs.{moment_after}

-- The journal is legal, and at its moment no frame is under way: the chip rests, and it agrees with the machines of all modules.
pub record IsResting (config : Config) (script : List Directive) (devices : ℕ) (entries : List Entry) (chip : Chip) : Type 0 where
  pub valid : IsValid config
  pub alone : (moment_after devices config script entries).opens ≡ []
  pub legal : IsLegal (system_setting config) (start_moment (system_setting config) (chip_for devices config script)) (deeds_of call_of script entries)
  pub rests : Rests (system_setting config) (chip_for devices config script) chip (moment_after devices config script entries)
  pub relates : (system config).relates chip (moment_after devices config script entries).world [] (moment_after devices config script entries).state

-- the drivers that are asked are those of the configuration
pub record AreDrivers (config : Config) (captures : IcuTable) (converters : AdcDriver) (serial : SpiDriver) : Type 0 where
  pub captures_are : captures ≡ (drivers_of config).captures
  pub converters_are : converters ≡ (drivers_of config).converters
  pub serial_is : serial ≡ (drivers_of config).serial
