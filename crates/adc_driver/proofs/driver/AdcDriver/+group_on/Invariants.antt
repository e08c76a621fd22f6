-- Each call begins at a later number.
use Rattle.std.specs.Prelude.{◌-◌}
use Rattle.adc_driver.proofs.driver.AdcDriver.+group_on.Given as goal

abbrev pub decreases-group_on : goal.decreases-group_on
decreases-group_on l = 16 - l.from
