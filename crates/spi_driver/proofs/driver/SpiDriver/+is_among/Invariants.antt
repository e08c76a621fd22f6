-- Each call has one place less.
use Rattle.spi_driver.proofs.driver.SpiDriver.+is_among.Given as goal

abbrev pub decreases-is_among : goal.decreases-is_among
decreases-is_among l = l.end
