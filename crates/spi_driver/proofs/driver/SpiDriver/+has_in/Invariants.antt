-- Each call has one place less.
use Rattle.spi_driver.proofs.driver.SpiDriver.+has_in.Given as goal

abbrev pub decreases-has_in : goal.decreases-has_in
decreases-has_in l = l.end
