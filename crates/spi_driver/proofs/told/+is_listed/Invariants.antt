-- Each call has one place less.
use Rattle.spi_driver.proofs.told.+is_listed.Given as goal

abbrev pub decreases-is_listed : goal.decreases-is_listed
decreases-is_listed l = l.end
