-- Each call has one place less.
use Rattle.spi_machine.proofs.table.+place_before.Given as goal

abbrev pub decreases-place_before : goal.decreases-place_before
decreases-place_before l = l.end
