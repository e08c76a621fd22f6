-- Each call has one place less.
use Rattle.spi_machine.proofs.table.+shares_before.Given as goal

abbrev pub decreases-shares_before : goal.decreases-shares_before
decreases-shares_before l = l.end
