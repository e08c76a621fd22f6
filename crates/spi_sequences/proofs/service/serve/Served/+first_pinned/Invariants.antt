-- Each call has one place less.
use Rattle.spi_sequences.proofs.service.serve.Served.+first_pinned.Given as goal

abbrev pub decreases-first_pinned : goal.decreases-first_pinned
decreases-first_pinned l = l.count
