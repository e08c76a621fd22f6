-- Each call has one place less.
use Rattle.spi_sequences.proofs.service.serve.Served.+first_internal.Given as goal

abbrev pub decreases-first_internal : goal.decreases-first_internal
decreases-first_internal l = l.count
