use Rattle.trace_promises.proofs.ConfigNumbers.{read_fits}
use Rattle.trace_promises.proofs.ShownNumbers.{shows_fit}
use Rattle.trace_promises.proofs.SystemLines.{system_lines}
use Rattle.trace_promises.proofs.laws.fits_traces.Goals as goal

pub returns : goal.returns
returns c = record { lines = system_lines; rows = shows_fit; configuration = read_fits }
