use Rattle.std.proofs.Common.{◌≡◌, drop}
use Rattle.std.specs.List.{list_any}
use Rattle.spi_machine.specs.State.{runs_sequence}
use Rattle.audit_serial.proofs.units.any_runs.Given as goal

abbrev pub invariant-loop-run : goal.invariant-loop-run
invariant-loop-run l = list_any (runs_sequence l.sequence) l.runs ≡ list_any (runs_sequence l.sequence) (drop l.run-index l.runs)
