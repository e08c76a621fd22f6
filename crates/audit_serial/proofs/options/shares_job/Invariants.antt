use Rattle.std.proofs.Common.{◌≡◌, drop}
use Rattle.std.specs.List.{list_any}
use Rattle.spi_machine.specs.Pending.{has_job}
use Rattle.audit_serial.proofs.options.shares_job.Given as goal

abbrev pub invariant-loop-job : goal.invariant-loop-job
invariant-loop-job l = list_any (has_job l.table l.sequence) l.job-items ≡ list_any (has_job l.table l.sequence) (drop l.job-index l.job-items)
