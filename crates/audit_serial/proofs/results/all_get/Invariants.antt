use Rattle.std.proofs.Common.{◌≡◌, drop}
use Rattle.spi_machine.specs.Pending.{all_get}
use Rattle.audit_serial.proofs.results.all_get.Given as goal

abbrev pub invariant-loop-job : goal.invariant-loop-job
invariant-loop-job l = all_get l.name (drop l.job-index l.jobs) l.results.items ≡ all_get l.name l.jobs l.initial.results.items
