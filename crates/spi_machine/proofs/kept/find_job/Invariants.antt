use Rattle.std.proofs.Common.{◌≡◌, drop}
use Rattle.spi_machine.specs.Table as spec
use Rattle.spi_machine.proofs.kept.find_job.Given as goal

abbrev pub invariant-loop-job : goal.invariant-loop-job
invariant-loop-job l = spec.job_in l.jobs l.number ≡ spec.job_in (drop l.job-index l.jobs) l.number
