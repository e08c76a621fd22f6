use Rattle.std.proofs.Common.{◌≡◌, ◌≤◌, ◌*◌, take}
use Rattle.std.specs.Prelude.{sum_by}
use Rattle.spi_machine.specs.Bounds.{job_steps}
use Rattle.spi_machine.proofs.bounds.jobs_steps.Given as goal

abbrev pub invariant-loop-job : goal.invariant-loop-job
invariant-loop-job l = (l.steps ≡ sum_by (job_steps l.table) (take l.job-index l.jobs)) × (l.steps ≤ 16384 * l.job-index)
