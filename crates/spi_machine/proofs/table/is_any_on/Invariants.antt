use Rattle.std.proofs.Common.{◌≡◌, drop}
use Rattle.std.specs.List.{list_any}
use Rattle.spi_machine.specs.Table.{is_on_unit}
use Rattle.spi_machine.proofs.table.is_any_on.Given as goal

abbrev pub invariant-loop-job : goal.invariant-loop-job
invariant-loop-job l = list_any (is_on_unit l.unit) l.jobs ≡ list_any (is_on_unit l.unit) (drop l.job-index l.jobs)
