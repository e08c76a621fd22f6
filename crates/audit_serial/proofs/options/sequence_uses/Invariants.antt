use Rattle.std.proofs.Common.{◌≡◌, drop}
use Rattle.std.specs.List.{list_any}
use Rattle.spi_machine.specs.Pending.{uses_channel}
use Rattle.audit_serial.proofs.options.sequence_uses.Given as goal

abbrev pub invariant-loop-job : goal.invariant-loop-job
invariant-loop-job l = list_any (uses_channel l.table l.channel) l.job-items ≡ list_any (uses_channel l.table l.channel) (drop l.job-index l.job-items)
