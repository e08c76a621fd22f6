use Rattle.std.proofs.Common.{◌≡◌, drop, map}
use Rattle.spi_machine.specs.Pending.{is_held}
use Rattle.audit_serial.specs.Words.{pending_as}
use Rattle.audit_serial.proofs.queue.holds.Given as goal

abbrev pub invariant-loop-entry : goal.invariant-loop-entry
invariant-loop-entry l = is_held l.table l.sequence (map pending_as l.entries) ≡ is_held l.table l.sequence (map pending_as (drop l.entry-index l.entries))
